-- The search of a plan over the table of times. Assumes nothing.
use Rattle.std.specs.Prelude.{Bool, cond, List, ℕ, suc, ◌-◌, ltb, eqb, Float}
use Rattle.std.specs.Prelude.{Option}
use Rattle.std.specs.Float.Ieee.{le}
use Rattle.std.specs.List.{filter}
use Rattle.lists.specs.Below.{run_of, each_below}
use Rattle.lists.specs.First.{first_that}
use Rattle.lists.specs.Sort.{sorted_by}
use Rattle.bitmap.specs.Mask.{mask_below}
use Rattle.floats.specs.Floats.{is_finite, total_le}
use Rattle.layout.specs.declared.TotalShards.{TotalShards}
use Rattle.layout.specs.Layout.{layout_commits}
use Rattle.times.specs.Times.{time_in}

-- ---- candidates

-- all finite times
abbrev pub candidates : List Float → List Float
candidates times = filter is_finite times

-- ---- loads at a time

module _ (own d : ℕ) (times : List Float) (t : Float) where
  -- with k shards p replies by the time t: at most t as numbers
  abbrev pub in_time : ℕ → ℕ → Bool
  in_time p k = le (time_in d times p k) t

  -- how many loads, from 0 on in an unbroken run, are in time; our own are all
  unfoldable pub run_at : ℕ → ℕ
  run_at p = cond (eqb p own) (suc d) (run_of (in_time p) (suc d))

  -- no run, no answer
  abbrev pub answers : ℕ → Bool
  answers p = ltb 0 (run_at p)

  -- the last load of the run
  abbrev pub load_at : ℕ → ℕ
  load_at p = run_at p - 1

  unfoldable pub answered_at : ℕ → ℕ
  answered_at n = mask_below answers n

  unfoldable pub loads_at : ℕ → List ℕ
  loads_at n = each_below load_at n

-- ---- the first time that commits
module _ (n own quorum d : ℕ) (total : TotalShards) (faults : List ℕ) (times : List Float) where
  -- the layout of the loads at t commits
  unfoldable pub commits_at : Float → Bool
  commits_at t = layout_commits n quorum d total (answered_at own d times t n) faults (loads_at own d times t n)

  -- the first candidate, in total order, at which it does
  unfoldable pub first_time : Option Float
  first_time = first_that commits_at (sorted_by total_le (candidates times))
