-- Layouts (`layout_rows`, `layout_commits`): the width and the rows of given loads, and whether they commit. Assumes nothing.
use Rattle.std.specs.Prelude.{Bool, cond, List, [], ◌∷◌, ℕ, ◌+◌, ◌≤◌, min, max, ltb, eqb, length, get_or, take}
use Rattle.lists.specs.Below.{each_below}
use Rattle.bitmap.specs.Mask.{has_bit, run, run_modulo, nth_row}
use Rattle.rows.specs.Row.{spelled}
use Rattle.refusals.specs.Numbers.{POPULATION, SHARDS, QUORUM, MASK, TABLE}
use Rattle.refusals.specs.First.{Case, unless, first_of}
use Rattle.refusals.specs.Outcome.{Outcome, outcome, written}
use Rattle.refusals.specs.Limits.{most_shards, is_population, is_shards, is_quorum, is_mask, is_table, is_fault_list}
use Rattle.coverage.specs.Coverage.{commits}
use Rattle.layout.specs.declared.TotalShards.{TotalShards}
use Rattle.layout.specs.declared.TotalShards.TheVariants.{Exactly, AtMost}
use Rattle.layout.specs.declared.Trial.{Trial}

-- ---- the width

-- data shards and a width, or its ceiling, that have been tested
abbrev pub Fit : ℕ → ℕ → Type 0
Fit d w = (1 ≤ d) × (d ≤ w) × (w ≤ most_shards)

-- the exact width, or its ceiling
abbrev pub bound : TotalShards → ℕ
bound (Exactly w) = w
bound (AtMost w) = w

-- the part of a load that is dealt: all of it if it is below d
abbrev pub dealt : ℕ → ℕ → ℕ
dealt d k = cond (ltb k d) k 0

-- the loads below d, summed
abbrev pub partial : ℕ → List ℕ → ℕ
partial d [] = 0
partial d (k ∷ ks) = dealt d k + partial d ks

-- an exact width is used as given; a ceiling gives min(max(sum, d), ceiling)
abbrev pub width_for : ℕ → TotalShards → ℕ → ℕ
width_for d (Exactly w) sum = w
width_for d (AtMost w) sum = min (max sum d) w

unfoldable pub width_of : ℕ → TotalShards → List ℕ → ℕ
width_of d total loads = width_for d total (partial d loads)

-- ---- the rows

-- a load of at least d gets the shards 0 to d - 1, another that many from the offset on, modulo the width
unfoldable pub row_for : ℕ → ℕ → ℕ → ℕ → ℕ
row_for d w offset k = cond (ltb k d) (run_modulo w offset k) (run 0 d)

-- the row of s: what was dealt to those before it is the offset
abbrev pub row_at : ℕ → ℕ → List ℕ → ℕ → ℕ
row_at d w loads s = row_for d w (partial d (take s loads)) (get_or loads s 0)

unfoldable pub rows_of : ℕ → TotalShards → List ℕ → List ℕ
rows_of d total loads = each_below (row_at d (width_of d total loads) loads) (length loads)

-- ---- the test

-- the layout commits: at least a quorum answers, and coverage holds
unfoldable pub layout_commits : ℕ → ℕ → ℕ → TotalShards → ℕ → List ℕ → List ℕ → Bool
layout_commits n quorum d total answered faults loads = commits n quorum d answered (nth_row (rows_of d total loads)) faults

-- a replica that does not answer has load 0, whatever stands in its place
abbrev pub heard_load : ℕ → List ℕ → ℕ → ℕ
heard_load answered loads s = cond (has_bit answered s) (get_or loads s 0) 0

unfoldable pub heard_loads : ℕ → List ℕ → List ℕ
heard_loads answered loads = each_below (heard_load answered loads) (length loads)

-- ---- the entries

abbrev pub rows_cases : ℕ → ℕ → TotalShards → ℕ → ℕ → List Case
rows_cases n d total loads rows =
    unless (is_population n) POPULATION
    ∷ unless (is_shards d (bound total)) SHARDS
    ∷ unless (eqb loads n) TABLE
    ∷ unless (is_table n rows) TABLE
    ∷ []

-- of the lengths of the two tables
unfoldable pub rows_refusal : ℕ → ℕ → TotalShards → ℕ → ℕ → ℕ
rows_refusal n d total loads rows = first_of (rows_cases n d total loads rows)

abbrev pub commits_cases : ℕ → ℕ → ℕ → TotalShards → ℕ → ℕ → List ℕ → ℕ → List Case
commits_cases n quorum d total answered loads faults rows =
    unless (is_population n) POPULATION
    ∷ unless (is_shards d (bound total)) SHARDS
    ∷ unless (is_quorum n quorum) QUORUM
    ∷ unless (is_mask n answered) MASK
    ∷ unless (eqb loads n) TABLE
    ∷ unless (is_fault_list n faults) TABLE
    ∷ unless (is_table n rows) TABLE
    ∷ []

unfoldable pub commits_refusal : ℕ → ℕ → ℕ → TotalShards → ℕ → ℕ → List ℕ → ℕ → ℕ
commits_refusal n quorum d total answered loads faults rows = first_of (commits_cases n quorum d total answered loads faults rows)

-- what a test says: the width, and whether the layout commits
abbrev pub tested : Trial → ℕ × Bool
tested t = (t.width, t.commits)

unfoldable pub layout_rows_of : ℕ → ℕ → TotalShards → List ℕ → ℕ → Outcome ℕ
layout_rows_of n d total loads rows = outcome (rows_refusal n d total (length loads) rows) (width_of d total loads)

-- the table at exit
unfoldable pub rows_written : ℕ → ℕ → TotalShards → List ℕ → List ℕ → List ℕ
rows_written n d total loads rows = written (rows_refusal n d total (length loads) (length rows)) (spelled (rows_of d total loads)) rows

module _ (n quorum d : ℕ) (total : TotalShards) (answered : ℕ) (loads faults : List ℕ) where
  abbrev heard : List ℕ
  heard = heard_loads answered loads

  unfoldable pub layout_commits_of : ℕ → Outcome (ℕ × Bool)
  layout_commits_of rows =
      outcome (commits_refusal n quorum d total answered (length loads) faults rows) (width_of d total heard, layout_commits n quorum d total answered faults heard)

  -- the table at exit, also where it does not commit
  unfoldable pub trial_written : List ℕ → List ℕ
  trial_written rows = written (commits_refusal n quorum d total answered (length loads) faults (length rows)) (spelled (rows_of d total heard)) rows
