-- Plans (`pick_assignment`) and full copies (`full_copies`). Assumes nothing.
use Rattle.std.specs.Prelude.{cond, List, [], ◌∷◌, ◌++◌, ℕ, Float, length, get_or, replicate}
use Rattle.std.specs.Prelude.{Option, None, Some}
use Rattle.bitmap.specs.Mask.{run}
use Rattle.rows.specs.Row.{rows_in, spelled}
use Rattle.refusals.specs.Numbers.{POPULATION, REPLICA, SHARDS, QUORUM, BYTES, TABLE, TRIMMED}
use Rattle.refusals.specs.First.{Case, unless, first_of}
use Rattle.refusals.specs.Outcome.{Outcome, refused, accepted, checked, outcome, written}
use Rattle.refusals.specs.Limits.{is_population, is_replica, is_shards, is_quorum, is_size, peers_fit, is_table, is_fault_list}
use Rattle.layout.specs.declared.TotalShards.{TotalShards}
use Rattle.layout.specs.declared.TotalShards.TheVariants.{Exactly, AtMost}
use Rattle.layout.specs.Layout.{bound, width_of, rows_of, layout_commits}
use Rattle.times.specs.declared.PeerRecord.{PeerRecord}
use Rattle.times.specs.Times.{silent, shard_length, times_of}
use Rattle.trimming.specs.Order.{trim_order}
use Rattle.trimming.specs.Trimming.{trimmed}
use Rattle.candidates.specs.Search.{answered_at, loads_at, first_time}
use Rattle.assignment.specs.declared.Plan as Coded

-- a plan: its time, its width, and a row for each replica
pub record Plan : Type 0 where
  pub time : Float
  pub width : ℕ
  pub rows : List ℕ

-- the result of trimmed loads at the time t: laid out and tested once more
abbrev pub laid_out : ℕ → ℕ → ℕ → TotalShards → List ℕ → ℕ → Float → List ℕ → Outcome (Option Plan)
laid_out n quorum d total faults answered t loads =
    cond (layout_commits n quorum d total answered faults loads)
    (accepted (Some (record { time = t; width = width_of d total loads; rows = rows_of d total loads })))
    (refused TRIMMED)

-- ---- the plan of a table of times
module _ (n own quorum d : ℕ) (total : TotalShards) (faults : List ℕ) (times : List Float) where
  -- the loads of a time, trimmed
  unfoldable pub loads_for : Float → List ℕ
  loads_for t = trimmed (layout_commits n quorum d total (answered_at own d times t n) faults) (trim_order n own d times) (loads_at own d times t n)

  abbrev pub plan_at : Option Float → Outcome (Option Plan)
  plan_at None = accepted None
  plan_at (Some t) = laid_out n quorum d total faults (answered_at own d times t n) t (loads_for t)

  unfoldable pub plan_of : Outcome (Option Plan)
  plan_of = plan_at (first_time n own quorum d total faults times)

-- ---- the entries

-- the bytes in flight to each replica
abbrev pub in_flight : List PeerRecord → ℕ → ℕ
in_flight peers p = (get_or peers p silent).inflight

-- of the numbers
abbrev pub pick_input_cases : ℕ → ℕ → ℕ → ℕ → TotalShards → ℕ → List PeerRecord → List Case
pick_input_cases n own quorum d total size peers =
    unless (is_population n) POPULATION
    ∷ unless (is_replica n own) REPLICA
    ∷ unless (is_shards d (bound total)) SHARDS
    ∷ unless (is_quorum n quorum) QUORUM
    ∷ unless (is_size size) BYTES
    ∷ unless (peers_fit n own (in_flight peers)) BYTES
    ∷ []

-- of the fault list and the lent table of so many rows
abbrev pub pick_table_cases : ℕ → List ℕ → ℕ → List Case
pick_table_cases n faults rows = unless (is_fault_list n faults) TABLE ∷ unless (is_table n rows) TABLE ∷ []

abbrev pub pick_cases : ℕ → ℕ → ℕ → ℕ → TotalShards → ℕ → List PeerRecord → List ℕ → ℕ → List Case
pick_cases n own quorum d total size peers faults rows = pick_input_cases n own quorum d total size peers ++ pick_table_cases n faults rows

unfoldable pub pick_refusal : ℕ → ℕ → ℕ → ℕ → TotalShards → ℕ → List PeerRecord → List ℕ → ℕ → ℕ
pick_refusal n own quorum d total size peers faults rows = first_of (pick_cases n own quorum d total size peers faults rows)

-- what an answer is, with the rows of the lent table: no plan, or a plan
abbrev pub picked : List ℕ → Option Coded.Plan → Option Plan
picked rows None = None
picked rows (Some p) = Some (record { time = p.time; width = p.width; rows = rows_in rows })

unfoldable pub pick_of : ℕ → ℕ → ℕ → ℕ → TotalShards → ℕ → List PeerRecord → Float → List ℕ → ℕ → Outcome (Option Plan)
pick_of n own quorum d total size peers penalty faults rows =
    checked (pick_refusal n own quorum d total size peers faults rows)
    (plan_of n own quorum d total faults (times_of n own d (shard_length size d) peers penalty))

-- the table at exit: a plan's rows, and else what it held
abbrev pub planned : Outcome (Option Plan) → List ℕ → List ℕ
planned (refused k) before = before
planned (accepted None) before = before
planned (accepted (Some p)) before = spelled p.rows

-- ---- full copies

abbrev pub copies_cases : ℕ → ℕ → TotalShards → ℕ → List Case
copies_cases n d total rows = unless (is_population n) POPULATION ∷ unless (is_shards d (bound total)) SHARDS ∷ unless (is_table n rows) TABLE ∷ []

unfoldable pub copies_refusal : ℕ → ℕ → TotalShards → ℕ → ℕ
copies_refusal n d total rows = first_of (copies_cases n d total rows)

-- the width d under a ceiling, else the exact width
abbrev pub copies_width : ℕ → TotalShards → ℕ
copies_width d (Exactly w) = w
copies_width d (AtMost w) = d

unfoldable pub full_copies_of : ℕ → ℕ → TotalShards → ℕ → Outcome ℕ
full_copies_of n d total rows = outcome (copies_refusal n d total rows) (copies_width d total)

-- all data shards for each replica
unfoldable pub copies_written : ℕ → ℕ → TotalShards → List ℕ → List ℕ
copies_written n d total rows = written (copies_refusal n d total (length rows)) (spelled (replicate n (run 0 d))) rows
