-- The steps that an adaptive choice is made of: more and more shards a replica, and fewer and fewer replicas to hear from. Assumes nothing.
use Rattle.std.specs.Prelude.{cond, List, ℕ, suc, ◌+◌, ◌-◌, ◌*◌, ◌/◌, ltb, Float, get_or}
use Rattle.lists.specs.Below.{each_below}
use Rattle.lists.specs.First.{least_up_to}
use Rattle.lists.specs.Sort.{sorted_by}
use Rattle.floats.specs.Floats.{plus_zero, total_le}
use Rattle.times.specs.declared.PerfModel.{PerfModel}
use Rattle.times.specs.Times.{never, predict_of}

-- ---- the peers' times, alive or not

-- the j-th of the peers, by rising number: all replicas but our own
abbrev pub peer_at : ℕ → ℕ → ℕ
peer_at own j = cond (ltb j own) j (suc j)

-- the bytes in flight to a replica
abbrev pub in_flight : List ℕ → ℕ → ℕ
in_flight inflight p = get_or inflight p 0

-- the model of a replica that a list lacks
abbrev pub still : PerfModel
still = record { slope = plus_zero; delay = plus_zero; jitter = plus_zero }

-- a peer's model's time alone, for bytes in flight + load
abbrev pub peer_time : ℕ → List ℕ → List PerfModel → ℕ → Float
peer_time load inflight models p = predict_of (get_or models p still) (in_flight inflight p + load)

-- of so many peers
unfoldable pub peer_times : ℕ → ℕ → ℕ → List ℕ → List PerfModel → List Float
peer_times m own load inflight models = each_below (λ (j : ℕ). peer_time load inflight models (peer_at own j)) m

-- the (q - 1)-th least of the n - 1 peers' times in total order, infinity if missing, 0 if q is below 2
unfoldable pub step_time : ℕ → ℕ → ℕ → ℕ → List ℕ → List PerfModel → Float
step_time n own q load inflight models = cond (ltb q 2) plus_zero (get_or (sorted_by total_le (peer_times (n - 1) own load inflight models)) (q - 2) never)

-- ---- the steps

-- step i has (i + 1) × (d / majority) shards a replica
abbrev pub step_shards : ℕ → ℕ → ℕ → ℕ
step_shards d majority i = (i + 1) * (d / majority)

-- and there are steps from 0 on while that is at most d (`steps_means`)
abbrev pub steps : ℕ → ℕ → ℕ
steps d majority = d / (d / majority)

-- it waits for majority + f - i replicas
abbrev pub step_quorum : ℕ → ℕ → ℕ → ℕ
step_quorum majority f i = majority + f - i

-- a shard is counted as size / d bytes, rounded down, + 1
abbrev pub step_length : ℕ → ℕ → ℕ
step_length size d = size / d + 1

-- each with the load of its shards
unfoldable pub time_of_step : ℕ → ℕ → ℕ → ℕ → ℕ → ℕ → List ℕ → List PerfModel → ℕ → Float
time_of_step n f own d majority size inflight models i =
    step_time n own (step_quorum majority f i) (step_length size d * step_shards d majority i) inflight models

-- the first least step
unfoldable pub best_step : ℕ → ℕ → ℕ → ℕ → ℕ → ℕ → List ℕ → List PerfModel → ℕ
best_step n f own d majority size inflight models = (least_up_to total_le (time_of_step n f own d majority size inflight models) (steps d majority - 1)).0
