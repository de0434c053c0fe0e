-- Predicted reply times, in binary64, rounded at each operation, left to right. Assumes nothing.
use Rattle.std.specs.Prelude.{ℕ, suc, ◌+◌, ◌-◌, ◌*◌, ◌/◌, ◌%◌, ◌^◌, ◌<◌, ◌≤◌, max, Bool, false, cond, List, pos, ◌==◌, ◌≢◌, slice_index_or, Float}
use Rattle.std.specs.Float.{inf, fin, binary64}
use Rattle.std.specs.Float.Ieee.{add, mul, div, of_int}
use Rattle.lists.specs.Below.{each_below}
use Rattle.refusals.specs.Limits.{most_shards}
use Rattle.floats.specs.Floats.{plus_zero, is_finite}
use Rattle.times.specs.declared.PerfModel.{PerfModel}
use Rattle.times.specs.declared.Peer.{Peer}
use Rattle.times.specs.declared.Peer.TheVariants.{Silent, Heard}
use Rattle.times.specs.declared.PeerRecord.{PeerRecord}

-- the most times in a table: of 16 replicas at the loads 0 to the most shards
abbrev pub most_times : ℕ
most_times = 16 * suc most_shards

-- a MiB, 1048576
abbrev pub mebibyte : Float
mebibyte = fin false 1 (pos 20)

-- silence, as a time
abbrev pub never : Float
never = inf false

-- slope × (x / 1048576) + delay + jitter
unfoldable pub predict_of : PerfModel → ℕ → Float
predict_of m x = add binary64 (add binary64 (mul binary64 m.slope (div binary64 (of_int binary64 (pos x)) mebibyte)) m.delay) m.jitter

-- ---- models as numbers: slope, delay and jitter of the replica p are at p × 3; what a list lacks is 0
abbrev pub model_in : List Float → ℕ → PerfModel
model_in numbers p = record {
  slope = slice_index_or numbers (p * 3) plus_zero;
  delay = slice_index_or numbers (p * 3 + 1) plus_zero;
  jitter = slice_index_or numbers (p * 3 + 2) plus_zero;
}

unfoldable pub models_in : List Float → List PerfModel
models_in numbers = each_below (model_in numbers) 16

-- a time that is not finite counts as silence
unfoldable pub settled : Float → Float
settled t = cond (is_finite t) t never

-- that of the model, + unreliability × penalty
unfoldable pub reply_time : Peer → ℕ → Float → Float
reply_time Silent x penalty = never
reply_time (Heard slope delay jitter unreliability) x penalty =
    settled (add binary64 (predict_of (record { slope = slope; delay = delay; jitter = jitter }) x) (mul binary64 unreliability penalty))

-- a replica's time with k shards: x = bytes in flight + k × shard length; our own is +0, its record unread
unfoldable pub time_at : Bool → PeerRecord → ℕ → ℕ → Float → Float
time_at own r k len penalty = cond own plus_zero (reply_time r.peer (r.inflight + k * len) penalty)

-- max(1, size / d rounded up)
unfoldable pub shard_length : ℕ → ℕ → ℕ
shard_length size d = max 1 ((size + d - 1) / d)

-- the record of a replica that a list lacks
abbrev pub silent : PeerRecord
silent = record { peer = Silent; inflight = 0 }

-- ---- the times of all n replicas at the loads 0 to d, in one list: that of the replica p with k shards is at p × (d + 1) + k
module _ (own d len : ℕ) (records : List PeerRecord) (penalty : Float) where
  abbrev pub time_of : ℕ → ℕ → Float
  time_of p k = time_at (p == own) (slice_index_or records p silent) k len penalty

  abbrev pub cell : ℕ → Float
  cell i = time_of (i / suc d) (i % suc d)

unfoldable pub times_of : ℕ → ℕ → ℕ → ℕ → List PeerRecord → Float → List Float
times_of n own d len records penalty = each_below (cell own d len records penalty) (n * suc d)

-- the time of p with k shards, read off such a list
abbrev pub time_in : ℕ → List Float → ℕ → ℕ → Float
time_in d times p k = slice_index_or times (p * suc d + k) never

-- ---- what has been tested of the records

-- at most 2 ^ 40 bytes in flight
abbrev pub InBounds : PeerRecord → Type 0
InBounds r = r.inflight ≤ 2 ^ 40

-- for each peer
abbrev pub PeersInBounds : ℕ → ℕ → List PeerRecord → Type 0
PeersInBounds n own records = (p : ℕ) → p < n → (p ≢ own) → InBounds (slice_index_or records p silent)
