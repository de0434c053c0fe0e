-- Tables by replica, as they cross the C interface. Assumes nothing.
use Rattle.std.specs.Prelude.{Bool, cond, List, ℕ, ◌+◌, ◌*◌, eqb, Float, get_or}
use Rattle.lists.specs.Below.{each_below}
use Rattle.bitmap.specs.Mask.{has_bit}
use Rattle.floats.specs.Floats.{plus_zero}
use Rattle.times.specs.declared.Peer.TheVariants.{Silent, Heard}
use Rattle.times.specs.declared.PeerRecord.{PeerRecord}

-- a table of that many words has so many for each of n replicas
abbrev pub is_records : ℕ → ℕ → ℕ → Bool
is_records len each n = eqb len (n * each)

-- what a table lacks is 0
abbrev pub float_at : List Float → ℕ → Float
float_at xs i = get_or xs i plus_zero

-- slope, delay, jitter and unreliability of the replica p are at p × 4 and after
abbrev pub peer_at : ℕ → List Float → List ℕ → ℕ → PeerRecord
peer_at heard models inflight p = record {
  peer = cond (has_bit heard p) (Heard (float_at models (p * 4)) (float_at models (p * 4 + 1)) (float_at models (p * 4 + 2)) (float_at models (p * 4 + 3))) Silent;
  inflight = get_or inflight p 0;
}

unfoldable pub from_peers : ℕ → List Float → List ℕ → List PeerRecord
from_peers heard models inflight = each_below (peer_at heard models inflight) 16
