-- The bounds of the port, as tests. Assumes nothing.
use Rattle.std.specs.Prelude.{◌≡◌, ℕ, ◌*◌, ◌^◌, ◌<◌, Bool, not, ◌&&◌, List, leb, ltb, eqb, length}
use Rattle.std.specs.List.{list_all}
use Rattle.lists.specs.Below.{some_below}
use Rattle.bitmap.specs.Mask.{is_below, all_below}
use Rattle.rows.specs.Row.{rows_in}

-- population: 1 to 16
unfoldable pub is_population : ℕ → Bool
is_population n = leb 1 n && leb n 16

-- fault tolerance: 0 to n - 1
abbrev pub is_tolerance : ℕ → ℕ → Bool
is_tolerance n f = ltb f n

-- a replica's number: below n
abbrev pub is_replica : ℕ → ℕ → Bool
is_replica n s = ltb s n

-- the most shards that a value is cut into
abbrev pub most_shards : ℕ
most_shards = 255

-- data shards: 1 to that; width, or its ceiling: d to that
unfoldable pub is_shards : ℕ → ℕ → Bool
is_shards d w = leb 1 d && (leb d w && leb w most_shards)

-- quorum and majority: 1 to n
unfoldable pub is_quorum : ℕ → ℕ → Bool
is_quorum n q = leb 1 q && leb q n

-- the size of a value: at most 2 ^ 30 bytes
abbrev pub is_size : ℕ → Bool
is_size bytes = leb bytes (2 ^ 30)

-- bytes in flight to a peer: at most 2 ^ 40
abbrev pub is_in_flight : ℕ → Bool
is_in_flight bytes = leb bytes (2 ^ 40)

-- p is a peer, and too many bytes are in flight to it; to our own number they are unread
abbrev pub is_overfull : ℕ → ℕ → ℕ → Bool
is_overfull own p bytes = not (eqb p own) && not (is_in_flight bytes)

-- that is so of none of n replicas, of the bytes in flight to each
unfoldable pub peers_fit : ℕ → ℕ → (ℕ → ℕ) → Bool
peers_fit n own bytes = not (some_below (λ (p : ℕ). is_overfull own p (bytes p)) n)

-- f gives the value that `value` has, at each number below n; `given p r` says that it may give r at p
abbrev pub GivesBelow : (ℕ → ℕ → Type 0) → ℕ → (ℕ → ℕ) → Type 0
GivesBelow given n value = (p r : ℕ) → p < n → given p r → r ≡ value p

-- a mask with no replica at or above n
abbrev pub is_mask : ℕ → ℕ → Bool
is_mask n m = is_below n m

-- a row with no shard at or above w
abbrev pub is_row : ℕ → ℕ → Bool
is_row w row = is_below w row

-- a lent table of such rows; a last one that is not whole is tested too
abbrev pub are_rows : ℕ → List ℕ → Bool
are_rows w table = list_all (is_row w) (rows_in table)

-- a lent table of n rows, four words a row
abbrev pub is_table : ℕ → ℕ → Bool
is_table n words = eqb words (n * 4)

-- a set of some of n replicas, and not of all
abbrev pub is_fault_set : ℕ → ℕ → Bool
is_fault_set n f = is_mask n f && not (eqb f (all_below n))

-- some sets, and each of them such a one
unfoldable pub is_fault_list : ℕ → List ℕ → Bool
is_fault_list n faults = not (eqb (length faults) 0) && list_all (is_fault_set n) faults

-- a part of these: a mask below a limit, as a number
abbrev pub is_under : ℕ → ℕ → Bool
is_under limit m = ltb m limit
