-- The commit rule (`covers`) and the discard rule (`survived_by`). Assumes nothing.
use Rattle.std.specs.Prelude.{Bool, cond, not, ◌&&◌, List, [], ◌∷◌, ℕ, zero, suc, ◌^◌, ◌<◌, leb, eqb, length}
use Rattle.std.specs.Int.Bits.{bit_or}
use Rattle.std.specs.List.{list_all, list_any}
use Rattle.bitmap.specs.Mask.{has_bit, all_below, count}
use Rattle.rows.specs.Row.{row_in}
use Rattle.refusals.specs.Numbers.{POPULATION, SHARDS, MASK, TABLE}
use Rattle.refusals.specs.First.{Case, unless, first_of}
use Rattle.refusals.specs.Outcome.{Outcome, outcome}
use Rattle.refusals.specs.Limits.{is_population, is_shards, is_mask, are_rows, is_table, is_fault_list}

-- ---- coverage

-- the row of s where s is heard and not in the set `fault`; else no shard
abbrev pub share_of : (ℕ → ℕ) → ℕ → ℕ → ℕ → ℕ
share_of row heard fault s = cond (has_bit heard s && not (has_bit fault s)) (row s) 0

-- the shards that the heard replicas below n outside the set hold. A row is a number of any width
unfoldable pub union_of : (ℕ → ℕ) → ℕ → ℕ → ℕ → ℕ
union_of row heard fault zero = 0
union_of row heard fault (suc s) = bit_or (union_of row heard fault s) (share_of row heard fault s)

-- at least d distinct shards are left where the set is taken away
unfoldable pub leaves : ℕ → ℕ → ℕ → (ℕ → ℕ) → ℕ → Bool
leaves n d heard row fault = leb d (count (union_of row heard fault n))

-- the rows of the replicas below n have no shard at or above w
abbrev pub RowsBelow : ℕ → ℕ → (ℕ → ℕ) → Type 0
RowsBelow n w row = (s : ℕ) → s < n → row s < 2 ^ w

-- nobody heard never covers; otherwise each listed set, taken away, must leave at least d distinct shards
unfoldable pub is_covered : ℕ → ℕ → ℕ → (ℕ → ℕ) → List ℕ → Bool
is_covered n d heard row faults = not (eqb heard 0) && list_all (leaves n d heard row) faults

-- at least a quorum is heard, and coverage holds
unfoldable pub commits : ℕ → ℕ → ℕ → ℕ → (ℕ → ℕ) → List ℕ → Bool
commits n quorum d heard row faults = leb quorum (count heard) && is_covered n d heard row faults

abbrev pub covers_cases : ℕ → ℕ → ℕ → ℕ → List ℕ → List ℕ → List Case
covers_cases n d w heard rows faults =
    unless (is_population n) POPULATION
    ∷ unless (is_shards d w) SHARDS
    ∷ unless (are_rows w rows) MASK
    ∷ unless (is_mask n heard) MASK
    ∷ unless (is_table n (length rows)) TABLE
    ∷ unless (is_fault_list n faults) TABLE
    ∷ []

unfoldable pub covers_refusal : ℕ → ℕ → ℕ → ℕ → List ℕ → List ℕ → ℕ
covers_refusal n d w heard rows faults = first_of (covers_cases n d w heard rows faults)

unfoldable pub covers_of : ℕ → ℕ → ℕ → ℕ → List ℕ → List ℕ → Outcome Bool
covers_of n d w heard rows faults = outcome (covers_refusal n d w heard rows faults) (is_covered n d heard (row_in rows) faults)

-- ---- survival

-- the set and those heard make up the whole
abbrev pub completes : ℕ → ℕ → ℕ → Bool
completes heard whole f = eqb (bit_or f heard) whole

-- the set contains every one of n replicas that is not heard
abbrev pub spares : ℕ → ℕ → ℕ → Bool
spares n heard f = completes heard (all_below n) f

-- some listed set does
abbrev pub is_survived : ℕ → ℕ → List ℕ → Bool
is_survived n heard faults = list_any (spares n heard) faults

abbrev pub survived_cases : ℕ → ℕ → List ℕ → List Case
survived_cases n heard faults = unless (is_population n) POPULATION ∷ unless (is_mask n heard) MASK ∷ unless (is_fault_list n faults) TABLE ∷ []

unfoldable pub survived_refusal : ℕ → ℕ → List ℕ → ℕ
survived_refusal n heard faults = first_of (survived_cases n heard faults)

unfoldable pub survived_of : ℕ → ℕ → List ℕ → Outcome Bool
survived_of n heard faults = outcome (survived_refusal n heard faults) (is_survived n heard faults)
