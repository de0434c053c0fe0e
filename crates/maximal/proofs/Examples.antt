-- Worked values of the definitions, computed by the checker. Assumes nothing.
use mathlib.Core.Path.{◌≡◌, refl}
use mathlib.Core.List.{[], ◌∷◌}
use mathlib.Core.Bool.{Bool, true, false, ◌||◌}
use Prim.Native.Nat.{ℕ}
use lib.Dec.{eqb}
use Rattle.bitmap.specs.Mask.{count}
use Rattle.lists.specs.Below.{some_below, those_below, front}
use Rattle.marks.specs.Marks.{flagged}
use Rattle.maximal.specs.Maximal.{is_part, is_beyond, is_covered_by, is_maximal, maximals}

-- exactly one of three replicas
single : ℕ → Bool
single m = eqb (count m) 1

-- each alone; with {0, 1} added, which covers two of them; the empty set alone; every set; no set
families :
    maximals single 3 ∷ maximals (λ (m : ℕ). eqb m 0b011 || single m) 3 ∷ maximals (λ (m : ℕ). eqb m 0) 3 ∷ maximals (λ (m : ℕ). true) 3
    ∷ maximals (λ (m : ℕ). false) 3 ∷ []
    ≡ (0b001 ∷ 0b010 ∷ 0b100 ∷ []) ∷ (0b011 ∷ 0b100 ∷ []) ∷ (0 ∷ []) ∷ (0b111 ∷ []) ∷ [] ∷ []
unfolding single maximals is_maximal is_covered_by is_beyond is_part those_below some_below count
families = refl

-- the same from a table of bits, the sets 1 to 4, written to a list of five words: the last three are as they were
table : front (maximals (flagged (0b11110 ∷ [])) 3) (60 ∷ 61 ∷ 62 ∷ 63 ∷ 64 ∷ []) ≡ 0b011 ∷ 0b100 ∷ 62 ∷ 63 ∷ 64 ∷ []
unfolding front flagged maximals is_maximal is_covered_by is_beyond is_part those_below some_below
table = refl
