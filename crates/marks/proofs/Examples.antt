-- Worked tables of two words, computed by the checker. Assumes nothing.
use mathlib.Core.Path.{◌≡◌, refl}
use mathlib.Core.Bool.{true, false}
use mathlib.Core.List.{List, [], ◌∷◌, map}
use Prim.Native.Nat.{ℕ}
use Rattle.marks.specs.Marks.{flagged, with_flag}

-- the sets 63 and 65, and then 64 too
table : List ℕ
unfolding with_flag
table = with_flag (0x8000_0000_0000_0000 ∷ 0b10 ∷ []) 64

words : table ≡ 0x8000_0000_0000_0000 ∷ 0b11 ∷ []
unfolding table with_flag
words = refl

-- past the last word, at 128, no set is flagged
flags : map (flagged table) (1 ∷ 63 ∷ 64 ∷ 65 ∷ 66 ∷ 128 ∷ []) ≡ false ∷ true ∷ true ∷ true ∷ false ∷ false ∷ []
unfolding table with_flag flagged
flags = refl
