-- A text is a list of bytes: what refuses one, its blanks, and its parts between separators. Assumes nothing.
use Rattle.std.specs.Prelude.{Bool, true, false, cond, ◌&&◌, ◌||◌, List, [], ◌∷◌, reverse, ℕ, suc, ◌+◌, leb, ltb, eqb, length, take, drop}
use Rattle.std.specs.List.{list_all, list_any}

-- a byte below 128
abbrev pub is_ascii : ℕ → Bool
is_ascii b = ltb b 128

-- at most so many bytes, all below 128
unfoldable pub is_text : ℕ → List ℕ → Bool
is_text most s = leb (length s) most && list_all is_ascii s

-- no byte at all
abbrev pub is_empty : List ℕ → Bool
is_empty s = eqb (length s) 0

-- the same bytes
unfoldable pub is_same : List ℕ → List ℕ → Bool
is_same [] [] = true
is_same [] (y ∷ ys) = false
is_same (x ∷ xs) [] = false
is_same (x ∷ xs) (y ∷ ys) = eqb x y && is_same xs ys

-- ---- blanks

-- the bytes 9 to 13, and 32
abbrev pub is_blank : ℕ → Bool
is_blank b = (leb 9 b && leb b 13) || eqb b 32

-- without the blanks at its start
unfoldable pub trim_start : List ℕ → List ℕ
trim_start [] = []
trim_start (b ∷ bs) = cond (is_blank b) (trim_start bs) (b ∷ bs)

-- without the blanks at its end
unfoldable pub trim_end : List ℕ → List ℕ
trim_end s = reverse (trim_start (reverse s))

-- without either
unfoldable pub trim : List ℕ → List ℕ
trim s = trim_end (trim_start s)

-- ---- parts

-- without its first byte, where that passes a test
unfoldable pub without : (ℕ → Bool) → List ℕ → List ℕ
without p [] = []
without p (b ∷ bs) = cond (p b) bs (b ∷ bs)

-- how many bytes stand before the first that passes a test: all of them where none does
unfoldable pub cut_by : (ℕ → Bool) → List ℕ → ℕ
cut_by p [] = 0
cut_by p (b ∷ bs) = cond (p b) 0 (suc (cut_by p bs))

-- the byte x
abbrev pub is_byte : ℕ → ℕ → Bool
is_byte x b = eqb b x

-- how many bytes stand before the first x
abbrev pub cut : ℕ → List ℕ → ℕ
cut x s = cut_by (is_byte x) s

-- x stands in it
abbrev pub has_byte : ℕ → List ℕ → Bool
has_byte x s = list_any (is_byte x) s

-- what stands before the first x, and what stands after it: all of it, and nothing, where there is none
abbrev pub before : ℕ → List ℕ → List ℕ
before x s = take (cut x s) s

abbrev pub behind : ℕ → List ℕ → List ℕ
behind x s = drop (cut x s + 1) s

-- a byte more at the front of the first part
abbrev pub push : ℕ → List (List ℕ) → List (List ℕ)
push b [] = (b ∷ []) ∷ []
push b (p ∷ ps) = (b ∷ p) ∷ ps

-- the parts between the bytes x: one more than there are x
unfoldable pub split : ℕ → List ℕ → List (List ℕ)
split x [] = [] ∷ []
split x (b ∷ bs) = cond (eqb b x) ([] ∷ split x bs) (push b (split x bs))
