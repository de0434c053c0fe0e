-- Rows whose members are all below 64: the first word is the row, and the others are 0. Assumes nothing.
use Rattle.std.specs.Prelude.{◌≡◌, refl, true, List, [], ◌∷◌, ◌++◌, ℕ, ◌+◌, ◌*◌, ◌/◌, ◌%◌, ◌^◌, ◌≤◌, ◌<◌}
use Rattle.std.proofs.Common.{ap₂, lt_of_lt_of_le, mod-eq_of_lt, arith, pow_mono, ltb-true}
use Rattle.std.proofs.Math.Bool.{and-eq-true_iff}
use Rattle.std.specs.List.{list_all}
use Rattle.bitmap.specs.Mask.{is_below}
use Rattle.rows.specs.Row.{value, words_of, spelled}

low_only : (v x : ℕ) → v * 2 ^ 64 + x < 2 ^ 64 → x ≡ v * 2 ^ 64 + x
low_only v x h = omega arith

pub value_low : (x : ℕ) (xs : List ℕ) → value (x ∷ xs) < 2 ^ 64 → x ≡ value (x ∷ xs)
unfolding value
value_low x xs h = low_only (value xs) x h

pub words_low : (m : ℕ) → m < 2 ^ 64 → words_of 4 m ≡ m ∷ 0 ∷ 0 ∷ 0 ∷ []
unfolding words_of
words_low m h =
    let r : m % 2 ^ 64 ≡ m = mod-eq_of_lt h in
    let q : m / 2 ^ 64 ≡ 0 = omega arith in
    rw (r, q)

-- a table of one word a row, with three words of 0 after each
abbrev pub spaced : List ℕ → List ℕ
spaced [] = []
spaced (m ∷ ms) = m ∷ 0 ∷ 0 ∷ 0 ∷ spaced ms

pub spelled_low : (w : ℕ) (rows : List ℕ) → w ≤ 64 → list_all (is_below w) rows ≡ true → spelled rows ≡ spaced rows
unfolding spelled
spelled_low w [] l h = refl
spelled_low w (m ∷ ms) l h =
    let p = (and-eq-true_iff (is_below w m) (list_all (is_below w) ms)).0 h in
    let b : m < 2 ^ 64 = lt_of_lt_of_le (ltb-true m (2 ^ w) p.0) (pow_mono {i = w} {j = 64} l) in
    ap₂ ◌++◌ (words_low m b) (spelled_low w ms l p.1)
