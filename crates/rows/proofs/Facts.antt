-- A row's four words: what the functions over them compute. Assumes nothing.
use mathlib.Core.Path.{◌≡◌, refl, sym, ap, ◌∙◌}
use mathlib.Core.Bool.{Bool, true, false, cond, not, ◌&&◌}
use mathlib.Core.List.{List, [], ◌∷◌}
use Prim.Native.Nat.{ℕ, zero, suc, ◌+◌, ◌-◌, ◌*◌, ◌/◌, ◌%◌, ◌^◌, ◌≤◌, ◌<◌}
use native.Mathlib.Nat.{mod-eq_of_lt}
use native.Mathlib.Decide.{ℕ_discrete}
use native.Mathlib.Omega.{arith}
use borrow.Author.Tests.{eq-eqb, ne_eqb, not-true, not-false}
use lib.Bits.{bit_and, or_zero_l, and_zero_r, and_mask}
use lib.Count.{ones-le}
use lib.Dec.{eqb}
use lib.ListN.{get_or, set}
use lib.Pow.{pow_pos}
use lib.Seq.{sets}
use Rattle.bitmap.specs.Mask.{has_bit, is_below, count, run, gather}
use Rattle.bitmap.specs.CountLaws.{count_ones}
use Rattle.rows.specs.declared.Row.{Row}
use Rattle.rows.specs.Row.{value, words_of, words, row_of, span}
use Rattle.rows.proofs.WordLaws.{Words, words_value, value_inj, value_bit, value_count, value_below, run_words}

-- ---- the fields are words
pub are_words : (r : Row) → r.w0 < 2 ^ 64 → r.w1 < 2 ^ 64 → r.w2 < 2 ^ 64 → r.w3 < 2 ^ 64 → Words (words r)
are_words r a b c d zero = a
are_words r a b c d (suc zero) = b
are_words r a b c d (suc (suc zero)) = c
are_words r a b c d (suc (suc (suc zero))) = d
are_words r a b c d (suc (suc (suc (suc i)))) = pow_pos 64

pub no_word : (r : Row) (j : ℕ) → (j ≡ 0 → ⊥) → (j ≡ 1 → ⊥) → (j ≡ 2 → ⊥) → (j ≡ 3 → ⊥) → 0 ≡ get_or (words r) j 0
no_word r zero a b c d = absurd (a refl)
no_word r (suc zero) a b c d = absurd (b refl)
no_word r (suc (suc zero)) a b c d = absurd (c refl)
no_word r (suc (suc (suc zero))) a b c d = absurd (d refl)
no_word r (suc (suc (suc (suc j)))) a b c d = refl

pub count_small : (m : ℕ) → m < 2 ^ 64 → count m ≤ 64
count_small m h = omega (arith, count_ones m, ones-le 64 m h)

-- ---- the same row, word by word
module _ (a b : Row) (h : Words (words a)) (g : Words (words b)) where
  pub differs : (j : ℕ) → (get_or (words a) j 0 ≡ get_or (words b) j 0 → ⊥) → false ≡ eqb (row_of a) (row_of b)
  differs j n = sym (ne_eqb (row_of a) (row_of b) (λ e. n (ap (λ (l : List ℕ). get_or l j 0) (value_inj (words a) (words b) h g refl e))))

  pub agrees : a.w0 ≡ b.w0 → a.w1 ≡ b.w1 → a.w2 ≡ b.w2 → eqb a.w3 b.w3 ≡ eqb (row_of a) (row_of b)
  agrees p q r = go (ℕ_discrete a.w3 b.w3)
    where
      go : Dec (a.w3 ≡ b.w3) → eqb a.w3 b.w3 ≡ eqb (row_of a) (row_of b)
      go (yes e) = eq-eqb a.w3 b.w3 e ∙ sym (eq-eqb (row_of a) (row_of b) (rw (p, q, r, e) refl))
      go (no n) = ne_eqb a.w3 b.w3 n ∙ differs 3 n

  -- what == of two rows is
  pub same_row : (eqb a.w0 b.w0 && (eqb a.w1 b.w1 && (eqb a.w2 b.w2 && eqb a.w3 b.w3))) ≡ eqb (row_of a) (row_of b)
  same_row = go (ℕ_discrete a.w0 b.w0) (ℕ_discrete a.w1 b.w1) (ℕ_discrete a.w2 b.w2)
    where
      go : Dec (a.w0 ≡ b.w0) → Dec (a.w1 ≡ b.w1) → Dec (a.w2 ≡ b.w2)
          → (eqb a.w0 b.w0 && (eqb a.w1 b.w1 && (eqb a.w2 b.w2 && eqb a.w3 b.w3))) ≡ eqb (row_of a) (row_of b)
      go (yes p) (yes q) (yes r) = rw (eq-eqb a.w0 b.w0 p, eq-eqb a.w1 b.w1 q, eq-eqb a.w2 b.w2 r) (agrees p q r)
      go (yes p) (yes q) (no n) = rw (eq-eqb a.w0 b.w0 p, eq-eqb a.w1 b.w1 q, ne_eqb a.w2 b.w2 n) (differs 2 n)
      go (yes p) (no n) r = rw (eq-eqb a.w0 b.w0 p, ne_eqb a.w1 b.w1 n) (differs 1 n)
      go (no n) q r = rw (ne_eqb a.w0 b.w0 n) (differs 0 n)

-- ---- one member
pub run_one : (s : ℕ) → run s 1 ≡ 2 ^ s
unfolding gather
run_one s = or_zero_l (2 ^ (s + 0)) ∙ ap (λ (k : ℕ). 2 ^ k) (omega arith)

-- ---- the width, word by word: which test fails, or that none does
and_false : (b : Bool) → (b && false) ≡ false
and_false true = refl
and_false false = refl

and_true : (b : Bool) → (b && true) ≡ b
and_true true = refl
and_true false = refl

module _ (r : Row) (h : Words (words r)) where
  pub bit_found : (s : ℕ) (x : ℕ) (b : Bool) → x ≡ get_or (words r) (s / 64) 0 → b ≡ has_bit x (s % 64) → b ≡ has_bit (row_of r) s
  bit_found s x b q e = e ∙ ap (λ (y : ℕ). has_bit y (s % 64)) q ∙ sym (ap (λ (k : ℕ). eqb k 1) (value_bit (words r) h s))

  pub counted : count (row_of r) ≡ count r.w0 + (count r.w1 + (count r.w2 + (count r.w3 + 0)))
  counted = value_count (words r) h

  module _ (w : ℕ) where
    below : is_below w (row_of r) ≡ (is_below w r.w0 && (is_below (w - 64) r.w1 && (is_below (w - 64 - 64) r.w2 && (is_below (w - 64 - 64 - 64) r.w3 && true))))
    below = value_below w (words r) h

    pub no_first : (b : Bool) → b ≡ is_below w r.w0 → not b ≡ true → false ≡ is_below w (row_of r)
    no_first b e n = rw (below, sym e ∙ not-true b n)

    pub no_second : (w1 : ℕ) (b : Bool) → w1 ≡ w - 64 → b ≡ is_below w1 r.w1 → not b ≡ true → false ≡ is_below w (row_of r)
    no_second w1 b p e n = rw (below, ← p, sym e ∙ not-true b n) (sym (and_false (is_below w r.w0)))

    pub no_third : (w1 w2 : ℕ) (b : Bool) → w1 ≡ w - 64 → w2 ≡ w1 - 64 → b ≡ is_below w2 r.w2 → not b ≡ true → false ≡ is_below w (row_of r)
    no_third w1 w2 b p q e n = rw (below, ← p, ← q, sym e ∙ not-true b n, and_false (is_below w1 r.w1)) (sym (and_false (is_below w r.w0)))

    pub all_four : (w1 w2 w3 : ℕ) (x a b t : Bool) → w1 ≡ w - 64 → w2 ≡ w1 - 64 → w3 ≡ w2 - 64 → a ≡ is_below w r.w0 → not a ≡ false → b ≡ is_below w1 r.w1 → not b ≡ false
        → t ≡ is_below w2 r.w2 → not t ≡ false → x ≡ is_below w3 r.w3 → x ≡ is_below w (row_of r)
    all_four w1 w2 w3 x a b t p q z ea na eb nb et nt er =
        rw (below, ← p, ← q, ← z, sym ea ∙ not-false a na, sym eb ∙ not-false b nb, sym et ∙ not-false t nt) (er ∙ sym (and_true (is_below w3 r.w3)))

-- ---- a run, word by word
pub run_is : (a e a1 e1 a2 e2 a3 e3 w0 w1 w2 w3 : ℕ) → a1 ≡ a - 64 → e1 ≡ e - 64 → a2 ≡ a1 - 64 → e2 ≡ e1 - 64 → a3 ≡ a2 - 64 → e3 ≡ e2 - 64
    → w0 ≡ span a e → w1 ≡ span a1 e1 → w2 ≡ span a2 e2 → w3 ≡ span a3 e3 → value (w0 ∷ w1 ∷ w2 ∷ w3 ∷ []) ≡ value (run_words 4 a e)
run_is a e a1 e1 a2 e2 a3 e3 w0 w1 w2 w3 p1 q1 p2 q2 p3 q3 z0 z1 z2 z3 =
    rw (z0, z1, z2, z3, p3, q3, p2, q2, p1, q1) refl

-- ---- four stores
pub put_is : (l : List ℕ) (i : ℕ) (r : Row) → Words (words r) → set (set (set (set l i r.w0) (i + 1) r.w1) (i + 2) r.w2) (i + 3) r.w3 ≡ sets l i (words_of 4 (row_of r))
put_is l i r h =
    let p : i + 1 ≡ suc i = omega arith in
    let q : i + 2 ≡ suc (suc i) = omega arith in
    let x : i + 3 ≡ suc (suc (suc i)) = omega arith in
    rw (p, q, x) (sym (ap (sets l i) (words_value (words r) h)))

-- ---- a row, or none, by a flag: every bit of `all` is the flag
abbrev pub all_of : ℕ → ℕ
all_of f = f * 18446744073709551615

pub taken_word : (x : ℕ) → x < 2 ^ 64 → (f : ℕ) → f < 2 → bit_and x (all_of f) ≡ cond (eqb f 1) x 0
taken_word x h zero g = and_zero_r x
taken_word x h (suc zero) g = and_mask x 64 ∙ mod-eq_of_lt h
taken_word x h (suc (suc f)) g = absurd (omega arith)

pub taken_is : (r : Row) → Words (words r) → (f : ℕ) → f < 2
    → value (bit_and r.w0 (all_of f) ∷ bit_and r.w1 (all_of f) ∷ bit_and r.w2 (all_of f) ∷ bit_and r.w3 (all_of f) ∷ []) ≡ cond (eqb f 1) (row_of r) 0
unfolding value
taken_is r h f g = rw (taken_word r.w0 (h 0) f g, taken_word r.w1 (h 1) f g, taken_word r.w2 (h 2) f g, taken_word r.w3 (h 3) f g) (go f g)
  where
    go : (f : ℕ) → f < 2 → value (cond (eqb f 1) r.w0 0 ∷ cond (eqb f 1) r.w1 0 ∷ cond (eqb f 1) r.w2 0 ∷ cond (eqb f 1) r.w3 0 ∷ []) ≡ cond (eqb f 1) (row_of r) 0
    go zero g = refl
    go (suc zero) g = refl
    go (suc (suc f)) g = absurd (omega arith)
