-- Which floats lie from 0 to 1, over whole numbers: `fin s m e` is m × 2 ^ e, negative where s is true, and 2 ^ e is up e / down e.
-- Assumes nothing.
use Rattle.std.specs.Prelude.{◌≡◌, ◌↔◌, Bool, true, false, ℕ, ◌*◌, ◌≤◌, ◌<◌, T, ℤ, Float}
use Rattle.std.proofs.Common.{sym, ap, ◌∙◌, subst, true≢false, zero-mul, one-mul, mul-one, mul-pos, arith, ltb-true, lt-ltb}
use Rattle.std.proofs.Math.Bool.{and-eq-true_iff}
use Rattle.std.specs.Float.{nan, inf, fin}
use Rattle.std.specs.Float.Ieee.{up, down, le, lt}
use Rattle.std.specs.Float.Ieee.Fits.{up_pos}
use Rattle.std.specs.Float.Ieee.Positive.{first_pos}
use Rattle.floats.specs.Floats.{plus_zero, one, is_probability}
use Rattle.floats.specs.NumberLaws.{number, test, holds, zero_of}

-- from 0 to 1: +0, -0, or a positive number that is at most 1; a NaN and an infinity are not
abbrev pub FromZeroToOne : Float → Type 0
FromZeroToOne nan = ⊥
FromZeroToOne (inf s) = ⊥
FromZeroToOne (fin true m e) = m ≡ 0
FromZeroToOne (fin false m e) = m * up e ≤ down e

-- above 0 and at most 1
abbrev pub AboveZeroToOne : Float → Type 0
AboveZeroToOne nan = ⊥
AboveZeroToOne (inf s) = ⊥
AboveZeroToOne (fin true m e) = ⊥
AboveZeroToOne (fin false m e) = (0 < m) × (m * up e ≤ down e)

is : {b : Bool} → b ≡ true → T b
is e = subst T (sym e) tt

no : {X : Type 0} → false ≡ true → X
no p = absurd (true≢false (sym p))

-- ---- at most 1
below_one : (m : ℕ) (e : ℤ) → (le (fin false m e) one ≡ true) ↔ (m * up e ≤ down e)
unfolding le
below_one m e = (
  λ t. let h = number false (m * up e * 1) false (1 * 1 * down e) (is t) in omega (arith, mul-one (m * up e), one-mul (down e)),
  λ h. holds (test false (m * up e * 1) false (1 * 1 * down e) (omega (arith, mul-one (m * up e), one-mul (down e)))),
)

-- ---- at least 0
negative_zero : (m : ℕ) (e : ℤ) → (le plus_zero (fin true m e) ≡ true) ↔ (m ≡ 0)
unfolding le
negative_zero m e = (
  λ t.
      let h = number false (0 * down e) true (m * up e * 1) (is t) in
      zero_of m (up e) (up_pos e) (omega (arith, mul-one (m * up e), h.1)),
  λ z. holds (test false (0 * down e) true (m * up e * 1) (zero-mul (down e), ap (λ (k : ℕ). k * up e * 1) z ∙ simp zero-mul)),
)

zero_below : (m : ℕ) (e : ℤ) → le plus_zero (fin false m e) ≡ true
unfolding le
zero_below m e = holds (test false (0 * down e) false (m * up e * 1) (omega (arith, zero-mul (down e))))

negative_below : (m : ℕ) (e : ℤ) → le (fin true m e) one ≡ true
unfolding le
negative_below m e = holds (test true (m * up e * 1) false (1 * 1 * down e) tt)

-- ---- a probability is a number from 0 to 1, and each such number is one
within : (x : Float) → le plus_zero x ≡ true → le x one ≡ true → FromZeroToOne x
within nan a b = no (unfold le in a)
within (inf true) a b = no (unfold le in a)
within (inf false) a b = no (unfold le in b)
within (fin true m e) a b = (negative_zero m e).0 a
within (fin false m e) a b = (below_one m e).0 b

pub bounds : (x : Float) → FromZeroToOne x → (le plus_zero x ≡ true) × (le x one ≡ true)
bounds nan h = absurd h
bounds (inf s) h = absurd h
bounds (fin true m e) h = ((negative_zero m e).1 h, negative_below m e)
bounds (fin false m e) h = (zero_below m e, (below_one m e).1 h)

pub probability_means : (x : Float) → (is_probability x ≡ true) ↔ FromZeroToOne x
unfolding is_probability
probability_means x = (
  λ t. let p = (and-eq-true_iff (le plus_zero x) (le x one)).0 t in within x p.0 p.1,
  λ h. (and-eq-true_iff (le plus_zero x) (le x one)).1 (bounds x h),
)

-- ---- and what is above +0 and at most 1
positive : (m : ℕ) (e : ℤ) → (lt plus_zero (fin false m e) ≡ true) ↔ (0 < m)
unfolding lt
positive m e = (
  λ t. let h = ltb-true (0 * down e) (m * up e * 1) t in first_pos m (up e) (omega (arith, mul-one (m * up e))),
  λ h. lt-ltb (0 * down e) (m * up e * 1) (omega (arith, mul-one (m * up e), zero-mul (down e), mul-pos h (up_pos e))),
)

above : (x : Float) → lt plus_zero x ≡ true → le x one ≡ true → AboveZeroToOne x
above nan a b = no (unfold lt in a)
above (inf true) a b = no (unfold lt in a)
above (inf false) a b = no (unfold le in b)
above (fin true m e) a b = no (unfold lt in a)
above (fin false m e) a b = ((positive m e).0 a, (below_one m e).0 b)

found_above : (x : Float) → AboveZeroToOne x → (lt plus_zero x ≡ true) × (le x one ≡ true)
found_above nan h = absurd h
found_above (inf s) h = absurd h
found_above (fin true m e) h = absurd h
found_above (fin false m e) h = ((positive m e).1 h.0, (below_one m e).1 h.1)

pub above_zero_means : (x : Float) → ((lt plus_zero x ≡ true) × (le x one ≡ true)) ↔ AboveZeroToOne x
above_zero_means x = (λ p. above x p.0 p.1, found_above x)
