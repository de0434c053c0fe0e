-- What the value of a decimal is: of the doubles the nearest to digits * 10 ^ ups / 10 ^ downs, at a tie the even one, and with the sign of its text, a zero
-- too. Assumes nothing.
use Rattle.std.specs.Prelude.{◌≡◌, refl, Bool, true, false, cond, ◌&&◌, ◌↔◌, List, [], ◌∷◌, ℕ, ◌+◌, ◌*◌, ◌^◌, ◌≤◌, ◌<◌, T, leb, length, get_or, Float}
use Rattle.std.proofs.Common.{sym, ap, ◌∙◌, true≢false, le_trans, le_of_eq, le_of_lt, mul-le-mul_left, mul-le-mul_right, mul_assoc, arith, eqb-true, eq-eqb, leb-true, pow-add}
use Rattle.std.proofs.Math.Bool.{and-eq-true_iff}
use Rattle.std.proofs.Math.Nat.{pow-le-pow_right}
use Rattle.std.specs.Float.{binary64}
use Rattle.std.specs.Float.Ieee.{fits}
use Rattle.std.specs.Float.Ieee.Fits.{round-fits}
use Rattle.std.specs.Float.Ieee.Scale.{finite}
use Rattle.refusals.specs.Numbers.{DIGITS}
use Rattle.refusals.specs.Outcome.{refused, accepted}
use Rattle.rounding.specs.Nearest.{negative, NoFurther, AsFar, IsEven}
use Rattle.rounding.specs.NearestLaws.{nearest, tie_even}
use Rattle.rounding.specs.SignLaws.{round_sign}
use Rattle.rounding.specs.FiniteLaws.{round_finite}
use Rattle.decimals.specs.Decimal.{is_negative, Written, written_of, is_well_formed, counted, ups, downs, is_short, digits, value_of, decimal_of}
use Rattle.decimals.proofs.DigitLaws.{ten_pos, formed, both_small}

-- ---- which are accepted

-- well formed and within the digit rule, and then its value is this
pub record Accepted (w : Written) (x : Float) : Type 0 where
  pub well_formed : is_well_formed w ≡ true
  pub short : is_short w ≡ true
  pub value : x ≡ value_of w

pub accepted_means : (s : List ℕ) (x : Float) → decimal_of s ≡ accepted x → Accepted (written_of s) x
unfolding decimal_of
accepted_means s x = go (is_well_formed (written_of s)) refl (is_short (written_of s)) refl _
  where
    go : (a : Bool) → is_well_formed (written_of s) ≡ a → (b : Bool) → is_short (written_of s) ≡ b → (k : ℕ)
        → cond a (cond b (accepted (value_of (written_of s))) (refused DIGITS)) (refused k) ≡ accepted x → Accepted (written_of s) x
    go true f true h k e = record { well_formed = f; short = h; value = cc }
    go true f false h k e = let z : ◌≡◌ {A = ℕ} 0 1 = cc in absurd (omega arith)
    go false f b h k e = let z : ◌≡◌ {A = ℕ} 0 1 = cc in absurd (omega arith)

-- ---- its size

-- n * 10 ^ u / 10 ^ d is at most 10 ^ 37
room : (n u d : ℕ) → n < 10 ^ 15 → u ≤ d + 22 → n * 10 ^ u ≤ 10 ^ 37 * 10 ^ d
room n u d h g =
    let a : n * 10 ^ u ≤ 10 ^ 15 * 10 ^ u = mul-le-mul_right (10 ^ u) (le_of_lt h) in
    let b : 10 ^ 15 * 10 ^ u ≤ 10 ^ 15 * 10 ^ (22 + d) = mul-le-mul_left (10 ^ 15) (pow-le-pow_right (omega arith) (omega arith)) in
    le_trans (le_trans a b) (le_of_eq (ap (λ (z : ℕ). 10 ^ 15 * z) (pow-add 10 22 d) ∙ sym (mul_assoc (10 ^ 15) (10 ^ 22) (10 ^ d))))

value_finite : (w : Written) → is_well_formed w ≡ true → is_short w ≡ true → T (finite (value_of w))
value_finite w e h =
    let d = formed w e in
    let a = (and-eq-true_iff (leb (counted w) 15) (leb (length w.power) 4 && (leb (ups w) (downs w + 22) && leb (downs w) (ups w + 22)))).0 h in
    let b = (and-eq-true_iff (leb (length w.power) 4) (leb (ups w) (downs w + 22) && leb (downs w) (ups w + 22))).0 a.1 in
    let c = (and-eq-true_iff (leb (ups w) (downs w + 22)) (leb (downs w) (ups w + 22))).0 b.1 in
    let n = both_small w.whole w.fraction d.whole_digits (leb-true _ _ a.0) d.fraction_digits in
    round_finite w.negative (digits w * 10 ^ ups w) (10 ^ downs w) (ten_pos (downs w)) (room (digits w) (ups w) (downs w) n (leb-true _ _ c.0))

-- ---- its sign

-- it begins with -: its first byte is 45
minus_means : (s : List ℕ) → (is_negative s ≡ true) ↔ (get_or s 0 0 ≡ 45)
unfolding is_negative
minus_means [] = (λ e. absurd (true≢false (sym e)), λ h. absurd (omega arith))
minus_means (b ∷ bs) = (eqb-true b 45, eq-eqb b 45)

value_sign : (s : List ℕ) → negative (value_of (written_of s)) ≡ is_negative s
unfolding written_of
value_sign s = round_sign binary64 _ _ _

-- ---- the double of an accepted decimal

module _ (s : List ℕ) (x : Float) (e : decimal_of s ≡ accepted x) where
  pub decimal_value : x ≡ value_of (written_of s)
  decimal_value = (accepted_means s x e).value

  -- it is a double, and finite
  pub decimal_fits : T (fits binary64 x)
  decimal_fits = rw decimal_value (round-fits binary64 _ _ _)

  -- it is negative exactly if its text begins with -, and so is -0
  pub decimal_sign : (negative x ≡ true) ↔ (get_or s 0 0 ≡ 45)
  decimal_sign =
      let q : negative x ≡ is_negative s = ap negative decimal_value ∙ value_sign s in
      (λ e. (minus_means s).0 (sym q ∙ e), λ h. q ∙ (minus_means s).1 h)

  rounds : T (finite (value_of (written_of s)))
  rounds = let a = accepted_means s x e in value_finite (written_of s) a.well_formed a.short

  pub decimal_finite : T (finite x)
  decimal_finite = rw decimal_value rounds

  module _ (y : Float) (h : T (fits binary64 y)) (g : T (finite y)) where
    -- no double is nearer
    pub decimal_nearest :
        let w = written_of s in
        NoFurther w.negative (digits w * 10 ^ ups w) (10 ^ downs w) x y
    decimal_nearest = rw decimal_value (nearest binary64 _ _ _ (ten_pos _) rounds y h g)

    -- and where another is as near, it is the even one
    pub decimal_even :
        let w = written_of s in
        AsFar w.negative (digits w * 10 ^ ups w) (10 ^ downs w) x y → (y ≡ x → ⊥) → IsEven binary64 x
    decimal_even = rw decimal_value (tie_even binary64 _ _ _ (ten_pos _) rounds y h g)
