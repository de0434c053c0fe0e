-- Floats and their distances from a fraction, counted in units of the format's smallest value. Assumes nothing.
use Rattle.std.specs.Prelude.{◌≡◌, refl, Bool, true, false, cond, ◌&&◌, ℕ, zero, suc, ◌+◌, ◌-◌, ◌*◌, ◌%◌, ◌^◌, ◌≤◌, ◌<◌, T, leb, ltb, eqb, ℤ, pos, negsuc, Float}
use Rattle.std.proofs.Common.{sym, ap, ap₂, ◌∙◌, subst, le_trans, le_of_eq, not-le_of_lt, zero-lt-suc, zero-mul, mul-one, mul_comm, mul_assoc, mul_right_comm, add-mul, mul-pos, mul-le-mul_right, le_of_mul-le-mul_right, leb→le, ltb→lt, pow-add, pow_pos, leb-true, leb-false}
use Rattle.std.specs.Bool.{beq}
use Rattle.std.proofs.Math.Nat.{mul-sub, eq_of_mul-eq-mul_right}
use Rattle.std.proofs.Math.Pow.{pow-lt}
use Rattle.std.specs.Float.{nan, inf, fin, Format}
use Rattle.std.specs.Float.Ieee.{prec, emax, low, up, down, odd, units, round, fits}
use Rattle.std.specs.Float.Ieee.Digits.{back}
use Rattle.std.specs.Float.Ieee.Fits.{and_l, and_r, down_pos, round_is}
use Rattle.std.specs.Float.Ieee.Exact.{HasValue, units_val}
use Rattle.std.specs.Float.Ieee.Order.{drop, kept}
use Rattle.std.specs.Float.Ieee.Scale.{grid, overflow, finite}
use Rattle.rounding.specs.Nearest.{dist, between, under, negative, gap}

-- ---- distances
dist_mul : (a b k : ℕ) → dist (a * k) (b * k) ≡ dist a b * k
dist_mul a b k =
    rw (mul_comm a k, mul_comm b k, ← mul-sub k a b, ← mul-sub k b a, mul_comm k (a - b), mul_comm k (b - a)) (sym (add-mul (a - b) (b - a) k))

-- r / d is a / l
module _ (num den r d a l : ℕ) (e : r * l ≡ a * d) where
  turn : a * den * d ≡ r * den * l
  turn = mul_right_comm a den d ∙ ap (λ (y : ℕ). y * den) (sym e) ∙ mul_right_comm r l den

  gap_at : (b : Bool) → cond b (dist (num * l) (a * den)) (num * l + a * den) * d ≡ cond b (dist (num * d) (r * den)) (num * d + r * den) * l
  gap_at true = sym (dist_mul (num * l) (a * den) d) ∙ ap₂ dist (mul_right_comm num l d) turn ∙ dist_mul (num * d) (r * den) l
  gap_at false = add-mul (num * l) (a * den) d ∙ ap₂ ◌+◌ (mul_right_comm num l d) turn ∙ sym (add-mul (num * d) (r * den) l)

-- x is a / l: its distance from num / den in units of 1 / l
pub gap_units : (s : Bool) (num den : ℕ) (t : Bool) (a l : ℕ) (x : Float) → HasValue x t a l → between s (num * l) t (a * den) * under x ≡ gap s num den x * l
gap_units s num den t a l (fin t' m e) v =
    subst (λ (z : Bool). between s (num * l) z (a * den) * down e ≡ gap s num den (fin t' m e) * l) v.0
    (gap_at num den (m * up e) (down e) a l v.1 (beq s t'))
gap_units s num den t a l nan v = elim v [ ]
gap_units s num den t a l (inf _) v = elim v [ ]

-- the distances g and h, cross-multiplied, compare as x and y, the same in units, do
module _ (g h x y c d l : ℕ) (p : x * c ≡ g * l) (q : y * d ≡ h * l) where
  left : g * d * l ≡ x * (c * d)
  left = mul_right_comm g d l ∙ ap (λ (z : ℕ). z * d) (sym p) ∙ mul_assoc x c d

  right : h * c * l ≡ y * (c * d)
  right = mul_right_comm h c l ∙ ap (λ (z : ℕ). z * c) (sym q) ∙ mul_right_comm y d c ∙ mul_assoc y c d

  pub no_further : 0 < l → x ≤ y → g * d ≤ h * c
  no_further L k = le_of_mul-le-mul_right (le_trans (le_of_eq left) (le_trans (mul-le-mul_right (c * d) k) (le_of_eq (sym right)))) L

  pub as_far : 0 < c → 0 < d → g * d ≡ h * c → x ≡ y
  as_far C D k = eq_of_mul-eq-mul_right (c * d) (mul-pos C D) x y (sym left ∙ ap (λ (z : ℕ). z * l) k ∙ right)

pub under_pos : (x : Float) → 0 < under x
under_pos nan = zero-lt-suc 0
under_pos (inf s) = zero-lt-suc 0
under_pos (fin s m e) = down_pos e

-- ---- a value that fits is q * 2 ^ j units, with q below 2 ^ prec
pub record Units (f : Format) (y : Float) : Type 0 where
  pub q : ℕ
  pub j : ℕ
  pub few : q < 2 ^ prec f
  pub is : HasValue y (negative y) (q * 2 ^ j) (2 ^ low f)

few_digits : (f : Format) (t : Bool) (m : ℕ) (e : ℤ) → T (fits f (fin t (suc m) e)) → (suc m < 2 ^ prec f) × (down e ≤ 2 ^ low f)
unfolding fits
few_digits f t m e h =
    let a : Bool = eqb (suc m % 2) 1 in
    let b : Bool = ltb (suc m) (2 ^ prec f) in
    let c : Bool = leb (down e) (2 ^ low f) in
    let g = and_l (a && b && c) (ltb (suc m * up e) (2 ^ suc (emax f) * down e)) h in
    (ltb→lt (suc m) (2 ^ prec f) (and_r a b (and_l (a && b) c g)), leb→le (down e) (2 ^ low f) (and_r (a && b) c g))

pow_le : (a b : ℕ) → 2 ^ a ≤ 2 ^ b → a ≤ b
pow_le a b h = go (leb a b) refl
  where
    go : (t : Bool) → leb a b ≡ t → a ≤ b
    go true e = leb-true a b e
    go false e = absurd (not-le_of_lt (pow-lt (leb-false a b e)) h)

pub units_of : (f : Format) (y : Float) → T (fits f y) → T (finite y) → Units f y
units_of f (fin t zero e) h g = record { q = 0; j = 0; few = pow_pos (prec f); is = (refl, simp zero-mul) }
units_of f (fin t (suc m) (pos k)) h g =
    let n = suc m in
    record {
      q = n;
      j = k + low f;
      few = (few_digits f t m (pos k) h).0;
      is = (refl, mul_assoc n (2 ^ k) (2 ^ low f) ∙ ap (λ (x : ℕ). n * x) (sym (pow-add 2 k (low f))) ∙ sym (mul-one _));
    }
units_of f (fin t (suc m) (negsuc k)) h g =
    let n = suc m in
    let i = low f - suc k in
    let d = few_digits f t m (negsuc k) h in
    let l : 2 ^ low f ≡ 2 ^ i * 2 ^ suc k = ap (λ (x : ℕ). 2 ^ x) (sym (back (low f) (suc k) (pow_le (suc k) (low f) d.1))) ∙ pow-add 2 i (suc k) in
    record { q = n; j = i; few = d.0; is = (refl, ap₂ ◌*◌ (mul-one n) l ∙ sym (mul_assoc n (2 ^ i) (2 ^ suc k))) }
units_of f nan h g = elim g [ ]
units_of f (inf _) h g = elim g [ ]

-- ---- what `round` gives is `grid` units
under_overflow : (f : Format) (s : Bool) (q k : ℕ) → T (finite (units f s q k)) → q * 2 ^ k < overflow f
unfolding units
under_overflow f s q k = go (ltb (q * 2 ^ k) (overflow f)) (ltb→lt (q * 2 ^ k) (overflow f))
  where
    go : (b : Bool) → (T b → q * 2 ^ k < overflow f) → T (finite (cond b (odd (suc (prec f)) s q k (low f)) (inf s))) → q * 2 ^ k < overflow f
    go true h t = h tt
    go false h t = absurd t

pub is_grid : (f : Format) (s : Bool) (num den : ℕ) → T (finite (round f s num den)) → HasValue (round f s num den) s (grid f num den) (2 ^ low f)
is_grid f s num den t =
    let q = kept (prec f) (num * 2 ^ low f) den in
    let k = drop (prec f) (num * 2 ^ low f) den in
    rw (round_is f s num den) (units_val f s q k (under_overflow f s q k (subst (λ (x : Float). T (finite x)) (round_is f s num den) t)))
