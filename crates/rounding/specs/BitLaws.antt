-- The bit pattern of a float by its value: it tells values of a format apart, and its last bit is that of the number that `round` keeps. Assumes nothing.
use Rattle.std.specs.Prelude.{◌≡◌, refl, ◌⊎◌, Bool, true, false, cond, T, Float}
use Rattle.std.proofs.Common.{sym, ap, ap₂, ◌∙◌, subst, inl, inr, le_trans, eq-or-lt_of_le, mul_comm, mul_assoc, mul_right_comm, mul-div_cancel, arith, pow-add, pow_pos, shl_lt}
use Prim.Native.Nat.{ℕ, suc, ◌+◌, ◌-◌, ◌*◌, ◌/◌, ◌%◌, ◌^◌, ◌≤◌, ◌<◌, compare}
use Rattle.std.proofs.Math.Nat.{mul-mod_left, div-div-eq-div-mul}
use Rattle.std.proofs.Math.Pow.{pow-lt}
use Rattle.std.specs.Float.{fin, Format, binary32, binary64}
use Rattle.std.specs.Float.Ieee.{inf, nan, prec, low, down, size, fits, hid, top, to_bits, of_bits}
use Rattle.std.specs.Float.Ieee.Digits.{back, size-le}
use Rattle.std.specs.Float.Ieee.Fits.{two, down_pos, nearest-le, kept-lt}
use Rattle.std.specs.Float.Ieee.Bits.{of_bits-to_bits}
use Rattle.std.specs.Float.Ieee.Exact.{HasValue}
use Rattle.std.specs.Float.Ieee.Order.{drop, kept}
use Rattle.std.specs.Float.Ieee.Scale.{grid}

-- the pattern of a units with the sign s
abbrev pub pattern : Format → Bool → ℕ → ℕ
pattern f s a = cond s (top f) 0 + (size a - prec f) * hid f + a / 2 ^ (size a - prec f)

pub bits_of : (f : Format) (x : Float) (s : Bool) (a : ℕ) → HasValue x s a (2 ^ low f) → to_bits f x ≡ pattern f s a
unfolding to_bits
bits_of f (fin t m e) s a v = ap₂ (pattern f) v.0 (ap (λ (x : ℕ). x / down e) v.1 ∙ mul-div_cancel a (down_pos e))
bits_of f nan s a v = elim v [ ]
bits_of f (inf _) s a v = elim v [ ]

-- two floats that fit are the same if their signs and values are
pub same_float : (f : Format) (x y : Float) (s : Bool) (a : ℕ) → T (fits f x) → T (fits f y)
    → HasValue x s a (2 ^ low f) → HasValue y s a (2 ^ low f) → x ≡ y
same_float f x y s a p q v w = sym (of_bits-to_bits f x p) ∙ ap (of_bits f) (bits_of f x s a v ∙ sym (bits_of f y s a w)) ∙ of_bits-to_bits f y q

-- ---- even numbers
even_mul : (a b : ℕ) → a % 2 ≡ 0 → a * b % 2 ≡ 0
even_mul a b e =
    let h : a ≡ a / 2 * 2 = omega arith in
    ap (λ (x : ℕ). x * b % 2) h ∙ ap (λ (x : ℕ). x % 2) (mul_right_comm (a / 2) 2 b) ∙ mul-mod_left (a / 2 * b) 2

even_sum : (a b c : ℕ) → a % 2 ≡ 0 → b % 2 ≡ 0 → c % 2 ≡ 0 → (a + b + c) % 2 ≡ 0
even_sum a b c p q r = omega arith

hid_even : (f : Format) → hid f % 2 ≡ 0
hid_even binary32 = refl
hid_even binary64 = refl

sign_even : (f : Format) (s : Bool) → cond s (top f) 0 % 2 ≡ 0
sign_even f false = refl
sign_even f true = even_mul (hid f) _ (hid_even f)

-- an even q with i zeros after it is even after at most i digits are dropped
even_shift : (q i k : ℕ) → q % 2 ≡ 0 → k ≤ i → q * 2 ^ i / 2 ^ k % 2 ≡ 0
even_shift q i k e h =
    let j = i - k in
    let p : 2 ^ i ≡ 2 ^ j * 2 ^ k = ap (λ (x : ℕ). 2 ^ x) (sym (back i k h)) ∙ pow-add 2 j k in
    let m : q * 2 ^ i ≡ q * 2 ^ j * 2 ^ k = ap (λ (x : ℕ). q * x) p ∙ sym (mul_assoc q (2 ^ j) (2 ^ k)) in
    ap (λ (x : ℕ). x / 2 ^ k % 2) m ∙ ap (λ (x : ℕ). x % 2) (mul-div_cancel (q * 2 ^ j) (pow_pos k)) ∙ even_mul q (2 ^ j) e

-- ---- q * 2 ^ i units, q being even and of at most prec digits, or 2 ^ prec
spare : (z p i : ℕ) → z ≤ p + i → z - p ≤ i
spare z p i h = omega arith

one_down : (p i : ℕ) → 2 ≤ p → p + i ≡ p - 1 + suc i
one_down p i h = omega arith

one_up : (p i : ℕ) → p + i < p + suc i
one_up p i = omega arith

module _ (f : Format) (q i : ℕ) where
  -- what is dropped of q * 2 ^ i, if it is below 2 ^ (prec + j)
  dropped : (j : ℕ) → q * 2 ^ i < 2 ^ (prec f + j) → size (q * 2 ^ i) - prec f ≤ j
  dropped j h = spare (size (q * 2 ^ i)) (prec f) j (size-le (q * 2 ^ i) (prec f + j) h)

  -- 2 ^ prec has a digit too many: it is written as half of that, with one more dropped
  digits_even : q % 2 ≡ 0 → q ≤ 2 ^ prec f → q * 2 ^ i / 2 ^ (size (q * 2 ^ i) - prec f) % 2 ≡ 0
  digits_even e l = go (eq-or-lt_of_le l)
    where
      go : (q ≡ 2 ^ prec f) ⊎ (q < 2 ^ prec f) → q * 2 ^ i / 2 ^ (size (q * 2 ^ i) - prec f) % 2 ≡ 0
      go (inr h) = even_shift q i _ e (dropped i (shl_lt (prec f) i h))
      go (inl h) =
          let a : q * 2 ^ i ≡ 2 ^ (prec f + i) = ap (λ (x : ℕ). x * 2 ^ i) h ∙ sym (pow-add 2 (prec f) i) in
          let m : q * 2 ^ i ≡ hid f * 2 ^ suc i = a ∙ ap (λ (x : ℕ). 2 ^ x) (one_down (prec f) i (two f)) ∙ pow-add 2 (prec f - 1) (suc i) in
          ap (λ (x : ℕ). x / 2 ^ (size (q * 2 ^ i) - prec f) % 2) m
          ∙ even_shift (hid f) (suc i) _ (hid_even f) (dropped (suc i) (subst (λ (x : ℕ). x < 2 ^ (prec f + suc i)) (sym a) (pow-lt (one_up (prec f) i))))

  pattern_even : (s : Bool) → q % 2 ≡ 0 → q ≤ 2 ^ prec f → pattern f s (q * 2 ^ i) % 2 ≡ 0
  pattern_even s e l =
      let k = size (q * 2 ^ i) - prec f in
      even_sum (cond s (top f) 0) (k * hid f) (q * 2 ^ i / 2 ^ k) (sign_even f s)
      (ap (λ (x : ℕ). x % 2) (mul_comm k (hid f)) ∙ even_mul (hid f) k (hid_even f)) (digits_even e l)

kept_le : (p n den : ℕ) → kept p n den ≤ 2 ^ p
kept_le p n den =
    let k = drop p n den in
    let u = den * 2 ^ k in
    le_trans (nearest-le (n / u) (compare (n % u * 2) u)) (subst (λ (x : ℕ). x < 2 ^ p) (div-div-eq-div-mul n den (2 ^ k)) (kept-lt p (n / den)))

-- where `round` keeps an even number, the last bit is 0
pub grid_bits : (f : Format) (s : Bool) (num den : ℕ) → kept (prec f) (num * 2 ^ low f) den % 2 ≡ 0 → pattern f s (grid f num den) % 2 ≡ 0
grid_bits f s num den e =
    let n = num * 2 ^ low f in
    pattern_even f (kept (prec f) n den) (drop (prec f) n den) s e (kept_le (prec f) n den)
