-- Masks as the bits of a machine word. Assumes nothing.
use mathlib.Core.Path.{◌≡◌, refl, sym, ap, subst, ◌∙◌}
use mathlib.Core.Bool.{Bool, true, false}
use Prim.Native.Nat.{ℕ, ◌-◌, ◌*◌, ◌/◌, ◌%◌, ◌^◌, ◌≤◌, ◌<◌, ◌+◌}
use native.Mathlib.Nat.{mod-eq_of_lt, div-eq_of_lt, lt_of_lt_of_le, div-lt_iff_lt-mul, one-mul}
use native.Mathlib.Omega.{arith}
use borrow.Author.Tests.{lt-ltb, eq-eqb}
use Rattle.bitmap.specs.RunLaws.{run_is}
use lib.Dec.{eqb, eqb→eq, T, ltb, ltb→lt, lt→ltb}
use lib.Pow.{pow-lt, pow_pos, pow_mono, ones_lt, ones_split, high, shl_exact}
use Rattle.bitmap.specs.Mask.{has_bit, is_below, run}
use Rattle.bitmap.specs.MaskLaws.{below_bit}

-- two tests that hold together are equal
both : (a b : Bool) → (T a → T b) → (T b → T a) → a ≡ b
both true true f g = refl
both true false f g = absurd (f tt)
both false true f g = absurd (g tt)
both false false f g = refl

-- a word has no member at or above its width
pub beyond : (k m s : ℕ) → m < 2 ^ k → k ≤ s → false ≡ has_bit m s
beyond k m s h l = sym (ap (λ (b : ℕ). eqb b 1) (below_bit k m s h l))

pub below_wider : (k m w : ℕ) → m < 2 ^ k → k ≤ w → true ≡ is_below w m
below_wider k m w h l = sym (lt-ltb m (2 ^ w) (lt_of_lt_of_le h (pow_mono l)))

-- nothing is left above w
pub none_above : (w m : ℕ) → eqb (m / 2 ^ w) 0 ≡ is_below w m
none_above w m = both (eqb (m / 2 ^ w) 0) (ltb m (2 ^ w)) forth back
  where
    forth : T (eqb (m / 2 ^ w) 0) → T (ltb m (2 ^ w))
    forth t = lt→ltb m (2 ^ w) (subst (λ (x : ℕ). m < x) (one-mul (2 ^ w)) ((div-lt_iff_lt-mul (pow_pos w)).0 (omega (arith, eqb→eq (m / 2 ^ w) 0 t))))

    back : T (ltb m (2 ^ w)) → T (eqb (m / 2 ^ w) 0)
    back t = subst T (sym (eq-eqb (m / 2 ^ w) 0 (div-eq_of_lt (ltb→lt m (2 ^ w) t)))) tt

-- `1 << s` at k bits
pub one_shl : (k s : ℕ) → s < k → 1 * 2 ^ s % 2 ^ k ≡ 2 ^ s
one_shl k s h = ap (λ (x : ℕ). x % 2 ^ k) (one-mul (2 ^ s)) ∙ mod-eq_of_lt (pow-lt h)

-- the k lowest bits of a word of w
pub low_ones : (w k : ℕ) → k ≤ w → (2 ^ w - 1) / 2 ^ (w - k) ≡ 2 ^ k - 1
low_ones w k h =
    let e : w ≡ k + (w - k) = omega arith in
    ap (λ (x : ℕ). (2 ^ x - 1) / 2 ^ (w - k)) e ∙ ap (λ (x : ℕ). x / 2 ^ (w - k)) (ones_split k (w - k)) ∙ high (2 ^ k - 1) (w - k) (ones_lt (w - k))

-- moved up by a
pub ones_shl : (w a k : ℕ) → a + k ≤ w → (2 ^ w - 1) / 2 ^ (w - k) * 2 ^ a % 2 ^ w ≡ run a k
ones_shl w a k h =
    ap (λ (x : ℕ). x * 2 ^ a % 2 ^ w) (low_ones w k (omega arith)) ∙ shl_exact k a w (ones_lt k) (omega arith) ∙ sym (run_is a k)
