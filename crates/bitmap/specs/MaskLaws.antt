-- The laws of masks, at any width: bits of a union and of a meet, and when two masks are equal. Assumes nothing.
use Rattle.std.specs.Prelude.{◌↔◌, ◌⊎◌, Bool, true, false, not, ◌&&◌, ◌||◌, ◌≡◌, refl, ℕ, zero, suc, ◌+◌, ◌-◌, ◌/◌, ◌*◌, ◌%◌, ◌^◌, ◌≤◌, ◌<◌, min, max, eqb}
use Rattle.std.proofs.Common.{inl, inr, ⊎_elim, ltb-true, lt-ltb, eqb-true, eq-eqb, ne_eqb, sym, ap, ◌∙◌, subst, mod-lt, mul-div_cancel, div-one, zero-lt-suc, not-suc-le-zero, le_of_suc-le-suc, div-lt_iff_lt-mul, one-mul, pow-suc, lt_of_lt_of_le, one-add, arith, shr-shr, pow_mono, pow_pos}
use Rattle.std.proofs.Math.Nat.{div_self, mul-mod_left, zero-div, div-eq_of_lt}
use Rattle.std.proofs.Math.Decide.{dec_lt, ℕ_discrete}
use Rattle.std.proofs.Math.Arith.{bin_ind}
use Rattle.std.proofs.Math.Pow.{ones_lt}
use Rattle.std.specs.Int.Bits.{bit_or, bit_and, bit_xor, differ, or_step, and_step, xor_step, or_zero_r}
use Rattle.std.proofs.lemmas.Bool.{eqb-false}
use Rattle.std.proofs.lemmas.Nat.{or_shr, and_shr, xor_shr}
use Rattle.bitmap.specs.Mask.{all_below, is_below, bit, has_bit, with_bit}

-- ---- single bits

pub bit_zero : (m : ℕ) → bit m 0 ≡ m % 2
bit_zero m = ap (λ (x : ℕ). x % 2) (div-one m)

pub bit_half : (m s : ℕ) → bit (m / 2) s ≡ bit m (suc s)
bit_half m s = ap (λ (x : ℕ). x % 2) (shr-shr m 1 s ∙ ap (λ (k : ℕ). m / 2 ^ k) (one-add s))

pub bit_lt : (m s : ℕ) → bit m s < 2
bit_lt m s = omega arith

pub bit_none : (s : ℕ) → bit 0 s ≡ 0
bit_none s = ap (λ (x : ℕ). x % 2) (zero-div (2 ^ s))

-- the lowest bit, and the others, of a union and of an intersection
pub or_low : (a b : ℕ) → bit_or a b % 2 ≡ max (a % 2) (b % 2)
or_low a b = omega (arith, or_step a b)

pub or_half : (a b : ℕ) → bit_or a b / 2 ≡ bit_or (a / 2) (b / 2)
or_half a b = omega (arith, or_step a b)

pub and_low : (a b : ℕ) → bit_and a b % 2 ≡ min (a % 2) (b % 2)
and_low a b = omega (arith, and_step a b)

pub and_half : (a b : ℕ) → bit_and a b / 2 ≡ bit_and (a / 2) (b / 2)
and_half a b = omega (arith, and_step a b)

pub bit_of_or : (a b s : ℕ) → bit (bit_or a b) s ≡ max (bit a s) (bit b s)
bit_of_or a b s = ap (λ (x : ℕ). x % 2) (or_shr a b s) ∙ or_low (a / 2 ^ s) (b / 2 ^ s)

pub bit_of_and : (a b s : ℕ) → bit (bit_and a b) s ≡ min (bit a s) (bit b s)
bit_of_and a b s = ap (λ (x : ℕ). x % 2) (and_shr a b s) ∙ and_low (a / 2 ^ s) (b / 2 ^ s)

-- a member of a union is a member of one of the two
pub or_means : (a b s : ℕ) → (bit (bit_or a b) s ≡ 1) ↔ ((bit a s ≡ 1) ⊎ (bit b s ≡ 1))
or_means a b s = (go (bit a s) refl, ⊎_elim (λ p. omega (arith, bit_of_or a b s)) (λ p. omega (arith, bit_of_or a b s)))
  where
    go : (x : ℕ) → bit a s ≡ x → bit (bit_or a b) s ≡ 1 → (bit a s ≡ 1) ⊎ (bit b s ≡ 1)
    go zero q e = inr (omega (arith, bit_of_or a b s))
    go (suc x) q e = inl (omega arith)

-- and so for the tests
pub has_or : (a b s : ℕ) → has_bit (bit_or a b) s ≡ (has_bit a s || has_bit b s)
has_or a b s = go (ℕ_discrete (bit a s) 1)
  where
    go : Dec (bit a s ≡ 1) → has_bit (bit_or a b) s ≡ (has_bit a s || has_bit b s)
    go (yes p) = rw (eq-eqb (bit (bit_or a b) s) 1 (omega (arith, bit_of_or a b s)), eq-eqb (bit a s) 1 p)
    go (no p) = let e : bit (bit_or a b) s ≡ bit b s = omega (arith, bit_of_or a b s) in rw (e, ne_eqb (bit a s) 1 p)

-- where two masks differ
xor_low : (a b : ℕ) → bit_xor a b % 2 ≡ differ (a % 2) (b % 2)
xor_low a b = go (a % 2) (b % 2) (mod-lt a (zero-lt-suc 1)) (mod-lt b (zero-lt-suc 1)) (xor_step a b)
  where
    go : (x y : ℕ) → x < 2 → y < 2 → bit_xor a b ≡ bit_xor (a / 2) (b / 2) * 2 + differ x y → bit_xor a b % 2 ≡ differ x y
    go zero zero h g e = omega arith
    go zero (suc zero) h g e = omega arith
    go (suc zero) zero h g e = omega arith
    go (suc zero) (suc zero) h g e = omega arith
    go zero (suc (suc y)) h g e = absurd (omega arith)
    go (suc zero) (suc (suc y)) h g e = absurd (omega arith)
    go (suc (suc x)) y h g e = absurd (omega arith)

pub bit_of_xor : (a b s : ℕ) → bit (bit_xor a b) s ≡ differ (bit a s) (bit b s)
bit_of_xor a b s = ap (λ (x : ℕ). x % 2) (xor_shr a b s) ∙ xor_low (a / 2 ^ s) (b / 2 ^ s)

-- the members of a that are none of b: a differs there from what the two share
pub has_except : (a b s : ℕ) → has_bit (bit_xor a (bit_and a b)) s ≡ (has_bit a s && not (has_bit b s))
has_except a b s = rw (bit_of_xor a (bit_and a b) s, bit_of_and a b s) (go (bit a s) (bit b s) (bit_lt a s) (bit_lt b s))
  where
    go : (x y : ℕ) → x < 2 → y < 2 → eqb (differ x (min x y)) 1 ≡ (eqb x 1 && not (eqb y 1))
    go zero zero h g = refl
    go zero (suc zero) h g = refl
    go (suc zero) zero h g = refl
    go (suc zero) (suc zero) h g = refl
    go zero (suc (suc y)) h g = absurd (omega arith)
    go (suc zero) (suc (suc y)) h g = absurd (omega arith)
    go (suc (suc x)) y h g = absurd (omega arith)

-- ---- extensionality

none : (b : ℕ) → ((s : ℕ) → bit b s ≡ 0) → b ≡ 0
none =
    bin_ind (λ (n : ℕ). ((s : ℕ) → bit n s ≡ 0) → n ≡ 0) (λ h. refl)
    (λ n ih h. omega (arith, ih (λ s. bit_half n s ∙ h (suc s)), bit_zero n, h 0))

pub same_bits : (a b : ℕ) → ((s : ℕ) → bit a s ≡ bit b s) → a ≡ b
same_bits =
    bin_ind (λ (n : ℕ). (b : ℕ) → ((s : ℕ) → bit n s ≡ bit b s) → n ≡ b)
    (λ b h. sym (none b (λ s. sym (h s) ∙ bit_none s)))
    (λ n ih b h. omega (arith, ih (b / 2) (λ s. bit_half n s ∙ h (suc s) ∙ sym (bit_half b s)), bit_zero n, bit_zero b, h 0))

-- ---- parts

-- a is a part of b
abbrev pub Within : ℕ → ℕ → Type 0
Within a b = (s : ℕ) → bit a s ≤ bit b s

pub within_or_left : (a b : ℕ) → Within a (bit_or a b)
within_or_left a b s = omega (arith, bit_of_or a b s)

pub within_or_right : (a b : ℕ) → Within b (bit_or a b)
within_or_right a b s = omega (arith, bit_of_or a b s)

-- ---- what a union adds

-- a member of b that is none of a
pub record Beyond (a b : ℕ) : Type 0 where
  pub member : ℕ
  pub inside : bit b member ≡ 1
  pub outside : bit a member ≡ 0

beyond : (b a : ℕ) → (bit_or a b ≡ a → ⊥) → Beyond a b
beyond = bin_ind (λ (n : ℕ). (a : ℕ) → (bit_or a n ≡ a → ⊥) → Beyond a n) (λ a h. absurd (h (or_zero_r a))) step
  where
    step : (n : ℕ) → ((a : ℕ) → (bit_or a (n / 2) ≡ a → ⊥) → Beyond a (n / 2)) → (a : ℕ) → (bit_or a n ≡ a → ⊥) → Beyond a n
    step n ih a h = go (dec_lt (a % 2) (n % 2))
      where
        go : Dec (a % 2 < n % 2) → Beyond a n
        go (yes l) = record { member = 0; inside = omega (arith, bit_zero n); outside = omega (arith, bit_zero a) }
        go (no l) =
            let r = ih (a / 2) (λ e. h (omega (arith, or_low a n, or_half a n))) in
            record { member = suc r.member; inside = sym (bit_half n r.member) ∙ r.inside; outside = sym (bit_half a r.member) ∙ r.outside }

-- the union of a and b is not a exactly if b has such a member
pub beyond_means : (a b : ℕ) → (bit_or a b ≡ a → ⊥) ↔ Beyond a b
beyond_means a b = (beyond b a, λ r e. omega (arith, bit_of_or a b r.member, ap (λ (m : ℕ). bit m r.member) e, r.inside, r.outside))

-- ---- the width

-- no bit at or above w
pub below_bit : (w m s : ℕ) → m < 2 ^ w → w ≤ s → bit m s ≡ 0
below_bit w m s h l = ap (λ (x : ℕ). x % 2) (div-eq_of_lt (lt_of_lt_of_le h (pow_mono l)))

pub bits_below : (w m : ℕ) → ((s : ℕ) → w ≤ s → bit m s ≡ 0) → m < 2 ^ w
bits_below w m h =
    subst (λ (x : ℕ). m < x) (one-mul (2 ^ w))
    ((div-lt_iff_lt-mul (pow_pos w)).0 (omega (arith, none (m / 2 ^ w) (λ s. ap (λ (x : ℕ). x % 2) (shr-shr m w s) ∙ h (w + s) (omega arith)))))

-- every member of m is below w exactly if no bit at or above w is set
pub below_means : (w m : ℕ) → (is_below w m ≡ true) ↔ ((s : ℕ) → w ≤ s → bit m s ≡ 0)
below_means w m = (λ e s l. below_bit w m s (ltb-true m (2 ^ w) e) l, λ h. lt-ltb m (2 ^ w) (bits_below w m h))

-- ---- one bit

pub bit_same : (s : ℕ) → bit (2 ^ s) s ≡ 1
bit_same s = ap (λ (x : ℕ). x % 2) (div_self (pow_pos s))

pub bit_other : (s k : ℕ) → (k ≡ s → ⊥) → bit (2 ^ s) k ≡ 0
bit_other zero zero h = absurd (h refl)
bit_other zero (suc k) h = below_bit 1 1 (suc k) (omega arith) (omega arith)
bit_other (suc s) zero h = bit_zero (2 ^ suc s) ∙ ap (λ (x : ℕ). x % 2) (pow-suc 2 s) ∙ mul-mod_left (2 ^ s) 2
bit_other (suc s) (suc k) h =
    sym (bit_half (2 ^ suc s) k) ∙ ap (λ (x : ℕ). bit (x / 2) k) (pow-suc 2 s) ∙ ap (λ (x : ℕ). bit x k) (mul-div_cancel (2 ^ s) (zero-lt-suc 1))
    ∙ bit_other s k (λ e. h (ap suc e))

pub bit_with : (m s k : ℕ) → bit (with_bit m s) k ≡ max (bit m k) (bit (2 ^ s) k)
bit_with m s k = bit_of_or m (2 ^ s) k

-- the members of m with s are those of m, and s
pub with_means : (m s k : ℕ) → (bit (with_bit m s) k ≡ 1) ↔ ((bit m k ≡ 1) ⊎ (s ≡ k))
with_means m s k = (
  λ e. ⊎_elim inl (λ p. inr (is (ℕ_discrete k s) p)) ((or_means m (2 ^ s) k).0 e),
  λ h. (or_means m (2 ^ s) k).1 (⊎_elim inl (λ q. inr (ap (bit (2 ^ s)) (sym q) ∙ bit_same s)) h),
)
  where
    is : Dec (k ≡ s) → bit (2 ^ s) k ≡ 1 → s ≡ k
    is (yes q) p = sym q
    is (no f) p = absurd (omega (arith, bit_other s k f))

-- the set of p alone and m have nothing in common exactly where p is not a member of m
pub meets_not : (m p : ℕ) → eqb (bit_and (with_bit 0 p) m) 0 ≡ not (has_bit m p)
meets_not m p = go (has_bit m p) refl
  where
    alone : bit (with_bit 0 p) p ≡ 1
    alone = (with_means 0 p p).1 (inr refl)

    common : (k : ℕ) → bit (bit_and (with_bit 0 p) m) k ≡ min (bit (with_bit 0 p) k) (bit m k)
    common = bit_of_and (with_bit 0 p) m

    nothing : bit m p ≡ 0 → (k : ℕ) → bit (bit_and (with_bit 0 p) m) k ≡ bit 0 k
    nothing e k = other (bit (with_bit 0 p) k) refl
      where
        other : (b : ℕ) → bit (with_bit 0 p) k ≡ b → bit (bit_and (with_bit 0 p) m) k ≡ bit 0 k
        other zero g = omega (arith, common k, g, bit_none k)
        other (suc b) g = either ((with_means 0 p k).0 (omega (arith, g, bit_lt (with_bit 0 p) k)))
          where
            either : (bit 0 k ≡ 1) ⊎ (p ≡ k) → bit (bit_and (with_bit 0 p) m) k ≡ bit 0 k
            either (inl z) = absurd (omega (arith, z, bit_none k))
            either (inr q) = omega (arith, common k, e, ap (bit m) q, bit_none k)

    go : (b : Bool) → has_bit m p ≡ b → eqb (bit_and (with_bit 0 p) m) 0 ≡ not b
    go true e = ne_eqb (bit_and (with_bit 0 p) m) 0 (λ z. omega (arith, common p, alone, eqb-true (bit m p) 1 e, ap (λ (k : ℕ). bit k p) z, bit_none p))
    go false e = eq-eqb (bit_and (with_bit 0 p) m) 0 (same_bits (bit_and (with_bit 0 p) m) 0 (nothing (omega (arith, eqb-false (bit m p) 1 e, bit_lt m p))))

-- ---- all numbers below n

pub full_bit : (n s : ℕ) → s < n → bit (all_below n) s ≡ 1
full_bit zero s h = absurd (not-suc-le-zero h)
full_bit (suc n) zero h = omega (arith, bit_zero (2 ^ suc n - 1), pow-suc 2 n, pow_pos n)
full_bit (suc n) (suc s) h =
    sym (bit_half (2 ^ suc n - 1) s) ∙ ap (λ (x : ℕ). bit x s) half ∙ full_bit n s (le_of_suc-le-suc h)
  where
    half : (2 ^ suc n - 1) / 2 ≡ 2 ^ n - 1
    half = omega (arith, pow-suc 2 n, pow_pos n)

-- a mask with no member at or above n and all below is the mask of all
pub full : (n m : ℕ) → m < 2 ^ n → ((s : ℕ) → s < n → bit m s ≡ 1) → m ≡ all_below n
full n m h all = same_bits m (2 ^ n - 1) (λ s. go s (dec_lt s n))
  where
    go : (s : ℕ) → Dec (s < n) → bit m s ≡ bit (2 ^ n - 1) s
    go s (yes l) = all s l ∙ sym (full_bit n s l)
    go s (no f) = below_bit n m s h (omega arith) ∙ sym (below_bit n (2 ^ n - 1) s (ones_lt n) (omega arith))
