-- What a mask that is put together member by member holds; runs as numbers. Assumes nothing.
use Rattle.std.specs.Prelude.{◌≡◌, refl, ◌↔◌}
use Rattle.std.proofs.Math.Path.{sym, ap}
use Rattle.std.proofs.Common.{ap₂, subst, ◌∙◌, add-zero, add-suc, add_comm, zero-mul, one-mul, mul-one, add-mul, pow-suc, mod-lt, not-suc-le-zero, le_of_suc-le-suc, eq-or-lt_of_le, mod-eq_of_lt, arith, pow-add, pow_pos, shl_lt}
use Rattle.std.proofs.Math.Logic.{⊎_elim}
use Prim.Native.Nat.{ℕ, zero, suc, ◌+◌, ◌-◌, ◌*◌, ◌%◌, ◌^◌, ◌≤◌, ◌<◌}
use Rattle.std.proofs.Math.Nat.{mod-add-mod, add-mod_left, le_refl, le_step}
use Rattle.std.proofs.Math.Decide.{ℕ_discrete}
use Rattle.std.specs.Int.Bits.{bit_or, or_shifted_r, or_zero_r}
use Rattle.std.proofs.Math.Pow.{ones_lt}
use Rattle.bitmap.specs.Mask.{bit, with_bit, all_below, gather, run, run_modulo}
use Rattle.bitmap.specs.MaskLaws.{bit_of_or, bit_none, bit_lt, bit_with, bit_same, bit_other, same_bits}

-- ---- the members of a gathered mask

-- one of the first k is s
pub record Among (f : ℕ → ℕ) (k s : ℕ) : Type 0 where
  pub place : ℕ
  pub inside : place < k
  pub here : f place ≡ s

module _ (f : ℕ → ℕ) (s : ℕ) where
  forth : (k : ℕ) → bit (gather f k) s ≡ 1 → Among f k s
  unfolding gather
  forth zero e = absurd (omega (arith, bit_none s))
  forth (suc k) e = go (ℕ_discrete s (f k)) (forth k)
    where
      go : Dec (s ≡ f k) → (bit (gather f k) s ≡ 1 → Among f k s) → Among f (suc k) s
      go (yes q) ih = record { place = k; inside = le_refl (suc k); here = sym q }
      go (no n) ih =
          let a = ih (omega (arith, bit_with (gather f k) (f k) s, bit_other (f k) s n)) in
          record { place = a.place; inside = le_step a.inside; here = a.here }

  back : (k i : ℕ) → i < k → f i ≡ s → bit (gather f k) s ≡ 1
  unfolding gather
  back zero i h e = absurd (not-suc-le-zero h)
  back (suc k) i h e =
      ⊎_elim
      (λ q. let t : bit (2 ^ f k) s ≡ 1 = ap (λ (j : ℕ). bit (2 ^ f j) s) (sym q) ∙ ap (bit (2 ^ f i)) (sym e) ∙ bit_same (f i) in omega (arith, bit_with (gather f k) (f k) s, bit_lt (gather f k) s))
      (λ q. omega (arith, bit_with (gather f k) (f k) s, back k i q e, bit_lt (2 ^ f k) s))
      (eq-or-lt_of_le (le_of_suc-le-suc h))

  pub gather_means : (k : ℕ) → (bit (gather f k) s ≡ 1) ↔ Among f k s
  gather_means k = (forth k, λ a. back k a.place a.inside a.here)

-- ---- how masks are gathered

pub or_assoc : (a b c : ℕ) → bit_or (bit_or a b) c ≡ bit_or a (bit_or b c)
or_assoc a b c = same_bits (bit_or (bit_or a b) c) (bit_or a (bit_or b c)) λ s.
    omega (arith, bit_of_or (bit_or a b) c s, bit_of_or a b s, bit_of_or a (bit_or b c) s, bit_of_or b c s)

pub gather_same : (f g : ℕ → ℕ) (k : ℕ) → ((i : ℕ) → i < k → f i ≡ g i) → gather f k ≡ gather g k
unfolding gather
gather_same f g zero h = refl
gather_same f g (suc k) h = ap₂ with_bit (gather_same f g k (λ i l. h i (le_step l))) (h k (le_refl (suc k)))

-- the first i, and j more
pub gather_more : (f : ℕ → ℕ) (i j : ℕ) → gather f (i + j) ≡ bit_or (gather f i) (gather (λ (x : ℕ). f (i + x)) j)
unfolding gather
gather_more f i zero = ap (gather f) (add-zero i) ∙ sym (or_zero_r (gather f i))
gather_more f i (suc j) =
    ap (gather f) (add-suc i j) ∙ ap (λ (x : ℕ). with_bit x (f (i + j))) (gather_more f i j)
    ∙ or_assoc (gather f i) (gather (λ (x : ℕ). f (i + x)) j) (2 ^ f (i + j))

-- ---- runs

-- a run as a number
pub run_is : (a k : ℕ) → run a k ≡ (2 ^ k - 1) * 2 ^ a
unfolding gather
run_is a zero = sym (zero-mul (2 ^ a))
run_is a (suc k) =
    let x = 2 ^ k - 1 in
    let top : 2 ^ (a + k) ≡ 2 ^ k * 2 ^ a = ap (λ (e : ℕ). 2 ^ e) (add_comm a k) ∙ pow-add 2 k a in
    let low : x * 2 ^ a < 2 ^ (a + k) = subst (λ (e : ℕ). x * 2 ^ a < 2 ^ e) (add_comm k a) (shl_lt k a (ones_lt k)) in
    let joined : bit_or (x * 2 ^ a) (2 ^ (a + k)) ≡ 1 * 2 ^ (a + k) + x * 2 ^ a = ap (bit_or (x * 2 ^ a)) (sym (one-mul (2 ^ (a + k)))) ∙ or_shifted_r 1 (a + k) (x * 2 ^ a) low in
    let twice : (2 ^ suc k - 1) * 2 ^ a ≡ x * 2 ^ a + 2 ^ k * 2 ^ a = ap (λ (z : ℕ). z * 2 ^ a) (omega (arith, pow-suc 2 k, pow_pos k)) ∙ add-mul x (2 ^ k) (2 ^ a) in
    ap (λ (m : ℕ). with_bit m (a + k)) (run_is a k) ∙ joined ∙ omega (arith, top, twice)

-- a run from 0 is all numbers below its length
pub run_all : (n : ℕ) → run 0 n ≡ all_below n
run_all n = run_is 0 n ∙ mul-one (2 ^ n - 1)

-- a run modulo w that does not reach w
pub run_flat : (w a k : ℕ) → a % w + k ≤ w → run_modulo w a k ≡ run (a % w) k
run_flat w a k h =
    gather_same (λ (i : ℕ). (a + i) % w) (λ (i : ℕ). a % w + i) k (λ i l. sym (mod-add-mod a w i) ∙ mod-eq_of_lt (omega arith))

-- one that does: it goes on from 0
pub run_wraps : (w a k : ℕ) → 0 < w → k ≤ w → w ≤ a % w + k → run_modulo w a k ≡ bit_or (run (a % w) (w - a % w)) (run 0 (a % w + k - w))
run_wraps w a k p h l =
    let r = a % w in
    let i = w - r in
    let j = r + k - w in
    let u : r < w = mod-lt a p in
    let n : k ≡ i + j = omega arith in
    ap (run_modulo w a) n ∙ gather_more (λ (x : ℕ). (a + x) % w) i j
    ∙ ap₂ bit_or (run_flat w a i (omega arith)) (gather_same (λ (x : ℕ). (a + (i + x)) % w) (λ (x : ℕ). 0 + x) j (λ x g. again x g u))
  where
    again : (x : ℕ) → x < a % w + k - w → a % w < w → (a + (w - a % w + x)) % w ≡ 0 + x
    again x g u =
        sym (mod-add-mod a w (w - a % w + x)) ∙ ap (λ (z : ℕ). z % w) (omega arith) ∙ add-mod_left w x ∙ mod-eq_of_lt (omega arith) ∙ omega arith
