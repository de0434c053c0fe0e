-- The number that `round` keeps: no value of the format is nearer, and where another is as near it is even. Assumes nothing.
use Rattle.std.specs.Prelude.{◌≡◌, refl, ◌⊎◌, Bool, true, false, not, T, leb, eqb}
use Rattle.std.proofs.Common.{sym, ap, ◌∙◌, subst, inl, inr, le_trans, le_of_eq, le_of_lt, lt_of_lt_of_le, lt_of_le_of_lt, lt_irrefl, suc-mul, mod-lt, div-add-mod', le-div_iff_mul-le, mul_comm, mul_assoc, mul-pos, mul-le-mul_right, mul-lt-mul_of_pos_right, arith, leb→le, eqb→eq, pow-add, pow_pos, pow_mono, shl_lt, leb-true, leb-false}
use Prim.Native.Nat.{ℕ, zero, suc, ◌+◌, ◌-◌, ◌*◌, ◌/◌, ◌%◌, ◌^◌, ◌≤◌, ◌<◌, compare, Ordering}
use Rattle.std.proofs.Math.Dec.{is_le, compare_is_eq, nleb→lt, eqb_refl}
use Rattle.std.proofs.Math.Arith.{lt_of_le-ne}
use Rattle.std.specs.Float.{Format}
use Rattle.std.specs.Float.Ieee.{prec, low, size, nearest}
use Rattle.std.specs.Float.Ieee.Digits.{size_reaches, back}
use Rattle.std.specs.Float.Ieee.Fits.{two, two-le_pos}
use Rattle.std.specs.Float.Ieee.Nearest.{closest}
use Rattle.std.specs.Float.Ieee.Order.{drop, kept}
use Rattle.std.specs.Float.Ieee.Scale.{grid}
use Rattle.rounding.specs.Nearest.{dist}

-- ---- what `compare` says
abbrev Cmp : Ordering → ℕ → ℕ → Type 0
Cmp Ordering.lt a b = a < b
Cmp Ordering.eq a b = a ≡ b
Cmp Ordering.gt a b = b < a

cmp : (a b : ℕ) → Cmp (compare a b) a b
cmp a b = go (compare a b) (leb→le a b) (nleb→lt a b) (eqb→eq a b) (λ (e : a ≡ b). subst (λ (x : ℕ). T (eqb a x)) e (eqb_refl a))
  where
    go : (o : Ordering) → (T (is_le o) → a ≤ b) → (T (not (is_le o)) → b < a) → (T (compare_is_eq o) → a ≡ b) → (a ≡ b → T (compare_is_eq o)) → Cmp o a b
    go Ordering.lt h k e n = lt_of_le-ne (h tt) n
    go Ordering.eq h k e n = e tt
    go Ordering.gt h k e n = k tt

-- ---- a whole number z of units u against w of them
below_or_above : (w u z : ℕ) → (z * u ≤ w * u) ⊎ (w * u + u ≤ z * u)
below_or_above w u z = go (leb z w) refl
  where
    go : (t : Bool) → leb z w ≡ t → (z * u ≤ w * u) ⊎ (w * u + u ≤ z * u)
    go true e = inl (mul-le-mul_right u (leb-true z w e))
    go false e = inr (le_trans (le_of_eq (sym (suc-mul w u))) (mul-le-mul_right u (leb-false z w e)))

apart : (w u z : ℕ) → (z ≡ w → ⊥) → (z * u + u ≤ w * u) ⊎ (w * u + u ≤ z * u)
apart w u z ne = go (leb z w) refl
  where
    go : (t : Bool) → leb z w ≡ t → (z * u + u ≤ w * u) ⊎ (w * u + u ≤ z * u)
    go true e = inl (le_trans (le_of_eq (sym (suc-mul z u))) (mul-le-mul_right u (lt_of_le-ne (leb-true z w e) ne)))
    go false e = inr (le_trans (le_of_eq (sym (suc-mul w u))) (mul-le-mul_right u (leb-false z w e)))

parity : (w : ℕ) → (w % 2 ≡ 0) ⊎ (w % 2 ≡ 1)
parity w = go (w % 2) refl (mod-lt w (omega arith))
  where
    go : (m : ℕ) → w % 2 ≡ m → m < 2 → (w % 2 ≡ 0) ⊎ (w % 2 ≡ 1)
    go zero e h = inl e
    go (suc zero) e h = inr e
    go (suc (suc m)) e h = absurd (omega arith)

-- ---- n is w units and r, so its neighbours are w and w + 1
module _ (w r u n : ℕ) (e : w * u + r ≡ n) (h : r < u) where
  low_near : (z : ℕ) → r * 2 ≤ u → dist n (w * u) ≤ dist n (z * u)
  low_near z g = go (below_or_above w u z)
    where
      go : (z * u ≤ w * u) ⊎ (w * u + u ≤ z * u) → dist n (w * u) ≤ dist n (z * u)
      go (inl k) = omega arith
      go (inr k) = omega arith

  high_near : (z : ℕ) → u ≤ r * 2 → dist n (suc w * u) ≤ dist n (z * u)
  high_near z g = rw (suc-mul w u) (go (below_or_above w u z))
    where
      go : (z * u ≤ w * u) ⊎ (w * u + u ≤ z * u) → dist n (w * u + u) ≤ dist n (z * u)
      go (inl k) = omega arith
      go (inr k) = omega arith

  near_at : (o : Ordering) (z : ℕ) → Cmp o (r * 2) u → dist n (nearest w o * u) ≤ dist n (z * u)
  near_at Ordering.lt z c = low_near z (omega arith)
  near_at Ordering.gt z c = high_near z (omega arith)
  near_at Ordering.eq z c = go (parity w)
    where
      go : (w % 2 ≡ 0) ⊎ (w % 2 ≡ 1) → dist n ((w + w % 2) * u) ≤ dist n (z * u)
      go (inl p) = let q : w + w % 2 ≡ w = omega arith in rw q (low_near z (omega arith))
      go (inr p) = let q : w + w % 2 ≡ suc w = omega arith in rw q (high_near z (omega arith))

  even_at : (o : Ordering) (z : ℕ) → Cmp o (r * 2) u → dist n (nearest w o * u) ≡ dist n (z * u) → (z ≡ nearest w o → ⊥) → nearest w o % 2 ≡ 0
  even_at Ordering.lt z c d ne = go (apart w u z ne)
    where
      go : (z * u + u ≤ w * u) ⊎ (w * u + u ≤ z * u) → w % 2 ≡ 0
      go (inl k) = absurd (omega arith)
      go (inr k) = absurd (omega arith)
  even_at Ordering.gt z c d ne = go (apart (suc w) u z ne)
    where
      m : suc w * u ≡ w * u + u
      m = suc-mul w u

      go : (z * u + u ≤ suc w * u) ⊎ (suc w * u + u ≤ z * u) → suc w % 2 ≡ 0
      go (inl k) = absurd (omega (arith, m))
      go (inr k) = absurd (omega (arith, m))
  even_at Ordering.eq z c d ne = omega arith

-- no whole number of units is nearer to n than the closest
closest_near : (n u z : ℕ) → 0 < u → dist n (closest n u * u) ≤ dist n (z * u)
closest_near n u z U = near_at (n / u) (n % u) u n (div-add-mod' n u) (mod-lt n U) (compare (n % u * 2) u) z (cmp (n % u * 2) u)

-- and where another is as near, the closest is even
closest_even : (n u z : ℕ) → 0 < u → dist n (closest n u * u) ≡ dist n (z * u) → (z ≡ closest n u → ⊥) → closest n u % 2 ≡ 0
closest_even n u z U d ne = even_at (n / u) (n % u) u n (div-add-mod' n u) (mod-lt n U) (compare (n % u * 2) u) z (cmp (n % u * 2) u) d ne

farther : (n b a : ℕ) → a < b → b ≤ n → dist n b < dist n a
farther n b a h k = omega arith

-- ---- n / c, rounded to p digits, against q * 2 ^ j with a q of at most p digits
module _ (p n c : ℕ) (P : 0 < p) (C : 0 < c) where
  unit : (z : ℕ) → z * 2 ^ drop p n c * c ≡ z * (c * 2 ^ drop p n c)
  unit z = mul_assoc z (2 ^ drop p n c) c ∙ ap (λ (x : ℕ). z * x) (mul_comm (2 ^ drop p n c) c)

  U : 0 < c * 2 ^ drop p n c
  U = mul-pos C (pow_pos (drop p n c))

  -- one with no digit among those that are dropped
  coarse : (z : ℕ) → dist n (kept p n c * 2 ^ drop p n c * c) ≤ dist n (z * 2 ^ drop p n c * c)
  coarse z = rw (unit (kept p n c), unit z) (closest_near n (c * 2 ^ drop p n c) z U)

  -- a finer one: the power of two below n / c is nearer
  fine : (q j : ℕ) → q < 2 ^ p → j < drop p n c → dist n (kept p n c * 2 ^ drop p n c * c) < dist n (q * 2 ^ j * c)
  fine q j h g =
      let k = drop p n c in
      let a : p - 1 + k < size (n / c) = omega arith in
      let b : 2 ^ (p - 1 + k) * c ≤ n = (le-div_iff_mul-le C).0 (size_reaches (n / c) (p - 1 + k) a) in
      let i : p + j ≤ p - 1 + k = omega arith in
      let d : q * 2 ^ j * c < 2 ^ (p - 1 + k) * c = mul-lt-mul_of_pos_right (lt_of_lt_of_le (shl_lt p j h) (pow_mono i)) C in
      let m : 2 ^ (p - 1) * 2 ^ k * c ≡ 2 ^ (p - 1 + k) * c = ap (λ (x : ℕ). x * c) (sym (pow-add 2 (p - 1) k)) in
      lt_of_le_of_lt (coarse (2 ^ (p - 1))) (rw m (farther n (2 ^ (p - 1 + k) * c) (q * 2 ^ j * c) d b))

  -- a coarser one has no such digit either
  shift : (q j : ℕ) → drop p n c ≤ j → q * 2 ^ (j - drop p n c) * 2 ^ drop p n c ≡ q * 2 ^ j
  shift q j h =
      let k = drop p n c in
      mul_assoc q (2 ^ (j - k)) (2 ^ k) ∙ ap (λ (x : ℕ). q * x) (sym (pow-add 2 (j - k) k) ∙ ap (λ (x : ℕ). 2 ^ x) (back j k h))

  kept_near : (q j : ℕ) → q < 2 ^ p → dist n (kept p n c * 2 ^ drop p n c * c) ≤ dist n (q * 2 ^ j * c)
  kept_near q j h = go (leb (drop p n c) j) refl
    where
      go : (t : Bool) → leb (drop p n c) j ≡ t → dist n (kept p n c * 2 ^ drop p n c * c) ≤ dist n (q * 2 ^ j * c)
      go true e =
          subst (λ (x : ℕ). dist n (kept p n c * 2 ^ drop p n c * c) ≤ dist n (x * c)) (shift q j (leb-true (drop p n c) j e)) (coarse (q * 2 ^ (j - drop p n c)))
      go false e = le_of_lt (fine q j h (leb-false (drop p n c) j e))

  kept_even : (q j : ℕ) → q < 2 ^ p → dist n (kept p n c * 2 ^ drop p n c * c) ≡ dist n (q * 2 ^ j * c)
      → (q * 2 ^ j ≡ kept p n c * 2 ^ drop p n c → ⊥) → kept p n c % 2 ≡ 0
  kept_even q j h d ne = go (leb (drop p n c) j) refl
    where
      go : (t : Bool) → leb (drop p n c) j ≡ t → kept p n c % 2 ≡ 0
      go true e =
          let k = drop p n c in
          let m = shift q j (leb-true k j e) in
          closest_even n (c * 2 ^ k) (q * 2 ^ (j - k)) U
          (ap (dist n) (sym (unit (kept p n c))) ∙ d ∙ ap (dist n) (ap (λ (x : ℕ). x * c) (sym m) ∙ unit (q * 2 ^ (j - k))))
          (λ (z : q * 2 ^ (j - k) ≡ kept p n c). ne (sym m ∙ ap (λ (x : ℕ). x * 2 ^ k) z))
      go false e = absurd (lt_irrefl _ (rw d at (fine q j h (leb-false (drop p n c) j e))))

-- In units of the format's smallest value num / den is num * 2 ^ low / den, `round` gives `grid`, which is `kept` times a power of two, and the values of
-- the format are q * 2 ^ j with q below 2 ^ prec. None of these is nearer, each distance taken times den.
pub grid_near : (f : Format) (num den q j : ℕ) → 0 < den → q < 2 ^ prec f
    → dist (num * 2 ^ low f) (grid f num den * den) ≤ dist (num * 2 ^ low f) (q * 2 ^ j * den)
grid_near f num den q j D h = kept_near (prec f) (num * 2 ^ low f) den (two-le_pos (prec f) (two f)) D q j h

-- and where another is as near, the kept number is even
pub grid_even : (f : Format) (num den q j : ℕ) → 0 < den → q < 2 ^ prec f
    → dist (num * 2 ^ low f) (grid f num den * den) ≡ dist (num * 2 ^ low f) (q * 2 ^ j * den) → (q * 2 ^ j ≡ grid f num den → ⊥)
    → kept (prec f) (num * 2 ^ low f) den % 2 ≡ 0
grid_even f num den q j D h = kept_even (prec f) (num * 2 ^ low f) den (two-le_pos (prec f) (two f)) D q j h
