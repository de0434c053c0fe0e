-- Total order is total, transitive and, on values that fit, antisymmetric; it agrees with `<=` on numbers; what the larger of two is.
-- Assumes nothing.
use Rattle.std.specs.Prelude.{◌⊎◌, ◌≡◌, refl, Bool, true, false, cond, ℕ, ◌+◌, ◌-◌, ◌*◌, ◌/◌, ◌^◌, ◌<◌, ℤ, T, Float}
use Rattle.std.proofs.Common.{inl, inr, sym, ap, subst, ◌∙◌, true≢false, le_of_lt, le_antisymm, mul_right_comm, leb-true, leb-false, le-leb}
use Rattle.std.proofs.Math.Bool.{and-eq-true_iff}
use Rattle.std.specs.Float.{nan, inf, fin, binary64}
use Rattle.std.specs.Float.Ieee.{up, down, le, eq, fits, to_bits, of_bits, low, is_nan, size, prec, top, hid}
use Rattle.std.specs.Float.Ieee.Fits.{down_pos}
use Rattle.std.specs.Float.Ieee.Nearest.{div_same}
use Rattle.std.specs.Float.Ieee.Bits.{of_bits-to_bits}
use Rattle.std.specs.Float.Ieee.Positive.{through}
use Rattle.floats.specs.NumberLaws.{AtMost, number, test, holds, zero_eq}
use Rattle.floats.specs.Floats.{plus_zero, signed_le, total_le, is_same, larger}

no : {X : Type 0} → false ≡ true → X
no p = absurd (true≢false (sym p))

no' : {X : Type 0} → true ≡ false → X
no' p = absurd (true≢false p)

signed_total : (s : Bool) (a : ℕ) (t : Bool) (b : ℕ) → signed_le s a t b ≡ false → signed_le t b s a ≡ true
signed_total false a false b p = le-leb b a (le_of_lt (leb-false a b p))
signed_total false a true b p = refl
signed_total true a false b p = no' p
signed_total true a true b p = le-leb a b (le_of_lt (leb-false b a p))

pub total : (x y : Float) → total_le x y ≡ false → total_le y x ≡ true
unfolding total_le
total nan nan p = refl
total nan (inf t) p = refl
total nan (fin t n d) p = refl
total (inf s) nan p = no' p
total (inf true) (inf t) p = no' p
total (inf false) (inf true) p = refl
total (inf false) (inf false) p = refl
total (inf true) (fin t n d) p = no' p
total (inf false) (fin t n d) p = refl
total (fin s m e) nan p = no' p
total (fin s m e) (inf true) p = refl
total (fin s m e) (inf false) p = no' p
total (fin s m e) (fin t n d) p = signed_total s (m * up e * down d) t (n * up d * down e) p

-- nothing else is above a NaN
pub nan_above : (x : Float) → total_le nan x ≡ true → x ≡ nan
unfolding total_le
nan_above nan p = refl
nan_above (inf t) p = no p
nan_above (fin t n d) p = no p

self : (x : Float) → total_le x x ≡ true
self x = go (total_le x x) refl
  where
    go : (b : Bool) → total_le x x ≡ b → total_le x x ≡ true
    go true e = e
    go false e = total x x e

-- the larger is one of the two, and both are at most it; where the second is a NaN it is the first
pub record Larger (a b x : Float) : Type 0 where
  pub one_of : (x ≡ a) ⊎ (x ≡ b)
  pub above_first : total_le a x ≡ true
  pub above_second : total_le b x ≡ true

pub larger_means : (a b : Float) → is_nan b ≡ false → Larger a b (larger a b)
unfolding larger
larger_means a b w = rw w (go (total_le a b) refl)
  where
    go : (t : Bool) → total_le a b ≡ t → Larger a b (cond t b a)
    go true e = record { one_of = inr refl; above_first = e; above_second = self b }
    go false e = record { one_of = inl refl; above_first = self a; above_second = total a b e }

pub larger_nan : (a b : Float) → is_nan b ≡ true → larger a b ≡ a
unfolding larger
larger_nan a b w = rw w

-- fractions x / p, y / q, z / r with signs
signed_trans : (s t u : Bool) (x y z p q r : ℕ) → 0 < q → signed_le s (x * q) t (y * p) ≡ true → signed_le t (y * r) u (z * q) ≡ true → signed_le s (x * r) u (z * p) ≡ true
signed_trans true t false x y z p q r Q h k = refl
signed_trans false false false x y z p q r Q h k = le-leb _ _ (through x y z p q r Q (leb-true _ _ h) (leb-true _ _ k))
signed_trans true true true x y z p q r Q h k = le-leb _ _ (through z y x r q p Q (leb-true _ _ k) (leb-true _ _ h))
signed_trans false true u x y z p q r Q h k = no h
signed_trans false false true x y z p q r Q h k = no k
signed_trans true false true x y z p q r Q h k = no k

pub trans : (x y z : Float) → total_le x y ≡ true → total_le y z ≡ true → total_le x z ≡ true
unfolding total_le
trans nan nan z h k = k
trans nan (inf t) z h k = no h
trans nan (fin t n d) z h k = no h
trans (inf s) y nan h k = refl
trans (inf true) y (inf u) h k = refl
trans (inf true) y (fin u l c) h k = refl
trans (inf false) nan (inf u) h k = no k
trans (inf false) nan (fin u l c) h k = no k
trans (inf false) (inf true) (inf u) h k = no h
trans (inf false) (inf true) (fin u l c) h k = no h
trans (inf false) (inf false) (inf u) h k = k
trans (inf false) (inf false) (fin u l c) h k = k
trans (inf false) (fin t n d) (inf u) h k = no h
trans (inf false) (fin t n d) (fin u l c) h k = no h
trans (fin s m e) y nan h k = refl
trans (fin s m e) y (inf false) h k = refl
trans (fin s m e) nan (inf true) h k = no k
trans (fin s m e) (inf true) (inf true) h k = no h
trans (fin s m e) (inf false) (inf true) h k = no k
trans (fin s m e) (fin t n d) (inf true) h k = no k
trans (fin s m e) nan (fin u l c) h k = no k
trans (fin s m e) (inf true) (fin u l c) h k = no h
trans (fin s m e) (inf false) (fin u l c) h k = no k
trans (fin s m e) (fin t n d) (fin u l c) h k = signed_trans s t u (m * up e) (n * up d) (l * up c) (down e) (down d) (down c) (down_pos d) h k

-- two finite values of one sign that are equal as numbers have the same bits
abbrev bits_of : Bool → ℕ → ℕ
bits_of s n = let k = size n - prec binary64 in cond s (top binary64) 0 + k * hid binary64 + n / 2 ^ k

bits_is : (s : Bool) (m : ℕ) (e : ℤ) → to_bits binary64 (fin s m e) ≡ bits_of s (m * up e * 2 ^ low binary64 / down e)
unfolding to_bits
bits_is s m e = refl

pub same_bits : (s : Bool) (m : ℕ) (e : ℤ) (n : ℕ) (d : ℤ) → m * up e * down d ≡ n * up d * down e → to_bits binary64 (fin s m e) ≡ to_bits binary64 (fin s n d)
same_bits s m e n d p =
    let l = 2 ^ low binary64 in
    let q : m * up e * l * down d ≡ n * up d * l * down e = mul_right_comm (m * up e) l (down d) ∙ ap (λ (z : ℕ). z * l) p ∙ mul_right_comm (n * up d) (down e) l in
    bits_is s m e ∙ ap (bits_of s) (div_same (m * up e * l) (down e) (n * up d * l) (down d) (down_pos e) (down_pos d) q) ∙ sym (bits_is s n d)

pub antisym : (x y : Float) → T (fits binary64 x) → T (fits binary64 y) → total_le x y ≡ true → total_le y x ≡ true → x ≡ y
unfolding total_le
antisym nan nan f g h k = refl
antisym nan (inf t) f g h k = no h
antisym nan (fin t n d) f g h k = no h
antisym (inf s) nan f g h k = no k
antisym (inf true) (inf true) f g h k = refl
antisym (inf true) (inf false) f g h k = no k
antisym (inf false) (inf true) f g h k = no h
antisym (inf false) (inf false) f g h k = refl
antisym (inf true) (fin t n d) f g h k = no k
antisym (inf false) (fin t n d) f g h k = no h
antisym (fin s m e) nan f g h k = no k
antisym (fin s m e) (inf true) f g h k = no h
antisym (fin s m e) (inf false) f g h k = no k
antisym (fin true m e) (fin true n d) f g h k = sym (of_bits-to_bits binary64 _ f) ∙ ap (of_bits binary64) (same_bits true m e n d (le_antisymm (leb-true _ _ k) (leb-true _ _ h))) ∙ of_bits-to_bits binary64 _ g
antisym (fin true m e) (fin false n d) f g h k = no k
antisym (fin false m e) (fin true n d) f g h k = no h
antisym (fin false m e) (fin false n d) f g h k = sym (of_bits-to_bits binary64 _ f) ∙ ap (of_bits binary64) (same_bits false m e n d (le_antisymm (leb-true _ _ h) (leb-true _ _ k))) ∙ of_bits-to_bits binary64 _ g

-- ---- total order and `<=`
signed_number : (s : Bool) (a : ℕ) (t : Bool) (b : ℕ) → signed_le s a t b ≡ true → AtMost s a t b
signed_number false a false b h = leb-true a b h
signed_number false a true b h = no h
signed_number true a false b h = tt
signed_number true a true b h = leb-true b a h

-- two doubles at one place of the order are one
pub same_means : (x y : Float) → T (fits binary64 x) → T (fits binary64 y) → is_same x y ≡ true → x ≡ y
unfolding is_same
same_means x y f g e = let p = (and-eq-true_iff (total_le x y) (total_le y x)).0 e in antisym x y f g p.0 p.1

-- what is at most y in total order is at most y as a number
pub total_number : (x y : Float) → is_nan y ≡ false → total_le x y ≡ true → le x y ≡ true
unfolding total_le le is_nan
total_number x nan w h = no' w
total_number nan (inf t) w h = no h
total_number nan (fin t n d) w h = no h
total_number (inf true) (inf true) w h = refl
total_number (inf true) (inf false) w h = refl
total_number (inf false) (inf true) w h = no h
total_number (inf false) (inf false) w h = refl
total_number (inf true) (fin t n d) w h = refl
total_number (inf false) (fin t n d) w h = no h
total_number (fin s m e) (inf true) w h = no h
total_number (fin s m e) (inf false) w h = refl
total_number (fin s m e) (fin t n d) w h =
    holds (test s (m * up e * down d) t (n * up d * down e) (signed_number s (m * up e * down d) t (n * up d * down e) h))

-- the two differ at zeros of opposite sign alone
number_signed : (s : Bool) (a : ℕ) (t : Bool) (b : ℕ) → AtMost s a t b → (signed_le s a t b ≡ true) ⊎ ((a ≡ 0) × (b ≡ 0))
number_signed false a false b h = inl (le-leb a b h)
number_signed false a true b h = inr h
number_signed true a false b h = inl refl
number_signed true a true b h = inl (le-leb b a h)

pub number_total : (x y : Float) → le x y ≡ true → (total_le x y ≡ true) ⊎ ((eq x plus_zero ≡ true) × (eq y plus_zero ≡ true))
unfolding total_le le
number_total nan y h = no h
number_total (inf s) nan h = no h
number_total (inf true) (inf t) h = inl refl
number_total (inf false) (inf true) h = no h
number_total (inf false) (inf false) h = inl refl
number_total (inf true) (fin t n d) h = inl refl
number_total (inf false) (fin t n d) h = no h
number_total (fin s m e) nan h = no h
number_total (fin s m e) (inf true) h = no h
number_total (fin s m e) (inf false) h = inl refl
number_total (fin s m e) (fin t n d) h = elim (number_signed s (m * up e * down d) t (n * up d * down e) (number s (m * up e * down d) t (n * up d * down e) (subst T (sym h) tt))) [
  | inl p ↦ inl p
  | inr z ↦ inr (zero_eq s m e d z.0, zero_eq t n d e z.1)
]
