-- A finite value that is not negative, times a probability, is no larger. Assumes nothing.
use mathlib.Core.Path.{◌≡◌, refl, sym, ap, ◌∙◌, subst}
use mathlib.Core.Bool.{Bool, true, false, ◌&&◌, ◌||◌, true≢false}
use Prim.Native.Nat.{ℕ, zero, suc, ◌+◌, ◌-◌, ◌*◌, ◌%◌, ◌^◌, ◌≤◌, ◌<◌}
use native.Mathlib.Nat.{le_refl, le_of_eq, le_trans, lt_of_le_of_lt, lt_of_lt_of_le, lt_of_not-le, not-le_of_lt, mul-pos, mul-one, zero-add, zero-mul, mul-zero, mul_assoc, mul_comm, mul_right_comm, mul-le-mul_left, mul-le-mul_right, mul-lt-mul_of_pos_right, zero-lt-suc, lt_irrefl, eq_of_mul-eq-mul_right, le_of_suc-le-suc}
use native.Mathlib.Omega.{arith}
use lib.IntN.{ℤ, pos, negsuc}
use lib.Dec.{T, leb, ltb, eqb, leb→le, ltb→lt, lt→ltb, eqb→eq, lit<}
use borrow.Author.Tests.{lt-ltb}
use lib.Pow.{pow-add, pow_pos, pow-lt}
use lib.Ieee.{Float, nan, inf, fin, Format, binary64, up, down, low, emax, prec, le, mul, round, fits, of_bits, below, level, unlike}
use lib.Ieee.Fits.{and_l, and_r, round-fits, mul-fits, up_pos, down_pos}
use lib.Ieee.Exact.{HasValue, round_exact}
use lib.Ieee.Digits.{back}
use lib.Ieee.Bits.{of_bits-to_bits}
use lib.Ieee.Order.{round_mono}
use lib.Ieee.Positive.{num, den, den_pos, positive, own_value, mul_at, le→cross}
use Rattle.floats.specs.Floats.{plus_zero, one, is_finite, is_probability, Fine}
use Rattle.floats.specs.NumberLaws.{AtMost, test, holds}
use Rattle.floats.specs.OrderLaws.{same_bits}
use Rattle.floats.specs.RangeLaws.{bounds, probability_means}

-- ---- what it takes to fit
fits_small : (s : Bool) (m : ℕ) (e : ℤ) → T (fits binary64 (fin s (suc m) e)) → (suc m < 2 ^ 53) × (down e ≤ 2 ^ 1074) × (suc m * up e < 2 ^ 1024 * down e)
unfolding fits
fits_small s m e t =
    let a : Bool = eqb (suc m % 2) 1 in
    let b : Bool = ltb (suc m) (2 ^ 53) in
    let c : Bool = leb (down e) (2 ^ 1074) in
    let d : Bool = ltb (suc m * up e) (2 ^ 1024 * down e) in
    let u : T (a && b && c) = and_l (a && b && c) d t in
    (ltb→lt (suc m) (2 ^ 53) (and_r a b (and_l (a && b) c u)), leb→le (down e) (2 ^ 1074) (and_r (a && b) c u), ltb→lt (suc m * up e) (2 ^ 1024 * down e) (and_r (a && b && c) d t))

-- ---- a value that fits is what its own fraction rounds to
shift : (q l k : ℕ) → q * 2 ^ (l + k) ≡ q * 2 ^ k * 2 ^ l
shift q l k = ap (λ (z : ℕ). q * z) (pow-add 2 l k ∙ mul_comm (2 ^ l) (2 ^ k)) ∙ sym (mul_assoc q (2 ^ k) (2 ^ l))

exponent_le : (a b : ℕ) → 2 ^ a ≤ 2 ^ b → a ≤ b
exponent_le a b h = le_of_suc-le-suc (lt_of_not-le (λ (g : suc b ≤ a). not-le_of_lt (pow-lt g) h))

split : (a l : ℕ) → a ≤ l → 2 ^ (l - a) * 2 ^ a ≡ 2 ^ l
split a l h = sym (pow-add 2 (l - a) a) ∙ ap (λ (z : ℕ). 2 ^ z) (back l a h)

own_round : (f : Format) (m : ℕ) (e : ℤ) → m < 2 ^ prec f → down e ≤ 2 ^ low f → m * up e < 2 ^ suc (emax f) * down e → HasValue (round f false (m * up e) (down e)) false (m * up e) (down e)
own_round f m (pos k) a b c =
    let l = low f in
    let E = 2 ^ suc (emax f) in
    round_exact f false (m * 2 ^ k) 1 m (l + k) (zero-lt-suc 0) a
    (lt_of_le_of_lt (le_of_eq (shift m l k)) (lt_of_lt_of_le (mul-lt-mul_of_pos_right c (pow_pos l)) (le_of_eq (ap (λ (z : ℕ). z * 2 ^ l) (mul-one E) ∙ mul_comm E (2 ^ l) ∙ sym (pow-add 2 l (suc (emax f)))))))
    (sym (mul-one (m * 2 ^ (l + k)) ∙ shift m l k))
own_round f m (negsuc k) a b c =
    let l = low f in
    let E = 2 ^ suc (emax f) in
    let h : suc k ≤ l = exponent_le (suc k) l b in
    let D = 2 ^ suc k in
    let J = 2 ^ (l - suc k) in
    let s : J * D ≡ 2 ^ l = split (suc k) l h in
    let s' : D * J ≡ 2 ^ l = mul_comm D J ∙ s in
    round_exact f false (m * 1) D m (l - suc k) (pow_pos (suc k)) a
    (lt_of_le_of_lt (le_of_eq (ap (λ (z : ℕ). z * J) (sym (mul-one m)))) (lt_of_lt_of_le (mul-lt-mul_of_pos_right c (pow_pos (l - suc k))) (le_of_eq (mul_assoc E D J ∙ ap (λ (z : ℕ). E * z) s' ∙ mul_comm E (2 ^ l) ∙ sym (pow-add 2 l (suc (emax f)))))))
    (ap (λ (z : ℕ). z * 2 ^ l) (mul-one m) ∙ ap (λ (z : ℕ). m * z) (sym s) ∙ sym (mul_assoc m J D))

-- two values that fit and have one sign and one fraction are the same
same_value : (x y : Float) (a c : ℕ) → 0 < c → T (fits binary64 x) → T (fits binary64 y) → HasValue x false a c → HasValue y false a c → x ≡ y
same_value nan y a c C f g h k = absurd h
same_value (inf s) y a c C f g h k = absurd h
same_value (fin s m e) nan a c C f g h k = absurd k
same_value (fin s m e) (inf t) a c C f g h k = absurd k
same_value (fin true m e) (fin t n d) a c C f g h k = absurd (true≢false h.0)
same_value (fin false m e) (fin true n d) a c C f g h k = absurd (true≢false k.0)
same_value (fin false m e) (fin false n d) a c C f g h k =
    sym (of_bits-to_bits binary64 (fin false m e) f) ∙ ap (of_bits binary64) (same_bits false m e n d (cross (m * up e) (down e) (n * up d) (down d) a c C h.1 k.1)) ∙ of_bits-to_bits binary64 (fin false n d) g
  where
    cross : (x p y q a c : ℕ) → 0 < c → x * c ≡ a * p → y * c ≡ a * q → x * q ≡ y * p
    cross x p y q a c C h k = eq_of_mul-eq-mul_right c C (x * q) (y * p) (mul_right_comm x q c ∙ ap (λ (z : ℕ). z * q) h ∙ mul_right_comm a p q ∙ ap (λ (z : ℕ). z * p) (sym k) ∙ mul_right_comm y c p)

pub own_is : (m : ℕ) (e : ℤ) → T (fits binary64 (fin false (suc m) e)) → round binary64 false (suc m * up e) (down e) ≡ fin false (suc m) e
own_is m e t =
    let q = fits_small false m e t in
    same_value (round binary64 false (suc m * up e) (down e)) (fin false (suc m) e) (suc m * up e) (down e) (down_pos e) (round-fits binary64 false (suc m * up e) (down e)) t
    (own_round binary64 (suc m) e q.0 q.1 q.2) (refl, refl)

-- ---- above zero: the product's fraction is no larger
module _ (m : ℕ) (e : ℤ) (n : ℕ) (d : ℤ) where
  shrink_positive : T (fits binary64 (fin false (suc m) e)) → T (le (fin false (suc n) d) one) → T (le (mul binary64 (fin false (suc m) e) (fin false (suc n) d)) (fin false (suc m) e))
  shrink_positive f h =
      let X = fin false (suc m) e in
      let P = fin false (suc n) d in
      let px : T (positive X) = lt→ltb 0 (suc m) (zero-lt-suc m) in
      let pp : T (positive P) = lt→ltb 0 (suc n) (zero-lt-suc n) in
      let c : num P * 1 ≤ 1 * den P = le→cross P one pp tt h in
      let c' : num P ≤ den P = omega arith in
      subst (λ (z : Float). T (le z X)) (sym (mul_at binary64 X P (num X) (den X) (num P) (den P) px pp (den_pos X) (den_pos P) (own_value X px) (own_value P pp)))
      (subst (λ (z : Float). T (le (round binary64 false (num X * num P) (den X * den P)) z)) (own_is m e f)
      (round_mono binary64 (num X * num P) (den X * den P) (num X) (den X) (mul-pos (den_pos X) (den_pos P)) (den_pos X)
      (le_trans (mul-le-mul_right (den X) (mul-le-mul_left (num X) c')) (le_of_eq (mul_assoc (num X) (den P) (den X) ∙ ap (λ (z : ℕ). num X * z) (mul_comm (den P) (den X)))))))

-- ---- zeros
-- 0 / c rounds to a zero
zero_value : (y : Float) (s : Bool) (c : ℕ) → 0 < c → HasValue y s 0 c → (e : ℤ) × (y ≡ fin s 0 e)
zero_value nan s c C h = absurd h
zero_value (inf t) s c C h = absurd h
zero_value (fin t zero e) s c C h = (e, ap (λ (b : Bool). fin b 0 e) h.0)
zero_value (fin t (suc m) e) s c C h = absurd (lt_irrefl 0 (lt_of_lt_of_le (mul-pos (mul-pos (zero-lt-suc m) (up_pos e)) C) (le_of_eq (h.1 ∙ zero-mul (down e)))))

zero_rounds : (s : Bool) (a c : ℕ) → a ≡ 0 → 0 < c → HasValue (round binary64 s a c) s 0 c
zero_rounds s a c z C = subst (λ (n : ℕ). HasValue (round binary64 s n c) s 0 c) (sym z) (round_exact binary64 s 0 c 0 0 C (lit< tt) (lit< tt) (sym (zero-mul c)))

not_zero : (k : ℕ) → suc k ≡ 0 → ⊥
not_zero k p = omega arith

-- a zero is at most whatever is not negative
zero_below : (u : Bool) (a : ℕ) (s : Bool) (b : ℕ) → a ≡ 0 → (s ≡ true → b ≡ 0) → T (below u a s b || level u a s b)
zero_below u zero false zero z h = go u
  where
    go : (u : Bool) → T (below u 0 false 0 || level u 0 false 0)
    go true = tt
    go false = tt
zero_below true zero false (suc b) z h = rw (zero-add, lt-ltb 0 (suc b) (zero-lt-suc b)) tt
zero_below false zero false (suc b) z h = rw (lt-ltb 0 (suc b) (zero-lt-suc b)) tt
zero_below u zero true zero z h = go u
  where
    go : (u : Bool) → T (below u 0 true 0 || level u 0 true 0)
    go true = tt
    go false = tt
zero_below u zero true (suc b) z h = absurd (not_zero b (h refl))
zero_below u (suc a) s b z h = absurd (not_zero a z)

zero_le_value : (u : Bool) (g : ℤ) (s : Bool) (m : ℕ) (e : ℤ) → (s ≡ true → m ≡ 0) → T (le (fin u 0 g) (fin s m e))
unfolding le
zero_le_value u g s m e h =
    zero_below u (0 * up g * down e) s (m * up e * down g) (simp zero-mul) (λ (t : s ≡ true). ap (λ (k : ℕ). k * up e * down g) (h t) ∙ simp zero-mul)

-- what is at least +0 and negative is -0
nonneg : (s : Bool) (m : ℕ) (e : ℤ) → T (le (fin false 0 (pos 0)) (fin s m e)) → s ≡ true → m ≡ 0
unfolding le
nonneg false m e h p = absurd (true≢false (sym p))
nonneg true zero e h p = refl
nonneg true (suc m) e h p =
    let a = 0 * down e in
    let b = suc m * up e * 1 in
    let q : a ≡ b = eqb→eq a b (and_l (eqb a b) (eqb a 0) h) in
    absurd (lt_irrefl 0 (lt_of_lt_of_le (mul-pos (mul-pos (zero-lt-suc m) (up_pos e)) (zero-lt-suc 0)) (le_of_eq (sym q ∙ zero-mul (down e)))))

-- a product with a zero in it is a zero
mul_zero_le : (s : Bool) (m : ℕ) (e : ℤ) (t : Bool) (n : ℕ) (d : ℤ) → m * up e * (n * up d) ≡ 0 → (s ≡ true → m ≡ 0) → T (le (mul binary64 (fin s m e) (fin t n d)) (fin s m e))
unfolding mul
mul_zero_le s m e t n d z h =
    let C = mul-pos (down_pos e) (down_pos d) in
    let v = zero_value (round binary64 (unlike s t) (m * up e * (n * up d)) (down e * down d)) (unlike s t) (down e * down d) C (zero_rounds (unlike s t) (m * up e * (n * up d)) (down e * down d) z C) in
    subst (λ (y : Float). T (le y (fin s m e))) (sym v.1) (zero_le_value (unlike s t) v.0 s m e h)

-- ---- the law
never_raises_t : (x p : Float) → T (fits binary64 x) → T (is_finite x) → T (le (fin false 0 (pos 0)) x) → T (le (fin false 0 (pos 0)) p) → T (le p one) → T (le (mul binary64 x p) x)
unfolding is_finite
never_raises_t nan p f w h k l = absurd w
never_raises_t (inf s) p f w h k l = absurd w
never_raises_t (fin s m e) nan f w h k l = absurd (unfold le in k)
never_raises_t (fin s m e) (inf true) f w h k l = absurd (unfold le in k)
never_raises_t (fin s m e) (inf false) f w h k l = absurd (unfold le in l)
never_raises_t (fin s zero e) (fin t n d) f w h k l = mul_zero_le s 0 e t n d (simp zero-mul) (nonneg s 0 e h)
never_raises_t (fin s (suc m) e) (fin t zero d) f w h k l = mul_zero_le s (suc m) e t 0 d (simp (zero-mul, mul-zero)) (nonneg s (suc m) e h)
never_raises_t (fin true (suc m) e) (fin t (suc n) d) f w h k l = absurd (not_zero m (nonneg true (suc m) e h refl))
never_raises_t (fin false (suc m) e) (fin true (suc n) d) f w h k l = absurd (not_zero n (nonneg true (suc n) d k refl))
never_raises_t (fin false (suc m) e) (fin false (suc n) d) f w h k l = shrink_positive m e n d f l

pub round_zero : round binary64 false 0 1 ≡ fin false 0 (pos 0)
unfolding round
round_zero = refl

mul_zero_above : (s : Bool) (m : ℕ) (e : ℤ) (t : Bool) (n : ℕ) (d : ℤ) → m * up e * (n * up d) ≡ 0 → T (le (fin false 0 (pos 0)) (mul binary64 (fin s m e) (fin t n d)))
unfolding mul
mul_zero_above s m e t n d z =
    let C = mul-pos (down_pos e) (down_pos d) in
    let v = zero_value (round binary64 (unlike s t) (m * up e * (n * up d)) (down e * down d)) (unlike s t) (down e * down d) C (zero_rounds (unlike s t) (m * up e * (n * up d)) (down e * down d) z C) in
    subst (λ (y : Float). T (le (fin false 0 (pos 0)) y)) (sym v.1) (zero_le_value false (pos 0) (unlike s t) 0 v.0 (λ _. refl))

positive_above : (m : ℕ) (e : ℤ) (n : ℕ) (d : ℤ) → T (le (fin false 0 (pos 0)) (mul binary64 (fin false (suc m) e) (fin false (suc n) d)))
unfolding mul
positive_above m e n d =
    subst (λ (y : Float). T (le y (round binary64 false (suc m * up e * (suc n * up d)) (down e * down d)))) round_zero
    (round_mono binary64 0 1 (suc m * up e * (suc n * up d)) (down e * down d) (zero-lt-suc 0) (mul-pos (down_pos e) (down_pos d)) (omega (arith, zero-mul (down e * down d))))

mul_above : (x p : Float) → T (is_finite x) → T (le (fin false 0 (pos 0)) x) → T (le (fin false 0 (pos 0)) p) → T (le p one) → T (le (fin false 0 (pos 0)) (mul binary64 x p))
unfolding is_finite
mul_above nan p w h k l = absurd w
mul_above (inf s) p w h k l = absurd w
mul_above (fin s m e) nan w h k l = absurd (unfold le in k)
mul_above (fin s m e) (inf true) w h k l = absurd (unfold le in k)
mul_above (fin s m e) (inf false) w h k l = absurd (unfold le in l)
mul_above (fin s zero e) (fin t n d) w h k l = mul_zero_above s 0 e t n d (simp zero-mul)
mul_above (fin s (suc m) e) (fin t zero d) w h k l = mul_zero_above s (suc m) e t 0 d (simp (zero-mul, mul-zero))
mul_above (fin true (suc m) e) (fin t (suc n) d) w h k l = absurd (not_zero m (nonneg true (suc m) e h refl))
mul_above (fin false (suc m) e) (fin true (suc n) d) w h k l = absurd (not_zero n (nonneg true (suc n) d k refl))
mul_above (fin false (suc m) e) (fin false (suc n) d) w h k l = positive_above m e n d

-- what lies between +0 and a finite value is finite
finite_between : (y x : Float) → T (is_finite x) → T (le (fin false 0 (pos 0)) y) → T (le y x) → T (is_finite y)
unfolding is_finite le
finite_between nan x w h k = absurd h
finite_between (inf true) x w h k = absurd h
finite_between (inf false) nan w h k = absurd w
finite_between (inf false) (inf t) w h k = absurd w
finite_between (inf false) (fin t n d) w h k = absurd k
finite_between (fin s m e) x w h k = tt

pub one_fine : Fine one
unfolding fits is_finite le
one_fine = record { fit = tt; finite = refl; above = refl }

self : (x : Float) → is_finite x ≡ true → T (le x x)
unfolding is_finite le
self nan w = absurd (true≢false (sym w))
self (inf s) w = absurd (true≢false (sym w))
self (fin s m e) w = test s (m * up e * down e) s (m * up e * down e) (same s (m * up e * down e))
  where
    same : (s : Bool) (a : ℕ) → AtMost s a s a
    same true a = le_refl a
    same false a = le_refl a

pub fine_le : (x : Float) → Fine x → le x x ≡ true
fine_le x f = holds (self x f.finite)

module _ (x p : Float) (f : Fine x) (q : is_probability p ≡ true) where
  is : (b : Bool) → b ≡ true → T b
  is b e = subst T (sym e) tt

  within : (le plus_zero p ≡ true) × (le p one ≡ true)
  within = bounds p ((probability_means p).0 q)

  lowered : T (le (mul binary64 x p) x)
  lowered = never_raises_t x p f.fit (is (is_finite x) f.finite) (is (le plus_zero x) f.above) (is (le plus_zero p) within.0) (is (le p one) within.1)

  raised : T (le plus_zero (mul binary64 x p))
  raised = mul_above x p (is (is_finite x) f.finite) (is (le plus_zero x) f.above) (is (le plus_zero p) within.0) (is (le p one) within.1)

  -- a factor from 0 to 1 never raises such a value
  pub never_raises : le (mul binary64 x p) x ≡ true
  never_raises = holds lowered

  -- and leaves it one
  pub fine_mul : Fine (mul binary64 x p)
  fine_mul = record { fit = mul-fits binary64 x p; finite = holds (finite_between (mul binary64 x p) x (is (is_finite x) f.finite) raised lowered); above = holds raised }
