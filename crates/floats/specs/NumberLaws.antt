-- `<=` on floats: what it says of signs and magnitudes, and that it is transitive, also through zeros of either sign. Assumes nothing.
use Rattle.std.specs.Prelude.{◌≡◌, refl, Bool, true, false, ◌&&◌, ◌||◌, ℕ, ◌+◌, ◌*◌, ◌≤◌, ◌<◌, T, ltb, eqb, ℤ, Float}
use Rattle.std.proofs.Common.{sym, ap, ◌∙◌, subst, inl, inr, le_of_eq, le_of_lt, eq-or-lt_of_le, eq-zero-or-pos, mul-pos, zero-mul, lt_irrefl, lt_of_lt_of_le, arith, ltb→lt, eqb→eq, lt-ltb, le-ltb, eq-eqb, ltb-false}
use Rattle.std.specs.Float.{nan, inf, fin}
use Rattle.std.specs.Float.Ieee.{up, down, le, eq, below, level}
use Rattle.floats.specs.Floats.{plus_zero}
use Rattle.std.specs.Float.Ieee.Fits.{and_l, and_r, up_pos, down_pos}
use Rattle.std.specs.Float.Ieee.Positive.{through}

-- a test that passes is true
is_true : (b : Bool) → T b → b ≡ true
is_true true t = refl
is_true false t = absurd t

pub holds : {b : Bool} → T b → b ≡ true
holds {b} t = is_true b t

-- ±a is at most ±b as a number
abbrev pub AtMost : Bool → ℕ → Bool → ℕ → Type 0
AtMost false a false b = a ≤ b
AtMost false a true b = (a ≡ 0) × (b ≡ 0)
AtMost true a false b = Unit
AtMost true a true b = b ≤ a

lt_or_eq : (a b : ℕ) (v : Bool) → T (ltb a b || (eqb a b && v)) → a ≤ b
lt_or_eq a b v t = go (ltb a b) refl t
  where
    go : (w : Bool) → ltb a b ≡ w → T (w || (eqb a b && v)) → a ≤ b
    go true e t = le_of_lt (ltb→lt a b (subst T (sym e) tt))
    go false e t = le_of_eq (eqb→eq a b (and_l (eqb a b) v t))

pub number : (s : Bool) (a : ℕ) (t : Bool) (b : ℕ) → T (below s a t b || level s a t b) → AtMost s a t b
number false a false b h = lt_or_eq a b true h
number false a true b h =
    let p : a ≡ b = eqb→eq a b (and_l (eqb a b) (eqb a 0) h) in
    let q : a ≡ 0 = eqb→eq a 0 (and_r (eqb a b) (eqb a 0) h) in
    (q, sym p ∙ q)
number true a false b h = tt
number true a true b h = go (ltb b a) refl h
  where
    go : (w : Bool) → ltb b a ≡ w → T (w || (eqb a b && true)) → b ≤ a
    go true e t = le_of_lt (ltb→lt b a (subst T (sym e) tt))
    go false e t = le_of_eq (sym (eqb→eq a b (and_l (eqb a b) true t)))

pub test : (s : Bool) (a : ℕ) (t : Bool) (b : ℕ) → AtMost s a t b → T (below s a t b || level s a t b)
test false a false b h = elim (eq-or-lt_of_le h) [ inl p ↦ rw (le-ltb a b (le_of_eq (sym p)), eq-eqb a b p) tt | inr q ↦ rw (lt-ltb a b q) tt ]
test false a true b h = rw (h.0, h.1) tt
test true a false b h = go (ltb 0 (a + b)) refl
  where
    go : (v : Bool) → ltb 0 (a + b) ≡ v → T (v || level true a false b)
    go true e = tt
    go false e = let q = ltb-false 0 (a + b) e in let x : a ≡ 0 = omega arith in let y : b ≡ 0 = omega arith in rw (x, y) tt
test true a true b h = elim (eq-or-lt_of_le h) [ inl p ↦ rw (le-ltb b a (le_of_eq (sym p)), eq-eqb a b (sym p)) tt | inr q ↦ rw (lt-ltb b a q) tt ]

-- a product with a number above zero is zero only where the other factor is
pub zero_of : (x q : ℕ) → 0 < q → x * q ≤ 0 → x ≡ 0
zero_of x q Q h = elim (eq-zero-or-pos x) [ inl e ↦ e | inr p ↦ absurd (lt_irrefl 0 (lt_of_lt_of_le (mul-pos p Q) h)) ]

times : (x k : ℕ) → x ≡ 0 → x * k ≡ 0
times x k e = ap (λ (z : ℕ). z * k) e ∙ zero-mul k

-- a finite value whose product with positive numbers is zero is a zero
pub zero_eq : (s : Bool) (m : ℕ) (e d : ℤ) → m * up e * down d ≡ 0 → eq (fin s m e) plus_zero ≡ true
unfolding eq
zero_eq s m e d h = rw (zero_of m (up e) (up_pos e) (le_of_eq (zero_of (m * up e) (down d) (down_pos d) (le_of_eq h)))) (go s)
  where
    go : (s : Bool) → eq (fin s 0 e) plus_zero ≡ true
    go true = simp zero-mul
    go false = simp zero-mul

-- fractions x / p, y / q, z / r with signs
signed_trans : (s t u : Bool) (x y z p q r : ℕ) → 0 < p → 0 < q → 0 < r → AtMost s (x * q) t (y * p) → AtMost t (y * r) u (z * q) → AtMost s (x * r) u (z * p)
signed_trans false false false x y z p q r P Q R h k = through x y z p q r Q h k
signed_trans false false true x y z p q r P Q R h k =
    let y0 : y ≡ 0 = zero_of y r R (le_of_eq k.0) in
    let z0 : z ≡ 0 = zero_of z q Q (le_of_eq k.1) in
    let x0 : x ≡ 0 = zero_of x q Q (subst (λ (n : ℕ). x * q ≤ n) (times y p y0) h) in
    (times x r x0, times z p z0)
signed_trans false true false x y z p q r P Q R h k = let x0 : x ≡ 0 = zero_of x q Q (le_of_eq h.0) in omega (arith, times x r x0)
signed_trans false true true x y z p q r P Q R h k =
    let x0 : x ≡ 0 = zero_of x q Q (le_of_eq h.0) in
    let y0 : y ≡ 0 = zero_of y p P (le_of_eq h.1) in
    let z0 : z ≡ 0 = zero_of z q Q (subst (λ (n : ℕ). z * q ≤ n) (times y r y0) k) in
    (times x r x0, times z p z0)
signed_trans true false false x y z p q r P Q R h k = tt
signed_trans true false true x y z p q r P Q R h k = let z0 : z ≡ 0 = zero_of z q Q (le_of_eq k.1) in omega (arith, times z p z0)
signed_trans true true false x y z p q r P Q R h k = tt
signed_trans true true true x y z p q r P Q R h k = through z y x r q p Q k h

trans_t : (x y z : Float) → T (le x y) → T (le y z) → T (le x z)
unfolding le
trans_t nan y z h k = absurd h
trans_t (inf s) nan z h k = absurd h
trans_t (inf s) (inf t) nan h k = absurd k
trans_t (inf true) (inf t) (inf true) h k = tt
trans_t (inf true) (inf t) (inf false) h k = tt
trans_t (inf true) (inf t) (fin u l c) h k = tt
trans_t (inf false) (inf true) (inf u) h k = absurd h
trans_t (inf false) (inf false) (inf u) h k = k
trans_t (inf false) (inf true) (fin u l c) h k = absurd h
trans_t (inf false) (inf false) (fin u l c) h k = absurd k
trans_t (inf s) (fin t n d) nan h k = absurd k
trans_t (inf true) (fin t n d) (inf true) h k = tt
trans_t (inf true) (fin t n d) (inf false) h k = tt
trans_t (inf true) (fin t n d) (fin u l c) h k = tt
trans_t (inf false) (fin t n d) (inf u) h k = absurd h
trans_t (inf false) (fin t n d) (fin u l c) h k = absurd h
trans_t (fin s m e) nan z h k = absurd h
trans_t (fin s m e) (inf t) nan h k = absurd k
trans_t (fin s m e) (inf t) (inf false) h k = tt
trans_t (fin s m e) (inf true) (inf true) h k = absurd h
trans_t (fin s m e) (inf false) (inf true) h k = absurd k
trans_t (fin s m e) (inf true) (fin u l c) h k = absurd h
trans_t (fin s m e) (inf false) (fin u l c) h k = absurd k
trans_t (fin s m e) (fin t n d) nan h k = absurd k
trans_t (fin s m e) (fin t n d) (inf u) h k = k
trans_t (fin s m e) (fin t n d) (fin u l c) h k =
    test s (m * up e * down c) u (l * up c * down e)
    (signed_trans s t u (m * up e) (n * up d) (l * up c) (down e) (down d) (down c) (down_pos e) (down_pos d) (down_pos c)
    (number s (m * up e * down d) t (n * up d * down e) h) (number t (n * up d * down c) u (l * up c * down d) k))

pub le_trans : (x y z : Float) → le x y ≡ true → le y z ≡ true → le x z ≡ true
le_trans x y z h k = holds (trans_t x y z (subst T (sym h) tt) (subst T (sym k) tt))
