-- The step of `mark_probable`: what a set's test at `next` is by the tests at next + 1. Assumes nothing.
use Prim.Native.Nat.{ℕ, suc, ◌+◌, ◌*◌, ◌/◌, ◌%◌, ◌^◌, ◌<◌, ◌≤◌}
use native.Mathlib.Nat.{mod-lt, add_comm, one-mul, div-eq_of_lt, pow-suc}
use native.Mathlib.Numerals.{add-one, add-one-le}
use native.Mathlib.Omega.{arith}
use mathlib.Core.Path.{◌≡◌, refl, sym, ap, ◌∙◌}
use mathlib.Core.Bool.{Bool, true, false, not, ◌&&◌, ◌||◌, and-false}
use mathlib.Core.Logic.{⊎_elim, ◌⊎◌, inl, inr}
use mathlib.Core.List.{List, [], ◌∷◌, ◌++◌}
use borrow.Author.Tests.{eq-eqb, ne_eqb, eqb-true, eqb-false}
use lib.Dec.{eqb}
use lib.Pow.{pow_pos, pow_mono, shr-shr, mod-pow-add, high, low, split}
use lib.Ieee.{Float, binary64, mul, le}
use lib.ListN.{length, get_or, take, drop}
use lib.Seq.{drop-cons, take-suc}
use borrow.Author.Count.{below_more}
use Rattle.std.specs.List.{list_any}
use Rattle.bitmap.specs.Mask.{count}
use Rattle.bitmap.proofs.Words.{one_shl}
use Rattle.marks.specs.Marks.{flagged, with_flag}
use Rattle.marks.specs.MarkLaws.{flagged_with}
use Rattle.faults.specs.Family.{times_of, is_sized, is_among}
use Rattle.faults.proofs.FamilyLaws.{times_none}
use Rattle.faults.specs.Marks.{is_hit, Marked}

-- a test is true or false, with the equation
pub either : (b : Bool) → (b ≡ true) ⊎ (b ≡ false)
either true = inl refl
either false = inr refl

-- a number is even or odd
pub parity : (k : ℕ) → (k % 2 ≡ 0) ⊎ (k % 2 ≡ 1)
parity k = ⊎_elim (λ e. inl (eqb-true (k % 2) 0 e)) (λ e. inr (let h : k % 2 ≡ 0 → ⊥ = eqb-false (k % 2) 0 e in omega arith)) (either (eqb (k % 2) 0))

lows : (j next : ℕ) → j % 2 ^ (next + 1) ≡ (j / 2 ^ next % 2) * 2 ^ next + j % 2 ^ next
lows j next = ap (λ (x : ℕ). j % 2 ^ x) (add_comm next 1) ∙ mod-pow-add j 1 next

highs : (j next : ℕ) → j / 2 ^ (next + 1) ≡ j / 2 ^ next / 2
highs j next = sym (shr-shr j next 1)

-- j is mask and the bit at next: its low part is mask, and its high part 1
same_set : (j next mask : ℕ) → mask < 2 ^ next → j ≡ mask + 2 ^ next → (j / 2 ^ next ≡ 1) × (j % 2 ^ next ≡ mask)
same_set j next mask l e =
    let f : j ≡ 1 * 2 ^ next + mask = e ∙ omega arith in
    (ap (λ (x : ℕ). x / 2 ^ next) f ∙ high 1 next l, ap (λ (x : ℕ). x % 2 ^ next) f ∙ low 1 next l)

set_same : (j next mask : ℕ) → j / 2 ^ next ≡ 1 → j % 2 ^ next ≡ mask → j ≡ mask + 2 ^ next
set_same j next mask a b =
    let s : j / 2 ^ next * 2 ^ next + j % 2 ^ next ≡ j = split j next in
    let t : j / 2 ^ next * 2 ^ next ≡ 2 ^ next = ap (λ (x : ℕ). x * 2 ^ next) a ∙ one-mul (2 ^ next) in
    omega arith

module _ (rest : List Float) (q p eps : Float) (j next mask : ℕ) (l : mask < 2 ^ next) where
  abbrev k : ℕ
  k = j / 2 ^ next

  abbrev r : ℕ
  r = j % 2 ^ next

  abbrev with_it : Bool
  with_it = eqb (k % 2 * 2 ^ next + r) (mask + 2 ^ next) && (not (eqb (k / 2) 0) && le eps (times_of rest (k / 2) (mul binary64 p q)))

  abbrev itself : Bool
  itself = eqb j (mask + 2 ^ next) && le eps (mul binary64 p q)

  abbrev without : Bool
  without = eqb (k % 2 * 2 ^ next + r) mask && (not (eqb (k / 2) 0) && le eps (times_of rest (k / 2) p))

  abbrev whole : Bool
  whole = eqb r mask && (not (eqb k 0) && le eps (times_of (q ∷ rest) k p))

  other : (r ≡ mask → ⊥) → whole ≡ (with_it || (itself || without))
  other n =
      let rl : r < 2 ^ next = mod-lt j (pow_pos next) in
      let a : eqb r mask ≡ false = ne_eqb r mask n in
      let b : eqb j (mask + 2 ^ next) ≡ false = ne_eqb j (mask + 2 ^ next) (λ e. n (same_set j next mask l e).1) in
      ⊎_elim
      (λ e.
      let z : k % 2 * 2 ^ next + r ≡ r = rw e (omega arith) in
      let c : eqb (k % 2 * 2 ^ next + r) (mask + 2 ^ next) ≡ false = ne_eqb (k % 2 * 2 ^ next + r) (mask + 2 ^ next) (λ f. omega arith) in
      let d : eqb (k % 2 * 2 ^ next + r) mask ≡ false = ne_eqb (k % 2 * 2 ^ next + r) mask (λ f. n (sym z ∙ f)) in
      simp (a, b, c, d))
      (λ e.
      let z : k % 2 * 2 ^ next + r ≡ 2 ^ next + r = rw e (omega arith) in
      let c : eqb (k % 2 * 2 ^ next + r) (mask + 2 ^ next) ≡ false = ne_eqb (k % 2 * 2 ^ next + r) (mask + 2 ^ next) (λ f. n (omega arith)) in
      let d : eqb (k % 2 * 2 ^ next + r) mask ≡ false = ne_eqb (k % 2 * 2 ^ next + r) mask (λ f. omega arith) in
      simp (a, b, c, d))
      (parity k)

  same : r ≡ mask → whole ≡ (with_it || (itself || without))
  unfolding times_of
  same n =
      let rl : r < 2 ^ next = mod-lt j (pow_pos next) in
      let a : eqb r mask ≡ true = eq-eqb r mask n in
      ⊎_elim
      (λ e.
      let z : k % 2 * 2 ^ next + r ≡ r = rw e (omega arith) in
      let c : eqb (k % 2 * 2 ^ next + r) (mask + 2 ^ next) ≡ false = ne_eqb (k % 2 * 2 ^ next + r) (mask + 2 ^ next) (λ f. omega arith) in
      let d : eqb (k % 2 * 2 ^ next + r) mask ≡ true = eq-eqb (k % 2 * 2 ^ next + r) mask (z ∙ n) in
      let b : eqb j (mask + 2 ^ next) ≡ false = ne_eqb j (mask + 2 ^ next) (λ f. let g : k ≡ 1 = (same_set j next mask l f).0 in omega arith) in
      let v : eqb (k % 2) 0 ≡ true = eq-eqb (k % 2) 0 e in
      ⊎_elim
      (λ o. let w : eqb k 0 ≡ true = eq-eqb k 0 (let u : k / 2 ≡ 0 = eqb-true _ _ o in omega arith) in simp (a, b, c, d, o, w))
      (λ o. let w : eqb k 0 ≡ false = ne_eqb k 0 (λ f. let u : k / 2 ≡ 0 → ⊥ = eqb-false _ _ o in omega arith) in simp (a, b, c, d, o, w, v))
      (either (eqb (k / 2) 0)))
      (λ e.
      let z : k % 2 * 2 ^ next + r ≡ 2 ^ next + r = rw e (omega arith) in
      let c : eqb (k % 2 * 2 ^ next + r) (mask + 2 ^ next) ≡ true = eq-eqb (k % 2 * 2 ^ next + r) (mask + 2 ^ next) (omega arith) in
      let d : eqb (k % 2 * 2 ^ next + r) mask ≡ false = ne_eqb (k % 2 * 2 ^ next + r) mask (λ f. omega arith) in
      let v : eqb (k % 2) 0 ≡ false = ne_eqb (k % 2) 0 (λ f. omega arith) in
      let w : eqb k 0 ≡ false = ne_eqb k 0 (λ f. omega arith) in
      ⊎_elim
      (λ o.
      let u : k / 2 ≡ 0 = eqb-true _ _ o in
      let b : eqb j (mask + 2 ^ next) ≡ true = eq-eqb j (mask + 2 ^ next) (set_same j next mask (omega arith) n) in
      let t : times_of rest (k / 2) (mul binary64 p q) ≡ mul binary64 p q = rw u (times_none rest (mul binary64 p q)) in
      simp (a, b, c, d, o, w, v, t) (go (le eps (mul binary64 p q))))
      (λ o.
      let u : k / 2 ≡ 0 → ⊥ = eqb-false _ _ o in
      let b : eqb j (mask + 2 ^ next) ≡ false = ne_eqb j (mask + 2 ^ next) (λ f. let g : k ≡ 1 = (same_set j next mask l f).0 in omega arith) in
      simp (a, b, c, d, o, w, v) (go (le eps (times_of rest (k / 2) (mul binary64 p q)))))
      (either (eqb (k / 2) 0)))
      (parity k)
    where
      go : (x : Bool) → x ≡ (x || false)
      go true = refl
      go false = refl

  pub halves : whole ≡ (with_it || (itself || without))
  halves = ⊎_elim (λ e. same (eqb-true _ _ e)) (λ e. other (eqb-false _ _ e)) (either (eqb r mask))

-- the sets from `next` on: with the replica `next` and more, with it alone, and without it
pub hit_step :
    (ps : List Float) (next mask : ℕ) (p eps d : Float) (j : ℕ) → next < length ps → mask < 2 ^ next
    → is_hit ps next mask p eps j
    ≡ (is_hit ps (next + 1) (mask + 2 ^ next) (mul binary64 p (get_or ps next d)) eps j
    || (eqb j (mask + 2 ^ next) && le eps (mul binary64 p (get_or ps next d)) || is_hit ps (next + 1) mask p eps j))
unfolding is_hit
hit_step ps next mask p eps d j h l =
    rw (lows, highs, add-one, drop-cons ps next d h) (halves (drop (suc next) ps) (get_or ps next d) p eps j next mask l)

-- past the last replica there is none
pub hit_none : (ps : List Float) (next mask : ℕ) (p eps : Float) (j : ℕ) → j < 2 ^ next → is_hit ps next mask p eps j ≡ false
unfolding is_hit
hit_none ps next mask p eps j h =
    let z : eqb (j / 2 ^ next) 0 ≡ true = eq-eqb (j / 2 ^ next) 0 (div-eq_of_lt h) in simp z (and-false (eqb (j % 2 ^ next) mask))

-- marks after marks
pub marked_then :
    (size : ℕ) (f g h : ℕ → Bool) (a b c : List ℕ) → Marked size f a b → Marked size g b c → ((j : ℕ) → h j ≡ (g j || f j)) → Marked size h a c
unfolding Marked
marked_then size f g h a b c m n s j l = rw (n j l, m j l, s j) (go (g j) (f j))
  where
    go : (x y : Bool) → (x || (y || flagged a j)) ≡ ((x || y) || flagged a j)
    go true y = refl
    go false y = refl

-- one store
pub marked_one : (size m : ℕ) (t : Bool) (a b : List ℕ)
    → m < 64 * length a → b ≡ with_flag a m → t ≡ true → Marked size (λ j. eqb j m && t) a b
unfolding Marked
marked_one size m t a b i q e j l = ap (λ (x : List ℕ). flagged x j) q ∙ flagged_with a m j i ∙ rw e (go (eqb j m))
  where
    go : (x : Bool) → (x || flagged a j) ≡ ((x && true) || flagged a j)
    go true = refl
    go false = refl

-- What is known where a set gets the replica `next` of n, and L is at least 2 ^ n: the shift is exact, and the sets are in range
pub record Room (L next mask : ℕ) : Type 0 where
  pub shift : next < 64
  pub exact : (1 * 2 ^ next) % 2 ^ 64 ≡ 2 ^ next
  pub inside : mask + 2 ^ next < L
  pub low : mask < 2 ^ (next + 1)
  pub more : mask + 2 ^ next < 2 ^ (next + 1)

pub room : (L n next mask : ℕ) → n ≤ 16 → 2 ^ n ≤ L → next < n → mask < 2 ^ next → Room L next mask
room L n next mask b e h l =
    let twice : 2 ^ (next + 1) ≡ 2 ^ next * 2 = ap (λ (x : ℕ). 2 ^ x) (add-one next) ∙ pow-suc 2 next in
    let up : 2 ^ (next + 1) ≤ 2 ^ n = pow_mono (add-one-le h) in
    record {
      shift = omega arith;
      exact = one_shl 64 next (omega arith);
      inside = omega arith;
      low = omega arith;
      more = omega arith;
    }

-- nothing to mark
pub marked_none : (size : ℕ) (f : ℕ → Bool) (a : List ℕ) → ((j : ℕ) → j < size → f j ≡ false) → Marked size f a a
unfolding Marked
marked_none size f a h j l = rw (h j l)

-- the same marks by another name
pub marked_same : (size : ℕ) (f g : ℕ → Bool) (a b : List ℕ) → Marked size f a b → ((j : ℕ) → g j ≡ f j) → Marked size g a b
unfolding Marked
marked_same size f g a b m s j l = m j l ∙ rw (s j)

-- ---- a table with the replicas that it had before
module _ (n k : ℕ) (same : k ≡ n) where
  -- a set of them has a bit in it
  pub has_bit_for : (m : ℕ) (t : List ℕ) → m < 2 ^ n → 2 ^ k ≤ 64 * length t → m < 64 * length t
  has_bit_for m t h e = let r : 2 ^ n ≤ 64 * length t = rw same at e in omega arith

  pub marked_for : (f : ℕ → Bool) (a b : List ℕ) → Marked (2 ^ k) f a b → Marked (2 ^ n) f a b
  marked_for f a b h = rw same at h

-- ---- a loop over the sets: of the family g those below m are flagged, and the others as they were
module _ (g : ℕ → Bool) (before : List ℕ) where
  abbrev pub Done : ℕ → List ℕ → Type 0
  Done m t = (j : ℕ) → j < m → flagged t j ≡ (g j || flagged before j)

  abbrev pub Left : ℕ → List ℕ → Type 0
  Left m t = (j : ℕ) → m ≤ j → flagged t j ≡ flagged before j

  module _ (m : ℕ) (t : List ℕ) (done : Done m t) (left : Left m t) where
    pub done_leave : g m ≡ false → Done (m + 1) t
    done_leave e = below_more (λ (j : ℕ). flagged t j ≡ (g j || flagged before j)) m done (left m (omega arith) ∙ rw e)

    pub left_leave : Left (m + 1) t
    left_leave j h = left j (omega arith)

    module _ (inside : m < 64 * length t) (after : List ℕ) (put : after ≡ with_flag t m) where
      at : (j : ℕ) → flagged after j ≡ (eqb j m || flagged t j)
      at j = ap (λ (x : List ℕ). flagged x j) put ∙ flagged_with t m j inside

      elsewhere : (j : ℕ) → (j ≡ m → ⊥) → flagged after j ≡ flagged t j
      elsewhere j d = at j ∙ rw (ne_eqb j m d)

      pub done_put : g m ≡ true → Done (m + 1) after
      done_put e =
          below_more (λ (j : ℕ). flagged after j ≡ (g j || flagged before j)) m (λ j h. elsewhere j (λ (q : j ≡ m). omega arith) ∙ done j h)
          (at m ∙ rw (eq-eqb m m refl, e))

      pub left_put : Left (m + 1) after
      left_put j h = elsewhere j (λ (q : j ≡ m). omega arith) ∙ left j (omega arith)

-- ---- the test of `mark_sized`: c is what `bitmap::count` returned
pub sized : (f m c : ℕ) → c ≡ count m → c ≡ f → is_sized f m ≡ true
unfolding is_sized
sized f m c told e = eq-eqb (count m) f (sym told ∙ e)

pub not_sized : (f m c : ℕ) → c ≡ count m → (c ≡ f → ⊥) → is_sized f m ≡ false
unfolding is_sized
not_sized f m c told d = ne_eqb (count m) f (λ (q : count m ≡ f). d (told ∙ q))

-- ---- one more mask of a list
any_append : (p : ℕ → Bool) (xs ys : List ℕ) → list_any p (xs ++ ys) ≡ (list_any p xs || list_any p ys)
any_append p [] ys = refl
any_append p (x ∷ xs) ys = go (p x) (any_append p xs ys)
  where
    go : (b : Bool) → list_any p (xs ++ ys) ≡ (list_any p xs || list_any p ys) → (b || list_any p (xs ++ ys)) ≡ (b || list_any p xs || list_any p ys)
    go true e = refl
    go false e = e

pub among_more : (ds : List ℕ) (i m : ℕ) → i < length ds → is_among (take (i + 1) ds) m ≡ (eqb m (get_or ds i 0) && true || is_among (take i ds) m)
unfolding is_among
among_more ds i m h =
    ap (λ (k : ℕ). list_any (eqb m) (take k ds)) (add-one i) ∙ ap (list_any (eqb m)) (take-suc ds i 0 h) ∙ any_append (eqb m) (take i ds) (get_or ds i 0 ∷ [])
    ∙ go (list_any (eqb m) (take i ds)) (eqb m (get_or ds i 0))
  where
    go : (x y : Bool) → (x || (y || false)) ≡ (y && true || x)
    go true true = refl
    go true false = refl
    go false true = refl
    go false false = refl
