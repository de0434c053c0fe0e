-- The first element of a list in order that passes a test is the least that passes, found in one pass over the list as it stands. So a definition may
-- speak of the first in order, and the code need not sort. And what the first is: `first_means`, `none_means`; and the first number with the least value:
-- `least_means`. Assumes nothing.
use Rattle.std.specs.Prelude.{◌≡◌, ◌↔◌, ◌⊎◌, Bool, cond}
use Rattle.std.proofs.Math.Path.{refl, ap}
use Rattle.std.proofs.Common.{sym, subst, ◌∙◌, inl, inr, ⊎_elim, true≢false, le_of_suc-le-suc, eq-or-lt_of_le}
use mathlib.Core.List.Memᴰ
use mathlib.Core.List.{List, [], ◌∷◌, foldl, Memᴰ}
use Rattle.std.proofs.Math.Bool.{true, false}
use Rattle.std.specs.Prelude.{Option, None, Some}
use Rattle.std.proofs.lemmas.Option.{none-some, same_Some}
use Prim.Native.Nat.{ℕ, zero, suc, ◌≤◌, ◌<◌}
use Rattle.std.proofs.Math.Nat.{le_refl}
use native.Mathlib.Omega.{arith}
use Rattle.lists.specs.All.{AllOf}
use Rattle.lists.specs.AllLaws.{all_of_listed}
use Rattle.lists.specs.Sort.{insert_by, sort_onto_by, sorted_by}
use Rattle.lists.specs.First.{first_that, better_by, least_that, least_up_to}
use Rattle.lists.specs.SortLaws.{placed_where, reflexive, AtLeast, Ordered, insert_ordered, sorted_ordered, sorted_listed}

-- ---- what was considered once changes nothing when it is considered again
module _ {A : Type 0} (le : A → A → Bool) (total : (x y : A) → le x y ≡ false → le y x ≡ true)
    (trans : (x y z : A) → le x y ≡ true → le y z ≡ true → le x z ≡ true)
    (t : A → Bool) where
  abbrev considering : Option A → A → Option A
  considering b x = cond (t x) (better_by le b x) b

  pub considered_again : (b : Option A) (x : A) → considering (considering b x) x ≡ considering b x
  considered_again b x = go (t x) b
    where
      either : (v : Bool) → cond v (Some x) (Some x) ≡ Some x
      either true = refl
      either false = refl

      found : (c : A) (v : Bool) → le c x ≡ v → better_by le (cond v (Some c) (Some x)) x ≡ cond v (Some c) (Some x)
      found c true e = rw e
      found c false e = either (le x x)

      go : (v : Bool) (b : Option A) → cond v (better_by le (cond v (better_by le b x) b) x) (cond v (better_by le b x) b) ≡ cond v (better_by le b x) b
      go true None = either (le x x)
      go true (Some c) = found c (le c x) refl
      go false b = refl

  pub considered_before : (b : Option A) (x y : A) → considering b y ≡ b → considering (considering b x) y ≡ considering b x
  considered_before b x y e = go (t y) (t x) b e
    where
      at_most : (c : A) (v : Bool) → le c y ≡ v → cond v (Some c) (Some y) ≡ Some c → le c y ≡ true
      at_most c true q h = q
      at_most c false q h = let z : y ≡ c = same_Some y c h in absurd (true≢false (sym (total c y q) ∙ ap (λ (u : A). le u c) z ∙ ap (le c) (sym z) ∙ q))

      moved : (c : A) (v : Bool) → le c x ≡ v → le c y ≡ true → better_by le (cond v (Some c) (Some x)) y ≡ cond v (Some c) (Some x)
      moved c true q h = rw h
      moved c false q h = rw (trans x c y (total c x q) h)

      go : (v w : Bool) (b : Option A) → cond v (better_by le b y) b ≡ b → cond v (better_by le (cond w (better_by le b x) b) y) (cond w (better_by le b x) b) ≡ cond w (better_by le b x) b
      go false w b h = refl
      go true w None h = absurd (none-some y (sym h))
      go true true (Some c) h = moved c (le c x) refl (at_most c (le c y) refl h)
      go true false (Some c) h = h

module _ {A : Type 0} (le : A → A → Bool) (total : (x y : A) → le x y ≡ false → le y x ≡ true)
    (trans : (x y z : A) → le x y ≡ true → le y z ≡ true → le x z ≡ true) (t : A → Bool) where
  -- y is at most all that may have been found
  abbrev Above : A → Option A → Type 0
  Above y None = Unit
  Above y (Some b) = le y b ≡ true

  first_above : (y : A) (l : List A) → AtLeast le y l → Above y (first_that t l)
  first_above y [] h = tt
  first_above y (x ∷ xs) h = go (t x) (first_above y xs h.1)
    where
      go : (b : Bool) → Above y (first_that t xs) → Above y (cond b (Some x) (first_that t xs))
      go true r = h.0
      go false r = r

  -- x is strictly below y, which is at most all that may have been found: then it is the better one
  better_strict : (x y : A) (r : Option A) → le y x ≡ false → Above y r → better_by le r x ≡ Some x
  better_strict x y None n h = refl
  better_strict x y (Some b) n h = go (le b x) refl
    where
      go : (v : Bool) → le b x ≡ v → cond v (Some b) (Some x) ≡ Some x
      go true e = absurd (true≢false (sym (trans y b x h e) ∙ n))
      go false e = refl

  -- what one element more does to what is found
  abbrev step_by : Option A → A → Option A
  step_by best x = cond (t x) (better_by le best x) best

  module _ (x y : A) (ys : List A) where
    after_first : (u w : Bool) → le y x ≡ true → first_that t (insert_by le x ys) ≡ cond u (better_by le (first_that t ys) x) (first_that t ys)
        → cond w (Some y) (first_that t (insert_by le x ys)) ≡ cond u (better_by le (cond w (Some y) (first_that t ys)) x) (cond w (Some y) (first_that t ys))
    after_first true true e ih = rw e
    after_first false true e ih = refl
    after_first u false e ih = ih

    before_first : (u : Bool) (r : Option A) → le y x ≡ false → Above y r → cond u (Some x) r ≡ cond u (better_by le r x) r
    before_first true r e h = sym (better_strict x y r e h)
    before_first false r e h = refl

  insert_first : (x : A) (l : List A) → Ordered le l → first_that t (insert_by le x l) ≡ step_by (first_that t l) x
  insert_first x [] o = refl
  insert_first x (y ∷ ys) o =
      let ih = insert_first x ys o.1 in
      placed_where le x y ys (λ l. first_that t l ≡ step_by (first_that t (y ∷ ys)) x) (λ e. after_first x y ys (t x) (t y) e ih)
      (λ e. before_first x y ys (t x) (first_that t (y ∷ ys)) e (first_above y (y ∷ ys) (reflexive le total y, o.0)))

  onto_first : (acc xs : List A) → Ordered le acc → first_that t (sort_onto_by le acc xs) ≡ foldl step_by (first_that t acc) xs
  onto_first acc [] o = refl
  onto_first acc (x ∷ xs) o =
      onto_first (insert_by le x acc) xs (insert_ordered le total trans x acc o)
      ∙ ap (λ (b : Option A). foldl step_by b xs) (insert_first x acc o)

  pub first_is_least : (xs : List A) → first_that t (sorted_by le xs) ≡ least_that le t xs
  first_is_least xs = onto_first [] xs tt

-- an order that also tells any two elements apart of which F holds
module _ {A : Type 0} (le : A → A → Bool) (total : (x y : A) → le x y ≡ false → le y x ≡ true)
    (trans : (x y z : A) → le x y ≡ true → le y z ≡ true → le x z ≡ true)
    (F : A → Type 0) (antisym : (x y : A) → F x → F y → le x y ≡ true → le y x ≡ true → x ≡ y) (t : A → Bool) where
  -- ---- what the first is

  -- x is in the list and passes, and each element of the list that passes is x or stands after it
  pub record FirstIn (xs : List A) (x : A) : Type 0 where
    pub listed : Memᴰ x xs
    pub passes : t x ≡ true
    pub first : (y : A) → Memᴰ y xs → t y ≡ true → le x y ≡ true

  above_each : (z : A) (l : List A) → AtLeast le z l → (y : A) → Memᴰ y l → le z y ≡ true
  above_each z [] h y m = absurd (Memᴰ.not-nil m)
  above_each z (x ∷ xs) h y m = go (above_each z xs h.1 y) (Memᴰ.cases_cons m)
    where
      go : (Memᴰ y xs → le z y ≡ true) → (y ≡ x) ⊎ Memᴰ y xs → le z y ≡ true
      go ih (inl e) = ap (le z) e ∙ h.0
      go ih (inr r) = ih r

  ordered_first : (l : List A) (x : A) → Ordered le l → first_that t l ≡ Some x → FirstIn l x
  ordered_first [] x o e = absurd (none-some x e)
  ordered_first (y ∷ ys) x o e = go (t y) refl (λ q. ordered_first ys x o.1 q) e
    where
      after : FirstIn ys x → t y ≡ false → (z : A) → (z ≡ y) ⊎ Memᴰ z ys → t z ≡ true → le x z ≡ true
      after f q z (inl r) u = absurd (true≢false (sym u ∙ ap t r ∙ q))
      after f q z (inr r) u = f.first z r u

      here : y ≡ x → (z : A) → (z ≡ y) ⊎ Memᴰ z ys → le x z ≡ true
      here q z (inl r) = ap (λ (w : A). le w z) (sym q) ∙ ap (le y) r ∙ reflexive le total y
      here q z (inr r) = ap (λ (w : A). le w z) (sym q) ∙ above_each y ys o.0 z r

      go : (b : Bool) → t y ≡ b → (first_that t ys ≡ Some x → FirstIn ys x) → cond b (Some y) (first_that t ys) ≡ Some x → FirstIn (y ∷ ys) x
      go true q ih e =
          let r : y ≡ x = same_Some y x e in
          record { listed = Memᴰ.head (sym r); passes = ap t (sym r) ∙ q; first = λ z m u. here r z (Memᴰ.cases_cons m) }
      go false q ih e =
          let f = ih e in
          record { listed = Memᴰ.tail f.listed; passes = f.passes; first = λ z m u. after f q z (Memᴰ.cases_cons m) u }

  none_passes : (l : List A) → first_that t l ≡ None → (y : A) → Memᴰ y l → t y ≡ false
  none_passes [] e y m = absurd (Memᴰ.not-nil m)
  none_passes (x ∷ xs) e y m = go (t x) refl (λ q. none_passes xs q y) e (Memᴰ.cases_cons m)
    where
      go : (b : Bool) → t x ≡ b → (first_that t xs ≡ None → Memᴰ y xs → t y ≡ false) → cond b (Some x) (first_that t xs) ≡ None → (y ≡ x) ⊎ Memᴰ y xs → t y ≡ false
      go true q ih e h = absurd (none-some x (sym e))
      go false q ih e (inl r) = ap t r ∙ q
      go false q ih e (inr r) = ih e r

  none_found : (l : List A) → ((y : A) → Memᴰ y l → t y ≡ false) → first_that t l ≡ None
  none_found [] h = refl
  none_found (x ∷ xs) h = rw (h x (Memᴰ.head refl)) (none_found xs (λ y m. h y (Memᴰ.tail m)))

  -- none is found exactly if no element passes
  pub none_means : (xs : List A) → (first_that t (sorted_by le xs) ≡ None) ↔ ((y : A) → Memᴰ y xs → t y ≡ false)
  none_means xs = (
    λ e y m. none_passes (sorted_by le xs) e y ((sorted_listed le y xs).1 m),
    λ h. none_found (sorted_by le xs) (λ y m. h y ((sorted_listed le y xs).0 m)),
  )

  found_first : (xs : List A) (x : A) → first_that t (sorted_by le xs) ≡ Some x → FirstIn xs x
  found_first xs x e =
      let f = ordered_first (sorted_by le xs) x (sorted_ordered le total trans xs) e in
      record { listed = (sorted_listed le x xs).0 f.listed; passes = f.passes; first = λ y m. f.first y ((sorted_listed le y xs).1 m) }

  first_found : (xs : List A) (x : A) → AllOf F xs → FirstIn xs x → first_that t (sorted_by le xs) ≡ Some x
  first_found xs x a f = go (first_that t (sorted_by le xs)) refl
    where
      go : (r : Option A) → first_that t (sorted_by le xs) ≡ r → first_that t (sorted_by le xs) ≡ Some x
      go None e = absurd (true≢false (sym f.passes ∙ (none_means xs).0 e x f.listed))
      go (Some y) e =
          let g = found_first xs y e in
          e ∙ ap Some (antisym y x (all_of_listed F xs a y g.listed) (all_of_listed F xs a x f.listed) (g.first x f.listed f.passes) (f.first y g.listed g.passes))

  -- x is found exactly if it is the first
  pub first_means : (xs : List A) (x : A) → AllOf F xs → (first_that t (sorted_by le xs) ≡ Some x) ↔ FirstIn xs x
  first_means xs x a = (found_first xs x, first_found xs x a)

-- ---- the first of the numbers 0 to k with the least value
module _ {A : Type 0} (le : A → A → Bool) (f : ℕ → A) where
  -- its value is at most that of each of them, and no number before it has a value that is at most its own
  pub record FirstLeast (k i : ℕ) : Type 0 where
    pub within : i ≤ k
    pub least : (j : ℕ) → j ≤ k → le (f i) (f j) ≡ true
    pub first : (j : ℕ) → j < i → le (f j) (f i) ≡ false

  -- the value that is found is that of the number
  pub least_value : (k : ℕ) → (least_up_to le f k).1 ≡ f (least_up_to le f k).0
  unfolding least_up_to
  least_value zero = refl
  least_value (suc k) = go (le (least_up_to le f k).1 (f (suc k))) (least_value k)
    where
      go : (b : Bool) → (least_up_to le f k).1 ≡ f (least_up_to le f k).0
          → (cond {A = ℕ × A} b (least_up_to le f k) (suc k, f (suc k))).1 ≡ f (cond {A = ℕ × A} b (least_up_to le f k) (suc k, f (suc k))).0
      go true ih = ih
      go false ih = refl

  module _ (total : (x y : A) → le x y ≡ false → le y x ≡ true) (trans : (x y z : A) → le x y ≡ true → le y z ≡ true → le x z ≡ true) where
    kept : (k i : ℕ) → FirstLeast k i → le (f i) (f (suc k)) ≡ true → FirstLeast (suc k) i
    kept k i p e = record {
      within = omega (arith, p.within);
      least = λ j h. ⊎_elim (λ (q : j ≡ suc k). ap (λ (m : ℕ). le (f i) (f m)) q ∙ e) (λ (l : j < suc k). p.least j (le_of_suc-le-suc l)) (eq-or-lt_of_le h);
      first = p.first;
    }

    moved : (k i : ℕ) → FirstLeast k i → le (f i) (f (suc k)) ≡ false → FirstLeast (suc k) (suc k)
    moved k i p e = record {
      within = le_refl (suc k);
      least = λ j h.
          ⊎_elim (λ (q : j ≡ suc k). ap (λ (m : ℕ). le (f (suc k)) (f m)) q ∙ reflexive le total (f (suc k)))
          (λ (l : j < suc k). trans (f (suc k)) (f i) (f j) (total (f i) (f (suc k)) e) (p.least j (le_of_suc-le-suc l))) (eq-or-lt_of_le h);
      first = λ j h. go (p.least j (le_of_suc-le-suc h)) (le (f j) (f (suc k))) refl;
    }
      where
        go : {j : ℕ} → le (f i) (f j) ≡ true → (b : Bool) → le (f j) (f (suc k)) ≡ b → le (f j) (f (suc k)) ≡ false
        go {j} h true q = absurd (true≢false (sym (trans (f i) (f j) (f (suc k)) h q) ∙ e))
        go h false q = q

    pub least_is : (k : ℕ) → FirstLeast k (least_up_to le f k).0
    unfolding least_up_to
    least_is zero = record {
      within = le_refl 0;
      least = λ j h. let e : 0 ≡ j = omega arith in ap (λ (m : ℕ). le (f 0) (f m)) (sym e) ∙ reflexive le total (f 0);
      first = λ j h. absurd (omega arith);
    }
    least_is (suc k) = go (le (least_up_to le f k).1 (f (suc k))) (ap (λ (x : A). le x (f (suc k))) (sym (least_value k))) (least_is k)
      where
        go : (b : Bool) → le (f (least_up_to le f k).0) (f (suc k)) ≡ b → FirstLeast k (least_up_to le f k).0
            → FirstLeast (suc k) (cond {A = ℕ × A} b (least_up_to le f k) (suc k, f (suc k))).0
        go true e p = kept k (least_up_to le f k).0 p e
        go false e p = moved k (least_up_to le f k).0 p e

    least_before : (k i j : ℕ) → FirstLeast k i → FirstLeast k j → i < j → ⊥
    least_before k i j p q h = true≢false (sym (p.least j q.within) ∙ q.first i h)

    -- there is one such number, and it is found
    pub least_means : (k i : ℕ) → ((least_up_to le f k).0 ≡ i) ↔ FirstLeast k i
    least_means k i =
        let m = (least_up_to le f k).0 in (
          λ e. subst (FirstLeast k) e (least_is k),
          λ p. omega (arith, least_before k m i (least_is k) p, least_before k i m p (least_is k)),
        )
