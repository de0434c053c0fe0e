-- What the tests and statements over a whole list say of its elements. Assumes nothing.
use Rattle.std.specs.Prelude.{◌≡◌, refl, ◌↔◌, ◌⊎◌, Bool, true, false, ◌||◌, ℕ, zero, suc, ◌<◌, length, get_or, take}
use Rattle.std.proofs.Common.{sym, ap, subst, inl, inr, true≢false, suc-le-suc, zero-lt-suc, not-suc-le-zero, le_of_suc-le-suc}
use Rattle.std.proofs.Math.Bool.{and-eq-true_iff}
use mathlib.Core.List.Memᴰ
use mathlib.Core.List.{List, [], ◌∷◌, ◌++◌, Memᴰ}
use Rattle.std.specs.List.{list_all, list_any}
use Rattle.lists.specs.All.{AllOf}

module _ {A : Type 0} (p : A → Bool) (d : A) where
  -- each element passes; d stands past the end
  abbrev pub Each : List A → Type 0
  Each xs = (k : ℕ) → k < length xs → p (get_or xs k d) ≡ true

  forth : (xs : List A) → list_all p xs ≡ true → Each xs
  forth [] e k h = absurd (not-suc-le-zero h)
  forth (x ∷ xs) e zero h = ((and-eq-true_iff (p x) (list_all p xs)).0 e).0
  forth (x ∷ xs) e (suc k) h = forth xs ((and-eq-true_iff (p x) (list_all p xs)).0 e).1 k (le_of_suc-le-suc h)

  back : (xs : List A) → Each xs → list_all p xs ≡ true
  back [] h = refl
  back (x ∷ xs) h = (and-eq-true_iff (p x) (list_all p xs)).1 (h zero (zero-lt-suc (length xs)), back xs (λ k l. h (suc k) (suc-le-suc l)))

  pub all_means : (xs : List A) → (list_all p xs ≡ true) ↔ Each xs
  all_means xs = (forth xs, back xs)

  -- the first k pass; d, which passes, takes the place of those that the list lacks
  module _ (past : p d ≡ true) where
    taken_forth : (k : ℕ) (xs : List A) → list_all p (take k xs) ≡ true → (i : ℕ) → i < k → p (get_or xs i d) ≡ true
    taken_forth zero xs e i h = absurd (not-suc-le-zero h)
    taken_forth (suc k) [] e i h = past
    taken_forth (suc k) (x ∷ xs) e zero h = ((and-eq-true_iff (p x) (list_all p (take k xs))).0 e).0
    taken_forth (suc k) (x ∷ xs) e (suc i) h = taken_forth k xs ((and-eq-true_iff (p x) (list_all p (take k xs))).0 e).1 i (le_of_suc-le-suc h)

    taken_back : (k : ℕ) (xs : List A) → ((i : ℕ) → i < k → p (get_or xs i d) ≡ true) → list_all p (take k xs) ≡ true
    taken_back zero xs h = refl
    taken_back (suc k) [] h = refl
    taken_back (suc k) (x ∷ xs) h =
        (and-eq-true_iff (p x) (list_all p (take k xs))).1 (h zero (zero-lt-suc k), taken_back k xs (λ i l. h (suc i) (suc-le-suc l)))

    pub all_taken_means : (k : ℕ) (xs : List A) → (list_all p (take k xs) ≡ true) ↔ ((i : ℕ) → i < k → p (get_or xs i d) ≡ true)
    all_taken_means k xs = (taken_forth k xs, taken_back k xs)

  -- some element passes, and at which place
  pub record Somewhere (xs : List A) : Type 0 where
    pub place : ℕ
    pub inside : place < length xs
    pub passes : p (get_or xs place d) ≡ true

  found : (xs : List A) → list_any p xs ≡ true → Somewhere xs
  found [] e = absurd (true≢false (sym e))
  found (x ∷ xs) e = go (p x) refl (found xs) e
    where
      go : (b : Bool) → p x ≡ b → (list_any p xs ≡ true → Somewhere xs) → (b || list_any p xs) ≡ true → Somewhere (x ∷ xs)
      go true q ih e = record { place = zero; inside = zero-lt-suc (length xs); passes = q }
      go false q ih e = let s = ih e in record { place = suc s.place; inside = suc-le-suc s.inside; passes = s.passes }

  shown : (xs : List A) (k : ℕ) → k < length xs → p (get_or xs k d) ≡ true → list_any p xs ≡ true
  shown [] k h e = absurd (not-suc-le-zero h)
  shown (x ∷ xs) zero h e = ap (λ (b : Bool). b || list_any p xs) e
  shown (x ∷ xs) (suc k) h e = go (p x) (shown xs k (le_of_suc-le-suc h) e)
    where
      go : (b : Bool) → list_any p xs ≡ true → (b || list_any p xs) ≡ true
      go true q = refl
      go false q = q

  pub any_means : (xs : List A) → (list_any p xs ≡ true) ↔ Somewhere xs
  any_means xs = (found xs, λ s. shown xs s.place s.inside s.passes)

-- F holds of each element exactly if it does at each place
module _ {A : Type 0} (F : A → Type 0) (d : A) where
  placed : (xs : List A) → AllOf F xs → (k : ℕ) → k < length xs → F (get_or xs k d)
  placed [] a k h = absurd (not-suc-le-zero h)
  placed (x ∷ xs) a zero h = a.0
  placed (x ∷ xs) a (suc k) h = placed xs a.1 k (le_of_suc-le-suc h)

  gathered : (xs : List A) → ((k : ℕ) → k < length xs → F (get_or xs k d)) → AllOf F xs
  gathered [] h = tt
  gathered (x ∷ xs) h = (h zero (zero-lt-suc (length xs)), gathered xs (λ k l. h (suc k) (suc-le-suc l)))

  pub all_of_means : (xs : List A) → AllOf F xs ↔ ((k : ℕ) → k < length xs → F (get_or xs k d))
  all_of_means xs = (placed xs, gathered xs)

-- and so of whatever is in the list
pub all_of_listed : {A : Type 0} (F : A → Type 0) (xs : List A) → AllOf F xs → (y : A) → Memᴰ y xs → F y
all_of_listed F [] a y m = absurd (Memᴰ.not-nil m)
all_of_listed {A} F (x ∷ xs) a y m = go (all_of_listed F xs a.1 y) (Memᴰ.cases_cons m)
  where
    go : (Memᴰ y xs → F y) → (y ≡ x) ⊎ Memᴰ y xs → F y
    go ih (inl e) = subst F (sym e) a.0
    go ih (inr r) = ih r

-- what holds of each element gives what follows from it
pub all_of_map : {A : Type 0} {P Q : A → Type 0} → ((x : A) → P x → Q x) → (xs : List A) → AllOf P xs → AllOf Q xs
all_of_map f [] a = tt
all_of_map f (x ∷ xs) a = (f x a.0, all_of_map f xs a.1)

-- tests that agree
module _ {A : Type 0} (p q : A → Bool) (same : (x : A) → p x ≡ q x) where
  pub all_same : (xs : List A) → list_all p xs ≡ list_all q xs
  all_same [] = refl
  all_same (x ∷ xs) = rw (same x, all_same xs)

-- one element more
pub all_more : {A : Type 0} (p : A → Bool) (xs : List A) (x : A) → list_all p xs ≡ true → p x ≡ true → list_all p (xs ++ (x ∷ [])) ≡ true
all_more p [] x h e = rw e
all_more p (y ∷ ys) x h e =
    let b = (and-eq-true_iff (p y) (list_all p ys)).0 h in
    (and-eq-true_iff (p y) (list_all p (ys ++ (x ∷ [])))).1 (b.0, all_more p ys x b.1 e)

-- within a list it does not matter what stands past its end
pub inside_any : {A : Type 0} (xs : List A) (i : ℕ) (a b : A) → i < length xs → get_or xs i a ≡ get_or xs i b
inside_any [] i a b h = absurd (not-suc-le-zero h)
inside_any (x ∷ xs) zero a b h = refl
inside_any (x ∷ xs) (suc i) a b h = inside_any xs i a b (le_of_suc-le-suc h)

-- what stands within a list is in it
pub inside_listed : {A : Type 0} (xs : List A) (i : ℕ) (d : A) → i < length xs → Memᴰ (get_or xs i d) xs
inside_listed [] i d h = absurd (not-suc-le-zero h)
inside_listed (x ∷ xs) zero d h = Memᴰ.head refl
inside_listed (x ∷ xs) (suc i) d h = Memᴰ.tail (inside_listed xs i d (le_of_suc-le-suc h))
