-- What is in a list: the elements that pass a test, lists put together, and lists in which no element stands twice. Assumes nothing.
use Rattle.std.specs.Prelude.{◌≡◌, refl, ◌↔◌, ◌⊎◌, Bool, true, false, cond}
use Rattle.std.proofs.Common.{sym, ap, subst, ◌∙◌, inl, inr, true≢false, arith}
use Rattle.std.proofs.Math.Bool.{and-eq-true_iff}
use mathlib.Core.List.Memᴰ
use mathlib.Core.List.{List, [], ◌∷◌, ◌++◌, append-nil, Memᴰ}
use Prim.Native.Nat.{ℕ, zero, suc, ◌<◌}
use Rattle.std.specs.List.{list_all, filter}
use Rattle.lists.specs.All.{AllOf, Distinct}
use Rattle.lists.specs.AllLaws.{all_of_listed}
use Rattle.lists.specs.Below.{those_below, each_below}
use Rattle.lists.specs.BelowLaws.{those_below_means, each_below_listed}
use Rattle.lists.specs.Sort.{insert_by, sort_onto_by, sorted_by}
use Rattle.lists.specs.SortLaws.{AtLeast, Ordered, placed_where, insert_forth}

-- ---- where an element stands
module _ {A : Type 0} where
  pub record Split (xs : List A) (x : A) : Type 0 where
    pub before : List A
    pub after : List A
    pub parts : xs ≡ before ++ x ∷ after

  pub split : (x : A) (xs : List A) → Memᴰ x xs → Split xs x
  split x [] m = absurd (Memᴰ.not-nil m)
  split x (y ∷ ys) m = go (split x ys) (Memᴰ.cases_cons m)
    where
      go : (Memᴰ x ys → Split ys x) → (x ≡ y) ⊎ Memᴰ x ys → Split (y ∷ ys) x
      go ih (inl e) = record { before = []; after = ys; parts = ap (λ (z : A). z ∷ ys) (sym e) }
      go ih (inr r) = let s = ih r in record { before = y ∷ s.before; after = s.after; parts = ap (λ (l : List A). y ∷ l) s.parts }

-- ---- what holds of whatever is in the list holds of each element
pub listed_all_of : {A : Type 0} (F : A → Type 0) (xs : List A) → ((y : A) → Memᴰ y xs → F y) → AllOf F xs
listed_all_of F [] h = tt
listed_all_of F (x ∷ xs) h = (h x (Memᴰ.head refl), listed_all_of F xs (λ y m. h y (Memᴰ.tail m)))

-- each passes exactly if whatever is in the list does
pub all_listed : {A : Type 0} (p : A → Bool) (xs : List A) → list_all p xs ≡ true → (y : A) → Memᴰ y xs → p y ≡ true
all_listed {A} p xs e = all_of_listed (λ x. p x ≡ true) xs (each xs e)
  where
    each : (xs : List A) → list_all p xs ≡ true → AllOf (λ x. p x ≡ true) xs
    each [] e = tt
    each (x ∷ xs) e = let q = (and-eq-true_iff (p x) (list_all p xs)).0 e in (q.0, each xs q.1)

pub listed_all : {A : Type 0} (p : A → Bool) (xs : List A) → ((y : A) → Memᴰ y xs → p y ≡ true) → list_all p xs ≡ true
listed_all p [] h = refl
listed_all p (x ∷ xs) h = (and-eq-true_iff (p x) (list_all p xs)).1 (h x (Memᴰ.head refl), listed_all p xs (λ y m. h y (Memᴰ.tail m)))

-- ---- those that pass
module _ {A : Type 0} (p : A → Bool) where
  pub passing_append : (xs ys : List A) → filter p (xs ++ ys) ≡ filter p xs ++ filter p ys
  passing_append [] ys = refl
  passing_append (x ∷ xs) ys = go (p x) (passing_append xs ys)
    where
      go : (b : Bool) → filter p (xs ++ ys) ≡ filter p xs ++ filter p ys
          → cond b (x ∷ filter p (xs ++ ys)) (filter p (xs ++ ys)) ≡ cond b (x ∷ filter p xs) (filter p xs) ++ filter p ys
      go true e = ap (λ (l : List A). x ∷ l) e
      go false e = e

  forth : (x : A) (xs : List A) → Memᴰ x (filter p xs) → Memᴰ x xs × (p x ≡ true)
  forth x [] m = absurd (Memᴰ.not-nil m)
  forth x (y ∷ ys) m = go (p y) refl (forth x ys) m
    where
      later : Memᴰ x ys × (p x ≡ true) → Memᴰ x (y ∷ ys) × (p x ≡ true)
      later r = (Memᴰ.tail r.0, r.1)

      head : p y ≡ true → (Memᴰ x (filter p ys) → Memᴰ x ys × (p x ≡ true)) → (x ≡ y) ⊎ Memᴰ x (filter p ys) → Memᴰ x (y ∷ ys) × (p x ≡ true)
      head q ih (inl e) = (Memᴰ.head e, ap p e ∙ q)
      head q ih (inr r) = later (ih r)

      go : (b : Bool) → p y ≡ b → (Memᴰ x (filter p ys) → Memᴰ x ys × (p x ≡ true)) → Memᴰ x (cond b (y ∷ filter p ys) (filter p ys)) → Memᴰ x (y ∷ ys) × (p x ≡ true)
      go true q ih m = head q ih (Memᴰ.cases_cons m)
      go false q ih m = later (ih m)

  back : (x : A) (xs : List A) → p x ≡ true → Memᴰ x xs → Memᴰ x (filter p xs)
  back x [] t m = absurd (Memᴰ.not-nil m)
  back x (y ∷ ys) t m = go (p y) refl (back x ys t) (Memᴰ.cases_cons m)
    where
      go : (b : Bool) → p y ≡ b → (Memᴰ x ys → Memᴰ x (filter p ys)) → (x ≡ y) ⊎ Memᴰ x ys → Memᴰ x (cond b (y ∷ filter p ys) (filter p ys))
      go true q ih (inl e) = Memᴰ.head e
      go true q ih (inr r) = Memᴰ.tail (ih r)
      go false q ih (inl e) = absurd (true≢false (sym t ∙ ap p e ∙ q))
      go false q ih (inr r) = ih r

  pub passing_listed : (x : A) (xs : List A) → Memᴰ x (filter p xs) ↔ (Memᴰ x xs × (p x ≡ true))
  passing_listed x xs = (forth x xs, λ h. back x xs h.1 h.0)

  pub passing_all_of : (F : A → Type 0) (xs : List A) → AllOf F xs → AllOf F (filter p xs)
  passing_all_of F xs a = listed_all_of F (filter p xs) (λ y m. all_of_listed F xs a y (forth y xs m).0)

  pub passing_distinct : (xs : List A) → Distinct xs → Distinct (filter p xs)
  passing_distinct [] h = tt
  passing_distinct (x ∷ xs) h = go (p x) (passing_distinct xs h.1)
    where
      go : (b : Bool) → Distinct (filter p xs) → Distinct (cond b (x ∷ filter p xs) (filter p xs))
      go true ih = (passing_all_of (λ y. y ≡ x → ⊥) xs h.0, ih)
      go false ih = ih

  -- they stay in order
  module _ (le : A → A → Bool) where
    passing_at_least : (z : A) (xs : List A) → AtLeast le z xs → AtLeast le z (filter p xs)
    passing_at_least z [] h = tt
    passing_at_least z (x ∷ xs) h = go (p x) (passing_at_least z xs h.1)
      where
        go : (b : Bool) → AtLeast le z (filter p xs) → AtLeast le z (cond b (x ∷ filter p xs) (filter p xs))
        go true ih = (h.0, ih)
        go false ih = ih

    pub passing_ordered : (xs : List A) → Ordered le xs → Ordered le (filter p xs)
    passing_ordered [] h = tt
    passing_ordered (x ∷ xs) h = go (p x) (passing_ordered xs h.1)
      where
        go : (b : Bool) → Ordered le (filter p xs) → Ordered le (cond b (x ∷ filter p xs) (filter p xs))
        go true ih = (passing_at_least x xs h.0, ih)
        go false ih = ih

-- ---- no element twice
module _ {A : Type 0} where
  all_of_more : (F : A → Type 0) (xs : List A) (x : A) → AllOf F xs → F x → AllOf F (xs ++ (x ∷ []))
  all_of_more F [] x a f = (f, tt)
  all_of_more F (y ∷ ys) x a f = (a.0, all_of_more F ys x a.1 f)

  -- one element more, which is not there
  pub distinct_more : (xs : List A) (x : A) → Distinct xs → (Memᴰ x xs → ⊥) → Distinct (xs ++ (x ∷ []))
  distinct_more [] x d n = (tt, tt)
  distinct_more (y ∷ ys) x d n =
      (all_of_more (λ z. z ≡ y → ⊥) ys x d.0 (λ e. n (Memᴰ.head e)), distinct_more ys x d.1 (λ m. n (Memᴰ.tail m)))

  -- an element is in neither part beside it
  pub distinct_before : (xs : List A) (x : A) (ys : List A) → Distinct (xs ++ x ∷ ys) → Memᴰ x xs → ⊥
  distinct_before [] x ys d m = Memᴰ.not-nil m
  distinct_before (z ∷ zs) x ys d m = go (distinct_before zs x ys d.1) (Memᴰ.cases_cons m)
    where
      go : (Memᴰ x zs → ⊥) → (x ≡ z) ⊎ Memᴰ x zs → ⊥
      go ih (inl e) = all_of_listed (λ y. y ≡ z → ⊥) (zs ++ x ∷ ys) d.0 x (Memᴰ.append_right zs (Memᴰ.head refl)) e
      go ih (inr r) = ih r

  pub distinct_after : (xs : List A) (x : A) (ys : List A) → Distinct (xs ++ x ∷ ys) → Memᴰ x ys → ⊥
  distinct_after [] x ys d m = all_of_listed (λ y. y ≡ x → ⊥) ys d.0 x m refl
  distinct_after (z ∷ zs) x ys d m = distinct_after zs x ys d.1 m

  -- f 0, f 1, .. f (k - 1), no two of which are the same
  pub each_below_distinct : (f : ℕ → A) (k : ℕ) → ((i j : ℕ) → i < j → j < k → f i ≡ f j → ⊥) → Distinct (each_below f k)
  unfolding each_below
  each_below_distinct f zero h = tt
  each_below_distinct f (suc k) h =
      distinct_more (each_below f k) (f k) (each_below_distinct f k (λ i j l g. h i j l (omega arith)))
      (λ m. let p = (each_below_listed f k (f k)).0 m in h p.place k p.small (omega arith) p.here)

  -- a sort has each element as often as the list
  module _ (le : A → A → Bool) where
    insert_distinct : (x : A) (l : List A) → Distinct l → (Memᴰ x l → ⊥) → Distinct (insert_by le x l)
    insert_distinct x [] d n = (tt, tt)
    insert_distinct x (y ∷ ys) d n =
        let ih = insert_distinct x ys d.1 (λ m. n (Memᴰ.tail m)) in
        placed_where le x y ys Distinct
        (λ e. (listed_all_of (λ z. z ≡ y → ⊥) (insert_by le x ys) (λ z m q. apart (insert_forth le x z ys m) q), ih))
        (λ e. (listed_all_of (λ z. z ≡ x → ⊥) (y ∷ ys) (λ z m q. n (subst (λ (u : A). Memᴰ u (y ∷ ys)) q m)), d))
      where
        apart : {z : A} → (z ≡ x) ⊎ Memᴰ z ys → z ≡ y → ⊥
        apart (inl e) q = n (Memᴰ.head (sym e ∙ q))
        apart {z} (inr r) q = all_of_listed (λ u. u ≡ y → ⊥) ys d.0 z r q

    onto_distinct : (acc xs : List A) → Distinct acc → Distinct xs → ((z : A) → Memᴰ z acc → Memᴰ z xs → ⊥) → Distinct (sort_onto_by le acc xs)
    onto_distinct acc [] a d n = a
    onto_distinct acc (x ∷ xs) a d n =
        onto_distinct (insert_by le x acc) xs (insert_distinct x acc a (λ m. n x m (Memᴰ.head refl))) d.1
        (λ z m r. elim (insert_forth le x z acc m) [ inl e ↦ all_of_listed (λ y. y ≡ x → ⊥) xs d.0 z r e | inr k ↦ n z k (Memᴰ.tail r) ])

    pub sorted_distinct : (xs : List A) → Distinct xs → Distinct (sorted_by le xs)
    sorted_distinct xs d = onto_distinct [] xs tt d (λ z m r. Memᴰ.not-nil m)

-- the numbers below k that pass, each once
pub those_below_distinct : (f : ℕ → Bool) (k : ℕ) → Distinct (those_below f k)
unfolding those_below
those_below_distinct f zero = tt
those_below_distinct f (suc k) = go (f k) (those_below_distinct f k)
  where
    go : (b : Bool) → Distinct (those_below f k) → Distinct (those_below f k ++ cond b (k ∷ []) [])
    go true d = distinct_more (those_below f k) k d (λ m. omega (arith, ((those_below_means f k k).0 m).0))
    go false d = rw append-nil d
