-- What the tests over the numbers below a bound mean, for any test. Assumes nothing.
use Rattle.std.specs.Prelude.{◌≡◌, ◌↔◌, ◌⊎◌, Bool, cond, ◌||◌, length, get_or}
use Rattle.std.proofs.Math.Path.{refl, sym, ap}
use Rattle.std.proofs.Common.{subst, ◌∙◌, inr, true≢false, not-suc-le-zero, le_of_suc-le-suc, eq-or-lt_of_le, arith, lt-ltb}
use Rattle.std.proofs.Math.Logic.{inl, ⊎_elim}
use Rattle.std.proofs.Math.Bool.{true, false}
use mathlib.Core.List.{List, [], ◌∷◌, ◌++◌, append-nil, Memᴰ}
use Prim.Native.Nat.{ℕ, zero, suc, ◌+◌, ◌≤◌, ◌<◌}
use Rattle.std.proofs.Math.Dec.{ltb}
use Rattle.std.proofs.Math.ListN.{length-append, get_or-append}
use Rattle.std.proofs.Math.Seq.{get_or_at}
use Rattle.std.specs.List.{list_all}
use Rattle.lists.specs.AllLaws.{all_means}
use Rattle.lists.specs.Below.{some_below, those_below, run_from, each_below}
use Rattle.lists.specs.SortLaws.{AtLeast, Ordered}

-- a number below k that passes
pub record Passing (f : ℕ → Bool) (k : ℕ) : Type 0 where
  pub number : ℕ
  pub small : number < k
  pub passes : f number ≡ true

module _ (f : ℕ → Bool) where
  -- ---- some number passes

  found : (k : ℕ) → some_below f k ≡ true → Passing f k
  unfolding some_below
  found zero e = absurd (true≢false (sym e))
  found (suc k) e = go (f k) refl (found k) e
    where
      go : (b : Bool) → f k ≡ b → (some_below f k ≡ true → Passing f k) → (b || some_below f k) ≡ true → Passing f (suc k)
      go true q ih e = record { number = k; small = omega arith; passes = q }
      go false q ih e = let s = ih e in record { number = s.number; small = omega arith; passes = s.passes }

  shown : (k i : ℕ) → i < k → f i ≡ true → some_below f k ≡ true
  unfolding some_below
  shown zero i h e = absurd (not-suc-le-zero h)
  shown (suc k) i h e =
      ⊎_elim (λ (q : i ≡ k). rw (subst (λ (x : ℕ). f x ≡ true) q e)) (λ (l : i < k). rw (shown k i l e) (go (f k))) (eq-or-lt_of_le (le_of_suc-le-suc h))
    where
      go : (b : Bool) → (b || true) ≡ true
      go true = refl
      go false = refl

  pub some_below_means : (k : ℕ) → (some_below f k ≡ true) ↔ Passing f k
  some_below_means k = (found k, λ s. shown k s.number s.small s.passes)

  pub none_below_means : (k : ℕ) → (some_below f k ≡ false) ↔ ((i : ℕ) → i < k → f i ≡ false)
  none_below_means k = (λ e i h. off e i h (f i) refl, λ a. none a (some_below f k) refl)
    where
      off : some_below f k ≡ false → (i : ℕ) → i < k → (b : Bool) → f i ≡ b → f i ≡ false
      off e i h true q = absurd (true≢false (sym (shown k i h q) ∙ e))
      off e i h false q = q

      none : ((i : ℕ) → i < k → f i ≡ false) → (b : Bool) → some_below f k ≡ b → some_below f k ≡ false
      none a true q = let s = found k q in absurd (true≢false (sym s.passes ∙ a s.number s.small))
      none a false q = q

  -- ---- those that pass

  last : (k m : ℕ) (b : Bool) → f k ≡ b → Memᴰ m (cond b (k ∷ []) []) → (m < suc k) × (f m ≡ true)
  last k m true q d = let e = mathlib.Core.List.Memᴰ.eq_of_singleton d in (omega arith, ap f e ∙ q)
  last k m false q d = absurd (mathlib.Core.List.Memᴰ.not-nil d)

  forth : (k m : ℕ) → Memᴰ m (those_below f k) → (m < k) × (f m ≡ true)
  unfolding those_below
  forth zero m d = absurd (mathlib.Core.List.Memᴰ.not-nil d)
  forth (suc k) m d =
      ⊎_elim (λ (l : Memᴰ m (those_below f k)). let r = forth k m l in (omega (arith, r.0), r.1)) (last k m (f k) refl) (mathlib.Core.List.Memᴰ.append_cases (those_below f k) d)

  back : (k m : ℕ) → m < k → f m ≡ true → Memᴰ m (those_below f k)
  unfolding those_below
  back zero m h e = absurd (not-suc-le-zero h)
  back (suc k) m h e =
      ⊎_elim
      (λ (q : m ≡ k). mathlib.Core.List.Memᴰ.append_right (those_below f k) (rw (ap f (sym q) ∙ e) (mathlib.Core.List.Memᴰ.head q)))
      (λ (l : m < k). mathlib.Core.List.Memᴰ.append_left (cond (f k) (k ∷ []) []) (back k m l e))
      (eq-or-lt_of_le (le_of_suc-le-suc h))

  pub those_below_means : (k m : ℕ) → Memᴰ m (those_below f k) ↔ ((m < k) × (f m ≡ true))
  those_below_means k m = (forth k m, λ p. back k m p.0 p.1)

  -- ---- and they rise

  pub those_below_rising : (k : ℕ) → Ordered ltb (those_below f k)
  unfolding those_below
  those_below_rising zero = tt
  those_below_rising (suc k) = ordered (f k) (those_below f k) (those_below_rising k) (λ x d. (forth k x d).0)
    where
      above : (z : ℕ) (xs : List ℕ) → z < k → AtLeast ltb z xs → AtLeast ltb z (xs ++ (k ∷ []))
      above z [] h a = (lt-ltb z k h, tt)
      above z (x ∷ xs) h a = (a.0, above z xs h a.1)

      ordered : (b : Bool) (xs : List ℕ) → Ordered ltb xs → ((x : ℕ) → Memᴰ x xs → x < k) → Ordered ltb (xs ++ cond b (k ∷ []) [])
      ordered true [] o h = (tt, tt)
      ordered true (x ∷ xs) o h = (above x xs (h x (mathlib.Core.List.Memᴰ.head refl)) o.0, ordered true xs o.1 (λ y d. h y (mathlib.Core.List.Memᴰ.tail d)))
      ordered false xs o h = rw append-nil o

-- ---- an unbroken run: r is its length exactly if every number below r passes, and r is m or fails
module _ (f : ℕ → Bool) where
  pub record Run (m k r : ℕ) : Type 0 where
    pub from : k ≤ r
    pub within : r ≤ k + m
    pub passes : (i : ℕ) → k ≤ i → i < r → f i ≡ true
    pub ends : (r ≡ k + m) ⊎ (f r ≡ false)

  stop : (m k : ℕ) → f k ≡ false → Run m k k
  stop m k e = record { from = omega arith; within = omega arith; passes = λ i h l. absurd (omega arith); ends = inr e }

  on : (m k r : ℕ) → f k ≡ true → Run m (suc k) r → Run (suc m) k r
  on m k r e u = record {
    from = omega (arith, u.from);
    within = omega (arith, u.within);
    passes = λ i h l. ⊎_elim (λ (q : k ≡ i). ap f (sym q) ∙ e) (λ (g : k < i). u.passes i g l) (eq-or-lt_of_le h);
    ends = ⊎_elim (λ (q : r ≡ suc k + m). inl (omega arith)) (λ (q : f r ≡ false). inr q) u.ends;
  }

  pub run_is : (m k : ℕ) → Run m k (run_from f m k)
  unfolding run_from
  run_is zero k = record { from = omega arith; within = omega arith; passes = λ i h l. absurd (omega arith); ends = inl (omega arith) }
  run_is (suc m) k = go (f k) refl (run_is m (suc k))
    where
      go : (b : Bool) → f k ≡ b → Run m (suc k) (run_from f m (suc k)) → Run (suc m) k (cond b (run_from f m (suc k)) k)
      go true q u = on m k (run_from f m (suc k)) q u
      go false q u = stop (suc m) k q

-- ---- tests that agree below k
module _ (f g : ℕ → Bool) where
  pub some_below_same : (k : ℕ) → ((i : ℕ) → i < k → f i ≡ g i) → some_below f k ≡ some_below g k
  unfolding some_below
  some_below_same zero h = refl
  some_below_same (suc k) h = rw (some_below_same k (λ i l. h i (omega arith)), h k (omega arith))

  pub those_below_same : (k : ℕ) → ((i : ℕ) → i < k → f i ≡ g i) → those_below f k ≡ those_below g k
  unfolding those_below
  those_below_same zero h = refl
  those_below_same (suc k) h = rw (those_below_same k (λ i l. h i (omega arith)), h k (omega arith))

-- ---- a value for each number below k
module _ {A : Type 0} (f : ℕ → A) where
  pub each_below_length : (k : ℕ) → length (each_below f k) ≡ k
  unfolding each_below
  each_below_length zero = refl
  each_below_length (suc k) = length-append (each_below f k) (f k ∷ []) ∙ omega (arith, each_below_length k)

  -- at each place
  pub each_below_at : (k i : ℕ) (d : A) → i < k → get_or (each_below f k) i d ≡ f i
  unfolding each_below
  each_below_at zero i d h = absurd (not-suc-le-zero h)
  each_below_at (suc k) i d h =
      ⊎_elim
      (λ (q : i ≡ k). get_or_at (each_below f k) (f k) [] d i (each_below_length k ∙ sym q) ∙ ap f (sym q))
      (λ (l : i < k). get_or-append (each_below f k) (f k ∷ []) d i (omega (arith, each_below_length k)) ∙ each_below_at k i d l)
      (eq-or-lt_of_le (le_of_suc-le-suc h))

  -- x is one of them, and at which place
  pub record Placed (k : ℕ) (x : A) : Type 0 where
    pub place : ℕ
    pub small : place < k
    pub here : f place ≡ x

  listed : (k : ℕ) (x : A) → Memᴰ x (each_below f k) → Placed k x
  unfolding each_below
  listed zero x m = absurd (mathlib.Core.List.Memᴰ.not-nil m)
  listed (suc k) x m = go (listed k x) (mathlib.Core.List.Memᴰ.append_cases (each_below f k) m)
    where
      go : (Memᴰ x (each_below f k) → Placed k x) → Memᴰ x (each_below f k) ⊎ Memᴰ x (f k ∷ []) → Placed (suc k) x
      go ih (inl r) = let p = ih r in record { place = p.place; small = omega (arith, p.small); here = p.here }
      go ih (inr r) = record { place = k; small = omega arith; here = sym (mathlib.Core.List.Memᴰ.eq_of_singleton r) }

  there : (k i : ℕ) (x : A) → i < k → f i ≡ x → Memᴰ x (each_below f k)
  unfolding each_below
  there zero i x h e = absurd (not-suc-le-zero h)
  there (suc k) i x h e =
      ⊎_elim
      (λ (q : i ≡ k). mathlib.Core.List.Memᴰ.append_right (each_below f k) (mathlib.Core.List.Memᴰ.head (sym e ∙ ap f q)))
      (λ (l : i < k). mathlib.Core.List.Memᴰ.append_left (f k ∷ []) (there k i x l e))
      (eq-or-lt_of_le (le_of_suc-le-suc h))

  pub each_below_listed : (k : ℕ) (x : A) → Memᴰ x (each_below f k) ↔ Placed k x
  each_below_listed k x = (listed k x, λ p. there k p.place x p.small p.here)

  -- a test that each of them passes
  pub each_below_all : (p : A → Bool) (d : A) (k : ℕ) → ((i : ℕ) → i < k → p (f i) ≡ true) → list_all p (each_below f k) ≡ true
  each_below_all p d k h =
      (all_means p d (each_below f k)).1 (λ i l.
      let g : i < k = rw (each_below_length k) at l in
      ap p (each_below_at k i d g) ∙ h i g)
