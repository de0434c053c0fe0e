-- What loops over the numbers below a bound keep, and one list at the front of another. The premises of a
-- loop's laws are the fields of a need's record, so that `search` finds them: r is what the test's function returned at k, and then what
-- the branch saw. Assumes nothing.
use mathlib.Core.Path.{◌≡◌, refl, sym, ap, ◌∙◌}
use mathlib.Core.Bool.{Bool, true, false, cond}
use mathlib.Core.List.{List, [], ◌∷◌, ◌++◌, append-nil, append_assoc, foldl, foldl-append}
use Prim.Native.Nat.{ℕ, zero, suc, ◌+◌, ◌≤◌, ◌<◌}
use native.Mathlib.Nat.{le_of_eq, le_refl, le_trans}
use native.Mathlib.Decide.{le_ind}
use native.Mathlib.Numerals.{add-one}
use native.Mathlib.Omega.{arith}
use lib.ListN.{length, take, set, length-set, length-append, length-drop, drop_of_length-le}
use lib.Seq.{set-append_seam, drop-cons, take_all, take-suc-set}
use Rattle.std.specs.List.{filter}
use Rattle.lists.specs.Below.{some_below, each_below, those_below, front}
use Rattle.lists.specs.BelowLaws.{some_below_means}
use Rattle.lists.specs.ListedLaws.{passing_append}

-- ---- one list at the front of another
module _ (xs l : List ℕ) where
  pub front_length : length xs ≤ length l → length (front xs l) ≡ length l
  unfolding front
  front_length h = simp (length-append, length-drop) (omega arith)

  -- nothing is left of a list that is no longer
  pub front_all : length l ≤ length xs → front xs l ≡ xs
  unfolding front
  front_all h = rw drop_of_length-le (append-nil xs)

  -- one more word
  pub front_more : (x c : ℕ) → c ≡ length xs → length xs < length l → set (front xs l) c x ≡ front (xs ++ (x ∷ [])) l
  unfolding front
  front_more x c e h = rw (e, drop-cons l (length xs) 0 h, set-append_seam, length-append, add-one, append_assoc)

-- ---- the numbers below a bound that pass
module _ (f : ℕ → Bool) where
  step : (k : ℕ) → length (those_below f k) ≤ length (those_below f (suc k))
  unfolding those_below
  step k = simp length-append (omega arith)

  -- with more tried there are not fewer
  pub those_mono : (i k : ℕ) → i ≤ k → length (those_below f i) ≤ length (those_below f k)
  those_mono i k h = le_ind (λ (m : ℕ). length (those_below f i) ≤ length (those_below f m)) (le_refl _) (λ m l e. le_trans e (step m)) k h

  -- and no more than were tried
  pub those_length : (k : ℕ) → length (those_below f k) ≤ k
  unfolding those_below
  those_length zero = le_refl zero
  those_length (suc k) = simp length-append (go (f k) (those_length k))
    where
      go : (b : Bool) → length (those_below f k) ≤ k → length (those_below f k) + length (cond b (k ∷ []) []) ≤ suc k
      go true h = omega arith
      go false h = omega arith

-- ---- a loop up to n that writes f 0, f 1, .. at the places 0, 1, ..: w is the list as written so far
module _ {A : Type 0} (f : ℕ → A) where
  pub each_none : [] ≡ each_below f 0
  unfolding each_below
  each_none = refl

  module _ (w : List A) (k : ℕ) (written : take k w ≡ each_below f k) where
    pub each_more : (x : A) → k < length w → x ≡ f k → take (k + 1) (set w k x) ≡ each_below f (k + 1)
    unfolding each_below
    each_more x h e = rw (add-one, take-suc-set w k x h, written, e)

    pub each_done : (n : ℕ) → k ≤ n → n ≤ k → take n w ≡ each_below f n
    each_done n h g = let q : k ≡ n = omega arith in rw q at written

  -- the same of a w that has n places, so that at the end all of it is written
  module _ (n : ℕ) where
    abbrev pub Filled : List A → ℕ → Type 0
    Filled w k = (k ≤ n) × (length w ≡ n) × (take k w ≡ each_below f k)

    pub filled_none : (w : List A) → length w ≡ n → Filled w 0
    filled_none w e = (omega arith, e, each_none)

    module _ (w : List A) (k : ℕ) (filled : Filled w k) where
      pub filled_more : (x : A) → k < n → x ≡ f k → Filled (set w k x) (k + 1)
      filled_more x h e = (omega arith, simp length-set filled.1, each_more w k filled.2 x (omega arith) e)

      pub filled_done : n ≤ k → w ≡ each_below f n
      filled_done h = sym (take_all n w (le_of_eq filled.1)) ∙ each_done w k filled.2 n filled.0 h

-- ---- a loop up to n that ends at the first number that passes
module _ (f : ℕ → Bool) (k : ℕ) where
  pub some_none : some_below f 0 ≡ false
  unfolding some_below
  some_none = refl

  pub some_miss : (r : Bool) → some_below f k ≡ false → r ≡ f k → r ≡ false → some_below f (k + 1) ≡ false
  unfolding some_below
  some_miss r e q t = rw (add-one, sym q ∙ t, e)

  pub some_hit : (n : ℕ) (r : Bool) → k < n → r ≡ f k → r ≡ true → some_below f n ≡ true
  some_hit n r h q t = (some_below_means f n).1 (record { number = k; small = h; passes = sym q ∙ t })

  pub some_spent : (n : ℕ) → k ≤ n → n ≤ k → some_below f k ≡ false → some_below f n ≡ false
  some_spent n h g e = let q : k ≡ n = omega arith in rw q at e

-- ---- a loop that takes a step at each of f 0, f 1, .. that passes
module _ {A B : Type 0} (step : B → A → B) (b : B) (t : A → Bool) (f : ℕ → A) where
  abbrev pub taken_below : ℕ → B
  taken_below k = foldl step b (filter t (each_below f k))

  pub taken_none : b ≡ taken_below 0
  unfolding each_below
  taken_none = refl

  next : (k : ℕ) → taken_below (suc k) ≡ foldl step (taken_below k) (filter t (f k ∷ []))
  unfolding each_below
  next k = ap (foldl step b) (passing_append t (each_below f k) (f k ∷ [])) ∙ foldl-append step b (filter t (each_below f k)) (filter t (f k ∷ []))

  pub taken_yes : (k : ℕ) → t (f k) ≡ true → taken_below (k + 1) ≡ step (taken_below k) (f k)
  taken_yes k e = rw add-one (next k ∙ rw e)

  pub taken_no : (k : ℕ) → t (f k) ≡ false → taken_below (k + 1) ≡ taken_below k
  taken_no k e = rw add-one (next k ∙ rw e)

  -- where no step changes what is taken so far, that is all that is taken
  pub taken_still : (k n : ℕ) → k ≤ n → ((x : A) → step (taken_below k) x ≡ taken_below k) → taken_below n ≡ taken_below k
  taken_still k n h still = le_ind (λ (m : ℕ). taken_below m ≡ taken_below k) refl (λ m l e. next m ∙ ap (λ (s : B). foldl step s (filter t (f m ∷ []))) e ∙ one (t (f m)) (f m)) n h
    where
      one : (v : Bool) (x : A) → foldl step (taken_below k) (cond v (x ∷ []) []) ≡ taken_below k
      one true x = still x
      one false x = refl
