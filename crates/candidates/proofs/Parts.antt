-- How the parts of the search compute what the definitions say. The premises are the fields of a need's record. Assumes nothing.
use mathlib.Core.Path.{◌≡◌, refl, sym, ap, subst, ◌∙◌}
use mathlib.Core.Logic.{⊎_elim}
use mathlib.Core.Bool.{Bool, true, false, cond, not, ◌&&◌, true≢false}
use mathlib.Core.List.{List, [], ◌∷◌, foldl}
use Rattle.std.specs.Prelude.{Option, Some, None, ltb}
use Rattle.std.specs.Option.{unwrap_or}
use Rattle.std.specs.List.{position, position_or_len}
use Rattle.std.proofs.Common.{le-ltb}
use Rattle.std.proofs.lemmas.List.{get_or-take, get_or-drop, length-take-le}
use Prim.Native.Nat.{ℕ, suc, ◌+◌, ◌-◌, ◌*◌, ◌≤◌, ◌<◌}
use native.Mathlib.Nat.{le_of_suc-le-suc, eq-or-lt_of_le, zero-add}
use native.Mathlib.Numerals.{add-one}
use native.Mathlib.Omega.{arith}
use lib.Ieee.{Float, nan, le}
use lib.ListN.{length, get_or, take, drop, set, length-drop}
use borrow.Author.Tests.{lt-ltb}
use Rattle.lists.specs.First.{first_that, better_by}
use Rattle.lists.specs.FirstLaws.{considered_again, considered_before}
use Rattle.lists.specs.Sort.{sorted_by}
use Rattle.lists.specs.Below.{run_from, run_of}
use Rattle.lists.proofs.BelowLoops.{Filled, filled_more}
use Rattle.bitmap.specs.Mask.{with_bit, mask_below}
use Rattle.bitmap.proofs.MaskLoops.{mask_yes, mask_no}
use Rattle.floats.specs.Floats.{is_finite, total_le, is_same}
use Rattle.floats.specs.OrderLaws.{total, trans, same_means}
use Rattle.floats.specs.FirstLaws.{Fits, first_is_least}
use Rattle.times.specs.Times.{never}
use Rattle.candidates.specs.Search.{run_at, answers, load_at, candidates}
use Rattle.candidates.specs.Repeats.{IsKnown}
use Rattle.candidates.proofs.SearchLaws.{peer_run}

-- ---- `run_at`: the place where a peer's times begin
pub begins : (p d : ℕ) → p * (d + 1) ≡ p * suc d
begins p d = ap (λ (k : ℕ). p * k) (add-one d)

-- the time k places from a place on is at most t
abbrev pub in_time_from : List Float → Float → ℕ → ℕ → Bool
in_time_from times t from k = le (get_or times (from + k) never) t

module _ (own d : ℕ) (times : List Float) (t : Float) (p : ℕ) where
  pub run_of_peer : {r : ℕ} → (p ≡ own → ⊥) → r ≡ run_of (in_time_from times t (p * (d + 1))) (suc d) → r ≡ run_at own d times t p
  run_of_peer n e = e ∙ ap (λ (k : ℕ). run_of (in_time_from times t k) (suc d)) (begins p d) ∙ sym (peer_run own d times t p n)

-- ---- `run_from`: where the first of the times from a place on is that is not at most t
module _ (t : Float) where
  abbrev pub late : Float → Bool
  late x = not (le x t)

  late_le : (s : List Float) → position_or_len late s ≤ length s
  late_le [] = omega arith
  late_le (x ∷ xs) = go (le x t) (late_le xs)
    where
      go : (b : Bool) → position_or_len late xs ≤ length xs → cond (not (not b)) (1 + position_or_len late xs) 0 ≤ suc (length xs)
      go true h = omega arith
      go false h = omega arith

  found : (s : List Float) → unwrap_or (position late s) (length s) ≡ position_or_len late s
  found s = go (position_or_len late s) (length s) (late_le s)
    where
      go : (k n : ℕ) → k ≤ n → unwrap_or (cond (ltb k n) (Some k) None) n ≡ k
      go k n h = ⊎_elim (λ (e : k ≡ n). rw (le-ltb k n (omega arith)) (sym e)) (λ (l : k < n). rw (lt-ltb k n l)) (eq-or-lt_of_le h)

  run_is : (f : ℕ → Bool) (s : List Float) (k : ℕ) → ((i : ℕ) → i < length s → f (k + i) ≡ le (get_or s i never) t) → k + position_or_len late s ≡ run_from f (length s) k
  unfolding run_from
  run_is f [] k h = omega arith
  run_is f (x ∷ xs) k h =
      go (f k) (le x t) (ap f (omega arith) ∙ h 0 (omega arith)) (run_is f xs (suc k) (λ i l. ap f (omega arith) ∙ h (suc i) (omega arith)))
    where
      go : (a b : Bool) → a ≡ b → suc k + position_or_len late xs ≡ run_from f (length xs) (suc k)
          → k + cond (not (not b)) (1 + position_or_len late xs) 0 ≡ cond a (run_from f (length xs) (suc k)) k
      go true true e q = omega (arith, q)
      go false false e q = omega arith
      go true false e q = absurd (true≢false e)
      go false true e q = absurd (true≢false (sym e))

  pub run_found : (times : List Float) (from m : ℕ) → from + m ≤ length times
      → unwrap_or (position late (take m (drop from times))) m ≡ run_of (in_time_from times t from) m
  run_found times from m h =
      let s = take m (drop from times) in
      let n : length s ≡ m = length-take-le m (drop from times) (omega (arith, length-drop from times)) in
      let f : ℕ → Bool = in_time_from times t from in
      let at : (i : ℕ) → i < length s → f (0 + i) ≡ le (get_or s i never) t =
      λ i l. ap f (zero-add i) ∙ ap (λ (x : Float). le x t) (sym (get_or-take m (drop from times) i never (omega (arith, n)) ∙ get_or-drop from times i never)) in
      subst (λ (k : ℕ). unwrap_or (position late s) k ≡ run_of f k) n (found s ∙ sym (zero-add _) ∙ run_is f s 0 at)

-- ---- `loads_at`: l has the loads below p, and m is the mask of those below p that answer
abbrev pub Loaded : ℕ → ℕ → ℕ → List Float → Float → List ℕ → ℕ → ℕ → Type 0
Loaded n own d times t l m p = Filled (load_at own d times t) n l p × (m ≡ mask_below (answers own d times t) p)

module _ (n own d : ℕ) (times : List Float) (t : Float) (p : ℕ) (l : List ℕ) (m r : ℕ) (loaded : Loaded n own d times t l m p) (e : r ≡ run_at own d times t p)
    (h : p < n) where
  abbrev Next : List ℕ → ℕ → Type 0
  Next l' m' = Loaded n own d times t l' m' (p + 1)

  -- it does not answer
  pub next_silent : {l' : List ℕ} {m' : ℕ} → r ≡ 0 → l' ≡ set l p 0 → m' ≡ m → Next l' m'
  next_silent z f g = (
    rw f (filled_more (load_at own d times t) n l p loaded.0 0 h (omega (arith, e, z))),
    g ∙ loaded.1 ∙ sym (mask_no (answers own d times t) p (rw (sym e ∙ z))),
  )

  -- it does
  pub next_answers : {l' : List ℕ} {m' : ℕ} → (r ≡ 0 → ⊥) → l' ≡ set l p (r - 1) → m' ≡ with_bit m p → Next l' m'
  next_answers z f g = (
    rw f (filled_more (load_at own d times t) n l p loaded.0 (r - 1) h (ap (λ (k : ℕ). k - 1) e)),
    g ∙ ap (λ (k : ℕ). with_bit k p) loaded.1 ∙ sym (mask_yes (answers own d times t) p (lt-ltb 0 (run_at own d times t p) (omega (arith, e)))),
  )

-- ---- `first_time`: the least candidate, in one pass over all times
module _ (commits : Float → Bool) where
  -- what one time more does to what was found
  abbrev pub step : Option Float → Float → Option Float
  step b x = cond (is_finite x && commits x) (better_by total_le b x) b

  abbrev taking : Option Float → Float → Option Float
  taking b x = cond (commits x) (better_by total_le b x) b

  over : (b : Option Float) (times : List Float) → foldl step b times ≡ foldl taking b (candidates times)
  over b [] = refl
  over b (x ∷ xs) = go (is_finite x) (over b xs) (over (taking b x) xs)
    where
      go : (f : Bool) → foldl step b xs ≡ foldl taking b (candidates xs) → foldl step (taking b x) xs ≡ foldl taking (taking b x) (candidates xs)
          → foldl step (cond (f && commits x) (better_by total_le b x) b) xs ≡ foldl taking b (cond f (x ∷ candidates xs) (candidates xs))
      go true p q = q
      go false p q = p

  pub least_found : (times : List Float) → foldl step None times ≡ first_that commits (sorted_by total_le (candidates times))
  least_found times = over None times ∙ sym (first_is_least commits (candidates times))

  -- ---- the times that have been considered: each of them changes nothing when it is considered again
  module _ (times : List Float) where
    abbrev pub Settled : Option Float → ℕ → Type 0
    Settled b i = (j : ℕ) → j < i → step b (get_or times j nan) ≡ b

    pub more_settled : (b : Option Float) (i : ℕ) → Settled b i → Settled (step b (get_or times i nan)) (i + 1)
    more_settled b i s j h = ⊎_elim (λ e. again (sym e)) (λ l. before l) (eq-or-lt_of_le (le_of_suc-le-suc k))
      where
        k : suc j ≤ suc i
        k = omega arith

        passes : Float → Bool
        passes x = is_finite x && commits x

        again : i ≡ j → step (step b (get_or times i nan)) (get_or times j nan) ≡ step b (get_or times i nan)
        again e = rw (sym e) (considered_again total_le total trans passes b (get_or times i nan))

        before : j < i → step (step b (get_or times i nan)) (get_or times j nan) ≡ step b (get_or times i nan)
        before l = considered_before total_le total trans passes b (get_or times i nan) (get_or times j nan) (s j l)

    -- one that is before changes nothing
    pub known_again : (b : Option Float) (i : ℕ) → Settled b i → IsKnown times i → b ≡ step b (get_or times i nan)
    known_again b i s k = sym (ap (step b) (sym k.2) ∙ s k.0 k.1)

-- ---- `repeats`: two doubles at one place of the order are one
pub known_back : (times : List Float) (back i : ℕ) {r : Bool} → 0 < back → back ≤ i → Fits (get_or times (i - back) nan) → Fits (get_or times i nan)
    → r ≡ is_same (get_or times (i - back) nan) (get_or times i nan) → r ≡ true → IsKnown times i
known_back times back i p l f g e t = (i - back, omega arith, same_means (get_or times (i - back) nan) (get_or times i nan) f g (sym e ∙ t))
