-- How the code of the steps computes what the definitions say. The premises are the fields of a need's record. Assumes nothing.
use mathlib.Core.Path.{◌≡◌, sym, ap, ◌∙◌}
use mathlib.Core.Bool.{Bool, true, false, not, true≢false}
use mathlib.Core.List.{List}
use Rattle.std.specs.Prelude.{Option, None, Some}
use Prim.Native.Nat.{ℕ, zero, suc, ◌+◌, ◌-◌, ◌*◌, ◌/◌, ◌%◌, ◌≤◌, ◌<◌}
use native.Mathlib.Nat.{mul_assoc, mul_comm}
use native.Mathlib.Numerals.{add-one}
use native.Mathlib.Omega.{arith}
use lib.Ieee.{Float}
use lib.ListN.{length, get_or}
use borrow.Author.Tests.{le-ltb, not-true, not-false}
use Rattle.lists.specs.First.{least_up_to}
use Rattle.lists.specs.BelowLaws.{each_below_at}
use Rattle.lists.specs.Sort.{sorted_by}
use Rattle.floats.specs.Floats.{plus_zero, total_le, precedes}
use Rattle.times.specs.declared.PerfModel.{PerfModel}
use Rattle.times.specs.Times.{never, predict_of, model_in, models_in}
use Rattle.steps.specs.Steps.{peer_at, in_flight, still, peer_time, peer_times, step_time, step_shards, step_quorum, time_of_step, best_step}
use Rattle.steps.proofs.StepLaws.{shares_positive, steps_all, peer_below, best_step_means}

-- ---- the j-th of m peers, p, and its time
module _ (own j p m : ℕ) (small : j < m) (place : p ≡ peer_at own j) where
  peer_inside : p < m + 1
  peer_inside = rw (place, add-one) (peer_below own j m small)

  pub peer_time_is : (load : ℕ) (inflight : List ℕ) (models : List Float) (model : PerfModel) (x : Float) → m < 16 → model ≡ model_in models p
      → x ≡ predict_of model (in_flight inflight p + load) → x ≡ peer_time load inflight (models_in models) (peer_at own j)
  unfolding models_in
  peer_time_is load inflight models model x h g e =
      let q : model ≡ get_or (models_in models) p still = g ∙ sym (each_below_at (model_in models) 16 p still (omega (arith, peer_inside))) in
      e ∙ rw (q, place)

-- ---- a step's time: of the n - 1 peers' times, in order
module _ (n own q load m : ℕ) (inflight : List ℕ) (models : List PerfModel) (several : 2 ≤ q) (peers : n - 1 ≡ m) where
  pub step_is : (times sorted : List Float) (r : Float) → times ≡ peer_times m own load inflight models → sorted ≡ sorted_by total_le times
      → r ≡ get_or sorted (q - 2) never → r ≡ step_time n own q load inflight models
  unfolding step_time
  step_is times sorted r t s e = rw (le-ltb q 2 several, peers, e, s, t)

-- ---- a step's time, of i + 1 shares
module _ (n f own d majority size : ℕ) (inflight : List ℕ) (models : List PerfModel) (i : ℕ) where
  shares : (size / d + 1) * (d / majority) * (i + 1) ≡ (size / d + 1) * step_shards d majority i
  shares = mul_assoc (size / d + 1) (d / majority) (i + 1) ∙ ap (λ (k : ℕ). (size / d + 1) * k) (mul_comm (d / majority) (i + 1))

  pub timed : (peers share : ℕ) (t : Float) → peers ≡ n → share ≡ d / majority
      → t ≡ step_time peers own (step_quorum majority f i) ((size / d + 1) * share * (i + 1)) inflight models
      → t ≡ time_of_step n f own d majority size inflight models i
  unfolding time_of_step
  timed peers share t p q e = e ∙ rw (p, q, shares)

-- ---- the search for the first number with the least value: what it has found of the numbers below i; r is what `precedes` returns at i
module _ (f : ℕ → Float) where
  abbrev pub Found : ℕ → ℕ → Option Float → Type 0
  Found zero best least = (best ≡ 0) × (least ≡ None)
  Found (suc k) best least = (best ≡ (least_up_to total_le f k).0) × (least ≡ Some (least_up_to total_le f k).1)

  pub found_all : (n i best : ℕ) (least : Option Float) → 0 < n → i ≤ n → n ≤ i → Found i best least → best ≡ (least_up_to total_le f (n - 1)).0
  found_all n zero best least p h g e = absurd (omega arith)
  found_all n (suc k) best least p h g e = let q : n - 1 ≡ k = omega arith in rw q e.0

  module _ (i best : ℕ) (least : Option Float) (found : Found i best least) (t : Float) (r : Bool) (value : t ≡ f i) (test : r ≡ precedes t least) where
    -- what the test says where a number has been found
    tested : (low : Float) → least ≡ Some low → not (total_le low t) ≡ r
    tested low e = ap (precedes t) (sym e) ∙ sym test

    pub found_kept : (b : ℕ) (l : Option Float) → r ≡ false → b ≡ best → l ≡ least → Found (i + 1) b l
    unfolding least_up_to
    found_kept b l e p q = go i found value
      where
        go : (i : ℕ) → Found i best least → t ≡ f i → Found (i + 1) b l
        go zero s v = absurd (true≢false (ap (precedes t) (sym s.1) ∙ sym test ∙ e))
        go (suc k) s v = rw (add-one (suc k), ← v, not-false _ (tested _ s.1 ∙ e)) (p ∙ s.0, q ∙ s.1)

    pub found_moved : (b : ℕ) (l : Option Float) → r ≡ true → b ≡ i → l ≡ Some t → Found (i + 1) b l
    unfolding least_up_to
    found_moved b l e p q = go i found value p
      where
        go : (i : ℕ) → Found i best least → t ≡ f i → b ≡ i → Found (i + 1) b l
        go zero s v p = (p, q ∙ ap Some v)
        go (suc k) s v p = rw (add-one (suc k), ← v, not-true _ (tested _ s.1 ∙ e)) (p, q)

-- ---- the step chosen is below the majority
module _ (n f own d majority size : ℕ) (inflight : List ℕ) (models : List PerfModel) (some : 0 < d) (multiple : d % majority ≡ 0) (i : ℕ)
    (chosen : i ≡ best_step n f own d majority size inflight models) where
  pub best_small : i < majority
  best_small =
      let h = shares_positive d majority some multiple in
      let b = (best_step_means n f own d majority size inflight models h i).0 (sym chosen) in
      omega (arith, b.inside, steps_all d majority some multiple)
