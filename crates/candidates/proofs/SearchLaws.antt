-- What the search finds: which times are candidates, who answers at a time and with how many shards, and that the time taken is the first that commits.
-- Assumes nothing.
use Rattle.std.specs.Prelude.{◌≡◌, refl, ◌↔◌, ◌⊎◌, Bool, true, false, eqb, Float, length, get_or}
use Rattle.std.proofs.Common.{sym, subst, ◌∙◌, inl, inr, ⊎_elim, true≢false, not-suc-le-zero, zero-lt-suc, mod-lt, div-lt_iff_lt-mul, arith, ltb-true, ltb-false, lt-ltb, eqb-true, eq-eqb, ne_eqb}
use Rattle.std.proofs.Math.Path.{ap}
use Rattle.std.proofs.Math.Bool.{cond}
use mathlib.Core.List.{List, Memᴰ}
use Rattle.std.specs.Prelude.{None, Some}
use Prim.Native.Nat.{ℕ, zero, suc, ◌+◌, ◌-◌, ◌*◌, ◌/◌, ◌%◌, ◌^◌, ◌≤◌, ◌<◌}
use Rattle.std.proofs.Math.Nat.{le_of_suc-le-suc}
use Rattle.std.proofs.Math.Decide.{ℕ_discrete}
use Rattle.std.proofs.Math.Dec.{ltb}
use Rattle.std.specs.Float.Ieee.{le}
use Rattle.lists.specs.All.{AllOf}
use Rattle.lists.specs.Below.{each_below, run_of}
use Rattle.lists.specs.BelowLaws.{Run, run_is, each_below_length, each_below_at, each_below_listed}
use Rattle.lists.specs.ListedLaws.{passing_listed, passing_all_of}
use Rattle.lists.specs.FirstLaws.{FirstIn, first_means, none_means}
use Rattle.bitmap.specs.Mask.{bit, has_bit, mask_below}
use Rattle.bitmap.specs.WidthLaws.{mask_below_lt, mask_below_bit}
use Rattle.floats.specs.Floats.{is_finite, total_le}
use Rattle.floats.specs.NumberLaws.{le_trans}
use Rattle.floats.specs.OrderLaws as Order
use Rattle.floats.specs.FirstLaws.{Fits}
use Rattle.layout.specs.declared.TotalShards.{TotalShards}
use Rattle.layout.specs.Layout.{layout_commits}
use Rattle.times.specs.declared.PeerRecord.{PeerRecord}
use Rattle.times.specs.Times.{time_of, cell, times_of, time_in}
use Rattle.times.proofs.TimeLaws.{place_row, place_load, place_within}
use Rattle.candidates.specs.Search.{candidates, in_time, run_at, answers, load_at, answered_at, loads_at, commits_at, first_time}

-- ---- candidates: the finite times of the table

pub candidate_means : (x : Float) (times : List Float) → Memᴰ x (candidates times) ↔ (Memᴰ x times × (is_finite x ≡ true))
candidate_means = passing_listed is_finite

pub candidates_fit : (times : List Float) → AllOf Fits times → AllOf Fits (candidates times)
candidates_fit = passing_all_of is_finite Fits

-- ---- and so the finite times of some replica with some load

module _ (n own d len : ℕ) (peers : List PeerRecord) (penalty : Float) where
  -- x is the finite time of a replica with some load up to d
  pub record Candidate (x : Float) : Type 0 where
    pub replica : ℕ
    pub load : ℕ
    pub known : replica < n
    pub fits : load ≤ d
    pub time : time_of own d len peers penalty replica load ≡ x
    pub finite : is_finite x ≡ true

  pub candidate_of : (x : Float) → Memᴰ x (candidates (times_of n own d len peers penalty)) ↔ Candidate x
  unfolding times_of
  candidate_of x =
      let f = cell own d len peers penalty in
      let c = candidate_means x (each_below f (n * suc d)) in (
        λ m.
            let r = c.0 m in
            let p = (each_below_listed f (n * suc d) x).0 r.0 in
            record {
              replica = p.place / suc d;
              load = p.place % suc d;
              known = (div-lt_iff_lt-mul (zero-lt-suc d)).1 p.small;
              fits = le_of_suc-le-suc (mod-lt p.place (zero-lt-suc d));
              time = p.here;
              finite = r.1;
            },
        λ h.
            let i = h.replica * suc d + h.load in
            let e : f i ≡ x = rw (place_row d h.replica h.load h.fits, place_load d h.replica h.load h.fits) h.time in
            c.1 ((each_below_listed f (n * suc d) x).1 (record { place = i; small = place_within d h.replica h.load h.fits n h.known; here = e }), h.finite),
      )

-- ---- who answers at a time, and with how many shards
module _ (own d : ℕ) (times : List Float) (t : Float) where
  own_run : (p : ℕ) → p ≡ own → run_at own d times t p ≡ suc d
  unfolding run_at
  own_run p e = rw (eq-eqb p own e)

  pub peer_run : (p : ℕ) → (p ≡ own → ⊥) → run_at own d times t p ≡ run_of (in_time own d times t p) (suc d)
  unfolding run_at
  peer_run p h = rw (ne_eqb p own h)

  -- p is our own, or replies in time with no shard
  abbrev pub Answering : ℕ → Type 0
  Answering p = (p ≡ own) ⊎ (le (time_in d times p 0) t ≡ true)

  -- k is the last of the unbroken run of loads from 0 on with which p replies in time
  pub record LastInTime (p k : ℕ) : Type 0 where
    pub within : k ≤ d
    pub each : (j : ℕ) → j ≤ k → le (time_in d times p j) t ≡ true
    pub last : (k ≡ d) ⊎ (le (time_in d times p (suc k)) t ≡ false)

  peer_is : (p : ℕ) → (p ≡ own → ⊥) → Run (in_time own d times t p) (suc d) 0 (run_at own d times t p)
  peer_is p h = rw (peer_run p h) (run_is (in_time own d times t p) (suc d) 0)

  positive : (p r : ℕ) → Run (in_time own d times t p) (suc d) 0 r → in_time own d times t p 0 ≡ true → 0 < r
  positive p zero u e = ⊎_elim (λ (q : 0 ≡ 0 + suc d). absurd (omega arith)) (λ (q : in_time own d times t p 0 ≡ false). absurd (true≢false (sym e ∙ q))) u.ends
  positive p (suc r) u e = zero-lt-suc r

  answering : (p : ℕ) → (answers own d times t p ≡ true) ↔ Answering p
  answering p = go (ℕ_discrete p own)
    where
      go : Dec (p ≡ own) → (answers own d times t p ≡ true) ↔ Answering p
      go (yes e) = (λ h. inl e, λ h. lt-ltb 0 (run_at own d times t p) (omega (arith, own_run p e)))
      go (no e) = (
        λ h. inr ((peer_is p e).passes 0 (omega arith) (ltb-true 0 (run_at own d times t p) h)),
        ⊎_elim (λ q. absurd (e q)) (λ q. lt-ltb 0 (run_at own d times t p) (positive p (run_at own d times t p) (peer_is p e) q)),
      )

  last_is : (p r : ℕ) → 0 < r → Run (in_time own d times t p) (suc d) 0 r → LastInTime p (r - 1)
  last_is p (suc k) h u =
      let e : suc k - 1 ≡ k = omega arith in
      rw e
      (record {
        within = omega (arith, u.within);
        each = λ j l. u.passes j (omega arith) (omega arith);
        last = ⊎_elim (λ (q : suc k ≡ 0 + suc d). inl (omega arith)) (λ (q : in_time own d times t p (suc k) ≡ false). inr q) u.ends;
      })
  last_is p zero h u = absurd (not-suc-le-zero h)

  last_le : (p k j : ℕ) → LastInTime p k → LastInTime p j → k < j → ⊥
  last_le p k j a b l = ⊎_elim (λ (q : k ≡ d). omega (arith, b.within)) (λ q. true≢false (sym (b.each (suc k) l) ∙ q)) a.last

  last_one : (p k j : ℕ) → LastInTime p k → LastInTime p j → k ≡ j
  last_one p k j a b = omega (arith, last_le p k j a b, last_le p j k b a)

  module _ (n : ℕ) where
    pub answered_below : answered_at own d times t n < 2 ^ n
    unfolding answered_at
    answered_below = mask_below_lt (answers own d times t) n

    pub loads_length : length (loads_at own d times t n) ≡ n
    unfolding loads_at
    loads_length = each_below_length (load_at own d times t) n

    module _ (p : ℕ) (known : p < n) where
      bit_is : has_bit (answered_at own d times t n) p ≡ answers own d times t p
      unfolding answered_at
      bit_is = mask_below_bit (answers own d times t) n p known

      pub answers_means : (bit (answered_at own d times t n) p ≡ 1) ↔ Answering p
      answers_means =
          let a = answering p in (
            λ e. a.0 (sym bit_is ∙ eq-eqb (bit (answered_at own d times t n) p) 1 e),
            λ h. eqb-true (bit (answered_at own d times t n) p) 1 (bit_is ∙ a.1 h),
          )

      pub loads_at_each : get_or (loads_at own d times t n) p 0 ≡ load_at own d times t p
      unfolding loads_at
      loads_at_each = each_below_at (load_at own d times t) n p 0 known

      -- our own load is d
      pub own_load : p ≡ own → get_or (loads_at own d times t n) p 0 ≡ d
      own_load e = omega (arith, loads_at_each, own_run p e)

      -- that of a peer that answers is the last of the run
      pub load_means : (p ≡ own → ⊥) → bit (answered_at own d times t n) p ≡ 1 → (k : ℕ) → (get_or (loads_at own d times t n) p 0 ≡ k) ↔ LastInTime p k
      load_means h e k =
          let a = ltb-true 0 (run_at own d times t p) (sym bit_is ∙ eq-eqb (bit (answered_at own d times t n) p) 1 e) in
          let l = last_is p (run_at own d times t p) a (peer_is p h) in (
            λ q. subst (LastInTime p) (sym loads_at_each ∙ q) l,
            λ m. loads_at_each ∙ last_one p (load_at own d times t p) k l m,
          )

      -- and that of one that does not is 0
      pub silent_load : bit (answered_at own d times t n) p ≡ 0 → get_or (loads_at own d times t n) p 0 ≡ 0
      silent_load z =
          let f = ltb-false 0 (run_at own d times t p) (sym bit_is ∙ ne_eqb (bit (answered_at own d times t n) p) 1 (omega arith)) in
          omega (arith, loads_at_each, f)

-- ---- times that are level as numbers, as -0 and +0 are, give the same loads: of such candidates only the first can be the one that is taken
module _ (s t : Float) (under : le s t ≡ true) (over : le t s ≡ true) where
  level : (x : Float) → le x s ≡ le x t
  level x = go (le x s) (le x t) refl refl
    where
      go : (u v : Bool) → le x s ≡ u → le x t ≡ v → le x s ≡ le x t
      go true v e f = e ∙ sym (le_trans x s t e under)
      go false true e f = absurd (true≢false (sym (le_trans x t s f over) ∙ e))
      go false false e f = e ∙ sym f

  same_run : (own d : ℕ) (times : List Float) (p : ℕ) → run_at own d times s p ≡ run_at own d times t p
  unfolding run_at
  same_run own d times p = ap (λ (f : ℕ → Bool). cond (eqb p own) (suc d) (run_of f (suc d))) (λ i k. level (time_in d times p k) i)

  pub level_commits : (n own quorum d : ℕ) (total : TotalShards) (faults : List ℕ) (times : List Float)
      → commits_at n own quorum d total faults times s ≡ commits_at n own quorum d total faults times t
  unfolding commits_at answered_at loads_at
  level_commits n own quorum d total faults times =
      ap (λ (r : ℕ → ℕ). layout_commits n quorum d total (mask_below (λ (p : ℕ). ltb 0 (r p)) n) faults (each_below (λ (p : ℕ). r p - 1) n))
      (λ i p. same_run own d times p i)

-- ---- the first time that commits

-- x is in the list and passes the test, and whatever in the list passes is x or is after it in total order
abbrev pub First : (Float → Bool) → List Float → Float → Type 0
First f xs x = FirstIn total_le Order.total Order.trans Fits Order.antisym f xs x

-- so nothing in the list that is before x passes
pub first_before : (f : Float → Bool) (xs : List Float) (x : Float)
    → First f xs x ↔ (Memᴰ x xs × (f x ≡ true) × ((y : Float) → Memᴰ y xs → total_le x y ≡ false → f y ≡ false))
first_before f xs x = (
  λ h. (h.listed, h.passes, λ y m b. off y (h.first y m) b (f y) refl),
  λ h. record { listed = h.0; passes = h.1; first = λ y m e. on y (h.2 y m) e (total_le x y) refl },
)
  where
    off : (y : Float) → (f y ≡ true → total_le x y ≡ true) → total_le x y ≡ false → (c : Bool) → f y ≡ c → f y ≡ false
    off y h b true q = absurd (true≢false (sym (h q) ∙ b))
    off y h b false q = q

    on : (y : Float) → (total_le x y ≡ false → f y ≡ false) → f y ≡ true → (c : Bool) → total_le x y ≡ c → total_le x y ≡ true
    on y h e true q = q
    on y h e false q = absurd (true≢false (sym e ∙ h q))

module _ (n own quorum d : ℕ) (total : TotalShards) (faults : List ℕ) (times : List Float) where
  -- the time that is found is a candidate, commits, and is before every other candidate that does
  pub first_time_means : AllOf Fits times → (t : Float)
      → (first_time n own quorum d total faults times ≡ Some t) ↔ First (commits_at n own quorum d total faults times) (candidates times) t
  unfolding first_time
  first_time_means a t =
      first_means total_le Order.total Order.trans Fits Order.antisym (commits_at n own quorum d total faults times) (candidates times) t (candidates_fit times a)

  -- none is found exactly if no candidate commits
  pub no_time_means : (first_time n own quorum d total faults times ≡ None) ↔ ((y : Float) → Memᴰ y (candidates times) → commits_at n own quorum d total faults times y ≡ false)
  unfolding first_time
  no_time_means = none_means total_le Order.total Order.trans Fits Order.antisym (commits_at n own quorum d total faults times) (candidates times)

  -- no candidate before the time that is found commits
  pub none_before : AllOf Fits times → (t : Float) → first_time n own quorum d total faults times ≡ Some t
      → (y : Float) → Memᴰ y (candidates times) → total_le t y ≡ false → commits_at n own quorum d total faults times y ≡ false
  none_before a t e = ((first_before (commits_at n own quorum d total faults times) (candidates times) t).0 ((first_time_means a t).0 e)).2
