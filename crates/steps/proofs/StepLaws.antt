-- What the steps are: how many there are, that the times are those of the peers, each once, which of these a step waits for, and that the step chosen is the
-- first with the least time. Assumes nothing.
use Rattle.std.specs.Prelude.{◌≡◌, ◌↔◌, Bool, true, false, not, cond, List, ltb, length, get_or}
use Rattle.std.proofs.Math.Path.{refl, ap}
use Rattle.std.proofs.Common.{sym, subst, ◌∙◌, ⊎_elim, mul-le-mul_right, div-lt_iff_lt-mul, le-div_iff_mul-le, eq-zero-or-pos, add-one, arith, ltb-true, ltb-false, lt-ltb, le-ltb}
use Prim.Native.Nat.{ℕ, suc, ◌+◌, ◌-◌, ◌*◌, ◌/◌, ◌%◌, ◌≤◌, ◌<◌}
use Rattle.std.proofs.Math.Nat.{mul-div-le, div-le_self, div-add-mod, mul-div_left}
use Rattle.std.proofs.Math.Decide.{dec_lt}
use Rattle.std.specs.Float.Ieee.{Float, binary64, fits}
use Rattle.std.specs.Float.Ieee.Fits.{inf-fits, add-fits}
use Rattle.std.proofs.Math.ListN.{get_or-eq_default}
use Rattle.lists.specs.All.{AllOf}
use Rattle.lists.specs.AllLaws.{all_of_means, all_of_listed}
use Rattle.lists.specs.BelowLaws.{Placed, each_below_length, each_below_at, each_below_listed}
use Rattle.lists.specs.FirstLaws.{least_means}
use Rattle.lists.specs.Sort.{sorted_by}
use Rattle.lists.specs.SortLaws.{count_if, kth_is, kth_means, sorted_length}
use Rattle.floats.specs.Floats.{plus_zero, total_le}
use Rattle.floats.specs.FirstLaws.{Fits}
use Rattle.floats.specs.OrderLaws as Order
use Rattle.times.specs.declared.PerfModel.{PerfModel}
use Rattle.times.specs.Times.{never, predict_of}
use Rattle.steps.specs.Steps.{peer_at, peer_time, peer_times, step_time, step_shards, steps, step_length, time_of_step, best_step}

-- ---- the steps: those whose count is at most d

pub steps_means : (d majority i : ℕ) → 0 < d / majority → (i < steps d majority) ↔ (step_shards d majority i ≤ d)
steps_means d majority i h = rw add-one (le-div_iff_mul-le h)

-- where d is a multiple of the majority, the majority's shares make up d
pub shares_whole : (d majority : ℕ) → d % majority ≡ 0 → majority * (d / majority) ≡ d
shares_whole d majority e = omega (arith, div-add-mod d majority)

-- and a replica has some shards at each step
pub shares_positive : (d majority : ℕ) → 0 < d → d % majority ≡ 0 → 0 < d / majority
shares_positive d majority h e =
    ⊎_elim
    (λ (z : d / majority ≡ 0). absurd (omega (arith, shares_whole d majority e, ap (λ (q : ℕ). majority * q) z)))
    (λ (p : 0 < d / majority). p) (eq-zero-or-pos (d / majority))

-- and there are as many steps as the majority
pub steps_all : (d majority : ℕ) → 0 < d → d % majority ≡ 0 → steps d majority ≡ majority
steps_all d majority h e =
    ap (λ (x : ℕ). x / (d / majority)) (sym (shares_whole d majority e)) ∙ mul-div_left majority (shares_positive d majority h e)

-- the steps below the majority have at most d shards a replica, whatever d is
pub step_shards_le : (d majority i : ℕ) → i < majority → step_shards d majority i ≤ d
step_shards_le d majority i h =
    let m : (i + 1) * (d / majority) ≤ majority * (d / majority) = mul-le-mul_right (d / majority) (omega arith) in
    omega (arith, m, mul-div-le d majority)

-- ---- a shard's bytes: the least number of which d are more than the size
pub step_length_means : (size d m : ℕ) → 0 < d → (step_length size d ≤ m) ↔ (size < m * d)
step_length_means size d m h = rw add-one (div-lt_iff_lt-mul h)

-- ---- the peers: the replicas but our own, each once
module _ (own j : ℕ) where
  -- the j-th of m peers is one of m + 1 replicas
  pub peer_below : (m : ℕ) → j < m → peer_at own j < suc m
  peer_below m h = go (ltb j own)
    where
      go : (b : Bool) → cond b j (suc j) < suc m
      go true = omega arith
      go false = omega arith

  -- and not our own
  pub peer_not_own : peer_at own j ≡ own → ⊥
  peer_not_own = go (ltb j own) refl
    where
      go : (b : Bool) → ltb j own ≡ b → cond b j (suc j) ≡ own → ⊥
      go true e h = omega (arith, ltb-true j own e)
      go false e h = omega (arith, ltb-false j own e)

-- no two places have the same peer
pub peer_once : (own i j : ℕ) → peer_at own i ≡ peer_at own j → i ≡ j
peer_once own i j = go (ltb i own) (ltb j own) refl refl
  where
    go : (a b : Bool) → ltb i own ≡ a → ltb j own ≡ b → cond a i (suc i) ≡ cond b j (suc j) → i ≡ j
    go true true p q e = e
    go true false p q e = omega (arith, ltb-true i own p, ltb-false j own q)
    go false true p q e = omega (arith, ltb-false i own p, ltb-true j own q)
    go false false p q e = omega arith

-- p is a peer exactly if it is the j-th for some j below n - 1
pub peers_means : (n own p : ℕ) → own < n → ((p < n) × (p ≡ own → ⊥)) ↔ Placed (peer_at own) (n - 1) p
peers_means n own p h = (
  λ k. go k (dec_lt p own),
  λ k.
      let e : suc (n - 1) ≡ n = omega arith in
      (subst (λ (x : ℕ). x < n) k.here (rw e at (peer_below own k.place (n - 1) k.small)), λ q. peer_not_own own k.place (k.here ∙ q)),
)
  where
    go : (p < n) × (p ≡ own → ⊥) → Dec (p < own) → Placed (peer_at own) (n - 1) p
    go k (yes l) = record { place = p; small = omega arith; here = rw (lt-ltb p own l) }
    go k (no l) =
        let g : own < p = omega (arith, k.1) in
        let e : suc (p - 1) ≡ p = omega arith in
        record { place = p - 1; small = omega (arith, k.0); here = rw (le-ltb (p - 1) own (omega arith)) e }

-- ---- their times, each a double
module _ (load : ℕ) (inflight : List ℕ) (models : List PerfModel) where
  pub peer_time_fits : (p : ℕ) → Fits (peer_time load inflight models p)
  unfolding predict_of
  peer_time_fits p = add-fits binary64 _ _

  module _ (m own : ℕ) where
    -- as many as there are peers, each at its place
    pub peer_times_length : length (peer_times m own load inflight models) ≡ m
    unfolding peer_times
    peer_times_length = each_below_length (λ (j : ℕ). peer_time load inflight models (peer_at own j)) m

    pub peer_times_at : (j : ℕ) (d : Float) → j < m → get_or (peer_times m own load inflight models) j d ≡ peer_time load inflight models (peer_at own j)
    unfolding peer_times
    peer_times_at j d h = each_below_at (λ (i : ℕ). peer_time load inflight models (peer_at own i)) m j d h

    pub peer_times_fit : AllOf Fits (peer_times m own load inflight models)
    peer_times_fit =
        (all_of_means Fits never (peer_times m own load inflight models)).1 (λ j l.
        subst Fits (sym (peer_times_at j never (subst (λ (k : ℕ). j < k) peer_times_length l))) (peer_time_fits (peer_at own j)))

plus_zero_fits : Fits plus_zero
unfolding fits
plus_zero_fits = tt

-- ---- a step's time
module _ (n own q load : ℕ) (inflight : List ℕ) (models : List PerfModel) where
  abbrev times : List Float
  times = peer_times (n - 1) own load inflight models

  -- nobody is to be heard from
  pub step_time_alone : q < 2 → step_time n own q load inflight models ≡ plus_zero
  unfolding step_time
  step_time_alone h = rw (lt-ltb q 2 h)

  several : 2 ≤ q → step_time n own q load inflight models ≡ get_or (sorted_by total_le times) (q - 2) never
  unfolding step_time
  several h = rw (le-ltb q 2 h)

  missing : 2 ≤ q → n - 1 ≤ q - 2 → step_time n own q load inflight models ≡ never
  missing two h =
      several two ∙ get_or-eq_default (sorted_by total_le times) never {n = q - 2} (omega (arith, sorted_length total_le times, peer_times_length load inflight models (n - 1) own))

  -- more are to be heard from than there are
  pub step_time_missing : 0 < n → n < q → step_time n own q load inflight models ≡ never
  step_time_missing h g = missing (omega arith) (omega arith)

  -- t is the time of a peer, at least q - 1 of the peers' times are at most t, and at most q - 2 are below it
  pub record Awaited (t : Float) : Type 0 where
    pub peer : ℕ
    pub known : peer < n
    pub other : peer ≡ own → ⊥
    pub time : peer_time load inflight models peer ≡ t
    pub enough : q - 1 ≤ count_if (λ (x : Float). total_le x t) times
    pub few : count_if (λ (x : Float). not (total_le t x)) times ≤ q - 2

  -- with 2 to n to hear from, that is the time and no other
  pub step_time_means : own < n → 2 ≤ q → q ≤ n → (t : Float) → (step_time n own q load inflight models ≡ t) ↔ Awaited t
  unfolding peer_times
  step_time_means h two most t =
      let f : ℕ → Float = λ j. peer_time load inflight models (peer_at own j) in
      let k = kth_means total_le Order.total Order.trans Fits Order.antisym times (q - 2) never t (peer_times_fit load inflight models (n - 1) own) (omega (arith, peer_times_length load inflight models (n - 1) own)) in (
        λ e.
            let w = k.0 (sym (several two) ∙ e) in
            let p = (each_below_listed f (n - 1) t).0 w.listed in
            let r = (peers_means n own (peer_at own p.place) h).1 (record { place = p.place; small = p.small; here = refl }) in
            record { peer = peer_at own p.place; known = r.0; other = r.1; time = p.here; enough = omega (arith, w.enough); few = w.few },
        λ w.
            let r = (peers_means n own w.peer h).0 (w.known, w.other) in
            several two ∙ k.1 (record {
              listed = (each_below_listed f (n - 1) t).1 (record { place = r.place; small = r.small; here = ap (peer_time load inflight models) r.here ∙ w.time });
              enough = omega (arith, w.enough);
              few = w.few;
            }),
      )

  -- a step's time is a double too
  pub step_time_fits : Fits (step_time n own q load inflight models)
  step_time_fits = go (dec_lt q 2) (dec_lt (q - 2) (n - 1))
    where
      go : Dec (q < 2) → Dec (q - 2 < n - 1) → Fits (step_time n own q load inflight models)
      go (yes h) c = subst Fits (sym (step_time_alone h)) plus_zero_fits
      go (no h) (yes l) =
          let w = kth_is total_le Order.total Order.trans times (q - 2) never (omega (arith, peer_times_length load inflight models (n - 1) own)) in
          subst Fits (sym (several (omega arith))) (all_of_listed Fits times (peer_times_fit load inflight models (n - 1) own) (get_or (sorted_by total_le times) (q - 2) never) w.listed)
      go (no h) (no l) = subst Fits (sym (missing (omega arith) (omega arith))) (inf-fits binary64 false)

-- ---- the step chosen
module _ (n f own d majority size : ℕ) (inflight : List ℕ) (models : List PerfModel) where
  abbrev time_of : ℕ → Float
  time_of = time_of_step n f own d majority size inflight models

  pub time_of_step_fits : (i : ℕ) → Fits (time_of i)
  unfolding time_of_step
  time_of_step_fits i = step_time_fits n own _ _ inflight models

  -- its time is at most that of each step, and no earlier step has a time that is at most its own
  pub record BestStep (i : ℕ) : Type 0 where
    pub inside : i < steps d majority
    pub least : (j : ℕ) → j < steps d majority → total_le (time_of i) (time_of j) ≡ true
    pub first : (j : ℕ) → j < i → total_le (time_of j) (time_of i) ≡ false

  -- such a step is chosen, and there is no other
  pub best_step_means : 0 < d / majority → (i : ℕ) → (best_step n f own d majority size inflight models ≡ i) ↔ BestStep i
  unfolding best_step
  best_step_means h i =
      let m = least_means total_le time_of Order.total Order.trans (steps d majority - 1) i in
      let s : 0 < steps d majority = (le-div_iff_mul-le h).1 (omega (arith, div-le_self d majority)) in (
        λ e. let p = m.0 e in record { inside = omega (arith, p.within); least = λ j l. p.least j (omega arith); first = p.first },
        λ p. m.1 (record { within = omega (arith, p.inside); least = λ j l. p.least j (omega arith); first = p.first }),
      )
