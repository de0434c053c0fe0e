-- What an input is that is not refused: each check, said in numbers. Assumes nothing.
use Rattle.std.specs.Prelude.{◌≡◌, refl, ◌↔◌, ◌⊎◌, Bool, true, false, ◌||◌, List, ℕ, suc, ◌-◌, ◌*◌, ◌/◌, ◌%◌, ◌^◌, ◌≤◌, ◌<◌, eqb, Float, length}
use Rattle.std.proofs.Common.{inl, inr}
use native.Mathlib.Omega.{arith}
use borrow.Author.Tests.{eqb-true, eq-eqb, leb-true, le-leb, ltb-true, lt-ltb, not-false}
use Rattle.lists.specs.AllLaws.{Each, all_means}
use Rattle.rows.specs.Row.{rows_in}
use Rattle.refusals.specs.FirstLaws.{none_holds}
use Rattle.refusals.specs.Limits.{most_shards, is_row}
use Rattle.refusals.specs.LimitLaws.{InFlight, population_means, shards_means, quorum_means, peers_fit_means}
use Rattle.adaptive.specs.Floor.{floor_cases, floor_refusal}
use Rattle.steps.specs.Steps.{in_flight}
use Rattle.adaptive.specs.Policy.{is_balanced_table, policy_cases, policy_refusal}

-- ---- `min_shards_per_replica`
module _ (n f d majority alive : ℕ) where
  pub record FloorSound : Type 0 where
    pub population : (1 ≤ n) × (n ≤ 16)
    pub tolerance : f < n
    pub shards : (1 ≤ d) × (d ≤ most_shards)
    pub enough : (1 ≤ majority) × (majority ≤ n)
    pub multiple : d % majority ≡ 0
    pub mask : alive < 2 ^ n

  pub floor_sound : (floor_refusal n f d majority alive ≡ 0) ↔ FloorSound
  unfolding floor_refusal
  floor_sound = (
    λ e.
        let h = (none_holds (floor_cases n f d majority alive) refl).0 e in
        let s = (shards_means d d).0 (not-false _ (search h)) in
        record {
          population = (population_means n).0 (not-false _ (search h));
          tolerance = ltb-true f n (not-false _ (search h));
          shards = (s.0, s.2);
          enough = (quorum_means n majority).0 (not-false _ (search h));
          multiple = eqb-true (d % majority) 0 (not-false _ (search h));
          mask = ltb-true alive (2 ^ n) (not-false _ (search h));
        },
    λ s.
        simp (
          (population_means n).1 s.population,
          lt-ltb f n s.tolerance,
          (shards_means d d).1 (s.shards.0, omega arith, s.shards.1),
          (quorum_means n majority).1 s.enough,
          eq-eqb (d % majority) 0 s.multiple,
          lt-ltb alive (2 ^ n) s.mask,
        ),
  )

-- ---- the balanced table: it is empty, or has n rows for each count from d / majority to d
one_of : (a b c : ℕ) → ((eqb a b || eqb a c) ≡ true) ↔ ((a ≡ b) ⊎ (a ≡ c))
one_of a b c = (go (eqb a b) refl, back)
  where
    go : (t : Bool) → eqb a b ≡ t → (t || eqb a c) ≡ true → (a ≡ b) ⊎ (a ≡ c)
    go true q e = inl (eqb-true a b q)
    go false q e = inr (eqb-true a c e)

    also : (t : Bool) → (t || true) ≡ true
    also true = refl
    also false = refl

    back : (a ≡ b) ⊎ (a ≡ c) → (eqb a b || eqb a c) ≡ true
    back (inl e) = rw (eq-eqb a b e)
    back (inr e) = rw (eq-eqb a c e) (also (eqb a b))

pub table_means : (n d majority len : ℕ) → (is_balanced_table n d majority len ≡ true) ↔ ((len ≡ 0) ⊎ (len ≡ n * suc (d - d / majority) * 4))
table_means n d majority len = one_of len 0 (n * suc (d - d / majority) * 4)

-- ---- `pick_assignment_policy`, and its rows
module _ (n f own d w majority size : ℕ) (inflight : List ℕ) (models : List Float) (alive : ℕ) (initial table : List ℕ) where
  pub record PolicySound : Type 0 where
    pub population : (1 ≤ n) × (n ≤ 16)
    pub tolerance : f < n
    pub replica : own < n
    pub shards : (1 ≤ d) × (d ≤ w) × (w ≤ most_shards)
    pub enough : (1 ≤ majority) × (majority ≤ n)
    pub multiple : d % majority ≡ 0
    pub small : size ≤ 2 ^ 30
    pub in_flight_fits : InFlight n own (in_flight inflight)
    pub mask : alive < 2 ^ n
    pub each_initial : Each (is_row w) 0 (rows_in initial)
    pub each_balanced : Each (is_row w) 0 (rows_in table)
    pub a_word_each : length inflight ≡ n
    pub a_model_each : length models ≡ n * 3
    pub initial_rows : length initial ≡ n * 4
    pub balanced_rows : (length table ≡ 0) ⊎ (length table ≡ n * suc (d - d / majority) * 4)

  pub policy_sound : (policy_refusal n f own d w majority size inflight models alive initial table ≡ 0) ↔ PolicySound
  unfolding policy_refusal
  policy_sound = (
    λ e.
        let h = (none_holds (policy_cases n f own d w majority size inflight models alive initial table) refl).0 e in
        record {
          population = (population_means n).0 (not-false _ (search h));
          tolerance = ltb-true f n (not-false _ (search h));
          replica = ltb-true own n (not-false _ (search h));
          shards = (shards_means d w).0 (not-false _ (search h));
          enough = (quorum_means n majority).0 (not-false _ (search h));
          multiple = eqb-true (d % majority) 0 (not-false _ (search h));
          small = leb-true size (2 ^ 30) (not-false _ (search h));
          in_flight_fits = (peers_fit_means n own (in_flight inflight)).0 (not-false _ (search h));
          mask = ltb-true alive (2 ^ n) (not-false _ (search h));
          each_initial = (all_means (is_row w) 0 (rows_in initial)).0 (not-false _ (search h));
          each_balanced = (all_means (is_row w) 0 (rows_in table)).0 (not-false _ (search h));
          a_word_each = eqb-true (length inflight) n (not-false _ (search h));
          a_model_each = eqb-true (length models) (n * 3) (not-false _ (search h));
          initial_rows = eqb-true (length initial) (n * 4) (not-false _ (search h));
          balanced_rows = (table_means n d majority (length table)).0 (not-false _ (search h));
        },
    λ s.
        simp (
          (population_means n).1 s.population,
          lt-ltb f n s.tolerance,
          lt-ltb own n s.replica,
          (shards_means d w).1 s.shards,
          (quorum_means n majority).1 s.enough,
          eq-eqb (d % majority) 0 s.multiple,
          le-leb size (2 ^ 30) s.small,
          (peers_fit_means n own (in_flight inflight)).1 s.in_flight_fits,
          lt-ltb alive (2 ^ n) s.mask,
          (all_means (is_row w) 0 (rows_in initial)).1 s.each_initial,
          (all_means (is_row w) 0 (rows_in table)).1 s.each_balanced,
          eq-eqb (length inflight) n s.a_word_each,
          eq-eqb (length models) (n * 3) s.a_model_each,
          eq-eqb (length initial) (n * 4) s.initial_rows,
          (table_means n d majority (length table)).1 s.balanced_rows,
        ),
  )
