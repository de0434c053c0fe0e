-- What the parts of the policy and its entries rest on: what the checks have tested, and the rows of a choice. The premises are the fields of
-- a need's record. Assumes nothing.
use mathlib.Core.Path.{◌≡◌, refl, sym, ap, subst, ◌∙◌}
use mathlib.Core.Bool.{Bool, cond}
use mathlib.Core.List.{List}
use Rattle.std.specs.Prelude.{Option, None, Some}
use Prim.Native.Nat.{ℕ, suc, ◌+◌, ◌-◌, ◌*◌, ◌/◌, ◌≤◌, ◌<◌}
use native.Mathlib.Nat.{mul-le-mul, div-le_self}
use native.Mathlib.Numerals.{add-one}
use native.Mathlib.Omega.{arith}
use lib.Ieee.{Float}
use lib.ListN.{length, take, drop}
use Rattle.refusals.specs.Outcome.{Outcome, refused, accepted}
use Rattle.rows.specs.Row.{rows_in, spelled}
use Rattle.rows.proofs.WordLaws.{Words}
use Rattle.rows.proofs.TableLaws.{rows_spelled, part_spelled}
use Rattle.refusals.specs.Limits.{most_shards, is_population, is_shards, is_quorum}
use Rattle.refusals.specs.LimitLaws.{shards_means, quorum_means}
use Rattle.refusals.proofs.Checks.{went_on, population_went_on}
use Rattle.adaptive.specs.declared.Policy.{Policy}
use Rattle.adaptive.specs.declared.Policy.TheVariants.{Initial, Balanced}
use Rattle.adaptive.specs.Policy.{policy_refusal, chosen, policy_of, rows_of, Holds}
use Rattle.adaptive.proofs.RefusalLaws.{PolicySound, policy_sound}
use Rattle.adaptive.proofs.PolicyLaws.{initial_means, count_held, rows_inside}

-- ---- what a check that went on has tested: r is what the test returned
pub majority_passed : (n majority : ℕ) {r : Bool} → r ≡ is_quorum n majority → ◌≡◌ {A = ℕ} 0 (cond r 0 5) → 0 < majority
majority_passed n majority {r} e z = ((quorum_means n majority).0 (sym e ∙ went_on r 4 z)).0

pub few : (n : ℕ) {r : Bool} → r ≡ is_population n → ◌≡◌ {A = ℕ} 0 (cond r 0 1) → n ≤ 16
few n {r} e z = population_went_on n r e z

pub few_shards : (d w : ℕ) {r : Bool} → r ≡ is_shards d w → ◌≡◌ {A = ℕ} 0 (cond r 0 4) → d ≤ most_shards
few_shards d w {r} e z = let s = (shards_means d w).0 (sym e ∙ went_on r 3 z) in omega arith

-- ---- the sizes of products
pub floor_small : (f d majority alive : ℕ) → f ≤ 16 → d ≤ most_shards → majority ≤ 16 → (majority + f + 1 - alive) * (d / majority) ≤ 8415
floor_small f d majority alive a b c = mul-le-mul {n₂ = 33} {m₂ = 255} (omega arith) (omega (arith, div-le_self d majority))

pub table_small : (n d majority : ℕ) → n ≤ 16 → d ≤ most_shards → n * (d - d / majority + 1) ≤ 4096
table_small n d majority a b = mul-le-mul {m₂ = 256} a (omega arith)

-- ---- `Policy::rows`
module _ (n d majority : ℕ) (choice : Policy) (initial table : List ℕ) (h : Holds n d majority (accepted (chosen choice)) (length initial) (length table)) where
  -- of the initial layout
  pub initial_taken : choice ≡ Initial → Words initial → initial ≡ spelled (rows_of n d majority (accepted (chosen choice)) (rows_in initial) (rows_in table))
  initial_taken e words =
      let l : length initial ≡ n * 4 = subst (λ (c : Policy). Holds n d majority (accepted (chosen c)) (length initial) (length table)) e h in
      rw e (sym (rows_spelled initial n words l))

  -- of a count of the table
  module _ (shards : ℕ) (e : choice ≡ Balanced shards) where
    held : Holds n d majority (accepted (Some shards)) (length initial) (length table)
    held = subst (λ (c : Policy). Holds n d majority (accepted (chosen c)) (length initial) (length table)) e h

    -- the rows of the count end within the table, and that is small
    inside : (shards - d / majority) * n + n ≤ n * suc (d - d / majority)
    inside = let u = held in rows_inside n d majority shards (n * suc (d - d / majority)) u.3 u.4 refl

    pub part_small : (shards - d / majority) * n + n ≤ 4096
    part_small =
        let u = held in
        let m = table_small n d majority u.0 u.1 in
        omega (arith, m, inside, ap (λ (k : ℕ). n * k) (add-one (d - d / majority)))

    pub part_taken : Words table → (part : List ℕ) → part ≡ take (n * 4) (drop ((shards - d / majority) * n * 4) table)
        → part ≡ spelled (rows_of n d majority (accepted (chosen choice)) (rows_in initial) (rows_in table))
    part_taken words part q = rw e (q ∙ part_spelled table (n * suc (d - d / majority)) ((shards - d / majority) * n) n words held.5)

-- ---- `pick_assignment_policy`, of an input that passed
module _ (n f own d w majority size : ℕ) (inflight : List ℕ) (models : List Float) (alive : ℕ) (initial table : List ℕ)
    (z : 0 ≡ policy_refusal n f own d w majority size inflight models alive initial table) where
  -- what has been tested
  pub tested : PolicySound n f own d w majority size inflight models alive initial table
  tested = (policy_sound n f own d w majority size inflight models alive initial table).0 (sym z)

-- ---- `pick_assignment_policy_rows`: the table has what was chosen
module _ (n f own d w majority size : ℕ) (inflight : List ℕ) (models : List Float) (alive : ℕ) (initial table : List ℕ)
    (adaptive balanced : Bool) where
  pub policy_holds : {o : Outcome (Option ℕ)} → o ≡ policy_of n f own d w majority size inflight models alive initial table adaptive balanced → Holds n d majority o (length initial) (length table)
  policy_holds {o} e = go o (sym e)
    where
      go : (o : Outcome (Option ℕ)) → policy_of n f own d w majority size inflight models alive initial table adaptive balanced ≡ o → Holds n d majority o (length initial) (length table)
      go (refused k) q = tt
      go (accepted None) q =
          let z = ((initial_means n f own d w majority size inflight models alive initial table adaptive balanced).0 q).0 in
          ((policy_sound n f own d w majority size inflight models alive initial table).0 z).initial_rows
      go (accepted (Some c)) q = count_held n f own d w majority size inflight models alive initial table adaptive balanced c q
