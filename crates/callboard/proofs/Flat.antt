-- How a flattened answer comes about, and what the lent rows then hold. The premises are what a need's record holds. Assumes nothing.
use mathlib.Core.Path.{◌≡◌, refl, sym, ap, ◌∙◌}
use mathlib.Core.List.{List}
use Rattle.std.specs.Prelude.{Option, Result}
use Prim.Native.Nat.{ℕ, zero, suc}
use lib.Ieee.{Float}
use lib.ListN.{length}
use Rattle.refusals.specs.First.{first_of}
use Rattle.refusals.specs.FirstLaws.{otherwise}
use Rattle.refusals.specs.Outcome.{Outcome, refused}
use Rattle.refusals.specs.Refused.{outcome_by}
use Rattle.refusals.specs.declared.Refusal.{Refusal}
use Rattle.refusals.proofs.Outcomes.{is_checked}
use Rattle.layout.specs.declared.TotalShards.{TotalShards}
use Rattle.times.specs.declared.PeerRecord.{PeerRecord}
use Rattle.assignment.specs.declared.Plan as Coded
use Rattle.assignment.specs.Plans.{Plan, pick_refusal, pick_of, picked, planned}
use Rattle.c_types.specs.declared.Plan as C-plan
use Rattle.c_types.specs.CTypes.{to_total, to_plan, unplanned_of}
use Rattle.c_types.specs.Tables.{from_peers}
use Rattle.callboard.specs.Interface.{plan_cases, pick_in}
use Rattle.callboard.specs.Tests.{plan_tables}
use Rattle.callboard.proofs.Numbers.{checked_twice, planned_number}

-- ---- `callboard_pick_assignment`: got is the number that refuses, or 0
first : (j k : ℕ) → (j ≡ 0 → ⊥) → otherwise j k ≡ j
first zero k h = absurd (h refl)
first (suc j) k h = refl

module _ (n own quorum d ceiling width size : ℕ) (penalty : Float) (heard : ℕ) (models : List Float) (inflight faults : List ℕ) (rows : List ℕ)
    {total : TotalShards} {peers : List PeerRecord} {typed got : ℕ}
    (t : total ≡ to_total ceiling width) (p : peers ≡ from_peers heard models inflight)
    (k : typed ≡ pick_refusal n own quorum d total size peers faults (length rows)) (e : got ≡ plan_tables typed n heard (length models) (length inflight)) where
  abbrev plan : Outcome (Option Plan)
  plan = pick_in n own quorum d (to_total ceiling width) size penalty heard models inflight faults (length rows)

  -- the number of the entry, and that of all cases
  abbrev asked : ℕ
  asked = pick_refusal n own quorum d (to_total ceiling width) size (from_peers heard models inflight) faults (length rows)

  abbrev number : ℕ
  number = first_of (plan_cases n own quorum d (to_total ceiling width) size heard models inflight faults (length rows))

  refusing : otherwise got asked ≡ number
  refusing =
      let f : got ≡ plan_tables asked n heard (length models) (length inflight) = e ∙ rw (k, p, t) in
      ap (λ (j : ℕ). otherwise j asked) f
      ∙ planned_number n own quorum d (to_total ceiling width) size penalty heard models inflight faults (length rows)

  -- refused: the answer is the number alone, and the rows are as they were
  pub refused_plan : {r : C-plan.Plan} → (got ≡ 0 → ⊥) → r ≡ unplanned_of got → (r ≡ to_plan plan) × (rows ≡ planned plan rows)
  unfolding pick_in
  refused_plan h q =
      let s : refused got ≡ plan = is_checked number got _ (sym (first got asked h) ∙ refusing) h in
      (q ∙ ap to_plan s, ap (λ (o : Outcome (Option Plan)). planned o rows) s)

  -- else both are the entry's
  module _ (z : got ≡ 0) where
    abbrev entry : Outcome (Option Plan)
    entry = pick_of n own quorum d total size peers penalty faults (length rows)

    unrefused : entry ≡ plan
    unfolding pick_in pick_of
    unrefused =
        let f : asked ≡ number = sym (ap (λ (j : ℕ). otherwise j asked) z) ∙ refusing in
        rw (p, t, ← f) (sym (checked_twice asked _))

    pub picked_plan : {r : C-plan.Plan} {after : List ℕ} (p : Result (Option Coded.Plan) Refusal) → r ≡ to_plan (outcome_by (picked after) p)
        → outcome_by (picked after) p ≡ entry → after ≡ planned entry rows → (r ≡ to_plan plan) × (after ≡ planned plan rows)
    picked_plan p q h u = (q ∙ ap to_plan (h ∙ unrefused), u ∙ ap (λ (o : Outcome (Option Plan)). planned o rows) unrefused)
