-- What the C interface accepts of plans and of the policy: what the entry accepts, with tables by replica that fit n. Assumes nothing.
use Rattle.std.specs.Prelude.{◌≡◌, Bool, true, ◌↔◌, List, [], ◌∷◌, ◌++◌, ℕ, zero, suc, ◌*◌, ◌^◌, ◌<◌, Float, length}
use Rattle.std.proofs.Math.Path.{refl}
use Rattle.std.proofs.Common.{sym, ap, ◌∙◌, arith, eqb-true, eq-eqb, ltb-true, lt-ltb}
use Rattle.std.specs.Prelude.{Option}
use Rattle.std.proofs.lemmas.Bool.{not-false}
use Rattle.refusals.specs.Numbers.{TABLE}
use Rattle.refusals.specs.First.{unless, first_of}
use Rattle.refusals.specs.FirstLaws.{none_holds, otherwise, first_then}
use Rattle.refusals.specs.Outcome.{Outcome, accepted}
use Rattle.refusals.specs.OutcomeLaws.{checked_means, accepted_means}
use Rattle.layout.specs.declared.TotalShards.{TotalShards}
use Rattle.assignment.specs.Plans.{Plan, pick_input_cases, pick_table_cases, pick_refusal, pick_of}
use Rattle.adaptive.specs.Policy.{policy_cases, policy_refusal, policy_of}
use Rattle.c_types.specs.CTypes.{is_set}
use Rattle.c_types.specs.Tables.{from_peers}
use Rattle.callboard.specs.Interface.{heard_cases, plan_cases, pick_in, choice_cases, policy_in}

neither : (j k : ℕ) → (otherwise j k ≡ 0) ↔ ((j ≡ 0) × (k ≡ 0))
neither zero k = (λ e. (refl, e), λ h. h.1)
neither (suc j) k = (λ e. absurd (omega arith), λ h. absurd (omega arith))

-- ---- plans
module _ (n own quorum d : ℕ) (total : TotalShards) (size : ℕ) (penalty : Float) (heard : ℕ) (models : List Float)
    (inflight faults : List ℕ) (rows : ℕ) where
  -- the numbers of the three lists
  abbrev pub inputs : ℕ
  inputs = first_of (pick_input_cases n own quorum d total size (from_peers heard models inflight))

  abbrev pub tables : ℕ
  tables = first_of (heard_cases n heard (length models) (length inflight))

  abbrev pub lists : ℕ
  lists = first_of (pick_table_cases n faults rows)

  pub plan_number : first_of (plan_cases n own quorum d total size heard models inflight faults rows)
      ≡ otherwise inputs (otherwise tables lists)
  plan_number =
      first_then (pick_input_cases n own quorum d total size (from_peers heard models inflight))
      (heard_cases n heard (length models) (length inflight) ++ pick_table_cases n faults rows) refl
      ∙ ap (otherwise inputs) (first_then (heard_cases n heard (length models) (length inflight)) (pick_table_cases n faults rows) refl)

  pub entry_number : pick_refusal n own quorum d total size (from_peers heard models inflight) faults rows ≡ otherwise inputs lists
  unfolding pick_refusal
  entry_number = first_then (pick_input_cases n own quorum d total size (from_peers heard models inflight)) (pick_table_cases n faults rows) refl

  -- no peer at or above n is heard, and the tables have four floats and a word for each replica
  abbrev pub Heard : Type 0
  Heard = (heard < 2 ^ n) × (length models ≡ n * 4) × (length inflight ≡ n)

  heard_means : (tables ≡ 0) ↔ Heard
  heard_means = (
    λ e.
        let h = (none_holds (heard_cases n heard (length models) (length inflight)) refl).0 e in (
          ltb-true heard (2 ^ n) (not-false _ h.0),
          eqb-true (length models) (n * 4) (not-false _ h.1.0),
          eqb-true (length inflight) n (not-false _ h.1.1.0),
        ),
    λ h. simp (lt-ltb heard (2 ^ n) h.0, eq-eqb (length models) (n * 4) h.1, eq-eqb (length inflight) n h.2),
  )

  abbrev entry : Outcome (Option Plan)
  entry = pick_of n own quorum d total size (from_peers heard models inflight) penalty faults rows

  -- accepted is what the entry accepts, of tables that fit
  pub pick_in_means : (o : Option Plan)
      → (pick_in n own quorum d total size penalty heard models inflight faults rows ≡ accepted o) ↔ (Heard × (entry ≡ accepted o))
  unfolding pick_in pick_of
  pick_in_means o =
      let m = checked_means (first_of (plan_cases n own quorum d total size heard models inflight faults rows)) entry o in (
        λ e.
            let h = m.0 e in
            let z = ((neither inputs (otherwise tables lists)).0 (sym plan_number ∙ h.0)).1 in
            (heard_means.0 ((neither tables lists).0 z).0, h.1),
        λ h.
            let k = pick_refusal n own quorum d total size (from_peers heard models inflight) faults rows in
            let z = (neither inputs lists).0 (sym entry_number ∙ ((checked_means k _ o).0 h.1).0) in
            let t = (neither tables lists).1 (heard_means.1 h.0, z.1) in
            m.1 (plan_number ∙ (neither inputs (otherwise tables lists)).1 (z.0, t), h.1),
      )

-- ---- the policy
module _ (n f own d w majority size adaptive balanced : ℕ) (models : List Float) (inflight : List ℕ) (alive : ℕ)
    (initial table : List ℕ) (fits : Bool) where
  abbrev pub number : ℕ
  number = policy_refusal n f own d w majority size inflight models alive initial table

  abbrev pub lent : ℕ
  lent = first_of (unless fits TABLE ∷ [])

  pub choice_number : first_of (choice_cases n f own d w majority size models inflight alive initial table fits) ≡ otherwise number lent
  unfolding policy_refusal
  choice_number = first_then (policy_cases n f own d w majority size inflight models alive initial table) (unless fits TABLE ∷ []) refl

  lent_means : (lent ≡ 0) ↔ (fits ≡ true)
  lent_means = (λ e. not-false _ ((none_holds (unless fits TABLE ∷ []) refl).0 e).0, λ h. simp h)

  abbrev choice : Outcome (Option ℕ)
  choice =
      policy_of n f own d w majority size inflight models alive initial table (is_set adaptive) (is_set balanced)

  -- accepted is what the entry accepts, where the table lent for the rows fits
  pub policy_in_means : (o : Option ℕ)
      → (policy_in n f own d w majority size adaptive balanced models inflight alive initial table fits ≡ accepted o)
      ↔ ((fits ≡ true) × (choice ≡ accepted o))
  unfolding policy_in policy_of
  policy_in_means o =
      let m = checked_means (first_of (choice_cases n f own d w majority size models inflight alive initial table fits)) choice o in (
        λ e. let h = m.0 e in (lent_means.0 ((neither number lent).0 (sym choice_number ∙ h.0)).1, h.1),
        λ h. m.1 (choice_number ∙ (neither number lent).1 (((accepted_means number _ o).0 h.1).0, lent_means.1 h.0), h.1),
      )
