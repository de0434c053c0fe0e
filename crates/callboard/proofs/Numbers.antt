-- The numbers that the code asks for, one after another, are the first of the lists of cases. Assumes nothing.
use mathlib.Core.Path.{◌≡◌, refl, sym, ap, ◌∙◌}
use mathlib.Core.Bool.{Bool, true, false, not, cond, and-eq-true_iff}
use mathlib.Core.List.{List, [], ◌∷◌}
use Rattle.std.specs.Prelude.{Option}
use Prim.Native.Nat.{ℕ, zero, suc, ◌<◌}
use native.Mathlib.Omega.{arith}
use lib.Dec.{ltb}
use lib.Ieee.{Float}
use lib.ListN.{length}
use borrow.Author.Tests.{lt-leb, ltb-true, ne_eqb}
use Rattle.std.specs.List.{list_all}
use Rattle.refusals.specs.Numbers.{TABLE}
use Rattle.refusals.specs.First.{Case, first_of}
use Rattle.refusals.specs.FirstLaws.{otherwise}
use Rattle.refusals.specs.Outcome.{Outcome, refused, accepted, checked, outcome}
use Rattle.refusals.specs.Refused.{number_of}
use Rattle.refusals.specs.declared.Refusal.{Refusal}
use Rattle.refusals.proofs.Outcomes.{number_some}
use Rattle.refusals.specs.Limits.{is_fault_list, is_table}
use Rattle.layout.specs.declared.TotalShards.{TotalShards}
use Rattle.assignment.specs.Plans.{pick_input_cases, pick_table_cases, pick_refusal}
use Rattle.adaptive.specs.Policy.{policy_refusal, policy_of}
use Rattle.c_types.specs.CTypes.{is_set}
use Rattle.c_types.specs.Tables.{from_peers}
use Rattle.callboard.specs.Interface.{heard_cases, plan_cases, policy_in}
use Rattle.callboard.proofs.InterfaceLaws.{plan_number, entry_number, choice_number}
use Rattle.callboard.specs.Tests.{is_past, plan_tables, fitting_of}

-- an input that is refused is refused once
pub checked_twice : {A : Type 0} (k : ℕ) (o : Outcome A) → checked k (checked k o) ≡ checked k o
checked_twice zero o = refl
checked_twice (suc k) o = refl

-- ---- plans

-- the number of cases that are all below m
first_under : (m : ℕ) (cs : List Case) → 0 < m → list_all (λ (c : Case). ltb c.1 m) cs ≡ true → first_of cs < m
first_under m [] h u = h
first_under m (c ∷ cs) h u =
    let b = (and-eq-true_iff (ltb c.1 m) (list_all (λ (d : Case). ltb d.1 m) cs)).0 u in
    go c.0 (ltb-true c.1 m b.0) (first_under m cs h b.1)
  where
    go : (b : Bool) → c.1 < m → first_of cs < m → cond b c.1 (first_of cs) < m
    go true l r = l
    go false l r = r

lists_past : (n : ℕ) (faults : List ℕ) (rows : ℕ) → is_past (first_of (pick_table_cases n faults rows)) ≡ true
lists_past n faults rows = go (is_fault_list n faults) (is_table n rows)
  where
    go : (a b : Bool) → is_past (cond (not a) TABLE (cond (not b) TABLE 0)) ≡ true
    go false b = refl
    go true false = refl
    go true true = refl

-- j is below 16 and l is not: the first of j and l, with k before it unless it is below 16, is the first of j, k and l
joined : (j k l : ℕ) → j < 16 → is_past l ≡ true
    → otherwise (cond (not (is_past (otherwise j l))) (otherwise j l) k) (otherwise j l) ≡ otherwise j (otherwise k l)
joined zero k l h p = rw p
joined (suc j) k l h p = rw (ne_eqb (suc j) 0 (λ e. omega arith), lt-leb 16 (suc j) h)

module _ (n own quorum d : ℕ) (total : TotalShards) (size : ℕ) (penalty : Float) (heard : ℕ) (models : List Float)
    (inflight faults : List ℕ) (rows : ℕ) where
  abbrev typed : ℕ
  typed = pick_refusal n own quorum d total size (from_peers heard models inflight) faults rows

  abbrev inputs : ℕ
  inputs = first_of (pick_input_cases n own quorum d total size (from_peers heard models inflight))

  abbrev lists : ℕ
  lists = first_of (pick_table_cases n faults rows)

  -- the number of the tables, or that of the entry
  pub planned_number : otherwise (plan_tables typed n heard (length models) (length inflight)) typed
      ≡ first_of (plan_cases n own quorum d total size heard models inflight faults rows)
  unfolding plan_tables
  planned_number =
      let e = entry_number n own quorum d total size penalty heard models inflight faults rows in
      let small = first_under 16 (pick_input_cases n own quorum d total size (from_peers heard models inflight)) (omega arith) refl in
      ap (λ (k : ℕ). otherwise (cond (not (is_past k)) k (first_of (heard_cases n heard (length models) (length inflight)))) k) e
      ∙ joined inputs (first_of (heard_cases n heard (length models) (length inflight))) lists small (lists_past n faults rows)
      ∙ sym (plan_number n own quorum d total size penalty heard models inflight faults rows)

-- ---- the policy
module _ (n f own d w majority size adaptive balanced : ℕ) (models : List Float) (inflight : List ℕ) (alive : ℕ)
    (initial table : List ℕ) (fits : Bool) where
  lent_is : (b : Bool) → cond (not b) TABLE 0 ≡ cond b 0 TABLE
  lent_is false = refl
  lent_is true = refl

  fitted : (k : ℕ) (b : Bool) (c : Option ℕ) → checked (otherwise k (cond b 0 TABLE)) (outcome k c) ≡ fitting_of b (outcome k c)
  fitted zero true c = refl
  fitted zero false c = refl
  fitted (suc k) true c = refl
  fitted (suc k) false c = refl

  -- the choice of the entry, if the table fits
  pub policy_in_is : policy_in n f own d w majority size adaptive balanced models inflight alive initial table fits
      ≡ fitting_of fits (policy_of n f own d w majority size inflight models alive initial table (is_set adaptive) (is_set balanced))
  unfolding policy_in policy_of
  policy_in_is =
      let k = policy_refusal n f own d w majority size inflight models alive initial table in
      rw (choice_number n f own d w majority size adaptive balanced models inflight alive initial table fits, lent_is fits)
      (fitted k fits _)

-- the choice of an entry that is refused, or whose table does not fit, or that stands
pub fitting_refused : (b : Bool) (k : ℕ) → refused k ≡ fitting_of b (refused k)
fitting_refused true k = refl
fitting_refused false k = refl

pub fitting_unlent : (b : Bool) (e : Refusal) (c : Option ℕ) → number_of e ≡ cond b 0 TABLE → refused (number_of e) ≡ fitting_of b (accepted c)
fitting_unlent true e c h = absurd (number_some e h)
fitting_unlent false e c h = ap refused h

pub fitting_lent : (b : Bool) (c : Option ℕ) → 0 ≡ cond b 0 TABLE → accepted c ≡ fitting_of b (accepted c)
fitting_lent true c h = refl
fitting_lent false c h = absurd (omega arith)
