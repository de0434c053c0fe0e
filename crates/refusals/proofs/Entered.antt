-- An entry that passes a refusal of its check on by `?`, and otherwise answers its value. Assumes nothing.
use mathlib.Core.Path.{◌≡◌, refl, sym, ap, ◌∙◌}
use Prim.Native.Nat.{ℕ}
use Rattle.std.specs.Prelude.{Result, Ok, Err}
use Rattle.std.specs.Result.{IsErrAnd}
use Rattle.std.proofs.lemmas.Result.{err_from_is_err_and}
use Rattle.refusals.specs.Outcome.{accepted, outcome, written}
use Rattle.refusals.specs.Refused.{number_of, refusal_of, outcome_of, outcome_by}
use Rattle.refusals.specs.declared.Refusal.{Refusal}
use Rattle.refusals.proofs.Outcomes.{is_refused, is_accepted, leaves_all, number_some}

module _ (k : ℕ) (check : Result Unit Refusal) (is : refusal_of check ≡ k) where
  refused_number : (e : Refusal) → check ≡ Err e → number_of e ≡ k
  refused_number e was = ap refusal_of (sym was) ∙ is

  -- `check(..)?`, where it refuses
  pub err_outcome : {A : Type 0} (a : A) (r : Result A Refusal) (e : Refusal) → check ≡ Err e → IsErrAnd r (λ y. y ≡ e) → outcome_of r ≡ outcome k a
  err_outcome a r e was h =
      let p = err_from_is_err_and r h in rw (p.1, p.2) (is_refused k (number_of e) a (refused_number e was) (number_some e))

  -- the same of a value that is seen as `view` sees it
  pub err_outcome_by : {A B : Type 0} (view : A → B) (b : B) (r : Result A Refusal) (e : Refusal) → check ≡ Err e → IsErrAnd r (λ y. y ≡ e)
      → outcome_by view r ≡ outcome k b
  err_outcome_by view b r e was h =
      let p = err_from_is_err_and r h in rw (p.1, p.2) (is_refused k (number_of e) b (refused_number e was) (number_some e))

  -- and what lent memory then holds
  pub err_written : {A : Type 0} (after before : A) (e : Refusal) → check ≡ Err e → before ≡ written k after before
  err_written after before e was = leaves_all k (number_of e) after before (refused_number e was) (number_some e)

  -- and the value after it
  pub ok_outcome : {A : Type 0} (a b : A) (u : Unit {0}) → check ≡ Ok u → b ≡ a → accepted b ≡ outcome k a
  ok_outcome a b u was q = is_accepted k 0 a b (ap refusal_of (sym was) ∙ is) refl q

pub ruleset entered = (err_outcome, err_outcome_by, err_written, ok_outcome)
