-- `faults::fault_list` meets its contract. Assumes nothing.
use native.Mathlib.Omega.{arith}
use mathlib.Core.Path.{refl, ◌∙◌}
use lib.ListN.{replicate}
use Rattle.refusals.proofs.Outcomes.{err_refused}
use Rattle.faults.proofs.Answers.{small_holds, large_holds}
use Rattle.faults.proofs.Entry.{refused_first, passed_on, population, accepted_input}
use Rattle.faults.proofs.fault_list.Goals as goal

pub returns-in_err-check_input : goal.returns-in_err-check_input
returns-in_err-check_input c =
    let a = c.args in
    let r = refused_first a.n a.f a.p c.in_err-check_input.field-0.0 c.in_err-check_input.ensures a.list.now in
    record { answer = err_refused _ c.from_residual.result c.from_residual.ensures ∙ r.0; words = r.1 }

pub list_family-requires : goal.list_family-requires
list_family-requires c =
    record {
      few = omega (arith, c.if-n-le8.true);
      room = small_holds c.args.n (replicate 4 0) c.if-n-le8.true refl;
      short = omega arith;
      accepted = accepted_input c.args.n c.args.f c.args.p c.in_ok-check_input.ensures;
    }

pub returns-then-n-le8 : goal.returns-then-n-le8
returns-then-n-le8 c =
    let a = c.args in
    let r = passed_on a.n a.f a.p c.in_ok-check_input.ensures a.list.now _ _ (c.list_family.ensures.answer, c.list_family.ensures.words) in
    record { answer = r.0; words = r.1 }

pub list_family-requires-2 : goal.list_family-requires-2
list_family-requires-2 c =
    let e = c.in_ok-check_input.ensures in
    let few = population c.args.n c.args.f c.args.p e in
    record { few = few; room = large_holds c.args.n (replicate 1024 0) few refl; short = omega arith; accepted = accepted_input c.args.n c.args.f c.args.p e }

pub returns : goal.returns
returns c =
    let a = c.args in
    let r = passed_on a.n a.f a.p c.in_ok-check_input.ensures a.list.now _ _ (c.list_family-2.ensures.answer, c.list_family-2.ensures.words) in
    record { answer = r.0; words = r.1 }
