-- `profile_text::Reader::read_mechanisms` meets its contract. Assumes nothing.
use Rattle.std.proofs.Common.{rules, ◌≡◌, Err, sym}
use Rattle.numerals.proofs.ReadLaws.{read_refused, read_next, read_ended}
use Rattle.profile_text.specs.ProfileText.{mechanism_in}
use Rattle.profile_text.proofs.Reader.read_mechanisms.Goals as goal

pub loop-q-init : goal.loop-q-init
loop-q-init c =
    (tt, tt, rw (c.into_iter-q-iterator.ensures.into_iter_gives, c.split-q-items.ensures))

pub returns-in_err-read_mechanism : goal.returns-in_err-read_mechanism
returns-in_err-read_mechanism c =
    let e : c.from_residual.result ≡ Err c.in_err-read_mechanism.field-0.0 = search rules in
    rw e (read_refused (mechanism_in _) _ c.loop-q.invariant.2 c.in-Some.ensures.steps (sym c.in_err-read_mechanism.ensures))

pub loop-q-preserved : goal.loop-q-preserved
loop-q-preserved c =
    (tt, tt, read_next (mechanism_in _) _ c.loop-q.invariant.2 c.in-Some.ensures.steps (sym c.in_ok-read_mechanism.ensures))

pub returns : goal.returns
returns c =
    read_ended (mechanism_in _) _ c.loop-q.invariant.2 c.in-None.ensures.steps.0
