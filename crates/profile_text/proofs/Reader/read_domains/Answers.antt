-- `profile_text::Reader::read_domains` meets its contract. Assumes nothing.
use Rattle.std.proofs.Common.{rules, ◌≡◌, ◌∙◌, Err, ap}
use Rattle.refusals.specs.Outcome.{refused}
use borrow.Author.Tests.{ltb-true, ltb-false}
use Rattle.refusals.proofs.Checks.{went_on}
use Rattle.numerals.proofs.ReadLaws.{read_refused, read_next, read_ended}
use Rattle.profile_text.specs.ProfileText.{with_domain, domain_in, domains_in}
use Rattle.profile_text.proofs.Mechanisms.{gave_up, domain_full, domain_refused, domain_read}
use Rattle.profile_text.proofs.Reader.read_domains.Goals as goal

pub loop-q-init : goal.loop-q-init
unfolding domains_in
loop-q-init c =
    (tt, tt, rw (c.into_iter-q-iterator.ensures.into_iter_gives, c.split-q-items.ensures))

pub loop-q-preserved : goal.loop-q-preserved
unfolding with_domain
loop-q-preserved c =
    let h = ltb-true _ _ (went_on _ 11 c.in_ok-unless.ensures) in
    (tt, tt, read_next (domain_in _) _ c.loop-q.invariant.2 c.in-Some.ensures.steps (domain_read _ _ _ h c.in_ok-m.m c.in_ok-m.ensures))

pub returns-in_err-unless : goal.returns-in_err-unless
returns-in_err-unless c =
    let q = gave_up _ _ _ c.in_err-unless.ensures in
    let e : c.from_residual.result ≡ Err c.in_err-unless.field-0.0 = search rules in
    rw e (ap refused q.1 ∙ read_refused (domain_in _) _ c.loop-q.invariant.2 c.in-Some.ensures.steps (domain_full _ _ _ (ltb-false _ _ q.0)))

pub returns-in_err-m : goal.returns-in_err-m
returns-in_err-m c =
    let h = ltb-true _ _ (went_on _ 11 c.in_ok-unless.ensures) in
    let e : c.from_residual-in_err-m.result ≡ Err c.in_err-m.field-0.0 = search rules in
    rw e (read_refused (domain_in _) _ c.loop-q.invariant.2 c.in-Some.ensures.steps (domain_refused _ _ _ h c.in_err-m.ensures))

pub returns : goal.returns
returns c =
    read_ended (domain_in _) _ c.loop-q.invariant.2 c.in-None.ensures.steps.0
