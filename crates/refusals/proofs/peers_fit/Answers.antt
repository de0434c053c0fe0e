-- `refusals::peers_fit` meets its contract. Assumes nothing.
use mathlib.Core.Path.{ap, ◌∙◌}
use Rattle.refusals.specs.Limits.{is_overfull}
use Rattle.refusals.proofs.Peers.{none_yet, none_more, overfull_found, all_fit}
use Rattle.refusals.proofs.peers_fit.Goals as goal

pub loop-p-init : goal.loop-p-init
loop-p-init g c = λ in_flight given. none_yet _ in_flight

pub returns-then-is_overfull : goal.returns-then-is_overfull
returns-then-is_overfull g c = λ in_flight given.
    let a = c.args in
    overfull_found a.own.0 in_flight a.n c.loop-p.p _ c.loop-p-test.true
    (c.is_overfull.ensures ∙ ap (is_overfull a.own.0 c.loop-p.p) (given _ _ c.loop-p-test.true c.bytes.ensures)) c.if-is_overfull.true

pub loop-p-preserved : goal.loop-p-preserved
loop-p-preserved g c = λ in_flight given.
    let a = c.args in
    none_more a.own.0 in_flight a.n c.loop-p.p _ (c.loop-p.invariant in_flight given)
    (c.is_overfull.ensures ∙ ap (is_overfull a.own.0 c.loop-p.p) (given _ _ c.loop-p-test.true c.bytes.ensures)) c.if-is_overfull.false

pub returns : goal.returns
returns g c = λ in_flight given.
    let a = c.args in
    all_fit a.own.0 in_flight a.n c.loop-p.p c.loop-p.auto.p-end c.loop-p-test.false (c.loop-p.invariant in_flight given)
