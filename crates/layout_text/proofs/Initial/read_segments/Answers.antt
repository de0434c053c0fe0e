-- `layout_text::Initial::read_segments` meets its contract. Assumes nothing.
use Rattle.std.proofs.Common.{rules, ◌≡◌, Err, sym}
use Rattle.numerals.proofs.ReadLaws.{read_refused, read_next, read_ended}
use Rattle.layout_text.specs.LayoutText.{segment_in}
use Rattle.layout_text.proofs.Initial.read_segments.Goals as goal

pub loop-q-init : goal.loop-q-init
loop-q-init c =
    (tt, tt, search rules, rw (c.into_iter-q-iterator.ensures.into_iter_gives, c.split-q-items.ensures))

pub returns-in_err-read_segment : goal.returns-in_err-read_segment
returns-in_err-read_segment c =
    let e : c.from_residual.result ≡ Err c.in_err-read_segment.field-0.0 = search rules in
    rw e (read_refused (segment_in _ _) _ c.loop-q.invariant.3 c.in-Some.ensures.steps (sym c.in_err-read_segment.ensures))

pub loop-q-preserved : goal.loop-q-preserved
loop-q-preserved c =
    (tt, tt, search rules, read_next (segment_in _ _) _ c.loop-q.invariant.3 c.in-Some.ensures.steps (sym c.in_ok-read_segment.ensures))

pub returns : goal.returns
returns c =
    read_ended (segment_in _ _) _ c.loop-q.invariant.3 c.in-None.ensures.steps.0
