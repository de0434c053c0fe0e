-- `numerals::read_whole` meets its contract. Assumes nothing.
use Rattle.std.proofs.Common.{rules, ◌∙◌, sym}
use borrow.Author.Tests.{eqb-true, eqb-false}
use Rattle.numerals.proofs.Scans.{whole_empty, whole_start, whole_bad, whole_next, whole_over, whole_end}
use Rattle.numerals.proofs.read_whole.Goals as goal

pub returns-then-is_empty : goal.returns-then-is_empty
returns-then-is_empty c =
    whole_empty _ _ c.unplussed-u.ensures (eqb-true _ _ (sym c.is_empty.ensures ∙ c.if-is_empty.true))

pub loop-b-init : goal.loop-b-init
loop-b-init c =
    (search rules, whole_start _ _ c.unplussed-u.ensures (eqb-false _ _ (sym c.is_empty.ensures ∙ c.if-is_empty.false)))

pub returns-then-not-is_digit : goal.returns-then-not-is_digit
returns-then-not-is_digit c =
    whole_bad _ _ _ c.loop-b.invariant.1 c.loop-b-test.true c.is_digit.ensures c.if-not-is_digit.true

pub returns-then-v-gt255 : goal.returns-then-v-gt255
returns-then-v-gt255 c =
    whole_over _ _ _ c.loop-b.invariant.1 c.loop-b-test.true c.is_digit.ensures c.if-not-is_digit.false c.from.ensures c.if-v-gt255.true

pub loop-b-preserved : goal.loop-b-preserved
loop-b-preserved c =
    (search rules, whole_next _ _ _ c.loop-b.invariant.1 c.loop-b-test.true c.is_digit.ensures c.if-not-is_digit.false c.from.ensures)

pub returns : goal.returns
returns c =
    whole_end _ _ _ c.loop-b.invariant.1 c.loop-b-test.false c.loop-b.invariant.0
