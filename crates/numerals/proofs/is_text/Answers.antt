-- `numerals::is_text` meets its contract. Assumes nothing.
use borrow.Author.Tests.{le-leb, lt-leb}
use Rattle.numerals.specs.Text.{is_text}
use Rattle.numerals.proofs.is_text.Goals as goal

pub returns-then-s-most : goal.returns-then-s-most
unfolding is_text
returns-then-s-most c =
    rw (le-leb _ _ c.if-s-most.true) c.all_ascii.ensures

pub returns-else-s-most : goal.returns-else-s-most
unfolding is_text
returns-else-s-most c =
    rw (lt-leb _ _ c.if-s-most.false)
