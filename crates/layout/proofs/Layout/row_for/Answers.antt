-- `layout::Layout::row_for` meets its contract. Assumes nothing.
use borrow.Author.Tests.{lt-ltb, le-ltb}
use Rattle.layout.specs.Layout.{row_for}
use Rattle.layout.proofs.Layout.row_for.Goals as goal

pub returns-then-k-self : goal.returns-then-k-self
unfolding row_for
returns-then-k-self g c =
    rw (lt-ltb _ _ c.if-k-self.true) c.run_modulo.ensures

pub returns : goal.returns
unfolding row_for
returns g c =
    rw (le-ltb _ _ c.if-k-self.false) c.run.ensures
