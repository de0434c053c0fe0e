-- `profile_text::push` meets its contract. Assumes nothing.
use Rattle.profile_text.proofs.Mechanisms.{listed_next, listed_past}
use Rattle.profile_text.proofs.push.Goals as goal
use Rattle.profile_text.proofs.push.Goals.{then-list-lt16, else-list-lt16}

pub returns : goal.returns
returns c =
    λ ps e.
    elim c.if-list-lt16.branch [
      | then-list-lt16 w ↦ rw w.list-is (listed_next c.args.list.now c.args.x ps e w.if-list-lt16.true)
      | else-list-lt16 w ↦ rw w.list-is (listed_past c.args.list.now c.args.x ps e w.if-list-lt16.false)
    ]
