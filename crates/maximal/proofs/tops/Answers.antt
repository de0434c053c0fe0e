-- `maximal::tops` meets its contract. The loop's invariant: `covered` has the sets that are shown with a replica below b. Assumes nothing.
use Rattle.maximal.proofs.Passes.{seen_none, seen_more, seen_all}
use Rattle.maximal.proofs.tops.Goals as goal

pub loop-b-init : goal.loop-b-init
loop-b-init c =
    search seen_none

pub loop-b-preserved : goal.loop-b-preserved
loop-b-preserved c =
    search seen_more

pub returns : goal.returns
returns c =
    search seen_all
