-- `candidates::repeats` meets its contract. Assumes nothing.
use Rattle.candidates.proofs.Parts.{known_back}
use Rattle.candidates.proofs.repeats.Goals as goal

pub returns-clause-known : goal.returns-clause-known
returns-clause-known c = λ t.
    let a = c.args in
    known_back a.times.now a.back a.i c.requires.0 c.if-i-back.false (c.type_inv.times _) (c.type_inv.times _) c.same.ensures t
