-- `candidates::run_at` meets its contract. Assumes nothing.
use native.Mathlib.Numerals.{add-one}
use mathlib.Core.Path.{sym}
use Rattle.std.proofs.Common.{rules}
use Rattle.candidates.specs.Search.{run_at}
use Rattle.candidates.proofs.Parts.{run_of_peer}
use Rattle.candidates.proofs.run_at.Goals as goal

pub returns-then-eq : goal.returns-then-eq
unfolding run_at
returns-then-eq c =
    rw (sym c.if-eq.ensures) (add-one _)

pub returns : goal.returns
unfolding run_at
returns c =
    let t = c.args.times.now in
    run_of_peer t.own.0 t.data_shards t.times.now c.args.t c.args.p.0 (search rules) c.run_from.ensures
