-- `assignment::full_copies` meets its contract. Assumes nothing.
use mathlib.Core.Path.{sym}
use native.Mathlib.Omega.{arith}
use Rattle.refusals.proofs.Outcomes.{ok_outcome}
use Rattle.assignment.specs.Plans.{full_copies_of, copies_written}
use Rattle.assignment.proofs.PlanLaws.{copies_sound}
use Rattle.assignment.proofs.Parts.{copies_done}
use Rattle.assignment.proofs.full_copies.Goals as goal

pub run-requires : goal.run-requires
unfolding full_copies_of copies_written
run-requires c =
    let s = (copies_sound _ _ _ _).0 (sym c.in_ok-check_copies.ensures) in
    omega (arith, s.shards)

pub fill-requires : goal.fill-requires
unfolding full_copies_of copies_written
fill-requires c =
    let s = (copies_sound _ _ _ _).0 (sym c.in_ok-check_copies.ensures) in
    omega (arith, s.table)

pub returns : goal.returns
unfolding full_copies_of copies_written
returns c =
    let z = c.in_ok-check_copies.ensures in
    record { answer = ok_outcome _ z _ _ c.copies_width.ensures; words = copies_done _ _ _ _ _ _ z c.run.ensures c.fill.ensures }
