-- `decimals::power` meets its contract. Assumes nothing.
use Rattle.std.proofs.Common.{◌≡◌, ◌∙◌, arith}
use Rattle.numerals.specs.Whole.{spelt}
use Rattle.decimals.proofs.DigitLaws.{room_for, spelt_small}
use Rattle.decimals.proofs.power.Goals as goal

pub returns : goal.returns
returns c =
    let p = c.requires in
    let q = c.args.q.now in
    let e = c.read_digits.ensures.1 p.0 (room_for _ 15 (omega arith)) in
    let z : c.unwrap_or.result ≡ spelt 0 q = c.unwrap_or.ensures ∙ rw e in
    (z, rw z (spelt_small q 4 p.0 p.1))
