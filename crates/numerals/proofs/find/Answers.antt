-- `numerals::find` meets its contract. Assumes nothing.
use Rattle.std.proofs.Common.{rules, ◌≡◌, ◌+◌, ◌-◌, ◌≤◌, ◌∙◌, sym, false, arith, length, take}
use Rattle.numerals.specs.Text.{is_byte, cut, has_byte}
use Rattle.numerals.specs.TextLaws.{cut_le}
use Rattle.numerals.proofs.Scans.{over_none}
use Rattle.numerals.proofs.find.Goals as goal

pub loop-block-preserved : goal.loop-block-preserved
loop-block-preserved c =
    let x = c.args.x in
    let rest = c.loop-block.rest.now in
    let k = c.in-Some.ensures.cases in
    let f : has_byte x (take 16 rest) ≡ false = rw (sym k.0) (sym c.has.ensures ∙ c.if-has.false) in
    let n : 16 ≤ length rest = omega (arith, k.2) in
    let e : cut x rest ≡ 16 + cut x c.in-Some.tail.now = rw k.1 (over_none (is_byte x) 16 rest n f) in
    (omega (arith, k.2), omega (arith, k.2))

pub overflow_add-result : goal.overflow_add-result
overflow_add-result c =
    let h : c.place.result ≤ length c.loop-block.rest.now = rw c.place.ensures (cut_le (is_byte c.args.x) c.loop-block.rest.now) in
    let k : length c.args.s.now - length c.loop-block.rest.now + c.place.result ≤ length c.args.s.now = omega arith in
    search rules
