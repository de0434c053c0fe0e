-- `decimals::all_digits` meets its contract. Assumes nothing.
use Rattle.decimals.proofs.Steps.{digits_read}
use Rattle.decimals.proofs.all_digits.Goals as goal

pub returns : goal.returns
returns c =
    let a = c.in_ok-read_digits.ensures in
    digits_read c.args.d.now.whole.now c.args.d.now.fraction.now _ _ a.0 a.1 c.read_digits-2.ensures.0 c.read_digits-2.ensures.1
