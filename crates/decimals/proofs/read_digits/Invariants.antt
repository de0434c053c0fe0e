use Rattle.std.proofs.Common.{◌≡◌, take}
use Rattle.std.specs.List.{list_all}
use Rattle.numerals.specs.Whole.{is_digit}
use Rattle.decimals.proofs.Steps.{Spelling}
use Rattle.decimals.proofs.read_digits.Given as goal

abbrev pub invariant-loop-b : goal.invariant-loop-b
invariant-loop-b l =
    (l.ok ≡ list_all is_digit (take l.b-index l.s)) × Spelling l.v l.w l.b-index l.s
