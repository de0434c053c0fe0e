use Rattle.std.proofs.Common.{◌≡◌, take}
use Rattle.std.specs.List.{list_all}
use Rattle.numerals.specs.Text.{is_ascii}
use Rattle.numerals.proofs.all_ascii.Given as goal

abbrev pub invariant-loop-b : goal.invariant-loop-b
invariant-loop-b l =
    l.ok ≡ list_all is_ascii (take l.b-index l.s)
