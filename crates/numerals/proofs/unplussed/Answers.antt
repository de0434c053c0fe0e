-- `numerals::unplussed` meets its contract. Assumes nothing.
use Rattle.std.proofs.Common.{rules, ◌≡◌, arith, get_or}
use borrow.Author.Tests.{eq-eqb, ne_eqb}
use Rattle.numerals.specs.Text.{is_byte}
use Rattle.numerals.proofs.Scans.{without_none, without_first, without_kept}
use Rattle.numerals.proofs.unplussed.Goals as goal

pub returns-in-43 : goal.returns-in-43
returns-in-43 c =
    let e : get_or c.args.s.now 0 0 ≡ 43 = omega arith in
    without_first (is_byte 43) _ c.in-43.len_at_least (eq-eqb _ _ e)

pub returns-in_default : goal.returns-in_default
returns-in_default c =
    without_none (is_byte 43) _ c.in_default.len_below

pub returns-in_default-2 : goal.returns-in_default-2
returns-in_default-2 c =
    let e : get_or c.args.s.now 0 0 ≡ 43 → ⊥ = search rules in
    without_kept (is_byte 43) _ c.in_default.len_at_least (ne_eqb _ _ e)
