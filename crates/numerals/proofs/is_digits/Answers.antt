-- `numerals::is_digits` meets its contract. Assumes nothing.
use Rattle.std.proofs.Common.{rules, tests, ◌≡◌, ◌∙◌, sym, eqb, false, true, length}
use Rattle.std.proofs.lemmas.Iterator.{YieldsList-from_slice}
use Rattle.std.proofs.lemmas.Iterator.Search.{all_from_yields_List}
use Rattle.numerals.specs.Whole.{is_digit, is_digits}
use Rattle.numerals.proofs.is_digits.Goals as goal

pub returns-then-not-is_empty : goal.returns-then-not-is_empty
unfolding is_digits
returns-then-not-is_empty c =
    let e : eqb (length c.args.s.now) 0 ≡ false = sym c.is_empty.ensures ∙ c.if-not-is_empty.true in
    rw e (all_from_yields_List is_digit _ _ c.all.result c.all.ensures.ran (YieldsList-from_slice c.args.s.now cc) (λ x b q k. search (rules, tests)))

pub returns-else-not-is_empty : goal.returns-else-not-is_empty
unfolding is_digits
returns-else-not-is_empty c =
    let e : eqb (length c.args.s.now) 0 ≡ true = sym c.is_empty.ensures ∙ c.if-not-is_empty.false in
    rw (e, c.if-not-is_empty.false)
