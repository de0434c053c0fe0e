-- `numerals::stop` meets its contract. Assumes nothing.
use Rattle.std.proofs.Common.{rules, tests, ◌≡◌, ◌∙◌, reverse, arith}
use Rattle.std.proofs.lemmas.Iterator.Adapters.{YieldsList-from_rev_slice}
use Rattle.std.proofs.lemmas.Iterator.Search.{position_from_yields_List}
use Rattle.std.specs.List.{position}
use Rattle.numerals.specs.Text.{cut_by}
use Rattle.numerals.proofs.Scans.{cut_found, end_is, end_le, is_dark, length-back}
use Rattle.numerals.proofs.stop.Goals as goal

-- how many blanks stand at the end
blanks : (c : goal.After-unwrap_or) → c.unwrap_or.result ≡ cut_by is_dark (reverse c.args.s.now)
blanks c =
    let s = c.args.s.now in
    let e : c.position.result ≡ position is_dark (reverse s) =
    position_from_yields_List is_dark _ _ c.position.result c.position.ensures.ran (YieldsList-from_rev_slice s cc) (λ x b q k. search (rules, tests)) in
    c.unwrap_or.ensures ∙ rw (e, length-back s) (cut_found is_dark (reverse s))

pub returns : goal.returns
returns c =
    (omega arith, rw (blanks c) (end_is c.args.s.now))

pub overflow_sub-result : goal.overflow_sub-result
overflow_sub-result c =
    rw (blanks c) (end_le c.args.s.now)
