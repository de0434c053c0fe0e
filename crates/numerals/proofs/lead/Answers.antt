-- `numerals::lead` meets its contract. Assumes nothing.
use Rattle.std.proofs.Common.{rules, tests, ◌≡◌, ◌∙◌}
use Rattle.std.proofs.lemmas.Iterator.{YieldsList-from_slice}
use Rattle.std.proofs.lemmas.Iterator.Search.{position_from_yields_List}
use Rattle.std.specs.List.{position}
use Rattle.numerals.specs.Text.{cut_by}
use Rattle.numerals.specs.TextLaws.{cut_le}
use Rattle.numerals.proofs.Scans.{cut_found, start_is, is_dark}
use Rattle.numerals.proofs.lead.Goals as goal

pub returns : goal.returns
returns c =
    let s = c.args.s.now in
    let e : c.position.result ≡ position is_dark s =
    position_from_yields_List is_dark _ _ c.position.result c.position.ensures.ran (YieldsList-from_slice s cc) (λ x b q k. search (rules, tests)) in
    let q : c.unwrap_or.result ≡ cut_by is_dark s = c.unwrap_or.ensures ∙ rw e (cut_found is_dark s) in
    (rw q (cut_le is_dark s), rw q (start_is s))
