-- `numerals::place` meets its contract. Assumes nothing.
use Rattle.std.proofs.Common.{rules, tests, ◌≡◌, ◌∙◌}
use Rattle.std.proofs.lemmas.Iterator.{YieldsList-from_slice}
use Rattle.std.proofs.lemmas.Iterator.Search.{position_from_yields_List}
use Rattle.std.specs.List.{position}
use Rattle.numerals.specs.Text.{is_byte}
use Rattle.numerals.proofs.Scans.{cut_found}
use Rattle.numerals.proofs.place.Goals as goal

pub returns : goal.returns
returns c =
    let a = c.args in
    let e : c.position.result ≡ position (is_byte a.x) a.s.now =
    position_from_yields_List (is_byte a.x) _ _ c.position.result c.position.ensures.ran (YieldsList-from_slice a.s.now cc) (λ x b q k. search (rules, tests)) in
    c.unwrap_or.ensures ∙ rw e (cut_found (is_byte a.x) a.s.now)
