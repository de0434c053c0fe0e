-- `decimals::split` meets its contract. Assumes nothing.
use Rattle.std.proofs.Common.{rules, tests, ◌≡◌, ◌∙◌, sym}
use Rattle.std.proofs.lemmas.Iterator.{YieldsList-from_slice}
use Rattle.std.proofs.lemmas.Iterator.Search.{position_from_yields_List}
use Rattle.std.specs.List.{position}
use Rattle.numerals.proofs.Scans.{cut_some, cut_none}
use Rattle.decimals.specs.Decimal.{is_e}
use Rattle.decimals.proofs.Steps.{raised_parts, plain_parts}
use Rattle.decimals.proofs.split.Goals as goal

pub returns-in-Some : goal.returns-in-Some
returns-in-Some c =
    let u = c.signed-negative.result.1.now in
    let e : c.position.result ≡ position is_e u =
    position_from_yields_List is_e _ _ c.position.result c.position.ensures.ran (YieldsList-from_slice u cc) (λ x b q k. search (rules, tests)) in
    let k = cut_some is_e u (sym e ∙ c.in-Some.is) in
    c.pointed.ensures ∙ raised_parts c.args.s.now c.signed-negative.ensures.0 c.signed-negative.ensures.1 k.0 k.1 c.after.ensures c.upto.ensures c.signed-lowers.ensures.0 c.signed-lowers.ensures.1

pub returns-in-None : goal.returns-in-None
returns-in-None c =
    let u = c.signed-negative.result.1.now in
    let e : c.position.result ≡ position is_e u =
    position_from_yields_List is_e _ _ c.position.result c.position.ensures.ran (YieldsList-from_slice u cc) (λ x b q k. search (rules, tests)) in
    c.pointed-in-None.ensures ∙ plain_parts c.args.s.now c.signed-negative.ensures.0 c.signed-negative.ensures.1 (cut_none is_e u (sym e ∙ c.in-None.is))
