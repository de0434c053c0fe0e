-- `candidates::run_from` meets its contract. Assumes nothing.
use mathlib.Core.Path.{◌≡◌, ap, ◌∙◌}
use Prim.Native.Nat.{ℕ, suc, ◌+◌, ◌-◌}
use native.Mathlib.Omega.{arith}
use lib.ListN.{length, take, drop, length-drop}
use lib.Seq.{take_all}
use Rattle.std.proofs.Common.{Option, rules, tests, add-one}
use Rattle.std.specs.Option.{unwrap_or}
use Rattle.std.specs.List.{position}
use Rattle.std.proofs.lemmas.Iterator.{YieldsList-from_slice}
use Rattle.std.proofs.lemmas.Iterator.Search.{position_from_yields_List}
use Rattle.candidates.proofs.Parts.{late, run_found}
use Rattle.candidates.proofs.run_from.Goals as goal

pub returns : goal.returns
returns c =
    let a = c.args in
    let s = take (a.d + 1) (drop a.from a.times.now) in
    let w = ap (take (a.d + 1)) (take_all (length a.times.now - a.from) (drop a.from a.times.now) (omega (arith, length-drop a.from a.times.now))) in
    let e : c.position.result ≡ position (late a.t) s =
    position_from_yields_List (late a.t) _ _ c.position.result c.position.ensures.ran (YieldsList-from_slice s (c.iter.ensures.rest ∙ w)) (λ x b q k. search (rules, tests)) in
    let q : unwrap_or (position (late a.t) s) (a.d + 1) ≡ unwrap_or (position (late a.t) (take (suc a.d) (drop a.from a.times.now))) (suc a.d) = rw add-one in
    c.unwrap_or.ensures ∙ ap (λ (o : Option ℕ). unwrap_or o (a.d + 1)) e ∙ q ∙ run_found a.t a.times.now a.from (suc a.d) (omega arith)
