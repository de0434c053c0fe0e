-- `marks::write` meets its contract. The loop's invariant: the sets that were yielded are at the front of the list. Assumes nothing.
use mathlib.Core.Path.{◌≡◌, refl, ◌∙◌, sym, ap}
use mathlib.Core.List.{List, [], ◌∷◌, ◌++◌}
use Prim.Native.Nat.{ℕ, suc, ◌^◌, ◌<◌}
use lib.ListN.{length, length-append, take, set, get_or}
use lib.Seq.{take_all}
use native.Mathlib.Omega.{arith}
use borrow.Author.Rules.{rules}
use borrow.Author.Tests.{tests}
use Rattle.std.specs.List.{filter, range_with_len}
use Rattle.std.proofs.lemmas.Iterator.{YieldsList-from_range}
use Rattle.std.proofs.lemmas.Iterator.Consumers.{YieldsList-from_filter, YieldsList-from_enumerate, YieldsList-at}
use Rattle.lists.specs.Below.{those_below, front}
use Rattle.marks.specs.Marks.{flagged}
use Rattle.marks.proofs.Ranges.{those_listed, at_place, places, at_turn, at_end, front_next}
use Rattle.marks.proofs.write.Goals as goal
use Rattle.marks.proofs.write.Goals.{In-Some}

-- a turn is at the place of its set in the list of the flagged ones
turn :
    (c : In-Some) → (length c.loop-i.yielded < length (those_below (flagged c.args.table.now) (2 ^ c.args.n)))
    × ((c.in-Some.i ≡ length c.loop-i.yielded)
    × (c.in-Some.m ≡ get_or (those_below (flagged c.args.table.now) (2 ^ c.args.n)) (length c.loop-i.yielded) c.in-Some.m))
turn c =
    let f = flagged c.args.table.now in
    let n : ℕ = 2 ^ c.args.n in
    let all : List ℕ = filter f (range_with_len 0 n) in
    let k : ℕ = length c.loop-i.yielded in
    let x : ℕ × ℕ = (c.in-Some.i, c.in-Some.m) in
    let t =
    at_turn c.loop-i.yielded c.loop-i.i-iterator c.loop-i.yielded_by c.next.result c.next.new.self x c.in-Some.is c.next.ensures.steps
    (YieldsList-at c.into_iter-i-iterator.ensures.into_iter_gives (YieldsList-from_enumerate {v = λ (m : ℕ). m}
    (YieldsList-at c.enumerate-i-items.ensures.source (YieldsList-from_filter _ f (YieldsList-from_range 0 _ n c.filter.ensures.source (omega arith))
    c.filter.ensures.closure (λ x r q k. search (rules, tests)))) c.enumerate-i-items.ensures.count)) in
    let h : k < length all = omega (arith, t.0, places all 0) in
    let e = t.1 ∙ at_place all 0 k x t.0 in
    rw (those_listed f n) (h, (ap (λ (p : ℕ × ℕ). p.0) e ∙ omega arith, ap (λ (p : ℕ × ℕ). p.1) e))

pub loop-i-init : goal.loop-i-init
unfolding front
loop-i-init c =
    refl

pub offset_bounds-list-i : goal.offset_bounds-list-i
offset_bounds-list-i c =
    let t = turn (goal.at.offset_bounds-list-i c).In-Some in omega (arith, t.0, t.1.0, c.requires.room)

pub bounds-list-i : goal.bounds-list-i
bounds-list-i c =
    let t = turn (goal.at.bounds-list-i c).In-Some in omega (arith, t.0, t.1.0, c.requires.room)

pub loop-i-preserved : goal.loop-i-preserved
loop-i-preserved c =
    let t = turn (goal.at.loop-i-preserved c).In-Some in
    let all : List ℕ = those_below (flagged c.args.table.now) (2 ^ c.args.n) in
    let ys = c.loop-i.yielded in
    let x : ℕ × ℕ = (c.in-Some.i, c.in-Some.m) in
    let more : length (ys ++ x ∷ []) ≡ suc (length ys) = simp length-append (omega arith) in
    ap (λ (l : List ℕ). set l c.in-Some.i c.in-Some.m) c.loop-i.invariant
    ∙ front_next all c.args.list.now (length ys) c.in-Some.i c.in-Some.m t.0 c.requires.room t.1.0 t.1.1
    ∙ ap (λ (k : ℕ). front (take k all) c.args.list.now) (sym more)

pub returns : goal.returns
returns c =
    let f = flagged c.args.table.now in
    let n : ℕ = 2 ^ c.args.n in
    let all : List ℕ = filter f (range_with_len 0 n) in
    let k : ℕ = length c.loop-i.yielded in
    let e =
    at_end c.loop-i.yielded c.loop-i.i-iterator c.loop-i.yielded_by c.next.result c.next.new.self c.in-None.is c.next.ensures.steps
    (YieldsList-at c.into_iter-i-iterator.ensures.into_iter_gives (YieldsList-from_enumerate {v = λ (m : ℕ). m}
    (YieldsList-at c.enumerate-i-items.ensures.source (YieldsList-from_filter _ f (YieldsList-from_range 0 _ n c.filter.ensures.source (omega arith))
    c.filter.ensures.closure (λ x r q k. search (rules, tests)))) c.enumerate-i-items.ensures.count)) in
    c.loop-i.invariant
    ∙ ap (λ (x : List ℕ). front x c.args.list.now) (take_all k (those_below f n) (omega (arith, e.1, places all 0, ap length (those_listed f n))))
