-- `next` of `numerals::Parts` meets its contract. Assumes nothing.
use Rattle.std.proofs.Common.{◌≡◌, ◌+◌, [], ◌∷◌, ◌∙◌, List, ℕ, sym, ap, arith, length, drop}
use Rattle.numerals.specs.Text.{split}
use Rattle.numerals.specs.TextLaws.{part_head, part_last, part_more}
use Rattle.numerals.specs.Parts.{parts_left}
use Rattle.numerals.proofs.PartsIterator.next.Goals as goal

-- the last part
at_end : (c : goal.After-self-1) → c.args.self.now ≡ c.part-q.result.now ∷ []
at_end c =
    let x = c.self.inside.separator in
    let q = c.part-q.result.now in
    sym c.self.view_is ∙ ap (parts_left x) c.in_ok-s.was ∙ part_head c.part-q.ensures
    ∙ ap (λ (ps : List (List ℕ)). q ∷ ps) (part_last c.part-q.ensures (omega (arith, c.if-q-s.true)))

-- a part with more after it
at_byte : (c : goal.After-self-2-1) → c.args.self.now ≡ c.part-q.result.now ∷ split c.self.inside.separator c.after.result.now
at_byte c =
    let x = c.self.inside.separator in
    let q = c.part-q.result.now in
    let k : 0 + length q + 1 ≡ length q + 1 = omega arith in
    sym c.self.view_is ∙ ap (parts_left x) c.in_ok-s.was ∙ part_head c.part-q.ensures ∙ ap
    (λ (ps : List (List ℕ)). q ∷ ps)
    (part_more c.part-q.ensures (λ e. c.if-q-s.false (omega (arith, e)))
    ∙ ap (λ (i : ℕ). split x (drop i c.in_ok-s.s.now)) k ∙ ap (split x) (sym c.after.ensures))

pub returns-then-q-s-clause-steps : goal.returns-then-q-s-clause-steps
returns-then-q-s-clause-steps c =
    at_end c

pub returns-then-q-s-clause-goes : goal.returns-then-q-s-clause-goes
returns-then-q-s-clause-goes c =
    record { on = λ _. (tt, tt, omega (arith, ap length (at_end c))); keeps = tt; rests = λ _. tt }

pub returns-clause-steps : goal.returns-clause-steps
returns-clause-steps c =
    at_byte c

pub returns-clause-goes : goal.returns-clause-goes
returns-clause-goes c =
    record { on = λ _. (tt, tt, omega (arith, ap length (at_byte c))); keeps = tt; rests = λ _. tt }
