-- `faults::list_maximal` meets its contract. Assumes nothing.
use Rattle.std.proofs.Common.{◌≡◌, ap, sym, ◌∙◌, ℕ, ◌^◌, List, Bool, true, false, not, length}
use borrow.Author.Tests.{not-true, not-false}
use lib.Dec.{leb}
use Rattle.lists.specs.Below.{those_below, front}
use Rattle.refusals.specs.Outcome.{refused, accepted}
use Rattle.refusals.specs.Numbers.{EVERY_REPLICA, ROOM}
use Rattle.refusals.proofs.Checks.{went_on}
use Rattle.refusals.proofs.Outcomes.{err_refused}
use Rattle.marks.specs.Marks.{flagged}
use Rattle.maximal.specs.Maximal.{maximals, is_maximal}
use Rattle.maximal.specs.Tables.{Flags}
use Rattle.maximal.proofs.MaximalLaws.{kept_list}
use Rattle.faults.proofs.Answers.{no_survivor, no_room, all_listed, whole_set, left_by}
use Rattle.faults.proofs.list_maximal.Goals as goal

-- what the table that `keep_marks` left lists
kept : (g : ℕ → Bool) (n m : ℕ) (t : List ℕ) → Flags n (is_maximal g n) t → m ≡ n → those_below (flagged t) (2 ^ m) ≡ maximals g n
kept g n m t h e = ap (λ (x : ℕ). those_below (flagged t) (2 ^ x)) e ∙ kept_list g n t h

pub returns-in_err-unless : goal.returns-in_err-unless
returns-in_err-unless g c =
    let a = c.args in
    let u = left_by (not c.has.result) EVERY_REPLICA c.in_err-unless.field-0.0 c.in_err-unless.ensures in
    let w = whole_set a.marks.now.replicas _ a.marks.now.words _ true c.sets-all.ensures.number c.has.ensures (not-false c.has.result u.0) in
    let r = no_survivor (flagged a.marks.now.words) a.marks.now.replicas a.list.now w in
    record { answer = err_refused _ c.from_residual.result c.from_residual.ensures ∙ ap refused u.1 ∙ r.0; words = r.1 }

pub returns-in_err-unless-2 : goal.returns-in_err-unless-2
returns-in_err-unless-2 g c =
    let a = c.args in
    let n : ℕ = a.marks.now.replicas in
    let f : ℕ → Bool = flagged a.marks.now.words in
    let u = left_by (leb c.count-count.result (length a.list.now)) ROOM c.in_err-unless-2.field-0.0 c.in_err-unless-2.ensures in
    let v : not c.has.result ≡ true = went_on _ 20 c.in_ok-unless.ensures in
    let w = whole_set n _ a.marks.now.words _ false c.sets-all.ensures.number c.has.ensures (not-true c.has.result v) in
    let k : c.count-count.result ≡ length (maximals f n) = c.count-count.ensures ∙ ap length (kept f n _ _ c.keep_marks.ensures.flags c.keep_marks.ensures.replicas) in
    let r = no_room f n a.list.now w (ap (λ (x : ℕ). leb x (length a.list.now)) (sym k) ∙ u.0) in
    record { answer = err_refused _ c.from_residual-in_err-unless-2.result c.from_residual-in_err-unless-2.ensures ∙ ap refused u.1 ∙ r.0; words = r.1 }

pub returns : goal.returns
returns g c =
    let a = c.args in
    let n : ℕ = a.marks.now.replicas in
    let f : ℕ → Bool = flagged a.marks.now.words in
    let v : not c.has.result ≡ true = went_on _ 20 c.in_ok-unless.ensures in
    let w = whole_set n _ a.marks.now.words _ false c.sets-all.ensures.number c.has.ensures (not-true c.has.result v) in
    let m = kept f n _ _ c.keep_marks.ensures.flags c.keep_marks.ensures.replicas in
    let k : c.count-count.result ≡ length (maximals f n) = c.count-count.ensures ∙ ap length m in
    let fits : leb c.count-count.result (length a.list.now) ≡ true = went_on _ 21 c.in_ok-unless-2.ensures in
    let r = all_listed f n a.list.now w (ap (λ (x : ℕ). leb x (length a.list.now)) (sym k) ∙ fits) in
    record { answer = ap accepted k ∙ r.0; words = c.write.ensures ∙ ap (λ (x : List ℕ). front x a.list.now) m ∙ r.1 }
