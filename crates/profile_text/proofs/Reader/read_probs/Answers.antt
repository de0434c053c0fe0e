-- `profile_text::Reader::read_probs` meets its contract. Assumes nothing.
use Rattle.std.proofs.Common.{rules, ◌≡◌, ◌∙◌, Err}
use Rattle.numerals.specs.Text.{is_byte}
use Rattle.numerals.specs.TextLaws.{cut_le}
use Rattle.profile_text.specs.ProfileText.{with_words}
use Rattle.profile_text.proofs.Mechanisms.{probs_refused, threshold_refused, probs_read, fit_answer}
use Rattle.profile_text.proofs.Reader.read_probs.Goals as goal

pub upto-requires : goal.upto-requires
upto-requires c =
    rw c.find-c.ensures (cut_le (is_byte _) _)

pub past-requires : goal.past-requires
past-requires c =
    rw c.find-c.ensures (cut_le (is_byte _) _)

pub returns-in_err-list : goal.returns-in_err-list
returns-in_err-list c =
    let e : c.from_residual.result ≡ Err c.in_err-list.field-0.0 = search rules in
    let u = c.upto.ensures ∙ rw c.find-c.ensures in
    rw e (probs_refused _ _ _ u c.in_err-list.ensures)

pub returns-in_err-threshold : goal.returns-in_err-threshold
returns-in_err-threshold c =
    let e : c.from_residual-in_err-threshold.result ≡ Err c.in_err-threshold.field-0.0 = search rules in
    let u = c.upto.ensures ∙ rw c.find-c.ensures in
    let v = c.past.ensures ∙ rw c.find-c.ensures in
    rw e (threshold_refused _ _ _ u v c.in_ok-list.list c.in_ok-list.ensures c.in_err-threshold.ensures)

pub returns : goal.returns
unfolding with_words
returns c =
    let u = c.upto.ensures ∙ rw c.find-c.ensures in
    let v = c.past.ensures ∙ rw c.find-c.ensures in
    fit_answer _ _ _ _ c.probs_fit.ensures c.unless.ensures ∙ probs_read _ _ _ u v c.in_ok-list.list c.in_ok-list.ensures c.in_ok-threshold.threshold c.in_ok-threshold.ensures
