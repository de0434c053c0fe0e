-- `faults::list_family` meets its contract. Assumes nothing.
use Prim.Native.Nat.{ℕ}
use mathlib.Core.Path.{◌≡◌, ◌∙◌}
use borrow.Author.Rules.{rules}
use Rattle.maximal.specs.Tables.{Flags}
use Rattle.faults.specs.Family.{family}
use Rattle.faults.proofs.Answers.{family_answer, family_words}
use Rattle.faults.proofs.list_family.Goals as goal

pub mark_family-requires : goal.mark_family-requires
mark_family-requires g c =
    (search rules, (c.new-marks.ensures.words, rw c.new-marks.ensures.replicas c.requires.accepted))

pub returns : goal.returns
returns g c =
    let a = c.args in
    let n : ℕ = a.n in
    let after = c.mark_family.new.marks in
    let same : after.replicas ≡ n = c.mark_family.ensures.replicas ∙ c.new-marks.ensures.replicas in
    let flags : Flags n (family n a.f a.p.now) after.words = rw c.new-marks.ensures.replicas at c.mark_family.ensures.flags in
    record {
      answer = c.list_maximal.ensures.answer ∙ family_answer (family n a.f a.p.now) n after.replicas after.words same flags _;
      words = c.list_maximal.ensures.words ∙ family_words (family n a.f a.p.now) n after.replicas after.words same flags a.list.now;
    }
