-- The outcome of an entry that calls a check first: what it returns where the check refuses, and where it does not. Assumes nothing.
use mathlib.Core.Path.{◌≡◌, refl, sym, ap, ◌∙◌}
use Prim.Native.Nat.{ℕ, zero, suc, ◌<◌}
use native.Mathlib.Omega.{arith}
use Rattle.std.specs.Prelude.{Result}
use Rattle.std.specs.Result.{IsErr, IsErrAnd}
use Rattle.std.proofs.Common.{lit<}
use Rattle.std.proofs.lemmas.Result.{err_from_is_err_and}
use Rattle.refusals.specs.Outcome.{Outcome, refused, accepted, checked, outcome, written}
use Rattle.refusals.specs.Refused.{number_of, outcome_of, outcome_by}
use Rattle.refusals.specs.declared.Refusal.{Refusal}
use Rattle.refusals.specs.declared.Refusal.TheVariants as R

module _ {A : Type 0} (k got : ℕ) where
  pub is_checked : (o : Outcome A) → got ≡ k → (got ≡ 0 → ⊥) → refused got ≡ checked k o
  is_checked o e h = go k e
    where
      go : (k : ℕ) → got ≡ k → refused got ≡ checked k o
      go zero e = absurd (h e)
      go (suc k) e = ap refused e

  pub is_refused : (a : A) → got ≡ k → (got ≡ 0 → ⊥) → refused got ≡ outcome k a
  is_refused a e h = is_checked (accepted a) e h

  pub is_accepted : (a b : A) → got ≡ k → got ≡ 0 → b ≡ a → accepted b ≡ outcome k a
  is_accepted a b e z q = rw (sym e ∙ z) (ap accepted q)

  -- and what it leaves
  pub leaves_all : (after before : A) → got ≡ k → (got ≡ 0 → ⊥) → before ≡ written k after before
  leaves_all after before e h = go k e
    where
      go : (k : ℕ) → got ≡ k → before ≡ written k after before
      go zero e = absurd (h e)
      go (suc k) e = refl

-- ---- an entry that asks by `?`: k is the number that refuses, or 0, and e what the check refused with

-- no refusal has the number 0
pub number_positive : (e : Refusal) → 0 < number_of e
number_positive R.Population = lit< tt
number_positive R.Tolerance = lit< tt
number_positive R.Replica = lit< tt
number_positive R.Shards = lit< tt
number_positive R.Quorum = lit< tt
number_positive R.Text = lit< tt
number_positive R.Numeral = lit< tt
number_positive R.Digits = lit< tt
number_positive R.Member = lit< tt
number_positive R.Mechanism = lit< tt
number_positive R.Probabilities = lit< tt
number_positive R.Domains = lit< tt
number_positive R.Layout = lit< tt
number_positive R.Multiple = lit< tt
number_positive R.Bytes = lit< tt
number_positive R.Mask = lit< tt
number_positive R.Table = lit< tt
number_positive R.EveryReplica = lit< tt
number_positive R.Room = lit< tt
number_positive R.OtherValue = lit< tt
number_positive R.Trimmed = lit< tt

-- what the question mark returns
abbrev pub Returned : {A : Type 0} → Result A Refusal → Refusal → Type 0
Returned r e = IsErr r × IsErrAnd r (λ f. f ≡ e)

pub number_some : (e : Refusal) → number_of e ≡ 0 → ⊥
number_some e z = absurd (omega (arith, number_positive e))

module _ {A : Type 0} (e : Refusal) (r : Result A Refusal) (returned : Returned r e) where
  pub err_refused : outcome_of r ≡ refused (number_of e)
  err_refused = let x = err_from_is_err_and r returned.1 in ap outcome_of x.1 ∙ ap (λ f. refused (number_of f)) x.2

  -- of a value that is seen as `view` sees it
  pub err_refused_by : {B : Type 0} (view : A → B) → outcome_by view r ≡ refused (number_of e)
  err_refused_by view = let x = err_from_is_err_and r returned.1 in ap (outcome_by view) x.1 ∙ ap (λ f. refused (number_of f)) x.2

module _ {A : Type 0} (k : ℕ) (e : Refusal) (asked : number_of e ≡ k) where
  module _ {B : Type 0} (view : B → A) where
    pub err_checked_by : (r : Result B Refusal) (o : Outcome A) → Returned r e → outcome_by view r ≡ checked k o
    err_checked_by r o h = err_refused_by e r h view ∙ is_checked k (number_of e) o asked (number_some e)

-- ---- and where the check went on
pub ok_outcome : {A : Type 0} (k : ℕ) → 0 ≡ k → (a b : A) → b ≡ a → accepted b ≡ outcome k a
ok_outcome k asked a b q = is_accepted k 0 a b asked refl q
