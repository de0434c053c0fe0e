-- The refusals of the code by their numbers, a check's result as a number, and an entry's as an outcome. Assumes nothing.
use Rattle.std.specs.Prelude.{ℕ, Result, Ok, Err}
use Rattle.refusals.specs.Numbers as N
use Rattle.refusals.specs.Outcome.{Outcome, refused, accepted}
use Rattle.refusals.specs.declared.Refusal.{Refusal}
use Rattle.refusals.specs.declared.Refusal.TheVariants as R

-- the number of a refusal
abbrev pub number_of : Refusal → ℕ
number_of R.Population = N.POPULATION
number_of R.Tolerance = N.TOLERANCE
number_of R.Replica = N.REPLICA
number_of R.Shards = N.SHARDS
number_of R.Quorum = N.QUORUM
number_of R.Text = N.TEXT
number_of R.Numeral = N.NUMERAL
number_of R.Digits = N.DIGITS
number_of R.Member = N.MEMBER
number_of R.Mechanism = N.MECHANISM
number_of R.Probabilities = N.PROBABILITIES
number_of R.Domains = N.DOMAINS
number_of R.Layout = N.LAYOUT
number_of R.Multiple = N.MULTIPLE
number_of R.Bytes = N.BYTES
number_of R.Mask = N.MASK
number_of R.Table = N.TABLE
number_of R.EveryReplica = N.EVERY_REPLICA
number_of R.Room = N.ROOM
number_of R.OtherValue = N.OTHER_VALUE
number_of R.Trimmed = N.TRIMMED

-- of a check: the number that refuses, or 0
abbrev pub refusal_of : Result Unit Refusal → ℕ
refusal_of (Ok u) = 0
refusal_of (Err e) = number_of e

-- of an entry: the number that refuses, alone, or the value, seen as `view` sees it
abbrev pub outcome_by : {A B : Type 0} → (A → B) → Result A Refusal → Outcome B
outcome_by view (Ok a) = accepted (view a)
outcome_by view (Err e) = refused (number_of e)

-- the same of a value that is seen as it is
abbrev pub outcome_of : {A : Type 0} → Result A Refusal → Outcome A
outcome_of (Ok a) = accepted a
outcome_of (Err e) = refused (number_of e)
