-- The outcome of an entry: the number that refuses, alone, or a value. Assumes nothing.
use Rattle.std.specs.Prelude.{ℕ, zero, suc}

pub data Outcome (A : Type 0) : Type 0 where
  refused : ℕ → Outcome A
  accepted : A → Outcome A

module _ {A : Type 0} where
  -- of the number that refuses, or 0, and of the value of an unrefused input
  abbrev pub checked : ℕ → Outcome A → Outcome A
  checked zero o = o
  checked (suc k) o = refused (suc k)

  -- the same where that is a value
  abbrev pub outcome : ℕ → A → Outcome A
  outcome k a = checked k (accepted a)

  -- what lent memory holds at exit: what is written, or where the input is refused what it held
  abbrev pub left : Outcome A → A → A
  left (refused k) before = before
  left (accepted after) before = after

  -- the same of the number that refuses, or 0
  abbrev pub written : ℕ → A → A → A
  written k after before = left (outcome k after) before

-- the next step, which has the value of the one before, where that is not refused
abbrev pub and_then : {A B : Type 0} → Outcome A → (A → Outcome B) → Outcome B
and_then (refused k) next = refused k
and_then (accepted a) next = next a
