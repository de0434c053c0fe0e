-- What the tests of the tables return: contracts of private functions alone speak of them. `plan_cases` and `choice_cases` say what refuses.
-- Assumes nothing.
use Rattle.std.specs.Prelude.{Bool, true, false, ◌||◌, ◌∷◌, ℕ, eqb, leb}
use Rattle.std.specs.Prelude.{Option}
use Rattle.refusals.specs.Numbers.{MASK, TABLE}
use Rattle.refusals.specs.First.{unless, first_of}
use Rattle.refusals.specs.Outcome.{Outcome, refused, and_then}
use Rattle.callboard.specs.Interface.{heard_cases}

-- of the number that refuses the entry, or 0: it is not below that of the peers heard
abbrev pub is_past : ℕ → Bool
is_past typed = eqb typed 0 || leb MASK typed

-- a lower number of the entry, or the first of the tables
unfoldable pub plan_tables : ℕ → ℕ → ℕ → ℕ → ℕ → ℕ
plan_tables typed n heard models inflight = first_of (unless (is_past typed) typed ∷ heard_cases n heard models inflight)

-- the choice if the table lent for the rows fits, and else the number that refuses it, or that of the table
abbrev pub fitting_of : Bool → Outcome (Option ℕ) → Outcome (Option ℕ)
fitting_of true o = o
fitting_of false o = and_then o (λ _. refused TABLE)
