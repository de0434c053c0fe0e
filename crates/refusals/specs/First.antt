-- Which number refuses an input. Assumes nothing.
use Rattle.std.specs.Prelude.{ℕ, Bool, not, cond, List, [], ◌∷◌}

-- a case: whether it holds, and the number that it refuses with
abbrev pub Case : Type 0
Case = Bool × ℕ

-- the case that holds where a test fails
abbrev pub unless : Bool → ℕ → Case
unless b k = (not b, k)

-- the number of the first case that holds, in the order written, or 0
abbrev pub first_of : List Case → ℕ
first_of [] = 0
first_of (c ∷ cs) = cond c.0 c.1 (first_of cs)
