-- Tests and values over the numbers below a bound, and a list written to the front of another. Assumes nothing.
use Rattle.std.specs.Prelude.{Bool, false, cond, ◌||◌, List, [], ◌∷◌, ◌++◌, ℕ, zero, suc, length, drop}

-- some number below k passes the test
unfoldable pub some_below : (ℕ → Bool) → ℕ → Bool
some_below f zero = false
some_below f (suc k) = f k || some_below f k

-- the numbers below k that pass the test, rising
unfoldable pub those_below : (ℕ → Bool) → ℕ → List ℕ
those_below f zero = []
those_below f (suc k) = those_below f k ++ cond (f k) (k ∷ []) []

-- the first number from k on that fails the test, or, if m of them pass, the one after these
unfoldable pub run_from : (ℕ → Bool) → ℕ → ℕ → ℕ
run_from f zero k = k
run_from f (suc m) k = cond (f k) (run_from f m (suc k)) k

-- how many numbers below m pass in an unbroken run from 0
abbrev pub run_of : (ℕ → Bool) → ℕ → ℕ
run_of f m = run_from f m 0

-- f 0, f 1, .. f (k - 1)
unfoldable pub each_below : {A : Type 0} → (ℕ → A) → ℕ → List A
each_below f zero = []
each_below f (suc k) = each_below f k ++ (f k ∷ [])

-- xs at the front of the list l, which past it is as it was
unfoldable pub front : List ℕ → List ℕ → List ℕ
front xs l = xs ++ drop (length xs) l
