-- Families as tables of bits, and what the passes over a table do to it. Assumes nothing.
use Rattle.std.specs.Prelude.{ℕ, ◌+◌, ◌/◌, ◌%◌, ◌^◌, ◌<◌, ◌≡◌, Bool, not, ◌&&◌, ◌||◌, List, eqb}
use Rattle.lists.specs.Below.{some_below}
use Rattle.bitmap.specs.Mask.{bit, has_bit}
use Rattle.marks.specs.Marks.{flagged}
use Rattle.maximal.specs.Maximal.{is_part}

-- the table flags the family g of sets of n replicas
unfoldable pub Flags : ℕ → (ℕ → Bool) → List ℕ → Type 0
Flags n g table = (m : ℕ) → m < 2 ^ n → flagged table m ≡ g m

-- m is a part of some member of the family g
abbrev pub is_within : (ℕ → Bool) → ℕ → ℕ → Bool
is_within g n m = some_below (λ (s : ℕ). g s && is_part m s) (2 ^ n)

-- m lacks the member b
abbrev pub is_lacking : ℕ → ℕ → Bool
is_lacking b m = eqb (bit m b) 0

-- m lacks the member b, and with it is flagged
abbrev pub is_shown : List ℕ → ℕ → ℕ → Bool
is_shown table m b = is_lacking b m && flagged table (m + 2 ^ b)

-- the word w has just those of the sets of the word k
unfoldable pub Shows : ℕ → List ℕ → ℕ → ℕ → Type 0
Shows b table k w = (m : ℕ) → m / 64 ≡ k → has_bit w (m % 64) ≡ is_shown table m b

-- `after` flags them all, and what `before` does
unfoldable pub Spread : ℕ → List ℕ → List ℕ → Type 0
Spread b before after = (m : ℕ) → flagged after m ≡ (flagged before m || is_shown before m b)

-- m is flagged, and is so with no member below n that it lacks
abbrev pub is_top : ℕ → List ℕ → ℕ → Bool
is_top n table m = flagged table m && not (some_below (is_shown table m) n)

-- the word w has just those of the sets of the word k
unfoldable pub Tops : ℕ → List ℕ → ℕ → ℕ → Type 0
Tops n table k w = (m : ℕ) → m / 64 ≡ k → has_bit w (m % 64) ≡ is_top n table m

-- `after` flags just those that are so in `before`
unfoldable pub Peeled : ℕ → List ℕ → List ℕ → Type 0
Peeled n before after = (m : ℕ) → flagged after m ≡ is_top n before m
