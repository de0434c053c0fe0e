-- Sets that are marked in a table of bits. Assumes nothing.
use Rattle.std.specs.Prelude.{ℕ, ◌/◌, ◌%◌, ◌^◌, ◌<◌, ◌≡◌, Bool, not, ◌&&◌, ◌||◌, List, eqb, Float, drop}
use Rattle.std.specs.Float.Ieee.{le}
use Rattle.marks.specs.Marks.{flagged}
use Rattle.faults.specs.Family.{times_of}

-- of the masks below `size` those are flagged for which the test holds, and those that were
unfoldable pub Marked : ℕ → (ℕ → Bool) → List ℕ → List ℕ → Type 0
Marked size g before after = (m : ℕ) → m < size → flagged after m ≡ (g m || flagged before m)

-- the mask m has just the members of `mask` below `next`, some member from `next` on, and with those its product, from p, is at least the threshold
unfoldable pub is_hit : List Float → ℕ → ℕ → Float → Float → ℕ → Bool
is_hit ps next mask p threshold m =
    eqb (m % 2 ^ next) mask && (not (eqb (m / 2 ^ next) 0) && le threshold (times_of (drop next ps) (m / 2 ^ next) p))
