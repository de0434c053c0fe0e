-- A family of sets as a table of bits, 64 masks a word. Assumes nothing.
use Rattle.std.specs.Prelude.{ℕ, ◌/◌, ◌%◌, Bool, List, get_or, set}
use Rattle.bitmap.specs.Mask.{has_bit, with_bit}

-- the set m is flagged; past the end of the table none is
unfoldable pub flagged : List ℕ → ℕ → Bool
flagged table m = has_bit (get_or table (m / 64) 0) (m % 64)

-- the table with the set m flagged too
unfoldable pub with_flag : List ℕ → ℕ → List ℕ
with_flag table m = set table (m / 64) (with_bit (get_or table (m / 64) 0) (m % 64))
