-- A row of shards as machine words, the lowest shards first, and a lent table of rows. A row is the number that its words stand for.
-- Assumes nothing.
use Rattle.std.specs.Prelude.{List, [], ◌∷◌, ◌++◌, ℕ, zero, suc, ◌+◌, ◌-◌, ◌*◌, ◌/◌, ◌%◌, ◌^◌, min, length, get_or, take, drop}
use Rattle.std.specs.Int.Bits.{bit_or}
use Rattle.std.proofs.lemmas.List.Edits.{sets}
use Rattle.lists.specs.Below.{each_below}
use Rattle.bitmap.specs.Mask.{run}
use Rattle.rows.specs.declared.Row.{Row}

-- the number that words of 64 bits stand for
unfoldable pub value : List ℕ → ℕ
value [] = 0
value (x ∷ xs) = value xs * 2 ^ 64 + x

-- the k lowest words of a number
unfoldable pub words_of : ℕ → ℕ → List ℕ
words_of zero m = []
words_of (suc k) m = m % 2 ^ 64 ∷ words_of k (m / 2 ^ 64)

-- the words of the struct, and the row that they are
abbrev pub words : Row → List ℕ
words r = r.w0 ∷ r.w1 ∷ r.w2 ∷ r.w3 ∷ []

abbrev pub row_of : Row → ℕ
row_of r = value (words r)

-- the row of the replica s in a lent table of four words a row; a word that the table does not have counts as 0
unfoldable pub row_in : List ℕ → ℕ → ℕ
row_in table s = value (take 4 (drop (s * 4) table))

-- the first word of that row, and the last
abbrev pub low_in : List ℕ → ℕ → ℕ
low_in table s = get_or table (s * 4) 0

abbrev pub last_in : List ℕ → ℕ → ℕ
last_in table s = get_or table (s * 4 + 3) 0

-- its rows; where the length is no multiple of four, the last one has the words that are left
unfoldable pub rows_in : List ℕ → List ℕ
rows_in table = each_below (row_in table) ((length table + 3) / 4)

-- the first n rows of a table
abbrev pub first_rows : ℕ → List ℕ → List ℕ
first_rows n table = each_below (row_in table) n

-- the table that has these rows
unfoldable pub spelled : List ℕ → List ℕ
spelled [] = []
spelled (m ∷ ms) = words_of 4 m ++ spelled ms

-- the table with another row of the replica s
abbrev pub with_row : List ℕ → ℕ → ℕ → List ℕ
with_row table s m = sets table (s * 4) (words_of 4 m)

-- the members of f 0, f 1, .. f (k - 1)
unfoldable pub unite_below : (ℕ → ℕ) → ℕ → ℕ
unite_below f zero = 0
unite_below f (suc k) = bit_or (unite_below f k) (f k)

-- of a run from a up to e, the members of the first word
abbrev pub span : ℕ → ℕ → ℕ
span a e = run (min a 64) (min e 64 - min a 64)
