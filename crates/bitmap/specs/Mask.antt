-- A set of small numbers as a mask: bit s of the number m says whether s is a member. A mask is a natural number of any width.
-- Assumes nothing.
use Rattle.std.specs.Prelude.{ℕ, zero, suc, ◌+◌, ◌-◌, ◌/◌, ◌%◌, ◌^◌, Bool, cond, List, eqb, ltb, get_or}
use Rattle.std.specs.Int.Bits.{bit_or}

-- bit s of m, 0 or 1
abbrev pub bit : ℕ → ℕ → ℕ
bit m s = m / 2 ^ s % 2

-- s is a member of m
abbrev pub has_bit : ℕ → ℕ → Bool
has_bit m s = eqb (bit m s) 1

-- m with the member s
abbrev pub with_bit : ℕ → ℕ → ℕ
with_bit m s = bit_or m (2 ^ s)

-- every member of m is below w
abbrev pub is_below : ℕ → ℕ → Bool
is_below w m = ltb m (2 ^ w)

-- all numbers below n
abbrev pub all_below : ℕ → ℕ
all_below n = 2 ^ n - 1

-- how many members m has; it stops where m has run out, so it computes in as many steps as m has digits
unfoldable pub count_in : ℕ → ℕ → ℕ
count_in zero m = zero
count_in (suc k) zero = zero
count_in (suc k) (suc m) = suc m % 2 + count_in k (suc m / 2)

unfoldable pub count : ℕ → ℕ
unfolding count_in
count m = count_in m m

-- the numbers below k that pass the test
unfoldable pub mask_below : (ℕ → Bool) → ℕ → ℕ
mask_below f zero = 0
mask_below f (suc k) = cond (f k) (with_bit (mask_below f k) k) (mask_below f k)

-- the members f 0, f 1, .. f (k - 1)
unfoldable pub gather : (ℕ → ℕ) → ℕ → ℕ
gather f zero = 0
gather f (suc k) = with_bit (gather f k) (f k)

-- k members from a on: a, a + 1, .. a + k - 1
abbrev pub run : ℕ → ℕ → ℕ
run a k = gather (λ (i : ℕ). a + i) k

-- k members from a on, each modulo w
abbrev pub run_modulo : ℕ → ℕ → ℕ → ℕ
run_modulo w a k = gather (λ (i : ℕ). (a + i) % w) k

-- the row of the replica s in a list of rows; past the end there is no shard
abbrev pub nth_row : List ℕ → ℕ → ℕ
nth_row rows s = get_or rows s 0
