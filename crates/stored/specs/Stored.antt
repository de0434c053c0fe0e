-- A number of a line of the stored answers. Assumes nothing.
use Rattle.std.specs.Prelude.{cond, List, ℕ, ◌+◌, ◌*◌, ◌%◌, ◌^◌, ltb}
use Rattle.std.specs.List.{fold}

-- the value of a byte as a hexadecimal digit
abbrev pub digit : ℕ → ℕ
digit b = cond (ltb b 97) (b % 16) ((b % 16 + 9) % 16)

-- a number with one more digit, modulo 2 ^ 64
abbrev pub with_digit : ℕ → ℕ → ℕ
with_digit v b = (v * 16 + digit b) % 2 ^ 64

-- the number that hexadecimal digits write, modulo 2 ^ 64
abbrev pub hexadecimal : List ℕ → ℕ
hexadecimal digits = fold with_digit 0 digits
