-- Worked values of `round`, each a tie between two neighbours, computed by the checker. Assumes nothing.
use mathlib.Core.Path.{◌≡◌, refl}
use mathlib.Core.Bool.{true, false}
use Prim.Native.Nat.{◌+◌, ◌-◌, ◌%◌, ◌^◌}
use lib.Count.{count_trailing_zeros}
use lib.IntN.{pos, negsuc}
use lib.Ieee.{Float, fin, binary32, binary64, size, span, climb, odd, units, round, to_bits}
use Rattle.rounding.specs.Nearest.{AsFar, IsEven}

-- from 2 ^ 53 on every second whole number is a double: 2 ^ 53 + 1 goes down to the even one, and 2 ^ 53 + 3 up
abbrev at : Float
at = fin false 1 (pos 53)

abbrev after : Float
after = fin false (2 ^ 52 + 1) (pos 1)

down_to_even : (round binary64 false (2 ^ 53 + 1) 1 ≡ at) × IsEven binary64 at × AsFar false (2 ^ 53 + 1) 1 at after × (to_bits binary64 after % 2 ≡ 1)
unfolding round size units odd span climb count_trailing_zeros to_bits
down_to_even = (refl, refl, refl, refl)

up_to_even : round binary64 false (2 ^ 53 + 3) 1 ≡ fin false (2 ^ 51 + 1) (pos 2)
unfolding round size units odd span climb count_trailing_zeros
up_to_even = refl

-- half the smallest double is as near to zero, which is even, as to the smallest; zero keeps the sign
abbrev minus_zero : Float
minus_zero = fin true 0 (pos 0)

half_smallest : (round binary64 true 1 (2 ^ 1075) ≡ minus_zero) × IsEven binary64 minus_zero × AsFar true 1 (2 ^ 1075) minus_zero (fin true 1 (negsuc 1073))
unfolding round size units odd span climb count_trailing_zeros to_bits
half_smallest = (refl, refl, refl)

-- 24 ones and a half in an `f32`: what is kept is 2 ^ 24, which has a digit more
one_digit_more : (round binary32 false (2 ^ 25 - 1) 2 ≡ fin false 1 (pos 24)) × IsEven binary32 (fin false 1 (pos 24))
unfolding round size units odd span climb count_trailing_zeros to_bits
one_digit_more = (refl, refl)
