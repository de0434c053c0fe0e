-- Decimals and what each is read to, computed by the checker: the shape, the digit rule at its bounds, and the value. Assumes nothing.
use mathlib.Core.Path.{◌≡◌, refl}
use mathlib.Core.Bool.{true, false}
use mathlib.Core.List.{List, [], ◌∷◌, map}
use Prim.Native.Nat.{◌^◌}
use Prim.Native.String.{String}
use lib.Count.{count_trailing_zeros}
use lib.IntN.{pos, negsuc}
use lib.Ieee.{Float, fin, round, size, span, climb, odd, units}
use Rattle.refusals.specs.Outcome.{Outcome, refused, accepted}
use Rattle.numerals.specs.Quoted.{bytes}
use Rattle.numerals.specs.Text.{without, cut_by}
use Rattle.numerals.specs.Whole.{is_digits, spelt}
use Rattle.decimals.specs.Decimal.{is_negative, written_of, decimal_of}

record Line : Type 0 where
  text : String
  says : Outcome Float

line : String → Outcome Float → Line
line text says = record { text = text; says = says }

sheet : List Line
unfolding line
sheet =
    -- with digits on either side of the point, or both; the signs; the letters
    line "0.5" (accepted (fin false 1 (negsuc 0)))
    ∷ line ".5" (accepted (fin false 1 (negsuc 0)))
    ∷ line "5." (accepted (fin false 5 (pos 0)))
    ∷ line "-0" (accepted (fin true 0 (pos 0)))
    ∷ line "+1E+2" (accepted (fin false 25 (pos 2)))
    ∷ line "-.5e-1" (accepted (fin true 3602879701896397 (negsuc 55)))
    ∷ line "1.e5" (accepted (fin false 3125 (pos 5)))
    -- 15 digits and 16, zeros counted too
    ∷ line "0.12345678901234" (accepted (fin false 4447999591938659 (negsuc 54)))
    ∷ line "0.123456789012345" (refused 8)
    ∷ line "000000000000001" (accepted (fin false 1 (pos 0)))
    ∷ line "0000000000000001" (refused 8)
    -- an exponent of 4 digits, and of 5
    ∷ line "1e0005" (accepted (fin false 3125 (pos 5)))
    ∷ line "1e00005" (refused 8)
    -- a power of 22 and of -22 left, and one more
    ∷ line "1e22" (accepted (fin false (5 ^ 22) (pos 22)))
    ∷ line "1e23" (refused 8)
    ∷ line "1.5e23" (accepted (fin false 4470348358154297 (pos 25)))
    ∷ line "1.5e24" (refused 8)
    ∷ line "1e-22" (accepted (fin false 4253529586511731 (negsuc 124)))
    ∷ line "1e-23" (refused 8)
    ∷ line ".1e-21" (accepted (fin false 4253529586511731 (negsuc 124)))
    ∷ line ".1e-22" (refused 8)
    ∷ line "0e99" (refused 8)
    -- the largest of all
    ∷ line "999999999999999e22" (accepted (fin false 8470329472542995 (pos 70)))
    -- no digit, two points, no digit in the exponent, two signs, other bytes
    ∷ line "" (refused 7)
    ∷ line "." (refused 7)
    ∷ line "-" (refused 7)
    ∷ line "1.5." (refused 7)
    ∷ line "1e" (refused 7)
    ∷ line "e5" (refused 7)
    ∷ line "1e+" (refused 7)
    ∷ line "1e5.0" (refused 7)
    ∷ line "1e5e5" (refused 7)
    ∷ line "+-1" (refused 7)
    ∷ line "1-" (refused 7)
    ∷ line "inf" (refused 7)
    ∷ line "nan" (refused 7)
    ∷ line "0x1" (refused 7)
    ∷ line "1 " (refused 7)
    -- too long and malformed: malformed
    ∷ line "1234567890123456x" (refused 7)
    ∷ line "1234567890123456e" (refused 7)
    ∷ line "1e00005x" (refused 7)
    ∷ []

answered : map (λ (l : Line). decimal_of (bytes l.text)) sheet ≡ map (λ (l : Line). l.says) sheet
unfolding line sheet decimal_of written_of is_negative without cut_by is_digits spelt round size span climb odd units count_trailing_zeros
answered = refl
