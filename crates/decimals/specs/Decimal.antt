-- A decimal: an optional sign, digits with at most one point (at least one digit), optionally e or E, an optional sign, and one or more digits. Assumes nothing.
use Rattle.std.specs.Prelude.{Bool, false, cond, not, ◌&&◌, ◌||◌, List, [], ◌∷◌, ℕ, ◌+◌, ◌*◌, ◌^◌, leb, ltb, eqb, Float, length, take, drop}
use Rattle.std.specs.Float.{binary64}
use Rattle.std.specs.Float.Ieee.{round}
use Rattle.std.specs.List.{list_all, list_any}
use Rattle.refusals.specs.Numbers.{NUMERAL, DIGITS}
use Rattle.refusals.specs.Outcome.{Outcome, refused, accepted}
use Rattle.numerals.specs.Text.{without, cut_by, before, behind}
use Rattle.numerals.specs.Whole.{is_digit, is_digits, spelt}

-- ---- as it is written

-- a - stands at its start
unfoldable pub is_negative : List ℕ → Bool
is_negative [] = false
is_negative (b ∷ bs) = eqb b 45

-- + or -
abbrev pub is_sign : ℕ → Bool
is_sign b = eqb b 43 || eqb b 45

-- without a sign at its start
abbrev pub unsigned : List ℕ → List ℕ
unsigned s = without is_sign s

-- e or E
abbrev pub is_e : ℕ → Bool
is_e b = eqb b 101 || eqb b 69

-- its sign, the digits before the point and those after it, whether it has an exponent, and that one's sign and digits
pub record Written : Type 0 where
  pub negative : Bool
  pub whole : List ℕ
  pub fraction : List ℕ
  pub raised : Bool
  pub lowers : Bool
  pub power : List ℕ

-- what stands before the exponent's letter, and after it
abbrev pub mantissa : List ℕ → List ℕ
mantissa u = take (cut_by is_e u) u

abbrev pub exponent : List ℕ → List ℕ
exponent u = drop (cut_by is_e u + 1) u

unfoldable pub written_of : List ℕ → Written
written_of s = record {
  negative = is_negative s;
  whole = before 46 (mantissa (unsigned s));
  fraction = behind 46 (mantissa (unsigned s));
  raised = list_any is_e (unsigned s);
  lowers = is_negative (exponent (unsigned s));
  power = unsigned (exponent (unsigned s));
}

-- ---- which are refused

-- digits alone, but for the point, at least one of them, and in an exponent too
abbrev pub is_well_formed : Written → Bool
is_well_formed w =
    list_all is_digit w.whole && (list_all is_digit w.fraction && (ltb 0 (length w.whole + length w.fraction) && (not w.raised || is_digits w.power)))

-- the digits before the exponent, counted as written
abbrev pub counted : Written → ℕ
counted w = length w.whole + length w.fraction

-- times ten to the power `ups`, over ten to the power `downs`: what the exponent says, and the point moved behind the last digit
abbrev pub ups : Written → ℕ
ups w = cond w.lowers 0 (spelt 0 w.power)

abbrev pub downs : Written → ℕ
downs w = cond w.lowers (spelt 0 w.power) 0 + length w.fraction

-- at most 15 digits before the exponent and 4 in it, and the power left after moving the point from -22 to 22
abbrev pub is_short : Written → Bool
is_short w = leb (counted w) 15 && (leb (length w.power) 4 && (leb (ups w) (downs w + 22) && leb (downs w) (ups w + 22)))

-- ---- the value

-- all its digits as one whole number
abbrev pub digits : Written → ℕ
digits w = spelt (spelt 0 w.whole) w.fraction

-- the nearest double to digits * 10 ^ ups / 10 ^ downs, ties to even, with the sign
abbrev pub value_of : Written → Float
value_of w = round binary64 w.negative (digits w * 10 ^ ups w) (10 ^ downs w)

abbrev pub read_of : Written → Outcome Float
read_of w = cond (is_well_formed w) (cond (is_short w) (accepted (value_of w)) (refused DIGITS)) (refused NUMERAL)

unfoldable pub decimal_of : List ℕ → Outcome Float
decimal_of s = read_of (written_of s)
