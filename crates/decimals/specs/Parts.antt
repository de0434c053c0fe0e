-- What a decimal that the code has taken apart is, as it is written. Assumes nothing.
use Rattle.std.specs.Prelude.{Bool, true, false, List, [], ℕ, Option, Some, None}
use Rattle.decimals.specs.Decimal.{Written}
use Rattle.decimals.specs.declared.Decimal.{Decimal}
use Rattle.decimals.specs.declared.Exponent.{Exponent}

-- whether there is an exponent, whether it begins with -, and its digits
abbrev pub is_raised : Option Exponent → Bool
is_raised None = false
is_raised (Some e) = true

abbrev pub lowers_of : Option Exponent → Bool
lowers_of None = false
lowers_of (Some e) = e.lowers

abbrev pub power_of : Option Exponent → List ℕ
power_of None = []
power_of (Some e) = e.power.now

abbrev pub written : Decimal → Written
written d = record {
  negative = d.negative;
  whole = d.whole.now;
  fraction = d.fraction.now;
  raised = is_raised d.exponent;
  lowers = lowers_of d.exponent;
  power = power_of d.exponent;
}
