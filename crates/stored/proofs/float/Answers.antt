-- `stored::float` meets its contract: the quotient of two zeros is the NaN that the bits of one are read as. Assumes nothing.
use mathlib.Core.Path.{◌≡◌, refl, sym, ◌∙◌}
use mathlib.Core.Bool.{true, true≢false}
use lib.Ieee.{Float, nan, inf, fin, binary64, div, of_bits, is_nan}
use lib.Ieee.Bits.{nan_bits_is}
use Rattle.stored.proofs.float.Goals as goal

only_nan : (x : Float) → is_nan x ≡ true → x ≡ nan
unfolding is_nan
only_nan nan e = refl
only_nan (inf s) e = absurd (true≢false (sym e))
only_nan (fin s m k) e = absurd (true≢false (sym e))

by_zero : div binary64 (of_bits binary64 0) (of_bits binary64 0) ≡ nan
unfolding div of_bits
by_zero = refl

pub returns-then-is_nan : goal.returns-then-is_nan
returns-then-is_nan c = by_zero ∙ sym (only_nan _ (sym (nan_bits_is binary64 c.args.bits) ∙ sym c.is_nan.ensures ∙ c.if-is_nan.true))
