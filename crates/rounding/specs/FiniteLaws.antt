-- Where `round` gives no infinity. Assumes nothing.
use Rattle.std.specs.Prelude.{◌≡◌, refl, Bool, true, false, cond, ℕ, zero, suc, ◌+◌, ◌*◌, ◌^◌, ◌≤◌, ◌<◌, T, ltb, Float}
use Rattle.std.proofs.Common.{le_trans, le_of_eq, mul-one, lit<}
use Rattle.std.specs.Int.Count.{count_trailing_zeros}
use Rattle.std.specs.Float.{nan, inf, fin, Format, binary64}
use Rattle.std.specs.Float.Ieee.{prec, emax, low, size, span, climb, units, odd, round, neg, lt, eq, le}
use Rattle.std.specs.Float.Ieee.Order.{round_mono}
use Rattle.std.specs.Float.Ieee.Scale.{finite}
use Rattle.rounding.specs.SignLaws.{round_neg}

-- not minus infinity
abbrev above : Float → Bool
above nan = true
above (inf true) = false
above (inf false) = true
above (fin s m e) = true

units_above : (f : Format) (q k : ℕ) → T (above (units f false q k))
unfolding units odd
units_above f q k = go (ltb (q * 2 ^ k) (2 ^ (low f + suc (emax f)))) q
  where
    go : (b : Bool) (q : ℕ) → T (above (cond b (odd (suc (prec f)) false q k (low f)) (inf false)))
    go true zero = tt
    go true (suc q) = tt
    go false q = tt

round_above : (f : Format) (num den : ℕ) → T (above (round f false num den))
unfolding round
round_above f num den = units_above f _ _

-- what is at most a finite value is finite, if it is not minus infinity
at_most : (x y : Float) → T (above x) → T (finite y) → T (le x y) → T (finite x)
unfolding le lt eq
at_most nan y p q h = h
at_most (inf true) y p q h = absurd p
at_most (inf false) nan p q h = absurd q
at_most (inf false) (inf t) p q h = absurd q
at_most (inf false) (fin t n d) p q h = h
at_most (fin s m e) y p q h = tt

largest : T (finite (round binary64 false (10 ^ 37) 1))
unfolding round size units odd span climb count_trailing_zeros
largest = tt

finite_neg : (x : Float) → finite (neg x) ≡ finite x
unfolding neg
finite_neg nan = refl
finite_neg (inf s) = refl
finite_neg (fin s m e) = refl

positive_finite : (num den : ℕ) → 0 < den → num ≤ 10 ^ 37 * den → T (finite (round binary64 false num den))
positive_finite num den D h =
    at_most (round binary64 false num den) (round binary64 false (10 ^ 37) 1) (round_above binary64 num den) largest
    (round_mono binary64 num den (10 ^ 37) 1 D (lit< tt) (le_trans (le_of_eq (mul-one num)) h))

-- a fraction of at most 10 ^ 37 rounds to a finite double
pub round_finite : (s : Bool) (num den : ℕ) → 0 < den → num ≤ 10 ^ 37 * den → T (finite (round binary64 s num den))
round_finite false num den D h = positive_finite num den D h
round_finite true num den D h = rw (← round_neg binary64 false num den, finite_neg) (positive_finite num den D h)
