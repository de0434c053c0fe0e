-- The sign goes through `round`, and is that of its result. Assumes nothing.
use Rattle.std.specs.Prelude.{◌≡◌, refl, Bool, true, false, not, cond, ℕ, zero, suc, ◌+◌, ◌*◌, ◌^◌, ltb}
use Rattle.std.specs.Float.{inf, Format}
use Rattle.std.specs.Float.Ieee.{prec, emax, low, odd, units, round, neg}
use Rattle.rounding.specs.Nearest.{negative}

odd_neg : (d : ℕ) (s : Bool) (q k l : ℕ) → neg (odd d s q k l) ≡ odd d (not s) q k l
unfolding neg odd
odd_neg d s zero k l = refl
odd_neg d s (suc q) k l = refl

units_neg : (f : Format) (s : Bool) (q k : ℕ) → neg (units f s q k) ≡ units f (not s) q k
unfolding units neg
units_neg f s q k = go (ltb (q * 2 ^ k) (2 ^ (low f + suc (emax f))))
  where
    go : (b : Bool) → neg (cond b (odd (suc (prec f)) s q k (low f)) (inf s)) ≡ cond b (odd (suc (prec f)) (not s) q k (low f)) (inf (not s))
    go true = odd_neg (suc (prec f)) s q k (low f)
    go false = refl

pub round_neg : (f : Format) (s : Bool) (num den : ℕ) → neg (round f s num den) ≡ round f (not s) num den
unfolding round
round_neg f s num den = units_neg f s _ _

-- ---- the result has that sign, a zero and an infinity too

units_sign : (f : Format) (s : Bool) (q k : ℕ) → negative (units f s q k) ≡ s
unfolding units odd
units_sign f s q k = go (ltb (q * 2 ^ k) (2 ^ (low f + suc (emax f)))) q
  where
    go : (b : Bool) (q : ℕ) → negative (cond b (odd (suc (prec f)) s q k (low f)) (inf s)) ≡ s
    go true zero = refl
    go true (suc q) = refl
    go false q = refl

pub round_sign : (f : Format) (s : Bool) (num den : ℕ) → negative (round f s num den) ≡ s
unfolding round
round_sign f s num den = units_sign f s _ _
