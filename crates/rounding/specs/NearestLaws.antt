-- What `round` gives: a nearest value of the format, and at a tie the even one (`nearest` and `tie_even`, at the end). Assumes nothing.
use Rattle.std.specs.Prelude.{◌≡◌, refl, Bool, true, false, ℕ, zero, suc, ◌+◌, ◌*◌, ◌%◌, ◌^◌, ◌≤◌, ◌<◌, T, Float}
use Rattle.std.proofs.Common.{sym, ap, ◌∙◌, subst, le_trans, le_of_eq, lt_irrefl, zero-lt-suc, zero-mul, mul-pos, arith, pow_pos}
use Rattle.std.specs.Float.{Format}
use Rattle.std.specs.Float.Ieee.{prec, low, round, fits}
use Rattle.std.specs.Float.Ieee.Fits.{round-fits}
use Rattle.std.specs.Float.Ieee.Exact.{HasValue}
use Rattle.std.specs.Float.Ieee.Order.{drop, kept}
use Rattle.std.specs.Float.Ieee.Scale.{grid, finite}
use Rattle.rounding.specs.Nearest.{dist, between, under, negative, gap, NoFurther, AsFar, IsEven}
use Rattle.rounding.specs.GridLaws.{grid_near, grid_even}
use Rattle.rounding.specs.UnitsLaws.{gap_units, no_further, as_far, under_pos, units_of, is_grid}
use Rattle.rounding.specs.BitLaws.{bits_of, same_float, grid_bits}

-- ---- in units of the smallest value: n / den, which is negative where s is true, and a value q * 2 ^ j, which is where t is
to_zero : (n x : ℕ) → dist n (0 * 1 * x) ≡ n
to_zero n x = rw (zero-mul x) (omega arith)

module _ (f : Format) (num den q j : ℕ) (D : 0 < den) (h : q < 2 ^ prec f) where
  abbrev n : ℕ
  n = num * 2 ^ low f

  abbrev G : ℕ
  G = grid f num den

  -- zero is no nearer
  within : dist n (G * den) ≤ n
  within = le_trans (grid_near f num den 0 0 D (pow_pos (prec f))) (le_of_eq (to_zero n den))

  across : dist n (G * den) ≤ n + q * 2 ^ j * den
  across = omega (arith, within)

  units_near : (s t : Bool) → between s n s (G * den) ≤ between s n t (q * 2 ^ j * den)
  units_near true true = grid_near f num den q j D h
  units_near false false = grid_near f num den q j D h
  units_near true false = across
  units_near false true = across

  -- a value of the other sign is as near: then zero is
  even_across : dist n (G * den) ≡ n + q * 2 ^ j * den → kept (prec f) n den % 2 ≡ 0
  even_across d = go (kept (prec f) n den) refl
    where
      zero_near : dist n (G * den) ≡ dist n (0 * 1 * den)
      zero_near = omega (arith, within, to_zero n den)

      go : (z : ℕ) → kept (prec f) n den ≡ z → kept (prec f) n den % 2 ≡ 0
      go zero e = ap (λ (x : ℕ). x % 2) e
      go (suc z) e =
          let k = 2 ^ drop (prec f) n den in
          let p : 0 < G = subst (λ (x : ℕ). 0 < x * k) (sym e) (mul-pos (zero-lt-suc z) (pow_pos (drop (prec f) n den))) in
          grid_even f num den 0 0 D (pow_pos (prec f)) zero_near (λ (o : 0 * 1 ≡ G). lt_irrefl 0 (subst (λ (x : ℕ). 0 < x) (sym o) p))

  units_even : (s t : Bool) → between s n s (G * den) ≡ between s n t (q * 2 ^ j * den) → (t ≡ s → q * 2 ^ j ≡ G → ⊥) → kept (prec f) n den % 2 ≡ 0
  units_even true true d ne = grid_even f num den q j D h d (ne refl)
  units_even false false d ne = grid_even f num den q j D h d (ne refl)
  units_even true false d ne = even_across d
  units_even false true d ne = even_across d

-- ---- the floats themselves

-- no value of the format is nearer than the one that `round` gives
pub nearest : (f : Format) (s : Bool) (num den : ℕ) → 0 < den → T (finite (round f s num den)) → (y : Float) → T (fits f y) → T (finite y)
    → NoFurther s num den (round f s num den) y
nearest f s num den D t y h g =
    let x = round f s num den in
    let u = units_of f y h g in
    no_further (gap s num den x) (gap s num den y) _ _ (under x) (under y) (2 ^ low f)
    (gap_units s num den s (grid f num den) (2 ^ low f) x (is_grid f s num den t))
    (gap_units s num den (negative y) (u.q * 2 ^ u.j) (2 ^ low f) y u.is)
    (pow_pos (low f)) (units_near f num den u.q u.j D u.few s (negative y))

-- and where another is as near, it gives the even one
pub tie_even : (f : Format) (s : Bool) (num den : ℕ) → 0 < den → T (finite (round f s num den)) → (y : Float) → T (fits f y) → T (finite y)
    → AsFar s num den (round f s num den) y → (y ≡ round f s num den → ⊥) → IsEven f (round f s num den)
tie_even f s num den D t y h g d ne =
    let x = round f s num den in
    let v = is_grid f s num den t in
    let u = units_of f y h g in
    let a = u.q * 2 ^ u.j in
    let e =
    as_far (gap s num den x) (gap s num den y) _ _ (under x) (under y) (2 ^ low f)
    (gap_units s num den s (grid f num den) (2 ^ low f) x v)
    (gap_units s num den (negative y) a (2 ^ low f) y u.is)
    (under_pos x) (under_pos y) d in
    let w : negative y ≡ s → a ≡ grid f num den → HasValue y s (grid f num den) (2 ^ low f) =
    λ p o. subst (λ (z : ℕ). HasValue y s z (2 ^ low f)) o (subst (λ (b : Bool). HasValue y b a (2 ^ low f)) p u.is) in
    ap (λ (b : ℕ). b % 2) (bits_of f x s (grid f num den) v)
    ∙ grid_bits f s num den
    (units_even f num den u.q u.j D u.few s (negative y) e (λ p o. ne (same_float f y x s (grid f num den) h (round-fits f s num den) (w p o) v)))
