-- When a float is nearest to a fraction, and when it is even, over whole numbers: definitions alone. Assumes nothing.
use Rattle.std.specs.Prelude.{◌≡◌, Bool, false, cond, ℕ, ◌+◌, ◌-◌, ◌*◌, ◌%◌, ◌≤◌, Float}
use Rattle.std.specs.Bool.{beq}
use Rattle.std.specs.Float.{nan, inf, fin, Format}
use Rattle.std.specs.Float.Ieee.{up, down, to_bits}

-- how far a is from b
abbrev pub dist : ℕ → ℕ → ℕ
dist a b = (a - b) + (b - a)

-- how far a is from b, where a is negative if s is true and b if t is
abbrev pub between : Bool → ℕ → Bool → ℕ → ℕ
between s a t b = cond (beq s t) (dist a b) (a + b)

-- the numerator of a float but for its sign: a finite x is over x / under x
abbrev pub over : Float → ℕ
over nan = 0
over (inf s) = 0
over (fin s m e) = m * up e

-- and its denominator
abbrev pub under : Float → ℕ
under nan = 1
under (inf s) = 1
under (fin s m e) = down e

-- whether a float has the minus sign
abbrev pub negative : Float → Bool
negative nan = false
negative (inf s) = s
negative (fin s m e) = s

-- how far x is from num / den, which is negative where s is true: the distance times den * under x
abbrev pub gap : Bool → ℕ → ℕ → Float → ℕ
gap s num den x = between s (num * under x) (negative x) (over x * den)

-- x is no further from num / den than y: both distances times den * under x * under y
abbrev pub NoFurther : Bool → ℕ → ℕ → Float → Float → Type 0
NoFurther s num den x y = gap s num den x * under y ≤ gap s num den y * under x

-- x is as far from num / den as y
abbrev pub AsFar : Bool → ℕ → ℕ → Float → Float → Type 0
AsFar s num den x y = gap s num den x * under y ≡ gap s num den y * under x

-- the even one of two neighbours: the last bit of its pattern is 0
abbrev pub IsEven : Format → Float → Type 0
IsEven f x = to_bits f x % 2 ≡ 0
