-- Worked values of the definitions, computed by the checker. Assumes nothing.
use mathlib.Core.Path.{◌≡◌, refl}
use mathlib.Core.List.{[], ◌∷◌, map}
use mathlib.Core.Bool.{true, false}
use Prim.Native.Nat.{ℕ, ◌+◌, ◌^◌}
use Rattle.refusals.specs.Numbers.{POPULATION, SHARDS, TABLE}
use Rattle.refusals.specs.First.{unless, first_of}
use Rattle.refusals.specs.Limits.{is_population, is_shards, is_size, is_fault_list}

-- the first case that holds, of a population, shards with a width, and a table's length that does not fit
refused : ℕ → ℕ → ℕ → ℕ
refused n d w = first_of (unless (is_population n) POPULATION ∷ unless (is_shards d w) SHARDS ∷ unless false TABLE ∷ [])

first : refused 0 0 0 ∷ refused 17 4 5 ∷ refused 16 0 5 ∷ refused 16 6 5 ∷ refused 16 64 256 ∷ refused 16 255 255 ∷ [] ≡ 1 ∷ 1 ∷ 4 ∷ 4 ∷ 4 ∷ 17 ∷ []
unfolding refused is_population is_shards
first = refl

-- of three replicas: no list, one with all of them, one with a fourth, and two that are
lists : map (is_fault_list 3) ([] ∷ (1 ∷ 7 ∷ []) ∷ (1 ∷ 8 ∷ []) ∷ (0 ∷ []) ∷ (1 ∷ 2 ∷ 4 ∷ []) ∷ []) ≡ false ∷ false ∷ false ∷ true ∷ true ∷ []
unfolding is_fault_list
lists = refl

sizes : map is_size (0 ∷ 2 ^ 30 ∷ (2 ^ 30 + 1) ∷ []) ≡ true ∷ true ∷ false ∷ []
sizes = refl
