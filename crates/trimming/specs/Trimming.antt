-- Trimming: each pass tries one shard less from every positive load in turn and keeps it if the new layout commits; passes end when one keeps nothing.
-- Assumes nothing.
use Rattle.std.specs.Prelude.{Bool, false, cond, ◌&&◌, ◌||◌, ℕ, zero, suc, ◌+◌, ◌-◌, ltb, get_or, set}
use mathlib.Core.List.{List, [], ◌∷◌, foldl}

-- whether given loads commit
module _ (commits : List ℕ → Bool) where
  -- the loads with one shard less for p
  abbrev pub lowered : List ℕ → ℕ → List ℕ
  lowered loads p = set loads p (get_or loads p 0 - 1)

  -- p has a shard, and with one less the layout, width dealt anew, still commits
  unfoldable pub keeps : List ℕ → ℕ → Bool
  keeps loads p = ltb 0 (get_or loads p 0) && commits (lowered loads p)

  -- the loads after p was tried
  unfoldable pub tried : List ℕ → ℕ → List ℕ
  tried loads p = cond (keeps loads p) (lowered loads p) loads

  -- the loads after a pass, in the order given
  abbrev pub passed : List ℕ → List ℕ → List ℕ
  passed order loads = foldl tried loads order

  -- the pass keeps something
  abbrev pub keeps_any : List ℕ → List ℕ → Bool
  keeps_any [] loads = false
  keeps_any (p ∷ ps) loads = keeps loads p || keeps_any ps (tried loads p)

  -- passes until one keeps nothing, but at most so many
  unfoldable pub trimmed_in : ℕ → List ℕ → List ℕ → List ℕ
  trimmed_in zero order loads = loads
  trimmed_in (suc m) order loads = cond (keeps_any order loads) (trimmed_in m order (passed order loads)) loads

-- how many shards the loads have
abbrev pub shards_in : List ℕ → ℕ
shards_in [] = 0
shards_in (k ∷ ks) = k + shards_in ks

-- passes until one keeps nothing. Each pass before that takes a shard away, so there are no more of them than shards (`trimmed_ends`)
unfoldable pub trimmed : (List ℕ → Bool) → List ℕ → List ℕ → List ℕ
trimmed commits order loads = trimmed_in commits (suc (shards_in loads)) order loads
