-- Worked values of the two rules, computed by the checker: the site sheet's lines, each refusal, and which of two comes first. Assumes nothing.
use mathlib.Core.Path.{◌≡◌, refl}
use mathlib.Core.Bool.{Bool, true, false}
use mathlib.Core.List.{List, [], ◌∷◌, map}
use Prim.Native.Nat.{ℕ, ◌-◌, ◌^◌}
use lib.ListN.{get_or}
use Rattle.bitmap.specs.Mask.{count}
use Rattle.refusals.specs.Outcome.{Outcome, refused, accepted}
use Rattle.refusals.specs.Limits.{is_population, is_shards, is_fault_list}
use Rattle.lists.specs.Below.{those_below, each_below}
use Rattle.lists.specs.Sort.{by_key}
use Rattle.rows.specs.Row.{value, words_of, row_in, rows_in, spelled}
use Rattle.coverage.specs.Walk.{heard_order, walk_order}
use Rattle.coverage.specs.Coverage.{union_of, leaves, is_covered, covers_refusal, covers_of, survived_refusal, survived_of}

-- one of three replicas fails: the masks of 0, of 1 and of 2
ones : List ℕ
ones = 1 ∷ 2 ∷ 4 ∷ []

-- ---- `covers`
record Line : Type 0 where
  n : ℕ
  d : ℕ
  w : ℕ
  heard : ℕ
  rows : List ℕ
  faults : List ℕ
  says : Outcome Bool

line : ℕ → ℕ → ℕ → ℕ → List ℕ → List ℕ → Outcome Bool → Line
line n d w heard rows faults says = record { n = n; d = d; w = w; heard = heard; rows = spelled rows; faults = faults; says = says }

sheet : List Line
unfolding line ones
sheet =
    -- rows 0; 1; 2, and rows 0; 1; 0
    line 3 2 3 7 (1 ∷ 2 ∷ 4 ∷ []) ones (accepted true)
    ∷ line 3 2 3 7 (1 ∷ 2 ∷ 1 ∷ []) ones (accepted false)
    -- nobody heard; 2 not heard; an empty row
    ∷ line 3 2 3 0 (1 ∷ 2 ∷ 4 ∷ []) ones (accepted false)
    ∷ line 3 2 3 3 (1 ∷ 2 ∷ 4 ∷ []) ones (accepted false)
    ∷ line 3 2 3 7 (3 ∷ 3 ∷ 0 ∷ []) ones (accepted true)
    -- words with every bit
    ∷ line 3 64 64 7 (0xffff_ffff_ffff_ffff ∷ 0xffff_ffff_0000_0000 ∷ 0xffff_ffff ∷ []) ones (accepted true)
    ∷ line 3 64 64 7 (0xffff_ffff_ffff_ffff ∷ 0xffff_ffff_0000_0000 ∷ 0x7fff_ffff ∷ []) ones (accepted false)
    -- rows of four words: all 255 shards, and one too few
    ∷ line 3 255 255 7 ((2 ^ 255 - 1) ∷ (2 ^ 255 - 2 ^ 100) ∷ (2 ^ 100 - 1) ∷ []) ones (accepted true)
    ∷ line 3 255 255 7 ((2 ^ 255 - 1) ∷ (2 ^ 255 - 2 ^ 101) ∷ (2 ^ 100 - 1) ∷ []) ones (accepted false)
    -- the population; the shards
    ∷ line 0 2 3 0 [] ones (refused 1)
    ∷ line 17 2 3 7 (1 ∷ 2 ∷ 4 ∷ []) ones (refused 1)
    ∷ line 3 0 3 7 (1 ∷ 2 ∷ 4 ∷ []) ones (refused 4)
    ∷ line 3 4 3 7 (1 ∷ 2 ∷ 4 ∷ []) ones (refused 4)
    ∷ line 3 2 256 7 (1 ∷ 2 ∷ 4 ∷ []) ones (refused 4)
    -- a row; those heard
    ∷ line 3 2 3 7 (1 ∷ 2 ∷ 8 ∷ []) ones (refused 16)
    ∷ line 3 2 3 8 (1 ∷ 2 ∷ 4 ∷ []) ones (refused 16)
    -- the rows' length; no set, one of all three, one with a fourth
    ∷ line 3 2 3 7 (1 ∷ 2 ∷ []) ones (refused 17)
    ∷ line 3 2 3 7 (1 ∷ 2 ∷ 4 ∷ []) [] (refused 17)
    ∷ line 3 2 3 7 (1 ∷ 2 ∷ 4 ∷ []) (1 ∷ 7 ∷ []) (refused 17)
    ∷ line 3 2 3 7 (1 ∷ 2 ∷ 4 ∷ []) (1 ∷ 8 ∷ []) (refused 17)
    -- two cases hold: the first refuses
    ∷ line 17 2 256 7 (1 ∷ 2 ∷ 4 ∷ []) ones (refused 1)
    ∷ line 3 4 3 7 (1 ∷ 2 ∷ 8 ∷ []) ones (refused 4)
    ∷ line 3 2 3 7 (1 ∷ 8 ∷ []) ones (refused 16)
    ∷ []

covered : map (λ (l : Line). covers_of l.n l.d l.w l.heard l.rows l.faults) sheet ≡ map (λ (l : Line). l.says) sheet
unfolding value words_of spelled row_in rows_in each_below ones line sheet covers_of covers_refusal is_population is_shards is_fault_list is_covered leaves union_of count
covered = refl

-- a table whose last row is not whole: 17; 16 where the words that it has name a shard at or above the width, and that comes first
parts : map (λ (rows : List ℕ). covers_of 1 2 70 1 rows (0 ∷ [])) ((3 ∷ 0 ∷ 0 ∷ []) ∷ (3 ∷ 64 ∷ 0 ∷ []) ∷ (3 ∷ 63 ∷ 0 ∷ 0 ∷ []) ∷ (3 ∷ 0 ∷ 0 ∷ 0 ∷ 1 ∷ []) ∷ (3 ∷ 0 ∷ 0 ∷ 0 ∷ 1 ∷ 64 ∷ []) ∷ [])
    ≡ refused 17 ∷ refused 16 ∷ accepted true ∷ refused 17 ∷ refused 16 ∷ []
unfolding value row_in rows_in each_below covers_of covers_refusal is_population is_shards is_fault_list is_covered leaves union_of count
parts = refl

-- an empty row counts as heard: where no shard is wanted, one replica with an empty row is enough, and nobody is not
empty : map (λ (heard : ℕ). is_covered 3 0 heard (λ s. 0) ones) (1 ∷ 0 ∷ []) ≡ true ∷ false ∷ []
unfolding ones is_covered leaves union_of count
empty = refl

-- ---- the order of the walk: those heard outside the set, fuller rows first, and of rows as full the one with the lower number
orders : map (λ (l : List ℕ). walk_order 4 (get_or l 0 0) (row_in (spelled (1 ∷ 7 ∷ 6 ∷ 3 ∷ []))) (get_or l 1 0)) ((15 ∷ 0 ∷ []) ∷ (15 ∷ 2 ∷ []) ∷ (13 ∷ 4 ∷ []) ∷ (6 ∷ 6 ∷ []) ∷ [])
    ≡ (1 ∷ 2 ∷ 3 ∷ 0 ∷ []) ∷ (2 ∷ 3 ∷ 0 ∷ []) ∷ (3 ∷ 0 ∷ []) ∷ [] ∷ []
unfolding value words_of spelled row_in rows_in each_below walk_order heard_order those_below by_key count
orders = refl

-- ---- `survived_by`
record Reply : Type 0 where
  n : ℕ
  heard : ℕ
  faults : List ℕ
  says : Outcome Bool

reply : ℕ → ℕ → List ℕ → Outcome Bool → Reply
reply n heard faults says = record { n = n; heard = heard; faults = faults; says = says }

replies : List Reply
unfolding reply ones
replies =
    -- all heard; 0 not heard, alone in its set and beside 1; 0 and 1 not heard; nobody heard
    reply 3 7 ones (accepted true)
    ∷ reply 3 6 ones (accepted true)
    ∷ reply 3 6 (3 ∷ []) (accepted true)
    ∷ reply 3 4 ones (accepted false)
    ∷ reply 3 0 ones (accepted false)
    -- each refusal
    ∷ reply 0 0 ones (refused 1)
    ∷ reply 17 7 ones (refused 1)
    ∷ reply 3 8 ones (refused 16)
    ∷ reply 3 7 [] (refused 17)
    ∷ reply 3 7 (1 ∷ 7 ∷ []) (refused 17)
    ∷ reply 3 7 (1 ∷ 8 ∷ []) (refused 17)
    -- two cases hold: the first refuses
    ∷ reply 17 7 [] (refused 1)
    ∷ reply 3 8 [] (refused 16)
    ∷ []

survived : map (λ (l : Reply). survived_of l.n l.heard l.faults) replies ≡ map (λ (l : Reply). l.says) replies
unfolding ones reply replies survived_of survived_refusal is_population is_fault_list
survived = refl
