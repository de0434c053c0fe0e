-- What `callboard_rows_united` answers, as one table, and one statement over all its rows, computed by the checker from the entry's definition.
-- Assumes nothing.
use Rattle.std.specs.Prelude.{◌≡◌, refl, ℕ, length}
use mathlib.Core.List.{List, [], ◌∷◌, map}
use Rattle.lists.specs.Below.{those_below, each_below}
use Rattle.lists.specs.Sort.{by_key}
use Rattle.bitmap.specs.Mask.{count}
use Rattle.rows.specs.Row.{value, words_of, row_in, rows_in, spelled}
use Rattle.refusals.specs.Limits.{is_population, is_shards, is_fault_list}
use Rattle.coverage.specs.Coverage.{covers_refusal}
use Rattle.coverage.specs.Walk.{heard_order, walk_order, rows_united_of}
use Rattle.c_types.specs.declared.Answer.{Answer}
use Rattle.c_types.specs.CTypes.{to_answer}
use Rattle.worked.specs.Sheet.{set_of, table_of}

-- d, the width, the members of the mask heard, of each row and of each listed set
pub record Line : Type 0 where
  pub d : ℕ
  pub w : ℕ
  pub heard : List ℕ
  pub rows : List (List ℕ)
  pub sets : List (List ℕ)
  pub answer : Answer

abbrev pub refusal : ℕ → Answer
refusal k = record { refusal = k; value = 0 }

abbrev pub united : ℕ → Answer
united k = record { refusal = 0; value = k }

unfoldable pub line : ℕ → ℕ → List ℕ → List (List ℕ) → List (List ℕ) → Answer → Line
line d w heard rows sets answer = record { d = d; w = w; heard = heard; rows = rows; sets = sets; answer = answer }

abbrev pub all : List ℕ
all = 0 ∷ 1 ∷ 2 ∷ []

unfoldable pub lines : List Line
unfolding line
lines =
    -- rows 0; 1; 2, without replica 0: both rows left
    line 2 3 all ((0 ∷ []) ∷ (1 ∷ []) ∷ (2 ∷ []) ∷ []) ((0 ∷ []) ∷ []) (united 2)
    -- a full row comes first
    ∷ line 2 3 all ((0 ∷ []) ∷ (1 ∷ []) ∷ (0 ∷ 1 ∷ []) ∷ []) ([] ∷ []) (united 1)
    -- rows 0; 1; 2,3,4: by number all three, by fullness two
    ∷ line 4 5 all ((0 ∷ []) ∷ (1 ∷ []) ∷ (2 ∷ 3 ∷ 4 ∷ []) ∷ []) ([] ∷ []) (united 2)
    -- rows 0,1; 0,1; 1,2: of equal rows the first replica's is before the others
    ∷ line 3 3 all ((0 ∷ 1 ∷ []) ∷ (0 ∷ 1 ∷ []) ∷ (1 ∷ 2 ∷ []) ∷ []) ([] ∷ []) (united 3)
    -- the same from its other end
    ∷ line 3 3 all ((1 ∷ 2 ∷ []) ∷ (0 ∷ 1 ∷ []) ∷ (0 ∷ 1 ∷ []) ∷ []) ([] ∷ []) (united 2)
    -- copies of one shard are too few: the whole order
    ∷ line 2 3 all ((0 ∷ []) ∷ (0 ∷ []) ∷ (0 ∷ []) ∷ []) ([] ∷ []) (united 3)
    -- an empty row is passed, and counts
    ∷ line 2 3 all ([] ∷ (0 ∷ []) ∷ (0 ∷ []) ∷ []) ([] ∷ []) (united 3)
    -- rows 63; 64; 254, without replica 0
    ∷ line 2 255 all ((63 ∷ []) ∷ (64 ∷ []) ∷ (254 ∷ []) ∷ []) ((0 ∷ []) ∷ []) (united 2)
    -- the first set alone
    ∷ line 2 3 all ((0 ∷ []) ∷ (1 ∷ []) ∷ (2 ∷ []) ∷ []) ((0 ∷ 1 ∷ []) ∷ [] ∷ []) (united 1)
    -- nobody heard
    ∷ line 1 3 [] ((0 ∷ []) ∷ (1 ∷ []) ∷ (2 ∷ []) ∷ []) ([] ∷ []) (united 0)
    -- all heard are in the set
    ∷ line 1 3 (0 ∷ 1 ∷ []) ((0 ∷ []) ∷ (1 ∷ []) ∷ (2 ∷ []) ∷ []) ((0 ∷ 1 ∷ []) ∷ []) (united 0)
    -- no replicas; d above the width; a shard at the width; a replica heard that is not there; no listed set; a set of all
    ∷ line 1 3 [] [] ([] ∷ []) (refusal 1)
    ∷ line 4 3 all ((0 ∷ []) ∷ (1 ∷ []) ∷ (2 ∷ []) ∷ []) ([] ∷ []) (refusal 4)
    ∷ line 2 3 all ((0 ∷ []) ∷ (1 ∷ []) ∷ (3 ∷ []) ∷ []) ([] ∷ []) (refusal 16)
    ∷ line 2 3 (3 ∷ []) ((0 ∷ []) ∷ (1 ∷ []) ∷ (2 ∷ []) ∷ []) ([] ∷ []) (refusal 16)
    ∷ line 2 3 all ((0 ∷ []) ∷ (1 ∷ []) ∷ (2 ∷ []) ∷ []) [] (refusal 17)
    ∷ line 2 3 all ((0 ∷ []) ∷ (1 ∷ []) ∷ (2 ∷ []) ∷ []) (all ∷ []) (refusal 17)
    ∷ []

-- for as many replicas as there are rows
unfoldable pub answered : Line → Answer
answered l = to_answer (rows_united_of (length l.rows) l.d l.w (set_of l.heard) (table_of l.rows) (map set_of l.sets))

-- ---- every row holds
pub lines_hold : map answered lines ≡ map (λ (l : Line). l.answer) lines
unfolding lines answered rows_united_of heard_order walk_order by_key those_below each_below value words_of row_in rows_in spelled count
    covers_refusal is_population is_shards is_fault_list
lines_hold = refl
