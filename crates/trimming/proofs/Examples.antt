-- Worked values, computed by the checker, beside those that a model of the Rust gives: the order of the peers, trimmed loads, and loads after each pass. Assumes nothing.
use mathlib.Core.Path.{◌≡◌, refl}
use mathlib.Core.Bool.{Bool, true, false}
use mathlib.Core.List.{List, [], ◌∷◌, map}
use Prim.Native.Nat.{ℕ}
use lib.IntN.{pos}
use lib.Ieee.{Float, inf, fin, binary64, of_bits}
use Rattle.lists.specs.Below.{those_below, each_below}
use Rattle.lists.specs.Sort.{by_key}
use Rattle.floats.specs.Floats.{total_le}
use Rattle.bitmap.specs.Mask.{gather, count}
use Rattle.coverage.specs.Coverage.{union_of, leaves, is_covered, commits}
use Rattle.layout.specs.declared.TotalShards.{TotalShards}
use Rattle.layout.specs.declared.TotalShards.TheVariants.{Exactly, AtMost}
use Rattle.layout.specs.Layout.{width_of, row_for, rows_of, layout_commits}
use Rattle.trimming.specs.Order.{peers_of, trim_order}
use Rattle.trimming.specs.Trimming.{keeps, tried, trimmed_in, trimmed}

-- ---- the order

-- whole numbers, from 0 up and from -0 down; silence
ms : ℕ → Float
ms k = fin false k (pos 0)

minus : ℕ → Float
minus k = fin true k (pos 0)

silence : Float
silence = inf false

-- the times with one shard, each behind one of 0 with none
of_one : List Float → List Float
unfolding ms
of_one [] = []
of_one (t ∷ ts) = ms 0 ∷ t ∷ of_one ts

record Peers : Type 0 where
  n : ℕ
  own : ℕ
  d : ℕ
  times : List Float
  says : List ℕ

peers : ℕ → ℕ → ℕ → List Float → List ℕ → Peers
peers n own d times says = record { n = n; own = own; d = d; times = times; says = says }

orders : List Peers
unfolding peers ms minus silence of_one
orders =
    -- no peer; one
    peers 1 0 1 (of_one (ms 0 ∷ [])) []
    ∷ peers 2 1 1 (of_one (ms 2 ∷ ms 0 ∷ [])) (0 ∷ [])
    -- the slowest first; by the time with d shards, not by that with none or one
    ∷ peers 4 0 1 (of_one (ms 0 ∷ ms 2 ∷ ms 4 ∷ ms 3 ∷ [])) (2 ∷ 3 ∷ 1 ∷ [])
    ∷ peers 3 0 2 (ms 0 ∷ ms 0 ∷ ms 0 ∷ ms 9 ∷ ms 9 ∷ ms 1 ∷ ms 1 ∷ ms 1 ∷ ms 2 ∷ []) (2 ∷ 1 ∷ [])
    ∷ peers 3 0 2 (ms 0 ∷ ms 0 ∷ ms 0 ∷ ms 1 ∷ ms 9 ∷ ms 2 ∷ ms 9 ∷ ms 1 ∷ ms 1 ∷ []) (1 ∷ 2 ∷ [])
    -- we are in the middle; the last; none of them
    ∷ peers 5 2 1 (of_one (ms 2 ∷ ms 3 ∷ ms 0 ∷ ms 1 ∷ ms 4 ∷ [])) (4 ∷ 1 ∷ 0 ∷ 3 ∷ [])
    ∷ peers 4 3 1 (of_one (ms 1 ∷ ms 3 ∷ ms 2 ∷ ms 0 ∷ [])) (1 ∷ 2 ∷ 0 ∷ [])
    ∷ peers 3 7 1 (of_one (ms 2 ∷ ms 3 ∷ ms 1 ∷ [])) (1 ∷ 0 ∷ 2 ∷ [])
    -- all level: by number; some level
    ∷ peers 5 2 1 (of_one (ms 1 ∷ ms 1 ∷ ms 0 ∷ ms 1 ∷ ms 1 ∷ [])) (0 ∷ 1 ∷ 3 ∷ 4 ∷ [])
    ∷ peers 6 0 1 (of_one (ms 0 ∷ ms 2 ∷ ms 3 ∷ ms 2 ∷ ms 3 ∷ ms 2 ∷ [])) (2 ∷ 4 ∷ 1 ∷ 3 ∷ 5 ∷ [])
    -- silence before all times, also before the largest double; all silent
    ∷ peers 5 0 1 (of_one (ms 0 ∷ ms 2 ∷ silence ∷ ms 3 ∷ silence ∷ [])) (2 ∷ 4 ∷ 3 ∷ 1 ∷ [])
    ∷ peers 3 0 1 (of_one (ms 0 ∷ of_bits binary64 0x7fef_ffff_ffff_ffff ∷ silence ∷ [])) (2 ∷ 1 ∷ [])
    ∷ peers 4 1 1 (of_one (silence ∷ ms 0 ∷ silence ∷ silence ∷ [])) (0 ∷ 2 ∷ 3 ∷ [])
    -- +0 before -0; the smallest double, -0, -1, -2
    ∷ peers 5 0 1 (of_one (ms 0 ∷ minus 0 ∷ ms 0 ∷ minus 0 ∷ ms 0 ∷ [])) (2 ∷ 4 ∷ 1 ∷ 3 ∷ [])
    ∷ peers 5 0 1 (of_one (ms 0 ∷ minus 2 ∷ minus 1 ∷ minus 0 ∷ of_bits binary64 1 ∷ [])) (4 ∷ 3 ∷ 2 ∷ 1 ∷ [])
    -- 0.3 and the double after it
    ∷ peers 3 0 1 (of_one (ms 0 ∷ of_bits binary64 0x3fd3_3333_3333_3333 ∷ of_bits binary64 0x3fd3_3333_3333_3334 ∷ [])) (2 ∷ 1 ∷ [])
    -- sixteen
    ∷ peers 16 5 1 (of_one (ms 7 ∷ ms 3 ∷ ms 11 ∷ ms 3 ∷ silence ∷ ms 0 ∷ ms 2 ∷ silence ∷ ms 7 ∷ ms 1 ∷ ms 5 ∷ ms 13 ∷ ms 2 ∷ ms 8 ∷ ms 3 ∷ ms 6 ∷ [])) (4 ∷ 7 ∷ 11 ∷ 2 ∷ 13 ∷ 0 ∷ 8 ∷ 15 ∷ 10 ∷ 1 ∷ 3 ∷ 14 ∷ 6 ∷ 12 ∷ 9 ∷ [])
    ∷ []

ordered : map (λ (l : Peers). trim_order l.n l.own l.d l.times) orders ≡ map (λ (l : Peers). l.says) orders
unfolding ms minus silence of_one peers orders trim_order peers_of those_below by_key total_le of_bits
ordered = refl

-- ---- trimmed loads

-- any one of three fails; any two of four
ones : List ℕ
ones = 1 ∷ 2 ∷ 4 ∷ []

pairs : List ℕ
pairs = 3 ∷ 5 ∷ 6 ∷ 9 ∷ 10 ∷ 12 ∷ []

record Line : Type 0 where
  n : ℕ
  quorum : ℕ
  d : ℕ
  total : TotalShards
  answered : ℕ
  faults : List ℕ
  order : List ℕ
  loads : List ℕ
  says : List ℕ

line : ℕ → ℕ → ℕ → TotalShards → ℕ → List ℕ → List ℕ → List ℕ → List ℕ → Line
line n quorum d total answered faults order loads says = record { n = n; quorum = quorum; d = d; total = total; answered = answered; faults = faults; order = order; loads = loads; says = says }

sheet : List Line
unfolding line ones pairs
sheet =
    -- document 01's 2 MiB to three replicas: with f 1 both trials are refused, with f 0 both are kept
    line 3 2 2 (AtMost 3) 7 ones (1 ∷ 2 ∷ []) (2 ∷ 1 ∷ 1 ∷ []) (2 ∷ 1 ∷ 1 ∷ [])
    ∷ line 3 2 2 (AtMost 3) 7 (0 ∷ []) (1 ∷ 2 ∷ []) (2 ∷ 1 ∷ 1 ∷ []) (2 ∷ 0 ∷ 0 ∷ [])
    -- a pass takes one from each in turn, and there are several; the first in the order gives the odd one
    ∷ line 3 2 4 (AtMost 8) 7 ones (1 ∷ 2 ∷ []) (4 ∷ 4 ∷ 4 ∷ []) (4 ∷ 2 ∷ 2 ∷ [])
    ∷ line 3 2 3 (AtMost 8) 7 ones (1 ∷ 2 ∷ []) (3 ∷ 3 ∷ 3 ∷ []) (3 ∷ 1 ∷ 2 ∷ [])
    ∷ line 3 2 3 (AtMost 8) 7 ones (2 ∷ 1 ∷ []) (3 ∷ 3 ∷ 3 ∷ []) (3 ∷ 2 ∷ 1 ∷ [])
    -- who is not named keeps its load; nobody named; our own named; a replica past the list is passed over
    ∷ line 3 2 4 (AtMost 8) 7 ones (2 ∷ []) (4 ∷ 4 ∷ 4 ∷ []) (4 ∷ 4 ∷ 0 ∷ [])
    ∷ line 3 2 4 (AtMost 8) 7 ones [] (4 ∷ 4 ∷ 4 ∷ []) (4 ∷ 4 ∷ 4 ∷ [])
    ∷ line 3 2 4 (AtMost 8) 7 ones (0 ∷ 1 ∷ 2 ∷ []) (4 ∷ 4 ∷ 4 ∷ []) (2 ∷ 2 ∷ 2 ∷ [])
    ∷ line 3 2 3 (AtMost 8) 7 ones (3 ∷ 2 ∷ 9 ∷ 1 ∷ []) (3 ∷ 3 ∷ 3 ∷ []) (3 ∷ 2 ∷ 1 ∷ [])
    -- the width is dealt anew in a trial: with load 1 for the replica 1 it is 3, and they commit; they would not with the 2 of before
    ∷ line 4 3 2 (AtMost 3) 15 pairs (1 ∷ 2 ∷ 3 ∷ []) (2 ∷ 2 ∷ 1 ∷ 1 ∷ []) (2 ∷ 1 ∷ 1 ∷ 1 ∷ [])
    -- the load of 4 falls in the second pass only (below)
    ∷ line 5 3 3 (AtMost 5) 31 (2 ∷ 16 ∷ 13 ∷ []) (2 ∷ 4 ∷ 3 ∷ 1 ∷ []) (3 ∷ 2 ∷ 2 ∷ 2 ∷ 3 ∷ []) (3 ∷ 1 ∷ 0 ∷ 0 ∷ 2 ∷ [])
    -- a ceiling of 2, an exact width of 2, of 3 and of 4
    ∷ line 4 3 2 (AtMost 2) 15 pairs (1 ∷ 2 ∷ 3 ∷ []) (2 ∷ 2 ∷ 1 ∷ 1 ∷ []) (2 ∷ 2 ∷ 1 ∷ 1 ∷ [])
    ∷ line 4 3 2 (Exactly 2) 15 pairs (1 ∷ 2 ∷ 3 ∷ []) (2 ∷ 2 ∷ 1 ∷ 1 ∷ []) (2 ∷ 2 ∷ 1 ∷ 1 ∷ [])
    ∷ line 4 3 2 (Exactly 3) 15 pairs (1 ∷ 2 ∷ 3 ∷ []) (2 ∷ 2 ∷ 1 ∷ 1 ∷ []) (2 ∷ 1 ∷ 1 ∷ 1 ∷ [])
    ∷ line 4 3 2 (Exactly 2) 15 pairs (1 ∷ 2 ∷ 3 ∷ []) (2 ∷ 2 ∷ 2 ∷ 2 ∷ []) (2 ∷ 1 ∷ 1 ∷ 2 ∷ [])
    ∷ line 4 3 2 (Exactly 4) 15 pairs (1 ∷ 2 ∷ 3 ∷ []) (2 ∷ 2 ∷ 2 ∷ 2 ∷ []) (2 ∷ 1 ∷ 1 ∷ 1 ∷ [])
    -- the replica 1 is silent: it counts for no quorum and holds no shard
    ∷ line 4 3 2 (AtMost 3) 13 (1 ∷ 2 ∷ 4 ∷ 8 ∷ []) (2 ∷ 1 ∷ 3 ∷ []) (2 ∷ 0 ∷ 2 ∷ 2 ∷ []) (2 ∷ 0 ∷ 1 ∷ 1 ∷ [])
    ∷ line 3 2 2 (AtMost 3) 5 ones (2 ∷ 1 ∷ []) (2 ∷ 0 ∷ 2 ∷ []) (2 ∷ 0 ∷ 2 ∷ [])
    ∷ line 3 2 2 (AtMost 3) 5 (0 ∷ []) (2 ∷ 1 ∷ []) (2 ∷ 0 ∷ 2 ∷ []) (2 ∷ 0 ∷ 0 ∷ [])
    ∷ line 3 3 2 (AtMost 3) 5 (0 ∷ []) (2 ∷ 1 ∷ []) (2 ∷ 0 ∷ 2 ∷ []) (2 ∷ 0 ∷ 2 ∷ [])
    -- nobody answers; alone; loads above d; 16 shards
    ∷ line 3 0 2 (AtMost 3) 0 (0 ∷ []) (1 ∷ 2 ∷ []) (0 ∷ 0 ∷ 0 ∷ []) (0 ∷ 0 ∷ 0 ∷ [])
    ∷ line 1 1 1 (AtMost 1) 1 (0 ∷ []) [] (1 ∷ []) (1 ∷ [])
    ∷ line 3 2 2 (AtMost 4) 7 ones (1 ∷ 2 ∷ []) (2 ∷ 4 ∷ 3 ∷ []) (2 ∷ 1 ∷ 1 ∷ [])
    ∷ line 3 2 16 (AtMost 64) 7 ones (1 ∷ 2 ∷ []) (16 ∷ 16 ∷ 16 ∷ []) (16 ∷ 8 ∷ 8 ∷ [])
    ∷ []

trims : map (λ (l : Line). trimmed (layout_commits l.n l.quorum l.d l.total l.answered l.faults) l.order l.loads) sheet ≡ map (λ (l : Line). l.says) sheet
unfolding ones pairs line sheet trimmed trimmed_in keeps tried layout_commits rows_of row_for width_of each_below gather commits is_covered leaves union_of count
trims = refl

-- ---- a load that falls in the second pass only, in the order 2, 4, 3, 1: that of 4
five : TotalShards → List ℕ → Bool
five total = layout_commits 5 3 3 total 31 (2 ∷ 16 ∷ 13 ∷ [])

-- the loads after no pass, after one, two and three
passes : map (λ (m : ℕ). trimmed_in (five (AtMost 5)) m (2 ∷ 4 ∷ 3 ∷ 1 ∷ []) (3 ∷ 2 ∷ 2 ∷ 2 ∷ 3 ∷ [])) (0 ∷ 1 ∷ 2 ∷ 3 ∷ [])
    ≡ (3 ∷ 2 ∷ 2 ∷ 2 ∷ 3 ∷ [])
    ∷ (3 ∷ 1 ∷ 1 ∷ 1 ∷ 3 ∷ [])
    ∷ (3 ∷ 1 ∷ 0 ∷ 0 ∷ 2 ∷ [])
    ∷ (3 ∷ 1 ∷ 0 ∷ 0 ∷ 2 ∷ [])
    ∷ []
unfolding five trimmed_in keeps tried layout_commits rows_of row_for width_of each_below gather commits is_covered leaves union_of count
passes = refl

-- the widths of its trial in the first pass, before that in the second, and of that in the second
widths : map (width_of 3 (AtMost 5)) ((3 ∷ 2 ∷ 1 ∷ 2 ∷ 2 ∷ []) ∷ (3 ∷ 1 ∷ 0 ∷ 1 ∷ 3 ∷ []) ∷ (3 ∷ 1 ∷ 0 ∷ 1 ∷ 2 ∷ []) ∷ []) ≡ 5 ∷ 3 ∷ 4 ∷ []
unfolding width_of
widths = refl

-- the second trial commits in its own width, and in the 3 of before it does not
widened : map (λ (total : TotalShards). five total (3 ∷ 1 ∷ 0 ∷ 1 ∷ 2 ∷ [])) (AtMost 5 ∷ Exactly 4 ∷ Exactly 3 ∷ []) ≡ true ∷ true ∷ false ∷ []
unfolding five layout_commits rows_of row_for width_of each_below gather commits is_covered leaves union_of count
widened = refl
