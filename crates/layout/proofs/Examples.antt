-- Worked values of the two entries, computed by the checker: widths, rows, each refusal, and which of two comes first. Assumes nothing.
use mathlib.Core.Path.{◌≡◌, refl}
use mathlib.Core.Bool.{Bool, true, false}
use mathlib.Core.List.{List, [], ◌∷◌, map}
use Prim.Native.Nat.{ℕ, ◌+◌, ◌-◌, ◌*◌, ◌^◌}
use lib.ListN.{replicate}
use Rattle.lists.specs.Below.{each_below}
use Rattle.bitmap.specs.Mask.{count, gather}
use Rattle.refusals.specs.Outcome.{Outcome, refused, accepted}
use Rattle.refusals.specs.Limits.{is_population, is_shards, is_quorum, is_fault_list}
use Rattle.coverage.specs.Coverage.{union_of, leaves, is_covered, commits}
use Rattle.rows.specs.Row.{value, words_of, spelled}
use Rattle.layout.specs.declared.TotalShards.{TotalShards}
use Rattle.layout.specs.declared.TotalShards.TheVariants.{Exactly, AtMost}
use Rattle.layout.specs.Layout.{width_of, row_for, rows_of, layout_commits, heard_loads, rows_refusal, layout_rows_of, rows_written, commits_refusal, layout_commits_of, trial_written}

-- the lent words: k of them, each 99
lent : ℕ → List ℕ
lent k = replicate k 99

-- the words at exit: those of the rows that are written, or what the buffer held
table : {A : Type 0} → Outcome A → ℕ → List ℕ → List ℕ
table (accepted a) room rows = spelled rows
table (refused k) room rows = lent room

-- ---- `layout_rows`: the population, the data shards, the total, the loads, how many words are lent; then the answer, and the words at exit
record Line : Type 0 where
  n : ℕ
  d : ℕ
  total : TotalShards
  loads : List ℕ
  room : ℕ
  says : Outcome ℕ × List ℕ

line : ℕ → ℕ → TotalShards → List ℕ → ℕ → Outcome ℕ → List ℕ → Line
line n d total loads room answer words = record { n = n; d = d; total = total; loads = loads; room = room * 4; says = (answer, table answer (room * 4) words) }

sheet : List Line
unfolding lent line
sheet =
    -- a ceiling with room; one without, where the last load wraps round; exact widths
    line 4 4 (AtMost 10) (4 ∷ 2 ∷ 2 ∷ 1 ∷ []) 4 (accepted 5) (15 ∷ 3 ∷ 12 ∷ 16 ∷ [])
    ∷ line 4 4 (AtMost 4) (4 ∷ 2 ∷ 2 ∷ 1 ∷ []) 4 (accepted 4) (15 ∷ 3 ∷ 12 ∷ 1 ∷ [])
    ∷ line 4 4 (Exactly 10) (4 ∷ 2 ∷ 2 ∷ 1 ∷ []) 4 (accepted 10) (15 ∷ 3 ∷ 12 ∷ 16 ∷ [])
    ∷ line 4 4 (Exactly 4) (4 ∷ 2 ∷ 2 ∷ 1 ∷ []) 4 (accepted 4) (15 ∷ 3 ∷ 12 ∷ 1 ∷ [])
    -- a full row among the others; loads above d; no load; loads of fewer than d together
    ∷ line 3 4 (AtMost 10) (2 ∷ 4 ∷ 2 ∷ []) 3 (accepted 4) (3 ∷ 15 ∷ 12 ∷ [])
    ∷ line 4 4 (AtMost 10) (9 ∷ 5 ∷ 0xffff_ffff_ffff_ffff ∷ 1 ∷ []) 4 (accepted 4) (15 ∷ 15 ∷ 15 ∷ 1 ∷ [])
    ∷ line 3 4 (AtMost 10) (0 ∷ 0 ∷ 0 ∷ []) 3 (accepted 4) (0 ∷ 0 ∷ 0 ∷ [])
    ∷ line 3 4 (AtMost 10) (1 ∷ 0 ∷ 1 ∷ []) 3 (accepted 4) (1 ∷ 0 ∷ 2 ∷ [])
    -- a row that wraps round; offsets that go round twice
    ∷ line 3 4 (AtMost 5) (3 ∷ 3 ∷ 3 ∷ []) 3 (accepted 5) (0b111 ∷ 0b11001 ∷ 0b1110 ∷ [])
    ∷ line 4 3 (Exactly 3) (2 ∷ 2 ∷ 2 ∷ 2 ∷ []) 4 (accepted 3) (0b11 ∷ 0b101 ∷ 0b110 ∷ 0b11 ∷ [])
    -- one replica; words with every bit
    ∷ line 1 1 (AtMost 1) (0 ∷ []) 1 (accepted 1) (0 ∷ [])
    ∷ line 1 1 (AtMost 64) (1 ∷ []) 1 (accepted 1) (1 ∷ [])
    ∷ line 1 2 (AtMost 64) (1 ∷ []) 1 (accepted 2) (1 ∷ [])
    ∷ line 2 64 (AtMost 64) (64 ∷ 63 ∷ []) 2 (accepted 64) (0xffff_ffff_ffff_ffff ∷ 0x7fff_ffff_ffff_ffff ∷ [])
    ∷ line 2 64 (Exactly 64) (40 ∷ 40 ∷ []) 2 (accepted 64) (0xff_ffff_ffff ∷ 0xffff_ff00_0000_ffff ∷ [])
    -- rows of four words: one that wraps round at 255, and one that is full
    ∷ line 3 255 (Exactly 255) (200 ∷ 100 ∷ 255 ∷ []) 3 (accepted 255) ((2 ^ 200 - 1) ∷ (2 ^ 255 - 2 ^ 200 + 2 ^ 45 - 1) ∷ (2 ^ 255 - 1) ∷ [])
    -- the population; the shards; the loads' length; the rows'
    ∷ line 0 2 (AtMost 4) [] 0 (refused 1) []
    ∷ line 17 2 (AtMost 4) (replicate 17 1) 17 (refused 1) (lent 17)
    ∷ line 3 0 (AtMost 4) (1 ∷ 1 ∷ 1 ∷ []) 3 (refused 4) (lent 3)
    ∷ line 3 2 (AtMost 1) (1 ∷ 1 ∷ 1 ∷ []) 3 (refused 4) (lent 3)
    ∷ line 3 2 (Exactly 1) (1 ∷ 1 ∷ 1 ∷ []) 3 (refused 4) (lent 3)
    ∷ line 3 2 (AtMost 256) (1 ∷ 1 ∷ 1 ∷ []) 3 (refused 4) (lent 3)
    ∷ line 3 2 (AtMost 4) (1 ∷ 1 ∷ []) 3 (refused 17) (lent 3)
    ∷ line 3 2 (AtMost 4) (1 ∷ 1 ∷ 1 ∷ []) 2 (refused 17) (lent 2)
    ∷ line 3 2 (AtMost 4) (1 ∷ 1 ∷ 1 ∷ []) 4 (refused 17) (lent 4)
    -- two cases hold: the first refuses
    ∷ line 17 0 (AtMost 4) [] 0 (refused 1) []
    ∷ line 3 5 (AtMost 4) (1 ∷ 1 ∷ []) 3 (refused 4) (lent 3)
    ∷ []

laid : Line → Outcome ℕ × List ℕ
laid l = (layout_rows_of l.n l.d l.total l.loads l.room, rows_written l.n l.d l.total l.loads (lent l.room))

rows : map laid sheet ≡ map (λ (l : Line). l.says) sheet
unfolding value words_of spelled table lent line sheet laid layout_rows_of rows_written rows_refusal is_population is_shards width_of rows_of row_for each_below gather
rows = refl

-- ---- `layout_commits`: the quorum, those that answer and the fault list too

-- one of three replicas fails: the masks of 0, of 1 and of 2
ones : List ℕ
ones = 1 ∷ 2 ∷ 4 ∷ []

record Trial : Type 0 where
  n : ℕ
  quorum : ℕ
  d : ℕ
  total : TotalShards
  answered : ℕ
  loads : List ℕ
  faults : List ℕ
  room : ℕ
  says : Outcome (ℕ × Bool) × List ℕ

trial : ℕ → ℕ → ℕ → TotalShards → ℕ → List ℕ → List ℕ → ℕ → Outcome (ℕ × Bool) → List ℕ → Trial
trial n quorum d total answered loads faults room answer words =
    record { n = n; quorum = quorum; d = d; total = total; answered = answered; loads = loads; faults = faults; room = room * 4; says = (answer, table answer (room * 4) words) }

trials : List Trial
unfolding lent ones trial
trials =
    -- yes; no, since under this ceiling two replicas hold the same shard; no, since fewer than a quorum answer
    trial 3 2 2 (AtMost 6) 7 (1 ∷ 1 ∷ 1 ∷ []) ones 3 (accepted (3, true)) (1 ∷ 2 ∷ 4 ∷ [])
    ∷ trial 3 2 2 (AtMost 2) 7 (1 ∷ 1 ∷ 1 ∷ []) ones 3 (accepted (2, false)) (1 ∷ 2 ∷ 1 ∷ [])
    ∷ trial 3 2 2 (AtMost 6) 3 (2 ∷ 2 ∷ 0 ∷ []) ones 3 (accepted (2, true)) (3 ∷ 3 ∷ 0 ∷ [])
    ∷ trial 3 3 2 (AtMost 6) 3 (2 ∷ 2 ∷ 0 ∷ []) ones 3 (accepted (2, false)) (3 ∷ 3 ∷ 0 ∷ [])
    -- a replica that does not answer, with a load; nobody answers; an exact width
    ∷ trial 3 2 2 (AtMost 6) 6 (1 ∷ 1 ∷ 1 ∷ []) (1 ∷ []) 3 (accepted (2, true)) (0 ∷ 1 ∷ 2 ∷ [])
    ∷ trial 3 1 2 (AtMost 6) 0 (2 ∷ 2 ∷ 2 ∷ []) ones 3 (accepted (2, false)) (0 ∷ 0 ∷ 0 ∷ [])
    ∷ trial 3 2 2 (Exactly 6) 7 (1 ∷ 1 ∷ 1 ∷ []) ones 3 (accepted (6, true)) (1 ∷ 2 ∷ 4 ∷ [])
    -- the population; the shards; the quorum; those that answer
    ∷ trial 0 1 2 (AtMost 6) 0 [] ones 0 (refused 1) []
    ∷ trial 17 2 2 (AtMost 6) 7 (replicate 17 1) ones 17 (refused 1) (lent 17)
    ∷ trial 3 2 0 (AtMost 6) 7 (1 ∷ 1 ∷ 1 ∷ []) ones 3 (refused 4) (lent 3)
    ∷ trial 3 2 2 (Exactly 1) 7 (1 ∷ 1 ∷ 1 ∷ []) ones 3 (refused 4) (lent 3)
    ∷ trial 3 0 2 (AtMost 6) 7 (1 ∷ 1 ∷ 1 ∷ []) ones 3 (refused 5) (lent 3)
    ∷ trial 3 4 2 (AtMost 6) 7 (1 ∷ 1 ∷ 1 ∷ []) ones 3 (refused 5) (lent 3)
    ∷ trial 3 2 2 (AtMost 6) 8 (1 ∷ 1 ∷ 1 ∷ []) ones 3 (refused 16) (lent 3)
    -- the loads' length; no set, one of all three, one with a fourth; the rows' length
    ∷ trial 3 2 2 (AtMost 6) 7 (1 ∷ 1 ∷ []) ones 3 (refused 17) (lent 3)
    ∷ trial 3 2 2 (AtMost 6) 7 (1 ∷ 1 ∷ 1 ∷ []) [] 3 (refused 17) (lent 3)
    ∷ trial 3 2 2 (AtMost 6) 7 (1 ∷ 1 ∷ 1 ∷ []) (1 ∷ 7 ∷ []) 3 (refused 17) (lent 3)
    ∷ trial 3 2 2 (AtMost 6) 7 (1 ∷ 1 ∷ 1 ∷ []) (1 ∷ 8 ∷ []) 3 (refused 17) (lent 3)
    ∷ trial 3 2 2 (AtMost 6) 7 (1 ∷ 1 ∷ 1 ∷ []) ones 4 (refused 17) (lent 4)
    -- two cases hold: the first refuses
    ∷ trial 17 0 0 (AtMost 6) 7 [] ones 0 (refused 1) []
    ∷ trial 3 0 7 (AtMost 6) 7 (1 ∷ 1 ∷ 1 ∷ []) ones 3 (refused 4) (lent 3)
    ∷ trial 3 4 2 (AtMost 6) 8 (1 ∷ 1 ∷ 1 ∷ []) ones 3 (refused 5) (lent 3)
    ∷ trial 3 2 2 (AtMost 6) 8 (1 ∷ 1 ∷ []) [] 2 (refused 16) (lent 2)
    ∷ []

tested : Trial → Outcome (ℕ × Bool) × List ℕ
tested t = (
  layout_commits_of t.n t.quorum t.d t.total t.answered t.loads t.faults t.room,
  trial_written t.n t.quorum t.d t.total t.answered t.loads t.faults (lent t.room),
)

answers : map tested trials ≡ map (λ (t : Trial). t.says) trials
unfolding value words_of spelled table lent ones trial trials tested layout_commits_of trial_written commits_refusal is_population is_shards is_quorum is_fault_list heard_loads
    layout_commits commits is_covered leaves union_of count width_of rows_of row_for each_below gather
answers = refl
