-- Worked values, computed by the checker: plans and full copies as the Rust gives them, each refusal, and which of two comes first. Assumes nothing.
use mathlib.Core.Path.{◌≡◌, refl}
use mathlib.Core.List.{List, [], ◌∷◌, map}
use Rattle.std.specs.Prelude.{Option, None, Some}
use Prim.Native.Nat.{ℕ, ◌*◌}
use lib.ListN.{length, replicate}
use lib.Ieee.{binary64, add, mul, div, of_int, of_bits, to_bits, le}
use Rattle.lists.specs.Below.{some_below, those_below, run_from, each_below}
use Rattle.lists.specs.Sort.{by_key}
use Rattle.bitmap.specs.Mask.{count, mask_below, gather}
use Rattle.floats.specs.Floats.{is_finite, total_le}
use Rattle.rows.specs.Row.{value, words_of, spelled}
use Rattle.refusals.specs.Outcome.{Outcome, refused, accepted}
use Rattle.refusals.specs.Limits.{peers_fit, is_population, is_shards, is_quorum, is_fault_list}
use Rattle.coverage.specs.Coverage.{union_of, leaves, is_covered, commits}
use Rattle.layout.specs.declared.TotalShards.{TotalShards}
use Rattle.layout.specs.declared.TotalShards.TheVariants.{Exactly, AtMost}
use Rattle.layout.specs.Layout.{width_of, row_for, rows_of, layout_commits}
use Rattle.times.specs.declared.Peer.TheVariants.{Silent}
use Rattle.times.specs.declared.PeerRecord.{PeerRecord}
use Rattle.times.specs.Times.{predict_of, settled, reply_time, time_at, shard_length, silent, times_of}
use Rattle.times.proofs.Worked.{one, two, three, minus_zero, infinity, no_number}
use Rattle.times.proofs.Worked as Worked
use Rattle.trimming.specs.Order.{peers_of, trim_order}
use Rattle.trimming.specs.Trimming.{keeps, tried, trimmed_in, trimmed}
use Rattle.candidates.specs.Search.{run_at, answered_at, loads_at, commits_at, first_time}
use Rattle.assignment.specs.Plans.{Plan, loads_for, plan_of, pick_refusal, pick_of, planned, copies_refusal, full_copies_of, copies_written}

-- ---- peers: of slope, delay, jitter, unreliability and bytes in flight
abbrev heard : ℕ → ℕ → ℕ → ℕ → ℕ → PeerRecord
heard slope delay jitter unreliability inflight = record { peer = Worked.heard slope delay jitter unreliability; inflight = inflight }

abbrev quiet : ℕ → PeerRecord
quiet inflight = record { peer = Silent; inflight = inflight }

-- slope 1 and delay 1; every time -0
abbrev usual : PeerRecord
usual = heard one one 0 0 0

abbrev minus : PeerRecord
minus = heard minus_zero minus_zero minus_zero minus_zero 0

abbrev both : List PeerRecord
both = silent ∷ usual ∷ usual ∷ []

-- ---- fault lists: one of three replicas fails; none does; two of four do
abbrev ones : List ℕ
ones = 1 ∷ 2 ∷ 4 ∷ []

abbrev nobody : List ℕ
nobody = 0 ∷ []

abbrev pairs : List ℕ
pairs = 3 ∷ 5 ∷ 9 ∷ 6 ∷ 10 ∷ 12 ∷ []

-- ---- `pick_assignment`

-- a plan with its time's bits
abbrev Told : Type 0
Told = Outcome (Option (ℕ × ℕ × List ℕ))

abbrev told : Outcome (Option Plan) → Told
told (refused k) = refused k
told (accepted None) = accepted None
told (accepted (Some p)) = accepted (Some (to_bits binary64 p.time, p.width, p.rows))

abbrev plan : ℕ → ℕ → List ℕ → Told
plan time width rows = accepted (Some (time, width, rows))

record Line : Type 0 where
  n : ℕ
  own : ℕ
  quorum : ℕ
  d : ℕ
  total : TotalShards
  size : ℕ
  peers : List PeerRecord
  penalty : ℕ
  faults : List ℕ
  rows : ℕ
  says : Told

line : ℕ → ℕ → ℕ → ℕ → TotalShards → ℕ → List PeerRecord → ℕ → List ℕ → ℕ → Told → Line
line n own quorum d total size peers penalty faults rows says = record { n = n; own = own; quorum = quorum; d = d; total = total; size = size; peers = peers; penalty = penalty; faults = faults; rows = rows * 4; says = says }

-- n, our own number, quorum, d, total, size, peers, penalty, fault list, length of the lent table; the result
sheet : List Line
unfolding line
sheet =
    -- the document: one of three may fail; nobody may; both peers silent
    line 3 0 2 2 (AtMost 3) 2097152 both 0 ones 3 (plan two 2 (3 ∷ 1 ∷ 2 ∷ []))
    ∷ line 3 0 2 2 (AtMost 3) 2097152 both 0 nobody 3 (plan one 2 (3 ∷ 0 ∷ 0 ∷ []))
    ∷ line 3 0 2 2 (AtMost 3) 2097152 (silent ∷ silent ∷ silent ∷ []) 0 ones 3 (accepted None)
    -- alone; a quorum of three, and of three with one silent
    ∷ line 1 0 1 2 (AtMost 3) 2097152 (silent ∷ []) 0 nobody 1 (plan 0 2 (3 ∷ []))
    ∷ line 3 0 3 2 (AtMost 3) 2097152 both 0 nobody 3 (plan one 2 (3 ∷ 0 ∷ 0 ∷ []))
    ∷ line 3 0 3 2 (AtMost 3) 2097152 (silent ∷ usual ∷ silent ∷ []) 0 nobody 3 (accepted None)
    -- a candidate outside the run: falling times, of which the last is taken, where nobody but ourselves has to answer
    ∷ line 2 0 1 2 (AtMost 3) 2097152 (silent ∷ heard 0xbff0_0000_0000_0000 0 0 0 0 ∷ []) 0 nobody 2 (plan 0xc000_0000_0000_0000 2 (3 ∷ 0 ∷ []))
    -- the largest population and ceiling
    ∷ line 16 0 1 2 (AtMost 64) 2097152 (silent ∷ []) 0 nobody 16 (plan 0 2 (3 ∷ 0 ∷ 0 ∷ 0 ∷ 0 ∷ 0 ∷ 0 ∷ 0 ∷ 0 ∷ 0 ∷ 0 ∷ 0 ∷ 0 ∷ 0 ∷ 0 ∷ 0 ∷ []))
    -- our own is the last; bytes in flight; unreliability at a penalty
    ∷ line 3 2 2 2 (AtMost 3) 2097152 (usual ∷ usual ∷ silent ∷ []) 0 ones 3 (plan two 2 (1 ∷ 2 ∷ 3 ∷ []))
    ∷ line 3 0 2 2 (AtMost 3) 2097152 (silent ∷ heard one one 0 0 1048576 ∷ usual ∷ []) 0 ones 3 (plan three 2 (3 ∷ 0 ∷ 3 ∷ []))
    ∷ line 3 0 2 2 (AtMost 3) 2097152 (silent ∷ heard one one 0 0x3fe0_0000_0000_0000 0 ∷ usual ∷ []) three ones 3 (plan three 2 (3 ∷ 0 ∷ 3 ∷ []))
    -- -0 is returned, and +0 is at most it
    ∷ line 3 0 3 1 (AtMost 3) 0 (silent ∷ minus ∷ heard 0 0 0 0 0 ∷ []) one nobody 3 (plan minus_zero 1 (1 ∷ 0 ∷ 0 ∷ []))
    -- a NaN slope; a delay of infinity, of -infinity
    ∷ line 3 0 2 2 (AtMost 3) 2097152 (silent ∷ heard no_number one 0 0 0 ∷ usual ∷ []) 0 ones 3 (plan three 2 (3 ∷ 0 ∷ 3 ∷ []))
    ∷ line 3 0 2 2 (AtMost 3) 2097152 (silent ∷ usual ∷ heard one infinity 0 0 0 ∷ []) 0 ones 3 (plan three 2 (3 ∷ 3 ∷ 0 ∷ []))
    ∷ line 3 0 2 2 (AtMost 3) 2097152 (silent ∷ heard one 0xfff0_0000_0000_0000 0 0 0 ∷ heard one infinity 0 0 0 ∷ []) 0 ones 3 (accepted None)
    -- times below 0
    ∷ line 3 0 2 2 (AtMost 3) 2097152 (silent ∷ heard one 0xc014_0000_0000_0000 0 0 0 ∷ heard one 0xc010_0000_0000_0000 0 0 0 ∷ []) 0 ones 3 (plan 0xc008_0000_0000_0000 2 (3 ∷ 3 ∷ 0 ∷ []))
    -- a falling slope: with two shards it is in time at 1, but with none only at 3, and so it does not answer before
    ∷ line 3 0 2 2 (AtMost 3) 2097152 (silent ∷ heard 0xbff0_0000_0000_0000 three 0 0 0 ∷ silent ∷ []) 0 nobody 3 (plan three 2 (3 ∷ 0 ∷ 0 ∷ []))
    -- its time with two shards is -infinity: the run ends at one
    ∷ line 3 0 2 2 (AtMost 3) 2097152 (silent ∷ heard 0xffef_ffff_ffff_ffff 0 0 0 0 ∷ heard 0xffef_ffff_ffff_ffff 0 0 0 0 ∷ []) 0 ones 3 (plan 0 2 (3 ∷ 1 ∷ 2 ∷ []))
    ∷ line 3 0 2 2 (AtMost 3) 2097152 (silent ∷ heard 0xffef_ffff_ffff_ffff 0 0 0 0 ∷ silent ∷ []) 0 ones 3 (accepted None)
    -- trimming: of peers with equal times the lower number first; a peer that is too slow; +0 before -0
    ∷ line 3 0 2 3 (AtMost 3) 2097152 (silent ∷ heard 0 one 0 0 0 ∷ heard 0 one 0 0 0 ∷ []) 0 ones 3 (plan one 3 (7 ∷ 1 ∷ 6 ∷ []))
    ∷ line 3 0 2 3 (AtMost 3) 2097152 (silent ∷ heard 0 one 0 0 0 ∷ heard 0 two 0 0 0 ∷ []) 0 ones 3 (plan one 3 (7 ∷ 7 ∷ 0 ∷ []))
    ∷ line 3 0 2 3 (AtMost 3) 0 (silent ∷ minus ∷ heard 0 0 0 0 0 ∷ []) one ones 3 (plan minus_zero 3 (7 ∷ 3 ∷ 4 ∷ []))
    -- the slower first, by the time with d shards
    ∷ line 3 0 2 3 (AtMost 3) 3145728 (silent ∷ heard 0x3fe0_0000_0000_0000 one 0 0 0 ∷ heard one 0 0 0 0 ∷ []) 0 ones 3 (plan two 3 (7 ∷ 3 ∷ 4 ∷ []))
    -- width dealt anew after a trim; under a lower ceiling
    ∷ line 4 0 2 3 (AtMost 8) 2097152 (silent ∷ heard 0 one 0 0 0 ∷ heard 0 one 0 0 0 ∷ heard 0 one 0 0 0 ∷ []) 0 pairs 4 (plan one 5 (7 ∷ 1 ∷ 6 ∷ 24 ∷ []))
    ∷ line 4 0 2 3 (AtMost 4) 2097152 (silent ∷ heard 0 one 0 0 0 ∷ heard 0 one 0 0 0 ∷ heard 0 one 0 0 0 ∷ []) 0 pairs 4 (plan one 3 (7 ∷ 1 ∷ 6 ∷ 7 ∷ []))
    -- five replicas, all unlike, two of them fail: the dealing goes round
    ∷ line 5 1 3 4 (AtMost 6) 3000000 (heard 0x3ff4_cccc_cccc_cccd 0x3fe9_9999_9999_999a 0x3fa9_9999_9999_999a 0x3f50_624d_d2f1_a9fc 1048577 ∷ silent ∷ heard 0x3fe6_6666_6666_6666 0x3fb9_9999_9999_999a 0x3fb9_9999_9999_999a 0x3fb9_9999_9999_999a 4096 ∷ heard 0x3fe6_6666_6666_6666 0x3fd9_9999_9999_999a 0x3ff1_9999_9999_999a 0x3f84_7ae1_47ae_147b 4096 ∷ heard 0x3fa9_9999_9999_999a 0x3fe6_6666_6666_6666 0x4002_6666_6666_6666 0x3f84_7ae1_47ae_147b 1048577 ∷ []) 0x4025_6666_6666_6666 (3 ∷ 5 ∷ 9 ∷ 17 ∷ 6 ∷ 10 ∷ 18 ∷ 12 ∷ 20 ∷ 24 ∷ []) 5 (plan 0x4009_8ac7_3db2_2d0e 6 (1 ∷ 15 ∷ 14 ∷ 49 ∷ 2 ∷ []))
    -- exact widths
    ∷ line 3 0 2 2 (Exactly 2) 2097152 both 0 ones 3 (plan two 2 (3 ∷ 1 ∷ 2 ∷ []))
    ∷ line 3 0 2 2 (Exactly 5) 2097152 both 0 ones 3 (plan two 5 (3 ∷ 1 ∷ 2 ∷ []))
    -- our own record is unread, and so is one past the population
    ∷ line 3 0 2 2 (AtMost 3) 2097152 (heard no_number no_number no_number no_number 9223372036854775808 ∷ usual ∷ usual ∷ []) 0 ones 3 (plan two 2 (3 ∷ 1 ∷ 2 ∷ []))
    ∷ line 2 0 2 2 (AtMost 3) 2097152 (silent ∷ usual ∷ quiet 9223372036854775808 ∷ []) 0 nobody 2 (plan one 2 (3 ∷ 0 ∷ []))
    -- bytes in flight to a silent peer
    ∷ line 3 0 2 2 (AtMost 3) 2097152 (silent ∷ quiet 1099511627776 ∷ usual ∷ []) 0 ones 3 (plan three 2 (3 ∷ 0 ∷ 3 ∷ []))
    ∷ line 3 0 2 2 (AtMost 3) 2097152 (silent ∷ quiet 1099511627777 ∷ usual ∷ []) 0 ones 3 (refused 15)
    -- the population; our own number; the shards; the quorum; the size
    ∷ line 0 0 2 2 (AtMost 3) 2097152 both 0 ones 3 (refused 1)
    ∷ line 17 0 2 2 (AtMost 3) 2097152 both 0 ones 3 (refused 1)
    ∷ line 3 3 2 2 (AtMost 3) 2097152 both 0 ones 3 (refused 3)
    ∷ line 3 0 2 0 (AtMost 3) 2097152 both 0 ones 3 (refused 4)
    ∷ line 3 0 2 4 (AtMost 3) 2097152 both 0 ones 3 (refused 4)
    ∷ line 3 0 2 2 (Exactly 256) 2097152 both 0 ones 3 (refused 4)
    ∷ line 3 0 0 2 (AtMost 3) 2097152 both 0 ones 3 (refused 5)
    ∷ line 3 0 4 2 (AtMost 3) 2097152 both 0 ones 3 (refused 5)
    ∷ line 3 0 2 2 (AtMost 3) 1073741824 both 0 ones 3 (plan 0x4080_0800_0000_0000 2 (3 ∷ 1 ∷ 2 ∷ []))
    ∷ line 3 0 2 2 (AtMost 3) 1073741825 both 0 ones 3 (refused 15)
    -- no set, one of all three, one with a fourth; the rows
    ∷ line 3 0 2 2 (AtMost 3) 2097152 both 0 [] 3 (refused 17)
    ∷ line 3 0 2 2 (AtMost 3) 2097152 both 0 (1 ∷ 7 ∷ []) 3 (refused 17)
    ∷ line 3 0 2 2 (AtMost 3) 2097152 both 0 (1 ∷ 8 ∷ []) 3 (refused 17)
    ∷ line 3 0 2 2 (AtMost 3) 2097152 both 0 ones 4 (refused 17)
    -- two cases hold: the first refuses
    ∷ line 17 17 2 2 (AtMost 3) 2097152 both 0 ones 3 (refused 1)
    ∷ line 3 3 2 4 (AtMost 3) 2097152 both 0 ones 3 (refused 3)
    ∷ line 3 0 0 4 (AtMost 3) 2097152 both 0 ones 3 (refused 4)
    ∷ line 3 0 4 2 (AtMost 3) 1073741825 both 0 ones 3 (refused 5)
    ∷ line 3 0 2 2 (AtMost 3) 1073741825 both 0 [] 3 (refused 15)
    ∷ line 3 0 2 2 (AtMost 3) 2097152 (silent ∷ quiet 1099511627777 ∷ usual ∷ []) 0 ones 2 (refused 15)
    ∷ []

picks : map (λ (l : Line). told (pick_of l.n l.own l.quorum l.d l.total l.size l.peers (of_bits binary64 l.penalty) l.faults l.rows)) sheet ≡ map (λ (l : Line). l.says) sheet
unfolding line sheet pick_of pick_refusal peers_fit some_below is_population is_shards is_quorum is_fault_list plan_of first_time commits_at answered_at loads_at run_at run_from mask_below each_below loads_for shard_length times_of time_at reply_time settled predict_of is_finite add mul div of_int of_bits to_bits le total_le layout_commits commits is_covered leaves union_of count width_of row_for rows_of gather trimmed trimmed_in tried keeps trim_order peers_of those_below by_key
picks = refl

-- the lent table at exit, of a quorum and the peers: a plan's rows; and what it held, where both peers are silent, and where the quorum is
-- refused
abbrev table : ℕ → List PeerRecord → List ℕ
table quorum peers = planned (pick_of 3 0 quorum 2 (AtMost 3) 2097152 peers (of_bits binary64 0) ones 12) (replicate 12 9)

tables : (table 2 both ∷ table 2 (silent ∷ silent ∷ silent ∷ []) ∷ table 4 both ∷ [])
    ≡ ((3 ∷ 0 ∷ 0 ∷ 0 ∷ 1 ∷ 0 ∷ 0 ∷ 0 ∷ 2 ∷ 0 ∷ 0 ∷ 0 ∷ []) ∷ replicate 12 9 ∷ replicate 12 9 ∷ [])
unfolding words_of spelled pick_of pick_refusal peers_fit some_below is_population is_shards is_quorum is_fault_list plan_of first_time commits_at answered_at loads_at run_at run_from mask_below each_below loads_for shard_length times_of time_at reply_time settled predict_of is_finite add mul div of_int of_bits to_bits le total_le layout_commits commits is_covered leaves union_of count width_of row_for rows_of gather trimmed trimmed_in tried keeps trim_order peers_of those_below by_key
tables = refl

-- ---- `full_copies`
record Copy : Type 0 where
  n : ℕ
  d : ℕ
  total : TotalShards
  rows : List ℕ
  says : Outcome ℕ
  leaves : List ℕ

copy : ℕ → ℕ → TotalShards → List ℕ → Outcome ℕ → List ℕ → Copy
copy n d total rows says leaves = record { n = n; d = d; total = total; rows = spelled rows; says = says; leaves = spelled leaves }

-- n, d, total, the lent table; the result, and the table after it
copies : List Copy
unfolding copy
copies =
    -- under a ceiling; of an exact width
    copy 3 2 (AtMost 3) (9 ∷ 9 ∷ 9 ∷ []) (accepted 2) (3 ∷ 3 ∷ 3 ∷ [])
    ∷ copy 3 2 (Exactly 3) (9 ∷ 9 ∷ 9 ∷ []) (accepted 3) (3 ∷ 3 ∷ 3 ∷ [])
    ∷ copy 1 64 (AtMost 64) (9 ∷ []) (accepted 64) (0xffffffffffffffff ∷ [])
    -- the population; the shards; the rows
    ∷ copy 0 2 (AtMost 3) [] (refused 1) []
    ∷ copy 17 2 (AtMost 3) (9 ∷ 9 ∷ 9 ∷ []) (refused 1) (9 ∷ 9 ∷ 9 ∷ [])
    ∷ copy 3 0 (AtMost 3) (9 ∷ 9 ∷ 9 ∷ []) (refused 4) (9 ∷ 9 ∷ 9 ∷ [])
    ∷ copy 3 4 (Exactly 3) (9 ∷ 9 ∷ 9 ∷ []) (refused 4) (9 ∷ 9 ∷ 9 ∷ [])
    ∷ copy 3 2 (AtMost 256) (9 ∷ 9 ∷ 9 ∷ []) (refused 4) (9 ∷ 9 ∷ 9 ∷ [])
    ∷ copy 3 2 (AtMost 3) (9 ∷ 9 ∷ []) (refused 17) (9 ∷ 9 ∷ [])
    -- two cases hold: the first refuses
    ∷ copy 17 4 (AtMost 3) (9 ∷ 9 ∷ 9 ∷ []) (refused 1) (9 ∷ 9 ∷ 9 ∷ [])
    ∷ copy 3 4 (AtMost 3) (9 ∷ 9 ∷ []) (refused 4) (9 ∷ 9 ∷ [])
    ∷ []

copied : map {B = Outcome ℕ × List ℕ} (λ (l : Copy). (full_copies_of l.n l.d l.total (length l.rows), copies_written l.n l.d l.total l.rows)) copies ≡ map {B = Outcome ℕ × List ℕ} (λ (l : Copy). (l.says, l.leaves)) copies
unfolding value words_of spelled copy copies full_copies_of copies_written copies_refusal is_population is_shards gather
copied = refl
