-- The site sheet's starred lines as one table, and one statement over all its rows, computed by the checker from the entries' own definitions. Assumes nothing.
use Rattle.std.specs.Prelude.{◌≡◌, refl, Bool, true, false, ℕ, ◌*◌, ◌^◌, length, take, replicate}
use mathlib.Core.List.{List, [], ◌∷◌, map, foldl}
use Rattle.std.specs.Prelude.{Option, None, Some}
use Prim.Native.String.{String}
use Rattle.std.specs.Float.{binary64}
use Rattle.std.specs.Float.Ieee.{add, mul, div, of_int, of_bits, to_bits, le}
use Rattle.lists.specs.Below.{some_below, those_below, run_from, each_below, front}
use Rattle.lists.specs.Sort.{by_key}
use Rattle.bitmap.specs.Mask.{with_bit, all_below, count, mask_below, gather}
use Rattle.rows.specs.Row.{value, words_of, row_in, rows_in, spelled}
use Rattle.refusals.specs.Outcome.{Outcome, refused, accepted, and_then}
use Rattle.refusals.specs.Limits.{peers_fit, is_population, is_shards, is_quorum, is_fault_list}
use Rattle.floats.specs.Floats.{plus_zero, is_probability, is_finite, total_le}
use Rattle.profiles.specs.Profile.{is_threshold, domains_fit, probs_fit, domains_counted}
use Rattle.numerals.specs.Quoted.{bytes}
use Rattle.numerals.specs.Text.{without, is_text, is_same, trim_start, trim_end, trim, cut_by, split}
use Rattle.numerals.specs.Read.{read_each}
use Rattle.numerals.specs.Whole.{is_digits, spelt, whole_of, below_of, member_of, member_in, members_of}
use Rattle.decimals.specs.Decimal.{is_negative, written_of, decimal_of}
use Rattle.profile_text.specs.ProfileText.{nothing, with_domain, with_words, domain_in, domains_in, decimal_in, decimals_of, threshold_of, fitting, probs_in, named_in, mechanism_in, mechanisms_of, profile_of}
use Rattle.maximal.specs.Maximal.{is_part, is_beyond, is_covered_by, is_maximal, maximals}
use Rattle.faults.specs.Family as Family
use Rattle.faults.specs.FaultList.{fault_refusal, fault_list_of, fault_words}
use Rattle.coverage.specs.Coverage.{union_of, leaves, is_covered, commits, covers_refusal, covers_of}
use Rattle.layout.specs.declared.TotalShards.{TotalShards}
use Rattle.layout.specs.declared.TotalShards.TheVariants.{AtMost}
use Rattle.layout.specs.Layout.{width_of, row_for, rows_of, layout_commits, rows_refusal, layout_rows_of, rows_written}
use Rattle.times.specs.declared.PeerRecord.{PeerRecord}
use Rattle.times.specs.Times.{predict_of, settled, reply_time, time_at, shard_length, silent, times_of}
use Rattle.times.proofs.Worked.{one, two, heard}
use Rattle.trimming.specs.Order.{peers_of, trim_order}
use Rattle.trimming.specs.Trimming.{keeps, tried, trimmed_in, trimmed}
use Rattle.candidates.specs.Search.{run_at, answered_at, loads_at, commits_at, first_time}
use Rattle.assignment.specs.Plans.{Plan, loads_for, plan_of, pick_refusal, pick_of}
use Rattle.gossip.specs.Gossip.{ring, round, turns, met, visit, walk, gossip_refusal, gossip_of, exclusions_left}

-- ---- what is asked, each entry's inputs in the order of the sheet; a row, and any other set, is the list of its members
pub data Asked : Type 0 where
  layout : (d : ℕ) (total : TotalShards) (loads : List ℕ) → Asked
  fault_list : (n f : ℕ) (profile : String) → Asked
  coverage : (n f d : ℕ) (rows : List (List ℕ)) → Asked
  plan : (n own f quorum d : ℕ) (total : TotalShards) (size : ℕ) (peers : List PeerRecord) → Asked
  gossip : (n w own source d : ℕ) (rows : List (List ℕ)) (having alive : List ℕ) → Asked

-- ---- what is told; a table of rows by its words
pub data Told : Type 0 where
  refusal : (no : ℕ) → Told
  laid : (w : ℕ) (table : List ℕ) → Told
  masks : (faults : List ℕ) → Told
  covered : Bool → Told
  -- the time by its bits
  planned : (time w : ℕ) (table : List ℕ) → Told
  no_plan : Told
  -- those asked, and the exclusion of each replica
  asking : (peers : ℕ) (exclusions : List ℕ) → Told

-- the number that refuses, or what an answer tells
abbrev pub telling : {A : Type 0} → (A → Told) → Outcome A → Told
telling tell (refused k) = refusal k
telling tell (accepted a) = tell a

-- the set of the members of a list, and the table of such rows, four words each
abbrev pub set_of : List ℕ → ℕ
set_of members = foldl with_bit 0 members

abbrev pub table_of : List (List ℕ) → List ℕ
table_of rows = spelled (map set_of rows)

-- the lent words: k of them, each 99; and how many a table of n rows has
abbrev pub lent : ℕ → List ℕ
lent k = replicate k 99

abbrev pub room : ℕ → ℕ
room n = n * 4

-- the fault list of a profile's text, as many words lent as there are sets of n replicas
unfoldable pub faults_for : ℕ → ℕ → String → Outcome (List ℕ)
faults_for n f text =
    and_then (profile_of n (bytes text)) (λ p.
    and_then (fault_list_of n f p (2 ^ n)) (λ c.
    accepted (take c (fault_words n f p (lent (2 ^ n))))))

-- no plan, or a plan
abbrev pub tell_plan : Option Plan → Told
tell_plan None = no_plan
tell_plan (Some p) = planned (to_bits binary64 p.time) p.width (spelled p.rows)

-- by the entries' own definitions. Coverage and plans have the fault list of the tolerance and an empty profile. For coverage all are heard, and the width, which
-- the sheet leaves open, is the largest
unfoldable pub answer : Asked → Told
answer (layout d total loads) =
    let n = length loads in
    telling (λ w. laid w (rows_written n d total loads (lent (room n)))) (layout_rows_of n d total loads (room n))
answer (fault_list n f profile) = telling masks (faults_for n f profile)
answer (coverage n f d rows) = telling covered (and_then (faults_for n f "") (covers_of n d 255 (all_below n) (table_of rows)))
answer (plan n own f quorum d total size peers) =
    telling tell_plan (and_then (faults_for n f "") (λ faults. pick_of n own quorum d total size peers plus_zero faults (room n)))
answer (gossip n w own source d rows having alive) =
    telling (λ peers. asking peers (exclusions_left n own source d w (set_of having) (table_of rows) (set_of alive) (lent (room n))))
    (gossip_of n own source d w (set_of having) (table_of rows) (set_of alive) (room n))

-- ---- the table

pub record Line : Type 0 where
  pub asked : Asked
  pub told : Told

unfoldable pub line : Asked → Told → Line
line asked told = record { asked = asked; told = told }

-- a peer of slope 1, delay 1 and jitter 0, the rest zero
abbrev pub usual : PeerRecord
usual = record { peer = heard one one 0 0; inflight = 0 }

unfoldable pub sheet : List Line
unfolding line
sheet =
    -- d 4, loads 4,2,2,1, ceiling 10: w 5; rows 0-3; 0,1; 2,3; 4
    line (layout 4 (AtMost 10) (4 ∷ 2 ∷ 2 ∷ 1 ∷ []))
    (laid 5 (table_of ((0 ∷ 1 ∷ 2 ∷ 3 ∷ []) ∷ (0 ∷ 1 ∷ []) ∷ (2 ∷ 3 ∷ []) ∷ (4 ∷ []) ∷ [])))
    -- same, ceiling 4: w 4, last row 0
    ∷ line (layout 4 (AtMost 4) (4 ∷ 2 ∷ 2 ∷ 1 ∷ []))
    (laid 4 (table_of ((0 ∷ 1 ∷ 2 ∷ 3 ∷ []) ∷ (0 ∷ 1 ∷ []) ∷ (2 ∷ 3 ∷ []) ∷ (0 ∷ []) ∷ [])))
    -- n 3, f 1: masks 1,2,4
    ∷ line (fault_list 3 1 "") (masks (1 ∷ 2 ∷ 4 ∷ []))
    -- with domain 0,1: masks 3,4
    ∷ line (fault_list 3 1 "domains:0,1") (masks (3 ∷ 4 ∷ []))
    -- with 0,1,2: 21
    ∷ line (fault_list 3 1 "domains:0,1,2") (refusal 21)
    -- n 3, f 0: mask 0
    ∷ line (fault_list 3 0 "") (masks (0 ∷ []))
    -- `probs:0.5,0.5,0.25@0.25`, n 3, f 1: masks 3,4
    ∷ line (fault_list 3 1 "probs:0.5,0.5,0.25@0.25") (masks (3 ∷ 4 ∷ []))
    -- n 3, f 1, d 2, rows 0; 1; 2: covered
    ∷ line (coverage 3 1 2 ((0 ∷ []) ∷ (1 ∷ []) ∷ (2 ∷ []) ∷ [])) (covered true)
    -- rows 0; 1; 0: not
    ∷ line (coverage 3 1 2 ((0 ∷ []) ∷ (1 ∷ []) ∷ (0 ∷ []) ∷ [])) (covered false)
    -- n 3, own 0, f 1, quorum 2, d 2, ceiling 3, size 2 MiB, both models slope 1, delay 1, jitter 0, rest zero: time 2, w 2, rows 0,1; 0; 1
    ∷ line (plan 3 0 1 2 2 (AtMost 3) (2 * 2 ^ 20) (silent ∷ usual ∷ usual ∷ []))
    (planned two 2 (table_of ((0 ∷ 1 ∷ []) ∷ (0 ∷ []) ∷ (1 ∷ []) ∷ [])))
    -- f 0: time 1, rows 0,1; none; none
    ∷ line (plan 3 0 0 2 2 (AtMost 3) (2 * 2 ^ 20) (silent ∷ usual ∷ usual ∷ []))
    (planned one 2 (table_of ((0 ∷ 1 ∷ []) ∷ [] ∷ [] ∷ [])))
    -- both silent: none
    ∷ line (plan 3 0 1 2 2 (AtMost 3) (2 * 2 ^ 20) (silent ∷ silent ∷ silent ∷ [])) no_plan
    -- n 4, width 4, own 1, source 0, d 2, row of each its own number, having 0 and 1, all alive: peer 2 is asked, excluding 0,1
    ∷ line (gossip 4 4 1 0 2 ((0 ∷ []) ∷ (1 ∷ []) ∷ (2 ∷ []) ∷ (3 ∷ []) ∷ []) (0 ∷ 1 ∷ []) (0 ∷ 1 ∷ 2 ∷ 3 ∷ []))
    (asking (set_of (2 ∷ [])) (table_of ([] ∷ [] ∷ (0 ∷ 1 ∷ []) ∷ [] ∷ [])))
    ∷ []

-- ---- every row holds
pub sheet_holds : map (λ (l : Line). answer l.asked) sheet ≡ map (λ (l : Line). l.told) sheet
unfolding sheet answer faults_for value words_of row_in rows_in spelled
    layout_rows_of rows_written rows_refusal is_population is_shards width_of rows_of row_for each_below gather
    profile_of mechanisms_of mechanism_in named_in domains_in domain_in probs_in decimals_of decimal_in threshold_of fitting nothing with_domain with_words
    read_each split trim trim_start trim_end cut_by is_text is_same is_digits spelt without whole_of below_of member_of member_in members_of decimal_of written_of is_negative
    probs_fit is_threshold is_probability le fault_list_of fault_words front fault_refusal domains_fit domains_counted maximals those_below is_maximal is_covered_by some_below is_beyond is_part
    Family.family_of Family.is_sized Family.is_among Family.is_probable Family.times_of mul count
    covers_of covers_refusal is_fault_list is_covered leaves union_of commits
    pick_of pick_refusal peers_fit is_quorum plan_of first_time commits_at answered_at loads_at run_at run_from mask_below loads_for shard_length times_of time_at reply_time settled
    predict_of is_finite add div of_int of_bits to_bits total_le layout_commits trimmed trimmed_in tried keeps trim_order peers_of by_key
    gossip_of exclusions_left gossip_refusal walk turns round ring visit met
sheet_holds = refl
