-- Checks run in rising order of number: one statement over every entry that has a list of cases, and all its inputs, and over the C
-- interface where that has cases of its own. Inside a text another order holds (`first_fault` in crates/numerals), so the two texts are not
-- here. Assumes nothing.
use Rattle.std.specs.Prelude.{◌≡◌, refl, Bool, true, ◌&&◌, List, [], ◌∷◌, ◌++◌, map, ℕ, leb, Float}
use Rattle.refusals.specs.First.{Case}
use Rattle.profiles.specs.declared.Profile.{Profile}
use Rattle.profiles.specs.Unreliability.{unreliability_cases}
use Rattle.faults.specs.FaultList.{input_cases, list_cases}
use Rattle.faults.specs.Family.{family}
use Rattle.coverage.specs.Coverage.{covers_cases, survived_cases}
use Rattle.layout.specs.declared.TotalShards.{TotalShards}
use Rattle.layout.specs.Layout.{rows_cases, commits_cases}
use Rattle.times.specs.declared.PeerRecord.{PeerRecord}
use Rattle.assignment.specs.Plans.{pick_cases, copies_cases}
use Rattle.adaptive.specs.Floor.{floor_cases}
use Rattle.adaptive.specs.Policy.{policy_cases}
use Rattle.gossip.specs.Gossip.{gossip_cases}
use Rattle.tally.specs.declared.Tally.{Tally}
use Rattle.tally.specs.Tally.{Reply, open_cases, reply_cases}
use Rattle.callboard.specs.Interface.{plan_cases, choice_cases}

-- a call: an entry, and the inputs that its cases ask of
pub data Call : Type 0 where
  unreliability : (n peer : ℕ) (p : Profile) → Call
  fault_list : (n f : ℕ) (p : Profile) (room : ℕ) → Call
  -- and `rows_united`, whose cases are the same
  covers : (n d w heard : ℕ) (rows faults : List ℕ) → Call
  survived_by : (n heard : ℕ) (faults : List ℕ) → Call
  layout_rows : (n d : ℕ) (total : TotalShards) (loads rows : ℕ) → Call
  layout_commits : (n quorum d : ℕ) (total : TotalShards) (answered loads : ℕ) (faults : List ℕ) (rows : ℕ) → Call
  pick_assignment : (n own quorum d : ℕ) (total : TotalShards) (size : ℕ) (peers : List PeerRecord) (faults : List ℕ) (rows : ℕ) → Call
  full_copies : (n d : ℕ) (total : TotalShards) (rows : ℕ) → Call
  min_shards : (n f d majority alive : ℕ) → Call
  policy : (n f own d w majority size : ℕ) (inflight : List ℕ) (models : List Float) (alive : ℕ) (initial table : List ℕ) → Call
  gossip : (n own source d w available : ℕ) (rows : List ℕ) (alive room : ℕ) → Call
  opening : (n quorum d w : ℕ) → Call
  reply : (t : Tally) (r : Reply) → Call
  pick_in_c : (n own quorum d : ℕ) (total : TotalShards) (size heard : ℕ) (models : List Float) (inflight faults : List ℕ) (rows : ℕ) → Call
  policy_in_c : (n f own d w majority size : ℕ) (models : List Float) (inflight : List ℕ) (alive : ℕ) (initial table : List ℕ) (fits : Bool)
      → Call

-- its cases, in the order of their tests
abbrev pub cases_of : Call → List Case
cases_of (unreliability n peer p) = unreliability_cases n peer p
cases_of (fault_list n f p room) = input_cases n f p ++ list_cases (family n f p) n room
cases_of (covers n d w heard rows faults) = covers_cases n d w heard rows faults
cases_of (survived_by n heard faults) = survived_cases n heard faults
cases_of (layout_rows n d total loads rows) = rows_cases n d total loads rows
cases_of (layout_commits n quorum d total answered loads faults rows) = commits_cases n quorum d total answered loads faults rows
cases_of (pick_assignment n own quorum d total size peers faults rows) = pick_cases n own quorum d total size peers faults rows
cases_of (full_copies n d total rows) = copies_cases n d total rows
cases_of (min_shards n f d majority alive) = floor_cases n f d majority alive
cases_of (policy n f own d w majority size inflight models alive initial table) =
    policy_cases n f own d w majority size inflight models alive initial table
cases_of (gossip n own source d w available rows alive room) = gossip_cases n own source d w available rows alive room
cases_of (opening n quorum d w) = open_cases n quorum d w
cases_of (reply t r) = reply_cases t r
cases_of (pick_in_c n own quorum d total size heard models inflight faults rows) =
    plan_cases n own quorum d total size heard models inflight faults rows
cases_of (policy_in_c n f own d w majority size models inflight alive initial table fits) =
    choice_cases n f own d w majority size models inflight alive initial table fits

-- no number of the list is below the one before it
abbrev pub rising : List ℕ → Bool
rising [] = true
rising (k ∷ []) = true
rising (k ∷ l ∷ ks) = leb k l && rising (l ∷ ks)

pub cases_rise : (c : Call) → rising (map (λ (k : Case). k.1) (cases_of c)) ≡ true
cases_rise (unreliability n peer p) = refl
cases_rise (fault_list n f p room) = refl
cases_rise (covers n d w heard rows faults) = refl
cases_rise (survived_by n heard faults) = refl
cases_rise (layout_rows n d total loads rows) = refl
cases_rise (layout_commits n quorum d total answered loads faults rows) = refl
cases_rise (pick_assignment n own quorum d total size peers faults rows) = refl
cases_rise (full_copies n d total rows) = refl
cases_rise (min_shards n f d majority alive) = refl
cases_rise (policy n f own d w majority size inflight models alive initial table) = refl
cases_rise (gossip n own source d w available rows alive room) = refl
cases_rise (opening n quorum d w) = refl
cases_rise (reply t r) = refl
cases_rise (pick_in_c n own quorum d total size heard models inflight faults rows) = refl
cases_rise (policy_in_c n f own d w majority size models inflight alive initial table fits) = refl
