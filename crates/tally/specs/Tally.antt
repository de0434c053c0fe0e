-- The tally of accept replies: its opening, what refuses a reply, and what a reply does. Assumes nothing.
use Rattle.std.specs.Prelude.{Bool, false, cond, ◌&&◌, List, [], ◌∷◌, ℕ, ◌*◌, eqb, take, replicate}
use Rattle.std.specs.Int.Bits.{bit_or}
use Rattle.bitmap.specs.Mask.{has_bit, with_bit}
use Rattle.rows.specs.Row.{row_of, row_in, with_row}
use Rattle.refusals.specs.Numbers.{POPULATION, REPLICA, SHARDS, QUORUM, MASK, TABLE, OTHER_VALUE}
use Rattle.refusals.specs.First.{Case, unless, first_of}
use Rattle.refusals.specs.Outcome.{Outcome, outcome, written}
use Rattle.refusals.specs.Limits.{is_population, is_replica, is_shards, is_quorum, is_mask, is_row, are_rows, is_fault_list}
use Rattle.coverage.specs.Coverage.{commits}
use Rattle.tally.specs.declared.Proposal.{Proposal}
use Rattle.tally.specs.declared.Tally.{Tally}
use Rattle.tally.specs.declared.AcceptReply.{AcceptReply}
use Rattle.tally.specs.declared.Replied.{Replied}
use Rattle.tally.specs.declared.Status.{Status}
use Rattle.tally.specs.declared.Status.TheVariants.{Waiting, Committed, AlreadyCommitted}

-- ---- the opening

abbrev pub open_cases : ℕ → ℕ → ℕ → ℕ → List Case
open_cases n quorum d w = unless (is_population n) POPULATION ∷ unless (is_shards d w) SHARDS ∷ unless (is_quorum n quorum) QUORUM ∷ []

unfoldable pub open_refusal : ℕ → ℕ → ℕ → ℕ → ℕ
open_refusal n quorum d w = first_of (open_cases n quorum d w)

-- a tally that has heard nobody
unfoldable pub fresh : ℕ → ℕ → ℕ → ℕ → Proposal → Tally
fresh n quorum d w proposal = record {
  population = n;
  quorum = quorum;
  data_shards = d;
  width = w;
  proposal = proposal;
  heard = 0;
  committed = false;
  rows = replicate 64 0;
}

-- the all-zero tally
abbrev pub nothing : Tally
nothing = fresh 0 0 0 0 (record { ballot = 0; value_high = 0; value_low = 0 })

-- the number that refuses, or the tally
unfoldable pub opening_of : ℕ → ℕ → ℕ → ℕ → Proposal → Outcome Tally
opening_of n quorum d w proposal = outcome (open_refusal n quorum d w) (fresh n quorum d w proposal)

-- ---- what refuses a reply

-- an accept reply, and the fault list lent with it
pub record Reply : Type 0 where
  pub source : ℕ
  pub proposal : Proposal
  pub row : ℕ
  pub faults : List ℕ

abbrev pub told : ℕ → Proposal → ℕ → List ℕ → Reply
told source proposal row faults = record { source = source; proposal = proposal; row = row; faults = faults }

-- that of the code's struct
abbrev pub from_reply : AcceptReply → Reply
from_reply r = told r.source.0 r.proposal (row_of r.row) r.faults.now

-- the tally's ballot and value id
unfoldable pub is_same_value : Tally → Proposal → Bool
is_same_value t p = eqb t.proposal.ballot p.ballot && (eqb t.proposal.value_high p.value_high && eqb t.proposal.value_low p.value_low)

-- the tally handed in is tested like the opening's values; 16 covers its heard mask, its rows below n and the reply's row
abbrev pub reply_cases : Tally → Reply → List Case
reply_cases t r =
    unless (is_population t.population) POPULATION
    ∷ unless (is_replica t.population r.source) REPLICA
    ∷ unless (is_shards t.data_shards t.width) SHARDS
    ∷ unless (is_quorum t.population t.quorum) QUORUM
    ∷ unless (is_mask t.population t.heard) MASK
    ∷ unless (are_rows t.width (take (t.population * 4) t.rows)) MASK
    ∷ unless (is_row t.width r.row) MASK
    ∷ unless (is_fault_list t.population r.faults) TABLE
    ∷ unless (is_same_value t r.proposal) OTHER_VALUE
    ∷ []

unfoldable pub reply_refusal : Tally → Reply → ℕ
reply_refusal t r = first_of (reply_cases t r)

-- ---- what an unrefused reply does

-- the row of its source: a first reply replaces what stood there, a later one is united with it
abbrev pub row_with : ℕ → ℕ → ℕ → ℕ → ℕ
row_with heard held source row = cond (has_bit heard source) (bit_or held row) row

-- the tally with other words
abbrev pub updated : Tally → ℕ → Bool → List ℕ → Tally
updated t heard committed rows = record {
  population = t.population;
  quorum = t.quorum;
  data_shards = t.data_shards;
  width = t.width;
  proposal = t.proposal;
  heard = heard;
  committed = committed;
  rows = rows;
}

-- the tally with the reply counted
unfoldable pub noted : Tally → ℕ → ℕ → Tally
noted t source row =
    updated t (with_bit t.heard source) t.committed (with_row t.rows source (row_with t.heard (row_in t.rows source) source row))

-- at least a quorum is heard and coverage holds
unfoldable pub is_committing : Tally → List ℕ → Bool
is_committing t faults = commits t.population t.quorum t.data_shards t.heard (row_in t.rows) faults

-- the tally that has noted a reply says whether it commits
abbrev pub settled : Tally → List ℕ → Tally
settled t faults = updated t t.heard (is_committing t faults) t.rows

-- ---- the answer

-- the status in the answer to a reply
abbrev pub status_of : Replied → Status
status_of replied = replied.status

-- after commitment "already committed"; otherwise by the reply counted
abbrev pub said_of : Tally → Reply → Status
said_of t r = cond t.committed AlreadyCommitted (cond (is_committing (noted t r.source r.row) r.faults) Committed Waiting)

unfoldable pub reply_of : Tally → Reply → Outcome Status
reply_of t r = outcome (reply_refusal t r) (said_of t r)

-- the tally as the reply leaves it: a refusal, and any reply after commitment, leaves it as it was
unfoldable pub tally_after : Tally → Reply → Tally
tally_after t r = written (reply_refusal t r) (cond t.committed t (settled (noted t r.source r.row) r.faults)) t
