-- The values of the entries as structs of the C interface, and back. A refusal is its number, and beside it every other field is 0. Assumes nothing.
use Rattle.std.specs.Prelude.{Bool, not, cond, List, ℕ, eqb, Float}
use Rattle.std.specs.Prelude.{Option, None, Some}
use Rattle.refusals.specs.Outcome.{Outcome, refused, accepted}
use Rattle.floats.specs.Floats.{plus_zero}
use Rattle.profiles.specs.declared.Profile.{Profile}
use Rattle.profile_text.specs.ProfileText.{nothing}
use Rattle.layout.specs.declared.TotalShards.{TotalShards}
use Rattle.layout.specs.declared.TotalShards.TheVariants.{Exactly, AtMost}
use Rattle.assignment.specs.Plans.{Plan}
use Rattle.tally.specs.declared.Proposal.{Proposal}
use Rattle.tally.specs.declared.Tally.{Tally}
use Rattle.tally.specs.declared.Status.{Status}
use Rattle.tally.specs.declared.Status.TheVariants.{Waiting, Committed, AlreadyCommitted}
use Rattle.tally.specs.Tally.{nothing as no_tally}
use Rattle.c_types.specs.declared.Answer.{Answer}
use Rattle.c_types.specs.declared.FloatAnswer.{FloatAnswer}
use Rattle.c_types.specs.declared.Layout.{Layout}
use Rattle.c_types.specs.declared.Choice.{Choice}
use Rattle.c_types.specs.declared.ProfileReading.{ProfileReading}
use Rattle.c_types.specs.declared.TallyOpening.{TallyOpening}
use Rattle.c_types.specs.declared.Reply.{Reply}
use Rattle.c_types.specs.declared.Plan as C-plan
use Rattle.c_types.specs.declared.Profile as C-profile
use Rattle.c_types.specs.declared.Tally as C-tally

-- ---- flags and totals

-- 0 is false, anything else true
abbrev pub is_set : ℕ → Bool
is_set k = not (eqb k 0)

abbrev pub word_of : Bool → ℕ
word_of b = cond b 1 0

-- with a ceiling the width is the most, else exact
abbrev pub to_total : ℕ → ℕ → TotalShards
to_total ceiling width = cond (is_set ceiling) (AtMost width) (Exactly width)

-- ---- answers

abbrev pub to_answer : Outcome ℕ → Answer
to_answer (refused k) = record { refusal = k; value = 0 }
to_answer (accepted v) = record { refusal = 0; value = v }

abbrev pub to_flag : Outcome Bool → Answer
to_flag (refused k) = record { refusal = k; value = 0 }
to_flag (accepted b) = record { refusal = 0; value = word_of b }

-- of an entry whose answer is in lent memory
abbrev pub to_done : Outcome (List ℕ) → Answer
to_done (refused k) = record { refusal = k; value = 0 }
to_done (accepted words) = record { refusal = 0; value = 0 }

abbrev pub to_float : Outcome Float → FloatAnswer
to_float (refused k) = record { refusal = k; value = plus_zero }
to_float (accepted x) = record { refusal = 0; value = x }

-- the width, and whether the layout commits
abbrev pub to_layout : Outcome (ℕ × Bool) → Layout
to_layout (refused k) = record { refusal = k; width = 0; commits = 0 }
to_layout (accepted (w, b)) = record { refusal = 0; width = w; commits = word_of b }

-- no plan: refused, or with 0 none
abbrev pub unplanned_of : ℕ → C-plan.Plan
unplanned_of k = record { refusal = k; found = 0; width = 0; time = plus_zero }

abbrev pub to_plan : Outcome (Option Plan) → C-plan.Plan
to_plan (refused k) = unplanned_of k
to_plan (accepted None) = unplanned_of 0
to_plan (accepted (Some p)) = record { refusal = 0; found = 1; width = p.width; time = p.time }

-- not from the table: refused, or with 0 the initial layout
abbrev pub initial_of : ℕ → Choice
initial_of k = record { refusal = k; from_table = 0; count = 0 }

abbrev pub to_choice : Outcome (Option ℕ) → Choice
to_choice (refused k) = initial_of k
to_choice (accepted None) = initial_of 0
to_choice (accepted (Some shards)) = record { refusal = 0; from_table = 1; count = shards }

abbrev pub to_reply : Outcome Status → Reply
to_reply (refused k) = record { refusal = k; status = 0 }
to_reply (accepted Waiting) = record { refusal = 0; status = 0 }
to_reply (accepted Committed) = record { refusal = 0; status = 1 }
to_reply (accepted AlreadyCommitted) = record { refusal = 0; status = 2 }

-- ---- profiles

unfoldable pub from_profile : C-profile.Profile → Profile
from_profile p = record {
  domain_count = p.domain_count;
  prob_count = p.prob_count;
  runtime = is_set p.runtime;
  threshold = p.threshold;
  probs = p.probs;
  domains = p.domains;
}

unfoldable pub to_profile : Profile → C-profile.Profile
to_profile p = record {
  domain_count = p.domain_count;
  prob_count = p.prob_count;
  runtime = word_of p.runtime;
  threshold = p.threshold;
  probs = p.probs;
  domains = p.domains;
}

-- the number beside the all-zero profile, or the profile
unfoldable pub to_reading : Outcome Profile → ProfileReading
to_reading (refused k) = record { refusal = k; profile = to_profile nothing }
to_reading (accepted p) = record { refusal = 0; profile = to_profile p }

-- ---- tallies

abbrev pub proposal_of : ℕ → ℕ → ℕ → Proposal
proposal_of ballot high low = record { ballot = ballot; value_high = high; value_low = low }

unfoldable pub from_tally : C-tally.Tally → Tally
from_tally t = record {
  population = t.population;
  quorum = t.quorum;
  data_shards = t.data_shards;
  width = t.width;
  proposal = proposal_of t.ballot t.value_high t.value_low;
  heard = t.heard;
  committed = is_set t.committed;
  rows = t.rows;
}

-- a tally with the word of its flag
unfoldable pub to_tally : Tally → ℕ → C-tally.Tally
to_tally t flag = record {
  population = t.population;
  quorum = t.quorum;
  data_shards = t.data_shards;
  width = t.width;
  ballot = t.proposal.ballot;
  value_high = t.proposal.value_high;
  value_low = t.proposal.value_low;
  heard = t.heard;
  committed = flag;
  rows = t.rows;
}

-- the tally t as a reply leaves it, where u is the tally after it; a flag that was set stays as it was
unfoldable pub tally_left : C-tally.Tally → Tally → C-tally.Tally
tally_left t u = to_tally u (cond (is_set t.committed) t.committed (word_of u.committed))

-- the number beside the all-zero tally, or the tally
unfoldable pub to_opening : Outcome Tally → TallyOpening
to_opening (refused k) = record { refusal = k; tally = to_tally no_tally 0 }
to_opening (accepted t) = record { refusal = 0; tally = to_tally t (word_of t.committed) }
