-- The C interface of plans and of the policy: the entry over the tables lent by replica, whose lengths it tests. Assumes nothing.
use Rattle.std.specs.Prelude.{Bool, cond, List, [], ◌∷◌, ◌++◌, ℕ, eqb, Float, length}
use Rattle.std.specs.Prelude.{Option}
use Rattle.refusals.specs.Numbers.{MASK, TABLE}
use Rattle.refusals.specs.First.{Case, unless, first_of}
use Rattle.refusals.specs.Outcome.{Outcome, refused, accepted, checked}
use Rattle.refusals.specs.Limits.{is_mask}
use Rattle.rows.specs.Row.{rows_in, spelled}
use Rattle.layout.specs.declared.TotalShards.{TotalShards}
use Rattle.assignment.specs.Plans.{Plan, pick_input_cases, pick_table_cases, pick_of}
use Rattle.adaptive.specs.Policy.{policy_cases, policy_of, rows_of}
use Rattle.c_types.specs.CTypes.{is_set}
use Rattle.c_types.specs.Tables.{is_records, from_peers}

-- ---- plans

-- the mask of the peers heard, and four floats and a word for each of n replicas, of so many lent
abbrev pub heard_cases : ℕ → ℕ → ℕ → ℕ → List Case
heard_cases n heard models inflight = unless (is_mask n heard) MASK ∷ unless (is_records models 4 n) TABLE ∷ unless (eqb inflight n) TABLE ∷ []

-- after the entry's cases of the numbers, and before those of its tables
abbrev pub plan_cases : ℕ → ℕ → ℕ → ℕ → TotalShards → ℕ → ℕ → List Float → List ℕ → List ℕ → ℕ → List Case
plan_cases n own quorum d total size heard models inflight faults rows =
    pick_input_cases n own quorum d total size (from_peers heard models inflight)
    ++ (heard_cases n heard (length models) (length inflight) ++ pick_table_cases n faults rows)

unfoldable pub pick_in : ℕ → ℕ → ℕ → ℕ → TotalShards → ℕ → Float → ℕ → List Float → List ℕ → List ℕ → ℕ → Outcome (Option Plan)
pick_in n own quorum d total size penalty heard models inflight faults rows =
    checked (first_of (plan_cases n own quorum d total size heard models inflight faults rows))
    (pick_of n own quorum d total size (from_peers heard models inflight) penalty faults rows)

-- ---- the policy

-- after the entry's cases: the table lent for the rows, if there is one, has n rows
abbrev pub choice_cases : ℕ → ℕ → ℕ → ℕ → ℕ → ℕ → ℕ → List Float → List ℕ → ℕ → List ℕ → List ℕ → Bool → List Case
choice_cases n f own d w majority size models inflight alive initial table lent =
    policy_cases n f own d w majority size inflight models alive initial table ++ (unless lent TABLE ∷ [])

unfoldable pub policy_in : ℕ → ℕ → ℕ → ℕ → ℕ → ℕ → ℕ → ℕ → ℕ → List Float → List ℕ → ℕ → List ℕ → List ℕ → Bool → Outcome (Option ℕ)
policy_in n f own d w majority size adaptive balanced models inflight alive initial table lent =
    checked (first_of (choice_cases n f own d w majority size models inflight alive initial table lent))
    (policy_of n f own d w majority size inflight models alive initial table (is_set adaptive) (is_set balanced))

-- a part, copied where it has as many words as the table
abbrev pub copied : List ℕ → List ℕ → List ℕ
copied part rows = cond (eqb (length part) (length rows)) part rows

-- the table at exit: the rows of the choice, four words a row
abbrev pub rows_left : ℕ → ℕ → ℕ → Outcome (Option ℕ) → List ℕ → List ℕ → List ℕ → List ℕ
rows_left n d majority (refused k) initial table rows = rows
rows_left n d majority (accepted c) initial table rows = spelled (rows_of n d majority (accepted c) (rows_in initial) (rows_in table))
