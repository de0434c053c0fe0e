-- The balanced policy (`pick_assignment_policy`): the choice, and the rows that it stands for. Assumes nothing.
use Rattle.std.specs.Prelude.{◌≡◌, Bool, not, cond, ◌&&◌, ◌||◌, List, [], ◌∷◌, ℕ, suc, ◌-◌, ◌*◌, ◌/◌, ◌%◌, ◌≤◌, ◌<◌, max, leb, eqb, Float, length, take, drop}
use Rattle.std.specs.Prelude.{Option, None, Some}
use Rattle.bitmap.specs.Mask.{count}
use Rattle.rows.specs.Row.{row_in}
use Rattle.refusals.specs.Numbers.{POPULATION, TOLERANCE, REPLICA, SHARDS, QUORUM, MULTIPLE, BYTES, MASK, TABLE}
use Rattle.refusals.specs.First.{Case, unless, first_of}
use Rattle.refusals.specs.Outcome.{Outcome, refused, accepted, outcome}
use Rattle.refusals.specs.Limits.{most_shards, is_population, is_tolerance, is_replica, is_shards, is_quorum, is_size, peers_fit, is_mask, are_rows, is_table}
use Rattle.times.specs.Times.{models_in}
use Rattle.adaptive.specs.declared.Policy.{Policy}
use Rattle.adaptive.specs.declared.Policy.TheVariants.{Initial, Balanced}
use Rattle.adaptive.specs.declared.PolicyInput.{PolicyInput}
use Rattle.adaptive.specs.Floor.{floor_of}
use Rattle.steps.specs.Steps.{in_flight, step_shards, best_step}

-- ---- the balanced table: n rows for each whole count, rising, from d / majority to d, or it is empty

-- it may have that many words, four a row
abbrev pub is_balanced_table : ℕ → ℕ → ℕ → ℕ → Bool
is_balanced_table n d majority len = eqb len 0 || is_table (n * suc (d - d / majority)) len

-- one of that many words has the count
abbrev pub has_count : ℕ → ℕ → ℕ → ℕ → Bool
has_count d majority len shards = not (eqb len 0) && (leb (d / majority) shards && leb shards d)

-- the rows of the count, of the table's rows
abbrev pub rows_for : ℕ → ℕ → ℕ → ℕ → List ℕ → List ℕ
rows_for n d majority shards table = take n (drop ((shards - d / majority) * n) table)

-- ---- what refuses: `inflight` has a word for each replica, and `models` three numbers

abbrev pub policy_cases : ℕ → ℕ → ℕ → ℕ → ℕ → ℕ → ℕ → List ℕ → List Float → ℕ → List ℕ → List ℕ → List Case
policy_cases n f own d w majority size inflight models alive initial table =
    unless (is_population n) POPULATION
    ∷ unless (is_tolerance n f) TOLERANCE
    ∷ unless (is_replica n own) REPLICA
    ∷ unless (is_shards d w) SHARDS
    ∷ unless (is_quorum n majority) QUORUM
    ∷ unless (eqb (d % majority) 0) MULTIPLE
    ∷ unless (is_size size) BYTES
    ∷ unless (peers_fit n own (in_flight inflight)) BYTES
    ∷ unless (is_mask n alive) MASK
    ∷ unless (are_rows w initial) MASK
    ∷ unless (are_rows w table) MASK
    ∷ unless (eqb (length inflight) n) TABLE
    ∷ unless (eqb (length models) (n * 3)) TABLE
    ∷ unless (is_table n (length initial)) TABLE
    ∷ unless (is_balanced_table n d majority (length table)) TABLE
    ∷ []

unfoldable pub policy_refusal : ℕ → ℕ → ℕ → ℕ → ℕ → ℕ → ℕ → List ℕ → List Float → ℕ → List ℕ → List ℕ → ℕ
policy_refusal n f own d w majority size inflight models alive initial table =
    first_of (policy_cases n f own d w majority size inflight models alive initial table)

-- of the code's struct
abbrev pub refusal_for : PolicyInput → ℕ
refusal_for p =
    policy_refusal p.population p.tolerance p.own.0 p.data_shards p.width p.majority p.size p.inflight.now p.models.now p.alive p.initial.now p.table.now

-- ---- the choice

-- that of the first least step; not adaptive, the count of row 0 of the initial layout
unfoldable pub best_shards : ℕ → ℕ → ℕ → ℕ → ℕ → ℕ → List ℕ → List Float → List ℕ → Bool → ℕ
best_shards n f own d majority size inflight models initial adaptive =
    cond adaptive (step_shards d majority (best_step n f own d majority size inflight (models_in models))) (count (row_in initial 0))

-- the initial layout (none), or a count of the table
abbrev pub choice_of : ℕ → ℕ → ℕ → ℕ → Option ℕ
choice_of d majority len shards = cond (has_count d majority len shards) (Some shards) None

-- what the code's choice is
abbrev pub chosen : Policy → Option ℕ
chosen Initial = None
chosen (Balanced shards) = Some shards

-- unbalanced gives the initial layout; else the larger of choice and floor picks the rows, and a count that the table lacks gives the initial layout
unfoldable pub policy_of : ℕ → ℕ → ℕ → ℕ → ℕ → ℕ → ℕ → List ℕ → List Float → ℕ → List ℕ → List ℕ → Bool → Bool → Outcome (Option ℕ)
policy_of n f own d w majority size inflight models alive initial table adaptive balanced =
    outcome (policy_refusal n f own d w majority size inflight models alive initial table)
    (cond balanced (choice_of d majority (length table) (max (best_shards n f own d majority size inflight models initial adaptive) (floor_of f d majority (count alive)))) None)

-- of the code's struct
abbrev pub policy_for : PolicyInput → Outcome (Option ℕ)
policy_for p =
    policy_of p.population p.tolerance p.own.0 p.data_shards p.width p.majority p.size p.inflight.now p.models.now p.alive p.initial.now p.table.now p.adaptive p.balanced

-- ---- the rows of a choice, of the rows of the two tables: none where the input is refused, the initial layout, or those of the count
abbrev pub rows_of : ℕ → ℕ → ℕ → Outcome (Option ℕ) → List ℕ → List ℕ → List ℕ
rows_of n d majority (refused k) initial table = []
rows_of n d majority (accepted None) initial table = initial
rows_of n d majority (accepted (Some shards)) initial table = rows_for n d majority shards table

-- two tables of so many words have those of the choice
abbrev pub Holds : ℕ → ℕ → ℕ → Outcome (Option ℕ) → ℕ → ℕ → Type 0
Holds n d majority (refused k) initial table = Unit
Holds n d majority (accepted None) initial table = initial ≡ n * 4
Holds n d majority (accepted (Some shards)) initial table =
    (n ≤ 16) × (d ≤ most_shards) × (0 < majority) × (d / majority ≤ shards) × (shards ≤ d) × (table ≡ n * suc (d - d / majority) * 4)
