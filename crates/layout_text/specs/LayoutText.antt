-- A layout text: empty, a number, or segments `replica:shard,shard` joined by `/`. Nothing is trimmed. Assumes nothing.
use Rattle.std.specs.Prelude.{false, cond, ◌&&◌, List, [], ◌∷◌, ℕ, ◌*◌, ◌/◌, ◌%◌, leb, eqb, set, get_or, replicate, Result}
use Rattle.std.specs.Int.Bits.{bit_or}
use Rattle.lists.specs.Below.{each_below}
use Rattle.bitmap.specs.Mask.{run_modulo}
use Rattle.rows.specs.Row.{spelled}
use Rattle.refusals.specs.Numbers.{POPULATION, SHARDS, TEXT, LAYOUT, MULTIPLE, TABLE}
use Rattle.refusals.specs.First.{unless, first_of}
use Rattle.refusals.specs.Outcome.{Outcome, refused, accepted, checked, outcome, and_then}
use Rattle.refusals.specs.Limits.{is_population, is_shards, is_table}
use Rattle.refusals.specs.Refused.{outcome_by}
use Rattle.refusals.specs.declared.Refusal.{Refusal}
use Rattle.numerals.specs.Text.{is_text, is_empty, has_byte, before, behind, split}
use Rattle.numerals.specs.Read.{read_each}
use Rattle.numerals.specs.Whole.{whole_of, below_of, members_of}

-- ---- runs

-- the shards that a replica has where all have as many, rounded down
abbrev pub share : ℕ → ℕ → ℕ
share n total = total / n

-- the row r: k shards from r * share on, modulo the total
abbrev pub run_at : ℕ → ℕ → ℕ → ℕ → ℕ
run_at n total k r = run_modulo total (r * share n total) k

-- n rows, each a run of k shards
abbrev pub runs_of : ℕ → ℕ → ℕ → List ℕ
runs_of n total k = each_below (run_at n total k) n

-- the length of the runs, where the text gives one: it is empty, and all have their share, or a number from the share to d
unfoldable pub length_of : ℕ → ℕ → ℕ → List ℕ → Outcome ℕ
length_of n d total s =
    cond (is_empty s) (accepted (share n total)) (and_then (whole_of s) (λ k. cond (leb (share n total) k && leb k d) (accepted k) (refused LAYOUT)))

-- ---- segments

-- `replica:shard,shard`: 13 without a colon, then the replica's number, then the shards'
unfoldable pub segment_of : ℕ → ℕ → List ℕ → Outcome (ℕ × ℕ)
segment_of n total s =
    cond (has_byte 58 s)
    (and_then (below_of n (before 58 s)) (λ r. and_then (members_of false total (behind 58 s)) (λ m. accepted (r, m))))
    (refused LAYOUT)

-- replicas named again unite
unfoldable pub segment_in : ℕ → ℕ → List ℕ → List ℕ → Outcome (List ℕ)
segment_in n total rows s = and_then (segment_of n total s) (λ x. accepted (set rows x.0 (bit_or (get_or rows x.0 0) x.1)))

-- those not named get no shard
unfoldable pub segments_of : ℕ → ℕ → List ℕ → Outcome (List ℕ)
segments_of n total s = read_each (segment_in n total) (replicate n 0) (split 47 s)

-- ---- the text: runs where it gives their length, else segments; so a text without a colon that is no fitting number gets 13

abbrev pub or_segments : ℕ → ℕ → List ℕ → Outcome ℕ → Outcome (List ℕ)
or_segments n total s (accepted k) = accepted (runs_of n total k)
or_segments n total s (refused k) = segments_of n total s

unfoldable pub layout_of : ℕ → ℕ → ℕ → List ℕ → Outcome (List ℕ)
layout_of n d total s = or_segments n total s (length_of n d total s)

-- ---- what refuses

-- a layout text has at most 16,384 bytes
abbrev pub most_bytes : ℕ
most_bytes = 16384

-- before the text is read
unfoldable pub input_refusal : ℕ → ℕ → ℕ → List ℕ → ℕ
input_refusal n d total s =
    first_of (unless (is_population n) POPULATION ∷ unless (is_shards d total) SHARDS ∷ unless (is_text most_bytes s) TEXT ∷ [])

-- and after it
unfoldable pub table_refusal : ℕ → ℕ → ℕ → ℕ
table_refusal n total len = first_of (unless (eqb (total % n) 0) MULTIPLE ∷ unless (is_table n len) TABLE ∷ [])

unfoldable pub init_of : ℕ → ℕ → ℕ → List ℕ → ℕ → Outcome (List ℕ)
init_of n d total s len = checked (input_refusal n d total s) (and_then (layout_of n d total s) (λ rows. outcome (table_refusal n total len) rows))

-- rows that were read, as a table of four words a row: the number of the fault, or of the table, or the words
abbrev pub in_table : ℕ → ℕ → ℕ → Outcome (List ℕ) → Outcome (List ℕ)
in_table n total len o = and_then (and_then o (λ rows. outcome (table_refusal n total len) rows)) (λ rows. accepted (spelled rows))

-- the table that has the rows of a text, four words a row
unfoldable pub init_table : ℕ → ℕ → ℕ → List ℕ → ℕ → Outcome (List ℕ)
init_table n d total s len = and_then (init_of n d total s len) (λ rows. accepted (spelled rows))

-- ---- what an answer is

-- of the text, or a part of it, with the words that the table holds at exit
abbrev pub answer : Result Unit Refusal → List ℕ → Outcome (List ℕ)
answer r rows = outcome_by (λ u. rows) r
