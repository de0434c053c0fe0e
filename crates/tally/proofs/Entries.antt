-- What a reply that is not refused gives to the steps after its check. Assumes nothing.
use mathlib.Core.Path.{◌≡◌, sym, ap, ◌∙◌}
use mathlib.Core.List.{List}
use Prim.Native.Nat.{ℕ, ◌*◌, ◌≤◌, ◌<◌}
use native.Mathlib.Omega.{arith}
use lib.ListN.{length}
use lib.Seq.{length-sets}
use Rattle.rows.specs.Row.{row_in, with_row}
use Rattle.std.specs.Prelude.{Result, Ok}
use Rattle.refusals.specs.Limits.{most_shards}
use Rattle.refusals.specs.Refused.{refusal_of}
use Rattle.refusals.specs.declared.Refusal.{Refusal}
use Rattle.coverage.specs.Coverage.{RowsBelow}
use Rattle.tally.specs.declared.Tally.{Tally}
use Rattle.tally.specs.Tally.{Reply, reply_refusal, row_with, noted}
use Rattle.tally.proofs.RefusalLaws.{countable}
use Rattle.tally.proofs.ReplyLaws.{noted_rows}

-- ---- `reply`
module _ (t : Tally) (r : Reply) (check : Result Unit Refusal) (e : refusal_of check ≡ reply_refusal t r) (u : Unit {0}) (was : check ≡ Ok u) where
  abbrev passed : reply_refusal t r ≡ 0
  passed = sym e ∙ ap refusal_of was

  pub source_below : r.source < 16
  source_below =
      let s = (countable t r).0 passed in
      omega (arith, s.replica, s.opening.population)

  -- the rows with the reply counted
  pub rows_fit : (rows : List ℕ) → rows ≡ with_row t.rows r.source (row_with t.heard (row_in t.rows r.source) r.source r.row) → length t.rows ≡ 64
      → (t.population ≤ 16) × (t.width ≤ most_shards) × (t.population * 4 ≤ length rows) × RowsBelow t.population t.width (row_in rows)
  unfolding noted
  rows_fit rows q long =
      let s = (countable t r).0 passed in
      rw q (s.opening.population.1, s.opening.shards.2, simp length-sets (omega (arith, long, s.opening.population)), noted_rows t r passed long)
