-- What the entries rest on: a part of a local table that is lent, and the answers where nothing refuses. The premises are the fields of a
-- need's record. Assumes nothing.
use mathlib.Core.Path.{◌≡◌, refl, sym, ap, subst, ◌∙◌}
use mathlib.Core.Bool.{Bool}
use mathlib.Core.List.{List}
use Prim.Native.Nat.{ℕ, ◌*◌, ◌^◌, ◌≤◌, ◌<◌}
use native.Mathlib.Omega.{arith}
use lib.ListN.{length}
use Rattle.lists.specs.Below.{front}
use Rattle.lists.proofs.BelowLoops.{front_all}
use Rattle.refusals.specs.Outcome.{accepted}
use Rattle.refusals.proofs.Outcomes.{ok_outcome}
use Rattle.rows.specs.Row.{row_in, spelled}
use Rattle.rows.proofs.TableLaws.{spelled_length}
use Rattle.coverage.specs.Coverage.{RowsBelow}
use Rattle.layout.specs.declared.TotalShards.{TotalShards}
use Rattle.layout.specs.Layout.{Fit, bound, width_of, rows_of, layout_commits, heard_loads, rows_refusal, rows_written, commits_refusal, layout_commits_of, trial_written}
use Rattle.layout.proofs.LayoutLaws.{rows_length, heard_length, spelled_below}
use Rattle.layout.proofs.RefusalLaws.{rows_sound, trial_sound}

-- ---- rows laid in a table of as many
pub whole : (d : ℕ) (total : TotalShards) (loads rows : List ℕ) → length rows ≡ length loads * 4 → front (spelled (rows_of d total loads)) rows ≡ spelled (rows_of d total loads)
whole d total loads rows h = front_all (spelled (rows_of d total loads)) rows (omega (arith, rows_length d total loads, spelled_length (rows_of d total loads)))

-- a width and a table that are those of the loads: no shard is at or above it
pub laid_below : (n d : ℕ) (total : TotalShards) (loads : List ℕ) → Fit d (bound total) → (w : ℕ) (table : List ℕ) → w ≡ width_of d total loads
    → table ≡ spelled (rows_of d total loads) → RowsBelow n w (row_in table)
laid_below n d total loads h w table e q s l =
    subst (λ (k : ℕ). row_in table s < 2 ^ k) (sym e)
    (subst (λ (t : List ℕ). row_in t s < 2 ^ width_of d total loads) (sym q) (spelled_below d total loads h n s l))

-- ---- `layout_rows`
module _ (n d : ℕ) (total : TotalShards) (loads rows : List ℕ) (z : 0 ≡ rows_refusal n d total (length loads) (length rows)) where
  pub rows_written_are : (after : List ℕ) → after ≡ front (spelled (rows_of d total loads)) rows → after ≡ rows_written n d total loads rows
  unfolding rows_written
  rows_written_are after l =
      let s = (rows_sound n d total (length loads) (length rows)).0 (sym z) in
      rw (sym z) (l ∙ whole d total loads rows (omega arith))

-- ---- `layout_commits`
pub trial_small : (n quorum d : ℕ) (total : TotalShards) (answered loads : ℕ) (faults : List ℕ) (rows : ℕ)
    → 0 ≡ commits_refusal n quorum d total answered loads faults rows → n ≤ 16
trial_small n quorum d total answered loads faults rows z = ((trial_sound n quorum d total answered loads faults rows).0 (sym z)).population.1

-- the loads of those that answer, tested, and the table that they are laid in
module _ (n quorum d : ℕ) (total : TotalShards) (answered : ℕ) (loads faults rows : List ℕ)
    (z : 0 ≡ commits_refusal n quorum d total answered (length loads) faults (length rows))
    (heard : List ℕ) (h : heard ≡ heard_loads answered loads) where
  pub trial_laid : (after : List ℕ) → after ≡ spelled (rows_of d total heard) → after ≡ trial_written n quorum d total answered loads faults rows
  unfolding trial_written
  trial_laid after l = rw (sym z) (l ∙ ap (λ (x : List ℕ). spelled (rows_of d total x)) h)

  pub trial_says : (t : ℕ × Bool) → t ≡ (width_of d total heard, layout_commits n quorum d total answered faults heard)
      → accepted t ≡ layout_commits_of n quorum d total answered loads faults (length rows)
  unfolding layout_commits_of
  trial_says t e =
      ok_outcome _ z _ t (e ∙ ap (λ (x : List ℕ). (width_of d total x, layout_commits n quorum d total answered faults x)) h)

-- the same of a table that has the rows at its front
module _ (n quorum d : ℕ) (total : TotalShards) (answered : ℕ) (loads faults rows : List ℕ) (got : ℕ)
    (e : got ≡ commits_refusal n quorum d total answered (length loads) faults (length rows)) (z : got ≡ 0)
    (heard after : List ℕ) (h : heard ≡ heard_loads answered loads) (l : after ≡ front (spelled (rows_of d total heard)) rows) where
  pub trial_written_is : after ≡ trial_written n quorum d total answered loads faults rows
  trial_written_is =
      let s = (trial_sound n quorum d total answered (length loads) faults (length rows)).0 (sym e ∙ z) in
      trial_laid n quorum d total answered loads faults rows (sym z ∙ e) (heard_loads answered loads) refl after
      (l ∙ ap (λ (x : List ℕ). front (spelled (rows_of d total x)) rows) h ∙ whole d total (heard_loads answered loads) rows (omega (arith, heard_length answered loads)))
