-- `layout::layout_commits` meets its contract. Assumes nothing.
use mathlib.Core.Path.{sym, ◌∙◌}
use lib.ListN.{replicate}
use Rattle.lists.proofs.Lent.{lent}
use Rattle.layout.specs.Layout.{layout_commits_of, trial_written}
use Rattle.layout.proofs.RefusalLaws.{trial_sound}
use Rattle.layout.proofs.Entries.{trial_small, trial_laid, trial_says}
use Rattle.layout.proofs.layout_commits.Goals as goal

pub slice_bounds-heard-end : goal.slice_bounds-heard-end
unfolding layout_commits_of trial_written
slice_bounds-heard-end c =
    trial_small _ _ _ _ _ _ _ _ c.in_ok-check_commits.ensures

pub slice_bounds-heard-end-2 : goal.slice_bounds-heard-end-2
unfolding layout_commits_of trial_written
slice_bounds-heard-end-2 c =
    lent _ (replicate 16 0) (trial_small _ _ _ _ _ _ _ _ c.in_ok-check_commits.ensures)

pub heard_loads-requires : goal.heard_loads-requires
unfolding layout_commits_of trial_written
heard_loads-requires c =
    let s = (trial_sound _ _ _ _ _ _ _ _).0 (sym c.in_ok-check_commits.ensures) in
    sym (lent _ (replicate 16 0) s.population.1) ∙ sym s.each_load

pub invariant_of-rule : goal.invariant_of-rule
unfolding layout_commits_of trial_written
invariant_of-rule c =
    let s = (trial_sound _ _ _ _ _ _ _ _).0 (sym c.in_ok-check_commits.ensures) in
    record { small = s.population.1; fits = s.shards }

pub trial-requires : goal.trial-requires
unfolding layout_commits_of trial_written
trial-requires c =
    let s = (trial_sound _ _ _ _ _ _ _ _).0 (sym c.in_ok-check_commits.ensures) in
    record { a_load_each = c.heard_loads.auto.heard ∙ sym (lent _ (replicate 16 0) s.population.1); a_row_each = s.table }

pub returns : goal.returns
unfolding layout_commits_of trial_written
returns c =
    let z = c.in_ok-check_commits.ensures in
    record { answer = trial_says _ _ _ _ _ _ _ _ z _ c.heard_loads.ensures _ c.trial.ensures.answer; words = trial_laid _ _ _ _ _ _ _ _ z _ c.heard_loads.ensures _ c.trial.ensures.words }
