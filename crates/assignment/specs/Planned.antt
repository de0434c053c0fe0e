-- What a plan is of a commit rule and of a search: the definitions of plans, applied to their fields. Assumes nothing.
use Rattle.std.specs.Prelude.{List, ℕ, Float, Option}
use Rattle.refusals.specs.Outcome.{Outcome}
use Rattle.layout.specs.declared.rule.CommitRule.{CommitRule}
use Rattle.candidates.specs.declared.search.Search.{Search}
use Rattle.assignment.specs.Plans.{Plan, laid_out, loads_for, plan_at, plan_of}

-- the result of trimmed loads at the time t
abbrev pub rule_laid_out : CommitRule → ℕ → Float → List ℕ → Outcome (Option Plan)
rule_laid_out r answered t loads = laid_out r.population r.quorum r.data_shards r.total r.faults.now answered t loads

-- the plan of a table of times, of which those of `own` are ours
abbrev pub rule_plan : CommitRule → ℕ → List Float → Outcome (Option Plan)
rule_plan r own times = plan_of r.population own r.quorum r.data_shards r.total r.faults.now times

-- the loads of a time, trimmed
abbrev pub search_loads : Search → Float → List ℕ
search_loads s t = loads_for s.rule.population s.times.own.0 s.rule.quorum s.rule.data_shards s.rule.total s.rule.faults.now s.times.times.now t

abbrev pub search_plan_at : Search → Option Float → Outcome (Option Plan)
search_plan_at s t = plan_at s.rule.population s.times.own.0 s.rule.quorum s.rule.data_shards s.rule.total s.rule.faults.now s.times.times.now t

abbrev pub search_plan : Search → Outcome (Option Plan)
search_plan s = rule_plan s.rule s.times.own.0 s.times.times.now
