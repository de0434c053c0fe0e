-- What a search finds: the definitions of the search, applied to its fields. Assumes nothing.
use Rattle.std.specs.Prelude.{Bool, Option, Float}
use Rattle.candidates.specs.declared.search.Search.{Search}
use Rattle.candidates.specs.Search.{commits_at, first_time}

-- the layout of the loads at t commits
abbrev pub search_commits : Search → Float → Bool
search_commits s t = commits_at s.rule.population s.times.own.0 s.rule.quorum s.rule.data_shards s.rule.total s.rule.faults.now s.times.times.now t

-- the first candidate that does
abbrev pub search_time : Search → Option Float
search_time s = first_time s.rule.population s.times.own.0 s.rule.quorum s.rule.data_shards s.rule.total s.rule.faults.now s.times.times.now
