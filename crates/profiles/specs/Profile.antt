-- What a profile says, and when one that is handed in is refused. Assumes nothing.
use Rattle.std.specs.Prelude.{ℕ, Bool, not, ◌&&◌, ◌||◌, List, [], ◌∷◌, leb, eqb, Float, take}
use Rattle.std.specs.Float.Ieee.{le, lt}
use Rattle.std.specs.List.{list_all}
use Rattle.refusals.specs.Numbers.{MEMBER, PROBABILITIES, DOMAINS}
use Rattle.refusals.specs.First.{Case, unless}
use Rattle.refusals.specs.Limits.{is_mask}
use Rattle.floats.specs.Floats.{plus_zero, one, is_probability}
use Rattle.profiles.specs.declared.Profile.{Profile}

-- it has probabilities
abbrev pub has_probs : Profile → Bool
has_probs p = not (eqb p.prob_count 0)

-- the domains that it counts, at most the words that it has
abbrev pub domains_of : Profile → List ℕ
domains_of p = take p.domain_count p.domains

-- the probabilities of n replicas
abbrev pub probs_of : ℕ → Profile → List Float
probs_of n p = take n p.probs

-- a threshold: above 0, and at most 1
unfoldable pub is_threshold : Float → Bool
is_threshold t = lt plus_zero t && le t one

-- each domain has members below n alone
unfoldable pub domains_fit : ℕ → Profile → Bool
domains_fit n p = list_all (is_mask n) (domains_of p)

-- a probability for each of n replicas and a threshold, where it has probabilities
unfoldable pub probs_fit : ℕ → Profile → Bool
probs_fit n p = not (has_probs p) || (eqb p.prob_count n && (list_all is_probability (probs_of n p) && is_threshold p.threshold))

-- at most 64 domains
unfoldable pub domains_counted : Profile → Bool
domains_counted p = leb p.domain_count 64

-- the cases in which a profile of n replicas is refused
abbrev pub profile_cases : ℕ → Profile → List Case
profile_cases n p = unless (domains_fit n p) MEMBER ∷ unless (probs_fit n p) PROBABILITIES ∷ unless (domains_counted p) DOMAINS ∷ []
