-- The fault list: its refusals, its answer and its words. Assumes nothing.
use Rattle.std.specs.Prelude.{ℕ, ◌≤◌, ◌≡◌, Bool, true, List, [], ◌∷◌, ◌++◌, leb, length}
use Rattle.std.specs.List.{list_all}
use Rattle.lists.specs.Below.{front}
use Rattle.bitmap.specs.Mask.{all_below}
use Rattle.refusals.specs.Numbers.{POPULATION, TOLERANCE, EVERY_REPLICA, ROOM}
use Rattle.refusals.specs.First.{Case, unless, first_of}
use Rattle.refusals.specs.Outcome.{Outcome, outcome, written}
use Rattle.refusals.specs.Limits.{is_population, is_tolerance, is_mask}
use Rattle.floats.specs.Floats.{is_probability}
use Rattle.profiles.specs.declared.Profile.{Profile}
use Rattle.profiles.specs.Profile.{has_probs, domains_of, probs_of, profile_cases}
use Rattle.maximal.specs.Maximal.{maximals}
use Rattle.faults.specs.Family.{family}

-- ---- the entry

-- from the input
abbrev pub input_cases : ℕ → ℕ → Profile → List Case
input_cases n f p = unless (is_population n) POPULATION ∷ unless (is_tolerance n f) TOLERANCE ∷ profile_cases n p

-- of a family g of sets of n replicas and a list of `room` words: a set that contains every replica, or more maximal sets than words
abbrev pub list_cases : (ℕ → Bool) → ℕ → ℕ → List Case
list_cases g n room = (g (all_below n), EVERY_REPLICA) ∷ unless (leb (length (maximals g n)) room) ROOM ∷ []

unfoldable pub fault_refusal : ℕ → ℕ → Profile → ℕ → ℕ
fault_refusal n f p room = first_of (input_cases n f p ++ list_cases (family n f p) n room)

unfoldable pub fault_list_of : ℕ → ℕ → Profile → ℕ → Outcome ℕ
fault_list_of n f p room = outcome (fault_refusal n f p room) (length (maximals (family n f p) n))

-- the lent list at exit: the maximal sets at its front, and past them what it held
unfoldable pub fault_words : ℕ → ℕ → Profile → List ℕ → List ℕ
fault_words n f p list = written (fault_refusal n f p (length list)) (front (maximals (family n f p) n) list) list

-- ---- its parts

-- what an unrefused profile is: at most 64 domains, each of members below n, and probabilities where it has them
pub record Accepted (n : ℕ) (p : Profile) : Type 0 where
  pub counted : p.domain_count ≤ 64
  pub members : list_all (is_mask n) (domains_of p) ≡ true
  pub chances : has_probs p ≡ true → list_all is_probability (probs_of n p) ≡ true

-- the answer of listing the maximal sets of any family g, and the list after it
unfoldable pub list_answer : (ℕ → Bool) → ℕ → ℕ → Outcome ℕ
list_answer g n room = outcome (first_of (list_cases g n room)) (length (maximals g n))

unfoldable pub list_words : (ℕ → Bool) → ℕ → List ℕ → List ℕ
list_words g n list = written (first_of (list_cases g n (length list))) (front (maximals g n) list) list
