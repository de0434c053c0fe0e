-- The text of a reliability profile: mechanisms split at `;`, each read into the profile so far. The first fault from the left decides. Assumes nothing.
use Rattle.std.specs.Prelude.{true, false, cond, ◌||◌, List, [], ◌∷◌, ◌++◌, ℕ, ◌+◌, ◌-◌, ltb, Float, length, set, take, replicate, Result}
use Rattle.std.specs.Float.{binary64}
use Rattle.std.specs.Float.Ieee.{round}
use Rattle.refusals.specs.Numbers.{POPULATION, TEXT, MECHANISM, PROBABILITIES, DOMAINS}
use Rattle.refusals.specs.First.{unless, first_of}
use Rattle.refusals.specs.Outcome.{Outcome, refused, accepted, checked, and_then}
use Rattle.refusals.specs.Limits.{is_population}
use Rattle.refusals.specs.Refused.{outcome_by}
use Rattle.refusals.specs.declared.Refusal.{Refusal}
use Rattle.floats.specs.Floats.{plus_zero}
use Rattle.profiles.specs.declared.Profile.{Profile}
use Rattle.profiles.specs.Profile.{probs_fit}
use Rattle.numerals.specs.Quoted.{bytes}
use Rattle.numerals.specs.Text.{is_text, is_empty, is_same, trim, before, behind, split}
use Rattle.numerals.specs.Read.{read_each}
use Rattle.numerals.specs.Whole.{members_of}
use Rattle.decimals.specs.Decimal.{decimal_of}
use Rattle.profile_text.specs.declared.Decimals.{Decimals}

-- ---- a profile

-- the first k of xs, and after them x up to the length k
abbrev pub filled : {A : Type 0} → ℕ → A → List A → List A
filled k x xs = take k xs ++ replicate (k - length xs) x

-- neither domains nor probabilities
unfoldable pub nothing : Profile
nothing = record {
  domain_count = 0;
  prob_count = 0;
  runtime = false;
  threshold = plus_zero;
  probs = filled 16 plus_zero [];
  domains = filled 64 0 [];
}

-- one domain more, in the next word
unfoldable pub with_domain : Profile → ℕ → Profile
with_domain p m = record {
  domain_count = p.domain_count + 1;
  prob_count = p.prob_count;
  runtime = p.runtime;
  threshold = p.threshold;
  probs = p.probs;
  domains = set p.domains p.domain_count m;
}

-- other probabilities, as many as are counted, and another threshold
unfoldable pub with_words : Profile → ℕ → List Float → Float → Profile
with_words p count probs t = record {
  domain_count = p.domain_count;
  prob_count = count;
  runtime = p.runtime;
  threshold = t;
  probs = probs;
  domains = p.domains;
}

abbrev pub with_probs : Profile → List Float → Float → Profile
with_probs p ps t = with_words p (length ps) (filled 16 plus_zero ps) t

unfoldable pub with_runtime : Profile → Profile
with_runtime p = record {
  domain_count = p.domain_count;
  prob_count = p.prob_count;
  runtime = true;
  threshold = p.threshold;
  probs = p.probs;
  domains = p.domains;
}

-- ---- `domains`: sets split by `/`, members by `,`

-- a 65th domain is refused before its members
unfoldable pub domain_in : ℕ → Profile → List ℕ → Outcome Profile
domain_in n p s = cond (ltb p.domain_count 64) (and_then (members_of true n s) (λ m. accepted (with_domain p m))) (refused DOMAINS)

unfoldable pub domains_in : ℕ → Profile → List ℕ → Outcome Profile
domains_in n p args = read_each (domain_in n) p (split 47 args)

-- ---- `probs`: decimals split by `,` and, after the first `@`, a threshold

-- one decimal more
unfoldable pub decimal_in : List Float → List ℕ → Outcome (List Float)
decimal_in ps s = and_then (decimal_of (trim s)) (λ x. accepted (ps ++ (x ∷ [])))

unfoldable pub decimals_of : List ℕ → Outcome (List Float)
decimals_of s = read_each decimal_in [] (split 44 s)

-- blank means 1e-3
abbrev pub default_threshold : Float
default_threshold = round binary64 false 1 1000

unfoldable pub threshold_of : List ℕ → Outcome Float
threshold_of s = cond (is_empty (trim s)) (accepted default_threshold) (decimal_of (trim s))

-- 11 is tested as in a profile that is handed in
unfoldable pub fitting : ℕ → Profile → Outcome Profile
fitting n p = cond (probs_fit n p) (accepted p) (refused PROBABILITIES)

-- and after all of them have been read
unfoldable pub probs_in : ℕ → Profile → List ℕ → Outcome Profile
probs_in n p args = and_then (decimals_of (before 64 args)) (λ ps. and_then (threshold_of (behind 64 args)) (λ t. fitting n (with_probs p ps t)))

-- ---- mechanisms

abbrev pub none_name : List ℕ
none_name = bytes "none"

abbrev pub domains_name : List ℕ
domains_name = bytes "domains"

abbrev pub probs_name : List ℕ
probs_name = bytes "probs"

abbrev pub runtime_name : List ℕ
runtime_name = bytes "runtime"

-- a mechanism of a name, with what follows its colon; `runtime` ignores that
unfoldable pub named_in : ℕ → Profile → List ℕ → List ℕ → Outcome Profile
named_in n p name args =
    cond (is_same name domains_name) (domains_in n p args)
    (cond (is_same name probs_name) (probs_in n p args) (cond (is_same name runtime_name) (accepted (with_runtime p)) (refused MECHANISM)))

-- empty ones and `none` are skipped; the name ends at the first `:` and is trimmed
unfoldable pub mechanism_in : ℕ → Profile → List ℕ → Outcome Profile
mechanism_in n p s = cond (is_empty (trim s) || is_same (trim s) none_name) (accepted p) (named_in n p (trim (before 58 (trim s))) (behind 58 (trim s)))

unfoldable pub mechanisms_of : ℕ → List ℕ → Outcome Profile
mechanisms_of n s = read_each (mechanism_in n) nothing (split 59 s)

-- ---- the text

-- a profile's text has at most 4,096 bytes
abbrev pub most_bytes : ℕ
most_bytes = 4096

unfoldable pub profile_of : ℕ → List ℕ → Outcome Profile
profile_of n s = checked (first_of (unless (is_population n) POPULATION ∷ unless (is_text most_bytes s) TEXT ∷ [])) (mechanisms_of n s)

-- ---- what the answers are

-- of a text, or a part of one, with the profile that is lent at exit
abbrev pub answer : Result Unit Refusal → Profile → Outcome Profile
answer r p = outcome_by (λ u. p) r

-- of a list of decimals: how many, and the first 16
abbrev pub listed : List Float → Decimals
listed ps = record { count = length ps; values = filled 16 plus_zero ps }
