-- Worked fault lists, computed by the checker: the site sheet's lines, each refusal, and which of two comes first. Assumes nothing.
use mathlib.Core.Path.{◌≡◌, refl}
use mathlib.Core.Bool.{false}
use mathlib.Core.List.{List, [], ◌∷◌, ◌++◌, map}
use Prim.Native.Nat.{ℕ, ◌-◌}
use lib.IntN.{negsuc}
use lib.Ieee.{Float, nan, fin, mul, le, lt}
use lib.ListN.{length, replicate}
use Rattle.lists.specs.Below.{some_below, those_below, front}
use Rattle.bitmap.specs.Mask.{count}
use Rattle.refusals.specs.Limits.{is_population}
use Rattle.refusals.specs.Outcome.{Outcome, refused, accepted}
use Rattle.floats.specs.Floats.{plus_zero, one, is_probability}
use Rattle.profiles.specs.declared.Profile.{Profile}
use Rattle.profiles.specs.Profile.{is_threshold, domains_fit, probs_fit, domains_counted}
use Rattle.maximal.specs.Maximal.{is_part, is_beyond, is_covered_by, is_maximal, maximals}
use Rattle.faults.specs.Family.{times_of, is_probable, is_sized, is_among, family_of}
use Rattle.faults.specs.FaultList.{fault_refusal, fault_list_of, fault_words}

half : Float
half = fin false 1 (negsuc 0)

quarter : Float
quarter = fin false 1 (negsuc 1)

-- a profile with these domains and probabilities
profile : List ℕ → List Float → Float → Profile
profile ds ps threshold = record {
  domain_count = length ds;
  prob_count = length ps;
  runtime = false;
  threshold = threshold;
  probs = ps ++ replicate (16 - length ps) plus_zero;
  domains = ds ++ replicate (64 - length ds) 0;
}

none : Profile
unfolding profile
none = profile [] [] plus_zero

record Line : Type 0 where
  n : ℕ
  f : ℕ
  p : Profile
  says : Outcome ℕ
  writes : List ℕ

line : ℕ → ℕ → Profile → Outcome ℕ → List ℕ → Line
line n f p says writes = record { n = n; f = f; p = p; says = says; writes = writes }

-- what the lent list of four words holds before: a refusal, and words past the count, leave it
before : List ℕ
before = 91 ∷ 92 ∷ 93 ∷ 94 ∷ []

sheet : List Line
unfolding line none profile half quarter before
sheet =
    -- n 3, f 1; with the domain 0,1; with 0,1,2; f 0
    line 3 1 none (accepted 3) (1 ∷ 2 ∷ 4 ∷ 94 ∷ [])
    ∷ line 3 1 (profile (3 ∷ []) [] plus_zero) (accepted 2) (3 ∷ 4 ∷ 93 ∷ 94 ∷ [])
    ∷ line 3 1 (profile (7 ∷ []) [] plus_zero) (refused 21) before
    ∷ line 3 0 none (accepted 1) (0 ∷ 92 ∷ 93 ∷ 94 ∷ [])
    -- probabilities 0.5, 0.5, 0.25 at the threshold 0.25; at 0.5, below which no pair comes; certain failures
    ∷ line 3 1 (profile [] (half ∷ half ∷ quarter ∷ []) quarter) (accepted 2) (3 ∷ 4 ∷ 93 ∷ 94 ∷ [])
    ∷ line 3 0 (profile [] (half ∷ half ∷ quarter ∷ []) half) (accepted 2) (1 ∷ 2 ∷ 93 ∷ 94 ∷ [])
    ∷ line 2 0 (profile [] (one ∷ one ∷ []) one) (refused 21) before
    -- a domain listed twice, out of order and inside another; an empty one
    ∷ line 3 0 (profile (4 ∷ 2 ∷ 6 ∷ 4 ∷ 0 ∷ []) [] plus_zero) (accepted 1) (6 ∷ 92 ∷ 93 ∷ 94 ∷ [])
    ∷ line 2 0 (profile (2 ∷ 1 ∷ []) [] plus_zero) (accepted 2) (1 ∷ 2 ∷ 93 ∷ 94 ∷ [])
    -- the population; the tolerance
    ∷ line 0 0 none (refused 1) before
    ∷ line 17 1 none (refused 1) before
    ∷ line 3 3 none (refused 2) before
    ∷ line 1 2 none (refused 2) before
    -- a domain with a fourth replica; probabilities; a 65th domain
    ∷ line 3 1 (profile (8 ∷ []) [] plus_zero) (refused 9) before
    ∷ line 3 1 (profile [] (half ∷ half ∷ []) quarter) (refused 11) before
    ∷ line 3 1 (profile [] (half ∷ nan ∷ half ∷ []) quarter) (refused 11) before
    ∷ line 3 1 (profile [] (half ∷ half ∷ half ∷ []) plus_zero) (refused 11) before
    ∷ line 3 1 (profile (replicate 65 1) [] plus_zero) (refused 12) before
    -- four sets and four words; five sets
    ∷ line 4 1 none (accepted 4) (1 ∷ 2 ∷ 4 ∷ 8 ∷ [])
    ∷ line 5 1 none (refused 22) before
    -- two cases hold: the first refuses
    ∷ line 17 17 none (refused 1) before
    ∷ line 3 3 (profile (8 ∷ []) [] plus_zero) (refused 2) before
    ∷ line 3 1 (profile (8 ∷ []) (half ∷ []) quarter) (refused 9) before
    ∷ line 3 1 (profile (replicate 65 1) (half ∷ []) quarter) (refused 11) before
    ∷ line 5 1 (profile (31 ∷ []) [] plus_zero) (refused 21) before
    ∷ []

-- no word is lent: the one set of f 0 has no room; neither has that of every replica, and 21 refuses it
unlent :
    fault_list_of 3 0 none 0 ∷ fault_list_of 3 1 (profile (7 ∷ []) [] plus_zero) 0 ∷ []
    ≡ refused 22 ∷ refused 21 ∷ []
unfolding half quarter profile none fault_list_of fault_refusal is_population domains_fit probs_fit domains_counted
    maximals those_below is_maximal is_covered_by some_below is_beyond is_part family_of is_sized is_among is_probable times_of count
unlent = refl

answers : map (λ (l : Line). fault_list_of l.n l.f l.p 4) sheet ≡ map (λ (l : Line). l.says) sheet
unfolding before half quarter profile none line sheet fault_list_of fault_refusal is_population domains_fit probs_fit domains_counted is_threshold is_probability le lt
    maximals those_below is_maximal is_covered_by some_below is_beyond is_part family_of is_sized is_among is_probable times_of mul count
answers = refl

words : map (λ (l : Line). fault_words l.n l.f l.p before) sheet ≡ map (λ (l : Line). l.writes) sheet
unfolding before half quarter profile none line sheet fault_words front fault_refusal is_population domains_fit probs_fit domains_counted is_threshold is_probability le lt
    maximals those_below is_maximal is_covered_by some_below is_beyond is_part family_of is_sized is_among is_probable times_of mul count
words = refl
