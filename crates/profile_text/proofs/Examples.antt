-- Worked values of `profile_of`, computed by the checker: what is read, each refusal, and which of two faults is reported. Assumes nothing.
use mathlib.Core.Path.{◌≡◌, refl}
use mathlib.Core.Bool.{Bool, true, false}
use mathlib.Core.List.{List, [], ◌∷◌, ◌++◌, map}
use Prim.Native.Nat.{ℕ, zero, suc}
use Prim.Native.String.{String}
use lib.Count.{count_trailing_zeros}
use lib.IntN.{pos, negsuc}
use lib.Ieee.{Float, fin, is_nan, lt, le, round, size, units, odd, span, climb}
use lib.ListN.{length, replicate}
use Rattle.refusals.specs.Outcome.{Outcome, refused, accepted}
use Rattle.refusals.specs.Limits.{is_population}
use Rattle.floats.specs.Floats.{plus_zero, one, is_probability}
use Rattle.profiles.specs.declared.Profile.{Profile}
use Rattle.profiles.specs.Profile.{is_threshold, probs_fit}
use Rattle.numerals.specs.Quoted.{bytes}
use Rattle.numerals.specs.Text.{without, is_text, is_same, trim_start, trim_end, trim, cut_by, split}
use Rattle.numerals.specs.Read.{read_each}
use Rattle.numerals.specs.Whole.{is_digits, spelt, whole_of, below_of, member_of, member_in, members_of}
use Rattle.decimals.specs.Decimal.{is_negative, written_of, decimal_of}
use Rattle.profile_text.specs.ProfileText.{filled, nothing, with_domain, with_words, with_runtime, domain_in, domains_in, decimal_in, decimals_of, threshold_of, fitting, probs_in, named_in, mechanism_in, mechanisms_of, profile_of}

abbrev minus_zero : Float
minus_zero = fin true 0 (pos 0)

abbrev quarter : Float
quarter = fin false 1 (negsuc 1)

abbrev half : Float
half = fin false 1 (negsuc 0)

-- the double nearest to 1e-3: 1152921504606847 / 2 ^ 60
abbrev thousandth : Float
thousandth = fin false 1152921504606847 (negsuc 59)

-- ---- profiles

-- `runtime`, the domains, the probabilities and the threshold
profile : Bool → List ℕ → List Float → Float → Profile
profile runtime domains probs threshold =
    record {
      domain_count = length domains;
      prob_count = length probs;
      runtime = runtime;
      threshold = threshold;
      probs = filled 16 plus_zero probs;
      domains = filled 64 0 domains;
    }

-- neither domains nor probabilities
bare : Bool → Profile
unfolding profile
bare runtime = profile runtime [] [] plus_zero

-- domains alone
grouped : List ℕ → Profile
unfolding profile
grouped domains = profile false domains [] plus_zero

-- probabilities alone, with the threshold
likely : List Float → Float → Profile
unfolding profile
likely probs threshold = profile false [] probs threshold

-- ---- the table

times : ℕ → List ℕ → List ℕ
times zero part = []
times (suc k) part = part ++ times k part

-- a start, k times a part, and an end
repeated : String → ℕ → String → String → List ℕ
unfolding times
repeated start k part end = bytes start ++ times k (bytes part) ++ bytes end

record Line : Type 0 where
  n : ℕ
  text : List ℕ
  says : Outcome Profile

line : ℕ → List ℕ → Outcome Profile → Line
line n text says = record { n = n; text = text; says = says }

sheet : List Line
unfolding line profile bare grouped likely times repeated
sheet =
    -- skipped: nothing, `none`, empty parts; what follows the colon of `runtime` is not read
    line 3 (bytes "") (accepted (bare false))
    ∷ line 3 (bytes " none ;; runtime:xyz") (accepted (bare true))
    ∷ line 3 (bytes "runtime") (accepted (bare true))
    ∷ line 3 (bytes " runtime : ;") (accepted (bare true))
    -- domains: sets, members with blanks and a +, and several mechanisms
    ∷ line 3 (bytes "domains:0,1/2") (accepted (grouped (3 ∷ 4 ∷ [])))
    ∷ line 3 (bytes "domains: 0 , +1 ") (accepted (grouped (3 ∷ [])))
    ∷ line 3 (bytes " domains :0;runtime;domains:1/0,2") (accepted (profile true (1 ∷ 2 ∷ 5 ∷ []) [] plus_zero))
    ∷ line 16 (bytes "domains:15") (accepted (grouped (0x8000 ∷ [])))
    -- 9, and 7
    ∷ line 3 (bytes "domains:3") (refused 9)
    ∷ line 3 (bytes "domains:") (refused 7)
    ∷ line 3 (bytes "domains") (refused 7)
    ∷ line 3 (bytes "domains:0/x") (refused 7)
    ∷ line 3 (bytes "domains:0/") (refused 7)
    -- probabilities, with a threshold and without
    ∷ line 3 (bytes "probs:0.5,0.5,0.25@0.25") (accepted (likely (half ∷ half ∷ quarter ∷ []) quarter))
    ∷ line 3 (bytes "probs:0.5,0.5,0.25") (accepted (likely (half ∷ half ∷ quarter ∷ []) thousandth))
    ∷ line 3 (bytes "probs:0.5,0.5,0.25@ ") (accepted (likely (half ∷ half ∷ quarter ∷ []) thousandth))
    ∷ line 3 (bytes "probs: .5 , 1. ,+0.25 @ 1 ") (accepted (likely (half ∷ one ∷ quarter ∷ []) one))
    ∷ line 3 (bytes "probs:-0,0,0") (accepted (likely (minus_zero ∷ plus_zero ∷ plus_zero ∷ []) thousandth))
    -- 11 after all have been read: 7 and 8 come first
    ∷ line 3 (bytes "probs:1,1") (refused 11)
    ∷ line 3 (bytes "probs:1,1@x") (refused 7)
    ∷ line 3 (bytes "probs:2,x,1") (refused 7)
    ∷ line 3 (bytes "probs:1,1,1@0") (refused 11)
    ∷ line 3 (bytes "probs:1,1,1@1e23") (refused 8)
    ∷ line 3 (bytes "probs:1,1,1,1") (refused 11)
    ∷ line 3 (bytes "probs:x") (refused 7)
    ∷ line 3 (bytes "probs:") (refused 7)
    ∷ line 3 (bytes "probs:1,1,2") (refused 11)
    ∷ line 3 (bytes "probs:1,1,1@2") (refused 11)
    ∷ line 3 (bytes "probs:1,1,1@1@1") (refused 7)
    -- 17 decimals: the last of them is read too
    ∷ line 3 (bytes "probs:1,1,1,1,1,1,1,1,1,1,1,1,1,1,1,1,1") (refused 11)
    ∷ line 3 (bytes "probs:1,1,1,1,1,1,1,1,1,1,1,1,1,1,1,1,x") (refused 7)
    ∷ line 16 (bytes "probs:1,1,1,1,1,1,1,1,1,1,1,1,1,1,1,0.5") (accepted (likely (replicate 15 one ++ half ∷ []) thousandth))
    -- the last ones count, and each is tested
    ∷ line 3 (bytes "probs:1,1,1;probs:0,0,0") (accepted (likely (plus_zero ∷ plus_zero ∷ plus_zero ∷ []) thousandth))
    ∷ line 3 (bytes "probs:2,2,2;probs:0,0,0") (refused 11)
    ∷ line 3 (bytes "probs:1,1,1@1;domains:0;runtime") (accepted (profile true (1 ∷ []) (one ∷ one ∷ one ∷ []) one))
    -- the digit rule
    ∷ line 1 (bytes "probs:1e22") (refused 11)
    ∷ line 1 (bytes "probs:1e23") (refused 8)
    ∷ line 1 (bytes "probs:0.12345678901234") (accepted (likely (fin false 4447999591938659 (negsuc 54) ∷ []) thousandth))
    ∷ line 1 (bytes "probs:0.123456789012345") (refused 8)
    -- 10: an unknown mechanism
    ∷ line 3 (bytes "x") (refused 10)
    ∷ line 3 (bytes "none:") (refused 10)
    ∷ line 3 (bytes "Domains:0") (refused 10)
    ∷ line 3 (bytes ":") (refused 10)
    -- the first fault from the left
    ∷ line 3 (bytes "x;domains:9") (refused 10)
    ∷ line 3 (bytes "domains:9;x") (refused 9)
    ∷ line 3 (bytes "probs:1,1;domains:x") (refused 11)
    -- 64 domains, a 65th and its fault, a 65th in another mechanism
    ∷ line 3 (repeated "domains:" 63 "0/" "0") (accepted (grouped (replicate 64 1)))
    ∷ line 3 (repeated "domains:" 64 "0/" "0") (refused 12)
    ∷ line 3 (repeated "domains:" 64 "0/" "x") (refused 12)
    ∷ line 3 (repeated "domains:" 63 "0/" "0;domains:x") (refused 12)
    -- 1 before all, and 6 before a fault further left; the most bytes, and one more
    ∷ line 0 (bytes "") (refused 1)
    ∷ line 17 (bytes "") (refused 1)
    ∷ line 17 (200 ∷ []) (refused 1)
    ∷ line 3 (bytes "x;" ++ 200 ∷ []) (refused 6)
    ∷ line 3 (replicate 4096 59) (accepted (bare false))
    ∷ line 3 (replicate 4097 59) (refused 6)
    ∷ []

answered : map (λ (l : Line). profile_of l.n l.text) sheet ≡ map (λ (l : Line). l.says) sheet
unfolding line profile bare grouped likely times repeated sheet profile_of mechanisms_of mechanism_in named_in domains_in domain_in probs_in decimals_of decimal_in threshold_of fitting nothing
    with_domain with_words with_runtime read_each split trim trim_start trim_end cut_by is_text is_same is_digits spelt without whole_of below_of member_of member_in members_of
    decimal_of written_of is_negative is_population probs_fit is_threshold is_probability is_nan lt le round size units odd span climb count_trailing_zeros
answered = refl
