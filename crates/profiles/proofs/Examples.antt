-- Worked values of `unreliability`, computed by the checker: whether the probability or the downtime is given, each refusal, what is not read, and which of two
-- refusals comes first. Assumes nothing.
use mathlib.Core.Path.{◌≡◌, refl}
use mathlib.Core.Bool.{Bool, true, false, ◌&&◌}
use mathlib.Core.List.{List, [], ◌∷◌, ◌++◌, map}
use Prim.Native.Nat.{ℕ, ◌-◌}
use lib.IntN.{pos, negsuc}
use lib.Dec.{eqb}
use lib.Ieee.{Float, nan, inf, fin, is_nan, lt, le}
use lib.ListN.{length, replicate}
use Rattle.std.specs.List.{list_all}
use Rattle.refusals.specs.Outcome.{Outcome, refused, accepted}
use Rattle.refusals.specs.Limits.{is_population}
use Rattle.floats.specs.Floats.{plus_zero, one, total_le, larger, is_probability}
use Rattle.profiles.specs.declared.Profile.{Profile}
use Rattle.profiles.specs.Profile.{is_threshold, domains_fit, probs_fit, domains_counted}
use Rattle.profiles.specs.Unreliability.{unreliability_refusal, unreliability_of}

abbrev minus_zero : Float
minus_zero = fin true 0 (pos 0)

abbrev quarter : Float
quarter = fin false 1 (negsuc 1)

abbrev half : Float
half = fin false 1 (negsuc 0)

abbrev two : Float
two = fin false 1 (pos 1)

-- ---- profiles

-- the list, and after it x up to the length k
padded : {A : Type 0} → ℕ → A → List A → List A
padded k x xs = xs ++ replicate (k - length xs) x

-- `runtime`; how many domains are counted, and the first of the 64 words; how many probabilities are counted, the first of the 16, and the threshold
profile : Bool → ℕ → List ℕ → ℕ → List Float → Float → Profile
unfolding padded
profile runtime d domains k probs threshold =
    record {
      domain_count = d;
      prob_count = k;
      runtime = runtime;
      threshold = threshold;
      probs = padded 16 plus_zero probs;
      domains = padded 64 0 domains;
    }

-- neither domains nor probabilities
bare : Bool → Profile
unfolding profile
bare runtime = profile runtime 0 [] 0 [] plus_zero

-- domains alone
grouped : List ℕ → Profile
unfolding profile
grouped domains = profile false (length domains) domains 0 [] plus_zero

-- probabilities alone, with the threshold
likely : Bool → List Float → Float → Profile
unfolding profile
likely runtime probs threshold = profile runtime 0 [] (length probs) probs threshold

-- the probabilities of three replicas
three : List Float
three = half ∷ half ∷ quarter ∷ []

-- ---- the table

record Line : Type 0 where
  n : ℕ
  peer : ℕ
  p : Profile
  down : Float
  says : Outcome Float

line : ℕ → ℕ → Profile → Float → Outcome Float → Line
line n peer p down says = record { n = n; peer = peer; p = p; down = down; says = says }

sheet : List Line
unfolding line padded profile bare grouped likely three
sheet =
    -- no probabilities: 0, and under `runtime` the downtime; a NaN downtime is ignored, and -0 gives +0
    line 3 2 (bare false) quarter (accepted plus_zero)
    ∷ line 3 2 (bare true) quarter (accepted quarter)
    ∷ line 3 2 (bare true) nan (accepted plus_zero)
    ∷ line 1 0 (bare true) minus_zero (accepted plus_zero)
    -- probabilities: the peer's; under `runtime` with a smaller, an equal and a larger downtime
    ∷ line 3 0 (likely false three quarter) one (accepted half)
    ∷ line 3 2 (likely false three quarter) one (accepted quarter)
    ∷ line 3 2 (likely true three quarter) plus_zero (accepted quarter)
    ∷ line 3 2 (likely true three quarter) quarter (accepted quarter)
    ∷ line 3 2 (likely true three quarter) half (accepted half)
    -- a downtime that is a NaN, an infinity, or above 1; without `runtime` it is not read
    ∷ line 3 2 (likely true three quarter) nan (accepted quarter)
    ∷ line 3 2 (likely true three quarter) (inf false) (accepted (inf false))
    ∷ line 3 2 (likely true three quarter) (inf true) (accepted quarter)
    ∷ line 3 2 (likely true three quarter) two (accepted two)
    ∷ line 3 2 (likely false three quarter) nan (accepted quarter)
    ∷ line 3 2 (likely false three quarter) (inf false) (accepted quarter)
    -- the probability -0: it comes back, also beside the downtime -0; beside +0 it gives +0
    ∷ line 1 0 (likely false (minus_zero ∷ []) one) one (accepted minus_zero)
    ∷ line 1 0 (likely true (minus_zero ∷ []) one) minus_zero (accepted minus_zero)
    ∷ line 1 0 (likely true (minus_zero ∷ []) one) plus_zero (accepted plus_zero)
    -- the bounds: the probabilities 0 and 1, the threshold 1, 16 replicas, a domain of all replicas, 64 domains
    ∷ line 2 0 (likely false (plus_zero ∷ one ∷ []) one) one (accepted plus_zero)
    ∷ line 2 1 (likely false (plus_zero ∷ one ∷ []) one) plus_zero (accepted one)
    ∷ line 16 15 (profile false 1 (0xffff ∷ []) 16 (replicate 15 half ++ quarter ∷ []) half) one (accepted quarter)
    ∷ line 3 2 (profile false 64 (replicate 64 7) 3 three half) one (accepted quarter)
    -- an empty domain; without probabilities neither they nor the threshold are read; with three no fourth is; a domain past those counted is not read
    ∷ line 3 2 (grouped (0 ∷ [])) one (accepted plus_zero)
    ∷ line 3 2 (profile true 0 [] 0 (nan ∷ two ∷ nan ∷ []) nan) quarter (accepted quarter)
    ∷ line 3 2 (profile false 0 [] 3 (half ∷ half ∷ quarter ∷ nan ∷ []) quarter) one (accepted quarter)
    ∷ line 3 2 (profile false 1 (7 ∷ 8 ∷ []) 0 [] plus_zero) one (accepted plus_zero)
    -- 1: the population
    ∷ line 0 0 (bare false) plus_zero (refused 1)
    ∷ line 17 0 (bare false) plus_zero (refused 1)
    -- 3: the peer
    ∷ line 3 3 (bare false) plus_zero (refused 3)
    ∷ line 16 16 (bare true) plus_zero (refused 3)
    -- 9: a domain with a replica at n, the first, the last of 64, and among 16 replicas
    ∷ line 3 2 (grouped (8 ∷ [])) plus_zero (refused 9)
    ∷ line 3 2 (grouped (replicate 63 7 ++ 15 ∷ [])) plus_zero (refused 9)
    ∷ line 16 2 (grouped (0x1_0000 ∷ [])) plus_zero (refused 9)
    -- 11: a probability too few, one too many, one for each of 16; a probability above 1, a NaN, a negative one; the threshold 0, -0, above 1, a NaN
    ∷ line 3 2 (likely false (half ∷ half ∷ []) half) plus_zero (refused 11)
    ∷ line 3 2 (likely false (half ∷ half ∷ half ∷ half ∷ []) half) plus_zero (refused 11)
    ∷ line 3 2 (likely false (replicate 16 half) half) plus_zero (refused 11)
    ∷ line 3 2 (likely false (half ∷ two ∷ half ∷ []) half) plus_zero (refused 11)
    ∷ line 3 2 (likely false (half ∷ half ∷ nan ∷ []) half) plus_zero (refused 11)
    ∷ line 3 2 (likely false (fin true 1 (negsuc 0) ∷ half ∷ half ∷ []) half) plus_zero (refused 11)
    ∷ line 3 2 (likely false three plus_zero) plus_zero (refused 11)
    ∷ line 3 2 (likely false three minus_zero) plus_zero (refused 11)
    ∷ line 3 2 (likely false three two) plus_zero (refused 11)
    ∷ line 3 2 (likely false three nan) plus_zero (refused 11)
    -- 12: 65 domains counted
    ∷ line 3 2 (profile false 65 (replicate 64 7) 0 [] plus_zero) plus_zero (refused 12)
    ∷ line 3 2 (profile true 65 [] 3 three half) plus_zero (refused 12)
    -- two cases hold: the first refuses
    ∷ line 17 17 (bare false) plus_zero (refused 1)
    ∷ line 3 3 (grouped (8 ∷ [])) plus_zero (refused 3)
    ∷ line 3 2 (profile false 1 (8 ∷ []) 3 three two) plus_zero (refused 9)
    ∷ line 3 2 (profile false 65 (8 ∷ []) 0 [] plus_zero) plus_zero (refused 9)
    ∷ line 3 2 (profile false 65 [] 3 three two) plus_zero (refused 11)
    ∷ []

-- each profile has 16 probabilities and 64 domains, as the struct has
whole : list_all (λ (l : Line). eqb (length l.p.probs) 16 && eqb (length l.p.domains) 64) sheet ≡ true
unfolding padded profile bare grouped likely three line sheet
whole = refl

answered : map (λ (l : Line). unreliability_of l.n l.peer l.p l.down) sheet ≡ map (λ (l : Line). l.says) sheet
unfolding padded profile bare grouped likely three line sheet unreliability_of unreliability_refusal is_population domains_fit probs_fit domains_counted is_threshold
    is_probability larger total_le is_nan lt le
answered = refl
