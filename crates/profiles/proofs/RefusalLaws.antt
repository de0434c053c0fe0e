-- What an input is that is not refused: each check in numbers. Assumes nothing.
use Rattle.std.specs.Prelude.{◌≡◌, ◌↔◌, Bool, not, ◌&&◌, ◌||◌, ℕ, ◌≤◌, ◌<◌, Float, get_or}
use Rattle.std.proofs.Math.Path.{refl}
use Rattle.std.proofs.Math.Bool.{true, false, and-eq-true_iff}
use Rattle.std.proofs.Common.{arith}
use Rattle.std.proofs.Math.Dec.{eqb}
use Rattle.std.specs.Float.Ieee.{le, lt}
use borrow.Author.Tests.{eqb-true, eq-eqb, eqb-false, ne_eqb, leb-true, le-leb, ltb-true, lt-ltb, not-false}
use Rattle.std.specs.List.{list_all}
use Rattle.lists.specs.AllLaws.{all_taken_means}
use Rattle.bitmap.specs.Mask.{bit}
use Rattle.bitmap.specs.MaskLaws.{below_means, bit_none}
use Rattle.refusals.specs.FirstLaws.{none_holds}
use Rattle.refusals.specs.First.{first_of}
use Rattle.refusals.specs.Limits.{is_mask}
use Rattle.refusals.specs.LimitLaws.{population_means}
use Rattle.floats.specs.Floats.{plus_zero, one, is_probability}
use Rattle.floats.specs.RangeLaws.{FromZeroToOne, AboveZeroToOne, probability_means, above_zero_means}
use Rattle.profiles.specs.declared.Profile.{Profile}
use Rattle.profiles.specs.Profile.{probs_of, is_threshold, domains_fit, probs_fit, domains_counted, profile_cases}
use Rattle.profiles.specs.Unreliability.{unreliability_cases, unreliability_refusal}

-- a threshold is above 0 and at most 1
pub threshold_means : (t : Float) → (is_threshold t ≡ true) ↔ AboveZeroToOne t
unfolding is_threshold
threshold_means t = (
  λ e. (above_zero_means t).0 ((and-eq-true_iff (lt plus_zero t) (le t one)).0 e),
  λ h. (and-eq-true_iff (lt plus_zero t) (le t one)).1 ((above_zero_means t).1 h),
)

-- ---- a profile of n replicas
module _ (n : ℕ) (p : Profile) where
  -- a probability for each replica, from 0 to 1, and a threshold above 0 and at most 1; a word that the list lacks counts as 0
  pub record Chances : Type 0 where
    pub count : p.prob_count ≡ n
    pub each_probability : (i : ℕ) → i < n → FromZeroToOne (get_or p.probs i plus_zero)
    pub threshold : AboveZeroToOne p.threshold

  -- no counted domain has a replica at or above n, there are such chances or no probabilities, and at most 64 domains are counted
  pub record Sound : Type 0 where
    pub each_domain : (i : ℕ) → i < p.domain_count → (s : ℕ) → n ≤ s → bit (get_or p.domains i 0) s ≡ 0
    pub chances : (p.prob_count ≡ 0 → ⊥) → Chances
    pub counted : p.domain_count ≤ 64

  domains_means : (domains_fit n p ≡ true) ↔ ((i : ℕ) → i < p.domain_count → (s : ℕ) → n ≤ s → bit (get_or p.domains i 0) s ≡ 0)
  unfolding domains_fit
  domains_means =
      let t = all_taken_means (is_mask n) 0 ((below_means n 0).1 (λ s h. bit_none s)) p.domain_count p.domains in (
        λ e i h. (below_means n (get_or p.domains i 0)).0 (t.0 e i h),
        λ h. t.1 (λ i l. (below_means n (get_or p.domains i 0)).1 (h i l)),
      )

  abbrev tests : Bool
  tests = list_all is_probability (probs_of n p) && is_threshold p.threshold

  abbrev each : (list_all is_probability (probs_of n p) ≡ true) ↔ ((i : ℕ) → i < n → is_probability (get_or p.probs i plus_zero) ≡ true)
  each = all_taken_means is_probability plus_zero ((probability_means plus_zero).1 (omega arith)) n p.probs

  chances_means : ((eqb p.prob_count n && tests) ≡ true) ↔ Chances
  chances_means = (
    λ e.
        let a = (and-eq-true_iff (eqb p.prob_count n) tests).0 e in
        let b = (and-eq-true_iff (list_all is_probability (probs_of n p)) (is_threshold p.threshold)).0 a.1 in
        record {
          count = eqb-true p.prob_count n a.0;
          each_probability = λ i h. (probability_means (get_or p.probs i plus_zero)).0 (each.0 b.0 i h);
          threshold = (threshold_means p.threshold).0 b.1;
        },
    λ c.
        (and-eq-true_iff (eqb p.prob_count n) tests).1 (
          eq-eqb p.prob_count n c.count,
          (and-eq-true_iff (list_all is_probability (probs_of n p)) (is_threshold p.threshold)).1 (
            each.1 (λ i h. (probability_means (get_or p.probs i plus_zero)).1 (c.each_probability i h)),
            (threshold_means p.threshold).1 c.threshold,
          ),
        ),
  )

  probs_means : (probs_fit n p ≡ true) ↔ ((p.prob_count ≡ 0 → ⊥) → Chances)
  unfolding probs_fit
  probs_means = (
    λ e h. chances_means.0 (rw (ne_eqb p.prob_count 0 h) at e),
    λ h. go (eqb p.prob_count 0) refl h,
  )
    where
      go : (b : Bool) → eqb p.prob_count 0 ≡ b → ((p.prob_count ≡ 0 → ⊥) → Chances)
          → (not (not b) || (eqb p.prob_count n && tests)) ≡ true
      go true q h = refl
      go false q h = chances_means.1 (h (eqb-false p.prob_count 0 q))

  pub profile_sound : (first_of (profile_cases n p) ≡ 0) ↔ Sound
  unfolding domains_counted
  profile_sound = (
    λ e.
        let h = (none_holds (profile_cases n p) refl).0 e in
        record {
          each_domain = domains_means.0 (not-false _ h.0);
          chances = probs_means.0 (not-false _ h.1.0);
          counted = leb-true p.domain_count 64 (not-false _ h.1.1.0);
        },
    λ s. simp (domains_means.1 s.each_domain, probs_means.1 s.chances, le-leb p.domain_count 64 s.counted),
  )

-- ---- `unreliability`
module _ (n peer : ℕ) (p : Profile) where
  pub record PeerSound : Type 0 where
    pub population : (1 ≤ n) × (n ≤ 16)
    pub replica : peer < n
    pub profile : Sound n p

  pub unreliability_sound : (unreliability_refusal n peer p ≡ 0) ↔ PeerSound
  unfolding unreliability_refusal
  unreliability_sound = (
    λ e.
        let h = (none_holds (unreliability_cases n peer p) refl).0 e in
        record {
          population = (population_means n).0 (not-false _ h.0);
          replica = ltb-true peer n (not-false _ h.1.0);
          profile = (profile_sound n p).0 ((none_holds (profile_cases n p) refl).1 h.1.1);
        },
    λ s. simp ((population_means n).1 s.population, lt-ltb peer n s.replica) ((profile_sound n p).1 s.profile),
  )
