-- How the input's refusals and the list's make up the entry's, and what an input that is not refused gives. Assumes nothing.
use mathlib.Core.Path.{◌≡◌, refl, sym, ap, ◌∙◌}
use mathlib.Core.Bool.{true, not, ◌&&◌, ◌||◌, and-eq-true_iff}
use mathlib.Core.List.{List}
use Prim.Native.Nat.{ℕ, zero, suc, ◌<◌, ◌≤◌}
use native.Mathlib.Omega.{arith}
use lib.Dec.{eqb}
use lib.ListN.{length}
use borrow.Author.Tests.{leb-true, not-false}
use Rattle.std.specs.List.{list_all}
use Rattle.lists.specs.Below.{front}
use Rattle.refusals.specs.First.{first_of}
use Rattle.refusals.specs.FirstLaws.{none_holds, first_then, otherwise}
use Rattle.refusals.specs.Outcome.{Outcome, refused, outcome, written}
use Rattle.refusals.specs.declared.Refusal.{Refusal}
use Rattle.refusals.specs.Refused.{number_of}
use Rattle.refusals.proofs.Outcomes.{number_positive, number_some, is_refused, leaves_all}
use Rattle.refusals.specs.Limits.{is_population}
use Rattle.refusals.specs.LimitLaws.{population_means}
use Rattle.floats.specs.Floats.{is_probability}
use Rattle.profiles.specs.declared.Profile.{Profile}
use Rattle.profiles.specs.Profile.{has_probs, probs_of, is_threshold, domains_fit, probs_fit, domains_counted}
use Rattle.maximal.specs.Maximal.{maximals}
use Rattle.faults.specs.Family.{family}
use Rattle.faults.specs.FaultList.{Accepted, input_cases, list_cases, fault_refusal, fault_list_of, fault_words, list_answer, list_words}

module _ (n f : ℕ) (p : Profile) where
  abbrev input : ℕ
  input = first_of (input_cases n f p)

  abbrev listing : ℕ → ℕ
  listing room = first_of (list_cases (family n f p) n room)

  both : (room : ℕ) → fault_refusal n f p room ≡ otherwise input (listing room)
  unfolding fault_refusal
  both room = first_then (input_cases n f p) (list_cases (family n f p) n room) refl

  -- the input is refused with e
  module _ (e : Refusal) (told : number_of e ≡ input) where
    first : (k r : ℕ) → 0 < k → k ≡ otherwise k r
    first zero r h = absurd (omega arith)
    first (suc k) r h = refl

    pub refused_first : (list : List ℕ) → (refused (number_of e) ≡ fault_list_of n f p (length list)) × (list ≡ fault_words n f p list)
    unfolding fault_list_of fault_words
    refused_first list =
        let q : number_of e ≡ fault_refusal n f p (length list) =
        first (number_of e) (listing (length list)) (number_positive e) ∙ ap (λ (k : ℕ). otherwise k (listing (length list))) told ∙ sym (both (length list)) in (
          is_refused (fault_refusal n f p (length list)) (number_of e) (length (maximals (family n f p) n)) q (number_some e),
          leaves_all (fault_refusal n f p (length list)) (number_of e) (front (maximals (family n f p) n) list) list q (number_some e),
        )

  -- it is not: the list's answer is the entry's
  module _ (told : 0 ≡ input) where
    then : (room : ℕ) → fault_refusal n f p room ≡ listing room
    then room = both room ∙ ap (λ (k : ℕ). otherwise k (listing room)) (sym told)

    pub passed_on : (list after : List ℕ) (r : Outcome ℕ) → (r ≡ list_answer (family n f p) n (length list)) × (after ≡ list_words (family n f p) n list)
        → (r ≡ fault_list_of n f p (length list)) × (after ≡ fault_words n f p list)
    unfolding list_answer list_words fault_list_of fault_words
    passed_on list after r h = (
      h.0 ∙ ap (λ (k : ℕ). outcome k (length (maximals (family n f p) n))) (sym (then (length list))),
      h.1 ∙ ap (λ (k : ℕ). written k (front (maximals (family n f p) n) list) list) (sym (then (length list))),
    )

    pub population : n ≤ 16
    population = ((population_means n).0 (not-false (is_population n) ((none_holds (input_cases n f p) refl).0 (sym told)).0)).1

    pub accepted_input : Accepted n p
    unfolding domains_fit probs_fit domains_counted
    accepted_input =
        let h = (none_holds (input_cases n f p) refl).0 (sym told) in
        record {
          counted = leb-true p.domain_count 64 (not-false (domains_counted p) h.1.1.1.1.0);
          members = not-false (domains_fit n p) h.1.1.0;
          chances = λ k. chance k (not-false (probs_fit n p) h.1.1.1.0);
        }
      where
        chance : has_probs p ≡ true → (not (has_probs p) || (eqb p.prob_count n && (list_all is_probability (probs_of n p) && is_threshold p.threshold))) ≡ true → list_all is_probability (probs_of n p) ≡ true
        chance k q =
            ((and-eq-true_iff (list_all is_probability (probs_of n p)) (is_threshold p.threshold)).0
            ((and-eq-true_iff (eqb p.prob_count n) (list_all is_probability (probs_of n p) && is_threshold p.threshold)).0 (rw k at q)).1).0
