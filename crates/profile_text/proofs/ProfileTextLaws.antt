-- A profile that is read is refused by no entry that it is handed to. Assumes nothing.
use Rattle.std.proofs.Math.Path.{◌≡◌, refl}
use Rattle.std.proofs.Common.{◌∙◌, arith, add-one}
use Rattle.std.specs.Prelude.{Bool, ◌||◌, List, [], ◌∷◌, ltb, Float}
use Rattle.std.proofs.Math.Bool.{true, false, cond}
use Prim.Native.Nat.{ℕ, zero, suc, ◌≤◌, ◌<◌}
use Rattle.std.proofs.Math.ListN.{length, length-set}
use Rattle.std.proofs.Math.Seq.{take-suc-set}
use borrow.Author.Tests.{ltb-true, le-leb}
use Rattle.lists.specs.AllLaws.{all_more}
use Rattle.refusals.specs.Numbers.{POPULATION, TEXT, MECHANISM, PROBABILITIES, DOMAINS}
use Rattle.refusals.specs.First.{unless, first_of}
use Rattle.refusals.specs.Outcome.{Outcome, refused, accepted, checked, and_then}
use Rattle.refusals.specs.Limits.{is_population, is_mask}
use Rattle.profiles.specs.declared.Profile.{Profile}
use Rattle.profiles.specs.Profile.{domains_of, domains_fit, probs_fit, domains_counted, profile_cases}
use Rattle.numerals.specs.Text.{is_text, is_empty, is_same, trim, before, behind, split}
use Rattle.numerals.specs.Read.{read_each}
use Rattle.numerals.specs.Whole.{members_of}
use Rattle.numerals.proofs.ReadLaws.{read_keeps}
use Rattle.numerals.proofs.WholeLaws.{members_below}
use Rattle.profile_text.specs.ProfileText.{nothing, with_domain, with_words, with_probs, with_runtime, domain_in, domains_in, decimals_of, threshold_of, fitting, probs_in, none_name, domains_name, probs_name, runtime_name, named_in, mechanism_in, mechanisms_of, most_bytes, profile_of}

-- ---- what every profile has that is read
pub record Fits (n : ℕ) (p : Profile) : Type 0 where
  pub words : length p.domains ≡ 64
  pub room : p.domain_count ≤ 64
  pub masks : domains_fit n p ≡ true
  pub chances : probs_fit n p ≡ true

module _ (n : ℕ) where
  nothing_fits : Fits n nothing
  unfolding nothing domains_fit probs_fit
  nothing_fits = record { words = refl; room = omega arith; masks = refl; chances = refl }

  module _ (p : Profile) (h : Fits n p) where
    domain_fits : (m : ℕ) → p.domain_count < 64 → is_mask n m ≡ true → Fits n (with_domain p m)
    unfolding with_domain domains_fit probs_fit
    domain_fits m l e =
        let j : p.domain_count < length p.domains = omega (arith, h.words) in
        record {
          words = length-set p.domains p.domain_count m ∙ h.words;
          room = omega arith;
          masks = rw (add-one, take-suc-set p.domains p.domain_count m j) (all_more (is_mask n) (domains_of p) m h.masks e);
          chances = h.chances;
        }

    words_fit : (k : ℕ) (xs : List Float) (t : Float) → probs_fit n (with_words p k xs t) ≡ true → Fits n (with_words p k xs t)
    unfolding with_words domains_fit
    words_fit k xs t e = record { words = h.words; room = h.room; masks = h.masks; chances = e }

    runtime_fits : Fits n (with_runtime p)
    unfolding with_runtime domains_fit probs_fit
    runtime_fits = record { words = h.words; room = h.room; masks = h.masks; chances = h.chances }

  -- ---- each mechanism keeps it

  one_keeps : (p r : Profile) (s : List ℕ) → Fits n p → domain_in n p s ≡ accepted r → Fits n r
  unfolding domain_in
  one_keeps p r s h e = pick (ltb p.domain_count 64) refl e
    where
      go : (o : Outcome ℕ) → p.domain_count < 64 → members_of true n s ≡ o → and_then o (λ m. accepted (with_domain p m)) ≡ accepted r → Fits n r
      go (refused k) l t e = let z : ◌≡◌ {A = ℕ} 0 1 = cc in absurd (omega arith)
      go (accepted m) l t e = let z : with_domain p m ≡ r = cc in rw z at (domain_fits p h m l (members_below true n s t))

      pick : (b : Bool) → ltb p.domain_count 64 ≡ b → cond b (and_then (members_of true n s) (λ m. accepted (with_domain p m))) (refused DOMAINS) ≡ accepted r → Fits n r
      pick true t e = go (members_of true n s) (ltb-true p.domain_count 64 t) refl e
      pick false t e = let z : ◌≡◌ {A = ℕ} 0 1 = cc in absurd (omega arith)

  domains_keep : (p : Profile) (args : List ℕ) (r : Profile) → Fits n p → domains_in n p args ≡ accepted r → Fits n r
  unfolding domains_in
  domains_keep p args r h e = read_keeps (Fits n) (domain_in n) one_keeps p (split 47 args) h e

  fitting_keeps : (p : Profile) (ps : List Float) (t : Float) (r : Profile) → Fits n p → fitting n (with_probs p ps t) ≡ accepted r → Fits n r
  unfolding fitting
  fitting_keeps p ps t r h e = pick (probs_fit n (with_probs p ps t)) refl e
    where
      pick : (b : Bool) → probs_fit n (with_probs p ps t) ≡ b → cond b (accepted (with_probs p ps t)) (refused PROBABILITIES) ≡ accepted r → Fits n r
      pick true f e = let z : with_probs p ps t ≡ r = cc in rw z at (words_fit p h _ _ t f)
      pick false f e = let z : ◌≡◌ {A = ℕ} 0 1 = cc in absurd (omega arith)

  probs_keep : (p : Profile) (args : List ℕ) (r : Profile) → Fits n p → probs_in n p args ≡ accepted r → Fits n r
  unfolding probs_in
  probs_keep p args r h e = go (decimals_of (before 64 args)) (threshold_of (behind 64 args)) e
    where
      go : (o : Outcome (List Float)) (w : Outcome Float) → and_then o (λ ps. and_then w (λ t. fitting n (with_probs p ps t))) ≡ accepted r → Fits n r
      go (refused k) w e = let z : ◌≡◌ {A = ℕ} 0 1 = cc in absurd (omega arith)
      go (accepted ps) (refused k) e = let z : ◌≡◌ {A = ℕ} 0 1 = cc in absurd (omega arith)
      go (accepted ps) (accepted t) e = fitting_keeps p ps t r h e

  named_keeps : (p : Profile) (name args : List ℕ) (r : Profile) → Fits n p → named_in n p name args ≡ accepted r → Fits n r
  unfolding named_in
  named_keeps p name args r h e = go (is_same name domains_name) (is_same name probs_name) (is_same name runtime_name) e
    where
      go : (a b c : Bool) → cond a (domains_in n p args) (cond b (probs_in n p args) (cond c (accepted (with_runtime p)) (refused MECHANISM))) ≡ accepted r → Fits n r
      go true b c e = domains_keep p args r h e
      go false true c e = probs_keep p args r h e
      go false false true e = let z : with_runtime p ≡ r = cc in rw z at (runtime_fits p h)
      go false false false e = let z : ◌≡◌ {A = ℕ} 0 1 = cc in absurd (omega arith)

  mechanism_keeps : (p r : Profile) (s : List ℕ) → Fits n p → mechanism_in n p s ≡ accepted r → Fits n r
  unfolding mechanism_in
  mechanism_keeps p r s h e = go (is_empty (trim s) || is_same (trim s) none_name) e
    where
      go : (b : Bool) → cond b (accepted p) (named_in n p (trim (before 58 (trim s))) (behind 58 (trim s))) ≡ accepted r → Fits n r
      go true e = let z : p ≡ r = cc in rw z at h
      go false e = named_keeps p (trim (before 58 (trim s))) (behind 58 (trim s)) r h e

  -- ---- the profile of a text
  module _ (s : List ℕ) {p : Profile} (e : profile_of n s ≡ accepted p) where
    pub read_fits : Fits n p
    unfolding profile_of mechanisms_of
    read_fits = go (first_of (unless (is_population n) POPULATION ∷ unless (is_text most_bytes s) TEXT ∷ [])) e
      where
        go : (k : ℕ) → checked k (read_each (mechanism_in n) nothing (split 59 s)) ≡ accepted p → Fits n p
        go zero e = read_keeps (Fits n) (mechanism_in n) mechanism_keeps nothing (split 59 s) nothing_fits e
        go (suc k) e = let z : ◌≡◌ {A = ℕ} 0 1 = cc in absurd (omega arith)

    -- no case refuses it
    pub accepted_fits : first_of (profile_cases n p) ≡ 0
    unfolding domains_counted
    accepted_fits = rw (read_fits.masks, read_fits.chances, le-leb p.domain_count 64 read_fits.room)
