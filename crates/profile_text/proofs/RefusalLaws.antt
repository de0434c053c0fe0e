-- What a text is that is read, and with which numbers one is refused: each check in numbers. Assumes nothing.
use Rattle.std.proofs.Math.Path.{◌≡◌}
use Rattle.std.specs.Prelude.{refl, ◌↔◌, Bool, cond, ◌&&◌, ◌||◌, List, [], ◌∷◌, ℕ, ◌≤◌, leb, ltb}
use Rattle.std.proofs.Common.{sym, ap, ◌∙◌}
use Rattle.std.proofs.Math.Bool.{true, false, true≢false}
use native.Mathlib.Omega.{arith}
use Rattle.bitmap.specs.Mask.{with_bit}
use Rattle.refusals.specs.Numbers.{POPULATION, TEXT, NUMERAL, DIGITS, MEMBER, MECHANISM, PROBABILITIES, DOMAINS}
use Rattle.refusals.specs.First.{unless, first_of}
use Rattle.refusals.specs.Outcome.{Outcome, refused, accepted, checked, and_then}
use Rattle.refusals.specs.Limits.{is_population}
use Rattle.refusals.specs.LimitLaws.{population_means}
use Rattle.profiles.specs.declared.Profile.{Profile}
use Rattle.profiles.specs.Profile.{probs_fit}
use Rattle.profiles.proofs.RefusalLaws.{Sound, profile_sound}
use Rattle.numerals.specs.Text.{is_text, is_empty, is_same, trim, before, behind, split}
use Rattle.numerals.specs.TextLaws.{Ascii, text_means}
use Rattle.numerals.specs.Read.{read_each}
use Rattle.numerals.proofs.ReadLaws.{first_fault}
use Rattle.numerals.specs.Whole.{is_digits, spelt, unplussed, whole_of, below_of, member_of, member_in, members_of}
use Rattle.decimals.specs.Decimal.{written_of, is_well_formed, is_short, value_of, decimal_of}
use Rattle.profile_text.specs.ProfileText.{nothing, with_domain, with_probs, with_runtime, none_name, domains_name, probs_name, runtime_name, most_bytes}
use Rattle.profile_text.specs.ProfileText.{domain_in, domains_in, decimal_in, decimals_of, default_threshold, threshold_of, fitting, probs_in}
use Rattle.profile_text.specs.ProfileText.{named_in, mechanism_in, mechanisms_of, profile_of}
use Rattle.profile_text.proofs.ProfileTextLaws.{accepted_fits}

-- ---- the numbers of the faults in a text

-- the number of a fault in a text, if it has one, is from 7 to 12
abbrev pub FaultsOnly : {A : Type 0} → Outcome A → Type 0
FaultsOnly o = (k : ℕ) → o ≡ refused k → (7 ≤ k) × (k ≤ 12)

module _ {A : Type 0} where
  read : (a : A) → FaultsOnly (accepted a)
  read a k e = let z : ◌≡◌ {A = ℕ} 0 1 = cc in absurd (omega arith)

  fault : (j : ℕ) → 7 ≤ j → j ≤ 12 → FaultsOnly {A = A} (refused j)
  fault j l h k e = let z : j ≡ k = cc in (omega arith, omega arith)

  either : (b : Bool) (o u : Outcome A) → FaultsOnly o → FaultsOnly u → FaultsOnly (cond b o u)
  either true o u h g = h
  either false o u h g = g

  then : {B : Type 0} (o : Outcome B) (f : B → Outcome A) → FaultsOnly o → ((b : B) → FaultsOnly (f b)) → FaultsOnly (and_then o f)
  then (refused j) f h g k e = let z : j ≡ k = cc in h k (ap refused z)
  then (accepted b) f h g k e = g b k e

  each : {B : Type 0} (step : A → B → Outcome A) → ((a : A) (p : B) → FaultsOnly (step a p))
      → (a : A) (ps : List B) → FaultsOnly (read_each step a ps)
  each step h a ps k e = let f = (first_fault step a ps k).0 e in h f.so_far f.part k f.faulty

whole_faults : (s : List ℕ) → FaultsOnly (whole_of s)
unfolding whole_of
whole_faults s =
    either (is_digits (unplussed s) && leb (spelt 0 (unplussed s)) 255) _ _ (read _) (fault NUMERAL (omega arith) (omega arith))

below_faults : (limit : ℕ) (s : List ℕ) → FaultsOnly (below_of limit s)
unfolding below_of
below_faults limit s =
    then (whole_of s) _ (whole_faults s) λ v.
    either (ltb v limit) _ _ (read v) (fault MEMBER (omega arith) (omega arith))

members_faults : (n : ℕ) (s : List ℕ) → FaultsOnly (members_of true n s)
unfolding members_of member_in member_of
members_faults n s =
    each (member_in true n) (λ m p. then (member_of true n p) _ (below_faults n (trim p)) (λ v. read (with_bit m v))) 0 (split 44 s)

decimal_faults : (s : List ℕ) → FaultsOnly (decimal_of s)
unfolding decimal_of
decimal_faults s =
    either (is_well_formed (written_of s)) _ _
    (either (is_short (written_of s)) _ _ (read (value_of (written_of s))) (fault DIGITS (omega arith) (omega arith)))
    (fault NUMERAL (omega arith) (omega arith))

domains_faults : (n : ℕ) (p : Profile) (args : List ℕ) → FaultsOnly (domains_in n p args)
unfolding domains_in domain_in
domains_faults n p args =
    each (domain_in n)
    (λ q s.
    either (ltb q.domain_count 64) _ _ (then (members_of true n s) _ (members_faults n s) (λ m. read (with_domain q m)))
    (fault DOMAINS (omega arith) (omega arith)))
    p (split 47 args)

decimals_faults : (s : List ℕ) → FaultsOnly (decimals_of s)
unfolding decimals_of decimal_in
decimals_faults s = each decimal_in (λ ps q. then (decimal_of (trim q)) _ (decimal_faults (trim q)) (λ x. read _)) [] (split 44 s)

threshold_faults : (s : List ℕ) → FaultsOnly (threshold_of s)
unfolding threshold_of
threshold_faults s = either (is_empty (trim s)) _ _ (read default_threshold) (decimal_faults (trim s))

probs_faults : (n : ℕ) (p : Profile) (args : List ℕ) → FaultsOnly (probs_in n p args)
unfolding probs_in fitting
probs_faults n p args =
    then (decimals_of (before 64 args)) _ (decimals_faults (before 64 args)) λ ps.
    then (threshold_of (behind 64 args)) _ (threshold_faults (behind 64 args)) λ t.
    either (probs_fit n (with_probs p ps t)) _ _ (read (with_probs p ps t)) (fault PROBABILITIES (omega arith) (omega arith))

named_faults : (n : ℕ) (p : Profile) (name args : List ℕ) → FaultsOnly (named_in n p name args)
unfolding named_in
named_faults n p name args =
    either (is_same name domains_name) _ _ (domains_faults n p args)
    (either (is_same name probs_name) _ _ (probs_faults n p args)
    (either (is_same name runtime_name) _ _ (read (with_runtime p)) (fault MECHANISM (omega arith) (omega arith))))

mechanisms_faults : (n : ℕ) (s : List ℕ) → FaultsOnly (mechanisms_of n s)
unfolding mechanisms_of mechanism_in
mechanisms_faults n s =
    each (mechanism_in n)
    (λ p q.
    either (is_empty (trim q) || is_same (trim q) none_name) _ _ (read p) (named_faults n p (trim (before 58 (trim q))) (behind 58 (trim q))))
    nothing (split 59 s)

-- ---- `parse_profile`
module _ (n : ℕ) (s : List ℕ) where
  -- the population, and a text of at most 4,096 bytes that are all below 128
  pub record Readable : Type 0 where
    pub population : (1 ≤ n) × (n ≤ 16)
    pub text : Ascii 4096 s

  -- the two checks, and then the reading
  abbrev checking : Bool → Bool → Outcome Profile
  checking a b = checked (first_of (unless a POPULATION ∷ unless b TEXT ∷ [])) (mechanisms_of n s)

  checks : (a b : Bool) {p : Profile} → checking a b ≡ accepted p → (a ≡ true) × (b ≡ true)
  checks true true e = (refl, refl)
  checks true false e = let z : ◌≡◌ {A = ℕ} 0 1 = cc in absurd (omega arith)
  checks false b e = let z : ◌≡◌ {A = ℕ} 0 1 = cc in absurd (omega arith)

  -- a text that is read passes the checks, and its profile is one that no entry refuses
  pub parse_sound : {p : Profile} → profile_of n s ≡ accepted p → Readable × Sound n p
  unfolding profile_of
  parse_sound {p} e =
      let c = checks (is_population n) (is_text most_bytes s) e in
      (record { population = (population_means n).0 c.0; text = (text_means 4096 s).0 c.1 }, (profile_sound n p).0 (accepted_fits n s e))

  -- 1 refuses exactly a population outside its range
  pub population_refused : (profile_of n s ≡ refused POPULATION) ↔ (((1 ≤ n) × (n ≤ 16)) → ⊥)
  unfolding profile_of
  population_refused = (
    λ e h. forth (is_population n) (is_text most_bytes s) ((population_means n).1 h) e,
    λ h. back (is_population n) (λ q. h ((population_means n).0 q)),
  )
    where
      forth : (a b : Bool) → a ≡ true → checking a b ≡ refused POPULATION → ⊥
      forth true true q e = omega (arith, mechanisms_faults n s POPULATION e)
      forth true false q e = let z : ◌≡◌ {A = ℕ} 6 1 = cc in omega arith
      forth false b q e = true≢false (sym q)

      back : (a : Bool) → (a ≡ true → ⊥) → checking a (is_text most_bytes s) ≡ refused POPULATION
      back true h = absurd (h refl)
      back false h = refl

  -- 6 exactly, of a population in its range, a text that is longer or has another byte
  pub text_refused : (profile_of n s ≡ refused TEXT) ↔ (((1 ≤ n) × (n ≤ 16)) × (Ascii 4096 s → ⊥))
  unfolding profile_of
  text_refused = (
    λ e.
        let h = forth (is_population n) (is_text most_bytes s) e in
        ((population_means n).0 h.0, λ t. true≢false (sym ((text_means 4096 s).1 t) ∙ h.1)),
    λ h. rw ((population_means n).1 h.0) (back (is_text most_bytes s) (λ q. h.1 ((text_means 4096 s).0 q))),
  )
    where
      forth : (a b : Bool) → checking a b ≡ refused TEXT → (a ≡ true) × (b ≡ false)
      forth true true e = absurd (omega (arith, mechanisms_faults n s TEXT e))
      forth true false e = (refl, refl)
      forth false b e = let z : ◌≡◌ {A = ℕ} 1 6 = cc in absurd (omega arith)

      back : (b : Bool) → (b ≡ true → ⊥) → checking true b ≡ refused TEXT
      back true h = absurd (h refl)
      back false h = refl

  -- and every other text that is refused has a fault, with a number from 7 to 12
  pub fault_refused : Readable → FaultsOnly (profile_of n s)
  unfolding profile_of
  fault_refused r = rw ((population_means n).1 r.population, (text_means 4096 s).1 r.text) (mechanisms_faults n s)
