-- What the loops over mechanisms, domains and decimals need at each step: the premises are what a need's record holds. Assumes nothing.
use mathlib.Core.Path.{◌≡◌, refl, sym, ap, subst, ◌∙◌}
use mathlib.Core.Bool.{Bool, true, false, ◌||◌}
use mathlib.Core.List.{List, [], ◌∷◌, ◌++◌}
use Prim.Native.Nat.{ℕ, suc, ◌+◌, ◌-◌, ◌≤◌, ◌<◌}
use native.Mathlib.Omega.{arith}
use lib.Count.{count_trailing_zeros}
use lib.Ieee.{Float, binary64, of_bits, of_fields, round, size, units, odd, span, climb}
use lib.ListN.{length, set, replicate, length-append}
use lib.Seq.{take_all, take-append-le, append_snoc, set-append_seam}
use borrow.Author.Tests.{eq-eqb, ne_eqb, lt-ltb, le-ltb}
use Rattle.std.proofs.lemmas.Slice.Eq.{HasBytesAt, bytes_eq-Decides, text_from_reads}
use Rattle.numerals.proofs.Scans.{same_is}
use Rattle.std.specs.Prelude.{Result, Ok, Err, cond}
use Rattle.profiles.specs.Profile.{probs_fit}
use Rattle.refusals.specs.Numbers.{DOMAINS, PROBABILITIES, MECHANISM}
use Rattle.refusals.specs.Refused.{number_of, refusal_of}
use Rattle.refusals.specs.declared.Refusal.{Refusal}
use Rattle.refusals.proofs.Checks.{went_on}
use Rattle.refusals.proofs.Outcomes.{number_positive}
use Rattle.refusals.specs.Outcome.{Outcome, refused, accepted, and_then}
use Rattle.floats.specs.Floats.{plus_zero}
use Rattle.profiles.specs.declared.Profile.{Profile}
use Rattle.numerals.specs.Text.{is_empty, is_same, trim, before, behind}
use Rattle.numerals.specs.Read.{read_each}
use Rattle.numerals.proofs.ReadLaws.{read_refused, read_next, read_ended}
use Rattle.numerals.specs.Whole.{members_of}
use Rattle.decimals.specs.Decimal.{decimal_of}
use Rattle.profile_text.specs.declared.Decimals.{Decimals}
use Rattle.profile_text.specs.ProfileText.{filled, with_domain, with_words, with_probs, domain_in, decimal_in, decimals_of, threshold_of, fitting, domains_in, probs_in, with_runtime, none_name, domains_name, probs_name, runtime_name, named_in, mechanism_in, listed, answer}

-- ---- a domain
module _ (n : ℕ) (p : Profile) (q : List ℕ) where
  pub domain_full : 64 ≤ p.domain_count → domain_in n p q ≡ refused DOMAINS
  unfolding domain_in
  domain_full h = rw (le-ltb _ _ h)

  module _ (h : p.domain_count < 64) where
    pub domain_refused : {k : ℕ} → refused k ≡ members_of true n q → domain_in n p q ≡ refused k
    unfolding domain_in
    domain_refused e = rw (lt-ltb _ _ h, ← e)

    pub domain_read : (m : ℕ) → accepted m ≡ members_of true n q → domain_in n p q ≡ accepted (with_domain p m)
    unfolding domain_in
    domain_read m e = rw (lt-ltb _ _ h, ← e)

-- ---- a decimal: t is the trimmed part
module _ (ps : List Float) (q : List ℕ) {t : List ℕ} (f : t ≡ trim q) where
  pub decimal_refused : {k : ℕ} → refused k ≡ decimal_of t → decimal_in ps q ≡ refused k
  unfolding decimal_in
  decimal_refused e = rw (← f, ← e)

  pub decimal_read : (x : Float) → accepted x ≡ decimal_of t → decimal_in ps q ≡ accepted (ps ++ (x ∷ []))
  unfolding decimal_in
  decimal_read x e = rw (← f, ← e)

-- one more of 16, and one past them
module _ {A : Type 0} (k : ℕ) (z : A) (xs : List A) (x : A) where
  filled_next : length xs < k → set (filled k z xs) (length xs) x ≡ filled k z (xs ++ (x ∷ []))
  filled_next h =
      let l : length (xs ++ (x ∷ [])) ≡ length xs + 1 = length-append xs (x ∷ []) in
      let d : k - length xs ≡ suc (k - (length xs + 1)) = omega arith in
      rw (take_all k xs (omega arith), take_all k (xs ++ (x ∷ [])) (omega arith), l, d)
      (set-append_seam xs z (replicate (k - (length xs + 1)) z) x ∙ sym (append_snoc xs x (replicate (k - (length xs + 1)) z)))

  filled_past : k ≤ length xs → filled k z xs ≡ filled k z (xs ++ (x ∷ []))
  filled_past h =
      let l : length (xs ++ (x ∷ [])) ≡ length xs + 1 = length-append xs (x ∷ []) in
      let d : k - length xs ≡ 0 = omega arith in
      let e : k - (length xs + 1) ≡ 0 = omega arith in
      rw (take-append-le k xs (x ∷ []) h, l, d, e)

-- ---- the threshold: t is the trimmed text
module _ (s : List ℕ) {t : List ℕ} (e : t ≡ trim s) where
  pub threshold_blank : length t ≡ 0 → accepted (of_bits binary64 4562254508917369340) ≡ threshold_of s
  unfolding threshold_of of_bits of_fields round size units odd span climb count_trailing_zeros
  threshold_blank h = rw (← e, eq-eqb _ _ h)

  pub threshold_read : {o : Outcome Float} → (length t ≡ 0 → ⊥) → o ≡ decimal_of t → o ≡ threshold_of s
  unfolding threshold_of
  threshold_read h f = f ∙ rw (← e, ne_eqb _ _ h)

-- ---- probabilities
-- what was read of a list, and is seen as f sees it
module _ {A B : Type 0} (f : A → B) where
  seen_refused : (o : Outcome A) {k : ℕ} → refused k ≡ and_then o (λ a. accepted (f a)) → o ≡ refused k
  seen_refused (refused j) {k} e = let z : j ≡ k = cc in ap refused z
  seen_refused (accepted a) e = let z : ◌≡◌ {A = ℕ} 0 1 = cc in absurd (omega arith)

  seen_read : (o : Outcome A) {b : B} → accepted b ≡ and_then o (λ a. accepted (f a)) → (a : A) × (o ≡ accepted a) × (b ≡ f a)
  seen_read (refused j) e = let z : ◌≡◌ {A = ℕ} 0 1 = cc in absurd (omega arith)
  seen_read (accepted a) e = (a, refl, cc)

-- r is what was answered of the decimals
module _ (n : ℕ) (p : Profile) (args : List ℕ) {u : List ℕ} (f : u ≡ before 64 args) where
  pub probs_refused : {k : ℕ} → refused k ≡ and_then (decimals_of u) (λ ps. accepted (listed ps)) → refused k ≡ probs_in n p args
  unfolding probs_in
  probs_refused e = rw (← f, seen_refused listed (decimals_of u) e)

  module _ {v : List ℕ} (g : v ≡ behind 64 args) where
    misread : (ps : List Float) → decimals_of u ≡ accepted ps → {k : ℕ} → refused k ≡ threshold_of v → refused k ≡ probs_in n p args
    unfolding probs_in
    misread ps a d = rw (← f, a, ← g, ← d)

    words : (ps : List Float) (x : Float) → decimals_of u ≡ accepted ps → accepted x ≡ threshold_of v → fitting n (with_probs p ps x) ≡ probs_in n p args
    unfolding probs_in
    words ps x a d = rw (← f, a, ← g, ← d)

    module _ (r : Decimals) (e : accepted r ≡ and_then (decimals_of u) (λ ps. accepted (listed ps))) where
      pub threshold_refused : {k : ℕ} → refused k ≡ threshold_of v → refused k ≡ probs_in n p args
      threshold_refused d = let l = seen_read listed (decimals_of u) e in misread l.0 l.1 d

      pub probs_read : (x : Float) → accepted x ≡ threshold_of v → fitting n (with_words p r.count r.values x) ≡ probs_in n p args
      probs_read x d =
          let l = seen_read listed (decimals_of u) e in
          ap (λ (k : Decimals). fitting n (with_words p k.count k.values x)) l.2 ∙ words l.0 x l.1 d

-- ---- a check that refuses
pub gave_up : (b : Bool) (k : ℕ) (e : Refusal) → number_of e ≡ cond b 0 k → (b ≡ false) × (number_of e ≡ k)
gave_up true k e h = absurd (omega (arith, number_positive e))
gave_up false k e h = (refl, h)

pub fit_answer : (n : ℕ) (p : Profile) (b : Bool) (r : Result Unit Refusal) → b ≡ probs_fit n p → refusal_of r ≡ cond b 0 PROBABILITIES → answer r p ≡ fitting n p
unfolding fitting
fit_answer n p b (Ok u) e h = rw (sym e ∙ went_on b 10 h)
fit_answer n p b (Err x) e h = let q = gave_up b PROBABILITIES x h in rw (sym e ∙ q.0) (ap refused q.1)

-- ---- decimals read so far, of which the first 16 are held, and the parts that are left
pub record Collected (s : List ℕ) (list : Decimals) (parts : List (List ℕ)) : Type 0 where
  pub ps : List Float
  pub held : list ≡ listed ps
  pub left : decimals_of s ≡ read_each decimal_in ps parts
  pub fits : length ps + length parts ≤ length s + 1

module _ {s : List ℕ} {list : Decimals} {parts : List (List ℕ)} (l : Collected s list parts) where
  abbrev pub Answers : Outcome Decimals → Type 0
  Answers o = o ≡ and_then (decimals_of s) (λ ps. accepted (listed ps))

  pub collected_ends : parts ≡ [] → Answers (accepted list)
  collected_ends h = rw l.held (ap (λ (o : Outcome (List Float)). and_then o (λ ps. accepted (listed ps))) (read_ended decimal_in l.ps l.left h))

  module _ {q : List ℕ} {rest : List (List ℕ)} (h : parts ≡ q ∷ rest) {t : List ℕ} (f : t ≡ trim q) where
    pub collected_refused : {k : ℕ} → refused k ≡ decimal_of t → Answers (refused k)
    collected_refused e = ap (λ (o : Outcome (List Float)). and_then o (λ ps. accepted (listed ps))) (read_refused decimal_in l.ps l.left h (decimal_refused l.ps q f e))

    pub collected_few : list.count ≤ length s
    collected_few = omega (arith, ap (λ (d : Decimals). d.count) l.held, ap length h, l.fits)

    pub collected_next : (x : Float) → accepted x ≡ decimal_of t → {now : Decimals} → ((ps : List Float) → list ≡ listed ps → now ≡ listed (ps ++ (x ∷ []))) → Collected s now rest
    collected_next x e p =
        record {
          ps = l.ps ++ (x ∷ []);
          held = p l.ps l.held;
          left = read_next decimal_in l.ps l.left h (decimal_read l.ps q f x e);
          fits = omega (arith, length-append l.ps (x ∷ []), ap length h, l.fits);
        }

-- one decimal more
module _ (list : Decimals) (x : Float) (ps : List Float) (e : list ≡ listed ps) where
  counted : list.count ≡ length ps
  counted = ap (λ (d : Decimals). d.count) e

  held : list.values ≡ filled 16 plus_zero ps
  held = ap (λ (d : Decimals). d.values) e

  one_more : list.count + 1 ≡ length (ps ++ (x ∷ []))
  one_more = ap (λ (k : ℕ). k + 1) counted ∙ sym (length-append ps (x ∷ []))

  pub listed_next : list.count < 16 → record { count = list.count + 1; values = set list.values list.count x } ≡ listed (ps ++ (x ∷ []))
  listed_next h =
      let v : set list.values list.count x ≡ filled 16 plus_zero (ps ++ (x ∷ [])) = rw (held, counted) (filled_next 16 plus_zero ps x (omega (arith, counted))) in
      rw (one_more, v)

  pub listed_past : 16 ≤ list.count → record { count = list.count + 1; values = list.values } ≡ listed (ps ++ (x ∷ []))
  listed_past h =
      let v : list.values ≡ filled 16 plus_zero (ps ++ (x ∷ [])) = held ∙ filled_past 16 plus_zero ps x (omega (arith, counted)) in
      rw (one_more, v)

-- ---- a mechanism: t is the trimmed part, and b whether it is skipped
module _ (n : ℕ) (p : Profile) (q : List ℕ) {t : List ℕ} {b : Bool} (f : t ≡ trim q) (e : b ≡ (is_empty t || is_same t none_name)) where
  pub mechanism_skipped : b ≡ true → accepted p ≡ mechanism_in n p q
  unfolding mechanism_in
  mechanism_skipped h = rw (← f, sym e ∙ h)

  pub mechanism_read : b ≡ false → {o : Outcome Profile} → o ≡ named_in n p (trim (before 58 t)) (behind 58 t) → o ≡ mechanism_in n p q
  unfolding mechanism_in
  mechanism_read h g = g ∙ rw (← f, sym e ∙ h)

-- ---- a mechanism by its name, of which a match reads the length and the bytes
-- a text that has not both the length and the bytes of another
unlike : (name text : List ℕ) → HasBytesAt text 0 text → (length name ≡ length text → HasBytesAt name 0 text → ⊥) → is_same name text ≡ false
unlike name text r h = go (is_same name text) refl
  where
    go : (b : Bool) → is_same name text ≡ b → is_same name text ≡ false
    go false e = e
    go true e =
        let q : name ≡ text = (bytes_eq-Decides name text).0 (same_is name text ∙ e) in
        absurd (h (ap length q) (subst (λ (s : List ℕ). HasBytesAt s 0 text) (sym q) r))

module _ (n : ℕ) (p : Profile) (name args : List ℕ) where
  pub named_domains : {o : Outcome Profile} → length name ≡ 7 → HasBytesAt name 0 domains_name → o ≡ domains_in n p args → o ≡ named_in n p name args
  unfolding named_in is_same
  named_domains l h e = rw (text_from_reads name domains_name l h) e

  pub named_probs : {o : Outcome Profile} → length name ≡ 5 → HasBytesAt name 0 probs_name → o ≡ probs_in n p args → o ≡ named_in n p name args
  unfolding named_in is_same
  named_probs l h e = rw (text_from_reads name probs_name l h) e

  pub named_runtime : length name ≡ 7 → HasBytesAt name 0 runtime_name → accepted (with_runtime p) ≡ named_in n p name args
  unfolding named_in is_same
  named_runtime l h = rw (text_from_reads name runtime_name l h)

  pub named_other : (length name ≡ 7 → HasBytesAt name 0 domains_name → ⊥) → (length name ≡ 5 → HasBytesAt name 0 probs_name → ⊥) → (length name ≡ 7 → HasBytesAt name 0 runtime_name → ⊥) → refused MECHANISM ≡ named_in n p name args
  unfolding named_in
  named_other f g h =
      let d : is_same name domains_name ≡ false = unlike name domains_name (refl, (refl, (refl, (refl, (refl, (refl, (refl, tt))))))) f in
      let e : is_same name probs_name ≡ false = unlike name probs_name (refl, (refl, (refl, (refl, (refl, tt))))) g in
      let r : is_same name runtime_name ≡ false = unlike name runtime_name (refl, (refl, (refl, (refl, (refl, (refl, (refl, tt))))))) h in
      rw (d, e, r)
