-- What `read_each` says: the first fault from the left decides, and what each step keeps is kept. And one step of it in a loop, and at a part
-- of a text. Assumes nothing.
use Rattle.std.proofs.Math.Path.{◌≡◌, refl, sym, ap, subst}
use Rattle.std.proofs.Common.{◌∙◌, arith}
use Rattle.std.specs.Prelude.{◌↔◌, ℕ, ◌+◌, length, drop}
use mathlib.Core.List.{List, [], ◌∷◌, ◌++◌}
use Rattle.refusals.specs.Outcome.{Outcome, refused, accepted, and_then}
use Rattle.numerals.specs.Text.{split}
use Rattle.numerals.specs.TextLaws.{later, PartOf, part_head, part_last, part_more}
use Rattle.numerals.specs.Read.{read_each}

-- ---- the first fault

module _ {A B : Type 0} (step : A → B → Outcome A) where
  -- a part is refused with k, and those before it are read
  pub record FaultAt (a : A) (ps : List B) (k : ℕ) : Type 0 where
    pub sooner : List B
    pub part : B
    pub after : List B
    pub parts_are : ps ≡ sooner ++ (part ∷ after)
    pub so_far : A
    pub reads : read_each step a sooner ≡ accepted so_far
    pub faulty : step so_far part ≡ refused k

  read_append : (a : A) (xs ys : List B) → read_each step a (xs ++ ys) ≡ and_then (read_each step a xs) (λ b. read_each step b ys)
  unfolding read_each
  read_append a [] ys = refl
  read_append a (x ∷ xs) ys = go (step a x) (λ b. read_append b xs ys)
    where
      go : (o : Outcome A) → ((b : A) → read_each step b (xs ++ ys) ≡ and_then (read_each step b xs) (λ c. read_each step c ys))
          → and_then o (λ b. read_each step b (xs ++ ys)) ≡ and_then (and_then o (λ b. read_each step b xs)) (λ b. read_each step b ys)
      go (refused k) ih = refl
      go (accepted b) ih = ih b

  faulted : (a : A) (ps : List B) (k : ℕ) → read_each step a ps ≡ refused k → FaultAt a ps k
  unfolding read_each
  faulted a [] k e = let z : ◌≡◌ {A = ℕ} 0 1 = cc in absurd (omega arith)
  faulted a (p ∷ ps) k e = go (step a p) refl e (λ b. faulted b ps k)
    where
      go : (o : Outcome A) → step a p ≡ o → and_then o (λ b. read_each step b ps) ≡ refused k → ((b : A) → read_each step b ps ≡ refused k → FaultAt b ps k) → FaultAt a (p ∷ ps) k
      go (refused j) t e ih = record { sooner = []; part = p; after = ps; parts_are = refl; so_far = a; reads = refl; faulty = t ∙ e }
      go (accepted b) t e ih =
          let f = ih b e in
          record { sooner = p ∷ f.sooner; part = f.part; after = f.after; parts_are = ap (λ (l : List B). p ∷ l) f.parts_are; so_far = f.so_far; reads = rw t f.reads; faulty = f.faulty }

  -- parts are refused with k exactly if one of them is and all before it are read
  pub first_fault : (a : A) (ps : List B) (k : ℕ) → (read_each step a ps ≡ refused k) ↔ FaultAt a ps k
  unfolding read_each
  first_fault a ps k = (
    faulted a ps k,
    λ f. rw (f.parts_are, read_append a f.sooner (f.part ∷ f.after), f.reads, f.faulty),
  )

-- ---- what each step keeps, the reading of all parts keeps
module _ {A B : Type 0} (P : A → Type 0) (step : A → B → Outcome A) (keeps : (a b : A) (p : B) → P a → step a p ≡ accepted b → P b) where
  pub read_keeps : (a : A) (ps : List B) {b : A} → P a → read_each step a ps ≡ accepted b → P b
  unfolding read_each
  read_keeps a [] {b} h e = let z : a ≡ b = cc in subst P z h
  read_keeps a (p ∷ ps) {b} h e = go (step a p) refl (λ x. read_keeps x ps) e
    where
      go : (o : Outcome A) → step a p ≡ o → ((x : A) → P x → read_each step x ps ≡ accepted b → P b) → and_then o (λ x. read_each step x ps) ≡ accepted b → P b
      go (refused k) q ih e = let z : ◌≡◌ {A = ℕ} 0 1 = cc in absurd (omega arith)
      go (accepted x) q ih e = ih x (keeps a x p h q) e

-- ---- a loop over parts, with a read so far and ps left: W is what all of them are read to
module _ {A B : Type 0} (step : A → B → Outcome A) (a : A) {W : Outcome A} {ps : List B} (inv : W ≡ read_each step a ps) where
  module _ {q : B} {rest : List B} (h : ps ≡ q ∷ rest) where
    pub read_refused : {k : ℕ} → step a q ≡ refused k → refused k ≡ W
    unfolding read_each
    read_refused e = sym (inv ∙ rw (h, e))

    pub read_next : {b : A} → step a q ≡ accepted b → W ≡ read_each step b rest
    unfolding read_each
    read_next e = inv ∙ rw (h, e)

  pub read_ended : ps ≡ [] → accepted a ≡ W
  unfolding read_each
  read_ended h = sym (inv ∙ rw h)

-- ---- the same at a part q of a text, from the byte p on, of the parts between the bytes x
module _ {A : Type 0} (step : A → List ℕ → Outcome A) (a : A) {W : Outcome A} {p x : ℕ} {s q : List ℕ} (inv : W ≡ read_each step a (split x (drop p s))) (h : PartOf s p x q) where
  first : W ≡ and_then (step a q) (λ b. read_each step b (later x (drop p s)))
  unfolding read_each
  first = inv ∙ rw (part_head h)

  pub read_last : {b : A} → step a q ≡ accepted b → p + length q ≡ length s → accepted b ≡ W
  unfolding read_each
  read_last e l = sym (first ∙ rw (e, part_last h l))

  pub read_more : {b : A} → step a q ≡ accepted b → (p + length q ≡ length s → ⊥) → W ≡ read_each step b (split x (drop (p + length q + 1) s))
  read_more e l = first ∙ rw (e, part_more h l)
