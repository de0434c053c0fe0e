-- What `split` means: the parts joined by x are the text again, and x stands in none of them. Assumes nothing.
use Rattle.std.specs.Prelude.{◌≡◌, refl, Bool, true, false, cond, List, [], ◌∷◌, ◌++◌, ℕ, suc, ◌+◌, ◌≤◌, eqb, length}
use Rattle.std.proofs.Common.{◌∙◌, arith, eqb-true}
use Rattle.lists.specs.All.{AllOf}
use Rattle.numerals.specs.Text.{has_byte, push, split}

-- parts with an x between each and the next
unfoldable pub join : ℕ → List (List ℕ) → List ℕ
join x [] = []
join x (p ∷ []) = p
join x (p ∷ (q ∷ qs)) = p ++ (x ∷ join x (q ∷ qs))

push_join : (x b : ℕ) (ps : List (List ℕ)) → join x (push b ps) ≡ b ∷ join x ps
unfolding join
push_join x b [] = refl
push_join x b (p ∷ []) = refl
push_join x b (p ∷ (q ∷ qs)) = refl

-- there is a part
abbrev Some : List (List ℕ) → Type 0
Some [] = ⊥
Some (p ∷ ps) = Unit {0}

some_parts : (x : ℕ) (s : List ℕ) → Some (split x s)
unfolding split
some_parts x [] = tt
some_parts x (b ∷ bs) = go (eqb b x) (split x bs)
  where
    go : (t : Bool) (ps : List (List ℕ)) → Some (cond t ([] ∷ ps) (push b ps))
    go true ps = tt
    go false [] = tt
    go false (p ∷ ps) = tt

next_join : (x : ℕ) (ps : List (List ℕ)) → Some ps → join x ([] ∷ ps) ≡ x ∷ join x ps
unfolding join
next_join x [] h = absurd h
next_join x (p ∷ ps) h = refl

pub joined : (x : ℕ) (s : List ℕ) → join x (split x s) ≡ s
unfolding split join
joined x [] = refl
joined x (b ∷ bs) = go (eqb b x) refl (joined x bs)
  where
    go : (t : Bool) → eqb b x ≡ t → join x (split x bs) ≡ bs → join x (cond t ([] ∷ split x bs) (push b (split x bs))) ≡ b ∷ bs
    go true e ih = next_join x (split x bs) (some_parts x bs) ∙ rw (ih, eqb-true b x e)
    go false e ih = push_join x b (split x bs) ∙ rw ih

pub apart : (x : ℕ) (s : List ℕ) → AllOf (λ p. has_byte x p ≡ false) (split x s)
unfolding split
apart x [] = (refl, tt)
apart x (b ∷ bs) = go (eqb b x) refl (split x bs) (apart x bs)
  where
    go : (t : Bool) → eqb b x ≡ t → (ps : List (List ℕ)) → AllOf (λ p. has_byte x p ≡ false) ps → AllOf (λ p. has_byte x p ≡ false) (cond t ([] ∷ ps) (push b ps))
    go true e ps h = (refl, h)
    go false e [] h = (rw e, tt)
    go false e (p ∷ ps) h = (rw e h.0, h.1)

-- there is at most one part more than there are bytes
push_le : (b n : ℕ) (ps : List (List ℕ)) → length ps ≤ n + 1 → length (push b ps) ≤ suc n + 1
push_le b n [] h = omega arith
push_le b n (p ∷ ps) h = omega arith

pub split_le : (x : ℕ) (s : List ℕ) → length (split x s) ≤ length s + 1
unfolding split
split_le x [] = omega arith
split_le x (b ∷ bs) = go (eqb b x) (split_le x bs)
  where
    go : (t : Bool) → length (split x bs) ≤ length bs + 1 → length (cond t ([] ∷ split x bs) (push b (split x bs))) ≤ suc (length bs) + 1
    go true h = omega arith
    go false h = push_le b (length bs) (split x bs) h
