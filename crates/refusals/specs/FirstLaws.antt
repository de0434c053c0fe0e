-- What the number that refuses means: it is 0 exactly if no case holds, and otherwise the number of a case that holds with none before it that does.
-- Assumes nothing.
use Rattle.std.specs.Prelude.{◌≡◌, refl, ◌↔◌, ◌⊎◌, Bool, true, false, cond, List, [], ◌∷◌, ◌++◌, ℕ, zero, suc, ◌<◌, ltb}
use Rattle.std.proofs.Common.{inl, inr, arith, ltb-true}
use Rattle.std.proofs.Math.Bool.{and-eq-true_iff}
use Rattle.std.specs.List.{list_all}
use Rattle.lists.specs.All.{AllOf}
use Rattle.refusals.specs.First.{Case, first_of}

-- every number is above 0
abbrev pub numbered : List Case → Bool
numbered cs = list_all (λ (c : Case). ltb 0 c.1) cs

-- no case holds
abbrev pub NoneHolds : List Case → Type 0
NoneHolds cs = AllOf (λ (c : Case). c.0 ≡ false) cs

-- k is the number of a case that holds, and no case before it holds
abbrev pub FirstIs : ℕ → List Case → Type 0
FirstIs k [] = ⊥
FirstIs k (c ∷ cs) = ((c.0 ≡ true) × (c.1 ≡ k)) ⊎ ((c.0 ≡ false) × FirstIs k cs)

clear : (cs : List Case) → numbered cs ≡ true → first_of cs ≡ 0 → NoneHolds cs
clear [] u e = tt
clear (c ∷ cs) u e =
    let n = (and-eq-true_iff (ltb 0 c.1) (numbered cs)).0 u in
    go c.0 refl (ltb-true 0 c.1 n.0) (clear cs n.1) e
  where
    go : (b : Bool) → c.0 ≡ b → 0 < c.1 → (first_of cs ≡ 0 → NoneHolds cs) → cond b c.1 (first_of cs) ≡ 0 → NoneHolds (c ∷ cs)
    go true q h ih e = absurd (omega arith)
    go false q h ih e = (q, ih e)

unrefused : (cs : List Case) → NoneHolds cs → first_of cs ≡ 0
unrefused [] h = refl
unrefused (c ∷ cs) h = rw h.0 (unrefused cs h.1)

pub none_holds : (cs : List Case) → numbered cs ≡ true → (first_of cs ≡ 0) ↔ NoneHolds cs
none_holds cs u = (clear cs u, unrefused cs)

forth : (cs : List Case) (k : ℕ) → 0 < k → first_of cs ≡ k → FirstIs k cs
forth [] k h e = absurd (omega arith)
forth (c ∷ cs) k h e = go c.0 refl (forth cs k h) e
  where
    go : (b : Bool) → c.0 ≡ b → (first_of cs ≡ k → FirstIs k cs) → cond b c.1 (first_of cs) ≡ k → FirstIs k (c ∷ cs)
    go true q ih e = inl (q, e)
    go false q ih e = inr (q, ih e)

back : (cs : List Case) (k : ℕ) → FirstIs k cs → first_of cs ≡ k
back [] k h = absurd h
back (c ∷ cs) k (inl h) = rw h.0 h.1
back (c ∷ cs) k (inr h) = rw h.0 (back cs k h.1)

pub first_is : (cs : List Case) (k : ℕ) → 0 < k → (first_of cs ≡ k) ↔ FirstIs k cs
first_is cs k h = (forth cs k h, back cs k)

-- ---- a list of cases after another

-- the number of the first, or of the second where the first has none
abbrev pub otherwise : ℕ → ℕ → ℕ
otherwise zero k = k
otherwise (suc j) k = suc j

pub first_then : (cs ds : List Case) → numbered cs ≡ true → first_of (cs ++ ds) ≡ otherwise (first_of cs) (first_of ds)
first_then [] ds u = refl
first_then (c ∷ cs) ds u =
    let n = (and-eq-true_iff (ltb 0 c.1) (numbered cs)).0 u in
    go c.0 c.1 (ltb-true 0 c.1 n.0) (first_then cs ds n.1)
  where
    go : (b : Bool) (k : ℕ) → 0 < k → first_of (cs ++ ds) ≡ otherwise (first_of cs) (first_of ds)
        → cond b k (first_of (cs ++ ds)) ≡ otherwise (cond b k (first_of cs)) (first_of ds)
    go true zero h ih = absurd (omega arith)
    go true (suc k) h ih = refl
    go false k h ih = ih
