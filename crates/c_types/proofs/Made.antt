-- An array that std's `from_fn` makes of a closure that stays as it is, and returns h of the index. Assumes nothing.
use mathlib.Core.Path.{◌≡◌, refl, sym, ap, subst, ◌∙◌}
use mathlib.Core.List.{List, [], ◌∷◌, ◌++◌}
use Prim.Native.Nat.{ℕ, zero, suc, ◌+◌}
use native.Mathlib.Numerals.{add-one}
use native.Mathlib.Omega.{arith}
use lib.ListN.{length, get_or, take}
use lib.Seq.{take_all, take-suc}
use denote.Param.Members.{Mut, Called}
use Rattle.std.specs.Array.{IsFromFnResultFrom, IsFromFnResult}
use Rattle.lists.specs.Below.{each_below}

module _ {F B : Type 0} (g : Mut F (ℕ × Unit {0}) B) (f : F) (h : ℕ → B) (call : (i : ℕ) (y : B) (q : F) → Called g f (i, tt) y q → (q ≡ f) × (y ≡ h i)) (ys : List B) where
  from : (n i : ℕ) (p : F) → p ≡ f → IsFromFnResultFrom g p ys i n → i + n ≡ length ys → take i ys ≡ each_below h i → ys ≡ each_below h (i + n)
  unfolding each_below
  from zero i p e m l t = let k : i ≡ i + 0 = omega arith in sym (take_all i ys (omega arith)) ∙ t ∙ ap (each_below h) k
  from (suc n) i p e m l t =
      let y = m.1 in
      let s = call i y m.0 (subst (λ (r : F). Called g r (i, tt) y m.0) e m.3) in
      let at : get_or ys i y ≡ h i = m.2.0 ∙ s.1 in
      let next : take (i + 1) ys ≡ each_below h (i + 1) = rw add-one (take-suc ys i y (omega arith) ∙ rw t (ap (λ (x : B). each_below h i ++ (x ∷ [])) at)) in
      let k : i + 1 + n ≡ i + suc n = omega arith in
      from n (i + 1) m.0 s.0 m.4 (omega arith) next ∙ ap (each_below h) k

  pub made : (n : ℕ) → IsFromFnResult g f ys n → ys ≡ each_below h n
  unfolding each_below
  made n m = let k : 0 + n ≡ n = omega arith in from n 0 f refl m.each (omega (arith, m.long)) refl ∙ ap (each_below h) k
