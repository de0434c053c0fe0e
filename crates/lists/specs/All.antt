-- Statements over a whole list. The tests over one, `list_all` and `list_any`, and `filter` are those of std. Assumes nothing.
use Rattle.std.specs.Prelude.{◌≡◌, List, [], ◌∷◌}

module _ {A : Type 0} where
  -- F holds of each element
  abbrev pub AllOf : (A → Type 0) → List A → Type 0
  AllOf F [] = Unit {0}
  AllOf F (x ∷ xs) = F x × AllOf F xs

  -- no element stands there twice
  abbrev pub Distinct : List A → Type 0
  Distinct [] = Unit {0}
  Distinct (x ∷ xs) = AllOf (λ y. y ≡ x → ⊥) xs × Distinct xs
