-- What a loop that goes up a list keeps: what is left of the list says the same as the whole. The premises of each law are the fields of a need's record,
-- so that `search` finds them. Assumes nothing.
use mathlib.Core.Path.{◌≡◌, sym, ap, ◌∙◌}
use mathlib.Core.Bool.{Bool, true, false, ◌&&◌, ◌||◌}
use mathlib.Core.List.{List, foldl}
use Prim.Native.Nat.{ℕ, suc, ◌+◌, ◌≤◌, ◌<◌}
use native.Mathlib.Numerals.{add-one}
use lib.ListN.{length, get_or, drop, drop_of_length-le}
use lib.Seq.{drop-cons}
use Rattle.std.specs.List.{list_all, list_any}

-- ---- every element passes
module _ {A : Type 0} (p : A → Bool) (xs : List A) (i : ℕ) where
  abbrev pub Passed : Type 0
  Passed = list_all p xs ≡ list_all p (drop i xs)

  here : (d : A) (r : Bool) → i < length xs → Passed → r ≡ p (get_or xs i d) → list_all p xs ≡ (r && list_all p (drop (suc i) xs))
  here d r h e q = e ∙ ap (list_all p) (drop-cons xs i d h) ∙ ap (λ (b : Bool). b && list_all p (drop (suc i) xs)) (sym q)

  -- r is what the test's function returned at i, and then what the branch saw
  pub pass : (d : A) (r : Bool) → i < length xs → Passed → r ≡ p (get_or xs i d) → r ≡ true → list_all p xs ≡ list_all p (drop (i + 1) xs)
  pass d r h e q t = here d r h e q ∙ ap (λ (b : Bool). b && list_all p (drop (suc i) xs)) t ∙ ap (λ (k : ℕ). list_all p (drop k xs)) (sym (add-one i))

  pub fail : (d : A) (r : Bool) → i < length xs → Passed → r ≡ p (get_or xs i d) → r ≡ false → false ≡ list_all p xs
  fail d r h e q t = sym (here d r h e q ∙ ap (λ (b : Bool). b && list_all p (drop (suc i) xs)) t)

  pub done : length xs ≤ i → Passed → true ≡ list_all p xs
  done h e = sym (e ∙ ap (list_all p) (drop_of_length-le xs h))

-- ---- some element passes
module _ {A : Type 0} (p : A → Bool) (xs : List A) (i : ℕ) where
  abbrev pub Missed : Type 0
  Missed = list_any p xs ≡ list_any p (drop i xs)

  there : (d : A) (r : Bool) → i < length xs → Missed → r ≡ p (get_or xs i d) → list_any p xs ≡ (r || list_any p (drop (suc i) xs))
  there d r h e q = e ∙ ap (list_any p) (drop-cons xs i d h) ∙ ap (λ (b : Bool). b || list_any p (drop (suc i) xs)) (sym q)

  pub hit : (d : A) (r : Bool) → i < length xs → Missed → r ≡ p (get_or xs i d) → r ≡ true → true ≡ list_any p xs
  hit d r h e q t = sym (there d r h e q ∙ ap (λ (b : Bool). b || list_any p (drop (suc i) xs)) t)

-- ---- a fold from the left
module _ {A B : Type 0} (f : B → A → B) (b : B) (xs : List A) (i : ℕ) where
  pub fold_step : (d : A) → i < length xs → foldl f (f b (get_or xs i d)) (drop (i + 1) xs) ≡ foldl f b (drop i xs)
  fold_step d h = rw (add-one, drop-cons xs i d)

  pub fold_done : length xs ≤ i → foldl f b (drop i xs) ≡ b
  fold_done h = rw drop_of_length-le
