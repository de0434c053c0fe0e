-- A product of probabilities never rises, so that the search for probable sets may stop where a product is below the threshold. Assumes nothing.
use Prim.Native.Nat.{ℕ, zero, suc, ◌/◌, ◌%◌, ◌^◌}
use mathlib.Core.Path.{◌≡◌, refl, sym, ◌∙◌}
use mathlib.Core.Bool.{Bool, true, false, cond, and-false, true≢false, and-eq-true_iff}
use mathlib.Core.List.{List, [], ◌∷◌}
use lib.Dec.{eqb}
use lib.Ieee.{Float, binary64, mul, le}
use lib.ListN.{drop}
use Rattle.std.specs.List.{list_all}
use Rattle.floats.specs.Floats.{is_probability, Fine}
use Rattle.floats.specs.NumberLaws.{le_trans}
use Rattle.floats.proofs.Shrink.{never_raises, fine_mul, fine_le}
use Rattle.faults.specs.Family.{times_of}
use Rattle.faults.specs.Marks.{is_hit}

-- whatever is multiplied in
pub times_falls : (ps : List Float) (m : ℕ) (a : Float) → Fine a → list_all is_probability ps ≡ true → le (times_of ps m a) a ≡ true
unfolding times_of
times_falls [] m a f h = fine_le a f
times_falls (p ∷ ps) m a f h = go (eqb (m % 2) 0) (λ x g. times_falls ps (m / 2) x g parts.1)
  where
    parts : (is_probability p ≡ true) × (list_all is_probability ps ≡ true)
    parts = (and-eq-true_iff (is_probability p) (list_all is_probability ps)).0 h

    go : (b : Bool) → ((x : Float) → Fine x → le (times_of ps (m / 2) x) x ≡ true) → le (times_of ps (m / 2) (cond b a (mul binary64 a p))) a ≡ true
    go true ih = ih a f
    go false ih =
        le_trans (times_of ps (m / 2) (mul binary64 a p)) (mul binary64 a p) a (ih (mul binary64 a p) (fine_mul a p f parts.0))
        (never_raises a p f parts.0)

all_drop : (n : ℕ) (ps : List Float) → list_all is_probability ps ≡ true → list_all is_probability (drop n ps) ≡ true
all_drop zero ps h = h
all_drop (suc n) [] h = refl
all_drop (suc n) (p ∷ ps) h = all_drop n ps ((and-eq-true_iff (is_probability p) (list_all is_probability ps)).0 h).1

-- from a product below the threshold on there is no probable set
pub hit_pruned :
    (ps : List Float) (next mask : ℕ) (q threshold : Float) (m : ℕ) → list_all is_probability ps ≡ true → Fine q → le threshold q ≡ false
    → is_hit ps next mask q threshold m ≡ false
unfolding is_hit
hit_pruned ps next mask q threshold m h f e = rw (go (le threshold (times_of (drop next ps) (m / 2 ^ next) q)) refl, and-false, and-false)
  where
    go : (b : Bool) → le threshold (times_of (drop next ps) (m / 2 ^ next) q) ≡ b → le threshold (times_of (drop next ps) (m / 2 ^ next) q) ≡ false
    go true t =
        absurd (true≢false (sym (le_trans threshold (times_of (drop next ps) (m / 2 ^ next) q) q t (times_falls (drop next ps) (m / 2 ^ next) q f (all_drop next ps h))) ∙ e))
    go false t = t
