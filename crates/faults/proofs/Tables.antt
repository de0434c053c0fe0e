-- The finished table: the sets of f replicas, then the domains, then, where probabilities are known, the probable sets; and where the
-- domains are. Assumes nothing.
use Prim.Native.Nat.{ℕ, ◌^◌, ◌≤◌}
use native.Mathlib.Nat.{div-one, mod-one}
use native.Mathlib.Omega.{arith}
use mathlib.Core.Path.{◌≡◌, refl, ◌∙◌}
use mathlib.Core.Bool.{Bool, true, false, ◌&&◌, ◌||◌}
use mathlib.Core.List.{List}
use borrow.Author.Tests.{lt-ltb, ltb-true}
use lib.Ieee.{Float}
use lib.ListN.{length, replicate}
use Rattle.std.specs.List.{list_all}
use Rattle.lists.specs.ListedLaws.{all_listed, listed_all}
use Rattle.refusals.specs.Limits.{is_mask, is_under}
use Rattle.floats.specs.Floats.{one}
use Rattle.marks.specs.MarkLaws.{none_flagged}
use Rattle.maximal.specs.Tables.{Flags}
use Rattle.faults.specs.Family.{is_probable, is_sized, is_among, family_of}
use Rattle.faults.specs.Marks.{Marked, is_hit}
use Rattle.faults.proofs.Marks.{marked_none}

-- from the empty set on, the sets that are hit are the probable ones
hit_all : (ps : List Float) (threshold : Float) (m : ℕ) → is_hit ps 0 0 one threshold m ≡ is_probable ps threshold m
unfolding is_hit is_probable
hit_all ps threshold m = rw (mod-one, div-one)

pub flags_family :
    (n f words : ℕ) (ds : List ℕ) (known : Bool) (ps : List Float) (threshold : Float) (blank a b c : List ℕ) → blank ≡ replicate words 0
    → Marked (2 ^ n) (is_sized f) blank a → Marked (2 ^ n) (is_among ds) a b → Marked (2 ^ n) (λ m. known && is_hit ps 0 0 one threshold m) b c
    → Flags n (family_of f ds known ps threshold) c
unfolding Flags Marked family_of
flags_family n f words ds known ps threshold blank a b c e h g k m l =
    k m l
    ∙ rw (hit_all, g m l, h m l, e, none_flagged words m) (go (is_sized f m) (is_among ds m) (known && is_probable ps threshold m))
  where
    go : (x y z : Bool) → (z || (y || (x || false))) ≡ (x || (y || z))
    go true true true = refl
    go true true false = refl
    go true false true = refl
    go true false false = refl
    go false true true = refl
    go false true false = refl
    go false false true = refl
    go false false false = refl

-- the probable sets as `mark_probable` marks them, with the probabilities qs, and where there are none
module _ (n : ℕ) (known : Bool) (ps : List Float) (threshold : Float) (b : List ℕ) where
  pub probable_marked : (qs : List Float) (c : List ℕ) → known ≡ true → qs ≡ ps → length qs ≡ n
      → Marked (2 ^ length qs) (is_hit qs 0 0 one threshold) b c → Marked (2 ^ n) (λ m. known && is_hit ps 0 0 one threshold m) b c
  probable_marked qs c k q s h = rw (k, ← q, ← s) h

  pub none_marked : known ≡ false → Marked (2 ^ n) (λ m. known && is_hit ps 0 0 one threshold m) b b
  none_marked k = rw k (marked_none (2 ^ n) (λ m. false) b (λ j l. refl))

-- domains of n replicas have a bit each in a table of 2 ^ n
pub domains_below : (n size : ℕ) (ds : List ℕ) → 2 ^ n ≤ size → list_all (is_mask n) ds ≡ true → list_all (is_under size) ds ≡ true
domains_below n size ds e h =
    listed_all (is_under size) ds (λ m d. lt-ltb m size (omega (arith, ltb-true m (2 ^ n) (all_listed (is_mask n) ds h m d))))
