-- The numbers below a bound that pass a test, as a filtered range lists them, and a list that is written number by number. Assumes nothing.
use Prim.Native.Nat.{ℕ, zero, suc, ◌+◌, ◌<◌, ◌≤◌}
use native.Mathlib.Omega.{arith}
use mathlib.Core.Path.{◌≡◌, refl, sym, ap, ◌∙◌}
use mathlib.Core.Bool.{Bool, cond}
use mathlib.Core.List.{List, [], ◌∷◌, ◌++◌, map}
use lib.ListN.{length, get_or, take, set}
use lib.Seq.{take-suc, length-take-le}
use Rattle.std.specs.Prelude.{Option, Some, None}
use Rattle.std.specs.Iterator.{Yields}
use Rattle.std.proofs.lemmas.Iterator.{YieldsList}
use Rattle.std.proofs.lemmas.Iterator.Consumers.{YieldsList-turn, YieldsList-end}
use Rattle.std.specs.List.{filter, range_with_len, enumerate_from}
use Rattle.lists.specs.Below.{those_below, front}
use Rattle.lists.specs.ListedLaws.{passing_append}
use Rattle.lists.proofs.BelowLoops.{front_more}

-- a range that is longer by one has one number more at its end
range_more : (a n : ℕ) → range_with_len a (suc n) ≡ range_with_len a n ++ (a + n) ∷ []
range_more a zero = ap (λ (k : ℕ). k ∷ []) (omega arith)
range_more a (suc n) =
    ap (λ (l : List ℕ). a ∷ l) (range_more (a + 1) n ∙ ap (λ (k : ℕ). range_with_len (a + 1) n ++ k ∷ []) (omega arith))

pub those_listed : (f : ℕ → Bool) (k : ℕ) → those_below f k ≡ filter f (range_with_len 0 k)
unfolding those_below
those_listed f zero = refl
those_listed f (suc k) =
    let r : List ℕ = range_with_len 0 k in
    let more : range_with_len 0 (suc k) ≡ r ++ k ∷ [] = range_more 0 k ∙ ap (λ (i : ℕ). r ++ i ∷ []) (omega arith) in
    ap (λ (l : List ℕ). l ++ cond (f k) (k ∷ []) []) (those_listed f k) ∙ sym (ap (filter f) more ∙ passing_append f r (k ∷ []))

-- ---- a list with the place of each number before it
pub at_place : (xs : List ℕ) (a i : ℕ) (p : ℕ × ℕ) → i < length (enumerate_from a xs) → get_or (enumerate_from a xs) i p ≡ (a + i, get_or xs i p.1)
at_place [] a i p h = absurd (omega arith)
at_place (x ∷ xs) a zero p h = ap (λ (k : ℕ). (k, x)) (omega arith)
at_place (x ∷ xs) a (suc i) p h = at_place xs (a + 1) i p (omega arith) ∙ ap (λ (k : ℕ). (k, get_or xs i p.1)) (omega arith)

pub places : (xs : List ℕ) (a : ℕ) → length (enumerate_from a xs) ≡ length xs
places [] a = refl
places (x ∷ xs) a = ap suc (places xs (a + 1))

-- ---- the library's laws of a turn and of the end, with the proof of what is yielded last: then antt knows the steps that it is of
pub at_turn :
    {S A B : Type 0} {steps : S → Option A → S → Type 0} {v : A → B} {s : S} {all : List B} (xs : List A) (t : S) → Yields steps s xs t
    → (r : Option A) (u : S) (x : A) → r ≡ Some x → steps t r u → YieldsList steps v s all
    → (length xs < length all) × (v x ≡ get_or all (length xs) (v x))
at_turn xs t y r u x e h road = YieldsList-turn road xs t y r u x e h

pub at_end :
    {S A B : Type 0} {steps : S → Option A → S → Type 0} {v : A → B} {s : S} {all : List B} (xs : List A) (t : S) → Yields steps s xs t
    → (r : Option A) (u : S) → r ≡ None → steps t r u → YieldsList steps v s all → (map v xs ≡ all) × (length xs ≡ length all)
at_end xs t y r u e h road = YieldsList-end road xs t y r u e h

-- ---- the first k numbers of a list are at the front of l, and the next one is written
pub front_next :
    (all l : List ℕ) (k i m : ℕ) → k < length all → length all ≤ length l → i ≡ k → m ≡ get_or all k m
    → set (front (take k all) l) i m ≡ front (take (suc k) all) l
front_next all l k i m h r e q =
    let z : length (take k all) ≡ k = length-take-le k all (omega arith) in
    front_more (take k all) l m i (e ∙ sym z) (omega (arith, z))
    ∙ ap (λ (x : List ℕ). front x l) (ap (λ (x : ℕ). take k all ++ x ∷ []) q ∙ sym (take-suc all k m h))
