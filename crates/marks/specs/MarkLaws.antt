-- What is flagged in a table of bits: where a word is stored, where a set is flagged, in a table of zeros, past the end. Assumes nothing.
use Rattle.std.specs.Prelude.{ℕ, zero, suc, ◌*◌, ◌/◌, ◌%◌, ◌^◌, ◌<◌, ◌≤◌, ◌≡◌, refl, Bool, true, false, ◌||◌, List, eqb, length, get_or, set, take, replicate, ◌++◌}
use Rattle.std.proofs.Math.Decide.{ℕ_discrete}
use Rattle.std.proofs.Common.{arith, ap, ◌∙◌, eq-eqb, ne_eqb, get_or-set_same, get_or-set_other}
use Rattle.std.specs.Int.Bits.{bit_or}
use Rattle.std.proofs.Math.ListN.{get_or-eq_default}
use Rattle.std.proofs.lemmas.List.{get_or-take, get_or_append_left}
use Rattle.bitmap.specs.Mask.{has_bit}
use Rattle.bitmap.specs.MaskLaws.{has_or, bit_same, bit_other, bit_none}
use Rattle.marks.specs.Marks.{flagged, with_flag}

-- a word is stored: its sets are those of the word, and the others as they were
pub flagged_here : (t : List ℕ) (k w m : ℕ) → k < length t → m / 64 ≡ k → flagged (set t k w) m ≡ has_bit w (m % 64)
unfolding flagged
flagged_here t k w m h e = rw (e, get_or-set_same t k w 0 h)

pub flagged_elsewhere : (t : List ℕ) (k w m : ℕ) → (m / 64 ≡ k → ⊥) → flagged (set t k w) m ≡ flagged t m
unfolding flagged
flagged_elsewhere t k w m d = rw (get_or-set_other t k (m / 64) w 0 d)

-- it gets the bits of w
pub flagged_union : (t : List ℕ) (k w m : ℕ) → k < length t → m / 64 ≡ k
    → flagged (set t k (bit_or (get_or t k 0) w)) m ≡ (flagged t m || has_bit w (m % 64))
unfolding flagged
flagged_union t k w m h e = flagged_here t k (bit_or (get_or t k 0) w) m h e ∙ rw e (has_or (get_or t k 0) w (m % 64))

-- the set m is flagged: it is, and what was
pub flagged_with : (t : List ℕ) (m k : ℕ) → m < 64 * length t → flagged (with_flag t m) k ≡ (eqb k m || flagged t k)
unfolding with_flag
flagged_with t m k h = go (ℕ_discrete (k / 64) (m / 64)) (ℕ_discrete k m)
  where
    next : List ℕ
    next = set t (m / 64) (bit_or (get_or t (m / 64) 0) (2 ^ (m % 64)))

    yes_or : (x : Bool) → (x || true) ≡ true
    yes_or true = refl
    yes_or false = refl

    no_or : (x : Bool) → (x || false) ≡ x
    no_or true = refl
    no_or false = refl

    go : Dec (k / 64 ≡ m / 64) → Dec (k ≡ m) → flagged next k ≡ (eqb k m || flagged t k)
    go (no d) (yes q) = absurd (d (ap (λ (x : ℕ). x / 64) q))
    go (no d) (no q) = flagged_elsewhere t (m / 64) _ k d ∙ rw (ne_eqb k m q)
    go (yes e) (yes q) =
        flagged_union t (m / 64) (2 ^ (m % 64)) k (omega arith) e
        ∙ rw (q, bit_same (m % 64), eq-eqb m m refl) (yes_or (flagged t m))
    go (yes e) (no q) =
        flagged_union t (m / 64) (2 ^ (m % 64)) k (omega arith) e
        ∙ rw (ne_eqb k m q, bit_other (m % 64) (k % 64) (λ (z : k % 64 ≡ m % 64). q (omega arith))) (no_or (flagged t k))

-- a table of zeros flags none
pub none_flagged : (k m : ℕ) → flagged (replicate k 0) m ≡ false
unfolding flagged
none_flagged k m = rw (zeros k (m / 64), bit_none)
  where
    zeros : (k i : ℕ) → ◌≡◌ {A = ℕ} (get_or (replicate k 0) i 0) 0
    zeros zero i = refl
    zeros (suc k) zero = refl
    zeros (suc k) (suc i) = zeros k i

-- past the end none is flagged
pub flagged_past : (t : List ℕ) (m : ℕ) → length t ≤ m / 64 → flagged t m ≡ false
unfolding flagged
flagged_past t m h = rw (get_or-eq_default t 0 h, bit_none)

-- the first k words flag what the table does there, and so does a table that more words follow
pub flagged_cut : (t : List ℕ) (k m : ℕ) → m < 64 * k → flagged (take k t) m ≡ flagged t m
unfolding flagged
flagged_cut t k m h = let i : m / 64 < k = omega arith in rw (get_or-take k t (m / 64) 0 i)

pub flagged_longer : (t more : List ℕ) (m : ℕ) → m < 64 * length t → flagged (t ++ more) m ≡ flagged t m
unfolding flagged
flagged_longer t more m h = let i : m / 64 < length t = omega arith in rw (get_or_append_left t more 0 (m / 64) i)
