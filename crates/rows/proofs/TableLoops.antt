-- What a loop over a table of rows keeps: the rows united so far, and the rows written so far. The premises are what a need's record holds, so that `search` finds
-- them. Assumes nothing.
use mathlib.Core.Path.{◌≡◌, refl, sym, ap, ap₂, ◌∙◌}
use mathlib.Core.List.{List, [], ◌∷◌, ◌++◌, append-nil}
use Prim.Native.Nat.{ℕ, suc, ◌+◌, ◌*◌, ◌≤◌}
use native.Mathlib.Nat.{le_antisymm}
use native.Mathlib.Numerals.{add-one}
use native.Mathlib.Omega.{arith}
use lib.Bits.{bit_or, or_comm}
use lib.ListN.{length, get_or, drop, length-append, length-drop}
use lib.Seq.{sets, sets-eq, take-append_seam, drop-append-add, drop-drop}
use Rattle.bitmap.specs.RunLaws.{or_assoc}
use Rattle.lists.specs.Below.{each_below, front}
use Rattle.lists.specs.BelowLaws.{each_below_length}
use Rattle.lists.proofs.BelowLoops.{front_length}
use Rattle.rows.specs.Row.{words_of, last_in, spelled, with_row, unite_below}
use Rattle.rows.proofs.WordLaws.{words_length}
use Rattle.rows.proofs.TableLaws.{spelled_length, spelled_append}

-- ---- a union of rows
module _ (f : ℕ → ℕ) where
  pub unite_start : (m : ℕ) → m ≡ 0 → m ≡ unite_below f 0
  unfolding unite_below
  unite_start m e = e

  pub unite_more : (acc s r u : ℕ) → acc ≡ unite_below f s → r ≡ f s → u ≡ bit_or acc r → u ≡ unite_below f (s + 1)
  unfolding unite_below
  unite_more acc s r u e q t = rw add-one (cc)

  pub unite_last : (acc s n r u : ℕ) → acc ≡ unite_below f s → s ≤ n → n ≤ s → r ≡ f n → u ≡ bit_or acc r → u ≡ unite_below f (n + 1)
  unite_last acc s n r u e l g q t = unite_more acc n r u (e ∙ ap (unite_below f) (le_antisymm l g)) q t

-- ---- a union of last words in four parts, one for each row of a group of four
or_pairs : (a p b q : ℕ) → bit_or (bit_or a p) (bit_or b q) ≡ bit_or (bit_or a b) (bit_or p q)
or_pairs a p b q = rw (or_assoc a p (bit_or b q), ← or_assoc p b q, or_comm p b, or_assoc b p q) (sym (or_assoc a b (bit_or p q)))

or_fours : (a b c d p q r t : ℕ) → bit_or (bit_or (bit_or a p) (bit_or b q)) (bit_or (bit_or c r) (bit_or d t))
    ≡ bit_or (bit_or (bit_or (bit_or (bit_or (bit_or a b) (bit_or c d)) p) q) r) t
or_fours a b c d p q r t =
    let m = bit_or (bit_or a b) (bit_or c d) in
    ap₂ bit_or (or_pairs a p b q) (or_pairs c r d t) ∙ or_pairs (bit_or a b) (bit_or p q) (bit_or c d) (bit_or r t)
    ∙ sym (or_assoc m (bit_or p q) (bit_or r t)) ∙ sym (or_assoc (bit_or m (bit_or p q)) r t)
    ∙ ap (λ (n : ℕ). bit_or (bit_or n r) t) (sym (or_assoc m p q))

module _ (table : List ℕ) where
  pub fours_more : (a b c d g x y z w : ℕ) → bit_or (bit_or a b) (bit_or c d) ≡ unite_below (last_in table) (g * 4)
      → x ≡ bit_or a (get_or table (g * 16 + 3) 0) → y ≡ bit_or b (get_or table (g * 16 + 7) 0)
      → z ≡ bit_or c (get_or table (g * 16 + 11) 0) → w ≡ bit_or d (get_or table (g * 16 + 15) 0)
      → bit_or (bit_or x y) (bit_or z w) ≡ unite_below (last_in table) ((g + 1) * 4)
  unfolding unite_below
  fours_more a b c d g x y z w e ex ey ez ew =
      let s = g * 4 in
      let k : (g + 1) * 4 ≡ suc (suc (suc (suc s))) = omega arith in
      let p : g * 16 + 3 ≡ s * 4 + 3 = omega arith in
      let q : g * 16 + 7 ≡ suc s * 4 + 3 = omega arith in
      let r : g * 16 + 11 ≡ suc (suc s) * 4 + 3 = omega arith in
      let t : g * 16 + 15 ≡ suc (suc (suc s)) * 4 + 3 = omega arith in
      rw (k, ex, ey, ez, ew, p, q, r, t, ← e) (or_fours a b c d _ _ _ _)

-- ---- words written after those at the front of a table
pub front_words : (xs vs l : List ℕ) → length xs + length vs ≤ length l → sets (front xs l) (length xs) vs ≡ front (xs ++ vs) l
unfolding front
front_words xs vs l h =
    sets-eq vs (xs ++ drop (length xs) l) (length xs) (simp (length-append, length-drop) (omega arith))
    ∙ ap₂ (λ (a b : List ℕ). a ++ vs ++ b) (take-append_seam xs (drop (length xs) l)) (drop-append-add xs (drop (length xs) l) (length vs) ∙ drop-drop (length vs) (length xs) l)
    ∙ ap (λ (k : ℕ). xs ++ vs ++ drop k l) (sym (length-append xs vs))

spelled_more : (ms : List ℕ) (m : ℕ) → spelled (ms ++ (m ∷ [])) ≡ spelled ms ++ words_of 4 m
unfolding spelled
spelled_more ms m = spelled_append ms (m ∷ []) ∙ ap (λ (l : List ℕ). spelled ms ++ l) (append-nil (words_of 4 m))

module _ (f : ℕ → ℕ) (l : List ℕ) where
  pub rows_start : l ≡ front (spelled (each_below f 0)) l
  unfolding front each_below spelled
  rows_start = refl

  pub rows_more : (s m : ℕ) (table now : List ℕ) → s * 4 + 4 ≤ length l → table ≡ front (spelled (each_below f s)) l → m ≡ f s → now ≡ with_row table s m
      → now ≡ front (spelled (each_below f (s + 1))) l
  unfolding each_below
  rows_more s m table now h e q t =
      let k : length (spelled (each_below f s)) ≡ s * 4 = spelled_length (each_below f s) ∙ ap (λ (n : ℕ). n * 4) (each_below_length f s) in
      t ∙ rw (e, q, ← k) (front_words (spelled (each_below f s)) (words_of 4 (f s)) l (omega (arith, words_length 4 (f s))) ∙ ap (λ (xs : List ℕ). front xs l) (sym (spelled_more (each_below f s) (f s)))
      ∙ rw add-one)

  pub rows_length : (s : ℕ) (table : List ℕ) → s * 4 ≤ length l → table ≡ front (spelled (each_below f s)) l → length table ≡ length l
  rows_length s table h e =
      ap length e ∙ front_length (spelled (each_below f s)) l (omega (arith, spelled_length (each_below f s), ap (λ (n : ℕ). n * 4) (each_below_length f s)))
