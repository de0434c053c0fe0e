-- The first rows of a table as a list: one row written, what a table of zeros has, and that they spell its words. Assumes nothing.
use Rattle.std.specs.Prelude.{◌≡◌, refl, List, [], ◌∷◌, ◌++◌, ℕ, zero, suc, ◌+◌, ◌*◌, ◌^◌, ◌≤◌, ◌<◌, length, get_or, take, drop, set, replicate}
use Rattle.std.proofs.Common.{sym, ap, ap₂, ◌∙◌, append-nil, arith, length-set, length-drop, get_or-set_same, get_or-set_other, take-add, length-take-le, ext_get_or}
use Rattle.std.proofs.Math.Decide.{ℕ_discrete}
use Rattle.std.proofs.lemmas.List.{length-replicate, get_or-replicate}
use Rattle.lists.specs.Below.{each_below}
use Rattle.lists.specs.BelowLaws.{each_below_length, each_below_at}
use Rattle.rows.specs.Row.{value, words_of, row_in, spelled, with_row, first_rows}
use Rattle.rows.proofs.WordLaws.{Words, words_value}
use Rattle.rows.proofs.TableLaws.{part_words, spelled_append, with_row_same, with_row_other, first_row, no_row}

pub first_rows_length : (n : ℕ) (table : List ℕ) → length (first_rows n table) ≡ n
first_rows_length n table = each_below_length (row_in table) n

-- one row written is one member of the list set
pub first_rows_set : (n : ℕ) (table : List ℕ) (r m : ℕ) → n * 4 ≤ length table → r < n → m < 2 ^ 256
    → first_rows n (with_row table r m) ≡ set (first_rows n table) r m
first_rows_set n table r m room h small =
    ext_get_or 0 (first_rows n (with_row table r m)) (set (first_rows n table) r m)
    (first_rows_length n (with_row table r m) ∙ sym (length-set (first_rows n table) r m ∙ first_rows_length n table))
    (λ i l. go i (ℕ_discrete i r) (omega (arith, first_rows_length n (with_row table r m))))
  where
    fits : r * 4 + 4 ≤ length table
    fits = omega arith

    go : (i : ℕ) → Dec (i ≡ r) → i < n → get_or (first_rows n (with_row table r m)) i 0 ≡ get_or (set (first_rows n table) r m) i 0
    go i (yes q) l =
        each_below_at (row_in (with_row table r m)) n i 0 l ∙ ap (row_in (with_row table r m)) q ∙ with_row_same table r m fits small
        ∙ sym (ap (λ (k : ℕ). get_or (set (first_rows n table) r m) k 0) q ∙ get_or-set_same (first_rows n table) r m 0 (omega (arith, first_rows_length n table)))
    go i (no q) l =
        each_below_at (row_in (with_row table r m)) n i 0 l ∙ with_row_other table r m fits i q
        ∙ sym (get_or-set_other (first_rows n table) r i m 0 q ∙ each_below_at (row_in table) n i 0 l)

-- a table of zeros has rows of no shard
pub first_rows_none : (n k : ℕ) → first_rows n (replicate k 0) ≡ replicate n 0
first_rows_none n k =
    ext_get_or 0 (first_rows n (replicate k 0)) (replicate n 0) (first_rows_length n (replicate k 0) ∙ sym (length-replicate n 0))
    (λ i l.
    let h : i < n = omega (arith, first_rows_length n (replicate k 0)) in
    each_below_at (row_in (replicate k 0)) n i 0 h ∙ no_row k i ∙ sym (get_or-replicate n i 0 0 h))

-- four words that a table has are the words of their row
four_words : (table : List ℕ) → Words table → (s : ℕ) → s * 4 + 4 ≤ length table → words_of 4 (row_in table s) ≡ take 4 (drop (s * 4) table)
unfolding row_in
four_words table h s room =
    let l : length (take 4 (drop (s * 4) table)) ≡ 4 = length-take-le 4 (drop (s * 4) table) (omega (arith, length-drop (s * 4) table)) in
    ap (λ (k : ℕ). words_of k (value (take 4 (drop (s * 4) table)))) (sym l)
    ∙ words_value (take 4 (drop (s * 4) table)) (part_words table (s * 4) 4 h)

-- the first rows spell the first words
pub first_rows_spell : (n : ℕ) (table : List ℕ) → Words table → n * 4 ≤ length table → spelled (first_rows n table) ≡ take (n * 4) table
unfolding spelled each_below
first_rows_spell zero table h room = refl
first_rows_spell (suc n) table h room =
    let e : n * 4 + 4 ≡ suc n * 4 = omega arith in
    spelled_append (first_rows n table) (row_in table n ∷ [])
    ∙ ap₂ ◌++◌ (first_rows_spell n table h (omega arith)) (append-nil (words_of 4 (row_in table n)) ∙ four_words table h n (omega arith))
    ∙ sym (take-add (n * 4) 4 table) ∙ ap (λ (k : ℕ). take k table) e

-- they are in its first words
pub first_rows_take : (n : ℕ) (table : List ℕ) → first_rows n (take (n * 4) table) ≡ first_rows n table
first_rows_take n table =
    ext_get_or 0 (first_rows n (take (n * 4) table)) (first_rows n table) (first_rows_length n (take (n * 4) table) ∙ sym (first_rows_length n table))
    (λ i l.
    let h : i < n = omega (arith, first_rows_length n (take (n * 4) table)) in
    each_below_at (row_in (take (n * 4) table)) n i 0 h ∙ first_row table n i h ∙ sym (each_below_at (row_in table) n i 0 h))
