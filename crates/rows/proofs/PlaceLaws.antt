-- Which shard a bit of a lent table is, also where its last row is not whole, and which tables pass the check for shards at or above a
-- width.
-- Assumes nothing.
use Rattle.std.specs.Prelude.{◌≡◌, ◌↔◌, true, List, ℕ, ◌+◌, ◌*◌, ◌/◌, ◌%◌, ◌^◌, ◌≤◌, ◌<◌, get_or, drop}
use Rattle.std.proofs.Common.{sym, subst, ◌∙◌, arith, lt-ltb, pow_mono, get_or-take}
use Rattle.std.proofs.Math.Path.{ap}
use Rattle.std.proofs.Math.Nat.{lt_of_lt_of_le}
use Rattle.std.proofs.Math.Decide.{dec_lt}
use Rattle.std.proofs.Math.ListN.{length, take, length-take}
use Rattle.std.proofs.Math.Seq.{get_or-drop}
use Rattle.std.specs.List.{list_all}
use Rattle.lists.specs.AllLaws.{all_means}
use Rattle.bitmap.specs.Mask.{bit, is_below}
use Rattle.bitmap.specs.MaskLaws.{below_bit, bits_below}
use Rattle.rows.specs.Row.{row_in, rows_in}
use Rattle.rows.proofs.WordLaws.{Words, word_bit, value_lt}
use Rattle.rows.proofs.TableLaws.{part_words, rows_at, row_below}

module _ (table : List ℕ) (h : Words table) where
  place : (s j t : ℕ) → j < 4 → t < 64 → bit (row_in table s) (j * 64 + t) ≡ bit (get_or table (s * 4 + j) 0) t
  unfolding row_in
  place s j t k l =
      word_bit (take 4 (drop (s * 4) table)) (part_words table (s * 4) 4 h) j t l
      ∙ ap (λ (x : ℕ). bit x t) (get_or-take 4 (drop (s * 4) table) j 0 k ∙ get_or-drop (s * 4) table j 0)

  -- bit t of the word i is the shard i % 4 * 64 + t of the replica i / 4
  pub table_bit : (i t : ℕ) → t < 64 → bit (row_in table (i / 4)) (i % 4 * 64 + t) ≡ bit (get_or table i 0) t
  table_bit i t l =
      let e : i / 4 * 4 + i % 4 ≡ i = omega arith in
      place (i / 4) (i % 4) t (omega arith) l ∙ ap (λ (k : ℕ). bit (get_or table k 0) t) e

  -- a row has room in four words
  pub row_lt : (s : ℕ) → row_in table s < 2 ^ 256
  unfolding row_in
  row_lt s =
      let l = take 4 (drop (s * 4) table) in
      lt_of_lt_of_le (value_lt l (part_words table (s * 4) 4 h)) (pow_mono {i = length l * 64} {j = 256} (omega (arith, length-take 4 (drop (s * 4) table))))

  -- every row is below w exactly if no bit that is there is a shard at or above w
  pub table_below : (w : ℕ)
      → (list_all (is_below w) (rows_in table) ≡ true) ↔ ((i t : ℕ) → t < 64 → w ≤ i % 4 * 64 + t → bit (get_or table i 0) t ≡ 0)
  table_below w = (
    λ e i t l k. sym (table_bit i t l)
        ∙ below_bit w (row_in table (i / 4)) (i % 4 * 64 + t) (row_below w table ((all_means (is_below w) 0 (rows_in table)).0 e) (i / 4)) k,
    λ f.
        (all_means (is_below w) 0 (rows_in table)).1
        (λ s l. lt-ltb (get_or (rows_in table) s 0) (2 ^ w) (subst (λ (m : ℕ). m < 2 ^ w) (sym (rows_at table s)) (bits_below w (row_in table s) (λ x k. clear f s x k (dec_lt x 256))))),
  )
    where
      clear : ((i t : ℕ) → t < 64 → w ≤ i % 4 * 64 + t → bit (get_or table i 0) t ≡ 0) → (s x : ℕ) → w ≤ x → Dec (x < 256)
          → bit (row_in table s) x ≡ 0
      clear f s x k (yes l) =
          let i = s * 4 + x / 64 in
          let p : x / 64 * 64 + x % 64 ≡ x = omega arith in
          let q : i % 4 * 64 + x % 64 ≡ x = omega arith in
          ap (bit (row_in table s)) (sym p) ∙ place s (x / 64) (x % 64) (omega arith) (omega arith)
          ∙ f i (x % 64) (omega arith) (omega (arith, q))
      clear f s x k (no l) = below_bit 256 (row_in table s) x (row_lt s) (omega arith)
