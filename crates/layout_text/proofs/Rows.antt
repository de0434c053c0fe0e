-- How the rows come about: runs written one after the other, and segments united with the rows that the words hold. Assumes nothing.
use mathlib.Core.Path.{◌≡◌, sym, ap, subst, ◌∙◌}
use mathlib.Core.Bool.{true, false}
use mathlib.Core.List.{List}
use Prim.Native.Nat.{ℕ, ◌+◌, ◌*◌, ◌/◌, ◌^◌, ◌≤◌, ◌<◌}
use native.Mathlib.Nat.{le_trans, lt_of_lt_of_le, le_of_eq, le_of_lt, mul-le-mul_right, mul-div-le}
use native.Mathlib.Omega.{arith}
use lib.Bits.{bit_or}
use lib.ListN.{length, take, drop, get_or, replicate}
use lib.Pow.{pow_mono}
use lib.Seq.{take-length}
use borrow.Author.Tests.{ltb-true, lt-ltb, le-ltb}
use Rattle.lists.specs.BelowLaws.{each_below_at}
use Rattle.lists.proofs.BelowLoops.{Filled, filled_none, filled_more}
use Rattle.bitmap.specs.WidthLaws.{run_below}
use Rattle.rows.specs.declared.Row.{Row}
use Rattle.rows.specs.Row.{words, row_of, row_in, with_row, spelled, first_rows}
use Rattle.rows.proofs.WordLaws.{Words, value_lt}
use Rattle.rows.proofs.Facts.{are_words}
use Rattle.rows.proofs.FirstRows.{first_rows_length, first_rows_set, first_rows_none, first_rows_spell, first_rows_take}
use Rattle.refusals.specs.Numbers.{LAYOUT}
use Rattle.refusals.proofs.Outcomes.{is_checked, is_refused, number_some}
use Rattle.refusals.specs.Refused.{number_of}
use Rattle.refusals.specs.declared.Refusal.{Refusal}
use Rattle.refusals.specs.Outcome.{Outcome, refused, accepted, outcome, left, and_then}
use Rattle.refusals.specs.Limits.{most_shards}
use Rattle.numerals.specs.Text.{is_byte, cut, has_byte, before, behind, split}
use Rattle.numerals.specs.TextLaws.{cut_le, any_cut}
use Rattle.numerals.specs.Read.{read_each}
use Rattle.numerals.specs.Whole.{below_of, members_of}
use Rattle.layout_text.specs.LayoutText.{share, run_at, runs_of, length_of, segment_of, segment_in, segments_of, layout_of, input_refusal, table_refusal, init_of, in_table, init_table}
use Rattle.layout_text.proofs.LayoutLaws.{segment_below, tabled}

-- ---- the start of a run, which must fit a word
pub start_le : (n total r : ℕ) → r < n → r * share n total ≤ total
start_le n total r h = le_trans (mul-le-mul_right (total / n) (le_of_lt h)) (mul-div-le total n)

-- ---- the reading of a segment: c is where its colon stands
module _ (n total : ℕ) (s : List ℕ) {c : ℕ} (f : c ≡ cut 58 s) where
  pub colon_le : c ≤ length s
  colon_le = rw f (cut_le (is_byte 58) s)

  pub colon_none : c ≡ length s → refused LAYOUT ≡ segment_of n total s
  unfolding segment_of
  colon_none e = rw (any_cut (is_byte 58) s, le-ltb (cut 58 s) (length s) (le_of_eq (sym e ∙ f)))

  module _ (g : c ≡ length s → ⊥) where
    pub colon_inside : c < length s
    colon_inside = omega (arith, colon_le)

    has : has_byte 58 s ≡ true
    has = any_cut (is_byte 58) s ∙ lt-ltb (cut 58 s) (length s) (rw f at colon_inside)

    name : {t : List ℕ} → t ≡ take c s → below_of n t ≡ below_of n (before 58 s)
    name u = rw (u, f)

    mask : {t : List ℕ} → t ≡ drop (c + 1) s → members_of false total t ≡ members_of false total (behind 58 s)
    mask u = rw (u, f)

    module _ {t : List ℕ} (u : t ≡ take c s) where
      pub replica_refused : {k : ℕ} → refused k ≡ below_of n t → refused k ≡ segment_of n total s
      unfolding segment_of
      replica_refused e = rw (has, sym (e ∙ name u))

      module _ {r : ℕ} (e : accepted r ≡ below_of n t) {t' : List ℕ} (u' : t' ≡ drop (c + 1) s) where
        pub shards_refused : {k : ℕ} → refused k ≡ members_of false total t' → refused k ≡ segment_of n total s
        unfolding segment_of
        shards_refused q = rw (has, sym (e ∙ name u), sym (q ∙ mask u'))

        pub segment_read : {m : ℕ} → accepted m ≡ members_of false total t' → accepted (r, m) ≡ segment_of n total s
        unfolding segment_of
        segment_read q = rw (has, sym (e ∙ name u), sym (q ∙ mask u'))

-- ---- two rows united: u is the row that both are united to, written in its place
module _ (row u : Row) (a : u.w0 < 2 ^ 64) (b : u.w1 < 2 ^ 64) (c : u.w2 < 2 ^ 64) (d : u.w3 < 2 ^ 64) (table : List ℕ) (s x : ℕ) (e : x ≡ row_in table s) (q : row_of u ≡ bit_or x (row_of row)) where
  united : row_of u ≡ bit_or (row_in table s) (row_of row)
  united = q ∙ ap (λ (y : ℕ). bit_or y (row_of row)) e

  pub united_written : {new : List ℕ} → new ≡ with_row table s (row_of u) → new ≡ with_row table s (bit_or (row_in table s) (row_of row))
  united_written p = p ∙ ap (with_row table s) united

  pub united_small : bit_or (row_in table s) (row_of row) < 2 ^ 256
  united_small = subst (λ (m : ℕ). m < 2 ^ 256) united (value_lt (words u) (are_words u a b c d))

-- ---- a segment
module _ (n total : ℕ) (q : List ℕ) where
  pub row_refused : (rows : List ℕ) {k : ℕ} → refused k ≡ segment_of n total q → refused k ≡ segment_in n total rows q
  unfolding segment_in
  row_refused rows e = rw (← e)

  -- the replica r and the shards m are what it was read to
  module _ (r m : ℕ) (e : accepted (r, m) ≡ segment_of n total q) where
    pub row_below : r < n
    row_below = segment_below n total q (sym e)

    pub row_united : (words : List ℕ) {new : List ℕ} → n * 4 ≤ length words → bit_or (row_in words r) m < 2 ^ 256 → new ≡ with_row words r (bit_or (row_in words r) m)
        → accepted (first_rows n new) ≡ segment_in n total (first_rows n words) q
    unfolding segment_in
    row_united words {new} room small p =
        let at : get_or (first_rows n words) r 0 ≡ row_in words r = each_below_at (row_in words) n r 0 row_below in
        rw (sym e, at) (ap accepted (ap (first_rows n) p ∙ first_rows_set n words r (bit_or (row_in words r) m) room row_below small))

-- ---- runs written one after the other: the first n rows of the words are filled
module _ (n total k : ℕ) where
  abbrev pub Running : List ℕ → ℕ → Type 0
  Running words r = Filled (run_at n total k) n (first_rows n words) r

  pub runs_none : (words : List ℕ) → Running words 0
  runs_none words = filled_none (run_at n total k) n (first_rows n words) (first_rows_length n words)

  run_small : (r : ℕ) → 0 < total → total ≤ most_shards → run_at n total k r < 2 ^ 256
  run_small r z l = lt_of_lt_of_le (ltb-true (run_at n total k r) (2 ^ total) (run_below total (r * share n total) k z)) (pow_mono {i = total} {j = 256} (omega arith))

  pub runs_more : (words : List ℕ) (r : ℕ) {m : ℕ} {new : List ℕ} → 0 < total → total ≤ most_shards → Running words r → n * 4 ≤ length words → r < n → m ≡ run_at n total k r → new ≡ with_row words r m
      → Running new (r + 1)
  runs_more words r {m} z l filled room h e p =
      let small : m < 2 ^ 256 = subst (λ (x : ℕ). x < 2 ^ 256) (sym e) (run_small r z l) in
      subst (λ (rows : List ℕ). Filled (run_at n total k) n rows (r + 1)) (sym (ap (first_rows n) p ∙ first_rows_set n words r m room h small))
      (filled_more (run_at n total k) n (first_rows n words) r filled m h e)

-- ---- segments, read into a table of zeros: o is what was answered of them
pub segments_read : (n total : ℕ) (s : List ℕ) {o : Outcome (List ℕ)} → o ≡ read_each (segment_in n total) (first_rows n (replicate 64 0)) (split 47 s) → segments_of n total s ≡ o
unfolding segments_of
segments_read n total s h = sym (h ∙ ap (λ (rows : List ℕ). read_each (segment_in n total) rows (split 47 s)) (first_rows_none n 64))

-- ---- rows that were read, `o`, for a table that held the words `old`
module _ (n total : ℕ) (old : List ℕ) where
  -- what is answered of them, and the words that are left
  abbrev pub Lands : Outcome (List ℕ) → Outcome (List ℕ) → List ℕ → Type 0
  Lands o says new = (says ≡ in_table n total (length old) o) × (new ≡ left (in_table n total (length old) o) old)

  refuses : (o : Outcome (List ℕ)) {k : ℕ} → refused k ≡ in_table n total (length old) o → Lands o (refused k) old
  refuses o e = (e, rw (← e))

  pub lands_misread : (o : Outcome (List ℕ)) {k : ℕ} → o ≡ refused k → Lands o (refused k) old
  lands_misread o q = refuses o (rw q)

  module _ (o : Outcome (List ℕ)) (rows : List ℕ) (q : o ≡ accepted rows) where
    pub lands_untabled : (e : Refusal) → number_of e ≡ table_refusal n total (length old) → Lands o (refused (number_of e)) old
    lands_untabled e f =
        refuses o (ap (λ (x : Outcome (List ℕ)). and_then x (λ ms. accepted (spelled ms))) (is_refused _ (number_of e) rows f (number_some e)) ∙ sym (ap (in_table n total (length old)) q))

    pub lands_written : {new : List ℕ} → 0 ≡ table_refusal n total (length old) → Words new → length new ≡ length old → first_rows n new ≡ rows → Lands o (accepted new) new
    lands_written {new} f g m v =
        let z : length old ≡ n * 4 = ((tabled n total (length old)).0 (sym f)).1 in
        let room : n * 4 ≤ length new = omega arith in
        let w : new ≡ spelled rows =
        sym (ap spelled (sym v) ∙ first_rows_spell n new g room ∙ ap (λ (k : ℕ). take k new) (sym z ∙ sym m) ∙ take-length new) in
        let a : accepted new ≡ in_table n total (length old) o = ap accepted w ∙ sym (ap (in_table n total (length old)) q ∙ rw (sym f)) in
        (a, rw (← a))

-- the rows of a copy of their words
pub copied_rows : (n total len : ℕ) → 0 ≡ table_refusal n total len → (words new : List ℕ) → new ≡ take len words → first_rows n new ≡ first_rows n words
copied_rows n total len f words new h =
    let z : len ≡ n * 4 = ((tabled n total len).0 (sym f)).1 in
    ap (first_rows n) (h ∙ ap (λ (x : ℕ). take x words) z) ∙ first_rows_take n words

-- ---- a text: what was answered of the length of the runs
module _ (n d total : ℕ) (s : List ℕ) {k : ℕ} where
  layout_runs : accepted k ≡ length_of n d total s → layout_of n d total s ≡ accepted (runs_of n total k)
  unfolding layout_of
  layout_runs l = rw (← l)

  layout_segments : refused k ≡ length_of n d total s → layout_of n d total s ≡ segments_of n total s
  unfolding layout_of
  layout_segments l = rw (← l)

-- ---- the entry, which was lent the words `old`
module _ (n d total : ℕ) (s old : List ℕ) where
  -- what it answers, and the words that it leaves
  abbrev pub Ends : Outcome (List ℕ) → List ℕ → Type 0
  Ends o new = (o ≡ init_table n d total s (length old)) × (new ≡ left (init_table n d total s (length old)) old)

  pub ends_unread : (e : Refusal) → number_of e ≡ input_refusal n d total s → Ends (refused (number_of e)) old
  unfolding init_table init_of
  ends_unread e f =
      let q : refused (number_of e) ≡ init_table n d total s (length old) =
      ap (λ (o : Outcome (List ℕ)). and_then o (λ rows. accepted (spelled rows))) (is_checked _ (number_of e) (and_then (layout_of n d total s) (λ rows. outcome (table_refusal n total (length old)) rows)) f (number_some e)) in
      (q, rw (← q))

  -- the text is read: o is what it is read to
  module _ (z : 0 ≡ input_refusal n d total s) {says : Outcome (List ℕ)} {new : List ℕ} where
    ends_read : {o : Outcome (List ℕ)} → layout_of n d total s ≡ o → Lands n total old o says new → Ends says new
    unfolding init_table init_of
    ends_read q h = rw (sym z, q) h

    pub ends_runs : {k : ℕ} → accepted k ≡ length_of n d total s → Lands n total old (accepted (runs_of n total k)) says new → Ends says new
    ends_runs l h = ends_read (layout_runs n d total s l) h

    pub ends_segments : {k : ℕ} → refused k ≡ length_of n d total s → Lands n total old (segments_of n total s) says new → Ends says new
    ends_segments l h = ends_read (layout_segments n d total s l) h
