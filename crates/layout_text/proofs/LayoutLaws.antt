-- What a layout text that was read gives: the lengths of runs, the answer for a text without a colon, and that the rows are rows. And what the checks let
-- through. Assumes nothing.
use Rattle.std.proofs.Math.Path.{◌≡◌, refl, sym, subst}
use Rattle.std.proofs.Common.{ap, ◌∙◌, inl, inr, ⊎_elim, div-le_self, arith, length-set, length-take-le, get_or-set_same, get_or-set_other, leb-true, le-leb, eqb-true, eq-eqb, ne_eqb}
use Rattle.std.specs.Prelude.{◌↔◌, ◌⊎◌, Bool, true, false, cond, ◌&&◌, ◌||◌, List, [], ◌∷◌, ℕ, zero, suc, ◌*◌, ◌%◌, ◌≤◌, ◌<◌, leb, eqb, length, take, get_or, replicate}
use Rattle.std.proofs.Math.Bool.{and-eq-true_iff}
use Rattle.std.proofs.Math.Decide.{ℕ_discrete, dec_lt}
use Rattle.std.specs.Int.Bits.{bit_or}
use Rattle.std.proofs.Math.ListN.{set, get_or-eq_default}
use Rattle.std.proofs.lemmas.List.{length-replicate, get_or-replicate}
use Rattle.std.proofs.lemmas.Bool.{not-false}
use Rattle.std.specs.List.{list_all}
use Rattle.lists.specs.AllLaws.{all_means}
use Rattle.lists.specs.BelowLaws.{each_below_length, each_below_all}
use Rattle.rows.specs.Row.{rows_in, spelled}
use Rattle.rows.proofs.LowLaws.{spaced, spelled_low}
use Rattle.rows.proofs.TableLaws.{Rows, spelled_length, spelled_rows}
use Rattle.bitmap.specs.WidthLaws.{none_below, or_below, run_below}
use Rattle.refusals.specs.Numbers.{POPULATION, SHARDS, TEXT, LAYOUT, MULTIPLE, TABLE}
use Rattle.refusals.specs.First.{unless}
use Rattle.refusals.specs.FirstLaws.{none_holds}
use Rattle.refusals.specs.Outcome.{Outcome, refused, accepted, checked, outcome, and_then}
use Rattle.refusals.specs.Limits.{most_shards, is_population, is_shards, is_row, are_rows, is_table}
use Rattle.refusals.specs.LimitLaws.{AreRows, rows_small, population_means, shards_means}
use Rattle.numerals.specs.Text.{without, is_text, is_empty, is_byte, cut, has_byte, before, behind, split}
use Rattle.numerals.specs.TextLaws.{Ascii, text_means, cut_le, PartOf, part_head}
use Rattle.numerals.proofs.ReadLaws.{read_keeps, read_refused}
use Rattle.numerals.specs.Whole.{is_digits, whole_of, below_of, members_of}
use Rattle.numerals.proofs.WholeLaws.{below_limit, members_below}
use Rattle.layout_text.specs.LayoutText.{share, run_at, runs_of, length_of, segment_of, segment_in, segments_of, or_segments, layout_of, most_bytes, input_refusal, table_refusal, init_of, init_table}

-- ---- runs

-- the text is empty, and k is the share, or it is the number k, from the share to d
abbrev pub Fitting : ℕ → ℕ → ℕ → List ℕ → ℕ → Type 0
Fitting n d total s k = ((length s ≡ 0) × (share n total ≡ k)) ⊎ ((whole_of s ≡ accepted k) × (share n total ≤ k) × (k ≤ d))

fitting : (n d total : ℕ) (s : List ℕ) {k : ℕ} → length_of n d total s ≡ accepted k → Fitting n d total s k
unfolding length_of
fitting n d total s {k} e = go (is_empty s) refl (whole_of s) refl e
  where
    pick : (v : ℕ) → whole_of s ≡ accepted v → (t : Bool) → (leb (share n total) v && leb v d) ≡ t
        → cond t (accepted v) (refused LAYOUT) ≡ accepted k → Fitting n d total s k
    pick v w true q e =
        let z : v ≡ k = cc in
        let b = (and-eq-true_iff (leb (share n total) v) (leb v d)).0 q in
        inr (w ∙ ap accepted z, omega (arith, leb-true (share n total) v b.0), omega (arith, leb-true v d b.1))
    pick v w false q e = let z : ◌≡◌ {A = ℕ} 0 1 = cc in absurd (omega arith)

    go : (b : Bool) → is_empty s ≡ b → (o : Outcome ℕ) → whole_of s ≡ o
        → cond b (accepted (share n total)) (and_then o (λ v. cond (leb (share n total) v && leb v d) (accepted v) (refused LAYOUT))) ≡ accepted k
        → Fitting n d total s k
    go true q o w e = let z : share n total ≡ k = cc in inl (eqb-true (length s) 0 q, z)
    go false q (refused x) w e = let z : ◌≡◌ {A = ℕ} 0 1 = cc in absurd (omega arith)
    go false q (accepted v) w e = pick v w (leb (share n total) v && leb v d) refl e

empty_unread : (k : ℕ) → whole_of [] ≡ accepted k → ⊥
unfolding whole_of is_digits without
empty_unread k e = let z : ◌≡◌ {A = ℕ} 0 1 = cc in absurd (omega arith)

given : (n d total : ℕ) (s : List ℕ) (k : ℕ) → Fitting n d total s k → length_of n d total s ≡ accepted k
unfolding length_of
given n d total s k (inl h) = rw (eq-eqb (length s) 0 h.0) (ap accepted h.1)
given n d total [] k (inr h) = absurd (empty_unread k h.0)
given n d total (b ∷ bs) k (inr h) = rw (ne_eqb (suc (length bs)) 0 (λ e. omega arith), h.0, le-leb (share n total) k h.1, le-leb k d h.2)

-- the text gives the length k exactly then
pub length_means : (n d total : ℕ) (s : List ℕ) (k : ℕ) → (length_of n d total s ≡ accepted k) ↔ Fitting n d total s k
length_means n d total s k = (λ e. fitting n d total s e, given n d total s k)

-- so it is at most the total
pub length_le : (n d total : ℕ) (s : List ℕ) {k : ℕ} → d ≤ total → length_of n d total s ≡ accepted k → k ≤ total
length_le n d total s h e = ⊎_elim (λ q. omega (arith, q.1, div-le_self total n)) (λ q. omega (arith, q.2)) (fitting n d total s e)

-- ---- segments

abbrev replica : Outcome (ℕ × ℕ) → ℕ
replica (refused k) = 0
replica (accepted x) = x.0

abbrev mask : Outcome (ℕ × ℕ) → ℕ
mask (refused k) = 0
mask (accepted x) = x.1

-- the replica that a segment names is one of n
pub segment_below : (n total : ℕ) (s : List ℕ) {r m : ℕ} → segment_of n total s ≡ accepted (r, m) → r < n
unfolding segment_of
segment_below n total s {r} {m} e = go (has_byte 58 s) (below_of n (before 58 s)) (members_of false total (behind 58 s)) (λ v h. below_limit n (before 58 s) h) e
  where
    go : (b : Bool) (o o' : Outcome ℕ) → ((v : ℕ) → o ≡ accepted v → v < n)
        → cond b (and_then {B = ℕ × ℕ} o (λ r. and_then {B = ℕ × ℕ} o' (λ m. accepted (r, m)))) (refused LAYOUT) ≡ accepted (r, m) → r < n
    go false o o' h e = let z : ◌≡◌ {A = ℕ} 0 1 = cc in absurd (omega arith)
    go true (refused k) o' h e = let z : ◌≡◌ {A = ℕ} 0 1 = cc in absurd (omega arith)
    go true (accepted v) (refused k) h e = let z : ◌≡◌ {A = ℕ} 0 1 = cc in absurd (omega arith)
    go true (accepted v) (accepted u) h e = let z : v ≡ r = ap replica e in omega (arith, h v refl)

-- the shards that it names are below the total
pub segment_row : (n total : ℕ) (s : List ℕ) {r m : ℕ} → segment_of n total s ≡ accepted (r, m) → is_row total m ≡ true
unfolding segment_of
segment_row n total s {r} {m} e =
    go (has_byte 58 s) (below_of n (before 58 s)) (members_of false total (behind 58 s)) (λ u h. members_below false total (behind 58 s) h) e
  where
    go : (b : Bool) (o o' : Outcome ℕ) → ((u : ℕ) → o' ≡ accepted u → is_row total u ≡ true)
        → cond b (and_then {B = ℕ × ℕ} o (λ r. and_then {B = ℕ × ℕ} o' (λ m. accepted (r, m)))) (refused LAYOUT) ≡ accepted (r, m) → is_row total m ≡ true
    go false o o' h e = let z : ◌≡◌ {A = ℕ} 0 1 = cc in absurd (omega arith)
    go true (refused k) o' h e = let z : ◌≡◌ {A = ℕ} 0 1 = cc in absurd (omega arith)
    go true (accepted v) (refused k) h e = let z : ◌≡◌ {A = ℕ} 0 1 = cc in absurd (omega arith)
    go true (accepted v) (accepted u) h e = ap (is_row total) (sym (ap mask e)) ∙ h u refl

-- ---- a text without a colon

-- what begins a text without the byte x is without it
none_in : (x k : ℕ) (s : List ℕ) → has_byte x s ≡ false → has_byte x (take k s) ≡ false
none_in x zero s h = refl
none_in x (suc k) [] h = refl
none_in x (suc k) (b ∷ bs) h = go (eqb b x) h (none_in x k bs)
  where
    go : (t : Bool) → (t || has_byte x bs) ≡ false → (has_byte x bs ≡ false → has_byte x (take k bs) ≡ false) → (t || has_byte x (take k bs)) ≡ false
    go true q ih = q
    go false q ih = ih q

-- the bytes before the first x are the first part
first_part : (x : ℕ) (s : List ℕ) → PartOf s 0 x (before x s)
first_part x s = record { part_is = refl; inside = omega (arith, length-take-le (cut x s) s (cut_le (is_byte x) s), cut_le (is_byte x) s) }

module _ (n total : ℕ) (s : List ℕ) (h : has_byte 58 s ≡ false) where
  first_refused : (rows : List ℕ) → segment_in n total rows (before 47 s) ≡ refused LAYOUT
  unfolding segment_in segment_of
  first_refused rows = rw (none_in 58 (cut 47 s) s h)

  no_segments : segments_of n total s ≡ refused LAYOUT
  unfolding segments_of
  no_segments = sym (read_refused (segment_in n total) (replicate n 0) refl (part_head (first_part 47 s)) (first_refused (replicate n 0)))

-- runs where there is a length, and otherwise 13
abbrev pub runs_only : ℕ → ℕ → Outcome ℕ → Outcome (List ℕ)
runs_only n total (accepted k) = accepted (runs_of n total k)
runs_only n total (refused k) = refused LAYOUT

-- that is the answer for a text without a colon
pub no_colon : (n d total : ℕ) (s : List ℕ) → has_byte 58 s ≡ false → layout_of n d total s ≡ runs_only n total (length_of n d total s)
unfolding layout_of
no_colon n d total s h = go (length_of n d total s)
  where
    go : (o : Outcome ℕ) → or_segments n total s o ≡ runs_only n total o
    go (accepted k) = refl
    go (refused k) = no_segments n total s h

-- so no other number refuses it
pub no_colon_refused : (n d total : ℕ) (s : List ℕ) {k : ℕ} → has_byte 58 s ≡ false → layout_of n d total s ≡ refused k → k ≡ LAYOUT
no_colon_refused n d total s {k} h e = go (length_of n d total s) (sym (no_colon n d total s h) ∙ e)
  where
    go : (o : Outcome ℕ) → runs_only n total o ≡ refused k → k ≡ LAYOUT
    go (accepted j) e = let z : ◌≡◌ {A = ℕ} 0 1 = cc in absurd (omega arith)
    go (refused j) e = cc

-- ---- the rows of a text that was read: one for each replica, of shards below the total
module _ (n total : ℕ) where
  pub runs_are_rows : (k : ℕ) → 0 < total → AreRows n total (runs_of n total k)
  runs_are_rows k p = (
    each_below_length (run_at n total k) n,
    each_below_all (run_at n total k) (is_row total) 0 n (λ r h. run_below total (r * share n total) k p),
  )

  none_are_rows : AreRows n total (replicate n 0)
  none_are_rows = (
    length-replicate n 0,
    (all_means (is_row total) 0 (replicate n 0)).1 (λ i h.
        ap (is_row total) (get_or-replicate n i 0 0 (omega (arith, length-replicate {A = ℕ} n 0))) ∙ none_below total),
  )

  -- one more row
  module _ (rows : List ℕ) (h : AreRows n total rows) where
    at : (i : ℕ) → is_row total (get_or rows i 0) ≡ true
    at i = go (dec_lt i (length rows))
      where
        go : Dec (i < length rows) → is_row total (get_or rows i 0) ≡ true
        go (yes l) = (all_means (is_row total) 0 rows).0 h.1 i l
        go (no l) = ap (is_row total) (get_or-eq_default rows 0 {n = i} (omega arith)) ∙ none_below total

    set_are_rows : (r m : ℕ) → is_row total m ≡ true → AreRows n total (set rows r (bit_or (get_or rows r 0) m))
    set_are_rows r m g = (
      length-set rows r (bit_or (get_or rows r 0) m) ∙ h.0,
      (all_means (is_row total) 0 (set rows r (bit_or (get_or rows r 0) m))).1 (λ i l.
          go i (ℕ_discrete i r) (omega (arith, length-set rows r (bit_or (get_or rows r 0) m)))),
    )
      where
        go : (i : ℕ) → Dec (i ≡ r) → i < length rows → is_row total (get_or (set rows r (bit_or (get_or rows r 0) m)) i 0) ≡ true
        go i (yes q) l =
            ap (λ (k : ℕ). is_row total (get_or (set rows r (bit_or (get_or rows r 0) m)) k 0)) q
            ∙ ap (is_row total) (get_or-set_same rows r (bit_or (get_or rows r 0) m) 0 (omega arith)) ∙ or_below total (get_or rows r 0) m (at r) g
        go i (no q) l = ap (is_row total) (get_or-set_other rows r i (bit_or (get_or rows r 0) m) 0 q) ∙ at i

  segment_keeps : (rows new : List ℕ) (s : List ℕ) → AreRows n total rows → segment_in n total rows s ≡ accepted new → AreRows n total new
  unfolding segment_in
  segment_keeps rows new s h e = go (segment_of n total s) (λ r m q. segment_row n total s q) e
    where
      go : (o : Outcome (ℕ × ℕ)) → ((r m : ℕ) → o ≡ accepted (r, m) → is_row total m ≡ true)
          → and_then o (λ x. accepted (set rows x.0 (bit_or (get_or rows x.0 0) x.1))) ≡ accepted new → AreRows n total new
      go (refused k) u e = let z : ◌≡◌ {A = ℕ} 0 1 = cc in absurd (omega arith)
      go (accepted x) u e =
          let z : set rows x.0 (bit_or (get_or rows x.0 0) x.1) ≡ new = cc in
          subst (AreRows n total) z (set_are_rows rows h x.0 x.1 (u x.0 x.1 refl))

  pub segments_are_rows : (s : List ℕ) {rows : List ℕ} → segments_of n total s ≡ accepted rows → AreRows n total rows
  unfolding segments_of
  segments_are_rows s e = read_keeps (AreRows n total) (segment_in n total) (λ a b p. segment_keeps a b p) (replicate n 0) (split 47 s) none_are_rows e

  pub layout_are_rows : (d : ℕ) (s : List ℕ) {rows : List ℕ} → 0 < total → layout_of n d total s ≡ accepted rows → AreRows n total rows
  unfolding layout_of
  layout_are_rows d s {rows} p e = go (length_of n d total s) e
    where
      go : (o : Outcome ℕ) → or_segments n total s o ≡ accepted rows → AreRows n total rows
      go (accepted k) e = let z : runs_of n total k ≡ rows = cc in subst (AreRows n total) z (runs_are_rows k p)
      go (refused k) e = segments_are_rows s e

-- ---- what the checks let through
module _ (n d total : ℕ) (s : List ℕ) where
  pub record Readable : Type 0 where
    pub population : (1 ≤ n) × (n ≤ 16)
    pub shards : (1 ≤ d) × (d ≤ total) × (total ≤ most_shards)
    pub text : Ascii 16384 s

  pub readable : (input_refusal n d total s ≡ 0) ↔ Readable
  unfolding input_refusal
  readable = (
    λ e.
        let h = (none_holds (unless (is_population n) POPULATION ∷ unless (is_shards d total) SHARDS ∷ unless (is_text most_bytes s) TEXT ∷ []) refl).0 e in
        record {
          population = (population_means n).0 (not-false _ h.0);
          shards = (shards_means d total).0 (not-false _ h.1.0);
          text = (text_means 16384 s).0 (not-false _ h.1.1.0);
        },
    λ r. simp ((population_means n).1 r.population, (shards_means d total).1 r.shards, (text_means 16384 s).1 r.text),
  )

-- a total of as many shards for each, and a table of n rows
pub tabled : (n total len : ℕ) → (table_refusal n total len ≡ 0) ↔ ((total % n ≡ 0) × (len ≡ n * 4))
unfolding table_refusal
tabled n total len = (
  λ e.
      let h = (none_holds (unless (eqb (total % n) 0) MULTIPLE ∷ unless (is_table n len) TABLE ∷ []) refl).0 e in
      (eqb-true (total % n) 0 (not-false _ h.0), eqb-true len (n * 4) (not-false _ h.1.0)),
  λ h. simp (eq-eqb (total % n) 0 h.0, eq-eqb len (n * 4) h.1),
)

-- ---- the entry

-- an accepted text passed every check, and gives what it is read to
pub init_accepted : (n d total : ℕ) (s : List ℕ) (len : ℕ) {rows : List ℕ} → init_of n d total s len ≡ accepted rows
    → (input_refusal n d total s ≡ 0) × (layout_of n d total s ≡ accepted rows) × (table_refusal n total len ≡ 0)
unfolding init_of
init_accepted n d total s len {rows} e = go (input_refusal n d total s) (layout_of n d total s) (table_refusal n total len) e
  where
    go : (k : ℕ) (o : Outcome (List ℕ)) (j : ℕ) → checked k (and_then o (λ rows. outcome j rows)) ≡ accepted rows → (k ≡ 0) × (o ≡ accepted rows) × (j ≡ 0)
    go zero (accepted r) zero e = (refl, e, refl)
    go zero (accepted r) (suc j) e = let z : ◌≡◌ {A = ℕ} 0 1 = cc in absurd (omega arith)
    go zero (refused x) j e = let z : ◌≡◌ {A = ℕ} 0 1 = cc in absurd (omega arith)
    go (suc k) o j e = let z : ◌≡◌ {A = ℕ} 0 1 = cc in absurd (omega arith)

-- so what it is read to are the rows of n replicas, and there is a table for them
pub init_are_rows : (n d total : ℕ) (s : List ℕ) (len : ℕ) {rows : List ℕ} → init_of n d total s len ≡ accepted rows → AreRows n total rows × (len ≡ n * 4)
init_are_rows n d total s len e =
    let a = init_accepted n d total s len e in
    let r = (readable n d total s).0 a.0 in
    (layout_are_rows n total d s (omega (arith, r.shards)) a.1, ((tabled n total len).0 a.2).1)

-- and each has room in four words
init_rows_small : (n d total : ℕ) (s : List ℕ) (len : ℕ) {rows : List ℕ} → init_of n d total s len ≡ accepted rows → Rows rows
init_rows_small n d total s len {rows} e =
    rows_small n total rows (init_are_rows n d total s len e).0 ((readable n d total s).0 (init_accepted n d total s len e).0).shards.2

-- so the table that it leaves holds these rows, and passes as a table of n rows of shards below the total
pub record Tabled (n d total : ℕ) (s : List ℕ) (len : ℕ) (words : List ℕ) : Type 0 where
  pub read : init_of n d total s len ≡ accepted (rows_in words)
  pub below : are_rows total words ≡ true
  pub table : is_table n (length words) ≡ true
  pub filled : length words ≡ len

pub table_holds : (n d total : ℕ) (s : List ℕ) (len : ℕ) {words : List ℕ} → init_table n d total s len ≡ accepted words → Tabled n d total s len words
unfolding init_table
table_holds n d total s len {words} e = go (init_of n d total s len) refl e
  where
    go : (o : Outcome (List ℕ)) → init_of n d total s len ≡ o → and_then o (λ rows. accepted (spelled rows)) ≡ accepted words → Tabled n d total s len words
    go (refused k) t e = let z : ◌≡◌ {A = ℕ} 0 1 = cc in absurd (omega arith)
    go (accepted rows) t e =
        let z : spelled rows ≡ words = cc in
        let r = init_are_rows n d total s len t in
        let q : rows_in words ≡ rows = ap rows_in (sym z) ∙ spelled_rows rows (init_rows_small n d total s len t) in
        let l : length words ≡ n * 4 = ap length (sym z) ∙ spelled_length rows ∙ ap (λ (k : ℕ). k * 4) r.0.0 in
        record {
          read = t ∙ ap accepted (sym q);
          below = ap (list_all (is_row total)) q ∙ r.0.1;
          table = eq-eqb (length words) (n * 4) l;
          filled = l ∙ sym r.1;
        }

-- where the total is at most 64 each row is its first word, as in a table of one word a row
pub table_narrow : (n d total : ℕ) (s : List ℕ) (len : ℕ) {rows : List ℕ} → total ≤ 64 → init_of n d total s len ≡ accepted rows → init_table n d total s len ≡ accepted (spaced rows)
unfolding init_table
table_narrow n d total s len {rows} l e = rw e (ap accepted (spelled_low total rows l (init_are_rows n d total s len e).0.1))
