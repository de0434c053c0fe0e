-- What a layout is: its width is one for the data shards and within its bound; its rows are rows of that width, one for each load, each with as many
-- different shards as its load, and apart where the width has room; and what it means that it commits. Assumes nothing.
use Rattle.std.specs.Prelude.{◌≡◌, ◌↔◌, Bool, List, [], ◌∷◌, ◌++◌, length, take}
use Rattle.std.proofs.Math.Path.{refl, ap}
use Rattle.std.proofs.Common.{sym, ap₂, ◌∙◌, le_refl, mod-eq_of_lt, arith, length-append, take-suc, get_or-append-add}
use Rattle.std.proofs.Math.Bool.{true, false, cond}
use Prim.Native.Nat.{ℕ, suc, ◌+◌, ◌*◌, ◌%◌, ◌^◌, ◌≤◌, ◌<◌, min, max}
use Rattle.std.proofs.Math.Decide.{dec_lt, le_ind}
use Rattle.std.proofs.Math.Dec.{ltb}
use Rattle.std.proofs.Math.ListN.{get_or, get_or-append}
use Rattle.std.proofs.Math.Pow.{pow_mono, ones_lt}
use Rattle.std.proofs.Math.Seq.{take-length, take-append-add}
use Rattle.std.proofs.lemmas.List.{take-append-le}
use borrow.Author.Tests.{ltb-true, ltb-false, lt-ltb, le-ltb, eq-eqb, ne_eqb}
use Rattle.std.specs.List.{list_all}
use Rattle.lists.specs.AllLaws.{all_means}
use Rattle.lists.specs.BelowLaws.{each_below_length, each_below_at, each_below_all}
use Rattle.bitmap.specs.Mask.{bit, count, run, run_modulo, nth_row}
use Rattle.bitmap.specs.Members.{Many}
use Rattle.bitmap.specs.RunLaws.{Among, run_all, gather_means}
use Rattle.bitmap.specs.WidthLaws.{run_below}
use Rattle.bitmap.specs.RunCounts.{run_count, run_modulo_count}
use Rattle.rows.specs.Row.{spelled, row_in, rows_in}
use Rattle.rows.proofs.TableLaws.{Rows, spelled_row, spelled_rows, row_below as table_row_below}
use Rattle.refusals.specs.Outcome.{accepted}
use Rattle.refusals.specs.OutcomeLaws.{accepted_means}
use Rattle.refusals.specs.Limits.{is_row}
use Rattle.refusals.specs.LimitLaws.{rows_small as table_small}
use Rattle.coverage.specs.Coverage.{RowsBelow, commits}
use Rattle.coverage.proofs.CoverageLaws.{Survives, commits_means}
use Rattle.layout.specs.declared.TotalShards.{TotalShards}
use Rattle.layout.specs.declared.TotalShards.TheVariants.{Exactly, AtMost}
use Rattle.layout.specs.Layout.{Fit, bound, dealt, partial, width_for, width_of, row_for, row_at, rows_of, layout_commits, heard_load, heard_loads, rows_refusal, layout_rows_of, rows_written, commits_refusal, layout_commits_of, trial_written}

-- ---- what is dealt

-- all of a load below d, and nothing of a full one
dealt_below : (d k : ℕ) → k < d → dealt d k ≡ k
dealt_below d k h = rw (lt-ltb k d h)

dealt_full : (d k : ℕ) → d ≤ k → dealt d k ≡ 0
dealt_full d k h = rw (le-ltb k d h)

dealt_le : (d k : ℕ) → dealt d k ≤ d
dealt_le d k = go (dec_lt k d)
  where
    go : Dec (k < d) → dealt d k ≤ d
    go (yes h) = omega (arith, dealt_below d k h)
    go (no h) = omega (arith, dealt_full d k (omega arith))

-- with one load more
pub partial_more : (d : ℕ) (ks : List ℕ) (k : ℕ) → partial d (ks ++ (k ∷ [])) ≡ partial d ks + dealt d k
partial_more d [] k = omega arith
partial_more d (j ∷ js) k = omega (arith, partial_more d js k)

-- up to the replica s, and with it
pub partial_upto : (d : ℕ) (loads : List ℕ) (s : ℕ) → s < length loads → partial d (take (suc s) loads) ≡ partial d (take s loads) + dealt d (get_or loads s 0)
partial_upto d loads s l = ap (partial d) (take-suc loads s 0 l) ∙ partial_more d (take s loads) (get_or loads s 0)

partial_mono : (d : ℕ) (loads : List ℕ) (i j : ℕ) → i ≤ j → j ≤ length loads → partial d (take i loads) ≤ partial d (take j loads)
partial_mono d loads i j h =
    le_ind (λ (m : ℕ). m ≤ length loads → partial d (take i loads) ≤ partial d (take m loads)) (λ l. le_refl (partial d (take i loads)))
    (λ m g ih l. omega (arith, ih (omega arith), partial_upto d loads m (omega arith))) j h

pub partial_le : (d b : ℕ) (ks : List ℕ) → d ≤ b → partial d ks ≤ b * length ks
partial_le d b [] h = omega arith
partial_le d b (k ∷ ks) h = omega (arith, partial_le d b ks h, dealt_le d k)

-- a full load does not move the offset
pub partial_full : (d : ℕ) (ks : List ℕ) (k : ℕ) → d ≤ k → partial d (ks ++ (k ∷ [])) ≡ partial d ks
partial_full d ks k h = omega (arith, partial_more d ks k, dealt_full d k h)

module _ (d : ℕ) (loads : List ℕ) (s : ℕ) (known : s < length loads) where
  -- after a replica with a full load the offset is what it was
  pub offset_full : d ≤ get_or loads s 0 → partial d (take (suc s) loads) ≡ partial d (take s loads)
  offset_full h = omega (arith, partial_upto d loads s known, dealt_full d (get_or loads s 0) h)

  -- and after one with a load below d it is that load further on
  pub offset_below : get_or loads s 0 < d → partial d (take (suc s) loads) ≡ partial d (take s loads) + get_or loads s 0
  offset_below h = omega (arith, partial_upto d loads s known, dealt_below d (get_or loads s 0) h)

-- so a full load may be left out
pub partial_without : (d : ℕ) (us vs : List ℕ) (k : ℕ) → d ≤ k → partial d (us ++ (k ∷ vs)) ≡ partial d (us ++ vs)
partial_without d [] vs k h = omega (arith, dealt_full d k h)
partial_without d (u ∷ us) vs k h = ap (λ (m : ℕ). dealt d u + m) (partial_without d us vs k h)

-- ---- the width

-- an exact width is used as given
pub width_exactly : (d w : ℕ) (loads : List ℕ) → width_of d (Exactly w) loads ≡ w
unfolding width_of
width_exactly d w loads = refl

-- under a ceiling it is as wide as what is dealt, and as d, asks
pub width_at_most : (d w : ℕ) (loads : List ℕ) → width_of d (AtMost w) loads ≡ min (max (partial d loads) d) w
unfolding width_of
width_at_most d w loads = refl

module _ (d : ℕ) (total : TotalShards) (loads : List ℕ) where
  -- at most its bound
  pub width_le : width_of d total loads ≤ bound total
  width_le = go total
    where
      go : (total : TotalShards) → width_of d total loads ≤ bound total
      go (Exactly w) = omega (arith, width_exactly d w loads)
      go (AtMost w) = omega (arith, width_at_most d w loads)

  -- and one for the data shards, where the bound is
  pub width_fits : Fit d (bound total) → Fit d (width_of d total loads)
  width_fits h = (h.0, go total h.1, omega (arith, width_le))
    where
      go : (total : TotalShards) → d ≤ bound total → d ≤ width_of d total loads
      go (Exactly w) l = omega (arith, width_exactly d w loads)
      go (AtMost w) l = omega (arith, width_at_most d w loads)

-- ---- a row

-- that of a full load is the shards 0 to d - 1
row_full : (d w offset k : ℕ) → d ≤ k → row_for d w offset k ≡ run 0 d
unfolding row_for
row_full d w offset k h = rw (le-ltb k d h)

module _ (d w offset k : ℕ) (h : Fit d w) where
  -- of shards below the width
  row_below : is_row w (row_for d w offset k) ≡ true
  unfolding row_for
  row_below = go (ltb k d)
    where
      go : (b : Bool) → is_row w (cond b (run_modulo w offset k) (run 0 d)) ≡ true
      go true = run_below w offset k (omega arith)
      go false = lt-ltb (run 0 d) (2 ^ w) (rw run_all (omega (arith, ones_lt d, pow_mono h.1)))

  -- it has k different shards, and d where k is more
  pub row_count : count (row_for d w offset k) ≡ min k d
  unfolding row_for
  row_count = go (ltb k d) refl
    where
      go : (b : Bool) → ltb k d ≡ b → count (cond b (run_modulo w offset k) (run 0 d)) ≡ min k d
      go true q = let l = ltb-true k d q in omega (arith, run_modulo_count w offset k (omega arith))
      go false q = omega (arith, ltb-false k d q, run_count 0 d)

-- ---- the rows
module _ (d : ℕ) (total : TotalShards) (loads : List ℕ) where
  -- one for each load
  pub rows_length : length (rows_of d total loads) ≡ length loads
  unfolding rows_of
  rows_length = each_below_length (row_at d (width_of d total loads) loads) (length loads)

  pub row_at_is : (s : ℕ) → s < length loads → nth_row (rows_of d total loads) s ≡ row_at d (width_of d total loads) loads s
  unfolding rows_of
  row_at_is s l = each_below_at (row_at d (width_of d total loads) loads) (length loads) s 0 l

  -- that of a full load is the shards 0 to d - 1
  pub rows_full : (s : ℕ) → s < length loads → d ≤ get_or loads s 0 → nth_row (rows_of d total loads) s ≡ run 0 d
  rows_full s l h = row_at_is s l ∙ row_full d (width_of d total loads) (partial d (take s loads)) (get_or loads s 0) h

  -- that of another load is so many shards from what was dealt before it on, modulo the width
  pub rows_dealt : (s : ℕ) → s < length loads → get_or loads s 0 < d → (x : ℕ)
      → (bit (nth_row (rows_of d total loads) s) x ≡ 1)
      ↔ Among (λ (i : ℕ). (partial d (take s loads) + i) % width_of d total loads) (get_or loads s 0) x
  unfolding row_for
  rows_dealt s l h x =
      let w = width_of d total loads in
      let k = get_or loads s 0 in
      let e : nth_row (rows_of d total loads) s ≡ run_modulo w (partial d (take s loads)) k =
      row_at_is s l ∙ ap (λ (b : Bool). cond b (run_modulo w (partial d (take s loads)) k) (run 0 d)) (lt-ltb k d h) in
      let m = gather_means (λ (i : ℕ). (partial d (take s loads) + i) % w) x k in
      (λ t. m.0 (ap (λ (r : ℕ). bit r x) (sym e) ∙ t), λ t. ap (λ (r : ℕ). bit r x) e ∙ m.1 t)

  module _ (h : Fit d (bound total)) where
    -- of shards below the width: with `rows_length`, they pass the checks of `covers` for 16 and 17
    pub rows_below : list_all (is_row (width_of d total loads)) (rows_of d total loads) ≡ true
    unfolding rows_of
    rows_below =
        let w = width_of d total loads in
        each_below_all (row_at d w loads) (is_row w) 0 (length loads)
        (λ s l. row_below d w (partial d (take s loads)) (get_or loads s 0) (width_fits d total loads h))

    -- a replica has as many different shards as its load, and d where that is more
    pub rows_count : (s : ℕ) → s < length loads → count (nth_row (rows_of d total loads) s) ≡ min (get_or loads s 0) d
    rows_count s l =
        ap count (row_at_is s l) ∙ row_count d (width_of d total loads) (partial d (take s loads)) (get_or loads s 0) (width_fits d total loads h)

    -- and so each has room in four words
    pub rows_small : Rows (rows_of d total loads)
    rows_small =
        table_small (length loads) (width_of d total loads) (rows_of d total loads) (rows_length, rows_below) (width_fits d total loads h).2

    -- in the table that is spelled from them no shard is at or above the width
    pub spelled_below : (n : ℕ) → RowsBelow n (width_of d total loads) (row_in (spelled (rows_of d total loads)))
    spelled_below n s l =
        table_row_below (width_of d total loads) (spelled (rows_of d total loads))
        ((all_means (is_row (width_of d total loads)) 0 (rows_in (spelled (rows_of d total loads)))).0
        (ap (list_all (is_row (width_of d total loads))) (spelled_rows (rows_of d total loads) rows_small) ∙ rows_below)) s

    -- and it commits as they do
    pub spelled_commits : (n quorum answered : ℕ) (faults : List ℕ)
        → commits n quorum d answered (row_in (spelled (rows_of d total loads))) faults ≡ layout_commits n quorum d total answered faults loads
    unfolding layout_commits
    spelled_commits n quorum answered faults i = commits n quorum d answered (λ (s : ℕ). spelled_row (rows_of d total loads) rows_small s i) faults

-- ---- without a replica that has a full load the width and the rows of all others are the same
module _ (d : ℕ) (total : TotalShards) (us vs : List ℕ) (k : ℕ) (full : d ≤ k) where
  pub width_without : width_of d total (us ++ (k ∷ vs)) ≡ width_of d total (us ++ vs)
  unfolding width_of
  width_without = ap (width_for d total) (partial_without d us vs k full)

  -- the rows of those before it
  pub rows_before : (s : ℕ) → s < length us → nth_row (rows_of d total (us ++ (k ∷ vs))) s ≡ nth_row (rows_of d total (us ++ vs)) s
  rows_before s l =
      let h : s ≤ length us = omega arith in
      rw (
        row_at_is d total (us ++ (k ∷ vs)) s (omega (arith, length-append us (k ∷ vs))),
        row_at_is d total (us ++ vs) s (omega (arith, length-append us vs)),
        width_without,
        take-append-le s us (k ∷ vs) h,
        take-append-le s us vs h,
        get_or-append us (k ∷ vs) 0 s l,
        get_or-append us vs 0 s l,
      )

  -- and of those after it
  pub rows_after : (i : ℕ) → i < length vs
      → nth_row (rows_of d total (us ++ (k ∷ vs))) (length us + suc i) ≡ nth_row (rows_of d total (us ++ vs)) (length us + i)
  rows_after i l =
      rw (
        row_at_is d total (us ++ (k ∷ vs)) (length us + suc i) (omega (arith, length-append us (k ∷ vs))),
        row_at_is d total (us ++ vs) (length us + i) (omega (arith, length-append us vs)),
        width_without,
        take-append-add us (k ∷ vs) (suc i),
        take-append-add us vs i,
        get_or-append-add us (k ∷ vs) (suc i) 0,
        get_or-append-add us vs i 0,
        partial_without d us (take i vs) k full,
      )

-- ---- shards that are dealt: where they fit the width, no two rows of loads below d share one

-- of a row that does not wrap round
dealt_from : (d w offset k s : ℕ) → k < d → offset + k ≤ w → bit (row_for d w offset k) s ≡ 1 → (offset ≤ s) × (s < offset + k)
unfolding row_for
dealt_from d w offset k s h l e =
    let a = (gather_means (λ (i : ℕ). (offset + i) % w) s k).0 (rw (lt-ltb k d h) at e) in
    let m : (offset + a.place) % w ≡ offset + a.place = mod-eq_of_lt (omega (arith, a.inside)) in
    (omega (arith, a.here), omega (arith, a.here, a.inside))

pub rows_apart : (d : ℕ) (total : TotalShards) (loads : List ℕ) → partial d loads ≤ width_of d total loads
    → (i j s : ℕ) → i < j → j < length loads → get_or loads i 0 < d → get_or loads j 0 < d
    → bit (nth_row (rows_of d total loads) i) s ≡ 1 → bit (nth_row (rows_of d total loads) j) s ≡ 1 → ⊥
rows_apart d total loads fits i j s h l p q e f =
    let w = width_of d total loads in
    let whole : partial d (take (length loads) loads) ≤ w = rw take-length fits in
    let a = partial_upto d loads i (omega arith) in
    let b = partial_upto d loads j l in
    let x = partial_mono d loads (suc i) j h (omega arith) in
    let y = partial_mono d loads (suc j) (length loads) l (le_refl (length loads)) in
    let k = dealt_below d (get_or loads i 0) p in
    let m = dealt_below d (get_or loads j 0) q in
    let u = dealt_from d w (partial d (take i loads)) (get_or loads i 0) s p (omega arith) (ap (λ (r : ℕ). bit r s) (sym (row_at_is d total loads i (omega arith))) ∙ e) in
    let v = dealt_from d w (partial d (take j loads)) (get_or loads j 0) s q (omega arith) (ap (λ (r : ℕ). bit r s) (sym (row_at_is d total loads j l)) ∙ f) in
    omega arith

-- ---- the loads of those that answer
module _ (answered : ℕ) (loads : List ℕ) where
  pub heard_length : length (heard_loads answered loads) ≡ length loads
  unfolding heard_loads
  heard_length = each_below_length (heard_load answered loads) (length loads)

  pub heard_at : (s : ℕ) → s < length loads → get_or (heard_loads answered loads) s 0 ≡ heard_load answered loads s
  unfolding heard_loads
  heard_at s l = each_below_at (heard_load answered loads) (length loads) s 0 l

  -- that of one that answers is as given, and that of one that does not is 0
  module _ (s : ℕ) (known : s < length loads) where
    pub heard_given : bit answered s ≡ 1 → get_or (heard_loads answered loads) s 0 ≡ get_or loads s 0
    heard_given e = heard_at s known ∙ rw (eq-eqb (bit answered s) 1 e)

    pub heard_silent : bit answered s ≡ 0 → get_or (heard_loads answered loads) s 0 ≡ 0
    heard_silent e = heard_at s known ∙ rw (ne_eqb (bit answered s) 1 (omega arith))

-- ---- the entries

-- `layout_rows` answers w exactly if nothing refuses, and w is the width
pub layout_rows_means : (n d : ℕ) (total : TotalShards) (loads : List ℕ) (rows w : ℕ)
    → (layout_rows_of n d total loads rows ≡ accepted w) ↔ ((rows_refusal n d total (length loads) rows ≡ 0) × (width_of d total loads ≡ w))
unfolding layout_rows_of
layout_rows_means n d total loads rows w = accepted_means (rows_refusal n d total (length loads) rows) (width_of d total loads) w

-- and its table then holds the rows, four words a row
pub rows_written_are : (n d : ℕ) (total : TotalShards) (loads rows : List ℕ) → rows_refusal n d total (length loads) (length rows) ≡ 0
    → rows_written n d total loads rows ≡ spelled (rows_of d total loads)
unfolding rows_written
rows_written_are n d total loads rows e = rw e

-- `layout_commits` answers w and yes exactly if nothing refuses, w is the width, a quorum of different replicas answer, and without any one listed set there
-- are d different shards, each in the row of one that answers outside it
pub layout_commits_means : (n quorum d : ℕ) (total : TotalShards) (answered : ℕ) (loads faults : List ℕ) (rows w : ℕ)
    → (layout_commits_of n quorum d total answered loads faults rows ≡ accepted (w, true))
    ↔ ((commits_refusal n quorum d total answered (length loads) faults rows ≡ 0)
    × (width_of d total (heard_loads answered loads) ≡ w)
    × Many quorum (λ s. bit answered s ≡ 1)
    × Survives n d answered (nth_row (rows_of d total (heard_loads answered loads))) faults)
unfolding layout_commits_of layout_commits
layout_commits_means n quorum d total answered loads faults rows w =
    let heard = heard_loads answered loads in
    let k = commits_refusal n quorum d total answered (length loads) faults rows in
    let m = accepted_means {A = ℕ × Bool} k (width_of d total heard, layout_commits n quorum d total answered faults heard) (w, true) in
    let c = commits_means n quorum d answered (nth_row (rows_of d total heard)) faults in (
      λ e. let q = c.0 (ap (λ (p : ℕ × Bool). p.1) (m.0 e).1) in ((m.0 e).0, ap (λ (p : ℕ × Bool). p.0) (m.0 e).1, q.0, q.1),
      λ h. m.1 (h.0, ap₂ (λ (x : ℕ) (y : Bool). (x, y)) h.1 (c.1 (h.2, h.3))),
    )

-- its table holds the rows of those that answer, also where it does not commit
pub trial_written_is : (n quorum d : ℕ) (total : TotalShards) (answered : ℕ) (loads faults rows : List ℕ)
    → commits_refusal n quorum d total answered (length loads) faults (length rows) ≡ 0
    → trial_written n quorum d total answered loads faults rows ≡ spelled (rows_of d total (heard_loads answered loads))
unfolding trial_written
trial_written_is n quorum d total answered loads faults rows e = rw e
