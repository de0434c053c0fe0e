-- What a plan and full copies are: what an unrefused input is in numbers, what is planned of it, and that its rows are rows of its width
-- and survive; full copies are the layout of n loads of d.
-- Assumes nothing.
use Rattle.std.proofs.Math.Path.{◌≡◌, refl, ap, subst}
use Rattle.std.proofs.Common.{sym, ◌∙◌, le_refl, lt_of_lt_of_le, arith, pow_pos, ext_get_or}
use Rattle.std.specs.Prelude.{◌↔◌, Bool, false, cond, Float, length, get_or, replicate}
use Rattle.std.proofs.Math.Bool.{true}
use mathlib.Core.List.{List, [], Memᴰ}
use Rattle.std.specs.Prelude.{Option, None, Some}
use Prim.Native.Nat.{ℕ, zero, suc, ◌*◌, ◌^◌, ◌≤◌, ◌<◌}
use Rattle.std.proofs.Math.Decide.{dec_lt}
use Rattle.std.proofs.Math.ListN.{length-replicate, get_or-replicate, get_or-eq_default}
use Rattle.std.proofs.Math.Pow.{pow_mono, ones_lt}
use borrow.Author.Tests.{eqb-true, eq-eqb, leb-true, le-leb, ltb-true, lt-ltb, not-false}
use Rattle.lists.specs.All.{AllOf}
use Rattle.lists.specs.AllLaws.{Each, all_means}
use Rattle.bitmap.specs.Mask.{bit, count, run, nth_row}
use Rattle.bitmap.specs.MaskLaws.{below_means}
use Rattle.bitmap.specs.Members.{Many, many_map}
use Rattle.bitmap.specs.RunLaws.{run_all}
use Rattle.bitmap.specs.RunCounts.{run_count}
use Rattle.rows.specs.Row.{rows_in, spelled, row_in}
use Rattle.rows.proofs.TableLaws.{Rows, spelled_length, spelled_row, spelled_rows}
use Rattle.refusals.specs.Numbers.{TRIMMED}
use Rattle.refusals.specs.FirstLaws.{none_holds}
use Rattle.refusals.specs.Limits.{is_row}
use Rattle.refusals.specs.LimitLaws.{AreRows, rows_small, population_means, shards_means, quorum_means, fault_list_means, peers_fit_means}
use Rattle.refusals.specs.Outcome.{Outcome, refused, accepted, outcome}
use Rattle.refusals.specs.OutcomeLaws.{checked_means, accepted_means}
use Rattle.coverage.specs.Coverage.{covers_of}
use Rattle.coverage.proofs.CoverageLaws.{Survives, commits_means, covers_means}
use Rattle.coverage.proofs.RefusalLaws.{FaultList, covers_sound}
use Rattle.floats.specs.FirstLaws.{Fits}
use Rattle.layout.specs.declared.TotalShards.{TotalShards}
use Rattle.layout.specs.declared.TotalShards.TheVariants.{Exactly, AtMost}
use Rattle.layout.specs.Layout.{Fit, bound, partial, width_of, rows_of, layout_commits, rows_refusal, layout_rows_of, rows_written}
use Rattle.layout.proofs.LayoutLaws.{partial_without, width_exactly, width_at_most, width_fits, rows_length, rows_full, rows_below}
use Rattle.times.specs.declared.PeerRecord.{PeerRecord}
use Rattle.times.specs.Times.{shard_length, times_of, PeersInBounds}
use Rattle.times.proofs.TimeLaws.{times_fit}
use Rattle.trimming.proofs.OrderLaws.{order_listed}
use Rattle.trimming.proofs.TrimmingLaws.{trimmed_length, trimmed_other}
use Rattle.candidates.specs.Search.{candidates, answered_at, loads_at, commits_at, first_time}
use Rattle.candidates.proofs.SearchLaws.{Answering, answers_means, answered_below, loads_length, own_load, First, first_time_means, no_time_means}
use Rattle.assignment.specs.Plans.{Plan, loads_for, plan_at, plan_of, in_flight, pick_cases, pick_refusal, pick_of, planned, copies_cases, copies_refusal, copies_width, full_copies_of, copies_written}

-- ---- what an unrefused input is

-- ---- `pick_assignment`, of a table of so many rows
module _ (n own quorum d : ℕ) (total : TotalShards) (size : ℕ) (peers : List PeerRecord) (faults : List ℕ) (rows : ℕ) where
  pub record Sound : Type 0 where
    pub population : (1 ≤ n) × (n ≤ 16)
    pub replica : own < n
    pub shards : Fit d (bound total)
    pub enough : (1 ≤ quorum) × (quorum ≤ n)
    pub small : size ≤ 2 ^ 30
    pub in_flight_fits : PeersInBounds n own peers
    pub list : FaultList n faults
    pub table : rows ≡ n * 4

  pub pick_sound : (pick_refusal n own quorum d total size peers faults rows ≡ 0) ↔ Sound
  unfolding pick_refusal
  pick_sound = (
    λ e.
        let h = (none_holds (pick_cases n own quorum d total size peers faults rows) refl).0 e in
        record {
          population = (population_means n).0 (not-false _ h.0);
          replica = ltb-true own n (not-false _ h.1.0);
          shards = (shards_means d (bound total)).0 (not-false _ h.1.1.0);
          enough = (quorum_means n quorum).0 (not-false _ h.1.1.1.0);
          small = leb-true size (2 ^ 30) (not-false _ h.1.1.1.1.0);
          in_flight_fits = (peers_fit_means n own (in_flight peers)).0 (not-false _ h.1.1.1.1.1.0);
          list = (fault_list_means n faults).0 (not-false _ h.1.1.1.1.1.1.0);
          table = eqb-true rows (n * 4) (not-false _ h.1.1.1.1.1.1.1.0);
        },
    λ s.
        simp (
          (population_means n).1 s.population,
          lt-ltb own n s.replica,
          (shards_means d (bound total)).1 s.shards,
          (quorum_means n quorum).1 s.enough,
          le-leb size (2 ^ 30) s.small,
          (peers_fit_means n own (in_flight peers)).1 s.in_flight_fits,
          (fault_list_means n faults).1 s.list,
          eq-eqb rows (n * 4) s.table,
        ),
  )

-- ---- `full_copies`
module _ (n d : ℕ) (total : TotalShards) (rows : ℕ) where
  pub record SoundCopies : Type 0 where
    pub population : (1 ≤ n) × (n ≤ 16)
    pub shards : Fit d (bound total)
    pub table : rows ≡ n * 4

  pub copies_sound : (copies_refusal n d total rows ≡ 0) ↔ SoundCopies
  unfolding copies_refusal
  copies_sound = (
    λ e.
        let h = (none_holds (copies_cases n d total rows) refl).0 e in
        record {
          population = (population_means n).0 (not-false _ h.0);
          shards = (shards_means d (bound total)).0 (not-false _ h.1.0);
          table = eqb-true rows (n * 4) (not-false _ h.1.1.0);
        },
    λ s. simp ((population_means n).1 s.population, (shards_means d (bound total)).1 s.shards, eq-eqb rows (n * 4) s.table),
  )

-- ---- the plan of a table of times

plan_is : (p q : Plan) → p.time ≡ q.time → p.width ≡ q.width → p.rows ≡ q.rows → p ≡ q
plan_is p q t w r = λ i. record { time = t i; width = w i; rows = r i }

-- what is laid out is a plan if it commits, and never none
laid_plan : (b : Bool) (a p : Plan) → cond b (accepted (Some a)) (refused TRIMMED) ≡ accepted (Some p) → (b ≡ true) × (a ≡ p)
laid_plan true a p e = (refl, cc)
laid_plan false a p e = let z : ◌≡◌ {A = ℕ} 0 1 = cc in absurd (omega arith)

laid_some : (b : Bool) (a : Plan) → cond b (accepted (Some a)) (refused TRIMMED) ≡ accepted None → ⊥
laid_some true a e = let z : ◌≡◌ {A = ℕ} 0 1 = cc in omega arith
laid_some false a e = let z : ◌≡◌ {A = ℕ} 0 1 = cc in omega arith

module _ (n own quorum d : ℕ) (total : TotalShards) (faults : List ℕ) (times : List Float) where
  -- the time is the first candidate that commits; its loads, trimmed, commit, and the width and the rows are what they are laid out in
  pub record Planned (p : Plan) : Type 0 where
    pub first : First (commits_at n own quorum d total faults times) (candidates times) p.time
    pub commits : layout_commits n quorum d total (answered_at own d times p.time n) faults (loads_for n own quorum d total faults times p.time) ≡ true
    pub width : p.width ≡ width_of d total (loads_for n own quorum d total faults times p.time)
    pub rows : p.rows ≡ rows_of d total (loads_for n own quorum d total faults times p.time)

  -- no candidate commits
  abbrev pub NoneCommits : Type 0
  NoneCommits = (y : Float) → Memᴰ y (candidates times) → commits_at n own quorum d total faults times y ≡ false

  abbrev planned_at : Float → Plan
  planned_at t =
      let loads = loads_for n own quorum d total faults times t in
      record { time = t; width = width_of d total loads; rows = rows_of d total loads }

  abbrev holds_at : Float → Bool
  holds_at t = layout_commits n quorum d total (answered_at own d times t n) faults (loads_for n own quorum d total faults times t)

  module _ (fit : AllOf Fits times) where
    pub plan_of_means : (p : Plan) → (plan_of n own quorum d total faults times ≡ accepted (Some p)) ↔ Planned p
    unfolding plan_of
    plan_of_means p = (go (first_time n own quorum d total faults times) refl, shown)
      where
        go : (o : Option Float) → first_time n own quorum d total faults times ≡ o → plan_at n own quorum d total faults times o ≡ accepted (Some p) → Planned p
        go None q e = let z : ◌≡◌ {A = ℕ} 0 1 = cc in absurd (omega arith)
        go (Some t) q e =
            let r = laid_plan (holds_at t) (planned_at t) p e in
            subst Planned r.1 (record { first = (first_time_means n own quorum d total faults times fit t).0 q; commits = r.0; width = refl; rows = refl })

        shown : Planned p → plan_at n own quorum d total faults times (first_time n own quorum d total faults times) ≡ accepted (Some p)
        shown h =
            rw ((first_time_means n own quorum d total faults times fit p.time).1 h.first, h.commits)
            (ap (λ (q : Plan). accepted (Some q)) (plan_is (planned_at p.time) p refl (sym h.width) (sym h.rows)))

  pub no_plan_of_means : (plan_of n own quorum d total faults times ≡ accepted None) ↔ NoneCommits
  unfolding plan_of
  no_plan_of_means =
      let m = no_time_means n own quorum d total faults times in
      (λ e. m.0 (go (first_time n own quorum d total faults times) refl e), λ h. ap (plan_at n own quorum d total faults times) (m.1 h))
    where
      go : (o : Option Float) → first_time n own quorum d total faults times ≡ o → plan_at n own quorum d total faults times o ≡ accepted None → first_time n own quorum d total faults times ≡ None
      go None q e = q
      go (Some t) q e = absurd (laid_some (holds_at t) (planned_at t) e)

-- ---- its loads

module _ (n own quorum d : ℕ) (total : TotalShards) (faults : List ℕ) (times : List Float) (t : Float) where
  pub loads_for_length : length (loads_for n own quorum d total faults times t) ≡ n
  unfolding loads_for
  loads_for_length = trimmed_length _ _ (loads_at own d times t n) ∙ loads_length own d times t n

  -- our own is d: trimming does not try it
  pub own_load_for : own < n → get_or (loads_for n own quorum d total faults times t) own 0 ≡ d
  unfolding loads_for
  own_load_for l =
      trimmed_other _ own _ (λ m. ((order_listed d times n own own).0 m).1 refl) (loads_at own d times t n)
      ∙ own_load own d times t n own l refl

-- ---- `pick_assignment`

module _ (n own quorum d : ℕ) (total : TotalShards) (size : ℕ) (peers : List PeerRecord) (penalty : Float) (faults : List ℕ) (rows : ℕ) where
  -- the times of the input, and those that answer by the time of a plan
  abbrev times : List Float
  times = times_of n own d (shard_length size d) peers penalty

  abbrev answered : Plan → ℕ
  answered p = answered_at own d times p.time n

  -- the answer is the plan p exactly if nothing refuses and p is the plan of those times
  pub plan_means : (p : Plan)
      → (pick_of n own quorum d total size peers penalty faults rows ≡ accepted (Some p))
      ↔ ((pick_refusal n own quorum d total size peers faults rows ≡ 0) × Planned n own quorum d total faults times p)
  unfolding pick_of
  plan_means p =
      let c = checked_means (pick_refusal n own quorum d total size peers faults rows) (plan_of n own quorum d total faults times) (Some p) in
      let m = plan_of_means n own quorum d total faults times (times_fit n own d (shard_length size d) peers penalty) p in
      (λ e. ((c.0 e).0, m.0 (c.0 e).1), λ h. c.1 (h.0, m.1 h.1))

  -- it is none exactly if nothing refuses and no candidate commits
  pub none_means : (pick_of n own quorum d total size peers penalty faults rows ≡ accepted None)
      ↔ ((pick_refusal n own quorum d total size peers faults rows ≡ 0) × NoneCommits n own quorum d total faults times)
  unfolding pick_of
  none_means =
      let c = checked_means (pick_refusal n own quorum d total size peers faults rows) (plan_of n own quorum d total faults times) None in
      let m = no_plan_of_means n own quorum d total faults times in
      (λ e. ((c.0 e).0, m.0 (c.0 e).1), λ h. c.1 (h.0, m.1 h.1))

  -- of any plan
  module _ (p : Plan) (e : pick_of n own quorum d total size peers penalty faults rows ≡ accepted (Some p)) where
    fit : Fit d (bound total)
    fit = ((pick_sound n own quorum d total size peers faults rows).0 ((plan_means p).0 e).0).shards

    -- its width is one for the data shards
    pub plan_fits : Fit d p.width
    plan_fits = rw ((plan_means p).0 e).1.width (width_fits d total (loads_for n own quorum d total faults times p.time) fit)

    -- its rows are rows of that width
    pub plan_are_rows : AreRows n p.width p.rows
    plan_are_rows =
        let r = (plan_means p).0 e in
        let loads = loads_for n own quorum d total faults times p.time in
        let long = loads_for_length n own quorum d total faults times p.time in
        rw (r.1.width, r.1.rows) (rows_length d total loads ∙ long, rows_below d total loads fit)

    -- our own row is the shards 0 to d - 1
    pub plan_own : nth_row p.rows own ≡ run 0 d
    plan_own =
        let r = (plan_means p).0 e in
        let loads = loads_for n own quorum d total faults times p.time in
        let l = ((pick_sound n own quorum d total size peers faults rows).0 r.0).replica in
        let k = own_load_for n own quorum d total faults times p.time l in
        let long = loads_for_length n own quorum d total faults times p.time in
        rw r.1.rows (rows_full d total loads own (omega arith) (omega arith))

    -- a quorum of different replicas answers by its time, and without any one listed set there are d different shards, each in the row of one of them outside it
    pub plan_survives : Many quorum (λ s. bit (answered p) s ≡ 1) × Survives n d (answered p) (nth_row p.rows) faults
    unfolding layout_commits
    plan_survives =
        let h = ((plan_means p).0 e).1 in
        (commits_means n quorum d (answered p) (nth_row p.rows) faults).0 (rw h.rows h.commits)

    -- they are our own, or reply by its time with no shard
    pub plan_quorum : Many quorum (λ s. (s < n) × Answering own d times p.time s)
    plan_quorum = many_map answering plan_survives.0
      where
        answering : (s : ℕ) → bit (answered p) s ≡ 1 → (s < n) × Answering own d times p.time s
        answering s b = let l = known (dec_lt s n) in (l, (answers_means own d times p.time n s l).0 b)
          where
            known : Dec (s < n) → s < n
            known (yes l) = l
            known (no l) =
                let z = (below_means n (answered p)).0 (lt-ltb (answered p) (2 ^ n) (answered_below own d times p.time n)) s (omega arith) in
                absurd (omega arith)

    -- so `covers` takes the plan, and says yes to those that answer
    pub plan_covers : covers_of n d p.width (answered p) (spelled p.rows) faults ≡ accepted true
    plan_covers =
        let s = (pick_sound n own quorum d total size peers faults rows).0 ((plan_means p).0 e).0 in
        let r = plan_are_rows in
        let small : Rows p.rows = rows_small n p.width p.rows r plan_fits.2 in
        (covers_means n d p.width (answered p) (spelled p.rows) faults).1 (
          (covers_sound n d p.width (answered p) (spelled p.rows) faults).1
              (record {
                population = s.population;
                shards = plan_fits;
                each_row = subst (Each (is_row p.width) 0) (sym (spelled_rows p.rows small)) ((all_means (is_row p.width) 0 p.rows).0 r.1);
                mask = answered_below own d times p.time n;
                table = spelled_length p.rows ∙ ap (λ (k : ℕ). k * 4) r.0;
                list = s.list;
              }),
          subst (λ (row : ℕ → ℕ). Survives n d (answered p) row faults) (λ i s. sym (spelled_row p.rows small s) i) plan_survives.1,
        )

-- ---- the lent table at exit: the rows of the plan where there is one, four words a row, and else what it held
module _ (o : Outcome (Option Plan)) (before : List ℕ) where
  pub planned_rows : (p : Plan) → o ≡ accepted (Some p) → planned o before ≡ spelled p.rows
  planned_rows p e = ap (λ (q : Outcome (Option Plan)). planned q before) e

  pub planned_none : o ≡ accepted None → planned o before ≡ before
  planned_none e = ap (λ (q : Outcome (Option Plan)). planned q before) e

  pub planned_refused : (k : ℕ) → o ≡ refused k → planned o before ≡ before
  planned_refused k e = ap (λ (q : Outcome (Option Plan)). planned q before) e

-- ---- `full_copies`

-- the width: an exact one as given, and d under a ceiling
pub copies_exactly : (d w : ℕ) → copies_width d (Exactly w) ≡ w
copies_exactly d w = refl

pub copies_at_most : (d w : ℕ) → copies_width d (AtMost w) ≡ d
copies_at_most d w = refl

-- the answer is w exactly if nothing refuses and w is the width
pub copies_means : (n d : ℕ) (total : TotalShards) (rows w : ℕ)
    → (full_copies_of n d total rows ≡ accepted w) ↔ ((copies_refusal n d total rows ≡ 0) × (copies_width d total ≡ w))
unfolding full_copies_of
copies_means n d total rows w = accepted_means (copies_refusal n d total rows) (copies_width d total) w

-- it is one for the data shards
pub copies_fit : (d : ℕ) (total : TotalShards) → Fit d (bound total) → Fit d (copies_width d total)
copies_fit d (Exactly w) h = h
copies_fit d (AtMost w) h = (h.0, omega arith, omega arith)

-- of a table that is not refused
module _ (n d : ℕ) (total : TotalShards) (rows : List ℕ) (e : copies_refusal n d total (length rows) ≡ 0) where
  copies_small : Rows (replicate n (run 0 d))
  copies_small i = go (dec_lt i n) ((copies_sound n d total (length rows)).0 e).shards
    where
      go : Dec (i < n) → Fit d (bound total) → get_or (replicate n (run 0 d)) i 0 < 2 ^ 256
      go (yes l) h = rw (get_or-replicate n i (run 0 d) 0 l, run_all) (lt_of_lt_of_le (ones_lt d) (pow_mono {i = d} {j = 256} (omega arith)))
      go (no l) h = rw (get_or-eq_default (replicate n (run 0 d)) 0 {n = i} (omega (arith, length-replicate n (run 0 d)))) (pow_pos 256)

  -- each replica has the shards 0 to d - 1
  pub copies_at : (s : ℕ) → s < n → row_in (copies_written n d total rows) s ≡ run 0 d
  unfolding copies_written
  copies_at s l = rw e (spelled_row (replicate n (run 0 d)) copies_small s ∙ get_or-replicate n s (run 0 d) 0 l)

  -- and so d different ones
  pub copies_count : (s : ℕ) → s < n → count (row_in (copies_written n d total rows) s) ≡ d
  copies_count s l = ap count (copies_at s l) ∙ run_count 0 d

  pub copies_are_rows : AreRows n (copies_width d total) (rows_in (copies_written n d total rows))
  unfolding copies_written
  copies_are_rows =
      let w = copies_width d total in
      let h = copies_fit d total ((copies_sound n d total (length rows)).0 e).shards in
      let row : is_row w (run 0 d) ≡ true = lt-ltb (run 0 d) (2 ^ w) (rw run_all (omega (arith, ones_lt d, pow_mono h.1))) in
      rw (e, spelled_rows (replicate n (run 0 d)) copies_small) (
        length-replicate n (run 0 d),
        (all_means (is_row w) 0 (replicate n (run 0 d))).1 (λ s l. ap (is_row w) (get_or-replicate n s (run 0 d) 0 (rw length-replicate at l)) ∙ row),
      )

-- ---- full copies are the layout of n loads of d

nothing_dealt : (n d : ℕ) → partial d (replicate n d) ≡ 0
nothing_dealt zero d = refl
nothing_dealt (suc n) d = partial_without d [] (replicate n d) d (le_refl d) ∙ nothing_dealt n d

module _ (n d : ℕ) where
  pub copies_width_is : (total : TotalShards) → Fit d (bound total) → copies_width d total ≡ width_of d total (replicate n d)
  copies_width_is (Exactly w) h = sym (width_exactly d w (replicate n d))
  copies_width_is (AtMost w) h = omega (arith, width_at_most d w (replicate n d), nothing_dealt n d)

  module _ (total : TotalShards) where
    pub copies_rows : rows_of d total (replicate n d) ≡ replicate n (run 0 d)
    copies_rows =
        let long = length-replicate n d in
        let m = rows_length d total (replicate n d) in
        ext_get_or 0 (rows_of d total (replicate n d)) (replicate n (run 0 d)) (m ∙ long ∙ sym (length-replicate n (run 0 d)))
        (λ s l.
        let k : s < n = omega arith in
        rows_full d total (replicate n d) s (omega arith) (omega (arith, get_or-replicate n s d 0 k))
        ∙ sym (get_or-replicate n s (run 0 d) 0 k))

    copies_refused : (rows : ℕ) → copies_refusal n d total rows ≡ rows_refusal n d total (length (replicate n d)) rows
    unfolding copies_refusal rows_refusal
    copies_refused rows = rw (length-replicate n d, eq-eqb n n refl)

    -- the answer
    pub copies_layout : (rows : ℕ) → full_copies_of n d total rows ≡ layout_rows_of n d total (replicate n d) rows
    unfolding full_copies_of layout_rows_of
    copies_layout rows =
        go (copies_refusal n d total rows) refl
        ∙ ap (λ (k : ℕ). outcome k (width_of d total (replicate n d))) (copies_refused rows)
      where
        go : (k : ℕ) → copies_refusal n d total rows ≡ k → outcome k (copies_width d total) ≡ outcome k (width_of d total (replicate n d))
        go zero e = ap accepted (copies_width_is total ((copies_sound n d total rows).0 e).shards)
        go (suc k) e = refl

    -- the lent table at exit
    pub copies_written_are : (rows : List ℕ) → copies_written n d total rows ≡ rows_written n d total (replicate n d) rows
    unfolding copies_written rows_written
    copies_written_are rows = rw (copies_refused (length rows), copies_rows)
