-- How the parts of a plan compute what the definitions say. The premises are the fields of a need's record. Assumes nothing.
use mathlib.Core.Path.{◌≡◌, refl, sym, ap, ◌∙◌}
use mathlib.Core.Bool.{Bool, true, false, cond}
use mathlib.Core.List.{List, [], ◌∷◌, ◌++◌}
use Rattle.std.specs.Prelude.{Option, Some, Result}
use native.Mathlib.Numerals.{add-one}
use Prim.Native.Nat.{ℕ, zero, suc, ◌*◌, ◌≤◌, suc-le-suc}
use native.Mathlib.Nat.{mul-le-mul}
use native.Mathlib.Omega.{arith}
use lib.Ieee.{Float}
use lib.ListN.{length, replicate, length-replicate, replicate-append-replicate}
use Rattle.lists.specs.Below.{each_below, front}
use Rattle.rows.specs.Row.{rows_in, spelled}
use Rattle.rows.proofs.TableLaws.{spelled_length, spelled_rows}
use Rattle.lists.proofs.BelowLoops.{front_all}
use Rattle.bitmap.specs.Mask.{run}
use Rattle.refusals.specs.Numbers.{TRIMMED}
use Rattle.refusals.specs.Outcome.{Outcome, refused, accepted}
use Rattle.refusals.specs.Refused.{number_of, outcome_by}
use Rattle.refusals.specs.declared.Refusal.{Refusal}
use Rattle.refusals.proofs.Checks.{went_on}
use Rattle.refusals.proofs.Outcomes.{is_checked, number_some, Returned, err_refused_by, err_checked_by}
use Rattle.layout.specs.declared.TotalShards.{TotalShards}
use Rattle.layout.specs.Layout.{Fit, bound, layout_commits, width_of, rows_of}
use Rattle.layout.proofs.LayoutLaws.{rows_length, rows_small}
use Rattle.trimming.specs.Order.{trim_order}
use Rattle.trimming.specs.Trimming.{trimmed}
use Rattle.times.specs.declared.PeerRecord.{PeerRecord}
use Rattle.times.specs.Times.{shard_length, times_of}
use Rattle.candidates.specs.Search.{answered_at, loads_at, first_time}
use Rattle.assignment.specs.declared.Plan as Coded
use Rattle.assignment.specs.Plans.{Plan, picked, loads_for, laid_out, plan_at, plan_of, planned, pick_refusal, pick_of, copies_refusal, copies_written}
use Rattle.assignment.proofs.PlanLaws.{Sound, pick_sound, copies_sound}

-- ---- `lay_out`
module _ (n quorum d : ℕ) (total : TotalShards) (faults : List ℕ) (answered : ℕ) (t : Float) (loads rows : List ℕ) {r : Bool} (e : r ≡ layout_commits n quorum d total answered faults loads) where
  -- the trimmed loads no longer commit
  pub lost : (f : Refusal) → number_of f ≡ cond r 0 TRIMMED → (o : Result (Option Coded.Plan) Refusal) → Returned o f
      → (outcome_by (picked rows) o ≡ laid_out n quorum d total faults answered t loads) × (rows ≡ planned (laid_out n quorum d total faults answered t loads) rows)
  lost f u o h = go r refl
    where
      go : (b : Bool) → r ≡ b → (outcome_by (picked rows) o ≡ laid_out n quorum d total faults answered t loads) × (rows ≡ planned (laid_out n quorum d total faults answered t loads) rows)
      go true q = absurd (number_some f (u ∙ rw q refl))
      go false q = let g = sym e ∙ q in (rw g (err_refused_by f o h (picked rows) ∙ ap refused (u ∙ rw q refl)), rw g refl)

  pub laid_plan : 0 ≡ cond r 0 TRIMMED → {w : ℕ} {after : List ℕ} → Fit d (bound total) → length loads ≡ n → length rows ≡ n * 4 → w ≡ width_of d total loads → after ≡ front (spelled (rows_of d total loads)) rows
      → (accepted (Some (record { time = t; width = w; rows = rows_in after })) ≡ laid_out n quorum d total faults answered t loads) × (after ≡ planned (laid_out n quorum d total faults answered t loads) rows)
  laid_plan u h a b q s =
      let f = sym e ∙ went_on r 23 u in
      let g = s ∙ front_all (spelled (rows_of d total loads)) rows (omega (arith, spelled_length (rows_of d total loads), rows_length d total loads, a, b)) in
      (rw (f, q, g, spelled_rows (rows_of d total loads) (rows_small d total loads h)), rw f g)

-- ---- `full_copies`
each_same : (n x : ℕ) → each_below (λ (_ : ℕ). x) n ≡ replicate n x
unfolding each_below
each_same zero x = refl
each_same (suc n) x = ap (λ (l : List ℕ). l ++ (x ∷ [])) (each_same n x) ∙ replicate-append-replicate n 1 x ∙ ap (λ (k : ℕ). replicate k x) (add-one n)

pub copies_done : (n d : ℕ) (total : TotalShards) (rows : List ℕ) (row : ℕ) (after : List ℕ) → 0 ≡ copies_refusal n d total (length rows) → row ≡ run 0 d
    → after ≡ front (spelled (each_below (λ (_ : ℕ). row) n)) rows → after ≡ copies_written n d total rows
unfolding copies_written
copies_done n d total rows row after z r f =
    let s = (copies_sound n d total (length rows)).0 (sym z) in
    rw (sym z) (f ∙ ap (λ (l : List ℕ). front (spelled l) rows) (each_same n row) ∙ front_all (spelled (replicate n row)) rows (omega (arith, spelled_length (replicate n row), length-replicate n row, s.table)) ∙ ap (λ (x : ℕ). spelled (replicate n x)) r)

-- ---- `loads_for`: the table of times is small, and what trimming was given
pub table_small : (n d most L : ℕ) → n ≤ 16 → d ≤ most → L ≡ n * suc d → L ≤ 16 * suc most
table_small n d most L h l e = let a : n * suc d ≤ 16 * suc most = mul-le-mul h (suc-le-suc l) in omega arith

pub loads_trimmed : (n own quorum d : ℕ) (total : TotalShards) (faults : List ℕ) (times : List Float) (t : Float) {m : ℕ} {o l r : List ℕ}
    → m ≡ answered_at own d times t n → o ≡ trim_order n own d times → l ≡ loads_at own d times t n → r ≡ trimmed (layout_commits n quorum d total m faults) o l
    → r ≡ loads_for n own quorum d total faults times t
unfolding loads_for
loads_trimmed n own quorum d total faults times t e f g h = h ∙ rw (e, f, g)

-- ---- `plan`: of the time that was found
module _ (n own quorum d : ℕ) (total : TotalShards) (faults : List ℕ) (times : List Float) {b r : Option Float}
    (e : b ≡ first_time n own quorum d total faults times) (f : b ≡ r) where
  pub plan_is : plan_at n own quorum d total faults times r ≡ plan_of n own quorum d total faults times
  unfolding plan_of
  plan_is = ap (plan_at n own quorum d total faults times) (sym f ∙ e)

-- ---- `pick_assignment`: the lent table has room for so many rows
module _ (n own quorum d : ℕ) (total : TotalShards) (size : ℕ) (peers : List PeerRecord) (faults : List ℕ) (room : ℕ) where
  pub pick_refused : (f : Refusal) → number_of f ≡ pick_refusal n own quorum d total size peers faults room → (penalty : Float) (rows : List ℕ)
      → (o : Result (Option Coded.Plan) Refusal) → Returned o f
      → (outcome_by (picked rows) o ≡ pick_of n own quorum d total size peers penalty faults room) × (rows ≡ planned (pick_of n own quorum d total size peers penalty faults room) rows)
  unfolding pick_of
  pick_refused f e penalty rows o h =
      let s : outcome_by (picked rows) o ≡ pick_of n own quorum d total size peers penalty faults room = err_checked_by _ f e (picked rows) o _ h in
      let k : refused (number_of f) ≡ pick_of n own quorum d total size peers penalty faults room = is_checked _ (number_of f) _ e (number_some f) in
      (s, ap (λ (o : Outcome (Option Plan)). planned o rows) k)

  module _ (z : 0 ≡ pick_refusal n own quorum d total size peers faults room) where
    -- what has been tested
    pub tested : Sound n own quorum d total size peers faults room
    tested = (pick_sound n own quorum d total size peers faults room).0 (sym z)

    -- of the times that were filled in
    pub pick_is : (penalty : Float) {len : ℕ} {times : List Float} → len ≡ shard_length size d → times ≡ times_of n own d len peers penalty
        → plan_of n own quorum d total faults times ≡ pick_of n own quorum d total size peers penalty faults room
    unfolding pick_of
    pick_is penalty f g = rw (sym z, g, f)
