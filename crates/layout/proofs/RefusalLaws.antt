-- What an input is that is not refused: each check, said in numbers. Assumes nothing.
use Rattle.std.specs.Prelude.{◌≡◌, refl, ◌↔◌, List, ℕ, ◌*◌, ◌^◌, ◌≤◌, ◌<◌}
use borrow.Author.Tests.{eqb-true, eq-eqb, ltb-true, lt-ltb, not-false}
use Rattle.refusals.specs.FirstLaws.{none_holds}
use Rattle.refusals.specs.LimitLaws.{population_means, shards_means, quorum_means, fault_list_means}
use Rattle.coverage.proofs.RefusalLaws.{FaultList}
use Rattle.layout.specs.declared.TotalShards.{TotalShards}
use Rattle.layout.specs.Layout.{Fit, bound, rows_cases, rows_refusal, commits_cases, commits_refusal}

-- ---- `layout_rows`, of tables of that many loads and rows
module _ (n d : ℕ) (total : TotalShards) (loads rows : ℕ) where
  pub record Sound : Type 0 where
    pub population : (1 ≤ n) × (n ≤ 16)
    pub shards : Fit d (bound total)
    pub each_load : loads ≡ n
    pub table : rows ≡ n * 4

  pub rows_sound : (rows_refusal n d total loads rows ≡ 0) ↔ Sound
  unfolding rows_refusal
  rows_sound = (
    λ e.
        let h = (none_holds (rows_cases n d total loads rows) refl).0 e in
        record {
          population = (population_means n).0 (not-false _ h.0);
          shards = (shards_means d (bound total)).0 (not-false _ h.1.0);
          each_load = eqb-true loads n (not-false _ h.1.1.0);
          table = eqb-true rows (n * 4) (not-false _ h.1.1.1.0);
        },
    λ s.
        simp (
          (population_means n).1 s.population,
          (shards_means d (bound total)).1 s.shards,
          eq-eqb loads n s.each_load,
          eq-eqb rows (n * 4) s.table,
        ),
  )

-- ---- `layout_commits`
module _ (n quorum d : ℕ) (total : TotalShards) (answered loads : ℕ) (faults : List ℕ) (rows : ℕ) where
  pub record Trial : Type 0 where
    pub population : (1 ≤ n) × (n ≤ 16)
    pub shards : Fit d (bound total)
    pub quorum_fits : (1 ≤ quorum) × (quorum ≤ n)
    pub mask : answered < 2 ^ n
    pub each_load : loads ≡ n
    pub list : FaultList n faults
    pub table : rows ≡ n * 4

  pub trial_sound : (commits_refusal n quorum d total answered loads faults rows ≡ 0) ↔ Trial
  unfolding commits_refusal
  trial_sound = (
    λ e.
        let h = (none_holds (commits_cases n quorum d total answered loads faults rows) refl).0 e in
        record {
          population = (population_means n).0 (not-false _ h.0);
          shards = (shards_means d (bound total)).0 (not-false _ h.1.0);
          quorum_fits = (quorum_means n quorum).0 (not-false _ h.1.1.0);
          mask = ltb-true answered (2 ^ n) (not-false _ h.1.1.1.0);
          each_load = eqb-true loads n (not-false _ h.1.1.1.1.0);
          list = (fault_list_means n faults).0 (not-false _ h.1.1.1.1.1.0);
          table = eqb-true rows (n * 4) (not-false _ h.1.1.1.1.1.1.0);
        },
    λ s.
        simp (
          (population_means n).1 s.population,
          (shards_means d (bound total)).1 s.shards,
          (quorum_means n quorum).1 s.quorum_fits,
          lt-ltb answered (2 ^ n) s.mask,
          eq-eqb loads n s.each_load,
          (fault_list_means n faults).1 s.list,
          eq-eqb rows (n * 4) s.table,
        ),
  )
