-- What an input is that is not refused: each check, said in numbers. Assumes nothing.
use Rattle.std.specs.Prelude.{◌≡◌, refl, ◌↔◌, List, ℕ, ◌*◌, ◌^◌, ◌≤◌, ◌<◌, length}
use borrow.Author.Tests.{eqb-true, eq-eqb, ltb-true, lt-ltb, not-false}
use Rattle.lists.specs.AllLaws.{Each, all_means}
use Rattle.rows.specs.Row.{rows_in}
use Rattle.refusals.specs.FirstLaws.{none_holds}
use Rattle.refusals.specs.Limits.{most_shards, is_row, is_fault_set}
use Rattle.refusals.specs.LimitLaws.{population_means, shards_means, fault_list_means}
use Rattle.coverage.specs.Coverage.{covers_cases, covers_refusal, survived_cases, survived_refusal}

-- a list with a set, and each of its sets is a fault set of n replicas
abbrev pub FaultList : ℕ → List ℕ → Type 0
FaultList n faults = (length faults ≡ 0 → ⊥) × Each (is_fault_set n) 0 faults

-- ---- `covers`
module _ (n d w heard : ℕ) (rows faults : List ℕ) where
  pub record Sound : Type 0 where
    pub population : (1 ≤ n) × (n ≤ 16)
    pub shards : (1 ≤ d) × (d ≤ w) × (w ≤ most_shards)
    pub each_row : Each (is_row w) 0 (rows_in rows)
    pub mask : heard < 2 ^ n
    pub table : length rows ≡ n * 4
    pub list : FaultList n faults

  pub covers_sound : (covers_refusal n d w heard rows faults ≡ 0) ↔ Sound
  unfolding covers_refusal
  covers_sound = (
    λ e.
        let h = (none_holds (covers_cases n d w heard rows faults) refl).0 e in
        record {
          population = (population_means n).0 (not-false _ h.0);
          shards = (shards_means d w).0 (not-false _ h.1.0);
          each_row = (all_means (is_row w) 0 (rows_in rows)).0 (not-false _ h.1.1.0);
          mask = ltb-true heard (2 ^ n) (not-false _ h.1.1.1.0);
          table = eqb-true (length rows) (n * 4) (not-false _ h.1.1.1.1.0);
          list = (fault_list_means n faults).0 (not-false _ h.1.1.1.1.1.0);
        },
    λ s.
        simp (
          (population_means n).1 s.population,
          (shards_means d w).1 s.shards,
          (all_means (is_row w) 0 (rows_in rows)).1 s.each_row,
          lt-ltb heard (2 ^ n) s.mask,
          eq-eqb (length rows) (n * 4) s.table,
          (fault_list_means n faults).1 s.list,
        ),
  )

-- ---- `survived_by`
module _ (n heard : ℕ) (faults : List ℕ) where
  pub record Fit : Type 0 where
    pub population : (1 ≤ n) × (n ≤ 16)
    pub mask : heard < 2 ^ n
    pub list : FaultList n faults

  pub survived_fit : (survived_refusal n heard faults ≡ 0) ↔ Fit
  unfolding survived_refusal
  survived_fit = (
    λ e.
        let h = (none_holds (survived_cases n heard faults) refl).0 e in
        record {
          population = (population_means n).0 (not-false _ h.0);
          mask = ltb-true heard (2 ^ n) (not-false _ h.1.0);
          list = (fault_list_means n faults).0 (not-false _ h.1.1.0);
        },
    λ s. simp ((population_means n).1 s.population, lt-ltb heard (2 ^ n) s.mask, (fault_list_means n faults).1 s.list),
  )
