-- What an input is that is not refused: each check, said in numbers. Assumes nothing.
use Rattle.std.specs.Prelude.{◌≡◌, refl, ◌↔◌, List, ℕ, ◌*◌, ◌^◌, ◌≤◌, ◌<◌, length}
use borrow.Author.Tests.{eqb-true, eq-eqb, ltb-true, lt-ltb, not-false}
use Rattle.lists.specs.AllLaws.{Each, all_means}
use Rattle.rows.specs.Row.{rows_in}
use Rattle.refusals.specs.FirstLaws.{none_holds}
use Rattle.refusals.specs.Limits.{most_shards, is_row}
use Rattle.refusals.specs.LimitLaws.{population_means, shards_means}
use Rattle.gossip.specs.Gossip.{gossip_cases, gossip_refusal}

-- `gossip_targets_excl`, of a table of that many exclusions
module _ (n own source d w available : ℕ) (rows : List ℕ) (alive exclusions : ℕ) where
  pub record Sound : Type 0 where
    pub population : (1 ≤ n) × (n ≤ 16)
    pub replica : own < n
    pub source_replica : source < n
    pub shards : (1 ≤ d) × (d ≤ w) × (w ≤ most_shards)
    pub row : available < 2 ^ w
    pub each_row : Each (is_row w) 0 (rows_in rows)
    pub mask : alive < 2 ^ n
    pub table : length rows ≡ n * 4
    pub each_exclusion : exclusions ≡ n * 4

  pub gossip_sound : (gossip_refusal n own source d w available rows alive exclusions ≡ 0) ↔ Sound
  unfolding gossip_refusal
  gossip_sound = (
    λ e.
        let h = (none_holds (gossip_cases n own source d w available rows alive exclusions) refl).0 e in
        record {
          population = (population_means n).0 (not-false _ h.0);
          replica = ltb-true own n (not-false _ h.1.0);
          source_replica = ltb-true source n (not-false _ h.1.1.0);
          shards = (shards_means d w).0 (not-false _ h.1.1.1.0);
          row = ltb-true available (2 ^ w) (not-false _ h.1.1.1.1.0);
          each_row = (all_means (is_row w) 0 (rows_in rows)).0 (not-false _ h.1.1.1.1.1.0);
          mask = ltb-true alive (2 ^ n) (not-false _ h.1.1.1.1.1.1.0);
          table = eqb-true (length rows) (n * 4) (not-false _ h.1.1.1.1.1.1.1.0);
          each_exclusion = eqb-true exclusions (n * 4) (not-false _ h.1.1.1.1.1.1.1.1.0);
        },
    λ s.
        simp (
          (population_means n).1 s.population,
          lt-ltb own n s.replica,
          lt-ltb source n s.source_replica,
          (shards_means d w).1 s.shards,
          lt-ltb available (2 ^ w) s.row,
          (all_means (is_row w) 0 (rows_in rows)).1 s.each_row,
          lt-ltb alive (2 ^ n) s.mask,
          eq-eqb (length rows) (n * 4) s.table,
          eq-eqb exclusions (n * 4) s.each_exclusion,
        ),
  )
