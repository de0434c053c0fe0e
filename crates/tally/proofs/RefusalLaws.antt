-- What an opening and a reply are that are not refused: each check, said in numbers. Assumes nothing.
use Rattle.std.specs.Prelude.{◌≡◌, refl, ◌↔◌, true, ◌&&◌, ℕ, ◌*◌, ◌^◌, ◌≤◌, ◌<◌, eqb, take}
use Rattle.std.proofs.Math.Bool.{and-eq-true_iff}
use borrow.Author.Tests.{ltb-true, lt-ltb, eqb-true, eq-eqb, not-false}
use Rattle.lists.specs.AllLaws.{Each, all_means}
use Rattle.rows.specs.Row.{rows_in}
use Rattle.refusals.specs.FirstLaws.{none_holds}
use Rattle.refusals.specs.Limits.{most_shards, is_row}
use Rattle.refusals.specs.LimitLaws.{population_means, shards_means, quorum_means, fault_list_means}
use Rattle.coverage.proofs.RefusalLaws.{FaultList}
use Rattle.tally.specs.declared.Proposal.{Proposal}
use Rattle.tally.specs.declared.Tally.{Tally}
use Rattle.tally.specs.Tally.{Reply, open_cases, open_refusal, reply_cases, reply_refusal, is_same_value}

-- ---- `open`
module _ (n quorum d w : ℕ) where
  pub record Openable : Type 0 where
    pub population : (1 ≤ n) × (n ≤ 16)
    pub shards : (1 ≤ d) × (d ≤ w) × (w ≤ most_shards)
    pub enough : (1 ≤ quorum) × (quorum ≤ n)

  pub openable : (open_refusal n quorum d w ≡ 0) ↔ Openable
  unfolding open_refusal
  openable = (
    λ e.
        let h = (none_holds (open_cases n quorum d w) refl).0 e in
        record {
          population = (population_means n).0 (not-false _ h.0);
          shards = (shards_means d w).0 (not-false _ h.1.0);
          enough = (quorum_means n quorum).0 (not-false _ h.1.1.0);
        },
    λ s. simp ((population_means n).1 s.population, (shards_means d w).1 s.shards, (quorum_means n quorum).1 s.enough),
  )

-- ---- `reply` and `accept_reply`

-- both halves of the value id are compared
pub same_value_means : (t : Tally) (p : Proposal) → (is_same_value t p ≡ true) ↔ (t.proposal ≡ p)
unfolding is_same_value
same_value_means t p = (
  λ e.
      let a = (and-eq-true_iff (eqb t.proposal.ballot p.ballot) (eqb t.proposal.value_high p.value_high && eqb t.proposal.value_low p.value_low)).0 e in
      let b = (and-eq-true_iff (eqb t.proposal.value_high p.value_high) (eqb t.proposal.value_low p.value_low)).0 a.1 in
      let ballot = eqb-true t.proposal.ballot p.ballot a.0 in
      let high = eqb-true t.proposal.value_high p.value_high b.0 in
      let low = eqb-true t.proposal.value_low p.value_low b.1 in
      λ i. record { ballot = ballot i; value_high = high i; value_low = low i },
  λ h.
      simp (
        eq-eqb t.proposal.ballot p.ballot (λ i. (h i).ballot),
        eq-eqb t.proposal.value_high p.value_high (λ i. (h i).value_high),
        eq-eqb t.proposal.value_low p.value_low (λ i. (h i).value_low),
      ),
)

module _ (t : Tally) (r : Reply) where
  pub record Countable : Type 0 where
    pub opening : Openable t.population t.quorum t.data_shards t.width
    pub replica : r.source < t.population
    pub mask : t.heard < 2 ^ t.population
    pub each_row : Each (is_row t.width) 0 (rows_in (take (t.population * 4) t.rows))
    pub row : r.row < 2 ^ t.width
    pub list : FaultList t.population r.faults
    pub proposal : t.proposal ≡ r.proposal

  pub countable : (reply_refusal t r ≡ 0) ↔ Countable
  unfolding reply_refusal
  countable = (
    λ e.
        let h = (none_holds (reply_cases t r) refl).0 e in
        record {
          opening = record {
            population = (population_means t.population).0 (not-false _ h.0);
            shards = (shards_means t.data_shards t.width).0 (not-false _ h.1.1.0);
            enough = (quorum_means t.population t.quorum).0 (not-false _ h.1.1.1.0);
          };
          replica = ltb-true r.source t.population (not-false _ h.1.0);
          mask = ltb-true t.heard (2 ^ t.population) (not-false _ h.1.1.1.1.0);
          each_row = (all_means (is_row t.width) 0 (rows_in (take (t.population * 4) t.rows))).0 (not-false _ h.1.1.1.1.1.0);
          row = ltb-true r.row (2 ^ t.width) (not-false _ h.1.1.1.1.1.1.0);
          list = (fault_list_means t.population r.faults).0 (not-false _ h.1.1.1.1.1.1.1.0);
          proposal = (same_value_means t r.proposal).0 (not-false _ h.1.1.1.1.1.1.1.1.0);
        },
    λ s.
        simp (
          (population_means t.population).1 s.opening.population,
          lt-ltb r.source t.population s.replica,
          (shards_means t.data_shards t.width).1 s.opening.shards,
          (quorum_means t.population t.quorum).1 s.opening.enough,
          lt-ltb t.heard (2 ^ t.population) s.mask,
          (all_means (is_row t.width) 0 (rows_in (take (t.population * 4) t.rows))).1 s.each_row,
          lt-ltb r.row (2 ^ t.width) s.row,
          (fault_list_means t.population r.faults).1 s.list,
          (same_value_means t r.proposal).1 s.proposal,
        ),
  )
