-- What each range check says: the facts that a passed check gives. Assumes nothing.
use Rattle.std.specs.Prelude.{◌≡◌, ◌↔◌, Bool, true, false, not, ◌&&◌, List, ℕ, ◌^◌, ◌≤◌, ◌<◌, leb, eqb, length, get_or}
use Rattle.std.proofs.Common.{ap, ◌∙◌, lt_of_lt_of_le, arith, pow_pos, pow_mono, leb-true, le-leb, ltb-true, lt-ltb, le-ltb, eq-eqb, ne_eqb}
use Rattle.std.proofs.Math.Bool.{and-eq-true_iff}
use Rattle.std.proofs.Math.Decide.{dec_lt, ℕ_discrete}
use Rattle.std.proofs.Math.ListN.{get_or-eq_default}
use Rattle.std.proofs.lemmas.Bool.{eqb-false, not-true, not-false}
use Rattle.std.specs.List.{list_all}
use Rattle.lists.specs.AllLaws.{Each, all_means}
use Rattle.lists.specs.BelowLaws.{none_below_means}
use Rattle.bitmap.specs.Mask.{bit, all_below}
use Rattle.bitmap.specs.MaskLaws.{below_means, full_bit, full}
use Rattle.rows.proofs.TableLaws.{Rows}
use Rattle.refusals.specs.Limits.{most_shards, is_population, is_shards, is_quorum, is_in_flight, is_overfull, peers_fit, is_mask, is_row, is_fault_set, is_fault_list, is_under}

-- a bound and what else is tested
bound : (a b : ℕ) (t : Bool) → ((leb a b && t) ≡ true) ↔ ((a ≤ b) × (t ≡ true))
bound a b t = (
  λ e. let p = (and-eq-true_iff (leb a b) t).0 e in (leb-true a b p.0, p.1),
  λ h. (and-eq-true_iff (leb a b) t).1 (le-leb a b h.0, h.1),
)

-- a lowest and a highest number
between : (a b x y : ℕ) → ((leb a b && leb x y) ≡ true) ↔ ((a ≤ b) × (x ≤ y))
between a b x y = (
  λ e. let p = (bound a b (leb x y)).0 e in (p.0, leb-true x y p.1),
  λ h. (bound a b (leb x y)).1 (h.0, le-leb x y h.1),
)

pub population_means : (n : ℕ) → (is_population n ≡ true) ↔ ((1 ≤ n) × (n ≤ 16))
unfolding is_population
population_means n = between 1 n n 16

pub quorum_means : (n q : ℕ) → (is_quorum n q ≡ true) ↔ ((1 ≤ q) × (q ≤ n))
unfolding is_quorum
quorum_means n q = between 1 q q n

pub shards_means : (d w : ℕ) → (is_shards d w ≡ true) ↔ ((1 ≤ d) × (d ≤ w) × (w ≤ 255))
unfolding is_shards
shards_means d w = (
  λ e.
      let p = (bound 1 d (leb d w && leb w most_shards)).0 e in
      let q = (between d w w most_shards).0 p.1 in
      (p.0, q.0, q.1),
  λ h. (bound 1 d (leb d w && leb w most_shards)).1 (h.0, (between d w w most_shards).1 (h.1, h.2)),
)

-- at most 2 ^ 40 bytes are in flight to each peer
abbrev pub InFlight : ℕ → ℕ → (ℕ → ℕ) → Type 0
InFlight n own bytes = (p : ℕ) → p < n → (p ≡ own → ⊥) → bytes p ≤ 2 ^ 40

pub peers_fit_means : (n own : ℕ) (bytes : ℕ → ℕ) → (peers_fit n own bytes ≡ true) ↔ InFlight n own bytes
unfolding peers_fit
peers_fit_means n own bytes =
    let m = none_below_means (λ (p : ℕ). is_overfull own p (bytes p)) n in (
      λ e p l h. leb-true (bytes p) (2 ^ 40) (within p (m.0 (not-true _ e) p l) h),
      λ b. ap not (m.1 (λ p l. fits p (ℕ_discrete p own) (b p l))),
    )
  where
    within : (p : ℕ) → is_overfull own p (bytes p) ≡ false → (p ≡ own → ⊥) → is_in_flight (bytes p) ≡ true
    within p e h = not-false _ (rw (ne_eqb p own h) at e)

    fits : (p : ℕ) → Dec (p ≡ own) → ((p ≡ own → ⊥) → bytes p ≤ 2 ^ 40) → is_overfull own p (bytes p) ≡ false
    fits p (yes q) b = rw (eq-eqb p own q)
    fits p (no q) b = rw (ne_eqb p own q, le-leb (bytes p) (2 ^ 40) (b q))

-- a fault set names no replica at or above n, and not all n
pub fault_set_means : (n f : ℕ)
    → (is_fault_set n f ≡ true) ↔ (((s : ℕ) → n ≤ s → bit f s ≡ 0) × (((s : ℕ) → s < n → bit f s ≡ 1) → ⊥))
fault_set_means n f = (
  λ e.
      let p = (and-eq-true_iff (is_mask n f) (not (eqb f (all_below n)))).0 e in (
        (below_means n f).0 p.0,
        λ every. eqb-false f (all_below n) (not-true (eqb f (all_below n)) p.1) (full n f (ltb-true f (2 ^ n) p.0) every),
      ),
  λ h.
      (and-eq-true_iff (is_mask n f) (not (eqb f (all_below n)))).1 (
        (below_means n f).1 h.0,
        ap not (ne_eqb f (all_below n) (λ (e : f ≡ all_below n). h.1 (λ s k. ap (λ (m : ℕ). bit m s) e ∙ full_bit n s k))),
      ),
)

-- as a number it is below the mask of all n
pub fault_set_under : (n f : ℕ) → is_under (all_below n) f ≡ is_fault_set n f
fault_set_under n f = go (dec_lt f (all_below n)) (dec_lt f (2 ^ n))
  where
    go : Dec (f < all_below n) → Dec (f < 2 ^ n) → is_under (all_below n) f ≡ is_fault_set n f
    go (yes l) (yes k) = rw (lt-ltb f (all_below n) l, lt-ltb f (2 ^ n) k, ne_eqb f (all_below n) (λ (e : f ≡ all_below n). omega arith))
    go (yes l) (no k) = absurd (omega arith)
    go (no l) (yes k) =
        let e : f ≡ all_below n = omega arith in
        rw (le-ltb f (all_below n) (omega arith), lt-ltb f (2 ^ n) k, eq-eqb f (all_below n) e)
    go (no l) (no k) = rw (le-ltb f (all_below n) (omega arith), le-ltb f (2 ^ n) (omega arith))

-- a fault list has a set, and each of its sets is a fault set
pub fault_list_means : (n : ℕ) (faults : List ℕ) → (is_fault_list n faults ≡ true) ↔ ((length faults ≡ 0 → ⊥) × Each (is_fault_set n) 0 faults)
unfolding is_fault_list
fault_list_means n faults = (
  λ e.
      let p = (and-eq-true_iff (not (eqb (length faults) 0)) (list_all (is_fault_set n) faults)).0 e in
      (eqb-false (length faults) 0 (not-true (eqb (length faults) 0) p.0), (all_means (is_fault_set n) 0 faults).0 p.1),
  λ h.
      (and-eq-true_iff (not (eqb (length faults) 0)) (list_all (is_fault_set n) faults)).1
      (ap not (ne_eqb (length faults) 0 h.0), (all_means (is_fault_set n) 0 faults).1 h.1),
)

-- as many rows as replicas, each of shards below the width: what the checks for 16 and 17 ask of a table of rows
abbrev pub AreRows : ℕ → ℕ → List ℕ → Type 0
AreRows n w rows = (length rows ≡ n) × (list_all (is_row w) rows ≡ true)

-- such rows of a width that has been tested have room in four words
pub rows_small : (n w : ℕ) (rows : List ℕ) → AreRows n w rows → w ≤ most_shards → Rows rows
rows_small n w rows r l i = go (dec_lt i (length rows))
  where
    go : Dec (i < length rows) → get_or rows i 0 < 2 ^ 256
    go (yes k) = lt_of_lt_of_le (ltb-true (get_or rows i 0) (2 ^ w) ((all_means (is_row w) 0 rows).0 r.1 i k)) (pow_mono {i = w} {j = 256} (omega arith))
    go (no k) = rw (get_or-eq_default rows 0 {n = i} (omega arith)) (pow_pos 256)
