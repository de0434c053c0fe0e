-- What the commit rule and the discard rule say in shards and replicas: `covered_means`, `survived_means` and, for the entries, `covers_means` and
-- `survived_by_means`. What is covered stays so with more heard and more shards in the rows, and a set that is survived speaks for every set within it.
-- Assumes nothing.
use Rattle.std.specs.Prelude.{◌≡◌, ◌↔◌, Bool, true, false, not, cond, ◌&&◌, List, eqb, leb, length, get_or}
use Rattle.std.proofs.Math.Path.{refl, ap}
use Rattle.std.proofs.Common.{◌∙◌, not-suc-le-zero, eq-or-lt_of_le, le_of_suc-le-suc, arith, le_trans, eqb-true, eq-eqb, ne_eqb, leb-true, le-leb, ltb-true}
use Rattle.std.proofs.Math.Logic.{⊎_elim}
use Rattle.std.proofs.Math.Bool.{and-eq-true_iff}
use Prim.Native.Nat.{ℕ, zero, suc, ◌^◌, ◌≤◌, ◌<◌}
use Rattle.std.proofs.Math.Nat.{le_step, le_refl}
use Rattle.std.proofs.Math.Decide.{ℕ_discrete}
use Rattle.std.specs.Int.Bits.{bit_or}
use Rattle.std.proofs.lemmas.Nat.{or_lt}
use Rattle.std.proofs.lemmas.Bool.{eqb-false, not-true}
use Rattle.std.specs.List.{list_all}
use Rattle.lists.specs.AllLaws.{all_means, any_means}
use Rattle.bitmap.specs.Mask.{bit, has_bit, all_below, count}
use Rattle.rows.specs.Row.{row_in}
use Rattle.bitmap.specs.MaskLaws.{Within, bit_lt, bit_none, bit_of_or, same_bits, full, full_bit}
use Rattle.bitmap.specs.CountLaws.{count_within}
use Rattle.bitmap.specs.Members.{Many, count_means, many_map}
use Rattle.refusals.specs.Limits.{is_mask}
use Rattle.refusals.specs.OutcomeLaws.{accepted_means}
use Rattle.refusals.specs.Outcome.{accepted}
use Rattle.coverage.specs.Coverage.{share_of, union_of, leaves, is_covered, commits, covers_refusal, covers_of, spares, is_survived, survived_refusal, survived_of}
use Rattle.coverage.proofs.RefusalLaws.{survived_fit}

-- ---- which shards are left

-- some heard replica below n, outside the set, holds the shard k
pub record Held (row : ℕ → ℕ) (heard fault n k : ℕ) : Type 0 where
  pub replica : ℕ
  pub known : replica < n
  pub is_heard : bit heard replica ≡ 1
  pub outside : bit fault replica ≡ 0
  pub holds : bit (row replica) k ≡ 1

module _ (row : ℕ → ℕ) (heard fault k : ℕ) where
  -- what s itself adds
  share_held : (s : ℕ) → bit (share_of row heard fault s) k ≡ 1 → (bit heard s ≡ 1) × (bit fault s ≡ 0) × (bit (row s) k ≡ 1)
  share_held s = go (has_bit heard s) (has_bit fault s) refl refl
    where
      go : (a b : Bool) → has_bit heard s ≡ a → has_bit fault s ≡ b → bit (cond (a && not b) (row s) 0) k ≡ 1
          → (bit heard s ≡ 1) × (bit fault s ≡ 0) × (bit (row s) k ≡ 1)
      go true true p q e = absurd (omega (arith, bit_none k))
      go true false p q e =
          let f : (bit fault s ≡ 1 → ⊥) = eqb-false (bit fault s) 1 q in
          (eqb-true (bit heard s) 1 p, omega arith, e)
      go false b p q e = absurd (omega (arith, bit_none k))

  held_share : (s : ℕ) → bit heard s ≡ 1 → bit fault s ≡ 0 → share_of row heard fault s ≡ row s
  held_share s h f = simp (eq-eqb (bit heard s) 1 h, ne_eqb (bit fault s) 1 (omega arith))

  forth : (n : ℕ) → bit (union_of row heard fault n) k ≡ 1 → Held row heard fault n k
  unfolding union_of
  forth zero e = absurd (omega (arith, bit_none k))
  forth (suc n) e = go (forth n) (bit (share_of row heard fault n) k) refl
    where
      go : (bit (union_of row heard fault n) k ≡ 1 → Held row heard fault n k) → (b : ℕ) → bit (share_of row heard fault n) k ≡ b → Held row heard fault (suc n) k
      go ih zero z =
          let h = ih (omega (arith, bit_of_or (union_of row heard fault n) (share_of row heard fault n) k)) in
          record { replica = h.replica; known = le_step h.known; is_heard = h.is_heard; outside = h.outside; holds = h.holds }
      go ih (suc b) z =
          let h = share_held n (omega arith) in
          record { replica = n; known = le_refl (suc n); is_heard = h.0; outside = h.1; holds = h.2 }

  back : (n s : ℕ) → s < n → bit (share_of row heard fault s) k ≡ 1 → bit (union_of row heard fault n) k ≡ 1
  unfolding union_of
  back zero s l e = absurd (not-suc-le-zero l)
  back (suc n) s l e =
      ⊎_elim
      (λ q. omega (arith, bit_of_or (union_of row heard fault n) (share_of row heard fault n) k, ap (λ (t : ℕ). bit (share_of row heard fault t) k) q))
      (λ q. omega (arith, bit_of_or (union_of row heard fault n) (share_of row heard fault n) k, back n s q e))
      (eq-or-lt_of_le (le_of_suc-le-suc l))

  -- the union has exactly the shards that are held
  pub union_means : (n : ℕ) → (bit (union_of row heard fault n) k ≡ 1) ↔ Held row heard fault n k
  union_means n = (
    forth n,
    λ h. back n h.replica h.known (ap (λ (m : ℕ). bit m k) (held_share h.replica h.is_heard h.outside) ∙ h.holds),
  )

-- without the set there are d pairwise different shards, each in the row of a heard replica outside it
pub leaves_means : (n d heard : ℕ) (row : ℕ → ℕ) (fault : ℕ) → (leaves n d heard row fault ≡ true) ↔ Many d (Held row heard fault n)
unfolding leaves
leaves_means n d heard row fault = (
  λ e. many_map (λ k. (union_means row heard fault k n).0) ((count_means d m).0 (leb-true d (count m) e)),
  λ h. le-leb d (count m) ((count_means d m).1 (many_map (λ k. (union_means row heard fault k n).1) h)),
)
  where
    m : ℕ
    m = union_of row heard fault n

-- ---- coverage

-- somebody is heard (the mask is not 0), and without any one listed set there are d such shards
pub record Survives (n d heard : ℕ) (row : ℕ → ℕ) (faults : List ℕ) : Type 0 where
  pub somebody : heard ≡ 0 → ⊥
  pub each_set : (i : ℕ) → i < length faults → Many d (Held row heard (get_or faults i 0) n)

pub covered_means : (n d heard : ℕ) (row : ℕ → ℕ) (faults : List ℕ) → (is_covered n d heard row faults ≡ true) ↔ Survives n d heard row faults
unfolding is_covered
covered_means n d heard row faults = (
  λ e.
      let p = (and-eq-true_iff (not (eqb heard 0)) (list_all (leaves n d heard row) faults)).0 e in
      record {
        somebody = eqb-false heard 0 (not-true (eqb heard 0) p.0);
        each_set = λ i l. (leaves_means n d heard row (get_or faults i 0)).0 ((all_means (leaves n d heard row) 0 faults).0 p.1 i l);
      },
  λ s.
      (and-eq-true_iff (not (eqb heard 0)) (list_all (leaves n d heard row) faults)).1 (
        ap not (ne_eqb heard 0 s.somebody),
        (all_means (leaves n d heard row) 0 faults).1 (λ i l. (leaves_means n d heard row (get_or faults i 0)).1 (s.each_set i l)),
      ),
)

-- there are a quorum of pairwise different replicas heard, and their rows survive
pub commits_means : (n quorum d heard : ℕ) (row : ℕ → ℕ) (faults : List ℕ)
    → (commits n quorum d heard row faults ≡ true) ↔ (Many quorum (λ s. bit heard s ≡ 1) × Survives n d heard row faults)
unfolding commits
commits_means n quorum d heard row faults =
    let a = and-eq-true_iff (leb quorum (count heard)) (is_covered n d heard row faults) in
    let q = count_means quorum heard in
    let c = covered_means n d heard row faults in (
      λ e. (q.0 (leb-true quorum (count heard) (a.0 e).0), c.0 (a.0 e).1),
      λ h. a.1 (le-leb quorum (count heard) (q.1 h.0), c.1 h.1),
    )

-- ---- more heard, more shards in the rows, a smaller set: none of these loses a shard

-- the shards that are left
pub union_grows : (n heard heard' : ℕ) (row row' : ℕ → ℕ) (fault fault' : ℕ) → Within heard heard' → ((s : ℕ) → Within (row s) (row' s)) → Within fault' fault
    → Within (union_of row heard fault n) (union_of row' heard' fault' n)
union_grows n heard heard' row row' fault fault' more wider less k =
    within (bit (union_of row heard fault n) k) (bit_lt (union_of row heard fault n) k)
    (λ e. (union_means row' heard' fault' k n).1 (grown ((union_means row heard fault k n).0 e)))
  where
    within : (a : ℕ) → a < 2 → (a ≡ 1 → bit (union_of row' heard' fault' n) k ≡ 1) → a ≤ bit (union_of row' heard' fault' n) k
    within zero l f = omega arith
    within (suc zero) l f = omega (arith, f refl)
    within (suc (suc a)) l f = absurd (omega (arith, l))

    grown : Held row heard fault n k → Held row' heard' fault' n k
    grown h =
        let s = h.replica in
        record {
          replica = s;
          known = h.known;
          is_heard = omega (arith, h.is_heard, more s, bit_lt heard' s);
          outside = omega (arith, h.outside, less s);
          holds = omega (arith, h.holds, wider s k, bit_lt (row' s) k);
        }

pub leaves_grows : (n d heard heard' : ℕ) (row row' : ℕ → ℕ) (fault fault' : ℕ) → Within heard heard' → ((s : ℕ) → Within (row s) (row' s)) → Within fault' fault
    → leaves n d heard row fault ≡ true → leaves n d heard' row' fault' ≡ true
unfolding leaves
leaves_grows n d heard heard' row row' fault fault' more wider less e =
    le-leb d (count (union_of row' heard' fault' n))
    (le_trans (leb-true d (count (union_of row heard fault n)) e)
    (count_within (union_of row heard fault n) (union_of row' heard' fault' n) (union_grows n heard heard' row row' fault fault' more wider less)))

-- what survives a set survives every set within it
pub leaves_within : (n d heard : ℕ) (row : ℕ → ℕ) (fault f : ℕ) → Within f fault → leaves n d heard row fault ≡ true → leaves n d heard row f ≡ true
leaves_within n d heard row fault f = leaves_grows n d heard heard row row fault f (λ s. le_refl (bit heard s)) (λ s k. le_refl (bit (row s) k))

-- what is covered stays covered with more heard and more shards in the rows
pub covered_grows : (n d heard heard' : ℕ) (row row' : ℕ → ℕ) (faults : List ℕ) → Within heard heard' → ((s : ℕ) → Within (row s) (row' s))
    → is_covered n d heard row faults ≡ true → is_covered n d heard' row' faults ≡ true
covered_grows n d heard heard' row row' faults more wider e =
    let s = (covered_means n d heard row faults).0 e in
    (covered_means n d heard' row' faults).1
    (record {
      somebody = λ z. s.somebody (same_bits heard 0 (λ k. omega (arith, more k, ap (λ (m : ℕ). bit m k) z, bit_none k)));
      each_set = λ i l.
          let f = get_or faults i 0 in
          (leaves_means n d heard' row' f).0
          (leaves_grows n d heard heard' row row' f f more wider (λ k. le_refl (bit f k)) ((leaves_means n d heard row f).1 (s.each_set i l)));
    })

-- a list of the largest sets speaks for every set within one of them
pub within_tolerated : (n d heard : ℕ) (row : ℕ → ℕ) (faults : List ℕ) → is_covered n d heard row faults ≡ true
    → (i f : ℕ) → i < length faults → Within f (get_or faults i 0) → leaves n d heard row f ≡ true
within_tolerated n d heard row faults e i f l h =
    leaves_within n d heard row (get_or faults i 0) f h ((leaves_means n d heard row (get_or faults i 0)).1 (((covered_means n d heard row faults).0 e).each_set i l))

-- ---- survival

-- the set f contains every one of n replicas that is not heard
abbrev pub Contains : ℕ → ℕ → ℕ → Type 0
Contains n heard f = (s : ℕ) → s < n → (bit heard s ≡ 1 → ⊥) → bit f s ≡ 1

pub spares_means : (n heard f : ℕ) → heard < 2 ^ n → f < 2 ^ n → (spares n heard f ≡ true) ↔ Contains n heard f
spares_means n heard f h l = (
  λ e s k u. omega (arith, bit_of_or f heard s, ap (λ (m : ℕ). bit m s) (eqb-true (bit_or f heard) (all_below n) e), full_bit n s k),
  λ c. eq-eqb (bit_or f heard) (all_below n) (full n (bit_or f heard) (or_lt n f heard l h) (λ s k. go s (c s k) (ℕ_discrete (bit heard s) 1))),
)
  where
    go : (s : ℕ) → ((bit heard s ≡ 1 → ⊥) → bit f s ≡ 1) → Dec (bit heard s ≡ 1) → bit (bit_or f heard) s ≡ 1
    go s c (yes q) = omega (arith, bit_of_or f heard s, bit_lt f s)
    go s c (no u) = omega (arith, bit_of_or f heard s, c u)

-- at some place of the list there is such a set
pub record Spared (n heard : ℕ) (faults : List ℕ) : Type 0 where
  pub place : ℕ
  pub inside : place < length faults
  pub contains : Contains n heard (get_or faults place 0)

pub survived_means : (n heard : ℕ) (faults : List ℕ) → heard < 2 ^ n → ((i : ℕ) → i < length faults → get_or faults i 0 < 2 ^ n)
    → (is_survived n heard faults ≡ true) ↔ Spared n heard faults
survived_means n heard faults h below = (
  λ e.
      let s = (any_means (spares n heard) 0 faults).0 e in
      let i = s.place in
      record { place = i; inside = s.inside; contains = (spares_means n heard (get_or faults i 0) h (below i s.inside)).0 s.passes },
  λ s.
      let i = s.place in
      (any_means (spares n heard) 0 faults).1
      (record { place = i; inside = s.inside; passes = (spares_means n heard (get_or faults i 0) h (below i s.inside)).1 s.contains }),
)

-- ---- the entries: the answer is yes exactly if nothing refuses and the rule holds

pub covers_means : (n d w heard : ℕ) (rows faults : List ℕ)
    → (covers_of n d w heard rows faults ≡ accepted true) ↔ ((covers_refusal n d w heard rows faults ≡ 0) × Survives n d heard (row_in rows) faults)
unfolding covers_of
covers_means n d w heard rows faults =
    let m = accepted_means (covers_refusal n d w heard rows faults) (is_covered n d heard (row_in rows) faults) true in
    let c = covered_means n d heard (row_in rows) faults in
    (λ e. ((m.0 e).0, c.0 (m.0 e).1), λ h. m.1 (h.0, c.1 h.1))

pub survived_by_means : (n heard : ℕ) (faults : List ℕ)
    → (survived_of n heard faults ≡ accepted true) ↔ ((survived_refusal n heard faults ≡ 0) × Spared n heard faults)
unfolding survived_of
survived_by_means n heard faults =
    let m = accepted_means (survived_refusal n heard faults) (is_survived n heard faults) true in
    (λ e. ((m.0 e).0, (fit (m.0 e).0).0 (m.0 e).1), λ h. m.1 (h.0, (fit h.0).1 h.1))
  where
    fit : survived_refusal n heard faults ≡ 0 → (is_survived n heard faults ≡ true) ↔ Spared n heard faults
    fit z =
        let s = (survived_fit n heard faults).0 z in
        survived_means n heard faults s.mask (λ i l. ltb-true (get_or faults i 0) (2 ^ n) ((and-eq-true_iff (is_mask n (get_or faults i 0)) (not (eqb (get_or faults i 0) (all_below n)))).0 (s.list.1 i l)).0)
