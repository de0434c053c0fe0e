-- What the list of maximal members means: which sets are listed, that every member of the family is a part of one, and that the list rises. Assumes nothing.
use Prim.Native.Nat.{ℕ, zero, suc, ◌+◌, ◌^◌, ◌<◌, ◌≤◌}
use native.Mathlib.Omega.{arith}
use Rattle.std.proofs.Math.Nat.{le_trans}
use Rattle.std.specs.Prelude.{◌≡◌, ◌↔◌, Bool, ◌&&◌, ltb}
use Rattle.std.proofs.Math.Path.{refl, ap}
use Rattle.std.proofs.Common.{sym, subst, ◌∙◌, true≢false}
use Rattle.std.proofs.Math.Bool.{true, false, not, and-eq-true_iff}
use mathlib.Core.List.{List, Memᴰ}
use borrow.Author.Tests.{eq-eqb, ne_eqb, eqb-true, eqb-false, not-true}
use Rattle.std.specs.Int.Bits.{bit_and}
use Rattle.std.proofs.lemmas.Nat.{and_le_r}
use Rattle.std.proofs.Math.Dec.{eqb}
use Rattle.bitmap.specs.Mask.{bit}
use Rattle.bitmap.specs.MaskLaws.{Within, bit_of_and, same_bits}
use Rattle.lists.specs.Below.{those_below}
use Rattle.lists.specs.BelowLaws.{some_below_means, some_below_same, those_below_means, those_below_rising, those_below_same}
use Rattle.lists.specs.SortLaws.{Ordered}
use Rattle.marks.specs.Marks.{flagged}
use Rattle.maximal.specs.Maximal.{is_part, is_beyond, is_covered_by, is_maximal, maximals}
use Rattle.maximal.specs.Tables.{Flags}

-- ---- parts

pub part_means : (m s : ℕ) → (is_part m s ≡ true) ↔ Within m s
unfolding is_part
part_means m s = (
  λ e k. omega (arith, bit_of_and m s k, ap (λ (x : ℕ). bit x k) (eqb-true (bit_and m s) m e)),
  λ w. eq-eqb (bit_and m s) m (same_bits (bit_and m s) m (λ k. omega (arith, bit_of_and m s k, w k))),
)

-- a part is no larger as a number
pub within_le : (m s : ℕ) → Within m s → m ≤ s
unfolding is_part
within_le m s w = subst (λ (x : ℕ). x ≤ s) (eqb-true (bit_and m s) m ((part_means m s).1 w)) (and_le_r m s)

pub beyond_means : (m s : ℕ) → (is_beyond m s ≡ true) ↔ (Within m s × (m ≡ s → ⊥))
unfolding is_beyond
beyond_means m s = (
  λ e. let p = (and-eq-true_iff (is_part m s) (not (eqb m s))).0 e in ((part_means m s).0 p.0, eqb-false m s (not-true (eqb m s) p.1)),
  λ p. (and-eq-true_iff (is_part m s) (not (eqb m s))).1 ((part_means m s).1 p.0, ap not (ne_eqb m s p.1)),
)

-- ---- members and those beyond them

-- a member of the family that is a proper superset of m
pub record Covering (g : ℕ → Bool) (n m : ℕ) : Type 0 where
  pub set : ℕ
  pub small : set < 2 ^ n
  pub member : g set ≡ true
  pub holds : Within m set
  pub proper : m ≡ set → ⊥

-- a listed set that m is a part of
pub record Contained (g : ℕ → Bool) (n m : ℕ) : Type 0 where
  pub set : ℕ
  pub listed : Memᴰ set (maximals g n)
  pub holds : Within m set

module _ (g : ℕ → Bool) (n : ℕ) where
  pub covered_means : (m : ℕ) → (is_covered_by g n m ≡ true) ↔ Covering g n m
  unfolding is_covered_by
  covered_means m = (
    λ e.
        let r = (some_below_means (λ (s : ℕ). g s && is_beyond m s) (2 ^ n)).0 e in
        let p = (and-eq-true_iff (g r.number) (is_beyond m r.number)).0 r.passes in
        let q = (beyond_means m r.number).0 p.1 in
        record { set = r.number; small = r.small; member = p.0; holds = q.0; proper = q.1 },
    λ r. (some_below_means (λ (s : ℕ). g s && is_beyond m s) (2 ^ n)).1 (record {
      number = r.set;
      small = r.small;
      passes = (and-eq-true_iff (g r.set) (is_beyond m r.set)).1 (r.member, (beyond_means m r.set).1 (r.holds, r.proper));
    }),
  )

  -- m is a part of no other member
  abbrev pub Alone : ℕ → Type 0
  Alone m = (s : ℕ) → s < 2 ^ n → g s ≡ true → Within m s → m ≡ s

  pub is_maximal_means : (m : ℕ) → (is_maximal g n m ≡ true) ↔ ((g m ≡ true) × Alone m)
  unfolding is_maximal
  is_maximal_means m = (
    λ e. let p = (and-eq-true_iff (g m) (not (is_covered_by g n m))).0 e in (p.0, λ s l q w. itself s l q w (not-true (is_covered_by g n m) p.1) (eqb m s) refl),
    λ p. (and-eq-true_iff (g m) (not (is_covered_by g n m))).1 (p.0, ap not (uncovered p.1 (is_covered_by g n m) refl)),
  )
    where
      itself : (s : ℕ) → s < 2 ^ n → g s ≡ true → Within m s → is_covered_by g n m ≡ false → (b : Bool) → eqb m s ≡ b → m ≡ s
      itself s l q w f true e = eqb-true m s e
      itself s l q w f false e =
          absurd (true≢false (sym ((covered_means m).1 (record { set = s; small = l; member = q; holds = w; proper = eqb-false m s e })) ∙ f))

      uncovered : Alone m → (b : Bool) → is_covered_by g n m ≡ b → is_covered_by g n m ≡ false
      uncovered h true e = let r = (covered_means m).0 e in absurd (r.proper (h r.set r.small r.member r.holds))
      uncovered h false e = e

  -- ---- the list

  -- a mask is listed exactly if it is in the family, and a part of no other member
  pub maximal_means : (m : ℕ) → Memᴰ m (maximals g n) ↔ ((m < 2 ^ n) × (g m ≡ true) × ((s : ℕ) → s < 2 ^ n → g s ≡ true → Within m s → m ≡ s))
  unfolding maximals
  maximal_means m = (
    λ d. let p = (those_below_means (is_maximal g n) (2 ^ n) m).0 d in let q = (is_maximal_means m).0 p.1 in (p.0, q.0, q.1),
    λ p. (those_below_means (is_maximal g n) (2 ^ n) m).1 (p.0, (is_maximal_means m).1 (p.1, p.2)),
  )

  -- strictly: none is listed twice
  pub rising : Ordered ltb (maximals g n)
  unfolding maximals
  rising = those_below_rising (is_maximal g n) (2 ^ n)

  -- a proper superset is a larger number
  climb : (k m : ℕ) → 2 ^ n ≤ m + k → m < 2 ^ n → g m ≡ true → Contained g n m
  unfolding maximals is_maximal
  climb zero m h l e = absurd (omega arith)
  climb (suc k) m h l e = go (is_covered_by g n m) refl (climb k)
    where
      go : (b : Bool) → is_covered_by g n m ≡ b → ((s : ℕ) → 2 ^ n ≤ s + k → s < 2 ^ n → g s ≡ true → Contained g n s) → Contained g n m
      go true q up =
          let r = (covered_means m).0 q in
          let t = within_le m r.set r.holds in
          let x = r.proper in
          let u = up r.set (omega arith) r.small r.member in
          record { set = u.set; listed = u.listed; holds = λ s. le_trans (r.holds s) (u.holds s) }
      go false q up = record { set = m; listed = (those_below_means (is_maximal g n) (2 ^ n) m).1 (l, rw (e, q)); holds = λ s. omega arith }

  -- every member of the family is a part of a listed set
  pub contained : (m : ℕ) → m < 2 ^ n → g m ≡ true → Contained g n m
  contained m = climb (2 ^ n) m (omega arith)

-- ---- families that agree

module _ (f g : ℕ → Bool) (n : ℕ) (agree : (k : ℕ) → k < 2 ^ n → f k ≡ g k) where
  pub is_maximal_same : (m : ℕ) → m < 2 ^ n → is_maximal f n m ≡ is_maximal g n m
  unfolding is_maximal is_covered_by
  is_maximal_same m l =
      rw (agree m l, some_below_same (λ (s : ℕ). f s && is_beyond m s) (λ (s : ℕ). g s && is_beyond m s) (2 ^ n) (λ s i. rw (agree s i)))

  pub maximals_same : maximals f n ≡ maximals g n
  unfolding maximals
  maximals_same = those_below_same (is_maximal f n) (is_maximal g n) (2 ^ n) is_maximal_same

-- ---- a table that flags the maximal members alone lists them

pub kept_list : (g : ℕ → Bool) (n : ℕ) (t : List ℕ) → Flags n (is_maximal g n) t → those_below (flagged t) (2 ^ n) ≡ maximals g n
unfolding Flags maximals
kept_list g n t h = those_below_same (flagged t) (is_maximal g n) (2 ^ n) h
