-- The supersets of a set that have further members below b alone, what the pass over the replica b adds to them, and when a set is maximal,
-- by the sets with one member more. Assumes nothing.
use Prim.Native.Nat.{ℕ, ◌+◌, ◌/◌, ◌^◌, ◌<◌, ◌≤◌, max}
use native.Mathlib.Omega.{arith}
use native.Mathlib.Nat.{le_trans, div-one, div-eq_of_lt, mod-lt}
use native.Mathlib.Decide.{ℕ_discrete, dec_lt}
use mathlib.Core.Path.{◌≡◌, refl, sym, ap, subst, ◌∙◌}
use mathlib.Core.Logic.{◌↔◌}
use mathlib.Core.Bool.{Bool, true, false, not, ◌&&◌, ◌||◌, and-eq-true_iff, true≢false}
use mathlib.Core.List.{List}
use borrow.Author.Tests.{eq-eqb, ne_eqb, eqb-true, eqb-false, ltb-true, ltb-false, not-true}
use lib.Bits.{bit_and, or_disjoint, or_lt}
use lib.Dec.{eqb, ltb}
use lib.Pow.{pow-lt, pow_pos, shr-shr, split, high}
use Rattle.bitmap.specs.Mask.{bit}
use Rattle.bitmap.specs.MaskLaws.{Within, bit_of_and, bit_of_or, bit_none, bit_other, below_bit, same_bits}
use Rattle.lists.specs.Below.{some_below}
use Rattle.lists.specs.BelowLaws.{Passing, some_below_means, some_below_same, none_below_means}
use Rattle.marks.specs.Marks.{flagged}
use Rattle.maximal.specs.Maximal.{is_part, is_maximal}
use Rattle.maximal.proofs.MaximalLaws.{Alone, within_le, part_means, is_maximal_means}
use Rattle.maximal.specs.Tables.{Flags, is_within, is_lacking, is_shown, is_top}

-- ---- m with a member b that it lacks
module _ (m b : ℕ) (lacks : bit m b ≡ 0) where
  apart : bit_and m (2 ^ b) ≡ 0
  apart = same_bits (bit_and m (2 ^ b)) 0 (λ k. go k (eqb k b) refl)
    where
      go : (k : ℕ) (t : Bool) → eqb k b ≡ t → bit (bit_and m (2 ^ b)) k ≡ bit 0 k
      go k true q = omega (arith, bit_of_and m (2 ^ b) k, bit_none k, subst (λ (x : ℕ). bit m x ≡ 0) (sym (eqb-true k b q)) lacks)
      go k false q = omega (arith, bit_of_and m (2 ^ b) k, bit_none k, bit_other b k (eqb-false k b q))

  bit_more : (k : ℕ) → bit (m + 2 ^ b) k ≡ max (bit m k) (bit (2 ^ b) k)
  bit_more k = ap (λ (x : ℕ). bit x k) (sym (or_disjoint m (2 ^ b) apart)) ∙ bit_of_or m (2 ^ b) k

  pub more_lt : (n : ℕ) → b < n → m < 2 ^ n → m + 2 ^ b < 2 ^ n
  more_lt n h l = subst (λ (x : ℕ). x < 2 ^ n) (or_disjoint m (2 ^ b) apart) (or_lt n m (2 ^ b) l (pow-lt h))

  within_more : Within m (m + 2 ^ b)
  within_more k = omega (arith, bit_more k)

  more_within : (s : ℕ) → Within m s → bit m b < bit s b → Within (m + 2 ^ b) s
  more_within s w h k = go (eqb k b) refl
    where
      go : (t : Bool) → eqb k b ≡ t → bit (m + 2 ^ b) k ≤ bit s k
      go true q = let o : bit m k < bit s k = subst (λ (x : ℕ). bit m x < bit s x) (sym (eqb-true k b q)) h in omega arith
      go false q = omega (arith, bit_more k, w k, bit_other b k (eqb-false k b q))

-- a proper superset has a member that m lacks
missing : (n m s : ℕ) → m < 2 ^ n → s < 2 ^ n → Within m s → (m ≡ s → ⊥) → Passing (λ (b : ℕ). ltb (bit m b) (bit s b)) n
missing n m s hm hs w p = go (some_below lacks n) refl
  where
    lacks : ℕ → Bool
    lacks b = ltb (bit m b) (bit s b)

    go : (t : Bool) → some_below lacks n ≡ t → Passing lacks n
    go true q = (some_below_means lacks n).0 q
    go false q =
        absurd (p (same_bits m s (λ k. elim (dec_lt k n) [
          | yes l ↦ omega (arith, w k, ltb-false (bit m k) (bit s k) ((none_below_means lacks n).0 q k l))
          | no f ↦ below_bit n m k hm (omega arith) ∙ sym (below_bit n s k hs (omega arith))
        ])))

-- what is left of a number above b, and above b + 1
half : (m b : ℕ) → m / 2 ^ (b + 1) ≡ m / 2 ^ b / 2
half m b = sym (shr-shr m b 1)

raised : (m b : ℕ) → (m + 2 ^ b) / 2 ^ b ≡ m / 2 ^ b + 1
raised m b = ap (λ (x : ℕ). x / 2 ^ b) (let s = split m b in omega arith) ∙ high (m / 2 ^ b + 1) b (mod-lt m (pow_pos b))

-- two tests that hold together
both_ways : (a b : Bool) → (a ≡ true → b ≡ true) → (b ≡ true → a ≡ true) → a ≡ b
both_ways true b f g = sym (f refl)
both_ways false true f g = g refl
both_ways false false f g = refl

-- ---- some superset of m in the family g has the members of m from b on, and no others there
module _ (g : ℕ → Bool) (n : ℕ) where
  abbrev pub is_reached : ℕ → ℕ → Bool
  is_reached b m = some_below (λ (s : ℕ). (g s && is_part m s) && eqb (s / 2 ^ b) (m / 2 ^ b)) (2 ^ n)

  record Reaching (b m : ℕ) : Type 0 where
    pub set : ℕ
    pub small : set < 2 ^ n
    pub member : g set ≡ true
    pub holds : Within m set
    pub same : set / 2 ^ b ≡ m / 2 ^ b

  reached_means : (b m : ℕ) → (is_reached b m ≡ true) ↔ Reaching b m
  reached_means b m = (
    λ e.
        let r = (some_below_means (λ (s : ℕ). (g s && is_part m s) && eqb (s / 2 ^ b) (m / 2 ^ b)) (2 ^ n)).0 e in
        let s : ℕ = r.number in
        let p = (and-eq-true_iff (g s && is_part m s) (eqb (s / 2 ^ b) (m / 2 ^ b))).0 r.passes in
        let q = (and-eq-true_iff (g s) (is_part m s)).0 p.0 in
        record { set = s; small = r.small; member = q.0; holds = (part_means m s).0 q.1; same = eqb-true (s / 2 ^ b) (m / 2 ^ b) p.1 },
    λ r. (some_below_means (λ (s : ℕ). (g s && is_part m s) && eqb (s / 2 ^ b) (m / 2 ^ b)) (2 ^ n)).1 (record {
      number = r.set;
      small = r.small;
      passes = (and-eq-true_iff (g r.set && is_part m r.set) (eqb (r.set / 2 ^ b) (m / 2 ^ b))).1 (
        (and-eq-true_iff (g r.set) (is_part m r.set)).1 (r.member, (part_means m r.set).1 r.holds),
        eq-eqb (r.set / 2 ^ b) (m / 2 ^ b) r.same,
      );
    }),
  )

  -- from 0 on that is m alone
  pub reached_none : (m : ℕ) → m < 2 ^ n → is_reached 0 m ≡ g m
  reached_none m l =
      both_ways (is_reached 0 m) (g m)
      (λ e. let r = (reached_means 0 m).0 e in ap g (sym (div-one m) ∙ sym r.same ∙ div-one r.set) ∙ r.member)
      (λ e. (reached_means 0 m).1 (record { set = m; small = l; member = e; holds = λ k. omega arith; same = refl }))

  -- from n on there is nothing else
  pub reached_all : (m : ℕ) → m < 2 ^ n → is_reached n m ≡ is_within g n m
  reached_all m l =
      some_below_same (λ (s : ℕ). (g s && is_part m s) && eqb (s / 2 ^ n) (m / 2 ^ n)) (λ (s : ℕ). g s && is_part m s) (2 ^ n)
      (λ s i. rw (div-eq_of_lt i, div-eq_of_lt l) (last (g s && is_part m s)))
    where
      last : (x : Bool) → (x && true) ≡ x
      last true = refl
      last false = refl

  -- the pass over b
  module _ (b m : ℕ) where
    wider : Reaching b m → Reaching (b + 1) m
    wider r = record {
      set = r.set;
      small = r.small;
      member = r.member;
      holds = r.holds;
      same = half r.set b ∙ ap (λ (x : ℕ). x / 2) r.same ∙ sym (half m b);
    }

    with_it : bit m b ≡ 0 → Reaching b (m + 2 ^ b) → Reaching (b + 1) m
    with_it z r =
        let alike : (m + 2 ^ b) / 2 ^ (b + 1) ≡ m / 2 ^ (b + 1) = omega (arith, half (m + 2 ^ b) b, half m b, raised m b) in
        record {
          set = r.set;
          small = r.small;
          member = r.member;
          holds = λ k. le_trans (within_more m b z k) (r.holds k);
          same = half r.set b ∙ ap (λ (x : ℕ). x / 2) r.same ∙ sym (half (m + 2 ^ b) b) ∙ alike;
        }

    narrower : Reaching (b + 1) m → (is_reached b m || (is_lacking b m && is_reached b (m + 2 ^ b))) ≡ true
    narrower r = go (ℕ_discrete (bit r.set b) (bit m b))
      where
        s : ℕ
        s = r.set

        halves : s / 2 ^ b / 2 ≡ m / 2 ^ b / 2
        halves = sym (half s b) ∙ r.same ∙ half m b

        or_true : (x : Bool) → (x || true) ≡ true
        or_true true = refl
        or_true false = refl

        go : Dec (bit s b ≡ bit m b) → (is_reached b m || (is_lacking b m && is_reached b (m + 2 ^ b))) ≡ true
        go (yes e) =
            rw ((reached_means b m).1 (record { set = s; small = r.small; member = r.member; holds = r.holds; same = omega (arith, halves) }))
        go (no d) =
            let h = r.holds b in
            let z : bit m b ≡ 0 = omega arith in
            let o : bit s b ≡ 1 = omega arith in
            let q : is_reached b (m + 2 ^ b) ≡ true = (reached_means b (m + 2 ^ b)).1 (record {
              set = s;
              small = r.small;
              member = r.member;
              holds = more_within m b z s r.holds (omega arith);
              same = omega (arith, raised m b, halves);
            }) in
            rw (eq-eqb (bit m b) 0 z, q) (or_true (is_reached b m))

  pub reached_more : (b m : ℕ) → is_reached (b + 1) m ≡ (is_reached b m || (is_lacking b m && is_reached b (m + 2 ^ b)))
  reached_more b m =
      both_ways (is_reached (b + 1) m) (is_reached b m || (is_lacking b m && is_reached b (m + 2 ^ b)))
      (λ e. narrower b m ((reached_means (b + 1) m).0 e))
      (λ e. (reached_means (b + 1) m).1 (go (is_reached b m) refl (ℕ_discrete (bit m b) 0) e))
    where
      go : (t : Bool) → is_reached b m ≡ t → Dec (bit m b ≡ 0) → (t || (is_lacking b m && is_reached b (m + 2 ^ b))) ≡ true → Reaching (b + 1) m
      go true q z e = wider b m ((reached_means b m).0 q)
      go false q (no z) e = absurd (true≢false (sym e ∙ rw (ne_eqb (bit m b) 0 z)))
      go false q (yes z) e = with_it b m z ((reached_means b (m + 2 ^ b)).0 (rw (eq-eqb (bit m b) 0 z) at e))

  -- ---- a table of the parts of the members: m is maximal exactly if it is flagged there, and is so with no member that it lacks
  record Holding (m : ℕ) : Type 0 where
    pub set : ℕ
    pub small : set < 2 ^ n
    pub member : g set ≡ true
    pub holds : Within m set

  within_means : (m : ℕ) → (is_within g n m ≡ true) ↔ Holding m
  within_means m = (
    λ e.
        let r = (some_below_means (λ (s : ℕ). g s && is_part m s) (2 ^ n)).0 e in
        let q = (and-eq-true_iff (g r.number) (is_part m r.number)).0 r.passes in
        record { set = r.number; small = r.small; member = q.0; holds = (part_means m r.number).0 q.1 },
    λ r. (some_below_means (λ (s : ℕ). g s && is_part m s) (2 ^ n)).1 (record {
      number = r.set;
      small = r.small;
      passes = (and-eq-true_iff (g r.set) (is_part m r.set)).1 (r.member, (part_means m r.set).1 r.holds);
    }),
  )

  module _ (table : List ℕ) (closed : Flags n (is_within g n) table) (m : ℕ) (l : m < 2 ^ n) where
    at : (s : ℕ) → s < 2 ^ n → flagged table s ≡ is_within g n s
    unfolding Flags
    at s h = closed s h

    alone : some_below (is_shown table m) n ≡ false → Alone g n m
    alone none s h e w = go (eqb m s) refl
      where
        go : (t : Bool) → eqb m s ≡ t → m ≡ s
        go true q = eqb-true m s q
        go false q =
            let f = missing n m s l h w (eqb-false m s q) in
            let b : ℕ = f.number in
            let o : bit m b < bit s b = ltb-true (bit m b) (bit s b) f.passes in
            let z : bit m b ≡ 0 = omega arith in
            let i : flagged table (m + 2 ^ b) ≡ true =
            at (m + 2 ^ b) (more_lt m b z n f.small l)
            ∙ (within_means (m + 2 ^ b)).1 (record { set = s; small = h; member = e; holds = more_within m b z s w o }) in
            let u = (and-eq-true_iff (is_lacking b m) (flagged table (m + 2 ^ b))).1 (eq-eqb (bit m b) 0 z, i) in
            absurd (true≢false (sym u ∙ (none_below_means (is_shown table m) n).0 none b f.small))

    unshown : Alone g n m → some_below (is_shown table m) n ≡ false
    unshown h = (none_below_means (is_shown table m) n).1 (λ b i. go b i (is_shown table m b) refl)
      where
        go : (b : ℕ) → b < n → (t : Bool) → is_shown table m b ≡ t → is_shown table m b ≡ false
        go b i false q = q
        go b i true q =
            let p = (and-eq-true_iff (is_lacking b m) (flagged table (m + 2 ^ b))).0 q in
            let z : bit m b ≡ 0 = eqb-true (bit m b) 0 p.0 in
            let r = (within_means (m + 2 ^ b)).0 (sym (at (m + 2 ^ b) (more_lt m b z n i l)) ∙ p.1) in
            let e = h r.set r.small r.member (λ k. le_trans (within_more m b z k) (r.holds k)) in
            absurd (omega (arith, pow_pos b, within_le (m + 2 ^ b) r.set r.holds))

    pub top_is : is_top n table m ≡ is_maximal g n m
    top_is = both_ways (is_top n table m) (is_maximal g n m) forth back
      where
        forth : is_top n table m ≡ true → is_maximal g n m ≡ true
        forth e =
            let p = (and-eq-true_iff (flagged table m) (not (some_below (is_shown table m) n))).0 e in
            let a = alone (not-true (some_below (is_shown table m) n) p.1) in
            let r = (within_means m).0 (sym (at m l) ∙ p.0) in
            (is_maximal_means g n m).1 (ap g (a r.set r.small r.member r.holds) ∙ r.member, a)

        back : is_maximal g n m ≡ true → is_top n table m ≡ true
        back e =
            let p = (is_maximal_means g n m).0 e in
            (and-eq-true_iff (flagged table m) (not (some_below (is_shown table m) n))).1
            (at m l ∙ (within_means m).1 (record { set = m; small = l; member = p.0; holds = λ k. omega arith }), ap not (unshown p.1))
