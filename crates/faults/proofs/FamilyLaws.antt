-- What the family of crash sets is, and so what a fault list tolerates: every set of at most f replicas, every domain that the profile
-- counts and every probable set is within a listed set, and each listed set is one of exactly f replicas, a domain or a probable set.
-- Assumes nothing.
use Rattle.std.specs.Prelude.{◌≡◌, ◌↔◌, ◌⊎◌, cond, ◌&&◌, ◌||◌, ℕ, zero, suc, ◌+◌, ◌*◌, ◌/◌, ◌%◌, ◌^◌, ◌<◌, ◌≤◌, eqb, Float, length, get_or}
use Rattle.std.proofs.Math.Path.{refl, sym, ap}
use Rattle.std.proofs.Common.{◌∙◌, inl, inr, true≢false, not-suc-le-zero, le_of_suc-le-suc, le_trans, pow-suc, arith}
use Rattle.std.proofs.Math.Bool.{Bool, true, false, not, and-eq-true_iff}
use mathlib.Core.List.{List, [], ◌∷◌, Memᴰ}
use borrow.Author.Tests.{eqb-true, eq-eqb, eqb-false, ne_eqb}
use Rattle.std.specs.Float.{binary64}
use Rattle.std.specs.Float.Ieee.{mul, le}
use Rattle.std.proofs.Math.ListN.{length-take}
use Rattle.std.proofs.Math.Seq.{get_or-take}
use Rattle.lists.specs.AllLaws.{any_means}
use Rattle.bitmap.specs.Mask.{count}
use Rattle.bitmap.specs.Members.{grown}
use Rattle.floats.specs.Floats.{one}
use Rattle.profiles.specs.declared.Profile.{Profile}
use Rattle.profiles.specs.Profile.{has_probs, domains_of, probs_of}
use Rattle.maximal.proofs.MaximalLaws.{Contained}
use Rattle.faults.specs.Family.{times_of, is_probable, is_sized, is_among, family_of, family}
use Rattle.faults.proofs.FaultListLaws.{faults, listed_means, tolerated}

-- ---- the product of a set: without a member it is what it was, and its last member's probability is multiplied in last
pub times_none : (ps : List Float) (a : Float) → times_of ps 0 a ≡ a
unfolding times_of
times_none [] a = refl
times_none (p ∷ ps) a = times_none ps a

pub times_last : (ps : List Float) (i m : ℕ) (a : Float) → i < length ps → m < 2 ^ i
    → times_of ps (m + 2 ^ i) a ≡ mul binary64 (times_of ps m a) (get_or ps i one)
unfolding times_of
times_last [] i m a h l = absurd (not-suc-le-zero h)
times_last (p ∷ ps) zero zero a h l = times_none ps (mul binary64 a p) ∙ ap (λ (x : Float). mul binary64 x p) (sym (times_none ps a))
times_last (p ∷ ps) zero (suc m) a h l = absurd (not-suc-le-zero (le_of_suc-le-suc l))
times_last (p ∷ ps) (suc i) m a h l =
    let s : 2 ^ suc i ≡ 2 ^ i * 2 = pow-suc 2 i in
    let half : (m + 2 ^ suc i) / 2 ≡ m / 2 + 2 ^ i = omega (arith, s) in
    let odd : (m + 2 ^ suc i) % 2 ≡ m % 2 = omega (arith, s) in
    let small : m / 2 < 2 ^ i = omega (arith, s) in
    rw (half, odd) (times_last ps i (m / 2) (cond (eqb (m % 2) 0) a (mul binary64 a p)) (le_of_suc-le-suc h) small)

-- ---- which sets are in the family
or_means : (a b : Bool) → ((a || b) ≡ true) ↔ ((a ≡ true) ⊎ (b ≡ true))
or_means true b = (λ e. inl refl, λ o. refl)
or_means false b = (λ e. inr e, back)
  where
    back : (false ≡ true) ⊎ (b ≡ true) → b ≡ true
    back (inl e) = absurd (true≢false (sym e))
    back (inr e) = e

module _ (n f : ℕ) (p : Profile) where
  -- m is a domain that the profile counts, at one of its words
  pub record Domain (m : ℕ) : Type 0 where
    pub place : ℕ
    pub counted : place < p.domain_count
    pub word : place < length p.domains
    pub same : m ≡ get_or p.domains place 0

  -- the profile has probabilities, m has a member, and its product is at least the threshold
  pub record Probable (m : ℕ) : Type 0 where
    pub known : p.prob_count ≡ 0 → ⊥
    pub member : m ≡ 0 → ⊥
    pub product : le p.threshold (times_of (probs_of n p) m one) ≡ true

  -- the tests of the two
  abbrev among : ℕ → Bool
  among m = is_among (domains_of p) m

  abbrev likely : ℕ → Bool
  likely m = has_probs p && is_probable (probs_of n p) p.threshold m

  domain_means : (m : ℕ) → (among m ≡ true) ↔ Domain m
  unfolding is_among
  domain_means m =
      let t = any_means (eqb m) 0 (domains_of p) in
      let k = length-take p.domain_count p.domains in (
        λ e.
            let s = t.0 e in
            let c : s.place < p.domain_count = omega (arith, s.inside, k) in
            record {
              place = s.place;
              counted = c;
              word = omega (arith, s.inside, k);
              same = eqb-true m (get_or (domains_of p) s.place 0) s.passes ∙ get_or-take p.domain_count p.domains s.place 0 c;
            },
        λ d.
            t.1 (record {
              place = d.place;
              inside = omega (arith, d.counted, d.word, k);
              passes =
                  eq-eqb m (get_or (domains_of p) d.place 0)
                  (d.same ∙ sym (get_or-take p.domain_count p.domains d.place 0 d.counted));
            }),
      )

  probable_means : (m : ℕ) → (likely m ≡ true) ↔ Probable m
  unfolding is_probable
  probable_means m =
      let l = le p.threshold (times_of (probs_of n p) m one) in (
        λ e.
            let a = (and-eq-true_iff (has_probs p) (not (eqb m 0) && l)).0 e in
            let b = (and-eq-true_iff (not (eqb m 0)) l).0 a.1 in
            record { known = eqb-false p.prob_count 0 (off _ a.0); member = eqb-false m 0 (off _ b.0); product = b.1 },
        λ q.
            (and-eq-true_iff (has_probs p) (not (eqb m 0) && l)).1 (
              ap not (ne_eqb p.prob_count 0 q.known),
              (and-eq-true_iff (not (eqb m 0)) l).1 (ap not (ne_eqb m 0 q.member), q.product),
            ),
      )
    where
      off : (b : Bool) → not b ≡ true → b ≡ false
      off true e = sym e
      off false e = refl

  -- the sets of exactly f replicas, the domains and the probable sets
  pub family_means : (m : ℕ) → (family n f p m ≡ true) ↔ ((count m ≡ f) ⊎ (Domain m ⊎ Probable m))
  unfolding family_of is_sized
  family_means m = (λ e. forth (first.0 e), λ o. first.1 (back o))
    where
      rest : Bool
      rest = among m || likely m

      first : ((eqb (count m) f || rest) ≡ true) ↔ ((eqb (count m) f ≡ true) ⊎ (rest ≡ true))
      first = or_means (eqb (count m) f) rest

      second : (rest ≡ true) ↔ ((among m ≡ true) ⊎ (likely m ≡ true))
      second = or_means (among m) (likely m)

      other : (among m ≡ true) ⊎ (likely m ≡ true) → Domain m ⊎ Probable m
      other (inl e) = inl ((domain_means m).0 e)
      other (inr e) = inr ((probable_means m).0 e)

      forth : (eqb (count m) f ≡ true) ⊎ (rest ≡ true) → (count m ≡ f) ⊎ (Domain m ⊎ Probable m)
      forth (inl e) = inl (eqb-true (count m) f e)
      forth (inr e) = inr (other (second.0 e))

      back : (count m ≡ f) ⊎ (Domain m ⊎ Probable m) → (eqb (count m) f ≡ true) ⊎ (rest ≡ true)
      back (inl e) = inl (eq-eqb (count m) f e)
      back (inr (inl d)) = inr (second.1 (inl ((domain_means m).1 d)))
      back (inr (inr q)) = inr (second.1 (inr ((probable_means m).1 q)))

  -- ---- what a fault list tolerates

  -- every set of at most f replicas is within a listed one
  pub few_tolerated : f ≤ n → (m : ℕ) → m < 2 ^ n → count m ≤ f → Contained (family n f p) n m
  few_tolerated h m l c =
      let g = grown n f m l c h in
      let t = tolerated n f p g.set g.small ((family_means g.set).1 (inl g.many)) in
      record { set = t.set; listed = t.listed; holds = λ s. le_trans (g.holds s) (t.holds s) }

  -- so is every domain that the profile counts
  pub domain_tolerated : (m : ℕ) → m < 2 ^ n → Domain m → Contained (family n f p) n m
  domain_tolerated m l d = tolerated n f p m l ((family_means m).1 (inr (inl d)))

  -- and every probable set
  pub probable_tolerated : (m : ℕ) → m < 2 ^ n → Probable m → Contained (family n f p) n m
  probable_tolerated m l q = tolerated n f p m l ((family_means m).1 (inr (inr q)))

  -- each listed set is one of these
  pub listed_is : (m : ℕ) → Memᴰ m (faults n f p) → (count m ≡ f) ⊎ (Domain m ⊎ Probable m)
  listed_is m d = (family_means m).0 ((listed_means n f p m).0 d).1
