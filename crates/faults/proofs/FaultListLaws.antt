-- What the fault list is: a mask is listed exactly if it is in the family and no proper superset of it is; every set of the family is within a listed
-- one; the list rises strictly. What an unrefused call writes is a fault list, so that no entry refuses it with 17. Assumes nothing.
use Rattle.std.specs.Prelude.{◌≡◌, refl, ◌↔◌, Bool, true, false, not, ℕ, ◌^◌, ◌<◌, ◌≤◌, eqb, ltb, length, take, drop}
use Rattle.std.proofs.Common.{sym, ◌∙◌, true≢false, suc-ne-zero, arith, pow_pos}
use Rattle.std.proofs.Math.Path.{ap}
use Rattle.std.proofs.Math.Bool.{and-eq-true_iff}
use mathlib.Core.List.Memᴰ
use mathlib.Core.List.{List, [], ◌∷◌, ◌++◌, Memᴰ}
use borrow.Author.Tests.{eq-eqb, ne_eqb, lt-ltb, ltb-true, not-false}
use Rattle.std.proofs.Math.Seq.{take-append_seam}
use Rattle.std.specs.List.{list_all}
use Rattle.lists.specs.AllLaws.{all_means}
use Rattle.lists.specs.Below.{front}
use Rattle.lists.specs.ListedLaws.{listed_all}
use Rattle.lists.specs.SortLaws.{Ordered}
use Rattle.bitmap.specs.Mask.{all_below, count}
use Rattle.bitmap.specs.MaskLaws.{Within}
use Rattle.bitmap.specs.CountLaws.{count_none}
use Rattle.bitmap.specs.Members.{grown}
use Rattle.refusals.specs.FirstLaws.{none_holds}
use Rattle.refusals.specs.Outcome.{accepted}
use Rattle.refusals.specs.OutcomeLaws.{accepted_means}
use Rattle.refusals.specs.Limits.{is_tolerance, is_mask, is_fault_set, is_fault_list}
use Rattle.refusals.specs.LimitLaws.{fault_list_means}
use Rattle.profiles.specs.declared.Profile.{Profile}
use Rattle.maximal.specs.Maximal.{maximals}
use Rattle.maximal.proofs.MaximalLaws.{Contained, maximal_means, contained, rising}
use Rattle.faults.specs.Family.{is_sized, family_of, family}
use Rattle.faults.specs.FaultList.{input_cases, list_cases, fault_refusal, fault_list_of, fault_words}

module _ (n f : ℕ) (p : Profile) where
  -- the masks that an unrefused call writes
  abbrev pub faults : List ℕ
  faults = maximals (family n f p) n

  pub listed_means : (m : ℕ)
      → Memᴰ m faults ↔ ((m < 2 ^ n) × (family n f p m ≡ true) × ((s : ℕ) → s < 2 ^ n → family n f p s ≡ true → Within m s → m ≡ s))
  listed_means m = maximal_means (family n f p) n m

  pub tolerated : (m : ℕ) → m < 2 ^ n → family n f p m ≡ true → Contained (family n f p) n m
  tolerated m h e = contained (family n f p) n m h e

  pub strictly_rising : Ordered ltb faults
  strictly_rising = rising (family n f p) n

-- ---- the list is a fault list

some_listed : (m : ℕ) (xs : List ℕ) → Memᴰ m xs → length xs ≡ 0 → ⊥
some_listed m [] d e = Memᴰ.not-nil d
some_listed m (x ∷ xs) d e = suc-ne-zero (length xs) e

-- of any family with some set, but not that of every replica
pub maximals_listed : (g : ℕ → Bool) (n m : ℕ) → m < 2 ^ n → g m ≡ true → g (all_below n) ≡ false → is_fault_list n (maximals g n) ≡ true
maximals_listed g n m l e whole =
    let c = contained g n m l e in
    (fault_list_means n (maximals g n)).1
    (some_listed c.set (maximals g n) c.listed, (all_means (is_fault_set n) 0 (maximals g n)).0 each)
  where
    fits : (s : ℕ) → (s < 2 ^ n) × (g s ≡ true) × ((t : ℕ) → t < 2 ^ n → g t ≡ true → Within s t → s ≡ t) → is_fault_set n s ≡ true
    fits s p =
        (and-eq-true_iff (is_mask n s) (not (eqb s (all_below n)))).1
        (lt-ltb s (2 ^ n) p.0, ap not (ne_eqb s (all_below n) (λ (q : s ≡ all_below n). true≢false (sym p.1 ∙ ap g q ∙ whole))))

    each : list_all (is_fault_set n) (maximals g n) ≡ true
    each = listed_all (is_fault_set n) (maximals g n) (λ s d. fits s ((maximal_means g n s).0 d))

module _ (n f : ℕ) (p : Profile) where
  -- a family has some set: one of exactly f replicas
  pub fault_list_fits : f ≤ n → family n f p (all_below n) ≡ false → is_fault_list n (faults n f p) ≡ true
  unfolding family_of is_sized
  fault_list_fits h whole =
      let r = grown n f 0 (pow_pos n) (omega (arith, count_none)) h in
      maximals_listed (family n f p) n r.set r.small (rw (eq-eqb (count r.set) f r.many)) whole

  -- an unrefused call gives one
  pub unrefused_fits : (room : ℕ) → fault_refusal n f p room ≡ 0 → is_fault_list n (faults n f p) ≡ true
  unfolding fault_refusal
  unrefused_fits room e =
      let h = (none_holds (input_cases n f p ++ list_cases (family n f p) n room) refl).0 e in
      let l : f < n = ltb-true f n (not-false (is_tolerance n f) h.1.0) in
      fault_list_fits (omega arith) h.1.1.1.1.1.0

  -- and it is what the first c words of the lent list are, c the count that is answered
  pub written_is : (list : List ℕ) (c : ℕ) → fault_list_of n f p (length list) ≡ accepted c → take c (fault_words n f p list) ≡ faults n f p
  unfolding fault_list_of fault_words front
  written_is list c e =
      let a = (accepted_means (fault_refusal n f p (length list)) (length (faults n f p)) c).0 e in
      rw (a.0, ← a.1) (take-append_seam (faults n f p) (drop (length (faults n f p)) list))

  pub written_fits : (list : List ℕ) (c : ℕ) → fault_list_of n f p (length list) ≡ accepted c
      → is_fault_list n (take c (fault_words n f p list)) ≡ true
  unfolding fault_list_of
  written_fits list c e =
      ap (is_fault_list n) (written_is list c e)
      ∙ unrefused_fits (length list) ((accepted_means (fault_refusal n f p (length list)) (length (faults n f p)) c).0 e).0
