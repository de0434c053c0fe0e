-- What an input of `fault_list` is that is not refused: each check in numbers. Assumes nothing.
use Rattle.std.specs.Prelude.{◌≡◌, refl, ◌↔◌, false, ◌++◌, ℕ, ◌≤◌, ◌<◌, length}
use borrow.Author.Tests.{leb-true, le-leb, ltb-true, lt-ltb, not-false}
use Rattle.bitmap.specs.Mask.{all_below}
use Rattle.refusals.specs.FirstLaws.{none_holds}
use Rattle.refusals.specs.LimitLaws.{population_means}
use Rattle.profiles.specs.declared.Profile.{Profile}
use Rattle.profiles.specs.Profile.{profile_cases}
use Rattle.profiles.proofs.RefusalLaws.{Sound, profile_sound}
use Rattle.maximal.specs.Maximal.{maximals}
use Rattle.faults.specs.Family.{family}
use Rattle.faults.specs.FaultList.{input_cases, list_cases, fault_refusal}

module _ (n f : ℕ) (p : Profile) (room : ℕ) where
  pub record FaultSound : Type 0 where
    pub population : (1 ≤ n) × (n ≤ 16)
    pub tolerance : f < n
    pub profile : Sound n p
    pub survivor : family n f p (all_below n) ≡ false
    pub fits : length (maximals (family n f p) n) ≤ room

  pub faults_sound : (fault_refusal n f p room ≡ 0) ↔ FaultSound
  unfolding fault_refusal
  faults_sound = (
    λ e.
        let h = (none_holds (input_cases n f p ++ list_cases (family n f p) n room) refl).0 e in
        record {
          population = (population_means n).0 (not-false _ h.0);
          tolerance = ltb-true f n (not-false _ h.1.0);
          profile = (profile_sound n p).0 ((none_holds (profile_cases n p) refl).1 (h.1.1.0, (h.1.1.1.0, (h.1.1.1.1.0, tt))));
          survivor = h.1.1.1.1.1.0;
          fits = leb-true (length (maximals (family n f p) n)) room (not-false _ h.1.1.1.1.1.1.0);
        },
    λ s.
        let k = (none_holds (profile_cases n p) refl).0 ((profile_sound n p).1 s.profile) in
        simp (
          (population_means n).1 s.population,
          lt-ltb f n s.tolerance,
          k.0,
          k.1.0,
          k.1.1.0,
          s.survivor,
          le-leb (length (maximals (family n f p) n)) room s.fits,
        ),
  )
