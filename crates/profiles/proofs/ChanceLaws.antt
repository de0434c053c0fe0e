-- What the unreliability of a peer is: a probability, and under `runtime` no less than the downtime. Assumes nothing.
use Rattle.std.specs.Prelude.{◌≡◌, refl, Bool, true, false, cond, not, ℕ, ◌≤◌, ◌<◌, eqb, Float, length, get_or}
use Rattle.std.proofs.Common.{sym, subst, ⊎_elim, arith}
use Rattle.std.specs.Float.{nan}
use Rattle.std.specs.Float.Ieee.{is_nan}
use Rattle.std.proofs.lemmas.Bool.{eqb-false}
use Rattle.lists.specs.AllLaws.{inside_any}
use Rattle.floats.specs.Floats.{plus_zero, larger}
use Rattle.floats.specs.OrderLaws.{Larger, larger_means, larger_nan}
use Rattle.floats.specs.RangeLaws.{FromZeroToOne}
use Rattle.profiles.specs.declared.Profile.{Profile}
use Rattle.profiles.specs.Unreliability.{given, chance_of}
use Rattle.profiles.proofs.RefusalLaws.{Sound}

module _ (n peer : ℕ) (p : Profile) (sound : Sound n p) (replica : peer < n) (words : n ≤ length p.probs) where
  -- what an unrefused profile gives a peer is from 0 to 1
  pub given_probability : FromZeroToOne (given p peer)
  given_probability = go (eqb p.prob_count 0) refl
    where
      go : (b : Bool) → eqb p.prob_count 0 ≡ b → FromZeroToOne (cond (not b) (get_or p.probs peer nan) plus_zero)
      go true e = omega arith
      go false e =
          subst FromZeroToOne (inside_any p.probs peer plus_zero nan (omega arith))
          ((sound.chances (eqb-false p.prob_count 0 e)).each_probability peer replica)

  -- so is its unreliability, if the downtime is from 0 to 1 or a NaN, or is not counted
  pub chance_probability : (down : Float) → (p.runtime ≡ true → is_nan down ≡ false → FromZeroToOne down)
      → FromZeroToOne (chance_of p peer down)
  chance_probability down h = go p.runtime (is_nan down) refl h
    where
      go : (r w : Bool) → is_nan down ≡ w → (r ≡ true → w ≡ false → FromZeroToOne down)
          → FromZeroToOne (cond r (larger (given p peer) down) (given p peer))
      go false w q h = given_probability
      go true true q h = subst FromZeroToOne (sym (larger_nan (given p peer) down q)) given_probability
      go true false q h =
          ⊎_elim (λ e. subst FromZeroToOne (sym e) given_probability) (λ e. subst FromZeroToOne (sym e) (h refl refl))
          (larger_means (given p peer) down q).one_of

-- under `runtime` it is the larger of what the profile gives and a downtime that is a number
pub chance_larger : (p : Profile) (peer : ℕ) (down : Float) → p.runtime ≡ true → is_nan down ≡ false
    → Larger (given p peer) down (chance_of p peer down)
chance_larger p peer down r w = rw r (larger_means (given p peer) down w)
