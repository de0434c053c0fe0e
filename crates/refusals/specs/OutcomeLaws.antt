-- What an outcome says of the number and the value that it was made of. Assumes nothing.
use Rattle.std.specs.Prelude.{◌≡◌, refl, ◌↔◌, ℕ, zero, suc}
use Rattle.std.proofs.Common.{sym, ap, arith}
use Rattle.refusals.specs.Outcome.{Outcome, refused, accepted, checked, outcome}

-- an input is accepted with the value b exactly if no number refuses it and its value is b
pub checked_means : {A : Type 0} (k : ℕ) (o : Outcome A) (b : A) → (checked k o ≡ accepted b) ↔ ((k ≡ 0) × (o ≡ accepted b))
checked_means zero o b = (λ e. (refl, e), λ h. h.1)
checked_means (suc k) o b = (λ e. let z : ◌≡◌ {A = ℕ} 0 1 = cc in absurd (omega arith), λ h. absurd (omega arith))

-- the same where that is a value
pub accepted_means : {A : Type 0} (k : ℕ) (a b : A) → (outcome k a ≡ accepted b) ↔ ((k ≡ 0) × (a ≡ b))
accepted_means zero a b = (λ e. (refl, cc), λ h. ap accepted h.1)
accepted_means (suc k) a b = (λ e. let z : ◌≡◌ {A = ℕ} 0 1 = cc in absurd (omega arith), λ h. absurd (omega arith))

-- and refused with m exactly if m refuses it
pub refused_means : {A : Type 0} (k : ℕ) (a : A) (m : ℕ) → (outcome k a ≡ refused m) ↔ ((k ≡ m) × (m ≡ 0 → ⊥))
refused_means zero a m = (λ e. let z : ◌≡◌ {A = ℕ} 0 1 = cc in absurd (omega arith), λ h. absurd (h.1 (sym h.0)))
refused_means (suc k) a m = (λ e. let q : suc k ≡ m = cc in (q, λ z. omega arith), λ h. ap refused h.0)
