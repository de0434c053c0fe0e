-- When a table has so many words for each of n replicas. The premises are what a need's record holds. Assumes nothing.
use mathlib.Core.Path.{◌≡◌, sym, ap, ◌∙◌}
use mathlib.Core.Bool.{false}
use Prim.Native.Nat.{ℕ, ◌*◌, ◌/◌, ◌%◌, ◌<◌}
use native.Mathlib.Nat.{div-add-mod, mul_comm, mul-mod_left, mul-div_left}
use native.Mathlib.Decide.{ℕ_discrete}
use native.Mathlib.Omega.{arith}
use lib.Dec.{eqb}
use borrow.Author.Tests.{eq-eqb, ne_eqb}
use Rattle.c_types.specs.Tables.{is_records}

module _ (len each n : ℕ) where
  -- a word is left over
  pub uneven : (len % each ≡ 0 → ⊥) → false ≡ is_records len each n
  uneven h = sym (ne_eqb len (n * each) (λ e. h (ap (λ (k : ℕ). k % each) e ∙ mul-mod_left n each)))

  pub even : 0 < each → len % each ≡ 0 → eqb (len / each) n ≡ is_records len each n
  even h e = go (ℕ_discrete (len / each) n)
    where
      whole : each * (len / each) ≡ len
      whole = omega (arith, div-add-mod len each)

      go : Dec (len / each ≡ n) → eqb (len / each) n ≡ is_records len each n
      go (yes q) = eq-eqb _ n q ∙ sym (eq-eqb len (n * each) (sym whole ∙ mul_comm each (len / each) ∙ ap (λ (k : ℕ). k * each) q))
      go (no d) = ne_eqb _ n d ∙ sym (ne_eqb len (n * each) (λ q. d (ap (λ (k : ℕ). k / each) q ∙ mul-div_left n h)))

pub ruleset records = (uneven, even)
