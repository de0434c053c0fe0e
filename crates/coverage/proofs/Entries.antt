-- What a passed check gives to the calls after it. Assumes nothing.
use mathlib.Core.Path.{◌≡◌, sym, ap, ◌∙◌}
use mathlib.Core.List.{List}
use Prim.Native.Nat.{ℕ, ◌*◌, ◌≤◌}
use native.Mathlib.Omega.{arith}
use lib.ListN.{length}
use Rattle.std.specs.Prelude.{Result, Ok}
use Rattle.refusals.specs.Limits.{most_shards}
use Rattle.refusals.specs.Refused.{refusal_of}
use Rattle.refusals.specs.declared.Refusal.{Refusal}
use Rattle.rows.specs.Row.{row_in}
use Rattle.rows.proofs.TableLaws.{row_below}
use Rattle.coverage.specs.Coverage.{RowsBelow, covers_refusal, survived_refusal}
use Rattle.coverage.proofs.RefusalLaws.{Sound, covers_sound, survived_fit}

module _ (n d w heard : ℕ) (rows faults : List ℕ) (check : Result Unit Refusal) (u : Unit {0}) where
  pub covers_fits : refusal_of check ≡ covers_refusal n d w heard rows faults → check ≡ Ok u → Sound n d w heard rows faults
  covers_fits e was = (covers_sound n d w heard rows faults).0 (sym e ∙ ap refusal_of was)

  pub covers_room : refusal_of check ≡ covers_refusal n d w heard rows faults → check ≡ Ok u
      → (n ≤ 16) × (w ≤ most_shards) × (n * 4 ≤ length rows) × RowsBelow n w (row_in rows)
  covers_room e was =
      let h = covers_fits e was in
      (h.population.1, h.shards.2, omega (arith, h), λ s l. row_below w rows h.each_row s)

pub survived_room : (n heard : ℕ) (faults : List ℕ) (check : Result Unit Refusal) (u : Unit {0}) → refusal_of check ≡ survived_refusal n heard faults → check ≡ Ok u → n ≤ 64
survived_room n heard faults check u e was = omega (arith, (survived_fit n heard faults).0 (sym e ∙ ap refusal_of was))
