-- What an input of `unreliability` that is not refused gives. Assumes nothing.
use mathlib.Core.Path.{◌≡◌, sym}
use Prim.Native.Nat.{ℕ, ◌<◌}
use native.Mathlib.Omega.{arith}
use Rattle.profiles.specs.declared.Profile.{Profile}
use Rattle.profiles.specs.Unreliability.{unreliability_refusal}
use Rattle.profiles.proofs.RefusalLaws.{unreliability_sound}

pub peer_room : (n peer : ℕ) (p : Profile) → 0 ≡ unreliability_refusal n peer p → peer < 16
peer_room n peer p e = let s = (unreliability_sound n peer p).0 (sym e) in omega (arith, s.population, s.replica)
