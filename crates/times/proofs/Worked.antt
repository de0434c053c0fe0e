-- Names for worked values: doubles by their bits, and models and peers made of such bits. Assumes nothing.
use Rattle.std.proofs.Common.{ℕ}
use lib.Ieee.{binary64, of_bits}
use Rattle.times.specs.declared.PerfModel.{PerfModel}
use Rattle.times.specs.declared.Peer.{Peer}
use Rattle.times.specs.declared.Peer.TheVariants.{Heard}

-- ---- doubles
abbrev pub one : ℕ
one = 0x3ff0_0000_0000_0000

abbrev pub two : ℕ
two = 0x4000_0000_0000_0000

abbrev pub three : ℕ
three = 0x4008_0000_0000_0000

abbrev pub ten : ℕ
ten = 0x4024_0000_0000_0000

abbrev pub minus_zero : ℕ
minus_zero = 0x8000_0000_0000_0000

abbrev pub infinity : ℕ
infinity = 0x7ff0_0000_0000_0000

abbrev pub minus_infinity : ℕ
minus_infinity = 0xfff0_0000_0000_0000

abbrev pub no_number : ℕ
no_number = 0x7ff8_0000_0000_0000

-- ---- a model, of slope, delay and jitter
abbrev pub model : ℕ → ℕ → ℕ → PerfModel
model slope delay jitter = record { slope = of_bits binary64 slope; delay = of_bits binary64 delay; jitter = of_bits binary64 jitter }

-- ---- a peer that is heard, of slope, delay, jitter and unreliability
abbrev pub heard : ℕ → ℕ → ℕ → ℕ → Peer
heard slope delay jitter unreliability = Heard (of_bits binary64 slope) (of_bits binary64 delay) (of_bits binary64 jitter) (of_bits binary64 unreliability)
