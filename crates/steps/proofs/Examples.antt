-- Worked values, computed by the checker: the time of each step, by its bits, and the step chosen. Assumes nothing.
use mathlib.Core.Path.{◌≡◌, refl}
use mathlib.Core.List.{List, [], ◌∷◌, map}
use Prim.Native.Nat.{ℕ}
use lib.Ieee.{binary64, add, mul, div, of_int, of_bits, to_bits}
use Rattle.lists.specs.Below.{each_below}
use Rattle.lists.specs.First.{least_up_to}
use Rattle.floats.specs.Floats.{total_le}
use Rattle.times.specs.declared.PerfModel.{PerfModel}
use Rattle.times.specs.Times.{predict_of}
use Rattle.times.proofs.Worked.{one, two, three, minus_zero, infinity, minus_infinity, no_number, model}
use Rattle.steps.specs.Steps.{peer_times, step_time, steps, time_of_step, best_step}

-- ---- models

-- of a delay alone
abbrev flat : ℕ → PerfModel
flat delay = model 0 delay 0

-- slope 1 and delay 1; every time -0; every time a NaN
abbrev usual : PerfModel
usual = model one one 0

abbrev minus : PerfModel
minus = model minus_zero minus_zero minus_zero

abbrev unknown : PerfModel
unknown = model no_number no_number no_number

-- nothing is in flight
abbrev idle : List ℕ
idle = []

record Line : Type 0 where
  n : ℕ
  f : ℕ
  own : ℕ
  d : ℕ
  majority : ℕ
  size : ℕ
  inflight : List ℕ
  models : List PerfModel
  best : ℕ
  says : List ℕ

line : ℕ → ℕ → ℕ → ℕ → ℕ → ℕ → List ℕ → List PerfModel → ℕ → List ℕ → Line
line n f own d majority size inflight models best says = record { n = n; f = f; own = own; d = d; majority = majority; size = size; inflight = inflight; models = models; best = best; says = says }

-- n, the fault tolerance, our own number, d, the majority, size, bytes in flight, models; the step chosen, and the time of each
sheet : List Line
unfolding line
sheet =
    -- two peers alike: the quorum falls from 3 to 2, the shards rise from 1 to 2
    line 3 1 0 2 2 2097152 idle (usual ∷ usual ∷ usual ∷ []) 0 (0x4000_0000_8000_0000 ∷ 0x4008_0001_0000_0000 ∷ [])
    ∷ line 3 1 0 2 2 2097152 idle (usual ∷ model 0x3fe0_0000_0000_0000 one 0x3fd0_0000_0000_0000 ∷ model 0x3fe0_0000_0000_0000 0x4014_0000_0000_0000 0x3fd0_0000_0000_0000 ∷ []) 1 (0x4017_0000_2000_0000 ∷ 0x4002_0000_8000_0000 ∷ [])
    -- of level steps the first: of all, and of the last two
    ∷ line 3 1 0 2 2 2097152 idle (flat one ∷ flat one ∷ flat one ∷ []) 0 (one ∷ one ∷ [])
    ∷ line 4 1 0 3 3 0 idle (flat 0 ∷ flat three ∷ flat two ∷ flat two ∷ []) 1 (three ∷ two ∷ two ∷ [])
    -- nobody to hear from: +0, which is before what is above it, after what is below it and after -0, and is level with +0
    ∷ line 2 0 0 2 2 2097152 idle (usual ∷ usual ∷ []) 1 (0x4000_0000_8000_0000 ∷ 0 ∷ [])
    ∷ line 2 0 0 2 2 2097152 idle (usual ∷ model 0xbff0_0000_0000_0000 0 0 ∷ []) 0 (0xbff0_0001_0000_0000 ∷ 0 ∷ [])
    ∷ line 2 0 0 2 2 0 idle (usual ∷ flat 0 ∷ []) 0 (0 ∷ 0 ∷ [])
    ∷ line 2 0 0 2 2 0 idle (usual ∷ minus ∷ []) 0 (minus_zero ∷ 0 ∷ [])
    -- of two peers with -0 and +0 the first is -0, whichever has it
    ∷ line 3 1 0 2 2 0 idle (usual ∷ minus ∷ flat 0 ∷ []) 1 (0 ∷ minus_zero ∷ [])
    ∷ line 3 1 0 2 2 0 idle (usual ∷ flat 0 ∷ minus ∷ []) 1 (0 ∷ minus_zero ∷ [])
    -- alone
    ∷ line 1 0 0 1 1 0 idle (unknown ∷ []) 0 (0 ∷ [])
    ∷ line 1 0 0 64 1 1073741824 idle [] 0 (0 ∷ [])
    ∷ line 1 0 0 255 1 1073741824 idle [] 0 (0 ∷ [])
    -- more to hear from than there are: infinity
    ∷ line 3 2 0 2 2 2097152 idle (usual ∷ usual ∷ usual ∷ []) 1 (infinity ∷ 0x4008_0001_0000_0000 ∷ [])
    ∷ line 4 3 3 4 4 4096 idle (usual ∷ flat two ∷ usual ∷ usual ∷ []) 3 (infinity ∷ infinity ∷ infinity ∷ two ∷ [])
    -- every NaN is above infinity, whatever its sign, and level with any other
    ∷ line 3 1 0 2 2 2097152 idle (usual ∷ unknown ∷ usual ∷ []) 1 (no_number ∷ 0x4008_0001_0000_0000 ∷ [])
    ∷ line 3 1 0 2 2 2097152 idle (usual ∷ model no_number one 0 ∷ model one infinity 0 ∷ []) 1 (no_number ∷ infinity ∷ [])
    ∷ line 3 1 0 2 2 2097152 idle (usual ∷ model one 0xfff8_0000_0000_0000 0 ∷ model one infinity 0 ∷ []) 1 (no_number ∷ infinity ∷ [])
    ∷ line 3 2 0 2 2 2097152 idle (usual ∷ unknown ∷ usual ∷ []) 0 (infinity ∷ no_number ∷ [])
    ∷ line 3 1 0 2 2 2097152 idle (usual ∷ model one infinity minus_infinity ∷ model no_number one 0 ∷ []) 0 (no_number ∷ no_number ∷ [])
    -- infinities: of a delay, of a product, below all numbers
    ∷ line 3 1 0 2 2 2097152 idle (usual ∷ model one infinity 0 ∷ usual ∷ []) 1 (infinity ∷ 0x4008_0001_0000_0000 ∷ [])
    ∷ line 3 1 0 2 2 2097152 idle (usual ∷ model 0x7fef_ffff_ffff_ffff 0 0 ∷ model 0x7fef_ffff_ffff_ffff minus_infinity 0 ∷ []) 1 (no_number ∷ infinity ∷ [])
    ∷ line 3 1 0 2 2 2097152 idle (usual ∷ model one minus_infinity 0 ∷ flat 0xc008_0000_0000_0000 ∷ []) 1 (0xc008_0000_0000_0000 ∷ minus_infinity ∷ [])
    -- falling times
    ∷ line 4 1 1 6 3 3145728 idle (model 0xbff0_0000_0000_0000 three 0 ∷ usual ∷ model 0xc000_0000_0000_0000 three 0 ∷ model 0xbfe0_0000_0000_0000 three 0 ∷ []) 2 (0x4003_ffff_8000_0000 ∷ 0x3fef_fff8_0000_0000 ∷ 0xc008_0006_0000_0000 ∷ [])
    -- bytes in flight, up to 2 ^ 40
    ∷ line 3 1 0 2 2 2097152 (0 ∷ 1048576 ∷ 0 ∷ []) (usual ∷ usual ∷ usual ∷ []) 0 (0x4008_0000_8000_0000 ∷ 0x4008_0001_0000_0000 ∷ [])
    ∷ line 3 1 1 2 2 0 (1099511627776 ∷ 0 ∷ 1099511627775 ∷ []) (usual ∷ usual ∷ model 0x3fb9_9999_9999_999a 0x3fd3_3333_3333_3333 0x3fe6_6666_6666_6666 ∷ []) 1 (0x4130_0001_0000_1000 ∷ 0x40f9_99a9_9999_b334 ∷ [])
    -- a shard is size / d bytes, rounded down, and one more
    ∷ line 2 1 1 4 2 4194303 idle (model one 0 0 ∷ []) 1 (infinity ∷ 0x4010_0000_0000_0000 ∷ [])
    ∷ line 2 1 1 4 2 4194304 idle (model one 0 0 ∷ []) 1 (infinity ∷ 0x4010_0001_0000_0000 ∷ [])
    ∷ line 2 1 1 64 2 0 idle (model 0x4130_0000_0000_0000 0 0 ∷ []) 1 (infinity ∷ 0x4050_0000_0000_0000 ∷ [])
    -- more than 64 shards a replica
    ∷ line 2 1 1 254 2 0 idle (model 0x4130_0000_0000_0000 0 0 ∷ []) 1 (infinity ∷ 0x406f_c000_0000_0000 ∷ [])
    ∷ line 3 0 0 255 3 0 idle (unknown ∷ model 0x4130_0000_0000_0000 0 0 ∷ model 0x4130_0000_0000_0000 0 0 ∷ []) 2 (0x4055_4000_0000_0000 ∷ 0x4065_4000_0000_0000 ∷ 0 ∷ [])
    ∷ line 2 1 1 255 1 1073741824 idle (model 0x4130_0000_0000_0000 0 0 ∷ []) 0 (0x41d0_0000_2fc0_0000 ∷ [])
    ∷ line 2 1 0 1 1 1073741824 idle (usual ∷ model 0x3fd3_3333_3333_3333 0x3fb9_9999_9999_999a 0x3fc9_9999_9999_999a ∷ []) 0 (0x4073_3800_004c_cccd ∷ [])
    -- our own in the middle; its record is unread, and so are those past the population
    ∷ line 5 1 2 3 3 3000000 (0 ∷ 0 ∷ 9223372036854775808 ∷ 0 ∷ 0 ∷ 9223372036854775808 ∷ []) (flat one ∷ flat three ∷ unknown ∷ flat two ∷ flat 0x401c_0000_0000_0000 ∷ unknown ∷ []) 2 (three ∷ two ∷ one ∷ [])
    ∷ line 3 1 1 2 2 2097152 (0 ∷ 9223372036854775808 ∷ 4096 ∷ 9223372036854775808 ∷ []) (usual ∷ flat 0xc022_0000_0000_0000 ∷ model one 0 0x3fe0_0000_0000_0000 ∷ flat 0xc022_0000_0000_0000 ∷ []) 0 (0x4000_0000_8000_0000 ∷ 0x4004_0801_0000_0000 ∷ [])
    -- five and seven replicas, all unlike
    ∷ line 5 1 4 6 3 5000000 (1048577 ∷ 0 ∷ 4096 ∷ 65537 ∷ 0 ∷ []) (model 0x3fb9_9999_9999_999a 0x3fe6_6666_6666_6666 0x3fa9_9999_9999_999a ∷ model 0x3fa9_9999_9999_999a 0x3ff4_cccc_cccc_cccd 0x3fd3_3333_3333_3333 ∷ model 0x3fe6_6666_6666_6666 0x3fb9_9999_9999_999a 0x3fd3_3333_3333_3333 ∷ model 0x3fd3_3333_3333_3333 0x3fd3_3333_3333_3333 0x3fb9_9999_9999_999a ∷ []) 2 (0x3ff8_3ee5_3333_3333 ∷ 0x3ff5_f574_4ccc_cccd ∷ 0x3ff5_3aba_1999_9999 ∷ [])
    ∷ line 5 1 1 3 3 8467732 (4096 ∷ 0 ∷ 0 ∷ 4096 ∷ 1048577 ∷ []) (model 0x3fe6_6666_6666_6666 0x3fb9_9999_9999_999a 0x4031_e666_6666_6666 ∷ model 0x3ff4_cccc_cccc_cccd 0x3fa9_9999_9999_999a 0x3fd3_3333_3333_3333 ∷ model 0x3ff4_cccc_cccc_cccd 0x4031_e666_6666_6666 0x3ff4_cccc_cccc_cccd ∷ model 0x4009_1eb8_51eb_851f 0x3fd3_3333_3333_3333 0x4031_e666_6666_6666 ∷ model 0x4002_6666_6666_6666 0x4009_1eb8_51eb_851f 0x3fb9_9999_9999_999a ∷ []) 1 (0x4036_b309_a999_9999 ∷ 0x4035_c572_c666_6666 ∷ 0x4037_a7d2_9000_0000 ∷ [])
    ∷ line 5 2 3 9 3 1897549 (0 ∷ 0 ∷ 65537 ∷ 4096 ∷ 65537 ∷ []) (model 0x4002_6666_6666_6666 0x3ff4_cccc_cccc_cccd 0x3fb9_9999_9999_999a ∷ model 0x3fe6_6666_6666_6666 0x4031_e666_6666_6666 0x4031_e666_6666_6666 ∷ model 0x3fa9_9999_9999_999a 0x4009_1eb8_51eb_851f 0x4002_6666_6666_6666 ∷ model 0x3fb9_9999_9999_999a 0x3fb9_9999_9999_999a 0x3fa9_9999_9999_999a ∷ model 0x4009_1eb8_51eb_851f 0x3fa9_9999_9999_999a 0x4031_e666_6666_6666 ∷ []) 2 (0x4042_1c72_b599_9999 ∷ 0x4035_ef37_c23d_70a4 ∷ 0x4016_3fad_6ccc_cccc ∷ [])
    ∷ line 7 2 0 8 4 14188546 (0 ∷ 4096 ∷ 4096 ∷ 65537 ∷ 0 ∷ 65537 ∷ 4096 ∷ []) (model 0x4031_e666_6666_6666 0x4009_1eb8_51eb_851f 0x3fd3_3333_3333_3333 ∷ model 0x4002_6666_6666_6666 0x3ff4_cccc_cccc_cccd 0x3fa9_9999_9999_999a ∷ model 0x3fe6_6666_6666_6666 0x3ff4_cccc_cccc_cccd 0x3ff4_cccc_cccc_cccd ∷ model 0x4009_1eb8_51eb_851f 0x4031_e666_6666_6666 0x3fa9_9999_9999_999a ∷ model 0x3ff4_cccc_cccc_cccd 0x4031_e666_6666_6666 0x4009_1eb8_51eb_851f ∷ model 0x4031_e666_6666_6666 0x4009_1eb8_51eb_851f 0x3fb9_9999_9999_999a ∷ model 0x4002_6666_6666_6666 0x3fb9_9999_9999_999a 0x3fe6_6666_6666_6666 ∷ []) 2 (0x403c_c4ae_ab33_3333 ∷ 0x403d_d5d7_5d70_a3d7 ∷ 0x4038_b34d_a999_9999 ∷ 0x403f_ee4d_f333_3333 ∷ [])
    -- sixteen replicas, our own the last, and in the middle
    ∷ line 16 0 15 16 2 16777216 idle (flat one ∷ flat 0x4018_0000_0000_0000 ∷ flat 0x4026_0000_0000_0000 ∷ flat 0x4030_0000_0000_0000 ∷ flat 0x4014_0000_0000_0000 ∷ flat 0x4024_0000_0000_0000 ∷ flat 0x402e_0000_0000_0000 ∷ flat 0x4010_0000_0000_0000 ∷ flat 0x4022_0000_0000_0000 ∷ flat 0x402c_0000_0000_0000 ∷ flat three ∷ flat 0x4020_0000_0000_0000 ∷ flat 0x402a_0000_0000_0000 ∷ flat two ∷ flat 0x401c_0000_0000_0000 ∷ []) 1 (one ∷ 0 ∷ [])
    ∷ line 16 7 8 18 9 0 idle (flat 0 ∷ flat 0x4014_0000_0000_0000 ∷ flat 0x4024_0000_0000_0000 ∷ flat 0x402e_0000_0000_0000 ∷ flat 0x4010_0000_0000_0000 ∷ flat 0x4022_0000_0000_0000 ∷ flat 0x402c_0000_0000_0000 ∷ flat three ∷ flat 0x4020_0000_0000_0000 ∷ flat 0x402a_0000_0000_0000 ∷ flat two ∷ flat 0x401c_0000_0000_0000 ∷ flat 0x4028_0000_0000_0000 ∷ flat one ∷ flat 0x4018_0000_0000_0000 ∷ flat 0x4026_0000_0000_0000 ∷ []) 8 (0x402e_0000_0000_0000 ∷ 0x402c_0000_0000_0000 ∷ 0x402a_0000_0000_0000 ∷ 0x4028_0000_0000_0000 ∷ 0x4026_0000_0000_0000 ∷ 0x4024_0000_0000_0000 ∷ 0x4022_0000_0000_0000 ∷ 0x401c_0000_0000_0000 ∷ 0x4018_0000_0000_0000 ∷ [])
    ∷ line 16 7 5 60 4 13565858 (0 ∷ 1048577 ∷ 65537 ∷ 1048577 ∷ 0 ∷ 1048577 ∷ 0 ∷ 4096 ∷ 4096 ∷ 0 ∷ 4096 ∷ 1048577 ∷ 65537 ∷ 65537 ∷ 65537 ∷ 1048577 ∷ []) (model 0x3fd3_3333_3333_3333 0x3fa9_9999_9999_999a 0x4002_6666_6666_6666 ∷ model 0x3fb9_9999_9999_999a 0x4031_e666_6666_6666 0x3fd3_3333_3333_3333 ∷ model 0x3ff4_cccc_cccc_cccd 0x3fa9_9999_9999_999a 0x3fa9_9999_9999_999a ∷ model 0x3fe6_6666_6666_6666 0x3fa9_9999_9999_999a 0x4002_6666_6666_6666 ∷ model 0x3fd3_3333_3333_3333 0x4002_6666_6666_6666 0x3fa9_9999_9999_999a ∷ model 0x4002_6666_6666_6666 0x3fe6_6666_6666_6666 0x3fd3_3333_3333_3333 ∷ model 0x3fe6_6666_6666_6666 0x4002_6666_6666_6666 0x4009_1eb8_51eb_851f ∷ model 0x3fe6_6666_6666_6666 0x3fb9_9999_9999_999a 0x3fd3_3333_3333_3333 ∷ model 0x4031_e666_6666_6666 0x3fb9_9999_9999_999a 0x3ff4_cccc_cccc_cccd ∷ model 0x3fa9_9999_9999_999a 0x4002_6666_6666_6666 0x4009_1eb8_51eb_851f ∷ model 0x4031_e666_6666_6666 0x3fe6_6666_6666_6666 0x3fb9_9999_9999_999a ∷ model 0x3fb9_9999_9999_999a 0x4009_1eb8_51eb_851f 0x3fa9_9999_9999_999a ∷ model 0x3ff4_cccc_cccc_cccd 0x3fe6_6666_6666_6666 0x3fe6_6666_6666_6666 ∷ model 0x4031_e666_6666_6666 0x3fd3_3333_3333_3333 0x3fe6_6666_6666_6666 ∷ model 0x4031_e666_6666_6666 0x3fa9_9999_9999_999a 0x3fe6_6666_6666_6666 ∷ model 0x3fb9_9999_9999_999a 0x4031_e666_6666_6666 0x4002_6666_6666_6666 ∷ []) 1 (0x4032_9f99_7e66_6666 ∷ 0x4023_efaa_ee14_7ae1 ∷ 0x4029_972a_9666_6667 ∷ 0x402c_fe0e_2e14_7ae2 ∷ [])
    ∷ []

chosen : map {B = ℕ × List ℕ} (λ (l : Line). (best_step l.n l.f l.own l.d l.majority l.size l.inflight l.models, each_below (λ (i : ℕ). to_bits binary64 (time_of_step l.n l.f l.own l.d l.majority l.size l.inflight l.models i)) (steps l.d l.majority))) sheet ≡ map {B = ℕ × List ℕ} (λ (l : Line). (l.best, l.says)) sheet
unfolding line sheet best_step time_of_step step_time peer_times each_below least_up_to total_le predict_of add mul div of_int of_bits to_bits
chosen = refl
