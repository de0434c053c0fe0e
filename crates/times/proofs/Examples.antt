-- Worked values, computed by the checker: reply times beside the bits that Python's floats give, shard lengths, the times of two replicas. Assumes nothing.
use Rattle.std.proofs.Common.{◌≡◌, ℕ, List, [], ◌∷◌, map, refl}
use lib.Ieee.{Float, binary64, add, mul, div, of_int, of_bits, to_bits}
use Rattle.lists.specs.Below.{each_below}
use Rattle.floats.specs.Floats.{is_finite}
use Rattle.times.specs.Times.{predict_of, settled, reply_time, time_at, shard_length, times_of}
use Rattle.times.specs.declared.Peer.{Peer}
use Rattle.times.specs.declared.Peer.TheVariants.{Silent}
use Rattle.times.specs.declared.PeerRecord.{PeerRecord}
use Rattle.times.proofs.Worked.{heard}

bits : Float → ℕ
bits t = to_bits binary64 t

-- ---- reply times
record Line : Type 0 where
  peer : Peer
  x : ℕ
  penalty : ℕ
  says : ℕ

line : Peer → ℕ → ℕ → ℕ → Line
line peer x penalty says = record { peer = peer; x = x; penalty = penalty; says = says }

-- the peer, the bytes, and the bits of the penalty and of the time; a time that is not finite is 0x7ff0_0000_0000_0000
sheet : List Line
unfolding line
sheet =
    -- slope, delay, jitter, unreliability, at the penalty: the bits are others if delay and jitter are swapped or added first, if the penalty's term is added
    -- first or to the jitter, if 1000000 is taken for 1048576, if a product is not rounded, or if all is rounded once
    -- 0.8, 1.3, 0.4, 0.01, at 100.3
    line (heard 0x3fe9_9999_9999_999a 0x3ff4_cccc_cccc_cccd 0x3fd9_9999_9999_999a 0x3f84_7ae1_47ae_147b) 1500000 0x4059_1333_3333_3333 0x400e_c77e_76c8_b438
    -- 0.1, 33.3, 3.14, 0.9, at 100.3
    ∷ line (heard 0x3fb9_9999_9999_999a 0x4040_a666_6666_6666 0x4009_1eb8_51eb_851f 0x3fec_cccc_cccc_cccd) 1073754169 0x4059_1333_3333_3333 0x406c_a38e_c3b8_51ea
    -- 0.4, 1.3, 0.7, 0.01, at 1000.1
    ∷ line (heard 0x3fd9_9999_9999_999a 0x3ff4_cccc_cccc_cccd 0x3fe6_6666_6666_6666 0x3f84_7ae1_47ae_147b) 3145729 0x408f_40cc_cccc_cccd 0x402a_66e9_85a1_cac2
    -- 0.05, 0.4, 0.001, 0.01, at 1000.1
    ∷ line (heard 0x3fa9_9999_9999_999a 0x3fd9_9999_9999_999a 0x3f50_624d_d2f1_a9fc 0x3f84_7ae1_47ae_147b) 3145729 0x408f_40cc_cccc_cccd 0x4025_1a9f_c010_624f
    -- 17.9, 3.14, 1.3, 0.9, at 10.7
    ∷ line (heard 0x4031_e666_6666_6666 0x4009_1eb8_51eb_851f 0x3ff4_cccc_cccc_cccd 0x3fec_cccc_cccc_cccd) 65537 0x4025_6666_6666_6666 0x402e_60a6_13d7_0a3c
    -- 0.6, 250.3, 0.1, 0.7, at 250.0
    ∷ line (heard 0x3fe3_3333_3333_3333 0x406f_4999_9999_999a 0x3fb9_9999_9999_999a 0x3fe6_6666_6666_6666) 1073754169 0x406f_4000_0000_0000 0x4090_3f3a_6ef3_3334
    -- 0.1, 12.5, 0.9, 0.9, at 10.7
    ∷ line (heard 0x3fb9_9999_9999_999a 0x4029_0000_0000_0000 0x3fec_cccc_cccc_cccd 0x3fec_cccc_cccc_cccd) 123456789 0x4025_6666_6666_6666 0x4041_66e1_8170_a3d6
    -- 0.3, 0.3, 0.2, 0.9, at 3.3
    ∷ line (heard 0x3fd3_3333_3333_3333 0x3fd3_3333_3333_3333 0x3fc9_9999_9999_999a 0x3fec_cccc_cccc_cccd) 1048577 0x400a_6666_6666_6666 0x400e_28f5_e8f5_c28e
    -- 2.3, 0.4, 4.7, 0.3, at 100.3
    ∷ line (heard 0x4002_6666_6666_6666 0x3fd9_9999_9999_999a 0x4012_cccc_cccc_cccd 0x3fd3_3333_3333_3333) 1048577 0x4059_1333_3333_3333 0x4042_beb8_6451_eb84
    -- 33.3, 1.3, 0.4, 0.001, at 250.0
    ∷ line (heard 0x4040_a666_6666_6666 0x3ff4_cccc_cccc_cccd 0x3fd9_9999_9999_999a 0x3f50_624d_d2f1_a9fc) 65537 0x406f_4000_0000_0000 0x4010_2008_5333_3332
    -- 0.01, 17.9, 0.7, 0.001, at 5000.0
    ∷ line (heard 0x3f84_7ae1_47ae_147b 0x4031_e666_6666_6666 0x3fe6_6666_6666_6666 0x3f50_624d_d2f1_a9fc) 1073754169 0x40b3_8800_0000_0000 0x4040_eb88_fa51_eb84
    -- 1.3, 0.1, 0.7, 0.1, at 10.7
    ∷ line (heard 0x3ff4_cccc_cccc_cccd 0x3fb9_9999_9999_999a 0x3fe6_6666_6666_6666 0x3fb9_9999_9999_999a) 1048577 0x4025_6666_6666_6666 0x4009_5c29_9c28_f5c4
    -- a 1 is lost beside 2 ^ 53, three times over; a 2 is not
    ∷ line (heard 0x3ff0_0000_0000_0000 0x4340_0000_0000_0000 0x3ff0_0000_0000_0000 0x3ff0_0000_0000_0000) 1048576 0x3ff0_0000_0000_0000 0x4340_0000_0000_0000
    ∷ line (heard 0x3ff0_0000_0000_0000 0x3ff0_0000_0000_0000 0x4340_0000_0000_0000 0) 1048576 0 0x4340_0000_0000_0001
    -- numbers of bytes that no double is: 2 ^ 53 + 1, 2 ^ 53 + 3, 2 ^ 64 - 1
    ∷ line (heard 0x3ff0_0000_0000_0000 0 0 0) 9007199254740993 0 0x4200_0000_0000_0000
    ∷ line (heard 0x3ff0_0000_0000_0000 0 0 0) 9007199254740995 0 0x4200_0000_0000_0002
    ∷ line (heard 0x3ff0_0000_0000_0000 0 0 0) 18446744073709551615 0 0x42b0_0000_0000_0000
    -- not finite: a NaN slope; an infinite slope at no bytes; a delay of infinity, of -infinity; infinity - infinity; unreliability 0 at an infinite penalty
    ∷ line (heard 0x7ff8_0000_0000_0000 0x3fb9_9999_9999_999a 0x3fb9_9999_9999_999a 0x3fb9_9999_9999_999a) 1 0x3fb9_9999_9999_999a 0x7ff0_0000_0000_0000
    ∷ line (heard 0x7ff0_0000_0000_0000 0x3fb9_9999_9999_999a 0x3fb9_9999_9999_999a 0x3fb9_9999_9999_999a) 0 0x3fb9_9999_9999_999a 0x7ff0_0000_0000_0000
    ∷ line (heard 0x3fb9_9999_9999_999a 0x7ff0_0000_0000_0000 0x3fb9_9999_9999_999a 0x3fb9_9999_9999_999a) 1 0x3fb9_9999_9999_999a 0x7ff0_0000_0000_0000
    ∷ line (heard 0x3fb9_9999_9999_999a 0xfff0_0000_0000_0000 0x3fb9_9999_9999_999a 0x3fb9_9999_9999_999a) 1 0x3fb9_9999_9999_999a 0x7ff0_0000_0000_0000
    ∷ line (heard 0x3fb9_9999_9999_999a 0x7ff0_0000_0000_0000 0xfff0_0000_0000_0000 0x3fb9_9999_9999_999a) 1 0x3fb9_9999_9999_999a 0x7ff0_0000_0000_0000
    ∷ line (heard 0x3fb9_9999_9999_999a 0x3fb9_9999_9999_999a 0x3fb9_9999_9999_999a 0) 1 0x7ff0_0000_0000_0000 0x7ff0_0000_0000_0000
    -- the largest double; the first sum is past it, though the whole is not
    ∷ line (heard 0 0x7fef_ffff_ffff_ffff 0 0) 0 0 0x7fef_ffff_ffff_ffff
    ∷ line (heard 0x7fef_ffff_ffff_ffff 0x7fef_ffff_ffff_ffff 0xffef_ffff_ffff_ffff 0) 1048576 0 0x7ff0_0000_0000_0000
    -- +0 and -0
    ∷ line (heard 0 0 0 0) 0 0 0
    ∷ line (heard 0xbff0_0000_0000_0000 0x8000_0000_0000_0000 0x8000_0000_0000_0000 0x8000_0000_0000_0000) 0 0x3ff0_0000_0000_0000 0x8000_0000_0000_0000
    ∷ line (heard 0xbff0_0000_0000_0000 0x8000_0000_0000_0000 0 0x8000_0000_0000_0000) 0 0x3ff0_0000_0000_0000 0
    -- the smallest double, times a half, a little more, one and a half; minus a half of it; and three of it beside a half
    ∷ line (heard 1 0 0 0) 524288 0 0
    ∷ line (heard 1 0 0 0) 524289 0 1
    ∷ line (heard 1 0 0 0) 1572864 0 2
    ∷ line (heard 0x8000_0000_0000_0001 0x8000_0000_0000_0000 0x8000_0000_0000_0000 0x8000_0000_0000_0000) 524288 0 0x8000_0000_0000_0000
    ∷ line (heard 1 1 1 1) 524288 0x3ff0_0000_0000_0000 3
    -- the largest subnormal double; a time below 0 is kept
    ∷ line (heard 0 0x0010_0000_0000_0000 0x8000_0000_0000_0001 0) 0 0 0x000f_ffff_ffff_ffff
    ∷ line (heard 0x3fb9_9999_9999_999a 0xbfd3_3333_3333_3333 0xbfc9_9999_9999_999a 0xbfb9_9999_9999_999a) 1048576 0x3fe6_6666_6666_6666 0xbfde_147a_e147_ae15
    -- a silent peer
    ∷ line Silent 1048576 0 0x7ff0_0000_0000_0000
    ∷ []

replies : map (λ (l : Line). bits (reply_time l.peer l.x (of_bits binary64 l.penalty))) sheet ≡ map (λ (l : Line). l.says) sheet
unfolding line bits sheet reply_time settled predict_of is_finite add mul div of_int of_bits to_bits
replies = refl

-- ---- shard lengths
record Shards : Type 0 where
  size : ℕ
  d : ℕ
  says : ℕ

shards : ℕ → ℕ → ℕ → Shards
shards size d says = record { size = size; d = d; says = says }

sizes : List Shards
unfolding shards
sizes =
    shards 0 1 1
    ∷ shards 0 64 1
    ∷ shards 1 1 1
    ∷ shards 1 64 1
    ∷ shards 16 16 1
    ∷ shards 17 16 2
    ∷ shards 32 16 2
    ∷ shards 33 16 3
    ∷ shards 1073741824 1 1073741824
    ∷ shards 1073741824 64 16777216
    ∷ shards 1073741823 64 16777216
    ∷ shards 2097152 2 1048576
    ∷ shards 2097153 2 1048577
    ∷ []

lengths : map (λ (s : Shards). shard_length s.size s.d) sizes ≡ map (λ (s : Shards). s.says) sizes
unfolding shards sizes shard_length
lengths = refl

-- ---- the times of two replicas with no shard and with one of 1048577 bytes, where the first is our own, and where the second is
records : List PeerRecord
records = record { peer = heard 0x3fe9_9999_9999_999a 0x3ff4_cccc_cccc_cccd 0x3fd9_9999_9999_999a 0x3f84_7ae1_47ae_147b; inflight = 1000 } ∷ record { peer = heard 0x3fd3_3333_3333_3333 0x3fd3_3333_3333_3333 0x3fc9_9999_9999_999a 0x3fec_cccc_cccc_cccd; inflight = 4096 } ∷ []

tables : map (λ (own : ℕ). map bits (times_of 2 own 1 1048577 records (of_bits binary64 0x4059_1333_3333_3333))) (0 ∷ 1 ∷ [])
    ≡ (0 ∷ 0 ∷ 0x4056_b15a_e147_ae14 ∷ 0x4056_c48e_15ae_147b ∷ [])
    ∷ (0x4005_a14e_76c8_b43a ∷ 0x400c_07b5_4395_8106 ∷ 0 ∷ 0 ∷ [])
    ∷ []
unfolding bits records times_of each_below time_at reply_time settled predict_of is_finite add mul div of_int of_bits to_bits
tables = refl
