-- Worked values of `parse_init_assignment`, computed by the checker: runs, segments, each refusal, and which of two refusals comes first. Assumes nothing.
use mathlib.Core.Path.{◌≡◌, refl}
use mathlib.Core.List.{List, [], ◌∷◌, map}
use Prim.Native.Nat.{ℕ, ◌+◌, ◌-◌, ◌*◌, ◌^◌}
use lib.ListN.{replicate}
use Rattle.lists.specs.Below.{each_below}
use Rattle.bitmap.specs.Mask.{gather}
use Rattle.rows.specs.Row.{words_of, spelled}
use Rattle.refusals.specs.Outcome.{Outcome, refused, accepted}
use Rattle.refusals.specs.Limits.{is_population, is_shards}
use Rattle.numerals.specs.Quoted.{bytes}
use Rattle.numerals.specs.Text.{without, is_text, cut_by, split}
use Rattle.numerals.specs.Read.{read_each}
use Rattle.numerals.specs.Whole.{is_digits, spelt, whole_of, below_of, member_of, member_in, members_of}
use Rattle.layout_text.specs.LayoutText.{length_of, segment_of, segment_in, segments_of, layout_of, input_refusal, table_refusal, init_of, init_table}

-- the population, the data shards, the total, the text, how many words are lent, and what it is read to
record Line : Type 0 where
  n : ℕ
  d : ℕ
  total : ℕ
  s : List ℕ
  len : ℕ
  says : Outcome (List ℕ)

line : ℕ → ℕ → ℕ → List ℕ → ℕ → Outcome (List ℕ) → Line
line n d total s len says = record { n = n; d = d; total = total; s = s; len = len; says = says }

sheet : List Line
unfolding line
sheet =
    -- runs: the empty text gives each its share; a number from the share to d; runs wrap modulo the total; a + and zeros before it
    line 3 4 6 (bytes "") 12 (accepted (3 ∷ 12 ∷ 48 ∷ []))
    ∷ line 3 4 6 (bytes "2") 12 (accepted (3 ∷ 12 ∷ 48 ∷ []))
    ∷ line 3 4 6 (bytes "3") 12 (accepted (7 ∷ 28 ∷ 49 ∷ []))
    ∷ line 3 4 6 (bytes "4") 12 (accepted (15 ∷ 60 ∷ 51 ∷ []))
    ∷ line 3 4 6 (bytes "+3") 12 (accepted (7 ∷ 28 ∷ 49 ∷ []))
    ∷ line 3 4 6 (bytes "003") 12 (accepted (7 ∷ 28 ∷ 49 ∷ []))
    -- 13: a number below the share, above d, above 255; a blank; a sign alone
    ∷ line 3 4 6 (bytes "1") 12 (refused 13)
    ∷ line 3 4 6 (bytes "5") 12 (refused 13)
    ∷ line 3 4 6 (bytes "256") 12 (refused 13)
    ∷ line 3 4 6 (bytes " 3") 12 (refused 13)
    ∷ line 3 4 6 (bytes "+") 12 (refused 13)
    -- segments: those not named get nothing, replicas named again unite, shards named again stay
    ∷ line 3 4 6 (bytes "0:0,1/1:2") 12 (accepted (3 ∷ 4 ∷ 0 ∷ []))
    ∷ line 3 4 6 (bytes "0:0/0:5") 12 (accepted (33 ∷ 0 ∷ 0 ∷ []))
    ∷ line 3 4 6 (bytes "0:0,0") 12 (accepted (1 ∷ 0 ∷ 0 ∷ []))
    ∷ line 3 4 6 (bytes "2:5") 12 (accepted (0 ∷ 0 ∷ 32 ∷ []))
    ∷ line 3 4 6 (bytes "+2:05") 12 (accepted (0 ∷ 0 ∷ 32 ∷ []))
    -- 7: a malformed number of a replica or of a shard
    ∷ line 3 4 6 (bytes "0:") 12 (refused 7)
    ∷ line 3 4 6 (bytes "0:x") 12 (refused 7)
    ∷ line 3 4 6 (bytes ":0") 12 (refused 7)
    ∷ line 3 4 6 (bytes "0:0,") 12 (refused 7)
    ∷ line 3 4 6 (bytes "x:0") 12 (refused 7)
    ∷ line 3 4 6 (bytes "0:256") 12 (refused 7)
    ∷ line 3 4 6 (bytes "0: 1") 12 (refused 7)
    -- 9: a replica or a shard that there is not; the replica comes before its shards
    ∷ line 3 4 6 (bytes "3:0") 12 (refused 9)
    ∷ line 3 4 6 (bytes "1:6") 12 (refused 9)
    ∷ line 3 4 6 (bytes "3:x") 12 (refused 9)
    -- 13: a segment without a colon
    ∷ line 3 4 6 (bytes "0:1/") 12 (refused 13)
    ∷ line 3 4 6 (bytes "/0:1") 12 (refused 13)
    ∷ line 3 4 6 (bytes "0:0/2") 12 (refused 13)
    ∷ line 3 4 6 (bytes "x") 12 (refused 13)
    ∷ line 3 4 6 (bytes "/") 12 (refused 13)
    -- the first fault from the left
    ∷ line 3 4 6 (bytes "x/0:9") 12 (refused 13)
    ∷ line 3 4 6 (bytes "0:9/x") 12 (refused 9)
    ∷ line 3 4 6 (bytes "0:x/9:0") 12 (refused 7)
    ∷ line 3 4 6 (bytes "9:0/0:x") 12 (refused 9)
    -- 1, 4: the population, the shards; the bounds of both
    ∷ line 17 4 6 (bytes "3") 12 (refused 1)
    ∷ line 0 4 6 (bytes "3") 12 (refused 1)
    ∷ line 3 0 6 (bytes "3") 12 (refused 4)
    ∷ line 3 7 6 (bytes "3") 12 (refused 4)
    ∷ line 3 4 256 (bytes "3") 12 (refused 4)
    ∷ line 16 1 16 (bytes "") 64 (accepted (1 ∷ 2 ∷ 4 ∷ 8 ∷ 16 ∷ 32 ∷ 64 ∷ 128 ∷ 256 ∷ 512 ∷ 1024 ∷ 2048 ∷ 4096 ∷ 8192 ∷ 16384 ∷ 32768 ∷ []))
    ∷ line 1 64 64 (bytes "64") 4 (accepted (18446744073709551615 ∷ []))
    ∷ line 1 1 64 (bytes "") 4 (accepted (18446744073709551615 ∷ []))
    -- shards from 64 on: the last of 255, runs that wrap there, and a row that is in all four words
    ∷ line 1 255 255 (bytes "255") 4 (accepted ((2 ^ 255 - 1) ∷ []))
    ∷ line 1 1 255 (bytes "") 4 (accepted ((2 ^ 255 - 1) ∷ []))
    ∷ line 5 60 255 (bytes "") 20 (accepted ((2 ^ 51 - 1) ∷ ((2 ^ 51 - 1) * 2 ^ 51) ∷ ((2 ^ 51 - 1) * 2 ^ 102) ∷ ((2 ^ 51 - 1) * 2 ^ 153) ∷ ((2 ^ 51 - 1) * 2 ^ 204) ∷ []))
    ∷ line 3 100 255 (bytes "100") 12 (accepted ((2 ^ 100 - 1) ∷ ((2 ^ 100 - 1) * 2 ^ 85) ∷ ((2 ^ 85 - 1) * 2 ^ 170 + (2 ^ 15 - 1)) ∷ []))
    ∷ line 2 3 130 (bytes "1:129,64/0:63,64/1:0,128") 8 (accepted ((2 ^ 64 + 2 ^ 63) ∷ (2 ^ 129 + 2 ^ 128 + 2 ^ 64 + 1) ∷ []))
    ∷ line 1 1 255 (bytes "0:0,64,128,192,254") 4 (accepted ((2 ^ 254 + 2 ^ 192 + 2 ^ 128 + 2 ^ 64 + 1) ∷ []))
    ∷ line 1 1 255 (bytes "0:255") 4 (refused 9)
    ∷ line 2 3 64 (bytes "1:64") 8 (refused 9)
    ∷ line 1 255 255 (bytes "256") 4 (refused 13)
    -- 6: a byte above 127, also where the text is otherwise faulty; 16,385 bytes, and 16,384
    ∷ line 3 4 6 (200 ∷ []) 12 (refused 6)
    ∷ line 3 4 6 (120 ∷ 200 ∷ []) 12 (refused 6)
    ∷ line 3 4 6 (127 ∷ []) 12 (refused 13)
    ∷ line 3 4 6 (replicate 16385 47) 12 (refused 6)
    ∷ line 3 4 6 (replicate 16384 47) 12 (refused 13)
    -- 14: the total is no multiple of the population; 17: a lent table of another length
    ∷ line 3 4 7 (bytes "") 12 (refused 14)
    ∷ line 3 4 7 (bytes "0:6") 12 (refused 14)
    ∷ line 3 4 6 (bytes "") 8 (refused 17)
    ∷ line 3 4 6 (bytes "") 16 (refused 17)
    ∷ line 3 4 6 (bytes "0:0") 0 (refused 17)
    ∷ line 3 4 6 (bytes "") 3 (refused 17)
    ∷ line 3 4 6 (bytes "") 11 (refused 17)
    ∷ line 3 4 6 (bytes "") 13 (refused 17)
    -- two cases hold: the first refuses
    ∷ line 17 0 6 (bytes "3") 12 (refused 1)
    ∷ line 3 0 6 (200 ∷ []) 12 (refused 4)
    ∷ line 17 4 6 (200 ∷ []) 68 (refused 1)
    ∷ line 3 4 7 (bytes "9") 12 (refused 13)
    ∷ line 3 4 7 (bytes "0:x") 12 (refused 7)
    ∷ line 3 4 6 (bytes "1") 8 (refused 13)
    ∷ line 3 4 7 (bytes "") 8 (refused 14)
    ∷ []

answered : map (λ (l : Line). init_of l.n l.d l.total l.s l.len) sheet ≡ map (λ (l : Line). l.says) sheet
unfolding line sheet init_of input_refusal is_population is_shards is_text layout_of length_of whole_of is_digits without spelt each_below gather segments_of
    read_each split segment_in segment_of cut_by below_of members_of member_in member_of table_refusal
answered = refl

-- ---- the words of the lent table: the lowest shards first, four words a row
tables : List Line
unfolding line
tables =
    line 3 4 6 (bytes "3") 12 (accepted (7 ∷ 0 ∷ 0 ∷ 0 ∷ 28 ∷ 0 ∷ 0 ∷ 0 ∷ 49 ∷ 0 ∷ 0 ∷ 0 ∷ []))
    ∷ line 1 1 255 (bytes "0:0,65,130,195,254") 4 (accepted (1 ∷ 2 ∷ 4 ∷ 4611686018427387912 ∷ []))
    ∷ line 1 255 255 (bytes "255") 4 (accepted (18446744073709551615 ∷ 18446744073709551615 ∷ 18446744073709551615 ∷ 9223372036854775807 ∷ []))
    ∷ line 2 3 130 (bytes "1:129,64/0:63,64") 8 (accepted (9223372036854775808 ∷ 1 ∷ 0 ∷ 0 ∷ 0 ∷ 1 ∷ 2 ∷ 0 ∷ []))
    ∷ line 3 4 6 (bytes "") 3 (refused 17)
    ∷ line 3 4 256 (bytes "") 12 (refused 4)
    ∷ []

written : map (λ (l : Line). init_table l.n l.d l.total l.s l.len) tables ≡ map (λ (l : Line). l.says) tables
unfolding line tables init_table spelled words_of init_of input_refusal is_population is_shards is_text layout_of length_of whole_of is_digits without spelt each_below gather segments_of
    read_each split segment_in segment_of cut_by below_of members_of member_in member_of table_refusal
written = refl
