-- Worked values of the entries, computed by the checker: floors, choices and their rows as the Rust gives them, each refusal, and which of two comes first.
-- Assumes nothing.
use mathlib.Core.Path.{◌≡◌, refl}
use mathlib.Core.Bool.{Bool, true, false}
use mathlib.Core.List.{List, [], ◌∷◌, ◌++◌, map}
use Rattle.std.specs.Prelude.{Option, None, Some}
use Prim.Native.Nat.{ℕ, ◌-◌, ◌*◌, ◌^◌}
use lib.Ieee.{Float, add, mul, div, of_int, of_bits}
use lib.ListN.{take, replicate}
use Rattle.lists.specs.Below.{some_below, each_below}
use Rattle.lists.specs.First.{least_up_to}
use Rattle.bitmap.specs.Mask.{count}
use Rattle.rows.specs.Row.{value, words_of, row_in, rows_in, spelled}
use Rattle.floats.specs.Floats.{plus_zero, total_le}
use Rattle.refusals.specs.Outcome.{Outcome, refused, accepted}
use Rattle.refusals.specs.Limits.{peers_fit, is_population, is_shards, is_quorum}
use Rattle.times.specs.declared.PerfModel.{PerfModel}
use Rattle.times.specs.Times.{predict_of, models_in}
use Rattle.times.proofs.TimeLaws.{numbers_of}
use Rattle.times.proofs.Worked.{one, two, ten, model}
use Rattle.adaptive.specs.Floor.{floor_of, floor_refusal, min_shards_of}
use Rattle.steps.specs.Steps.{still, peer_times, step_time, time_of_step, best_step}
use Rattle.adaptive.specs.Policy.{policy_refusal, best_shards, policy_of, rows_of}

-- ---- `min_shards_per_replica`: the population, the tolerance, the data shards, the majority, those alive; then the answer
record Floor : Type 0 where
  n : ℕ
  f : ℕ
  d : ℕ
  majority : ℕ
  alive : ℕ
  says : Outcome ℕ

floor : ℕ → ℕ → ℕ → ℕ → ℕ → Outcome ℕ → Floor
floor n f d majority alive says = record { n = n; f = f; d = d; majority = majority; alive = alive; says = says }

floors : List Floor
unfolding floor
floors =
    -- five replicas, of which 5, 4, 3, 2, 1 and 0 are alive
    floor 5 1 12 3 31 (accepted 0)
    ∷ floor 5 1 12 3 15 (accepted 4)
    ∷ floor 5 1 12 3 28 (accepted 8)
    ∷ floor 5 1 12 3 17 (accepted 12)
    ∷ floor 5 1 12 3 8 (accepted 12)
    ∷ floor 5 1 12 3 0 (accepted 12)
    -- no tolerance; as much as there may be; one replica
    ∷ floor 3 0 4 2 7 (accepted 0)
    ∷ floor 3 0 4 2 6 (accepted 2)
    ∷ floor 3 2 4 2 7 (accepted 4)
    ∷ floor 3 2 4 2 5 (accepted 4)
    ∷ floor 1 0 1 1 1 (accepted 1)
    ∷ floor 1 0 1 1 0 (accepted 1)
    -- large numbers; 4 × 64 = 256 and 6 × 85 = 510, at which the bytes of the Rust overflow
    ∷ floor 16 15 64 16 65535 (accepted 64)
    ∷ floor 16 0 64 16 65535 (accepted 4)
    ∷ floor 16 0 64 8 65535 (accepted 0)
    ∷ floor 16 15 64 16 0 (accepted 64)
    ∷ floor 3 2 64 1 0 (accepted 64)
    ∷ floor 16 15 255 15 65535 (accepted 255)
    ∷ floor 16 0 255 15 65535 (accepted 0)
    ∷ floor 16 2 240 8 255 (accepted 90)
    ∷ floor 5 2 255 3 0 (accepted 255)
    -- the population; the tolerance; the data shards; the majority; no multiple; one alive that is none of them
    ∷ floor 0 0 4 2 0 (refused 1)
    ∷ floor 17 1 4 2 7 (refused 1)
    ∷ floor 3 3 4 2 7 (refused 2)
    ∷ floor 3 1 0 2 7 (refused 4)
    ∷ floor 3 1 256 2 7 (refused 4)
    ∷ floor 3 1 4 0 7 (refused 5)
    ∷ floor 3 1 4 4 7 (refused 5)
    ∷ floor 3 1 5 2 7 (refused 14)
    ∷ floor 3 1 4 2 8 (refused 16)
    -- two cases hold: the first refuses
    ∷ floor 17 17 4 2 7 (refused 1)
    ∷ floor 3 3 0 2 7 (refused 2)
    ∷ floor 3 1 256 0 7 (refused 4)
    ∷ floor 3 1 7 4 7 (refused 5)
    ∷ floor 3 1 5 2 8 (refused 14)
    ∷ []

lowest : Floor → Outcome ℕ
lowest l = min_shards_of l.n l.f l.d l.majority l.alive

floors_are : map lowest floors ≡ map (λ (l : Floor). l.says) floors
unfolding floor floors lowest min_shards_of floor_refusal floor_of is_population is_shards is_quorum count
floors_are = refl

-- ---- tables: an initial layout of three; balanced ones of three replicas and of four, for three counts: the tens tell the count, the units the replica
abbrev laid : List ℕ
laid = 3 ∷ 40 ∷ 41 ∷ []

abbrev nine : List ℕ
nine = 11 ∷ 12 ∷ 13 ∷ 21 ∷ 22 ∷ 23 ∷ 31 ∷ 32 ∷ 33 ∷ []

abbrev twelve : List ℕ
twelve = 11 ∷ 12 ∷ 13 ∷ 14 ∷ 21 ∷ 22 ∷ 23 ∷ 24 ∷ 31 ∷ 32 ∷ 33 ∷ 34 ∷ []

-- nothing in flight
abbrev idle : List ℕ
idle = 0 ∷ 0 ∷ 0 ∷ []

-- ---- `pick_assignment_policy` and `pick_assignment_policy_rows`
record Line : Type 0 where
  n : ℕ
  f : ℕ
  own : ℕ
  d : ℕ
  w : ℕ
  majority : ℕ
  size : ℕ
  inflight : List ℕ
  models : List Float
  alive : ℕ
  initial : List ℕ
  table : List ℕ
  adaptive : Bool
  balanced : Bool
  says : Outcome (Option ℕ) × List ℕ

-- a word for each of n replicas, and three numbers; what is not listed is 0
word_each : ℕ → List ℕ → List ℕ
word_each n inflight = take n (inflight ++ replicate 16 0)

model_each : ℕ → List PerfModel → List Float
model_each n models = take (n * 3) (numbers_of models ++ replicate 48 plus_zero)

-- the two tables and the part of them by their words
words : ℕ → ℕ → ℕ → ℕ → ℕ → ℕ → ℕ → List ℕ → List PerfModel → ℕ → List ℕ → List ℕ → Bool → Bool → Outcome (Option ℕ) → List ℕ → Line
words n f own d w majority size inflight models alive initial table adaptive balanced choice part = record {
  n = n;
  f = f;
  own = own;
  d = d;
  w = w;
  majority = majority;
  size = size;
  inflight = word_each n inflight;
  models = model_each n models;
  alive = alive;
  initial = initial;
  table = table;
  adaptive = adaptive;
  balanced = balanced;
  says = (choice, part);
}

-- and by their rows
line : ℕ → ℕ → ℕ → ℕ → ℕ → ℕ → ℕ → List ℕ → List PerfModel → ℕ → List ℕ → List ℕ → Bool → Bool → Outcome (Option ℕ) → List ℕ → Line
line n f own d w majority size inflight models alive initial table adaptive balanced choice rows = words n f own d w majority size inflight models alive (spelled initial) (spelled table) adaptive balanced choice (spelled rows)

-- n, f, our own number, d, w, the majority, size, bytes in flight, models, those alive, the two tables, adaptive, balanced; the choice, and the rows
choices : List Line
unfolding words line
choices =
    -- unbalanced, adaptive or not
    line 3 1 0 4 6 2 0 idle [] 7 laid nine false false (accepted None) laid
    ∷ line 3 1 0 4 6 2 0 idle [] 7 laid nine true false (accepted None) laid
    -- not adaptive: the count of row 0, 2 to 4; of no other row
    ∷ line 3 1 0 4 6 2 0 idle [] 7 laid nine false true (accepted (Some 2)) (11 ∷ 12 ∷ 13 ∷ [])
    ∷ line 3 1 0 4 6 2 0 idle [] 7 (7 ∷ 40 ∷ 41 ∷ []) nine false true (accepted (Some 3)) (21 ∷ 22 ∷ 23 ∷ [])
    ∷ line 3 1 0 4 6 2 0 idle [] 7 (15 ∷ 40 ∷ 41 ∷ []) nine false true (accepted (Some 4)) (31 ∷ 32 ∷ 33 ∷ [])
    ∷ line 3 1 0 4 6 2 0 idle [] 7 (48 ∷ 7 ∷ 15 ∷ []) nine false true (accepted (Some 2)) (11 ∷ 12 ∷ 13 ∷ [])
    -- below the counts of the table, with no floor; above them
    ∷ line 3 0 0 4 6 2 0 idle [] 7 (1 ∷ 40 ∷ 41 ∷ []) nine false true (accepted None) (1 ∷ 40 ∷ 41 ∷ [])
    ∷ line 3 0 0 4 6 2 0 idle [] 7 (0 ∷ 40 ∷ 41 ∷ []) nine false true (accepted None) (0 ∷ 40 ∷ 41 ∷ [])
    ∷ line 3 0 0 4 6 2 0 idle [] 7 (31 ∷ 3 ∷ 3 ∷ []) nine false true (accepted None) (31 ∷ 3 ∷ 3 ∷ [])
    ∷ line 3 1 0 4 6 2 0 idle [] 7 (63 ∷ 3 ∷ 3 ∷ []) nine false true (accepted None) (63 ∷ 3 ∷ 3 ∷ [])
    -- the floor is larger: fewer are alive; it is the least, and one more than that
    ∷ line 3 1 0 4 6 2 0 idle [] 6 laid nine false true (accepted (Some 4)) (31 ∷ 32 ∷ 33 ∷ [])
    ∷ line 3 1 0 4 6 2 0 idle [] 1 laid nine false true (accepted (Some 4)) (31 ∷ 32 ∷ 33 ∷ [])
    ∷ line 3 1 0 4 6 2 0 idle [] 0 laid nine false true (accepted (Some 4)) (31 ∷ 32 ∷ 33 ∷ [])
    ∷ line 3 1 0 4 6 2 0 idle [] 7 (0 ∷ 40 ∷ 41 ∷ []) nine false true (accepted (Some 2)) (11 ∷ 12 ∷ 13 ∷ [])
    ∷ line 3 0 0 4 6 2 0 idle [] 3 (1 ∷ 40 ∷ 41 ∷ []) nine false true (accepted (Some 2)) (11 ∷ 12 ∷ 13 ∷ [])
    ∷ line 4 1 3 3 6 3 0 idle [] 7 (1 ∷ 40 ∷ 41 ∷ 42 ∷ []) twelve false true (accepted (Some 2)) (21 ∷ 22 ∷ 23 ∷ 24 ∷ [])
    ∷ line 4 1 3 3 6 3 0 idle [] 15 (4 ∷ 40 ∷ 41 ∷ 42 ∷ []) twelve false true (accepted (Some 1)) (11 ∷ 12 ∷ 13 ∷ 14 ∷ [])
    ∷ line 4 1 3 3 6 3 0 idle [] 15 (40 ∷ 40 ∷ 41 ∷ 42 ∷ []) twelve false true (accepted (Some 2)) (21 ∷ 22 ∷ 23 ∷ 24 ∷ [])
    -- the table is empty
    ∷ line 3 1 0 4 6 2 0 idle [] 7 laid [] false true (accepted None) laid
    ∷ line 3 1 0 4 6 2 0 idle [] 1 laid [] true true (accepted None) laid
    -- adaptive: 2 MiB to each of two peers, or 4 MiB to one; of equal times the first
    ∷ line 3 1 0 4 6 2 4194300 idle (still ∷ model one 0 0 ∷ model one 0 0 ∷ []) 7 laid nine true true (accepted (Some 2)) (11 ∷ 12 ∷ 13 ∷ [])
    ∷ line 3 1 0 4 6 2 4194300 idle (still ∷ model one 0 0 ∷ model one ten 0 ∷ []) 7 laid nine true true (accepted (Some 4)) (31 ∷ 32 ∷ 33 ∷ [])
    ∷ line 3 1 0 4 6 2 4194300 idle (still ∷ model one 0 0 ∷ model one two 0 ∷ []) 7 laid nine true true (accepted (Some 2)) (11 ∷ 12 ∷ 13 ∷ [])
    ∷ line 3 1 0 4 6 2 4194300 idle (still ∷ model one 0 0 ∷ model one one two ∷ []) 7 laid nine true true (accepted (Some 4)) (31 ∷ 32 ∷ 33 ∷ [])
    ∷ line 3 1 0 4 6 2 4194300 idle (still ∷ model one ten 0 ∷ model one 0 0 ∷ []) 7 laid nine true true (accepted (Some 4)) (31 ∷ 32 ∷ 33 ∷ [])
    -- four bytes more, and one less; no bytes at all
    ∷ line 3 1 0 4 6 2 4194304 idle (still ∷ model one 0 0 ∷ model one two 0 ∷ []) 7 laid nine true true (accepted (Some 2)) (11 ∷ 12 ∷ 13 ∷ [])
    ∷ line 3 1 0 4 6 2 4194299 idle (still ∷ model one 0 0 ∷ model one two 0 ∷ []) 7 laid nine true true (accepted (Some 4)) (31 ∷ 32 ∷ 33 ∷ [])
    ∷ line 3 1 0 4 6 2 0 idle (still ∷ model one 0 0 ∷ model one two 0 ∷ []) 7 laid nine true true (accepted (Some 4)) (31 ∷ 32 ∷ 33 ∷ [])
    -- three steps, of which the second is the least
    ∷ line 4 1 0 3 6 3 3145725 idle (still ∷ model one 0 0 ∷ model one 0 0 ∷ model one ten 0 ∷ []) 15 (1 ∷ 40 ∷ 41 ∷ 42 ∷ []) twelve true true (accepted (Some 2)) (21 ∷ 22 ∷ 23 ∷ 24 ∷ [])
    -- bytes in flight; our own is the last; a peer that is not alive counts all the same
    ∷ line 3 1 0 4 6 2 4194300 (0 ∷ 0 ∷ 3145728 ∷ []) (still ∷ model one 0 0 ∷ model one 0 0 ∷ []) 7 laid nine true true (accepted (Some 4)) (31 ∷ 32 ∷ 33 ∷ [])
    ∷ line 3 1 2 4 6 2 4194300 (0 ∷ 0 ∷ 3145728 ∷ []) (model one 0 0 ∷ model one 0 0 ∷ model two ten ten ∷ []) 7 laid nine true true (accepted (Some 2)) (11 ∷ 12 ∷ 13 ∷ [])
    ∷ line 4 1 0 4 6 2 4194300 idle (still ∷ model one 0 0 ∷ model one 0 0 ∷ model one ten 0 ∷ []) 13 (3 ∷ 40 ∷ 41 ∷ 42 ∷ []) twelve true true (accepted (Some 2)) (11 ∷ 12 ∷ 13 ∷ 14 ∷ [])
    -- more to hear from than there are; nobody to hear from
    ∷ line 3 2 0 4 6 2 4194300 idle (still ∷ model one 0 0 ∷ model one 0 0 ∷ []) 7 laid nine true true (accepted (Some 4)) (31 ∷ 32 ∷ 33 ∷ [])
    ∷ line 3 0 0 4 6 2 4194300 idle (still ∷ model one 0 0 ∷ model one 0 0 ∷ []) 7 laid nine true true (accepted (Some 4)) (31 ∷ 32 ∷ 33 ∷ [])
    ∷ line 1 0 0 2 2 1 0 [] [] 1 (1 ∷ []) (2 ∷ []) true true (accepted (Some 2)) (2 ∷ [])
    -- what the models favour is below the floor
    ∷ line 3 1 0 4 6 2 4194300 idle (still ∷ model one 0 0 ∷ model one 0 0 ∷ []) 5 laid nine true true (accepted (Some 4)) (31 ∷ 32 ∷ 33 ∷ [])
    -- our own bytes in flight are unread; the most that may be
    ∷ line 3 1 0 4 6 2 0 (1099511627777 ∷ 0 ∷ 0 ∷ []) [] 7 laid nine false true (accepted (Some 2)) (11 ∷ 12 ∷ 13 ∷ [])
    ∷ line 3 1 1 4 6 2 0 (0 ∷ 1099511627777 ∷ 0 ∷ []) [] 7 laid nine false true (accepted (Some 2)) (11 ∷ 12 ∷ 13 ∷ [])
    ∷ line 3 1 0 4 6 2 1073741824 (0 ∷ 1099511627776 ∷ 1099511627776 ∷ []) [] 7 laid nine false true (accepted (Some 2)) (11 ∷ 12 ∷ 13 ∷ [])
    -- the largest numbers
    ∷ line 16 15 15 64 64 16 0 (replicate 16 1099511627776) [] 65535 (replicate 16 18446744073709551615) [] false true (accepted None) (replicate 16 18446744073709551615)
    ∷ line 16 15 15 255 255 15 0 (replicate 16 1099511627776) [] 65535 (replicate 16 (2 ^ 255 - 1)) [] false true (accepted None) (replicate 16 (2 ^ 255 - 1))
    -- counts above 64: of row 0, and of the floor
    ∷ line 1 0 0 70 70 1 0 [] [] 1 ((2 ^ 70 - 1) ∷ []) ((2 ^ 69) ∷ []) false true (accepted (Some 70)) ((2 ^ 69) ∷ [])
    ∷ line 2 0 0 130 130 2 0 (0 ∷ 0 ∷ []) [] 3 ((2 ^ 66 - 1) ∷ 0 ∷ []) (each_below (λ (i : ℕ). 2 ^ i) 130 ++ (1 ∷ 2 ∷ [])) false true (accepted (Some 66)) (4 ∷ 8 ∷ [])
    ∷ []

-- what both entries return
picked : Line → Outcome (Option ℕ) × List ℕ
picked l =
    let c = policy_of l.n l.f l.own l.d l.w l.majority l.size l.inflight l.models l.alive l.initial l.table l.adaptive l.balanced in
    (c, spelled (rows_of l.n l.d l.majority c (rows_in l.initial) (rows_in l.table)))

choices_are : map picked choices ≡ map (λ (l : Line). l.says) choices
unfolding words line word_each model_each choices picked value words_of row_in rows_in spelled policy_of policy_refusal is_population is_shards is_quorum peers_fit some_below count floor_of best_shards best_step least_up_to time_of_step step_time peer_times models_in each_below predict_of add mul div of_int of_bits total_le
choices_are = refl

-- ---- what is refused, and with which number, whether or not it is adaptive and balanced; the rows are then none
record Wrong : Type 0 where
  number : ℕ
  given : Bool → Bool → Line

wrong : ℕ → ℕ → ℕ → ℕ → ℕ → ℕ → ℕ → List ℕ → ℕ → List ℕ → List ℕ → ℕ → Wrong
unfolding words line
wrong n f own d w majority size inflight alive initial table number = record {
  number = number;
  given = λ adaptive balanced. line n f own d w majority size inflight [] alive initial table adaptive balanced (refused number) [];
}

-- by the two tables of each replica
tables : List ℕ → List Float → ℕ → Wrong
tables inflight models number = record {
  number = number;
  given = λ adaptive balanced. record {
    n = 3;
    f = 1;
    own = 0;
    d = 4;
    w = 6;
    majority = 2;
    size = 0;
    inflight = inflight;
    models = models;
    alive = 7;
    initial = spelled laid;
    table = spelled nine;
    adaptive = adaptive;
    balanced = balanced;
    says = (refused number, []);
  };
}

-- by the words of the two tables
worded : ℕ → ℕ → ℕ → ℕ → ℕ → ℕ → ℕ → List ℕ → ℕ → List ℕ → List ℕ → ℕ → Wrong
unfolding words
worded n f own d w majority size inflight alive initial table number = record {
  number = number;
  given = λ adaptive balanced. words n f own d w majority size inflight [] alive initial table adaptive balanced (refused number) [];
}

refusals : List Wrong
unfolding wrong worded tables
refusals =
    -- the population; the tolerance; our own number
    wrong 0 1 0 4 6 2 0 idle 7 laid nine 1
    ∷ wrong 17 1 0 4 6 2 0 idle 7 laid nine 1
    ∷ wrong 3 3 0 4 6 2 0 idle 7 laid nine 2
    ∷ wrong 3 1 3 4 6 2 0 idle 7 laid nine 3
    -- the data shards and the width; the majority; no multiple
    ∷ wrong 3 1 0 0 6 2 0 idle 7 laid nine 4
    ∷ wrong 3 1 0 8 6 2 0 idle 7 laid nine 4
    ∷ wrong 3 1 0 4 256 2 0 idle 7 laid nine 4
    ∷ wrong 3 1 0 4 6 0 0 idle 7 laid nine 5
    ∷ wrong 3 1 0 4 6 4 0 idle 7 laid nine 5
    ∷ wrong 3 1 0 5 6 2 0 idle 7 laid nine 14
    -- the size; bytes in flight to a peer
    ∷ wrong 3 1 0 4 6 2 1073741825 idle 7 laid nine 15
    ∷ wrong 3 1 0 4 6 2 0 (0 ∷ 1099511627777 ∷ 0 ∷ []) 7 laid nine 15
    ∷ wrong 3 1 0 4 6 2 0 (0 ∷ 0 ∷ 1099511627777 ∷ []) 7 laid nine 15
    ∷ wrong 3 1 2 4 6 2 0 (1099511627777 ∷ 0 ∷ 0 ∷ []) 7 laid nine 15
    -- one alive that is none of them; a shard of the initial layout, of the table, at the width
    ∷ wrong 3 1 0 4 6 2 0 idle 8 laid nine 16
    ∷ wrong 3 1 0 4 6 2 0 idle 7 (3 ∷ 40 ∷ 64 ∷ []) nine 16
    ∷ wrong 3 1 0 4 6 2 0 idle 7 laid (11 ∷ 12 ∷ 13 ∷ 21 ∷ 22 ∷ 23 ∷ 31 ∷ 32 ∷ 64 ∷ []) 16
    ∷ wrong 3 1 0 4 70 2 0 idle 7 ((2 ^ 69) ∷ (2 ^ 70) ∷ 3 ∷ []) nine 16
    -- a row of which a word is missing, or that is one too many; the words that are there are tested first
    ∷ worded 1 0 0 2 70 1 0 [] 1 (3 ∷ 0 ∷ 0 ∷ []) [] 17
    ∷ worded 1 0 0 2 70 1 0 [] 1 (3 ∷ 64 ∷ 0 ∷ []) [] 16
    ∷ worded 1 0 0 2 70 1 0 [] 1 (3 ∷ 0 ∷ 0 ∷ 0 ∷ []) (3 ∷ 0 ∷ 0 ∷ 0 ∷ 1 ∷ []) 17
    ∷ worded 1 0 0 2 70 1 0 [] 1 (3 ∷ 0 ∷ 0 ∷ 0 ∷ []) (3 ∷ 0 ∷ 0 ∷ 0 ∷ 1 ∷ 64 ∷ []) 16
    -- a word or a number too few, and too many; the words that are there are tested first
    ∷ tables (0 ∷ 0 ∷ []) (replicate 9 plus_zero) 17
    ∷ tables (0 ∷ 0 ∷ 0 ∷ 0 ∷ []) (replicate 9 plus_zero) 17
    ∷ tables (0 ∷ 0 ∷ 0 ∷ []) (replicate 8 plus_zero) 17
    ∷ tables (0 ∷ 0 ∷ 0 ∷ []) (replicate 10 plus_zero) 17
    ∷ tables (0 ∷ 1099511627777 ∷ []) (replicate 9 plus_zero) 15
    ∷ tables (0 ∷ 0 ∷ 0 ∷ 1099511627777 ∷ []) (replicate 9 plus_zero) 17
    -- too few rows, and too many; a table of counts 2 and 4 alone
    ∷ wrong 3 1 0 4 6 2 0 idle 7 (3 ∷ 40 ∷ []) nine 17
    ∷ wrong 3 1 0 4 6 2 0 idle 7 (3 ∷ 40 ∷ 41 ∷ 42 ∷ []) nine 17
    ∷ wrong 3 1 0 4 6 2 0 idle 7 [] nine 17
    ∷ wrong 3 1 0 4 6 2 0 idle 7 laid (11 ∷ 12 ∷ 13 ∷ 21 ∷ 22 ∷ 23 ∷ 31 ∷ 32 ∷ []) 17
    ∷ wrong 3 1 0 4 6 2 0 idle 7 laid (11 ∷ 12 ∷ 13 ∷ 21 ∷ 22 ∷ 23 ∷ 31 ∷ 32 ∷ 33 ∷ 41 ∷ []) 17
    ∷ wrong 3 1 0 4 6 2 0 idle 7 laid (11 ∷ 12 ∷ 13 ∷ 31 ∷ 32 ∷ 33 ∷ []) 17
    -- two cases hold: the first refuses
    ∷ wrong 17 17 0 4 6 2 0 idle 7 laid nine 1
    ∷ wrong 3 3 3 4 6 2 0 idle 7 laid nine 2
    ∷ wrong 3 1 3 0 6 2 0 idle 7 laid nine 3
    ∷ wrong 3 1 0 0 6 0 0 idle 7 laid nine 4
    ∷ wrong 3 1 0 5 6 4 0 idle 7 laid nine 5
    ∷ wrong 3 1 0 5 6 2 1073741825 idle 7 laid nine 14
    ∷ wrong 3 1 0 5 6 2 0 idle 8 laid nine 14
    ∷ wrong 3 1 0 5 6 2 0 (0 ∷ 1099511627777 ∷ 0 ∷ []) 7 laid nine 14
    ∷ wrong 3 1 0 4 6 2 1073741825 idle 8 laid nine 15
    ∷ wrong 3 1 0 4 6 2 0 (0 ∷ 1099511627777 ∷ 0 ∷ []) 7 (3 ∷ 40 ∷ 64 ∷ []) nine 15
    ∷ wrong 3 1 0 4 6 2 0 idle 8 (3 ∷ 40 ∷ []) nine 16
    ∷ wrong 3 1 0 4 6 2 0 idle 7 (3 ∷ 64 ∷ []) nine 16
    ∷ wrong 3 1 0 4 6 2 0 idle 7 (3 ∷ 40 ∷ []) (64 ∷ []) 16
    ∷ wrong 3 1 0 4 6 2 0 idle 7 laid (11 ∷ 64 ∷ []) 16
    ∷ []

-- one input, with each two flags
flagged : Wrong → List Line
flagged l = l.given false false ∷ l.given false true ∷ l.given true false ∷ l.given true true ∷ []

refusals_are : map (λ (l : Wrong). map picked (flagged l)) refusals ≡ map (λ (l : Wrong). replicate 4 (refused l.number, [])) refusals
unfolding words line word_each model_each wrong worded tables refusals flagged picked value words_of row_in rows_in spelled each_below policy_of policy_refusal is_population is_shards is_quorum peers_fit some_below
refusals_are = refl
