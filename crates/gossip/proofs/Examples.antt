-- Worked values of the entry, computed by the checker: those asked, what they are to leave out, each refusal, and which of two comes first. Assumes nothing.
use mathlib.Core.Path.{◌≡◌, refl}
use mathlib.Core.List.{List, [], ◌∷◌, map}
use Prim.Native.Nat.{ℕ, ◌-◌, ◌*◌, ◌^◌}
use lib.ListN.{replicate}
use Rattle.lists.specs.Below.{each_below}
use Rattle.bitmap.specs.Mask.{count}
use Rattle.rows.specs.Row.{value, words_of, row_in, rows_in, spelled}
use Rattle.refusals.specs.Outcome.{Outcome, refused, accepted}
use Rattle.refusals.specs.Limits.{is_population, is_shards}
use Rattle.gossip.specs.Gossip.{ring, round, turns, met, visit, walk, gossip_refusal, gossip_of, exclusions_left}

-- the lent words: k of them, each 99
lent : ℕ → List ℕ
lent k = replicate k 99

-- rows of one shard, of the replica's number
singles : ℕ → List ℕ
singles n = each_below (λ (p : ℕ). 2 ^ p) n

-- the population, our own number, the source's, the data shards, the width, what one has, the words of the rows, those alive, how many words are lent; then the
-- answer, and the words at exit
record Line : Type 0 where
  n : ℕ
  own : ℕ
  source : ℕ
  d : ℕ
  w : ℕ
  available : ℕ
  rows : List ℕ
  alive : ℕ
  room : ℕ
  says : Outcome ℕ × List ℕ

-- the words as they are lent; k is the number of those lent for exclusions
words : ℕ → ℕ → ℕ → ℕ → ℕ → ℕ → List ℕ → ℕ → ℕ → Outcome ℕ → List ℕ → Line
words n own source d w available table alive k answer left = record {
  n = n;
  own = own;
  source = source;
  d = d;
  w = w;
  available = available;
  rows = table;
  alive = alive;
  room = k;
  says = (answer, left);
}

-- the rows, the number of rows that there is room for, and the rows at exit
line : ℕ → ℕ → ℕ → ℕ → ℕ → ℕ → List ℕ → ℕ → ℕ → Outcome ℕ → List ℕ → Line
line n own source d w available rows alive room answer left = words n own source d w available (spelled rows) alive (room * 4) answer (spelled left)

-- what is refused leaves the words as they are
no : ℕ → ℕ → ℕ → ℕ → ℕ → ℕ → List ℕ → ℕ → ℕ → ℕ → Line
no n own source d w available rows alive room k = words n own source d w available (spelled rows) alive (room * 4) (refused k) (lent (room * 4))

gossip : Line → Outcome ℕ × List ℕ
gossip l = (
  gossip_of l.n l.own l.source l.d l.w l.available l.rows l.alive l.room,
  exclusions_left l.n l.own l.source l.d l.w l.available l.rows l.alive (lent l.room),
)

-- ---- what is answered
sheet : List Line
unfolding singles words line
sheet =
    -- peer 2 is asked, though d shards are there already; the first live peer has nothing new and, with d there, is the last; with fewer than d it is not
    line 4 1 0 2 4 3 (1 ∷ 2 ∷ 4 ∷ 8 ∷ []) 15 4 (accepted 4) (0 ∷ 0 ∷ 3 ∷ 0 ∷ [])
    ∷ line 4 1 0 2 4 7 (1 ∷ 2 ∷ 4 ∷ 8 ∷ []) 15 4 (accepted 0) (0 ∷ 0 ∷ 0 ∷ 0 ∷ [])
    ∷ line 3 0 0 3 3 3 (1 ∷ 2 ∷ 4 ∷ []) 7 3 (accepted 4) (0 ∷ 0 ∷ 3 ∷ [])
    -- enough with the second peer; with more than d; everybody is asked, and they are too few
    ∷ line 4 0 0 3 4 1 (1 ∷ 2 ∷ 4 ∷ 8 ∷ []) 15 4 (accepted 6) (0 ∷ 1 ∷ 3 ∷ 0 ∷ [])
    ∷ line 4 0 0 3 6 1 (1 ∷ 12 ∷ 48 ∷ 2 ∷ []) 15 4 (accepted 2) (0 ∷ 1 ∷ 0 ∷ 0 ∷ [])
    ∷ line 4 2 2 4 5 0 (1 ∷ 2 ∷ 4 ∷ 8 ∷ []) 15 4 (accepted 11) (8 ∷ 9 ∷ 0 ∷ 0 ∷ [])
    -- the first peers are dead; only the source is alive; nobody is, and oneself does not count
    ∷ line 5 3 3 2 5 0 (1 ∷ 2 ∷ 4 ∷ 8 ∷ 16 ∷ []) 14 5 (accepted 6) (0 ∷ 0 ∷ 2 ∷ 0 ∷ 0 ∷ [])
    ∷ line 4 1 3 4 4 0 (1 ∷ 2 ∷ 4 ∷ 8 ∷ []) 8 4 (accepted 8) (0 ∷ 0 ∷ 0 ∷ 0 ∷ [])
    ∷ line 3 1 0 1 3 0 (1 ∷ 2 ∷ 4 ∷ []) 2 3 (accepted 0) (0 ∷ 0 ∷ 0 ∷ [])
    ∷ line 3 1 0 1 3 0 (1 ∷ 2 ∷ 4 ∷ []) 0 3 (accepted 0) (0 ∷ 0 ∷ 0 ∷ [])
    -- the source is in the middle of the ring, or first, and is taken last; it is not needed; it is oneself
    ∷ line 5 0 2 5 5 1 (1 ∷ 2 ∷ 4 ∷ 8 ∷ 16 ∷ []) 31 5 (accepted 30) (0 ∷ 1 ∷ 27 ∷ 3 ∷ 11 ∷ [])
    ∷ line 4 0 1 4 4 1 (1 ∷ 2 ∷ 4 ∷ 8 ∷ []) 15 4 (accepted 14) (0 ∷ 13 ∷ 1 ∷ 5 ∷ [])
    ∷ line 4 0 1 3 4 1 (1 ∷ 2 ∷ 4 ∷ 8 ∷ []) 15 4 (accepted 12) (0 ∷ 0 ∷ 1 ∷ 5 ∷ [])
    ∷ line 4 2 2 3 4 4 (1 ∷ 2 ∷ 4 ∷ 8 ∷ []) 15 4 (accepted 9) (12 ∷ 0 ∷ 0 ∷ 4 ∷ [])
    -- an exclusion of 0 of one that is asked; rows that overlap; rows with no shard
    ∷ line 3 0 0 1 3 0 (7 ∷ 2 ∷ 4 ∷ []) 7 3 (accepted 2) (0 ∷ 0 ∷ 0 ∷ [])
    ∷ line 4 3 3 6 6 2 (7 ∷ 12 ∷ 56 ∷ 63 ∷ []) 15 4 (accepted 7) (2 ∷ 7 ∷ 15 ∷ 0 ∷ [])
    ∷ line 3 0 2 2 3 0 (0 ∷ 0 ∷ 0 ∷ []) 7 3 (accepted 0) (0 ∷ 0 ∷ 0 ∷ [])
    -- one replica; sixteen; words with every bit
    ∷ line 1 0 0 1 1 0 (1 ∷ []) 1 1 (accepted 0) (0 ∷ [])
    ∷ line 16 15 7 16 16 0x8000 (singles 16) 0xffff 16 (accepted 0x7fff) (0x8000 ∷ 0x8001 ∷ 0x8003 ∷ 0x8007 ∷ 0x800f ∷ 0x801f ∷ 0x803f ∷ 0xff7f ∷ 0x807f ∷ 0x817f ∷ 0x837f ∷ 0x877f ∷ 0x8f7f ∷ 0x9f7f ∷ 0xbf7f ∷ 0 ∷ [])
    ∷ line 16 0 0 3 64 0 (singles 16) 0xff00 16 (accepted 0x700) (0 ∷ 0 ∷ 0 ∷ 0 ∷ 0 ∷ 0 ∷ 0 ∷ 0 ∷ 0 ∷ 256 ∷ 768 ∷ 0 ∷ 0 ∷ 0 ∷ 0 ∷ 0 ∷ [])
    ∷ line 2 1 0 64 64 1 (0xffff_ffff_ffff_fffe ∷ 0xffff_ffff_ffff_ffff ∷ []) 3 2 (accepted 1) (1 ∷ 0 ∷ [])
    ∷ line 3 1 2 64 64 0x7fff_ffff_ffff_ffff (0x3fff_ffff_ffff_ffff ∷ 0 ∷ 0xffff_ffff_ffff_ffff ∷ []) 7 3 (accepted 4) (0 ∷ 0 ∷ 0x7fff_ffff_ffff_ffff ∷ [])
    ∷ []

-- shards at and above 64: enough with the first peer, or with the second; every shard
wide : List Line
unfolding words line
wide =
    line 3 0 0 65 70 1 (0 ∷ (2 ^ 65 - 2) ∷ 2 ^ 69 ∷ []) 7 3 (accepted 2) (0 ∷ 1 ∷ 0 ∷ [])
    ∷ line 3 0 0 66 70 1 (0 ∷ (2 ^ 65 - 2) ∷ 2 ^ 69 ∷ []) 7 3 (accepted 6) (0 ∷ 1 ∷ (2 ^ 65 - 1) ∷ [])
    ∷ line 3 1 2 2 200 (2 ^ 64) (2 ^ 64 ∷ 0 ∷ 2 ^ 199 ∷ []) 7 3 (accepted 4) (0 ∷ 0 ∷ 2 ^ 64 ∷ [])
    ∷ line 2 1 0 255 255 (2 ^ 254) ((2 ^ 254 - 1) ∷ (2 ^ 255 - 1) ∷ []) 3 2 (accepted 1) (2 ^ 254 ∷ 0 ∷ [])
    ∷ []

answers : map gossip sheet ≡ map (λ (l : Line). l.says) sheet
unfolding lent singles words line gossip sheet gossip_of exclusions_left gossip_refusal is_population is_shards walk turns round ring each_below visit met count value words_of row_in rows_in spelled
answers = refl

wide_answers : map gossip wide ≡ map (λ (l : Line). l.says) wide
unfolding lent words line gossip wide gossip_of exclusions_left gossip_refusal is_population is_shards walk turns round ring each_below visit met count value words_of row_in rows_in spelled
wide_answers = refl

-- ---- what is refused
unfit : List Line
unfolding lent words line no
unfit =
    -- the population; our own number; the source's
    no 17 0 0 1 1 0 (replicate 17 1) 1 17 1
    ∷ no 3 3 0 2 3 0 (1 ∷ 2 ∷ 4 ∷ []) 7 3 3
    ∷ no 3 0 3 2 3 0 (1 ∷ 2 ∷ 4 ∷ []) 7 3 3
    -- the data shards; the width
    ∷ no 3 0 1 0 3 0 (1 ∷ 2 ∷ 4 ∷ []) 7 3 4
    ∷ no 3 0 1 4 3 0 (1 ∷ 2 ∷ 4 ∷ []) 7 3 4
    ∷ no 3 0 1 2 256 0 (1 ∷ 2 ∷ 4 ∷ []) 7 3 4
    -- what one has; a row, also our own; those alive
    ∷ no 3 0 1 2 3 8 (1 ∷ 2 ∷ 4 ∷ []) 7 3 16
    ∷ no 3 0 1 2 3 0 (1 ∷ 2 ∷ 8 ∷ []) 7 3 16
    ∷ no 3 0 1 2 3 0 (8 ∷ 2 ∷ 4 ∷ []) 7 3 16
    ∷ no 3 0 1 2 3 0 (1 ∷ 2 ∷ 4 ∷ []) 8 3 16
    ∷ no 3 0 1 2 70 (2 ^ 70) (1 ∷ 2 ∷ 4 ∷ []) 7 3 16
    ∷ no 3 0 1 2 70 0 (1 ∷ 2 ^ 69 ∷ 2 ^ 70 ∷ []) 7 3 16
    -- the length of the rows; of the exclusions
    ∷ no 3 0 1 2 3 0 (1 ∷ 2 ∷ []) 7 3 17
    ∷ no 3 0 1 2 3 0 (1 ∷ 2 ∷ 4 ∷ 1 ∷ []) 7 3 17
    ∷ no 3 0 1 2 3 0 (1 ∷ 2 ∷ 4 ∷ []) 7 2 17
    ∷ no 3 0 1 2 3 0 (1 ∷ 2 ∷ 4 ∷ []) 7 4 17
    -- a row of which a word is missing, or that is one too many; the words that are there are tested first
    ∷ words 2 0 1 2 70 0 (3 ∷ 0 ∷ 0 ∷ 0 ∷ 4 ∷ 0 ∷ 0 ∷ []) 3 8 (refused 17) (lent 8)
    ∷ words 2 0 1 2 70 0 (3 ∷ 0 ∷ 0 ∷ 0 ∷ 4 ∷ 64 ∷ 0 ∷ []) 3 8 (refused 16) (lent 8)
    ∷ words 1 0 0 2 70 0 (3 ∷ 0 ∷ 0 ∷ 0 ∷ 1 ∷ []) 1 4 (refused 17) (lent 4)
    ∷ words 1 0 0 2 70 0 (3 ∷ 0 ∷ 0 ∷ 0 ∷ 1 ∷ 64 ∷ []) 1 4 (refused 16) (lent 4)
    ∷ words 1 0 0 2 70 0 (3 ∷ 63 ∷ 0 ∷ 0 ∷ []) 1 3 (refused 17) (lent 3)
    -- two cases hold: the first refuses
    ∷ no 0 0 0 1 1 0 [] 0 0 1
    ∷ no 3 3 0 0 3 0 (1 ∷ 2 ∷ 4 ∷ []) 7 3 3
    ∷ no 3 0 3 4 3 0 (1 ∷ 2 ∷ 4 ∷ []) 7 3 3
    ∷ no 3 0 1 4 3 8 (1 ∷ 2 ∷ 4 ∷ []) 7 3 4
    ∷ no 3 0 1 2 3 8 (1 ∷ 2 ∷ 4 ∷ []) 7 2 16
    ∷ no 3 0 1 2 3 0 (1 ∷ 8 ∷ []) 7 3 16
    ∷ no 3 0 1 2 3 0 (1 ∷ 2 ∷ []) 8 3 16
    ∷ []

refusals : map gossip unfit ≡ map (λ (l : Line). l.says) unfit
unfolding lent words line no gossip unfit gossip_of exclusions_left gossip_refusal is_population is_shards value words_of row_in rows_in spelled each_below
refusals = refl
