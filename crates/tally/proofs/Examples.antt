-- Worked values of the tally, computed by the checker: a run of replies with duplicates and refused ones in between, tallies that did not come from an
-- opening, each refusal, and which of two comes first. Assumes nothing.
use mathlib.Core.Path.{◌≡◌, refl}
use mathlib.Core.Bool.{true, false}
use mathlib.Core.List.{List, [], ◌∷◌, map}
use Prim.Native.Nat.{ℕ}
use Rattle.bitmap.specs.Mask.{count}
use lib.ListN.{replicate}
use Rattle.lists.specs.Below.{each_below}
use Rattle.rows.specs.Row.{value, words_of, row_in, rows_in, spelled}
use Rattle.refusals.specs.Outcome.{Outcome, refused, accepted}
use Rattle.refusals.specs.Limits.{is_population, is_shards, is_quorum, is_fault_list}
use Rattle.coverage.specs.Coverage.{union_of, leaves, is_covered, commits}
use Rattle.tally.specs.declared.Proposal.{Proposal}
use Rattle.tally.specs.declared.Tally.{Tally}
use Rattle.tally.specs.declared.Status.{Status}
use Rattle.tally.specs.declared.Status.TheVariants.{Waiting, Committed, AlreadyCommitted}
use Rattle.tally.specs.Tally.{Reply, told, fresh, open_refusal, opening_of, updated, noted, is_committing, is_same_value, reply_refusal, reply_of, tally_after}
use Rattle.tally.specs.Replies.{Taken, taken, after_all}

-- one of three replicas fails: the masks of 0, of 1 and of 2
ones : List ℕ
ones = 1 ∷ 2 ∷ 4 ∷ []

-- that ballot, and that value id
of : ℕ → ℕ → ℕ → Proposal
of ballot high low = record { ballot = ballot; value_high = high; value_low = low }

-- three replicas, a quorum of two, two data shards of three, ballot 7, value id 8 and 9
opened : Tally
opened = fresh 3 2 2 3 (of 7 8 9)

-- a reply about that value
from : ℕ → ℕ → Reply
unfolding of ones
from source row = told source (of 7 8 9) row ones

-- ---- a run of replies
record Line : Type 0 where
  reply : Reply
  says : Outcome Status

line : Reply → Outcome Status → Line
line reply says = record { reply = reply; says = says }

run : List Line
unfolding line from of ones
run =
    line (from 0 1) (accepted Waiting)
    -- another ballot; a second quorum member, whose shard is lost with it; the same again
    ∷ line (told 1 (of 6 8 9) 2 ones) (refused 23)
    ∷ line (from 1 2) (accepted Waiting)
    ∷ line (from 1 2) (accepted Waiting)
    -- no such replica; copies of a shard: without 1, only that one is left
    ∷ line (from 3 7) (refused 3)
    ∷ line (from 2 1) (accepted Waiting)
    -- lent a list of all three; a later reply of 2 is united with its first
    ∷ line (told 2 (of 7 8 9) 4 (7 ∷ [])) (refused 17)
    ∷ line (from 2 4) (accepted Committed)
    -- afterwards: a duplicate, a shard at the width, an empty row, a shard that 1 has not named
    ∷ line (from 2 4) (accepted AlreadyCommitted)
    ∷ line (from 0 8) (refused 16)
    ∷ line (from 1 0) (accepted AlreadyCommitted)
    ∷ line (from 1 4) (accepted AlreadyCommitted)
    ∷ []

answers : Tally → List Line → List (Outcome Status)
answers t [] = []
answers t (l ∷ ls) = reply_of t l.reply ∷ answers (tally_after t l.reply) ls

ran : answers opened run ≡ map (λ (l : Line). l.says) run
unfolding of ones opened fresh from line run answers reply_of tally_after reply_refusal is_same_value is_population is_shards is_quorum is_fault_list value words_of spelled row_in rows_in each_below noted is_committing commits is_covered leaves union_of count
ran = refl

-- of the run, what was said to those not refused; and the tally afterwards, with the rows of the replies that were counted:
-- those after commitment are not in it
given : List Reply
unfolding line run
given = map (λ (l : Line). l.reply) run

said : map (λ (u : Taken). u.1) (taken opened given) ≡ false ∷ false ∷ false ∷ false ∷ true ∷ true ∷ true ∷ true ∷ []
unfolding of ones opened fresh from line run given reply_of tally_after reply_refusal is_same_value is_population is_shards is_quorum is_fault_list value words_of spelled row_in rows_in each_below noted is_committing commits is_covered leaves union_of count
said = refl

left : after_all opened given ≡ updated opened 7 true (spelled (1 ∷ 2 ∷ 5 ∷ replicate 13 0))
unfolding of ones opened fresh from line run given reply_of tally_after reply_refusal is_same_value is_population is_shards is_quorum is_fault_list value words_of spelled row_in rows_in each_below noted is_committing commits is_covered leaves union_of count
left = refl

-- ---- a tally that did not come from an opening
record Odd : Type 0 where
  tally : Tally
  reply : Reply
  says : Outcome Status

odd : Tally → Reply → Outcome Status → Odd
odd tally reply says = record { tally = tally; reply = reply; says = says }

-- that tally with other words
holding : ℕ → List ℕ → Tally
unfolding opened fresh
holding heard rows = updated opened heard false (spelled rows)

odds : List Odd
unfolding odd holding from of ones
odds =
    -- 0 and 1 heard: 2 held every shard unheard, and its first reply replaces that; or it was heard, and its reply is united
    odd (holding 3 (1 ∷ 2 ∷ 7 ∷ [])) (from 2 0) (accepted Waiting)
    ∷ odd (holding 7 (1 ∷ 2 ∷ 7 ∷ [])) (from 2 0) (accepted Committed)
    -- words at or above n are unread
    ∷ odd (holding 3 (1 ∷ 2 ∷ 0 ∷ 8 ∷ [])) (from 2 4) (accepted Committed)
    -- its population, data shards, width and quorum
    ∷ odd (fresh 0 2 2 3 (of 7 8 9)) (from 0 1) (refused 1)
    ∷ odd (fresh 17 2 2 3 (of 7 8 9)) (from 0 1) (refused 1)
    ∷ odd (fresh 3 2 0 3 (of 7 8 9)) (from 0 1) (refused 4)
    ∷ odd (fresh 3 2 4 3 (of 7 8 9)) (from 0 1) (refused 4)
    ∷ odd (fresh 3 2 2 256 (of 7 8 9)) (from 0 1) (refused 4)
    ∷ odd (fresh 3 0 2 3 (of 7 8 9)) (from 0 1) (refused 5)
    ∷ odd (fresh 3 4 2 3 (of 7 8 9)) (from 0 1) (refused 5)
    -- its heard mask, a row of it
    ∷ odd (holding 8 (1 ∷ 2 ∷ 4 ∷ [])) (from 0 1) (refused 16)
    ∷ odd (holding 0 (1 ∷ 2 ∷ 8 ∷ [])) (from 0 1) (refused 16)
    -- the fault list; either half of the value id
    ∷ odd (holding 0 (0 ∷ 0 ∷ 0 ∷ [])) (told 0 (of 7 8 9) 1 []) (refused 17)
    ∷ odd (holding 0 (0 ∷ 0 ∷ 0 ∷ [])) (told 0 (of 7 8 9) 1 (8 ∷ [])) (refused 17)
    ∷ odd (holding 0 (0 ∷ 0 ∷ 0 ∷ [])) (told 0 (of 7 0 9) 1 ones) (refused 23)
    ∷ odd (holding 0 (0 ∷ 0 ∷ 0 ∷ [])) (told 0 (of 7 8 0) 1 ones) (refused 23)
    -- two cases hold: the first refuses
    ∷ odd (fresh 0 2 2 3 (of 7 8 9)) (from 3 1) (refused 1)
    ∷ odd (fresh 3 2 0 3 (of 7 8 9)) (from 3 1) (refused 3)
    ∷ odd (fresh 3 4 0 3 (of 7 8 9)) (from 0 1) (refused 4)
    ∷ odd (fresh 3 4 2 3 (of 7 8 9)) (from 0 8) (refused 5)
    ∷ odd (holding 8 (1 ∷ 2 ∷ 4 ∷ [])) (told 0 (of 7 8 9) 1 []) (refused 16)
    ∷ odd (holding 0 (0 ∷ 0 ∷ 0 ∷ [])) (told 0 (of 0 8 9) 1 []) (refused 17)
    ∷ []

answered : map (λ (o : Odd). reply_of o.tally o.reply) odds ≡ map (λ (o : Odd). o.says) odds
unfolding of ones opened fresh holding from odd odds reply_of reply_refusal is_same_value is_population is_shards is_quorum is_fault_list value words_of spelled row_in rows_in each_below noted is_committing commits is_covered leaves union_of count
answered = refl

-- ---- openings
openings : map (λ (o : ℕ × ℕ × ℕ × ℕ). open_refusal o.0 o.1 o.2 o.3)
    ((3, 2, 2, 3) ∷ (16, 16, 255, 255) ∷ (1, 1, 1, 1) ∷ (0, 0, 2, 3) ∷ (17, 2, 2, 3) ∷ (3, 2, 0, 3) ∷ (3, 2, 4, 3) ∷ (3, 2, 2, 256) ∷ (3, 0, 2, 3) ∷ (3, 4, 2, 3) ∷ (17, 2, 0, 3) ∷ (3, 4, 0, 3) ∷ [])
    ≡ 0 ∷ 0 ∷ 0 ∷ 1 ∷ 1 ∷ 4 ∷ 4 ∷ 4 ∷ 5 ∷ 5 ∷ 1 ∷ 4 ∷ []
unfolding open_refusal is_population is_shards is_quorum
openings = refl

-- a number alone
unopened : opening_of 3 4 2 3 (of 7 8 9) ≡ refused 5
unfolding of opening_of open_refusal is_population is_shards is_quorum
unopened = refl
