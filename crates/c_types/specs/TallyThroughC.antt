-- Accept replies handed in turn through C: what `callboard_accept_reply` returns and leaves, and which replies are taken. Assumes nothing.
use Rattle.std.specs.Prelude.{cond}
use mathlib.Core.List.{List, [], ◌∷◌}
use Rattle.tally.specs.Tally.{Reply, reply_of, tally_after}
use Rattle.tally.specs.Replies.{Taken}
use Rattle.c_types.specs.declared.Reply as C-reply
use Rattle.c_types.specs.declared.Tally as C-tally
use Rattle.c_types.specs.CTypes.{is_set, to_reply, from_tally, tally_left}

-- what `callboard_accept_reply` returns
abbrev pub answer_through : C-tally.Tally → Reply → C-reply.Reply
answer_through t r = to_reply (reply_of (from_tally t) r)

-- the tally that it leaves
abbrev pub left_through : C-tally.Tally → Reply → C-tally.Tally
left_through t r = tally_left t (tally_after (from_tally t) r)

-- a reply whose refusal is 0 is taken, and answered committed if the status is not 0
abbrev pub taking_through : Reply → C-reply.Reply → List Taken → List Taken
taking_through r a us = cond (is_set a.refusal) us ((r, is_set a.status) ∷ us)

-- the replies of a list that C did not refuse, with whether each was answered committed
abbrev pub taken_through : C-tally.Tally → List Reply → List Taken
taken_through t [] = []
taken_through t (r ∷ rs) = taking_through r (answer_through t r) (taken_through (left_through t r) rs)
