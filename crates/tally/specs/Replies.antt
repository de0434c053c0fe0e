-- A list of accept replies, handed in turn to a tally: which were not refused, what they were answered, and what they say of who was heard and of the
-- shards named. Assumes nothing.
use Rattle.std.specs.Prelude.{◌≡◌, Bool, true, false, cond, ℕ, eqb}
use mathlib.Core.List.{List, [], ◌∷◌, Memᴰ, map}
use Rattle.lists.specs.All.{AllOf}
use Rattle.bitmap.specs.Mask.{bit}
use Rattle.bitmap.specs.Members.{Many}
use Rattle.refusals.specs.Outcome.{Outcome, refused, accepted}
use Rattle.tally.specs.declared.Tally.{Tally}
use Rattle.tally.specs.declared.Status.{Status}
use Rattle.tally.specs.declared.Status.TheVariants.{Waiting, Committed, AlreadyCommitted}
use Rattle.tally.specs.Tally.{Reply, reply_refusal, reply_of, tally_after}

-- ---- handed in turn

-- "already committed" counts as saying committed
abbrev pub says_committed : Status → Bool
says_committed Waiting = false
says_committed Committed = true
says_committed AlreadyCommitted = true

-- an unrefused reply, and whether it was answered committed
abbrev pub Taken : Type 0
Taken = Reply × Bool

-- a refused reply gets its number alone, which says nothing
abbrev pub taking : Reply → Outcome Status → List Taken → List Taken
taking r (refused k) us = us
taking r (accepted status) us = (r, says_committed status) ∷ us

-- the unrefused replies of a list in turn, with what they were answered. Each reply is handed the tally as the one before it left it
abbrev pub taken : Tally → List Reply → List Taken
taken t [] = []
taken t (r ∷ rs) = taking r (reply_of t r) (taken (tally_after t r) rs)

-- the replies of a list that the tally, as it stands, does not refuse
abbrev pub unrefused : Tally → List Reply → List Reply
unrefused t [] = []
unrefused t (r ∷ rs) = cond (eqb (reply_refusal t r) 0) (r ∷ unrefused t rs) (unrefused t rs)

-- the tally after them all
abbrev pub after_all : Tally → List Reply → Tally
after_all t [] = t
after_all t (r ∷ rs) = after_all (tally_after t r) rs

abbrev pub replies : List Taken → List Reply
replies us = map (λ (u : Taken). u.0) us

-- whether the last of them was answered committed; b where there is none
abbrev pub last_or : Bool → List Taken → Bool
last_or b [] = b
last_or b (u ∷ us) = last_or u.1 us

-- no, where there is none
abbrev pub last_said : List Taken → Bool
last_said us = last_or false us

-- once one is answered committed, each later one is
abbrev pub Stays : List Taken → Type 0
Stays [] = Unit {0}
Stays (u ∷ us) = (u.1 ≡ true → AllOf (λ (v : Taken). v.1 ≡ true) us) × Stays us

-- ---- what replies say

-- s is the source of one of them
pub record Heard (us : List Reply) (s : ℕ) : Type 0 where
  pub reply : Reply
  pub given : Memᴰ reply us
  pub from : reply.source ≡ s

-- one of them, with the source s, names the shard k
pub record Named (us : List Reply) (s k : ℕ) : Type 0 where
  pub reply : Reply
  pub given : Memᴰ reply us
  pub from : reply.source ≡ s
  pub names : bit reply.row k ≡ 1

-- a replica that is heard, and not in the set, has named the shard k
pub record Left (us : List Reply) (fault k : ℕ) : Type 0 where
  pub replica : ℕ
  pub is_heard : Heard us replica
  pub outside : bit fault replica ≡ 0
  pub named : Named us replica k

-- at least a quorum of different replicas is heard and, whichever listed set is taken away, the others heard have named at least d distinct shards
pub record Commits (quorum d : ℕ) (faults : List ℕ) (us : List Reply) : Type 0 where
  pub enough : Many quorum (Heard us)
  pub covered : AllOf (λ (fault : ℕ). Many d (Left us fault)) faults

-- each was lent this fault list
abbrev pub Lent : List ℕ → List Reply → Type 0
Lent faults us = AllOf (λ (r : Reply). r.faults ≡ faults) us

-- every reply of the one list is in the other
abbrev pub Included : List Reply → List Reply → Type 0
Included us vs = (r : Reply) → Memᴰ r us → Memᴰ r vs
