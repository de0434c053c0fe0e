-- Demand 3, whole, over lists of accept replies:
--
--   "For every list of accept replies, refused ones included, handed in turn to a freshly opened tally: the last unrefused reply, if there is one, was
--   answered committed exactly when, among all the unrefused ones, at least a quorum of different controllers was heard and, whichever listed fault set
--   is taken away, the others heard have named at least d distinct shards between them. Two such lists with equal openings and fault lists, whose
--   unrefused replies are the same but for order and repetition, agree on whether the last was answered committed; and once committed is said, every
--   later unrefused reply is answered so too."
--
-- The premises: the tally was opened (nothing refused its values), every unrefused reply was lent the same fault list (`Lent`), each call is handed the
-- tally as the one before it left it (`taken`), and nothing else writes it. What a call answers and leaves is what the contracts of `reply` and
-- `accept_reply` both say (`reply_of`, `tally_after`). A refused reply may carry anything and be lent any list: the unrefused ones are picked from the list by
-- the opened tally alone (`unrefused`), and `decided` and `same_taken` say that the run refuses the same ones.
-- Assumes nothing.
use Rattle.std.specs.Prelude.{◌≡◌, refl, ◌↔◌, true, List}
use Prim.Native.Nat.{ℕ, zero, suc}
use Rattle.refusals.specs.Outcome.{left, written}
use Rattle.tally.specs.declared.Proposal.{Proposal}
use Rattle.tally.specs.declared.Tally.{Tally}
use Rattle.tally.specs.Tally.{Reply, open_refusal, fresh, nothing, opening_of, reply_refusal}
use Rattle.tally.specs.Replies.{taken, unrefused, after_all, replies, last_said, Stays, Commits, Lent, Included}
use Rattle.tally.proofs.ReplyLaws.{all_stay, Sound, sound_fresh, all_decided, all_unrefused, commits_grow, fresh_exact, both_ways}

module _ (n quorum d w : ℕ) (proposal : Proposal) where
  -- the tally that `open` gives; where it refuses, the all-zero tally
  abbrev opened : Tally
  opened = left (opening_of n quorum d w proposal) nothing

  opened_sound : Sound opened
  unfolding opening_of
  opened_sound = go (open_refusal n quorum d w)
    where
      go : (k : ℕ) → Sound (written k (fresh n quorum d w proposal) nothing)
      go zero = sound_fresh n quorum d w proposal
      go (suc k) = sound_fresh 0 0 0 0 _

  -- the reply and the fault list lent with it are refused, or not, as the opened tally would refuse them: what was heard since decides nothing
  pub decided : (rs : List Reply) (r : Reply) → reply_refusal (after_all opened rs) r ≡ reply_refusal opened r
  decided rs = all_decided rs opened opened_sound

  -- so the replies that the run does not refuse are those that the opened tally does not
  pub same_taken : (rs : List Reply) → replies (taken opened rs) ≡ unrefused opened rs
  same_taken rs = all_unrefused opened rs opened opened_sound (λ r. refl)

  -- once committed is said, every later unrefused reply is answered so too
  pub stays : (rs : List Reply) → Stays (taken opened rs)
  stays rs = all_stay rs opened

  module _ (no : open_refusal n quorum d w ≡ 0) (faults : List ℕ) where
    -- the last unrefused reply was answered committed exactly when the unrefused ones commit. Where there is none, nobody was heard: neither side holds
    pub exactly : (rs : List Reply) → Lent faults (unrefused opened rs) → (last_said (taken opened rs) ≡ true) ↔ Commits quorum d faults (unrefused opened rs)
    unfolding opening_of
    exactly = rw no (fresh_exact faults n quorum d w proposal no)

    -- order and repetition of the unrefused replies decide nothing
    pub agree : (rs rs' : List Reply) → Lent faults (unrefused opened rs) → Lent faults (unrefused opened rs')
        → Included (unrefused opened rs) (unrefused opened rs') → Included (unrefused opened rs') (unrefused opened rs)
        → last_said (taken opened rs) ≡ last_said (taken opened rs')
    agree rs rs' l l' i j =
        both_ways (λ e. (exactly rs' l').1 (commits_grow i ((exactly rs l).0 e))) (λ e. (exactly rs l).1 (commits_grow j ((exactly rs' l').0 e)))
