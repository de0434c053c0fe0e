-- Demand 3 (quoted in crates/tally/proofs/Demand.antt) for a caller in C, in the words that C sees: the structs that `callboard_tally_open`
-- and `callboard_accept_reply` return, and the tally that the latter leaves in the caller's memory.
--
-- The laws below hold of these two functions because their contracts equate: the first returns to_opening (opening_of n quorum d w
-- proposal), where the proposal is proposal_of ballot high low; the second returns answer_through t r and leaves left_through t r, where t
-- is the tally before the call and r is the reply with its fault list. A reply is refused if `refusal` is not 0; otherwise it is answered
-- committed if `status` is not 0. The premises are those of the demand: the opening was not refused, every unrefused reply was lent the
-- same fault list, each call is handed the tally as the one before it left it, and nothing else writes it. Assumes nothing.
use Rattle.std.specs.Prelude.{◌≡◌, refl, ◌↔◌, Bool, false, cond, ℕ, zero, suc}
use Rattle.std.proofs.Common.{sym, ap, ◌∙◌, true≢false, suc-ne-zero, ne_eqb}
use Rattle.std.proofs.Math.Path.{subst}
use Rattle.std.proofs.Math.Bool.{true}
use mathlib.Core.List.{List, [], ◌∷◌}
use Rattle.refusals.specs.Outcome.{Outcome, refused, accepted, left, outcome}
use Rattle.tally.specs.declared.Tally.{Tally}
use Rattle.tally.specs.declared.Proposal.{Proposal}
use Rattle.tally.specs.declared.Status.{Status}
use Rattle.tally.specs.declared.Status.TheVariants.{Waiting, Committed, AlreadyCommitted}
use Rattle.tally.specs.Tally.{Reply, nothing, open_refusal, fresh, said_of, opening_of, reply_refusal, reply_of, tally_after}
use Rattle.tally.specs.Replies.{Taken, taking, taken, unrefused, replies, last_said, Stays, Commits, Lent, Included}
use Rattle.tally.proofs.ReplyLaws.{by_reply, commits_grow, both_ways}
use Rattle.tally.proofs.Demand.{same_taken, stays, exactly}
use Rattle.c_types.specs.declared.TallyOpening.{TallyOpening}
use Rattle.c_types.specs.declared.Tally as C-tally
use Rattle.c_types.specs.CTypes.{is_set, word_of, to_reply, to_tally, from_tally, tally_left, to_opening}
use Rattle.c_types.specs.TallyThroughC.{answer_through, left_through, taking_through, taken_through}

-- ---- what C returns

is_set_suc : (k : ℕ) → is_set (suc k) ≡ true
is_set_suc k = rw (ne_eqb (suc k) 0 (suc-ne-zero k))

-- the number that refuses, or 0
number : (t : Tally) (r : Reply) → (to_reply (reply_of t r)).refusal ≡ reply_refusal t r
unfolding reply_of
number t r = go (reply_refusal t r) (said_of t r)
  where
    go : (k : ℕ) (said : Status) → (to_reply (outcome k said)).refusal ≡ k
    go zero Waiting = refl
    go zero Committed = refl
    go zero AlreadyCommitted = refl
    go (suc k) said = refl

-- C takes a reply as the entry does
same_taking : (t : Tally) (r : Reply) (us : List Taken) → taking_through r (to_reply (reply_of t r)) us ≡ taking r (reply_of t r) us
unfolding reply_of
same_taking t r us = go (reply_refusal t r) (said_of t r)
  where
    go : (k : ℕ) (said : Status) → taking_through r (to_reply (outcome k said)) us ≡ taking r (outcome k said) us
    go zero Waiting = refl
    go zero Committed = refl
    go zero AlreadyCommitted = refl
    go (suc k) said = rw (is_set_suc k)

-- ---- what C keeps

set_word : (b : Bool) → is_set (word_of b) ≡ b
set_word true = refl
set_word false = refl

flag : (k : ℕ) (b c : Bool) → is_set k ≡ c → (c ≡ true → b ≡ true) → is_set (cond c k (word_of b)) ≡ b
flag k b true e h = e ∙ sym (h refl)
flag k b false e h = set_word b

same_flag : (k : ℕ) → cond (is_set k) k (word_of (is_set k)) ≡ k
same_flag zero = refl
same_flag (suc k) = rw (is_set_suc k)

-- the tally left reads as u, where u is committed if t was
read_left : (t : C-tally.Tally) (u : Tally) → (is_set t.committed ≡ true → u.committed ≡ true) → from_tally (tally_left t u) ≡ u
unfolding from_tally tally_left to_tally
read_left t u h = rw (flag t.committed u.committed (is_set t.committed) refl h)

stays_so : (u : Tally) (r : Reply) → u.committed ≡ true → (tally_after u r).committed ≡ true
stays_so u r =
    by_reply u r (λ f v. u.committed ≡ true → v.committed ≡ true) (λ n c. c) (λ e p c. c) (λ e p c. absurd (true≢false (sym c ∙ p)))

-- the tally of an opening reads as the entry's; where that is refused, as the all-zero tally
pub read_opening : (o : Outcome Tally) → from_tally (to_opening o).tally ≡ left o nothing
unfolding from_tally to_opening to_tally fresh
read_opening (refused k) = refl
read_opening (accepted t) = rw (set_word t.committed)

-- the tally that a reply leaves reads as the one that the entry leaves: what was counted is kept
pub carried : (t : C-tally.Tally) (r : Reply) → from_tally (left_through t r) ≡ tally_after (from_tally t) r
unfolding from_tally
carried t r = read_left t (tally_after (from_tally t) r) (stays_so (from_tally t) r)

unchanged : (t : C-tally.Tally) → tally_left t (from_tally t) ≡ t
unfolding from_tally tally_left to_tally
unchanged t = rw (same_flag t.committed)

module _ (t : C-tally.Tally) (r : Reply) where
  -- a refusal leaves every word of the tally, the number of its flag too
  pub kept : ((answer_through t r).refusal ≡ 0 → ⊥) → left_through t r ≡ t
  kept m =
      by_reply (from_tally t) r (λ f v. (reply_refusal (from_tally t) r ≡ 0 → ⊥) → tally_left t v ≡ t) (λ n k. unchanged t) (λ e p k. unchanged t)
      (λ e p k. absurd (k e)) (λ z. m (number (from_tally t) r ∙ z))

  -- so does every reply after commitment
  pub kept_committed : is_set t.committed ≡ true → left_through t r ≡ t
  unfolding from_tally
  kept_committed =
      by_reply (from_tally t) r (λ f v. is_set t.committed ≡ true → tally_left t v ≡ t) (λ n c. unchanged t) (λ e p c. unchanged t)
      (λ e p c. absurd (true≢false (sym c ∙ p)))

-- C takes the replies of a list as the entry does
pub same_through : (rs : List Reply) (t : C-tally.Tally) → taken_through t rs ≡ taken (from_tally t) rs
same_through [] t = refl
same_through (r ∷ rs) t =
    same_taking (from_tally t) r (taken_through (left_through t r) rs)
    ∙ ap (taking r (reply_of (from_tally t) r)) (same_through rs (left_through t r) ∙ ap (λ (u : Tally). taken u rs) (carried t r))

-- ---- demand 3
module _ (n quorum d w : ℕ) (proposal : Proposal) where
  abbrev opening : Tally
  opening = left (opening_of n quorum d w proposal) nothing

  -- what `callboard_tally_open` returns
  abbrev opened : TallyOpening
  opened = to_opening (opening_of n quorum d w proposal)

  -- the replies of a list that C did not refuse, from that tally on
  abbrev ran : List Reply → List Taken
  ran rs = taken_through opened.tally rs

  -- they are what the entry's tally takes, with what it answers
  pub through : (rs : List Reply) → ran rs ≡ taken opening rs
  through rs = same_through rs opened.tally ∙ ap (λ (u : Tally). taken u rs) (read_opening (opening_of n quorum d w proposal))

  -- C refuses a reply, or not, as the opened tally would: what was heard since decides nothing
  pub same_taken_through : (rs : List Reply) → replies (ran rs) ≡ unrefused opening rs
  same_taken_through rs = ap replies (through rs) ∙ same_taken n quorum d w proposal rs

  -- once a reply is answered committed, every later unrefused reply is answered so too
  pub stays_through : (rs : List Reply) → Stays (ran rs)
  stays_through rs = subst Stays (sym (through rs)) (stays n quorum d w proposal rs)

  unopened : opened.refusal ≡ 0 → open_refusal n quorum d w ≡ 0
  unfolding to_opening opening_of
  unopened = go (open_refusal n quorum d w)
    where
      go : (k : ℕ) → (to_opening (outcome k (fresh n quorum d w proposal))).refusal ≡ 0 → k ≡ 0
      go zero e = refl
      go (suc k) e = e

  module _ (no : opened.refusal ≡ 0) (faults : List ℕ) where
    -- the last unrefused reply was answered committed exactly when the unrefused ones commit; where there is none, neither side holds
    pub exactly_through : (rs : List Reply) → Lent faults (replies (ran rs)) → (last_said (ran rs) ≡ true) ↔ Commits quorum d faults (replies (ran rs))
    exactly_through rs =
        subst (λ (us : List Reply). Lent faults us → (last_said (ran rs) ≡ true) ↔ Commits quorum d faults us) (sym (same_taken_through rs))
        (subst (λ (us : List Taken). Lent faults (unrefused opening rs) → (last_said us ≡ true) ↔ Commits quorum d faults (unrefused opening rs))
        (sym (through rs)) (exactly n quorum d w proposal (unopened no) faults rs))

    -- order and repetition of the unrefused replies decide nothing
    pub agree_through : (rs rs' : List Reply) → Lent faults (replies (ran rs)) → Lent faults (replies (ran rs'))
        → Included (replies (ran rs)) (replies (ran rs')) → Included (replies (ran rs')) (replies (ran rs)) → last_said (ran rs) ≡ last_said (ran rs')
    agree_through rs rs' l l' i j =
        both_ways (λ e. (exactly_through rs' l').1 (commits_grow i ((exactly_through rs l).0 e)))
        (λ e. (exactly_through rs l).1 (commits_grow j ((exactly_through rs' l').0 e)))
