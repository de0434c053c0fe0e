-- What one reply does to a tally, and what is kept over a list of replies: until it commits, a tally's words sum up the replies that it counted, and
-- replies that commit still do with more of them. Assumes nothing.
use Rattle.std.specs.Prelude.{◌≡◌, refl, ◌↔◌, ◌⊎◌, Bool, ℕ, zero, suc, ◌+◌, ◌*◌, ◌^◌, ◌≤◌, ◌<◌, eqb, get_or, take, replicate}
use Rattle.std.proofs.Common.{sym, ap, ◌∙◌, inl, inr, ⊎_elim, true≢false, lt_of_lt_of_le, arith, pow_mono, pow_pos}
use Rattle.std.proofs.Math.Path.{subst}
use Rattle.std.proofs.Math.Logic.{⊎_map}
use mathlib.Core.Logic.Iff as Iff
use Rattle.std.proofs.Math.Bool.{true, false, cond}
use mathlib.Core.List.Memᴰ
use mathlib.Core.List.{List, [], ◌∷◌, ◌++◌, append-nil, append_assoc, Memᴰ}
use Rattle.std.proofs.Math.Decide.{ℕ_discrete}
use Rattle.std.specs.Int.Bits.{bit_or, or_lt}
use Rattle.std.proofs.Math.ListN.{length}
use Rattle.std.proofs.Math.Pow.{pow-lt}
use borrow.Author.Tests.{lt-ltb, eq-eqb, ne_eqb, eqb-false}
use Rattle.lists.specs.All.{AllOf}
use Rattle.lists.specs.AllLaws.{all_of_means, all_of_map}
use Rattle.bitmap.specs.Mask.{bit, has_bit, with_bit}
use Rattle.rows.specs.Row.{row_in, with_row}
use Rattle.rows.proofs.TableLaws.{no_row, first_row, first_rows_below, row_below, with_row_same, with_row_other, with_row_length}
use Rattle.bitmap.specs.MaskLaws.{bit_none, or_means, with_means}
use Rattle.bitmap.specs.Members.{many_map}
use Rattle.refusals.specs.Outcome.{refused, outcome, written}
use Rattle.coverage.specs.Coverage.{RowsBelow, commits}
use Rattle.coverage.proofs.CoverageLaws.{Held, commits_means}
use Rattle.tally.specs.declared.Proposal.{Proposal}
use Rattle.tally.specs.declared.Tally.{Tally}
use Rattle.tally.specs.declared.Status.{Status}
use Rattle.tally.specs.declared.Status.TheVariants.{Waiting, Committed, AlreadyCommitted}
use Rattle.tally.specs.Tally.{Reply, open_refusal, fresh, is_same_value, reply_refusal, row_with}
use Rattle.tally.specs.Tally.{noted, is_committing, settled, said_of, reply_of, tally_after}
use Rattle.tally.proofs.RefusalLaws.{openable, countable}
use Rattle.tally.specs.Replies.{says_committed, Taken, taking, taken, unrefused, after_all, replies, last_or, last_said, Stays, Heard, Named, Left, Commits, Lent, Included}

-- ---- one reply

-- the tally with the reply counted, and committed if it commits
abbrev pub counted : Tally → Reply → Tally
counted t r = settled (noted t r.source r.row) r.faults

says : (b : Bool) → says_committed (cond b Committed Waiting) ≡ b
says true = refl
says false = refl

-- what a reply adds to the later answers, and the tally that it leaves, are one of three: a refused reply adds nothing and leaves the tally, one after
-- commitment leaves it too, any other is counted
pub by_reply : (t : Tally) (r : Reply) (P : (List Taken → List Taken) → Tally → Type 0) → ((reply_refusal t r ≡ 0 → ⊥) → P (λ us. us) t)
    → (reply_refusal t r ≡ 0 → t.committed ≡ true → P (λ us. (r, true) ∷ us) t)
    → (reply_refusal t r ≡ 0 → t.committed ≡ false → P (λ us. (r, (counted t r).committed) ∷ us) (counted t r))
    → P (taking r (reply_of t r)) (tally_after t r)
unfolding reply_of tally_after
by_reply t r P refuses already counts = go (reply_refusal t r) refl t.committed refl
  where
    go : (k : ℕ) → reply_refusal t r ≡ k → (b : Bool) → t.committed ≡ b
        → P (taking r (outcome k (cond b AlreadyCommitted (cond (counted t r).committed Committed Waiting)))) (written k (cond b t (counted t r)) t)
    go zero e true c = already e c
    go zero e false c = subst (λ (b : Bool). P (λ us. (r, b) ∷ us) (counted t r)) (sym (says (counted t r).committed)) (counts e c)
    go (suc k) e b c = refuses (λ z. omega arith)

-- a refused reply leaves the tally as it was
pub refused_leaves : (t : Tally) (r : Reply) (number : ℕ) → refused number ≡ reply_of t r → t ≡ tally_after t r
unfolding reply_of tally_after
refused_leaves t r number = go (reply_refusal t r) (said_of t r) (cond t.committed t (counted t r))
  where
    go : (k : ℕ) (said : Status) (u : Tally) → refused number ≡ outcome k said → t ≡ written k u t
    go zero said u e = cc
    go (suc k) said u e = refl

-- ---- the rows after a reply, of a source that has a row in the tally
module _ (t : Tally) (source row : ℕ) (room : source * 4 + 4 ≤ length t.rows) where
  abbrev before : ℕ
  before = row_in t.rows source

  -- a first reply replaces what the row held, whatever that was
  pub first_replaces : row < 2 ^ 256 → has_bit t.heard source ≡ false → row_in (noted t source row).rows source ≡ row
  unfolding noted
  first_replaces small e =
      let q : row_with t.heard before source row ≡ row = rw e in
      with_row_same t.rows source _ room (subst (λ (m : ℕ). m < 2 ^ 256) (sym q) small) ∙ q

  -- a later one is united with it
  pub later_unites : before < 2 ^ 256 → row < 2 ^ 256 → has_bit t.heard source ≡ true
      → row_in (noted t source row).rows source ≡ bit_or before row
  unfolding noted
  later_unites held small e =
      let q : row_with t.heard before source row ≡ bit_or before row = rw e in
      with_row_same t.rows source _ room (subst (λ (m : ℕ). m < 2 ^ 256) (sym q) (or_lt 256 before row held small)) ∙ q

  -- no other row changes
  pub others_stay : (s : ℕ) → (s ≡ source → ⊥) → row_in (noted t source row).rows s ≡ row_in t.rows s
  unfolding noted
  others_stay s h = with_row_other t.rows source _ room s h

-- ---- what is answered

-- the last unrefused reply is answered what the tally says after them all
pub last_is_committed : (rs : List Reply) (t : Tally) → last_or t.committed (taken t rs) ≡ (after_all t rs).committed
last_is_committed [] t = refl
last_is_committed (r ∷ rs) t =
    by_reply t r (λ f u. last_or t.committed (f (taken u rs)) ≡ (after_all u rs).committed) (λ n. last_is_committed rs t)
    (λ e c. ap (λ (b : Bool). last_or b (taken t rs)) (sym c) ∙ last_is_committed rs t)
    (λ e c. last_is_committed rs (counted t r))

-- a committed tally answers every unrefused reply so
all_committed : (rs : List Reply) (t : Tally) → t.committed ≡ true → AllOf (λ (v : Taken). v.1 ≡ true) (taken t rs)
all_committed [] t c = tt
all_committed (r ∷ rs) t c =
    by_reply t r (λ f u. AllOf (λ (v : Taken). v.1 ≡ true) (f (taken u rs))) (λ n. all_committed rs t c) (λ e p. (refl, all_committed rs t c))
    (λ e p. absurd (true≢false (sym c ∙ p)))

pub all_stay : (rs : List Reply) (t : Tally) → Stays (taken t rs)
all_stay [] t = tt
all_stay (r ∷ rs) t =
    by_reply t r (λ f u. Stays (f (taken u rs))) (λ n. all_stay rs t) (λ e c. (λ p. all_committed rs t c, all_stay rs t))
    (λ e c. (all_committed rs (counted t r), all_stay rs (counted t r)))

-- ---- what is refused

-- the tally's own words pass their checks
pub record Sound (t : Tally) : Type 0 where
  pub long : length t.rows ≡ 64
  pub mask : t.heard < 2 ^ t.population
  pub each_row : (s : ℕ) → row_in t.rows s < 2 ^ t.width

pub sound_fresh : (n quorum d w : ℕ) (proposal : Proposal) → Sound (fresh n quorum d w proposal)
unfolding fresh
sound_fresh n quorum d w proposal = record { long = refl; mask = pow_pos n; each_row = λ s. rw (no_row 64 s) (pow_pos w) }

-- what holds of each row, and of another one, holds after that is written too
with_each : (F : ℕ → Type 0) (m : ℕ) (table : List ℕ) (i : ℕ) → i * 4 + 4 ≤ length table → m < 2 ^ 256 → F m → ((s : ℕ) → F (row_in table s)) → (s : ℕ) → F (row_in (with_row table i m) s)
with_each F m table i room h f a s = go (ℕ_discrete s i)
  where
    go : Dec (s ≡ i) → F (row_in (with_row table i m) s)
    go (yes q) = subst (λ (k : ℕ). F (row_in (with_row table i m) k)) (sym q) (subst F (sym (with_row_same table i m room h)) f)
    go (no q) = subst F (sym (with_row_other table i m room s q)) (a s)

module _ (t : Tally) (r : Reply) (sound : Sound t) (e : reply_refusal t r ≡ 0) where
  sound_counted : Sound (counted t r)
  unfolding noted
  sound_counted =
      let f = (countable t r).0 e in
      let m = row f.row (has_bit t.heard r.source) in
      let k : r.source < 16 = omega (arith, f.replica, f.opening.population) in
      let room : r.source * 4 + 4 ≤ length t.rows = omega (arith, sound.long) in
      record {
        long = with_row_length t.rows r.source _ room ∙ sound.long;
        mask = or_lt t.population t.heard (2 ^ r.source) sound.mask (pow-lt f.replica);
        each_row = with_each (λ (x : ℕ). x < 2 ^ t.width) _ t.rows r.source room (lt_of_lt_of_le m (pow_mono {i = t.width} {j = 256} (omega (arith, f.opening.shards)))) m sound.each_row;
      }
    where
      row : r.row < 2 ^ t.width → (b : Bool) → cond b (bit_or (row_in t.rows r.source) r.row) r.row < 2 ^ t.width
      row f true = or_lt t.width (row_in t.rows r.source) r.row (sound.each_row r.source) f
      row f false = f

  -- only the two checks of its own words could differ, and both pass before and after
  counted_refusal : (x : Reply) → reply_refusal (counted t r) x ≡ reply_refusal t x
  unfolding reply_refusal is_same_value noted
  counted_refusal x =
      let u = counted t r in
      simp (
        lt-ltb t.heard (2 ^ t.population) sound.mask,
        lt-ltb u.heard (2 ^ t.population) sound_counted.mask,
        first_rows_below t.width t.population t.rows sound.each_row,
        first_rows_below t.width t.population u.rows sound_counted.each_row,
      )

pub all_decided : (rs : List Reply) (t : Tally) → Sound t → (x : Reply) → reply_refusal (after_all t rs) x ≡ reply_refusal t x
all_decided [] t sound x = refl
all_decided (r ∷ rs) t sound x =
    by_reply t r (λ f u. reply_refusal (after_all u rs) x ≡ reply_refusal t x) (λ n. all_decided rs t sound x) (λ e c. all_decided rs t sound x)
    (λ e c. all_decided rs (counted t r) (sound_counted t r sound e) x ∙ counted_refusal t r sound e x)

-- those that are taken are those that a tally with the same refusals does not refuse
pub all_unrefused : (v : Tally) (rs : List Reply) (t : Tally) → Sound t → ((x : Reply) → reply_refusal t x ≡ reply_refusal v x)
    → replies (taken t rs) ≡ unrefused v rs
all_unrefused v [] t sound same = refl
all_unrefused v (r ∷ rs) t sound same =
    by_reply t r (λ f u. replies (f (taken u rs)) ≡ cond (eqb (reply_refusal v r) 0) (r ∷ unrefused v rs) (unrefused v rs))
    (λ n. rw (ne_eqb (reply_refusal v r) 0 (λ z. n (same r ∙ z))) (all_unrefused v rs t sound same))
    (λ e c. rw (eq-eqb (reply_refusal v r) 0 (sym (same r) ∙ e)) (ap (λ (us : List Reply). r ∷ us) (all_unrefused v rs t sound same)))
    (λ e c.
    rw (eq-eqb (reply_refusal v r) 0 (sym (same r) ∙ e))
    (ap (λ (us : List Reply). r ∷ us) (all_unrefused v rs (counted t r) (sound_counted t r sound e) (λ x. counted_refusal t r sound e x ∙ same x))))

-- ---- more replies say more

module _ {us vs : List Reply} (more : Included us vs) where
  heard_grows : (s : ℕ) → Heard us s → Heard vs s
  heard_grows s h = record { reply = h.reply; given = more h.reply h.given; from = h.from }

  named_grows : (s k : ℕ) → Named us s k → Named vs s k
  named_grows s k h = record { reply = h.reply; given = more h.reply h.given; from = h.from; names = h.names }

  left_grows : (fault k : ℕ) → Left us fault k → Left vs fault k
  left_grows fault k h =
      let s = h.replica in
      record { replica = s; is_heard = heard_grows s h.is_heard; outside = h.outside; named = named_grows s k h.named }

  pub commits_grow : {quorum d : ℕ} {faults : List ℕ} → Commits quorum d faults us → Commits quorum d faults vs
  commits_grow {faults} c = record {
    enough = many_map heard_grows c.enough;
    covered = all_of_map (λ fault. many_map (left_grows fault)) faults c.covered;
  }

-- one reply more
module _ (us : List Reply) (r : Reply) where
  kept : Included us (us ++ r ∷ [])
  kept x m = Memᴰ.append_left (r ∷ []) m

  added : Memᴰ r (us ++ r ∷ [])
  added = Memᴰ.append_right us (Memᴰ.head refl)

  kept_or_added : (x : Reply) → Memᴰ x (us ++ r ∷ []) → Memᴰ x us ⊎ (r ≡ x)
  kept_or_added x m = ⊎_map (λ h. h) (λ h. sym (Memᴰ.eq_of_singleton h)) (Memᴰ.append_cases us m)

  heard_means : (s : ℕ) → Heard (us ++ r ∷ []) s ↔ (Heard us s ⊎ (r.source ≡ s))
  heard_means s = (
    λ h.
        ⊎_map (λ m. record { reply = h.reply; given = m; from = h.from }) (λ q. ap (λ (x : Reply). x.source) q ∙ h.from)
        (kept_or_added h.reply h.given),
    ⊎_elim (heard_grows kept s) (λ q. record { reply = r; given = added; from = q }),
  )

  named_means : (s k : ℕ) → Named (us ++ r ∷ []) s k ↔ (Named us s k ⊎ ((r.source ≡ s) × (bit r.row k ≡ 1)))
  named_means s k = (
    λ h.
        ⊎_map (λ m. record { reply = h.reply; given = m; from = h.from; names = h.names })
        (λ q. (ap (λ (x : Reply). x.source) q ∙ h.from, ap (λ (x : Reply). bit x.row k) q ∙ h.names)) (kept_or_added h.reply h.given),
    ⊎_elim (named_grows kept s k) (λ q. record { reply = r; given = added; from = q.0; names = q.1 }),
  )

-- ---- what a tally's words say

-- below n, those heard and the shards in the rows are those of the replies
pub record Sums (n heard : ℕ) (rows : List ℕ) (us : List Reply) : Type 0 where
  pub long : length rows ≡ 64
  pub known : (s : ℕ) → Heard us s → s < n
  pub hears : (s : ℕ) → (bit heard s ≡ 1) ↔ Heard us s
  pub knows : (s k : ℕ) → (bit (row_in rows s) k ≡ 1) ↔ Named us s k

sums_none : (n : ℕ) → Sums n 0 (replicate 64 0) []
sums_none n = record {
  long = refl;
  known = λ s h. absurd (Memᴰ.not-nil h.given);
  hears = λ s. (λ e. absurd (omega (arith, bit_none s)), λ h. absurd (Memᴰ.not-nil h.given));
  knows = λ s k. (λ e. absurd (omega (arith, bit_none k, ap (λ (x : ℕ). bit x k) (no_row 64 s))), λ h. absurd (Memᴰ.not-nil h.given));
}

-- two that agree still do with the same added to both
both_more : {A B C D E : Type 0} → A ↔ (B ⊎ E) → B ↔ C → D ↔ (C ⊎ E) → A ↔ D
both_more p q r = (λ a. r.1 (⊎_map q.0 (λ e. e) (p.0 a)), λ d. p.1 (⊎_map q.1 (λ e. e) (r.0 d)))

module _ {n heard : ℕ} {rows : List ℕ} {us : List Reply} (sums : Sums n heard rows us) where
  -- where somebody is heard, the words commit exactly if the replies do
  sums_commit : (quorum d : ℕ) (faults : List ℕ) {s : ℕ} → Heard us s → (commits n quorum d heard (row_in rows) faults ≡ true) ↔ Commits quorum d faults us
  sums_commit quorum d faults {s} somebody = (
    λ e.
        let c = (commits_means n quorum d heard (row_in rows) faults).0 e in
        record {
          enough = many_map (λ k. (sums.hears k).0) c.0;
          covered = (all_of_means _ 0 faults).1 (λ i l. many_map (to_left (get_or faults i 0)) (c.1.each_set i l));
        },
    λ c.
        (commits_means n quorum d heard (row_in rows) faults).1 (
          many_map (λ k. (sums.hears k).1) c.enough,
          record {
            somebody = λ z. omega (arith, (sums.hears s).1 somebody, ap (λ (m : ℕ). bit m s) z, bit_none s);
            each_set = λ i l. many_map (to_held (get_or faults i 0)) ((all_of_means _ 0 faults).0 c.covered i l);
          },
        ),
  )
    where
      to_left : (fault k : ℕ) → Held (row_in rows) heard fault n k → Left us fault k
      to_left fault k h =
          let s = h.replica in
          record { replica = s; is_heard = (sums.hears s).0 h.is_heard; outside = h.outside; named = (sums.knows s k).0 h.holds }

      to_held : (fault k : ℕ) → Left us fault k → Held (row_in rows) heard fault n k
      to_held fault k h =
          let s = h.replica in
          record {
            replica = s;
            known = sums.known s h.is_heard;
            is_heard = (sums.hears s).1 h.is_heard;
            outside = h.outside;
            holds = (sums.knows s k).1 h.named;
          }

  module _ (r : Reply) (few : n ≤ 16) (fits : r.source < n) (small : row_with heard (row_in rows r.source) r.source r.row < 2 ^ 256) where
    abbrev held : ℕ
    held = row_in rows r.source

    abbrev row : ℕ
    row = row_with heard held r.source r.row

    room : r.source * 4 + 4 ≤ length rows
    room = omega (arith, sums.long)

    -- where a first reply replaces the row, nothing stood there
    row_means : (k : ℕ) → (bit row k ≡ 1) ↔ ((bit held k ≡ 1) ⊎ (bit r.row k ≡ 1))
    row_means k = go (has_bit heard r.source) refl
      where
        is_heard : bit held k ≡ 1 → bit heard r.source ≡ 1
        is_heard e = let h = (sums.knows r.source k).0 e in (sums.hears r.source).1 (record { reply = h.reply; given = h.given; from = h.from })

        go : (b : Bool) → has_bit heard r.source ≡ b → (bit (cond b (bit_or held r.row) r.row) k ≡ 1) ↔ ((bit held k ≡ 1) ⊎ (bit r.row k ≡ 1))
        go true q = or_means held r.row k
        go false q = (inr, ⊎_elim (λ e. absurd (eqb-false (bit heard r.source) 1 q (is_heard e))) (λ e. e))

    rows_mean : (s k : ℕ) → (bit (row_in (with_row rows r.source row) s) k ≡ 1) ↔ ((bit (row_in rows s) k ≡ 1) ⊎ ((r.source ≡ s) × (bit r.row k ≡ 1)))
    rows_mean s k = go (ℕ_discrete s r.source)
      where
        go : Dec (s ≡ r.source)
            → (bit (row_in (with_row rows r.source row) s) k ≡ 1) ↔ ((bit (row_in rows s) k ≡ 1) ⊎ ((r.source ≡ s) × (bit r.row k ≡ 1)))
        go (yes q) =
            rw (q, with_row_same rows r.source row room small)
            (Iff.trans (row_means k) (⊎_map (λ e. e) (λ e. (refl, e)), ⊎_map (λ e. e) (λ e. e.1)))
        go (no f) = rw (with_row_other rows r.source row room s f) (inl, ⊎_elim (λ e. e) (λ e. absurd (f (sym e.0))))

    sums_noted : Sums n (with_bit heard r.source) (with_row rows r.source row) (us ++ r ∷ [])
    sums_noted = record {
      long = with_row_length rows r.source row room ∙ sums.long;
      known = λ s h. ⊎_elim (sums.known s) (λ q. omega arith) ((heard_means us r s).0 h);
      hears = λ s. both_more (with_means heard r.source s) (sums.hears s) (heard_means us r s);
      knows = λ s k. both_more (rows_mean s k) (sums.knows s k) (named_means us r s k);
    }

-- ---- the rows that a reply finds and leaves, where it is not refused
module _ (t : Tally) (r : Reply) (e : reply_refusal t r ≡ 0) where
  abbrev left : ℕ
  left = row_with t.heard (row_in t.rows r.source) r.source r.row

  held_below : (s : ℕ) → s < t.population → row_in t.rows s < 2 ^ t.width
  held_below s l =
      let f = (countable t r).0 e in
      subst (λ (x : ℕ). x < 2 ^ t.width) (first_row t.rows t.population s l)
      (row_below t.width (take (t.population * 4) t.rows) f.each_row s)

  left_below : left < 2 ^ t.width
  left_below =
      let f = (countable t r).0 e in
      go (held_below r.source f.replica) f.row (has_bit t.heard r.source)
    where
      go : row_in t.rows r.source < 2 ^ t.width → r.row < 2 ^ t.width → (b : Bool)
          → cond b (bit_or (row_in t.rows r.source) r.row) r.row < 2 ^ t.width
      go h l true = or_lt t.width (row_in t.rows r.source) r.row h l
      go h l false = l

  -- the row that it leaves has room in four words
  row_small : left < 2 ^ 256
  row_small = lt_of_lt_of_le left_below (pow_mono {i = t.width} {j = 256} (omega (arith, ((countable t r).0 e).opening.shards)))

  -- and in no row of the tally is a shard at or above the width
  pub noted_rows : length t.rows ≡ 64 → RowsBelow t.population t.width (row_in (noted t r.source r.row).rows)
  unfolding noted
  noted_rows long s l =
      let f = (countable t r).0 e in
      let k : r.source < 16 = omega (arith, f.replica, f.opening.population) in
      go (omega arith) (ℕ_discrete s r.source)
    where
      go : r.source * 4 + 4 ≤ length t.rows → Dec (s ≡ r.source) → row_in (with_row t.rows r.source left) s < 2 ^ t.width
      go room (yes q) =
          subst (λ (k : ℕ). row_in (with_row t.rows r.source left) k < 2 ^ t.width) (sym q)
          (subst (λ (m : ℕ). m < 2 ^ t.width) (sym (with_row_same t.rows r.source left room row_small)) left_below)
      go room (no q) = subst (λ (m : ℕ). m < 2 ^ t.width) (sym (with_row_other t.rows r.source left room s q)) (held_below s l)

-- ---- when a tally is committed

-- nobody is no quorum
none_commit : (quorum d : ℕ) (faults : List ℕ) → 1 ≤ quorum → Commits quorum d faults [] → ⊥
none_commit quorum d faults some c = go c.enough.list c.enough.long c.enough.each
  where
    go : (xs : List ℕ) → length xs ≡ quorum → AllOf (Heard []) xs → ⊥
    go [] e a = omega arith
    go (x ∷ xs) e a = Memᴰ.not-nil a.0.given

module _ (faults : List ℕ) where
  -- the tally is committed exactly if the replies commit, and until then it sums them up
  pub record Right (t : Tally) (us : List Reply) : Type 0 where
    pub exact : (t.committed ≡ true) ↔ Commits t.quorum t.data_shards faults us
    pub sums : t.committed ≡ false → Sums t.population t.heard t.rows us

  pub right_fresh : (n quorum d w : ℕ) (proposal : Proposal) → open_refusal n quorum d w ≡ 0 → Right (fresh n quorum d w proposal) []
  unfolding fresh
  right_fresh n quorum d w proposal e =
      let q = ((openable n quorum d w).0 e).enough.0 in
      record { exact = (λ c. absurd (true≢false (sym c)), λ c. absurd (none_commit quorum d faults q c)); sums = λ c. sums_none n }

  module _ {t : Tally} {us : List Reply} (right : Right t us) (r : Reply) where
    right_after : t.committed ≡ true → Right t (us ++ r ∷ [])
    right_after c = record { exact = (λ e. commits_grow (kept us r) (right.exact.0 e), λ h. c); sums = λ e. absurd (true≢false (sym c ∙ e)) }

    right_counted : reply_refusal t r ≡ 0 → t.committed ≡ false → r.faults ≡ faults → Right (counted t r) (us ++ r ∷ [])
    unfolding noted is_committing
    right_counted e c l =
        let f = (countable t r).0 e in
        let s = sums_noted (right.sums c) r f.opening.population.1 f.replica (row_small t r e) in
        record {
          exact = rw (← l) (sums_commit s t.quorum t.data_shards r.faults ((heard_means us r r.source).1 (inr refl)));
          sums = λ p. s;
        }

  pub all_exact : (rs : List Reply) (t : Tally) (us : List Reply) → Right t us → Lent faults (replies (taken t rs))
      → ((after_all t rs).committed ≡ true) ↔ Commits t.quorum t.data_shards faults (us ++ replies (taken t rs))
  unfolding noted
  all_exact [] t us right = λ lent. rw append-nil right.exact
  all_exact (r ∷ rs) t us right =
      by_reply t r
      (λ f u. Lent faults (replies (f (taken u rs)))
      → ((after_all u rs).committed ≡ true) ↔ Commits t.quorum t.data_shards faults (us ++ replies (f (taken u rs))))
      (λ n. all_exact rs t us right) (λ e c lent. rw append_assoc at (all_exact rs t (us ++ r ∷ []) (right_after right r c) lent.1))
      (λ e c lent. rw append_assoc at (all_exact rs (counted t r) (us ++ r ∷ []) (right_counted right r e c lent.0) lent.1))

  -- from a tally that has heard nobody
  pub fresh_exact : (n quorum d w : ℕ) (proposal : Proposal) → open_refusal n quorum d w ≡ 0 → (rs : List Reply)
      → Lent faults (unrefused (fresh n quorum d w proposal) rs)
      → (last_said (taken (fresh n quorum d w proposal) rs) ≡ true) ↔ Commits quorum d faults (unrefused (fresh n quorum d w proposal) rs)
  unfolding fresh
  fresh_exact n quorum d w proposal e rs =
      let t = fresh n quorum d w proposal in
      subst (λ (us : List Reply). Lent faults us → (last_said (taken t rs) ≡ true) ↔ Commits quorum d faults us)
      (all_unrefused t rs t (sound_fresh n quorum d w proposal) (λ x. refl))
      (λ lent. rw (last_is_committed rs t) (all_exact rs t [] (right_fresh n quorum d w proposal e) lent))

-- two answers, each yes where the other is
pub both_ways : {a b : Bool} → (a ≡ true → b ≡ true) → (b ≡ true → a ≡ true) → a ≡ b
both_ways {a = true} {b = b} f g = sym (f refl)
both_ways {a = false} {b = true} f g = g refl
both_ways {a = false} {b = false} f g = refl
