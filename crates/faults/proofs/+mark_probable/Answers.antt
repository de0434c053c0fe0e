-- `faults::mark_probable` meets its contract: the recursion on the replicas not yet tried, whose number falls at each call. Assumes nothing.
use Rattle.std.proofs.Common.{◌≡◌, refl, ◌∙◌, ℕ, ◌+◌, ◌*◌, ◌^◌, ◌<◌, ◌≤◌, ◌&&◌, ◌||◌, List, true, eqb, length, get_or, arith}
use Rattle.std.specs.Float.{binary64}
use Rattle.std.specs.Float.Ieee.{Float, nan, mul, le}
use mathlib.Core.Bool.{and-false}
use lib.Pow.{pow_mono}
use Rattle.std.specs.List.{list_all}
use Rattle.lists.specs.AllLaws.{all_means}
use Rattle.floats.specs.Floats.{is_probability, Fine}
use Rattle.floats.proofs.Shrink.{fine_mul}
use Rattle.marks.specs.Marks.{with_flag}
use Rattle.faults.specs.Marks.{is_hit, Marked}
use Rattle.faults.proofs.Marks.{room, hit_step, hit_none, marked_then, marked_one, marked_none, marked_same}
use Rattle.faults.proofs.Prune.{hit_pruned}
use Rattle.faults.proofs.+mark_probable.Goals as goal

-- the product with the probability at `next`
fine_next : (ps : List Float) (next : ℕ) (p : Float) → Fine p → list_all is_probability ps ≡ true → next < length ps
    → Fine (mul binary64 p (get_or ps next nan))
fine_next ps next p f e h = fine_mul p (get_or ps next nan) f ((all_means is_probability nan ps).0 e next h)

-- the set with `next` has a bit in the table
pub put-requires : goal.put-requires
put-requires t c =
    let a = c.args in
    let r =
    room (64 * length a.words.now) (length a.probs.now) a.next a.mask c.requires.few c.requires.room
    c.if-next-probs.true c.requires.below in
    rw r.exact (omega (arith, r.inside, c.mark_probable.auto.words))

pub mark_probable-requires-then-threshold-q : goal.mark_probable-requires-then-threshold-q
mark_probable-requires-then-threshold-q t c =
    let a = c.args in
    let r =
    room (64 * length a.words.now) (length a.probs.now) a.next a.mask c.requires.few c.requires.room
    c.if-next-probs.true c.requires.below in
    let f = fine_next a.probs.now a.next a.p c.requires.fine c.requires.probabilities c.if-next-probs.true in (
      omega arith,
      (
        c.requires.few,
        (
          omega (arith, c.requires.room, c.put.auto.words, c.mark_probable.auto.words),
          (rw r.exact r.more, (f, c.requires.probabilities)),
        ),
      ),
    )

pub returns-then-threshold-q : goal.returns-then-threshold-q
returns-then-threshold-q t c =
    let a = c.args in
    let r =
    room (64 * length a.words.now) (length a.probs.now) a.next a.mask c.requires.few c.requires.room
    c.if-next-probs.true c.requires.below in
    let ps : List Float = a.probs.now in
    let size : ℕ = 2 ^ length ps in
    let m : ℕ = a.mask + 2 ^ a.next in
    let q : Float = mul binary64 a.p (get_or ps a.next nan) in
    let e = r.exact in
    let T0 : List ℕ = a.words.now in
    let T1 : List ℕ = c.mark_probable.new.words in
    let T2 : List ℕ = c.put.new.words in
    let T3 : List ℕ = c.mark_probable-then-threshold-q.new.words in
    let i : m < 64 * length T1 = omega (arith, r.inside, c.mark_probable.auto.words) in
    let B : T2 ≡ with_flag T1 m = rw e at c.put.ensures in
    let C : Marked size (is_hit ps (a.next + 1) m q a.threshold) T2 T3 = rw e at c.mark_probable-then-threshold-q.ensures in
    let AB : Marked size (λ i. (eqb i m && le a.threshold q) || is_hit ps (a.next + 1) a.mask a.p a.threshold i) T0 T2 =
    marked_then size (is_hit ps (a.next + 1) a.mask a.p a.threshold) (λ i. eqb i m && le a.threshold q) _ T0 T1 T2 c.mark_probable.ensures
    (marked_one size m (le a.threshold q) T1 T2 i B c.if-threshold-q.true) (λ i. refl) in
    marked_then size _ (is_hit ps (a.next + 1) m q a.threshold) _ T0 T2 T3 AB C
    (λ i. hit_step ps a.next a.mask a.p a.threshold nan i c.if-next-probs.true c.requires.below)

pub returns-else-threshold-q : goal.returns-else-threshold-q
returns-else-threshold-q t c =
    let a = c.args in
    let ps : List Float = a.probs.now in
    let q : Float = mul binary64 a.p (get_or ps a.next nan) in
    let f : Fine q = fine_next ps a.next a.p c.requires.fine c.requires.probabilities c.if-next-probs.true in
    let n = hit_pruned ps (a.next + 1) (a.mask + 2 ^ a.next) q a.threshold in
    marked_same (2 ^ length ps) (is_hit ps (a.next + 1) a.mask a.p a.threshold) (is_hit ps a.next a.mask a.p a.threshold)
    a.words.now c.mark_probable.new.words c.mark_probable.ensures
    (λ i. hit_step ps a.next a.mask a.p a.threshold nan i c.if-next-probs.true c.requires.below
    ∙ rw (n i c.requires.probabilities f c.if-threshold-q.false, c.if-threshold-q.false, and-false))

pub returns-else-next-probs : goal.returns-else-next-probs
returns-else-next-probs t c =
    let a = c.args in
    marked_none (2 ^ length a.probs.now) (is_hit a.probs.now a.next a.mask a.p a.threshold) a.words.now
    (λ j l. hit_none a.probs.now a.next a.mask a.p a.threshold j
    (let w : 2 ^ length a.probs.now ≤ 2 ^ a.next = pow_mono c.if-next-probs.false in omega arith))
