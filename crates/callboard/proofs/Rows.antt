-- What the rows of a choice are to the table that is lent for them. Assumes nothing.
use mathlib.Core.Path.{◌≡◌, refl, sym, ap, subst, ◌∙◌}
use mathlib.Core.Bool.{Bool, true, false}
use mathlib.Core.List.{List, [], ◌∷◌}
use Rattle.std.specs.Prelude.{Option, None, Some}
use Prim.Native.Nat.{ℕ, suc, ◌*◌}
use native.Mathlib.Omega.{arith}
use lib.Ieee.{Float}
use lib.ListN.{length}
use borrow.Author.Tests.{eq-eqb, ne_eqb, eqb-true}
use Rattle.refusals.specs.Numbers.{TABLE}
use Rattle.refusals.specs.Outcome.{Outcome, refused, accepted, and_then}
use Rattle.refusals.specs.Limits.{is_table}
use Rattle.rows.specs.Row.{rows_in, spelled}
use Rattle.adaptive.specs.Policy.{policy_refusal, policy_of, rows_of, Holds}
use Rattle.adaptive.proofs.PolicyLaws.{choice_means, initial_means, words_fit}
use Rattle.adaptive.proofs.Entries.{policy_holds}
use Rattle.c_types.specs.CTypes.{is_set}
use Rattle.callboard.specs.Interface.{policy_in, copied, rows_left}
use Rattle.callboard.specs.Tests.{fitting_of}
use Rattle.callboard.proofs.Numbers.{policy_in_is}

none_copied : (rows : List ℕ) → copied [] rows ≡ rows
none_copied [] = refl
none_copied (r ∷ rows) = rw (ne_eqb 0 (suc (length rows)) (λ e. omega arith))

all_copied : (part rows : List ℕ) → length part ≡ length rows → copied part rows ≡ part
all_copied part rows e = rw (eq-eqb (length part) (length rows) e)

module _ (n f own d w majority size adaptive balanced : ℕ) (models : List Float) (inflight : List ℕ) (alive : ℕ) (initial table : List ℕ) where
  abbrev policy : Outcome (Option ℕ)
  policy = policy_of n f own d w majority size inflight models alive initial table (is_set adaptive) (is_set balanced)

  -- the words of the rows of a choice
  abbrev words_for : Outcome (Option ℕ) → List ℕ
  words_for o = spelled (rows_of n d majority o (rows_in initial) (rows_in table))

  -- what is refused for the tables that C lends
  abbrev unfit : Outcome (Option ℕ) → Outcome (Option ℕ)
  unfit o = and_then o (λ _. refused TABLE)

  in_is : (lent : Bool)
      → policy_in n f own d w majority size adaptive balanced models inflight alive initial table lent ≡ fitting_of lent policy
  in_is lent = policy_in_is n f own d w majority size adaptive balanced models inflight alive initial table lent

  pub held : (lent : Bool) {o : Outcome (Option ℕ)} → o ≡ policy_in n f own d w majority size adaptive balanced models inflight alive initial table lent
      → Holds n d majority o (length initial) (length table)
  held lent {o} e = go lent (e ∙ in_is lent)
    where
      unheld : (p : Outcome (Option ℕ)) → Holds n d majority (unfit p) (length initial) (length table)
      unheld (refused k) = tt
      unheld (accepted c) = tt

      go : (b : Bool) → o ≡ fitting_of b policy → Holds n d majority o (length initial) (length table)
      go true e = policy_holds n f own d w majority size inflight models alive initial table (is_set adaptive) (is_set balanced) e
      go false e = subst (λ (p : Outcome (Option ℕ)). Holds n d majority p (length initial) (length table)) (sym e) (unheld policy)

  unrefused : (c : Option ℕ) → policy ≡ accepted c → policy_refusal n f own d w majority size inflight models alive initial table ≡ 0
  unrefused None e = ((initial_means n f own d w majority size inflight models alive initial table (is_set adaptive) (is_set balanced)).0 e).0
  unrefused (Some c) e =
      ((choice_means n f own d w majority size inflight models alive initial table (is_set adaptive) (is_set balanced) c).0 e).unrefused

  -- an accepted choice has n rows
  n_rows : (c : Option ℕ) → policy ≡ accepted c → length (words_for (accepted c)) ≡ n * 4
  n_rows c e =
      ap (λ (p : Outcome (Option ℕ)). length (words_for p)) (sym e)
      ∙ (words_fit n f own d w majority size inflight models alive initial table (is_set adaptive) (is_set balanced) (unrefused c e)).1

  no_words : (rows : List ℕ) → copied (spelled []) rows ≡ rows
  unfolding spelled
  no_words rows = none_copied rows

  pub rows_left_are : (rows : List ℕ) {after part : List ℕ} {o : Outcome (Option ℕ)} {lent : Bool} → lent ≡ is_table n (length rows)
      → o ≡ policy_in n f own d w majority size adaptive balanced models inflight alive initial table lent
      → part ≡ words_for o → after ≡ copied part rows
      → after ≡ rows_left n d majority (policy_in n f own d w majority size adaptive balanced models inflight alive initial table (is_table n (length rows))) initial table rows
  rows_left_are rows {o} {lent} is e t q =
      q ∙ ap (λ (part : List ℕ). copied part rows) t ∙ ap (λ (p : Outcome (Option ℕ)). copied (words_for p) rows) (e ∙ ap (policy_in n f own d w majority size adaptive balanced models inflight alive initial table) is)
      ∙ rw (in_is (is_table n (length rows))) (go (is_table n (length rows)) refl)
    where
      unwritten : (p : Outcome (Option ℕ)) → copied (words_for (unfit p)) rows ≡ rows_left n d majority (unfit p) initial table rows
      unwritten (refused k) = no_words rows
      unwritten (accepted c) = no_words rows

      fitted : length rows ≡ n * 4 → (p : Outcome (Option ℕ)) → policy ≡ p → copied (words_for p) rows ≡ rows_left n d majority p initial table rows
      fitted l (refused k) u = no_words rows
      fitted l (accepted c) u = all_copied (words_for (accepted c)) rows (n_rows c u ∙ sym l)

      go : (b : Bool) → is_table n (length rows) ≡ b
          → copied (words_for (fitting_of b policy)) rows ≡ rows_left n d majority (fitting_of b policy) initial table rows
      go true t = fitted (eqb-true (length rows) (n * 4) t) policy refl
      go false t = unwritten policy
