-- `profile_text::parse_profile` meets its contract. Assumes nothing.
use Rattle.std.proofs.Common.{rules, ◌≡◌, ◌∙◌, sym, true, Err}
use Rattle.refusals.specs.Limits.{is_population}
use Rattle.refusals.proofs.Checks.{went_on, population_went_on}
use Rattle.numerals.specs.Text.{is_text}
use Rattle.profile_text.specs.ProfileText.{most_bytes, mechanisms_of, profile_of}
use Rattle.profile_text.proofs.parse_profile.Goals as goal

pub invariant_of-reader : goal.invariant_of-reader
invariant_of-reader c =
    record { few_replicas = population_went_on _ _ c.is_population.ensures c.in_ok-unless.ensures }

pub returns-in_err-read_mechanisms : goal.returns-in_err-read_mechanisms
unfolding mechanisms_of profile_of
returns-in_err-read_mechanisms c =
    let p : is_population c.args.n ≡ true = sym c.is_population.ensures ∙ went_on _ 0 c.in_ok-unless.ensures in
    let t : is_text most_bytes c.args.s.now ≡ true = sym c.is_text.ensures ∙ went_on _ 5 c.in_ok-unless-2.ensures in
    let e : c.from_residual-in_err-read_mechanisms.result ≡ Err c.in_err-read_mechanisms.field-0.0 = search rules in
    rw (e, p, t) (c.in_err-read_mechanisms.ensures ∙ rw c.nothing-p.ensures)

pub returns : goal.returns
unfolding mechanisms_of profile_of
returns c =
    let p : is_population c.args.n ≡ true = sym c.is_population.ensures ∙ went_on _ 0 c.in_ok-unless.ensures in
    let t : is_text most_bytes c.args.s.now ≡ true = sym c.is_text.ensures ∙ went_on _ 5 c.in_ok-unless-2.ensures in
    rw (p, t) (c.in_ok-read_mechanisms.ensures ∙ rw c.nothing-p.ensures)
