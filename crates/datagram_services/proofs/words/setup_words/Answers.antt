use Rattle.std.proofs.Common.{◌≡◌, ◌∙◌, ap, sym, Err}
use Rattle.std.proofs.lemmas.Result.{err_from_is_err_and}
use Rattle.std.specs.Prelude.{option_and_then}
use Rattle.shell.specs.declared.words.WordFault.TheVariants.{Usage}
use Rattle.datagram_services.specs.MoreWords.{more_setup, setup_asked}
use Rattle.datagram_services.proofs.InRange.{asked_range, asked_spread}
use Rattle.datagram_services.proofs.words.setup_words.Goals as goal

pub returns-in_err-asked-clause-usage : goal.returns-in_err-asked-clause-usage
unfolding more_setup
returns-in_err-asked-clause-usage c = λ e.
    let p = err_from_is_err_and c.from_residual.result c.from_residual.ensures.1 in
    let p1 = p.1 in
    let p2 = p.2 in
    let usage : c.in_err-asked.field-0.0 ≡ Usage = cc in
    ap (option_and_then setup_asked) (c.words_asked.ensures.usage (c.in_err-asked.was ∙ ap (λ f. Err f) usage))

pub returns-in-Some-clause-ok : goal.returns-in-Some-clause-ok
unfolding more_setup
returns-in-Some-clause-ok c = ap (option_and_then setup_asked) c.in_ok-asked.ensures.ok ∙ (sym c.setup_in.ensures ∙ c.in-Some.is)

pub returns-in-Some-clause-range : goal.returns-in-Some-clause-range
returns-in-Some-clause-range c = asked_range _ _ _ c.in_ok-asked.ensures.ok (sym c.setup_in.ensures ∙ c.in-Some.is)

pub returns-in-Some-clause-spread : goal.returns-in-Some-clause-spread
returns-in-Some-clause-spread c = (asked_spread _ _ _ c.in_ok-asked.ensures.ok (sym c.setup_in.ensures ∙ c.in-Some.is)).0

pub returns-in-Some-clause-trace : goal.returns-in-Some-clause-trace
returns-in-Some-clause-trace c = (asked_spread _ _ _ c.in_ok-asked.ensures.ok (sym c.setup_in.ensures ∙ c.in-Some.is)).1

pub returns-clause-usage : goal.returns-clause-usage
unfolding more_setup
returns-clause-usage c = λ e. ap (option_and_then setup_asked) c.in_ok-asked.ensures.ok ∙ (sym c.setup_in.ensures ∙ c.in-None.is)
