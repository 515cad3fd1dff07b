use Rattle.std.proofs.Common.{rules, ◌≡◌, ◌∙◌, ap, codes, false, length, map, string_bytes, sym, true, Bool, Err, Option, Some, ℕ}
use Rattle.std.proofs.lemmas.Result.{err_from_is_err_and}
use Rattle.shell.specs.Asked.{asked_of, givens_of, number_for}
use Rattle.shell.specs.declared.words.WordFault.TheVariants.{Usage}
use Rattle.squeue_run.specs.Asked.{Asked, go_together, setup_of}
use Rattle.squeue_run.proofs.Answered.{asked_all, asked_apart, asked_no_setup, asked_none}
use Rattle.squeue_run.proofs.words.asked_in.Goals as goal

pub returns-in_err-asked-clause-usage : goal.returns-in_err-asked-clause-usage
returns-in_err-asked-clause-usage c = λ e.
    let p = err_from_is_err_and c.from_residual.result c.from_residual.ensures.1 in
    let p1 = p.1 in
    let p2 = p.2 in
    let usage : c.in_err-asked.field-0.0 ≡ Usage = cc in
    asked_none (map (λ s. string_bytes s) c.args.words.now) (c.words_asked.ensures.usage (c.in_err-asked.was ∙ ap (λ f. Err f) usage))

pub returns-in_default-clause-usage : goal.returns-in_default-clause-usage
returns-in_default-clause-usage c = λ e.
    asked_no_setup (map (λ s. string_bytes s) c.args.words.now) (asked_of c.in_ok-asked.asked) c.in_ok-asked.ensures.ok (sym c.setup_in.ensures ∙ c.in_default.is)

pub returns-then-not-go_together-clause-usage : goal.returns-then-not-go_together-clause-usage
returns-then-not-go_together-clause-usage c = λ e.
    let gs = givens_of c.in_ok-asked.asked.givens.items in
    let found : setup_of gs ≡ Some c.in-Some.setup = sym c.setup_in.ensures ∙ c.in-Some.is in
    let many : c.go_together.result ≡ false = search rules in
    let apart : go_together (number_for (codes "gen") gs) c.in-Some.setup.trace (length c.in_ok-asked.asked.calls.items) ≡ false =
    ap (λ n. go_together n c.in-Some.setup.trace (length c.in_ok-asked.asked.calls.items)) (sym c.number-number.ensures)
    ∙ (ap (λ l. go_together c.number-number.result c.in-Some.setup.trace (length l)) (sym c.deref.ensures.value) ∙ (sym c.go_together.ensures ∙ many)) in
    asked_apart (map (λ s. string_bytes s) c.args.words.now) (asked_of c.in_ok-asked.asked) c.in_ok-asked.ensures.ok c.in-Some.setup found apart

pub returns-clause-ok : goal.returns-clause-ok
returns-clause-ok c =
    let gs = givens_of c.in_ok-asked.asked.givens.items in
    let cs = c.in_ok-asked.asked.calls.items in
    let found : setup_of gs ≡ Some c.in-Some.setup = sym c.setup_in.ensures ∙ c.in-Some.is in
    let few : c.go_together.result ≡ true = search rules in
    let together : go_together (number_for (codes "gen") gs) c.in-Some.setup.trace (length cs) ≡ true =
    ap (λ n. go_together n c.in-Some.setup.trace (length cs)) (sym c.number-number.ensures)
    ∙ (ap (λ l. go_together c.number-number.result c.in-Some.setup.trace (length l)) (sym c.deref.ensures.value) ∙ (sym c.go_together.ensures ∙ few)) in
    let given : Bool → Option ℕ → Asked = λ (v : Bool) (n : Option ℕ). record { setup = c.in-Some.setup; verify = v; number = n; calls = cs } in
    asked_all (map (λ s. string_bytes s) c.args.words.now) (asked_of c.in_ok-asked.asked) c.in_ok-asked.ensures.ok c.in-Some.setup found together
    ∙ (ap (λ v. Some (given v (number_for (codes "gen") gs))) (sym c.is_set.ensures) ∙ ap (λ n. Some (given c.is_set.result n)) (sym c.number-number.ensures))
