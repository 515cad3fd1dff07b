use Rattle.std.proofs.Common.{arith, ◌≡◌, ◌∙◌, ◌<◌, ◌≤◌, sym, ap, codes, None, Some, Err, Option, List, [], Bor, refl, length}
use Rattle.std.specs.Prelude.{unwrap_or}
use Rattle.std.proofs.lemmas.List.{length-map}
use Rattle.std.proofs.lemmas.Result.{err_from_is_err_and}
use Rattle.clap.specs.Words.{found_of}
use Rattle.clap.proofs.WalkLemmas.{raw_values-rows}
use Rattle.shell.specs.Asked.{calls_of, givens_of}
use Rattle.shell.specs.Table.{Text, table_of}
use Rattle.shell.specs.Words.{calls_in}
use Rattle.shell.specs.declared.words.WordFault.TheVariants.{Usage}
use Rattle.shell.proofs.Accepted.{texts_of}
use Rattle.shell.proofs.Answered.{named_is}
use Rattle.shell.proofs.Calls.{now_of}
use Rattle.shell.proofs.Whole.{all_asked, is_few, is_over, no_calls, too_many}
use Rattle.shell.proofs.words.words_asked.Goals as goal

pub returns-then-named-table-clause-usage : goal.returns-then-named-table-clause-usage
returns-then-named-table-clause-usage g c = λ e.
    let found = c.in_ok-matches.ensures.ok in
    let us = found.0 in
    let named : now_of c.unwrap_or-named.result.now ≡ calls_in us =
    ap (λ (b : Bor (List (Bor Text))). now_of b.now) c.unwrap_or-named.ensures
    ∙ (named_is c.get_strs.result _ _ c.get_strs.ensures refl
    ∙ (ap (λ (o : Option (List Text)). unwrap_or o []) (raw_values-rows (found_of c.in_ok-matches.matches) (codes "calls")) ∙ found.2.calls)) in
    let count : length (calls_in us) ≡ length c.unwrap_or-named.result.now = ap length (sym named) ∙ length-map c.unwrap_or-named.result.now _ in
    let over : c.args.table.now.most_calls < length (calls_in us) = omega (arith, count, c.if-named-table.true) in
    too_many g.C.ReadsCall.call_of (table_of c.args.table.now) (texts_of c.args.words.now) us found.1 (is_over _ _ over)

pub returns-in_err-calls-clause-usage : goal.returns-in_err-calls-clause-usage
returns-in_err-calls-clause-usage g c = λ e.
    let found = c.in_ok-matches.ensures.ok in
    let us = found.0 in
    let named : now_of c.unwrap_or-named.result.now ≡ calls_in us =
    ap (λ (b : Bor (List (Bor Text))). now_of b.now) c.unwrap_or-named.ensures
    ∙ (named_is c.get_strs.result _ _ c.get_strs.ensures refl
    ∙ (ap (λ (o : Option (List Text)). unwrap_or o []) (raw_values-rows (found_of c.in_ok-matches.matches) (codes "calls")) ∙ found.2.calls)) in
    let count : length (calls_in us) ≡ length c.unwrap_or-named.result.now = ap length (sym named) ∙ length-map c.unwrap_or-named.result.now _ in
    let few : length (calls_in us) ≤ c.args.table.now.most_calls = omega (arith, count, c.if-named-table.false) in
    let p = err_from_is_err_and c.from_residual-in_err-calls.result c.from_residual-in_err-calls.ensures.1 in
    let p1 = p.1 in
    let p2 = p.2 in
    let usage : c.in_err-calls.field-0.0 ≡ Usage = cc in
    let none : calls_of g.C.ReadsCall.call_of (calls_in us) ≡ None =
    sym (ap (calls_of g.C.ReadsCall.call_of) named) ∙ c.calls_in.ensures.usage (c.in_err-calls.was ∙ ap (λ f. Err f) usage) in
    no_calls g.C.ReadsCall.call_of (table_of c.args.table.now) (texts_of c.args.words.now) us found.1 (is_few _ _ few)
    (givens_of c.in_ok-givens.givens.items) (c.in_ok-givens.ensures.ok us found.2) none

pub returns-clause-ok : goal.returns-clause-ok
returns-clause-ok g c =
    let found = c.in_ok-matches.ensures.ok in
    let us = found.0 in
    let named : now_of c.unwrap_or-named.result.now ≡ calls_in us =
    ap (λ (b : Bor (List (Bor Text))). now_of b.now) c.unwrap_or-named.ensures
    ∙ (named_is c.get_strs.result _ _ c.get_strs.ensures refl
    ∙ (ap (λ (o : Option (List Text)). unwrap_or o []) (raw_values-rows (found_of c.in_ok-matches.matches) (codes "calls")) ∙ found.2.calls)) in
    let count : length (calls_in us) ≡ length c.unwrap_or-named.result.now = ap length (sym named) ∙ length-map c.unwrap_or-named.result.now _ in
    let few : length (calls_in us) ≤ c.args.table.now.most_calls = omega (arith, count, c.if-named-table.false) in
    let calls : calls_of g.C.ReadsCall.call_of (calls_in us) ≡ Some c.in_ok-calls.calls.items = sym (ap (calls_of g.C.ReadsCall.call_of) named) ∙ c.in_ok-calls.ensures.ok in
    all_asked g.C.ReadsCall.call_of (table_of c.args.table.now) (texts_of c.args.words.now) us found.1 (is_few _ _ few)
    (givens_of c.in_ok-givens.givens.items) (c.in_ok-givens.ensures.ok us found.2) c.in_ok-calls.calls.items calls
