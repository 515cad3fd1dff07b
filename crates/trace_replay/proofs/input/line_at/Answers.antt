use Rattle.std.proofs.Common.{◌≡◌, ◌≢◌, ◌∙◌, ℕ, ◌-◌, ◌<◌, List, ◌++◌, true, false, get_or, length, take, drop, refl, sym, ap, subst, arith, length-append, length-drop}
use Rattle.std.proofs.lemmas.Bool.Decides.{Decides-eqb}
use Rattle.std.proofs.lemmas.List.{take_rest}
use Rattle.std.proofs.lemmas.Slice.Eq.{starts_is}
use Rattle.trace_replay.proofs.Searching.{first_here, next_begins, none_before_next, none_left}
use Rattle.trace_replay.proofs.input.line_at.Goals as goal

abbrev rest_of : ℕ → List ℕ → List ℕ
rest_of at text = take (length text - at) (drop at text)

not_true : false ≡ true → ⊥
not_true e = cc

pub returns-then-starts_with : goal.returns-then-starts_with
returns-then-starts_with c =
    let text = c.args.text.now in
    let word = c.args.word.now in
    let at = c.loop-rest.at in
    let rest = rest_of at text in
    let starts : drop at text ≡ word ++ drop (length word) rest = sym (take_rest text at) ∙ (starts_is Decides-eqb rest word true c.if-starts_with.ensures.value).0 refl in (
      omega (arith, ap length starts, length-append word (drop (length word) rest), length-drop at text, c.loop-rest.invariant.within),
      first_here word text (drop (length word) rest) at c.loop-rest.invariant.within c.loop-rest.invariant.begins c.loop-rest.invariant.none starts,
    )

pub returns-in_default : goal.returns-in_default
returns-in_default c =
    let text = c.args.text.now in
    let word = c.args.word.now in
    let at = c.loop-rest.at in
    let rest = rest_of at text in
    none_left word text at c.loop-rest.invariant.none (λ more e. not_true ((starts_is Decides-eqb rest word false c.if-starts_with.ensures.value).1 more (take_rest text at ∙ e)))
    (subst (λ t. (k : ℕ) → k < length t → get_or t k 0 ≢ 10) (take_rest text at) c.in_default.ensures)

pub loop-rest-preserved : goal.loop-rest-preserved
loop-rest-preserved c =
    let text = c.args.text.now in
    let word = c.args.word.now in
    let at = c.loop-rest.at in
    let rest = rest_of at text in
    let n = c.in-Some.n in
    let found : (n < length (drop at text)) × (get_or (drop at text) n 0 ≡ 10) × ((k : ℕ) → k < n → get_or (drop at text) k 0 ≢ 10) =
    subst (λ t. (n < length t) × (get_or t n 0 ≡ 10) × ((k : ℕ) → k < n → get_or t k 0 ≢ 10)) (take_rest text at) c.in-Some.ensures in
    record {
      within = omega (arith, found.0, length-drop at text, c.loop-rest.invariant.within);
      begins = next_begins text at n found.0 found.1;
      none = none_before_next word text at n c.loop-rest.invariant.none (λ more e. not_true ((starts_is Decides-eqb rest word false c.if-starts_with.ensures.value).1 more (take_rest text at ∙ e))) found.2;
    }
