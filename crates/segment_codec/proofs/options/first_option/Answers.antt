use Rattle.std.proofs.Common.{rules, ◌≡◌, ◌∙◌, ℕ, sym, ap, take, drop, true, false}
use Rattle.segment_codec.specs.Options.{is_end, option_size, is_option, first_option}
use Rattle.segment_codec.proofs.OptionLemmas.{first_option_end, first_option_here, first_option_next}
use Rattle.segment_codec.proofs.options.first_option.Goals as goal

pub returns-then-is_option-clause-found : goal.returns-then-is_option-clause-found
returns-then-is_option-clause-found c =
    let rest = c.loop-rest.rest.now in
    let begins : is_end rest ≡ false = search rules in
    let same : c.split_at.result.0.now ≡ take (option_size rest) rest = c.split_at.ensures.front ∙ ap (λ (n : ℕ). take n rest) c.option_size.ensures.value in
    let here : is_option c.args.kind c.args.size c.split_at.result.0.now ≡ true = search rules in
    sym c.loop-rest.invariant ∙ first_option_here c.args.kind c.args.size rest c.split_at.result.0.now begins same here

pub loop-rest-preserved : goal.loop-rest-preserved
loop-rest-preserved c =
    let rest = c.loop-rest.rest.now in
    let begins : is_end rest ≡ false = search rules in
    let same : c.split_at.result.0.now ≡ take (option_size rest) rest = c.split_at.ensures.front ∙ ap (λ (n : ℕ). take n rest) c.option_size.ensures.value in
    let others : c.split_at.result.1.now ≡ drop (option_size rest) rest = c.split_at.ensures.back ∙ ap (λ (n : ℕ). drop n rest) c.option_size.ensures.value in
    let here : is_option c.args.kind c.args.size c.split_at.result.0.now ≡ false = search rules in
    ap (first_option c.args.kind c.args.size) others
    ∙ (sym (first_option_next c.args.kind c.args.size rest c.split_at.result.0.now begins same here) ∙ c.loop-rest.invariant)

pub returns-clause-found : goal.returns-clause-found
returns-clause-found c =
    let rest = c.loop-rest.rest.now in
    let ended : is_end rest ≡ true = search rules in
    sym c.loop-rest.invariant ∙ first_option_end c.args.kind c.args.size rest ended
