use Rattle.std.proofs.Common.{◌≡◌, ◌+◌, ◌++◌, ◌∙◌, ap, sym, [], ◌∷◌, take, get_or, append_assoc, rules}
use Rattle.std.proofs.lemmas.List.{take_more, take_all}
use Rattle.perimeter_core.specs.declared.entries.Entry.{Entry}
use Rattle.perimeter_core.specs.declared.entries.Entry.TheVariants as Entry'
use Rattle.squeue_state.proofs.room.append.Goals as goal

pub loop-e-preserved : goal.loop-e-preserved
loop-e-preserved c =
    let i = c.loop-e.e-index in
    let es = c.args.es.now in
    let d : Entry = Entry'.Feed 0 0 in
    let more : take (i + 1) es ≡ take i es ++ get_or es i d ∷ [] = take_more es i d c.loop-e-test.true in
    let pushed : c.push_reserved.new.self.items ≡ c.loop-e.chain.items ++ get_or es i d ∷ [] = search rules in
    record {
      room = search rules;
      same = search rules;
      chain = pushed ∙ (ap (λ xs. xs ++ get_or es i d ∷ []) c.loop-e.invariant.chain ∙ (append_assoc c.args.chain.now.items (take i es) (get_or es i d ∷ []) ∙ ap (λ xs. c.args.chain.now.items ++ xs) (sym more)));
    }

pub returns : goal.returns
returns c =
    record {
      items = c.loop-e.invariant.chain ∙ ap (λ xs. c.args.chain.now.items ++ xs) (take_all c.loop-e.e-index c.args.es.now c.loop-e-test.false);
      room = c.loop-e.invariant.same;
    }
