use Rattle.std.proofs.Common.{◌≡◌, ◌+◌, ◌++◌, ◌∙◌, ap, sym, [], ◌∷◌, take, get_or, append_assoc, rules}
use Rattle.std.proofs.lemmas.List.{take_more, take_all}
use Rattle.perimeter_core.specs.declared.entries.Entry.TheVariants as Entry'
use Rattle.perimeter_core.specs.declared.entries.Feed.{Feed}
use Rattle.perimeter_core.specs.Deeds.{entries}
use Rattle.perimeter_core.proofs.FeedActs.{entries_push}
use Rattle.squeue_state.proofs.room.queue_feeds.Goals as goal

pub loop-f-preserved : goal.loop-f-preserved
loop-f-preserved c =
    let i = c.loop-f.f-index in
    let fs = c.args.es.now in
    let d : Feed = record { c = 0; n = 0 } in
    let now = get_or fs i d in
    let more : entries (take (i + 1) fs) ≡ entries (take i fs) ++ Entry'.Feed now.c now.n ∷ [] = ap entries (take_more fs i d c.loop-f-test.true) ∙ entries_push (take i fs) now in
    let pushed : c.push_reserved.new.self.items ≡ c.loop-f.chain.items ++ Entry'.Feed now.c now.n ∷ [] = search rules in
    record {
      room = search rules;
      same = search rules;
      chain = pushed ∙ (ap (λ xs. xs ++ Entry'.Feed now.c now.n ∷ []) c.loop-f.invariant.chain ∙ (append_assoc c.args.chain.now.items (entries (take i fs)) (Entry'.Feed now.c now.n ∷ []) ∙ ap (λ xs. c.args.chain.now.items ++ xs) (sym more)));
    }

pub returns : goal.returns
returns c =
    record {
      items = c.loop-f.invariant.chain ∙ ap (λ xs. c.args.chain.now.items ++ entries xs) (take_all c.loop-f.f-index c.args.es.now c.loop-f-test.false);
      room = c.loop-f.invariant.same;
    }
