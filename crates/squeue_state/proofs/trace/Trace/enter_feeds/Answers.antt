use Rattle.std.proofs.Common.{◌≡◌, ◌+◌, ◌++◌, ◌∙◌, ap, sym, [], ◌∷◌, take, get_or, append_assoc, length-append, length, rules, arith}
use Rattle.std.proofs.lemmas.List.{take_more}
use Rattle.perimeter_core.specs.declared.entries.Entry.TheVariants as Entry'
use Rattle.perimeter_core.specs.declared.entries.Feed.{Feed}
use Rattle.perimeter_core.specs.Deeds.{entries}
use Rattle.perimeter_core.proofs.FeedActs.{entries_push}
use Rattle.squeue_state.proofs.trace.Trace.enter_feeds.Goals as goal

pub loop-f-preserved : goal.loop-f-preserved
loop-f-preserved c =
    let i = c.loop-f.f-index in
    let fs = c.args.es.now in
    let d : Feed = record { c = 0; n = 0 } in
    let now = get_or fs i d in
    let more : entries (take (i + 1) fs) ≡ entries (take i fs) ++ Entry'.Feed now.c now.n ∷ [] = ap entries (take_more fs i d c.loop-f-test.true) ∙ entries_push (take i fs) now in
    let pushed : c.enter.new.self.entries ≡ c.loop-f.self.entries ++ Entry'.Feed now.c now.n ∷ [] = search rules in
    record {
      entries = pushed ∙ (ap (λ xs. xs ++ Entry'.Feed now.c now.n ∷ []) c.loop-f.invariant.entries ∙ (append_assoc c.args.self.now.entries (entries (take i fs)) (Entry'.Feed now.c now.n ∷ []) ∙ ap (λ xs. c.args.self.now.entries ++ xs) (sym more)));
      room = omega (arith, ap length pushed, length-append c.loop-f.self.entries (Entry'.Feed now.c now.n ∷ []), c.loop-f.invariant.room, c.enter.ensures.same.2, c.loop-f-test.true);
      told = c.enter.ensures.told ∙ c.loop-f.invariant.told;
      same = search rules;
    }
