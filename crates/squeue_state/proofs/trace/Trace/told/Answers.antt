use Rattle.std.proofs.Common.{◌≤◌, ◌+◌, ◌++◌, ◌∙◌, ap, sym, subst, refl, length}
use Rattle.std.proofs.lemmas.List.{append-nil}
use Rattle.perimeter_core.specs.declared.marks.Mark.TheVariants as On
use Rattle.perimeter_core.specs.Deeds.{entries_of}
use Rattle.perimeter_core.specs.Kinds.{mark_by}
use Rattle.squeue_state.specs.Told.{Traced}
use Rattle.squeue_state.proofs.Marks.{part_fits, part_there, part_within}
use Rattle.squeue_state.proofs.trace.Trace.told.Goals as goal

pub enter_feeds-requires : goal.enter_feeds-requires
enter_feeds-requires c =
    part_fits c.args.self.now.entries c.args.es.now c.args.self.now.entry_room (subst (λ k. length c.args.self.now.entries + length (entries_of (mark_by c.args.p k c.args.es.now)) ≤ c.args.self.now.entry_room) c.in-Fill.is c.requires)

pub returns-in-Fill-clause-mark : goal.returns-in-Fill-clause-mark
returns-in-Fill-clause-mark c =
    let first = c.len-first.ensures ∙ (c.self.inside.entries.ok.0 ∙ ap (λ (t : Traced). length t.entries) c.self.view_is) in
    ap (λ xs. On.Fill c.args.p xs) (part_there c.args.self.now.entries c.enter_feeds.new.self.entries c.args.es.now c.len-first.result (length c.args.es.now) first refl c.enter_feeds.ensures.entries)
    ∙ ap (λ k. mark_by c.args.p k c.args.es.now) (sym c.in-Fill.is)

pub returns-in-Fill-clause-places : goal.returns-in-Fill-clause-places
returns-in-Fill-clause-places c =
    let first = c.len-first.ensures ∙ (c.self.inside.entries.ok.0 ∙ ap (λ (t : Traced). length t.entries) c.self.view_is) in
    part_within c.args.self.now.entries c.enter_feeds.new.self.entries c.args.es.now c.len-first.result (length c.args.es.now) first refl c.enter_feeds.ensures.entries

pub enter_feeds-requires-in-Claim : goal.enter_feeds-requires-in-Claim
enter_feeds-requires-in-Claim c =
    part_fits c.args.self.now.entries c.args.es.now c.args.self.now.entry_room (subst (λ k. length c.args.self.now.entries + length (entries_of (mark_by c.args.p k c.args.es.now)) ≤ c.args.self.now.entry_room) c.in-Claim.is c.requires)

pub returns-in-Claim-clause-mark : goal.returns-in-Claim-clause-mark
returns-in-Claim-clause-mark c =
    let first = c.len-first.ensures ∙ (c.self.inside.entries.ok.0 ∙ ap (λ (t : Traced). length t.entries) c.self.view_is) in
    ap (λ xs. On.Claim c.args.p xs) (part_there c.args.self.now.entries c.enter_feeds-in-Claim.new.self.entries c.args.es.now c.len-first.result (length c.args.es.now) first refl c.enter_feeds-in-Claim.ensures.entries)
    ∙ ap (λ k. mark_by c.args.p k c.args.es.now) (sym c.in-Claim.is)

pub returns-in-Claim-clause-places : goal.returns-in-Claim-clause-places
returns-in-Claim-clause-places c =
    let first = c.len-first.ensures ∙ (c.self.inside.entries.ok.0 ∙ ap (λ (t : Traced). length t.entries) c.self.view_is) in
    part_within c.args.self.now.entries c.enter_feeds-in-Claim.new.self.entries c.args.es.now c.len-first.result (length c.args.es.now) first refl c.enter_feeds-in-Claim.ensures.entries

pub returns-in_default : goal.returns-in_default
returns-in_default c =
    record {
      mark = c.bare.ensures.mark c.args.self.now.entries c.args.es.now;
      places = c.bare.ensures.places (length c.args.self.now.entries);
      entries = sym (ap (λ xs. c.args.self.now.entries ++ xs) (c.bare.ensures.none c.args.es.now) ∙ append-nil c.args.self.now.entries);
      told = refl;
      same = (refl, refl, refl);
    }
