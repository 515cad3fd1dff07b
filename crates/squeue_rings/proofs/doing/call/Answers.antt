use Rattle.std.proofs.Common.{◌<◌, ℕ, List, [], length, map, ap, sym, ◌∙◌, subst, arith}
use Rattle.std.proofs.lemmas.List.{get_or-map, length-map}
use Rattle.squeue_rings.specs.Calling.{CallersAt}
use Rattle.squeue_rings.specs.Doing.{called_by}
use Rattle.squeue_rings.proofs.Closes.{caller_may_close}
use Rattle.squeue_rings.proofs.doing.call.Goals as goal

pub close_all-requires : goal.close_all-requires
close_all-requires g c =
    let ready = c.requires.ready in
    let rows = c.args.calls.now in
    let conns = called_by (map (λ v. v.items) rows) c.args.thread in
    let lt : c.args.thread < length rows = omega (arith, ready.thread, length-map rows (λ v. v.items)) in
    let same = c.deref.ensures.value ∙ (ap (λ v. v.items) c.index-calls-thread.is ∙ sym (get_or-map (λ v. v.items) rows c.args.thread c.index-calls-thread.result [] lt)) in
    let places = c.make_calls.new.places.items in
    caller_may_close g.R.Resident.limits c.args.thread conns c.args.access.now.squeues.now places ready.no_worker
    (subst (λ (cs : List ℕ). CallersAt g.R.Resident.limits c.args.thread cs c.args.access.now.squeues.now places) same c.make_calls.ensures)
