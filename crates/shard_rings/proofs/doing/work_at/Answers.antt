use Rattle.std.proofs.Common.{length, slice_set, refl}
use Rattle.std.proofs.lemmas.Option.{slice_get_read, slice_get_within}
use Rattle.squeue_serve.proofs.Unused.{place_worked}
use Rattle.shard_rings.proofs.doing.work_at.Goals as goal

pub returns : goal.returns
returns g c =
    let may = c.requires in
    let squeues = c.args.squeues.now in
    let places = c.args.places.now.items in
    let s = c.index-squeues-q.result in
    let r = place_worked g.R.Resident.limits s places c.index_mut.result.now c.work.new.place may.1 places (slice_set places 0 c.work.new.place) refl may.3 c.index_mut.ensures.value refl c.work.ensures in
    (s, r.0, r.1, slice_get_read squeues (length squeues) c.args.q s refl (slice_get_within squeues c.args.q may.0 may.2) c.index-squeues-q.is, r.2, r.3, r.4)
