use Rattle.std.proofs.Common.{◌≤◌, ℕ, List, length, get_or, take, sym, subst, arith}
use Rattle.std.proofs.lemmas.Option.{slice_get-get_or}
use Rattle.synch_enter.specs.Hinting.{conns_of}
use Rattle.histories.proofs.ListPlaces.{some_at, take_one}
use Rattle.squeue_serve.proofs.Unused.{each_at}
use Rattle.squeue_rings.specs.Calling.{CallersAt, MayMake}
use Rattle.squeue_rings.proofs.OnceEach.{take_length}
use Rattle.squeue_rings.proofs.calling.make_calls.Goals as goal

pub make_call-requires-clause-hints : goal.make_call-requires-clause-hints
make_call-requires-clause-hints g c =
    let conns = c.args.conns.now in
    let d = get_or conns c.loop-k.k 0 in
    let got = slice_get-get_or conns c.loop-k.k 0 c.loop-k-test.true in
    let s = some_at c.args.access.now.squeues.now 0 c.requires.hints.2 in
    let may = each_at (λ s. MayMake g.R.Resident.limits s c.args.j c.loop-k.k (take c.loop-k.k conns) d) c.args.access.now.squeues.now 0 s.0 (c.requires.may c.loop-k.k d got) s.1 in
    let most = each_at (λ s. length s.given.starts ≤ conns_of c.args.access.now.hints.now) c.args.access.now.squeues.now 0 s.0 c.requires.hints.1 s.1 in
    (omega (arith, may.range, most), c.requires.hints.0)

pub make_call-requires-clause-ready : goal.make_call-requires-clause-ready
make_call-requires-clause-ready g c =
    let conns = c.args.conns.now in
    let d = get_or conns c.loop-k.k 0 in
    let got = slice_get-get_or conns c.loop-k.k 0 c.loop-k-test.true in
    (take c.loop-k.k conns, take_length conns c.loop-k.k d got, c.requires.may c.loop-k.k d got, c.loop-k.invariant)

pub loop-k-preserved : goal.loop-k-preserved
loop-k-preserved g c =
    let conns = c.args.conns.now in
    let d = get_or conns c.loop-k.k 0 in
    let got = slice_get-get_or conns c.loop-k.k 0 c.loop-k-test.true in
    subst (λ (cs : List ℕ). CallersAt g.R.Resident.limits c.args.j cs c.args.access.now.squeues.now c.make_call.new.places.items) (sym (take_one conns c.loop-k.k d got))
    (c.make_call.ensures (take c.loop-k.k conns) (take_length conns c.loop-k.k d got) (c.requires.may c.loop-k.k d got) c.loop-k.invariant)
