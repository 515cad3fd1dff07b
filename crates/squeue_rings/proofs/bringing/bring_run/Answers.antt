use Rattle.std.proofs.Common.{◌≡◌, ◌-◌, ◌<◌, [], ◌∷◌, ◌++◌, ℕ, length, take, drop, slice_get, slice_index_or, sym, ap, ◌∙◌, arith}
use Rattle.std.proofs.lemmas.List.{length-set}
use Rattle.squeue_state.specs.AllRoom.{HasAllRoom}
use Rattle.squeue_serve.specs.Places.{Holds}
use Rattle.squeue_serve.proofs.Unused.{each_at}
use Rattle.squeue_rings.specs.Rings.{RingAt}
use Rattle.histories.specs.Runs.{home_of, run_of}
use Rattle.squeue_rings.proofs.PacedAll.{run_paced}
use Rattle.squeue_rings.proofs.Running.{all_entered, first_ready, may_enter, run_is}
use Rattle.squeue_rings.proofs.Slots.{at_length, got_at, got_other, head_rest}
use Rattle.squeue_rings.proofs.bringing.bring_run.Goals as goal
use Rattle.perimeter_core.proofs.ActLists.{get_same}

pub reach-requires-clause-ready : goal.reach-requires-clause-ready
reach-requires-clause-ready g c =
    let ready = c.requires.ready in
    let feeds = c.args.feeds.now in
    let f = slice_index_or feeds 0 (record { c = 0; n = 0 }) in
    let tail = take (length feeds - 1) (drop 1 feeds) in
    (ready.0, ready.1, ready.2, tail ++ ready.3, first_ready g.R.Resident.limits c.args.pace.homes.squeues c.args.pace.homes.spread ready.0 ready.1 c.args.access.now.squeues.now ready.2 feeds ready.3 c.args.places.now.items ready.4 f tail (head_rest feeds (record { c = 0; n = 0 }) c.requires.some))

pub index_mut-requires : goal.index_mut-requires
index_mut-requires g c =
    let limits = g.R.Resident.limits in
    let sq = c.args.pace.homes.squeues in
    let sp = c.args.pace.homes.spread in
    let ready = c.requires.ready in
    let feeds = c.args.feeds.now in
    let f = slice_index_or feeds 0 (record { c = 0; n = 0 }) in
    let tail = take (length feeds - 1) (drop 1 feeds) in
    let is = head_rest feeds (record { c = 0; n = 0 }) c.requires.some in
    let first = first_ready limits sq sp ready.0 ready.1 c.args.access.now.squeues.now ready.2 feeds ready.3 c.args.places.now.items ready.4 f tail is in
    let at = c.reach.ensures.reached ready.0 ready.1 ready.2 (tail ++ ready.3) first in
    let n = at_length (λ s o. Holds (RingAt limits sq sp ready.0 ready.2 (ready.2 ++ f ∷ []) s) o) c.args.access.now.squeues.now c.reach.new.places.items at.each in
    omega (arith, n, c.home-home.ensures.range, c.requires.run.count, c.reach.new.places.ok)

pub enter_at-requires-clause-may : goal.enter_at-requires-clause-may
enter_at-requires-clause-may g c =
    let limits = g.R.Resident.limits in
    let sq = c.args.pace.homes.squeues in
    let sp = c.args.pace.homes.spread in
    let ready = c.requires.ready in
    let feeds = c.args.feeds.now in
    let ss = c.args.access.now.squeues.now in
    let f = slice_index_or feeds 0 (record { c = 0; n = 0 }) in
    let tail = take (length feeds - 1) (drop 1 feeds) in
    let is = head_rest feeds (record { c = 0; n = 0 }) c.requires.some in
    let first = first_ready limits sq sp ready.0 ready.1 ss ready.2 feeds ready.3 c.args.places.now.items ready.4 f tail is in
    let mid = c.reach.new.places.items in
    let at = c.reach.ensures.reached ready.0 ready.1 ready.2 (tail ++ ready.3) first in
    let count = at_length (λ s o. Holds (RingAt limits sq sp ready.0 ready.2 (ready.2 ++ f ∷ []) s) o) ss mid at.each in
    let q = c.home-home.result in
    let e : q ≡ home_of sq sp f = c.home-home.ensures.home in
    let lq : q < length ss = omega (arith, c.home-home.ensures.range, c.requires.run.count) in
    let lo : q < length mid = omega (arith, lq, count) in
    let here = ap (slice_get ss) (sym e) ∙ got_at ss q c.index-squeues-q.result lq c.index-squeues-q.is in
    let it = ap (slice_get mid) (sym e) ∙ got_at mid q c.index_mut.result.now lo c.index_mut.ensures.value in
    let run : c.run.result ≡ run_of sq sp (home_of sq sp f) tail = c.run.ensures.run ∙ ap (λ (h : ℕ). run_of sq sp h tail) e in
    let long = ap length is in
    may_enter limits sq sp ready.0 ready.1 ss ready.2 feeds ready.3 c.args.places.now.items ready.4 f tail is mid at c.index-squeues-q.result here c.requires.run.numbered c.index_mut.result.now (take (length feeds - (length tail - c.run.result)) feeds) it
    (run_is limits sq sp ready.0 ready.1 ss ready.2 feeds ready.3 c.args.places.now.items ready.4 f tail is (length feeds - (length tail - c.run.result)) (omega (arith, long, run, c.run.ensures.most)))

pub enter_at-requires-clause-room : goal.enter_at-requires-clause-room
enter_at-requires-clause-room g c =
    let ss = c.args.access.now.squeues.now in
    let q = c.home-home.result in
    let lq : q < length ss = omega (arith, c.home-home.ensures.range, c.requires.run.count) in
    each_at (λ s. HasAllRoom s.given) ss q c.index-squeues-q.result c.requires.run.room (got_at ss q c.index-squeues-q.result lq c.index-squeues-q.is)

pub returns-clause-brought : goal.returns-clause-brought
returns-clause-brought g c r list done behind ready =
    let limits = g.R.Resident.limits in
    let sq = c.args.pace.homes.squeues in
    let sp = c.args.pace.homes.spread in
    let feeds = c.args.feeds.now in
    let ss = c.args.access.now.squeues.now in
    let f = slice_index_or feeds 0 (record { c = 0; n = 0 }) in
    let tail = take (length feeds - 1) (drop 1 feeds) in
    let is = head_rest feeds (record { c = 0; n = 0 }) c.requires.some in
    let first = first_ready limits sq sp r list ss done feeds behind c.args.places.now.items ready f tail is in
    let mid = c.reach.new.places.items in
    let at = c.reach.ensures.reached r list done (tail ++ behind) first in
    let count = at_length (λ s o. Holds (RingAt limits sq sp r done (done ++ f ∷ []) s) o) ss mid at.each in
    let q = c.home-home.result in
    let e : q ≡ home_of sq sp f = c.home-home.ensures.home in
    let lq : q < length ss = omega (arith, c.home-home.ensures.range, c.requires.run.count) in
    let lo : q < length mid = omega (arith, lq, count) in
    let here = ap (slice_get ss) (sym e) ∙ got_at ss q c.index-squeues-q.result lq c.index-squeues-q.is in
    let it = ap (slice_get mid) (sym e) ∙ got_at mid q c.index_mut.result.now lo c.index_mut.ensures.value in
    let run : c.run.result ≡ run_of sq sp (home_of sq sp f) tail = c.run.ensures.run ∙ ap (λ (h : ℕ). run_of sq sp h tail) e in
    let long = ap length is in
    all_entered limits sq sp r list ss done feeds behind c.args.places.now.items ready f tail is mid at c.index-squeues-q.result here c.requires.run.numbered c.index_mut.result.now c.enter_at.new.place (take (length feeds - (length tail - c.run.result)) feeds) c.args.pace.mode c.args.pace.budget _ it
    (run_is limits sq sp r list ss done feeds behind c.args.places.now.items ready f tail is (length feeds - (length tail - c.run.result)) (omega (arith, long, run, c.run.ensures.most)))
    c.enter_at.ensures (length-set mid q c.enter_at.new.place) (ap (slice_get _) (sym e) ∙ get_same mid q c.enter_at.new.place lo) (λ k apart. got_other mid q k c.enter_at.new.place (λ i. apart (i ∙ e)))

pub returns-clause-paced : goal.returns-clause-paced
returns-clause-paced g c r list done behind ready before =
    let limits = g.R.Resident.limits in
    let sq = c.args.pace.homes.squeues in
    let sp = c.args.pace.homes.spread in
    let feeds = c.args.feeds.now in
    let ss = c.args.access.now.squeues.now in
    let f = slice_index_or feeds 0 (record { c = 0; n = 0 }) in
    let tail = take (length feeds - 1) (drop 1 feeds) in
    let is = head_rest feeds (record { c = 0; n = 0 }) c.requires.some in
    let first = first_ready limits sq sp r list ss done feeds behind c.args.places.now.items ready f tail is in
    let mid = c.reach.new.places.items in
    let at = c.reach.ensures.reached r list done (tail ++ behind) first in
    let count = at_length (λ s o. Holds (RingAt limits sq sp r done (done ++ f ∷ []) s) o) ss mid at.each in
    let q = c.home-home.result in
    let e : q ≡ home_of sq sp f = c.home-home.ensures.home in
    let lq : q < length ss = omega (arith, c.home-home.ensures.range, c.requires.run.count) in
    let lo : q < length mid = omega (arith, lq, count) in
    let here = ap (slice_get ss) (sym e) ∙ got_at ss q c.index-squeues-q.result lq c.index-squeues-q.is in
    let it = ap (slice_get mid) (sym e) ∙ got_at mid q c.index_mut.result.now lo c.index_mut.ensures.value in
    let run : c.run.result ≡ run_of sq sp (home_of sq sp f) tail = c.run.ensures.run ∙ ap (λ (h : ℕ). run_of sq sp h tail) e in
    let long = ap length is in
    run_paced limits sq sp c.args.pace.mode c.args.pace.budget r ss done (done ++ f ∷ []) mid _ at (c.reach.ensures.paced r list done (tail ++ behind) c.args.pace.mode c.args.pace.budget first before)
    c.args.pace.spends c.index-squeues-q.result c.index_mut.result.now c.enter_at.new.place f tail _ (c.requires.run.numbered (home_of sq sp f) c.index-squeues-q.result here)
    (run_is limits sq sp r list ss done feeds behind c.args.places.now.items ready f tail is (length feeds - (length tail - c.run.result)) (omega (arith, long, run, c.run.ensures.most)))
    here it (ap (slice_get _) (sym e) ∙ get_same mid q c.enter_at.new.place lo) c.enter_at.ensures (length-set mid q c.enter_at.new.place) (λ k apart. got_other mid q k c.enter_at.new.place (λ i. apart (i ∙ e)))
