use Rattle.std.proofs.Common.{◌≡◌, ◌<◌, ℕ, List, Some, length, get_or, subst, sym, ap, ◌∙◌, arith}
use Rattle.std.specs.Prelude.{slice_get}
use Rattle.byte_queues.specs.ReceiveQueue.{Recv, runs_of}
use Rattle.byte_queues.specs.declared.run.Run.{Run}
use Rattle.byte_queues.proofs.RunLemmas.{shown, map-get}
use Rattle.byte_queues.proofs.QueueLemmas.{runs-count, runs-are}
use Rattle.byte_queues.proofs.recv.RecvQueue.run.Goals as goal

pub index-run-requires : goal.index-run-requires
index-run-requires c =
    let e = runs-count c.self.inside c.self.invariant in
    let w = subst (λ (q : Recv). c.args.i < length (runs_of q.taken q.got)) (sym c.self.view_is) c.requires in
    omega (arith, e, w)

pub returns : goal.returns
returns c =
    let a = c.self.inside in
    let r = c.index-run.result.now in
    let w : c.args.i < length a.runs.items =
    let e = runs-count a c.self.invariant in
    let v = subst (λ (q : Recv). c.args.i < length (runs_of q.taken q.got)) (sym c.self.view_is) c.requires in
    omega (arith, e, v) in
    let got : r ≡ get_or a.runs.items c.args.i r = c.index-run.ensures in
    subst (λ (q : Recv). slice_get (runs_of q.taken q.got) c.args.i ≡ Some (r.start, c.as_slice.result.now)) c.self.view_is
    (ap (λ (rs : List (ℕ × List ℕ)). slice_get rs c.args.i) (runs-are a c.self.invariant)
    ∙ (map-get a.runs.items c.args.i r w
    ∙ (ap (λ (x : Run). Some (shown x)) (sym got)
    ∙ ap (λ (bs : List ℕ). Some (r.start, bs)) (sym c.as_slice.ensures))))
