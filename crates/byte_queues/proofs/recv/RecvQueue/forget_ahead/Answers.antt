use Rattle.std.proofs.Common.{◌≡◌, ℕ, List, length, min, ap, ◌∙◌}
use Rattle.byte_queues.specs.ReceiveQueue.{Cells, next_of, without_ahead}
use Rattle.byte_queues.specs.Inside.{recv_of}
use Rattle.byte_queues.specs.Runs.{front_of}
use Rattle.byte_queues.proofs.AheadLemmas.{in_order, kept-cells, kept-well}
use Rattle.byte_queues.proofs.recv.RecvQueue.forget_ahead.Goals as goal

pub invariant_of-self : goal.invariant_of-self
unfolding next_of
invariant_of-self c =
    let a = c.self.inside in
    let count : c.min-kept.result ≡ in_order a.taken a.runs.items =
    c.min-kept.ensures ∙ ap (λ (bs : List ℕ). min (length bs) 1) (c.front.ensures ∙ ap (front_of a.taken) c.as_slice.ensures.value) in
    let w = kept-well a c.min-kept.result c.truncate.new.self.items c.self.invariant count c.truncate.ensures.items in
    record { spaced = w.spaced; few = w.few; edge = c.self.invariant.edge; read = w.read }

pub returns : goal.returns
unfolding without_ahead
returns c =
    let a = c.self.inside in
    let count : c.min-kept.result ≡ in_order a.taken a.runs.items =
    c.min-kept.ensures ∙ ap (λ (bs : List ℕ). min (length bs) 1) (c.front.ensures ∙ ap (front_of a.taken) c.as_slice.ensures.value) in
    let same = kept-cells a c.min-kept.result c.truncate.new.self.items c.self.invariant count c.truncate.ensures.items in
    ap (λ (cs : Cells). record (recv_of a) { got = cs }) same ∙ ap without_ahead c.self.view_is
