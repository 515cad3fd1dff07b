use Rattle.std.proofs.Common.{ℕ, ◌%◌, ◌==◌, Bool, length, refl, ap, ◌∙◌}
use Rattle.std.proofs.lemmas.List.{length-map}
use Rattle.perimeter_core.specs.History.{Setting}
use Rattle.ring_quotas.specs.Quotas.{setting_at}
use Rattle.squeue_replay.specs.Entering.{first_guest}
use Rattle.squeue_replay.proofs.Making.{counted_guests, first_stands, guests_first, made_pass, passes_first}
use Rattle.squeue_replay.proofs.squeue.ReplayedSqueue.make.Goals as goal

pub invariant_of-result : goal.invariant_of-result
invariant_of-result c =
    let r = c.args.run in
    record {
      among = c.requires;
      each_pass = ap length c.in_ok-passes.ensures ∙ (length-map c.as_slice.result.now made_pass ∙ (ap length c.as_slice.ensures.value ∙ c.in_ok-quotas.ensures.count));
      each_guest = counted_guests c.in_ok-guests.guests.items (λ d. first_guest (d % r.setup.squeues == c.args.number)) c.conns.result c.in_ok-guests.ensures ∙ c.conns.ensures.value;
    }

pub returns-clause-stands : goal.returns-clause-stands
returns-clause-stands c =
    let r = c.args.run in
    let S : Setting = setting_at r.plan.now r.calls.now r.setup.squeues r.setup.rings r.setup.spread c.args.number in
    let starts : ℕ → Bool = λ d. d % r.setup.squeues == c.args.number in
    first_stands S _ refl refl c.new.ensures.items c.new-2.ensures.items
    (passes_first c.in_ok-passes.passes.items c.in_ok-quotas.quotas.items c.as_slice.result.now S.quotas c.in_ok-passes.ensures c.as_slice.ensures.value c.in_ok-quotas.ensures.quotas)
    (guests_first _ starts c.conns.result (length r.plan.now.tuples) c.in_ok-guests.ensures c.conns.ensures.value)
