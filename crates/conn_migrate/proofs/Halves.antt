-- The two halves of a move.
use Rattle.std.proofs.Common.{◌≡◌, ℕ, List, [], length, sym, ◌∙◌, subst}
use Rattle.turn_gate.specs.Passes.{number, seen}
use Rattle.turn_gate.specs.declared.pass.Pass.{Pass}
use Rattle.perimeter_core.specs.declared.entries.Act.{Act}
use Rattle.perimeter_core.specs.declared.resident.Resident.{Ghosts}
use Rattle.perimeter_core.specs.declared.marks.SynchAct.{SynchAct}
use Rattle.perimeter_core.specs.declared.marks.SynchAct.TheVariants as Done
use Rattle.perimeter_core.specs.Perimeter.{Idle}
use Rattle.perimeter_core.specs.History.{Element, Limits, run}
use Rattle.squeue_state.specs.Naming.{Named, setting_of}
use Rattle.histories.specs.Elements.{left_by_pass}
use Rattle.squeue_state.specs.Clauses.{Added}
use Rattle.squeue_drain.specs.declared.owner.Owner.{Owner}
use Rattle.squeue_drain.specs.Draining.{GoesOn}
use Rattle.squeue_drain.proofs.Deciding.{begins_trans}
use Rattle.synch_enter.specs.Synch.{Came, StandsAtItsAsk, MayTake, MayPut}
use Rattle.synch_enter.proofs.Knowing.{may_take, may_put, gone_with_nothing}
use Rattle.conn_migrate.specs.Moving.{MayLeave, MayCome, Moved}

module _ {R P O : Type 0} {G : Ghosts R P O} {s : Named R} {c : ℕ} {from : Pass Element} {o : Owner R} (came : Came G.limits s from o.pass) (at : StandsAtItsAsk G s [] o) (none : o.act ≡ Done.None) where
  -- what the pass might do before it came, it may do as owner
  pub takes : MayLeave G.limits s c from → MayTake G s c o
  takes may = may_take G s from o c may.may_ask came at none may.ring may.here may.leaves

  pub puts : {part : P} → MayCome G.limits s c from → G.is_part_of (G.origin s.given.first) c part → MayPut G s c part o
  puts {part} may of = may_put G s from o c may.may_ask came at none may.ring part may.range may.away of

-- an owner that came, did its act and left, moved
pub moved : {R : Type 0} {limits : R → Limits} {s : Named R} {act : SynchAct} {note : List Act} {from to : Pass Element} (o n : Owner R) → Came limits s from o.pass → n.pass ≡ o.pass → n.hand.left ≡ [] → n.act ≡ act → GoesOn limits s n.pass to
    → Idle (run (setting_of limits s.given) (seen to)) (number n.pass) → Added limits s n.pass (left_by_pass (number n.pass) (length n.hand.left) n.act note) to → Moved limits s act note from to
moved {R} {limits} {s} {act} {note} {from} {to} o n came pass none did goes idle left =
    let at : Came limits s from n.pass = subst (λ (q : Pass Element). Came limits s from q) (sym pass) came in
    let same : number n.pass ≡ number from = at.goes_on.same_number in
    record {
      goes_on = record {
        is_pass = goes.is_pass;
        same_number = goes.same_number ∙ same;
        grows = begins_trans (seen from) (seen n.pass) (seen to) at.goes_on.grows goes.grows;
        legal = goes.legal;
      };
      idle = subst (λ (k : ℕ). Idle (run (setting_of limits s.given) (seen to)) k) same idle;
      owner = n.pass;
      came = at;
      left =
          subst (λ (e : Element). Added limits s n.pass e to)
          (gone_with_nothing (number n.pass) (number from) n.hand.left n.act act note same none did) left;
    }
