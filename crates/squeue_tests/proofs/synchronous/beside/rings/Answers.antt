use Rattle.std.proofs.Common.{◌≡◌, ◌<◌, ◌%◌, true, sym, ◌∙◌, slice_index, List, []}
use Rattle.std.proofs.Math.Nat.{zero-mod}
use Rattle.turn_gate.specs.Passes.{number, seen}
use Rattle.turn_gate.specs.declared.pass.Pass.{Pass}
use Rattle.perimeter_core.specs.declared.entries.Feed.{Feed}
use Rattle.perimeter_core.specs.declared.resident.Resident.{Ghosts}
use Rattle.perimeter_trial.specs.contracts.logs.LogsResident.TheImpl.{ghosts}
use Rattle.perimeter_core.specs.declared.marks.SynchAct.TheVariants as Done
use Rattle.perimeter_core.specs.Deeds.{times_left}
use Rattle.perimeter_core.specs.History.{Element, run}
use Rattle.perimeter_core.specs.Perimeter.{Idle, is_here}
use Rattle.squeue_state.specs.Naming.{Named, setting_of}
use Rattle.squeue_drain.specs.declared.owner.Owner.{Owner}
use Rattle.squeue_drain.specs.Draining.{GoesOn}
use Rattle.squeue_enter.specs.Entering.{Brought}
use Rattle.synch_enter.specs.Synch.{Came, MayAsk, MayTake, StandsAtItsAsk}
use Rattle.synch_enter.proofs.Knowing.{may_take}
use Rattle.squeue_tests.proofs.synchronous.beside.rings.Goals as goal

module _ {R P O : Type 0} (G : Ghosts R P O) {s : Named R} {from to : Pass Element} {es : List Feed} (goes : GoesOn G.limits s from to) (idle : Idle (run (setting_of G.limits s.given) (seen to)) (number from)) (brought : Brought G.limits s es from to) where
  -- an entry of feeds leaves the pass its Ask
  still_asks : MayAsk G.limits s from → MayAsk G.limits s to
  still_asks may =
      record {
        pass = goes.is_pass;
        no_worker = rw goes.same_number may.no_worker;
        idle = rw goes.same_number idle;
        quota = rw (goes.same_number, brought.asks) may.quota;
      }

  -- and its block may leave as before
  still_takes : (o : Owner R) → MayAsk G.limits s from → number from ≡ 0 → is_here (run (setting_of G.limits s.given) (seen from)) 0 ≡ true → times_left 0 (seen from) < slice_index (G.limits s.given.first).leaves 0
      → Came G.limits s to o.pass → StandsAtItsAsk G s [] o → o.act ≡ Done.None → MayTake G s 0 o
  still_takes o may zero here leaves came at none =
      let ring : number from ≡ 0 % s.given.rings = zero ∙ sym (zero-mod s.given.rings) in
      may_take G s to o 0 (still_asks may) came at none (goes.same_number ∙ ring) (brought.here 0 ring ∙ here) (rw (brought.left 0 ring) leaves)

pub take_block-log-requires : goal.take_block-log-requires
take_block-log-requires g c =
    let entered = c.enter-entered.ensures in
    let came = c.synch_enter-owner.ensures in
    (c.args.squeue.now, still_takes ghosts entered.entered.goes_on entered.entered.idle entered.brought c.synch_enter-owner.result c.requires.asks c.requires.ring c.requires.here c.requires.leaves came.came came.owner came.no_act)

pub synch_exit-requires : goal.synch_exit-requires
synch_exit-requires g c =
    let entered = c.enter-entered.ensures in
    let came = c.synch_enter-owner.ensures in
    (c.take_block-log.ensures.taken c.args.squeue.now
    (still_takes ghosts entered.entered.goes_on entered.entered.idle entered.brought c.synch_enter-owner.result c.requires.asks c.requires.ring c.requires.here c.requires.leaves came.came came.owner came.no_act)).stands_at
