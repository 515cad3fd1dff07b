use Rattle.std.proofs.Common.{◌≡◌, ℕ, Option, Some, List, MatchOption, [], length, slice_index_or, ap, sym, ◌∙◌, subst, arith}
use Rattle.std.specs.Option.{option_map}
use Rattle.turn_gate.specs.declared.pass.Pass.{Pass}
use Rattle.perimeter_core.specs.declared.entries.Feed.{Feed}
use Rattle.perimeter_core.specs.History.{Element, Limits}
use Rattle.poll_ring.specs.Rings.{PollCount, RingSize}
use Rattle.squeue_state.specs.Naming.{Named}
use Rattle.squeue_rings.specs.Bringing.{AreAt, IsFar}
use Rattle.squeue_rings.proofs.PacedAll.{new_paced}
use Rattle.squeue_rings.specs.declared.intake.Intake.{Intake}
use Rattle.squeue_rings.specs.declared.task.RingTask.{RingTask}
use Rattle.squeue_rings.specs.Doing.{MayBringIntake}
use Rattle.squeue_rings.specs.Tasks.{lists_of, poll_end}
use Rattle.squeue_rings.proofs.Tasked.{list_is}
use Rattle.squeue_rings.proofs.Works.{got_or}
use Rattle.squeue_rings.proofs.doing.bring_intake.Goals as goal

module _ {R : Type 0} (limits : R → Limits) (squeues spread : ℕ) (intakes : List Intake) (ss : List (Named R)) (t : RingTask) (places : List (Option (Pass Element))) (ready : MayBringIntake limits squeues spread intakes ss t places)
    (intake : Intake) (is : intake ≡ slice_index_or intakes t.number intake) where
  its_intake : intake ≡ ready.intake
  its_intake = is ∙ got_or intakes t.number ready.intake intake ready.is_intake

  its_end : (g : RingSize) → intake.ring ≡ Some g → t.end ≡ Some (poll_end g)
  its_end g ring = ready.task.end ∙ (ap (λ (l : Intake). option_map poll_end l.ring) (sym its_intake) ∙ ap (option_map poll_end) ring)

  its_size : (g : RingSize) → intake.ring ≡ Some g → g.capacity ≡ length intake.list.items
  its_size g ring =
      subst (λ (o : Option RingSize). MatchOption o (intake.list.items ≡ []) (λ g. g.capacity ≡ length intake.list.items)) ring
      (subst (λ (l : Intake). MatchOption l.ring (l.list.items ≡ []) (λ g. g.capacity ≡ length l.list.items)) (sym its_intake) ready.ring)

  -- nothing of the intake is brought yet
  is_far : (list : List Feed) → list ≡ intake.list.items → IsFar limits squeues spread t.number list ss 0 places
  is_far list same =
      subst (λ (l : List Feed). IsFar limits squeues spread t.number l ss 0 places) (ap (λ (l : Intake). l.list.items) (sym its_intake) ∙ sym same)
      (record { within = omega arith; all = ready.may; at = ready.at })

  all_of : (list : List Feed) → list ≡ intake.list.items → list ≡ lists_of intakes t.number
  all_of list same = same ∙ (ap (λ (l : Intake). l.list.items) its_intake ∙ sym (list_is intakes t.number ready.intake ready.is_intake))

pub returns-in_default-clause-paced : goal.returns-in_default-clause-paced
returns-in_default-clause-paced g c =
    let h = c.args.pace.homes in
    new_paced g.R.Resident.limits h.squeues h.spread c.args.pace.mode c.args.pace.budget c.args.task.now.number c.args.access.now.squeues.now c.args.places.now.items c.requires.ready.new

pub unreachable-requires : goal.unreachable-requires
unreachable-requires g c =
    let h = c.args.pace.homes in
    c.in_default-end.not-Some (poll_end c.in-Some.ring)
    (its_end g.R.Resident.limits h.squeues h.spread c.args.intakes.now c.args.access.now.squeues.now c.args.task.now c.args.places.now.items c.requires.ready c.index-intakes-task.result c.index-intakes-task.is c.in-Some.ring c.in-Some.is)

pub bring_all-requires-clause-ring : goal.bring_all-requires-clause-ring
bring_all-requires-clause-ring g c =
    let h = c.args.pace.homes in
    let end = its_end g.R.Resident.limits h.squeues h.spread c.args.intakes.now c.args.access.now.squeues.now c.args.task.now c.args.places.now.items c.requires.ready c.index-intakes-task.result c.index-intakes-task.is c.in-Some.ring c.in-Some.is in
    let size = its_size g.R.Resident.limits h.squeues h.spread c.args.intakes.now c.args.access.now.squeues.now c.args.task.now c.args.places.now.items c.requires.ready c.index-intakes-task.result c.index-intakes-task.is c.in-Some.ring c.in-Some.is in
    let i : Some c.in-Some-end.end ≡ Some (poll_end c.in-Some.ring) = sym c.in-Some-end.is ∙ end in
    let same : c.in-Some-end.end ≡ poll_end c.in-Some.ring = cc i in
    (ap (λ (e : PollCount). e.ring) same, ap (λ (e : PollCount). e.popped) same, size ∙ ap length (sym c.deref.ensures.value))

pub bring_all-requires-clause-ready : goal.bring_all-requires-clause-ready
bring_all-requires-clause-ready g c =
    let h = c.args.pace.homes in (
      c.args.task.now.number,
      is_far g.R.Resident.limits h.squeues h.spread c.args.intakes.now c.args.access.now.squeues.now c.args.task.now c.args.places.now.items c.requires.ready c.index-intakes-task.result c.index-intakes-task.is c.deref.result.now c.deref.ensures.value,
    )

pub returns-clause-at : goal.returns-clause-at
returns-clause-at g c =
    let h = c.args.pace.homes in
    let limits = g.R.Resident.limits in
    let t = c.args.task.now in
    let ss = c.args.access.now.squeues.now in
    let list = c.deref.result.now in
    let far = is_far limits h.squeues h.spread c.args.intakes.now ss t c.args.places.now.items c.requires.ready c.index-intakes-task.result c.index-intakes-task.is list c.deref.ensures.value in
    let all = all_of limits h.squeues h.spread c.args.intakes.now ss t c.args.places.now.items c.requires.ready c.index-intakes-task.result c.index-intakes-task.is list c.deref.ensures.value in
    subst (λ (l : List Feed). AreAt limits h.squeues h.spread t.number ss l l c.bring_all.new.places.items) all (c.bring_all.ensures.brought t.number far)

pub returns-clause-paced : goal.returns-clause-paced
returns-clause-paced g c =
    let h = c.args.pace.homes in
    let limits = g.R.Resident.limits in
    let t = c.args.task.now in
    let ss = c.args.access.now.squeues.now in
    let places = c.args.places.now.items in
    let far = is_far limits h.squeues h.spread c.args.intakes.now ss t places c.requires.ready c.index-intakes-task.result c.index-intakes-task.is c.deref.result.now c.deref.ensures.value in
    c.bring_all.ensures.paced t.number far (new_paced limits h.squeues h.spread c.args.pace.mode c.args.pace.budget t.number ss places c.requires.ready.new)
