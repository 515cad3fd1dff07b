-- What a ring knew of its connection before it came to a perimeter still holds there.
use Rattle.std.proofs.Common.{◌≡◌, ℕ, ◌%◌, ◌<◌, Bool, true, false, inl, inr, List, [], ◌∷◌, ◌++◌, length, refl, ap, sym, ◌∙◌, subst, arith}
use Rattle.turn_gate.specs.Passes.{IsPassOf, number, seen, mine}
use Rattle.turn_gate.specs.declared.pass.Pass.{Pass}
use Rattle.perimeter_core.specs.declared.resident.Resident.{Ghosts}
use Rattle.perimeter_core.specs.Perimeter.{is_free, is_here}
use Rattle.perimeter_core.specs.History.{Element, Setting, Limits, start, run, made_by}
use Rattle.perimeter_core.specs.Deeds.{times_left}
use Rattle.perimeter_core.specs.Legal.{Legal}
use Rattle.perimeter_core.specs.Knowledge.{here_by}
use Rattle.perimeter_core.proofs.OneMore.{legal_front}
use Rattle.perimeter_core.proofs.RingKnows.{ring_knows}
use Rattle.squeue_state.specs.Naming.{Named, setting_of}
use Rattle.squeue_state.proofs.Makers.{only_made}
use Rattle.histories.specs.Elements.{number_of, left_by_pass}
use Rattle.squeue_drain.specs.declared.owner.Owner.{Owner}
use Rattle.perimeter_core.specs.declared.entries.Act.{Act}
use Rattle.perimeter_core.specs.declared.entries.Entry.{Entry}
use Rattle.perimeter_core.specs.declared.marks.SynchAct.{SynchAct}
use Rattle.perimeter_core.specs.declared.marks.SynchAct.TheVariants as Done
use Rattle.std.specs.Prelude.{slice_index}
use Rattle.synch_enter.specs.Synch.{MayAsk, Came, IsWay, StandsAtItsAsk, MayTake, MayPut, acts_at}
use Rattle.squeue_enter.proofs.Bringing.{here_append}
use Rattle.histories.proofs.Counts.{left_append}

-- what a pass makes to come neither puts in nor takes out
coming : (c : ℕ) (b f : Bool) (p : ℕ) (ask : Element) (marks : List Element) → IsWay f p ask marks → (here_by c b (ask ∷ marks) ≡ b) × (times_left c (ask ∷ marks) ≡ 0)
coming c b false p ask marks w = rw (w.0, w.1) (refl, refl)
coming c b true p ask marks w =
    elim w.1 [
      | inl none ↦ rw (w.0, none) (refl, refl)
      | inr hands ↦ rw (w.0, hands.3) (refl, refl)
    ]

module _ {R : Type 0} (limits : R → Limits) (s : Named R) (from to : Pass Element) (c : ℕ) (is : IsPassOf number_of s.gate from) (came : Came limits s from to) (ring : number from ≡ c % s.given.rings) where
  abbrev S : Setting
  S = setting_of limits s.given

  before : made_by (c % s.given.rings) (seen from) ≡ mine from
  before = ap (λ (k : ℕ). made_by k (seen from)) (sym ring) ∙ (sym (only_made (number from) (seen from)) ∙ is.2)

  after : made_by (c % s.given.rings) (seen to) ≡ mine from ++ (came.behind.ask ∷ came.behind.marks)
  after =
      ap (λ (k : ℕ). made_by k (seen to)) (sym ring ∙ sym came.goes_on.same_number)
      ∙ (sym (only_made (number to) (seen to)) ∙ (came.goes_on.is_pass.2 ∙ came.behind.now_mine))

  legal : Legal S (seen from)
  legal = legal_front S (seen from) came.goes_on.grows.0 (subst (λ (H : List Element). Legal S H) came.goes_on.grows.1 came.goes_on.legal)

  pub still_here : is_here (run S (seen to)) c ≡ is_here (run S (seen from)) c
  still_here =
      let b : Bool = is_here (start S) c in
      let way = coming c (here_by c (is_here (start S) c) (mine from)) (is_free (run S came.found).own) (number from) came.behind.ask came.behind.marks came.behind.way in
      (ring_knows S (seen to) c came.goes_on.legal).here
      ∙ (ap (here_by c (is_here (start S) c)) after
      ∙ (here_append c (is_here (start S) c) (mine from) (came.behind.ask ∷ came.behind.marks)
      ∙ (way.0
      ∙ (ap (here_by c (is_here (start S) c)) (sym before) ∙ sym (ring_knows S (seen from) c legal).here))))

  pub still_left : times_left c (seen to) ≡ times_left c (seen from)
  still_left =
      let way = coming c true (is_free (run S came.found).own) (number from) came.behind.ask came.behind.marks came.behind.way in
      let now = (ring_knows S (seen to) c came.goes_on.legal).left ∙ ap (times_left c) after in
      let was = ap (times_left c) (sym before) ∙ sym (ring_knows S (seen from) c legal).left in
      omega (arith, now, was, left_append c (mine from) (came.behind.ask ∷ came.behind.marks), way.1)

module _ {R P O : Type 0} (G : Ghosts R P O) (s : Named R) (from : Pass Element) (o : Owner R) (c : ℕ) (may : MayAsk G.limits s from) (came : Came G.limits s from o.pass) (at : StandsAtItsAsk G s [] o) (none : o.act ≡ Done.None) (ring : number from ≡ c % s.given.rings) where
  -- so a mover knows before it asks what it may do as owner
  pub may_take : is_here (run (setting_of G.limits s.given) (seen from)) c ≡ true → times_left c (seen from) < slice_index (G.limits s.given.first).leaves c → MayTake G s c o
  may_take here leaves =
      record {
        stands_at = at;
        no_act = none;
        ring = came.goes_on.same_number ∙ ring;
        here = still_here G.limits s from o.pass c may.pass came ring ∙ here;
        leaves = subst (λ (n : ℕ). n < slice_index (G.limits s.given.first).leaves c) (sym (still_left G.limits s from o.pass c may.pass came ring)) leaves;
      }

  pub may_put : (part : P) → c < length s.given.starts → is_here (run (setting_of G.limits s.given) (seen from)) c ≡ false → G.is_part_of (G.origin s.given.first) c part
      → MayPut G s c part o
  may_put part range away of =
      record {
        stands_at = at;
        no_act = none;
        ring = came.goes_on.same_number ∙ ring;
        range = range;
        away = still_here G.limits s from o.pass c may.pass came ring ∙ away;
        part_of = of;
      }

-- an act leaves pass and hand, and so the acts that were done to a block
pub acts_at_same : {R : Type 0} (limits : R → Limits) (s : Named R) (c : ℕ) (o n : Owner R) → n.pass ≡ o.pass → n.hand ≡ o.hand → acts_at limits s c n ≡ acts_at limits s c o
acts_at_same limits s c o n pass hand = rw (pass, hand) refl

-- the mark of an owner that leaves nothing
pub gone_with_nothing : (p q : ℕ) (left : List Entry) (a b : SynchAct) (note : List Act) → p ≡ q → left ≡ [] → a ≡ b → left_by_pass p (length left) a note ≡ left_by_pass q 0 b note
gone_with_nothing p q left a b note same none act = rw (same, none, act) refl
