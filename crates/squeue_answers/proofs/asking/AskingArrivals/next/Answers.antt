use Rattle.std.proofs.Common.{refl, sym, ◌∙◌}
use Rattle.squeue_answers.proofs.GivenOn.{asks_more, asks_on, asks_same}
use Rattle.squeue_answers.proofs.asking.AskingArrivals.next.Goals as goal

pub invariant_of-self : goal.invariant_of-self
invariant_of-self g c = asks_on g.A.Arrivals.given g.A.Arrivals.is_over g.K.Sink.got _ _ _ _ _ _ _ _ _ c.hand_on_all.ensures c.self.invariant

pub invariant_of-self-then-self : goal.invariant_of-self-then-self
invariant_of-self-then-self g c = asks_on g.A.Arrivals.given g.A.Arrivals.is_over g.K.Sink.got _ _ _ _ _ _ _ _ _ c.hand_on_all.ensures c.self.invariant

pub invariant_of-self-in-Item : goal.invariant_of-self-in-Item
invariant_of-self-in-Item g c =
    asks_more g.A.Arrivals.given g.A.Arrivals.is_over g.K.Sink.got _ _ _ _ _ _ _ c.hand_on_all.new.self _ _ c.in-Item.key c.in-Item.item c.ask.result c.in-Item.ensures.given c.ask.ensures.item c.and.ensures
    (c.if-not-has_room.ensures refl).0 c.if-self.false c.ask.ensures.asked
    (asks_on g.A.Arrivals.given g.A.Arrivals.is_over g.K.Sink.got _ _ _ _ _ _ _ _ _ c.hand_on_all.ensures c.self.invariant)

pub invariant_of-self-in-NoneYet : goal.invariant_of-self-in-NoneYet
invariant_of-self-in-NoneYet g c =
    asks_same g.A.Arrivals.given g.A.Arrivals.is_over g.K.Sink.got _ _ _ _ _ _ _ c.self.inside.over _ c.in-NoneYet.ensures.given (λ e. absurd (cc (sym c.if-self.false ∙ e)))
    (asks_on g.A.Arrivals.given g.A.Arrivals.is_over g.K.Sink.got _ _ _ _ _ _ _ _ _ c.hand_on_all.ensures c.self.invariant)

pub invariant_of-self-in-End : goal.invariant_of-self-in-End
invariant_of-self-in-End g c =
    asks_same g.A.Arrivals.given g.A.Arrivals.is_over g.K.Sink.got _ _ _ _ _ _ _ c.self.inside.over _ c.in-End.ensures.given (λ e. c.in-End.ensures.over refl)
    (asks_on g.A.Arrivals.given g.A.Arrivals.is_over g.K.Sink.got _ _ _ _ _ _ _ _ _ c.hand_on_all.ensures c.self.invariant)
