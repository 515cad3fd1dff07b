use Rattle.std.proofs.Common.{sym, ◌∙◌}
use Rattle.conn_classifier.proofs.Joining.{unserved, unfit, fit}
use Rattle.conn_classifier.proofs.sorting.Sorted.sort_in.Goals as goal

pub returns-in_default : goal.returns-in_default
returns-in_default c = λ records at cut xs is number.
    c.pass.ensures
    ∙ unserved c.args.ports records cut xs at c.args.packet.now c.args.self.now is (sym c.served.ensures ∙ c.in_default.is) c.class_of.result c.class_of.ensures

pub returns-in-None : goal.returns-in-None
returns-in-None c = λ records at cut xs is number.
    c.pass-in-None.ensures
    ∙ unfit c.args.ports records cut xs at c.args.packet.now c.args.self.now is c.in-Some.seg c.tuple_of.result c.number.new.self (sym c.served.ensures ∙ c.in-Some.is) c.tuple_of.ensures
    c.in_ok-c.ensures.conns (sym c.in-None.is ∙ c.in_ok-c.ensures.number) c.class_of-in-None.result c.class_of-in-None.ensures

pub returns-in_ok-add-in-Some-2 : goal.returns-in_ok-add-in-Some-2
returns-in_ok-add-in-Some-2 c = λ records at cut xs is number.
    c.in_ok-add-in-Some-2.ensures
    ∙ fit c.args.ports records cut xs at c.args.packet.now c.args.self.now is c.in-Some.seg c.tuple_of.result c.number.new.self (sym c.served.ensures ∙ c.in-Some.is) c.tuple_of.ensures
    c.in_ok-c.ensures.conns c.in-Some-2.c c.args.rec (sym c.in-Some-2.is ∙ c.in_ok-c.ensures.number) number
