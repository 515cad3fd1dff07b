use Rattle.std.proofs.Common.{sym, ap, ◌∙◌}
use Rattle.std.specs.List.{position}
use Rattle.conn_classifier.specs.Connections.{tuple_eq}
use Rattle.stream_plan.specs.Sorting.{new_stream, with_stream}
use Rattle.stream_plan.proofs.SortSteps.{fit, unfit}
use Rattle.stream_plan.proofs.sorting.Sorted.sort_in.Goals as goal

pub returns-in-None : goal.returns-in-None
returns-in-None c = λ xs is.
    c.pass.ensures
    ∙ unfit xs c.args.arrived c.args.self.now c.number.new.self is (c.in_ok-c.ensures.streams ∙ ap (λ t. with_stream t c.args.self.now) c.tuple_of.ensures)
    (ap (λ t. position (tuple_eq t) c.number.new.self.tuples) (sym c.tuple_of.ensures) ∙ sym c.in_ok-c.ensures.number ∙ c.in-None.is)

pub returns-in_ok-add-in-Some : goal.returns-in_ok-add-in-Some
returns-in_ok-add-in-Some c = λ xs is.
    c.in_ok-add-in-Some.ensures (new_stream c.tuple_of.result)
    ∙ fit xs c.args.arrived c.args.self.now c.number.new.self is (c.in_ok-c.ensures.streams ∙ ap (λ t. with_stream t c.args.self.now) c.tuple_of.ensures) c.in-Some.c (new_stream c.tuple_of.result)
    (ap (λ t. position (tuple_eq t) c.number.new.self.tuples) (sym c.tuple_of.ensures) ∙ sym c.in_ok-c.ensures.number ∙ c.in-Some.is)
