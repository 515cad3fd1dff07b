use Rattle.std.proofs.Common.{◌∙◌, Bool, ap, sym, subst, arith}
use Rattle.squeue_answers.specs.Asking.{IsBehind}
use Rattle.squeue_answers.proofs.Finishing.{answered_in, is_answered, is_behind, may_all, none_some}
use Rattle.squeue_answers.proofs.serving.finish.Goals as goal

pub finish-source-requires : goal.finish-source-requires
finish-source-requires g c = λ e. (c.requires.left.1.its_items.over (none_some c.args.left.refused c.is_some.result c.is_some.ensures e)).2

pub plain_parts_of-requires-clause-pairs : goal.plain_parts_of-requires-clause-pairs
plain_parts_of-requires-clause-pairs g c =
    let source = c.requires.left.0 in
    let served = c.requires.left.1 in
    let last =
    is_behind (λ w. w.steps) g.X.KeyAnswers.begins g.X.KeyAnswers.step g.A.Arrivals.origin g.A.Arrivals.given g.A.Arrivals.is_over g.K.Sink.got c.args.answering.now c.args.pool.now.places source c.args.left served in
    let fin = c.finish-source.ensures.finished served.all (subst (λ (b : Bool). IsBehind b served.all c.args.left.source.given) (sym c.is_some.ensures) last) in
    may_all (λ w. w.steps) g.X.KeyAnswers.begins g.X.KeyAnswers.step g.A.Arrivals.origin g.A.Arrivals.given g.A.Arrivals.is_over g.K.Sink.got c.args.answering.now c.args.pool.now.places source c.args.left served
    c.finish-source.result.1 c.finish-source.result.2 fin

pub plain_parts_of-requires-clause-room : goal.plain_parts_of-requires-clause-room
plain_parts_of-requires-clause-room g c = let few = c.requires.left.1.few in (c.requires.room.0, omega (arith, few, c.requires.room.1))

pub returns : goal.returns
returns g c =
    let came = sym (ap g.A.Arrivals.given c.finish-source.ensures.source) ∙ c.finish-source.ensures.came in
    record {
      whole = λ source served.
          let last =
          is_behind (λ w. w.steps) g.X.KeyAnswers.begins g.X.KeyAnswers.step g.A.Arrivals.origin g.A.Arrivals.given g.A.Arrivals.is_over g.K.Sink.got c.args.answering.now c.args.pool.now.places source c.args.left served in
          let fin = c.finish-source.ensures.finished served.all (subst (λ (b : Bool). IsBehind b served.all c.args.left.source.given) (sym c.is_some.ensures) last) in
          is_answered (λ w. w.steps) g.X.KeyAnswers.begins g.X.KeyAnswers.step g.A.Arrivals.origin g.A.Arrivals.given g.A.Arrivals.is_over g.K.Sink.got c.args.answering.now c.args.pool.now.places source c.args.left served
          c.finish-source.result.2 _ fin c.plain_parts_of.ensures.compared came c.finish-source.ensures.source c.plain_parts_of.ensures.parts c.plain_refused_of.ensures;
      histories = λ end k source h.
          let served = h.by.served in
          let last =
          is_behind (λ w. w.steps) g.X.KeyAnswers.begins g.X.KeyAnswers.step g.A.Arrivals.origin g.A.Arrivals.given g.A.Arrivals.is_over g.K.Sink.got c.args.answering.now c.args.pool.now.places source c.args.left served in
          let fin = c.finish-source.ensures.finished served.all (subst (λ (b : Bool). IsBehind b served.all c.args.left.source.given) (sym c.is_some.ensures) last) in
          answered_in (λ w. w.steps) g.X.KeyAnswers.begins g.X.KeyAnswers.step g.A.Arrivals.origin g.A.Arrivals.given g.A.Arrivals.is_over g.K.Sink.got c.args.answering.now c.args.pool.now.places end k source c.args.left h
          c.finish-source.result.2 _ fin c.plain_parts_of.ensures.compared came c.finish-source.ensures.source c.plain_parts_of.ensures.parts c.plain_refused_of.ensures;
    }
