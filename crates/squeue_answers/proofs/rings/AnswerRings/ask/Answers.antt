use Rattle.std.proofs.Common.{◌≡◌, ◌∙◌, ap, true}
use Rattle.squeue_answers.specs.Rings.{is_stopped}
use Rattle.squeue_answers.proofs.Ways.{asked_more, asked_none}
use Rattle.squeue_answers.proofs.rings.AnswerRings.ask.Goals as goal
use Rattle.squeue_answers.proofs.rings.AnswerRings.ask.Goals.{then-not-self, else-not-self}

pub returns-clause-asked : goal.returns-clause-asked
returns-clause-asked g c =
    let was = c.args.self.now in
    let opened = c.open-out.new.self in
    let now = c.if-not-self.self in
    elim c.if-not-self.branch [
      | then-not-self w ↦ asked_more c.args.key c.open-out.result was opened now (is_stopped now) (ap (λ r. r.stopped) w.self-is ∙ w.if-not-self.true) w.if-not-self.true (ap (λ r. r.inputs) w.self-is)
          (ap (λ r. r.waiting.items) w.self-is ∙ w.push_back_reserved.ensures.items) c.open-out.ensures
      | else-not-self w ↦ let stops : is_stopped now ≡ true = ap (λ r. r.stopped) w.self-is ∙ w.if-not-self.false in
          rw w.self-is (asked_none c.args.key c.open-out.result was opened (is_stopped opened) w.if-not-self.false w.if-not-self.false c.open-out.ensures)
    ]
