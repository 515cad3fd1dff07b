use Rattle.std.proofs.Common.{ℕ, List, [], ◌∷◌, ◌++◌, ap, ◌∙◌}
use Rattle.placed_parts.specs.Placing.{origin_of}
use Rattle.live_chats.proofs.LivedLemmas.{begins_itself, begins_on}
use Rattle.live_chats.proofs.PlaceLemmas.{chat_same, elsewhere_kept, listened, told_kept, told_open, told_pushed, told_so}
use Rattle.live_chats.proofs.line.Line+Places+Streams+Chats+H+W.tell.Goals as goal

pub returns-clause-others : goal.returns-clause-others
returns-clause-others g c =
    told_kept _ _ _ _ _ c.push_at.ensures.elsewhere c.enter-pass.ensures.places c.settle-pass.ensures.same c.settle-pass.ensures.sent

pub returns-clause-place : goal.returns-clause-place
returns-clause-place g c =
    let s = c.push_at.ensures.same in
    told_open c.args.c c.push_at.new.stays c.enter-pass.new.stays c.settle-pass.new.stays (s.1, s.3) c.enter-pass.ensures.places c.settle-pass.ensures.same

pub returns-clause-told : goal.returns-clause-told
returns-clause-told g c = λ _. (
  told_so c.args.c c.args.item c.args.stays.now c.push_at.new.stays c.enter-pass.new.stays c.settle-pass.new.stays c.in-Ok.ensures.sent c.enter-pass.ensures.places c.settle-pass.ensures.sent,
  listened (origin_of c.args.self.now.squeue.now.given.first) c.args.c c.enter-pass.new.stays c.settle-pass.new.stays _ c.args.ear.now c.settle-pass.new.collector
      (c.enter-pass.ensures.touched ∙ c.in-Ok.ensures.touched ∙ ap (λ (l : List ℕ). l ++ c.args.c ∷ []) c.requires.settled.settled)
      c.settle-pass.ensures.settled c.settle-pass.ensures.sent,
)

pub returns-clause-settled : goal.returns-clause-settled
returns-clause-settled g c = record {
  knows = c.settle-pass.ensures.knows;
  entered = c.settle-pass.ensures.same.chain ∙ c.enter-pass.ensures.entered;
  settled = c.settle-pass.ensures.touched;
}

pub returns-in-Err-clause-others : goal.returns-in-Err-clause-others
returns-in-Err-clause-others g c = elsewhere_kept c.args.c c.args.stays.now c.push_at.new.stays c.push_at.ensures.elsewhere

pub returns-in-Err-clause-refused : goal.returns-in-Err-clause-refused
returns-in-Err-clause-refused g c = λ _. chat_same c.args.stays.now c.push_at.new.stays c.args.c c.in-Err.ensures.sent

pub returns-clause-grows : goal.returns-clause-grows
returns-clause-grows g c = begins_on _ _ _ c.enter-pass.ensures.grows c.settle-pass.ensures.grows

pub returns-clause-pushed : goal.returns-clause-pushed
returns-clause-pushed g c = λ _.
    let s = c.in-Ok.ensures.same in
    told_pushed c.args.c c.args.stays.now c.push_at.new.stays c.enter-pass.new.stays c.settle-pass.new.stays s.0 s.1 s.2 s.3 s.5.1 c.enter-pass.ensures.places c.settle-pass.ensures.same

pub returns-in-Err-clause-grows : goal.returns-in-Err-clause-grows
returns-in-Err-clause-grows g c = begins_itself _
