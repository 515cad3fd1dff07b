use Rattle.std.proofs.Common.{Vec, Global, ap}
use Rattle.placed_parts.specs.Placing.{origin_of}
use Rattle.live_server.specs.declared.acting.Datagram.{Datagram}
use Rattle.live_chats.proofs.AnswerLemmas.{listened_there}
use Rattle.live_chats.proofs.LivedLemmas.{begins_on}
use Rattle.live_chats.proofs.PlaceLemmas.{settled_open}
use Rattle.live_chats.proofs.line.Line+Places+Streams+Chats+H+W.listen.Goals as goal

pub returns-clause-kept : goal.returns-clause-kept
returns-clause-kept g c = settled_open c.args.stays.now c.enter-pass.new.stays c.settle-pass.new.stays c.enter-pass.ensures.places c.settle-pass.ensures.same c.settle-pass.ensures.sent

pub returns-clause-room : goal.returns-clause-room
returns-clause-room g c =
    (listened_there (origin_of c.args.self.now.squeue.now.given.first) c.enter-pass.new.stays c.settle-pass.new.stays c.settle-pass.ensures.sent _ _ _ c.settle-pass.new.collector _
    c.enter-pass.ensures.touched c.requires.room.0 (ap (λ (v : Vec Datagram Global). v.items) c.replace.ensures.value) c.requires.room.1 c.settle-pass.ensures.settled).1

pub returns-clause-answers : goal.returns-clause-answers
returns-clause-answers g c =
    (listened_there (origin_of c.args.self.now.squeue.now.given.first) c.enter-pass.new.stays c.settle-pass.new.stays c.settle-pass.ensures.sent _ _ _ c.settle-pass.new.collector _
    c.enter-pass.ensures.touched c.requires.room.0 (ap (λ (v : Vec Datagram Global). v.items) c.replace.ensures.value) c.requires.room.1 c.settle-pass.ensures.settled).0

pub returns-clause-grows : goal.returns-clause-grows
returns-clause-grows g c = begins_on _ _ _ c.enter-pass.ensures.grows c.settle-pass.ensures.grows
