use Rattle.std.proofs.Common.{◌≡◌, List, ap, rules, subst, Vec, Global, ◌∙◌}
use Rattle.live_server.specs.Written.{HasSent}
use Rattle.live_server.specs.declared.acting.Datagram.{Datagram}
use Rattle.live_server.proofs.WrittenLemmas.{nothing_sent}
use Rattle.live_chats.specs.Hearing.{ChatOf, hearing}
use Rattle.live_chats.specs.Listening.{IsAnswer}
use Rattle.live_chats.specs.Seating.{chat_at}
use Rattle.live_chats.specs.declared.ear.Heard.{Heard}
use Rattle.live_chats.proofs.SeatLemmas.{if_some}
use Rattle.live_chats.proofs.line.Line+Places+Streams+Chats+H+W.hear.Goals as goal

pub returns-clause-pushed : goal.returns-clause-pushed
returns-clause-pushed g c = if_some _ _ (λ _ _. c.tell-pass.ensures.pushed (search rules))

pub returns-clause-heard : goal.returns-clause-heard
returns-clause-heard g c =
    let told = c.tell-pass.ensures.told (search rules) in
    let b = c.tell-pass.new.stays in
    let after = c.tell-pass.new.ear.out.items in
    if_some (λ (h : Heard). (chat_at b c.args.c ≡ hearing c.args.item (chat_at c.args.stays.now c.args.c)) × IsAnswer (chat_at b c.args.c) h c.args.out.now.items after) _
    (λ h is. (told.0, subst (λ (l : List Datagram). IsAnswer (chat_at b c.args.c) h l after) (ap (λ (v : Vec Datagram Global). v.items) c.replace.ensures.value) (told.1.heard h is)))

pub returns-then-not-taken-clause-wrote : goal.returns-then-not-taken-clause-wrote
returns-then-not-taken-clause-wrote g c =
    nothing_sent _ _ _ (c.tell-pass.ensures.silent (search rules) ∙ ap (λ (v : Vec Datagram Global). v.items) c.replace.ensures.value)

pub returns-clause-wrote : goal.returns-clause-wrote
returns-clause-wrote g c =
    let told = c.tell-pass.ensures.told (search rules) in
    subst (λ (x : List Datagram × ChatOf). HasSent x.0 c.tell-pass.new.ear.out.items x.1.sent)
    (λ j. (ap (λ (v : Vec Datagram Global). v.items) c.replace.ensures.value j, told.0 j)) told.1.wrote.part
