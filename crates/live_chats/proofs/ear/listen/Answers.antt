use Rattle.std.proofs.Common.{◌≡◌, false, true≢false, List, ◌++◌, refl, sym, ap, ◌∙◌}
use Rattle.live_server.specs.declared.acting.Datagram.{Datagram}
use Rattle.live_server.proofs.WrittenLemmas.{all_sent, nothing_sent}
use Rattle.live_chats.proofs.ear.listen.Goals as goal

pub returns-then-is_lost-clause-wrote : goal.returns-then-is_lost-clause-wrote
returns-then-is_lost-clause-wrote c = record { lost = λ _. refl; part = nothing_sent _ _ _ refl }

pub returns-in_default-clause-wrote : goal.returns-in_default-clause-wrote
returns-in_default-clause-wrote c = record { lost = λ _. refl; part = nothing_sent _ _ _ refl }

pub returns-in-Ok-clause-wrote : goal.returns-in-Ok-clause-wrote
returns-in-Ok-clause-wrote c =
    let here : c.args.chat.now.lost ≡ false = sym c.is_lost.ensures ∙ c.if-is_lost.false in
    record {
      lost = λ l. absurd (true≢false (sym l ∙ here));
      part = all_sent _ _ _ (c.in-Ok.ensures.sent ∙ ap (λ (l : List Datagram). c.args.out.now.items ++ l) c.sent.ensures);
    }
