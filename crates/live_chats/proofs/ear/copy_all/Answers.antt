use Rattle.std.proofs.Common.{◌≡◌, ℕ, zero, suc, List, [], ◌∷◌, ◌++◌, take, drop, refl, ap, ◌∙◌}
use Rattle.live_server.specs.declared.acting.Datagram.{Datagram}
use Rattle.live_server.proofs.LossLemmas.{on_err}
use Rattle.live_server.proofs.WrittenLemmas.{front_sent}
use Rattle.live_chats.proofs.ear.copy_all.Goals as goal

parts : (xs : List Datagram) (i : ℕ) → xs ≡ take i xs ++ drop i xs
parts [] zero = refl
parts [] (suc i) = refl
parts (x ∷ xs) zero = refl
parts (x ∷ xs) (suc i) = ap (λ (l : List Datagram). x ∷ l) (parts xs i)

pub returns-in_err-copied-clause-wrote : goal.returns-in_err-copied-clause-wrote
returns-in_err-copied-clause-wrote c =
    let i = c.loop-datagram.datagram-index in
    on_err c.from_residual.result _ (front_sent _ _ c.args.sent.now (take i c.args.sent.now) (drop i c.args.sent.now) c.loop-datagram.invariant (parts c.args.sent.now i))

pub returns-in_err-push-clause-wrote : goal.returns-in_err-push-clause-wrote
returns-in_err-push-clause-wrote c =
    let i = c.loop-datagram.datagram-index in
    on_err c.from_residual-in_err-push.result _
    (front_sent _ _ c.args.sent.now (take i c.args.sent.now) (drop i c.args.sent.now) (c.in_err-push.ensures.items ∙ c.loop-datagram.invariant) (parts c.args.sent.now i))
