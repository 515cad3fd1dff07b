use Rattle.std.proofs.Common.{refl}
use Rattle.live_server.proofs.LossLemmas.{on_err}
use Rattle.live_server.proofs.WrittenLemmas.{nothing_sent}
use Rattle.live_server.proofs.rules.Rules.tell.Goals as goal

pub returns-in_err-text-clause-wrote : goal.returns-in_err-text-clause-wrote
returns-in_err-text-clause-wrote g c = on_err c.from_residual.result _ (nothing_sent c.args.out.now.items c.args.out.now.items _ refl)

pub returns-in_err-bytes-clause-wrote : goal.returns-in_err-bytes-clause-wrote
returns-in_err-bytes-clause-wrote g c = on_err c.from_residual-in_err-bytes.result _ (nothing_sent c.args.out.now.items c.args.out.now.items _ refl)

pub returns-in_err-bytes-2-clause-wrote : goal.returns-in_err-bytes-2-clause-wrote
returns-in_err-bytes-2-clause-wrote g c = on_err c.from_residual-in_err-bytes-2.result _ (nothing_sent c.args.out.now.items c.args.out.now.items _ refl)

pub returns-in_err-push-clause-wrote : goal.returns-in_err-push-clause-wrote
returns-in_err-push-clause-wrote g c = on_err c.from_residual-in_err-push.result _ (nothing_sent c.args.out.now.items c.push.new.self.items _ c.in_err-push.ensures.items)
