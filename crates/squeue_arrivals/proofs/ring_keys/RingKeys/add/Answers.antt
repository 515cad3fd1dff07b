use Rattle.squeue_arrivals.proofs.KeyLists.{key_added}
use Rattle.squeue_arrivals.proofs.ring_keys.RingKeys.add.Goals as goal

pub returns-clause-keys : goal.returns-clause-keys
returns-clause-keys c = key_added c.args.self.now.set.keys c.insert.new.self.keys c.args.key c.requires.new c.in-Ok.ensures.keys
