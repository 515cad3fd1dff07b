use Rattle.shards.proofs.shard.ShardResident.take_out.Goals as goal

pub returns-clause-part : goal.returns-clause-part
returns-clause-part g c blocks had stands here = c.take_out.ensures.part blocks had stands.0 here
