use Rattle.live_chats.proofs.WeaveLemmas.{chats_are_apart}
use Rattle.live_chats.proofs.laws.chats_are_apart.Goals as goal

pub returns : goal.returns
returns c = chats_are_apart
