use Rattle.live_chats.proofs.FramesLemmas.{servers_are_chats}
use Rattle.live_chats.proofs.laws.servers_are_chats.Goals as goal

pub returns : goal.returns
returns c = servers_are_chats
