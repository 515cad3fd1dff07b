use Rattle.live_chats.proofs.FramesLemmas.{server_is_chats}
use Rattle.live_chats.proofs.laws.a_server_is_chats.Goals as goal

pub returns : goal.returns
returns c = server_is_chats
