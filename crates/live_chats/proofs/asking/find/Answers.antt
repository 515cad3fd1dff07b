use Rattle.std.proofs.Common.{◌∙◌, ap, sym, position}
use Rattle.live_server.specs.Table.{tuple_eq}
use Rattle.live_chats.proofs.AskingLemmas.{keys_same}
use Rattle.live_chats.proofs.asking.find.Goals as goal

pub returns : goal.returns
returns c = λ st. c.get_index_of.ensures.index ∙ ap (position (tuple_eq c.args.ends.now)) (sym (keys_same st c.args.seats.now.entries))
