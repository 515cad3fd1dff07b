use Rattle.std.proofs.Common.{◌∙◌, sym}
use Rattle.live_chats.specs.Seating.{conn_of_seat}
use Rattle.live_chats.proofs.ListLemmas.{length_map}
use Rattle.live_chats.proofs.asking.len.Goals as goal

pub returns : goal.returns
returns c = λ st. c.len.ensures.len ∙ sym (length_map (conn_of_seat st) c.args.seats.now.entries)
