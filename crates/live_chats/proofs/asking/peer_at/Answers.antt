use Rattle.std.proofs.Common.{◌∙◌, ap, sym}
use Rattle.std.specs.Map.Iter.{deref_pair}
use Rattle.std.specs.Option.{option_map}
use Rattle.live_chats.proofs.AskingLemmas.{peer_there}
use Rattle.live_chats.proofs.asking.peer_at.Goals as goal

pub returns : goal.returns
returns c = λ st seated.
    peer_there st c.args.seats.now.entries c.args.place (c.in-Some.tuple.now, c.in-Some.seat.now)
    (sym c.get_index.ensures.entry ∙ ap (option_map deref_pair) c.in-Some.is) seated
