use Rattle.std.proofs.Common.{sym, ap, ◌∙◌}
use Rattle.std.specs.Option.{option_map}
use Rattle.std.specs.Map.Iter.{deref_pair}
use Rattle.live_chats.proofs.seats.seat_at.Goals as goal

pub returns : goal.returns
returns c = (c.in-Some.field-0-0.now, sym c.get_index.ensures.entry ∙ ap (option_map deref_pair) c.in-Some.is)
