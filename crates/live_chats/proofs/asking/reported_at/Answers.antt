use Rattle.std.proofs.Common.{◌∙◌, ap, sym}
use Rattle.std.specs.Map.Iter.{deref_pair}
use Rattle.std.specs.Option.{option_map}
use Rattle.live_chats.proofs.AskingLemmas.{reported_there}
use Rattle.live_chats.proofs.asking.reported_at.Goals as goal

pub returns : goal.returns
returns c = λ st seated.
    c.reported.ensures
    ∙ reported_there c.args.seq st c.args.seats.now.entries c.args.place (c.in-Some.field-0-0.now, c.in-Some.seat.now)
    (sym c.get_index.ensures.entry ∙ ap (option_map deref_pair) c.in-Some.is) seated
