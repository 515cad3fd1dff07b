use Rattle.std.proofs.Common.{◌∙◌, ap, sym}
use Rattle.std.specs.Map.Iter.{deref_pair}
use Rattle.std.specs.Option.{option_map}
use Rattle.live_chats.proofs.AskingLemmas.{nobody_waits, waiting_at}
use Rattle.live_chats.proofs.asking.is_waiting_at.Goals as goal

pub returns-in-Some : goal.returns-in-Some
returns-in-Some c = λ st seated.
    c.is_waiting.ensures
    ∙ waiting_at c.args.number st c.args.seats.now.entries c.args.place (c.in-Some.field-0-0.now, c.in-Some.seat.now) (sym c.get_index.ensures.entry ∙ ap (option_map deref_pair) c.in-Some.is) seated

pub returns-in-None : goal.returns-in-None
returns-in-None c = λ st seated. nobody_waits c.args.number st c.args.seats.now.entries c.args.place (sym c.get_index.ensures.entry ∙ ap (option_map deref_pair) c.in-None.is)
