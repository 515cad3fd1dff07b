use Rattle.std.proofs.Common.{◌+◌, ◌∷◌, [], All, length, length-append, ap, sym, ◌∙◌, subst}
use Rattle.std.proofs.lemmas.List.Elements.{All-append, All-cons, All-nil}
use Rattle.squeue_serve.specs.Lending.{IsRoomFor}
use Rattle.squeue_serve.proofs.jobs.lend.Goals as goal

pub returns-clause-rooms : goal.returns-clause-rooms
returns-clause-rooms g c =
    let rooms = c.args.squeues.now.rooms.items in
    let room = c.lend_all-room.result in
    let is = c.push_reserved-2.ensures.items in (
      ap length is ∙ length-append rooms (room ∷ []),
      subst (All (IsRoomFor (c.args.count + 1))) (sym is)
          (All-append (IsRoomFor (c.args.count + 1)) rooms (room ∷ []) c.requires.room (All-cons (IsRoomFor (c.args.count + 1)) room [] c.lend_all-room.ensures.room (All-nil (IsRoomFor (c.args.count + 1))))),
    )
