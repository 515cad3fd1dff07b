use Rattle.std.proofs.Common.{◌≡◌, ◌∙◌, ◌<◌, ◌≤◌, sym, ap, length, subst, arith}
use Rattle.placed_parts.specs.Placing.{limits_of, origin_of}
use Rattle.squeue_state.specs.Naming.{setting_of}
use Rattle.squeue_arrivals.specs.Keeping.{IsUnused}
use Rattle.squeue_arrivals.specs.Keyed.{Tells}
use Rattle.squeue_arrivals.specs.Placed.{keys_in, most_in, place_of}
use Rattle.squeue_arrivals.proofs.KeysKept.{came_but, last_there, none_came, place_same, seated_one}
use Rattle.squeue_arrivals.proofs.keys.seat_new.Goals as goal

pub open-pass-requires-clause-unused : goal.open-pass-requires-clause-unused
open-pass-requires-clause-unused g c =
    let k = c.args.keys.now in
    let has = c.requires.keys.1.0 in
    let le : length (keys_in k) ≤ length (keys_in k) = omega arith in
    let lt : length (keys_in k) < most_in k = omega (arith, c.if-i-keys.false, c.len-i.ensures, has.table.few) in
    subst (IsUnused (setting_of limits_of c.args.line.now.squeue.now.given) c.args.stays.now) (sym (c.place-c.ensures ∙ ap (place_of k) c.len-i.ensures)) (has.free (length (keys_in k)) le lt)

pub returns-then-i-keys-clause-seated : goal.returns-then-i-keys-clause-seated
returns-then-i-keys-clause-seated g c = λ all has.
    let k = c.args.keys.now in
    let full : length (keys_in k) ≡ most_in k = omega (arith, c.if-i-keys.true, c.len-i.ensures) in
    record { keys = has.0; came = came_but all k c.args.key has.1; none = λ is. (full, none_came all k c.args.key has.0.table c.requires.new, has.1) }

pub returns-clause-seated : goal.returns-clause-seated
returns-clause-seated g c = λ all has.
    let k = c.args.keys.now in
    let lt : length (keys_in k) < most_in k = omega (arith, c.if-i-keys.false, c.len-i.ensures, has.0.table.few) in
    let e = c.open-pass.ensures in
    seated_one (Tells g.X.KeySteps.step) limits_of c.args.line.now.squeue.now (origin_of c.args.line.now.squeue.now.given.first) all c.args.pass c.open-pass.result c.args.stays.now c.open-pass.new.stays k c.add.new.self c.args.key
    c.place-c.result has c.requires.new lt (c.place-c.ensures ∙ ap (place_of k) c.len-i.ensures) e.knows e.number e.grows e.open e.others c.add.ensures.keys c.add.ensures.ring c.add.ensures.room c.add.ensures.unique

pub returns-clause-place : goal.returns-clause-place
returns-clause-place g c =
    let k = c.args.keys.now in (
      length (keys_in k),
      last_there (keys_in k) (keys_in c.add.new.self) c.args.key c.add.ensures.keys,
      c.place-c.ensures ∙ (ap (place_of k) c.len-i.ensures ∙ sym (place_same k c.add.new.self (length (keys_in k)) c.add.ensures.ring)),
    )
