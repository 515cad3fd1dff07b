use Rattle.std.proofs.Common.{◌<◌, ◌∙◌, [], length, ap, arith, refl}
use Rattle.placed_parts.specs.Placing.{limits_of, origin_of}
use Rattle.live_server.proofs.TableLemmas.{length_without}
use Rattle.live_chats.specs.Seating.{conns_of}
use Rattle.live_chats.proofs.SeatLemmas.{but_one, conns_length, seats_told_on, seats_untold}
use Rattle.live_chats.proofs.seats.leave_all.Goals as goal

pub vacate-pass-requires : goal.vacate-pass-requires
vacate-pass-requires g c =
    let lt : c.in-Some.i < length c.leaving.seats.entries = omega (arith, c.in-Some.ensures, c.len.ensures.len) in
    but_one limits_of c.args.line.now.squeue.now (origin_of c.args.line.now.squeue.now.given.first) c.in-Some.i c.leaving.pass c.leaving.stays c.leaving.seats.entries c.leaving.invariant.seats lt

pub leaving-smaller : goal.leaving-smaller
leaving-smaller g c =
    let st = c.leaving.stays in
    let es = c.leaving.seats.entries in
    let lt : c.in-Some.i < length es = omega (arith, c.in-Some.ensures, c.len.ensures.len) in
    let lt2 : c.in-Some.i < length (conns_of st es) = omega (arith, conns_length st es, lt) in
    omega (arith, conns_length st es, conns_length c.vacate-pass.new.stays c.vacate-pass.new.seats.entries, ap length c.vacate-pass.ensures.table, length_without (conns_of st es) c.in-Some.i lt2)

pub leaving-init : goal.leaving-init
leaving-init g c =
    record { seats = c.requires; number = refl; told = seats_untold limits_of c.args.line.now.squeue.now c.args.pass c.args.stays.now c.args.seats.now.entries }

pub leaving-preserved : goal.leaving-preserved
leaving-preserved g c =
    let i = c.leaving.invariant in
    record {
      seats = c.vacate-pass.ensures.seats;
      number = c.vacate-pass.ensures.number ∙ i.number;
      told = seats_told_on limits_of c.args.line.now.squeue.now c.args.pass c.leaving.pass c.vacate-pass.result c.args.stays.now c.leaving.stays c.vacate-pass.new.stays
          c.args.seats.now.entries c.leaving.seats.entries c.vacate-pass.new.seats.entries [] [] i.number i.told c.vacate-pass.ensures.told;
    }
