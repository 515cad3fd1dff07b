use Rattle.std.proofs.Common.{[], ◌∙◌, refl}
use Rattle.placed_parts.specs.Placing.{limits_of}
use Rattle.live_chats.proofs.SeatLemmas.{seats_told_on, seats_untold}
use Rattle.live_chats.proofs.renewing.renew_all.Goals as goal

pub loop-i-init : goal.loop-i-init
loop-i-init g c = record {
  seats = c.requires;
  number = refl;
  table = refl;
  told = seats_untold limits_of c.args.line.now.squeue.now c.args.pass c.args.stays.now c.args.seats.now.entries;
  all = c.len-i-end.ensures.len;
}

pub loop-i-preserved : goal.loop-i-preserved
loop-i-preserved g c =
    let es = c.args.seats.now.entries in
    let i = c.loop-i.invariant in
    let one = c.renew_at-pass.ensures in
    record {
      seats = one.seats;
      number = one.number ∙ i.number;
      table = one.table ∙ i.table;
      told = seats_told_on limits_of c.args.line.now.squeue.now c.args.pass c.loop-i.pass c.renew_at-pass.result c.args.stays.now c.loop-i.stays c.renew_at-pass.new.stays es es es [] [] i.number i.told one.told;
      all = i.all;
    }
