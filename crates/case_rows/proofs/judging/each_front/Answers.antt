use Rattle.std.proofs.Common.{◌<◌, ◌≤◌, arith, rules}
use Rattle.case_rows.proofs.judging.each_front.Goals as goal

pub returns : goal.returns
returns g c =
    let some : c.in_ok-first.first < c.in_ok-first.end = search rules in
    let over : c.in_ok-first.end ≤ c.loop-len.len = search rules in
    record {
      given = c.args.given.now;
      gives = c.requires.gives;
      first = c.in_ok-first.first;
      end = c.in_ok-first.end;
      numbers = c.in_ok-first.ensures;
      some = some;
      each = λ k from to. c.loop-len.invariant k from (omega (arith, to, over));
    }
