use Rattle.std.proofs.Common.{◌+◌, length, sym, arith}
use Rattle.std.proofs.lemmas.List.{take_all, drop_all}
use Rattle.http_pages.proofs.Pieces.{first_at, nowhere}
use Rattle.http_pages.proofs.cuts.cut.Goals as goal

pub returns-in-Some-clause-before : goal.returns-in-Some-clause-before
returns-in-Some-clause-before c =
    let first = first_at c.args.bytes.now c.args.at c.in-Some.n c.in-Some.ensures.0 c.in-Some.ensures.1 c.in-Some.ensures.2 in
    rw first c.split_at.ensures.front

pub returns-in-Some-clause-behind : goal.returns-in-Some-clause-behind
returns-in-Some-clause-behind c =
    let first = first_at c.args.bytes.now c.args.at c.in-Some.n c.in-Some.ensures.0 c.in-Some.ensures.1 c.in-Some.ensures.2 in
    rw first c.split_at-in-Some.ensures.back

pub returns-in-None-clause-before : goal.returns-in-None-clause-before
returns-in-None-clause-before c =
    let none = nowhere c.args.bytes.now c.args.at c.in-None.ensures in
    rw none (sym (take_all (length c.args.bytes.now) c.args.bytes.now (omega arith)))

pub returns-in-None-clause-behind : goal.returns-in-None-clause-behind
returns-in-None-clause-behind c =
    let none = nowhere c.args.bytes.now c.args.at c.in-None.ensures in
    rw none (sym (drop_all (length c.args.bytes.now + 1) c.args.bytes.now (omega arith)))
