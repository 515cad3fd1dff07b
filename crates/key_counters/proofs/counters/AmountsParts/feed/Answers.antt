use Rattle.std.proofs.Common.{◌≡◌, ◌<◌, length, get_or, sym, ap, ◌∙◌, subst, arith}
use Rattle.std.proofs.lemmas.List.{length-map}
use Rattle.std.proofs.lemmas.List.Elements.{All-get_or}
use Rattle.squeue.proofs.Rows.{row_read, row_within, value_read}
use Rattle.key_counters.specs.Counting.{rows_of, row_of}
use Rattle.key_counters.proofs.CounterSteps.{amount_counts, amount_added, had_feeds_is}
use Rattle.key_counters.proofs.counters.AmountsParts.feed.Goals as goal

pub add-requires : goal.add-requires
add-requires c =
    let rows = c.args.self.now.rows.now in
    let was = had_feeds_is c.args.counter.now c.args.n c.requires.next in
    let lt : c.args.c < length rows = omega (arith, c.requires.range, length-map (rows_of c.args.self.now) length, length-map rows (λ row. row.items)) in
    let row = row_read (λ v. v.items) rows c.args.c c.args.n c.index-self-c.result c.index-self-c.result c.requires.range c.index-self-c.is in
    let within = row_within (λ v. v.items) rows c.args.c c.args.n c.requires.limit in
    let short : length c.index-self-c.result.items < 4294967296 = subst (λ v. length v.items < 4294967296) (sym c.index-self-c.is) (All-get_or (λ v. length v.items < 4294967296) rows c.args.c c.index-self-c.result lt c.args.self.now.short) in
    omega (arith, was, within, ap length row, short)

pub returns-clause-owner : goal.returns-clause-owner
returns-clause-owner c =
    let rows = c.args.self.now.rows.now in
    let its = row_of (rows_of c.args.self.now) c.args.c in
    let was = had_feeds_is c.args.counter.now c.args.n c.requires.next in
    let within : c.args.n < length its = row_within (λ v. v.items) rows c.args.c c.args.n c.requires.limit in
    let amount : c.index.result.now ≡ get_or its c.args.n 0 =
    value_read (λ v. v.items) rows c.args.c c.args.n c.index-self-c.result c.index.result.now c.requires.range within c.index-self-c.is (c.index.ensures ∙ ap (λ v. get_or v.items c.args.n c.index.result.now) (sym c.index-self-c.is)) in
    amount_counts c.args.c c.args.n c.index.result.now its c.args.counter.now c.add.new.self c.requires.owner was within amount c.add.ensures.key c.add.ensures.had c.add.ensures.total c.add.ensures.read_at c.add.ensures.read

pub returns-clause-stands : goal.returns-clause-stands
returns-clause-stands c had old = amount_added c.args.n c.args.counter.now c.add.new.self had c.add.ensures.had c.add.ensures.read_at old
