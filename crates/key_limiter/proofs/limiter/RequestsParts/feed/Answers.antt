use Rattle.std.proofs.Common.{◌≡◌, ◌<◌, ℕ, Bool, length, get_or, sym, ap, ◌∙◌, arith, length-append, ◌∷◌, ◌++◌, []}
use Rattle.squeue.proofs.NextFeed.{fed-append}
use Rattle.squeue.specs.declared.Act.TheVariants as Did
use Rattle.key_limiter.specs.declared.limiter.Bucket.{Bucket}
use Rattle.key_limiter.specs.Buckets.{row_of, rows_of}
use Rattle.squeue.proofs.Rows.{row_within, value_read}
use Rattle.key_limiter.proofs.LimiterSteps.{one_decided}
use Rattle.key_limiter.proofs.limiter.RequestsParts.feed.Goals as goal

pub returns-clause-owner : goal.returns-clause-owner
returns-clause-owner c =
    let rows = c.args.self.now.rows.now in
    let its = row_of (rows_of c.args.self.now) c.args.c in
    let was : length c.args.bucket.now.passed.items ≡ c.args.n = sym c.requires.next.stands ∙ c.requires.next.feeds in
    let within : c.args.n < length its = row_within (λ v. v.items) rows c.args.c c.args.n c.requires.limit in
    let time : c.index-time.result.now ≡ get_or its c.args.n 0 =
    value_read (λ v. v.items) rows c.args.c c.args.n c.index-self-c.result c.index-time.result.now c.requires.range within c.index-self-c.is (c.index-time.ensures ∙ ap (λ v. get_or v.items c.args.n c.index-time.result.now) (sym c.index-self-c.is)) in
    let next : Bucket = record { passed = c.push_reserved.new.self; level = c.take-passes.new.self } in
    one_decided c.args.self.now.limit its c.index-time.result.now c.args.bucket.now next c.requires.owner (omega (arith, was, within)) (time ∙ ap (λ (n : ℕ). get_or its n 0) (sym was))
    (c.push_reserved.ensures.items ∙ ap (λ (b : Bool). c.args.bucket.now.passed.items ++ b ∷ []) c.take-passes.ensures.passes) c.take-passes.ensures.after c.push_reserved.ensures.capacity

pub returns-clause-stands : goal.returns-clause-stands
returns-clause-stands c had old =
    let one = length-append c.args.bucket.now.passed.items (c.take-passes.result ∷ []) in
    omega (arith, fed-append had (Did.Feed c.args.n ∷ []), old, ap length c.push_reserved.ensures.items, one)

pub push_reserved-requires : goal.push_reserved-requires
push_reserved-requires c =
    let within : c.args.n < length (row_of (rows_of c.args.self.now) c.args.c) = row_within (λ v. v.items) c.args.self.now.rows.now c.args.c c.args.n c.requires.limit in
    omega (arith, within, c.requires.next.stands, c.requires.next.feeds, c.requires.owner.room)
