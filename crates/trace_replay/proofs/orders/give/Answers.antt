use Rattle.std.proofs.Common.{◌≡◌, ℕ, ◌+◌, ◌<◌, [], ◌∷◌, length, take, drop, sym, ap, subst, ◌∙◌, arith}
use Rattle.std.specs.Prelude.{slice_index}
use Rattle.perimeter_core.specs.declared.entries.Act.TheVariants as Did
use Rattle.perimeter_core.specs.Blocks.{Blocks as Had}
use Rattle.perimeter_core.specs.Deeds.{fed}
use Rattle.perimeter_core.specs.Residing.{HadFeeds}
use Rattle.perimeter_core.proofs.ActLists.{here_of_feeds}
use Rattle.conn_classifier.specs.Plan.{PlanOf, items_in}
use Rattle.conn_blocks.specs.declared.blocks.Blocks.{Blocks}
use Rattle.conn_blocks.specs.Allowed.{feed_limits}
use Rattle.conn_blocks.specs.Places.{Stands, origin_of}
use Rattle.conn_blocks.specs.ServeOrder.{OriginOf}
use Rattle.trace_replay.specs.Joining.{FeedsFollow, with_acts}
use Rattle.trace_replay.proofs.Giving.{acts_both, fed_call, fed_feed, follows_not, had_more, one_act, one_feed, parts_at}
use Rattle.trace_replay.proofs.Taken.{feeds_allowed}
use Rattle.trace_replay.proofs.orders.give.Goals.{in-Feed+else-n-fed+else-n-items, in-Call, then-n-fed-via-then-n-fed, then-n-fed-via-else-n-fed+then-n-items}
use Rattle.trace_replay.proofs.orders.give.Goals as goal

pub returns-then-n-fed-clause-no : goal.returns-then-n-fed-clause-no
returns-then-n-fed-clause-no c =
    let acts = c.args.acts.now in
    let i = c.loop-act.act-index in
    let most : ℕ = length (items_in c.args.run.plan.now c.args.c) in
    λ same follow.
    let parts = subst (FeedsFollow most c.args.fed.now) (parts_at acts i _ (Did.Feed c.in-Feed.n) c.loop-act-test.true c.in-Feed.is) follow in
    elim c.then-n-fed.branch [
      | then-n-fed-via-then-n-fed w ↦ follows_not most c.args.fed.now c.in-Feed.n (take i acts) (drop (i + 1) acts) (λ next few. w.if-n-fed.true (next ∙ sym c.loop-act.invariant.feeds)) parts
      | then-n-fed-via-else-n-fed+then-n-items w ↦
          follows_not most c.args.fed.now c.in-Feed.n (take i acts) (drop (i + 1) acts) (λ next few. omega (arith, few, w.items.ensures.value, w.if-n-items.true)) parts
    ]

pub feed-requires-clause-next : goal.feed-requires-clause-next
feed-requires-clause-next c =
    let acts = c.args.acts.now in
    let i = c.loop-act.act-index in
    let next : c.args.fed.now + fed (take i acts) ≡ c.in-Feed.n = omega (arith, c.if-n-fed.false, c.loop-act.invariant.feeds) in
    subst (λ (n : ℕ). HadFeeds (Stands c.loop-act.blocks) c.args.c n) next
    (had_more (Stands c.args.blocks.now) (Stands c.loop-act.blocks) c.args.c c.args.fed.now (take i acts) c.requires.here c.loop-act.invariant.stands)

pub feed-requires-clause-limit : goal.feed-requires-clause-limit
feed-requires-clause-limit c =
    let plan : c.loop-act.blocks.plan ≡ c.args.run.plan.now = ap (λ (o : OriginOf). o.plan) (c.loop-act.invariant.origin ∙ c.requires.origin) in
    subst (λ (p : PlanOf). c.in-Feed.n < slice_index (feed_limits p) c.args.c) (sym plan)
    (omega (arith, feeds_allowed c.args.run.plan.now c.args.c c.requires.conn, c.items.ensures.value, c.if-n-items.false))

pub call-requires-clause-here : goal.call-requires-clause-here
call-requires-clause-here c =
    let xs = take c.loop-act.act-index c.args.acts.now in
    here_of_feeds (Stands c.loop-act.blocks) c.args.c (c.args.fed.now + fed xs)
    (had_more (Stands c.args.blocks.now) (Stands c.loop-act.blocks) c.args.c c.args.fed.now xs c.requires.here c.loop-act.invariant.stands)

pub loop-act-preserved : goal.loop-act-preserved
loop-act-preserved c =
    let acts = c.args.acts.now in
    let i = c.loop-act.act-index in
    let xs = take c.loop-act.act-index c.args.acts.now in
    let so_far = c.loop-act.invariant in
    elim c.match-act.branch [
      | in-Feed+else-n-fed+else-n-items w ↦
          let n = w.in-Feed.n in
          let one = one_act acts i _ (Did.Feed n) c.loop-act-test.true w.in-Feed.is in
          record {
            stands = λ had stands.
                subst (λ (b : Blocks). Stands b (with_acts c.args.c (take (i + 1) acts) had)) (sym w.blocks-is)
                (subst (λ (h : Had). Stands w.feed.new.self h)
                (one_feed c.args.c n (with_acts c.args.c xs had) ∙ (acts_both c.args.c xs (Did.Feed n ∷ []) had ∙ ap (λ l. with_acts c.args.c l had) (sym one)))
                (w.feed.ensures.stands (with_acts c.args.c xs had) (so_far.stands had stands)));
            origin = ap origin_of w.blocks-is ∙ (w.feed.ensures.origin ∙ so_far.origin);
            feeds = omega (arith, w.fed-is, so_far.feeds, ap fed one, fed_feed xs n);
          }
      | in-Call w ↦
          let j = w.in-Call.j in
          let k = w.in-Call.k in
          let one = one_act acts i _ (Did.Call j k) c.loop-act-test.true w.in-Call.is in
          record {
            stands = λ had stands.
                subst (λ (b : Blocks). Stands b (with_acts c.args.c (take (i + 1) acts) had)) (sym w.blocks-is)
                (subst (λ (h : Had). Stands w.call.new.self h)
                (acts_both c.args.c xs (Did.Call j k ∷ []) had ∙ ap (λ l. with_acts c.args.c l had) (sym one))
                (w.call.ensures.stands (with_acts c.args.c xs had) (so_far.stands had stands)));
            origin = ap origin_of w.blocks-is ∙ (w.call.ensures.origin ∙ so_far.origin);
            feeds = omega (arith, w.fed-is, so_far.feeds, ap fed one, fed_call xs j k);
          }
    ]
