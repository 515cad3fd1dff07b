use Rattle.std.proofs.Common.{ℕ, ◌+◌, ◌≤◌, ◌%◌, ◌==◌, length, arith}
use Rattle.std.proofs.lemmas.Bool.{eq-eqb, ne_eqb}
use Rattle.ring_quotas.proofs.Adding.{come, come_as, fed, fed_as, few_asks, few_feeds, left, left_as, sum_off, sum_on}
use Rattle.ring_quotas.proofs.quotas.ring_quota.Goals.{then-c-setup, else-c-setup}
use Rattle.ring_quotas.proofs.quotas.ring_quota.Goals as goal

pub overflow_add-entered : goal.overflow_add-entered
overflow_add-entered c =
    let p = c.args.plan.now in
    let s = c.args.setup.now.squeues in
    let sp = c.args.setup.now.spread in
    let rings = c.args.setup.now.rings in
    let few = c.all_items_are_few.ensures p c.is_sound.ensures in
    let listed = c.is_sound.ensures.listed in
    let le : c.loop-c.c + 1 ≤ length p.tuples = omega (arith, c.loop-c-test.true, c.conns-c-end.ensures.value) in
    let most = few_feeds p few listed s sp c.args.q rings c.args.ring (c.loop-c.c + 1) le in
    let more = sum_on (fed p few listed s sp c.args.q rings c.args.ring) (λ (n : ℕ). n % rings == c.args.ring) c.loop-c.c (eq-eqb (c.loop-c.c % rings) c.args.ring c.if-c-setup.true) in
    let one = fed_as c.args.q c.loop-c.c c.homes-homes.ensures.squeues c.homes-homes.ensures.spread c.items-items.ensures.value c.feeds-entered.ensures.value in
    omega (arith, most, more, one, c.loop-c.invariant.feeds)

pub overflow_add-asks-then-c-setup : goal.overflow_add-asks-then-c-setup
overflow_add-asks-then-c-setup c =
    let p = c.args.plan.now in
    let s = c.args.setup.now.squeues in
    let sp = c.args.setup.now.spread in
    let rings = c.args.setup.now.rings in
    let few = c.all_items_are_few.ensures p c.is_sound.ensures in
    let listed = c.is_sound.ensures.listed in
    let le : c.loop-c.c ≤ length p.tuples = omega (arith, c.loop-c-test.true, c.conns-c-end.ensures.value) in
    let most = few_asks p few listed s sp c.args.q rings c.args.ring c.loop-c.c le in
    omega (arith, most, c.loop-c.invariant.asks, c.from.ensures, c.from-then-c-setup.ensures, c.leaving.ensures.most, c.coming.ensures.most, c.items-items.ensures.most)

pub loop-c-preserved : goal.loop-c-preserved
loop-c-preserved c =
    let p = c.args.plan.now in
    let s = c.args.setup.now.squeues in
    let sp = c.args.setup.now.spread in
    let rings = c.args.setup.now.rings in
    let few = c.all_items_are_few.ensures p c.is_sound.ensures in
    let listed = c.is_sound.ensures.listed in
    elim c.if-c-setup.branch [
      | then-c-setup w ↦
          let on = eq-eqb (c.loop-c.c % rings) c.args.ring w.if-c-setup.true in
          let feeds = sum_on (fed p few listed s sp c.args.q rings c.args.ring) (λ (n : ℕ). n % rings == c.args.ring) c.loop-c.c on in
          let asks = sum_on (λ (d : ℕ). left p few listed s sp c.args.q rings c.args.ring d + come p few listed s sp c.args.q rings c.args.ring d) (λ (n : ℕ). n % rings == c.args.ring) c.loop-c.c on in
          let here = fed_as c.args.q c.loop-c.c c.homes-homes.ensures.squeues c.homes-homes.ensures.spread w.items-items.ensures.value w.feeds-entered.ensures.value in
          let out = left_as c.args.q c.loop-c.c c.homes-homes.ensures.squeues c.homes-homes.ensures.spread w.items-items.ensures.value w.leaving.ensures.value in
          let back = come_as c.args.q c.loop-c.c c.homes-homes.ensures.squeues c.homes-homes.ensures.spread w.items-items.ensures.value w.coming.ensures.value in
          record {
            feeds = omega (arith, w.entered-is, feeds, here, c.loop-c.invariant.feeds);
            asks = omega (arith, w.asks-is, asks, out, back, w.from.ensures, w.from-then-c-setup.ensures, c.loop-c.invariant.asks);
          }
      | else-c-setup w ↦
          let off = ne_eqb (c.loop-c.c % rings) c.args.ring w.if-c-setup.false in
          let feeds = sum_off (fed p few listed s sp c.args.q rings c.args.ring) (λ (n : ℕ). n % rings == c.args.ring) c.loop-c.c off in
          let asks = sum_off (λ (d : ℕ). left p few listed s sp c.args.q rings c.args.ring d + come p few listed s sp c.args.q rings c.args.ring d) (λ (n : ℕ). n % rings == c.args.ring) c.loop-c.c off in
          record { feeds = omega (arith, w.entered-is, feeds, c.loop-c.invariant.feeds); asks = omega (arith, w.asks-is, asks, c.loop-c.invariant.asks) }
    ]

pub returns-clause-few : goal.returns-clause-few
returns-clause-few c =
    let p = c.args.plan.now in
    let s = c.args.setup.now.squeues in
    let sp = c.args.setup.now.spread in
    let rings = c.args.setup.now.rings in
    let few = c.all_items_are_few.ensures p c.is_sound.ensures in
    let listed = c.is_sound.ensures.listed in
    let le : c.loop-c.c ≤ length p.tuples = omega (arith, c.loop-c.auto.c-end, c.conns-c-end.ensures.value) in
    let feeds = few_feeds p few listed s sp c.args.q rings c.args.ring c.loop-c.c le in
    let asks = few_asks p few listed s sp c.args.q rings c.args.ring c.loop-c.c le in
    (omega (arith, feeds, c.loop-c.invariant.feeds), omega (arith, asks, c.loop-c.invariant.asks))
