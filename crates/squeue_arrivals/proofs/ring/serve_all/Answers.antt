use Rattle.std.proofs.Common.{◌≡◌, ◌∙◌, ◌++◌, ◌∷◌, [], ◌≤◌, ℕ, true, false, length, length-append, refl, ap, sym, arith, rules, append-nil}
use Rattle.std.specs.Prelude.{is_some}
use Rattle.placed_parts.specs.Placing.{limits_of, origin_of}
use Rattle.squeue_state.specs.declared.guarded.Life.{Life}
use Rattle.squeue_arrivals.specs.Arriving.{most_of_ring}
use Rattle.squeue_arrivals.specs.Keyed.{Tells}
use Rattle.squeue_arrivals.specs.Placed.{keys_in}
use Rattle.squeue_arrivals.specs.Told.{told}
use Rattle.squeue_arrivals.specs.declared.served.Cause.TheVariants as Cause'
use Rattle.squeue_arrivals.proofs.Given.{ended_so, gave_more, gave_on, refused_so, stopped, went_on}
use Rattle.squeue_arrivals.proofs.KeysKept.{keys_kept, ring_on}
use Rattle.squeue_arrivals.proofs.Parts.{none_in}
use Rattle.squeue_arrivals.proofs.ring.serve_all.Goals as goal

pub items-init : goal.items-init
items-init g c =
    record {
      all = [];
      has = (c.requires.keys, λ i key at. absurd (none_in (keys_in c.args.keys.now) i key c.requires.none at));
      same_pass = refl;
      ring = record { number = refl; rings = refl; most = refl };
      asks = omega (arith, c.requires.asks);
      counted = omega arith;
      gave = sym (append-nil (g.A.Arrivals.given c.args.source.now));
      same = refl;
    }

pub returns-then-left-eq0-clause-number : goal.returns-then-left-eq0-clause-number
returns-then-left-eq0-clause-number g c = c.items.invariant.same_pass

pub returns-then-left-eq0-clause-ring : goal.returns-then-left-eq0-clause-ring
returns-then-left-eq0-clause-ring g c = c.items.invariant.ring

pub returns-then-left-eq0-clause-asks : goal.returns-then-left-eq0-clause-asks
returns-then-left-eq0-clause-asks g c = omega (arith, c.items.invariant.asks, c.items.invariant.counted)

pub returns-then-left-eq0-clause-given : goal.returns-then-left-eq0-clause-given
returns-then-left-eq0-clause-given g c =
    let i = c.items.invariant in
    let given = g.A.Arrivals.given in
    let next = c.next-arrival.ensures.given ∙ ap (λ a. given c.items.source ++ told a) c.in-Item.is in
    let many : most_of_ring ≤ length i.all = omega (arith, i.counted, c.if-left-eq0.true) in
    refused_so (Tells g.X.KeySteps.step) limits_of c.args.line.now.squeue.now (origin_of c.args.line.now.squeue.now.given.first) g.A.Arrivals.origin g.A.Arrivals.given g.A.Arrivals.is_over i.all c.items.pass c.items.stays c.items.keys (record { key = c.in-Item.key; item = c.in-Item.item; cause = Cause'.LifeIsOver }) c.args.source.now c.stop.new.self
    i.has (c.stop.ensures.given ∙ gave_more (given c.args.source.now) i.all (given c.items.source) (given c.next-arrival.new.self) ((c.in-Item.key, c.in-Item.item) ∷ []) i.gave next) (c.stop.ensures.origin ∙ (c.next-arrival.ensures.origin ∙ i.same)) many

pub arrive-next-requires-clause-keys : goal.arrive-next-requires-clause-keys
arrive-next-requires-clause-keys g c = (c.items.invariant.all, c.items.invariant.has, omega (arith, c.items.invariant.counted, c.if-left-eq0.false))

pub arrive-next-requires-clause-asks : goal.arrive-next-requires-clause-asks
arrive-next-requires-clause-asks g c = omega (arith, c.items.invariant.asks, c.items.invariant.counted)

pub returns-then-is_some-clause-number : goal.returns-then-is_some-clause-number
returns-then-is_some-clause-number g c = c.arrive-next.ensures.number ∙ c.items.invariant.same_pass

pub returns-then-is_some-clause-ring : goal.returns-then-is_some-clause-ring
returns-then-is_some-clause-ring g c = ring_on c.args.keys.now c.items.keys c.arrive-next.new.keys c.items.invariant.ring c.arrive-next.ensures.ring

pub returns-then-is_some-clause-asks : goal.returns-then-is_some-clause-asks
returns-then-is_some-clause-asks g c = omega (arith, c.items.invariant.asks, c.items.invariant.counted, c.arrive-next.ensures.asks, c.if-left-eq0.false)

pub returns-then-is_some-clause-given : goal.returns-then-is_some-clause-given
returns-then-is_some-clause-given g c =
    let i = c.items.invariant in
    let given = g.A.Arrivals.given in
    let next = c.next-arrival.ensures.given ∙ ap (λ a. given c.items.source ++ told a) c.in-Item.is in
    let some : is_some c.arrive-next.result.1 ≡ true = search rules in
    stopped (Tells g.X.KeySteps.step) limits_of c.args.line.now.squeue.now (origin_of c.args.line.now.squeue.now.given.first) g.A.Arrivals.origin g.A.Arrivals.given g.A.Arrivals.is_over i.all c.in-Item.key c.in-Item.item c.arrive-next.result.0 c.arrive-next.new.stays c.arrive-next.new.keys c.arrive-next.result.1 c.args.source.now c.stop-then-is_some.new.self some
    (c.arrive-next.ensures.arrived i.all i.has) (c.stop-then-is_some.ensures.given ∙ gave_more (given c.args.source.now) i.all (given c.items.source) (given c.next-arrival.new.self) ((c.in-Item.key, c.in-Item.item) ∷ []) i.gave next) (c.stop-then-is_some.ensures.origin ∙ (c.next-arrival.ensures.origin ∙ i.same))

pub items-preserved-else-is_some-2 : goal.items-preserved-else-is_some-2
items-preserved-else-is_some-2 g c =
    let i = c.items.invariant in
    let given = g.A.Arrivals.given in
    let item : ℕ × g.row.X-Item.Denot = (c.in-Item.key, c.in-Item.item) in
    let next = c.next-arrival.ensures.given ∙ ap (λ a. given c.items.source ++ told a) c.in-Item.is in
    let none : is_some c.arrive-next.result.1 ≡ false = search rules in
    let long = length-append i.all (item ∷ []) in
    record {
      all = i.all ++ item ∷ [];
      has = went_on (Tells g.X.KeySteps.step) limits_of c.args.line.now.squeue.now (origin_of c.args.line.now.squeue.now.given.first) g.A.Arrivals.origin g.A.Arrivals.given g.A.Arrivals.is_over i.all c.in-Item.key c.in-Item.item c.arrive-next.result.0 c.arrive-next.new.stays c.arrive-next.new.keys c.arrive-next.result.1 none (c.arrive-next.ensures.arrived i.all i.has);
      same_pass = c.arrive-next.ensures.number ∙ i.same_pass;
      ring = ring_on c.args.keys.now c.items.keys c.arrive-next.new.keys i.ring c.arrive-next.ensures.ring;
      asks = omega (arith, i.asks, c.arrive-next.ensures.asks, long);
      counted = omega (arith, i.counted, long, c.if-left-eq0.false);
      gave = gave_on (given c.args.source.now) i.all (given c.items.source) (given c.next-arrival.new.self) (item ∷ []) i.gave next;
      same = c.next-arrival.ensures.origin ∙ i.same;
    }

pub enter_some-pass-requires : goal.enter_some-pass-requires
enter_some-pass-requires g c = c.items.invariant.has.0.knows

pub items-preserved : goal.items-preserved
items-preserved g c =
    let i = c.items.invariant in
    let e = c.enter_some-pass.ensures in
    let given = g.A.Arrivals.given in
    let next = c.next-arrival.ensures.given ∙ (ap (λ a. given c.items.source ++ told a) c.in-NoneYet.is ∙ append-nil (given c.items.source)) in
    record {
      all = i.all;
      has = (keys_kept (Tells g.X.KeySteps.step) limits_of c.args.line.now.squeue.now (origin_of c.args.line.now.squeue.now.given.first) i.all c.items.pass c.enter_some-pass.result c.items.stays c.enter_some-pass.new.stays c.items.keys i.has.0 e.knows e.number e.grows e.keeps, i.has.1);
      same_pass = e.number ∙ i.same_pass;
      ring = i.ring;
      asks = omega (arith, i.asks, ap (λ (l : Life). l.asks) e.life);
      counted = i.counted;
      gave = next ∙ i.gave;
      same = c.next-arrival.ensures.origin ∙ i.same;
    }

pub returns-in-End-clause-number : goal.returns-in-End-clause-number
returns-in-End-clause-number g c = c.items.invariant.same_pass

pub returns-in-End-clause-ring : goal.returns-in-End-clause-ring
returns-in-End-clause-ring g c = c.items.invariant.ring

pub returns-in-End-clause-asks : goal.returns-in-End-clause-asks
returns-in-End-clause-asks g c = omega (arith, c.items.invariant.asks, c.items.invariant.counted)

pub returns-in-End-clause-given : goal.returns-in-End-clause-given
returns-in-End-clause-given g c =
    let i = c.items.invariant in
    let given = g.A.Arrivals.given in
    let next = c.next-arrival.ensures.given ∙ (ap (λ a. given c.items.source ++ told a) c.in-End.is ∙ append-nil (given c.items.source)) in
    ended_so (Tells g.X.KeySteps.step) limits_of c.args.line.now.squeue.now (origin_of c.args.line.now.squeue.now.given.first) g.A.Arrivals.origin g.A.Arrivals.given g.A.Arrivals.is_over i.all c.items.pass c.items.stays c.items.keys c.args.source.now c.next-arrival.new.self i.has (next ∙ i.gave) (c.next-arrival.ensures.origin ∙ i.same)
    (c.next-arrival.ensures.over c.in-End.is)
