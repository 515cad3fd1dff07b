use Rattle.std.proofs.Common.{◌≡◌, ◌+◌, ℕ, length, ap, sym, ◌∙◌, arith}
use Rattle.std.proofs.lemmas.List.{length-map}
use Rattle.std.proofs.lemmas.Result.{IfOk-weaker}
use Rattle.squeue_state.specs.Behind.{ever}
use Rattle.histories.specs.Quotas.{ask_quotas}
use Rattle.perimeter_core.specs.History.{feed_quotas}
use Rattle.squeue_arrivals.specs.Seating.{lives_of, lookers_of}
use Rattle.squeue_arrivals.proofs.Seated.{both_ok, lives_asks, lives_feeds, lives_long, new_empty, serves}
use Rattle.squeue_arrivals.proofs.seating.new_squeue.Given.{Over}
use Rattle.squeue_arrivals.proofs.seating.new_squeue.Goals.{After-deref}
use Rattle.squeue_arrivals.proofs.seating.new_squeue.Goals as goal

-- the lives that are handed over
given : (g : Over) (c : After-deref g) → ever c.deref.result.now ≡ lives_of c.args.rings (lookers_of c.args.watched)
given g c = ap ever c.deref.ensures.value ∙ c.in_ok-all.ensures

counted : (g : Over) (c : After-deref g) → length c.deref.result.now ≡ c.args.rings + lookers_of c.args.watched
counted g c = sym (length-map c.deref.result.now (λ l. (l.feeds, l.asks))) ∙ (ap length (given g c) ∙ lives_long c.args.rings (lookers_of c.args.watched))

pub make_bounded-requires-clause-few : goal.make_bounded-requires-clause-few
make_bounded-requires-clause-few g c =
    let n = counted g (goal.at.make_bounded-requires-clause-few g c).After-deref in
    (omega (arith, n, c.requires.rings.0), omega (arith, n, c.requires.rings.1))

pub make_bounded-requires-clause-rings : goal.make_bounded-requires-clause-rings
make_bounded-requires-clause-rings g c =
    let n = counted g (goal.at.make_bounded-requires-clause-rings g c).After-deref in
    (c.requires.rings.0, omega (arith, n))

pub make_bounded-requires-clause-feeds : goal.make_bounded-requires-clause-feeds
make_bounded-requires-clause-feeds g c =
    let e = ap feed_quotas (given g (goal.at.make_bounded-requires-clause-feeds g c).After-deref) ∙ lives_feeds c.args.rings (lookers_of c.args.watched) in
    omega (arith, e, c.requires.rings.1)

pub make_bounded-requires-clause-asks : goal.make_bounded-requires-clause-asks
make_bounded-requires-clause-asks g c =
    let e = ap ask_quotas (given g (goal.at.make_bounded-requires-clause-asks g c).After-deref) ∙ lives_asks c.args.rings (lookers_of c.args.watched) in
    omega (arith, e, c.requires.rings.1)

pub make_bounded-requires-clause-fresh : goal.make_bounded-requires-clause-fresh
make_bounded-requires-clause-fresh g c = new_empty g.R.Resident.stands c.args.parts 0 c.requires.new

pub returns-clause-serves : goal.returns-clause-serves
returns-clause-serves g c =
    let r = c.requires in
    let is = given g (goal.at.returns-clause-serves g c).After-deref in
    IfOk-weaker c.make_bounded.result _ _ (λ made m. serves g.R.Resident.stands g.R.Resident.size g.R.Resident.limits c.args.number c.args.rings (lookers_of c.args.watched) _ (ever c.deref.result.now) c.args.parts made.0.given m r.rings.0 is r.new r.feeds r.leaves) c.make_bounded.ensures.given

pub returns-clause-lives : goal.returns-clause-lives
returns-clause-lives g c =
    let is = given g (goal.at.returns-clause-lives g c).After-deref in
    IfOk-weaker c.make_bounded.result _ _ (λ made m. m.its_quotas ∙ is) c.make_bounded.ensures.given

pub returns-clause-room : goal.returns-clause-room
returns-clause-room g c =
    IfOk-weaker c.make_bounded.result _ _
    (λ made m. (let q = ap length m.its_quotas in let n = length-map {B = ℕ × ℕ} c.deref.result.now (λ l. (l.feeds, l.asks)) in omega (arith, q, n, m.its_room))) c.make_bounded.ensures.given

pub returns-clause-first : goal.returns-clause-first
returns-clause-first g c = IfOk-weaker c.make_bounded.result _ _ (λ made m. m.its_first) c.make_bounded.ensures.given

pub returns-clause-passes : goal.returns-clause-passes
returns-clause-passes g c =
    both_ok c.make_bounded.result (λ made m p. (let q = ap length m.its_quotas in let n = length-map {B = ℕ × ℕ} c.deref.result.now (λ l. (l.feeds, l.asks)) in omega (arith, q, n, p.0), p.1)) c.make_bounded.ensures.given
    c.make_bounded.ensures.passes
