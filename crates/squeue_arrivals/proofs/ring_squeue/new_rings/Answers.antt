use Rattle.std.proofs.Common.{◌≡◌, ◌∙◌, ◌*◌, length, sym, ap, subst, arith}
use Rattle.std.specs.Prelude.{All}
use Rattle.squeue_streams.specs.Taking.{state_of}
use Rattle.squeue_arrivals.specs.Keyed.{first_of}
use Rattle.squeue_arrivals.specs.Tasks.{AreNewRings}
use Rattle.squeue_arrivals.proofs.ring_squeue.new_rings.Goals as goal

pub returns-clause-begun : goal.returns-clause-begun
returns-clause-begun g c =
    subst (λ work. All (λ s. g.X.KeySteps.begins work (state_of s)) (first_of c.of-keyed.result)) (sym c.of-keyed.ensures.steps)
    (subst (All (λ s. g.X.KeySteps.begins c.args.steps (state_of s))) (sym c.of-keyed.ensures.first) c.in_ok-producers.ensures.begun)

pub returns-clause-many : goal.returns-clause-many
returns-clause-many g c = ap length c.of-keyed.ensures.first ∙ (c.in_ok-producers.ensures.pairs.many.1 ∙ ap (λ n. n * c.args.pool.now.places) (let e : c.len-count.result ≡ length c.args.sources.items = omega (arith, c.len-count.ensures, c.args.sources.ok.0) in e))

pub returns-clause-rings : goal.returns-clause-rings
returns-clause-rings g c =
    subst (λ parts. AreNewRings c.args.pool.now.places c.args.pool.now.room parts c.args.sources.items c.in_ok-rings.rings.items) (sym c.of-keyed.ensures.first)
    (c.in_ok-rings.ensures c.in_ok-producers.parts.items c.in_ok-places.ensures)
