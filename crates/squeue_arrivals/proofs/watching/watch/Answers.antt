use Rattle.std.proofs.Common.{◌≡◌, ℕ, ap, sym, ◌∙◌, subst, arith}
use Rattle.turn_gate.specs.Passes.{mine, number, seen}
use Rattle.perimeter_core.specs.Legal.{asks_by}
use Rattle.placed_parts.specs.Placing.{limits_of, origin_of}
use Rattle.squeue_state.specs.Naming.{setting_of}
use Rattle.squeue_arrivals.specs.Keyed.{work_of}
use Rattle.squeue_drain.proofs.Deciding.{begins_more}
use Rattle.squeue_arrivals.specs.Watching.{SawLast}
use Rattle.squeue_arrivals.proofs.Looking.{asks_closed, asks_same}
use Rattle.squeue_arrivals.proofs.watching.watch.Goals as goal

pub returns-clause-ended : goal.returns-clause-ended
returns-clause-ended g c =
    let a = c.close_pass-pass.ensures in
    let w = c.look_all-pass.ensures in
    record { pass = a.is_pass; is_number = a.same_number ∙ w.number; over = λ at. absurd (omega (arith, at, a.same_number, w.may.no_worker)) }

pub returns-clause-watched : goal.returns-clause-watched
returns-clause-watched g c =
    let a = c.close_pass-pass.ensures in
    let w = c.look_all-pass.ensures in
    let p = c.look_all-pass.result.0 in
    let q = c.close_pass-pass.result in
    let n = number p in
    let begins = begins_more (seen p) a.found _ a.goes_on in
    let own : number c.args.pass ≡ number q = sym (a.same_number ∙ w.number) in
    let there : asks_by (number q) (seen p) ≡ g.V.Watches.many c.args.watcher.now =
    ap (λ (k : ℕ). asks_by k (seen p)) (sym own) ∙ (let e = w.asks in let z = c.requires.none in let l = c.looks.ensures in omega (arith, e, z, l)) in
    let same : asks_by (number q) (seen q) ≡ asks_by (number q) (seen p) =
    subst (λ (k : ℕ). asks_by k (seen q) ≡ asks_by k (seen p)) (sym a.same_number)
    (ap (asks_by n) a.now_seen ∙ (asks_closed n n a.found ∙ asks_same n (seen p) a.found (mine p) w.may.pass.2 a.own)) in
    subst (λ x. SawLast g.X.KeySteps.begins g.X.KeySteps.step (work_of (origin_of c.args.sq.now.given.first)) (g.V.Watches.says c.args.watcher.now) (setting_of limits_of c.args.sq.now.given) (number x) (g.V.Watches.many c.args.watcher.now) (seen x) c.look_all-pass.result.1) (sym c.of-known.ensures) (record {
      before = seen p;
      is_beginning = (begins.0, a.now_seen ∙ begins.1);
      there = there;
      no_more = same ∙ there;
      some = λ lt. w.some (let l = c.looks.ensures in omega (arith, lt, l));
      looked = w.looked;
    })
