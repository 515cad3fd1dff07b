use Rattle.std.proofs.Common.{◌≡◌, ◌∙◌, ap, sym, length, arith, ℕ}
use Rattle.std.specs.Option.{option_map}
use Rattle.sq_base.specs.declared.kinds.Tuple.{Tuple}
use Rattle.live_server.specs.Candidates.{crowds}
use Rattle.live_server.specs.declared.conn.Conn.{Conn}
use Rattle.live_server.proofs.CrowdingLemmas.{any_entry, earliest_is, next_earliest}
use Rattle.live_server.proofs.crowding.longest_silent.Goals as goal

pub loop-place-preserved : goal.loop-place-preserved
loop-place-preserved g c =
    let cs = g.T.ConnTable.conns c.args.table.now in
    let so_far = c.loop-place.invariant in
    record {
      earliest = next_earliest (λ a. crowds a c.args.crowders.now) cs c.loop-place.place c.loop-place.found c.next_found-found.result c.peer_at.result c.peer_at.ensures so_far.earliest c.next_found-found.ensures;
      within = omega (arith, so_far.within, so_far.all, c.loop-place-test.true);
      all = so_far.all;
    }

pub returns-in_err-place : goal.returns-in_err-place
returns-in_err-place g c =
    let cs = g.T.ConnTable.conns c.args.table.now in
    let so_far = c.loop-place.invariant in
    let all : c.loop-place.place ≡ length cs = omega (arith, so_far.within, so_far.all, c.loop-place-test.false) in
    c.from_residual.ensures ∙ ap (option_map (λ (b : ℕ × ℕ). b.0)) (sym c.in_err-place.was)
    ∙ earliest_is (λ (e : Tuple × Conn). crowds e.0.client.0 c.args.crowders.now) (λ (e : Tuple × Conn). e.1.heard) cs c.loop-place.place c.loop-place.found any_entry all so_far.earliest

pub returns : goal.returns
returns g c =
    let cs = g.T.ConnTable.conns c.args.table.now in
    let so_far = c.loop-place.invariant in
    let all : c.loop-place.place ≡ length cs = omega (arith, so_far.within, so_far.all, c.loop-place-test.false) in
    ap (option_map (λ (b : ℕ × ℕ). b.0)) (sym c.in_ok-place.was)
    ∙ earliest_is (λ (e : Tuple × Conn). crowds e.0.client.0 c.args.crowders.now) (λ (e : Tuple × Conn). e.1.heard) cs c.loop-place.place c.loop-place.found any_entry all so_far.earliest
