use Rattle.std.proofs.Common.{◌≡◌, ◌∙◌, [], true, false, refl, rules}
use Rattle.live_server.specs.Serving.{ServerOf, has_place, server_of}
use Rattle.live_server.proofs.ServerLemmas.{fewer_wait, goes_on_yielding, stops}
use Rattle.live_server.proofs.rules.Rules.make_place.Goals as goal

pub yielding-smaller : goal.yielding-smaller
yielding-smaller g c =
    fewer_wait c.in-Some.waiting c.pop_front.new.self.items (server_of g.T.ConnTable.conns c.yielding.self) (server_of g.T.ConnTable.conns c.yield_place.new.self) c.in-Some.ensures.items c.yield_place.ensures.yields

pub yielding-preserved : goal.yielding-preserved
yielding-preserved g c =
    let before : ServerOf = server_of g.T.ConnTable.conns c.yielding.self in
    let full : has_place before ≡ false = search rules in record {
      good = c.yield_place.ensures.good;
      told = g.met.T.ConnTable.tells_on c.args.self.now.table c.yielding.self.table c.yield_place.new.self.table [] [] c.yielding.invariant.told c.yield_place.ensures.told;
      leads = goes_on_yielding c.in-Some.waiting c.pop_front.new.self.items before (server_of g.T.ConnTable.conns c.yield_place.new.self) full c.in-Some.ensures.items c.yield_place.ensures.yields ∙ c.yielding.invariant.leads;
      new = λ t new. c.yield_place.ensures.new t (c.yielding.invariant.new t new);
    }

pub returns-clause-place : goal.returns-clause-place
returns-clause-place g c =
    let free : has_place (server_of g.T.ConnTable.conns c.yielding.self) ≡ true = search rules in
    stops c.yielding.self.waiting.items (server_of g.T.ConnTable.conns c.yielding.self) free ∙ c.yielding.invariant.leads

pub yielding-init : goal.yielding-init
yielding-init g c = record { good = c.requires.good; told = g.met.T.ConnTable.tells_nothing c.args.self.now.table; leads = refl; new = λ t new. new }
