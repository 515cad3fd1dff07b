use Rattle.std.proofs.Common.{◌∙◌}
use Rattle.live_server.proofs.CrowdingLemmas.{place_by}
use Rattle.live_server.proofs.crowding.shed_place.Goals as goal

pub returns : goal.returns
returns g c = c.longest_silent.ensures ∙ (λ j. place_by (λ e. c.find_crowders.ensures e j) (g.T.ConnTable.conns c.args.table.now))
