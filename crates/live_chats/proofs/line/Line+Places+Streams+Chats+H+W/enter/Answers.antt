use Rattle.std.proofs.Common.{◌∙◌, refl}
use Rattle.turn_gate.specs.Passes.{seen}
use Rattle.live_chats.proofs.LivedLemmas.{begins_itself, begins_on}
use Rattle.live_chats.proofs.line.Line+Places+Streams+Chats+H+W.enter.Goals as goal

pub turns-init : goal.turns-init
turns-init g c = record { knows = c.requires; number = refl; grows = begins_itself (seen c.args.pass); places = refl; touched = refl; life = refl }

pub turns-preserved : goal.turns-preserved
turns-preserved g c =
    let one = c.enter_all-next.ensures in
    let i = c.turns.invariant in
    record {
      knows = one.knows;
      number = one.number ∙ i.number;
      grows = begins_on _ _ _ i.grows one.grows;
      places = one.places ∙ i.places;
      touched = one.touched ∙ i.touched;
      life = one.life ∙ i.life;
    }

pub returns-then-entered-clause-grows : goal.returns-then-entered-clause-grows
returns-then-entered-clause-grows g c = begins_on _ _ _ c.turns.invariant.grows c.enter_all-next.ensures.grows
