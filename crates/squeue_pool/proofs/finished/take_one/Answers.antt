use Rattle.std.proofs.Common.{◌≡◌, true, false, rules, slice_get, sym, ◌∙◌, subst}
use Rattle.std.specs.Prelude.{is_some}
use Rattle.std.proofs.lemmas.List.{length-set}
use Rattle.squeue_pool.specs.Finishing.{PartTaken}
use Rattle.squeue_pool.proofs.Taking.{here_now, lies_now, lies_on, stands_on, stands_without}
use Rattle.squeue_pool.proofs.finished.take_one.Goals as goal
use Rattle.perimeter_core.proofs.ActLists.{get_same}
use Rattle.squeue_rings.proofs.Slots.{got_other}

pub returns-then-not-is_here-clause-part : goal.returns-then-not-is_here-clause-part
returns-then-not-is_here-clause-part g c = λ blocks stands.
    let isnt : c.is_here.result ≡ false = search rules in
    lies_on g.R.Resident (g.R.Resident.origin c.args.resident.now) c.args.c (blocks c.args.c) (slice_get c.args.places.now.items c.args.c) (sym (c.is_here.ensures blocks stands) ∙ isnt)

pub returns-then-not-is_here-clause-stands : goal.returns-then-not-is_here-clause-stands
returns-then-not-is_here-clause-stands g c = λ blocks stands.
    let isnt : c.is_here.result ≡ false = search rules in
    stands_on g.R.Resident c.args.resident.now c.args.c blocks (sym (c.is_here.ensures blocks stands) ∙ isnt) stands

pub take_out-requires-clause-here : goal.take_out-requires-clause-here
take_out-requires-clause-here g c =
    let is_so : c.is_here.result ≡ true = search rules in
    here_now (g.R.Resident.stands c.args.resident.now) c.requires.stands.0 c.args.c c.requires.stands.1 (sym (c.is_here.ensures c.requires.stands.0 c.requires.stands.1) ∙ is_so)

pub returns-clause-part : goal.returns-clause-part
returns-clause-part g c = λ blocks stands.
    let is_so : c.is_here.result ≡ true = search rules in
    let there : is_some (blocks c.args.c) ≡ true = sym (c.is_here.ensures blocks stands) ∙ is_so in
    let o = g.R.Resident.origin c.args.resident.now in
    let old = c.args.places.now.items in
    subst (PartTaken g.R.Resident o c.args.c (blocks c.args.c) (slice_get old c.args.c)) (sym (get_same old c.args.c _ c.requires.range))
    (lies_now g.R.Resident o c.args.c (blocks c.args.c) (slice_get old c.args.c) c.take_out.result there c.take_out.ensures.owner (λ had is. c.take_out.ensures.part blocks had stands is))

pub returns-clause-others : goal.returns-clause-others
returns-clause-others g c = λ k apart. got_other c.args.places.now.items c.args.c k _ apart

pub returns-clause-count : goal.returns-clause-count
returns-clause-count g c = length-set c.args.places.now.items c.args.c _

pub returns-clause-stands : goal.returns-clause-stands
returns-clause-stands g c = λ blocks stands.
    let is_so : c.is_here.result ≡ true = search rules in
    stands_without g.R.Resident c.take_out.new.self c.args.c blocks (sym (c.is_here.ensures blocks stands) ∙ is_so) (c.take_out.ensures.stands blocks stands)
