use Rattle.std.proofs.Common.{◌≡◌, ◌++◌, [], List, refl, sym, ap, ◌∙◌, subst, append_assoc}
use Rattle.std.proofs.lemmas.List.{append-nil}
use Rattle.perimeter_core.specs.declared.entries.Feed.{Feed}
use Rattle.squeue_rings.specs.Bringing.{AreAt}
use Rattle.squeue_rings.proofs.Running.{further, goes_on, part_ready}
use Rattle.squeue_rings.proofs.Slots.{none_left, parted}
use Rattle.squeue_rings.proofs.bringing.bring_rest.Goals as goal

pub loop-rest-init : goal.loop-rest-init
loop-rest-init g c =
    record {
      front = [];
      is = refl;
      at = λ r list done behind ready.
          subst (λ (l : List Feed). AreAt g.R.Resident.limits c.args.pace.homes.squeues c.args.pace.homes.spread r c.args.access.now.squeues.now l l c.args.places.now.items) (sym (append-nil done)) ready.at;
      paced = λ r list done behind ready before. before;
      polling = c.requires.polling;
    }

pub bring_piece-requires-clause-ready : goal.bring_piece-requires-clause-ready
bring_piece-requires-clause-ready g c =
    let limits = g.R.Resident.limits in
    let sq = c.args.pace.homes.squeues in
    let sp = c.args.pace.homes.spread in
    let ss = c.args.access.now.squeues.now in
    let ready = c.requires.ready in
    let i = c.loop-rest.invariant in
    let rest = c.loop-rest.rest.now in
    let a = c.split_at.result.0.now in
    let b = c.split_at.result.1.now in (
      ready.0,
      ready.1,
      ready.2 ++ i.front,
      b ++ ready.3,
      part_ready limits sq sp ready.0 ready.1 ss (ready.2 ++ i.front) rest ready.3 a b c.loop-rest.places.items
          (goes_on limits sq sp ready.0 ready.1 ss ready.2 c.args.rest.now ready.3 c.args.places.now.items ready.4 i.front rest i.is c.loop-rest.places.items (i.at ready.0 ready.1 ready.2 ready.3 ready.4))
          (parted c.min.result rest a b c.split_at.ensures.front c.split_at.ensures.back),
    )

pub loop-rest-preserved : goal.loop-rest-preserved
loop-rest-preserved g c =
    let limits = g.R.Resident.limits in
    let sq = c.args.pace.homes.squeues in
    let sp = c.args.pace.homes.spread in
    let ss = c.args.access.now.squeues.now in
    let i = c.loop-rest.invariant in
    let rest = c.loop-rest.rest.now in
    let a = c.split_at.result.0.now in
    let b = c.split_at.result.1.now in
    let is = parted c.min.result rest a b c.split_at.ensures.front c.split_at.ensures.back in
    record {
      front = i.front ++ a;
      is = i.is ∙ (ap (λ (l : List Feed). i.front ++ l) is ∙ sym (append_assoc i.front a b));
      at = λ r list done behind ready.
          further limits sq sp r list ss done c.args.rest.now behind c.args.places.now.items ready i.front rest i.is a c.bring_piece.new.places.items
          (c.bring_piece.ensures.brought r list (done ++ i.front) (b ++ behind)
          (part_ready limits sq sp r list ss (done ++ i.front) rest behind a b c.loop-rest.places.items (goes_on limits sq sp r list ss done c.args.rest.now behind c.args.places.now.items ready i.front rest i.is c.loop-rest.places.items (i.at r list done behind ready)) is));
      paced = λ r list done behind ready before.
          c.bring_piece.ensures.paced r list (done ++ i.front) (b ++ behind)
          (part_ready limits sq sp r list ss (done ++ i.front) rest behind a b c.loop-rest.places.items (goes_on limits sq sp r list ss done c.args.rest.now behind c.args.places.now.items ready i.front rest i.is c.loop-rest.places.items (i.at r list done behind ready)) is)
          (i.paced r list done behind ready before);
      polling = c.bring_piece.ensures.polling;
    }

pub returns-clause-brought : goal.returns-clause-brought
returns-clause-brought g c r list done behind ready =
    let i = c.loop-rest.invariant in
    let none = none_left c.loop-rest.rest.now c.is_empty.result c.is_empty.ensures c.loop-rest-test.false in
    let whole : c.args.rest.now ≡ i.front = i.is ∙ (ap (λ (l : List Feed). i.front ++ l) none ∙ append-nil i.front) in
    subst (λ (l : List Feed). AreAt g.R.Resident.limits c.args.pace.homes.squeues c.args.pace.homes.spread r c.args.access.now.squeues.now (done ++ l) (done ++ l) c.loop-rest.places.items) (sym whole) (i.at r list done behind ready)

pub returns-clause-paced : goal.returns-clause-paced
returns-clause-paced g c r list done behind ready before = c.loop-rest.invariant.paced r list done behind ready before
