use Rattle.std.proofs.Common.{◌≡◌, ◌++◌, [], List, take, refl, sym, ap, ◌∙◌, subst, append_assoc}
use Rattle.std.proofs.lemmas.List.{append-nil}
use Rattle.perimeter_core.specs.declared.entries.Feed.{Feed}
use Rattle.squeue_rings.specs.Bringing.{AreAt}
use Rattle.squeue_rings.proofs.Running.{further, goes_on}
use Rattle.squeue_rings.proofs.Slots.{none_left, rest_is}
use Rattle.squeue_rings.proofs.bringing.bring_piece.Goals as goal

pub loop-rest-init : goal.loop-rest-init
loop-rest-init g c =
    record {
      front = [];
      is = refl;
      at = λ r list done behind ready.
          subst (λ (l : List Feed). AreAt g.R.Resident.limits c.args.pace.homes.squeues c.args.pace.homes.spread r c.args.access.now.squeues.now l l c.args.places.now.items) (sym (append-nil done)) ready.at;
      paced = λ r list done behind ready before. before;
      polling = c.requires.polling;
    }

pub bring_run-len-requires-clause-ready : goal.bring_run-len-requires-clause-ready
bring_run-len-requires-clause-ready g c =
    let ready = c.requires.ready in
    let i = c.loop-rest.invariant in (
      ready.0,
      ready.1,
      ready.2 ++ i.front,
      ready.3,
      goes_on g.R.Resident.limits c.args.pace.homes.squeues c.args.pace.homes.spread ready.0 ready.1 c.args.access.now.squeues.now ready.2 c.args.piece.now ready.3 c.args.places.now.items ready.4 i.front c.loop-rest.rest.now i.is c.loop-rest.places.items
          (i.at ready.0 ready.1 ready.2 ready.3 ready.4),
    )

pub loop-rest-preserved : goal.loop-rest-preserved
loop-rest-preserved g c =
    let limits = g.R.Resident.limits in
    let sq = c.args.pace.homes.squeues in
    let sp = c.args.pace.homes.spread in
    let ss = c.args.access.now.squeues.now in
    let piece = c.args.piece.now in
    let i = c.loop-rest.invariant in
    let rest = c.loop-rest.rest.now in
    let len = c.bring_run-len.result in
    record {
      front = i.front ++ take len rest;
      is = i.is ∙ (ap (λ (l : List Feed). i.front ++ l) (rest_is len rest c.bring_run-len.ensures.len.1) ∙ sym (append_assoc i.front (take len rest) _));
      at = λ r list done behind ready.
          further limits sq sp r list ss done piece behind c.args.places.now.items ready i.front rest i.is (take len rest) c.bring_run-len.new.places.items
          (c.bring_run-len.ensures.brought r list (done ++ i.front) behind (goes_on limits sq sp r list ss done piece behind c.args.places.now.items ready i.front rest i.is c.loop-rest.places.items (i.at r list done behind ready)));
      paced = λ r list done behind ready before.
          c.bring_run-len.ensures.paced r list (done ++ i.front) behind (goes_on limits sq sp r list ss done piece behind c.args.places.now.items ready i.front rest i.is c.loop-rest.places.items (i.at r list done behind ready)) (i.paced r list done behind ready before);
      polling = c.bring_run-len.ensures.polling;
    }

pub returns-clause-brought : goal.returns-clause-brought
returns-clause-brought g c r list done behind ready =
    let i = c.loop-rest.invariant in
    let none = none_left c.loop-rest.rest.now c.is_empty.result c.is_empty.ensures c.loop-rest-test.false in
    let whole : c.args.piece.now ≡ i.front = i.is ∙ (ap (λ (l : List Feed). i.front ++ l) none ∙ append-nil i.front) in
    subst (λ (l : List Feed). AreAt g.R.Resident.limits c.args.pace.homes.squeues c.args.pace.homes.spread r c.args.access.now.squeues.now (done ++ l) (done ++ l) c.loop-rest.places.items) (sym whole) (i.at r list done behind ready)

pub returns-clause-paced : goal.returns-clause-paced
returns-clause-paced g c r list done behind ready before = c.loop-rest.invariant.paced r list done behind ready before
