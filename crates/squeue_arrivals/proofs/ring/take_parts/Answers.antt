use Rattle.std.proofs.Common.{◌≡◌, ◌≢◌, ◌∙◌, ◌≤◌, ◌<◌, ℕ, Some, [], ◌∷◌, refl, length, length-append, slice_get, ap, sym, subst, arith}
use Rattle.std.proofs.lemmas.List.{take_all}
use Rattle.stream_stays.specs.declared.place.Place.TheVariants.{Vacant as Vacant'}
use Rattle.stream_stays.specs.declared.stay.Vacant.{Vacant}
use Rattle.squeue_streams.specs.Taking.{state_of}
use Rattle.squeue_arrivals.specs.Placed.{keys_in, place_of}
use Rattle.squeue_arrivals.proofs.KeysKept.{place_apart}
use Rattle.squeue_arrivals.specs.Arriving.{keys_of}
use Rattle.squeue_arrivals.specs.declared.served.KeyPart.{KeyPart}
use Rattle.squeue_arrivals.proofs.Parts.{each_on, keys_on, none_in}
use Rattle.squeue_arrivals.proofs.ring.take_parts.Goals as goal

pub take_at-vacant-requires : goal.take_at-vacant-requires
take_at-vacant-requires g c =
    let i = c.loop-i.i in
    let lt : i < length (keys_in c.args.keys.now) = omega (arith, c.loop-i-test.true, c.len-i-end.ensures) in
    let le : i ≤ i = omega arith in
    let v = c.requires.vacant i lt in
    subst (λ (d : ℕ). (w : Vacant g.row.T.Denot g.row.S.Denot) × (slice_get c.loop-i.places.items d ≡ Some (Vacant' w))) (sym c.place.ensures) (v.0, c.loop-i.invariant.ahead i le ∙ v.1)

pub loop-i-preserved : goal.loop-i-preserved
loop-i-preserved g c =
    let i = c.loop-i.i in
    let inv = c.loop-i.invariant in
    let keys = c.args.keys.now in
    let le : i ≤ i = omega arith in
    let was = c.take_at-vacant.ensures.was in
    let part : KeyPart g.row.S.Denot = record { key = c.key-key.result; state = c.into_state-state.result } in
    let there = sym (inv.ahead i le) ∙ (ap (slice_get c.loop-i.places.items) (sym c.place.ensures) ∙ was) in
    record {
      ahead = λ j more.
          let apart : place_of keys j ≢ c.place.result = λ e. place_apart keys j i (λ same. absurd (omega (arith, same, more))) (e ∙ c.place.ensures) in
          c.take_at-vacant.ensures.others (place_of keys j) apart ∙ inv.ahead j (omega (arith, more));
      its_keys = keys_on (keys_in keys) i c.loop-i.parts.items c.push_reserved.new.self.items part c.key-key.ensures inv.its_keys c.push_reserved.ensures.items;
      states = each_on (λ j part. (v : Vacant g.row.T.Denot g.row.S.Denot) × (slice_get c.args.places.items (place_of keys j) ≡ Some (Vacant' v)) × (part.state ≡ state_of v.part)) c.loop-i.parts.items c.push_reserved.new.self.items part
          c.push_reserved.ensures.items inv.states
          (subst (λ (n : ℕ). (v : Vacant g.row.T.Denot g.row.S.Denot) × (slice_get c.args.places.items (place_of keys n) ≡ Some (Vacant' v)) × (c.into_state-state.result ≡ state_of v.part)) (sym inv.many)
          (c.take_at-vacant.result, there, c.into_state-state.ensures));
      many = omega (arith, ap length c.push_reserved.ensures.items, length-append c.loop-i.parts.items (part ∷ []), inv.many);
      room = omega (arith, inv.room, c.push_reserved.ensures.capacity);
    }

pub loop-i-init : goal.loop-i-init
loop-i-init g c =
    let none = c.requires.room.0 in
    record {
      ahead = λ j le. refl;
      its_keys = ap keys_of none;
      states = λ j part at. absurd (none_in c.args.room.items j part none at);
      many = ap length none;
      room = c.requires.room.1;
    }

pub push_reserved-requires : goal.push_reserved-requires
push_reserved-requires g c = omega (arith, c.loop-i.invariant.many, c.loop-i.invariant.room, c.loop-i-test.true, c.len-i-end.ensures)

pub returns-clause-keys : goal.returns-clause-keys
returns-clause-keys g c =
    let last : length (keys_in c.args.keys.now) ≤ c.loop-i.i = omega (arith, c.loop-i-test.false, c.len-i-end.ensures) in
    c.loop-i.invariant.its_keys ∙ take_all c.loop-i.i (keys_in c.args.keys.now) last

pub returns-clause-states : goal.returns-clause-states
returns-clause-states g c = c.loop-i.invariant.states
