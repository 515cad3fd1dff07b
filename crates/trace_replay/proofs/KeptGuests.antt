-- The guest that lies at a squeue's place of its connection.
use Rattle.std.proofs.Common.{◌≡◌, ℕ, Option, Some, List, get_or, length, map, ap, sym, ◌∙◌, arith}
use Rattle.std.specs.Prelude.{All, slice_get}
use Rattle.std.specs.Option.{option_map}
use Rattle.std.proofs.lemmas.List.{length-map}
use Rattle.std.proofs.lemmas.Option.{slice_get-get_or, slice_get-map}
use Rattle.perimeter_core.specs.declared.marks.Mark.{Mark}
use Rattle.conn_classifier.specs.Plan.{PlanOf}
use Rattle.conn_blocks.specs.CallLists.{CallLists}
use Rattle.ring_quotas.specs.declared.setup.Setup.{Setup}
use Rattle.squeue_replay.specs.Histories.{endings_of}
use Rattle.squeue_replay.specs.Standing.{GuestOf, GuestsStand}
use Rattle.histories.proofs.ListPlaces.{some_at}
use Rattle.trace_replay.specs.Joining.{guest_among}
use Rattle.trace_replay.proofs.AllOrders.{starts_of}

module _ {V G : Type 0} (items : V → List G) (f : G → GuestOf) (guests : List V) where
  pub row_at : (q : ℕ) (v : V) → slice_get guests q ≡ Some v → slice_get (map (λ w. map f (items w)) guests) q ≡ Some (map f (items v))
  row_at q v e = slice_get-map (λ w. map f (items w)) guests q ∙ ap (option_map (λ w. map f (items w))) e

  pub guest_at : (q c : ℕ) (v : V) (g : G) → slice_get guests q ≡ Some v → slice_get (items v) c ≡ Some g
      → guest_among (slice_get (map (λ w. map f (items w)) guests) q) c ≡ Some (f g)
  guest_at q c v g e h =
      ap (λ (o : Option (List GuestOf)). guest_among o c) (row_at q v e) ∙ (slice_get-map f (items v) c ∙ ap (option_map f) h)

  -- each squeue has all connections
  pub all_there : (p : PlanOf) (calls : CallLists) (setup : Setup) (marks : List (List Mark)) → GuestsStand (endings_of p calls setup marks) (map (λ w. map f (items w)) guests)
      → All (λ v. length (items v) ≡ length p.tuples) guests
  all_there p calls setup marks stand k d lt =
      let count : length (map (λ w. map f (items w)) guests) ≡ length guests = length-map guests (λ w. map f (items w)) in
      let e = some_at (endings_of p calls setup marks) k (omega (arith, lt, count, stand.count)) in
      let v : V = get_or guests k d in
      let row = row_at k v (slice_get-get_or guests k d lt) in
      sym (length-map (items v) f) ∙ (stand.all k e.0 (map f (items v)) e.1 row ∙ starts_of p calls setup marks k e.0 e.1)
