-- What a run has done, from what its squeues, its rings and their lanes have become.
use Rattle.std.proofs.Common.{◌≡◌, ℕ, suc, ◌+◌, ◌<◌, Option, Some, List, [], ◌∷◌, All, Vec, Global, length, map, slice_get, refl, ap, sym, ◌∙◌, subst, arith}
use Rattle.std.proofs.lemmas.List.{length-map}
use Rattle.std.proofs.lemmas.Option.{slice_get_within}
use mathlib.Core.List.{IsPrefix}
use Rattle.turn_gate.specs.Passes.{mine, number, seen}
use Rattle.turn_gate.specs.declared.pass.Pass.{Pass}
use Rattle.perimeter_core.specs.declared.resident.Resident.{Ghosts as Residing}
use Rattle.perimeter_core.specs.Blocks.{Blocks}
use Rattle.perimeter_core.specs.History.{Element}
use Rattle.perimeter_core.specs.Legal.{feeds_by}
use Rattle.histories.specs.Endings.{Ending, HasEnded}
use Rattle.histories.proofs.ListPlaces.{from_map, got_map, some_at}
use Rattle.squeue_state.specs.Naming.{Named, setting_of}
use Rattle.squeue_rings.proofs.Works.{got_or}
use Rattle.squeue_pool.specs.declared.work.Left.{Left}
use Rattle.squeue_pool.specs.Leftovers.{HaveLeft, Leaves}
use Rattle.shards.specs.declared.lanes.SqueueEnd.{SqueueEnd}
use Rattle.shards.specs.declared.shared.Shared.{Ghosts}
use Rattle.shards.specs.declared.shard.Shard.{Shard}
use Rattle.shards.specs.Lanes.{IsLane}
use Rattle.shards.specs.Mixing.{IsMix}
use Rattle.shards.specs.Merging.{IsMerged, SameLane, went_to}
use Rattle.shards.specs.Sharing.{ends_of, origin_of, shared_of}
use Rattle.shard_rings.specs.declared.cell.Cell.{Cell}
use Rattle.shard_rings.specs.declared.run.RingTask.{RingTask}
use Rattle.shard_rings.specs.declared.run.ServedShard.{ServedShard}
use Rattle.shard_rings.specs.declared.run.Task.{Task}
use Rattle.shard_rings.specs.declared.run.Task.TheVariants.{Ring}
use Rattle.shard_rings.specs.Cells.{cell}
use Rattle.shard_rings.specs.Columns.{AreEnded, IsColumn, IsEnded, MayFinishAll, rings_in}
use Rattle.shard_rings.specs.Jobs.{HasBroughtOf}
use Rattle.shard_rings.specs.Knowing.{SameEnd, came_of, sent_of}
use Rattle.shard_rings.specs.Making.{AreMadeOf, AreTasks, HasBegun, IsLaid, setting_for}
use Rattle.shard_rings.specs.Runs.{HasRun, IsServed, as_came, column_of, row_of}
use Rattle.shard_rings.specs.Tasks.{HasFed}
use Rattle.shard_rings.proofs.Apart.{rings_are}
use Rattle.shard_rings.proofs.Closing.{own_feeds}
use Rattle.shard_rings.proofs.Columns.{is_mix}
use Rattle.shard_rings.proofs.Finishing.{at_all}
use Rattle.shard_rings.proofs.Rows.{cell_is}

is_some_of : {A : Type 0} {x y : A} → Some x ≡ Some y → x ≡ y
is_some_of is = cc is

module _ {T : Type 0} where
  -- ends of the same lanes are the ends of one lane
  lane_still : (a b : Cell T) (x y : SqueueEnd T) → SameEnd a b → SameLane x y → IsLane a.end x → IsLane b.end y
  lane_still a b x y ((o, o2), (k, k2)) ((i, i2), (g, g2)) (l, m) = (
    (i.0 ∙ (l.0 ∙ sym o.0), i.1 ∙ (l.1 ∙ sym o.1), i.2 ∙ (l.2 ∙ sym o.2), i.3 ∙ (l.3 ∙ sym o.3)),
    (k.0 ∙ (m.0 ∙ sym g.0), k.1 ∙ (m.1 ∙ sym g.1), k.2 ∙ (m.2 ∙ sym g.2), k.3 ∙ (m.3 ∙ sym g.3)),
  )

  -- the column of a matrix of what is in each cell
  column_is : (f : Cell T → List T) (rows : List (Vec (Cell T) Global)) (q : ℕ) (column : List (Cell T)) → IsColumn rows q column → column_of q (map (λ row. map f row.items) rows) ≡ map f column
  column_is f [] q [] is = refl
  column_is f [] q (c ∷ column) is = absurd (let n = is.count in omega (arith, n))
  column_is f (row ∷ rows) q [] is = absurd (let n = is.count in omega (arith, n))
  column_is f (row ∷ rows) q (c ∷ column) is =
      let h = is.each 0 row refl in
      let one : h.0 ≡ c = is_some_of (sym h.2) in
      let here : cell (map f row.items) q ≡ f c = cell_is f row.items q h.0 h.1 ∙ ap f one in
      let rest = column_is f rows q column (record { count = let n = is.count in omega (arith, n); each = λ p r at. is.each (suc p) r at }) in
      rw (here, rest) refl

  -- a row of it
  row_is : (f : Cell T → List T) (rows : List (Vec (Cell T) Global)) (p : ℕ) (row : Vec (Cell T) Global) → slice_get rows p ≡ Some row → row_of p (map (λ r. map f r.items) rows) ≡ map f row.items
  row_is f rows p row at = got_or (map (λ (r : Vec (Cell T) Global). map f r.items) rows) p (map f row.items) [] (got_map (λ (r : Vec (Cell T) Global). map f r.items) rows p row at)

module _ {X H T O P Q B : Type 0} {G : Ghosts X T O} (R : Residing (Shard X H T O G) P Q) (Did : B → List (List T) → List (List T) → B → Type 0)
    (merges : (r : Shard X H T O G) (b : Blocks) → R.stands r b → IsMerged G.is_made (ends_of r) (shared_of r)) (its_origin : (r t : Shard X H T O G) → R.origin r ≡ R.origin t → origin_of r ≡ origin_of t)
    (count : ℕ) (shared : List X) (before : List B) (residents : List (Shard X H T O G)) (first tasks : List (Task B T)) (begun : HasBegun count shared before residents first) (ss : List (Named (Shard X H T O G))) (made : AreMadeOf R.limits count residents ss)
    (lent : ℕ → List (Option (Pass Element))) (after : AreTasks count (length ss) (HasBroughtOf R.limits ss Did first lent) tasks) (vs : List (Left (Shard X H T O G))) (left : HaveLeft R 0 count lent ss vs)
    (rows : List (Vec (Cell T) Global)) (rows_are : rows ≡ map (λ t. t.cells) (rings_in tasks)) where
  many_squeues : length ss ≡ length shared
  many_squeues = made.count ∙ begun.are_shards.count

  -- the rings' tasks, by number, with those that they were
  rings_count : length (rings_in tasks) ≡ count
  rings_count = (rings_are count (length ss) (HasBroughtOf R.limits ss Did first lent) tasks after).0

  ring_was : (p : ℕ) (b : RingTask B T) → slice_get (rings_in tasks) p ≡ Some b → HasBroughtOf R.limits ss Did first lent p b
  ring_was p b at = ((rings_are count (length ss) (HasBroughtOf R.limits ss Did first lent) tasks after).1 p b at).1

  ring_below : (p : ℕ) (b : RingTask B T) → slice_get (rings_in tasks) p ≡ Some b → p < count
  ring_below p b at = let lt = slice_get_within (rings_in tasks) p b at in omega (arith, lt, rings_count)

  ring_laid : (p : ℕ) (b : RingTask B T) (at : slice_get (rings_in tasks) p ≡ Some b) → IsLaid before begun.ends p (ring_was p b at).a
  ring_laid p b at =
      let h = begun.are_tasks.rings p (ring_below p b at) in
      let w = ring_was p b at in
      let same : h.0 ≡ w.a = ring_is h.0 w.a (is_some_of (sym h.1 ∙ w.was)) in
      subst (IsLaid before begun.ends p) same h.2
    where
      ring_is : (x y : RingTask B T) → Ring x ≡ Ring y → x ≡ y
      ring_is x y e = cc e

  cells_count : (p : ℕ) (b : RingTask B T) (at : slice_get (rings_in tasks) p ≡ Some b) → length b.cells.items ≡ length shared
  cells_count p b at = (ring_was p b at).brought.ends.count ∙ ((ring_laid p b at).ring.cells ∙ begun.are_ends.count)

  rows_count : length rows ≡ count
  rows_count = ap length rows_are ∙ (length-map (rings_in tasks) (λ t. t.cells) ∙ rings_count)

  row_ring : (p : ℕ) (row : Vec (Cell T) Global) → slice_get rows p ≡ Some row → (b : RingTask B T) × (slice_get (rings_in tasks) p ≡ Some b) × (b.cells ≡ row)
  row_ring p row at = from_map (λ (t : RingTask B T). t.cells) (rings_in tasks) p row (ap (λ l. slice_get l p) (sym rows_are) ∙ at)

  -- each row has a cell of each squeue
  pub rows_full : All (λ row. length row.items ≡ length vs) rows
  rows_full =
      at_all (λ (row : Vec (Cell T) Global). length row.items ≡ length vs) rows
      (λ p row at. (let b = row_ring p row at in sym (ap (λ (r : Vec (Cell T) Global). length r.items) b.2) ∙ (cells_count p b.0 b.1 ∙ (sym many_squeues ∙ sym left.as_many))))

  -- what is known of what is left of a squeue
  record Knowing (q : ℕ) (v : Left (Shard X H T O G)) : Type 0 where
    s : Named (Shard X H T O G)
    at : slice_get ss q ≡ Some s
    leaves : Leaves R 0 count lent q s v
    setting : setting_of R.limits s.given ≡ setting_for count
    number : s.given.number ≡ q
    x : X
    x_at : slice_get shared q ≡ Some x
    ends : Vec (SqueueEnd T) Global
    ends_at : slice_get begun.ends q ≡ Some ends
    origin : origin_of v.resident ≡ (G.origin x, ends)

  known : (q : ℕ) (v : Left (Shard X H T O G)) → slice_get vs q ≡ Some v → Knowing q v
  known q v at =
      let n = left.as_many in
      let lt = slice_get_within vs q v at in
      let s = some_at ss q (omega (arith, lt, n)) in
      let l = left.each q s.0 v s.1 at in
      let m = made.each q s.0 s.1 in
      let h = begun.are_shards.each q m.0 m.1 in
      record {
        s = s.0;
        at = s.1;
        leaves = l;
        setting = m.2.setting;
        number = m.2.number;
        x = h.0;
        x_at = h.2;
        ends = h.1;
        ends_at = h.3;
        origin = its_origin v.resident s.0.given.first l.resident.same_origin ∙ (ap origin_of m.2.first ∙ h.4.origin);
      }

  -- the resident of each squeue may take what is left in its lanes
  pub may_finish : MayFinishAll rows vs
  may_finish q v at =
      record {
        rings = sym r.many ∙ ends_count;
        count = ends_count;
        lanes = lanes;
        merged = merges r _ k.leaves.resident.stands_for;
      }
    where
      r : Shard X H T O G
      r = v.resident

      k : Knowing q v
      k = known q v at

      their_first : r.first.value ≡ k.ends
      their_first = ap (λ (o : O × Vec (SqueueEnd T) Global). o.1) k.origin

      first_count : length k.ends.items ≡ count
      first_count = (begun.are_ends.each q k.ends k.ends_at).0

      ends_count : length (ends_of r) ≡ length rows
      ends_count = sym r.same.0 ∙ (ap (λ (e : Vec (SqueueEnd T) Global). length e.items) their_first ∙ (first_count ∙ sym rows_count))

      lanes : (p : ℕ) (row : Vec (Cell T) Global) (c : Cell T) (end : SqueueEnd T) → slice_get rows p ≡ Some row → slice_get row.items q ≡ Some c → slice_get (ends_of r) p ≡ Some end → IsLane c.end end
      lanes p row c end row_at cell_at end_at =
          let b = row_ring p row row_at in
          let w = ring_was p b.0 b.1 in
          let l = ring_laid p b.0 b.1 in
          let c_at : slice_get b.0.cells.items q ≡ Some c = ap (λ (y : Vec (Cell T) Global). slice_get y.items q) b.2 ∙ cell_at in
          let n = w.brought.ends.count in
          let lt = slice_get_within b.0.cells.items q c c_at in
          let d = some_at w.a.cells.items q (omega (arith, lt, n)) in
          let e = some_at k.ends.items p (let below = ring_below p b.0 b.1 in omega (arith, below, first_count)) in
          let lane : IsLane d.0.end e.0 = l.lanes q d.0 k.ends e.0 d.1 k.ends_at e.1 in
          let same : SameLane e.0 end = r.same.1 p e.0 end (ap (λ (y : Vec (SqueueEnd T) Global). slice_get y.items p) their_first ∙ e.1) end_at in
          lane_still d.0 c e.0 end (w.brought.ends.each q d.0 c d.1 c_at) same lane

  abbrev sent_rows : List (List (List T))
  sent_rows = map (λ row. map sent_of row.items) rows

  abbrev back_rows : List (List (List T))
  back_rows = map (λ row. map came_of row.items) rows

  module _ (q : ℕ) (x : X) (w : ServedShard X) (x_at : slice_get shared q ≡ Some x) (v : Left (Shard X H T O G)) (v_at : slice_get vs q ≡ Some v) (e : IsEnded rows q v w) where
    k : Knowing q v
    k = known q v v_at

    same_shared : k.x ≡ x
    same_shared = is_some_of (sym k.x_at ∙ x_at)

    sent_column : column_of q sent_rows ≡ map sent_of e.column
    sent_column = column_is sent_of rows q e.column e.cells

    back_column : column_of q back_rows ≡ map came_of e.column
    back_column = column_is came_of rows q e.column e.cells

    many : length (column_of q sent_rows) ≡ count
    many = ap length sent_column ∙ (length-map e.column sent_of ∙ (e.cells.count ∙ rows_count))

    -- the cell of a ring
    ring_cell : (p : ℕ) → p < count → (c : Cell T) × (slice_get e.column p ≡ Some c)
    ring_cell p lt = let n = e.cells.count in some_at e.column p (omega (arith, lt, n, rows_count))

    fed : (p : ℕ) → p < count → feeds_by p w.end.history ≡ length (cell (column_of q sent_rows) p)
    fed p lt =
        let c = ring_cell p lt in
        let row = some_at rows p (omega (arith, lt, rows_count)) in
        let h = e.cells.each p row.0 row.1 in
        let one : h.0 ≡ c.0 = is_some_of (sym h.2 ∙ c.1) in
        let b = row_ring p row.0 row.1 in
        let was = ring_was p b.0 b.1 in
        let l = ring_laid p b.0 b.1 in
        let cell_at : slice_get b.0.cells.items q ≡ Some c.0 = ap (λ (y : Vec (Cell T) Global). slice_get y.items q) b.2 ∙ (h.1 ∙ ap Some one) in
        let z : 0 + p ≡ p = omega arith in
        let knows = k.leaves.knows p lt in
        let pass = knows.0 in
        let lent_at : slice_get (lent p) q ≡ Some (Some pass) = ap (λ n. slice_get (lent n) q) (sym z) ∙ knows.1 in
        let its : HasFed R.limits was.a.number (length (sent_of c.0)) k.s pass = was.brought.fed q k.s (Some pass) c.0 k.at lent_at cell_at in
        let number_is : number pass ≡ p = its.end.is_number ∙ l.ring.number in
        let own : feeds_by (number pass) v.end.history ≡ feeds_by (number pass) (seen pass) = own_feeds (number pass) v.end.history (seen pass) (mine pass) knows.2.1 its.end.pass.2 in
        ap (λ (y : Ending). feeds_by p y.history) e.end
        ∙ (ap (λ n. feeds_by n v.end.history) (sym number_is)
        ∙ (own ∙ (ap (λ n. feeds_by n (seen pass)) its.end.is_number ∙ (its.fed ∙ sym (ap length (ap (λ l. cell l p) sent_column ∙ cell_is sent_of e.column p c.0 c.1))))))

    serves : IsServed G q x (column_of q sent_rows) (column_of q back_rows) w
    serves =
        record {
          log = e.finished.log;
          mix = subst (λ l. IsMix l (as_came e.finished.log)) (sym sent_column) (is_mix e.column e.finished.log e.finished.sent e.finished.only);
          made = e.finished.made;
          origin = e.origin ∙ (ap (λ (o : O × Vec (SqueueEnd T) Global). o.0) k.origin ∙ ap G.origin same_shared);
          took = λ p lt.
              (let c = ring_cell p (omega (arith, lt, many)) in
              subst (λ l. IsPrefix l (went_to p e.finished.log)) (sym (ap (λ l. cell l p) back_column ∙ cell_is came_of e.column p c.0 c.1)) (e.finished.back p c.0 c.1));
          number = ap (λ (y : Ending). y.number) e.end ∙ (k.leaves.its_number ∙ k.number);
          setting = ap (λ (y : Ending). y.setting) e.end ∙ (k.leaves.its_setting ∙ (k.setting ∙ ap setting_for (sym many)));
          ended = subst HasEnded (sym e.end) k.leaves.ended;
          fed = λ p lt. fed p (omega (arith, lt, many));
        }

  -- the whole of it
  pub has_run : (rings : List B) → rings ≡ map (λ t. t.bringer) (rings_in tasks) → (served : List (ServedShard X)) → AreEnded rows vs served → HasRun G Did shared before rings served
  has_run rings are served ended =
      record {
        sent = sent_rows;
        back = back_rows;
        rings = ap length are ∙ (length-map (rings_in tasks) (λ t. t.bringer) ∙ (rings_count ∙ sym begun.all));
        rows = (length-map rows (λ row. map sent_of row.items) ∙ (rows_count ∙ sym begun.all), length-map rows (λ row. map came_of row.items) ∙ (rows_count ∙ sym begun.all));
        cells = λ p lt.
            (let row = some_at rows p (let n = begun.all in omega (arith, lt, n, rows_count)) in
            let b = row_ring p row.0 row.1 in
            let n = sym (ap (λ (y : Vec (Cell T) Global). length y.items) b.2) ∙ cells_count p b.0 b.1 in
            (ap length (row_is sent_of rows p row.0 row.1) ∙ (length-map row.0.items sent_of ∙ n), ap length (row_is came_of rows p row.0 row.1) ∙ (length-map row.0.items came_of ∙ n)));
        did = did;
        many = ended.count ∙ (left.as_many ∙ many_squeues);
        served = λ q x w x_at w_at. (let e = ended.each q w w_at in serves q x w x_at e.0 e.1 e.2);
      }
    where
      did : (p : ℕ) (a b : B) → slice_get before p ≡ Some a → slice_get rings p ≡ Some b → Did a (row_of p sent_rows) (row_of p back_rows) b
      did p a b a_at b_at =
          let t = from_map (λ (t : RingTask B T). t.bringer) (rings_in tasks) p b (ap (λ l. slice_get l p) (sym are) ∙ b_at) in
          let was = ring_was p t.0 t.1 in
          let l = ring_laid p t.0 t.1 in
          let first_is : was.a.bringer ≡ a = is_some_of (sym l.bringer ∙ a_at) in
          let row_at : slice_get rows p ≡ Some t.0.cells = ap (λ l. slice_get l p) rows_are ∙ got_map (λ (t : RingTask B T). t.cells) (rings_in tasks) p t.0 t.1 in
          subst (λ y. Did y (row_of p sent_rows) (row_of p back_rows) b) first_is
          (subst (λ y. Did was.a.bringer (row_of p sent_rows) (row_of p back_rows) y) t.2
          (subst (λ l. Did was.a.bringer l (row_of p back_rows) t.0.bringer) (sym (row_is sent_of rows p t.0.cells row_at))
          (subst (λ l. Did was.a.bringer (map sent_of t.0.cells.items) l t.0.bringer) (sym (row_is came_of rows p t.0.cells row_at)) was.brought.did)))
