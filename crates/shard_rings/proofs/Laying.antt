-- Lanes and tasks, made one after another.
use Rattle.std.proofs.Common.{◌≡◌, ◌⊎◌, ℕ, zero, suc, ◌+◌, ◌<◌, ◌≤◌, Some, List, [], ◌∷◌, ◌++◌, Vec, Global, inl, inr, length, length-append, append_assoc, slice_get, slice_set, refl, ap, sym, ◌∙◌, subst, arith}
use Rattle.std.proofs.lemmas.Bool.{cases_lt}
use Rattle.std.proofs.lemmas.List.{length-set}
use Rattle.std.proofs.lemmas.Option.{slice_get_within}
use Rattle.perimeter_core.proofs.ActLists.{get_other, get_same}
use Rattle.histories.proofs.ListPlaces.{get_front, some_at}
use Rattle.squeue_serve.proofs.Lent.{get_end}
use Rattle.squeue_rings.proofs.Tasked.{each_more}
use Rattle.shards.specs.declared.lanes.SqueueEnd.{SqueueEnd}
use Rattle.shards.specs.Lanes.{IsLane}
use Rattle.shards.specs.Merging.{AreUnused, IsUnused}
use Rattle.shard_rings.specs.declared.cell.Cell.{Cell}
use Rattle.shard_rings.specs.declared.run.RingTask.{RingTask}
use Rattle.shard_rings.specs.declared.run.Task.{Task}
use Rattle.shard_rings.specs.declared.run.Task.TheVariants.{Ring, Work}
use Rattle.shard_rings.specs.Making.{AreEnds, AreGrown, AreTasks, IsGrown, IsLaid, IsNewRing}

is_some_of : {A : Type 0} {x y : A} → Some x ≡ Some y → x ≡ y
is_some_of is = cc is

-- what is at a number of the first ones
at_front : {A : Type 0} (xs : List A) (y : A) (k : ℕ) (x : A) → k < length xs → slice_get (xs ++ y ∷ []) k ≡ Some x → slice_get xs k ≡ Some x
at_front [] y k x lt is = absurd (omega (arith, lt))
at_front (z ∷ xs) y zero x lt is = is
at_front (z ∷ xs) y (suc k) x lt is = at_front xs y k x (omega (arith, lt)) is

module _ {T : Type 0} where
  unused_more : (ends : List (SqueueEnd T)) (e : SqueueEnd T) → AreUnused ends → IsUnused e → AreUnused (ends ++ e ∷ [])
  unused_more [] e all one = (one, tt)
  unused_more (x ∷ ends) e all one = (all.0, unused_more ends e all.1 one)

  no_ends_unused : (ends : List (SqueueEnd T)) → ends ≡ [] → AreUnused ends
  no_ends_unused ends none = subst AreUnused (sym none) tt

  pub one_empty : (squeues : ℕ) (ends : List (Vec (SqueueEnd T) Global)) (v : Vec (SqueueEnd T) Global) → v.items ≡ [] → AreEnds 0 squeues ends → AreEnds 0 (squeues + 1) (ends ++ v ∷ [])
  one_empty squeues ends v none are =
      record {
        count = let n = length-append ends (v ∷ []) in let c = are.count in omega (arith, n, c);
        each = each_more (λ q w. (length w.items ≡ 0) × AreUnused w.items) ends v are.each (ap length none, no_ends_unused v.items none);
      }

  pub none_grown : (ends : List (Vec (SqueueEnd T) Global)) → AreGrown [] ends ends
  none_grown ends = record { count = refl; each = λ q c is. cc is; rest = λ q le. refl }

  -- and at the next squeue
  one_grown : (cells : List (Cell T)) (old now : List (Vec (SqueueEnd T) Global)) (c : Cell T) (n : ℕ) (a b : Vec (SqueueEnd T) Global) → n ≡ length cells → slice_get now n ≡ Some a → IsGrown c a b → AreGrown cells old now
      → AreGrown (cells ++ c ∷ []) old (slice_set now n b)
  one_grown cells old now c n a b here at grown are =
      record {
        count = length-set now n b ∙ are.count;
        each = each_more (λ q d. Has q d) cells c earlier last;
        rest = λ q le. (let m = length-append cells (c ∷ []) in get_other now n q b (λ e. absurd (omega (arith, le, m, e, here))) ∙ are.rest q (omega (arith, le, m)));
      }
    where
      Has : ℕ → Cell T → Type 0
      Has q d = (x : Vec (SqueueEnd T) Global) × (y : Vec (SqueueEnd T) Global) × (slice_get old q ≡ Some x) × (slice_get (slice_set now n b) q ≡ Some y) × IsGrown d x y

      earlier : (q : ℕ) (d : Cell T) → slice_get cells q ≡ Some d → Has q d
      earlier q d is =
          let h = are.each q d is in
          let lt = slice_get_within cells q d is in
          (h.0, h.1, h.2, get_other now n q b (λ e. absurd (omega (arith, lt, e, here))) ∙ h.3, h.4)

      last : Has (length cells) c
      last =
          let first : slice_get old (length cells) ≡ Some a = sym (are.rest (length cells) (omega arith)) ∙ (ap (slice_get now) (sym here) ∙ at) in
          let new : slice_get (slice_set now n b) (length cells) ≡ Some b = ap (slice_get (slice_set now n b)) (sym here) ∙ get_same now n b (slice_get_within now n a at) in
          (a, b, first, new, grown)

  pub next_grown : (cells more : List (Cell T)) (old now : List (Vec (SqueueEnd T) Global)) (c : Cell T) (n : ℕ) (a b : Vec (SqueueEnd T) Global) → more ≡ cells ++ c ∷ [] → n ≡ length cells → slice_get now n ≡ Some a → IsGrown c a b
      → AreGrown cells old now → AreGrown more old (slice_set now n b) × (length more ≡ n + 1)
  next_grown cells more old now c n a b is here at grown are =
      (subst (λ (l : List (Cell T)). AreGrown l old (slice_set now n b)) (sym is) (one_grown cells old now c n a b here at grown are), (let e = ap length is ∙ length-append cells (c ∷ []) in omega (arith, e, here)))

  module _ (cells : List (Cell T)) (old new : List (Vec (SqueueEnd T) Global)) (all : length cells ≡ length old) (grown : AreGrown cells old new) where
    -- what one has of each squeue has grown by an end
    grown_at : (q : ℕ) (v : Vec (SqueueEnd T) Global) → slice_get new q ≡ Some v
        → (c : Cell T) × (slice_get cells q ≡ Some c) × (a : Vec (SqueueEnd T) Global) × (slice_get old q ≡ Some a) × IsGrown c a v
    grown_at q v is =
        let lt = slice_get_within new q v is in
        let n = grown.count in
        let c = some_at cells q (omega (arith, lt, n, all)) in
        let h = grown.each q c.0 c.1 in
        let same : h.1 ≡ v = is_some_of (sym h.3 ∙ is) in
        (c.0, c.1, h.0, h.2, subst (IsGrown c.0 h.0) same h.4)

    pub ends_grown : (rings squeues : ℕ) → AreEnds rings squeues old → AreEnds (rings + 1) squeues new
    ends_grown rings squeues are = record { count = grown.count ∙ are.count; each = each }
      where
        each : (q : ℕ) (v : Vec (SqueueEnd T) Global) → slice_get new q ≡ Some v → (length v.items ≡ rings + 1) × AreUnused v.items
        each q v is =
            let h = grown_at q v is in
            let was = are.each q h.2 h.3 in
            let g = h.4 in
            let n = ap length g.more ∙ length-append h.2.items (g.end ∷ []) in
            let m = was.0 in
            (omega (arith, n, m), subst AreUnused (sym g.more) (unused_more h.2.items g.end was.1 g.unused))

    module _ {B : Type 0} (rings : List B) (count squeues : ℕ) (are : AreEnds count squeues old) where
      laid_still : (p : ℕ) (t : RingTask B T) → p < count → IsLaid rings old p t → IsLaid rings new p t
      laid_still p t lt is =
          record {
            ring = subst (λ (n : ℕ). IsNewRing n p t) (sym grown.count) is.ring;
            bringer = is.bringer;
            lanes = λ q c v end its at there.
                (let h = grown_at q v at in
                let n = (are.each q h.2 h.3).0 in
                is.lanes q c h.2 end its h.3 (at_front h.2.items h.4.end p end (omega (arith, lt, n)) (ap (λ l. slice_get l p) (sym h.4.more) ∙ there)));
          }

      laid_new : (t : RingTask B T) → t.number ≡ count → t.cells.items ≡ cells → slice_get rings count ≡ Some t.bringer → IsLaid rings new count t
      laid_new t number its bringer =
          record {
            ring = record {
              number = number;
              cells = let n = grown.count in let m = ap length its in omega (arith, n, m, all);
              new = λ q c at. (grown.each q c (ap (λ l. slice_get l q) (sym its) ∙ at)).4.new;
            };
            bringer = bringer;
            lanes = λ q c v end at is there.
                (let h = grown_at q v is in
                let n = (are.each q h.2 h.3).0 in
                let one : h.0 ≡ c = is_some_of (sym h.1 ∙ (ap (λ l. slice_get l q) (sym its) ∙ at)) in
                let last : h.4.end ≡ end = is_some_of (sym (get_end h.2.items [] h.4.end count (sym n)) ∙ (ap (λ l. slice_get l count) (sym h.4.more) ∙ there)) in
                subst (λ (e : SqueueEnd T). IsLane c.end e) last (subst (λ (d : Cell T). IsLane d.end h.4.end) one h.4.lane));
          }

module _ {B T : Type 0} where
  -- the first rings are laid, and these are left
  pub record SoFar (all left : List B) (squeues : ℕ) (ends : List (Vec (SqueueEnd T) Global)) (tasks : List (Task B T)) : Type 0 where
    pub firsts : List B
    pub are : all ≡ firsts ++ left
    pub count : length firsts ≡ length tasks
    pub ends_are : AreEnds (length tasks) squeues ends
    pub tasks_are : AreTasks (length tasks) 0 (IsLaid all ends) tasks

  pub none_laid : (all : List B) (squeues : ℕ) (ends : List (Vec (SqueueEnd T) Global)) (tasks : List (Task B T)) → tasks ≡ [] → AreEnds 0 squeues ends → SoFar all all squeues ends tasks
  none_laid all squeues ends tasks none are =
      subst (SoFar all all squeues ends) (sym none)
      (record { firsts = []; are = refl; count = refl; ends_are = are; tasks_are = record { many = refl; rings = λ p lt. absurd (omega (arith, lt)); works = λ q lt. absurd (omega (arith, lt)) } })

  pub one_laid : (all left : List B) (b : B) (squeues : ℕ) (old new : List (Vec (SqueueEnd T) Global)) (tasks : List (Task B T)) (cells : List (Cell T)) (t : RingTask B T) → length cells ≡ length old → AreGrown cells old new
      → t.number ≡ length tasks → t.bringer ≡ b → t.cells.items ≡ cells → SoFar all (b ∷ left) squeues old tasks → SoFar all left squeues new (tasks ++ Ring t ∷ [])
  one_laid all left b squeues old new tasks cells t each grown number bringer its so =
      record {
        firsts = so.firsts ++ b ∷ [];
        are = so.are ∙ sym (append_assoc so.firsts (b ∷ []) left);
        count = let m = length-append so.firsts (b ∷ []) in let c = so.count in omega (arith, m, c, n);
        ends_are = subst (λ (k : ℕ). AreEnds k squeues new) (sym n) (ends_grown cells old new each grown (length tasks) squeues so.ends_are);
        tasks_are = record { many = omega arith; rings = ring; works = λ q lt. absurd (omega (arith, lt)) };
      }
    where
      n : length (tasks ++ Ring t ∷ []) ≡ length tasks + 1
      n = length-append tasks (Ring t ∷ [])

      bringer_at : slice_get all (length tasks) ≡ Some t.bringer
      bringer_at = ap (λ (l : List B). slice_get l (length tasks)) so.are ∙ (get_end so.firsts left b (length tasks) (sym so.count) ∙ ap Some (sym bringer))

      ring : (p : ℕ) → p < length (tasks ++ Ring t ∷ []) → (u : RingTask B T) × (slice_get (tasks ++ Ring t ∷ []) p ≡ Some (Ring u)) × IsLaid all new p u
      ring p lt = by (cases_lt p (length tasks))
        where
          by : (p < length tasks) ⊎ (length tasks ≤ p) → (u : RingTask B T) × (slice_get (tasks ++ Ring t ∷ []) p ≡ Some (Ring u)) × IsLaid all new p u
          by (inl less) =
              let h = so.tasks_are.rings p less in
              (h.0, get_front tasks (Ring t ∷ []) p (Ring h.0) h.1, laid_still cells old new each grown all (length tasks) squeues so.ends_are p h.0 less h.2)
          by (inr more) =
              let e : p ≡ length tasks = omega (arith, lt, more, n) in
              let here = laid_new cells old new each grown all (length tasks) squeues so.ends_are t number its bringer_at in
              (t, get_end tasks [] (Ring t) p e, subst (λ (k : ℕ). IsLaid all new k t) (sym e) here)

  pub all_laid : (all left : List B) (squeues : ℕ) (ends : List (Vec (SqueueEnd T) Global)) (tasks : List (Task B T)) → left ≡ [] → SoFar all left squeues ends tasks
      → AreTasks (length all) 0 (IsLaid all ends) tasks × AreEnds (length all) squeues ends
  all_laid all left squeues ends tasks none so =
      let n : length tasks ≡ length all = (let a = ap length so.are in let b = length-append so.firsts left in let z = ap length none in let c = so.count in omega (arith, a, b, z, c)) in
      (subst (λ (k : ℕ). AreTasks k 0 (IsLaid all ends) tasks) n so.tasks_are, subst (λ (k : ℕ). AreEnds k squeues ends) n so.ends_are)

  -- one squeue more is to be worked
  pub one_work : (count n : ℕ) (P : ℕ → RingTask B T → Type 0) (tasks : List (Task B T)) → AreTasks count n P tasks → AreTasks count (n + 1) P (tasks ++ Work n ∷ [])
  one_work count n P tasks are =
      record {
        many = let m = length-append tasks (Work n ∷ []) in let k = are.many in omega (arith, m, k);
        rings = λ p lt. (let h = are.rings p lt in (h.0, get_front tasks (Work n ∷ []) p (Ring h.0) h.1, h.2));
        works = λ q lt. by q lt (cases_lt q n);
      }
    where
      by : (q : ℕ) → q < n + 1 → (q < n) ⊎ (n ≤ q) → slice_get (tasks ++ Work n ∷ []) (count + q) ≡ Some (Work q)
      by q lt (inl less) = get_front tasks (Work n ∷ []) (count + q) (Work q) (are.works q less)
      by q lt (inr more) =
          let e : n ≡ q = omega (arith, lt, more) in
          let k = are.many in
          get_end tasks [] (Work n) (count + q) (omega (arith, k, e)) ∙ ap (λ (i : ℕ). Some (Work i)) e
