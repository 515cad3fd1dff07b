-- Intakes and tasks, one after another.
use Rattle.std.proofs.Common.{◌≡◌, ℕ, ◌+◌, ◌<◌, zero, suc, Vec, Option, Some, List, [], ◌∷◌, ◌++◌, length, map, option_map, slice_get, refl, ap, sym, ◌∙◌, subst, arith, append_assoc, length-append}
use Rattle.std.specs.List.{range_with_len}
use Rattle.std.proofs.lemmas.List.FromFn.{length-map-range_with_len}
use Rattle.std.proofs.lemmas.List.{append-nil, map-append}
use Rattle.std.specs.declared.alloc.Global.{Global}
use Rattle.poll_ring.specs.Rings.{FeedCount}
use Rattle.squeue_rings.specs.declared.intake.IntakeEnds.{IntakeEnds}
use Rattle.squeue_rings.specs.declared.intake.Intake.{Intake}
use Rattle.squeue_rings.specs.declared.task.RingTask.{RingTask}
use Rattle.squeue_rings.specs.declared.task.Task.{Task}
use Rattle.squeue_rings.specs.declared.task.Task.TheVariants as Task'
use Rattle.squeue_rings.specs.Tasks.{AreEnds, AreRingTasks, AreTasks, AreUnused, HasRing, HasRingTask, HaveRings, feed_end, lists_of}
use Rattle.squeue_serve.proofs.Lent.{get_end}
use Rattle.histories.proofs.ListPlaces.{get_front}

-- what is so of each and of the next one is so of each, with it
pub each_more : {A : Type 0} (P : ℕ → A → Type 0) (xs : List A) (x : A) → ((k : ℕ) (a : A) → slice_get xs k ≡ Some a → P k a) → P (length xs) x → (k : ℕ) (a : A) → slice_get (xs ++ x ∷ []) k ≡ Some a → P k a
each_more P [] x each new zero a is = let e : x ≡ a = cc is in subst (P 0) e new
each_more P [] x each new (suc k) a is = cc is
each_more P (y ∷ xs) x each new zero a is = each 0 a is
each_more P (y ∷ xs) x each new (suc k) a is = each_more (λ k a. P (suc k) a) xs x (λ k a is. each (suc k) a is) new k a is

module _ (squeues : ℕ) (all : List IntakeEnds) where
  -- the first rings have their intakes, their ends and their tasks, and these are left
  pub record SoFar (left : List IntakeEnds) (intakes : List Intake) (ends : List (Option FeedCount)) (tasks : List Task) : Type 0 where
    pub is : intakes ++ map (λ e. e.intake) left ≡ map (λ e. e.intake) all
    pub unused : AreUnused left
    pub have : HaveRings intakes
    pub ends_are : AreEnds intakes ends
    pub tasks_are : AreRingTasks squeues intakes tasks

  pub none_yet : AreUnused all → SoFar all [] [] []
  none_yet unused = record { is = refl; unused = unused; have = λ r l is. cc is; ends_are = refl; tasks_are = record { count = refl; each = λ r l is. cc is } }

  pub one_more : (left : List IntakeEnds) (intakes : List Intake) (ends : List (Option FeedCount)) (tasks : List Task) (e : IntakeEnds) (t : RingTask) → SoFar (e ∷ left) intakes ends tasks
      → t.number ≡ length intakes → t.end ≡ e.poll → length t.polling.items ≡ squeues → SoFar left (intakes ++ e.intake ∷ []) (ends ++ e.feed ∷ []) (tasks ++ Task'.Bring t ∷ [])
  one_more left intakes ends tasks e t so number poll polling =
      let it = so.unused 0 e refl in
      record {
        is = append_assoc intakes (e.intake ∷ []) (map (λ e. e.intake) left) ∙ so.is;
        unused = λ r f at. so.unused (suc r) f at;
        have = each_more (λ r l. HasRing l) intakes e.intake so.have it.ring;
        ends_are = (λ i. so.ends_are i ++ it.feed i ∷ []) ∙ sym (map-append (λ (l : Intake). option_map feed_end l.ring) intakes (e.intake ∷ []));
        tasks_are = record {
          count = let c = so.tasks_are.count in omega (arith, c, length-append intakes (e.intake ∷ []), length-append tasks (Task'.Bring t ∷ []));
          each = each_more (λ r m. HasRingTask squeues r m (slice_get (tasks ++ Task'.Bring t ∷ []) r)) intakes e.intake
              (λ r m at. let h = so.tasks_are.each r m at in (h.0, get_front tasks (Task'.Bring t ∷ []) r (Task'.Bring h.0) h.1, h.2))
              (t, get_end tasks [] (Task'.Bring t) (length intakes) (sym so.tasks_are.count), record { number = number; end = poll ∙ it.poll; polling = polling });
        };
      }

  pub all_apart : (intakes : List Intake) (ends : List (Option FeedCount)) (tasks : List Task) (left : List IntakeEnds) → left ≡ [] → SoFar left intakes ends tasks → intakes ≡ map (λ e. e.intake) all
  all_apart intakes ends tasks left none so = sym (append-nil intakes) ∙ (ap (λ (l : List IntakeEnds). intakes ++ map (λ e. e.intake) l) (sym none) ∙ so.is)

-- one number more
numbers_from : {A : Type 0} (f : ℕ → A) (a n : ℕ) → map f (range_with_len a (suc n)) ≡ map f (range_with_len a n) ++ f (a + n) ∷ []
numbers_from f a zero = let e : a + 0 ≡ a = omega arith in ap (λ (k : ℕ). f k ∷ []) (sym e)
numbers_from f a (suc n) =
    let e : a + suc n ≡ (a + 1) + n = omega arith in
    ap (λ l. f a ∷ l) (numbers_from f (a + 1) n ∙ ap (λ (k : ℕ). map f (range_with_len (a + 1) n) ++ f k ∷ []) (sym e))

pub numbers_more : {A : Type 0} (f : ℕ → A) (n : ℕ) (front items new : List A) → items ≡ front ++ map f (range_with_len 0 n) → new ≡ items ++ f n ∷ [] → new ≡ front ++ map f (range_with_len 0 (n + 1))
numbers_more f n front items new so more =
    let e : n + 1 ≡ suc n = omega arith in
    let z : 0 + n ≡ n = omega arith in
    more ∙ (ap (λ l. l ++ f n ∷ []) so ∙ (append_assoc front (map f (range_with_len 0 n)) (f n ∷ [])
    ∙ ap (λ l. front ++ l) (ap (λ (k : ℕ). map f (range_with_len 0 n) ++ f k ∷ []) (sym z) ∙ (sym (numbers_from f 0 n) ∙ ap (λ (k : ℕ). map f (range_with_len 0 k)) (sym e)))))

number_got : {A : Type 0} (f : ℕ → A) (a n k : ℕ) → k < n → slice_get (map f (range_with_len a n)) k ≡ Some (f (a + k))
number_got f a zero k lt = absurd (omega (arith, lt))
number_got f a (suc n) zero lt = let e : a + 0 ≡ a = omega arith in ap (λ (m : ℕ). Some (f m)) (sym e)
number_got f a (suc n) (suc k) lt = let e : a + suc k ≡ (a + 1) + k = omega arith in number_got f (a + 1) n k (omega (arith, lt)) ∙ ap (λ (m : ℕ). Some (f m)) (sym e)

got_behind : {A : Type 0} (xs ys : List A) (n k : ℕ) → n ≡ length xs + k → slice_get (xs ++ ys) n ≡ slice_get ys k
got_behind [] ys n k e = let z : n ≡ k = omega (arith, e) in ap (slice_get ys) z
got_behind (x ∷ xs) ys zero k e = absurd (omega (arith, e))
got_behind (x ∷ xs) ys (suc n) k e = got_behind xs ys n k (omega (arith, e))

module _ (rings callers squeues : ℕ) (intakes : List Intake) (ends : Vec (Option FeedCount) Global) (ring_tasks tasks : List Task) where
  abbrev calls_are : List Task
  calls_are = map (λ (j : ℕ). Task'.Call j) (range_with_len 0 callers)

  abbrev works_are : List Task
  works_are = map (λ (q : ℕ). Task'.Drain q) (range_with_len 0 squeues)

  abbrev front_are : List Task
  front_are = Task'.Feed ends ∷ ring_tasks

  pub are_tasks : length intakes ≡ rings → HaveRings intakes → AreEnds intakes ends.items → AreRingTasks squeues intakes ring_tasks → tasks ≡ (front_are ++ calls_are) ++ works_are → AreTasks rings callers squeues intakes tasks
  are_tasks are have feeds bring is =
      let n : length ring_tasks ≡ rings = bring.count ∙ are in
      let calls_count : length calls_are ≡ callers = length-map-range_with_len (λ (j : ℕ). Task'.Call j) 0 callers in
      let works_count : length works_are ≡ squeues = length-map-range_with_len (λ (q : ℕ). Task'.Drain q) 0 squeues in
      let a = length-append (front_are ++ calls_are) works_are in
      let b = length-append front_are calls_are in
      record {
        intakes_are = are;
        have = have;
        count = let e = ap length is in omega (arith, e, a, b, n, calls_count, works_count);
        feeder = (ends, ap (λ (l : List Task). slice_get l 0) is, feeds);
        rings_are = λ r l at.
            let h = bring.each r l at in
            let e : 1 + r ≡ suc r = omega arith in
            let i : slice_get ((front_are ++ calls_are) ++ works_are) (suc r) ≡ Some (Task'.Bring h.0) =
            get_front (front_are ++ calls_are) works_are (suc r) (Task'.Bring h.0) (get_front front_are calls_are (suc r) (Task'.Bring h.0) h.1) in
            (h.0, ap (λ (k : ℕ). slice_get tasks k) e ∙ (ap (λ (l : List Task). slice_get l (suc r)) is ∙ i), h.2);
        callers_are = λ j lt.
            let z : 0 + j ≡ j = omega arith in
            let i : slice_get (front_are ++ calls_are) (1 + (rings + j)) ≡ Some (Task'.Call j) =
            got_behind front_are calls_are (1 + (rings + j)) j (omega (arith, n)) ∙ (number_got (λ (j : ℕ). Task'.Call j) 0 callers j lt ∙ ap (λ (k : ℕ). Some (Task'.Call k)) z) in
            ap (λ (l : List Task). slice_get l (1 + (rings + j))) is ∙ get_front (front_are ++ calls_are) works_are (1 + (rings + j)) (Task'.Call j) i;
        workers = λ q lt.
            let z : 0 + q ≡ q = omega arith in
            ap (λ (l : List Task). slice_get l (1 + (rings + callers) + q)) is
            ∙ (got_behind (front_are ++ calls_are) works_are (1 + (rings + callers) + q) q (omega (arith, n, b, calls_count)) ∙ (number_got (λ (q : ℕ). Task'.Drain q) 0 squeues q lt ∙ ap (λ (k : ℕ). Some (Task'.Drain k)) z));
      }

pub all_tasks : (front first called worked : List Task) (m a n b : ℕ) → m ≡ a → n ≡ b → first ≡ front → called ≡ first ++ map (λ (j : ℕ). Task'.Call j) (range_with_len 0 m) → worked ≡ called ++ map (λ (q : ℕ). Task'.Drain q) (range_with_len 0 n)
    → worked ≡ (front ++ map (λ (j : ℕ). Task'.Call j) (range_with_len 0 a)) ++ map (λ (q : ℕ). Task'.Drain q) (range_with_len 0 b)
all_tasks front first called worked m a n b four all is calls works =
    works
    ∙ (ap (λ (k : ℕ). called ++ map (λ (q : ℕ). Task'.Drain q) (range_with_len 0 k)) all
    ∙ ap (λ (l : List Task). l ++ map (λ (q : ℕ). Task'.Drain q) (range_with_len 0 b))
    (calls ∙ (ap (λ (l : List Task). l ++ map (λ (j : ℕ). Task'.Call j) (range_with_len 0 m)) is ∙ ap (λ (k : ℕ). front ++ map (λ (j : ℕ). Task'.Call j) (range_with_len 0 k)) four)))

pub list_is : (intakes : List Intake) (r : ℕ) (l : Intake) → slice_get intakes r ≡ Some l → lists_of intakes r ≡ l.list.items
list_is [] r l is = cc is
list_is (m ∷ intakes) zero l is = let e : m ≡ l = cc is in ap (λ (k : Intake). k.list.items) e
list_is (m ∷ intakes) (suc r) l is = list_is intakes r l is
