-- A stream's block that goes on by one item.
use Rattle.std.proofs.Common.{◌≡◌, ℕ, ◌+◌, ◌-◌, ◌*◌, ◌^◌, ◌<◌, ◌≤◌, List, [], ◌∷◌, ◌++◌, length, map, take, drop, get_or, refl, ap, sym, ◌∙◌, subst, arith, append-nil, Result, Ok, Err}
use Rattle.std.specs.List.{flat_map}
use Rattle.std.specs.Result.{OnOk}
use Rattle.std.proofs.lemmas.Grind.{flat_map-append}
use Rattle.std.proofs.lemmas.List.{drop_more, map-append, take_all, take_more}
use Rattle.byte_queues.specs.ReceiveQueue.{next_of}
use Rattle.tcb_machine.specs.BlockState.{new_block, offered}
use Rattle.chargen_service.specs.Chargen.{Entry, Generating, enters, new_generating, serves}
use Rattle.capture_reader.specs.Limits.{latest_time}
use Rattle.capture_reader.specs.Outcome.{CaptureFile}
use Rattle.conn_classifier.specs.Plan.{Rises, time_of}
use Rattle.conn_classifier.specs.declared.kinds.Item.{Item}
use Rattle.stream_plan.specs.declared.kinds.ServedDatagram.{ServedDatagram}
use Rattle.stream_plan.specs.Sound.{IsStream}
use Rattle.stream_plan.specs.Streams.{StreamOf}
use Rattle.datagram_services.specs.Items.{ServedOf, answers_to, entry_of, served}
use Rattle.datagram_services.specs.Standing.{HasServed, IsNew, served_of}
use Rattle.datagram_services.specs.declared.answer.SentDatagram.{SentDatagram}
use Rattle.datagram_services.specs.declared.block.StreamBlock.{StreamBlock}

serves_more : (es : List Entry) (e : Entry) (x : Generating) → serves (es ++ e ∷ []) x ≡ enters e (serves es x)
serves_more [] e x = refl
serves_more (d ∷ es) e x = serves_more es e (enters d x)

one_answer : (f : ServedDatagram → List SentDatagram) (ds : List ServedDatagram) (n : ℕ) (d : ServedDatagram) → n < length ds → d ≡ get_or ds n d → flat_map f (take n ds) ++ f d ≡ flat_map f (take (n + 1) ds)
one_answer f ds n d lt is =
    sym (ap (flat_map f) (take_more ds n d lt) ∙ (flat_map-append f (take n ds) (get_or ds n d ∷ []) ∙ ap (λ l. flat_map f (take n ds) ++ l) (append-nil (f (get_or ds n d)) ∙ ap f (sym is))))

-- the rest rises from the item that comes next
pub rises_next : (last most : ℕ) (xs : List Item) (n : ℕ) (x : Item) → n < length xs → x ≡ get_or xs n x → Rises last most (drop n xs) → (last ≤ time_of x) × Rises (time_of x) most (drop (n + 1) xs)
rises_next last most xs n x lt is h =
    let now = subst (Rises last most) (drop_more xs n x lt) h in
    subst (λ (y : Item). (last ≤ time_of y) × Rises (time_of y) most (drop (n + 1) xs)) (sym is) now

module _ (file : CaptureFile) (s : StreamOf) (k next : StreamBlock) (h : HasServed file s k) (had : next.had ≡ k.had + 1) where
  same_by : (f : ServedDatagram → List SentDatagram) (e : Item → Entry) → next.answers.items ≡ flat_map f (take next.had s.datagrams)
      → next.generator ≡ serves (map e (take (next.had - length s.datagrams) s.items)) new_generating
      → served_of next ≡ record { answers = flat_map f (take next.had s.datagrams); generator = serves (map e (take (next.had - length s.datagrams) s.items)) new_generating }
  same_by f e a g = λ j. record { answers = a j; generator = g j }

  answers_so_far : k.answers.items ≡ flat_map (answers_to file s.tuple) (take k.had s.datagrams)
  unfolding served
  answers_so_far = ap (λ (v : ServedOf). v.answers) h.same

  generator_so_far : k.generator ≡ serves (map (entry_of file) (take (k.had - length s.datagrams) s.items)) new_generating
  unfolding served
  generator_so_far = ap (λ (v : ServedOf). v.generator) h.same

  module _ (d : ServedDatagram) (lt : k.had < length s.datagrams) (is : d ≡ get_or s.datagrams k.had d) (answered : next.answers.items ≡ k.answers.items ++ answers_to file s.tuple d) (kept : next.generator ≡ k.generator) where
    same_datagram : served_of next ≡ served file s next.had
    unfolding served
    same_datagram =
        let none : k.had - length s.datagrams ≡ next.had - length s.datagrams = omega (arith, lt, had) in
        let f = answers_to file s.tuple in
        same_by f (entry_of file) (answered ∙ (ap (λ l. l ++ f d) answers_so_far ∙ (one_answer f s.datagrams k.had d lt is ∙ ap (λ n. flat_map f (take n s.datagrams)) (sym had))))
        (kept ∙ (generator_so_far ∙ ap (λ n. serves (map (entry_of file) (take n s.items)) new_generating) none))

    pub one_datagram : HasServed file s next
    one_datagram = record {
      same = same_datagram;
      next =
          let none : k.had - length s.datagrams ≡ next.had - length s.datagrams = omega (arith, lt, had) in
          subst (λ (n : ℕ). Rises next.generator.block.clock latest_time (drop n s.items)) none
          (subst (λ (g : Generating). Rises g.block.clock latest_time (drop (k.had - length s.datagrams) s.items)) (sym kept) h.next);
      received = subst (λ (g : Generating). next_of g.block.recv ≤ next.had * 2 ^ 20) (sym kept) (omega (arith, h.received, had));
      offered = subst (λ (g : Generating). offered g.block ≤ next.had * 2 ^ 16) (sym kept) (omega (arith, h.offered, had));
    }

  module _ (i : Item) (le : length s.datagrams ≤ k.had) (lt : k.had - length s.datagrams < length s.items) (is : i ≡ get_or s.items (k.had - length s.datagrams) i) (kept : next.answers.items ≡ k.answers.items)
      (entered : next.generator ≡ enters (entry_of file i) k.generator) (clock : next.generator.block.clock ≡ time_of i) (received : next_of next.generator.block.recv ≤ next_of k.generator.block.recv + 2 ^ 20)
      (offers : offered next.generator.block ≤ offered k.generator.block + 2 ^ 16) where
    at_next : next.had - length s.datagrams ≡ (k.had - length s.datagrams) + 1
    at_next = omega (arith, le, had)

    same_item : served_of next ≡ served file s next.had
    unfolding served
    same_item =
        let m = k.had - length s.datagrams in
        let f = answers_to file s.tuple in
        let e = entry_of file in
        let all : take k.had s.datagrams ≡ take next.had s.datagrams = take_all k.had s.datagrams le ∙ sym (take_all next.had s.datagrams (omega (arith, le, had))) in
        let more : map e (take (m + 1) s.items) ≡ map e (take m s.items) ++ e i ∷ [] =
        ap (map e) (take_more s.items m i lt) ∙ (map-append e (take m s.items) (get_or s.items m i ∷ []) ∙ ap (λ (x : Item). map e (take m s.items) ++ e x ∷ []) (sym is)) in
        same_by f e (kept ∙ (answers_so_far ∙ ap (flat_map f) all))
        (entered ∙ (ap (enters (e i)) generator_so_far ∙ (sym (serves_more (map e (take m s.items)) (e i) new_generating)
        ∙ (ap (λ l. serves l new_generating) (sym more) ∙ ap (λ n. serves (map e (take n s.items)) new_generating) (sym at_next)))))

    pub one_item : HasServed file s next
    one_item = record {
      same = same_item;
      next =
          let rest = (rises_next k.generator.block.clock latest_time s.items (k.had - length s.datagrams) i lt is h.next).1 in
          subst (λ (n : ℕ). Rises next.generator.block.clock latest_time (drop n s.items)) (sym at_next)
          (subst (λ (t : ℕ). Rises t latest_time (drop ((k.had - length s.datagrams) + 1) s.items)) (sym clock) rest);
      received = omega (arith, h.received, had, received);
      offered = omega (arith, h.offered, had, offers);
    }

next_new : next_of new_generating.block.recv ≡ 0
unfolding new_block next_of
next_new = refl

offered_new : offered new_generating.block ≡ 0
unfolding new_block offered
offered_new = refl

clock_new : new_generating.block.clock ≡ 0
unfolding new_block
clock_new = refl

same_new : (file : CaptureFile) (s : StreamOf) (k : StreamBlock) → IsNew k → k.had - length s.datagrams ≡ 0 → served_of k ≡ served file s k.had
unfolding served
same_new file s k new none =
    let answers : k.answers.items ≡ flat_map (answers_to file s.tuple) (take k.had s.datagrams) = new.no_answers ∙ ap (λ n. flat_map (answers_to file s.tuple) (take n s.datagrams)) (sym new.none_had) in
    let generator : k.generator ≡ serves (map (entry_of file) (take (k.had - length s.datagrams) s.items)) new_generating = new.generator ∙ ap (λ n. serves (map (entry_of file) (take n s.items)) new_generating) (sym none) in
    (λ j. record { answers = answers j; generator = generator j })

-- nothing was served of a new block
pub nothing_served : (file : CaptureFile) (s : StreamOf) (k : StreamBlock) → IsStream file s → IsNew k → HasServed file s k
nothing_served file s k is new =
    let none : k.had - length s.datagrams ≡ 0 = omega (arith, new.none_had) in
    let clock : k.generator.block.clock ≡ 0 = ap (λ (g : Generating). g.block.clock) new.generator ∙ clock_new in
    let received : next_of k.generator.block.recv ≡ 0 = ap (λ (g : Generating). next_of g.block.recv) new.generator ∙ next_new in
    let offers : offered k.generator.block ≡ 0 = ap (λ (g : Generating). offered g.block) new.generator ∙ offered_new in
    record {
      same = same_new file s k new none;
      next = subst (λ (n : ℕ). Rises k.generator.block.clock latest_time (drop n s.items)) (sym none) (subst (λ (t : ℕ). Rises t latest_time s.items) (sym clock) is.rising);
      received = omega (arith, received);
      offered = omega (arith, offers);
    }

-- what four clauses say of the same `Ok`
pub on_ok_of_four : {T E A B C D Q : Type 0} (r : Result T E) → (A → B → C → D → Q) → OnOk r A → OnOk r B → OnOk r C → OnOk r D → OnOk r Q
on_ok_of_four (Ok u) f a b c d = f a b c d
on_ok_of_four (Err e) f a b c d = tt
