-- Rings of answers, when something comes by one of them.
use Rattle.std.proofs.Common.{◌≡◌, ◌≢◌, Global, ℕ, inl, inr, None, Some, Option, List, [], ◌∷◌, ◌++◌, refl, ap, sym, ◌∙◌, subst, append_assoc, append-nil}
use Rattle.std.specs.Prelude.{option_to_list, filter, map, ◌==◌, is_some, Bool, true, false, slice_index_or}
use Rattle.std.specs.List.{AllByRecursion}
use Rattle.std.proofs.lemmas.Bool.{cases_eq, eq-eqb, ne_eqb}
use Rattle.std.proofs.lemmas.List.{map-append}
use Rattle.std.proofs.lemmas.List.Elements.{filter-append}
use Rattle.rtrb.specs.declared.AnyItems.{AnyItems}
use Rattle.rtrb.specs.declared.consumer.Consumer.{Consumer}
use Rattle.rtrb.specs.Ring.{SameConsumer, received}
use Rattle.squeue_arrivals.specs.Arriving.{items_for}
use Rattle.squeue_answers.specs.declared.rings.AnswerRings.{AnswerRings}
use Rattle.squeue_answers.specs.Popping.{WasPopped}
use Rattle.squeue_answers.specs.Rings.{AreAnswered, HasAsked, HasHandedOn, HasOpened, HasWay, HaveWays, Out, SameInputs, input_at, is_stopped, keys_in, values_in, waiting_in}

-- the items of a key in two lists, and in one of one item
pub items_both : {T : Type 0} (k : ℕ) (xs ys : List (ℕ × T)) → items_for k (xs ++ ys) ≡ items_for k xs ++ items_for k ys
items_both {T} k xs ys =
    ap (map (λ (e : ℕ × T). e.1)) (filter-append (λ (e : ℕ × T). e.0 == k) xs ys)
    ∙ map-append (λ (e : ℕ × T). e.1) (filter (λ (e : ℕ × T). e.0 == k) xs) (filter (λ (e : ℕ × T). e.0 == k) ys)

pub one_of : {T : Type 0} (k : ℕ) (x : T) → items_for k ((k, x) ∷ []) ≡ x ∷ []
one_of k x = rw (eq-eqb k k refl) refl

pub none_of : {T : Type 0} (k j : ℕ) (x : T) → j ≢ k → items_for k ((j, x) ∷ []) ≡ []
none_of k j x other = rw (ne_eqb j k other) refl

module _ {A : Type 0} where
  pub way_same : (os : List (Out A)) (c d : Consumer A Global AnyItems) → HasWay os c → SameConsumer c d → HasWay os d
  way_same [] c d w s = absurd w
  way_same (None ∷ os) c d w s = absurd w
  way_same (Some p ∷ os) c d w s = ((s.0.0 ∙ w.0.0, s.0.1 ∙ w.0.1, s.0.2 ∙ w.0.2, s.0.3 ∙ w.0.3), w.1, w.2)

  -- these came, with their keys, by the rings
  pub record Came (more : List (ℕ × A)) (a b : AnswerRings A) : Type 0 where
    pub back : (k : ℕ) (d : Consumer A Global AnyItems) → input_at b k ≡ Some d
        → (c : Consumer A Global AnyItems) × (input_at a k ≡ Some c) × SameConsumer c d × (received d ≡ received c ++ items_for k more)
    pub gone : (k : ℕ) → input_at b k ≡ None → (input_at a k ≡ None) × (items_for k more ≡ [])

  pub ways_on : (more : List (ℕ × A)) (a b : AnswerRings A) (outs : List (ℕ × Out A)) → Came more a b → HaveWays outs a → HaveWays outs b
  ways_on more a b outs came ways =
      record {
        each = λ k d at. let h = came.back k d at in way_same (items_for k outs) h.0 d (ways.each k h.0 h.1) h.2;
        none = λ k at. ways.none k (came.gone k at).0;
      }

  pub answered_on : (more : List (ℕ × A)) (a b : AnswerRings A) (keys : List ℕ) (done : List (ℕ × A)) → Came more a b → waiting_in a ≡ keys_in more ++ waiting_in b → AreAnswered keys done a
      → AreAnswered keys (done ++ more) b
  answered_on more a b keys done came waits is =
      record {
        order =
            ap (λ (l : List ℕ). l ++ waiting_in b) (map-append (λ (e : ℕ × A). e.0) done more)
            ∙ (append_assoc (keys_in done) (keys_in more) (waiting_in b) ∙ (ap (λ (l : List ℕ). keys_in done ++ l) (sym waits) ∙ is.order));
        came = λ k d at.
            let h = came.back k d at in
            h.3 ∙ (ap (λ (l : List A). l ++ items_for k more) (is.came k h.0 h.1) ∙ sym (items_both k done more));
        none = λ k at.
            let h = came.gone k at in
            items_both k done more ∙ (ap (λ (l : List A). l ++ items_for k more) (is.none k h.0) ∙ h.1);
      }

  pub handed_on : (more : List (ℕ × A)) (from to : List A) (a b : AnswerRings A) → is_stopped b ≡ is_stopped a → Came more a b → waiting_in a ≡ keys_in more ++ waiting_in b → to ≡ from ++ values_in more
      → HasHandedOn from to a b
  handed_on more from to a b stopped came waits got =
      record {
        stopped = stopped;
        ways = λ outs ways. ways_on more a b outs came ways;
        answered = λ keys done is. (more, got, answered_on more a b keys done came waits is);
      }

  -- one after the other
  pub handed_both : (from mid to : List A) (a b c : AnswerRings A) → HasHandedOn from mid a b → HasHandedOn mid to b c → HasHandedOn from to a c
  handed_both from mid to a b c x y =
      record {
        stopped = y.stopped ∙ x.stopped;
        ways = λ outs ways. y.ways outs (x.ways outs ways);
        answered = λ keys done is.
            let h = x.answered keys done is in
            let n = y.answered keys (done ++ h.0) h.2 in (
              h.0 ++ n.0,
              n.1 ∙ (ap (λ (l : List A). l ++ values_in n.0) h.1 ∙ (append_assoc from (values_in h.0) (values_in n.0) ∙ ap (λ (l : List A). from ++ l) (sym (map-append (λ (e : ℕ × A). e.1) h.0 n.0)))),
              subst (λ (l : List (ℕ × A)). AreAnswered keys l c) (append_assoc done h.0 n.0) n.2,
            );
      }

  -- nothing came where the rings are the same
  pub came_none : (a b : AnswerRings A) → SameInputs a b → Came [] a b
  came_none a b same =
      record {
        back = λ k d at. let h = same.back k d at in (h.0, h.1, h.2, h.3 ∙ sym (append-nil (received h.0)));
        gone = λ k at. (gone k (input_at a k) refl at, refl);
      }
    where
      gone : (k : ℕ) (o : Option (Consumer A Global AnyItems)) → input_at a k ≡ o → input_at b k ≡ None → input_at a k ≡ None
      gone k None is at = is
      gone k (Some c) is at = let h = same.on k c is in absurd (cc (sym at ∙ h.1))

  pub same_inputs : (a b : AnswerRings A) → ((k : ℕ) → input_at b k ≡ input_at a k) → SameInputs a b
  same_inputs a b same =
      record {
        back = λ k d at. (d, sym (same k) ∙ at, ((refl, refl, refl, refl), refl), refl);
        on = λ k c at. (c, same k ∙ at, ((refl, refl, refl, refl), refl), refl);
      }

  pub nothing_handed : (from : List A) (a b : AnswerRings A) → is_stopped b ≡ is_stopped a → SameInputs a b → waiting_in b ≡ waiting_in a → HasHandedOn from from a b
  nothing_handed from a b stopped same waits = handed_on [] from from a b stopped (came_none a b same) (sym waits) (sym (append-nil from))

  -- what is popped at one key
  module _ (a b : AnswerRings A) (key : ℕ) (others : (k : ℕ) → k ≢ key → input_at b k ≡ input_at a k) where
    none_at : (o n : Option (Consumer A Global AnyItems)) → WasPopped None o n → (d : Consumer A Global AnyItems) → n ≡ Some d
        → (c : Consumer A Global AnyItems) × (o ≡ Some c) × SameConsumer c d × (received d ≡ received c)
    none_at None n was d at = absurd (cc (sym was ∙ at))
    none_at (Some c) None was d at = absurd was
    none_at (Some c) (Some e) was d at =
        let same : e ≡ d = cc at in
        (c, refl, subst (SameConsumer c) same was.0, subst (λ (x : Consumer A Global AnyItems). received x ≡ received c) same (was.1 ∙ append-nil (received c)))

    none_on : (o n : Option (Consumer A Global AnyItems)) → WasPopped None o n → (c : Consumer A Global AnyItems) → o ≡ Some c
        → (d : Consumer A Global AnyItems) × (n ≡ Some d) × SameConsumer c d × (received d ≡ received c)
    none_on None n was c at = absurd (cc at)
    none_on (Some e) None was c at = absurd was
    none_on (Some e) (Some d) was c at =
        let same : e ≡ c = cc at in
        (d, refl, subst (λ (x : Consumer A Global AnyItems). SameConsumer x d) same was.0, subst (λ (x : Consumer A Global AnyItems). received d ≡ received x) same (was.1 ∙ append-nil (received e)))

    pub none_popped : WasPopped None (input_at a key) (input_at b key) → SameInputs a b
    none_popped was =
        record {
          back = λ k d at. elim (cases_eq k key) [
            | inl here ↦ rw here (none_at (input_at a key) (input_at b key) was d (subst (λ (n : ℕ). input_at b n ≡ Some d) here at))
            | inr there ↦ (d, sym (others k there) ∙ at, ((refl, refl, refl, refl), refl), refl)
          ];
          on = λ k c at. elim (cases_eq k key) [
            | inl here ↦ rw here (none_on (input_at a key) (input_at b key) was c (subst (λ (n : ℕ). input_at a n ≡ Some c) here at))
            | inr there ↦ (c, others k there ∙ at, ((refl, refl, refl, refl), refl), refl)
          ];
        }

    module _ (x : A) where
      some_at : (o n : Option (Consumer A Global AnyItems)) → WasPopped (Some x) o n → (d : Consumer A Global AnyItems) → n ≡ Some d
          → (c : Consumer A Global AnyItems) × (o ≡ Some c) × SameConsumer c d × (received d ≡ received c ++ items_for key ((key, x) ∷ []))
      some_at None n was d at = absurd was
      some_at (Some c) None was d at = absurd was
      some_at (Some c) (Some e) was d at =
          let same : e ≡ d = cc at in
          let one = was.1 ∙ ap (λ (l : List A). received c ++ l) (sym (one_of key x)) in
          (c, refl, subst (SameConsumer c) same was.0, subst (λ (y : Consumer A Global AnyItems). received y ≡ received c ++ items_for key ((key, x) ∷ [])) same one)

      not_none : (o n : Option (Consumer A Global AnyItems)) → WasPopped (Some x) o n → n ≡ None → ⊥
      not_none None n was at = was
      not_none (Some c) None was at = was
      not_none (Some c) (Some e) was at = cc at

      pub one_popped : WasPopped (Some x) (input_at a key) (input_at b key) → Came ((key, x) ∷ []) a b
      one_popped was =
          record {
            back = λ k d at. elim (cases_eq k key) [
              | inl here ↦ rw here (some_at (input_at a key) (input_at b key) was d (subst (λ (n : ℕ). input_at b n ≡ Some d) here at))
              | inr there ↦ (
                d,
                sym (others k there) ∙ at,
                ((refl, refl, refl, refl), refl),
                sym (ap (λ (l : List A). received d ++ l) (none_of k key x (λ e. there (sym e))) ∙ append-nil (received d)),
              )
            ];
            gone = λ k at. elim (cases_eq k key) [
              | inl here ↦ absurd (not_none (input_at a key) (input_at b key) was (subst (λ (n : ℕ). input_at b n ≡ None) here at))
              | inr there ↦ (sym (others k there) ∙ at, none_of k key x (λ e. there (sym e)))
            ];
          }

-- what waits longest is what is taken from the front
pub front_is : (ws new : List ℕ) (o : Option ℕ) (k : ℕ) → is_some o ≡ true → k ≡ slice_index_or ws 0 k → ws ≡ option_to_list o ++ new → ws ≡ k ∷ new
front_is ws new None k some first is = absurd (cc some)
front_is ws new (Some x) k some first is = is ∙ ap (λ (y : ℕ). y ∷ new) (sym (first ∙ ap (λ (l : List ℕ). slice_index_or l 0 k) is))

module _ {A : Type 0} where
  none_more : (os : List (Out A)) → AllByRecursion (λ o. o ≡ None) os → AllByRecursion (λ o. o ≡ None) (os ++ None ∷ [])
  none_more [] all = (refl, tt)
  none_more (o ∷ os) all = (all.0, none_more os all.1)

  -- an item more of a key that came before
  way_more : (os : List (Out A)) (c : Consumer A Global AnyItems) → HasWay os c → HasWay (os ++ None ∷ []) c
  way_more [] c w = absurd w
  way_more (None ∷ os) c w = absurd w
  way_more (Some p ∷ os) c w = (w.0, w.1, none_more os w.2)

  has_none : (o : Option (Consumer A Global AnyItems)) → is_some o ≡ true → o ≡ None → ⊥
  has_none None some at = cc some
  has_none (Some c) some at = cc at

  pub opened_before : (a : AnswerRings A) (key : ℕ) → is_some (input_at a key) ≡ true → HasOpened key None a a
  opened_before a key there =
      record {
        waiting = refl;
        stopped = λ outs ways s. ways;
        ways = λ outs ways s. record {
          each = λ k c at. elim (cases_eq key k) [
            | inl here ↦
                subst (λ (os : List (Out A)). HasWay os c) (sym (items_both k outs ((key, None) ∷ []) ∙ ap (λ (l : List (Out A)). items_for k outs ++ l) (rw here (one_of k None)))) (way_more (items_for k outs) c (ways.each k c at))
            | inr other ↦
                subst (λ (os : List (Out A)). HasWay os c) (sym (items_both k outs ((key, None) ∷ []) ∙ (ap (λ (l : List (Out A)). items_for k outs ++ l) (none_of k key None other) ∙ append-nil (items_for k outs)))) (ways.each k c at)
          ];
          none = λ k at. elim (cases_eq key k) [
            | inl here ↦ absurd (has_none (input_at a key) there (rw here at))
            | inr other ↦ items_both k outs ((key, None) ∷ []) ∙ (ap (λ (l : List (Out A)). items_for k outs ++ l) (none_of k key None other) ∙ (append-nil (items_for k outs) ∙ ways.none k at))
          ];
        };
        answered = λ keys done is. is;
      }

  -- an item more waits
  pub asked_more : (key : ℕ) (out : Out A) (a m b : AnswerRings A) (s : Bool) → s ≡ false → is_stopped m ≡ false → b.inputs ≡ m.inputs → waiting_in b ≡ waiting_in m ++ key ∷ [] → HasOpened key out a m
      → HasAsked s key out a b
  asked_more key out a m b true is runs same waits opened = absurd (cc is)
  asked_more key out a m b false is runs same waits opened =
      let came : Came [] m b = came_none m b (same_inputs m b (λ k. rw same refl)) in (
        λ outs ways. ways_on [] m b (outs ++ (key, out) ∷ []) came (opened.ways outs ways runs),
        λ keys done was.
            let now = opened.answered keys done was in
            record {
              order = ap (λ (l : List ℕ). keys_in done ++ l) waits ∙ (sym (append_assoc (keys_in done) (waiting_in m) (key ∷ [])) ∙ ap (λ (l : List ℕ). l ++ key ∷ []) now.order);
              came = λ k d at. let h = came.back k d at in h.3 ∙ (append-nil (received h.0) ∙ now.came k h.0 h.1);
              none = λ k at. now.none k (came.gone k at).0;
            },
      )

  -- or none does, since its key found no ring
  pub asked_none : (key : ℕ) (out : Out A) (a b : AnswerRings A) (s : Bool) → s ≡ true → is_stopped b ≡ true → HasOpened key out a b → HasAsked s key out a b
  asked_none key out a b true is stops opened = (λ outs ways. opened.stopped outs ways stops, λ keys done was. opened.answered keys done was)
  asked_none key out a b false is stops opened = absurd (cc is)
