-- What a key's items were answered, and what came of it.
use Rattle.std.proofs.Common.{◌≡◌, ◌≢◌, Global, ℕ, ◌==◌, Bool, true, false, None, Some, List, [], ◌∷◌, ◌++◌, length, map, refl, ap, sym, ◌∙◌, subst, arith, append_assoc, append-nil, length-append}
use Rattle.std.specs.List.{AllByRecursion}
use Rattle.rtrb.specs.declared.AnyItems.{AnyItems}
use Rattle.rtrb.specs.declared.consumer.Consumer.{Consumer}
use Rattle.rtrb.specs.declared.producer.Producer.{Producer}
use Rattle.rtrb.specs.Ring.{IsPair, SameProducer, sent}
use Rattle.squeue_streams.specs.Taking.{Takes}
use Rattle.squeue_arrivals.specs.Arriving.{items_for}
use Rattle.squeue_answers.specs.declared.steps.Answerer.{Answerer}
use Rattle.squeue_answers.specs.declared.steps.Asked.{Asked}
use Rattle.squeue_answers.specs.Asking.{outs_in, plain}
use Rattle.squeue_answers.specs.Answering.{answers_in, items_in}
use Rattle.squeue_answers.specs.Rings.{HasWay, Out, keys_in, values_in}
use Rattle.squeue_answers.specs.Stepping.{Steps, IsPushed, or_else}

-- one item more in front of those of a key
abbrev head_of : {X : Type 0} → Bool → X → List X → List X
head_of true x xs = x ∷ xs
head_of false x xs = xs

head_for : {X : Type 0} (k : ℕ) (e : ℕ × X) (all : List (ℕ × X)) (b : Bool) → (e.0 == k) ≡ b → items_for k (e ∷ all) ≡ head_of b e.1 (items_for k all)
head_for k e all true is = rw is refl
head_for k e all false is = rw is refl

module _ {T A : Type 0} where
  -- items with their answers, as far as both go; and the same with their keys
  abbrev pub with_answers : List (Asked T A) → List A → List (T × A)
  with_answers [] ys = []
  with_answers (x ∷ xs) [] = []
  with_answers (x ∷ xs) (a ∷ ys) = (x.item, a) ∷ with_answers xs ys

  abbrev pub answered_by : List (ℕ × Asked T A) → List (ℕ × A) → List (ℕ × (T × A))
  answered_by [] done = []
  answered_by (e ∷ all) [] = []
  answered_by (e ∷ all) (d ∷ done) = (e.0, (e.1.item, d.1)) ∷ answered_by all done

  -- where both have the same keys
  pub items_are : (all : List (ℕ × Asked T A)) (done : List (ℕ × A)) → keys_in done ≡ keys_in all → items_in (answered_by all done) ≡ plain all
  items_are [] done same = refl
  items_are (e ∷ all) [] same = absurd (cc same)
  items_are (e ∷ all) (d ∷ done) same =
      let rest : keys_in done ≡ keys_in all = cc same in
      ap (λ (l : List (ℕ × T)). (e.0, e.1.item) ∷ l) (items_are all done rest)

  pub answers_are : (all : List (ℕ × Asked T A)) (done : List (ℕ × A)) → keys_in done ≡ keys_in all → answers_in (answered_by all done) ≡ values_in done
  answers_are [] [] same = refl
  answers_are [] (d ∷ done) same = absurd (cc same)
  answers_are (e ∷ all) [] same = absurd (cc same)
  answers_are (e ∷ all) (d ∷ done) same =
      let rest : keys_in done ≡ keys_in all = cc same in
      ap (λ (l : List A). d.1 ∷ l) (answers_are all done rest)

  pub both_for : (k : ℕ) (all : List (ℕ × Asked T A)) (done : List (ℕ × A)) → keys_in done ≡ keys_in all
      → (items_for k (answered_by all done) ≡ with_answers (items_for k all) (items_for k done)) × (length (items_for k done) ≡ length (items_for k all))
  both_for k [] [] same = (refl, refl)
  both_for k [] (d ∷ done) same = absurd (cc same)
  both_for k (e ∷ all) [] same = absurd (cc same)
  both_for k (e ∷ all) (d ∷ done) same =
      let rest : keys_in done ≡ keys_in all = cc same in
      let key : d.0 ≡ e.0 = cc same in
      go (both_for k all done rest) (e.0 == k) refl (ap (λ (n : ℕ). n == k) key)
    where
      go : (items_for k (answered_by all done) ≡ with_answers (items_for k all) (items_for k done)) × (length (items_for k done) ≡ length (items_for k all)) → (b : Bool) → (e.0 == k) ≡ b
          → (d.0 == k) ≡ (e.0 == k)
          → (items_for k (answered_by (e ∷ all) (d ∷ done)) ≡ with_answers (items_for k (e ∷ all)) (items_for k (d ∷ done))) × (length (items_for k (d ∷ done)) ≡ length (items_for k (e ∷ all)))
      go more true is ys =
          let first = head_for k (e.0, (e.1.item, d.1)) (answered_by all done) true is in
          let xs = head_for k e all true is in
          let ds = head_for k d done true (ys ∙ is) in (
            first ∙ (ap (λ (l : List (T × A)). (e.1.item, d.1) ∷ l) more.0
                ∙ sym (ap (λ (l : List (Asked T A)). with_answers l (items_for k (d ∷ done))) xs ∙ ap (λ (l : List A). with_answers (e.1 ∷ items_for k all) l) ds)),
            omega (arith, ap length xs, ap length ds, more.1),
          )
      go more false is ys =
          let first = head_for k (e.0, (e.1.item, d.1)) (answered_by all done) false is in
          let xs = head_for k e all false is in
          let ds = head_for k d done false (ys ∙ is) in (
            first ∙ (more.0 ∙ sym (ap (λ (l : List (Asked T A)). with_answers l (items_for k (d ∷ done))) xs ∙ ap (λ (l : List A). with_answers (items_for k all) l) ds)),
            omega (arith, ap length xs, ap length ds, more.1),
          )

  -- what the items of a key carry
  pub outs_for : (k : ℕ) (all : List (ℕ × Asked T A)) → items_for k (outs_in all) ≡ map (λ x. x.out) (items_for k all)
  outs_for k [] = refl
  outs_for k (e ∷ all) = go (outs_for k all) (e.0 == k) refl
    where
      go : items_for k (outs_in all) ≡ map (λ x. x.out) (items_for k all) → (b : Bool) → (e.0 == k) ≡ b → items_for k (outs_in (e ∷ all)) ≡ map (λ x. x.out) (items_for k (e ∷ all))
      go more true is =
          head_for k (e.0, e.1.out) (outs_in all) true is ∙ (ap (λ (l : List (Out A)). e.1.out ∷ l) more ∙ sym (ap (λ (l : List (Asked T A)). map (λ x. x.out) l) (head_for k e all true is)))
      go more false is = head_for k (e.0, e.1.out) (outs_in all) false is ∙ (more ∙ sym (ap (λ (l : List (Asked T A)). map (λ x. x.out) l) (head_for k e all false is)))

  pub plain_for : (k : ℕ) (all : List (ℕ × Asked T A)) → items_for k (plain all) ≡ map (λ x. x.item) (items_for k all)
  plain_for k [] = refl
  plain_for k (e ∷ all) = go (plain_for k all) (e.0 == k) refl
    where
      go : items_for k (plain all) ≡ map (λ x. x.item) (items_for k all) → (b : Bool) → (e.0 == k) ≡ b → items_for k (plain (e ∷ all)) ≡ map (λ x. x.item) (items_for k (e ∷ all))
      go more true is =
          head_for k (e.0, e.1.item) (plain all) true is ∙ (ap (λ (l : List T). e.1.item ∷ l) more ∙ sym (ap (λ (l : List (Asked T A)). map (λ x. x.item) l) (head_for k e all true is)))
      go more false is = head_for k (e.0, e.1.item) (plain all) false is ∙ (more ∙ sym (ap (λ (l : List (Asked T A)). map (λ x. x.item) l) (head_for k e all false is)))

-- the first items of a key have the way that all have
pub way_front : {A : Type 0} (os more : List (Out A)) (c : Consumer A Global AnyItems) → os ≢ [] → HasWay (os ++ more) c → HasWay os c
way_front [] more c some w = absurd (some refl)
way_front (None ∷ os) more c some w = absurd w
way_front {A} (Some p ∷ os) more c some w = (w.0, w.1, front os w.2)
  where
    front : (os : List (Out A)) → AllByRecursion (λ o. o ≡ None) (os ++ more) → AllByRecursion (λ o. o ≡ None) os
    front [] all = tt
    front (o ∷ os) all = (all.0, front os all.1)

module _ {T A S : Type 0} (step : S → T → A → S → Type 0) where
  abbrev Pairs : S → T × A → S → Type 0
  Pairs s e next = step s e.0 e.1 next

  -- what these answers were, all of which went into this ring
  pub record Answers (from : S) (xs : List (Asked T A)) (p q : Producer A Global AnyItems) (to : S) : Type 0 where
    pub answers : List A
    pub many : length answers ≡ length xs
    pub ring : SameProducer p q
    pub pushed : sent q ≡ sent p ++ answers
    pub taken : Takes Pairs from (with_answers xs answers) to

  pushed_on : (a : A) (p : Producer A Global AnyItems) (o : Out A) → IsPushed a (Some p) o → (q : Producer A Global AnyItems) × (o ≡ Some q) × SameProducer p q × (sent q ≡ sent p ++ a ∷ [])
  pushed_on a p None h = absurd h
  pushed_on a p (Some q) h = (q, refl, h.0, h.1)

  producer_on : (a b c : Producer A Global AnyItems) → SameProducer a b → SameProducer b c → SameProducer a c
  producer_on a b c x y = ((y.0.0 ∙ x.0.0, y.0.1 ∙ x.0.1, y.0.2 ∙ x.0.2, y.0.3 ∙ x.0.3), y.1 ∙ x.1)

  -- items that carry nothing are answered where the state says
  rest : (s : Answerer S A) (xs : List (Asked T A)) (to : Answerer S A) (p : Producer A Global AnyItems) → s.out ≡ Some p → AllByRecursion (λ o. o ≡ None) (map (λ x. x.out) xs) → Takes (Steps step) s xs to
      → (q : Producer A Global AnyItems) × (to.out ≡ Some q) × Answers s.state xs p q to.state
  rest s [] to p out none took = (
    p,
    ap (λ (x : Answerer S A). x.out) took ∙ out,
    record {
      answers = [];
      many = refl;
      ring = ((refl, refl, refl, refl), refl);
      pushed = sym (append-nil (sent p));
      taken = ap (λ (x : Answerer S A). x.state) took;
    },
  )
  rest s (x ∷ xs) to p out none took =
      let one = took.1 in
      let there : or_else x.out s.out ≡ Some p = ap (λ (o : Out A). or_else o s.out) none.0 ∙ out in
      let next = pushed_on one.answer p took.0.out (subst (λ (o : Out A). IsPushed one.answer o took.0.out) there one.pushed) in
      let more = rest took.0 xs to next.0 next.1 none.1 took.2 in (
        more.0,
        more.1,
        record {
          answers = one.answer ∷ more.2.answers;
          many = omega (arith, more.2.many);
          ring = producer_on p next.0 more.0 next.2 more.2.ring;
          pushed = more.2.pushed ∙ (ap (λ (l : List A). l ++ more.2.answers) next.3 ∙ append_assoc (sent p) (one.answer ∷ []) more.2.answers);
          taken = (took.0.state, one.made, more.2.taken);
        },
      )

  -- the items of a key are answered by its ring
  pub answers_of : (s : Answerer S A) (xs : List (Asked T A)) (to : Answerer S A) (c : Consumer A Global AnyItems) → HasWay (map (λ x. x.out) xs) c → Takes (Steps step) s xs to
      → (p : Producer A Global AnyItems) × (q : Producer A Global AnyItems) × (to.out ≡ Some q) × IsPair q c × (sent p ≡ []) × Answers s.state xs p q to.state
  answers_of s [] to c way took = absurd way
  answers_of s (x ∷ xs) to c way took = first x.out refl way
    where
      first : (o : Out A) → x.out ≡ o → HasWay (o ∷ map (λ x. x.out) xs) c
          → (p : Producer A Global AnyItems) × (q : Producer A Global AnyItems) × (to.out ≡ Some q) × IsPair q c × (sent p ≡ []) × Answers s.state (x ∷ xs) p q to.state
      first None is way = absurd way
      first (Some p) is way =
          let one = took.1 in
          let there : or_else x.out s.out ≡ Some p = ap (λ (o : Out A). or_else o s.out) is in
          let next = pushed_on one.answer p took.0.out (subst (λ (o : Out A). IsPushed one.answer o took.0.out) there one.pushed) in
          let more = rest took.0 xs to next.0 next.1 way.2 took.2 in
          let ring = producer_on p next.0 more.0 next.2 more.2.ring in (
            p,
            more.0,
            more.1,
            (way.0.0 ∙ sym ring.0.0, way.0.1 ∙ sym ring.0.1, way.0.2 ∙ sym ring.0.2, way.0.3 ∙ sym ring.0.3),
            way.1,
            record {
              answers = one.answer ∷ more.2.answers;
              many = omega (arith, more.2.many);
              ring = ring;
              pushed = more.2.pushed ∙ (ap (λ (l : List A). l ++ more.2.answers) next.3 ∙ append_assoc (sent p) (one.answer ∷ []) more.2.answers);
              taken = (took.0.state, one.made, more.2.taken);
            },
          )

-- where all that came is a front of what was sent, and as many, it is the same
pub all_came : {A : Type 0} (came left answers sent : List A) → came ++ left ≡ sent → sent ≡ answers → length came ≡ length answers → came ≡ answers
all_came came [] answers sent is all many = sym (append-nil came) ∙ (is ∙ all)
all_came {A} came (x ∷ left) answers sent is all many = absurd (let n : length (came ++ x ∷ left) ≡ length answers = ap length (is ∙ all) in omega (arith, n, length-append came (x ∷ left), many))
