-- A source that was served, and whose answers came.
use Rattle.std.proofs.Common.{◌≡◌, ◌≢◌, Global, ℕ, zero, suc, ◌+◌, ◌*◌, Bool, false, Option, None, Some, List, [], ◌∷◌, ◌++◌, length, map, slice_get, refl, ap, sym, ◌∙◌, subst, arith, append_assoc, append-nil}
use Rattle.std.specs.Prelude.{Contains, is_some, nat_eq}
use Rattle.std.specs.List.{IsDistinct}
use Rattle.std.proofs.lemmas.List.{length-map, map-append}
use Rattle.rtrb.specs.declared.AnyItems.{AnyItems}
use Rattle.rtrb.specs.declared.consumer.Consumer.{Consumer}
use Rattle.rtrb.specs.declared.producer.Producer.{Producer}
use Rattle.rtrb.specs.Ring.{IsPair}
use Rattle.histories.specs.Endings.{Ending}
use Rattle.squeue_streams.specs.Taking.{Takes}
use Rattle.squeue_arrivals.specs.Arriving.{HasCause, IsMadeOf, items_for, keys_of, refused_in}
use Rattle.squeue_arrivals.specs.Stayed.{WasFed}
use Rattle.squeue_arrivals.specs.declared.served.Cause.{Cause}
use Rattle.squeue_arrivals.specs.declared.served.Cause.TheVariants as Cause'
use Rattle.squeue_arrivals.specs.declared.served.KeyPart.{KeyPart}
use Rattle.squeue_arrivals.specs.declared.served.Refused.{Refused}
use Rattle.squeue_arrivals.specs.declared.served.ServedSource.{ServedSource}
use Rattle.squeue_answers.specs.declared.rings.AnswerRings.{AnswerRings}
use Rattle.squeue_answers.specs.declared.serving.AnsweredSource.{AnsweredSource}
use Rattle.squeue_answers.specs.declared.steps.Answerer.{Answerer}
use Rattle.squeue_answers.specs.declared.steps.Asked.{Asked}
use Rattle.squeue_answers.specs.Answering.{ByAnswered, IsAnswered, IsAnsweredIn, items_in}
use Rattle.squeue_answers.specs.Asking.{AskingOf, HasFinished, IsBehind, outs_in, plain}
use Rattle.squeue_answers.specs.Parting.{IsCompared, MayCompare, plain_part, plain_parts, plain_refused}
use Rattle.squeue_answers.specs.Rings.{HasWay, Out, input_at, keys_in, values_in}
use Rattle.squeue_answers.specs.Serving.{WasServed, WasServedIn}
use Rattle.squeue_answers.specs.Stepping.{Steps}
use Rattle.squeue_answers.proofs.ByKey.{all_came, answered_by, answers_are, answers_of, both_for, items_are, outs_for, plain_for, way_front, with_answers}
use Rattle.squeue_answers.proofs.Ways.{items_both}

module _ {T A : Type 0} where
  -- what was given is what was taken, and maybe what was refused
  pub behind : (o : Option (Refused (Asked T A))) (all given : List (ℕ × Asked T A)) → given ≡ all ++ refused_in o → IsBehind (is_some o) all given
  behind None all given is = is ∙ append-nil all
  behind (Some r) all given is = ((r.key, r.item), is)

  pub refused_plain : (o : Option (Refused (Asked T A))) → plain (refused_in o) ≡ refused_in (plain_refused o)
  refused_plain None = refl
  refused_plain (Some r) = refl

  pub none_plain : (o : Option (Refused (Asked T A))) → plain_refused o ≡ None → o ≡ None
  none_plain None is = refl
  none_plain (Some r) is = absurd (cc is)

  pub none_with : (xs : List (Asked T A)) (ys : List A) → length ys ≡ length xs → with_answers xs ys ≡ [] → xs ≡ []
  none_with [] ys many none = refl
  none_with (x ∷ xs) [] many none = absurd (omega (arith, many))
  none_with (x ∷ xs) (a ∷ ys) many none = absurd (cc none)

  pub many_with : (xs : List (Asked T A)) (ys : List A) → length ys ≡ length xs → length (with_answers xs ys) ≡ length xs
  many_with [] ys many = refl
  many_with (x ∷ xs) [] many = absurd (omega (arith, many))
  many_with (x ∷ xs) (a ∷ ys) many = let more = many_with xs ys (omega (arith, many)) in omega (arith, more)

  pub cause_plain : (c : Cause) (most many k : ℕ) (all : List (ℕ × Asked T A)) → HasCause c most many all k → HasCause c most many (plain all) k
  cause_plain Cause'.NoPlace most many k all h = (h.0, plain_for k all ∙ ap (map (λ x. x.item)) h.1)
  cause_plain Cause'.LifeIsOver most many k all h = let same : length (plain all) ≡ length all = length-map all (λ e. (e.0, e.1.item)) in omega (arith, h, same)

module _ {S A : Type 0} where
  pub plain_at : (ps : List (KeyPart (Answerer S A))) (i : ℕ) (part : KeyPart S) → slice_get (plain_parts ps) i ≡ Some part
      → (p : KeyPart (Answerer S A)) × (slice_get ps i ≡ Some p) × (part ≡ plain_part p)
  plain_at [] i part at = absurd (cc at)
  plain_at (p ∷ ps) zero part at = (p, refl, let same : plain_part p ≡ part = cc at in sym same)
  plain_at (p ∷ ps) (suc i) part at = plain_at ps i part at

  pub keys_plain : (ps : List (KeyPart (Answerer S A))) → keys_of (plain_parts ps) ≡ keys_of ps
  keys_plain [] = refl
  keys_plain (p ∷ ps) = ap (λ (l : List ℕ). p.key ∷ l) (keys_plain ps)

-- a ring that is there
ring_of : {C : Type 0} (o : Option C) → (o ≡ None → ⊥) → (c : C) × (o ≡ Some c)
ring_of None some = absurd (some refl)
ring_of (Some c) some = (c, refl)

module _ {K T A : Type 0} (got : K → List A) (quiet sink : K) (rings : AnswerRings A) (all : List (ℕ × Asked T A)) (fin : HasFinished got all quiet sink rings) where
  pub same_keys : keys_in fin.done ≡ keys_in all
  same_keys = sym (append-nil (keys_in fin.done)) ∙ (ap (λ (l : List ℕ). keys_in fin.done ++ l) (sym fin.none) ∙ fin.answered.order)

  outs_front : (k : ℕ) → (more : List (Out A)) × (items_for k (outs_in fin.front) ≡ map (λ x. x.out) (items_for k all) ++ more)
  outs_front k =
      let more = fin.behind.0 in (
        items_for k (outs_in more),
        ap (λ (l : List (ℕ × Asked T A)). items_for k (outs_in l)) fin.behind.1
            ∙ (ap (items_for k) (map-append (λ (e : ℕ × Asked T A). (e.0, e.1.out)) all more)
            ∙ (items_both k (outs_in all) (outs_in more) ∙ ap (λ (l : List (Out A)). l ++ items_for k (outs_in more)) (outs_for k all))),
      )

  some_out : (xs : List (Asked T A)) → xs ≢ [] → map (λ x. x.out) xs ≢ []
  some_out [] some is = some refl
  some_out (x ∷ xs) some is = cc is

  -- the ring of a key of which an item came
  pub way_of : (k : ℕ) (c : Consumer A Global AnyItems) → items_for k all ≢ [] → input_at rings k ≡ Some c → HasWay (map (λ x. x.out) (items_for k all)) c
  way_of k c some at =
      let f = outs_front k in
      way_front (map (λ x. x.out) (items_for k all)) f.0 c (some_out (items_for k all) some) (subst (λ (os : List (Out A)). HasWay os c) f.1 (fin.ways.each k c at))

  some_append : (xs ys : List (Out A)) → xs ≢ [] → xs ++ ys ≡ [] → ⊥
  some_append [] ys some is = some refl
  some_append (x ∷ xs) ys some is = cc is

  pub is_there : (k : ℕ) → items_for k all ≢ [] → (c : Consumer A Global AnyItems) × (input_at rings k ≡ Some c)
  is_there k some =
      ring_of (input_at rings k)
      (λ at. let f = outs_front k in some_append (map (λ x. x.out) (items_for k all)) f.0 (some_out (items_for k all) some) (sym f.1 ∙ fin.ways.none k at))

  module _ {S : Type 0} (step : S → T → A → S → Type 0) (part : KeyPart (Answerer S A)) (first : Answerer S A) (some : items_for part.key all ≢ [])
      (took : Takes (Steps step) first (items_for part.key all) part.state) where
    -- its part pushes into it
    pub may_compare : MayCompare rings part
    may_compare c out at is =
        let h = answers_of step first (items_for part.key all) part.state c (way_of part.key c some at) took in
        let same : h.1 ≡ out = cc (sym h.2 ∙ is) in
        subst (λ (p : Producer A Global AnyItems). IsPair p c) same h.3

    -- and what came by it are the answers of its items
    pub taken_with : IsCompared rings part → Takes (λ s e next. step s e.0 e.1 next) first.state (items_for part.key (answered_by all fin.done)) part.state.state
    taken_with compared =
        let k = part.key in
        let there = is_there k some in
        let c = there.0 in
        let h = answers_of step first (items_for k all) part.state c (way_of k c some there.1) took in
        let left = compared c h.1 there.1 h.2 in
        let both = both_for k all fin.done same_keys in
        let came = fin.answered.came k c there.1 in
        let all_sent : _ = h.5.pushed ∙ ap (λ (l : List A). l ++ h.5.answers) h.4 in
        let many : length (items_for k fin.done) ≡ length h.5.answers = omega (arith, both.1, h.5.many) in
        let same : items_for k fin.done ≡ h.5.answers = all_came (items_for k fin.done) left.0 h.5.answers _ (ap (λ (l : List A). l ++ left.0) (sym came) ∙ left.1) all_sent many in
        subst (λ (l : List (T × A)). Takes (λ s e next. step s e.0 e.1 next) first.state l part.state.state) (sym (both.0 ∙ ap (with_answers (items_for k all)) same)) h.5.taken

module _ {V W T A S X K O : Type 0} (steps_of : V → W) (begins : W → S → Type 0) (step : W → S → T → A → S → Type 0) (origin : X → O) (given : X → List (ℕ × T))
    (is_over : X → Type 0) (got : K → List A) (work : V) (most : ℕ) where
  module _ (source : X × K) (left : ServedSource (AskingOf X K T A) (Asked T A) (Answerer S A))
      (served : WasServed steps_of begins step origin given is_over got work most source left) where
    pub first_is : left.source.first ≡ source.0
    first_is = ap (λ (p : O × X × K). p.1) served.its_items.same

    pub quiet_is : left.source.quiet ≡ source.1
    quiet_is = ap (λ (p : O × X × K). p.2) served.its_items.same

    pub is_behind : IsBehind (is_some left.refused) served.all left.source.given
    is_behind = behind left.refused served.all left.source.given served.its_items.gave

    -- each part may be compared
    pub may_all : (sink : K) (rings : AnswerRings A) → HasFinished got served.all left.source.quiet sink rings → (i : ℕ) (part : KeyPart (Answerer S A)) → slice_get left.parts.items i ≡ Some part
        → MayCompare rings part
    may_all sink rings fin i part at =
        let e = served.each i part at in
        may_compare got left.source.quiet sink rings served.all fin (step (steps_of work)) part e.1.first e.0 e.1.taken

    module _ (rings : AnswerRings A) (result : AnsweredSource X K T S) (fin : HasFinished got served.all left.source.quiet result.sink rings)
        (compared : (i : ℕ) (part : KeyPart (Answerer S A)) → slice_get left.parts.items i ≡ Some part → IsCompared rings part)
        (came : given left.source.source ≡ given left.source.first ++ plain left.source.given) (source_is : result.source ≡ left.source.source)
        (parts_are : result.parts.items ≡ plain_parts left.parts.items) (refused_is : result.refused ≡ plain_refused left.refused) where
      pub all_of : keys_in fin.done ≡ keys_in served.all
      all_of = same_keys got left.source.quiet result.sink rings served.all fin

      pub many_of : length result.parts.items ≡ length left.parts.items
      many_of = ap length parts_are ∙ length-map left.parts.items plain_part

      pub plain_is : items_in (answered_by served.all fin.done) ≡ plain served.all
      plain_is = items_are served.all fin.done all_of

      pub gave : given result.source ≡ given source.0 ++ items_in (answered_by served.all fin.done) ++ refused_in result.refused
      gave =
          let more = plain (refused_in left.refused) in
          let two : plain left.source.given ≡ plain served.all ++ more =
          ap plain served.its_items.gave ∙ map-append (λ (e : ℕ × Asked T A). (e.0, e.1.item)) served.all (refused_in left.refused) in
          ap given source_is
          ∙ (came
          ∙ (ap (λ (l : List (ℕ × T)). given left.source.first ++ l) two
          ∙ (sym (append_assoc (given left.source.first) (plain served.all) more)
          ∙ (ap (λ (l : List (ℕ × T)). (l ++ plain served.all) ++ more) (ap given first_is)
          ∙ (ap (λ (l : List (ℕ × T)). (given source.0 ++ l) ++ more) (sym plain_is)
          ∙ ap (λ (l : List (ℕ × T)). (given source.0 ++ items_in (answered_by served.all fin.done)) ++ l) (refused_plain left.refused ∙ ap refused_in (sym refused_is)))))))

      pub cause_of : (o : Option (Refused (Asked T A))) → left.refused ≡ o → (r : Refused T) → plain_refused o ≡ Some r
          → HasCause r.cause most (length result.parts.items) (items_in (answered_by served.all fin.done)) r.key
      cause_of None is r at = absurd (cc at)
      cause_of (Some x) is r at =
          let same : record { key = x.key; item = x.item.item; cause = x.cause } ≡ r = cc at in
          let h = cause_plain x.cause most (length left.parts.items) x.key served.all (served.its_items.cause x is) in
          let here = subst (λ (n : ℕ). HasCause x.cause most n (plain served.all) x.key) (sym many_of) h in
          let there = subst (λ (l : List (ℕ × T)). HasCause x.cause most (length result.parts.items) l x.key) (sym plain_is) here in
          subst (λ (y : Refused T). HasCause y.cause most (length result.parts.items) (items_in (answered_by served.all fin.done)) y.key) same there

      pub some_left : (k : ℕ) → items_for k (answered_by served.all fin.done) ≢ [] → items_for k served.all ≢ []
      some_left k some none =
          let both = both_for k served.all fin.done all_of in
          some (both.0 ∙ ap (λ (l : List (Asked T A)). with_answers l (items_for k fin.done)) none)

      pub some_right : (k : ℕ) → items_for k served.all ≢ [] → items_for k (answered_by served.all fin.done) ≢ []
      some_right k some none =
          let both = both_for k served.all fin.done all_of in
          some (none_with (items_for k served.all) (items_for k fin.done) both.1 (sym both.0 ∙ none))

      pub keys_are : keys_of result.parts.items ≡ keys_of left.parts.items
      keys_are = ap keys_of parts_are ∙ keys_plain left.parts.items

      abbrev pub is_answered : IsAnswered begins step origin given is_over got (steps_of work) most source result
      is_answered = record {
        all = answered_by served.all fin.done;
        its_items = record {
          gave = gave;
          same = ap origin source_is ∙ ap (λ (p : O × X × K). p.0) served.its_items.same;
          over = λ e. subst is_over (sym source_is) (served.its_items.over (none_plain left.refused (sym refused_is ∙ e))).0;
          cause = λ r e. cause_of left.refused refl r (sym refused_is ∙ e);
        };
        its_answers = fin.told ∙ (ap (λ (x : K). got x ++ values_in fin.done) quiet_is ∙ ap (λ (l : List A). got source.1 ++ l) (sym (answers_are served.all fin.done all_of)));
        few = omega (arith, served.few, many_of);
        distinct = subst (IsDistinct nat_eq) (sym keys_are) served.distinct;
        each = λ i part at.
            let p = plain_at left.parts.items i part (ap (λ (l : List (KeyPart S)). slice_get l i) (sym parts_are) ∙ at) in
            let e = served.each i p.0 p.1 in
            let made : IsMadeOf begins (ByAnswered step) (steps_of work) (items_for p.0.key (answered_by served.all fin.done)) p.0.state.state = record {
              first = e.1.first.state;
              begun = e.1.begun.begun;
              taken = taken_with got left.source.quiet result.sink rings served.all fin (step (steps_of work)) p.0 e.1.first e.0 e.1.taken (compared i p.0 p.1);
            } in
            subst (λ (x : KeyPart S). (items_for x.key (answered_by served.all fin.done) ≢ []) × IsMadeOf begins (ByAnswered step) (steps_of work) (items_for x.key (answered_by served.all fin.done)) x.state)
            (sym p.2) (some_right p.0.key e.0, made);
        every = λ k some. subst (λ (l : List ℕ). Contains l k) (sym keys_are) (served.every k (some_left k some));
      }

      pub many_for : (k : ℕ) → length (items_for k (answered_by served.all fin.done)) ≡ length (items_for k served.all)
      many_for k =
          let both = both_for k served.all fin.done all_of in
          ap length both.0 ∙ many_with (items_for k served.all) (items_for k fin.done) both.1

  -- and so it is by the history of its squeue
  pub answered_in : (end : Ending) (k : ℕ) (source : X × K) (left : ServedSource (AskingOf X K T A) (Asked T A) (Answerer S A))
      (h : WasServedIn steps_of begins step origin given is_over got work most end k source left) (rings : AnswerRings A) (result : AnsweredSource X K T S)
      (fin : HasFinished got h.by.served.all left.source.quiet result.sink rings)
      → ((i : ℕ) (part : KeyPart (Answerer S A)) → slice_get left.parts.items i ≡ Some part → IsCompared rings part)
      → given left.source.source ≡ given left.source.first ++ plain left.source.given → result.source ≡ left.source.source → result.parts.items ≡ plain_parts left.parts.items
      → result.refused ≡ plain_refused left.refused → IsAnsweredIn begins step origin given is_over got (steps_of work) most end k source result
  answered_in end k source left h rings result fin compared came source_is parts_are refused_is =
      record {
        ended = h.ended;
        ring = h.ring;
        by = record {
          answered = is_answered source left h.by.served rings result fin compared came source_is parts_are refused_is;
          stays = λ i part at.
              let p = plain_at left.parts.items i part (ap (λ (l : List (KeyPart S)). slice_get l i) (sym parts_are) ∙ at) in
              let many = many_for source left h.by.served rings result fin compared came source_is parts_are refused_is p.0.key in
              let there = subst (λ (n : ℕ). WasFed end.setting k (k + i * end.setting.rings) n end.history) (sym many) (h.by.stays i p.0 p.1) in
              subst (λ (x : KeyPart S). WasFed end.setting k (k + i * end.setting.rings) (length (items_for x.key (answered_by h.by.served.all fin.done))) end.history) (sym p.2) there;
        };
      }

pub none_some : {Y : Type 0} (o : Option Y) (b : Bool) → b ≡ is_some o → b ≡ false → o ≡ None
none_some None b is none = refl
none_some (Some y) b is none = absurd (cc (sym is ∙ none))
