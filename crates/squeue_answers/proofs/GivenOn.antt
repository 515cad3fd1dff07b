-- A source with its sink, when an item more was given.
use Rattle.std.proofs.Common.{◌≡◌, ℕ, Bool, true, false, List, [], ◌∷◌, ◌++◌, refl, ap, sym, ◌∙◌, subst, append_assoc, append-nil}
use Rattle.std.proofs.lemmas.List.{map-append}
use Rattle.squeue_answers.specs.declared.rings.AnswerRings.{AnswerRings}
use Rattle.squeue_answers.specs.declared.steps.Asked.{Asked}
use Rattle.squeue_answers.specs.Asking.{Asks, HasFinished, IsBehind, outs_in, plain}
use Rattle.squeue_answers.specs.Rings.{AreAnswered, HasAsked, HasForgotten, HasHandedOn, HaveWays, Out, input_at, is_stopped, keys_in, values_in, waiting_in}
use Rattle.squeue_answers.proofs.Lists.{last_gone}
use Rattle.squeue_answers.proofs.Ways.{came_none, same_inputs, ways_on}

module _ {S K T A : Type 0} (gave : S → List (ℕ × T)) (is_over : S → Type 0) (got : K → List A) where
  -- answers are handed on
  pub asks_on : (source first : S) (sink to quiet : K) (given : List (ℕ × Asked T A)) (a b : AnswerRings A) (over : Bool) → HasHandedOn (got sink) (got to) a b
      → Asks gave is_over got source first sink quiet given a over → Asks gave is_over got source first to quiet given b over
  asks_on source first sink to quiet given a b over handed asks =
      let h = handed.answered (keys_in asks.front) asks.done asks.answered in
      record {
        front = asks.front;
        done = asks.done ++ h.0;
        behind = subst (λ (s : Bool). IsBehind s asks.front given) (sym handed.stopped) asks.behind;
        came = asks.came;
        told =
            h.1
            ∙ (ap (λ (l : List A). l ++ values_in h.0) asks.told
            ∙ (append_assoc (got quiet) (values_in asks.done) (values_in h.0) ∙ ap (λ (l : List A). got quiet ++ l) (sym (map-append (λ (e : ℕ × A). e.1) asks.done h.0))));
        ways = handed.ways (outs_in asks.front) asks.ways;
        answered = h.2;
        ended = asks.ended;
      }

  -- nothing was given
  pub asks_same : (source next first : S) (sink quiet : K) (given : List (ℕ × Asked T A)) (a : AnswerRings A) (over ends : Bool) → gave next ≡ gave source ++ [] → (ends ≡ true → is_over next)
      → Asks gave is_over got source first sink quiet given a over → Asks gave is_over got next first sink quiet given a ends
  asks_same source next first sink quiet given a over ends same ended asks =
      record {
        front = asks.front;
        done = asks.done;
        behind = asks.behind;
        came = same ∙ (append-nil (gave source) ∙ asks.came);
        told = asks.told;
        ways = asks.ways;
        answered = asks.answered;
        ended = ended;
      }

  -- an item was given
  pub asks_more : (source next first : S) (sink quiet : K) (given now : List (ℕ × Asked T A)) (a b : AnswerRings A) (over : Bool) (key : ℕ) (item : T) (asked : Asked T A)
      → gave next ≡ gave source ++ (key, item) ∷ [] → asked.item ≡ item → now ≡ given ++ (key, asked) ∷ [] → is_stopped a ≡ false → over ≡ false → HasAsked (is_stopped b) key asked.out a b
      → Asks gave is_over got source first sink quiet given a over → Asks gave is_over got next first sink quiet now b over
  asks_more source next first sink quiet given now a b over key item asked more its_item grown runs goes has asks = go (is_stopped b) refl has
    where
      came : gave next ≡ gave first ++ plain now
      came =
          let one : (key, item) ∷ [] ≡ plain ((key, asked) ∷ []) = ap (λ (t : T). (key, t) ∷ []) (sym its_item) in
          more
          ∙ (ap (λ (l : List (ℕ × T)). l ++ (key, item) ∷ []) asks.came
          ∙ (append_assoc (gave first) (plain given) ((key, item) ∷ [])
          ∙ ap (λ (l : List (ℕ × T)). gave first ++ l)
          (ap (λ (l : List (ℕ × T)). plain given ++ l) one ∙ sym (ap plain grown ∙ map-append (λ (e : ℕ × Asked T A). (e.0, e.1.item)) given ((key, asked) ∷ [])))))

      all : given ≡ asks.front
      all = subst (λ (s : Bool). IsBehind s asks.front given) runs asks.behind

      go : (s : Bool) → is_stopped b ≡ s → HasAsked s key asked.out a b → Asks gave is_over got next first sink quiet now b over
      go false is has =
          record {
            front = asks.front ++ (key, asked) ∷ [];
            done = asks.done;
            behind = subst (λ (s : Bool). IsBehind s (asks.front ++ (key, asked) ∷ []) now) (sym is) (grown ∙ ap (λ (l : List (ℕ × Asked T A)). l ++ (key, asked) ∷ []) all);
            came = came;
            told = asks.told;
            ways = subst (λ (l : List (ℕ × Out A)). HaveWays l b) (sym (map-append (λ (e : ℕ × Asked T A). (e.0, e.1.out)) asks.front ((key, asked) ∷ []))) (has.0 (outs_in asks.front) asks.ways);
            answered = subst (λ (l : List ℕ). AreAnswered l asks.done b) (sym (map-append (λ (e : ℕ × Asked T A). e.0) asks.front ((key, asked) ∷ []))) (has.1 (keys_in asks.front) asks.done asks.answered);
            ended = λ t. absurd (cc (sym goes ∙ t));
          }
      go true is has =
          record {
            front = asks.front;
            done = asks.done;
            behind = subst (λ (s : Bool). IsBehind s asks.front now) (sym is) ((key, asked), grown ∙ ap (λ (l : List (ℕ × Asked T A)). l ++ (key, asked) ∷ []) all);
            came = came;
            told = asks.told;
            ways = has.0 (outs_in asks.front) asks.ways;
            answered = has.1 (keys_in asks.front) asks.done asks.answered;
            ended = λ t. absurd (cc (sym goes ∙ t));
          }

  -- which items are all that are answered in the end
  module _ (front given all : List (ℕ × Asked T A)) (done : List (ℕ × A)) (was is : List ℕ) where
    whole : (refused stopped : Bool) → (refused ≡ false → stopped ≡ false) → IsBehind stopped front given → HasForgotten refused stopped was is → IsBehind refused all given
        → keys_in done ++ was ≡ keys_in front → ((more : List (ℕ × Asked T A)) × (front ≡ all ++ more)) × (keys_in done ++ is ≡ keys_in all)
    whole false false runs behind forgotten last order =
        let same : front ≡ all = sym behind ∙ last in
        (([], same ∙ sym (append-nil all)), ap (λ (l : List ℕ). keys_in done ++ l) forgotten ∙ (order ∙ ap keys_in same))
    whole false true runs behind forgotten last order = absurd (cc (runs refl))
    whole true false runs behind forgotten last order =
        let same : front ≡ all ++ last.0 ∷ [] = sym behind ∙ last.1 in
        let keys : (keys_in done ++ is) ++ forgotten.0 ∷ [] ≡ keys_in all ++ last.0.0 ∷ [] =
        append_assoc (keys_in done) is (forgotten.0 ∷ [])
        ∙ (ap (λ (l : List ℕ). keys_in done ++ l) (sym forgotten.1) ∙ (order ∙ (ap keys_in same ∙ map-append (λ (e : ℕ × Asked T A). e.0) all (last.0 ∷ [])))) in
        ((last.0 ∷ [], same), last_gone (keys_in done ++ is) (keys_in all) forgotten.0 last.0.0 keys)
    whole true true runs behind forgotten last order =
        let same : front ≡ all = last_gone front all behind.0 last.0 (sym behind.1 ∙ last.1) in
        (([], same ∙ sym (append-nil all)), ap (λ (l : List ℕ). keys_in done ++ l) forgotten ∙ (order ∙ ap keys_in same))

  pub finished : (source first : S) (sink to quiet : K) (given all : List (ℕ × Asked T A)) (a b c : AnswerRings A) (over refused : Bool) → (refused ≡ false → is_stopped a ≡ false)
      → Asks gave is_over got source first sink quiet given a over → HasForgotten refused (is_stopped a) (waiting_in a) (waiting_in b) → b.inputs ≡ a.inputs → HasHandedOn (got sink) (got to) b c
      → waiting_in c ≡ [] → IsBehind refused all given → HasFinished got all quiet to c
  finished source first sink to quiet given all a b c over refused runs asks forgotten inputs handed none last =
      let all_of = whole asks.front given all asks.done (waiting_in a) (waiting_in b) refused (is_stopped a) runs asks.behind forgotten last asks.answered.order in
      let same : (k : ℕ) → input_at b k ≡ input_at a k = λ k. rw inputs refl in
      let came = came_none a b (same_inputs a b same) in
      let now : AreAnswered (keys_in all) asks.done b =
      record { order = all_of.1; came = λ k d at. asks.answered.came k d (sym (same k) ∙ at); none = λ k at. asks.answered.none k (sym (same k) ∙ at) } in
      let h = handed.answered (keys_in all) asks.done now in
      record {
        front = asks.front;
        behind = all_of.0;
        done = asks.done ++ h.0;
        told =
            h.1
            ∙ (ap (λ (l : List A). l ++ values_in h.0) asks.told
            ∙ (append_assoc (got quiet) (values_in asks.done) (values_in h.0) ∙ ap (λ (l : List A). got quiet ++ l) (sym (map-append (λ (e : ℕ × A). e.1) asks.done h.0))));
        ways = handed.ways (outs_in asks.front) (ways_on [] a b (outs_in asks.front) came asks.ways);
        answered = h.2;
        none = none;
      }
