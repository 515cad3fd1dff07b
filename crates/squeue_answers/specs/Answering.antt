-- What is made of items that arrive with their keys, and what they are answered.
use Rattle.std.specs.Prelude.{◌≡◌, ◌≢◌, ℕ, ◌+◌, ◌*◌, ◌<◌, ◌≤◌, Some, List, [], ◌++◌, Contains, length, map, nat_eq, slice_get}
use Rattle.std.specs.List.{IsDistinct}
use Rattle.perimeter_core.specs.History.{Element, Setting}
use Rattle.histories.specs.Endings.{Ending, HasEnded}
use Rattle.squeue_arrivals.specs.Arriving.{HasGiven, IsMadeOf, items_for, keys_of}
use Rattle.squeue_arrivals.specs.Stayed.{WasFed}
use Rattle.squeue_arrivals.specs.declared.served.KeyPart.{KeyPart}
use Rattle.squeue_answers.specs.declared.serving.AnsweredSource.{AnsweredSource}

-- of items with their keys and answers, the items with their keys; and the answers
abbrev pub items_in : {T A : Type 0} → List (ℕ × (T × A)) → List (ℕ × T)
items_in all = map (λ e. (e.0, e.1.0)) all

abbrev pub answers_in : {T A : Type 0} → List (ℕ × (T × A)) → List A
answers_in all = map (λ e. e.1.1) all

-- which states may follow a state by an item with its answer
abbrev pub ByAnswered : {W S T A : Type 0} → (W → S → T → A → S → Type 0) → W → S → T × A → S → Type 0
ByAnswered step w s e next = step w s e.0 e.1 next

module _ {W T A S X K O : Type 0} (begins : W → S → Type 0) (step : W → S → T → A → S → Type 0) (origin : X → O) (given : X → List (ℕ × T))
    (is_over : X → Type 0) (got : K → List A) (work : W) (most : ℕ) where
  -- A source is served that gave these items, each of which has an answer, and its sink got just these answers, in the order of the items.
  -- There is one part for each key among them, and no other, and there are no more than places. Each is made of all items of its key, in their order, by steps that gave these answers
  pub record IsAnswered (source : X × K) (left : AnsweredSource X K T S) : Type 0 where
    pub all : List (ℕ × (T × A))
    pub its_items : HasGiven origin given is_over most (length left.parts.items) (items_in all) source.0 left.source left.refused
    pub its_answers : got left.sink ≡ got source.1 ++ answers_in all
    pub few : length left.parts.items ≤ most
    pub distinct : IsDistinct nat_eq (keys_of left.parts.items)
    pub each : (i : ℕ) (part : KeyPart S) → slice_get left.parts.items i ≡ Some part
        → (items_for part.key all ≢ []) × IsMadeOf begins (ByAnswered step) work (items_for part.key all) part.state
    pub every : (k : ℕ) → items_for k all ≢ [] → Contains (keys_of left.parts.items) k

  -- and in this history of this setting the part of each key had as many feeds as items, in all stays that ring k ended: the part of the i-th
  -- key is number k plus i times the rings
  pub record IsAnsweredBy (at : Setting) (k : ℕ) (H : List Element) (source : X × K) (left : AnsweredSource X K T S) : Type 0 where
    pub answered : IsAnswered source left
    pub stays : (i : ℕ) (part : KeyPart S) → slice_get left.parts.items i ≡ Some part
        → WasFed at k (k + i * at.rings) (length (items_for part.key answered.all)) H

  -- so it is in the history of an ended squeue, which is legal and over, where the source's ring had this number
  pub record IsAnsweredIn (end : Ending) (k : ℕ) (source : X × K) (left : AnsweredSource X K T S) : Type 0 where
    pub ended : HasEnded end
    pub ring : k < end.setting.rings
    pub by : IsAnsweredBy end.setting k end.history source left
