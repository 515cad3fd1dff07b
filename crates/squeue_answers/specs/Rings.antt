-- Rings of answers, one for each key.
use Rattle.std.proofs.Common.{Global}
use Rattle.std.specs.Prelude.{◌≡◌, ℕ, nat_eq, Bool, true, false, Option, None, Some, List, [], ◌∷◌, ◌++◌, map}
use Rattle.std.specs.HashMap.{get}
use Rattle.std.specs.List.{AllByRecursion}
use Rattle.rtrb.specs.declared.AnyItems.{AnyItems}
use Rattle.rtrb.specs.declared.consumer.Consumer.{Consumer}
use Rattle.rtrb.specs.declared.producer.Producer.{Producer}
use Rattle.rtrb.specs.Ring.{IsPair, SameConsumer, received, sent}
use Rattle.squeue_arrivals.specs.Arriving.{items_for}
use Rattle.squeue_answers.specs.declared.rings.AnswerRings.{AnswerRings}

-- the keys of a list, and what stands with them
abbrev pub keys_in : {X : Type 0} → List (ℕ × X) → List ℕ
keys_in all = map (λ e. e.0) all

abbrev pub values_in : {X : Type 0} → List (ℕ × X) → List X
values_in all = map (λ e. e.1) all

-- what an item carries: at most the end that pushes of a ring
abbrev pub Out : Type 0 → Type 0
Out A = Option (Producer A Global AnyItems)

module _ {A : Type 0} where
  -- the end that pops of a key's ring, where the key has one
  abbrev pub input_at : AnswerRings A → ℕ → Option (Consumer A Global AnyItems)
  input_at r k = get nat_eq r.inputs k

  abbrev pub waiting_in : AnswerRings A → List ℕ
  waiting_in r = r.waiting.items

  abbrev pub is_stopped : AnswerRings A → Bool
  is_stopped r = r.stopped

  -- Of the items of a key the first carries the other end of this end's ring, into which nothing was pushed, and the others carry none
  abbrev pub HasWay : List (Out A) → Consumer A Global AnyItems → Type 0
  HasWay [] input = ⊥
  HasWay (None ∷ outs) input = ⊥
  HasWay (Some out ∷ outs) input = IsPair out input × (sent out ≡ []) × AllByRecursion (λ o. o ≡ None) outs

  -- items with these keys carry these ends, and each key of theirs has its ring
  pub record HaveWays (outs : List (ℕ × Out A)) (r : AnswerRings A) : Type 0 where
    pub each : (k : ℕ) (input : Consumer A Global AnyItems) → input_at r k ≡ Some input → HasWay (items_for k outs) input
    pub none : (k : ℕ) → input_at r k ≡ None → items_for k outs ≡ []

  -- Of items with these keys the first have had these answers, which came by the rings of their keys, and the others wait
  pub record AreAnswered (keys : List ℕ) (done : List (ℕ × A)) (r : AnswerRings A) : Type 0 where
    pub order : keys_in done ++ waiting_in r ≡ keys
    pub came : (k : ℕ) (input : Consumer A Global AnyItems) → input_at r k ≡ Some input → received input ≡ items_for k done
    pub none : (k : ℕ) → input_at r k ≡ None → items_for k done ≡ []

  -- The next item is of this key and carries this. Where the rings are stopped it is no item that is answered
  abbrev pub HasAsked : Bool → ℕ → Out A → AnswerRings A → AnswerRings A → Type 0
  HasAsked false k out a b =
      ((outs : List (ℕ × Out A)) → HaveWays outs a → HaveWays (outs ++ (k, out) ∷ []) b)
      × ((keys : List ℕ) (done : List (ℕ × A)) → AreAnswered keys done a → AreAnswered (keys ++ k ∷ []) done b)
  HasAsked true k out a b =
      ((outs : List (ℕ × Out A)) → HaveWays outs a → HaveWays outs b)
      × ((keys : List ℕ) (done : List (ℕ × A)) → AreAnswered keys done a → AreAnswered keys done b)

  -- a key that may be new has its ring, where none is stopped, and the first item of it carries this
  pub record HasOpened (k : ℕ) (out : Out A) (a b : AnswerRings A) : Type 0 where
    pub waiting : b.waiting ≡ a.waiting
    pub stopped : (outs : List (ℕ × Out A)) → HaveWays outs a → is_stopped b ≡ true → HaveWays outs b
    pub ways : (outs : List (ℕ × Out A)) → HaveWays outs a → is_stopped b ≡ false → HaveWays (outs ++ (k, out) ∷ []) b
    pub answered : (keys : List ℕ) (done : List (ℕ × A)) → AreAnswered keys done a → AreAnswered keys done b

  -- some of those that wait were answered so
  pub record HasHandedOn (from to : List A) (a b : AnswerRings A) : Type 0 where
    pub stopped : is_stopped b ≡ is_stopped a
    pub ways : (outs : List (ℕ × Out A)) → HaveWays outs a → HaveWays outs b
    pub answered : (keys : List ℕ) (done : List (ℕ × A)) → AreAnswered keys done a
        → (more : List (ℕ × A)) × (to ≡ from ++ values_in more) × AreAnswered keys (done ++ more) b

-- the last of those that waited isn't waited for, where it was refused and isn't one that finds no ring
abbrev pub HasForgotten : Bool → Bool → List ℕ → List ℕ → Type 0
HasForgotten true false was is = (k : ℕ) × (was ≡ is ++ k ∷ [])
HasForgotten refused stopped was is = is ≡ was

module _ {A : Type 0} where
  -- the same ring at each key, by which the same came
  pub record SameInputs (a b : AnswerRings A) : Type 0 where
    pub back : (k : ℕ) (d : Consumer A Global AnyItems) → input_at b k ≡ Some d
        → (c : Consumer A Global AnyItems) × (input_at a k ≡ Some c) × SameConsumer c d × (received d ≡ received c)
    pub on : (k : ℕ) (c : Consumer A Global AnyItems) → input_at a k ≡ Some c
        → (d : Consumer A Global AnyItems) × (input_at b k ≡ Some d) × SameConsumer c d × (received d ≡ received c)
