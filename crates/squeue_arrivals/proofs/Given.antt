-- What a source gave, when an item came to its key, was refused, or none came any more.
use Rattle.std.proofs.Common.{◌≡◌, ℕ, true, false, Option, None, Some, List, [], ◌∷◌, ◌++◌, length, ap, sym, ◌∙◌, subst, append_assoc, append-nil}
use Rattle.std.specs.Prelude.{is_some}
use Rattle.turn_gate.specs.declared.pass.Pass.{Pass}
use Rattle.perimeter_core.specs.History.{Element, Limits}
use Rattle.squeue_state.specs.Naming.{Named}
use Rattle.stream_stays.specs.declared.place.Stays.{Stays}
use Rattle.squeue_arrivals.specs.Arriving.{HasCause, HasGiven}
use Rattle.squeue_arrivals.specs.Keeping.{HasAll, HasArrived}
use Rattle.squeue_arrivals.specs.Placed.{keys_in, most_in}
use Rattle.squeue_arrivals.specs.declared.ring_keys.RingKeys.{RingKeys}
use Rattle.squeue_arrivals.specs.declared.served.Refused.{Refused}
use Rattle.squeue_arrivals.specs.declared.steps.Keyed.{Keyed}

-- what was given in all, when some more was
pub gave_more : {X : Type 0} (first all now next more : List X) → now ≡ first ++ all → next ≡ now ++ more → next ≡ first ++ all ++ more
gave_more {X} first all now next more is was = was ∙ ap (λ (l : List X). l ++ more) is

-- and it is among all
pub gave_on : {X : Type 0} (first all now next more : List X) → now ≡ first ++ all → next ≡ now ++ more → next ≡ first ++ (all ++ more)
gave_on first all now next more is was = gave_more first all now next more is was ∙ append_assoc first all more

none_is_some : (X : Type 0) → is_some {T = X} None ≡ true → ⊥
none_is_some X is = cc is

some_is_none : {X : Type 0} (x : X) → is_some (Some x) ≡ false → ⊥
some_is_none x is = cc is

-- what is so where there is something, and where there is nothing
by_some : {X : Type 0} (P Q : Option X → Type 0) → ((x : X) → P (Some x) → Q (Some x)) → (o : Option X) → is_some o ≡ true → P o → Q o
by_some {X} P Q f None is p = absurd (none_is_some X is)
by_some P Q f (Some x) is p = f x p

by_none : {X : Type 0} (P : Option X → Type 0) (Q : Type 0) → (P None → Q) → (o : Option X) → is_some o ≡ false → P o → Q
by_none P Q f None is p = f p
by_none P Q f (Some x) is p = absurd (some_is_none x is)

none_refused : {X : Type 0} (x : X) → None ≡ Some x → ⊥
none_refused x is = cc is

module _ {R W T S A O : Type 0} (step : Keyed W T S → S → T → S → Type 0) (limits : R → Limits) (s : Named R) (o : Keyed W T S) (origin : A → O) (given : A → List (ℕ × T)) (is_over : A → Type 0) where
  -- it is served so far
  abbrev pub GaveAll : Pass Element → Stays T S → RingKeys → A → A → Option (Refused T) → Type 0
  GaveAll p st k source left r = (all : List (ℕ × T)) × HasAll step limits s o all p st k × HasGiven origin given is_over (most_in k) (length (keys_in k)) all source left r

  -- an item was refused, for this cause
  pub refused_so : (all : List (ℕ × T)) (p : Pass Element) (st : Stays T S) (k : RingKeys) (r : Refused T) (source left : A) → HasAll step limits s o all p st k → given left ≡ given source ++ all ++ (r.key, r.item) ∷ []
      → origin left ≡ origin source → HasCause r.cause (most_in k) (length (keys_in k)) all r.key → GaveAll p st k source left (Some r)
  refused_so all p st k r source left has gave same cause = (
    all,
    has,
    record {
      gave = gave;
      same = same;
      over = λ none. cc none;
      cause = λ q is. let it : r ≡ q = cc is in subst (λ (x : Refused T). HasCause x.cause (most_in k) (length (keys_in k)) all x.key) it cause;
    },
  )

  pub stopped : (all : List (ℕ × T)) (key : ℕ) (item : T) (p : Pass Element) (st : Stays T S) (k : RingKeys) (r : Option (Refused T)) (source left : A) → is_some r ≡ true
      → HasArrived step limits s o all key item p st k r → given left ≡ given source ++ all ++ (key, item) ∷ [] → origin left ≡ origin source → GaveAll p st k source left r
  stopped all key item p st k r source left some arrived gave same =
      by_some (λ (x : Option (Refused T)). HasArrived step limits s o all key item p st k x) (λ (x : Option (Refused T)). GaveAll p st k source left x)
      (λ x a.
      refused_so all p st k x source left a.0
      (subst (λ (n : ℕ). given left ≡ given source ++ all ++ (n, x.item) ∷ []) (sym a.1) (subst (λ (y : T). given left ≡ given source ++ all ++ (key, y) ∷ []) (sym a.2) gave)) same
      (subst (HasCause x.cause (most_in k) (length (keys_in k)) all) (sym a.1) a.3)) r some arrived

  pub went_on : (all : List (ℕ × T)) (key : ℕ) (item : T) (p : Pass Element) (st : Stays T S) (k : RingKeys) (r : Option (Refused T)) → is_some r ≡ false
      → HasArrived step limits s o all key item p st k r → HasAll step limits s o (all ++ (key, item) ∷ []) p st k
  went_on all key item p st k r none arrived =
      by_none (λ (x : Option (Refused T)). HasArrived step limits s o all key item p st k x) (HasAll step limits s o (all ++ (key, item) ∷ []) p st k) (λ a. a) r none arrived

  -- none comes any more
  pub ended_so : (all : List (ℕ × T)) (p : Pass Element) (st : Stays T S) (k : RingKeys) (source left : A) → HasAll step limits s o all p st k → given left ≡ given source ++ all → origin left ≡ origin source
      → is_over left → GaveAll p st k source left None
  ended_so all p st k source left has gave same at_end = (
    all,
    has,
    record {
      gave = gave ∙ sym (append-nil (given source ++ all));
      same = same;
      over = λ none. at_end;
      cause = λ q is. absurd (none_refused q is);
    },
  )
