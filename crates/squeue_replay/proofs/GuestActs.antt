-- What was processed and done, connection by connection.
use Rattle.std.proofs.Common.{◌≡◌, ℕ, ◌+◌, ◌-◌, Bool, true, false, if◌then◌else◌, ◌==◌, Some, List, [], ◌∷◌, ◌++◌, length, refl, ap, sym, ◌∙◌, arith, length-append}
use Rattle.std.specs.Prelude.{slice_get}
use Rattle.std.proofs.lemmas.List.{append-nil}
use Rattle.std.proofs.lemmas.Bool.Decides.{nat_tests}
use Rattle.perimeter_core.specs.declared.entries.Act.{Act}
use Rattle.perimeter_core.specs.declared.entries.Act.TheVariants as Did
use Rattle.perimeter_core.specs.declared.entries.Entry.{Entry}
use Rattle.perimeter_core.specs.declared.marks.SynchAct.{SynchAct}
use Rattle.perimeter_core.specs.declared.marks.SynchAct.TheVariants as Done
use Rattle.perimeter_core.specs.declared.marks.Mark.TheVariants as On
use Rattle.perimeter_core.specs.Perimeter.{State, processed}
use Rattle.perimeter_core.specs.Deeds.{fed, feed_acts, feeds_of}
use Rattle.perimeter_core.proofs.FeedActs.{feed_acts-append}
use Rattle.perimeter_core.proofs.FeedLists.{feeds_of-append}
use Rattle.squeue_replay.specs.Standing.{GuestOf}
use Rattle.squeue_replay.specs.Steps.{last_longer, guest_fed, guest_acted, Became}
use Rattle.squeue_replay.proofs.GuestSteps.{guest_after, last_longer-none, last_longer-twice}

abbrev made : Bool → ℕ → ℕ → ℕ → ℕ → List (List Act) → GuestOf
made here due queued left came did = record { here = here; due = due; queued = queued; left = left; came = came; did = did }

same_made : (b b' : Bool) (d d' q q' l l' n n' : ℕ) (a a' : List (List Act)) → b ≡ b' → d ≡ d' → q ≡ q' → l ≡ l' → n ≡ n' → a ≡ a' → made b d q l n a ≡ made b' d' q' l' n' a'
same_made b b' d d' q q' l l' n n' a a' eb ed eq el en ea = rw (eb, ed, eq, el, en, ea) refl

pub fed_none : (c : ℕ) (es : List Entry) (g : GuestOf) → feeds_of c es ≡ [] → feed_acts c es ≡ [] → guest_fed c es g ≡ g
fed_none c es g none nothing =
    same_made g.here g.here g.due g.due (g.queued - length (feeds_of c es)) g.queued g.left g.left g.came g.came (last_longer (feed_acts c es) g.did) g.did
    refl refl (rw none (omega arith)) refl refl (rw nothing (last_longer-none g.did))

pub fed_twice : (c : ℕ) (xs ys : List Entry) (g : GuestOf) → guest_fed c ys (guest_fed c xs g) ≡ guest_fed c (xs ++ ys) g
fed_twice c xs ys g =
    let sum : length (feeds_of c (xs ++ ys)) ≡ length (feeds_of c xs) + length (feeds_of c ys) = ap length (feeds_of-append c xs ys) ∙ length-append _ _ in
    same_made g.here g.here g.due g.due (g.queued - length (feeds_of c xs) - length (feeds_of c ys)) (g.queued - length (feeds_of c (xs ++ ys))) g.left g.left g.came g.came
    (last_longer (feed_acts c ys) (last_longer (feed_acts c xs) g.did)) (last_longer (feed_acts c (xs ++ ys)) g.did)
    refl refl (omega (arith, sum)) refl refl
    (last_longer-twice (feed_acts c xs) (feed_acts c ys) g.did ∙ ap (λ (a : List Act). last_longer a g.did) (sym (feed_acts-append c xs ys)))

-- what a Take says of a connection
pub taken_guest : (c p : ℕ) (s : State) (g : GuestOf) → guest_fed c s.hand g ≡ guest_after c s record { mark = On.Take p; note = [] } g
taken_guest c p s g =
    same_made g.here g.here g.due (g.due + 0) (g.queued - length (feeds_of c s.hand)) (g.queued + 0 - length (feeds_of c s.hand)) g.left (g.left + 0) g.came (g.came + 0)
    (last_longer (feed_acts c s.hand) g.did) (last_longer (feed_acts c s.hand ++ []) g.did)
    refl (omega arith) (omega arith) (omega arith) (omega arith) (ap (λ (a : List Act). last_longer a g.did) (sym (append-nil (feed_acts c s.hand))))

pub granted_guest : (c p j rest : ℕ) (s : State) (g : GuestOf) → guest_fed c (processed rest s.hand) g ≡ guest_after c s record { mark = On.Grant p j rest; note = [] } g
granted_guest c p j rest s g =
    same_made g.here g.here g.due (g.due + 0) (g.queued - length (feeds_of c (processed rest s.hand))) (g.queued + 0 - length (feeds_of c (processed rest s.hand))) g.left (g.left + 0) g.came (g.came + 0)
    (last_longer (feed_acts c (processed rest s.hand)) g.did) (last_longer (feed_acts c (processed rest s.hand) ++ []) g.did)
    refl (omega arith) (omega arith) (omega arith) (omega arith) (ap (λ (a : List Act). last_longer a g.did) (sym (append-nil (feed_acts c (processed rest s.hand)))))

-- what a Leave says of it, if nothing was processed of one that is put in
module _ (c p rest : ℕ) (s : State) (note : List Act) (g : GuestOf) where
  es : List Entry
  es = processed rest s.hand

  -- neither put in nor taken out, with these acts more
  still : (act : SynchAct) (more : List Act) (did : List (List Act)) → did ≡ last_longer (feed_acts c (processed rest s.hand) ++ more) g.did
      → made g.here g.due (g.queued - length (feeds_of c (processed rest s.hand))) g.left g.came did
      ≡ made g.here (g.due + 0) (g.queued + 0 - length (feeds_of c (processed rest s.hand))) (g.left + 0) (g.came + 0) (last_longer (feed_acts c (processed rest s.hand) ++ more) g.did)
  still act more did e =
      same_made g.here g.here g.due (g.due + 0) (g.queued - length (feeds_of c (processed rest s.hand))) (g.queued + 0 - length (feeds_of c (processed rest s.hand))) g.left (g.left + 0) g.came (g.came + 0) did _
      refl (omega arith) (omega arith) (omega arith) (omega arith) e

  plain : (act : SynchAct) → made g.here g.due (g.queued - length (feeds_of c (processed rest s.hand))) g.left g.came (last_longer (feed_acts c (processed rest s.hand)) g.did)
      ≡ made g.here (g.due + 0) (g.queued + 0 - length (feeds_of c (processed rest s.hand))) (g.left + 0) (g.came + 0) (last_longer (feed_acts c (processed rest s.hand) ++ []) g.did)
  plain act = still act [] (last_longer (feed_acts c (processed rest s.hand)) g.did) (ap (λ (a : List Act). last_longer a g.did) (sym (append-nil (feed_acts c (processed rest s.hand)))))

  pub left_guest : (act : SynchAct) → ((d : ℕ) → act ≡ Done.In d → d ≡ c → feed_acts c (processed rest s.hand) ≡ [])
      → guest_acted c (fed note) act (guest_fed c (processed rest s.hand) g) ≡ guest_after c s record { mark = On.Leave p rest act; note = note } g
  left_guest Done.None away = plain Done.None
  left_guest Done.Away away = plain Done.Away
  left_guest (Done.Call d j k) away = at (d == c)
    where
      at : (b : Bool) → (if b then record (guest_fed c (processed rest s.hand) g) { did = last_longer (Did.Call j k ∷ []) (last_longer (feed_acts c (processed rest s.hand)) g.did) } else guest_fed c (processed rest s.hand) g)
          ≡ made g.here (g.due + 0) (g.queued + 0 - length (feeds_of c (processed rest s.hand))) (g.left + 0) (g.came + 0) (last_longer (feed_acts c (processed rest s.hand) ++ (if b then Did.Call j k ∷ [] else [])) g.did)
      at true = still Done.None (Did.Call j k ∷ []) _ (last_longer-twice (feed_acts c (processed rest s.hand)) (Did.Call j k ∷ []) g.did)
      at false = plain Done.None
  left_guest (Done.Out d) away = at (d == c)
    where
      at : (b : Bool) → (if b then record (guest_fed c (processed rest s.hand) g) { here = false; left = g.left + 1 } else guest_fed c (processed rest s.hand) g)
          ≡ made (if b then false else g.here) (g.due + 0) (g.queued + 0 - length (feeds_of c (processed rest s.hand))) (g.left + (if b then 1 else 0)) (g.came + 0) (last_longer (feed_acts c (processed rest s.hand) ++ []) g.did)
      at true =
          same_made false false g.due (g.due + 0) (g.queued - length (feeds_of c (processed rest s.hand))) (g.queued + 0 - length (feeds_of c (processed rest s.hand))) (g.left + 1) (g.left + 1) g.came (g.came + 0) _ _
          refl (omega arith) (omega arith) refl (omega arith) (ap (λ (a : List Act). last_longer a g.did) (sym (append-nil (feed_acts c (processed rest s.hand)))))
      at false = plain Done.None
  left_guest (Done.In d) away = at (d == c) refl
    where
      at : (b : Bool) → (d == c) ≡ b → (if b then record (guest_fed c (processed rest s.hand) g) { here = true; due = fed note; came = g.came + 1; did = last_longer (feed_acts c (processed rest s.hand)) g.did ++ [] ∷ [] } else guest_fed c (processed rest s.hand) g)
          ≡ made (if b then true else g.here) (if b then fed note else g.due + 0) (g.queued + 0 - length (feeds_of c (processed rest s.hand))) (g.left + 0) (g.came + (if b then 1 else 0))
          (if b then g.did ++ [] ∷ [] else last_longer (feed_acts c (processed rest s.hand) ++ []) g.did)
      at true is =
          let none : feed_acts c (processed rest s.hand) ≡ [] = away d refl (grind (arith, nat_tests, is)) in
          same_made true true (fed note) (fed note) (g.queued - length (feeds_of c (processed rest s.hand))) (g.queued + 0 - length (feeds_of c (processed rest s.hand))) g.left (g.left + 0) (g.came + 1) (g.came + 1) _ _
          refl refl (omega arith) (omega arith) refl (rw none (ap (λ (l : List (List Act)). l ++ [] ∷ []) (last_longer-none g.did)))
      at false is = plain Done.None

pub became_twice : (f g : ℕ → GuestOf → GuestOf) (xs ys zs : List GuestOf) → Became f xs ys → Became g ys zs → Became (λ c x. g c (f c x)) xs zs
became_twice f g xs ys zs a b =
    record {
      count = b.count ∙ a.count;
      each = λ c z at.
          let y = b.each c z at in
          let x = a.each c y.0 y.1 in
          (x.0, x.1, y.2 ∙ ap (g c) x.2);
    }

pub became_same : (f g : ℕ → GuestOf → GuestOf) (xs ys : List GuestOf) → ((c : ℕ) (x : GuestOf) → slice_get xs c ≡ Some x → f c x ≡ g c x) → Became f xs ys → Became g xs ys
became_same f g xs ys same a = record { count = a.count; each = λ c y at. let x = a.each c y at in (x.0, x.1, x.2 ∙ same c x.0 x.1) }
