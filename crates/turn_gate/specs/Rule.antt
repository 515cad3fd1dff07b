-- The rule that a gate's table keeps between any two atomic steps, and what each step tells the seat that makes it.
use Rattle.std.specs.Prelude.{◌≡◌, ◌≢◌, ℕ, zero, suc, ◌+◌, ◌<◌, Bool, true, false, List, [], ◌∷◌}
use Rattle.std.specs.Prelude.{◌++◌, length, take, drop, Option, Some, ◌≤◌, ◌/◌, ◌%◌, ◌^◌, ◌⊎◌, None, slice_index}
use mathlib.Core.Option as mo
use lib.ListN.{get_elem?}
use Rattle.atomic_table.specs.Table.{State, Me, Step}
use Rattle.turn_gate.specs.History.{Begins, only, Each}
use Rattle.turn_gate.specs.declared.views.Row.{Row}
use Rattle.turn_gate.specs.declared.views.View.{View}
use Rattle.turn_gate.specs.declared.kept.Kept.{Kept}
use Rattle.turn_gate.specs.declared.views.LockStep.{LockStep}
use Rattle.turn_gate.specs.declared.views.LockStep.TheVariants.{Draw, Load, Exchange, Serve}

-- the lock is free: no ticket is out
abbrev pub IsFree : {S V : Type 0} → State S V → Type 0
IsFree s = slice_index s.words 0 % 256 ≡ 0

-- the lock word is 256 times the ticket that is served, plus the number of tickets that are out
abbrev pub served : ℕ → ℕ
served w = w / 256

-- the i-th ticket that is out, counted from 0
abbrev pub ticket_at : ℕ → ℕ → ℕ
ticket_at w i = (w / 256 + i) % 2 ^ 56

module _ {E : Type 0} where
  abbrev pub row : ℕ → List E → List E → Row E
  row k h m = record { number = k; seen = h; mine = m }

  abbrev pub view : List (Row E) → Option ℕ → Bool → List LockStep → View E
  view rs t b st = record { rows = rs; ticket = t; has = b; steps = st }

  -- the numbers from k on, n of them, which have seen nothing
  abbrev pub fresh : ℕ → ℕ → List (Row E)
  fresh k zero = []
  fresh k (suc n) = row k [] [] ∷ fresh (k + 1) n

  -- the first seat has all numbers that are still to be dealt
  abbrev pub dealer : ℕ → ℕ → View E
  dealer k n = view (fresh k n) None false []

  -- the dealing seat after it has dealt a number, and the seat that gets it
  abbrev pub dealt : View E → View E
  dealt v = view (drop 1 v.rows) None false []

  abbrev pub dealt_one : View E → View E
  dealt_one v = view (take 1 v.rows) None false []

  -- a seat that another one was joined into has its rows too, and the other has none
  abbrev pub joined : View E → View E → View E
  joined v w = view (w.rows ++ v.rows) None false []

  abbrev pub spent : View E
  spent = view [] None false []

module _ {T E : Type 0} (stands : T → List E → Type 0) (num : E → ℕ) where
  -- what a row at seat j says of the whole history; n is the number of passes, and place says which seat has a number
  pub record Knows (n : ℕ) (story : List E) (place : ℕ → ℕ) (j : ℕ) (r : Row E) : Type 0 where
    pub seen : Begins r.seen story
    pub mine : only num r.number story ≡ r.mine
    pub here : place r.number ≡ j
    pub small : r.number < n

  -- what the view of seat j says; the queue is the list of the numbers that have a ticket, in order of the tickets
  pub record Fits (n : ℕ) (lock : ℕ) (story : List E) (place : ℕ → ℕ)
      (queue : List ℕ) (homes : List (mo.Option (Option (Kept T)))) (j : ℕ) (v : View E) : Type 0 where
    pub rows : Each (Knows n story place j) v.rows
    -- its ticket is out
    pub waits : (t : ℕ) → v.ticket ≡ Some t → (r : Row E) × (i : ℕ) × (v.rows ≡ r ∷ []) × (get_elem? queue i ≡ mo.some r.number) × (t ≡ ticket_at lock i)
    -- it has the slot, so it is served, and has seen the whole history
    pub has : v.has ≡ true → (r : Row E) × (v.rows ≡ r ∷ []) × (r.seen ≡ story) × (get_elem? queue 0 ≡ mo.some r.number) × (homes ≡ mo.none ∷ [])

  -- the value is at home, and stands for the history
  abbrev pub AtHome : List E → List (mo.Option (Option (Kept T))) → Type 0
  AtHome story homes = (x : Kept T) × (homes ≡ mo.some (Some x) ∷ []) × (x.count ≡ length story) × stands x.value.value story

  -- the seat that is served has it
  abbrev pub Away : (ℕ → ℕ) → List ℕ → List (View E) → Type 0
  Away place queue views = (q : ℕ) × (v : View E) × (get_elem? queue 0 ≡ mo.some q) × (get_elem? views (place q) ≡ mo.some v) × (v.has ≡ true)

  -- the seat of the i-th number in the queue has the i-th ticket
  abbrev pub Queued : ℕ → (ℕ → ℕ) → List (View E) → ℕ → ℕ → Type 0
  Queued lock place views i q = (v : View E) × (r : Row E) × (get_elem? views (place q) ≡ mo.some v) × (v.ticket ≡ Some (ticket_at lock i))
      × (v.rows ≡ r ∷ []) × (r.number ≡ q)

  -- there is one history, as long as the second word says, of which every seat has seen a beginning
  pub record Holds (n : ℕ) (s : State (Option (Kept T)) (View E)) : Type 0 where
    pub lock : ℕ
    pub story : List E
    pub place : ℕ → ℕ
    pub queue : List ℕ
    pub words : s.words ≡ lock ∷ length story ∷ []
    pub out : length queue ≡ lock % 256
    pub few : n ≤ 64
    pub each : (j : ℕ) (v : View E) → get_elem? s.views j ≡ mo.some v → Fits n lock story place queue s.homes j v
    pub queued : (i q : ℕ) → get_elem? queue i ≡ mo.some q → Queued lock place s.views i q
    pub absent : (q : ℕ) → n ≤ q → only num q story ≡ []
    pub home : AtHome story s.homes ⊎ Away place queue s.views

  -- the value is at home and stands for the whole history, which is as long as the second word says; each seat has seen a
  -- beginning of it, and has the elements of its numbers
  pub record HasWhole (s : State (Option (Kept T)) (View E)) : Type 0 where
    pub story : List E
    pub value : AtHome story s.homes
    pub count : slice_index s.words 1 ≡ length story
    pub seats : (j : ℕ) (v : View E) → get_elem? s.views j ≡ mo.some v → Each (λ r. Begins r.seen story × (only num r.number story ≡ r.mine)) v.rows

  -- the seat m with ticket t took the value, which stands for a history that goes on from what the seat had seen
  abbrev pub Took : ℕ → Me (Option (Kept T)) (View E) → Me (Option (Kept T)) (View E) → Type 0
  Took t m w = (r : Row E) → m.0.rows ≡ r ∷ [] → (x : Kept T) × (h : List E) × (w.0.rows ≡ row r.number h r.mine ∷ []) × (w.0.ticket ≡ Some t)
      × (w.0.has ≡ true) × (w.1 ≡ (0, Some x) ∷ m.1)
      × Begins r.seen h × (only num r.number h ≡ r.mine) × stands x.value.value h × (x.count ≡ length h)

-- all but the steps stays
abbrev pub Stays : {S E : Type 0} → Me S (View E) → Me S (View E) → Type 0
Stays m w = (w.0.rows ≡ m.0.rows) × (w.0.ticket ≡ m.0.ticket) × (w.0.has ≡ m.0.has) × (w.1 ≡ m.1)

module _ {T E : Type 0} (stands : T → List E → Type 0) (num : E → ℕ) where
  -- the compare-exchange of `try_hold`
  abbrev pub tried : Step (Option (Kept T)) → Me (Option (Kept T)) (View E) → ℕ → Me (Option (Kept T)) (View E) → Type 0
  tried st m found w = (st.word ≡ 0) × (w.0.steps ≡ m.0.steps ++ Exchange st.first found ∷ [])
      × (found ≡ st.first → Took stands num (served found) m w)
      × (found ≢ st.first → Stays m w)

  -- a load by a seat that has a ticket
  abbrev pub watched : Step (Option (Kept T)) → Me (Option (Kept T)) (View E) → ℕ → Me (Option (Kept T)) (View E) → Type 0
  watched st m found w = (st.word ≡ 0) × (w.0.steps ≡ m.0.steps ++ Load found ∷ [])
      × ((t : ℕ) → m.0.ticket ≡ Some t → served found ≡ t → Took stands num t m w)
      × ((t : ℕ) → m.0.ticket ≡ Some t → served found ≢ t → Stays m w)

module _ {T E : Type 0} where
  -- the store of the count: the elements joined the history
  abbrev pub added : List E → Step (Option (Kept T)) → Me (Option (Kept T)) (View E) → ℕ → Me (Option (Kept T)) (View E) → Type 0
  added es st m found w =
      (st.word ≡ 1) × ((r : Row E) → m.0.rows ≡ r ∷ [] → w ≡ (view (row r.number (r.seen ++ es) (r.mine ++ es) ∷ []) m.0.ticket m.0.has m.0.steps, m.1))

  -- the fetch-add of 1: a ticket was drawn, the one behind all that were out
  abbrev pub drew : Step (Option (Kept T)) → Me (Option (Kept T)) (View E) → ℕ → Me (Option (Kept T)) (View E) → Type 0
  drew st m found w = (st.word ≡ 0) × (w ≡ (view m.0.rows (Some (ticket_at found (found % 256))) m.0.has (m.0.steps ++ Draw found ∷ []), m.1))

  -- the load of `try_hold`
  abbrev pub glanced : Step (Option (Kept T)) → Me (Option (Kept T)) (View E) → ℕ → Me (Option (Kept T)) (View E) → Type 0
  glanced st m found w = (st.word ≡ 0) × (w ≡ (view m.0.rows m.0.ticket m.0.has (m.0.steps ++ Load found ∷ []), m.1))

  -- the fetch-add of 255: the value is at home again, and the next ticket is served
  abbrev pub freed : Step (Option (Kept T)) → Me (Option (Kept T)) (View E) → ℕ → Me (Option (Kept T)) (View E) → Type 0
  freed st m found w = (st.word ≡ 0) × (w ≡ (view m.0.rows None false (m.0.steps ++ Serve found ∷ []), []))
