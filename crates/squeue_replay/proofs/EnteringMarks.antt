-- The marks that enter something, take what is queued or close a pass: what is kept after them, when they may be made and when not.
use Rattle.std.proofs.Common.{◌≡◌, ℕ, ◌+◌, Bool, true, false, ◌||◌, if◌then◌else◌, ◌==◌, Option, Some, None, List, [], ◌∷◌, ◌++◌, length, map, refl, ap, sym, ◌∙◌, length-append, arith}
use Rattle.std.proofs.lemmas.List.{append-nil, map-append}
use Rattle.std.specs.Prelude.{slice_get}
use Rattle.perimeter_core.specs.declared.entries.Act.{Act}
use Rattle.perimeter_core.specs.declared.entries.Entry.{Entry}
use Rattle.perimeter_core.specs.declared.marks.Mark.{Mark}
use Rattle.perimeter_core.specs.declared.marks.Mark.TheVariants as On
use Rattle.perimeter_core.specs.Perimeter.{Can, State, after, has_ask, is_closed, is_here}
use Rattle.perimeter_core.specs.History.{Element, Setting, pass_of, run, start, worker}
use Rattle.perimeter_core.specs.Deeds.{acts, acts_after, call_act, done_by, due_after, entries_of, feeds_of, puts_in, reported, takes_out}
use Rattle.perimeter_core.specs.Backlog.{queue}
use Rattle.perimeter_core.specs.Legal.{Legal, ask_count, feed_count}
use Rattle.perimeter_core.proofs.FeedLists.{feeds_of-append}
use Rattle.perimeter_core.proofs.FeedOrder.{queue_after}
use Rattle.perimeter_core.proofs.OrderAndWake.{sound}
use Rattle.histories.specs.Stays.{Stay, Stays, all_in, as_list, begun, longer_by, stays}
use Rattle.histories.proofs.OneSqueue.{stays_push}
use Rattle.squeue_replay.specs.Standing.{GuestOf, GuestStands, PassOf, PassStands}
use Rattle.squeue_replay.proofs.OneMoreMark.{GuestGoes, PassGoes}
use Rattle.squeue_replay.proofs.QueuedFeeds.{GuestQueued}
use Rattle.squeue_replay.proofs.AskSteps.{has_ask-append}

-- such a mark reports nothing, and moves no block
abbrev pub IsEntering : Mark → Type 0
IsEntering (On.Take p) = ⊥
IsEntering (On.Leave p rest act) = ⊥
IsEntering (On.Grant p j rest) = ⊥
IsEntering m = Unit {0}

record Quiet (m : Mark) : Type 0 where
  none_done : (s : State) → done_by s m ≡ []
  here : (s : State) → (after s m).here ≡ s.here
  puts : (c : ℕ) → puts_in c m ≡ false
  takes : (c : ℕ) → takes_out c m ≡ false
  calls : (c : ℕ) → call_act c m ≡ []

quiet : (m : Mark) → IsEntering m → Quiet m
quiet (On.Fill p es) k = record { none_done = λ s. refl; here = λ s. refl; puts = λ c. refl; takes = λ c. refl; calls = λ c. refl }
quiet (On.Fast p e) k = record { none_done = λ s. refl; here = λ s. refl; puts = λ c. refl; takes = λ c. refl; calls = λ c. refl }
quiet (On.Claim p es) k = record { none_done = λ s. refl; here = λ s. refl; puts = λ c. refl; takes = λ c. refl; calls = λ c. refl }
quiet (On.Take p) k = absurd k
quiet (On.Leave p rest act) k = absurd k
quiet (On.Ask p) k = record { none_done = λ s. refl; here = λ s. refl; puts = λ c. refl; takes = λ c. refl; calls = λ c. refl }
quiet (On.Grant p j rest) k = absurd k
quiet (On.Accept j) k = record { none_done = λ s. refl; here = λ s. refl; puts = λ c. refl; takes = λ c. refl; calls = λ c. refl }
quiet (On.Work p) k = record { none_done = λ s. refl; here = λ s. refl; puts = λ c. refl; takes = λ c. refl; calls = λ c. refl }
quiet (On.Close p) k = record { none_done = λ s. refl; here = λ s. refl; puts = λ c. refl; takes = λ c. refl; calls = λ c. refl }

-- what is queued after it is what was queued, and what it enters
queue_grows : (S : Setting) (H : List Element) (m : Mark) → Legal S H → Can (worker S) (run S H) m → IsEntering m → queue (after (run S H) m) ≡ queue (run S H) ++ entries_of m
queue_grows S H m l can k =
    let q = queue_after (worker S) (run S H) m can (sound S H l) in
    sym (q ∙ ap (λ (es : List Entry). es ++ queue (after (run S H) m)) ((quiet m k).none_done (run S H)))

own_same : (o : Option Stay) (had : List Act) → map (λ (v : Stay). v.own) (as_list (longer_by [] had o)) ≡ map (λ (v : Stay). v.own) (as_list o)
own_same None had = refl
own_same (Some v) had = ap (λ (xs : List Act). xs ∷ []) (append-nil v.own)

stays_same : (a b : Bool) (more had note : List Act) (v : Stays) → a ≡ false → b ≡ false → more ≡ []
    → map (λ (w : Stay). w.own) (all_in (if a then record { ended = all_in v; now = Some (begun note) }
    else if b then record { ended = v.ended ++ as_list (longer_by more had v.now); now = None }
    else record { ended = v.ended; now = longer_by more had v.now })) ≡ map (λ (w : Stay). w.own) (all_in v)
stays_same true b more had note v x y z = absurd cc
stays_same false true more had note v x y z = absurd cc
stays_same false false more had note v x y z =
    rw z (map-append (λ (w : Stay). w.own) v.ended (as_list (longer_by [] had v.now))
    ∙ (ap (λ (xs : List (List Act)). map (λ (w : Stay). w.own) v.ended ++ xs) (own_same v.now had)
    ∙ sym (map-append (λ (w : Stay). w.own) v.ended (as_list v.now))))

-- what was done in the stays stays the same
quiet_stays : (S : Setting) (H : List Element) (m : Mark) (note : List Act) (c : ℕ) → IsEntering m
    → map (λ (w : Stay). w.own) (all_in (stays S (H ++ record { mark = m; note = note } ∷ []) c)) ≡ map (λ (w : Stay). w.own) (all_in (stays S H c))
quiet_stays S H m note c k =
    let e : Element = record { mark = m; note = note } in
    let x = quiet m k in
    let none : reported c (run S H) m ≡ [] = rw (x.none_done (run S H), x.calls c) refl in
    ap (λ (v : Stays). map (λ (w : Stay). w.own) (all_in v)) (stays_push c (start S) [] record { ended = []; now = if is_here (start S) c then Some (begun []) else None } H e)
    ∙ stays_same (puts_in c m) (takes_out c m) (reported c (run S H) m) (acts_after c (run S H) (acts S H c) e) note (stays S H c) (x.puts c) (x.takes c) none

due_quiet : (c n : ℕ) (m : Mark) (note : List Act) → puts_in c m ≡ false → due_after c n (record { mark = m; note = note }) ≡ n + length (feeds_of c (entries_of m))
due_quiet c n m note k = rw k refl

-- a connection after such a mark, of which so many feeds were entered
pub entering_guest : (S : Setting) (H : List Element) (m : Mark) (note : List Act) (guests : List GuestOf) (c : ℕ) (h : GuestOf) → Legal S H → Can (worker S) (run S H) m → IsEntering m
    → ((g : GuestOf) → slice_get guests c ≡ Some g → GuestStands S H c g) → GuestQueued guests c (length (feeds_of c (entries_of m))) h → GuestGoes guests S H (record { mark = m; note = note }) c h
entering_guest S H m note guests c h l can k stood w =
    let x = quiet m k in
    let g = stood w.before w.was in
    let grown : length (feeds_of c (queue (after (run S H) m))) ≡ length (feeds_of c (queue (run S H))) + length (feeds_of c (entries_of m))
    = ap (λ (es : List Entry). length (feeds_of c es)) (queue_grows S H m l can k)
    ∙ (ap length (feeds_of-append c (queue (run S H)) (entries_of m)) ∙ length-append (feeds_of c (queue (run S H))) (feeds_of c (entries_of m))) in
    record {
      before = w.before;
      was = w.was;
      here = w.here ∙ (g.here ∙ sym (ap (λ (bs : List Bool). is_here (record (run S H) { here = bs }) c) (x.here (run S H))));
      due = w.due ∙ sym (due_quiet c w.before.due m note (x.puts c));
      queued = omega (arith, w.queued, g.queued, grown);
      left = rw (x.takes c) (omega (arith, w.left));
      came = rw (x.puts c) (omega (arith, w.came));
      did = λ old. w.did ∙ (old ∙ sym (quiet_stays S H m note c k));
    }

-- a pass after such a mark
pub record PassEntered (passes : List PassOf) (st : State) (m : Mark) (q : ℕ) (y : PassOf) : Type 0 where
  pub before : PassOf
  pub was : slice_get passes q ≡ Some before
  pub closed : before.closed ≡ is_closed st q → y.closed ≡ is_closed (after st m) q
  pub waiting : y.waiting ≡ (before.waiting || has_ask q (entries_of m))
  pub feeds : y.feeds + (if pass_of m == q then feed_count (entries_of m) else 0) ≡ before.feeds
  pub asks : y.asks + (if pass_of m == q then ask_count (entries_of m) else 0) ≡ before.asks

pub entering_pass : (S : Setting) (H : List Element) (m : Mark) (note : List Act) (passes : List PassOf) (q : ℕ) (y : PassOf) → Legal S H → Can (worker S) (run S H) m → IsEntering m
    → ((x : PassOf) → slice_get passes q ≡ Some x → PassStands S H q x) → PassEntered passes (run S H) m q y → PassGoes passes (run S H) (record { mark = m; note = note }) q y
entering_pass S H m note passes q y l can k stood w =
    let g = stood w.before w.was in
    let s = run S H in
    let grown : (has_ask q (after s m).hand || has_ask q (after s m).chain) ≡ (has_ask q s.hand || has_ask q s.chain || has_ask q (entries_of m))
    = sym (has_ask-append q (after s m).hand (after s m).chain)
    ∙ (ap (has_ask q) (queue_grows S H m l can k)
    ∙ (has_ask-append q (queue s) (entries_of m) ∙ ap (λ (b : Bool). b || has_ask q (entries_of m)) (has_ask-append q s.hand s.chain))) in
    record {
      before = w.before;
      was = w.was;
      closed = w.closed g.closed;
      waiting = w.waiting ∙ (ap (λ (b : Bool). b || has_ask q (entries_of m)) g.waiting ∙ sym grown);
      feeds = w.feeds;
      asks = w.asks;
    }
