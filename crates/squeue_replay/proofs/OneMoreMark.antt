-- One more mark: what is kept stands for the longer history, if each part of it changes as the mark says.
use Rattle.std.proofs.Common.{◌≡◌, ℕ, ◌+◌, ◌||◌, if◌then◌else◌, ◌==◌, Some, List, [], ◌∷◌, ◌++◌, length, map, refl, ap, sym, ◌∙◌, append_assoc, arith}
use Rattle.std.proofs.lemmas.List.{append-nil}
use Rattle.std.specs.Prelude.{slice_get}
use Rattle.perimeter_core.specs.declared.marks.Mark.{Mark}
use Rattle.perimeter_core.specs.Perimeter.{State, after, has_ask, is_closed, is_here}
use Rattle.perimeter_core.specs.History.{Element, Setting, pass_of, run, start}
use Rattle.perimeter_core.specs.Deeds.{due_after, entries_of, feeds_of, puts_in, takes_out}
use Rattle.perimeter_core.specs.Legal.{Legal, May, ask_count, feed_count}
use Rattle.perimeter_core.proofs.OneMore.{due_push, legal_more, legal_next, run_push}
use Rattle.perimeter_core.proofs.Quotas.{feeds_push, asks_push}
use Rattle.perimeter_core.proofs.LeavesFew.{left_push}
use Rattle.histories.specs.Stays.{all_in, stays}
use Rattle.squeue_replay.specs.Histories.{note_of, noted, noted_from, times_in}
use Rattle.squeue_replay.specs.Standing.{GuestOf, GuestStands, PassOf, PassStands, SqueueOf, Stands}

-- the history of one mark more is one element longer
noted_behind : (squeues spread q : ℕ) (front past : List Mark) (m : Mark)
    → noted_from squeues spread q front (past ++ m ∷ []) ≡ noted_from squeues spread q front past ++ record { mark = m; note = note_of squeues spread q (front ++ past) m } ∷ []
noted_behind squeues spread q front [] m = rw append-nil refl
noted_behind squeues spread q front (x ∷ past) m =
    ap (λ (H : List Element). record { mark = x; note = note_of squeues spread q front x } ∷ H) (rw (← append_assoc front (x ∷ []) past) (noted_behind squeues spread q (front ++ x ∷ []) past m))

pub noted_push : (squeues spread q : ℕ) (past : List Mark) (m : Mark)
    → noted squeues spread q (past ++ m ∷ []) ≡ noted squeues spread q past ++ record { mark = m; note = note_of squeues spread q past m } ∷ []
noted_push squeues spread q past m = noted_behind squeues spread q [] past m

noted_marks_from : (squeues spread q : ℕ) (front past : List Mark) → map (λ e. e.mark) (noted_from squeues spread q front past) ≡ past
noted_marks_from squeues spread q front [] = refl
noted_marks_from squeues spread q front (x ∷ past) = ap (λ (ms : List Mark). x ∷ ms) (noted_marks_from squeues spread q (front ++ x ∷ []) past)

-- its marks are those that were given
pub noted_marks : (squeues spread q : ℕ) (past : List Mark) → map (λ e. e.mark) (noted squeues spread q past) ≡ past
noted_marks squeues spread q past = noted_marks_from squeues spread q [] past

pub times_in_push : (c : ℕ) (H : List Element) (e : Element) → times_in c (map (λ x. x.mark) (H ++ e ∷ [])) ≡ times_in c (map (λ x. x.mark) H) + (if puts_in c e.mark then 1 else 0)
times_in_push c [] e = omega arith
times_in_push c (x ∷ H) e = omega (arith, times_in_push c H e)

-- a pass as the element leaves it, which was among these before
pub record PassGoes (passes : List PassOf) (s : State) (e : Element) (p : ℕ) (y : PassOf) : Type 0 where
  pub before : PassOf
  pub was : slice_get passes p ≡ Some before
  pub closed : y.closed ≡ is_closed (after s e.mark) p
  pub waiting : y.waiting ≡ (has_ask p (after s e.mark).hand || has_ask p (after s e.mark).chain)
  pub feeds : y.feeds + (if pass_of e.mark == p then feed_count (entries_of e.mark) else 0) ≡ before.feeds
  pub asks : y.asks + (if pass_of e.mark == p then ask_count (entries_of e.mark) else 0) ≡ before.asks

-- so is a connection
pub record GuestGoes (guests : List GuestOf) (S : Setting) (H : List Element) (e : Element) (c : ℕ) (h : GuestOf) : Type 0 where
  pub before : GuestOf
  pub was : slice_get guests c ≡ Some before
  pub here : h.here ≡ is_here (after (run S H) e.mark) c
  pub due : h.due ≡ due_after c before.due e
  pub queued : h.queued ≡ length (feeds_of c ((after (run S H) e.mark).hand ++ (after (run S H) e.mark).chain))
  pub left : h.left ≡ before.left + (if takes_out c e.mark then 1 else 0)
  pub came : h.came ≡ before.came + (if puts_in c e.mark then 1 else 0)
  pub did : before.did ≡ map (λ v. v.own) (all_in (stays S H c)) → h.did ≡ map (λ v. v.own) (all_in (stays S (H ++ e ∷ []) c))

-- and the squeue
pub record Goes (S : Setting) (H : List Element) (e : Element) (s t : SqueueOf) : Type 0 where
  pub own : t.own ≡ (after (run S H) e.mark).own
  pub wake : t.wake ≡ (after (run S H) e.mark).wake
  pub chain : t.chain ≡ (after (run S H) e.mark).chain
  pub hand : t.hand ≡ (after (run S H) e.mark).hand
  pub passes : length t.passes ≡ length s.passes
  pub each_pass : (p : ℕ) (y : PassOf) → slice_get t.passes p ≡ Some y → PassGoes s.passes (run S H) e p y
  pub guests : length t.guests ≡ length s.guests
  pub each_guest : (c : ℕ) (h : GuestOf) → slice_get t.guests c ≡ Some h → GuestGoes s.guests S H e c h

one_step : (S : Setting) (H : List Element) (e : Element) → run S (H ++ e ∷ []) ≡ after (run S H) e.mark
one_step S H e = run_push (start S) H e

pass_more : (S : Setting) (H : List Element) (e : Element) (passes : List PassOf) (p : ℕ) (y : PassOf)
    → ((x : PassOf) → slice_get passes p ≡ Some x → PassStands S H p x) → PassGoes passes (run S H) e p y → PassStands S (H ++ e ∷ []) p y
pass_more S H e passes p y stood go =
    let k = stood go.before go.was in
    record {
      closed = go.closed ∙ sym (ap (λ (r : State). is_closed r p) (one_step S H e));
      waiting = go.waiting ∙ sym (ap (λ (r : State). has_ask p r.hand || has_ask p r.chain) (one_step S H e));
      feeds = omega (arith, feeds_push p H e, go.feeds, k.feeds);
      asks = omega (arith, asks_push p H e, go.asks, k.asks);
    }

guest_more : (S : Setting) (H : List Element) (e : Element) (guests : List GuestOf) (c : ℕ) (h : GuestOf)
    → ((g : GuestOf) → slice_get guests c ≡ Some g → GuestStands S H c g) → GuestGoes guests S H e c h → GuestStands S (H ++ e ∷ []) c h
guest_more S H e guests c h stood go =
    let k = stood go.before go.was in
    record {
      here = go.here ∙ sym (ap (λ (r : State). is_here r c) (one_step S H e));
      due = go.due ∙ (ap (λ (n : ℕ). due_after c n e) k.due ∙ sym (due_push c 0 H e));
      queued = go.queued ∙ sym (ap (λ (r : State). length (feeds_of c (r.hand ++ r.chain))) (one_step S H e));
      left = omega (arith, left_push c H e, go.left, k.left);
      came = omega (arith, times_in_push c H e, go.came, k.came);
      did = go.did k.did;
    }

pub stands_more : (S : Setting) (H : List Element) (e : Element) (s t : SqueueOf) → Stands S H s → May S H e → Goes S H e s t → Stands S (H ++ e ∷ []) t
stands_more S H e s t k m go =
    record {
      legal = legal_more S H e k.legal m;
      own = go.own ∙ sym (ap (λ (r : State). r.own) (one_step S H e));
      wake = go.wake ∙ sym (ap (λ (r : State). r.wake) (one_step S H e));
      chain = go.chain ∙ sym (ap (λ (r : State). r.chain) (one_step S H e));
      hand = go.hand ∙ sym (ap (λ (r : State). r.hand) (one_step S H e));
      passes = go.passes ∙ k.passes;
      each_pass = λ p y at. pass_more S H e s.passes p y (k.each_pass p) (go.each_pass p y at);
      guests = go.guests ∙ k.guests;
      each_guest = λ c h at. guest_more S H e s.guests c h (k.each_guest c) (go.each_guest c h at);
    }

-- an element that may not follow makes the longer history illegal
pub not_legal : (S : Setting) (H : List Element) (e : Element) → (May S H e → ⊥) → Legal S (H ++ e ∷ []) → ⊥
not_legal S H e refused l = refused (legal_next S H [] e l)
