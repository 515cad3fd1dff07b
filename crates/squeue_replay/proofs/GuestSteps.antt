-- A connection stands for one more mark.
use Rattle.std.proofs.Common.{◌≡◌, ℕ, ◌+◌, ◌-◌, Bool, true, false, if◌then◌else◌, Option, Some, None, is_some, List, [], ◌∷◌, ◌++◌, length, map, refl, ap, sym, ◌∙◌, append_assoc, arith, length-append}
use Rattle.std.proofs.lemmas.List.{append-nil, map-append}
use Rattle.perimeter_core.specs.declared.entries.Act.{Act}
use Rattle.perimeter_core.specs.declared.entries.Entry.{Entry}
use Rattle.perimeter_core.specs.Perimeter.{State, after, is_here}
use Rattle.perimeter_core.specs.History.{Element, Setting, start, run}
use Rattle.perimeter_core.specs.Backlog.{queue}
use Rattle.perimeter_core.specs.Deeds.{acts, acts_after, done_by, due_after, entries_of, feeds_of, puts_in, reported, takes_out}
use Rattle.perimeter_core.specs.Legal.{May, Legal}
use Rattle.perimeter_core.proofs.OneMore.{run_push, due_push}
use Rattle.perimeter_core.proofs.OrderAndWake.{sound}
use Rattle.perimeter_core.proofs.FeedOrder.{queue_after}
use Rattle.perimeter_core.proofs.FeedLists.{feeds_of-append}
use Rattle.perimeter_core.proofs.RingKnows.{here_step}
use Rattle.perimeter_core.proofs.BlocksFollow.{flags}
use Rattle.perimeter_core.proofs.OwnersReport.{none_reported}
use Rattle.perimeter_core.proofs.LeavesFew.{left_push}
use Rattle.histories.specs.Stays.{Stay, Stays, as_list, all_in, begun, longer_by, stays}
use Rattle.histories.proofs.OneSqueue.{stays_push, fits}
use Rattle.histories.proofs.StaysKept.{at_first}
use Rattle.squeue_replay.specs.Standing.{GuestOf, GuestStands}
use Rattle.squeue_replay.specs.Steps.{last_longer}
use Rattle.squeue_replay.proofs.OneMoreMark.{times_in_push}

-- a connection after a mark that is legal
abbrev pub guest_after : ℕ → State → Element → GuestOf → GuestOf
guest_after c s e g = record {
  here = if puts_in c e.mark then true else if takes_out c e.mark then false else g.here;
  due = due_after c g.due e;
  queued = g.queued + length (feeds_of c (entries_of e.mark)) - length (feeds_of c (done_by s e.mark));
  left = g.left + (if takes_out c e.mark then 1 else 0);
  came = g.came + (if puts_in c e.mark then 1 else 0);
  did = if puts_in c e.mark then g.did ++ [] ∷ [] else last_longer (reported c s e.mark) g.did;
}

pub last_longer-push : (more : List Act) (l : List (List Act)) (x : List Act) → last_longer more (l ++ x ∷ []) ≡ l ++ (x ++ more) ∷ []
last_longer-push more [] x = refl
last_longer-push more (a ∷ []) x = refl
last_longer-push more (a ∷ b ∷ l) x = ap (λ (m : List (List Act)). a ∷ m) (last_longer-push more (b ∷ l) x)

pub last_longer-none : (l : List (List Act)) → last_longer [] l ≡ l
last_longer-none [] = refl
last_longer-none (x ∷ []) = ap (λ (m : List Act). m ∷ []) (append-nil x)
last_longer-none (x ∷ y ∷ l) = ap (λ (m : List (List Act)). x ∷ m) (last_longer-none (y ∷ l))

pub last_longer-twice : (a b : List Act) (l : List (List Act)) → last_longer b (last_longer a l) ≡ last_longer (a ++ b) l
last_longer-twice a b [] = refl
last_longer-twice a b (x ∷ []) = ap (λ (m : List Act). m ∷ []) (append_assoc x a b)
last_longer-twice a b (x ∷ y ∷ []) = ap (λ (m : List (List Act)). x ∷ m) (last_longer-twice a b (y ∷ []))
last_longer-twice a b (x ∷ y ∷ z ∷ l) = ap (λ (m : List (List Act)). x ∷ m) (last_longer-twice a b (y ∷ z ∷ l))

-- what was done in each stay
abbrev owns : List Stay → List (List Act)
owns vs = map (λ v. v.own) vs

owns_longer : (vs : List Stay) (more had : List Act) (o : Option Stay) → (is_some o ≡ false → more ≡ []) → owns (vs ++ as_list (longer_by more had o)) ≡ last_longer more (owns (vs ++ as_list o))
owns_longer vs more had None none = rw (none refl) (sym (last_longer-none (owns (vs ++ []))))
owns_longer vs more had (Some v) none =
    map-append (λ (w : Stay). w.own) vs (record { note = v.note; own = v.own ++ more; had = had } ∷ [])
    ∙ sym (ap (last_longer more) (map-append (λ (w : Stay). w.own) vs (v ∷ [])) ∙ last_longer-push more (owns vs) v.own)

did_after : (a b : Bool) (more had note : List Act) (v : Stays) → (is_some v.now ≡ false → more ≡ [])
    → owns (all_in (if a then record { ended = all_in v; now = Some (begun note) }
    else if b then record { ended = v.ended ++ as_list (longer_by more had v.now); now = None }
    else record { ended = v.ended; now = longer_by more had v.now })) ≡ (if a then owns (all_in v) ++ [] ∷ [] else last_longer more (owns (all_in v)))
did_after true b more had note v away = map-append (λ (w : Stay). w.own) (all_in v) (begun note ∷ [])
did_after false true more had note v away = ap owns (append-nil (v.ended ++ as_list (longer_by more had v.now))) ∙ owns_longer v.ended more had v.now away
did_after false false more had note v away = owns_longer v.ended more had v.now away

module _ (S : Setting) (H : List Element) (e : Element) (l : Legal S H) (m : May S H e) (c : ℕ) (g : GuestOf) (stands : GuestStands S H c g) where
  s : State
  s = run S H

  here : (if puts_in c e.mark then true else if takes_out c e.mark then false else g.here) ≡ is_here (run S (H ++ e ∷ [])) c
  here = rw (run_push (start S) H e, here_step S (run S H) e.mark c m.range (flags (start S) H), stands.here) refl

  queued : g.queued + length (feeds_of c (entries_of e.mark)) - length (feeds_of c (done_by (run S H) e.mark)) ≡ length (feeds_of c (queue (run S (H ++ e ∷ []))))
  queued =
      let order = ap (λ (es : List Entry). length (feeds_of c es)) (queue_after _ (run S H) e.mark m.step (sound S H l)) in
      let front : length (feeds_of c (queue (run S H) ++ entries_of e.mark)) ≡ length (feeds_of c (queue (run S H))) + length (feeds_of c (entries_of e.mark))
      = ap length (feeds_of-append c (queue (run S H)) (entries_of e.mark)) ∙ length-append _ _ in
      let back : length (feeds_of c (done_by (run S H) e.mark ++ queue (after (run S H) e.mark))) ≡ length (feeds_of c (done_by (run S H) e.mark)) + length (feeds_of c (queue (after (run S H) e.mark)))
      = ap length (feeds_of-append c (done_by (run S H) e.mark) (queue (after (run S H) e.mark))) ∙ length-append _ _ in
      rw (run_push (start S) H e) (omega (arith, order, front, back, stands.queued))

  did : (if puts_in c e.mark then g.did ++ [] ∷ [] else last_longer (reported c (run S H) e.mark) g.did) ≡ owns (all_in (stays S (H ++ e ∷ []) c))
  did =
      rw stands.did
      (sym (ap (λ (v : Stays). owns (all_in v)) (stays_push c (start S) [] (at_first S c) H e)
      ∙ did_after (puts_in c e.mark) (takes_out c e.mark) (reported c (run S H) e.mark) (acts_after c (run S H) (acts S H c) e) e.note (stays S H c)
      (λ none. none_reported S H e c l m ((fits S c H l).is_now ∙ none))))

  pub guest_goes_on : GuestStands S (H ++ e ∷ []) c (guest_after c (run S H) e g)
  guest_goes_on = record {
    here = here;
    due = ap (λ (n : ℕ). due_after c n e) stands.due ∙ sym (due_push c 0 H e);
    queued = queued;
    left = ap (λ (n : ℕ). n + (if takes_out c e.mark then 1 else 0)) stands.left ∙ sym (left_push c H e);
    came = ap (λ (n : ℕ). n + (if puts_in c e.mark then 1 else 0)) stands.came ∙ sym (times_in_push c H e);
    did = did;
  }
