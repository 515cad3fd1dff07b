-- A Grant and a Leave: what they need, and that what is kept stands for the longer history.
use Rattle.std.proofs.Common.{◌≡◌, ◌≢◌, ℕ, ◌+◌, ◌-◌, ◌<◌, ◌≤◌, ◌⊎◌, inl, inr, Bool, true, false, not, ◌&&◌, ◌||◌, if◌then◌else◌, ◌==◌, Some, List, [], ◌∷◌, ◌++◌, length, refl, ap, sym, ◌∙◌, subst, append_assoc, arith, length-append}
use Rattle.std.specs.Prelude.{slice_get}
use Rattle.std.proofs.lemmas.Bool.Decides.{nat_tests}
use Rattle.std.proofs.lemmas.List.{take-append-drop, nil_from_length}
use Rattle.std.proofs.lemmas.Option.{slice_get_within}
use Rattle.perimeter_core.specs.declared.entries.Act.{Act}
use Rattle.perimeter_core.specs.declared.entries.Entry.{Entry}
use Rattle.perimeter_core.specs.declared.entries.Entry.TheVariants.{Feed, Ask}
use Rattle.perimeter_core.specs.declared.marks.Own.TheVariants.{Free, Out, Granted}
use Rattle.perimeter_core.specs.declared.marks.SynchAct.{SynchAct}
use Rattle.perimeter_core.specs.declared.marks.SynchAct.TheVariants as Done
use Rattle.perimeter_core.specs.declared.marks.Mark.TheVariants as On
use Rattle.perimeter_core.specs.Perimeter.{ends_with_ask, has_ask, is_empty, is_here, processed, unprocessed}
use Rattle.perimeter_core.specs.History.{Element, Setting, conns, passes, run, worker}
use Rattle.perimeter_core.specs.Deeds.{done_by, fed, feed_acts, feeds_of, times_left}
use Rattle.perimeter_core.specs.Legal.{ActFits, ActInRange, Legal, May, NoteFits, feed_count, only_last_ask}
use Rattle.perimeter_core.specs.Backlog.{QueuedInRange, queue}
use Rattle.perimeter_core.proofs.Room.{asks_of, one_ask}
use Rattle.perimeter_core.proofs.FeedLists.{feeds_of-append}
use Rattle.perimeter_core.proofs.QueuedRange.{queued_range}
use Rattle.perimeter_core.proofs.OwnersReport.{none_reported}
use Rattle.histories.proofs.ListPlaces.{some_at}
use Rattle.squeue_replay.specs.Standing.{GuestOf, SqueueOf, Stands}
use Rattle.squeue_replay.specs.Steps.{ActMay, Answered, Became, Processed, guest_acted, guest_fed}
use Rattle.squeue_replay.proofs.AskSteps.{asks_left, has_ask-append}
use Rattle.squeue_replay.proofs.GuestSteps.{guest_after}
use Rattle.squeue_replay.proofs.GuestActs.{became_same, became_twice, granted_guest, left_guest}
use Rattle.squeue_replay.proofs.ProcessSteps.{goes_on}
use Rattle.histories.proofs.OwnersFacts.{owner_below}
use Rattle.histories.proofs.Counts.{quota_kept}

same_back : (xs ys zs : List Entry) → xs ++ ys ≡ xs ++ zs → ys ≡ zs
same_back [] ys zs e = e
same_back (x ∷ xs) ys zs e = let rest : xs ++ ys ≡ xs ++ zs = cc e in same_back xs ys zs rest

-- what is left of the hand
pub left_over : (rest : ℕ) (hand back : List Entry) → hand ≡ processed rest hand ++ back → back ≡ unprocessed rest hand
left_over rest hand back e = same_back (processed rest hand) back (unprocessed rest hand) (sym e ∙ sym (take-append-drop (length hand - rest) hand))

asked_in_range : (S : Setting) (j : ℕ) (es rest : List Entry) → QueuedInRange S (es ++ rest) → ends_with_ask j es ≡ true → j < worker S
asked_in_range S j [] rest r e = absurd (cc e)
asked_in_range S j (Feed c n ∷ es) rest r e = asked_in_range S j es rest r.2 e
asked_in_range S j (Ask q ∷ []) rest r e = let same : q ≡ j = grind (arith, nat_tests, e) in rw (← same) r.0
asked_in_range S j (Ask q ∷ d ∷ es) rest r e = asked_in_range S j (d ∷ es) rest r.1 e

-- of what is queued, one part is processed and the other waits on
module _ (S : Setting) (H : List Element) (l : Legal S H) (rest : ℕ) where
  pub both_parts : queue (run S H) ≡ processed rest (run S H).hand ++ (unprocessed rest (run S H).hand ++ (run S H).chain)
  both_parts =
      ap (λ (es : List Entry). es ++ (run S H).chain) (sym (take-append-drop (length (run S H).hand - rest) (run S H).hand))
      ∙ append_assoc (processed rest (run S H).hand) (unprocessed rest (run S H).hand) (run S H).chain

  pub asks_after : (j : ℕ) (ask : Bool) → only_last_ask j (processed rest (run S H).hand) ≡ true → ask ≡ ends_with_ask j (processed rest (run S H).hand)
      → (q : ℕ) → has_ask q (unprocessed rest (run S H).hand ++ (run S H).chain) ≡ (if ask && (j == q) then false else (has_ask q (run S H).hand || has_ask q (run S H).chain))
  asks_after j ask right is q =
      asks_left j q (processed rest (run S H).hand) (unprocessed rest (run S H).hand ++ (run S H).chain) right
      (subst (λ (es : List Entry). asks_of j es ≤ 1) both_parts (one_ask S H j l))
      ∙ rw (← is, ← both_parts, has_ask-append q (run S H).hand (run S H).chain) refl

-- what a Grant needs
pub record GrantMay (p j rest : ℕ) (x : SqueueOf) : Type 0 where
  pub own : x.own ≡ Out p
  pub few : rest ≤ length x.hand
  pub right : only_last_ask j (processed rest x.hand) ≡ true
  pub asked : ends_with_ask j (processed rest x.hand) ≡ true
  pub other : j ≢ p

abbrev pub grant_mark : ℕ → ℕ → ℕ → Element
grant_mark p j rest = record { mark = On.Grant p j rest; note = [] }

module _ (S : Setting) (H : List Element) (p j rest : ℕ) (x : SqueueOf) (k : Stands S H x) where
  asked_low : ends_with_ask j (processed rest (run S H).hand) ≡ true → j < worker S
  asked_low asked =
      asked_in_range S j (processed rest (run S H).hand) (unprocessed rest (run S H).hand ++ (run S H).chain)
      (subst (QueuedInRange S) (both_parts S H k.legal rest) (queued_range S H k.legal)) asked

  pub grant_fits : May S H (grant_mark p j rest) → GrantMay p j rest x × (j < worker S)
  grant_fits m = (
    record {
      own = k.own ∙ m.step.0;
      few = rw k.hand m.step.1;
      right = ap (λ (hand : List Entry). only_last_ask j (processed rest hand)) k.hand ∙ m.asks_last;
      asked = ap (λ (hand : List Entry). ends_with_ask j (processed rest hand)) k.hand ∙ m.step.2;
      other = m.step.3;
    },
    asked_low m.step.2,
  )

  pub grant_may : GrantMay p j rest x → May S H (grant_mark p j rest)
  grant_may t =
      let out : (run S H).own ≡ Out p = sym k.own ∙ t.own in
      let asked : ends_with_ask j (processed rest (run S H).hand) ≡ true = ap (λ (hand : List Entry). ends_with_ask j (processed rest hand)) (sym k.hand) ∙ t.asked in
      let low : j < worker S = asked_low asked in
      record {
        step = (out, subst (λ (hand : List Entry). rest ≤ length hand) k.hand t.few, asked, t.other);
        range = (owner_below S H p k.legal out, omega (arith, low));
        worker_only = tt;
        idle = tt;
        kind = tt;
        enters = tt;
        quota = quota_kept S p H (grant_mark p j rest) k.legal refl;
        asks_last = ap (λ (hand : List Entry). only_last_ask j (processed rest hand)) (sym k.hand) ∙ t.right;
        at_its_ask = tt;
        act = tt;
        progress = tt;
        note = refl;
      }

  pub grant_stands : (n : ℕ) (t y : SqueueOf) → x.own ≡ Out p → rest ≤ length x.hand → j ≢ p → Processed (processed rest x.hand) j n true x t
      → y ≡ record t { own = Granted j; chain = t.hand ++ t.chain; hand = [] }
      → Stands S (H ++ grant_mark p j rest ∷ []) y × (n ≡ feed_count (done_by (run S H) (On.Grant p j rest)))
  grant_stands n t y own le other did is =
      let may = grant_may (record { own = own; few = le; right = did.right; asked = sym did.asked; other = other }) in
      let over : t.hand ≡ unprocessed rest (run S H).hand = left_over rest x.hand t.hand did.hand ∙ ap (unprocessed rest) k.hand in (
        goes_on S H (grant_mark p j rest) x y k may true j refl refl
            (asks_after S H k.legal rest j true (ap (λ (hand : List Entry). only_last_ask j (processed rest hand)) (sym k.hand) ∙ did.right)
            (did.asked ∙ ap (λ (hand : List Entry). ends_with_ask j (processed rest hand)) k.hand))
            (subst (λ (z : SqueueOf). Answered true j x.passes z.passes) (sym is) did.passes)
            (subst (λ (z : SqueueOf). Became (λ c. guest_after c (run S H) (grant_mark p j rest)) x.guests z.guests) (sym is)
            (became_same (λ c. guest_fed c (processed rest x.hand)) (λ c. guest_after c (run S H) (grant_mark p j rest)) x.guests t.guests
            (λ c g at. ap (λ (hand : List Entry). guest_fed c (processed rest hand) g) k.hand ∙ granted_guest c p j rest (run S H) g) did.guests))
            (ap (λ (z : SqueueOf). z.own) is)
            (ap (λ (z : SqueueOf). z.wake) is ∙ (did.wake ∙ k.wake))
            (ap (λ (z : SqueueOf). z.chain) is ∙ rw (over, did.chain, k.chain) refl)
            (ap (λ (z : SqueueOf). z.hand) is),
        did.feeds ∙ ap (λ (hand : List Entry). feed_count (processed rest hand)) k.hand,
      )

-- what a Leave needs, where the connections stand so after what was processed
pub record LeaveMay (S : Setting) (p rest : ℕ) (act : SynchAct) (x : SqueueOf) (guests : List GuestOf) : Type 0 where
  pub own : x.own ≡ Out p
  pub few : rest ≤ length x.hand
  pub progress : x.hand ≢ [] → rest < length x.hand
  pub right : only_last_ask p (processed rest x.hand) ≡ true
  pub at_ask : act ≢ Done.None → (x.hand ≡ []) ⊎ (ends_with_ask p (processed rest x.hand) ≡ true)
  pub may : ActMay S guests p act

abbrev pub leave_mark : ℕ → ℕ → SynchAct → List Act → Element
leave_mark p rest act note = record { mark = On.Leave p rest act; note = note }

module _ (S : Setting) (H : List Element) (p rest : ℕ) (x : SqueueOf) (k : Stands S H x) (gs : List GuestOf) (fed_so : Became (λ c. guest_fed c (processed rest x.hand)) x.guests gs) where
  left_queue : List Entry
  left_queue = unprocessed rest (run S H).hand ++ (run S H).chain

  -- a connection after what was processed
  record Now (c : ℕ) (g : GuestOf) : Type 0 where
    here : g.here ≡ is_here (run S H) c
    left : g.left ≡ times_left c H
    queued : g.queued ≡ length (feeds_of c (unprocessed rest (run S H).hand ++ (run S H).chain))
    within : c < conns S

  now : (c : ℕ) (g : GuestOf) → slice_get gs c ≡ Some g → Now c g
  now c g at =
      let was = fed_so.each c g at in
      let before = k.each_guest c was.0 was.1 in
      let parts = ap (λ (es : List Entry). length (feeds_of c es)) (both_parts S H k.legal rest) in
      let split : length (feeds_of c (processed rest (run S H).hand ++ (unprocessed rest (run S H).hand ++ (run S H).chain)))
      ≡ length (feeds_of c (processed rest (run S H).hand)) + length (feeds_of c (unprocessed rest (run S H).hand ++ (run S H).chain))
      = ap length (feeds_of-append c (processed rest (run S H).hand) (unprocessed rest (run S H).hand ++ (run S H).chain)) ∙ length-append _ _ in
      let gone : g.queued ≡ was.0.queued - length (feeds_of c (processed rest (run S H).hand)) = ap (λ (z : GuestOf). z.queued) was.2 ∙ ap (λ (hand : List Entry). was.0.queued - length (feeds_of c (processed rest hand))) k.hand in
      let place = slice_get_within x.guests c was.0 was.1 in
      record {
        here = ap (λ (z : GuestOf). z.here) was.2 ∙ before.here;
        left = ap (λ (z : GuestOf). z.left) was.2 ∙ before.left;
        queued = omega (arith, gone, before.queued, parts, split);
        within = omega (arith, place, k.guests);
      }

  not_worker : (act : SynchAct) → p < worker S → p ≡ worker S → act ≡ Done.None
  not_worker act lt is = absurd (omega (arith, lt, is))

  act_fits : (act : SynchAct) → ActMay S gs p act → ActFits S H (run S H) p (unprocessed rest (run S H).hand ++ (run S H).chain) act × ActInRange S act × (p ≡ worker S → act ≡ Done.None)
  act_fits Done.None a = (tt, tt, λ is. refl)
  act_fits Done.Away a = ((a.1, λ is. omega (arith, a.0, is)), tt, not_worker Done.Away a.0)
  act_fits (Done.Call c j n) a =
      let w = now c a.2.0 a.2.1 in ((a.1, sym w.here ∙ a.2.2, a.3), w.within, not_worker (Done.Call c j n) a.0)
  act_fits (Done.Out c) a =
      let w = now c a.2.0 a.2.1 in
      ((a.1, sym w.here ∙ a.2.2.0, rw (← w.left) a.2.2.1, nil_from_length _ (sym w.queued ∙ a.2.2.2)), w.within, not_worker (Done.Out c) a.0)
  act_fits (Done.In c) a = let w = now c a.2.0 a.2.1 in ((a.1, sym w.here ∙ a.2.2), w.within, not_worker (Done.In c) a.0)

  found : (c : ℕ) → c < conns S → (g : GuestOf) × (slice_get gs c ≡ Some g)
  found c lt = some_at gs c (omega (arith, lt, k.guests, fed_so.count))

  below : (act : SynchAct) → act ≢ Done.None → p < passes S → (p ≡ worker S → act ≡ Done.None) → p < worker S
  below act some lt only = let ne : p ≢ worker S = λ is. some (only is) in omega (arith, lt, ne)

  act_may : (act : SynchAct) → p < passes S → ActFits S H (run S H) p (unprocessed rest (run S H).hand ++ (run S H).chain) act → ActInRange S act → (p ≡ worker S → act ≡ Done.None) → ActMay S gs p act
  act_may Done.None lt f r only = tt
  act_may Done.Away lt f r only = (below Done.Away (λ e. cc e) lt only, f.0)
  act_may (Done.Call c j n) lt f r only =
      let g = found c r in
      (below (Done.Call c j n) (λ e. cc e) lt only, f.0, (g.0, g.1, (now c g.0 g.1).here ∙ f.1), f.2)
  act_may (Done.Out c) lt f r only =
      let g = found c r in
      let w = now c g.0 g.1 in
      (below (Done.Out c) (λ e. cc e) lt only, f.0, (g.0, g.1, (w.here ∙ f.1, rw w.left f.2, w.queued ∙ ap length f.3)))
  act_may (Done.In c) lt f r only =
      let g = found c r in
      (below (Done.In c) (λ e. cc e) lt only, f.0, (g.0, g.1, (now c g.0 g.1).here ∙ f.1))

  pub leave_fits : (act : SynchAct) (note : List Act) → May S H (leave_mark p rest act note) → LeaveMay S p rest act x gs
  leave_fits act note m =
      record {
        own = k.own ∙ m.step.0;
        few = rw k.hand m.step.1;
        progress = λ some. rw k.hand (m.progress (λ e. some (k.hand ∙ e)));
        right = ap (λ (hand : List Entry). only_last_ask p (processed rest hand)) k.hand ∙ m.asks_last;
        at_ask = λ some. elim (m.at_its_ask some) [ inl e ↦ inl (k.hand ∙ e) | inr e ↦ inr (ap (λ (hand : List Entry). ends_with_ask p (processed rest hand)) k.hand ∙ e) ];
        may = act_may act m.range.0 m.act m.range.1 m.worker_only;
      }

  pub leave_may : (act : SynchAct) (note : List Act) → NoteFits (On.Leave p rest act) note → LeaveMay S p rest act x gs → May S H (leave_mark p rest act note)
  leave_may act note noted t =
      let out : (run S H).own ≡ Out p = sym k.own ∙ t.own in
      let f = act_fits act t.may in
      record {
        step = (out, subst (λ (hand : List Entry). rest ≤ length hand) k.hand t.few);
        range = (owner_below S H p k.legal out, f.1);
        worker_only = f.2;
        idle = tt;
        kind = tt;
        enters = tt;
        quota = quota_kept S p H (leave_mark p rest act note) k.legal refl;
        asks_last = ap (λ (hand : List Entry). only_last_ask p (processed rest hand)) (sym k.hand) ∙ t.right;
        at_its_ask = λ some. elim (t.at_ask some) [ inl e ↦ inl (sym k.hand ∙ e) | inr e ↦ inr (ap (λ (hand : List Entry). ends_with_ask p (processed rest hand)) (sym k.hand) ∙ e) ];
        act = f.0;
        progress = λ some. subst (λ (hand : List Entry). rest < length hand) k.hand (t.progress (λ e. some (sym k.hand ∙ e)));
        note = noted;
      }

-- nothing was processed of one that is put in
none_of_it : (S : Setting) (H : List Element) (p rest c : ℕ) (note : List Act) → Legal S H → May S H (leave_mark p rest (Done.In c) note) → feed_acts c (processed rest (run S H).hand) ≡ []
none_of_it S H p rest c note l m = nil_left' _ _ (none_reported S H (leave_mark p rest (Done.In c) note) c l m m.act.1)
  where
    nil_left' : (xs ys : List Act) → xs ++ ys ≡ [] → xs ≡ []
    nil_left' [] ys e = refl
    nil_left' (a ∷ xs) ys e = absurd (cc e)

pub leave_stands : (S : Setting) (H : List Element) (p rest n : ℕ) (act : SynchAct) (note : List Act) (ask : Bool) (x t y : SqueueOf) (k : Stands S H x)
    → Processed (processed rest x.hand) p n ask x t → NoteFits (On.Leave p rest act) note → LeaveMay S p rest act x t.guests
    → Became (λ c. guest_acted c (fed note) act) t.guests y.guests
    → y ≡ record t { own = Free; chain = t.hand ++ t.chain; hand = []; wake = not (is_empty (t.hand ++ t.chain)); guests = y.guests }
    → Stands S (H ++ leave_mark p rest act note ∷ []) y × (n ≡ feed_count (done_by (run S H) (On.Leave p rest act)))
leave_stands S H p rest n act note ask x t y k did noted t_may acted is =
    let may = leave_may S H p rest x k t.guests did.guests act note noted t_may in
    let over : t.hand ≡ unprocessed rest (run S H).hand = left_over rest x.hand t.hand did.hand ∙ ap (unprocessed rest) k.hand in
    let queue_is : t.hand ++ t.chain ≡ unprocessed rest (run S H).hand ++ (run S H).chain = rw (over, did.chain, k.chain) refl in (
      goes_on S H (leave_mark p rest act note) x y k may ask p refl refl
          (asks_after S H k.legal rest p ask (ap (λ (hand : List Entry). only_last_ask p (processed rest hand)) (sym k.hand) ∙ did.right)
          (did.asked ∙ ap (λ (hand : List Entry). ends_with_ask p (processed rest hand)) k.hand))
          (subst (λ (z : SqueueOf). Answered ask p x.passes z.passes) (sym is) did.passes)
          (became_same (λ c z. guest_acted c (fed note) act (guest_fed c (processed rest x.hand) z)) (λ c. guest_after c (run S H) (leave_mark p rest act note)) x.guests y.guests
          (λ c g at.
          ap (λ (hand : List Entry). guest_acted c (fed note) act (guest_fed c (processed rest hand) g)) k.hand
          ∙ left_guest c p rest (run S H) note g act
          (λ d put same. none_of_it S H p rest c note k.legal (subst (λ (b : SynchAct). May S H (leave_mark p rest b note)) (put ∙ ap Done.In same) may)))
          (became_twice (λ c. guest_fed c (processed rest x.hand)) (λ c. guest_acted c (fed note) act) x.guests t.guests y.guests did.guests acted))
          (ap (λ (z : SqueueOf). z.own) is)
          (ap (λ (z : SqueueOf). z.wake) is ∙ rw queue_is refl)
          (ap (λ (z : SqueueOf). z.chain) is ∙ queue_is)
          (ap (λ (z : SqueueOf). z.hand) is),
      did.feeds ∙ ap (λ (hand : List Entry). feed_count (processed rest hand)) k.hand,
    )

-- whether something is queued
pub queued_is : (b : Bool) (xs : List Entry) → (b ≡ true → xs ≢ []) → (xs ≢ [] → b ≡ true) → b ≡ not (is_empty xs)
queued_is true [] there back = absurd (there refl refl)
queued_is true (x ∷ xs) there back = refl
queued_is false [] there back = refl
queued_is false (x ∷ xs) there back = let no : false ≡ true = back (λ e. cc e) in no
