-- One turn of an owner: it leaves, grants, or takes the queue.
use Rattle.std.specs.Prelude.{Some}
use Rattle.std.proofs.Common.{nat_eq}
use Rattle.std.proofs.lemmas.Bool.Decides.{nat_tests}
use Rattle.std.proofs.Common.{◌≡◌, ◌≢◌, ℕ, suc, ◌+◌, ◌-◌, ◌^◌, ◌≤◌, ◌<◌, Bool, true, false, List, [], ◌∷◌, ◌++◌, length, refl, ap, sym, ◌∙◌, subst, append_assoc, arith, length-append}
use Rattle.std.proofs.lemmas.List.{nil_from_length}
use Rattle.turn_gate.specs.History.{Begins}
use Rattle.turn_gate.specs.Passes.{IsPassOf, number, seen, mine}
use Rattle.turn_gate.specs.declared.pass.Pass.{Pass}
use Rattle.perimeter_core.specs.declared.resident.Resident.{Ghosts}
use Rattle.perimeter_core.specs.declared.entries.Entry.{Entry}
use Rattle.perimeter_core.specs.declared.entries.Entry.TheVariants as Entry'
use Rattle.perimeter_core.specs.declared.marks.SynchAct.{SynchAct}
use Rattle.perimeter_core.specs.declared.marks.SynchAct.TheVariants as Done
use Rattle.perimeter_core.specs.declared.marks.Own.TheVariants.{Out}
use Rattle.perimeter_core.specs.declared.marks.Mark.{Mark}
use Rattle.perimeter_core.specs.declared.marks.Mark.TheVariants as On
use Rattle.perimeter_core.specs.Perimeter.{State, Idle, after, polls, processed, unprocessed, has_ask, ends_with_ask, is_closed}
use Rattle.perimeter_core.specs.History.{Element, Setting, Limits, start, run}
use Rattle.perimeter_core.specs.Deeds.{done}
use Rattle.perimeter_core.specs.Legal.{May, Legal, all_feeds, only_last_ask, feed_count}
use Rattle.perimeter_core.specs.Blocks.{peri, with_feeds, with_act}
use Rattle.perimeter_core.specs.Backlog.{QueuedInRange}
use Rattle.perimeter_core.proofs.OneMore.{run_push, legal_more}
use Rattle.perimeter_core.proofs.BlocksFollow.{peri_push}
use Rattle.perimeter_core.proofs.FeedActs.{with_none}
use Rattle.perimeter_core.proofs.IdleKept.{no_ask_split}
use Rattle.perimeter_core.proofs.OwnAsk.{waits_no_more}
use Rattle.perimeter_core.proofs.QueuedRange.{queued_range, range_right}
use Rattle.histories.specs.Limits.{most_room}
use Rattle.perimeter_core.proofs.BehindAnAsk.{has_ask-append}
use Rattle.squeue_state.specs.Naming.{Given, Named, Turned, Handed, setting_of}
use Rattle.squeue_state.specs.Behind.{IsPeri}
use Rattle.histories.specs.Elements.{number_of, taken_by, left_by_pass, granted_by}
use Rattle.squeue_state.specs.Clauses.{Found, Marked, IsWhole, peri_left, first_entry, asker}
use Rattle.squeue_drain.specs.declared.owner.Owner.{Owner}
use Rattle.squeue_drain.specs.Owning.{Feeds, HasFeeds, NoFeedFirst, processed_by, state_of, fed_so_far}
use Rattle.squeue_drain.specs.Draining.{GoesOn, Tells, Off, Onward, plain}
use Rattle.squeue_drain.proofs.Hands.{parts, within, none_left, whole_left, only_last_of_feeds, Passed, passed, only_last_push, ends_at_ask, asks_other}
use Rattle.histories.proofs.Counts.{count_ask}
use Rattle.histories.proofs.OwnersFacts.{done_more}
use Rattle.squeue_drain.proofs.Marks.{may_leave, may_take, may_grant}
use Rattle.squeue_drain.proofs.Turning.{others, AtTurn, at_turn}

pub begins_more : (xs ys : List Element) (e : Element) → Begins xs ys → Begins xs (ys ++ e ∷ [])
begins_more xs ys e b = (b.0 ++ e ∷ [], ap (λ (zs : List Element). zs ++ e ∷ []) b.1 ∙ append_assoc xs b.0 (e ∷ []))

pub begins_trans : (xs ys zs : List Element) → Begins xs ys → Begins ys zs → Begins xs zs
begins_trans xs ys zs a b = (a.0 ++ b.0, b.1 ∙ (ap (λ (w : List Element). w ++ b.0) a.1 ∙ append_assoc xs a.0 b.0))

-- what is queued fits a number
pub fits_numbers : {R : Type 0} (limits : R → Limits) (g : Given R) (H : List Element)
    → (length (run (setting_of limits g) H).hand + length (run (setting_of limits g) H).chain ≤ g.room) × (g.room ≤ most_room)
    → length (run (setting_of limits g) H).hand + length (run (setting_of limits g) H).chain < 2 ^ 31
fits_numbers limits g H few = omega (arith, few.0, few.1)

-- after a mark that ends a turn
pub marked_on : {R : Type 0} (limits : R → Limits) (s : Named R) (p q : Pass Element) (u : Turned R) (e : Element) → Found limits s p u → May (setting_of limits s.given) u.found e → Marked u e q → GoesOn limits s p q
marked_on {R = R} limits s p q u e f may m =
    record {
      is_pass = subst (λ (t : Named R). IsPassOf number_of t.gate q) f.squeue m.is_pass;
      same_number = m.same_number ∙ f.same_number;
      grows = subst (λ (h : List Element). Begins (seen p) h) (sym m.now_seen) (begins_more (seen p) u.found e f.goes_on);
      legal = subst (λ (h : List Element). Legal (setting_of limits s.given) h) (sym m.now_seen) (legal_more (setting_of limits s.given) u.found e f.legal may);
    }

module _ {R P O : Type 0} {G : Ghosts R P O} {s : Named R} {o : Owner R} {u : Turned R} (is : Feeds G s o) (has : HasFeeds G.limits s o) (f : Found G.limits s o.pass u) where
  abbrev S : Setting
  S = setting_of G.limits s.given

  pub at : AtTurn G s [] o u
  at = at_turn G s [] o u is.owns f

  front_feeds : all_feeds (processed (length o.hand.left) (run S u.found).hand) ≡ true
  front_feeds = ap all_feeds at.same_front ∙ is.feeds

  no_ask : has_ask u.number (run S u.found).hand ≡ false
  no_ask = ap (λ (k : ℕ). has_ask k (run S u.found).hand) f.same_number ∙ (ap (has_ask (number o.pass)) at.hand ∙ has.no_ask)

  some_hand : (run S u.found).hand ≢ []
  some_hand none = has.some (sym at.hand ∙ none)

  -- the resident, as an owner without an act leaves it
  pub gives : IsPeri G s.given o.resident (peri_left G.limits s.given u.found o.hand Done.None [])
  gives = subst (λ (act : SynchAct). IsPeri G s.given o.resident (peri_left G.limits s.given u.found o.hand act [])) is.no_act at.resident

  pub leaves : length o.hand.left < length (state_of G.limits s o).hand → May S u.found (left_by_pass u.number (length o.hand.left) Done.None [])
  leaves some =
      may_leave S u.found u.number (length o.hand.left) f.legal at.own (within (run S u.found).hand o.hand.left at.left.is_left)
      (only_last_of_feeds u.number (processed (length o.hand.left) (run S u.found).hand) front_feeds)
      (λ any. subst (λ (xs : List Entry). length o.hand.left < length xs) (sym at.hand) some)

  -- where nothing is left of the hand
  pub hand_is_some : o.hand.left ≡ [] → length o.hand.left < length (state_of G.limits s o).hand
  hand_is_some none = rw none (more (state_of G.limits s o).hand has.some)
    where
      more : (xs : List Entry) → xs ≢ [] → 0 < length xs
      more [] some = absurd (some refl)
      more (x ∷ xs) some = omega arith

  quiet : (H : List Element) (e : Element) → is_closed (run S (H ++ e ∷ [])) (number o.pass) ≡ is_closed (after (run S H) e.mark) (number o.pass)
  quiet H e = ap (λ (t : State). is_closed t (number o.pass)) (run_push (start S) H e)

  no_ask_left : has_ask u.number o.hand.left ≡ false
  no_ask_left =
      (no_ask_split u.number (processed (length o.hand.left) (run S u.found).hand) o.hand.left (ap (has_ask u.number) (sym (parts (run S u.found).hand o.hand.left at.left.is_left)) ∙ no_ask)).1

  no_ask_chain : has_ask u.number (run S u.found).chain ≡ false
  no_ask_chain = (waits_no_more S u.found u.number f.legal).owner_chain at.own

  still_open : is_closed (state_of G.limits s o) (number o.pass) ≡ false → is_closed (run S u.found) u.number ≡ false
  still_open c = ap (is_closed (run S u.found)) f.same_number ∙ (at.closed ∙ c)

  idle_left : is_closed (state_of G.limits s o) (number o.pass) ≡ false → Idle (after (run S u.found) (On.Leave u.number (length o.hand.left) Done.None)) u.number
  idle_left c =
      record {
        open_pass = still_open c;
        no_owner = λ e. cc e;
        not_granted = λ e. cc e;
        not_in_hand = refl;
        not_in_chain = has_ask-append u.number (unprocessed (length o.hand.left) (run S u.found).hand) (run S u.found).chain (ap (has_ask u.number) (sym at.left.is_left) ∙ no_ask_left) no_ask_chain;
      }

  -- what the turn found, and the state after the mark, as they are said of the pass
  idle_at : (m : Mark) (q : Pass Element) → seen q ≡ u.found ++ plain m ∷ [] → Idle (after (run S u.found) m) u.number → Idle (run S (seen q)) (number o.pass)
  idle_at m q e i =
      subst (λ (k : ℕ). Idle (run S (seen q)) k) f.same_number
      (subst (λ (h : List Element). Idle (run S h) u.number) (sym e)
      (subst (λ (t : State). Idle t u.number) (sym (run_push (start S) u.found (plain m))) i))

  counted_at : (m : Mark) (q : Pass Element) (xs : List Entry) → seen q ≡ u.found ++ plain m ∷ [] → feed_count (done S (u.found ++ plain m ∷ [])) ≡ feed_count (done S u.found) + feed_count xs → feed_count xs ≡ feed_count (processed_by G.limits s o)
      → feed_count (done S (seen q)) ≡ fed_so_far G.limits s o
  counted_at m q xs e more same =
      ap (λ (h : List Element). feed_count (done S h)) e ∙ (more ∙ (ap (λ (k : ℕ). k + feed_count xs) at.same_done ∙ ap (λ (k : ℕ). feed_count (done S (seen o.pass)) + k) same))

  pub left : {spent : Bool} {q : Pass Element} → length o.hand.left < length (state_of G.limits s o).hand → (spent ≡ false → (o.hand.left ≡ []) × ((run S u.found).chain ≡ []))
      → Marked u (left_by_pass u.number (length o.hand.left) Done.None []) q → Off G.limits s spent o q
  left {spent} {q} some why m =
      let mark : Mark = On.Leave u.number (length o.hand.left) Done.None in
      let H : List Element = u.found in
      record {
        goes_on = marked_on G.limits s o.pass q u (plain mark) f (leaves some) m;
        since = f.goes_on.0;
        others = others G.limits s o.pass u is.owns.pass f;
        last = mark;
        ends = f.same_number;
        now_seen = m.now_seen ∙ ap (λ (h : List Element). h ++ plain mark ∷ []) f.goes_on.1;
        now_mine = m.now_mine ∙ ap (λ (h : List Element). h ++ plain mark ∷ []) f.same_mine;
        count = counted_at mark q (processed (length o.hand.left) (run S H).hand) m.now_seen (done_more S H (plain mark)) (ap feed_count at.same_front);
        leaves = λ n. ap (λ (k : ℕ). On.Leave k (length o.hand.left) Done.None) f.same_number;
        nothing = λ n. let w = why n in (ap length w.0, ap (λ (h : List Element). (run S h).chain) (sym f.goes_on.1) ∙ w.1);
        empty = λ n is_leave.
            let w = why n in
            ap (λ (h : List Element). (run S h).chain) m.now_seen
            ∙ (ap (λ (t : State). t.chain) (run_push (start S) H (plain mark))
            ∙ (ap (λ (xs : List Entry). xs ++ (run S H).chain) (sym at.left.is_left ∙ w.0) ∙ w.1));
        idle = λ c. idle_at mark q m.now_seen (idle_left c);
      }

  pub left_tells : {q : Pass Element} {rest : ℕ} {polling : Bool} → rest ≡ length o.hand.left + length (run S u.found).chain
      → ((es : List Entry) → length es ≡ rest → polling ≡ polls es (run S u.found).polling) → Marked u (left_by_pass u.number (length o.hand.left) Done.None []) q → Tells G.limits s q rest polling
  left_tells {q} {rest} {polling} count told m =
      let mark : Mark = On.Leave u.number (length o.hand.left) Done.None in
      let queue : List Entry = unprocessed (length o.hand.left) (run S u.found).hand ++ (run S u.found).chain in
      let state : run S (seen q) ≡ after (run S u.found) mark = ap (run S) m.now_seen ∙ run_push (start S) u.found (plain mark) in
      let size : length queue ≡ rest = ap (λ (xs : List Entry). length (xs ++ (run S u.found).chain)) (sym at.left.is_left) ∙ (length-append o.hand.left (run S u.found).chain ∙ sym count) in
      record {
        rest_is = sym (ap (λ (t : State). length t.chain) state ∙ size);
        polling_is = told queue size ∙ sym (ap (λ (t : State). t.polling) state);
      }

module _ {R P O : Type 0} {G : Ghosts R P O} {s : Named R} {o : Owner R} {u : Turned R} (is : Feeds G s o) (has : HasFeeds G.limits s o) (f : Found G.limits s o.pass u) where
  abbrev T : Setting
  T = setting_of G.limits s.given

  abbrev here : AtTurn G s [] o u
  here = at_turn G s [] o u is.owns f

  -- what is queued, with what is left of the hand, fits a number
  pub room : length o.hand.left + length (run T u.found).chain < 2 ^ 31
  room =
      let all = fits_numbers G.limits s.given u.found f.few in
      let part = within (run T u.found).hand o.hand.left here.left.is_left in
      omega (arith, all, part)

  -- the owner has processed its hand and takes the queue
  pub takes : o.hand.left ≡ [] → (run T u.found).chain ≢ [] → May T u.found (taken_by u.number)
  takes none queued =
      let done : processed (length o.hand.left) (run T u.found).hand ≡ (run T u.found).hand = none_left (run T u.found).hand o.hand.left here.left.is_left none in
      may_take T u.found u.number f.legal here.own queued (ap all_feeds (sym done) ∙ (ap all_feeds here.same_front ∙ is.feeds)) (λ e. has.some (sym here.hand ∙ e))

  pub taken : o.hand.left ≡ [] → (run T u.found).chain ≢ [] → {q : Pass Element} {h : Handed} → Marked u (taken_by u.number) q → IsWhole G.limits s.given (seen q) h
      → Onward G s o record o { pass = q; hand = h }
  taken none queued {q} {h} m whole =
      let mark : Mark = On.Take u.number in
      let H : List Element = u.found in
      let may = takes none queued in
      let on = marked_on G.limits s o.pass q u (taken_by u.number) f may m in
      let state : run T (seen q) ≡ after (run T H) mark = ap (run T) m.now_seen ∙ run_push (start T) H (plain mark) in
      let hand : (run T (seen q)).hand ≡ (run T H).chain = ap (λ (t : State). t.hand) state in
      let w = whole_left (run T (seen q)).hand h.left whole.is_whole in
      let all : processed (length o.hand.left) (run T H).hand ≡ (run T H).hand = none_left (run T H).hand o.hand.left here.left.is_left none in
      let peri_same : peri T (seen q) ≡ with_feeds (processed (length o.hand.left) (run T H).hand) (peri T H) =
      ap (peri T) m.now_seen ∙ (peri_push T H (plain mark) may ∙ ap (λ (xs : List Entry). with_feeds xs (peri T H)) (sym all)) in
      let now : with_feeds (processed (length h.left) (run T (seen q)).hand) (peri T (seen q)) ≡ with_feeds (processed (length o.hand.left) (run T H).hand) (peri T H) =
      ap (λ (xs : List Entry). with_feeds xs (peri T (seen q))) w.1 ∙ (with_none (peri T (seen q)) ∙ peri_same) in
      let gave : IsPeri G s.given o.resident (peri_left G.limits s.given H o.hand Done.None []) = gives is has f in
      let none_so_far : feed_count (processed (length h.left) (run T (seen q)).hand) ≡ 0 = ap feed_count w.1 in
      let before : feed_count (done T (seen q)) ≡ feed_count (done T H) + feed_count (run T H).hand = ap (λ (g : List Element). feed_count (done T g)) m.now_seen ∙ done_more T H (plain mark) in
      let same : feed_count (run T H).hand ≡ feed_count (processed_by G.limits s o) = ap feed_count (sym all ∙ here.same_front) in
      record {
        feeds = record {
          owns = record {
            pass = on.is_pass;
            legal = on.legal;
            own = ap (λ (t : State). t.own) state ∙ (here.own ∙ ap Out (sym m.same_number));
            hand = record { is_left = w.0; has_room = whole.has_room };
            resident = record {
              stands_for = subst (λ (act : SynchAct). G.stands o.resident (with_act act [] (with_feeds (processed (length h.left) (run T (seen q)).hand) (peri T (seen q))))) (sym is.no_act)
                  (subst (G.stands o.resident) (sym now) gave.stands_for);
              same_limits = gave.same_limits;
              same_size = gave.same_size;
              same_origin = gave.same_origin;
            };
          };
          no_act = is.no_act;
          feeds = ap all_feeds w.1;
        };
        has = record {
          some = λ e. queued (sym hand ∙ e);
          no_ask =
              ap (λ (k : ℕ). has_ask k (run T (seen q)).hand) m.same_number
              ∙ (ap (has_ask u.number) hand ∙ (waits_no_more T H u.number f.legal).owner_chain here.own);
        };
        goes_on = on;
        since = f.goes_on.0;
        others = others G.limits s o.pass u is.owns.pass f;
        now_seen = m.now_seen ∙ (ap (λ (h : List Element). h ++ taken_by u.number ∷ []) f.goes_on.1 ∙ ap (λ (k : ℕ). (seen o.pass ++ f.goes_on.0) ++ taken_by k ∷ []) f.same_number);
        now_mine = m.now_mine ∙ (ap (λ (h : List Element). h ++ taken_by u.number ∷ []) f.same_mine ∙ ap (λ (k : ℕ). mine o.pass ++ taken_by k ∷ []) f.same_number);
        count = omega (arith, none_so_far, before, same, here.same_done);
        closed = ap (λ (t : State). is_closed t (number o.pass)) state ∙ here.closed;
      }

  -- an Ask stands first
  module _ {j : ℕ} {rest : List Entry} (ask : o.hand.left ≡ Entry'.Ask j ∷ rest) where
    one_on : Passed (run T u.found).hand o.hand.left rest (Entry'.Ask j)
    one_on = passed (run T u.found).hand o.hand.left rest (Entry'.Ask j) here.left.is_left ask

    front : List Entry
    front = processed (length o.hand.left) (run T u.found).hand

    pub grants : May T u.found (plain (On.Grant u.number j (length rest)))
    grants =
        let hand = (run T u.found).hand in
        let feeds : all_feeds (processed (length o.hand.left) hand) ≡ true = ap all_feeds here.same_front ∙ is.feeds in
        let lone : has_ask u.number (processed (length o.hand.left) hand ++ (Entry'.Ask j ∷ rest)) ≡ false = ap (has_ask u.number) (sym one_on.split) ∙ no_ask is has f in
        let queue : hand ++ (run T u.found).chain ≡ processed (length o.hand.left) hand ++ (Entry'.Ask j ∷ (rest ++ (run T u.found).chain)) =
        ap (λ (xs : List Entry). xs ++ (run T u.found).chain) one_on.split ∙ append_assoc (processed (length o.hand.left) hand) (Entry'.Ask j ∷ rest) (run T u.found).chain in
        let range : QueuedInRange T (processed (length o.hand.left) hand ++ (Entry'.Ask j ∷ (rest ++ (run T u.found).chain))) = subst (QueuedInRange T) queue (queued_range T u.found f.legal) in
        let mine = range_right T (processed (length o.hand.left) hand) (Entry'.Ask j ∷ (rest ++ (run T u.found).chain)) range in
        may_grant T u.found u.number j (length rest) f.legal here.own (omega (arith, one_on.shorter, within hand o.hand.left here.left.is_left))
        (ap (ends_with_ask j) one_on.more ∙ ends_at_ask j (processed (length o.hand.left) hand))
        (ap (only_last_ask j) one_on.more ∙ only_last_push j (processed (length o.hand.left) hand) feeds)
        (asks_other u.number j (processed (length o.hand.left) hand) rest lone)
        (omega (arith, mine.0))

    pub granted_to : {spent : Bool} {q : Pass Element} → spent ≡ false → Marked u (plain (On.Grant u.number j (length rest))) q → Off G.limits s spent o q
    granted_to {spent} {q} unspent m =
        let mark : Mark = On.Grant u.number j (length rest) in
        let H : List Element = u.found in
        let hand = (run T H).hand in
        let lone : has_ask u.number (processed (length o.hand.left) hand ++ (Entry'.Ask j ∷ rest)) ≡ false = ap (has_ask u.number) (sym one_on.split) ∙ no_ask is has f in
        let other : j ≢ u.number = asks_other u.number j (processed (length o.hand.left) hand) rest lone in
        let counts : feed_count (processed (length rest) hand) ≡ feed_count (processed_by G.limits s o) =
        ap feed_count one_on.more ∙ (count_ask (processed (length o.hand.left) hand) j ∙ ap feed_count here.same_front) in
        record {
          goes_on = marked_on G.limits s o.pass q u (plain mark) f grants m;
          since = f.goes_on.0;
          others = others G.limits s o.pass u is.owns.pass f;
          last = mark;
          ends = (f.same_number, λ e. other (e ∙ sym f.same_number));
          now_seen = m.now_seen ∙ ap (λ (h : List Element). h ++ plain mark ∷ []) f.goes_on.1;
          now_mine = m.now_mine ∙ ap (λ (h : List Element). h ++ plain mark ∷ []) f.same_mine;
          count = counted_at is has f mark q (processed (length rest) hand) m.now_seen (done_more T H (plain mark)) counts;
          leaves = λ n. absurd (cc (unspent, n));
          nothing = λ n. tt;
          empty = λ n e. absurd (cc e);
          idle = λ c.
              idle_at is has f mark q m.now_seen
              (record {
                open_pass = still_open is has f c;
                no_owner = λ e. cc e;
                not_granted = λ e. other (cc e);
                not_in_hand = refl;
                not_in_chain =
                    has_ask-append u.number (unprocessed (length rest) hand) (run T H).chain
                    (ap (has_ask u.number) (sym one_on.is_left) ∙ (no_ask_split u.number (processed (length o.hand.left) hand ++ Entry'.Ask j ∷ []) rest
                    (ap (has_ask u.number) (append_assoc (processed (length o.hand.left) hand) (Entry'.Ask j ∷ []) rest) ∙ lone)).1)
                    (no_ask_chain is has f);
              });
        }

    pub granted_tells : {q : Pass Element} {count : ℕ} {polling : Bool} → count + 1 ≡ length o.hand.left + length (run T u.found).chain
        → ((es : List Entry) → length es ≡ count → polling ≡ polls es (run T u.found).polling) → Marked u (plain (On.Grant u.number j (length rest))) q → Tells G.limits s q count polling
    granted_tells {q} {count} {polling} counts told m =
        let mark : Mark = On.Grant u.number j (length rest) in
        let queue : List Entry = unprocessed (length rest) (run T u.found).hand ++ (run T u.found).chain in
        let state : run T (seen q) ≡ after (run T u.found) mark = ap (run T) m.now_seen ∙ run_push (start T) u.found (plain mark) in
        let size : length queue ≡ count =
        ap (λ (xs : List Entry). length (xs ++ (run T u.found).chain)) (sym one_on.is_left)
        ∙ (length-append rest (run T u.found).chain ∙ (omega (arith, counts, one_on.shorter))) in
        record {
          rest_is = sym (ap (λ (t : State). length t.chain) state ∙ size);
          polling_is = told queue size ∙ sym (ap (λ (t : State). t.polling) state);
        }

pub ask_first : (xs : List Entry) → NoFeedFirst xs → 0 < length xs → (j : ℕ) × (rest : List Entry) × (xs ≡ Entry'.Ask j ∷ rest)
ask_first [] none some = absurd (omega arith)
ask_first (Entry'.Feed c n ∷ xs) none some = absurd none
ask_first (Entry'.Ask j ∷ xs) none some = (j, xs, refl)

pub asks : (j : ℕ) (xs rest : List Entry) → xs ≡ Entry'.Ask j ∷ rest → first_entry xs ≡ Some (Entry'.Ask (asker xs))
asks j xs rest h = rw h refl

pub granted_is : (p j : ℕ) (xs rest : List Entry) → xs ≡ Entry'.Ask j ∷ rest → granted_by p (asker xs) (length xs - 1) ≡ plain (On.Grant p j (length rest))
granted_is p j xs rest h = let one : suc (length rest) - 1 ≡ length rest = omega arith in rw h (ap (λ (k : ℕ). plain (On.Grant p j k)) one)

pub some_of : {A : Type 0} (xs : List A) → length xs ≢ 0 → xs ≢ []
some_of xs h e = h (ap length e)

pub is_not : (b : Bool) → b ≡ false → b ≡ true → {P : Type 0} → P
is_not b f t = absurd (cc (f, t))

-- what a turn tells is of its squeue
pub same_state : {R : Type 0} (limits : R → Limits) (t s : Named R) (h : List Element) → t ≡ s → run (setting_of limits t.given) h ≡ run (setting_of limits s.given) h
same_state {R = R} limits t s h e = ap (λ (x : Named R). run (setting_of limits x.given) h) e

pub has_first : (xs : List Entry) (e : Entry) → first_entry xs ≡ Some e → 1 ≤ length xs
has_first [] e h = absurd cc
has_first (x ∷ xs) e h = omega arith

pub is_zero : (n : ℕ) → nat_eq n 0 ≡ true → n ≡ 0
is_zero n h = grind (arith, nat_tests)

pub not_zero : (n : ℕ) → nat_eq n 0 ≡ false → 1 ≤ n
not_zero n h = grind (arith, nat_tests)

-- and so is what it tells of the queue
pub queued_is : {R : Type 0} {limits : R → Limits} {s : Named R} {p : Pass Element} {u : Turned R} (n : ℕ) → Found limits s p u → n ≡ length (run (setting_of limits u.squeue.given) u.found).chain
    → n ≡ length (run (setting_of limits s.given) u.found).chain
queued_is {limits = limits} {s = s} {u = u} n f is = is ∙ ap (λ (x : State). length x.chain) (same_state limits u.squeue s u.found f.squeue)

module _ {R : Type 0} {limits : R → Limits} {s : Named R} {p : Pass Element} {u : Turned R} (n : ℕ) (f : Found limits s p u) (is : n ≡ length (run (setting_of limits u.squeue.given) u.found).chain) where
  pub none_queued : n ≡ 0 → (run (setting_of limits s.given) u.found).chain ≡ []
  none_queued none = nil_from_length (run (setting_of limits s.given) u.found).chain (sym (queued_is n f is) ∙ none)

  pub some_queued : n ≢ 0 → (run (setting_of limits s.given) u.found).chain ≢ []
  some_queued some = some_of (run (setting_of limits s.given) u.found).chain (λ e. some (queued_is n f is ∙ e))
