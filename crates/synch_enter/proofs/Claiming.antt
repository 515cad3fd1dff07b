-- An owner that claimed with its own Ask last.
use Rattle.std.proofs.Common.{◌≡◌, ◌≢◌, ℕ, ◌-◌, ◌<◌, Bool, true, false, ◌==◌, ◌||◌, inl, inr, Option, Some, List, [], ◌∷◌, ◌++◌, length, drop, refl, ap, sym, ◌∙◌, subst, append_assoc, arith, length-append}
use Rattle.std.proofs.lemmas.List.{append-nil}
use Rattle.turn_gate.specs.History.{Begins}
use Rattle.turn_gate.specs.Passes.{number, seen, mine}
use Rattle.turn_gate.specs.declared.pass.Pass.{Pass}
use Rattle.perimeter_core.specs.declared.resident.Resident.{Ghosts}
use Rattle.perimeter_core.specs.declared.entries.Entry.{Entry}
use Rattle.perimeter_core.specs.declared.entries.Entry.TheVariants as Entry'
use Rattle.perimeter_core.specs.declared.marks.SynchAct.{SynchAct}
use Rattle.perimeter_core.specs.declared.marks.SynchAct.TheVariants as Done
use Rattle.perimeter_core.specs.declared.marks.Own.{Own}
use Rattle.perimeter_core.specs.declared.marks.Own.TheVariants.{Free, Out}
use Rattle.perimeter_core.specs.declared.marks.Mark.TheVariants as On
use Rattle.perimeter_core.specs.Perimeter.{State, after, has_ask, ends_with_ask, processed, unprocessed, is_closed, is_free}
use Rattle.perimeter_core.specs.History.{Element, Setting, Limits, start, run}
use Rattle.perimeter_core.specs.Legal.{May, Legal, all_feeds, only_last_ask}
use Rattle.perimeter_core.specs.Blocks.{Blocks, peri, with_feeds, with_act}
use Rattle.perimeter_core.specs.Backlog.{QueuedInRange}
use Rattle.perimeter_core.proofs.OneMore.{run_push, legal_more}
use Rattle.perimeter_core.proofs.FeedActs.{with_none, with_twice}
use Rattle.perimeter_core.proofs.QueuedRange.{queued_range, range_right}
use Rattle.squeue_state.specs.Naming.{Named, Turned, Handed, setting_of}
use Rattle.squeue_state.specs.Behind.{IsPeri}
use Rattle.histories.specs.Elements.{ask_claimed_by, granted_by, accepted_by}
use Rattle.squeue_state.specs.Clauses.{Found, Marked, IsWhole, peri_left, first_entry, asker}
use Rattle.squeue_drain.specs.declared.owner.Owner.{Owner}
use Rattle.squeue_drain.specs.Draining.{plain}
use Rattle.squeue_drain.specs.Owning.{Feeds, NoFeedFirst, processed_by, state_of}
use Rattle.squeue_drain.proofs.Fresh.{fresh}
use Rattle.squeue_drain.proofs.Hands.{first_is, within, none_left, Passed, passed, only_last_push, ends_at_ask}
use Rattle.squeue_drain.proofs.Marks.{may_grant}
use Rattle.squeue_drain.proofs.Turning.{AtTurn, at_turn}
use Rattle.squeue_drain.proofs.Deciding.{marked_on, ask_first, asks, granted_is, begins_trans}
use Rattle.synch_enter.specs.Synch.{MayAskAt, StandsAtItsAsk, CameBehind, IsWay}
use Rattle.synch_enter.specs.HandingOn.{AskIsNext, HandedOn}
use Rattle.synch_enter.proofs.Asking.{may_claim, pass_of_squeue, below_again}

-- the first Ask of a pass, where it ends the list, is its end
alone : (p : ℕ) (xs ys rest : List Entry) → xs ++ (Entry'.Ask p ∷ rest) ≡ ys ++ Entry'.Ask p ∷ [] → has_ask p ys ≡ false → rest ≡ []
alone p [] [] rest e h = cc e
alone p [] (y ∷ ys) rest e h = absurd (asked y ys (cc e) h)
  where
    itself : (p == p) ≡ true
    itself = grind arith

    asked : (y : Entry) (ys : List Entry) → Entry'.Ask p ≡ y → has_ask p (y ∷ ys) ≡ false → ⊥
    asked y ys e h = first (has_ask p ys) (subst (λ (z : Entry). has_ask p (z ∷ ys) ≡ false) (sym e) h)
      where
        first : (b : Bool) → ((p == p) || b) ≡ false → ⊥
        first b h = absurd (cc (h, ap (λ (t : Bool). t || b) itself))
alone p (x ∷ xs) [] rest e h =
    let n = ap length e in
    let more = length-append xs (Entry'.Ask p ∷ rest) in
    absurd (omega (arith, n, more))
alone p (x ∷ xs) (y ∷ ys) rest e h = alone p xs ys rest (cc e) (behind y h)
  where
    behind : (y : Entry) → has_ask p (y ∷ ys) ≡ false → has_ask p ys ≡ false
    behind (Entry'.Feed c n) h = h
    behind (Entry'.Ask q) h = other (q == p) h
      where
        other : (b : Bool) → (b || has_ask p ys) ≡ false → has_ask p ys ≡ false
        other true h = absurd (cc h)
        other false h = h

not_all : (p : ℕ) (xs : List Entry) → all_feeds (xs ++ Entry'.Ask p ∷ []) ≡ true → ⊥
not_all p [] h = absurd (cc h)
not_all p (Entry'.Feed c n ∷ xs) h = not_all p xs h
not_all p (Entry'.Ask q ∷ xs) h = absurd (cc h)

-- where only feeds are processed of a hand that ends with an Ask, something is left
some_left : (p : ℕ) (hand left chain : List Entry) → left ≡ unprocessed (length left) hand → all_feeds (processed (length left) hand) ≡ true → hand ≡ chain ++ Entry'.Ask p ∷ [] → 0 < length left
some_left p hand [] chain is feeds ends = absurd (not_all p chain (ap all_feeds (sym ends) ∙ (ap all_feeds (sym (none_left hand [] is refl)) ∙ feeds)))
some_left p hand (x ∷ left) chain is feeds ends = omega arith

-- an Ask does nothing to the blocks
with_ask : (xs : List Entry) (p : ℕ) (blocks : Blocks) → with_feeds (xs ++ Entry'.Ask p ∷ []) blocks ≡ with_feeds xs blocks
with_ask xs p blocks = with_twice xs (Entry'.Ask p ∷ []) blocks ∙ with_none (with_feeds xs blocks)

-- the owner's hand is what was queued, and its own Ask
pub record HasClaimed {R : Type 0} (limits : R → Limits) (s : Named R) (u : Turned R) (q : Pass Element) : Type 0 where
  pub same_number : number q ≡ u.number
  pub no_worker : number q < length s.given.quotas
  pub hand : (run (setting_of limits s.given) (seen q)).hand ≡ (run (setting_of limits s.given) u.found).chain ++ Entry'.Ask (number q) ∷ []
  pub lone : has_ask (number q) (run (setting_of limits s.given) u.found).chain ≡ false
  pub open_pass : is_closed (run (setting_of limits s.given) (seen q)) (number q) ≡ false
  pub now_seen : seen q ≡ u.found ++ ask_claimed_by u.number ∷ []
  pub now_mine : mine q ≡ u.mine ++ ask_claimed_by u.number ∷ []

module _ {R P O : Type 0} (G : Ghosts R P O) (s : Named R) where
  abbrev S : Setting
  S = setting_of G.limits s.given

  state : (u : Turned R) (q : Pass Element) → Marked u (ask_claimed_by u.number) q → run S (seen q) ≡ after (run S u.found) (On.Claim u.number (Entry'.Ask u.number ∷ []))
  state u q m = ap (run S) m.now_seen ∙ run_push (start S) u.found (ask_claimed_by u.number)

  pub has_claimed : (u : Turned R) (q : Pass Element) → MayAskAt G.limits s u → Marked u (ask_claimed_by u.number) q → HasClaimed G.limits s u q
  has_claimed u q may m =
      record {
        same_number = m.same_number;
        no_worker = below_again G.limits s u may q m.same_number;
        hand = ap (λ (t : State). t.hand) (state u q m) ∙ ap (λ (k : ℕ). (run S u.found).chain ++ Entry'.Ask k ∷ []) (sym m.same_number);
        lone = ap (λ (k : ℕ). has_ask k (run S u.found).chain) m.same_number ∙ may.idle.not_in_chain;
        open_pass = ap (λ (k : ℕ). is_closed (run S (seen q)) k) m.same_number ∙ (ap (λ (t : State). is_closed t u.number) (state u q m) ∙ may.idle.open_pass);
        now_seen = m.now_seen;
        now_mine = m.now_mine;
      }

  pub has_claimed_by : (u : Turned R) (q p : Pass Element) → MayAskAt G.limits s u → Marked u (ask_claimed_by u.number) q → p ≡ q → HasClaimed G.limits s u p
  has_claimed_by u q p may m same = subst (λ (x : Pass Element). HasClaimed G.limits s u x) (sym same) (has_claimed u q may m)

  pub claims : (u : Turned R) (q : Pass Element) (r : R) (h : Handed) → MayAskAt G.limits s u → (run S u.found).own ≡ Free → Marked u (ask_claimed_by u.number) q → IsWhole G.limits s.given (seen q) h
      → IsPeri G s.given r (peri S (seen q)) → Feeds G s record { pass = q; resident = r; hand = h; act = Done.None }
  claims u q r h may free m whole is =
      fresh G s q r h (pass_of_squeue G.limits s u may q m.is_pass)
      (subst (λ (G : List Element). Legal S G) (sym m.now_seen) (legal_more S u.found (ask_claimed_by u.number) may.legal (may_claim G.limits s u may free)))
      (ap (λ (t : State). t.own) (state u q m) ∙ ap Out (sym m.same_number)) whole is

  module _ {u : Turned R} {o : Owner R} (is : Feeds G s o) (claimed : HasClaimed G.limits s u o.pass) where
    -- what is next is an Ask
    pub next_ask : NoFeedFirst o.hand.left → (j : ℕ) × (rest : List Entry) × (o.hand.left ≡ Entry'.Ask j ∷ rest)
    next_ask stops = ask_first o.hand.left stops (some_left (number o.pass) (state_of G.limits s o).hand o.hand.left (run S u.found).chain is.owns.hand.is_left is.feeds claimed.hand)

    -- and whether it is its own
    pub own_first : {first : Option Entry} {me : ℕ} → first ≡ first_entry o.hand.left → first ≡ Some (Entry'.Ask me) → me ≡ u.number → (rest : List Entry) × (o.hand.left ≡ Entry'.Ask (number o.pass) ∷ rest)
    own_first is own mine = first_is o.hand.left (Entry'.Ask (number o.pass)) (sym is ∙ (own ∙ ap (λ (n : ℕ). Some (Entry'.Ask n)) (mine ∙ sym claimed.same_number)))

    pub other_next : {first : Option Entry} {me : ℕ} → NoFeedFirst o.hand.left → first ≡ first_entry o.hand.left → first ≢ Some (Entry'.Ask me) → me ≡ u.number → AskIsNext o
    other_next stops is own mine =
        let next = next_ask stops in
        (next.0, next.1, next.2, λ e. own (is ∙ (ap first_entry next.2 ∙ ap (λ (n : ℕ). Some (Entry'.Ask n)) (e ∙ (claimed.same_number ∙ sym mine)))))

    -- at its own Ask the owner has done what stood ahead of it
    pub at_own : {rest : List Entry} {h : Handed} → o.hand.left ≡ Entry'.Ask (number o.pass) ∷ rest → h.left ≡ drop 1 o.hand.left → h.room ≡ o.hand.room → StandsAtItsAsk G s [] record o { hand = h }
    at_own {rest} {h} ask left room =
        let hand : List Entry = (state_of G.limits s o).hand in
        let front : List Entry = processed_by G.limits s o in
        let one : Passed (state_of G.limits s o).hand o.hand.left rest (Entry'.Ask (number o.pass)) = passed (state_of G.limits s o).hand o.hand.left rest (Entry'.Ask (number o.pass)) is.owns.hand.is_left ask in
        let nothing : rest ≡ [] = alone (number o.pass) front (run S u.found).chain rest (sym one.split ∙ claimed.hand) claimed.lone in
        let now : h.left ≡ rest = left ∙ ap (λ (xs : List Entry). drop 1 xs) ask in
        let more : processed (length h.left) (state_of G.limits s o).hand ≡ processed_by G.limits s o ++ Entry'.Ask (number o.pass) ∷ [] = ap (λ (xs : List Entry). processed (length xs) (state_of G.limits s o).hand) now ∙ one.more in
        let all : (state_of G.limits s o).hand ≡ processed_by G.limits s o ++ Entry'.Ask (number o.pass) ∷ [] = sym (none_left (state_of G.limits s o).hand rest one.is_left nothing) ∙ one.more in
        let same : with_feeds (processed (length h.left) (state_of G.limits s o).hand) (peri S (seen o.pass)) ≡ with_feeds (processed_by G.limits s o) (peri S (seen o.pass)) =
        ap (λ (xs : List Entry). with_feeds xs (peri S (seen o.pass))) more ∙ with_ask front (number o.pass) (peri S (seen o.pass)) in
        record {
          owns = record {
            pass = is.owns.pass;
            legal = is.owns.legal;
            own = is.owns.own;
            hand = record {
              is_left = subst (λ (xs : List Entry). xs ≡ unprocessed (length xs) (state_of G.limits s o).hand) (sym now) one.is_left;
              has_room = room ∙ is.owns.hand.has_room;
            };
            resident = record {
              stands_for = subst (λ (blocks : Blocks). G.stands o.resident (with_act o.act [] blocks)) (sym same) is.owns.resident.stands_for;
              same_limits = is.owns.resident.same_limits;
              same_size = is.owns.resident.same_size;
              same_origin = is.owns.resident.same_origin;
            };
          };
          no_worker = claimed.no_worker;
          open_pass = claimed.open_pass;
          left = now ∙ nothing;
          at_ask = inr (ap (ends_with_ask (number o.pass)) claimed.hand ∙ ends_at_ask (number o.pass) (run S u.found).chain);
          only = ap (only_last_ask (number o.pass)) all ∙ only_last_push (number o.pass) front is.feeds;
          range = rw is.no_act tt;
          fits = rw is.no_act tt;
          note_fits = rw is.no_act refl;
        }

    pub came_own : (run S u.found).own ≡ Free → CameBehind S u.number u.found u.mine o.pass
    came_own free =
        record {
          ask = ask_claimed_by u.number;
          since = [];
          marks = [];
          now_seen = claimed.now_seen ∙ sym (append-nil (u.found ++ ask_claimed_by u.number ∷ []));
          now_mine = claimed.now_mine;
          way = subst (λ (w : Own). IsWay (is_free w) u.number (ask_claimed_by u.number) []) (sym free) (refl, inl refl);
        }

    pub open_handed : {q : Pass Element} → HandedOn G.limits s o q → is_closed (run S (seen q)) (number q) ≡ false
    open_handed {q} on = ap (λ (k : ℕ). is_closed (run S (seen q)) k) on.goes_on.same_number ∙ (on.closed ∙ claimed.open_pass)

    -- it handed on, and accepted later
    pub came_handed : {q r : Pass Element} → (run S u.found).own ≡ Free → HandedOn G.limits s o q → Begins (seen q) (seen r) → mine r ≡ mine q ++ accepted_by (number q) ∷ [] → CameBehind S u.number u.found u.mine r
    came_handed {q} {r} free on grows had =
        let same : number o.pass ≡ u.number = claimed.same_number in
        let all = begins_trans (seen o.pass) (seen q) (seen r) on.goes_on.grows grows in
        let j : ℕ = on.granted_to in
        let ms : List Element = granted_by u.number on.granted_to on.rest ∷ accepted_by u.number ∷ [] in
        record {
          ask = ask_claimed_by u.number;
          since = all.0;
          marks = granted_by u.number on.granted_to on.rest ∷ accepted_by u.number ∷ [];
          now_seen = all.1 ∙ ap (λ (h : List Element). h ++ all.0) claimed.now_seen;
          now_mine =
              had
              ∙ (ap (λ (k : ℕ). mine q ++ accepted_by k ∷ []) (on.goes_on.same_number ∙ same)
              ∙ (ap (λ (h : List Element). h ++ accepted_by u.number ∷ []) (on.now_mine ∙ ap (λ (k : ℕ). mine o.pass ++ granted_by k on.granted_to on.rest ∷ []) same)
              ∙ (append_assoc (mine o.pass) (granted_by u.number on.granted_to on.rest ∷ []) (accepted_by u.number ∷ [])
              ∙ (ap (λ (h : List Element). h ++ (granted_by u.number on.granted_to on.rest ∷ accepted_by u.number ∷ [])) claimed.now_mine
              ∙ append_assoc u.mine (ask_claimed_by u.number ∷ []) (granted_by u.number on.granted_to on.rest ∷ accepted_by u.number ∷ [])))));
          way = subst (λ (w : Own). IsWay (is_free w) u.number (ask_claimed_by u.number) (granted_by u.number on.granted_to on.rest ∷ accepted_by u.number ∷ [])) (sym free)
              (refl, inr (on.granted_to, on.rest, λ e. on.other (e ∙ sym same), refl));
        }

  -- an owner that hands the perimeter on
  module _ (o : Owner R) (u : Turned R) (is : Feeds G s o) (next : AskIsNext o) (f : Found G.limits s o.pass u) where
    pub at : AtTurn G s [] o u
    at = at_turn G s [] o u is.owns f

    pub gives : IsPeri G s.given o.resident (peri_left G.limits s.given u.found o.hand Done.None [])
    gives = subst (λ (act : SynchAct). IsPeri G s.given o.resident (peri_left G.limits s.given u.found o.hand act [])) is.no_act at.resident

    pub first : first_entry o.hand.left ≡ Some (Entry'.Ask (asker o.hand.left))
    first = asks next.0 o.hand.left next.1 next.2

    one_on : Passed (run S u.found).hand o.hand.left next.1 (Entry'.Ask next.0)
    one_on = passed (run S u.found).hand o.hand.left next.1 (Entry'.Ask next.0) at.left.is_left next.2

    grants_plain : May S u.found (plain (On.Grant u.number next.0 (length next.1)))
    grants_plain =
        let hand : List Entry = (run S u.found).hand in
        let feeds : all_feeds (processed (length o.hand.left) (run S u.found).hand) ≡ true = ap all_feeds at.same_front ∙ is.feeds in
        let queue : (run S u.found).hand ++ (run S u.found).chain ≡ processed (length o.hand.left) (run S u.found).hand ++ (Entry'.Ask next.0 ∷ (next.1 ++ (run S u.found).chain)) =
        ap (λ (xs : List Entry). xs ++ (run S u.found).chain) one_on.split ∙ append_assoc (processed (length o.hand.left) (run S u.found).hand) (Entry'.Ask next.0 ∷ next.1) (run S u.found).chain in
        let range : QueuedInRange S (processed (length o.hand.left) (run S u.found).hand ++ (Entry'.Ask next.0 ∷ (next.1 ++ (run S u.found).chain))) = subst (QueuedInRange S) queue (queued_range S u.found f.legal) in
        let below = range_right S (processed (length o.hand.left) (run S u.found).hand) (Entry'.Ask next.0 ∷ (next.1 ++ (run S u.found).chain)) range in
        may_grant S u.found u.number next.0 (length next.1) f.legal at.own (omega (arith, one_on.shorter, within (run S u.found).hand o.hand.left at.left.is_left))
        (ap (ends_with_ask next.0) one_on.more ∙ ends_at_ask next.0 (processed (length o.hand.left) (run S u.found).hand))
        (ap (only_last_ask next.0) one_on.more ∙ only_last_push next.0 (processed (length o.hand.left) (run S u.found).hand) feeds)
        (λ e. next.3 (e ∙ f.same_number)) (omega (arith, below.0))

    same_mark : granted_by u.number (asker o.hand.left) (length o.hand.left - 1) ≡ plain (On.Grant u.number next.0 (length next.1))
    same_mark = granted_is u.number next.0 o.hand.left next.1 next.2

    pub grants : May S u.found (granted_by u.number (asker o.hand.left) (length o.hand.left - 1))
    grants = subst (λ (e : Element). May S u.found e) (sym same_mark) grants_plain

    pub handed : (q : Pass Element) → Marked u (granted_by u.number (asker o.hand.left) (length o.hand.left - 1)) q → HandedOn G.limits s o q
    handed q m =
        let e : Element = plain (On.Grant u.number next.0 (length next.1)) in
        let state_q : run S (seen q) ≡ after (run S u.found) (On.Grant u.number next.0 (length next.1)) =
        ap (run S) (m.now_seen ∙ ap (λ (x : Element). u.found ++ x ∷ []) same_mark) ∙ run_push (start S) u.found (plain (On.Grant u.number next.0 (length next.1))) in
        record {
          goes_on = marked_on G.limits s o.pass q u (granted_by u.number (asker o.hand.left) (length o.hand.left - 1)) f grants m;
          granted_to = next.0;
          rest = length next.1;
          other = next.3;
          now_mine =
              m.now_mine
              ∙ (ap (λ (x : Element). u.mine ++ x ∷ []) same_mark
              ∙ (ap (λ (h : List Element). h ++ plain (On.Grant u.number next.0 (length next.1)) ∷ []) f.same_mine
              ∙ ap (λ (k : ℕ). mine o.pass ++ granted_by k next.0 (length next.1) ∷ []) f.same_number));
          closed = ap (λ (t : State). is_closed t (number o.pass)) state_q ∙ at.closed;
        }
