-- Marks that are right, and give orders, are those of histories that fit. Their notes have all that was done to a block before.
use Rattle.std.proofs.Common.{◌≡◌, ◌≢◌, ℕ, zero, suc, ◌+◌, ◌-◌, ◌*◌, ◌/◌, ◌%◌, ◌≤◌, ◌<◌, ◌==◌, inl, inr, Bool, true, false, Option, Some, None, is_some, List, [], ◌∷◌, ◌++◌, length, map, refl, ap, sym, ◌∙◌, subst, arith, eq-eqb}
use Rattle.std.specs.Prelude.{slice_get, slice_index}
use Rattle.std.specs.List.{range_with_len}
use Rattle.std.proofs.lemmas.Bool.{cases_lt}
use Rattle.std.proofs.lemmas.List.{append-nil, length-map}
use Rattle.std.proofs.lemmas.Nat.{div-mul-add, mod-mul-add, mod_below}
use Rattle.std.proofs.lemmas.Option.{slice_get_past, slice_get_within}
use Rattle.std.proofs.Math.Nat.{zero-div}
use Rattle.perimeter_core.specs.declared.entries.Act.{Act}
use Rattle.perimeter_core.specs.declared.entries.Act.TheVariants as Did
use Rattle.perimeter_core.specs.declared.marks.Mark.{Mark}
use Rattle.perimeter_core.specs.Perimeter.{is_here}
use Rattle.perimeter_core.specs.History.{Setting, run, start}
use Rattle.perimeter_core.specs.Backlog.{up}
use Rattle.perimeter_core.specs.Deeds.{acts, fed, feed_numbers}
use Rattle.perimeter_core.proofs.FeedLists.{length-up}
use Rattle.perimeter_core.proofs.LeavesFew.{leaves_few}
use Rattle.histories.specs.Endings.{Ending}
use Rattle.histories.specs.Stays.{AreLegal, AreLinked, AreOfAllStays, IsLinked, StartsAtHome, Stay, Stays, all_in, as_list, ended_stay, joined, own_of, stay, stays, stays_in}
use Rattle.histories.proofs.OneSqueue.{IsSound, all_sound, fits, next_one, some_of, sound_at}
use Rattle.histories.proofs.StaysJoin.{all_stays}
use Rattle.conn_classifier.specs.Plan.{PlanOf, items_in}
use Rattle.conn_blocks.specs.CallLists.{CallLists}
use Rattle.histories.specs.Homes.{times_leaving}
use Rattle.conn_blocks.specs.Orders.{settle}
use Rattle.perimeter_core.proofs.ActLists.{feed_numbers-append}
use Rattle.conn_blocks.specs.SettledFeeds.{feeds_settle}
use Rattle.histories.specs.Keeping.{KeepsPace}
use Rattle.histories.specs.Noted.{AreNoted}
use Rattle.histories.proofs.StaysSeen.{ended_count}
use Rattle.ring_quotas.specs.declared.setup.Setup.{Setup}
use Rattle.ring_quotas.specs.Quotas.{IsInRange}
use Rattle.ring_quotas.proofs.EachQuota.{leaves_known}
use Rattle.ring_quotas.specs.Fits.{Fits, HistoryFits}
use Rattle.histories.specs.Fitting.{IsHereOnce}
use Rattle.squeue_replay.specs.Histories.{endings_of, stay_of, times_in}
use Rattle.histories.proofs.Counts.{fed_counts}
use Rattle.histories.proofs.ListPlaces.{some_at}
use Rattle.trace_replay.specs.Reasons.{AreOrdered, AreRight, IsOrdered}
use Rattle.trace_replay.proofs.Counted.{counted_at, IsCounted}
use Rattle.trace_replay.proofs.Endings.{all_start, due_by_stay, endings_are, full_at, full_count, full_ending, full_endings, full_is, full_marks, full_notes, full_setting, starts_at, starts_count}
use Rattle.trace_replay.proofs.Full.{full_alike, marks_of_full}
use Rattle.trace_replay.proofs.HomeFeeds.{HomeAt, few_home, stay_home}
use Rattle.trace_replay.proofs.InStays.{ended_there, in_ended, in_stay, is_stay, known_in, stay_there, stays_count}
use Rattle.trace_replay.proofs.Leaving.{GoesOn, leaves_late}
use Rattle.trace_replay.proofs.Notes.{Alike, pace_alike}
use Rattle.trace_replay.proofs.NotesIn.{firsts, marks_of}
use Rattle.trace_replay.proofs.RightFromFits.{full_notes_fit, legal_both, over_alike}
use Rattle.trace_replay.proofs.Rounds.{begun_at, way}
use Rattle.trace_replay.proofs.StaysAlike.{AllAlike, all_fixed, all_same, ended_same, none_same, own_same, some_same, stay_same}
use Rattle.trace_replay.proofs.Walk.{IsPart, finds, first_parts}

range_up : (a n : ℕ) → range_with_len a n ≡ up a n
range_up a zero = refl
range_up a (suc n) = let z : a + 1 ≡ suc a = omega arith in ap (λ (l : List ℕ). a ∷ l) (ap (λ (k : ℕ). range_with_len k n) z ∙ range_up (suc a) n)

some_or : (o : Option Stay) → (o ≡ None → ⊥) → (v : Stay) × (o ≡ Some v)
some_or None h = absurd (h refl)
some_or (Some v) h = (v, refl)

-- the stay that stands behind those that have ended goes on
now_of : (vs : List Stay) (o : Option Stay) (i : ℕ) (v : Stay) → slice_get (vs ++ as_list o) i ≡ Some v → slice_get vs i ≡ None → is_some o ≡ true
now_of [] None i v at none = absurd (let no : ⊥ = cc at in no)
now_of [] (Some u) i v at none = refl
now_of (w ∷ vs) o zero v at none = absurd (let no : ⊥ = cc none in no)
now_of (w ∷ vs) o (suc i) v at none = now_of vs o i v at none

-- what a stay had, by what was done before it and in it
chained : (before own mine note had : List Act) → own ≡ mine → note ≡ before → had ≡ note ++ mine → before ++ own ≡ had
chained before own mine note had a b c = (λ i. sym b i ++ a i) ∙ sym c

-- histories that have these marks, and fit
pub record FittingHistories (p : PlanOf) (calls : CallLists) (setup : Setup) (marks : List (List Mark)) (orders : List (List Act)) : Type 0 where
  pub histories : List Ending
  pub marks_are : marks ≡ map (λ e. map (λ m. m.mark) e.history) histories
  pub fits : Fits p calls setup histories orders

module _ (p : PlanOf) (calls : CallLists) (setup : Setup) (some : 0 < setup.squeues) (ringed : 0 < setup.rings) (marks : List (List Mark)) (count : length marks ≡ setup.squeues) where
  abbrev S : ℕ
  S = setup.squeues

  abbrev due_notes : ℕ → ℕ → List Act
  due_notes = due_by_stay p calls setup

  abbrev ks : List Ending
  ks = full_endings p calls setup due_notes marks

  -- the histories with full notes
  abbrev full : ℕ → ℕ → List Act
  full c t = joined ks c t

  abbrev hs : List Ending
  hs = full_endings p calls setup full marks

  ks_count : length ks ≡ S
  ks_count = full_count p calls setup due_notes marks ∙ count

  hs_count : length hs ≡ S
  hs_count = full_count p calls setup full marks ∙ count

  due_nothing : (c : ℕ) → due_notes c 0 ≡ []
  due_nothing c = let z : 0 * setup.spread ≡ 0 = omega arith in ap (λ (n : ℕ). map Did.Feed (range_with_len 0 n)) z

  fed_due : (c t : ℕ) → fed (due_notes c t) ≡ t * setup.spread
  fed_due c t = sym (fed_counts (due_notes c t)) ∙ numbers (t * setup.spread) 0
    where
      numbers : (n a : ℕ) → length (feed_numbers (map Did.Feed (range_with_len a n))) ≡ n
      numbers zero a = refl
      numbers (suc n) a = let h = numbers n (a + 1) in omega (arith, h)

  module _ (right : AreRight setup ks) where
    ring_count : (q : ℕ) (e : Ending) → slice_get ks q ≡ Some e → e.setting.rings ≡ setup.rings
    ring_count q e at = ap (λ (T : Setting). T.rings) (full_setting p calls setup due_notes marks q e at)

    own_counted : (c t : ℕ) (v : Stay) → stay ks c t ≡ Some v → IsCounted v
    own_counted c t v at = in_stay ks c (λ q v. IsCounted v) (λ q e is i v there. counted_at e.setting c e.history i v (right.legal q e is) there) t v at

    own_home : (c t : ℕ) (v : Stay) → stay ks c t ≡ Some v → HomeAt S setup.spread ((c + t) % S) c (feed_numbers v.own)
    own_home c t v at =
        subst (λ (n : ℕ). HomeAt S setup.spread ((c + t) % n) c (feed_numbers v.own)) ks_count
        (in_stay ks c (λ q v. HomeAt S setup.spread q c (feed_numbers v.own))
        (λ q e is i v there.
        let same = ring_count q e is in
        stay_home S setup.spread q setup.mode setup.budget e.setting (omega (arith, same, ringed)) e.history (right.legal q e is)
        (λ r lt. (right.fit q e is).pace r (omega (arith, lt, same))) c i v there) t v at)

    -- a stay that has ended has a feed of its number at home behind it
    ended_goes_on : (c t : ℕ) (u : Stay) → c < length p.tuples → ended_stay ks c t ≡ Some u → GoesOn S setup.spread t (length (items_in p c))
    ended_goes_on c t u lt at =
        leaves_late S setup.spread c t (length (items_in p c)) some
        (subst (λ (n : ℕ). t / n < times_leaving S setup.spread ((c + t) % n) c (length (items_in p c))) ks_count
        (in_ended ks c (λ q v. t / length ks < times_leaving S setup.spread q c (length (items_in p c))) t u
        (λ q e is there.
        let within = slice_get_within (stays e.setting e.history c).ended (t / length ks) u there in
        let ended = ended_count e.setting e.history c (right.legal q e is) in
        let same = length-map (stays e.setting e.history c).ended (λ (v : Stay). v.had) in
        let few = leaves_few e.setting e.history c (right.legal q e is) in
        let known = ap (λ (T : Setting). slice_index T.limits.leaves c) (full_setting p calls setup due_notes marks q e is) ∙ leaves_known p calls S setup.rings setup.spread q c lt in
        omega (arith, within, ended, same, few, known)) at))

    module _ (c : ℕ) (order : List Act) (lt : c < length p.tuples) (is : IsOrdered p calls ks c order) where
      abbrev items : ℕ
      items = length (items_in p c)

      abbrev part : ℕ → List ℕ
      part t = feed_numbers (own_of (stay ks c t))

      parts_joined : (n : ℕ) → first_parts part n ≡ feed_numbers (joined ks c n)
      parts_joined zero = refl
      parts_joined (suc n) = ap (λ (l : List ℕ). l ++ part n) (parts_joined n) ∙ sym (feed_numbers-append (joined ks c n) (own_of (stay ks c n)))

      is_part : 1 < S → 0 < setup.spread → (t : ℕ) → IsPart setup.spread t (part t)
      is_part several moves t = by (stay ks c t) refl
        where
          by : (o : Option Stay) → stay ks c t ≡ o → IsPart setup.spread t (feed_numbers (own_of o))
          by None at = record { count = 0; numbers = refl; few = omega arith }
          by (Some v) at =
              let noted : v.note ≡ due_notes c t = full_notes p calls setup due_notes some marks count c t v lt (due_nothing c) at in
              let from : fed v.note ≡ t * setup.spread = ap fed noted ∙ fed_due c t in
              let numbers : feed_numbers v.own ≡ up (t * setup.spread) (fed v.own) = own_counted c t v at ∙ ap (λ (k : ℕ). up k (fed v.own)) from in
              record {
                count = fed v.own;
                numbers = numbers;
                few = few_home S setup.spread c t (fed v.own) several moves (subst (HomeAt S setup.spread ((c + t) % S) c) numbers (own_home c t v at));
              }

      all_numbers : first_parts part is.all.count ++ [] ≡ up 0 items
      all_numbers =
          append-nil (first_parts part is.all.count)
          ∙ (parts_joined is.all.count
          ∙ (ap feed_numbers (sym is.all.are_joined)
          ∙ (sym (feeds_settle calls c is.did) ∙ (ap feed_numbers (sym is.settled) ∙ (is.whole.feeds ∙ range_up 0 items)))))

      -- then the next stay has begun, and those before it had all feeds before
      next_begins : (t : ℕ) (u : Stay) → ended_stay ks c t ≡ Some u → (t + 1 < is.all.count) × (fed (joined ks c (t + 1)) ≡ (t + 1) * setup.spread)
      next_begins t u at =
          let on = ended_goes_on c t u lt at in
          let long : length (first_parts part is.all.count) ≡ items = ap length (sym (append-nil (first_parts part is.all.count)) ∙ all_numbers) ∙ length-up 0 items in
          let next = on.next in
          let f = finds part setup.spread items t on.moves (is_part on.several on.moves) is.all.count [] all_numbers (omega (arith, long, next)) in
          (f.0, sym (fed_counts (joined ks c (t + 1))) ∙ (ap length (sym (parts_joined (t + 1))) ∙ f.1))

      -- what stands before a stay that isn't the first
      before : (t : ℕ) (v : Stay) → stay ks c (t + 1) ≡ Some v → (u : Stay) × (ended_stay ks c t ≡ Some u)
      before t v at = some_or (ended_stay ks c t) (λ none. is.left (record { before = t; now = v; begun = at; not_ended = none }))

      fed_joined : (t : ℕ) (v : Stay) → stay ks c t ≡ Some v → fed (joined ks c t) ≡ t * setup.spread
      fed_joined zero v at = omega arith
      fed_joined (suc t) v at =
          let z : suc t ≡ t + 1 = omega arith in
          let u = before t v (subst (λ (k : ℕ). stay ks c k ≡ Some v) z at) in
          subst (λ (k : ℕ). fed (joined ks c k) ≡ k * setup.spread) (sym z) (next_begins t u.0 u.1).1

    module _ (orders : List (List Act)) (ordered : AreOrdered p calls ks orders) where
      its_order : (c : ℕ) → c < length p.tuples → (order : List Act) × IsOrdered p calls ks c order
      its_order c lt = let o = some_at orders c (let n = ordered.count in omega (arith, lt, n)) in (o.0, ordered.each c o.0 o.1)

      in_fed : (q : ℕ) (ms : List Mark) → slice_get marks q ≡ Some ms → (c n : ℕ) → n < times_in c ms → fed (due_notes c (stay_of S q c n)) ≡ fed (full c (stay_of S q c n))
      in_fed q ms at c n lt =
          let g : ℕ → ℕ → List Act = λ c n. due_notes c (stay_of S q c n) in
          let e : Ending = full_ending p calls setup due_notes (q, ms) in
          let is = full_is p calls setup due_notes marks q ms at in
          let its : marks_of e.history ≡ ms = marks_of_full g [] ms in
          let here : n < times_in c (marks_of e.history) = subst (λ (l : List Mark). n < times_in c l) (sym its) lt in
          let size = starts_count p calls setup q in
          let known : c < length p.tuples = (let k = known_in e.setting e.history c n (right.legal q e is) here in omega (arith, k, size)) in
          let below : q < S = (let w = slice_get_within marks q ms at in omega (arith, w, count)) in
          let place = begun_at S some q c n below in
          let home : is_here (start e.setting) c ≡ (q == c % S) = starts_at p calls setup q c known in
          let many = stays_count e.setting e.history c in
          let first : length (firsts (is_here (start e.setting) c)) ≡ length (firsts (q == c % S)) = ap (λ (b : Bool). length (firsts b)) home in
          let v = some_at (all_in (stays e.setting e.history c)) (length (firsts (q == c % S)) + n) (omega (arith, many, first, here)) in
          let t : ℕ = stay_of S q c n in
          let there : stay ks c t ≡ Some v.0 =
          stay_there ks c t q (length (firsts (q == c % S)) + n) e v.0 is (ap (λ (m : ℕ). (c + t) % m) ks_count ∙ place.0) (ap (λ (m : ℕ). t / m) ks_count ∙ place.1) v.1 in
          let o = its_order c known in
          fed_due c t ∙ sym (fed_joined c o.0 known o.1 t v.0 there)

      alike : AllAlike ks hs
      alike = record {
        count = ks_count ∙ sym hs_count;
        each = λ q k h kat hat.
            let f = full_at p calls setup due_notes marks q k kat in
            let is : k ≡ full_ending p calls setup due_notes (q, f.0) = f.2 in
            let his = sym (full_is p calls setup full marks q f.0 f.1) ∙ hat in
            let other : full_ending p calls setup full (q, f.0) ≡ h = cc his in
            let both : Alike (full_ending p calls setup due_notes (q, f.0)).history (full_ending p calls setup full (q, f.0)).history =
            full_alike (λ c n. due_notes c (stay_of S q c n)) (λ c n. full c (stay_of S q c n)) [] f.0 (in_fed q f.0 f.1) in (
              ap (λ (e : Ending). e.setting) is ∙ ap (λ (e : Ending). e.setting) other,
              subst (λ (e : Ending). Alike e.history h.history) (sym is) (subst (λ (e : Ending). Alike (full_ending p calls setup due_notes (q, f.0)).history e.history) other both),
            );
      }

      its_k : (q : ℕ) (h : Ending) → slice_get hs q ≡ Some h → (k : Ending) × (slice_get ks q ≡ Some k)
      its_k q h at = let w = slice_get_within hs q h at in let n = alike.count in some_at ks q (omega (arith, w, n))

      legal : AreLegal hs
      legal q h at =
          let k = its_k q h at in
          let both = alike.each q k.0 h k.1 at in
          legal_both k.0 h both.0 both.1 (full_notes_fit p calls setup full marks q h at) (right.legal q k.0 k.1)

      history_fits : (q : ℕ) (h : Ending) → slice_get hs q ≡ Some h → HistoryFits p calls setup q h
      history_fits q h at =
          let k = its_k q h at in
          let both = alike.each q k.0 h k.1 at in
          let f = full_at p calls setup full marks q h at in
          record {
            number = ap (λ (e : Ending). e.number) f.2;
            setting = full_setting p calls setup full marks q h at;
            ended = record { legal = legal q h at; over = over_alike k.0 h both.0 both.1 (right.closed q k.0 k.1) };
            keeps = λ r lt.
                pace_alike S setup.spread setup.mode setup.budget q h.setting r k.0.history h.history both.1
                (subst (λ (T : Setting). KeepsPace S setup.spread setup.mode setup.budget q T r k.0.history) both.0 ((right.fit q k.0 k.1).pace r lt));
          }

      home : (c : ℕ) → c < length p.tuples → StartsAtHome hs c
      home c lt = all_start p calls setup hs hs_count (full_setting p calls setup full marks) c lt

      noted_full : (c t : ℕ) (v : Stay) → c < length p.tuples → stay hs c t ≡ Some v → v.note ≡ joined ks c t
      noted_full c t v lt at = full_notes p calls setup full some marks count c t v lt refl at

      is_sound : (c t : ℕ) (v : Stay) → stay hs c t ≡ Some v → IsSound v
      is_sound c t v at = in_stay hs c (λ q v. IsSound v) (λ q e is i v there. sound_at (all_in (stays e.setting e.history c)) i v (all_sound (fits e.setting c e.history (legal q e is))) there) t v at

      -- a stay came with what the one before it had
      came_with : (c s : ℕ) (v u : Stay) → c < length p.tuples → stay hs c (s + 1) ≡ Some v → stay hs c s ≡ Some u → v.note ≡ u.had
      came_with c s v u lt at there =
          let z : s + 1 ≡ suc s = omega arith in
          let own : own_of (stay ks c s) ≡ u.own = own_same (stay ks c s) (stay hs c s) (stay_same ks hs alike c s) ∙ ap own_of there in
          let next : joined ks c (s + 1) ≡ joined ks c s ++ own_of (stay ks c s) = ap (joined ks c) z in
          noted_full c (s + 1) v lt at ∙ (next ∙ chained (joined ks c s) (own_of (stay ks c s)) u.own u.note u.had own (noted_full c s u lt there) (is_sound c s u there))

      linked : (c : ℕ) → c < length p.tuples → IsLinked hs c
      linked c lt s v at =
          let o = its_order c lt in
          let began = some_same (stay hs c (s + 1)) (stay ks c (s + 1)) v (sym (stay_same ks hs alike c (s + 1))) at in
          let over = before c o.0 lt o.1 s began.0 began.1 in
          let last = some_same (ended_stay ks c s) (ended_stay hs c s) over.0 (ended_same ks hs alike c s) over.1 in
          (last.0, last.1, came_with c s v last.0 lt at (is_stay hs c s last.0 last.1))

      noted : (c : ℕ) → c < length p.tuples → AreNoted setup.spread hs c
      noted c lt s v at =
          let o = its_order c lt in
          let same = some_same (stay hs c s) (stay ks c s) v (sym (stay_same ks hs alike c s)) at in
          ap fed (noted_full c s v lt at) ∙ fed_joined c o.0 lt o.1 s same.0 same.1

      all_linked : AreLinked (length p.tuples) hs
      all_linked = record { legal = legal; home = home; linked = linked }

      -- where each connection is at the end
      module _ (c : ℕ) (order : List Act) (lt : c < length p.tuples) (is : IsOrdered p calls ks c order) where
        in_all : AreOfAllStays hs c is.did
        in_all = all_same ks hs alike c is.did is.all

        has_stay : (t : ℕ) → t < is.all.count → (v : Stay) × (stay hs c t ≡ Some v)
        has_stay t less = let v = is.all.each t less in let w = some_same (stay ks c t) (stay hs c t) v.0 (stay_same ks hs alike c t) v.1 in (w.0, w.1)

        no_stay : (t : ℕ) → is.all.count ≤ t → stay hs c t ≡ None
        no_stay t le = none_same (stay ks c t) (stay hs c t) (stay_same ks hs alike c t) (is.all.none_else t le)

        abbrev there_at : ℕ → ℕ
        there_at t = (c + t) % S

        at_squeue : (t : ℕ) → (e : Ending) × (slice_get hs (there_at t) ≡ Some e)
        at_squeue t = some_at hs (there_at t) (let m = mod_below (c + t) S some in let n = hs_count in omega (arith, m, n))

        -- there is a first stay
        first_stay : stay hs c 0 ≡ None → ⊥
        first_stay none =
            let e = at_squeue 0 in
            let z : c + 0 ≡ c = omega arith in
            let here : is_here (start e.0.setting) c ≡ true =
            home c lt (there_at 0) e.0 e.1 ∙ eq-eqb (there_at 0) (c % length hs) (ap (λ (k : ℕ). k % S) z ∙ ap (λ (n : ℕ). c % n) (sym hs_count)) in
            let many = stays_count e.0.setting e.0.history c in
            let one : length (firsts (is_here (start e.0.setting) c)) ≡ 1 = ap (λ (b : Bool). length (firsts b)) here in
            let v = some_at (all_in (stays e.0.setting e.0.history c)) 0 (omega (arith, many, one)) in
            let there = stay_there hs c 0 (there_at 0) 0 e.0 v.0 e.1 (ap (λ (n : ℕ). (c + 0) % n) hs_count) (zero-div (length hs)) v.1 in
            cc (there, none)

        some_stays : 0 < is.all.count
        some_stays = elim (cases_lt 0 is.all.count) [ inl lt ↦ lt | inr none ↦ absurd (first_stay (no_stay 0 none)) ]

        abbrev last : ℕ
        last = is.all.count - 1

        goes_on : ended_stay hs c last ≡ None
        goes_on = by (ended_stay hs c last) refl
          where
            by : (o : Option Stay) → ended_stay hs c last ≡ o → o ≡ None
            by None at = refl
            by (Some u) at =
                let over = some_same (ended_stay hs c last) (ended_stay ks c last) u (sym (ended_same ks hs alike c last)) at in
                let next = (next_begins c order lt is last over.0 over.1).0 in
                let many = some_stays in
                absurd (let no : ⊥ = omega (arith, next, many) in no)

        end : Ending
        end = (at_squeue last).0

        here_last : is_here (run (at_squeue last).0.setting (at_squeue last).0.history) c ≡ true
        here_last =
            let e = at_squeue last in
            let v = has_stay last (let many = some_stays in omega (arith, many)) in
            let f = fits e.0.setting c e.0.history (legal (there_at last) e.0 e.1) in
            let place : slice_get hs ((c + last) % length hs) ≡ Some e.0 = ap (λ (n : ℕ). slice_get hs ((c + last) % n)) hs_count ∙ e.1 in
            let all : slice_get (all_in (stays e.0.setting e.0.history c)) (last / length hs) ≡ Some v.0 =
            sym (ap (λ (o : Option Ending). slice_get (all_in (stays_in o c)) (last / length hs)) place) ∙ v.1 in
            let none : slice_get (stays e.0.setting e.0.history c).ended (last / length hs) ≡ None =
            sym (ap (λ (o : Option Ending). slice_get (stays_in o c).ended (last / length hs)) place) ∙ goes_on in
            f.is_now ∙ now_of (stays e.0.setting e.0.history c).ended (stays e.0.setting e.0.history c).now (last / length hs) v.0 all none

        nowhere_else : (q : ℕ) (e : Ending) → q ≢ there_at last → slice_get hs q ≡ Some e → is_here (run e.setting e.history) c ≡ false
        nowhere_else q e other at = by (is_here (run e.setting e.history) c) refl
          where
            by : (b : Bool) → is_here (run e.setting e.history) c ≡ b → b ≡ false
            by false here = refl
            by true here =
                let f = fits e.setting c e.history (legal q e at) in
                let v : Stays = stays e.setting e.history c in
                let now = some_of v.now (sym here ∙ f.is_now) in
                let below : q < S = (let w = slice_get_within hs q e at in let n = hs_count in omega (arith, w, n)) in
                let w = way S some q c below in
                let i : ℕ = length v.ended in
                let t : ℕ = i * S + w.off in
                let sum : c + t ≡ (w.rounds + i) * S + q = (let l = w.leads in omega (arith, l)) in
                let place : (c + t) % S ≡ q = ap (λ (m : ℕ). m % S) sum ∙ mod-mul-add (w.rounds + i) S q below in
                let number : t / S ≡ i = div-mul-add i S w.off w.below in
                let placed : (c + t) % length hs ≡ q = ap (λ (n : ℕ). (c + t) % n) hs_count ∙ place in
                let numbered : t / length hs ≡ i = ap (λ (n : ℕ). t / n) hs_count ∙ number in
                let began : stay hs c t ≡ Some now.0 = stay_there hs c t q i e now.0 at placed numbered (ap (λ (o : Option Stay). slice_get (v.ended ++ as_list o) i) now.1 ∙ next_one v.ended now.0) in
                let open_still : ended_stay hs c t ≡ None = ended_there hs c t q i e None at placed numbered (slice_get_past v.ended i (omega arith)) in
                let inside : t < is.all.count = elim (cases_lt t is.all.count) [
                  | inl less ↦ less
                  | inr more ↦ absurd (let none = no_stay t more in let no : ⊥ = cc (none, began) in no)
                ] in
                let at_end : is.all.count ≤ t + 1 = elim (cases_lt (t + 1) is.all.count) [
                  | inl less ↦ absurd (let next = has_stay (t + 1) less in let over = linked c lt t next.0 next.1 in let is_over = over.1 in let no : ⊥ = cc (is_over, open_still) in no)
                  | inr more ↦ more
                ] in
                let same : t ≡ last = omega (arith, inside, at_end) in
                absurd (other (sym place ∙ ap (λ (k : ℕ). (c + k) % S) same))

        here_once : (done : List Act) × IsHereOnce hs c done × (order ≡ settle calls c done)
        here_once =
            let e = at_squeue last in
            let did : List Act = acts e.0.setting e.0.history c in
            let same : is.did ≡ did = all_fixed hs c is.did did in_all (all_stays hs c (there_at last) e.0 legal (home c lt) (linked c lt) e.1 here_last) in (
              did,
              record { squeue = there_at last; end = e.0; is_end = e.1; here = here_last; acts_are = refl; nowhere_else = nowhere_else },
              is.settled ∙ ap (settle calls c) same,
            )

      pub all_fit : Fits p calls setup hs orders
      all_fit =
          record {
            count = hs_count;
            each = history_fits;
            linked = all_linked;
            noted = noted;
            settled = λ c order at. here_once c order (let w = slice_get_within orders c order at in let n = ordered.count in omega (arith, w, n)) (ordered.each c order at);
            whole = λ c order at. (ordered.each c order at).whole;
          }

pub fits_from_right : (p : PlanOf) (calls : CallLists) (setup : Setup) (marks : List (List Mark)) (orders : List (List Act)) → IsInRange setup → length marks ≡ setup.squeues
    → AreRight setup (endings_of p calls setup marks) → AreOrdered p calls (endings_of p calls setup marks) orders → FittingHistories p calls setup marks orders
fits_from_right p calls setup marks orders range count right ordered =
    let some : 0 < setup.squeues = (let s = range.squeues.0 in omega (arith, s)) in
    let ringed : 0 < setup.rings = (let s = range.rings.0 in omega (arith, s)) in
    let same = endings_are p calls setup marks in
    let r = subst (AreRight setup) same right in
    let o = subst (λ (es : List Ending). AreOrdered p calls es orders) same ordered in
    record {
      histories = full_endings p calls setup (λ c t. joined (full_endings p calls setup (due_by_stay p calls setup) marks) c t) marks;
      marks_are = sym (full_marks p calls setup (λ c t. joined (full_endings p calls setup (due_by_stay p calls setup) marks) c t) marks);
      fits = all_fit p calls setup some ringed marks count r orders o;
    }
