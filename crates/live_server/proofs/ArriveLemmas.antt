-- A segment that meets its connection: the time and the segment in one call, and what was noted before both.
use Rattle.std.proofs.Common.{◌≡◌, ℕ, ◌+◌, ◌<◌, ◌≤◌, Bool, true, false, cond, List, [], ◌∷◌, ◌++◌, length, Option, None, Some, Result, Ok, Err, OnErr, OnOk, refl, sym, ap, subst, ◌∙◌, true≢false, append_assoc, arith}
use Rattle.std.specs.Option.{option_map_or}
use Rattle.std_collections.proofs.HashLookup.{set_value_at_twice}
use Rattle.indexmap.specs.IndexMap.{set_value_at}
use Rattle.indexmap.proofs.MapLemmas.{absent_from_lookup, index-absent}
use Rattle.segment_codec.specs.Refusal.{tuple_of}
use Rattle.segment_codec.specs.declared.packet.Seg.{Seg}
use Rattle.sq_base.specs.declared.kinds.Tuple.{Tuple}
use Rattle.live_server.specs.Acts.{Meeting, emptied, is_over, judged, meets, reached, receives, sent_by}
use Rattle.live_server.specs.Counting.{counting_judged}
use Rattle.live_server.specs.Initial.{number_for}
use Rattle.live_server.specs.Isolation.{KeepsRest, LosesOne}
use Rattle.live_server.specs.Serving.{Outcome, ServerOf, arrives, becomes, comes, fits, gives_way, goes_on, has_place, heeds, holding, is_waiting, judging, measures_of, on_segment, opens, overfull, sends_nothing, served, time_to, without_text, yielding, yields, yields_at}
use Rattle.live_server.specs.Table.{Conns, conn_at, place_of, reached_until, replaced, settled, tuple_eq, without, IsNew}
use Rattle.live_server.specs.Told.{Told, told_arriving, told_coming, told_its_own, told_opening, told_segment}
use Rattle.live_server.specs.Told.Told.{hears}
use Rattle.live_server.specs.Written.{HasSent}
use Rattle.live_server.specs.declared.acting.Datagram.{Datagram}
use Rattle.live_server.specs.declared.conn.Conn.{Conn}
use Rattle.live_server.specs.declared.conn.Judged.{Judged}
use Rattle.live_server.specs.declared.conn.Judged.TheVariants.{Late}
use Rattle.live_server.specs.declared.conn.Met.{Met}
use Rattle.live_server.specs.declared.conn.Met.TheVariants.{Gone, Judged as judges}
use Rattle.live_server.specs.declared.counts.Counts.{Counts}
use Rattle.live_server.proofs.LossLemmas.{lost_one}
use Rattle.live_server.proofs.MeetLemmas.{emptied_over, meets_by}
use Rattle.live_server.proofs.TableLemmas.{conn_written, place_written, within_at}
use Rattle.live_server.proofs.WrittenLemmas.{all_sent, sent_behind, sent_of_front}

pub map_ok : {X E : Type 0} (r : Result X E) (P Q : Type 0) → (P → Q) → OnOk r P → OnOk r Q
map_ok (Ok x) P Q f h = f h
map_ok (Err e) P Q f h = tt

pub on_ok : {X E : Type 0} (r : Result X E) (P : Type 0) → P → OnOk r P
on_ok (Ok x) P p = p
on_ok (Err e) P p = tt

-- what is noted for good wasn't noted before, where it isn't now
pub not_yet : (was is : Bool) → (was ≡ true → is ≡ true) → is ≡ false → was ≡ false
not_yet false is on still = refl
not_yet true is on still = absurd (true≢false (sym (on refl) ∙ still))

-- who is new has no place
pub no_place : (t : Tuple) (cs : Conns) → IsNew t cs → place_of t cs ≡ None
no_place t cs new = index-absent (tuple_eq t) cs (absent_from_lookup (tuple_eq t) cs new)

abbrev is_judged : Met → Bool
is_judged Gone = false
is_judged (judges j) = true

abbrev judged_in : Met → Judged
judged_in Gone = Late
judged_in (judges j) = j

-- ---- who has a place
module _ (now : ℕ) (t : Tuple) (sv : ServerOf) where
  timed_by : (r : Option ℕ) → place_of t sv.conns ≡ r → time_to now t sv ≡ option_map_or (λ i. becomes i t (reached now (conn_at i sv.conns)) sv) r (sends_nothing sv)
  unfolding time_to
  timed_by r at = ap (λ o. option_map_or (λ i. becomes i t (reached now (conn_at i sv.conns)) sv) o (sends_nothing sv)) at

module _ (now : ℕ) (s : Seg) (text : List ℕ) (sv : ServerOf) where
  came_by : (r : Option ℕ) → place_of (tuple_of s) sv.conns ≡ r → comes now s text sv ≡ option_map_or (λ i. goes_on now s text i sv) r (opens now s text sv)
  unfolding comes
  came_by r at = ap (λ o. option_map_or (λ i. goes_on now s text i sv) o (opens now s text sv)) at

  told_came_by : (r : Option ℕ) → place_of (tuple_of s) sv.conns ≡ r → told_coming now s text sv ≡ option_map_or (λ (i : ℕ). []) r (told_opening now s text sv)
  unfolding told_coming
  told_came_by r at = ap (λ o. option_map_or (λ (i : ℕ). []) o (told_opening now s text sv)) at

  -- nobody has these ends
  module _ (none : place_of (tuple_of s) sv.conns ≡ None) where
    pub opens_server : (opens now s text sv).server ≡ (arrives now s text sv).server
    unfolding arrives
    opens_server = sym (ap (λ (o : Outcome). (comes now s text o.server).server) (timed_by now (tuple_of s) sv None none) ∙ ap (λ (o : Outcome). o.server) (came_by None none))

    pub opens_sent : (opens now s text sv).sent ≡ (arrives now s text sv).sent
    unfolding arrives
    opens_sent = sym (ap (λ (o : Outcome). o.sent ++ (comes now s text o.server).sent) (timed_by now (tuple_of s) sv None none) ∙ ap (λ (o : Outcome). o.sent) (came_by None none))

    pub opens_told : told_opening now s text sv ≡ told_arriving now s text sv
    unfolding told_arriving
    opens_told =
        sym ((λ j. option_map_or (λ (i : ℕ). hears (tuple_of s) ∷ []) (none j) [] ++ told_coming now s text (timed_by now (tuple_of s) sv None none j).server)
        ∙ told_came_by None none)

-- ---- the connection at a place meets it
module _ (now : ℕ) (s : Seg) (text : List ℕ) (sv : ServerOf) (i : ℕ) (at : place_of (tuple_of s) sv.conns ≡ Some i) where
  abbrev t : Tuple
  t = tuple_of s

  abbrev c : Conn
  c = conn_at i sv.conns

  abbrev r : Conn
  r = reached now c

  abbrev d : Conn
  d = receives now (number_for sv.secret now s) s text (emptied r)

  abbrev m : Meeting
  m = meets now (number_for sv.secret now s) s text t c

  abbrev nobody : Meeting
  nobody = record { conn = r; sent = sent_by t r; met = Gone }

  abbrev somebody : Meeting
  somebody = record { conn = d; sent = sent_by t r ++ sent_by t d; met = judges (judged now s text (emptied r)) }

  met_by : (b : Bool) → is_over r ≡ b → m ≡ cond b nobody somebody
  met_by b e = meets_by now (number_for sv.secret now s) s text t c b (emptied_over r ∙ e)

  lt : i < length sv.conns
  lt = within_at t sv.conns i at

  -- the table behind the time
  abbrev timed : ServerOf
  timed = record sv { conns = replaced i r sv.conns }

  time_server : (time_to now t sv).server ≡ timed
  unfolding becomes
  time_server = ap (λ (o : Outcome). o.server) (timed_by now t sv (Some i) at)

  time_sent : (time_to now t sv).sent ≡ sent_by t r
  unfolding becomes
  time_sent = ap (λ (o : Outcome). o.sent) (timed_by now t sv (Some i) at)

  arrives_server : (arrives now s text sv).server ≡ (comes now s text timed).server
  unfolding arrives
  arrives_server = ap (λ (x : ServerOf). (comes now s text x).server) time_server

  arrives_sent : (arrives now s text sv).sent ≡ sent_by t r ++ (comes now s text timed).sent
  unfolding arrives
  arrives_sent = λ j. time_sent j ++ (comes now s text (time_server j)).sent

  arrives_told : told_arriving now s text sv ≡ hears t ∷ told_coming now s text timed
  unfolding told_arriving
  arrives_told = λ j. option_map_or (λ (x : ℕ). hears t ∷ []) (at j) [] ++ told_coming now s text (time_server j)

  -- where it goes on
  module _ (whole : is_over r ≡ false) where
    abbrev here : Conns
    here = set_value_at sv.conns i (emptied r)

    written : (x : Conn) (cs : Conns) → i < length cs → is_over x ≡ false → replaced i x cs ≡ set_value_at cs i (emptied x)
    unfolding replaced settled
    written x cs within not_over =
        ap (λ (b : Bool). cond b (without i (set_value_at cs i (emptied x))) (set_value_at cs i (emptied x)))
        (ap is_over (conn_written cs i (emptied x) within) ∙ emptied_over x ∙ not_over)

    there : timed ≡ record sv { conns = here }
    there = ap (λ (cs : Conns). record sv { conns = cs }) (written r sv.conns lt whole)

    again : place_of t here ≡ Some i
    again = place_written t sv.conns i (emptied r) ∙ at

    goes : comes now s text timed ≡ goes_on now s text i (record sv { conns = here })
    goes = ap (comes now s text) there ∙ came_by now s text (record sv { conns = here }) (Some i) again

    replaced_twice : (x : Conn) → replaced i x here ≡ replaced i x sv.conns
    unfolding replaced
    replaced_twice x = ap (settled i) (set_value_at_twice sv.conns i (emptied r) (emptied x))

    abbrev went : Conn → Outcome
    went x = becomes i t (served now s text (record sv { conns = here }) x) (judging (judged now s text x) (record sv { conns = here }))

    goes_is : goes_on now s text i (record sv { conns = here }) ≡ went (emptied r)
    unfolding goes_on
    goes_is = ap went (conn_written sv.conns i (emptied r) lt)

    went_server : (went (emptied r)).server ≡ record (judging (judged now s text (emptied r)) sv) { conns = replaced i d sv.conns }
    unfolding becomes
    went_server = ap (λ (cs : Conns). record (judging (judged now s text (emptied r)) sv) { conns = cs }) (replaced_twice d)

    went_sent : (went (emptied r)).sent ≡ sent_by t d
    unfolding becomes
    went_sent = refl

    went_on : (new : Conns) (k : Counts) (j : Judged) → new ≡ replaced i m.conn sv.conns → judges j ≡ m.met → k ≡ counting_judged j sv.counts → record sv { conns = new; counts = k } ≡ (arrives now s text sv).server
    went_on new k j table met count =
        let is : j ≡ judged now s text (emptied r) = ap judged_in (met ∙ ap (λ (x : Meeting). x.met) (met_by false whole)) in
        let kept : new ≡ replaced i d sv.conns = table ∙ ap (λ (x : Meeting). replaced i x.conn sv.conns) (met_by false whole) in
        (λ jj. record sv { conns = kept jj; counts = (count ∙ ap (λ (y : Judged). counting_judged y sv.counts) is) jj })
        ∙ sym (arrives_server ∙ ap (λ (o : Outcome). o.server) (goes ∙ goes_is) ∙ went_server)

    told_on : m.sent ≡ (arrives now s text sv).sent
    told_on = ap (λ (x : Meeting). x.sent) (met_by false whole) ∙ sym (arrives_sent ∙ ap (λ (o : Outcome). sent_by t r ++ o.sent) (goes ∙ goes_is) ∙ ap (λ l. sent_by t r ++ l) went_sent)

    heard_on : hears t ∷ [] ≡ told_arriving now s text sv
    heard_on = sym (arrives_told ∙ ap (λ ws. hears t ∷ ws) (ap (told_coming now s text) there ∙ told_came_by now s text (record sv { conns = here }) (Some i) again))

  is_whole : (j : Judged) → judges j ≡ m.met → (b : Bool) → is_over r ≡ b → is_over r ≡ false
  is_whole j met false e = e
  is_whole j met true e = absurd (true≢false (ap is_judged (met ∙ ap (λ (x : Meeting). x.met) (met_by true e))))

  over_then : Gone ≡ m.met → (b : Bool) → is_over r ≡ b → is_over r ≡ true
  over_then met true e = e
  over_then met false e = absurd (true≢false (sym (ap is_judged (met ∙ ap (λ (x : Meeting). x.met) (met_by false e)))))

  pub judged_server : (new : Conns) (k : Counts) (j : Judged) → new ≡ replaced i m.conn sv.conns → judges j ≡ m.met → k ≡ counting_judged j sv.counts → record sv { conns = new; counts = k } ≡ (arrives now s text sv).server
  judged_server new k j table met count = went_on (is_whole j met (is_over r) refl) new k j table met count

  pub judged_sent : (j : Judged) → judges j ≡ m.met → (start told : List Datagram) → told ≡ start ++ m.sent → told ≡ start ++ (arrives now s text sv).sent
  judged_sent j met start told is = is ∙ ap (λ l. start ++ l) (told_on (is_whole j met (is_over r) refl))

  pub judged_told : (j : Judged) → judges j ≡ m.met → hears t ∷ [] ≡ told_arriving now s text sv
  judged_told j met = heard_on (is_whole j met (is_over r) refl)

  -- memory was missing as it met it
  pub met_partly : (start told : List Datagram) → HasSent start told m.sent → HasSent start told (arrives now s text sv).sent
  met_partly start told h = by (is_over r) refl
    where
      by : (b : Bool) → is_over r ≡ b → HasSent start told (arrives now s text sv).sent
      by true e =
          sent_of_front start told _ (sent_by t r) (comes now s text timed).sent arrives_sent
          (subst (HasSent start told) (ap (λ (x : Meeting). x.sent) (met_by true e)) h)
      by false e = subst (HasSent start told) (told_on e) h

  -- where the time ended it, the segment opens a new one
  module _ (met : Gone ≡ m.met) (after : ServerOf) (table : after ≡ record sv { conns = replaced i m.conn sv.conns }) where
    ended : m ≡ nobody
    ended = met_by true (over_then met (is_over r) refl)

    pub gone_in_time : after ≡ (time_to now t sv).server
    gone_in_time = table ∙ ap (λ (x : Meeting). record sv { conns = replaced i x.conn sv.conns }) ended ∙ sym time_server

    module _ (new : IsNew t after.conns) where
      opens_there : opens now s text after ≡ comes now s text timed
      opens_there =
          sym (came_by now s text after None (no_place t after.conns new))
          ∙ ap (comes now s text) (gone_in_time ∙ time_server)

      pub gone_server : (opens now s text after).server ≡ (arrives now s text sv).server
      gone_server = ap (λ (o : Outcome). o.server) opens_there ∙ sym arrives_server

      pub gone_told : hears t ∷ told_opening now s text after ≡ told_arriving now s text sv
      gone_told =
          ap (λ ws. hears t ∷ ws) (sym (told_came_by now s text after None (no_place t after.conns new)) ∙ ap (told_coming now s text) (gone_in_time ∙ time_server))
          ∙ sym arrives_told

      pub gone_sent : (start mid told : List Datagram) → mid ≡ start ++ m.sent → told ≡ mid ++ (opens now s text after).sent → told ≡ start ++ (arrives now s text sv).sent
      gone_sent start mid told first last =
          last ∙ (λ j. (first ∙ ap (λ (x : Meeting). start ++ x.sent) ended) j ++ (opens_there j).sent)
          ∙ append_assoc start (sent_by t r) (comes now s text timed).sent
          ∙ ap (λ l. start ++ l) (sym arrives_sent)

      pub gone_partly : (start mid told : List Datagram) → mid ≡ start ++ m.sent → HasSent mid told (opens now s text after).sent → HasSent start told (arrives now s text sv).sent
      gone_partly start mid told first h =
          sent_behind start mid told _ (sent_by t r) (comes now s text timed).sent arrives_sent
          (all_sent start mid _ (first ∙ ap (λ (x : Meeting). start ++ x.sent) ended)) (subst (λ (o : Outcome). HasSent mid told o.sent) opens_there h)

-- ---- what is noted before the time
module _ (now : ℕ) (t : Tuple) (text : List ℕ) (sv : ServerOf) where
  abbrev then_held : Outcome → Outcome
  then_held o = record { server = holding text o.server; sent = o.sent }

  abbrev then_full : Outcome → Outcome
  then_full o = record { server = overfull o.server; sent = o.sent }

  held_in_time : (r : Option ℕ) → place_of t sv.conns ≡ r → time_to now t (holding text sv) ≡ then_held (time_to now t sv)
  unfolding becomes
  held_in_time None at = timed_by now t (holding text sv) None at ∙ sym (ap then_held (timed_by now t sv None at))
  held_in_time (Some i) at = timed_by now t (holding text sv) (Some i) at ∙ sym (ap then_held (timed_by now t sv (Some i) at))

  full_in_time : (r : Option ℕ) → place_of t sv.conns ≡ r → time_to now t (overfull sv) ≡ then_full (time_to now t sv)
  unfolding becomes
  full_in_time None at = timed_by now t (overfull sv) None at ∙ sym (ap then_full (timed_by now t sv None at))
  full_in_time (Some i) at = timed_by now t (overfull sv) (Some i) at ∙ sym (ap then_full (timed_by now t sv (Some i) at))

  fits_in_time : (r : Option ℕ) → place_of t sv.conns ≡ r → fits text (time_to now t sv).server ≡ fits text sv
  unfolding becomes fits
  fits_in_time None at = ap (λ (o : Outcome). fits text o.server) (timed_by now t sv None at)
  fits_in_time (Some i) at = ap (λ (o : Outcome). fits text o.server) (timed_by now t sv (Some i) at)

module _ (now : ℕ) (s : Seg) (text : List ℕ) (sv before : ServerOf) where
  abbrev first : Outcome
  first = time_to now (tuple_of s) sv

  abbrev heeding : Bool → Outcome
  heeding b = comes now (cond b s (without_text s)) (cond b text []) (cond b (holding text first.server) (overfull first.server))

  heeds_by : (b : Bool) → fits text sv ≡ b → heeds now s text first.server ≡ heeding b
  unfolding heeds
  heeds_by b e = ap heeding (fits_in_time now (tuple_of s) text sv (place_of (tuple_of s) sv.conns) refl ∙ e)

  segment_server_by : (b : Bool) → fits text sv ≡ b → (on_segment now s text sv).server ≡ (heeding b).server
  unfolding on_segment
  segment_server_by b e = ap (λ (o : Outcome). o.server) (heeds_by b e)

  segment_sent_by : (b : Bool) → fits text sv ≡ b → (on_segment now s text sv).sent ≡ first.sent ++ (heeding b).sent
  unfolding on_segment
  segment_sent_by b e = ap (λ (o : Outcome). first.sent ++ o.sent) (heeds_by b e)

  pub held_server : fits text sv ≡ true → before ≡ holding text sv → (arrives now s text before).server ≡ (on_segment now s text sv).server
  unfolding arrives
  held_server e is =
      ap (λ (x : ServerOf). (comes now s text (time_to now (tuple_of s) x).server).server) is
      ∙ ap (λ (o : Outcome). (comes now s text o.server).server) (held_in_time now (tuple_of s) text sv (place_of (tuple_of s) sv.conns) refl)
      ∙ sym (segment_server_by true e)

  pub held_sent : fits text sv ≡ true → before ≡ holding text sv → (arrives now s text before).sent ≡ (on_segment now s text sv).sent
  unfolding arrives
  held_sent e is =
      ap (λ (x : ServerOf). (time_to now (tuple_of s) x).sent ++ (comes now s text (time_to now (tuple_of s) x).server).sent) is
      ∙ ap (λ (o : Outcome). o.sent ++ (comes now s text o.server).sent) (held_in_time now (tuple_of s) text sv (place_of (tuple_of s) sv.conns) refl)
      ∙ sym (segment_sent_by true e)

  pub full_server : fits text sv ≡ false → before ≡ overfull sv → (arrives now (without_text s) [] before).server ≡ (on_segment now s text sv).server
  unfolding arrives
  full_server e is =
      ap (λ (x : ServerOf). (comes now (without_text s) [] (time_to now (tuple_of s) x).server).server) is
      ∙ ap (λ (o : Outcome). (comes now (without_text s) [] o.server).server) (full_in_time now (tuple_of s) text sv (place_of (tuple_of s) sv.conns) refl)
      ∙ sym (segment_server_by false e)

  pub full_sent : fits text sv ≡ false → before ≡ overfull sv → (arrives now (without_text s) [] before).sent ≡ (on_segment now s text sv).sent
  unfolding arrives
  full_sent e is =
      ap (λ (x : ServerOf). (time_to now (tuple_of s) x).sent ++ (comes now (without_text s) [] (time_to now (tuple_of s) x).server).sent) is
      ∙ ap (λ (o : Outcome). o.sent ++ (comes now (without_text s) [] o.server).sent) (full_in_time now (tuple_of s) text sv (place_of (tuple_of s) sv.conns) refl)
      ∙ sym (segment_sent_by false e)

  abbrev told_heeding : Bool → List Told
  told_heeding b = told_coming now (cond b s (without_text s)) (cond b text []) (cond b (holding text first.server) (overfull first.server))

  segment_told_by : (b : Bool) → fits text sv ≡ b → told_segment now s text sv ≡ told_its_own (tuple_of s) sv ++ told_heeding b
  unfolding told_segment
  segment_told_by b e = ap (λ v. told_its_own (tuple_of s) sv ++ told_heeding v) (fits_in_time now (tuple_of s) text sv (place_of (tuple_of s) sv.conns) refl ∙ e)

  pub held_told : fits text sv ≡ true → before ≡ holding text sv → told_arriving now s text before ≡ told_segment now s text sv
  unfolding told_arriving
  held_told e is =
      ap (λ (x : ServerOf). told_its_own (tuple_of s) x ++ told_coming now s text (time_to now (tuple_of s) x).server) is
      ∙ ap (λ (o : Outcome). told_its_own (tuple_of s) sv ++ told_coming now s text o.server)
      (held_in_time now (tuple_of s) text sv (place_of (tuple_of s) sv.conns) refl)
      ∙ sym (segment_told_by true e)

  pub full_told : fits text sv ≡ false → before ≡ overfull sv → told_arriving now (without_text s) [] before ≡ told_segment now s text sv
  unfolding told_arriving
  full_told e is =
      ap (λ (x : ServerOf). told_its_own (tuple_of s) x ++ told_coming now (without_text s) [] (time_to now (tuple_of s) x).server) is
      ∙ ap (λ (o : Outcome). told_its_own (tuple_of s) sv ++ told_coming now (without_text s) [] o.server)
      (full_in_time now (tuple_of s) text sv (place_of (tuple_of s) sv.conns) refl)
      ∙ sym (segment_told_by false e)

-- ---- what stays where memory was missing
rest_on : (n more most : ℕ) (before mid after : ServerOf) → n + more ≤ most → KeepsRest n before mid → KeepsRest more mid after → KeepsRest most before after
rest_on n more most before mid after sum one other = (
  other.0 ∙ ap (λ (v : ServerOf). record v {
    conns = after.conns;
    waiting = after.waiting;
    held = after.held;
    counts = record v.counts {
      refused = after.counts.refused;
      gave_way = after.counts.gave_way;
      over_full = after.counts.over_full;
      urgent = after.counts.urgent;
    };
  }) one.0,
  omega (arith, one.1, other.1),
  omega (arith, sum, one.2, other.2),
)

-- the first step can't fail
pub rest_behind : {X E : Type 0} (r : Result X E) (n more most : ℕ) (before mid after : ServerOf) → n + more ≤ most → KeepsRest n before mid → OnErr r (KeepsRest more mid after) → OnErr r (KeepsRest most before after)
rest_behind (Ok v) n more most before mid after sum one other = tt
rest_behind (Err e) n more most before mid after sum one other = rest_on n more most before mid after sum one other

pub all_rest : (sv : ServerOf) (k : ℕ) → KeepsRest k sv sv
all_rest sv k = (refl, omega arith, omega arith)

pub same_rest : {X E : Type 0} (r : Result X E) (k : ℕ) (sv after : ServerOf) → OnErr r (after ≡ sv) → OnErr r (KeepsRest k sv after)
same_rest (Ok v) k sv after is = tt
same_rest (Err e) k sv after is = subst (KeepsRest k sv) (sym is) (all_rest sv k)

left_rest : (i : ℕ) (sv : ServerOf) (b : Bool) → KeepsRest 0 sv (cond b (gives_way i sv) sv)
left_rest i sv true = (refl, omega arith, omega arith)
left_rest i sv false = all_rest sv 0

yield_rest : (w : Tuple × ℕ) (sv : ServerOf) (r : Option ℕ) → KeepsRest 0 sv (option_map_or (λ i. yields_at w.1 i sv) r sv)
unfolding yields_at
yield_rest w sv None = all_rest sv 0
yield_rest w sv (Some i) = left_rest i sv (is_waiting w.1 (conn_at i sv.conns))

chosen_rest : (sv : ServerOf) (b : Bool) (x : ServerOf) → KeepsRest 0 sv x → KeepsRest 0 sv (cond b sv x)
chosen_rest sv true x h = all_rest sv 0
chosen_rest sv false x h = h

pub yielding_rest : (ts : List (Tuple × ℕ)) (sv : ServerOf) → KeepsRest 0 sv (yielding ts sv)
unfolding yields
yielding_rest [] sv = all_rest sv 0
yielding_rest (w ∷ ws) sv =
    let here : ServerOf = record sv { waiting = ws } in
    let next : ServerOf = yields w here in
    let first : KeepsRest 0 sv here = (refl, omega arith, omega arith) in
    let one : KeepsRest 0 sv next = rest_on 0 0 0 sv here next (omega arith) first (yield_rest w here (place_of w.0 sv.conns)) in
    chosen_rest sv (has_place sv) (yielding ws next) (rest_on 0 0 0 sv next (yielding ws next) (omega arith) one (yielding_rest ws next))

-- ---- want of memory at a tick, in a map
pub loses_one : {X E : Type 0} (r : Result X E) (now : ℕ) (sv after : ServerOf)
    → OnErr r ((i : ℕ) × (i < length sv.conns) × (after.conns ≡ without i (reached_until (measures_of sv) now i sv.conns)))
    → OnErr r (after ≡ record sv { conns = after.conns }) → OnErr r (LosesOne now sv after)
loses_one (Ok x) now sv after lost rest = tt
loses_one (Err e) now sv after lost rest = subst (LosesOne now sv) (sym rest) (lost_one now sv sv refl lost.0 lost.1 after.conns lost.2)
