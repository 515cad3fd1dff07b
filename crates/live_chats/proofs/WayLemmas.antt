-- What the table does with a segment, as steps.
use Rattle.std.proofs.Common.{◌≡◌, ℕ, ◌<◌, Bool, true, false, cond, nat_lt, List, [], ◌∷◌, ◌++◌, length, Option, None, Some, bytes_eq, codes, refl, sym, ap, arith, not, ◌&&◌}
use Rattle.std.specs.Map.{lookup}
use Rattle.std.specs.Option.{option_map_or}
use Rattle.std.proofs.lemmas.Bool.{and_parts}
use Rattle.std.proofs.lemmas.Bool.Decides.{nat_tests}
use Rattle.std.proofs.lemmas.List.{length-append}
use Rattle.segment_codec.specs.Packet.{packet_in}
use Rattle.segment_codec.specs.Refusal.{tuple_of}
use Rattle.segment_codec.specs.SentIsRead.{text_in}
use Rattle.segment_codec.specs.declared.packet.Packet.{Packet}
use Rattle.segment_codec.specs.declared.packet.Packet.TheVariants as packet
use Rattle.segment_codec.specs.declared.packet.Seg.{Seg}
use Rattle.sq_base.specs.declared.kinds.Link.TheVariants.{RawIp}
use Rattle.sq_base.specs.declared.kinds.Tuple.{Tuple}
use Rattle.udp_codec.specs.ReadAgain.{text_in as ordered_text}
use Rattle.udp_codec.specs.declared.datagram.Udp.{Udp}
use Rattle.icmp_codec.specs.EchoRequest.{PingOf, ping_in}
use Rattle.icmp_codec.specs.TooLong.{too_long_in}
use Rattle.icmp_codec.specs.declared.too_long.TooLong.{TooLong}
use Rattle.icmp_codec.specs.Unreachable.{unreachable_in}
use Rattle.icmp_codec.specs.declared.unreachable.Unreachable.{Unreachable}
use Rattle.live_server.specs.Unreached.{reported}
use Rattle.live_server.specs.Urgent.{as_reset, reset_text, urged, urgent_in, urges}
use Rattle.live_server.specs.declared.unreached.Reported.{Reported}
use Rattle.live_server.specs.declared.unreached.Reported.TheVariants.{HalfOpen, Open, Stray}
use Rattle.live_server.specs.Acts.{emptied, is_over, judged, reached, sent_by, closed, no_measures}
use Rattle.live_server.specs.Addresses.{is_for_us, is_to_us}
use Rattle.live_server.specs.Counting.{more}
use Rattle.live_server.specs.Initial.{number_for}
use Rattle.live_server.specs.Isolation.{conn_of, IsTable}
use Rattle.live_server.specs.PathMtu.{path_told, shortens, text_in_mtu}
use Rattle.live_server.specs.Services.{is_served_at}
use Rattle.live_server.specs.Serving.{Outcome, ServerOf, addressed, becomes, comes, counting_path, counting_urgent, echoes, fits, gives_way, goes_on, has_place, heeded, heeded_text, heeds, holding, is_echoed, is_waiting, judging, limited, makes_place, noting, numbered, on_datagram, on_other, on_packet, on_segment, on_too_long, opens as opening, overfull, passes_over, refused, sends_nothing, sends_of, served, shortens_at, takes_free, takes_place, tells_counts, time_to, turns_away, yielding, yields, yields_at, admits, obeys, caused, on_protocol, on_report, on_unreachable, refuses, unreached, unreached_at, on_urgent, urges_at, urges_own}
use Rattle.live_server.specs.Orders.{order_in}
use Rattle.live_server.specs.Table.{conn_at, place_of, tuple_eq, IsNew}
use Rattle.live_server.specs.declared.conn.Conn.{Conn}
use Rattle.live_server.specs.declared.conn.Met.{Met}
use Rattle.live_server.specs.declared.conn.Met.TheVariants.{Gone, Judged as judges}
use Rattle.live_server.proofs.TableLemmas.{distinct_appended, distinct_replaced, distinct_without, first_at, length_replaced, length_without, look_appended, look_replaced, look_without, new_from_place, new_without, within_at}
use Rattle.live_server.proofs.PlaceLemmas.{conn_looked}
use Rattle.live_chats.specs.Chats.{Item, Step, becoming, fresh, leaves, opens, path, path_said, said, segment, segment_said, sends, tells, time, time_said, urgent, urgent_said}
use Rattle.live_chats.specs.Ways.{way_addressed, way_urgent, way_urging, way_comes, way_datagram, way_goes_on, way_heeds, way_opens, way_other, way_packet, way_segment, way_takes, way_time_to, way_too_long, way_yielding, way_yields, way_admits, way_protocol, way_report, way_unreachable, way_unreached}
use Rattle.live_chats.proofs.RunLemmas.{IsRight, chosen_right, moved_right, nothing_right, quiet_right, sent_shows, then_right, told_shows}

-- ---- the connection at a place becomes another one
module _ (i : ℕ) (t : Tuple) (c : Conn) (sv : ServerOf) (at : place_of t sv.conns ≡ Some i) (table : IsTable sv) where
  becomes_right : (x : Item) → said sv.setting t x (conn_of t sv) ≡ becoming t c → IsRight sv (tells t x ∷ []) (becomes i t c sv)
  unfolding becomes
  becomes_right x is = record {
    shows = told_shows sv t x (becomes i t c sv) (becoming t c) is (look_replaced sv.conns i c (within_at t sv.conns i at) t (first_at t sv.conns i at) table.once) refl;
    setting = refl;
    table = record {
      once = distinct_replaced sv.conns i c (within_at t sv.conns i at) table.once;
      bounded = omega (arith, length_replaced sv.conns i c (within_at t sv.conns i at), table.bounded);
    };
  }

-- ---- the time comes to one
pub time_to_right : (now : ℕ) (t : Tuple) (sv : ServerOf) → IsTable sv → IsRight sv (way_time_to now t sv) (time_to now t sv)
unfolding time_to closed
time_to_right now t sv table = by (place_of t sv.conns) refl
  where
    by : (r : Option ℕ) → place_of t sv.conns ≡ r
        → IsRight sv (option_map_or (λ (place : ℕ). tells t (time no_measures now) ∷ []) r []) (option_map_or (λ (place : ℕ). becomes place t (reached now (conn_at place sv.conns)) sv) r (sends_nothing sv))
    by None at = nothing_right sv table
    by (Some i) at = becomes_right i t (reached now (conn_at i sv.conns)) sv at table (time no_measures now) (ap (λ (o : Option Conn). time_said t no_measures now o) (conn_looked t sv.conns i at))

-- ---- one that goes on
pub goes_on_right : (now : ℕ) (s : Seg) (text : List ℕ) (sv : ServerOf) (i : ℕ) → place_of (tuple_of s) sv.conns ≡ Some i → IsTable sv → IsRight sv (way_goes_on now s text sv) (goes_on now s text i sv)
unfolding goes_on
goes_on_right now s text sv i at table =
    let t = tuple_of s in
    let c = conn_at i sv.conns in
    let sv1 : ServerOf = judging (judged now s text c) sv in
    let table1 : IsTable sv1 = record { once = table.once; bounded = table.bounded } in
    moved_right sv1 sv refl refl (way_goes_on now s text sv) (becomes i t (served now s text sv c) sv1)
    (becomes_right i t (served now s text sv c) sv1 at table1 (segment now (number_for sv.secret now s) s text)
    (ap (λ (o : Option Conn). segment_said sv.setting t now (number_for sv.secret now s) s text o) (conn_looked t sv.conns i at)))

-- ---- half-open ones give way
pub gives_way_right : (t : Tuple) (sv : ServerOf) (i : ℕ) → place_of t sv.conns ≡ Some i → IsTable sv → IsRight sv (tells t leaves ∷ []) (sends_nothing (gives_way i sv))
gives_way_right t sv i at table =
    let lt = within_at t sv.conns i at in
    record {
      shows = told_shows sv t leaves (sends_nothing (gives_way i sv)) (record { conn = None; sent = [] }) refl (look_without sv.conns i t (first_at t sv.conns i at) lt table.once) refl;
      setting = refl;
      table = record {
        once = distinct_without sv.conns i lt table.once;
        bounded = omega (arith, length_without sv.conns i lt, table.bounded);
      };
    }

pub silent_right : (b : Bool) (sv : ServerOf) (ws vs : List Step) (x y : ServerOf) → IsRight sv ws (sends_nothing x) → IsRight sv vs (sends_nothing y) → IsRight sv (cond b ws vs) (sends_nothing (cond b x y))
silent_right true sv ws vs x y here there = here
silent_right false sv ws vs x y here there = there

pub yields_right : (w : Tuple × ℕ) (sv : ServerOf) → IsTable sv → IsRight sv (way_yields w sv) (sends_nothing (yields w sv))
unfolding yields yields_at
yields_right w sv table = by (place_of w.0 sv.conns) refl
  where
    by : (r : Option ℕ) → place_of w.0 sv.conns ≡ r
        → IsRight sv (option_map_or (λ (place : ℕ). cond (is_waiting w.1 (conn_at place sv.conns)) (tells w.0 leaves ∷ []) []) r [])
        (sends_nothing (option_map_or (λ (place : ℕ). cond (is_waiting w.1 (conn_at place sv.conns)) (gives_way place sv) sv) r sv))
    by None at = nothing_right sv table
    by (Some i) at = silent_right (is_waiting w.1 (conn_at i sv.conns)) sv (tells w.0 leaves ∷ []) [] (gives_way i sv) sv (gives_way_right w.0 sv i at table) (nothing_right sv table)

pub yielding_right : (ts : List (Tuple × ℕ)) (sv : ServerOf) → IsTable sv → IsRight sv (way_yielding ts sv) (sends_nothing (yielding ts sv))
yielding_right [] sv table = nothing_right sv table
yielding_right (t ∷ ts) sv table =
    let sv1 : ServerOf = record sv { waiting = ts } in
    let table1 : IsTable sv1 = record { once = table.once; bounded = table.bounded } in
    let next : ServerOf = yields t sv1 in
    let one = yields_right t sv1 table1 in
    silent_right (has_place sv) sv [] (way_yields t sv1 ++ way_yielding ts next) sv (yielding ts next) (nothing_right sv table)
    (moved_right sv1 sv refl refl (way_yields t sv1 ++ way_yielding ts next) (sends_nothing (yielding ts next))
    (then_right sv1 (way_yields t sv1) (way_yielding ts next) (sends_nothing next) (sends_nothing (yielding ts next)) one (yielding_right ts next one.table)))

-- what isn't there doesn't come by that
pub yields_new : (q : Tuple) (w : Tuple × ℕ) (sv : ServerOf) → IsNew q sv.conns → IsNew q (yields w sv).conns
unfolding yields yields_at
yields_new q w sv new = by (place_of w.0 sv.conns) refl
  where
    half : (b : Bool) (i : ℕ) → i < length sv.conns → IsNew q (cond b (gives_way i sv) sv).conns
    half true i lt = new_without q sv.conns i lt new
    half false i lt = new

    by : (r : Option ℕ) → place_of w.0 sv.conns ≡ r → IsNew q (option_map_or (λ (place : ℕ). cond (is_waiting w.1 (conn_at place sv.conns)) (gives_way place sv) sv) r sv).conns
    by None at = new
    by (Some i) at = half (is_waiting w.1 (conn_at i sv.conns)) i (within_at w.0 sv.conns i at)

pub chosen_new : (q : Tuple) (b : Bool) (x y : ServerOf) → IsNew q x.conns → IsNew q y.conns → IsNew q (cond b x y).conns
chosen_new q true x y here there = here
chosen_new q false x y here there = there

pub yielding_new : (q : Tuple) (ts : List (Tuple × ℕ)) (sv : ServerOf) → IsNew q sv.conns → IsNew q (yielding ts sv).conns
yielding_new q [] sv new = new
yielding_new q (t ∷ ts) sv new =
    let sv1 : ServerOf = record sv { waiting = ts } in
    chosen_new q (has_place sv) sv (yielding ts (yields t sv1)) new (yielding_new q ts (yields t sv1) (yields_new q t sv1 new))

-- ---- one that takes a place
pub takes_right : (t : Tuple) (c : Conn) (sv : ServerOf) → IsNew t sv.conns → IsTable sv → IsRight sv (way_takes t c sv) (takes_place t c sv)
unfolding takes_place has_place
takes_right t c sv new table = by (has_place sv) refl
  where
    by : (b : Bool) → has_place sv ≡ b → IsRight sv (cond b (tells t (opens (numbered sv c)) ∷ []) []) (cond b (takes_free t c sv) (turns_away t sv))
    by true e =
        let free : nat_lt (length sv.conns) sv.setting.places ≡ true = (and_parts _ _ e).0 in
        let room : length sv.conns < sv.setting.places = grind (arith, nat_tests) in
        record {
          shows = told_shows sv t (opens (numbered sv c)) (takes_free t c sv) (record { conn = Some (emptied (numbered sv c)); sent = sent_by t c }) refl (look_appended t (emptied (numbered sv c)) sv.conns new) refl;
          setting = refl;
          table = record {
            once = distinct_appended t (emptied (numbered sv c)) sv.conns new table.once;
            bounded = omega (arith, length-append sv.conns ((t, emptied (numbered sv c)) ∷ []), room);
          };
        }
    by false e = record { shows = refl; setting = refl; table = record { once = table.once; bounded = table.bounded } }

-- a reset goes out
pub refuses_right : (now : ℕ) (s : Seg) (sv : ServerOf) → IsTable sv → IsRight sv (sends (refused sv.setting.marking now s) ∷ []) (refuses now s sv)
refuses_right now s sv table =
    let refusing : ServerOf = (refuses now s sv).server in
    record { shows = sent_shows sv refusing (refused sv.setting.marking now s) refl; setting = refl; table = quiet_right sv refusing refl refl table }

module _ (now : ℕ) (s : Seg) (text : List ℕ) (sv : ServerOf) (table : IsTable sv) where
  abbrev pub new_one : Conn
  new_one = served now s text sv (fresh sv.setting now s)

  admits_right : IsNew (tuple_of s) sv.conns → IsRight sv (way_admits now s text sv) (admits now s text sv)
  unfolding way_admits admits
  admits_right new =
      let t = tuple_of s in
      let room : ServerOf = makes_place sv in
      let left = yielding_right sv.waiting sv table in
      chosen_right (is_over new_one) sv (sends (sent_by t new_one) ∷ []) (way_yielding sv.waiting sv ++ way_takes t new_one room) (sends_of t new_one sv) (takes_place t new_one room)
      (record { shows = sent_shows sv sv (sent_by t new_one) refl; setting = refl; table = table })
      (then_right sv (way_yielding sv.waiting sv) (way_takes t new_one room) (sends_nothing room) (takes_place t new_one room) left (takes_right t new_one room (yielding_new t sv.waiting sv new) left.table))

  pub opens_right : IsNew (tuple_of s) sv.conns → IsRight sv (way_opens now s text sv) (opening now s text sv)
  unfolding way_opens opening
  opens_right new =
      chosen_right sv.draining sv (sends (refused sv.setting.marking now s) ∷ []) (way_admits now s text sv) (refuses now s sv) (admits now s text sv)
      (refuses_right now s sv table) (admits_right new)

  pub comes_right : IsRight sv (way_comes now s text sv) (comes now s text sv)
  unfolding way_comes comes
  comes_right = by (place_of (tuple_of s) sv.conns) refl
    where
      by : (r : Option ℕ) → place_of (tuple_of s) sv.conns ≡ r
          → IsRight sv (option_map_or (λ (place : ℕ). way_goes_on now s text sv) r (way_opens now s text sv)) (option_map_or (λ (place : ℕ). goes_on now s text place sv) r (opening now s text sv))
      by None at = opens_right (new_from_place (tuple_of s) sv.conns at)
      by (Some i) at = goes_on_right now s text sv i at table

pub noted_same : (text : List ℕ) (sv : ServerOf) (b : Bool) → ((cond b (holding text sv) (overfull sv)).conns ≡ sv.conns) × ((cond b (holding text sv) (overfull sv)).setting ≡ sv.setting)
noted_same text sv true = (refl, refl)
noted_same text sv false = (refl, refl)

pub heeds_right : (now : ℕ) (s : Seg) (text : List ℕ) (sv : ServerOf) → IsTable sv → IsRight sv (way_heeds now s text sv) (heeds now s text sv)
unfolding way_heeds heeds
heeds_right now s text sv table =
    let noted : ServerOf = noting text sv in
    let same = noted_same text sv (fits text sv) in
    let s1 : Seg = heeded s text sv in
    let text1 : List ℕ = heeded_text text sv in
    moved_right noted sv same.0 same.1 (way_comes now s1 text1 noted) (comes now s1 text1 noted) (comes_right now s1 text1 noted (quiet_right sv noted same.0 same.1 table))

pub segment_right : (now : ℕ) (s : Seg) (text : List ℕ) (sv : ServerOf) → IsTable sv → IsRight sv (way_segment now s text sv) (on_segment now s text sv)
unfolding way_segment on_segment
segment_right now s text sv table =
    let t = tuple_of s in
    let first = time_to_right now t sv table in
    let here : ServerOf = (time_to now t sv).server in
    then_right sv (way_time_to now t sv) (way_heeds now s text here) (time_to now t sv) (heeds now s text here) first (heeds_right now s text here first.table)

-- ---- a datagram
pub quiet_counts : (sv new : ServerOf) → new.conns ≡ sv.conns → new.setting ≡ sv.setting → IsTable sv → IsRight sv [] (sends_nothing new)
quiet_counts sv new same places table = record { shows = λ j. record { chats = λ q. lookup (tuple_eq q) (sym same j); sent = [] }; setting = places; table = quiet_right sv new same places table }

-- where urgent data ends comes to the segment's own connection
module _ (now pointer : ℕ) (s : Seg) (sv : ServerOf) (i : ℕ) (at : place_of (tuple_of s) sv.conns ≡ Some i) (table : IsTable sv) where
  abbrev its_urgent : Item
  its_urgent = urgent now pointer s

  abbrev urged_conn : Conn
  urged_conn = urged now pointer s (conn_at i sv.conns)

  news_right : (m : Met) → IsRight sv (tells (tuple_of s) its_urgent ∷ []) (becomes i (tuple_of s) urged_conn (counting_urgent m sv))
  news_right Gone =
      becomes_right i (tuple_of s) urged_conn sv at table its_urgent (ap (λ (o : Option Conn). urgent_said (tuple_of s) now pointer s o) (conn_looked (tuple_of s) sv.conns i at))
  news_right (judges j) =
      let sv1 : ServerOf = counting_urgent (judges j) sv in
      moved_right sv1 sv refl refl (tells (tuple_of s) its_urgent ∷ []) (becomes i (tuple_of s) urged_conn sv1)
      (becomes_right i (tuple_of s) urged_conn sv1 at (record { once = table.once; bounded = table.bounded }) its_urgent
      (ap (λ (o : Option Conn). urgent_said (tuple_of s) now pointer s o) (conn_looked (tuple_of s) sv.conns i at)))

  urges_right : IsRight sv (tells (tuple_of s) its_urgent ∷ []) (urges_at now pointer s i sv)
  unfolding urges_at
  urges_right = news_right (urges now pointer s (tuple_of s) (conn_at i sv.conns)).met

urging_right : (now : ℕ) (pointer : Option ℕ) (s : Seg) (sv : ServerOf) → IsTable sv → IsRight sv (way_urging now pointer s sv) (urges_own now pointer s sv)
unfolding way_urging urges_own
urging_right now None s sv table = quiet_counts sv sv refl refl table
urging_right now (Some pointer) s sv table = by (place_of (tuple_of s) sv.conns) refl
  where
    by : (r : Option ℕ) → place_of (tuple_of s) sv.conns ≡ r
        → IsRight sv (option_map_or (λ (place : ℕ). tells (tuple_of s) (urgent now pointer s) ∷ []) r []) (option_map_or (λ (place : ℕ). urges_at now pointer s place sv) r (sends_nothing sv))
    by None at = quiet_counts sv sv refl refl table
    by (Some i) at = urges_right now pointer s sv i at table

pub urgent_right : (now : ℕ) (pointer : Option ℕ) (s : Seg) (text : List ℕ) (sv : ServerOf) → IsTable sv → IsRight sv (way_urgent now pointer s text sv) (on_urgent now pointer s text sv)
unfolding way_urgent on_urgent
urgent_right now pointer s text sv table =
    let first = urging_right now pointer s sv table in
    let here : ServerOf = (urges_own now pointer s sv).server in
    then_right sv (way_urging now pointer s sv) (way_segment now s text here) (urges_own now pointer s sv) (on_segment now s text here) first (segment_right now s text here first.table)

pub addressed_right : (now : ℕ) (pointer : Option ℕ) (s : Seg) (text : List ℕ) (sv : ServerOf) → IsTable sv → IsRight sv (way_addressed now pointer s text sv) (addressed now pointer s text sv)
unfolding way_addressed addressed
addressed_right now pointer s text sv table =
    let astray : ServerOf = record sv { counts = record sv.counts { astray = more 1 sv.counts.astray } } in
    let s1 : Seg = limited sv.setting.segment s in
    let elsewhere : Outcome = refuses now s sv in
    chosen_right (not (is_for_us sv.setting s)) sv [] (cond (is_served_at sv.setting.ports s.dst_port) (way_urgent now pointer s1 text sv) (sends (refused sv.setting.marking now s) ∷ []))
    (sends_nothing astray) (cond (is_served_at sv.setting.ports s.dst_port) (on_urgent now pointer s1 text sv) elsewhere)
    (quiet_counts sv astray refl refl table)
    (chosen_right (is_served_at sv.setting.ports s.dst_port) sv (way_urgent now pointer s1 text sv) (sends (refused sv.setting.marking now s) ∷ []) (on_urgent now pointer s1 text sv) elsewhere
    (urgent_right now pointer s1 text sv table)
    (refuses_right now s sv table))

-- what a router says comes to the connection at a place
module _ (x : TooLong) (sv : ServerOf) (i : ℕ) (at : place_of x.ends sv.conns ≡ Some i) (table : IsTable sv) where
  abbrev its_path : Item
  its_path = path x.seq (text_in_mtu x.mtu)

  abbrev its_conn : Conn
  its_conn = path_told x.seq (text_in_mtu x.mtu) (conn_at i sv.conns)

  counted_right : (m : Met) → IsRight sv (tells x.ends its_path ∷ []) (becomes i x.ends its_conn (counting_path m sv))
  counted_right Gone =
      let sv1 : ServerOf = counting_path Gone sv in
      moved_right sv1 sv refl refl (tells x.ends its_path ∷ []) (becomes i x.ends its_conn sv1)
      (becomes_right i x.ends its_conn sv1 at (record { once = table.once; bounded = table.bounded }) its_path
      (ap (λ (o : Option Conn). path_said x.ends x.seq (text_in_mtu x.mtu) o) (conn_looked x.ends sv.conns i at)))
  counted_right (judges j) =
      let sv1 : ServerOf = counting_path (judges j) sv in
      moved_right sv1 sv refl refl (tells x.ends its_path ∷ []) (becomes i x.ends its_conn sv1)
      (becomes_right i x.ends its_conn sv1 at (record { once = table.once; bounded = table.bounded }) its_path
      (ap (λ (o : Option Conn). path_said x.ends x.seq (text_in_mtu x.mtu) o) (conn_looked x.ends sv.conns i at)))

  shortens_right : IsRight sv (tells x.ends its_path ∷ []) (shortens_at x i sv)
  unfolding shortens_at
  shortens_right = counted_right (shortens x.seq (text_in_mtu x.mtu) x.ends (conn_at i sv.conns)).met

too_long_right : (x : TooLong) (sv : ServerOf) → IsTable sv → IsRight sv (way_too_long x sv) (on_too_long x sv)
unfolding way_too_long on_too_long
too_long_right x sv table =
    chosen_right (is_to_us sv.setting x.src x.dst) sv _ [] _ (passes_over sv) (by (place_of x.ends sv.conns) refl) (quiet_counts sv _ refl refl table)
  where
    by : (r : Option ℕ) → place_of x.ends sv.conns ≡ r
        → IsRight sv (option_map_or (λ (place : ℕ). tells x.ends (path x.seq (text_in_mtu x.mtu)) ∷ []) r []) (option_map_or (λ (place : ℕ). shortens_at x place sv) r (passes_over sv))
    by None at = quiet_counts sv _ refl refl table
    by (Some i) at = shortens_right x sv i at table

unreached_right : (x : Unreachable) (sv : ServerOf) (i : ℕ) → place_of x.ends sv.conns ≡ Some i → IsTable sv → (r : Reported)
    → IsRight sv (way_unreached r x.ends) (sends_nothing (unreached r x.cause i sv))
unreached_right x sv i at table Stray = quiet_counts sv (passes_over sv).server refl refl table
unreached_right x sv i at table Open = quiet_counts sv (caused x.cause sv) refl refl table
unreached_right x sv i at table HalfOpen =
    let left = gives_way_right x.ends sv i at table in
    let kept : IsTable (gives_way i sv) = left.table in
    record { shows = left.shows; setting = refl; table = record { once = kept.once; bounded = kept.bounded } }

unreachable_right : (x : Unreachable) (sv : ServerOf) → IsTable sv → IsRight sv (way_unreachable x sv) (sends_nothing (on_unreachable x sv))
unfolding way_unreachable on_unreachable unreached_at
unreachable_right x sv table = here (is_to_us sv.setting x.src x.dst) (place_of x.ends sv.conns) refl
  where
    ways_at : Option ℕ → List Step
    ways_at r = option_map_or (λ (place : ℕ). way_unreached (reported x.seq (conn_at place sv.conns)) x.ends) r []

    made_at : Option ℕ → ServerOf
    made_at r = option_map_or (λ (place : ℕ). unreached_at x place sv) r (passes_over sv).server

    here : (b : Bool) (r : Option ℕ) → place_of x.ends sv.conns ≡ r → IsRight sv (cond b (ways_at r) []) (sends_nothing (cond b (made_at r) (passes_over sv).server))
    here false r at = quiet_counts sv (passes_over sv).server refl refl table
    here true None at = quiet_counts sv (passes_over sv).server refl refl table
    here true (Some i) at = unreached_right x sv i at table (reported x.seq (conn_at i sv.conns))

other_right : (now : ℕ) (p : Option PingOf) (sv : ServerOf) → IsTable sv → IsRight sv (way_other now p sv) (on_other now p sv)
unfolding way_other on_other
other_right now None sv table = quiet_counts sv _ refl refl table
other_right now (Some p) sv table =
    let echoing : ServerOf = (echoes now p sv).server in
    chosen_right (is_echoed p sv) sv (sends (echoes now p sv).sent ∷ []) [] (echoes now p sv) (passes_over sv)
    (record { shows = sent_shows sv echoing (echoes now p sv).sent refl; setting = refl; table = quiet_right sv echoing refl refl table })
    (quiet_counts sv _ refl refl table)

sending_right : (sv : ServerOf) (o : Outcome) → o.server.conns ≡ sv.conns → o.server.setting ≡ sv.setting → IsTable sv → IsRight sv (sends o.sent ∷ []) o
sending_right sv o same places table = record { shows = sent_shows sv o.server o.sent same; setting = places; table = quiet_right sv o.server same places table }

obeyed_right : (now : ℕ) (u : Udp) (text : List ℕ) (sv : ServerOf) → IsTable sv → IsRight sv (sends (obeys now u text sv).sent ∷ []) (obeys now u text sv)
unfolding obeys
obeyed_right now u text sv table =
    by (bytes_eq text (codes "drain")) (bytes_eq text (codes "counts") && not sv.told)
  where
    drains : ServerOf
    drains = record sv { draining = true }

    ordered : Bool → Bool → Outcome
    ordered a b = cond a (sends_nothing drains) (cond b (tells_counts now u sv) (passes_over sv))

    by : (a b : Bool) → IsRight sv (sends (ordered a b).sent ∷ []) (ordered a b)
    by true b = sending_right sv (sends_nothing drains) refl refl table
    by false true = sending_right sv (tells_counts now u sv) refl refl table
    by false false = sending_right sv (passes_over sv) refl refl table

protocol_right : (now : ℕ) (body : List ℕ) (sv : ServerOf) → IsTable sv → IsRight sv (way_protocol now body sv) (on_protocol now body sv)
unfolding way_protocol on_protocol
protocol_right now body sv table = by (order_in sv.setting body)
  where
    by : (r : Option Udp) → IsRight sv (option_map_or (λ (u : Udp). sends (obeys now u (ordered_text u body) sv).sent ∷ []) r (way_other now (ping_in body) sv)) (option_map_or (λ (u : Udp). obeys now u (ordered_text u body) sv) r (on_other now (ping_in body) sv))
    by None = other_right now (ping_in body) sv table
    by (Some u) = obeyed_right now u (ordered_text u body) sv table

report_right : (now : ℕ) (body : List ℕ) (sv : ServerOf) → IsTable sv → IsRight sv (way_report now body sv) (on_report now body sv)
unfolding way_report on_report
report_right now body sv table = by (unreachable_in body)
  where
    by : (r : Option Unreachable)
        → IsRight sv (option_map_or (λ (x : Unreachable). way_unreachable x sv) r (way_protocol now body sv)) (option_map_or (λ (x : Unreachable). sends_nothing (on_unreachable x sv)) r (on_protocol now body sv))
    by None = protocol_right now body sv table
    by (Some x) = unreachable_right x sv table

pub packet_right : (now : ℕ) (body : List ℕ) (p : Packet) (sv : ServerOf) → IsTable sv → IsRight sv (way_packet now body p sv) (on_packet now body p sv)
unfolding way_packet on_packet
packet_right now body (packet.Segment s) sv table = addressed_right now (urgent_in s body) (as_reset s) (reset_text s (text_in s body)) sv table
packet_right now body packet.Other sv table = either (too_long_in body)
  where
    either : (r : Option TooLong)
        → IsRight sv (option_map_or (λ x. way_too_long x sv) r (way_report now body sv)) (option_map_or (λ x. on_too_long x sv) r (on_report now body sv))
    either None = report_right now body sv table
    either (Some x) = too_long_right x sv table
packet_right now body packet.Fragment sv table = quiet_counts sv _ refl refl table
packet_right now body packet.Cut sv table = quiet_counts sv _ refl refl table
packet_right now body (packet.Malformed why) sv table = quiet_counts sv _ refl refl table
packet_right now body packet.BadSum sv table = quiet_counts sv _ refl refl table

pub datagram_right : (now : ℕ) (body : List ℕ) (sv : ServerOf) → IsTable sv → IsRight sv (way_datagram now body sv) (on_datagram now body sv)
unfolding way_datagram on_datagram
datagram_right now body sv table = packet_right now body (packet_in RawIp body true) sv table
