-- What the seats of a table tell of its connections.
use Rattle.std.proofs.Common.{◌≡◌, ℕ, ◌&&◌, ◌==◌, Bool, false, Option, None, Some, List, [], ◌∷◌, slice_get, refl, sym, ap, ◌∙◌}
use Rattle.std.specs.Map.{keys_of}
use Rattle.std.specs.Option.{option_map, option_map_or}
use Rattle.std.proofs.lemmas.Option.{slice_get-map}
use Rattle.sq_base.specs.declared.kinds.Tuple.{Tuple}
use Rattle.stream_stays.specs.declared.place.Stays.{Stays}
use Rattle.live_server.specs.Acts.{no_conn}
use Rattle.live_server.specs.Facts.{facts_of, is_waiting_by, reported_by}
use Rattle.live_server.specs.Unreached.{reported}
use Rattle.live_server.specs.Leaving.{peer_of}
use Rattle.live_server.specs.Serving.{is_waiting}
use Rattle.live_server.specs.Table.{conn_at}
use Rattle.live_server.specs.declared.conn.Conn.{Conn}
use Rattle.live_server.specs.declared.facts.Facts.{Facts}
use Rattle.live_server.proofs.TableLemmas.{none_is_whole}
use Rattle.live_chats.specs.Hearing.{ChatOf, conn_in}
use Rattle.live_chats.specs.Seating.{AllSeated, conn_of_seat, conns_of}
use Rattle.live_chats.specs.declared.item.ChatItem.{ChatItem}
use Rattle.live_chats.specs.declared.seat.Seat.{Seat}
use Rattle.live_chats.proofs.SeatLemmas.{conns_at}

pub keys_same : (st : Stays ChatItem ChatOf) (es : List (Tuple × Seat)) → keys_of (conns_of st es) ≡ keys_of es
keys_same st [] = refl
keys_same st (e ∷ es) = ap (λ (ts : List Tuple). e.0 ∷ ts) (keys_same st es)

-- the facts of a seat are those of its connection
pub facts_at : (st : Stays ChatItem ChatOf) (es : List (Tuple × Seat)) (i : ℕ) (e : Tuple × Seat) → slice_get es i ≡ Some e → AllSeated st es → e.1.facts ≡ facts_of (conn_at i (conns_of st es))
facts_at st es i e at seated =
    let its = seated i e at in
    let conn : conn_at i (conns_of st es) ≡ its.conn = ap (λ (o : Option (Tuple × Conn)). option_map_or (λ c. c.1) o no_conn) (conns_at st es i e at) ∙ ap conn_in its.its_conn in
    its.facts ∙ ap facts_of (sym conn)

pub waiting_at : (n : ℕ) (st : Stays ChatItem ChatOf) (es : List (Tuple × Seat)) (i : ℕ) (e : Tuple × Seat) → slice_get es i ≡ Some e → AllSeated st es → is_waiting_by n e.1.facts ≡ is_waiting n (conn_at i (conns_of st es))
waiting_at n st es i e at seated = ap (is_waiting_by n) (facts_at st es i e at seated)

pub reported_there : (seq : ℕ) (st : Stays ChatItem ChatOf) (es : List (Tuple × Seat)) (i : ℕ) (e : Tuple × Seat) → slice_get es i ≡ Some e → AllSeated st es → reported_by seq e.1.facts ≡ reported seq (conn_at i (conns_of st es))
reported_there seq st es i e at seated = ap (reported_by seq) (facts_at st es i e at seated)

pub peer_there : (st : Stays ChatItem ChatOf) (es : List (Tuple × Seat)) (i : ℕ) (e : Tuple × Seat) → slice_get es i ≡ Some e → AllSeated st es
    → Some (record { address = e.0.client; heard = e.1.facts.heard }) ≡ option_map peer_of (slice_get (conns_of st es) i)
peer_there st es i e at seated =
    let its = seated i e at in
    ap (λ (n : ℕ). Some (record { address = e.0.client; heard = n })) (ap (λ (f : Facts). f.heard) its.facts ∙ ap (λ (o : Option Conn). (conn_in o).heard) (sym its.its_conn))
    ∙ sym (ap (option_map peer_of) (conns_at st es i e at))

pub nobody_waits : (n : ℕ) (st : Stays ChatItem ChatOf) (es : List (Tuple × Seat)) (i : ℕ) → slice_get es i ≡ None → false ≡ is_waiting n (conn_at i (conns_of st es))
nobody_waits n st es i none =
    let no : conn_at i (conns_of st es) ≡ no_conn = ap (λ (o : Option (Tuple × Conn)). option_map_or (λ c. c.1) o no_conn) (slice_get-map (conn_of_seat st) es i ∙ ap (λ (o : Option (Tuple × Seat)). option_map (conn_of_seat st) o) none) in
    sym (ap (λ (b : Bool). b && (no_conn.number == n)) none_is_whole) ∙ ap (is_waiting n) (sym no)
