-- The report, by lines and fields: the counts, and for each connection its order, replies, answers and last state.
use Rattle.std.specs.Prelude.{ℕ, ◌+◌, ◌==◌, List, [], ◌∷◌, ◌++◌, length, map, get_or, codes, if◌then◌else◌}
use Rattle.std.specs.List.{flat_map, enumerate_from, join_with_byte}
use Rattle.std.specs.Fmt.{decimal}
use Rattle.byteorder.specs.Endian.{big_bytes}
use Rattle.hex.specs.Hex.{encode_lower}
use Rattle.sq_base.specs.declared.kinds.Addr.{Addr}
use Rattle.sq_base.specs.declared.kinds.Tuple.{Tuple}
use Rattle.segment_codec.specs.declared.packet.Reply.{Reply}
use Rattle.segment_codec.specs.SegmentBytes.{segment_bytes}
use Rattle.perimeter_core.specs.declared.entries.Act.{Act}
use Rattle.perimeter_core.specs.declared.entries.Act.TheVariants as act
use Rattle.conn_classifier.specs.declared.kinds.Counts.{Counts}
use Rattle.conn_classifier.specs.Plan.{PlanOf}
use Rattle.tcb_machine.specs.declared.kinds.Answer.{Answer}
use Rattle.tcb_machine.specs.declared.kinds.Answer.TheVariants as answer
use Rattle.tcb_machine.specs.declared.kinds.State.{State}
use Rattle.echo_services.specs.Pump.{service_word}
use Rattle.echo_services.specs.declared.service.Service.{Service}
use Rattle.conn_blocks.specs.CallLists.{CallLists}
use Rattle.conn_blocks.specs.ServeOrder.{Serving, serve}
use Rattle.conn_blocks.specs.Services.{service_in}
use Rattle.report_lines.specs.Names.{state_word}

-- fields with one space between them, and a newline
abbrev pub line_end : List (List ℕ) → List ℕ
line_end [] = 10 ∷ []
line_end (f ∷ fs) = 32 ∷ (f ++ line_end fs)

abbrev pub line : List (List ℕ) → List ℕ
line [] = line_end []
line (f ∷ fs) = f ++ line_end fs

unfoldable pub counts_line : Counts → ℕ → List ℕ
counts_line n conns = line (
    codes "records" ∷ decimal n.records ∷ codes "tail" ∷ decimal n.tail ∷ codes "served" ∷ decimal n.served
    ∷ codes "nofit" ∷ decimal n.nofit ∷ codes "server" ∷ decimal n.server ∷ codes "other" ∷ decimal n.other
    ∷ codes "fragment" ∷ decimal n.fragment ∷ codes "cut" ∷ decimal n.cut ∷ codes "malformed" ∷ decimal n.malformed
    ∷ codes "badsum" ∷ decimal n.badsum ∷ codes "connections" ∷ decimal conns ∷ [])

-- an address in dotted decimal, and a port
unfoldable pub end_field : Addr → ℕ → List ℕ
end_field a port = join_with_byte 46 (map decimal (big_bytes 4 a.0)) ++ 58 ∷ decimal port

-- the client first; then the server, and the service that it has
unfoldable pub conn_line : ℕ → Tuple → Service → List ℕ
conn_line c t service = line (
    codes "conn" ∷ decimal c ∷ end_field t.client t.client_port ∷ end_field t.server t.server_port ∷ service_word service ∷ [])

-- an entry of an order: the feeds from one number to another, or a call
pub data Entry : Type 0 where
  feeds : ℕ → ℕ → Entry
  call : ℕ → ℕ → Entry

-- an act before entries: a feed joins the run that goes on from it
abbrev pub with_act : Act → List Entry → List Entry
with_act (act.Call j k) es = call j k ∷ es
with_act (act.Feed n) [] = feeds n n ∷ []
with_act (act.Feed n) (call j k ∷ es) = feeds n n ∷ call j k ∷ es
with_act (act.Feed n) (feeds m last ∷ es) = if n + 1 == m then feeds n last ∷ es else feeds n n ∷ feeds m last ∷ es

-- an order as its calls and its maximal runs of feeds
abbrev pub entries_of : List Act → List Entry
entries_of [] = []
entries_of (a ∷ order) = with_act a (entries_of order)

abbrev pub entry_field : Entry → List ℕ
entry_field (feeds m n) = if m == n then 102 ∷ decimal m else 102 ∷ (decimal m ++ 45 ∷ decimal n)
entry_field (call j k) = 99 ∷ (decimal j ++ 46 ∷ decimal k)

unfoldable pub order_line : List Act → List ℕ
order_line order = line (codes "order" ∷ map entry_field (entries_of order))

-- a reply: its time in microseconds, and its datagram in hexadecimal
unfoldable pub datagram_line : ℕ → List ℕ → List ℕ
datagram_line at bytes = line (codes "reply" ∷ decimal at ∷ encode_lower bytes ∷ [])

unfoldable pub reply_line : Tuple → Reply → List ℕ
reply_line t r = datagram_line r.at (segment_bytes t r)

abbrev pub answer_fields : Answer → List (List ℕ)
answer_fields (answer.Status state received offered unacked) = state_word state ∷ decimal received ∷ decimal offered ∷ decimal unacked ∷ []
answer_fields answer.Done = codes "ok" ∷ []
answer_fields answer.NotOpen = codes "notopen" ∷ []
answer_fields answer.Already = codes "already" ∷ []

-- an answer with its call's thread and number
unfoldable pub answer_line : ℕ × ℕ × Answer → List ℕ
answer_line (j, k, a) = line (codes "answer" ∷ decimal j ∷ decimal k ∷ answer_fields a)

unfoldable pub end_line : State → List ℕ
end_line state = line (codes "end" ∷ state_word state ∷ [])

-- a connection that was served in this order
unfoldable pub conn_text : ℕ → Tuple → Service → List Act → Serving → List ℕ
conn_text c t service order s =
    conn_line c t service ++ (order_line order
    ++ (flat_map (reply_line t) s.block.replies ++ (flat_map answer_line s.answers ++ end_line s.block.state)))

-- what stands between the first line and the last: the counts, and each connection, served by number in this order on one thread
unfoldable pub body_text : PlanOf → CallLists → List (List Act) → List ℕ
body_text p calls orders =
    let order = λ (c : ℕ). get_or orders c [] in
    counts_line p.counts (length p.tuples)
    ++ flat_map (λ (c, t). conn_text c t (service_in p c) (order c) (serve p calls c (order c))) (enumerate_from 0 p.tuples)

abbrev pub done_line : List ℕ
done_line = line (codes "done" ∷ [])

-- the report of these orders
unfoldable pub report_text : PlanOf → CallLists → List (List Act) → List ℕ
report_text p calls orders = line (codes "report" ∷ codes "1" ∷ []) ++ (body_text p calls orders ++ done_line)
