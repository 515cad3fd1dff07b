-- Worked examples: the lines of the report of a five-segment echo, orders with calls, a gap or no act.
use Rattle.std.proofs.Common.{◌≡◌, [], ◌∷◌, ◌++◌, Some, codes, refl}
use Rattle.std.specs.Fmt.{digits}
use Rattle.hex.specs.Hex.{encode_with}
use Rattle.sq_base.specs.declared.kinds.Tuple.{Tuple}
use Rattle.segment_codec.specs.declared.packet.Reply.{Reply}
use Rattle.segment_codec.specs.Options.{no_options}
use Rattle.segment_codec.specs.PlainSegments.{plain}
use Rattle.segment_codec.specs.SegmentBytes.{segment_bytes, ip_sum, tcp_sum}
use Rattle.perimeter_core.specs.declared.entries.Act.TheVariants.{Feed, Call}
use Rattle.tcb_machine.specs.declared.kinds.State.TheVariants.{Listen, Established}
use Rattle.tcb_machine.specs.declared.kinds.Answer.TheVariants.{Status, NotOpen}
use Rattle.echo_services.specs.Pump.{service_word}
use Rattle.echo_services.specs.declared.service.Service.TheVariants.{Echo}
use Rattle.report_lines.specs.Names.{state_word}
use Rattle.report_lines.specs.ReportText.{counts_line, end_field, conn_line, order_line, datagram_line, reply_line, answer_line, end_line}

-- from 10.0.0.1, port 4000, to the echo port of 10.0.0.2
ends : Tuple
ends = record { client = record { 0 = 0x0a000001 }; client_port = 4000; server = record { 0 = 0x0a000002 }; server_port = 7 }

syn_ack : Reply
syn_ack = record (plain 0 18 500 101 65535 []) { options = record no_options { mss = Some 1460 } }

counts : counts_line (record { records = 5; tail = 0; served = 5; nofit = 0; server = 0; other = 0; fragment = 0; cut = 0; malformed = 0; badsum = 0 }) 1
    ≡ codes "records 5 tail 0 served 5 nofit 0 server 0 other 0 fragment 0 cut 0 malformed 0 badsum 0 connections 1" ++ 10 ∷ []
unfolding counts_line digits
counts = refl

head : conn_line 0 ends Echo ≡ codes "conn 0 10.0.0.1:4000 10.0.0.2:7 echo" ++ 10 ∷ []
unfolding conn_line end_field service_word digits ends
head = refl

reply : reply_line ends syn_ack ≡ codes "reply 0 4500002c00004000400626ca0a0000020a00000100070fa0000001f4000000656012ffff72140000020405b4" ++ 10 ∷ []
unfolding reply_line datagram_line digits encode_with segment_bytes ip_sum tcp_sum ends syn_ack
reply = refl

all_feeds : order_line (Feed 0 ∷ Feed 1 ∷ Feed 2 ∷ Feed 3 ∷ Feed 4 ∷ Feed 5 ∷ []) ≡ codes "order f0-5" ++ 10 ∷ []
unfolding order_line digits
all_feeds = refl

calls_between : order_line (Feed 0 ∷ Feed 1 ∷ Feed 2 ∷ Call 0 0 ∷ Call 0 1 ∷ Call 1 0 ∷ Feed 3 ∷ Feed 4 ∷ Feed 5 ∷ []) ≡ codes "order f0-2 c0.0 c0.1 c1.0 f3-5" ++ 10 ∷ []
unfolding order_line digits
calls_between = refl

a_gap : order_line (Feed 9 ∷ Feed 11 ∷ Feed 12 ∷ []) ≡ codes "order f9 f11-12" ++ 10 ∷ []
unfolding order_line digits
a_gap = refl

one_feed_again : order_line (Feed 7 ∷ Feed 7 ∷ []) ≡ codes "order f7 f7" ++ 10 ∷ []
unfolding order_line digits
one_feed_again = refl

call_first : order_line (Call 3 10 ∷ Feed 0 ∷ []) ≡ codes "order c3.10 f0" ++ 10 ∷ []
unfolding order_line digits
call_first = refl

no_act : order_line [] ≡ codes "order" ++ 10 ∷ []
unfolding order_line digits
no_act = refl

status : answer_line (0, 1, Status Established 5 5 0) ≡ codes "answer 0 1 ESTABLISHED 5 5 0" ++ 10 ∷ []
unfolding answer_line state_word digits
status = refl

too_early : answer_line (3, 0, NotOpen) ≡ codes "answer 3 0 notopen" ++ 10 ∷ []
unfolding answer_line digits
too_early = refl

last_line : end_line Listen ≡ codes "end LISTEN" ++ 10 ∷ []
unfolding end_line state_word
last_line = refl
