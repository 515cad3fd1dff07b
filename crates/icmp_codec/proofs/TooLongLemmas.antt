-- What a router says is no request, and no segment.
use Rattle.std.proofs.Common.{◌≡◌, ℕ, ◌&&◌, true, false, List, Some}
use Rattle.std.proofs.lemmas.Bool.{and_parts, eqb-true}
use Rattle.std.proofs.lemmas.Option.{cond_some}
use Rattle.segment_codec.specs.Places.{byte}
use Rattle.icmp_codec.specs.EchoRequest.{echo_in, is_echo, is_icmp, message_in, message_of}
use Rattle.icmp_codec.specs.TooLong.{IsNoPing, IsNoSegment, is_too_long, told_in, too_long_in}
use Rattle.icmp_codec.proofs.AnsweredLemmas.{passed_over}
use Rattle.icmp_codec.proofs.RequestLemmas.{icmp_is_other}

other_type : (message : List ℕ) → is_too_long message ≡ true → is_echo 8 message ≡ false
unfolding is_too_long is_echo
other_type message e =
    let kind : byte message 0 ≡ 3 = eqb-true _ _ (and_parts _ _ (and_parts _ _ e).1).0 in
    simp kind

pub no_ping : IsNoPing
unfolding too_long_in echo_in
no_ping ip x e =
    let found = cond_some (is_icmp ip && is_too_long (message_of ip)) (told_in ip) x e in
    passed_over (is_icmp ip) (is_echo 8 (message_of ip)) (Some (message_in ip)) (other_type (message_of ip) (and_parts _ _ found.0).1)

pub no_segment : IsNoSegment
unfolding too_long_in
no_segment ip x verify e =
    let found = cond_some (is_icmp ip && is_too_long (message_of ip)) (told_in ip) x e in
    icmp_is_other ip verify (and_parts _ _ found.0).0
