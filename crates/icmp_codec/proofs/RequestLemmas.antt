-- What is read from bytes fits its fields, and is no segment.
use Rattle.std.proofs.Common.{◌≡◌, ℕ, inl, inr, ◌+◌, ◌-◌, ◌<◌, ◌≤◌, List, length, length-drop, drop, take, Some, Bool, true, false, arith, subst, eqb, ltb, ◌&&◌}
use Rattle.std.specs.Prelude.{All, bit_and}
use Rattle.std.proofs.lemmas.Bool.{and_parts, leb-true, eqb-true, cases_lt}
use Rattle.std.proofs.lemmas.Bool.Decides.{nat_tests}
use Rattle.std.proofs.lemmas.List.{length-take-le, get_or_past}
use Rattle.std.proofs.lemmas.Option.{cond_some}
use Rattle.sq_base.specs.declared.kinds.Link.TheVariants.{RawIp}
use Rattle.segment_codec.specs.Packet.{packet_in, ip_place, datagram}
use Rattle.segment_codec.specs.declared.packet.Packet.TheVariants as packet
use Rattle.segment_codec.specs.Places.{byte, word, long}
use Rattle.icmp_codec.specs.EchoRequest.{PingOf, is_icmp, message_of, is_echo, message_in, echo_in, ping_in}
use Rattle.icmp_codec.specs.Answered.{IsReadFrom}

byte_small : (ip : List ℕ) (i : ℕ) → All (λ b. b < 256) ip → byte ip i < 256
byte_small ip i small = elim (cases_lt i (length ip)) [
  | inl h ↦ small i 0 h
  | inr h ↦ omega (arith, get_or_past ip i 0 h)
]

word_small : (ip : List ℕ) (i : ℕ) → All (λ b. b < 256) ip → word ip i < 65536
unfolding word
word_small ip i small = omega (arith, byte_small ip i small, byte_small ip (i + 1) small)

long_small : (ip : List ℕ) (i : ℕ) → All (λ b. b < 256) ip → long ip i < 4294967296
unfolding long
long_small ip i small = omega (arith, word_small ip i small, word_small ip (i + 2) small)

named : (ip : List ℕ) → is_icmp ip ≡ true → (28 ≤ word ip 2) × (word ip 2 ≤ length ip)
unfolding is_icmp
named ip e =
    let behind = and_parts _ _ (and_parts _ _ (and_parts _ _ e).1).1 in
    (leb-true 28 (word ip 2) behind.0, leb-true (word ip 2) (length ip) (and_parts _ _ behind.1).0)

-- what is read of a datagram with this total length
fits_of : (ip : List ℕ) → All (λ b. b < 256) ip → 28 ≤ word ip 2 → word ip 2 ≤ length ip → IsReadFrom ip (message_in ip)
unfolding message_in
fits_of ip small least whole =
    let uncut : length (take (word ip 2) ip) ≡ word ip 2 = length-take-le (word ip 2) ip whole in
    let size : length (drop 4 (message_of ip)) ≡ word ip 2 - 20 - 4 =
    omega (arith, length-drop 4 (message_of ip), length-drop 20 (take (word ip 2) ip), uncut) in
    record {
      fits = record {
        src = long_small ip 12 small;
        dst = long_small ip 16 small;
        least = omega (arith, size, least);
        most = omega (arith, size, word_small ip 2 small);
      };
      size = omega (arith, size, least);
    }

pub read_from : (ip : List ℕ) (p : PingOf) → All (λ b. b < 256) ip → ping_in ip ≡ Some p → IsReadFrom ip p
unfolding echo_in
read_from ip p small e =
    let found = cond_some (is_icmp ip && is_echo 8 (message_of ip)) (message_in ip) p e in
    let n = named ip (and_parts _ _ found.0).0 in
    subst (λ (q : PingOf). IsReadFrom ip q) found.1 (fits_of ip small n.0 n.1)

-- the datagram of a request, to the reader of segments
other_protocol : (verify : Bool) (ip : List ℕ) → 28 ≤ word ip 2 → word ip 2 ≤ length ip → byte ip 0 ≡ 69 → eqb (bit_and (word ip 6) 0x3fff) 0 ≡ true → byte ip 9 ≡ 1
    → packet_in RawIp ip verify ≡ packet.Other
unfolding packet_in ip_place datagram
other_protocol verify ip least whole first flags proto =
    let t1 : ltb 0 (length ip) ≡ true = grind (arith, nat_tests) in
    let t2 : eqb (length ip) 0 ≡ false = grind (arith, nat_tests) in
    let t3 : ltb (length ip) 20 ≡ false = grind (arith, nat_tests) in
    let t4 : ltb (word ip 2) 20 ≡ false = grind (arith, nat_tests) in
    let t5 : eqb (word ip 2) 0 ≡ false = grind (arith, nat_tests) in
    simp (first, t1, t2, t3, t4, t5, flags, proto)

-- and that of any message
pub icmp_is_other : (ip : List ℕ) (verify : Bool) → is_icmp ip ≡ true → packet_in RawIp ip verify ≡ packet.Other
unfolding is_icmp
icmp_is_other ip verify icmp =
    let n = named ip icmp in
    let first = and_parts _ _ (and_parts _ _ icmp).1 in
    let flags = and_parts _ _ (and_parts _ _ (and_parts _ _ first.1).1).1 in
    let proto = and_parts _ _ flags.1 in
    other_protocol verify ip n.0 n.1 (eqb-true _ _ first.0) flags.0 (eqb-true _ _ proto.0)

pub no_segment : (ip : List ℕ) (p : PingOf) (verify : Bool) → ping_in ip ≡ Some p → packet_in RawIp ip verify ≡ packet.Other
unfolding echo_in
no_segment ip p verify e =
    let found = cond_some (is_icmp ip && is_echo 8 (message_of ip)) (message_in ip) p e in
    icmp_is_other ip verify (and_parts _ _ found.0).0
