-- The text of a record's segment lies within the record's body.
use Rattle.std.proofs.Common.{◌≡◌, ℕ, ◌+◌, ◌*◌, ◌≤◌, ◌==◌, ◌&&◌, ◌||◌, not, nat_lt, Bool, true, false, List, length, take, drop, bit_and, Result, Ok, Err, inl, inr, refl, sym, subst, arith, if◌then◌else◌}
use Rattle.std.proofs.lemmas.List.{length-take}
use Rattle.std.proofs.lemmas.Bool.{ltb-false}
use Rattle.std.proofs.Common.{length-drop}
use Rattle.sq_base.specs.declared.kinds.Link.{Link}
use Rattle.segment_codec.specs.Places.{byte, word, high, low}
use Rattle.segment_codec.specs.Packet.{packet_in, packet_at, ip_place, datagram, tcp_packet, segment_of, sums_hold, total_of}
use Rattle.segment_codec.specs.declared.packet.Packet.{Packet}
use Rattle.segment_codec.specs.declared.packet.Packet.TheVariants as packet
use Rattle.segment_codec.proofs.PlaceLemmas.{IsPlace, place_within}

-- the text ends within so many bytes
abbrev pub EndsWithin : ℕ → Packet → Type 0
EndsWithin n (packet.Segment s) = s.text_from + s.text_len ≤ n
EndsWithin n packet.Other = Unit {0}
EndsWithin n packet.Fragment = Unit {0}
EndsWithin n packet.Cut = Unit {0}
EndsWithin n (packet.Malformed why) = Unit {0}
EndsWithin n packet.BadSum = Unit {0}

by_if : (n : ℕ) (b : Bool) (x y : Packet) → (b ≡ true → EndsWithin n x) → (b ≡ false → EndsWithin n y) → EndsWithin n (if b then x else y)
by_if n true x y f g = f refl
by_if n false x y f g = g refl

right_false : (a b : Bool) → (a || b) ≡ false → b ≡ false
right_false true b e = absurd (let no : ⊥ = cc in no)
right_false false b e = e

tcp_within : (n : ℕ) (verify : Bool) (ip header tcp : List ℕ) (from : ℕ) → from + length tcp ≤ n → EndsWithin n (tcp_packet verify ip header tcp from)
unfolding tcp_packet segment_of
tcp_within n verify ip header tcp from le =
    by_if n (nat_lt (length tcp) 20) _ _ (λ e. tt) (λ e.
    by_if n (nat_lt (high (byte tcp 12)) 5 || nat_lt (length tcp) (4 * high (byte tcp 12))) _ _ (λ f. tt) (λ f.
    by_if n (verify && not (sums_hold ip header tcp)) _ _ (λ g. tt) (λ g.
    let whole : 4 * high (byte tcp 12) ≤ length tcp = omega (arith, ltb-false (length tcp) (4 * high (byte tcp 12)) (right_false _ _ f)) in
    omega (arith, whole, le))))

datagram_within : (n : ℕ) (verify : Bool) (ip : List ℕ) (from : ℕ) → from + length ip ≤ n → EndsWithin n (datagram verify ip from)
unfolding datagram
datagram_within n verify ip from le =
    let ihl = 4 * low (byte ip 0) in
    by_if n (length ip == 0) _ _ (λ a. tt) (λ a.
    by_if n (not (high (byte ip 0) == 4)) _ _ (λ a. tt) (λ a.
    by_if n (nat_lt ihl 20) _ _ (λ a. tt) (λ a.
    by_if n (nat_lt (length ip) 20) _ _ (λ a. tt) (λ a.
    by_if n (not (word ip 2 == 0) && nat_lt (word ip 2) ihl) _ _ (λ a. tt) (λ a.
    by_if n (not (bit_and (word ip 6) 0x3fff == 0)) _ _ (λ a. tt) (λ a.
    by_if n (not (byte ip 9 == 6)) _ _ (λ a. tt) (λ a.
    by_if n (nat_lt (length ip) (total_of ip) || nat_lt (length ip) ihl) _ _ (λ f. tt) (λ f.
    let whole : ihl ≤ length ip = omega (arith, ltb-false (length ip) ihl (right_false _ _ f)) in
    tcp_within n verify ip (take ihl ip) (drop ihl (take (total_of ip) ip)) (from + ihl)
    (omega (arith, le, whole, length-drop ihl (take (total_of ip) ip), length-take (total_of ip) ip))))))))))

pub text_within : (link : Link) (body : List ℕ) (verify : Bool) → EndsWithin (length body) (packet_in link body verify)
unfolding packet_in
text_within link body verify = by (ip_place link body) (place_within link body)
  where
    by : (r : Result ℕ Packet) → IsPlace (length body) r → EndsWithin (length body) (packet_at verify body r)
    by (Ok at) room = datagram_within (length body) verify (drop at body) at (omega (arith, room, length-drop at body))
    by (Err answer) (inl e) = subst (EndsWithin (length body)) (sym e) (tt {0})
    by (Err answer) (inr e) = subst (EndsWithin (length body)) (sym e) (tt {0})
