-- A datagram's text lies within its record's body, and is short.
use Rattle.std.proofs.Common.{◌≡◌, ℕ, ◌+◌, ◌≤◌, ◌&&◌, ◌||◌, ◌==◌, nat_le, Bool, true, false, List, length, take, drop, Result, Ok, Err, None, Some, bit_and, refl, subst, arith, length-drop}
use Rattle.std.proofs.lemmas.List.{length-take}
use Rattle.std.proofs.lemmas.Bool.Decides.{nat_tests}
use Rattle.sq_base.specs.declared.kinds.Link.{Link}
use Rattle.segment_codec.specs.Places.{byte, word, high}
use Rattle.segment_codec.specs.Packet.{ip_place, total_of}
use Rattle.segment_codec.specs.declared.packet.Packet.{Packet}
use Rattle.udp_codec.specs.Limits.{most_text}
use Rattle.udp_codec.specs.declared.datagram.Udp.{Udp}
use Rattle.udp_codec.specs.UdpDatagram.{header_of, is_udp, is_whole, part_of, udp_at, udp_in, udp_of}

-- the text ends within so many bytes, and is short enough to be sent
pub record IsShortWithin (n : ℕ) (u : Udp) : Type 0 where
  pub within : u.text_from + u.text_len ≤ n
  pub short : u.text_len ≤ most_text

left : (a b : Bool) → (a && b) ≡ true → a ≡ true
left true b e = refl
left false b e = absurd (let no : ⊥ = cc in no)

right : (a b : Bool) → (a && b) ≡ true → b ≡ true
right true b e = e
right false b e = absurd (let no : ⊥ = cc in no)

holds : (a b : ℕ) → nat_le a b ≡ true → a ≤ b
holds a b e = grind (arith, nat_tests, e)

-- what a whole datagram and its part hold
record Sizes (ip : List ℕ) : Type 0 where
  header : header_of ip ≤ length ip
  total : total_of ip ≤ length ip
  some : 8 ≤ word (part_of ip) 4
  part : header_of ip + word (part_of ip) 4 ≤ length ip
  short : word (part_of ip) 4 ≤ 65515

sizes : (ip : List ℕ) → is_whole ip ≡ true → is_udp (part_of ip) ≡ true → Sizes ip
unfolding is_whole part_of
sizes ip whole udp =
    let ends =
    right (byte ip 9 == 17) _ (right (bit_and (word ip 6) 0x3fff == 0) _ (right ((word ip 2 == 0) || nat_le (header_of ip) (word ip 2)) _
    (right (nat_le 20 (header_of ip)) _ (right (high (byte ip 0) == 4) _ (right (nat_le 20 (length ip)) _ whole))))) in
    let total : total_of ip ≤ length ip = holds _ _ (left (nat_le (total_of ip) (length ip)) (nat_le (header_of ip) (length ip)) ends) in
    let header : header_of ip ≤ length ip = holds _ _ (right (nat_le (total_of ip) (length ip)) (nat_le (header_of ip) (length ip)) ends) in
    let part = drop (header_of ip) (take (total_of ip) ip) in
    let behind = right (nat_le 8 (length part)) _ udp in
    let some : 8 ≤ word part 4 = holds _ _ (left (nat_le 8 (word part 4)) (nat_le (word part 4) (length part) && nat_le (word part 4) 65515) behind) in
    let last = right (nat_le 8 (word part 4)) (nat_le (word part 4) (length part) && nat_le (word part 4) 65515) behind in
    let fits : word part 4 ≤ length part = holds _ _ (left (nat_le (word part 4) (length part)) (nat_le (word part 4) 65515) last) in
    let short : word part 4 ≤ 65515 = holds _ _ (right (nat_le (word part 4) (length part)) (nat_le (word part 4) 65515) last) in
    record {
      header = header;
      total = total;
      some = some;
      part = omega (arith, some, fits, total, header, length-drop (header_of ip) (take (total_of ip) ip), length-take (total_of ip) ip);
      short = short;
    }

fields_within : (n at : ℕ) (ip : List ℕ) → at + length ip ≤ n → Sizes ip → IsShortWithin n (udp_of ip at)
unfolding udp_of
fields_within n at ip le s = record { within = omega (arith, le, s.some, s.part); short = omega (arith, s.some, s.short) }

large : (ip : List ℕ) → is_whole ip ≡ true → 20 ≤ length ip
unfolding is_whole
large ip w = holds _ _ (left (nat_le 20 (length ip)) _ w)

at_place : (body : List ℕ) (at : ℕ) (u : Udp) → udp_at (drop at body) at ≡ Some u → IsShortWithin (length body) u
at_place body at u e = by (is_whole (drop at body)) (is_udp (part_of (drop at body))) refl refl
  where
    by : (a b : Bool) → is_whole (drop at body) ≡ a → is_udp (part_of (drop at body)) ≡ b → IsShortWithin (length body) u
    by true true w p =
        let same : udp_of (drop at body) at ≡ u = (let now : Some (udp_of (drop at body) at) ≡ Some u = rw (w, p) at e in cc) in
        subst (IsShortWithin (length body)) same (fields_within (length body) at (drop at body) (omega (arith, large (drop at body) w, length-drop at body)) (sizes (drop at body) w p))
    by true false w p = absurd (let none : None ≡ Some u = rw (w, p) at e in let no : ⊥ = cc in no)
    by false b w p = absurd (let none : None ≡ Some u = rw w at e in let no : ⊥ = cc in no)

pub udp_within : (link : Link) (body : List ℕ) (u : Udp) → udp_in link body ≡ Some u → IsShortWithin (length body) u
udp_within link body u e = by (ip_place link body) refl
  where
    by : (r : Result ℕ Packet) → ip_place link body ≡ r → IsShortWithin (length body) u
    by (Err answer) p = absurd (let none : None ≡ Some u = rw p at e in let no : ⊥ = cc in no)
    by (Ok at) p = at_place body at u (rw p at e)
