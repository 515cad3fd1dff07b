-- What is sent is read again.
use Rattle.std.proofs.Common.{◌≡◌, ℕ, ◌+◌, ◌-◌, ◌≤◌, List, ◌++◌, length, drop, take, Option, None, Some, Ok, Err, Bool, true, false, refl, ap, ◌∙◌, arith, cond, eqb, leb, ltb, ◌&&◌}
use Rattle.std.specs.Option.{option_and_then}
use Rattle.std.specs.Result.{result_ok}
use Rattle.std.proofs.lemmas.Bool.{false≢true}
use Rattle.std.proofs.lemmas.Bool.Decides.{nat_tests}
use Rattle.std.proofs.lemmas.List.{take_all, drop_at}
use Rattle.byteorder.specs.Endian.{big_bytes}
use Rattle.sq_base.specs.declared.kinds.Tuple.{Tuple}
use Rattle.sq_base.specs.declared.kinds.Link.TheVariants.{RawIp}
use Rattle.segment_codec.specs.Places.{byte, word, long}
use Rattle.segment_codec.specs.Packet.{ip_place}
use Rattle.segment_codec.specs.declared.packet.Packet.TheVariants as packet
use Rattle.udp_codec.specs.declared.datagram.Udp.{Udp}
use Rattle.udp_codec.specs.UdpDatagram.{is_whole, part_of, is_udp, udp_of, udp_at, udp_in, header_of}
use Rattle.udp_codec.specs.UdpBytes.{udp_bytes, ip_with, udp_with, ip_sum, udp_sum}
use Rattle.udp_codec.specs.ReadAgain.{Fits, ReadsAgain, udp_sent, text_in}
use Rattle.udp_codec.proofs.SumLemmas.{header_sums, part_sums}

-- a whole datagram without options, fragments or padding
whole : (ip : List ℕ) → 20 ≤ length ip → byte ip 0 ≡ 69 → word ip 2 ≡ length ip → word ip 6 ≡ 16384 → byte ip 9 ≡ 17 → is_whole ip ≡ true
unfolding is_whole
whole ip size first total flags proto =
    let t1 : leb 20 (length ip) ≡ true = grind (arith, nat_tests) in
    let t2 : eqb (length ip) 0 ≡ false = grind (arith, nat_tests) in
    let t3 : leb (length ip) (length ip) ≡ true = grind (arith, nat_tests) in
    simp (first, total, t1, t2, t3, flags, proto)

part_whole : (ip : List ℕ) → 20 ≤ length ip → byte ip 0 ≡ 69 → word ip 2 ≡ length ip → part_of ip ≡ drop 20 ip
unfolding part_of
part_whole ip size first total =
    let t2 : eqb (length ip) 0 ≡ false = grind (arith, nat_tests) in
    let all : take (length ip) ip ≡ ip = take_all (length ip) ip (omega arith) in
    simp (first, total, t2, all)

part_holds : (part : List ℕ) → 8 ≤ length part → word part 4 ≡ length part → length part ≤ 65515 → is_udp part ≡ true
part_holds part long len most =
    let t1 : leb 8 (length part) ≡ true = grind (arith, nat_tests) in
    let t2 : leb (length part) (length part) ≡ true = grind (arith, nat_tests) in
    let t3 : leb (length part) 65515 ≡ true = grind (arith, nat_tests) in
    simp (len, t1, t2, t3)

chosen : (a b : Bool) (x : Option Udp) → a ≡ true → b ≡ true → cond (a && b) x None ≡ x
chosen true true x p q = refl
chosen true false x p q = absurd (false≢true q)
chosen false b x p q = absurd (false≢true p)

abbrev udp_fields : ℕ → ℕ → ℕ → ℕ → ℕ → ℕ → Udp
udp_fields src dst src_port dst_port from len =
    record { src = record { 0 = src }; dst = record { 0 = dst }; src_port = src_port; dst_port = dst_port; text_from = from; text_len = len }

same_udp : (a b c d e f a' b' c' d' e' f' : ℕ) → a ≡ a' → b ≡ b' → c ≡ c' → d ≡ d' → e ≡ e' → f ≡ f' → udp_fields a b c d e f ≡ udp_fields a' b' c' d' e' f'
same_udp a b c d e f a' b' c' d' e' f' p q r s t u = rw (p, q, r, s, t, u) refl

fields_of : (ip part : List ℕ) (at : ℕ) (u : Udp) → part_of ip ≡ part → header_of ip ≡ 20
    → long ip 12 ≡ u.src.0 → long ip 16 ≡ u.dst.0 → word part 0 ≡ u.src_port → word part 2 ≡ u.dst_port → at + 28 ≡ u.text_from → word part 4 - 8 ≡ u.text_len
    → udp_of ip at ≡ u
unfolding udp_of
fields_of ip part at u p h src dst from to place len =
    let e : at + header_of ip + 8 ≡ u.text_from = omega (arith, h, place) in
    same_udp _ _ _ _ _ _ _ _ _ _ _ _ src dst (ap (λ (x : List ℕ). word x 0) p ∙ from) (ap (λ (x : List ℕ). word x 2) p ∙ to) e (ap (λ (x : List ℕ). word x 4 - 8) p ∙ len)

fields_read : (t : Tuple) (text : List ℕ) → Fits t text → udp_in RawIp (udp_bytes t text) ≡ Some (udp_sent t text)
unfolding ip_place udp_bytes word long
fields_read t text fits =
    let total = 28 + length text in
    let ip = ip_with t total (ip_sum t total) in
    let part = udp_with t text (udp_sum t text) in
    let all = ip ++ part in
    let long_part : length part ≡ 8 + length text = omega arith in
    let size : length all ≡ 28 + length text = omega (arith, long_part) in
    let named : word all 2 ≡ length all = omega (arith, size, fits.few) in
    let least : 20 ≤ length all = omega (arith, size) in
    let counted : word part 4 ≡ 8 + length text = omega (arith, fits.few) in
    let is_part : part_of all ≡ part = part_whole all least refl named in
    let w : is_whole all ≡ true = whole all least refl named refl refl in
    let p : is_udp part ≡ true = part_holds part (omega (arith, long_part)) (omega (arith, long_part, counted)) (omega (arith, long_part, fits.few)) in
    let raw : (ltb 0 (length all) && false) ≡ false = grind (arith, nat_tests) in
    ap (λ b. option_and_then (λ at. udp_at (drop at all) at) (result_ok (cond b (Err packet.Other) (Ok 0)))) raw
    ∙ (chosen (is_whole all) (is_udp (part_of all)) (Some (udp_of all 0)) w (ap is_udp is_part ∙ p)
    ∙ ap (λ (u : Udp). Some u) (fields_of all part 0 (udp_sent t text) is_part refl
    (omega (arith, fits.server)) (omega (arith, fits.client)) (omega (arith, fits.server_port)) (omega (arith, fits.client_port)) (omega arith) (omega (arith, counted))))

-- all that is sent before the text
abbrev headers_with : Tuple → List ℕ → ℕ → ℕ → List ℕ
headers_with t text total sum =
    ip_with t total (ip_sum t total) ++ (big_bytes 2 t.server_port ++ (big_bytes 2 t.client_port ++ (big_bytes 2 (8 + length text) ++ big_bytes 2 sum)))

text_read : (t : Tuple) (text : List ℕ) → text_in (udp_sent t text) (udp_bytes t text) ≡ text
unfolding udp_bytes
text_read t text =
    let before = headers_with t text (28 + length text) (udp_sum t text) in
    let size : length before ≡ 28 = omega arith in
    ap (take (length text)) (drop_at before text 28 size) ∙ take_all (length text) text (omega arith)

pub reads_again : (t : Tuple) (text : List ℕ) → Fits t text → ReadsAgain t text
reads_again t text fits = record { fields = fields_read t text fits; kept = text_read t text; header = header_sums t (28 + length text); part = part_sums t text }
