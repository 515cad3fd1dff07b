-- What is sent is read again.
use Rattle.std.proofs.Common.{◌≡◌, ℕ, ◌+◌, ◌*◌, ◌<◌, ◌≤◌, List, [], ◌∷◌, ◌++◌, length, drop, take, Option, None, Some, Ok, Err, Bool, true, false, refl, sym, ap, ◌∙◌, arith, cond, eqb, ltb, ◌&&◌}
use Rattle.std.proofs.lemmas.Bool.Decides.{nat_tests}
use Rattle.std.proofs.lemmas.List.{take_all, take_at, drop_at, drop-take}
use Rattle.sq_base.specs.InternetSum.{word_sum, reduced}
use Rattle.sq_base.specs.declared.kinds.Tuple.{Tuple}
use Rattle.segment_codec.specs.declared.packet.Reply.{Reply}
use Rattle.segment_codec.specs.declared.packet.Seg.{Seg}
use Rattle.sq_base.specs.declared.kinds.Link.TheVariants.{RawIp}
use Rattle.segment_codec.specs.declared.packet.Packet.TheVariants as packet
use Rattle.segment_codec.specs.Places.{byte, word, long, high}
use Rattle.segment_codec.specs.Packet.{packet_in, packet_at, ip_place, datagram, tcp_packet, segment_of, sums_hold}
use Rattle.segment_codec.specs.Options.{AreWritable, OptionsAreReadAgain, mss_in, option_bytes, options_in, options_read, scale_in}
use Rattle.segment_codec.specs.declared.options.Options.{Options}
use Rattle.byteorder.specs.Endian.{big_bytes}
use Rattle.segment_codec.specs.SegmentBytes.{segment_bytes, ip_with, tcp_with, offset_of, ip_sum, tcp_sum}
use Rattle.segment_codec.specs.SentIsRead.{Fits, ReadsAgain, seg_sent, text_in}
use Rattle.segment_codec.proofs.SumLemmas.{sum_completes, header_sums, length-tcp_with}

-- a whole datagram without options, fragments or padding
datagram_whole : (verify : Bool) (ip : List ℕ) (from : ℕ) → 20 ≤ length ip → byte ip 0 ≡ 69 → word ip 2 ≡ length ip → word ip 6 ≡ 16384 → byte ip 9 ≡ 6
    → datagram verify ip from ≡ tcp_packet verify ip (take 20 ip) (drop 20 ip) (from + 20)
unfolding datagram
datagram_whole verify ip from size first total flags proto =
    let t1 : eqb (length ip) 0 ≡ false = grind (arith, nat_tests) in
    let t2 : ltb (length ip) 20 ≡ false = grind (arith, nat_tests) in
    let t3 : ltb (length ip) (length ip) ≡ false = grind (arith, nat_tests) in
    let all : take (length ip) ip ≡ ip = take_all (length ip) ip (omega arith) in
    simp (first, total, t1, t2, t3, flags, proto, all)

-- a whole TCP part whose sums hold
tcp_whole : (ip header tcp : List ℕ) (from d : ℕ) → high (byte tcp 12) ≡ d → 5 ≤ d → 4 * d ≤ length tcp → sums_hold ip header tcp ≡ true
    → tcp_packet true ip header tcp from ≡ packet.Segment (segment_of ip tcp from)
unfolding tcp_packet
tcp_whole ip header tcp from d offset low_enough fits sums =
    let t1 : ltb (length tcp) 20 ≡ false = grind (arith, nat_tests) in
    let t2 : ltb d 5 ≡ false = grind (arith, nat_tests) in
    let t3 : ltb (length tcp) (4 * d) ≡ false = grind (arith, nat_tests) in
    simp (offset, t1, t2, t3, sums)

-- the field of the TCP sum is added
word_sum-tcp_with : (t : Tuple) (r : Reply) (sum : ℕ) → sum < 65536 → word_sum (tcp_with t r sum) ≡ word_sum (tcp_with t r 0) + sum
word_sum-tcp_with t r sum h = omega arith

-- the sums of what is sent hold
sums_sent : (t : Tuple) (r : Reply) (total : ℕ) → length (tcp_with t r 0) < 65536
    → sums_hold (ip_with t total (ip_sum t total) ++ tcp_with t r (tcp_sum t r)) (ip_with t total (ip_sum t total)) (tcp_with t r (tcp_sum t r)) ≡ true
unfolding sums_hold tcp_sum
sums_sent t r total small =
    let sum = tcp_sum t r in
    let fits : sum < 65536 = omega arith in
    let a : eqb (reduced (word_sum (ip_with t total (ip_sum t total)))) 65535 ≡ true = ap (λ (n : ℕ). eqb n 65535) (header_sums t total) in
    let same : length (tcp_with t r sum) ≡ length (tcp_with t r 0) = length-tcp_with t r sum ∙ sym (length-tcp_with t r 0) in
    let b : ltb (length (tcp_with t r sum)) 65536 ≡ true = grind (arith, nat_tests, same) in
    let whole : word_sum (drop 12 (take 20 (ip_with t total (ip_sum t total) ++ tcp_with t r sum))) + 6 + length (tcp_with t r sum) + word_sum (tcp_with t r sum)
    ≡ word_sum (big_bytes 4 t.server.0) + word_sum (big_bytes 4 t.client.0) + 6 + length (tcp_with t r 0) + word_sum (tcp_with t r 0) + sum
    = omega (arith, same, word_sum-tcp_with t r sum fits) in
    let c : eqb (reduced (word_sum (drop 12 (take 20 (ip_with t total (ip_sum t total) ++ tcp_with t r sum))) + 6 + length (tcp_with t r sum) + word_sum (tcp_with t r sum))) 65535 ≡ true
    = ap (λ (n : ℕ). eqb (reduced n) 65535) whole ∙ ap (λ (n : ℕ). eqb n 65535) (sum_completes (word_sum (big_bytes 4 t.server.0) + word_sum (big_bytes 4 t.client.0) + 6 + length (tcp_with t r 0) + word_sum (tcp_with t r 0))) in
    ap (λ p. p && (ltb (length (tcp_with t r sum)) 65536 && eqb (reduced (word_sum (drop 12 (take 20 (ip_with t total (ip_sum t total) ++ tcp_with t r sum))) + 6 + length (tcp_with t r sum) + word_sum (tcp_with t r sum))) 65535)) a
    ∙ (ap (λ p. p && eqb (reduced (word_sum (drop 12 (take 20 (ip_with t total (ip_sum t total) ++ tcp_with t r sum))) + 6 + length (tcp_with t r sum) + word_sum (tcp_with t r sum))) 65535) b ∙ c)

abbrev seg_of : ℕ → ℕ → ℕ → ℕ → ℕ → ℕ → ℕ → ℕ → Options → ℕ → ℕ → Seg
seg_of src dst src_port dst_port seq ack flags wnd options from len =
    record { src = record { 0 = src }; dst = record { 0 = dst }; src_port = src_port; dst_port = dst_port; seq = seq; ack = ack; flags = flags; wnd = wnd; options = options; text_from = from; text_len = len }

same_seg : (a b c d e f g h : ℕ) (o : Options) (i j a' b' c' d' e' f' g' h' : ℕ) (o' : Options) (i' j' : ℕ)
    → a ≡ a' → b ≡ b' → c ≡ c' → d ≡ d' → e ≡ e' → f ≡ f' → g ≡ g' → h ≡ h' → o ≡ o' → i ≡ i' → j ≡ j'
    → seg_of a b c d e f g h o i j ≡ seg_of a' b' c' d' e' f' g' h' o' i' j'
same_seg a b c d e f g h o i j a' b' c' d' e' f' g' h' o' i' j' p q r s t u v w x y z =
    rw (p, q, r, s, t, u, v, w, x, y, z) refl

-- the TCP header without its options
abbrev fixed_with : Tuple → Reply → ℕ → List ℕ
fixed_with t r sum =
    big_bytes 2 t.server_port ++ (big_bytes 2 t.client_port ++ (big_bytes 4 r.seq ++ (big_bytes 4 r.ack
    ++ (offset_of r * 16 ∷ r.flags ∷ (big_bytes 2 r.wnd ++ (big_bytes 2 sum ++ (0 ∷ 0 ∷ [])))))))

-- the options stand between the fixed header and the text
options_between : (fixed options text : List ℕ) (n : ℕ) → length fixed ≡ 20 → n ≡ 20 + length options → drop 20 (take n (fixed ++ (options ++ text))) ≡ options
options_between fixed options text n long e =
    ap (λ (k : ℕ). drop 20 (take k (fixed ++ (options ++ text)))) e
    ∙ (drop-take 20 (length options) (fixed ++ (options ++ text))
    ∙ (ap (take (length options)) (drop_at fixed (options ++ text) 20 long)
    ∙ take_at options text (length options) refl))

-- what is sent with options that are read again
reads_with : (t : Tuple) (r : Reply) (k : ℕ) → Fits t r → length (option_bytes r.options) ≡ 4 * k → k ≤ 10 → options_read (option_bytes r.options) ≡ r.options
    → packet_in RawIp (segment_bytes t r) true ≡ packet.Segment (seg_sent t r)
unfolding packet_in ip_place segment_bytes segment_of word long
reads_with t r k fits options few again =
    let total = 20 + length (tcp_with t r 0) in
    let tcp = tcp_with t r (tcp_sum t r) in
    let ip = ip_with t total (ip_sum t total) in
    let all = ip ++ tcp in
    let long_tcp : length tcp ≡ 20 + 4 * k + length r.text = length-tcp_with t r (tcp_sum t r) ∙ omega (arith, options) in
    let long_blank : length (tcp_with t r 0) ≡ 20 + 4 * k + length r.text = length-tcp_with t r 0 ∙ omega (arith, options) in
    let size : length all ≡ 40 + 4 * k + length r.text = omega (arith, long_tcp) in
    let raw : (ltb 0 (length all) && false) ≡ false = grind (arith, nat_tests) in
    let named : word all 2 ≡ length all = omega (arith, size, long_blank, fits.text, few) in
    let sums : sums_hold all ip tcp ≡ true = sums_sent t r total (omega (arith, long_blank, fits.text, few)) in
    let offset : high (byte tcp 12) ≡ 5 + k = omega (arith, options) in
    let between : drop 20 (take (4 * high (byte tcp 12)) tcp) ≡ option_bytes r.options =
    options_between (fixed_with t r (tcp_sum t r)) (option_bytes r.options) r.text (4 * high (byte tcp 12)) refl (omega (arith, offset, options)) in
    ap (λ b. packet_at true all (cond b (Err packet.Other) (Ok 0))) raw
    ∙ (datagram_whole true all 0 (omega (arith, size)) refl named refl refl
    ∙ (tcp_whole all ip tcp 20 (5 + k) offset (omega arith) (omega (arith, long_tcp)) sums
    ∙ ap (λ (s : Seg). packet.Segment s) (same_seg _ _ _ _ _ _ _ _ _ _ _ _ _ _ _ _ _ _ _ _ _ _
    (omega (arith, fits.server)) (omega (arith, fits.client)) (omega (arith, fits.server_port)) (omega (arith, fits.client_port))
    (omega (arith, fits.seq)) (omega (arith, fits.ack)) (omega (arith, fits.flags)) (omega (arith, fits.wnd))
    (ap options_read between ∙ again) (omega (arith, offset, options)) (omega (arith, long_tcp, offset)))))

-- options are whole words
record AreWords (o : Options) : Type 0 where
  words : ℕ
  size : length (option_bytes o) ≡ 4 * words
  few : words ≤ 10

abbrev both : Option ℕ → Option ℕ → Options
both mss scale = record { mss = mss; scale = scale }

are_words : (mss scale : Option ℕ) → AreWords (both mss scale)
are_words None None = record { words = 0; size = refl; few = omega arith }
are_words None (Some shift) = record { words = 1; size = refl; few = omega arith }
are_words (Some mss) None = record { words = 1; size = refl; few = omega arith }
are_words (Some mss) (Some shift) = record { words = 2; size = refl; few = omega arith }

-- an option is read from the bytes that are written
both_read : (mss scale : Option ℕ) → AreWritable (both mss scale) → options_read (option_bytes (both mss scale)) ≡ both mss scale
unfolding options_read mss_in scale_in options_in word
both_read None None w = refl
both_read None (Some shift) w = refl
both_read (Some mss) None w = ap (λ n. both (Some n) None) (omega (arith, w.mss))
both_read (Some mss) (Some shift) w = ap (λ n. both (Some n) (Some shift)) (omega (arith, w.mss))

pub options_read_again : OptionsAreReadAgain
options_read_again o w = both_read o.mss o.scale w

-- all that is sent before the text
abbrev headers_with : Tuple → Reply → ℕ → ℕ → List ℕ
headers_with t r total sum = ip_with t total (ip_sum t total) ++ (fixed_with t r sum ++ option_bytes r.options)

text_read : (t : Tuple) (r : Reply) → text_in (seg_sent t r) (segment_bytes t r) ≡ r.text
unfolding segment_bytes
text_read t r =
    let before = headers_with t r (20 + length (tcp_with t r 0)) (tcp_sum t r) in
    let size : length before ≡ 40 + length (option_bytes r.options) = omega arith in
    ap (take (length r.text)) (drop_at before r.text (40 + length (option_bytes r.options)) size) ∙ take_all (length r.text) r.text (omega arith)

pub reads_again : (t : Tuple) (r : Reply) → Fits t r → ReadsAgain t r
reads_again t r fits =
    let whole = are_words r.options.mss r.options.scale in
    record { fields = reads_with t r whole.words fits whole.size whole.few (options_read_again r.options fits.options); text = text_read t r }
