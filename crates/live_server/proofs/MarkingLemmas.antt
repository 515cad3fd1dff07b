-- What is marked is read.
use Rattle.std.proofs.Common.{◌≡◌, ℕ, zero, suc, ◌+◌, ◌-◌, ◌*◌, ◌<◌, ◌≤◌, Bool, true, false, cond, ◌||◌, eqb, ltb, List, [], ◌∷◌, length, take, drop, get_or, Option, None, Some, refl, sym, ap, ◌∙◌, arith, set}
use Rattle.std.proofs.lemmas.Bool.Decides.{nat_tests}
use Rattle.std.proofs.lemmas.List.{drop-drop, take_all}
use Rattle.sq_base.specs.InternetSum.{reduced, word_sum}
use Rattle.sq_base.specs.declared.kinds.Link.TheVariants.{RawIp}
use Rattle.sq_base.specs.declared.kinds.Tuple.{Tuple}
use Rattle.segment_codec.specs.Options.{option_bytes}
use Rattle.segment_codec.specs.declared.options.Options.{Options}
use Rattle.segment_codec.specs.Packet.{datagram, ip_place, packet_in, segment_of, sums_hold, tcp_packet}
use Rattle.segment_codec.specs.Places.{long, word}
use Rattle.segment_codec.specs.SegmentBytes.{segment_bytes, tcp_sum, tcp_with}
use Rattle.segment_codec.specs.SentIsRead.{Fits}
use Rattle.segment_codec.specs.declared.packet.Reply.{Reply}
use Rattle.segment_codec.proofs.SentIsReadLemmas.{reads_again}
use Rattle.segment_codec.proofs.SumLemmas.{header_sums, length-tcp_with, sum_completes}
use Rattle.segment_codec.specs.declared.packet.Seg.{Seg}
use Rattle.live_server.specs.Acts.{after, allowed, bared, challenged, emptied, is_allowed, judged, reached, repaired, taken}
use Rattle.live_server.specs.PathMtu.{is_heeded, path_told, shortened}
use Rattle.live_server.specs.Promises.{MarkingStays, PathKeepsMarking, segment, time}
use Rattle.live_server.specs.declared.conn.Conn.{Conn}
use Rattle.live_server.specs.declared.conn.Judged.{Judged}
use Rattle.live_server.specs.declared.conn.Judged.TheVariants.{Challenged, Late, Taken, Unanswered}
use Rattle.live_server.specs.Marking.{IsReadMarked, MarkedIsRead, MarksAHeader, blank, hops, is_plain, marked_bytes, traffic, with_own_sum, with_sum}
use Rattle.live_server.specs.declared.marking.Marking.{Marking}

-- what holds of a list whose first elements stand one by one
abbrev Each : ℕ → (List ℕ → Type 0) → Type 0
Each zero P = (rest : List ℕ) → P rest
Each (suc n) P = (x : ℕ) → Each n (λ l. P (x ∷ l))

by_heads : (n : ℕ) (P : List ℕ → Type 0) → Each n P → (l : List ℕ) → n ≤ length l → P l
by_heads zero P f l h = f l
by_heads (suc n) P f [] h = absurd (omega (arith, h))
by_heads (suc n) P f (x ∷ l) h = by_heads n (λ r. P (x ∷ r)) (f x) l (omega (arith, h))

-- the header's sum with its field, where this was 0
sum_added : (sum : ℕ) → sum < 65536 → (bytes : List ℕ) → 20 ≤ length bytes → word_sum (take 20 (with_sum sum bytes)) ≡ word_sum (take 20 (with_sum 0 bytes)) + sum
sum_added sum small = by_heads 20 (λ l. word_sum (take 20 (with_sum sum l)) ≡ word_sum (take 20 (with_sum 0 l)) + sum)
    (λ a b c d e f g h i j k l m n o p q r s t rest. omega (arith, small))

-- what is set twice is what is set last
sum_again : (sum : ℕ) → (bytes : List ℕ) → 20 ≤ length bytes → with_sum sum (with_sum 0 bytes) ≡ with_sum sum bytes
sum_again sum = by_heads 20 (λ x. with_sum sum (with_sum 0 x) ≡ with_sum sum x) (λ a b c d e f g h i j k l m n o p q r s t rest. refl)

module _ (m : Marking) (bytes : List ℕ) (whole : 20 ≤ length bytes) where
  long_enough : ltb (length bytes) 20 ≡ false
  long_enough = grind (arith, nat_tests, whole)

  pub as_it_was : is_plain m ≡ true → marked_bytes m bytes ≡ bytes
  unfolding marked_bytes
  as_it_was plain = ap (λ (b : Bool). cond (b || ltb (length bytes) 20) bytes (with_own_sum (blank m bytes))) plain

  pub as_it_is_set : is_plain m ≡ false → marked_bytes m bytes ≡ with_own_sum (blank m bytes)
  unfolding marked_bytes
  as_it_is_set plain =
      ap (λ (b : Bool). cond (b || ltb (length bytes) 20) bytes (with_own_sum (blank m bytes))) plain
      ∙ ap (λ (b : Bool). cond b bytes (with_own_sum (blank m bytes))) long_enough

-- the sum of a header that is set
own_sum : (m : Marking) (bytes : List ℕ) → 20 ≤ length bytes → reduced (word_sum (take 20 (with_own_sum (blank m bytes)))) ≡ 65535
own_sum m bytes whole =
    let both = set (set bytes 1 (traffic m)) 8 (hops m) in
    let n = word_sum (take 20 (blank m bytes)) in
    let size : 20 ≤ length both = by_heads 20 (λ l. 20 ≤ length (set (set l 1 (traffic m)) 8 (hops m))) (λ a b c d e f g h i j k l o p q r s t u v rest. omega arith) bytes whole in
    let sum = 65535 - reduced n in
    let small : sum < 65536 = omega arith in
    ap (λ (l : List ℕ). reduced (word_sum (take 20 l))) (sum_again sum both size)
    ∙ ap reduced (sum_added sum small both size) ∙ sum_completes n

set_rest : (m : Marking) (sum : ℕ) → (bytes : List ℕ) → 20 ≤ length bytes → drop 20 (with_sum sum (blank m bytes)) ≡ drop 20 bytes
set_rest m sum = by_heads 20 (λ x. drop 20 (with_sum sum (blank m x)) ≡ drop 20 x) (λ a b c d e f g h i j k l n o p q r s t u rest. refl)

set_size : (m : Marking) (sum : ℕ) → (bytes : List ℕ) → 20 ≤ length bytes → length (with_sum sum (blank m bytes)) ≡ length bytes
set_size m sum = by_heads 20 (λ x. length (with_sum sum (blank m x)) ≡ length x) (λ a b c d e f g h i j k l n o p q r s t u rest. refl)

pub marks_a_header : MarksAHeader
marks_a_header m bytes whole = record { sum = λ set. ap (λ (l : List ℕ). reduced (word_sum (take 20 l))) (as_it_is_set m bytes whole set) ∙ own_sum m bytes whole; rest = rest (is_plain m) refl; size = size (is_plain m) refl }
  where
    sum : ℕ
    sum = 65535 - reduced (word_sum (take 20 (blank m bytes)))

    rest : (b : Bool) → is_plain m ≡ b → drop 20 (marked_bytes m bytes) ≡ drop 20 bytes
    rest true e = ap (drop 20) (as_it_was m bytes whole e)
    rest false e = ap (drop 20) (as_it_is_set m bytes whole e) ∙ set_rest m sum bytes whole

    size : (b : Bool) → is_plain m ≡ b → length (marked_bytes m bytes) ≡ length bytes
    size true e = ap (λ (l : List ℕ). length l) (as_it_was m bytes whole e)
    size false e = ap (λ (l : List ℕ). length l) (as_it_is_set m bytes whole e) ∙ set_size m sum bytes whole

-- a whole datagram without options, fragments or padding
record IsWhole (bytes : List ℕ) : Type 0 where
  size : 20 ≤ length bytes
  first : get_or bytes 0 0 ≡ 69
  total : word bytes 2 ≡ length bytes
  flags : word bytes 6 ≡ 16384
  protocol : get_or bytes 9 0 ≡ 6

whole_datagram : (bytes : List ℕ) → IsWhole bytes → packet_in RawIp bytes true ≡ tcp_packet true bytes (take 20 bytes) (drop 20 bytes) 20
unfolding packet_in ip_place datagram
whole_datagram bytes w =
    let some : ltb 0 (length bytes) ≡ true = grind (arith, nat_tests, w.size) in
    let t1 : eqb (length bytes) 0 ≡ false = grind (arith, nat_tests, w.size) in
    let t2 : ltb (length bytes) 20 ≡ false = grind (arith, nat_tests, w.size) in
    let t3 : ltb (length bytes) (length bytes) ≡ false = grind (arith, nat_tests) in
    let all : take (length bytes) bytes ≡ bytes = take_all (length bytes) bytes (omega arith) in
    simp (some, w.first, w.total, t1, t2, t3, w.flags, w.protocol, all)

module _ (m : Marking) (sum : ℕ) where
  set_whole : (bytes : List ℕ) → 20 ≤ length bytes → IsWhole bytes → IsWhole (with_sum sum (blank m bytes))
  unfolding word
  set_whole = by_heads 20 (λ x. IsWhole x → IsWhole (with_sum sum (blank m x)))
      (λ a b c d e f g h i j k l n o p q r s t u rest w. record { size = w.size; first = w.first; total = w.total; flags = w.flags; protocol = w.protocol })

  -- who reads looks at neither of the two, and at the sum only whether it holds
  same_tcp : (bytes : List ℕ) → 20 ≤ length bytes → reduced (word_sum (take 20 bytes)) ≡ 65535 → reduced (word_sum (take 20 (with_sum sum (blank m bytes)))) ≡ 65535
      → tcp_packet true (with_sum sum (blank m bytes)) (take 20 (with_sum sum (blank m bytes))) (drop 20 (with_sum sum (blank m bytes))) 20
      ≡ tcp_packet true bytes (take 20 bytes) (drop 20 bytes) 20
  unfolding tcp_packet sums_hold segment_of word long
  same_tcp = by_heads 20
      (λ x. reduced (word_sum (take 20 x)) ≡ 65535 → reduced (word_sum (take 20 (with_sum sum (blank m x)))) ≡ 65535
      → tcp_packet true (with_sum sum (blank m x)) (take 20 (with_sum sum (blank m x))) (drop 20 (with_sum sum (blank m x))) 20
      ≡ tcp_packet true x (take 20 x) (drop 20 x) 20)
      (λ a b c d e f g h i j k l n o p q r s t u rest here there. rw (here, there) refl)

  same_packet : (bytes : List ℕ) → IsWhole bytes → reduced (word_sum (take 20 bytes)) ≡ 65535 → reduced (word_sum (take 20 (with_sum sum (blank m bytes)))) ≡ 65535
      → packet_in RawIp (with_sum sum (blank m bytes)) true ≡ packet_in RawIp bytes true
  same_packet bytes w here there =
      whole_datagram (with_sum sum (blank m bytes)) (set_whole bytes w.size w) ∙ same_tcp bytes w.size here there ∙ sym (whole_datagram bytes w)

-- options are few whole words
record AreFew (o : Options) : Type 0 where
  words : ℕ
  size : length (option_bytes o) ≡ 4 * words
  few : words ≤ 10

are_words : (mss scale : Option ℕ) → AreFew (record { mss = mss; scale = scale })
are_words None None = record { words = 0; size = refl; few = omega arith }
are_words None (Some shift) = record { words = 1; size = refl; few = omega arith }
are_words (Some mss) None = record { words = 1; size = refl; few = omega arith }
are_words (Some mss) (Some shift) = record { words = 2; size = refl; few = omega arith }

-- the first header of a segment that is sent
module _ (t : Tuple) (r : Reply) where
  seg_long : 20 ≤ length (segment_bytes t r)
  unfolding segment_bytes
  seg_long = omega arith

  seg_whole : Fits t r → IsWhole (segment_bytes t r)
  unfolding segment_bytes word
  seg_whole fits =
      let words = are_words r.options.mss r.options.scale in
      record {
        size = omega arith;
        first = refl;
        total = omega (arith, words.size, words.few, length-tcp_with t r 0, length-tcp_with t r (tcp_sum t r), fits.text);
        flags = refl;
        protocol = refl;
      }

  seg_traffic : get_or (segment_bytes t r) 1 0 ≡ 0
  unfolding segment_bytes
  seg_traffic = refl

  seg_hops : get_or (segment_bytes t r) 8 0 ≡ 64
  unfolding segment_bytes
  seg_hops = refl

  seg_sum : reduced (word_sum (take 20 (segment_bytes t r))) ≡ 65535
  unfolding segment_bytes
  seg_sum = header_sums t (20 + length (tcp_with t r 0))

set_traffic : (m : Marking) (sum : ℕ) → (bytes : List ℕ) → 20 ≤ length bytes → get_or (with_sum sum (blank m bytes)) 1 0 ≡ traffic m
set_traffic m sum = by_heads 20 (λ x. get_or (with_sum sum (blank m x)) 1 0 ≡ traffic m) (λ a b c d e f g h i j k l n o p q r s t u rest. refl)

set_hops : (m : Marking) (sum : ℕ) → (bytes : List ℕ) → 20 ≤ length bytes → get_or (with_sum sum (blank m bytes)) 8 0 ≡ hops m
set_hops m sum = by_heads 20 (λ x. get_or (with_sum sum (blank m x)) 8 0 ≡ hops m) (λ a b c d e f g h i j k l n o p q r s t u rest. refl)

plain_hops : (m : Marking) → is_plain m ≡ true → 64 ≡ hops m
plain_hops m e = grind (arith, nat_tests, e)

plain_traffic : (m : Marking) → is_plain m ≡ true → 0 ≡ traffic m
plain_traffic m e = grind (arith, nat_tests, e)

module _ (m : Marking) (t : Tuple) (r : Reply) (fits : Fits t r) where
  abbrev here : List ℕ
  here = segment_bytes t r

  abbrev there : List ℕ
  there = marked_bytes m here

  its_traffic : (b : Bool) → is_plain m ≡ b → get_or there 1 0 ≡ traffic m
  its_traffic true e = ap (λ (l : List ℕ). get_or l 1 0) (as_it_was m here (seg_long t r) e) ∙ seg_traffic t r ∙ plain_traffic m e
  its_traffic false e = ap (λ (l : List ℕ). get_or l 1 0) (as_it_is_set m here (seg_long t r) e) ∙ set_traffic m _ here (seg_long t r)

  its_hops : (b : Bool) → is_plain m ≡ b → get_or there 8 0 ≡ hops m
  its_hops true e = ap (λ (l : List ℕ). get_or l 8 0) (as_it_was m here (seg_long t r) e) ∙ seg_hops t r ∙ plain_hops m e
  its_hops false e = ap (λ (l : List ℕ). get_or l 8 0) (as_it_is_set m here (seg_long t r) e) ∙ set_hops m _ here (seg_long t r)

  its_packet : (b : Bool) → is_plain m ≡ b → packet_in RawIp there true ≡ packet_in RawIp here true
  its_packet true e = ap (λ (l : List ℕ). packet_in RawIp l true) (as_it_was m here (seg_long t r) e)
  its_packet false e = ap (λ (l : List ℕ). packet_in RawIp l true) (as_it_is_set m here (seg_long t r) e)
      ∙ same_packet m _ here (seg_whole t r fits) (seg_sum t r) (own_sum m here (seg_long t r))

  pub read_marked : IsReadMarked m t r
  read_marked =
      let k = length (option_bytes r.options) in
      let same : 40 + k ≡ 20 + (20 + k) = omega arith in
      let rest = (marks_a_header m here (seg_long t r)).rest in
      let octet : get_or there 1 0 ≡ traffic m = its_traffic (is_plain m) refl in
      record {
        fields = its_packet (is_plain m) refl ∙ (reads_again t r fits).fields;
        text = ap (λ (n : ℕ). take (length r.text) (drop n there)) same
            ∙ ap (take (length r.text)) (sym (drop-drop (20 + k) 20 there) ∙ ap (drop (20 + k)) rest ∙ drop-drop (20 + k) 20 here)
            ∙ ap (λ (n : ℕ). take (length r.text) (drop n here)) (sym same) ∙ (reads_again t r fits).text;
        ttl = its_hops (is_plain m) refl;
        dscp = omega (arith, octet);
        ecn = omega (arith, octet);
      }

pub marked_is_read : MarkedIsRead
marked_is_read = read_marked

-- ---- it stays
chosen_marking : (b : Bool) (x y c : Conn) → x.marking ≡ c.marking → y.marking ≡ c.marking → (cond b x y).marking ≡ c.marking
chosen_marking true x y c first second = first
chosen_marking false x y c first second = second

taken_marking : (now iss : ℕ) (s : Seg) (text : List ℕ) (c : Conn) → (taken now iss s text c).marking ≡ c.marking
unfolding taken repaired
taken_marking now iss s text c = refl

allowed_marking : (now iss : ℕ) (s : Seg) (c : Conn) → (allowed now iss s c).marking ≡ c.marking
unfolding allowed
allowed_marking now iss s c =
    chosen_marking (is_allowed s c.tcb) (taken now iss (bared s c.tcb) [] c) c c (taken_marking now iss (bared s c.tcb) [] c) refl

after_marking : (j : Judged) (now iss : ℕ) (s : Seg) (text : List ℕ) (c : Conn) → (after j now iss s text c).marking ≡ c.marking
unfolding after challenged
after_marking Taken now iss s text c = taken_marking now iss s text c
after_marking Challenged now iss s text c = allowed_marking now iss s c
after_marking Unanswered now iss s text c = allowed_marking now iss s c
after_marking Late now iss s text c = refl

pub marking_stays : MarkingStays
unfolding emptied
marking_stays (segment now iss s text) c =
    let here = emptied (reached now c) in
    after_marking (judged now s text here) now iss s text here
marking_stays (time measures now) c = refl

pub path_keeps_marking : PathKeepsMarking
unfolding path_told shortened
path_keeps_marking seq most c = chosen_marking (is_heeded seq most c) (shortened most c) c c refl refl
