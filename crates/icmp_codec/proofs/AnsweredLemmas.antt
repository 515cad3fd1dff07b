-- How a request is answered.
use Rattle.std.proofs.Common.{◌≡◌, ℕ, zero, suc, ◌+◌, ◌<◌, ◌≤◌, List, [], ◌∷◌, ◌++◌, length, drop, take, slice_index, Option, None, Some, Bool, true, false, refl, ap, ◌∙◌, arith, cond, eqb, leb, ◌&&◌}
use Rattle.std.proofs.lemmas.Bool.{false≢true}
use Rattle.std.proofs.lemmas.Bool.Decides.{nat_tests}
use Rattle.std.proofs.lemmas.List.{take_all, get_or-drop}
use Rattle.sq_base.specs.InternetSum.{word_sum, reduced}
use Rattle.segment_codec.specs.Places.{byte, word, long}
use Rattle.segment_codec.proofs.SumLemmas.{sum_completes}
use Rattle.icmp_codec.specs.EchoRequest.{PingOf, sum_holds, is_icmp, message_of, is_echo, message_in, echo_in, pong_in}
use Rattle.icmp_codec.specs.EchoReply.{ip_with, pong_with, ip_sum, pong_sum, total_of, pong_bytes}
use Rattle.icmp_codec.specs.Answered.{Fits, returned, ReadsAsReply, IsNoRequest}

-- a checksum makes the sum whole
word_sum-ip_with : (p : PingOf) (total sum : ℕ) → sum < 65536 → word_sum (ip_with p total sum) ≡ word_sum (ip_with p total 0) + sum
word_sum-ip_with p total sum h = omega arith

header_sums : (p : PingOf) (total : ℕ) → reduced (word_sum (ip_with p total (ip_sum p total))) ≡ 65535
unfolding ip_sum
header_sums p total = ap reduced (word_sum-ip_with p total (ip_sum p total) (omega arith)) ∙ sum_completes (word_sum (ip_with p total 0))

word_sum-pong_with : (p : PingOf) (sum : ℕ) → sum < 65536 → word_sum (pong_with p sum) ≡ word_sum (pong_with p 0) + sum
word_sum-pong_with p sum h = omega arith

message_sums : (p : PingOf) → reduced (word_sum (pong_with p (pong_sum p))) ≡ 65535
unfolding pong_sum
message_sums p = ap reduced (word_sum-pong_with p (pong_sum p) (omega arith)) ∙ sum_completes (word_sum (pong_with p 0))

holds : (bytes : List ℕ) → reduced (word_sum bytes) ≡ 65535 → sum_holds bytes ≡ true
holds bytes whole = ap (λ (n : ℕ). eqb n 65535) whole

-- a whole datagram without padding
is_whole : (ip : List ℕ) → 28 ≤ length ip → byte ip 0 ≡ 69 → word ip 2 ≡ length ip → word ip 6 ≡ 16384 → byte ip 9 ≡ 1 → sum_holds (take 20 ip) ≡ true → is_icmp ip ≡ true
unfolding is_icmp
is_whole ip size first total flags proto sum =
    let t1 : leb 20 (length ip) ≡ true = grind (arith, nat_tests) in
    let t2 : leb 28 (length ip) ≡ true = grind (arith, nat_tests) in
    let t3 : leb (length ip) (length ip) ≡ true = grind (arith, nat_tests) in
    simp (first, total, t1, t2, t3, flags, proto, sum)

is_reply : (message : List ℕ) → byte message 0 ≡ 0 → byte message 1 ≡ 0 → sum_holds message ≡ true → is_echo 0 message ≡ true
unfolding is_echo
is_reply message kind code sum = simp (kind, code, sum)

chosen : (a b : Bool) (x : Option PingOf) → a ≡ true → b ≡ true → cond (a && b) x None ≡ x
chosen true true x p q = refl
chosen true false x p q = absurd (false≢true q)
chosen false b x p q = absurd (false≢true p)

abbrev ping_of : ℕ → ℕ → List ℕ → PingOf
ping_of src dst rest = record { src = record { 0 = src }; dst = record { 0 = dst }; rest = rest }

same_ping : (a b a' b' : ℕ) (r r' : List ℕ) → a ≡ a' → b ≡ b' → r ≡ r' → ping_of a b r ≡ ping_of a' b' r'
same_ping a b a' b' r r' p q s = rw (p, q, s) refl

reply_read : (p : PingOf) → Fits p → pong_in (pong_bytes p) ≡ Some (returned p)
unfolding pong_bytes echo_in message_in word long
reply_read p fits =
    let total = total_of p in
    let ip = ip_with p total (ip_sum p total) in
    let message = pong_with p (pong_sum p) in
    let all = ip ++ message in
    let size : length all ≡ 24 + length p.rest = omega arith in
    let named : word all 2 ≡ length all = omega (arith, size, fits.most) in
    let uncut : take (word all 2) all ≡ all = take_all (word all 2) all (omega (arith, named)) in
    let said : message_of all ≡ message = ap (drop 20) uncut in
    let w : is_icmp all ≡ true = is_whole all (omega (arith, size, fits.least)) refl named refl refl (holds ip (header_sums p total)) in
    let e : is_echo 0 message ≡ true = is_reply message refl refl (holds message (message_sums p)) in
    chosen (is_icmp all) (is_echo 0 (message_of all)) (Some (message_in all)) w (ap (is_echo 0) said ∙ e)
    ∙ ap (λ (q : PingOf). Some q) (same_ping _ _ _ _ _ _ (omega (arith, fits.dst)) (omega (arith, fits.src)) (ap (drop 4) said))

reply_size : (p : PingOf) → length (pong_bytes p) ≡ total_of p
unfolding pong_bytes
reply_size p = omega arith

pub reads_as_reply : (p : PingOf) → Fits p → ReadsAsReply p
reads_as_reply p fits = record { reply = reply_read p fits; size = reply_size p }

-- a byte that is 0 is so among the first ones, or none is there
taken_zero : (n i : ℕ) (xs : List ℕ) → slice_index xs i ≡ 0 → slice_index (take n xs) i ≡ 0
taken_zero zero i xs e = refl
taken_zero (suc n) i [] e = refl
taken_zero (suc n) zero (x ∷ xs) e = e
taken_zero (suc n) (suc i) (x ∷ xs) e = taken_zero n i xs e

other_type : (message : List ℕ) → byte message 0 ≡ 0 → is_echo 8 message ≡ false
unfolding is_echo
other_type message kind = simp kind

pub passed_over : (a b : Bool) (x : Option PingOf) → b ≡ false → cond (a && b) x None ≡ None
passed_over true false x e = refl
passed_over true true x e = absurd (let no : ⊥ = cc in no)
passed_over false b x e = refl

pub no_request : (p : PingOf) → IsNoRequest (pong_bytes p)
unfolding pong_bytes echo_in
no_request p =
    let all = pong_bytes p in
    let kind : byte (message_of all) 0 ≡ 0 = get_or-drop 20 (take (word all 2) all) 0 0 ∙ taken_zero (word all 2) 20 all refl in
    passed_over (is_icmp all) (is_echo 8 (message_of all)) (Some (message_in all)) (other_type (message_of all) kind)
