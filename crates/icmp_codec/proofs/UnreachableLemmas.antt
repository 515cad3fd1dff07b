-- What a router says of a datagram that didn't arrive is told by nothing else.
use Rattle.std.proofs.Common.{◌≡◌, ℕ, ◌==◌, ◌&&◌, ◌||◌, Bool, true, false, cond, List, Option, None, Some, option_map, refl, sym, ap, ◌∙◌}
use Rattle.std.proofs.lemmas.Bool.{and_parts, eqb-true}
use Rattle.segment_codec.specs.Places.{byte}
use Rattle.icmp_codec.specs.EchoRequest.{echo_in, is_echo, is_icmp, message_in, message_of, sum_holds}
use Rattle.icmp_codec.specs.TooLong.{is_too_long, told_in, too_long_in}
use Rattle.icmp_codec.specs.Unreachable.{IsNotPing, IsNotSegment, IsNotTooLong, away_by, cause_by, quotes_segment, reported_in, unreachable_in}
use Rattle.icmp_codec.specs.declared.unreachable.Cause.{Cause}
use Rattle.icmp_codec.specs.declared.unreachable.Unreachable.{Unreachable}
use Rattle.icmp_codec.proofs.RequestLemmas.{icmp_is_other}

-- it is a whole message, and has a cause
found : (b : Bool) (ip : List ℕ) (r : Option Cause) (x : Unreachable) → cond b (option_map (reported_in ip) r) None ≡ Some x → (b ≡ true) × ((c : Cause) × (r ≡ Some c))
found true ip None x e = absurd (cc)
found true ip (Some c) x e = (refl, (c, refl))
found false ip r x e = absurd (cc)

cause_found : (ip : List ℕ) (x : Unreachable) → unreachable_in ip ≡ Some x
    → (is_icmp ip ≡ true) × ((c : Cause) × (cause_by (byte (message_of ip) 0) (byte (message_of ip) 1) ≡ Some c))
unfolding unreachable_in
cause_found ip x e =
    let h = found (is_icmp ip && quotes_segment (message_of ip)) ip (cause_by (byte (message_of ip) 0) (byte (message_of ip) 1)) x e in
    ((and_parts _ _ h.0).0, h.1)

-- so a message of another form is none
passed : {A : Type 0} (a b : Bool) (some : Option A) → b ≡ false → cond (a && b) some None ≡ None
passed true b some e = ap (λ (v : Bool). cond v some None) e
passed false b some e = refl

-- a type and a code without a cause
none_is : (kind code : ℕ) (c : Cause) → cause_by kind code ≡ None → cause_by kind code ≡ Some c → ⊥
none_is kind code c none some = cc

long_has_none : cause_by 3 4 ≡ None
unfolding cause_by away_by
long_has_none = refl

ping_has_none : (code : ℕ) → cause_by 8 code ≡ None
unfolding cause_by
ping_has_none code = refl

not_long : (message : List ℕ) (c : Cause) → cause_by (byte message 0) (byte message 1) ≡ Some c → (b : Bool) → is_too_long message ≡ b → b ≡ false
unfolding is_too_long
not_long message c e false is = refl
not_long message c e true is =
    let parts = and_parts _ _ (and_parts _ _ is).1 in
    let kind : byte message 0 ≡ 3 = eqb-true _ _ parts.0 in
    let code : byte message 1 ≡ 4 = eqb-true _ _ (and_parts _ _ parts.1).0 in
    absurd (none_is 3 4 c long_has_none (sym (λ j. cause_by (kind j) (code j)) ∙ e))

not_echo : (message : List ℕ) (c : Cause) → cause_by (byte message 0) (byte message 1) ≡ Some c → (b : Bool) → is_echo 8 message ≡ b → b ≡ false
unfolding is_echo
not_echo message c e false is = refl
not_echo message c e true is =
    let kind : byte message 0 ≡ 8 = eqb-true _ _ (and_parts _ _ is).0 in
    absurd (none_is 8 (byte message 1) c (ping_has_none (byte message 1)) (sym (ap (λ k. cause_by k (byte message 1)) kind) ∙ e))

pub not_too_long : IsNotTooLong
unfolding too_long_in
not_too_long ip x e =
    let h = cause_found ip x e in
    passed (is_icmp ip) (is_too_long (message_of ip)) (Some (told_in ip)) (not_long (message_of ip) h.1.0 h.1.1 (is_too_long (message_of ip)) refl)

pub not_ping : IsNotPing
unfolding echo_in
not_ping ip x e =
    let h = cause_found ip x e in
    passed (is_icmp ip) (is_echo 8 (message_of ip)) (Some (message_in ip)) (not_echo (message_of ip) h.1.0 h.1.1 (is_echo 8 (message_of ip)) refl)

pub not_segment : IsNotSegment
not_segment ip x verify e = icmp_is_other ip verify (cause_found ip x e).0
