-- Numbers at a place of the bytes. The place of a datagram lies within the record's body, and where none begins there is no text.
use Rattle.std.proofs.Common.{◌≡◌, ℕ, ◌+◌, ◌-◌, ◌≤◌, ◌==◌, ◌&&◌, ◌⊎◌, nat_le, nat_lt, Bool, true, false, List, length, drop, slice_index, Result, inl, inr, refl, ap, ◌∙◌, arith, if◌then◌else◌}
use Rattle.std.specs.Prelude.{MatchResult}
use Rattle.std.proofs.lemmas.List.{get_or-drop}
use Rattle.byteorder.specs.Endian.{big_number}
use Rattle.std.proofs.lemmas.Bool.{ltb-false}
use Rattle.sq_base.specs.declared.kinds.Link.{Link}
use Rattle.sq_base.specs.declared.kinds.Link.TheVariants.{Ethernet, RawIp, Cooked}
use Rattle.segment_codec.specs.Places.{byte, word, long, high}
use Rattle.segment_codec.specs.Packet.{behind_header, ip_place}
use Rattle.segment_codec.specs.declared.packet.Packet.{Packet}
use Rattle.segment_codec.specs.declared.packet.Packet.TheVariants as packet

-- a byte of those from a place on
byte_read : (bytes : List ℕ) (at i k : ℕ) → at + i ≡ k → slice_index (drop at bytes) i ≡ slice_index bytes k
byte_read bytes at i k e = get_or-drop at bytes i 0 ∙ ap (λ j. slice_index bytes j) e

-- the number that is read from the bytes from a place on
pub word_read : (bytes : List ℕ) (at : ℕ) → big_number 2 (drop at bytes) ≡ word bytes at
unfolding word
word_read bytes at =
    let first = byte_read bytes at 0 at (omega arith) in
    let second = byte_read bytes at 1 (at + 1) (omega arith) in
    omega (arith, first, second)

pub long_read : (bytes : List ℕ) (at : ℕ) → big_number 4 (drop at bytes) ≡ long bytes at
unfolding word long
long_read bytes at =
    let first = byte_read bytes at 0 at (omega arith) in
    let second = byte_read bytes at 1 (at + 1) (omega arith) in
    let third = byte_read bytes at 2 (at + 2) (omega arith) in
    let fourth = byte_read bytes at 3 (at + 2 + 1) (omega arith) in
    omega (arith, first, second, third, fourth)

-- a place within so many bytes, or one of the answers without a segment
abbrev pub IsPlace : ℕ → Result ℕ Packet → Type 0
IsPlace n r = MatchResult r (λ at. at ≤ n) (λ answer. (answer ≡ packet.Cut) ⊎ (answer ≡ packet.Other))

by_if : (n : ℕ) (b : Bool) (x y : Result ℕ Packet) → (b ≡ true → IsPlace n x) → (b ≡ false → IsPlace n y) → IsPlace n (if b then x else y)
by_if n true x y f g = f refl
by_if n false x y f g = g refl

behind : (size : ℕ) (body : List ℕ) → IsPlace (length body) (behind_header size body)
unfolding behind_header
behind size body =
    by_if _ (nat_lt (length body) size) _ _ (λ e. inl refl) (λ e.
    by_if _ (word body (size - 2) == 0x0800) _ _ (λ f. omega (arith, ltb-false (length body) size e)) (λ f. inr refl))

pub place_within : (link : Link) (body : List ℕ) → IsPlace (length body) (ip_place link body)
unfolding ip_place
place_within Ethernet body = behind (if nat_le 14 (length body) && (word body 12 == 0x8100) then 18 else 14) body
place_within Cooked body = behind 16 body
place_within RawIp body = by_if _ (nat_lt 0 (length body) && (high (byte body 0) == 6)) _ _ (λ e. inr refl) (λ e. omega arith)
