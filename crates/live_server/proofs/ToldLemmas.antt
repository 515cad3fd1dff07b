-- What connections are told, by the rules.
use Rattle.std.proofs.Common.{◌≡◌, ℕ, ◌+◌, Bool, true, false, cond, not, List, [], ◌∷◌, ◌++◌, drop, Option, None, Some, refl, sym, ap, ◌∙◌, append_assoc}
use Rattle.std.specs.Option.{option_map_or}
use Rattle.icmp_codec.specs.TooLong.{too_long_in}
use Rattle.icmp_codec.specs.declared.too_long.TooLong.{TooLong}
use Rattle.segment_codec.specs.Packet.{packet_in}
use Rattle.segment_codec.specs.Refusal.{tuple_of}
use Rattle.segment_codec.specs.SentIsRead.{text_in}
use Rattle.segment_codec.specs.declared.packet.Packet.{Packet}
use Rattle.segment_codec.specs.declared.packet.Packet.TheVariants as packet
use Rattle.segment_codec.specs.declared.packet.Seg.{Seg}
use Rattle.sq_base.specs.declared.kinds.Link.TheVariants.{RawIp}
use Rattle.live_server.specs.Acts.{is_over, new_conn}
use Rattle.live_server.specs.Addresses.{is_for_us, is_to_us}
use Rattle.live_server.specs.Frames.{FrameOf, body_size, frame_at, frames_in, is_end, on_frame, rest_of, serves_frames}
use Rattle.live_server.specs.Services.{is_served_at, service_at}
use Rattle.live_server.specs.Serving.{ServerOf, limited, makes_place, served}
use Rattle.live_server.specs.Told.{Told, told_addressed, told_datagram, told_frame, told_frames, told_other, told_packet, told_taking, told_too_long, told_admitting, told_urgent, told_urging}
use Rattle.live_server.specs.Told.Told.{hears}
use Rattle.live_server.specs.Table.{place_of}
use Rattle.live_server.specs.Urgent.{as_reset, reset_text, urgent_in}
use Rattle.live_server.specs.declared.conn.Conn.{Conn}
use Rattle.live_server.proofs.FrameLemmas.{frames_next}
use Rattle.live_server.proofs.PieceLemmas.{pieces_join_proof}

module _ (now : ℕ) (s : Seg) (text : List ℕ) (sv : ServerOf) where
  abbrev pub new_one : Conn
  new_one = served now s text sv (new_conn (service_at sv.setting now s.dst_port) sv.setting.segment sv.setting.marking now)

  pub admitting_told : (b : Bool) → is_over new_one ≡ b → told_admitting now s text sv ≡ cond b [] (told_taking (tuple_of s) (makes_place sv))
  unfolding told_admitting
  admitting_told b e = ap (λ (v : Bool). cond v [] (told_taking (tuple_of s) (makes_place sv))) e

  abbrev told_for : Option ℕ → Bool → Bool → List Told
  told_for pointer ours at_port = cond (not ours) [] (cond at_port (told_urgent now pointer (limited sv.setting.segment s) text sv) [])

  pub addressed_told : (pointer : Option ℕ) (ours at_port : Bool) → is_for_us sv.setting s ≡ ours → is_served_at sv.setting.ports s.dst_port ≡ at_port
      → told_addressed now pointer s text sv ≡ told_for pointer ours at_port
  unfolding told_addressed
  addressed_told pointer ours at_port e f = λ j. told_for pointer (e j) (f j)

-- where urgent data ends is told to the segment's own connection
pub urging_told : (pointer : Option ℕ) (p : ℕ) (s : Seg) (sv : ServerOf) (r : Option ℕ) → pointer ≡ Some p → place_of (tuple_of s) sv.conns ≡ r
    → told_urging pointer s sv ≡ option_map_or (λ place. hears (tuple_of s) ∷ []) r []
unfolding told_urging
urging_told pointer p s sv r is at = ap (λ (o : Option ℕ). told_urging o s sv) is ∙ ap (λ (o : Option ℕ). option_map_or (λ place. hears (tuple_of s) ∷ []) o []) at

pub unurged_told : (pointer : Option ℕ) (s : Seg) (sv : ServerOf) → pointer ≡ None → told_urging pointer s sv ≡ []
unfolding told_urging
unurged_told pointer s sv is = ap (λ (o : Option ℕ). told_urging o s sv) is

-- whom a router's message is told
pub path_told_by : (x : TooLong) (sv : ServerOf) (b : Bool) (r : Option ℕ) → is_to_us sv.setting x.src x.dst ≡ b → place_of x.ends sv.conns ≡ r
    → told_too_long x sv ≡ cond b (option_map_or (λ place. hears x.ends ∷ []) r []) []
unfolding told_too_long
path_told_by x sv b r e at = λ j. cond (e j) (option_map_or (λ place. hears x.ends ∷ []) (at j) []) []

module _ (now : ℕ) (body : List ℕ) (sv : ServerOf) where
  pub packet_told : (s : Seg) → packet_in RawIp body true ≡ packet.Segment s → told_datagram now body sv ≡ told_addressed now (urgent_in s body) (as_reset s) (reset_text s (text_in s body)) sv
  unfolding told_datagram told_packet
  packet_told s e = ap (λ p. told_packet now body p sv) e

  protocol_told : packet_in RawIp body true ≡ packet.Other → (r : Option TooLong) → too_long_in body ≡ r → told_datagram now body sv ≡ option_map_or (λ x. told_too_long x sv) r []
  unfolding told_datagram told_packet told_other
  protocol_told e r is = ap (λ p. told_packet now body p sv) e ∙ ap (λ o. option_map_or (λ x. told_too_long x sv) o []) is

  pub too_long_told : (x : TooLong) → packet_in RawIp body true ≡ packet.Other → too_long_in body ≡ Some x → told_datagram now body sv ≡ told_too_long x sv
  too_long_told x e is = protocol_told e (Some x) is

  pub unheard_told : packet_in RawIp body true ≡ packet.Other → too_long_in body ≡ None → told_datagram now body sv ≡ []
  unheard_told e is = protocol_told e None is

  no_segment : (p : Packet) → ((s : Seg) → p ≡ packet.Segment s → ⊥) → (p ≡ packet.Other → ⊥) → told_packet now body p sv ≡ []
  unfolding told_packet
  no_segment (packet.Segment s) segment other = absurd (segment s refl)
  no_segment packet.Other segment other = absurd (other refl)
  no_segment packet.Fragment segment other = refl
  no_segment packet.Cut segment other = refl
  no_segment (packet.Malformed why) segment other = refl
  no_segment packet.BadSum segment other = refl

  pub other_told : (p : Packet) → p ≡ packet_in RawIp body true → ((s : Seg) → p ≡ packet.Segment s → ⊥) → (p ≡ packet.Other → ⊥) → told_datagram now body sv ≡ []
  unfolding told_datagram
  other_told p is segment other = ap (λ q. told_packet now body q sv) (sym is) ∙ no_segment p segment other

-- one frame more
pub front_heard : (xs rest : List ℕ) (sv next : ServerOf) (so_far : List Told) → is_end xs ≡ false → rest ≡ drop (16 + body_size xs) xs
    → next ≡ (on_frame (frame_at xs) sv).server
    → (so_far ++ told_frame (frame_at xs) sv) ++ told_frames (frames_in rest) next ≡ so_far ++ told_frames (frames_in xs) sv
front_heard xs rest sv next so_far e cut served =
    append_assoc so_far (told_frame (frame_at xs) sv) (told_frames (frames_in rest) next)
    ∙ ap (λ l. so_far ++ l) ((λ j. told_frame (frame_at xs) sv ++ told_frames (frames_in (cut j)) (served j)) ∙ ap (λ fs. told_frames fs sv) (sym (frames_next xs e)))

told_append : (fs more : List FrameOf) (sv : ServerOf) → told_frames (fs ++ more) sv ≡ told_frames fs sv ++ told_frames more (serves_frames fs sv).server
told_append [] more sv = refl
told_append (f ∷ fs) more sv =
    ap (λ l. told_frame f sv ++ l) (told_append fs more (on_frame f sv).server)
    ∙ sym (append_assoc (told_frame f sv) (told_frames fs (on_frame f sv).server) (told_frames more (serves_frames fs (on_frame f sv).server).server))

-- one piece more
pub piece_heard : (there piece pending : List ℕ) (first next : ServerOf) → pending ≡ rest_of there → next ≡ (serves_frames (frames_in there) first).server
    → told_frames (frames_in there) first ++ told_frames (frames_in (pending ++ piece)) next ≡ told_frames (frames_in (there ++ piece)) first
piece_heard there piece pending first next left so_far =
    (λ j. told_frames (frames_in there) first ++ told_frames (frames_in (left j ++ piece)) (so_far j))
    ∙ sym (told_append (frames_in there) (frames_in (rest_of there ++ piece)) first)
    ∙ ap (λ fs. told_frames fs first) (sym (pieces_join_proof there piece).0)
