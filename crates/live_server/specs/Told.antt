-- What frames tell connections: which ones begin, and which ones hear a frame. A connection may leave at any time, and is told nothing then.
use Rattle.std.specs.Prelude.{ℕ, ◌==◌, not, true, Option, None, Some, List, [], ◌∷◌, ◌++◌, length, map, if◌then◌else◌}
use Rattle.std.specs.Map.{keys_of}
use Rattle.std.specs.Option.{option_map_or}
use Rattle.segment_codec.specs.Packet.{packet_in}
use Rattle.segment_codec.specs.Refusal.{tuple_of}
use Rattle.segment_codec.specs.SentIsRead.{text_in}
use Rattle.segment_codec.specs.declared.packet.Packet.{Packet}
use Rattle.segment_codec.specs.declared.packet.Packet.TheVariants as packet
use Rattle.segment_codec.specs.declared.packet.Seg.{Seg}
use Rattle.sq_base.specs.declared.kinds.Link.TheVariants.{RawIp}
use Rattle.sq_base.specs.declared.kinds.Tuple.{Tuple}
use Rattle.icmp_codec.specs.TooLong.{too_long_in}
use Rattle.icmp_codec.specs.declared.too_long.TooLong.{TooLong}
use Rattle.live_server.specs.Acts.{is_over, new_conn}
use Rattle.live_server.specs.Addresses.{is_for_us, is_to_us}
use Rattle.live_server.specs.Frames.{FrameOf, on_frame}
use Rattle.live_server.specs.Services.{is_served_at, service_at}
use Rattle.live_server.specs.Serving.{ServerOf, has_place, heeded, heeded_text, limited, makes_place, noting, served, time_to, urges_own}
use Rattle.live_server.specs.Table.{place_of}
use Rattle.live_server.specs.Urgent.{as_reset, reset_text, urgent_in}

pub data Told : Type 0 where
  -- a connection of these two ends begins
  begins : Tuple → Told
  -- the connection of these two ends hears a frame
  hears : Tuple → Told

-- the connection of two ends hears a frame, where there is one
abbrev pub told_its_own : Tuple → ServerOf → List Told
told_its_own t sv = option_map_or (λ place. hears t ∷ []) (place_of t sv.conns) []

-- a connection takes a place that is free
unfoldable pub told_taking : Tuple → ServerOf → List Told
told_taking t sv = if has_place sv then begins t ∷ [] else []

-- one begins, unless it is over at once
unfoldable pub told_admitting : ℕ → Seg → List ℕ → ServerOf → List Told
told_admitting now s text sv =
    let c = served now s text sv (new_conn (service_at sv.setting now s.dst_port) sv.setting.segment sv.setting.marking now) in
    if is_over c then [] else told_taking (tuple_of s) (makes_place sv)

-- so it is where a segment finds none, and the server doesn't drain
abbrev pub told_opening : ℕ → Seg → List ℕ → ServerOf → List Told
told_opening now s text sv = if sv.draining then [] else told_admitting now s text sv

unfoldable pub told_coming : ℕ → Seg → List ℕ → ServerOf → List Told
told_coming now s text sv = option_map_or (λ place. []) (place_of (tuple_of s) sv.conns) (told_opening now s text sv)

-- the connection of a segment hears it, and where the time ended that one, or there was none, one may begin
unfoldable pub told_segment : ℕ → Seg → List ℕ → ServerOf → List Told
told_segment now s text sv =
    let timed = (time_to now (tuple_of s) sv).server in
    told_its_own (tuple_of s) sv ++ told_coming now (heeded s text timed) (heeded_text text timed) (noting text timed)

-- the same behind what was noted
unfoldable pub told_arriving : ℕ → Seg → List ℕ → ServerOf → List Told
told_arriving now s text sv = told_its_own (tuple_of s) sv ++ told_coming now s text (time_to now (tuple_of s) sv).server

-- where urgent data ends is told to the segment's own connection
unfoldable pub told_urging : Option ℕ → Seg → ServerOf → List Told
told_urging None s sv = []
told_urging (Some pointer) s sv = told_its_own (tuple_of s) sv

unfoldable pub told_urgent : ℕ → Option ℕ → Seg → List ℕ → ServerOf → List Told
told_urgent now pointer s text sv = told_urging pointer s sv ++ told_segment now s text (urges_own now pointer s sv).server

unfoldable pub told_addressed : ℕ → Option ℕ → Seg → List ℕ → ServerOf → List Told
told_addressed now pointer s text sv =
    if not (is_for_us sv.setting s) then []
    else if is_served_at sv.setting.ports s.dst_port then told_urgent now pointer (limited sv.setting.segment s) text sv
    else []

-- the connection of a segment that was too long for a path hears it
unfoldable pub told_too_long : TooLong → ServerOf → List Told
told_too_long x sv = if is_to_us sv.setting x.src x.dst then told_its_own x.ends sv else []

unfoldable pub told_other : List ℕ → ServerOf → List Told
told_other body sv = option_map_or (λ x. told_too_long x sv) (too_long_in body) []

unfoldable pub told_packet : ℕ → List ℕ → Packet → ServerOf → List Told
told_packet now body (packet.Segment s) sv = told_addressed now (urgent_in s body) (as_reset s) (reset_text s (text_in s body)) sv
told_packet now body packet.Other sv = told_other body sv
told_packet now body packet.Fragment sv = []
told_packet now body packet.Cut sv = []
told_packet now body (packet.Malformed why) sv = []
told_packet now body packet.BadSum sv = []

unfoldable pub told_datagram : ℕ → List ℕ → ServerOf → List Told
told_datagram now body sv = told_packet now body (packet_in RawIp body true) sv

-- every connection hears the time
abbrev pub told_time : ServerOf → List Told
told_time sv = map hears (keys_of sv.conns)

abbrev pub told_frame : FrameOf → ServerOf → List Told
told_frame f sv = if length f.body == 0 then told_time sv else told_datagram f.at f.body sv

-- one frame after another
abbrev pub told_frames : List FrameOf → ServerOf → List Told
told_frames [] sv = []
told_frames (f ∷ fs) sv = told_frame f sv ++ told_frames fs (on_frame f sv).server
