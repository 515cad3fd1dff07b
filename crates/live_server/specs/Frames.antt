-- Frames, and a run of a server over them.
use Rattle.std.specs.Prelude.{◌≡◌, ℕ, zero, suc, ◌+◌, ◌==◌, nat_lt, ◌||◌, Bool, List, [], ◌∷◌, ◌++◌, length, take, drop, if◌then◌else◌, ◌-◌}
use Rattle.std.specs.List.{flat_map}
use Rattle.byteorder.specs.Endian.{big_bytes, big_number}
use Rattle.live_server.specs.Serving.{Outcome, ServerOf, on_datagram, on_time, sends_nothing}
use Rattle.live_server.specs.declared.acting.Datagram.{Datagram}
use Rattle.live_server.specs.Limits.{frame_head, most_body}
use Rattle.tcb_machine.specs.Limits.{last_time}

-- a time in microseconds, and a datagram; or none, and the time alone
pub record FrameOf : Type 0 where
  pub at : ℕ
  pub body : List ℕ

-- the length of the body in eight bytes, the time in eight, and the body
abbrev pub body_size : List ℕ → ℕ
body_size bytes = big_number 8 bytes

abbrev pub time_of : List ℕ → ℕ
time_of bytes = big_number 8 (drop 8 bytes)

-- a body is at most 65,535 bytes, and a time at most 2^62
abbrev pub is_broken : List ℕ → Bool
is_broken bytes = nat_lt most_body (body_size bytes) || nat_lt last_time (time_of bytes)

-- no frame begins here that is whole and isn't broken
abbrev pub is_end : List ℕ → Bool
is_end bytes = nat_lt (length bytes) frame_head || (is_broken bytes || nat_lt (length bytes) (frame_head + body_size bytes))

abbrev pub frame_at : List ℕ → FrameOf
frame_at bytes = record { at = time_of bytes; body = take (body_size bytes) (drop frame_head bytes) }

-- the whole frames, in order, behind so many bytes that belong to the frame before
abbrev pub frames_behind : ℕ → List ℕ → List FrameOf
frames_behind skipped [] = []
frames_behind (suc k) (x ∷ xs) = frames_behind k xs
frames_behind zero (x ∷ xs) =
    let here = x ∷ xs in
    if is_end here then [] else frame_at here ∷ frames_behind (frame_head - 1 + body_size here) xs

unfoldable pub frames_in : List ℕ → List FrameOf
frames_in bytes = frames_behind 0 bytes

-- what is left behind them
abbrev pub frame_size : FrameOf → ℕ
frame_size f = frame_head + length f.body

abbrev pub total_size : List FrameOf → ℕ
total_size [] = 0
total_size (f ∷ fs) = frame_size f + total_size fs

abbrev pub rest_of : List ℕ → List ℕ
rest_of bytes = drop (total_size (frames_in bytes)) bytes

abbrev pub on_frame : FrameOf → ServerOf → Outcome
on_frame f sv = if length f.body == 0 then on_time f.at sv else on_datagram f.at f.body sv

-- one frame after another
abbrev pub serves_frames : List FrameOf → ServerOf → Outcome
serves_frames [] sv = sends_nothing sv
serves_frames (f ∷ fs) sv =
    let here = on_frame f sv in
    let behind = serves_frames fs here.server in
    record { server = behind.server; sent = here.sent ++ behind.sent }

-- a datagram that is sent, as a frame
abbrev pub frame_of : Datagram → List ℕ
frame_of d = big_bytes 8 (length d.bytes) ++ big_bytes 8 d.at ++ d.bytes

-- what is written for an input
abbrev pub answers : List ℕ → ServerOf → List ℕ
answers input sv = flat_map frame_of (serves_frames (frames_in input) sv).sent

-- what was there stays, and behind it went frames
abbrev pub GrowsByFrames : List ℕ → List ℕ → Type 0
GrowsByFrames was is = (sent : List Datagram) × (is ≡ was ++ flat_map frame_of sent)

-- what is sent for so many of the first frames
abbrev pub HasAnswered : List ℕ → List ℕ → List FrameOf → ServerOf → Type 0
HasAnswered was is frames sv = (n : ℕ) × (is ≡ was ++ flat_map frame_of (serves_frames (take n frames) sv).sent)

-- an input in pieces is served as one: the frames of what is there and of more are its frames, and then those of what was left and more
abbrev pub PiecesJoin : Type 0
PiecesJoin =
    (there more : List ℕ)
    → (frames_in (there ++ more) ≡ frames_in there ++ frames_in (rest_of there ++ more)) × (rest_of (there ++ more) ≡ rest_of (rest_of there ++ more))
