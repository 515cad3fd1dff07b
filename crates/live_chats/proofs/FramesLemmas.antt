-- Frame by frame.
use Rattle.std.proofs.Common.{List, [], ◌∷◌, length, sym, ap, ◌∙◌, ◌==◌}
use Rattle.live_server.specs.Frames.{FrameOf, on_frame, serves_frames}
use Rattle.live_server.specs.Isolation.{IsTable}
use Rattle.live_server.specs.Serving.{ServerOf, on_datagram, on_time}
use Rattle.live_chats.specs.Chats.{Run, chats_of}
use Rattle.live_chats.specs.Ways.{ServerIsChats, way_datagram, way_of, way_time, ways}
use Rattle.live_chats.specs.Weaving.{ServersAreChats}
use Rattle.live_chats.proofs.RunLemmas.{IsRight, chosen_right, nothing_right, then_right}
use Rattle.live_chats.proofs.TimeLemmas.{time_right}
use Rattle.live_chats.proofs.WayLemmas.{datagram_right}
use Rattle.live_chats.proofs.WeaveLemmas.{chats_are_apart}

pub frame_right : (f : FrameOf) (sv : ServerOf) → IsTable sv → IsRight sv (way_of f sv) (on_frame f sv)
frame_right f sv table =
    chosen_right (length f.body == 0) sv (way_time f.at sv) (way_datagram f.at f.body sv) (on_time f.at sv) (on_datagram f.at f.body sv)
    (time_right f.at sv table) (datagram_right f.at f.body sv table)

pub frames_right : (fs : List FrameOf) (sv : ServerOf) → IsTable sv → IsRight sv (ways fs sv) (serves_frames fs sv)
frames_right [] sv table = nothing_right sv table
frames_right (f ∷ fs) sv table =
    let first = frame_right f sv table in
    let here : ServerOf = (on_frame f sv).server in
    then_right sv (way_of f sv) (ways fs here) (on_frame f sv) (serves_frames fs here) first (frames_right fs here first.table)

pub server_is_chats : ServerIsChats
server_is_chats fs sv table = (frames_right fs sv table).shows

pub servers_are_chats : ServersAreChats
servers_are_chats fs sv table =
    sym (ap (λ (r : Run). r.sent) (server_is_chats fs sv table)) ∙ (chats_are_apart sv.setting (ways fs sv) (chats_of sv)).0
