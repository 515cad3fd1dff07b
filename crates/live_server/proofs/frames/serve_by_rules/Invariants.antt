use Rattle.std.proofs.Common.{◌≡◌, ◌++◌, List, length, true, false}
use Rattle.live_server.specs.Frames.{answers, frames_in, rest_of, serves_frames}
use Rattle.live_server.specs.Serving.{server_of}
use Rattle.live_server.specs.Told.{Told, told_frames}
use Rattle.live_server.proofs.AnsweredLemmas.{HasPassed}
use Rattle.live_server.proofs.frames.serve_by_rules.Given as goal

-- what is left leads where all led
abbrev pub invariant-frames : goal.invariant-frames
invariant-frames g l = record {
  good : g.T.ConnTable.good l.rules.table;
  sticky : l.fn.lost ≡ true → l.lost ≡ true;
  stops : l.goes_on ≡ false → l.lost ≡ l.fn.lost;
  so_far : List Told;
  told : l.lost ≡ false → g.T.ConnTable.tells l.fn.rules.table so_far l.rules.table;
  all : l.lost ≡ false
      → so_far ++ told_frames (frames_in l.rest) (server_of g.T.ConnTable.conns l.rules) ≡ told_frames (frames_in l.bytes) (server_of g.T.ConnTable.conns l.fn.rules);
  server : l.lost ≡ false
      → (serves_frames (frames_in l.rest) (server_of g.T.ConnTable.conns l.rules)).server ≡ (serves_frames (frames_in l.bytes) (server_of g.T.ConnTable.conns l.fn.rules)).server;
  sent : l.lost ≡ false → l.out.items ++ answers l.rest (server_of g.T.ConnTable.conns l.rules) ≡ l.fn.out.items ++ answers l.bytes (server_of g.T.ConnTable.conns l.fn.rules);
  rest : rest_of l.rest ≡ rest_of l.bytes;
  passed : HasPassed l.fn.out.items l.out.items l.rest l.bytes (server_of g.T.ConnTable.conns l.fn.rules) (server_of g.T.ConnTable.conns l.rules) l.lost;
}

abbrev pub decreases-frames : goal.decreases-frames
decreases-frames g l = length l.rest
