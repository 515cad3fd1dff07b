use Rattle.std.proofs.Common.{◌≡◌, ℕ, List, false, true}
use Rattle.std.specs.Io.KnownBytes.{Appends, Consumes}
use Rattle.live_server.specs.Frames.{answers, frames_in, rest_of, serves_frames}
use Rattle.live_server.specs.Serving.{server_of}
use Rattle.live_server.specs.Told.{told_frames}
use Rattle.live_run.specs.Fronts.{AppendsFrames}
use Rattle.live_run.proofs.frames.serve_pieces.Given as goal

-- what was read was served, but for what is left of it, and met no fault
abbrev pub invariant-pieces : goal.invariant-pieces
invariant-pieces g l = record {
  there : List ℕ;
  read : Consumes (g.S.Source.rest l.fn.source) (g.S.Source.rest l.source) there;
  good : g.T.ConnTable.good l.rules.table;
  sticky : l.fn.lost ≡ true → l.lost ≡ true;
  stops : l.goes_on ≡ false → l.lost ≡ l.fn.lost;
  server : l.lost ≡ false → server_of g.T.ConnTable.conns l.rules ≡ (serves_frames (frames_in there) (server_of g.T.ConnTable.conns l.fn.rules)).server;
  written : l.lost ≡ false → Appends (g.K.Sink.contents l.fn.sink) (g.K.Sink.contents l.sink) (answers there (server_of g.T.ConnTable.conns l.fn.rules));
  told : l.lost ≡ false → g.T.ConnTable.tells l.fn.rules.table (told_frames (frames_in there) (server_of g.T.ConnTable.conns l.fn.rules)) l.rules.table;
  framed : AppendsFrames (g.K.Sink.contents l.fn.sink) (g.K.Sink.contents l.sink);
  left : l.pending.items ≡ rest_of there;
  read_well : g.S.Source.read_faults l.source ≡ g.S.Source.read_faults l.fn.source;
  written_well : g.K.Sink.write_faults l.sink ≡ g.K.Sink.write_faults l.fn.sink;
}
