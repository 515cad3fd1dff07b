use Rattle.std.proofs.Common.{◌≡◌, ◌≢◌, ◌++◌, ◌∙◌, ◌<◌, [], None, length, refl, rules, subst, sym, take, OnErr, Result}
use Rattle.std.proofs.KnownBytes.{Appends-nil, Appends-trans, Consumes-kept, Consumes-nil, Consumes-trans}
use Rattle.std.specs.Io.KnownBytes.{Appends, Consumes}
use Rattle.live_server.specs.Frames.{frames_in, rest_of, serves_frames}
use Rattle.live_server.specs.Serving.{server_of}
use Rattle.live_server.proofs.ArriveLemmas.{not_yet}
use Rattle.live_server.proofs.PieceLemmas.{piece_answered, piece_left, piece_served}
use Rattle.live_server.proofs.ToldLemmas.{piece_heard}
use Rattle.live_run.proofs.FrontLemmas.{broken_answered, broken_left, frames_written, no_frames_written, wrote_further, wrote_so_far}
use Rattle.live_run.proofs.ReadLemmas.{all_read, front_read, map_ok, not_failed, nothing_read, on_ok}
use Rattle.live_run.specs.declared.fault.Fault.{Fault}
use Rattle.live_run.proofs.frames.serve_pieces.Goals as goal

pub pieces-init : goal.pieces-init
unfolding frames_in
pieces-init g c = record {
  there = [];
  read = Consumes-nil _;
  good = c.requires.good;
  sticky = λ was. was;
  stops = λ ends. refl;
  server = λ still. refl;
  written = λ still. Appends-nil _;
  told = λ still. g.met.T.ConnTable.tells_nothing c.args.rules.now.table;
  framed = no_frames_written _;
  left = c.room_for_pieces-pending.ensures;
  read_well = refl;
  written_well = refl;
}

pub returns-in_default-clause-front : goal.returns-in_default-clause-front
returns-in_default-clause-front g c = λ still.
    let so_far = c.pieces.invariant in
    front_read _ _ so_far.there _ so_far.read (wrote_so_far so_far.there c.pieces.pending.items (server_of g.T.ConnTable.conns c.args.rules.now) (server_of g.T.ConnTable.conns c.pieces.rules) so_far.left (so_far.server still) _ _ (so_far.written still))

pub returns-then-read-eq0-clause-front : goal.returns-then-read-eq0-clause-front
returns-then-read-eq0-clause-front g c = λ still.
    let so_far = c.pieces.invariant in
    front_read _ _ so_far.there _ so_far.read (wrote_so_far so_far.there c.pieces.pending.items (server_of g.T.ConnTable.conns c.args.rules.now) (server_of g.T.ConnTable.conns c.pieces.rules) so_far.left (so_far.server still) _ _ (so_far.written still))

pub returns-clause-front : goal.returns-clause-front
returns-clause-front g c = λ still.
    let so_far = c.pieces.invariant in
    front_read _ _ so_far.there _ so_far.read (wrote_so_far so_far.there c.pieces.pending.items (server_of g.T.ConnTable.conns c.args.rules.now) (server_of g.T.ConnTable.conns c.pieces.rules) so_far.left (so_far.server still) _ _ (so_far.written still))

pub returns-in-Err-clause-front : goal.returns-in-Err-clause-front
returns-in-Err-clause-front g c = λ still.
    let so_far = c.pieces.invariant in
    let before = not_yet c.pieces.lost c.serve_piece.new.lost c.serve_piece.ensures.sticky still in
    let got = take c.in-Ok.read c.read.new.buf in
    front_read _ _ (so_far.there ++ got) _ (Consumes-trans _ _ _ so_far.there got so_far.read c.in-Ok.ensures.bytes.0)
    (wrote_further so_far.there c.pieces.pending.items (server_of g.T.ConnTable.conns c.args.rules.now) (server_of g.T.ConnTable.conns c.pieces.rules) so_far.left (so_far.server before) _ _ (so_far.written before) got _ (c.in-Err.ensures.front still))

pub returns-in-Err-clause-frames : goal.returns-in-Err-clause-frames
returns-in-Err-clause-frames g c = λ is.
    let so_far = c.pieces.invariant in
    let first = server_of g.T.ConnTable.conns c.args.rules.now in
    let got = take c.in-Ok.read c.read.new.buf in
    let broken = c.in-Err.ensures.frames is in
    front_read _ _ (so_far.there ++ got) _ (Consumes-trans _ _ _ so_far.there got so_far.read c.in-Ok.ensures.bytes.0)
    (broken_left so_far.there c.pieces.pending.items first (serves_frames (frames_in so_far.there) first).server so_far.left refl None None tt got broken.0 broken.1)

pub returns-in-Err-clause-answered : goal.returns-in-Err-clause-answered
returns-in-Err-clause-answered g c = λ is still.
    let so_far = c.pieces.invariant in
    let before = not_yet c.pieces.lost c.serve_piece.new.lost c.serve_piece.ensures.sticky still in
    let got = take c.in-Ok.read c.read.new.buf in
    let broken = c.in-Err.ensures.frames is in
    front_read _ _ (so_far.there ++ got) _ (Consumes-trans _ _ _ so_far.there got so_far.read c.in-Ok.ensures.bytes.0)
    (broken_answered so_far.there c.pieces.pending.items (server_of g.T.ConnTable.conns c.args.rules.now) (server_of g.T.ConnTable.conns c.pieces.rules) so_far.left (so_far.server before) _ _ (so_far.written before) got broken.0 broken.1 _
    (c.in-Err.ensures.answered is still))

pub pieces-preserved : goal.pieces-preserved
pieces-preserved g c =
    let so_far = c.pieces.invariant in
    let first = server_of g.T.ConnTable.conns c.args.rules.now in
    let got = take c.in-Ok.read c.read.new.buf in
    let before = not_yet c.pieces.lost c.serve_piece.new.lost c.serve_piece.ensures.sticky in
    record {
      there = so_far.there ++ got;
      read = Consumes-trans _ _ _ so_far.there got so_far.read c.in-Ok.ensures.bytes.0;
      good = c.serve_piece.ensures.good;
      sticky = λ was. c.serve_piece.ensures.sticky (so_far.sticky was);
      stops = λ ends. c.serve_piece.ensures.stops ends ∙ so_far.stops ends;
      server = λ still. c.in_default-serve_piece.ensures.server still
          ∙ piece_served so_far.there got c.pieces.pending.items first (server_of g.T.ConnTable.conns c.pieces.rules) so_far.left (so_far.server (before still));
      written = λ still. subst (Appends _ _) (piece_answered so_far.there got c.pieces.pending.items first (server_of g.T.ConnTable.conns c.pieces.rules) so_far.left (so_far.server (before still)))
          (Appends-trans _ _ _ _ _ (so_far.written (before still)) (c.in_default-serve_piece.ensures.written still));
      told = λ still. subst (λ ws. g.T.ConnTable.tells c.args.rules.now.table ws c.serve_piece.new.rules.table)
          (piece_heard so_far.there got c.pieces.pending.items first (server_of g.T.ConnTable.conns c.pieces.rules) so_far.left (so_far.server (before still)))
          (g.met.T.ConnTable.tells_on c.args.rules.now.table c.pieces.rules.table c.serve_piece.new.rules.table _ _ (so_far.told (before still))
          (c.in_default-serve_piece.ensures.told still));
      framed = frames_written _ _ _ so_far.framed (c.in_default-serve_piece.ensures.framed (not_failed _ _));
      left = c.in_default-serve_piece.ensures.left ∙ piece_left so_far.there got c.pieces.pending.items first (serves_frames (frames_in so_far.there) first).server so_far.left refl;
      read_well = c.in-Ok.ensures.kept ∙ so_far.read_well;
      written_well = c.in_default-serve_piece.ensures.kept ∙ so_far.written_well;
    }

pub returns-then-read-eq0-clause-written : goal.returns-then-read-eq0-clause-written
returns-then-read-eq0-clause-written g c =
    let so_far = c.pieces.invariant in
    let got = take c.in-Ok.read c.read.new.buf in
    let nothing : c.in-Ok.read ≡ 0 = search rules in
    let room : 0 < length c.read.new.buf = search rules in
    let read = subst (Consumes _ _) (nothing_read c.in-Ok.read so_far.there c.read.new.buf nothing) (Consumes-trans _ _ _ so_far.there got so_far.read c.in-Ok.ensures.bytes.0) in
    on_ok c.end_of.result _ (λ still. all_read _ _ so_far.there _ read (c.in-Ok.ensures.bytes.1 nothing room) (so_far.written still))

pub returns-then-read-eq0-clause-told : goal.returns-then-read-eq0-clause-told
returns-then-read-eq0-clause-told g c =
    let so_far = c.pieces.invariant in
    let got = take c.in-Ok.read c.read.new.buf in
    let nothing : c.in-Ok.read ≡ 0 = search rules in
    let room : 0 < length c.read.new.buf = search rules in
    let read = subst (Consumes _ _) (nothing_read c.in-Ok.read so_far.there c.read.new.buf nothing) (Consumes-trans _ _ _ so_far.there got so_far.read c.in-Ok.ensures.bytes.0) in
    on_ok c.end_of.result _ (λ still. all_read _ _ so_far.there _ read (c.in-Ok.ensures.bytes.1 nothing room) (so_far.told still))

pub returns-then-read-eq0-clause-whole : goal.returns-then-read-eq0-clause-whole
returns-then-read-eq0-clause-whole g c =
    let so_far = c.pieces.invariant in
    let got = take c.in-Ok.read c.read.new.buf in
    let nothing : c.in-Ok.read ≡ 0 = search rules in
    let room : 0 < length c.read.new.buf = search rules in
    let read = subst (Consumes _ _) (nothing_read c.in-Ok.read so_far.there c.read.new.buf nothing) (Consumes-trans _ _ _ so_far.there got so_far.read c.in-Ok.ensures.bytes.0) in
    map_ok c.end_of.result _ _ (λ none. all_read _ _ so_far.there (λ input. rest_of input ≡ []) read (c.in-Ok.ensures.bytes.1 nothing room) (sym so_far.left ∙ sym c.as_slice.ensures.value ∙ none)) c.end_of.ensures.ok

pub returns-then-read-eq0-clause-frames : goal.returns-then-read-eq0-clause-frames
returns-then-read-eq0-clause-frames g c = λ is.
    let so_far = c.pieces.invariant in
    let got = take c.in-Ok.read c.read.new.buf in
    let nothing : c.in-Ok.read ≡ 0 = search rules in
    let room : 0 < length c.read.new.buf = search rules in
    let read = subst (Consumes _ _) (nothing_read c.in-Ok.read so_far.there c.read.new.buf nothing) (Consumes-trans _ _ _ so_far.there got so_far.read c.in-Ok.ensures.bytes.0) in
    let some : c.as_slice.result.now ≢ [] = subst (λ (r : Result (Unit {0}) Fault). OnErr r (c.as_slice.result.now ≢ [])) is c.end_of.ensures.err in
    all_read _ _ so_far.there (λ input. rest_of input ≢ []) read (c.in-Ok.ensures.bytes.1 nothing room) (λ none. some (c.as_slice.ensures.value ∙ so_far.left ∙ none))

pub returns-then-read-eq0-clause-answered : goal.returns-then-read-eq0-clause-answered
returns-then-read-eq0-clause-answered g c = λ is still.
    let so_far = c.pieces.invariant in
    let got = take c.in-Ok.read c.read.new.buf in
    let nothing : c.in-Ok.read ≡ 0 = search rules in
    let room : 0 < length c.read.new.buf = search rules in
    let read = subst (Consumes _ _) (nothing_read c.in-Ok.read so_far.there c.read.new.buf nothing) (Consumes-trans _ _ _ so_far.there got so_far.read c.in-Ok.ensures.bytes.0) in
    all_read _ _ so_far.there _ read (c.in-Ok.ensures.bytes.1 nothing room) (so_far.written still)

pub returns-in_default-clause-so_far : goal.returns-in_default-clause-so_far
returns-in_default-clause-so_far g c = λ is still.
    let so_far = c.pieces.invariant in
    (so_far.there, Consumes-kept _ _ _ so_far.there so_far.read c.in_default.ensures.bytes, so_far.written still)

pub returns-in-Err-clause-framed : goal.returns-in-Err-clause-framed
returns-in-Err-clause-framed g c = λ well. frames_written _ _ _ c.pieces.invariant.framed (c.in-Err.ensures.framed well)
