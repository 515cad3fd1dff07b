use Rattle.std.proofs.Common.{◌≡◌, ◌∙◌, ℕ, List, false, ap, subst, sym}
use Rattle.std.specs.Prelude.{Err, IfOk, IfSome, OnOk}
use Rattle.std.specs.Io.KnownBytes.{Appends, Consumes}
use Rattle.live_server.specs.Frames.{answers, frames_in}
use Rattle.live_server.specs.Told.{told_frames}
use Rattle.live_run.specs.declared.fault.Fault.TheVariants as Fault'
use Rattle.live_run.specs.Fronts.{AppendsFront}
use Rattle.live_server.specs.Serving.{server_of as server_by}
use Rattle.live_rings.specs.Making.{server_of}
use Rattle.live_rings.proofs.Lives.{lived_still}
use Rattle.live_rings.proofs.ring.serve_by.Goals as goal

pub returns-clause-served : goal.returns-clause-served
returns-clause-served g c =
    let e = c.serve_stream-served.ensures in
    let same : c.in-Ok.setting ≡ c.args.setup.now.setting = subst (λ r. IfOk r (λ s. s ≡ c.args.setup.now.setting)) c.in-Ok.is c.share.ensures in
    let first : server_by g.T.ConnTable.conns c.over-rules.result ≡ server_of c.args.setup.now =
    c.over-rules.ensures.server
    ∙ ap (λ set. record (server_of c.args.setup.now) { conns = g.T.ConnTable.conns c.args.table; setting = set }) same
    ∙ ap (λ conns. record (server_of c.args.setup.now) { conns = conns }) c.requires.none in
    let lost = c.serve_stream-served.new.lost in
    record {
      written = subst (λ s. OnOk c.serve_stream-served.result (lost ≡ false → IfSome (g.S.Source.rest c.args.reader.now) (λ input. Appends (g.K.Sink.contents c.args.sink.now) (g.K.Sink.contents c.serve_stream-served.new.sink) (answers input s)))) first e.written;
      whole = e.whole;
      front = subst (λ s. lost ≡ false → IfSome (g.S.Source.rest c.args.reader.now) (λ input. AppendsFront (g.K.Sink.contents c.args.sink.now) (g.K.Sink.contents c.serve_stream-served.new.sink) (answers input s))) first e.front;
      framed = e.framed;
      stops = λ no. e.stops no;
      reading = e.reading;
      writing = e.writing;
      frames = e.frames;
      answered = subst (λ s. c.serve_stream-served.result ≡ Err Fault'.Frames → lost ≡ false → IfSome (g.S.Source.rest c.args.reader.now) (λ input. Appends (g.K.Sink.contents c.args.sink.now) (g.K.Sink.contents c.serve_stream-served.new.sink) (answers input s))) first e.answered;
      so_far = subst (λ s. c.serve_stream-served.result ≡ Err Fault'.Reading → lost ≡ false
          → (there : List ℕ) × Consumes (g.S.Source.rest c.args.reader.now) (g.S.Source.rest c.serve_stream-served.new.source) there × Appends (g.K.Sink.contents c.args.sink.now) (g.K.Sink.contents c.serve_stream-served.new.sink) (answers there s)) first e.so_far;
      words = e.words;
    }

pub returns-clause-told : goal.returns-clause-told
returns-clause-told g c =
    let e = c.serve_stream-served.ensures in
    let same : c.in-Ok.setting ≡ c.args.setup.now.setting = subst (λ r. IfOk r (λ s. s ≡ c.args.setup.now.setting)) c.in-Ok.is c.share.ensures in
    let first : server_by g.T.ConnTable.conns c.over-rules.result ≡ server_of c.args.setup.now =
    c.over-rules.ensures.server
    ∙ ap (λ set. record (server_of c.args.setup.now) { conns = g.T.ConnTable.conns c.args.table; setting = set }) same
    ∙ ap (λ conns. record (server_of c.args.setup.now) { conns = conns }) c.requires.none in
    let lost = c.serve_stream-served.new.lost in
    lived_still (λ input. g.T.ConnTable.tells c.over-rules.result.table (told_frames (frames_in input) (server_by g.T.ConnTable.conns c.over-rules.result)) c.serve_stream-served.new.rules.table)
    (λ input. g.T.ConnTable.tells c.args.table (told_frames (frames_in input) (server_of c.args.setup.now)) c.into_table.result)
    c.serve_stream-served.result lost (g.S.Source.rest c.args.reader.now)
    (λ input told. subst (λ t. g.T.ConnTable.tells c.args.table (told_frames (frames_in input) (server_of c.args.setup.now)) t) (sym c.into_table.ensures)
    (subst (λ t. g.T.ConnTable.tells t (told_frames (frames_in input) (server_of c.args.setup.now)) c.serve_stream-served.new.rules.table) c.over-rules.ensures.table
    (subst (λ s. g.T.ConnTable.tells c.over-rules.result.table (told_frames (frames_in input) s) c.serve_stream-served.new.rules.table) first told))) e.told
