use Rattle.std.proofs.Common.{◌≡◌, ◌∙◌, ◌+◌, true, if◌then◌else◌, is_ok, vec_len, sym, ap, arith, length, take, drop, ◌++◌, length-append, length-take}
use Rattle.std.proofs.KnownBytes.{Consumes-trans}
use Rattle.capture_reader.proofs.source.read_within.Goals as goal

pub returns-in_err-map_err-clause-few : goal.returns-in_err-map_err-clause-few
returns-in_err-map_err-clause-few g c =
    let old = c.loop-bytes.bytes.items in
    let piece = take c.in-Ok.n c.read.new.buf in
    record {
      bytes = old ++ piece;
      taken = Consumes-trans _ _ _ old piece c.loop-bytes.invariant.taken c.in-Ok.ensures.bytes.0;
      count = omega (
        arith,
        length-append old piece,
        length-take c.in-Ok.n c.read.new.buf,
        length-take (1 + c.min-room.result) c.loop-bytes.buf,
        c.read.auto.buf,
        c.in-Ok.ensures.bound,
        c.min-room.ensures,
        c.len.ensures,
        c.loop-bytes.invariant.small,
        c.loop-bytes.bytes.ok.0,
      );
    }

pub returns-then-len-most-clause-few : goal.returns-then-len-most-clause-few
returns-then-len-most-clause-few g c =
    let old = c.loop-bytes.bytes.items in
    let piece = take c.in-Ok.n c.read.new.buf in
    record {
      bytes = old ++ piece;
      taken = Consumes-trans _ _ _ old piece c.loop-bytes.invariant.taken c.in-Ok.ensures.bytes.0;
      count = omega (
        arith,
        length-append old piece,
        length-take c.in-Ok.n c.read.new.buf,
        length-take (1 + c.min-room.result) c.loop-bytes.buf,
        c.read.auto.buf,
        c.in-Ok.ensures.bound,
        c.min-room.ensures,
        c.len.ensures,
        c.loop-bytes.invariant.small,
        c.loop-bytes.bytes.ok.0,
      );
    }

pub returns-then-len-most-clause-err : goal.returns-then-len-most-clause-err
returns-then-len-most-clause-err g c =
    let old = c.loop-bytes.bytes.items in
    let piece = take c.in-Ok.n c.read.new.buf in
    let ok : is_ok c.extend_from_slice.result ≡ true = sym c.map_err.ensures.variant ∙ ap is_ok c.in_ok-map_err.was in
    let given = c.read.new.buf ++ drop (1 + c.min-room.result) c.loop-bytes.buf in
    let grown : vec_len c.extend_from_slice.new.self ≡ vec_len c.loop-bytes.bytes + length (take c.in-Ok.n given) =
    c.extend_from_slice.ensures.len ∙ ap (λ t. if t then vec_len c.loop-bytes.bytes + length (take c.in-Ok.n given) else vec_len c.loop-bytes.bytes) ok in
    let many : length (old ++ piece) ≡ c.args.most + 1 = omega (
      arith,
      grown,
      length-append old piece,
      length-append c.read.new.buf (drop (1 + c.min-room.result) c.loop-bytes.buf),
      length-take c.in-Ok.n given,
      length-take c.in-Ok.n c.read.new.buf,
      length-take (1 + c.min-room.result) c.loop-bytes.buf,
      c.read.auto.buf,
      c.in-Ok.ensures.bound,
      c.min-room.ensures,
      c.len.ensures,
      c.len-in-loop-bytes.ensures,
      c.if-len-most.true,
      c.loop-bytes.invariant.small,
      c.loop-bytes.bytes.ok.0,
    ) in
    let told : c.len-then-len-most.result ≡ c.args.most + 1 = omega (
      arith,
      many,
      grown,
      length-append old piece,
      length-append c.read.new.buf (drop (1 + c.min-room.result) c.loop-bytes.buf),
      length-take c.in-Ok.n given,
      length-take c.in-Ok.n c.read.new.buf,
      c.read.auto.buf,
      c.in-Ok.ensures.bound,
      c.len-then-len-most.ensures,
    ) in
    (told, record { bytes = old ++ piece; taken = Consumes-trans _ _ _ old piece c.loop-bytes.invariant.taken c.in-Ok.ensures.bytes.0; count = many })
