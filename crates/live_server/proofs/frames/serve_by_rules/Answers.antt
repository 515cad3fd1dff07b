use Rattle.std.proofs.Common.{rules, ◌≡◌, ◌∙◌, ◌++◌, ◌+◌, ap, sym, append-nil, drop, true, false, subst, refl, []}
use Rattle.std.specs.List.{flat_map}
use Rattle.live_server.specs.Frames.{body_size, frame_at, frame_of, is_end, serves_frames}
use Rattle.live_server.specs.Serving.{ServerOf, server_of}
use Rattle.live_server.proofs.AnsweredLemmas.{more_frames, passed_framed, passed_more, passed_none, passed_on_err}
use Rattle.live_server.proofs.FrameLemmas.{front_served, front_told, frames_last, rest_last, rest_next}
use Rattle.live_server.specs.Told.{told_frame, told_frames}
use Rattle.live_server.proofs.ArriveLemmas.{not_yet}
use Rattle.live_server.proofs.LossLemmas.{on_err}
use Rattle.live_server.proofs.ToldLemmas.{front_heard}
use Rattle.live_server.proofs.frames.serve_by_rules.Goals as goal

pub frames-preserved : goal.frames-preserved
frames-preserved g c =
    let xs = c.frames.rest.now in
    let before : ServerOf = server_of g.T.ConnTable.conns c.frames.rules in
    let after : ServerOf = server_of g.T.ConnTable.conns c.serve_next.new.rules in
    let begins : is_end xs ≡ false = search rules in
    let cut : c.split_at.result.1.now ≡ drop (16 + body_size xs) xs = c.split_at.ensures.back ∙ ap (λ n. drop n xs) c.frame_size.ensures.value in record {
      good = c.serve_next.ensures.good;
      sticky = λ was. c.serve_next.ensures.sticky (c.frames.invariant.sticky was);
      stops = λ ends. c.serve_next.ensures.stops ends ∙ c.frames.invariant.stops ends;
      so_far = c.frames.invariant.so_far ++ told_frame (frame_at xs) before;
      told = λ still. g.met.T.ConnTable.tells_on c.args.rules.now.table c.frames.rules.table c.serve_next.new.rules.table c.frames.invariant.so_far
          (told_frame (frame_at xs) before) (c.frames.invariant.told (not_yet c.frames.lost c.serve_next.new.lost c.serve_next.ensures.sticky still))
          (c.in_ok-serve_next.ensures.told still);
      all = λ still. front_heard xs c.split_at.result.1.now before after c.frames.invariant.so_far begins cut (c.in_ok-serve_next.ensures.server still)
          ∙ c.frames.invariant.all (not_yet c.frames.lost c.serve_next.new.lost c.serve_next.ensures.sticky still);
      server = λ still. front_served xs c.split_at.result.1.now before after begins cut (c.in_ok-serve_next.ensures.server still)
          ∙ c.frames.invariant.server (not_yet c.frames.lost c.serve_next.new.lost c.serve_next.ensures.sticky still);
      sent = λ still. front_told xs c.split_at.result.1.now before after begins cut (c.in_ok-serve_next.ensures.server still) c.frames.out.items c.serve_next.new.out.items (c.in_ok-serve_next.ensures.sent still)
          ∙ c.frames.invariant.sent (not_yet c.frames.lost c.serve_next.new.lost c.serve_next.ensures.sticky still);
      rest = rest_next xs c.split_at.result.1.now begins cut ∙ c.frames.invariant.rest;
      passed = passed_more c.args.out.now.items c.frames.out.items c.serve_next.new.out.items xs c.split_at.result.1.now c.args.bytes.now
          (server_of g.T.ConnTable.conns c.args.rules.now) before after c.frames.lost c.serve_next.new.lost
          (not_yet c.frames.lost c.serve_next.new.lost c.serve_next.ensures.sticky) c.frames.invariant.passed
          begins cut c.in_ok-serve_next.ensures.server c.in_ok-serve_next.ensures.sent c.serve_next.ensures.framed;
    }

pub returns-clause-server : goal.returns-clause-server
returns-clause-server g c = λ still.
    let before : ServerOf = server_of g.T.ConnTable.conns c.frames.rules in
    let ended : is_end c.frames.rest.now ≡ true = search rules in
    sym (ap (λ fs. (serves_frames fs before).server) (frames_last c.frames.rest.now ended)) ∙ c.frames.invariant.server still

pub returns-clause-sent : goal.returns-clause-sent
returns-clause-sent g c = λ still.
    let before : ServerOf = server_of g.T.ConnTable.conns c.frames.rules in
    let ended : is_end c.frames.rest.now ≡ true = search rules in
    sym (append-nil c.frames.out.items) ∙ ap (λ fs. c.frames.out.items ++ flat_map frame_of (serves_frames fs before).sent) (sym (frames_last c.frames.rest.now ended))
    ∙ c.frames.invariant.sent still

pub returns-clause-rest : goal.returns-clause-rest
returns-clause-rest g c =
    let ended : is_end c.frames.rest.now ≡ true = search rules in
    sym (rest_last c.frames.rest.now ended) ∙ c.frames.invariant.rest

pub frames-init : goal.frames-init
frames-init g c = record {
  good = c.requires.good;
  sticky = λ was. was;
  stops = λ ends. refl;
  so_far = [];
  told = λ still. g.met.T.ConnTable.tells_nothing c.args.rules.now.table;
  all = λ still. refl;
  server = λ still. refl;
  sent = λ still. refl;
  rest = refl;
  passed = passed_none c.args.out.now.items c.args.bytes.now (server_of g.T.ConnTable.conns c.args.rules.now) c.args.lost.now;
}

pub returns-in_err-serve_next-clause-framed : goal.returns-in_err-serve_next-clause-framed
returns-in_err-serve_next-clause-framed g c =
    more_frames c.args.out.now.items c.frames.out.items c.serve_next.new.out.items
    (passed_framed c.args.out.now.items c.frames.out.items c.serve_next.new.out.items c.frames.rest.now c.frames.rest.now c.args.bytes.now
    (server_of g.T.ConnTable.conns c.args.rules.now) (server_of g.T.ConnTable.conns c.frames.rules) (server_of g.T.ConnTable.conns c.frames.rules) c.frames.lost c.frames.lost
    (λ still. still) c.frames.invariant.passed)
    c.serve_next.ensures.framed

pub returns-in_err-serve_next-clause-wrote : goal.returns-in_err-serve_next-clause-wrote
returns-in_err-serve_next-clause-wrote g c =
    passed_on_err c.args.out.now.items c.frames.out.items c.serve_next.new.out.items c.frames.rest.now c.frames.rest.now c.args.bytes.now
    (server_of g.T.ConnTable.conns c.args.rules.now) (server_of g.T.ConnTable.conns c.frames.rules) (server_of g.T.ConnTable.conns c.frames.rules) c.frames.lost c.serve_next.new.lost
    (not_yet c.frames.lost c.serve_next.new.lost c.serve_next.ensures.sticky) c.frames.invariant.passed c.from_residual.result c.in_err-serve_next.ensures.none

pub returns-in_err-serve_next-clause-gave_up : goal.returns-in_err-serve_next-clause-gave_up
returns-in_err-serve_next-clause-gave_up g c = on_err c.from_residual.result _ c.in_err-serve_next.ensures.gave_up

pub returns-clause-framed : goal.returns-clause-framed
returns-clause-framed g c =
    passed_framed c.args.out.now.items c.frames.out.items c.frames.out.items c.frames.rest.now c.frames.rest.now c.args.bytes.now
    (server_of g.T.ConnTable.conns c.args.rules.now) (server_of g.T.ConnTable.conns c.frames.rules) (server_of g.T.ConnTable.conns c.frames.rules) c.frames.lost c.frames.lost
    (λ still. still) c.frames.invariant.passed

pub returns-clause-told : goal.returns-clause-told
returns-clause-told g c = λ still.
    let here : ServerOf = server_of g.T.ConnTable.conns c.frames.rules in
    let so_far = c.frames.invariant.so_far in
    let ended : is_end c.frames.rest.now ≡ true = search rules in
    subst (λ ws. g.T.ConnTable.tells c.args.rules.now.table ws c.frames.rules.table)
    (sym (append-nil so_far) ∙ ap (λ fs. so_far ++ told_frames fs here) (sym (frames_last c.frames.rest.now ended)) ∙ c.frames.invariant.all still)
    (c.frames.invariant.told still)
