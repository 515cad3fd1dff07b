use Rattle.std.proofs.Common.{◌≡◌, ◌+◌, rules}
use Rattle.capture_reader.specs.Outcome.{Takes}
use Rattle.trace_replay.proofs.Runs.{never_large, reads_such}
use Rattle.trace_replay.proofs.run.replay_within.Goals as goal

pub returns-in-Err-TooLarge-clause-complete : goal.returns-in-Err-TooLarge-clause-complete
returns-in-Err-TooLarge-clause-complete g c input empty there small replays no_read no_write =
    let many : Takes (λ n. n ≡ c.args.most + 1) (g.S.Source.rest c.args.src.now) (g.S.Source.rest c.read_within.new.src) = search rules in
    absurd (never_large c.args.most _ _ input there small many)

pub returns-in-Ok-line_of-clause-complete : goal.returns-in-Ok-line_of-clause-complete
returns-in-Ok-line_of-clause-complete g c input empty there small replays no_read no_write =
    absurd ((c.in-Err-No.ensures.no c.in-Err-No.reason (cc)).1 (reads_such _ _ input c.in-Ok.bytes.items there c.in-Ok.ensures.ok.0 replays))
