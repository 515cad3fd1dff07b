use Rattle.std.proofs.Common.{codes}
use Rattle.std.specs.String.{string_bytes}
use Rattle.live_server.specs.CountsText.{count_line}
use Rattle.live_server.proofs.ArriveLemmas.{map_ok}
use Rattle.live_server.proofs.CountsLemmas.{four_told}
use Rattle.live_server.proofs.counts_text.push_reach.Goals as goal

pub returns : goal.returns
returns c =
    let n = c.args.counts.now in
    map_ok c.push_line-4.result _ _ (λ four.
    four_told (string_bytes c.args.text.now) (string_bytes c.push_line.new.text) (string_bytes c.push_line-2.new.text) (string_bytes c.push_line-3.new.text) (string_bytes c.push_line-4.new.text)
    (count_line (codes "unreachable", n.unreachable)) (count_line (codes "port_unreachable", n.port_unreachable)) (count_line (codes "prohibited", n.prohibited)) (count_line (codes "unreached", n.unreached))
    c.in_ok-push_line.ensures c.in_ok-push_line-2.ensures c.in_ok-push_line-3.ensures four) c.push_line-4.ensures
