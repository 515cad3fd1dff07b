use Rattle.std.proofs.Common.{◌≤◌, ◌++◌, length, refl, ap, subst, sym, ◌∙◌, []}
use Rattle.std.specs.String.{string_bytes}
use Rattle.udp_codec.specs.Limits.{most_text}
use Rattle.live_server.specs.CountsText.{counts_text, datagram_counts, header_counts, limit_counts, place_counts, reach_counts, segment_counts, state_counts}
use Rattle.live_server.proofs.CountsLemmas.{then_told, told_short}
use Rattle.live_server.proofs.counts_text.counts_text.Goals as goal

pub returns-clause-is : goal.returns-clause-is
returns-clause-is c =
    let n = c.args.counts.now in
    let xs = state_counts c.args.connections c.args.waiting c.args.held c.args.draining in
    let a = string_bytes c.push_state.new.text in
    let b = string_bytes c.push_datagrams.new.text in
    let d = string_bytes c.push_places.new.text in
    let e = string_bytes c.push_segments.new.text in
    let f = string_bytes c.push_limits.new.text in
    let h = string_bytes c.push_reach.new.text in
    then_told h (string_bytes c.push_headers.new.text) (xs ++ (datagram_counts n ++ (place_counts n ++ (segment_counts n ++ (limit_counts n ++ reach_counts n)))))
    (header_counts n)
    (then_told f h (xs ++ (datagram_counts n ++ (place_counts n ++ (segment_counts n ++ limit_counts n)))) (reach_counts n)
    (then_told e f (xs ++ (datagram_counts n ++ (place_counts n ++ segment_counts n))) (limit_counts n)
    (then_told d e (xs ++ (datagram_counts n ++ place_counts n)) (segment_counts n)
    (then_told b d (xs ++ datagram_counts n) (place_counts n)
    (then_told a b xs (datagram_counts n)
    (then_told [] a [] xs refl (c.in_ok-push_state.ensures ∙ ap (λ l. l ++ counts_text xs) c.new-text.ensures.bytes)) c.in_ok-push_datagrams.ensures)
    c.in_ok-push_places.ensures) c.in_ok-push_segments.ensures) c.in_ok-push_limits.ensures)
    c.in_ok-push_reach.ensures) c.in_ok-push_headers.ensures

pub returns-clause-short : goal.returns-clause-short
returns-clause-short c =
    subst (λ l. length l ≤ most_text) (sym (returns-clause-is c)) (told_short c.args.connections c.args.waiting c.args.held c.args.draining c.args.counts.now)
