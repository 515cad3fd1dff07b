use Rattle.std.proofs.Common.{◌≡◌, ℕ, ◌+◌, ◌-◌, ◌^◌, ◌<◌, ◌≤◌, List, ◌++◌, length, take, get_or, set, min, sym, ap, ◌∙◌, arith, rules}
use Rattle.std.specs.List.{slice_range}
use Rattle.byte_queues.specs.Runs.{end_of, fill, joined_run}
use Rattle.byte_queues.specs.declared.run.Run.{Run}
use Rattle.byte_queues.proofs.ListLemmas.{take_clamped}
use Rattle.byte_queues.proofs.JoinLemmas.{joined-kept, item-same}
use Rattle.byte_queues.proofs.run.surround.Goals as goal

pub returns-clause-ok : goal.returns-clause-ok
returns-clause-ok c =
    let xs = c.args.runs.now.items in
    let at = c.args.at in
    let text = c.args.text.now in
    let s = c.min-start.result in
    let d = c.index-2.result.now in
    let k = get_or xs c.args.kept d in
    let ranges = slice_range xs in
    let here : d ≡ k = c.index-2.ensures in
    let start : s ≡ min at (get_or xs c.args.first c.index.result.now).start = c.min-start.ensures ∙ ap (λ (r : Run). min at r.start) c.index.ensures in
    let within : c.args.last ≤ length xs = omega arith in
    let inside : c.args.kept < length xs = omega (arith, within, c.requires.last) in
    let again : c.index-3.result.now ≡ k = c.index-3.ensures ∙ item-same xs c.args.kept c.index-3.result.now d inside in
    let next : c.end-next.result ≡ end_of k = c.end-next.ensures ∙ ap end_of again in
    let old : c.index_mut-run.result.now ≡ k = c.index_mut-run.ensures.value ∙ item-same xs c.args.kept c.index_mut-run.result.now d inside in
    let cut : c.split_at.result.0.now ≡ take (k.start - at) text = search (rules, take_clamped) in
    let head : c.in_ok-head.head.items ≡ fill s at c.split_at.result.0.now (ranges c.args.first c.args.kept) = search rules in
    let tail : c.in_ok-tail.tail.items ≡ fill c.end-next.result at text (ranges (c.args.kept + 1) c.args.last) = search rules in
    let all : c.surround.new.self ≡ (c.in_ok-head.head.items ++ c.index_mut-run.result.now.bytes) ++ c.in_ok-tail.tail.items = search rules in
    let joined = joined-kept c.args.first c.args.kept c.args.last at (2 ^ 64) text xs d c.index.result.now c.requires.first c.requires.last within c.requires.spaced in
    let got : c.surround.new.self ≡ (fill s at (take (k.start - at) text) (ranges c.args.first c.args.kept) ++ k.bytes) ++ fill (end_of k) at text (ranges (c.args.kept + 1) c.args.last) =
    all
    ∙ (ap (λ (zs : List ℕ). (zs ++ c.index_mut-run.result.now.bytes) ++ c.in_ok-tail.tail.items) (head ∙ ap (λ (zs : List ℕ). fill s at zs (ranges c.args.first c.args.kept)) cut)
    ∙ (ap (λ (r : Run). (fill s at (take (k.start - at) text) (ranges c.args.first c.args.kept) ++ r.bytes) ++ c.in_ok-tail.tail.items) old
    ∙ ap (λ (zs : List ℕ). (fill s at (take (k.start - at) text) (ranges c.args.first c.args.kept) ++ k.bytes) ++ zs) (tail ∙ ap (λ (n : ℕ). fill n at text (ranges (c.args.kept + 1) c.args.last)) next))) in
    let mine : Run = record { start = s; bytes = c.surround.new.self } in
    let whole : mine ≡ joined_run at text (ranges c.args.first c.args.last) =
    ap (λ (zs : List ℕ). record { start = s; bytes = zs }) got
    ∙ (ap (λ (n : ℕ). record { start = n; bytes = (fill n at (take (k.start - at) text) (ranges c.args.first c.args.kept) ++ k.bytes) ++ fill (end_of k) at text (ranges (c.args.kept + 1) c.args.last) }) start
    ∙ sym joined) in
    ap (λ (r : Run). set xs c.args.kept r) whole
