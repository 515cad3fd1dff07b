use Rattle.std.proofs.Common.{◌^◌, ◌<◌, ◌≤◌, ℕ, List, length, map, sum, sym, ap, ◌∙◌, subst, arith}
use Rattle.std.proofs.lemmas.List.{length-map}
use Rattle.std.proofs.lemmas.Result.{IfOk-weaker}
use Rattle.squeue.proofs.Rows.{all_short, lengths_of}
use Rattle.squeue.specs.Limits.{most_feeds}
use Rattle.key_counters.specs.declared.counters.Amounts.{Amounts}
use Rattle.key_counters.specs.Counting.{rows_of}
use Rattle.key_counters.proofs.Totals.{sums_of}
use Rattle.key_counters.proofs.counting.count.Goals as goal

pub lengths-requires : goal.lengths-requires
lengths-requires g c = all_short (λ row. length row.items) c.args.amounts.now c.requires.items

pub invariant_of-shared : goal.invariant_of-shared
invariant_of-shared g c = record { short = all_short (λ row. length row.items) c.args.amounts.now c.requires.items }

pub serve_by_key-requires-clause-counts : goal.serve_by_key-requires-clause-counts
serve_by_key-requires-clause-counts g c κs within =
    subst (λ (ns : List ℕ). (length ns < 2 ^ 32) × (sum ns ≤ most_feeds)) (sym c.in_ok-counts.ensures)
    (omega (arith, c.requires.keys, length-map c.args.amounts.now (λ row. length row.items)), c.requires.items)

pub serve_by_key-requires-clause-feeds : goal.serve_by_key-requires-clause-feeds
serve_by_key-requires-clause-feeds g c κs within = lengths_of (λ row. row.items) c.args.amounts.now ∙ sym c.in_ok-counts.ensures

pub totals_in-requires-clause-counts : goal.totals_in-requires-clause-counts
totals_in-requires-clause-counts g c =
    c.in_ok-served.ensures.counts ∙ (c.in_ok-counts.ensures ∙ (sym (lengths_of (λ row. row.items) c.args.amounts.now) ∙ ap (λ (s : Amounts). map length (rows_of s)) (sym c.in_ok-served.ensures.shared)))

pub returns : goal.returns
returns g c =
    IfOk-weaker c.totals_in.result _ _ (λ v is. is ∙ (ap (λ (s : Amounts). map sum (rows_of s)) c.in_ok-served.ensures.shared ∙ sums_of (λ row. row.items) c.args.amounts.now)) c.totals_in.ensures
