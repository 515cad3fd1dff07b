use Rattle.std.proofs.Common.{◌≡◌, ◌^◌, ◌<◌, ◌≤◌, ℕ, Bool, List, [], ◌∷◌, Vec, length, map, sum, sym, ap, ◌∙◌, subst, arith}
use Rattle.std.specs.declared.alloc.Global.{Global}
use Rattle.std.proofs.lemmas.List.{length-map, map-append, take_all}
use Rattle.std.proofs.lemmas.Simd.{map-map}
use Rattle.squeue.proofs.Rows.{all_short, lengths_of}
use Rattle.squeue.specs.Limits.{most_feeds}
use Rattle.key_limiter.specs.declared.limiter.Requests.{Requests}
use Rattle.squeue.specs.ServedParts.{counts_of}
use Rattle.key_limiter.specs.Buckets.{Decides, IsPartOf, origin_of, row_of}
use Rattle.key_limiter.specs.Limiting.{decisions_of}
use Rattle.key_limiter.proofs.Decided.{all_decided, decided_more}
use Rattle.key_limiter.proofs.deciding.decide.Goals as goal

pub lengths-requires : goal.lengths-requires
lengths-requires g c = all_short (λ row. length row.items) c.args.requests.now c.requires.items

pub serve_by_key-requires-clause-counts : goal.serve_by_key-requires-clause-counts
serve_by_key-requires-clause-counts g c κs within =
    subst (λ (ns : List ℕ). (length ns < 2 ^ 32) × (sum ns ≤ most_feeds)) (sym c.in_ok-counts.ensures)
    (omega (arith, c.requires.keys, length-map c.args.requests.now (λ row. length row.items)), c.requires.items)

pub serve_by_key-requires-clause-feeds : goal.serve_by_key-requires-clause-feeds
serve_by_key-requires-clause-feeds g c κs within = lengths_of (λ row. row.items) c.args.requests.now ∙ sym c.in_ok-counts.ensures

pub loop-c-preserved : goal.loop-c-preserved
loop-c-preserved g c =
    let rows : List (List ℕ) = map (λ row. row.items) c.args.requests.now in
    let served = c.in_ok-served.served in
    let new = c.in_ok-to_vec.field-0 in
    let are : counts_of served ≡ map length rows = c.in_ok-served.ensures.counts ∙ (c.in_ok-counts.ensures ∙ sym (lengths_of (λ row. row.items) c.args.requests.now)) in
    let lt : c.loop-c.c < length rows = omega (arith, c.loop-c-test.true, c.count-c-end.ensures, ap length are, length-map rows length) in
    let own : Decides c.args.limit (row_of rows c.loop-c.c) c.part.result.now = subst (λ (r : Requests). IsPartOf (origin_of r) c.loop-c.c c.part.result.now) c.in_ok-served.ensures.shared c.part.ensures.own in
    let copied : new.items ≡ c.part.result.now.passed.items = c.in_ok-to_vec.ensures.items_if_clones_equal (λ x y e. e) ∙ c.deref.ensures.value in
    decided_more (decisions_of c.args.limit) rows c.loop-c.c new.items (map (λ row. row.items) c.loop-c.all.items) (map (λ row. row.items) c.push.new.self.items) lt c.loop-c.invariant
    (copied ∙ all_decided c.args.limit rows (counts_of served) c.loop-c.c c.part.result.now are own c.part.ensures.fed)
    (ap (map (λ (row : Vec Bool Global). row.items)) c.in_ok-push.ensures.items ∙ map-append (λ (row : Vec Bool Global). row.items) c.loop-c.all.items (new ∷ []))

pub returns : goal.returns
returns g c =
    let rows : List (List ℕ) = map (λ row. row.items) c.args.requests.now in
    let are : counts_of c.in_ok-served.served ≡ map length rows = c.in_ok-served.ensures.counts ∙ (c.in_ok-counts.ensures ∙ sym (lengths_of (λ row. row.items) c.args.requests.now)) in
    let all : length rows ≤ c.loop-c.c = omega (arith, c.loop-c-test.false, c.count-c-end.ensures, ap length are, length-map rows length) in
    c.loop-c.invariant
    ∙ (ap (map (decisions_of c.args.limit)) (take_all c.loop-c.c rows all) ∙ map-map (decisions_of c.args.limit) (λ (row : Vec ℕ Global). row.items) c.args.requests.now)
