use Rattle.indexmap.specs.IndexSet.{insert_key}
use Rattle.std.proofs.Common.{◌≡◌, List, ◌++◌, ◌∷◌, [], Some, is_some, false, refl, length, map, ap, sym, ◌∙◌, arith}
use Rattle.std.proofs.lemmas.List.{map-append}
use Rattle.std.specs.List.{list_any, position}
use Rattle.sq_base.specs.declared.kinds.Tuple.{Tuple}
use Rattle.conn_classifier.specs.Connections.{tuple_eq}
use Rattle.conn_classifier.proofs.PlanLaw.{same_tuple}
use Rattle.conn_classifier.proofs.Joining.{position_last}
use Rattle.stream_plan.specs.Sorting.{SortedOf}
use Rattle.stream_plan.proofs.SortSteps.{joins_known, joins_full, joins_new}
use Rattle.stream_plan.proofs.sorting.Sorted.number.Goals as goal

-- a new key comes last
if_new : (keys : List Tuple) (t : Tuple) → list_any (tuple_eq t) keys ≡ false → insert_key tuple_eq keys t ≡ keys ++ t ∷ []
if_new keys t e = rw e refl

pub returns-in-Some-clause-streams : goal.returns-in-Some-clause-streams
returns-in-Some-clause-streams c =
    let keys = ap (λ (s : SortedOf). s.tuples) c.self.view_is in
    joins_known c.args.tuple c.args.self.now (ap (list_any (tuple_eq c.args.tuple)) (sym keys) ∙ sym c.get_index_of.ensures.found ∙ ap is_some c.in-Some.is)

pub returns-then-next-ge-MOST_STREAMS-clause-streams : goal.returns-then-next-ge-MOST_STREAMS-clause-streams
returns-then-next-ge-MOST_STREAMS-clause-streams c =
    let keys = ap (λ (s : SortedOf). length s.tuples) c.self.view_is in
    joins_full c.args.tuple c.args.self.now (omega (arith, keys, c.len-next.ensures.len, c.if-next-ge-MOST_STREAMS.true))

pub returns-clause-streams : goal.returns-clause-streams
returns-clause-streams c =
    let keys = ap (λ (s : SortedOf). s.tuples) c.self.view_is in
    let new = ap (list_any (tuple_eq c.args.tuple)) (sym keys) ∙ sym c.get_index_of.ensures.found ∙ ap is_some c.in_default.is in
    let tuples = c.in_ok-insert.ensures.keys ∙ if_new c.self.inside.tuples.keys c.args.tuple (ap (list_any (tuple_eq c.args.tuple)) keys ∙ new) ∙ ap (λ l. l ++ c.args.tuple ∷ []) keys in
    let streams = c.in_ok-push.ensures.items ∙ (λ k. (ap (λ (s : SortedOf). s.streams) c.self.view_is) k ++ c.new.ensures k ∷ []) in
    let segments = ap (map (λ v. v.items)) c.in_ok-push-2.ensures.items ∙ map-append (λ v. v.items) c.self.inside.segments.items (c.new-2.result ∷ [])
    ∙ (λ k. (ap (λ (s : SortedOf). s.segments) c.self.view_is) k ++ c.new-2.ensures.items k ∷ []) in
    (λ k. record { tuples = tuples k; streams = streams k; segments = segments k; served = (c.self.view_is k).served; arrived = (c.self.view_is k).arrived })
    ∙ joins_new c.args.tuple c.args.self.now (omega (arith, ap length keys, c.len-next.ensures.len, c.if-next-ge-MOST_STREAMS.false)) new

pub returns-clause-number : goal.returns-clause-number
returns-clause-number c =
    let new = sym c.get_index_of.ensures.found ∙ ap is_some c.in_default.is in
    let all = c.in_ok-insert.ensures.keys ∙ if_new c.self.inside.tuples.keys c.args.tuple new in
    ap Some c.len-next.ensures.len
    ∙ sym (ap (position (tuple_eq c.args.tuple)) all ∙ position_last (tuple_eq c.args.tuple) c.self.inside.tuples.keys c.args.tuple new (same_tuple c.args.tuple))
