use Rattle.indexmap.specs.IndexSet.{insert_key}
use Rattle.std.proofs.Common.{◌≡◌, List, ◌++◌, ◌∷◌, [], Some, is_some, false, refl, length, map, ap, sym, ◌∙◌, arith}
use Rattle.std.proofs.lemmas.List.{map-append}
use Rattle.std.specs.List.{list_any, position}
use Rattle.sq_base.specs.declared.kinds.Tuple.{Tuple}
use Rattle.conn_classifier.specs.Connections.{tuple_eq}
use Rattle.conn_classifier.specs.Sorting.{SortedOf}
use Rattle.conn_classifier.proofs.PlanLaw.{same_tuple}
use Rattle.conn_classifier.proofs.Joining.{joins_known, joins_full, joins_new, position_last}
use Rattle.conn_classifier.proofs.sorting.Sorted.number.Goals as goal

-- a new key comes last
if_new : (keys : List Tuple) (t : Tuple) → list_any (tuple_eq t) keys ≡ false → insert_key tuple_eq keys t ≡ keys ++ t ∷ []
if_new keys t e = rw e refl

pub returns-in-Some-clause-conns : goal.returns-in-Some-clause-conns
returns-in-Some-clause-conns c =
    let keys = ap (λ (s : SortedOf). s.tuples) c.self.view_is in
    joins_known c.args.tuple c.args.self.now (ap (list_any (tuple_eq c.args.tuple)) (sym keys) ∙ sym c.get_index_of.ensures.found ∙ ap is_some c.in-Some.is)

pub returns-then-next-ge-MOST_CONNECTIONS-clause-conns : goal.returns-then-next-ge-MOST_CONNECTIONS-clause-conns
returns-then-next-ge-MOST_CONNECTIONS-clause-conns c =
    let keys = ap (λ (s : SortedOf). length s.tuples) c.self.view_is in
    joins_full c.args.tuple c.args.self.now (omega (arith, keys, c.len-next.ensures.len, c.if-next-ge-MOST_CONNECTIONS.true))

pub returns-clause-conns : goal.returns-clause-conns
returns-clause-conns c =
    let keys = ap (λ (s : SortedOf). s.tuples) c.self.view_is in
    let new = ap (list_any (tuple_eq c.args.tuple)) (sym keys) ∙ sym c.get_index_of.ensures.found ∙ ap is_some c.in_default.is in
    let tuples = c.in_ok-insert.ensures.keys ∙ if_new c.self.inside.tuples.keys c.args.tuple (ap (list_any (tuple_eq c.args.tuple)) keys ∙ new) ∙ ap (λ l. l ++ c.args.tuple ∷ []) keys in
    let lists = ap (map (λ v. v.items)) c.in_ok-push.ensures.items ∙ map-append (λ v. v.items) c.self.inside.lists.items (c.new.result ∷ [])
    ∙ (λ k. (ap (λ (s : SortedOf). s.lists) c.self.view_is) k ++ c.new.ensures.items k ∷ []) in
    (λ k. record { tuples = tuples k; lists = lists k; order = (c.self.view_is k).order; counts = (c.self.view_is k).counts })
    ∙ joins_new c.args.tuple c.args.self.now (omega (arith, ap length keys, c.len-next.ensures.len, c.if-next-ge-MOST_CONNECTIONS.false)) new

pub returns-clause-number : goal.returns-clause-number
returns-clause-number c =
    let new = sym c.get_index_of.ensures.found ∙ ap is_some c.in_default.is in
    let all = c.in_ok-insert.ensures.keys ∙ if_new c.self.inside.tuples.keys c.args.tuple new in
    ap Some c.len-next.ensures.len
    ∙ sym (ap (position (tuple_eq c.args.tuple)) all ∙ position_last (tuple_eq c.args.tuple) c.self.inside.tuples.keys c.args.tuple new (same_tuple c.args.tuple))
