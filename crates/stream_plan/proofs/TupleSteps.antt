-- The streams, one of what arrived further.
use Rattle.std.proofs.Common.{◌≡◌, ◌<◌, ◌≤◌, List, [], ◌∷◌, ◌++◌, length, map, take, refl, ap, ◌∙◌, arith}
use Rattle.std.proofs.lemmas.List.{map-append, length-take}
use Rattle.indexmap.specs.IndexSet.{insert_key}
use Rattle.conn_classifier.specs.Connections.{distinct, tuple_eq}
use Rattle.stream_plan.specs.Limits.{most_streams}
use Rattle.stream_plan.specs.declared.kinds.Arrived.{Arrived}
use Rattle.stream_plan.specs.Streams.{tuple_of, tuples_in}
use Rattle.conn_classifier.proofs.Conns.{same}
use Rattle.conn_classifier.proofs.Distinct.{distinct_push, take_insert, take_full}

grown : (xs : List Arrived) (x : Arrived) → distinct (map (λ x. tuple_of x.found) (xs ++ x ∷ [])) ≡ insert_key tuple_eq (distinct (map (λ x. tuple_of x.found) xs)) (tuple_of x.found)
grown xs x =
    ap distinct (map-append (λ (x : Arrived). tuple_of x.found) xs (x ∷ [])) ∙ distinct_push tuple_eq same distinct refl (λ x xs. refl) (map (λ x. tuple_of x.found) xs) (tuple_of x.found)

pub tuples_some : (xs : List Arrived) (x : Arrived) → length (tuples_in xs) < most_streams → tuples_in (xs ++ x ∷ []) ≡ insert_key tuple_eq (tuples_in xs) (tuple_of x.found)
unfolding tuples_in
tuples_some xs x lt = ap (take most_streams) (grown xs x) ∙ take_insert tuple_eq same most_streams (distinct (map (λ x. tuple_of x.found) xs)) (tuple_of x.found) lt

pub tuples_full : (xs : List Arrived) (x : Arrived) → (length (tuples_in xs) < most_streams → ⊥) → tuples_in (xs ++ x ∷ []) ≡ tuples_in xs
unfolding tuples_in
tuples_full xs x full = ap (take most_streams) (grown xs x) ∙ take_full tuple_eq same most_streams (distinct (map (λ x. tuple_of x.found) xs)) (tuple_of x.found) full

pub few_tuples : (xs : List Arrived) → length (tuples_in xs) ≤ most_streams
unfolding tuples_in
few_tuples xs = omega (arith, length-take most_streams (distinct (map (λ x. tuple_of x.found) xs)))
