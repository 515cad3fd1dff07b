-- The connections, one packet further.
use Rattle.std.proofs.Common.{◌≡◌, ◌<◌, true, List, [], ◌∷◌, ◌++◌, length, take, Option, Some, None, refl, ap, ◌∙◌, arith}
use Rattle.std.specs.List.{filter_map}
use Rattle.sq_base.specs.declared.kinds.Tuple.{Tuple}
use Rattle.segment_codec.specs.declared.packet.Packet.{Packet}
use Rattle.indexmap.specs.IndexSet.{insert_key}
use Rattle.conn_classifier.specs.Limits.{most_conns}
use Rattle.conn_classifier.specs.Connections.{conns, distinct, served_tuple, tuple_eq}
use Rattle.conn_classifier.proofs.Distinct.{distinct_push, take_insert, take_full}
use Rattle.conn_classifier.specs.declared.rules.Ports.{Ports}

pub same : (a b : Tuple) → tuple_eq a b ≡ true → a ≡ b
same a b e = grind (arith, e)

pub push_none : {A B : Type 0} (f : A → Option B) (xs : List A) (x : A) → f x ≡ None → filter_map f (xs ++ x ∷ []) ≡ filter_map f xs
push_none f [] x e = rw e refl
push_none f (y ∷ ys) x e = by (f y) refl (push_none f ys x e)
  where
    by : (o : Option _) → f y ≡ o → filter_map f (ys ++ x ∷ []) ≡ filter_map f ys → filter_map f (y ∷ (ys ++ x ∷ [])) ≡ filter_map f (y ∷ ys)
    by None q rest = rw q rest
    by (Some z) q rest = rw q (ap (λ l. z ∷ l) rest)

pub push_some : {A B : Type 0} (f : A → Option B) (xs : List A) (x : A) (t : B) → f x ≡ Some t → filter_map f (xs ++ x ∷ []) ≡ filter_map f xs ++ t ∷ []
push_some f [] x t e = rw e refl
push_some f (y ∷ ys) x t e = by (f y) refl (push_some f ys x t e)
  where
    by : (o : Option _) → f y ≡ o → filter_map f (ys ++ x ∷ []) ≡ filter_map f ys ++ t ∷ [] → filter_map f (y ∷ (ys ++ x ∷ [])) ≡ filter_map f (y ∷ ys) ++ t ∷ []
    by None q rest = rw q rest
    by (Some z) q rest = rw q (ap (λ l. z ∷ l) rest)

pub conns_none : (ports : Ports) (ps : List Packet) (p : Packet) → served_tuple ports p ≡ None → conns ports (ps ++ p ∷ []) ≡ conns ports ps
unfolding conns
conns_none ports ps p e = ap (λ l. take most_conns (distinct l)) (push_none (served_tuple ports) ps p e)

grown : (ports : Ports) (ps : List Packet) (p : Packet) (t : Tuple) → served_tuple ports p ≡ Some t
    → distinct (filter_map (served_tuple ports) (ps ++ p ∷ [])) ≡ insert_key tuple_eq (distinct (filter_map (served_tuple ports) ps)) t
grown ports ps p t e = ap distinct (push_some (served_tuple ports) ps p t e) ∙ distinct_push tuple_eq same distinct refl (λ x xs. refl) (filter_map (served_tuple ports) ps) t

pub conns_some : (ports : Ports) (ps : List Packet) (p : Packet) (t : Tuple) → served_tuple ports p ≡ Some t → length (conns ports ps) < most_conns
    → conns ports (ps ++ p ∷ []) ≡ insert_key tuple_eq (conns ports ps) t
unfolding conns
conns_some ports ps p t e lt = ap (take most_conns) (grown ports ps p t e) ∙ take_insert tuple_eq same most_conns (distinct (filter_map (served_tuple ports) ps)) t lt

pub conns_full : (ports : Ports) (ps : List Packet) (p : Packet) (t : Tuple) → served_tuple ports p ≡ Some t → (length (conns ports ps) < most_conns → ⊥)
    → conns ports (ps ++ p ∷ []) ≡ conns ports ps
unfolding conns
conns_full ports ps p t e full = ap (take most_conns) (grown ports ps p t e) ∙ take_full tuple_eq same most_conns (distinct (filter_map (served_tuple ports) ps)) t full
