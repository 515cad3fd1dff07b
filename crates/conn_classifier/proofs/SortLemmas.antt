-- What is sorted out, one record further.
use Rattle.std.proofs.Common.{◌≡◌, ℕ, ◌+◌, ◌-◌, ◌<◌, ◌≤◌, Bool, true, false, List, [], ◌∷◌, ◌++◌, zero, suc, length, map, take, set, get_or, Option, Some, None, refl, sym, ap, ◌∙◌, arith, if◌then◌else◌, append-nil, append_assoc, filter}
use Rattle.std.specs.List.{list_any, IsDistinct}
use Rattle.std.specs.Option.{option_map, option_and_then}
use Rattle.std.proofs.lemmas.Iterator.Adapters.{position_from-zero}
use Rattle.std.proofs.lemmas.List.{map-append, map-set, length-map, get_or-map}
use Rattle.sq_base.specs.declared.kinds.Tuple.{Tuple}
use Rattle.segment_codec.specs.declared.packet.Packet.{Packet}
use Rattle.segment_codec.specs.declared.packet.Packet.TheVariants as packet
use Rattle.segment_codec.specs.declared.packet.Seg.{Seg}
use Rattle.capture_reader.specs.CaptureFile.{Packet as Captured}
use Rattle.segment_codec.specs.Refusal.{tuple_of}
use Rattle.conn_classifier.specs.Connections.{tuple_eq, served_in}
use Rattle.conn_classifier.specs.Classes.{class_in, counts_of}
use Rattle.conn_classifier.specs.Items.{Seen, arrival, arrivals, of_conn}
use Rattle.conn_classifier.specs.Sorting.{seen_of, number_in, conn_in, place_in, order_of, recs_of, sorted_of, counted}
use Rattle.conn_classifier.specs.declared.kinds.Arrival.{Arrival}
use Rattle.conn_classifier.specs.declared.kinds.Class.{Class}
use Rattle.conn_classifier.specs.declared.kinds.Class.TheVariants as class
use Rattle.conn_classifier.proofs.Conns.{push_none, push_some, same}
use Rattle.conn_classifier.proofs.Distinct.{filter_push}
use Rattle.conn_classifier.proofs.OneKey.{grown_none, grown_some, none_any, some_any}
use Rattle.conn_classifier.proofs.Tallies.{counts_push}
use Rattle.conn_classifier.specs.declared.rules.Ports.{Ports}
use Rattle.conn_classifier.specs.Rules.{is_served}

none_some : {A Q : Type 0} {x : A} → None ≡ Some x → Q
none_some e = absurd (let no : ⊥ = cc in no)

some_is : {A : Type 0} {x y : A} → Some x ≡ Some y → x ≡ y
some_is e = cc

some_none : {A Q : Type 0} {x : A} → Some x ≡ None → Q
some_none e = absurd (let no : ⊥ = cc in no)

pub arrivals_push : (ports : Ports) (n : ℕ) (xs : List Seen) (x : Seen) → arrivals ports n (xs ++ x ∷ []) ≡ arrivals ports n xs ++ arrival (n + length xs) x.0 (served_in ports x.1)
arrivals_push ports n [] x =
    let none : n + 0 ≡ n = omega arith in
    append-nil (arrival n x.0 (served_in ports x.1)) ∙ ap (λ m. arrival m x.0 (served_in ports x.1)) (sym none)
arrivals_push ports n (y ∷ ys) x =
    let on : suc n + length ys ≡ n + suc (length ys) = omega arith in
    ap (λ l. arrival n y.0 (served_in ports y.1) ++ l) (arrivals_push ports (suc n) ys x ∙ ap (λ m. arrivals ports (suc n) ys ++ arrival m x.0 (served_in ports x.1)) on)
    ∙ sym (append_assoc (arrival n y.0 (served_in ports y.1)) (arrivals ports (suc n) ys) (arrival (n + suc (length ys)) x.0 (served_in ports x.1)))

module _ (ports : Ports) (xs : List Seen) (x : Seen) where
  arrivals_more : arrivals ports 0 (xs ++ x ∷ []) ≡ arrivals ports 0 xs ++ arrival (length xs) x.0 (served_in ports x.1)
  arrivals_more = let zero : 0 + length xs ≡ length xs = omega arith in arrivals_push ports 0 xs x ∙ ap (λ n. arrivals ports 0 xs ++ arrival n x.0 (served_in ports x.1)) zero

  conn_none : (t : Tuple) → served_in ports x.1 ≡ None → of_conn ports t (xs ++ x ∷ []) ≡ of_conn ports t xs
  unfolding of_conn
  conn_none t e =
      ap (filter (λ a. tuple_eq (tuple_of a.seg) t)) (arrivals_more ∙ ap (λ o. arrivals ports 0 xs ++ arrival (length xs) x.0 o) e ∙ append-nil (arrivals ports 0 xs))

  conn_some : (s : Seg) → served_in ports x.1 ≡ Some s → (t : Tuple)
      → of_conn ports t (xs ++ x ∷ []) ≡ of_conn ports t xs ++ (if tuple_eq (tuple_of s) t then record { rec = length xs; at = x.0; seg = s } ∷ [] else [])
  unfolding of_conn
  conn_some s e t =
      ap (filter (λ a. tuple_eq (tuple_of a.seg) t)) (arrivals_more ∙ ap (λ o. arrivals ports 0 xs ++ arrival (length xs) x.0 o) e)
      ∙ filter_push (λ a. tuple_eq (tuple_of a.seg) t) (arrivals ports 0 xs) (record { rec = length xs; at = x.0; seg = s })

  recs_some : (s : Seg) → served_in ports x.1 ≡ Some s → (t : Tuple) → recs_of ports t (xs ++ x ∷ []) ≡ recs_of ports t xs ++ (if tuple_eq (tuple_of s) t then length xs ∷ [] else [])
  recs_some s e t = ap (map (λ a. a.rec)) (conn_some s e t) ∙ map-append (λ (a : Arrival). a.rec) (of_conn ports t xs) _ ∙ ap (λ l. recs_of ports t xs ++ l) (one (tuple_eq (tuple_of s) t))
    where
      one : (b : Bool) → map (λ (a : Arrival). a.rec) (if b then record { rec = length xs; at = x.0; seg = s } ∷ [] else []) ≡ (if b then length xs ∷ [] else [])
      one true = refl
      one false = refl

-- what a place says of the class
module _ (ports : Ports) (ts : List Tuple) where
  class_none : (p : Packet) → place_in ports ts p ≡ None → class_in ports ts p ≡ class_in ports [] p
  class_none (packet.Segment s) e = by (is_served ports s.dst_port) refl e
    where
      unfit : number_in ts s ≡ None → list_any (tuple_eq (tuple_of s)) ts ≡ false
      unfit h = none_any {X = ℕ} (tuple_eq (tuple_of s)) (λ t. []) 0 0 ts (sym (position_from-zero (tuple_eq (tuple_of s)) ts) ∙ h)

      out : (o : Option ℕ) → number_in ts s ≡ o → option_map {U = ℕ × Seg} (λ c. (c, s)) (number_in ts s) ≡ None → number_in ts s ≡ None
      out None q h = q
      out (Some c) q h = some_none (rw q at h)

      by : (b : Bool) → is_served ports s.dst_port ≡ b → place_in ports ts (packet.Segment s) ≡ None → class_in ports ts (packet.Segment s) ≡ class_in ports [] (packet.Segment s)
      by true q h = rw (q, unfit (out (number_in ts s) refl (rw q at h))) refl
      by false q h = rw q refl
  class_none packet.Other e = refl
  class_none packet.Fragment e = refl
  class_none packet.Cut e = refl
  class_none (packet.Malformed why) e = refl
  class_none packet.BadSum e = refl

  class_some : (p : Packet) (c : ℕ) (s : Seg) → place_in ports ts p ≡ Some (c, s) → class_in ports ts p ≡ class.Served
  class_some (packet.Segment s) c t e = by (is_served ports s.dst_port) refl e
    where
      out : (o : Option ℕ) → number_in ts s ≡ o → option_map {U = ℕ × Seg} (λ c. (c, s)) (number_in ts s) ≡ Some (c, t) → list_any (tuple_eq (tuple_of s)) ts ≡ true
      out None q h = none_some (rw q at h)
      out (Some j) q h = some_any {X = ℕ} (tuple_eq (tuple_of s)) (λ t. []) 0 0 j ts (sym (position_from-zero (tuple_eq (tuple_of s)) ts) ∙ q)

      by : (b : Bool) → is_served ports s.dst_port ≡ b → place_in ports ts (packet.Segment s) ≡ Some (c, t) → class_in ports ts (packet.Segment s) ≡ class.Served
      by true q h = rw (q, out (number_in ts s) refl (rw q at h)) refl
      by false q h = none_some (rw q at h)
  class_some packet.Other c s e = none_some e
  class_some packet.Fragment c s e = none_some e
  class_some packet.Cut c s e = none_some e
  class_some (packet.Malformed why) c s e = none_some e
  class_some packet.BadSum c s e = none_some e

  -- a place is the number of the served segment
  pub record IsPlace (p : Packet) (c : ℕ) (s : Seg) : Type 0 where
    pub served : served_in ports p ≡ Some s
    pub number : number_in ts s ≡ Some c

  place_is : (p : Packet) (c : ℕ) (s : Seg) → place_in ports ts p ≡ Some (c, s) → IsPlace p c s
  place_is p c s e = by (served_in ports p) refl e
    where
      inner : (t : Seg) (o : Option ℕ) → served_in ports p ≡ Some t → number_in ts t ≡ o → option_map {U = ℕ × Seg} (λ c. (c, t)) (number_in ts t) ≡ Some (c, s) → IsPlace p c s
      inner t None f q h = none_some (rw q at h)
      inner t (Some j) f q h =
          let pair : ◌≡◌ {A = Option (ℕ × Seg)} (Some (j, t)) (Some (c, s)) = rw q at h in
          let pairs = some_is pair in
          let num : j ≡ c = ap (λ p. p.0) pairs in
          let seg : t ≡ s = ap (λ p. p.1) pairs in
          record { served = f ∙ ap Some seg; number = ap (number_in ts) (sym seg) ∙ q ∙ ap Some num }

      by : (o : Option Seg) → served_in ports p ≡ o → place_in ports ts p ≡ Some (c, s) → IsPlace p c s
      by None f h = none_some (rw f at h)
      by (Some t) f h = inner t (number_in ts t) f refl (rw f at h)

  -- no place: no served segment, or none of these connections
  place_not : (p : Packet) → place_in ports ts p ≡ None → (Q : Type 0) → (served_in ports p ≡ None → Q) → ((s : Seg) → served_in ports p ≡ Some s → number_in ts s ≡ None → Q) → Q
  place_not p e Q none some = by (served_in ports p) refl e
    where
      inner : (t : Seg) (o : Option ℕ) → served_in ports p ≡ Some t → number_in ts t ≡ o → option_map {U = ℕ × Seg} (λ c. (c, t)) (number_in ts t) ≡ None → Q
      inner t None f q h = some t f q
      inner t (Some j) f q h = some_none (rw q at h)

      by : (o : Option Seg) → served_in ports p ≡ o → place_in ports ts p ≡ None → Q
      by None f h = none f
      by (Some t) f h = inner t (number_in ts t) f refl (rw f at h)

-- one record further
module _ (ports : Ports) (records : ℕ) (cut : Bool) (ts : List Tuple) (xs : List Seen) (x : Seen) where
  classes_push : (c : Class) → class_in ports ts x.1 ≡ c
      → counts_of records cut (map (λ y. class_in ports ts y.1) (xs ++ x ∷ [])) ≡ counted c (counts_of records cut (map (λ y. class_in ports ts y.1) xs))
  classes_push c e =
      ap (counts_of records cut) (map-append (λ y. class_in ports ts y.1) xs (x ∷ []) ∙ ap (λ k. map (λ y. class_in ports ts y.1) xs ++ k ∷ []) e)
      ∙ counts_push records cut (map (λ y. class_in ports ts y.1) xs) c

  order_none : conn_in ports ts x.1 ≡ None → order_of ports ts (xs ++ x ∷ []) ≡ order_of ports ts xs
  unfolding order_of
  order_none e = push_none (λ y. conn_in ports ts y.1) xs x e

  order_some : (c : ℕ) → conn_in ports ts x.1 ≡ Some c → order_of ports ts (xs ++ x ∷ []) ≡ order_of ports ts xs ++ c ∷ []
  unfolding order_of
  order_some c e = push_some (λ y. conn_in ports ts y.1) xs x c e

  record Stays : Type 0 where
    lists : map (λ t. recs_of ports t (xs ++ x ∷ [])) ts ≡ map (λ t. recs_of ports t xs) ts
    order : order_of ports ts (xs ++ x ∷ []) ≡ order_of ports ts xs

  stays : place_in ports ts x.1 ≡ None → Stays
  stays e = place_not ports ts x.1 e Stays
      (λ f. record { lists = (λ k. map (λ t. map (λ a. a.rec) (conn_none ports xs x t f k)) ts); order = order_none (ap (option_and_then (number_in ts)) f) })
      (λ s f q. record {
        lists = (λ k. map (λ t. recs_some ports xs x s f t k) ts)
            ∙ grown_none (tuple_eq (tuple_of s)) (λ t. recs_of ports t xs) (length xs) ts (sym (position_from-zero (tuple_eq (tuple_of s)) ts) ∙ q);
        order = order_none (ap (option_and_then (number_in ts)) f ∙ q);
      })

  pub turn_none : place_in ports ts x.1 ≡ None
      → sorted_of ports records cut ts (xs ++ x ∷ []) ≡ record (sorted_of ports records cut ts xs) { counts = counted (class_in ports [] x.1) (sorted_of ports records cut ts xs).counts }
  turn_none e =
      let h = stays e in
      let n = classes_push (class_in ports [] x.1) (class_none ports ts x.1 e) in
      (λ k. record { tuples = ts; lists = h.lists k; order = h.order k; counts = n k })

  pub record Turns (c : ℕ) (s : Seg) : Type 0 where
    pub within : c < length ts
    pub all : sorted_of ports records cut ts (xs ++ x ∷ []) ≡ record (sorted_of ports records cut ts xs) {
      lists = set (map (λ t. recs_of ports t xs) ts) c (get_or (map (λ t. recs_of ports t xs) ts) c [] ++ length xs ∷ []);
      order = order_of ports ts xs ++ c ∷ [];
      counts = counted class.Served (sorted_of ports records cut ts xs).counts;
    }

  pub turn_some : (c : ℕ) (s : Seg) → IsDistinct tuple_eq ts → place_in ports ts x.1 ≡ Some (c, s) → Turns c s
  turn_some c s d e =
      let p = place_is ports ts x.1 c s e in
      let g = grown_some (tuple_eq (tuple_of s)) (λ t. recs_of ports t xs) (length xs) tuple_eq apart c ts d (sym (position_from-zero (tuple_eq (tuple_of s)) ts) ∙ p.number) in
      let zero : c - 0 ≡ c = omega arith in
      let within : c < length ts = omega (arith, g.within) in
      let n = classes_push class.Served (class_some ports ts x.1 c s e) in
      let o = order_some c (ap (option_and_then (number_in ts)) p.served ∙ p.number) in
      let one = (λ k. map (λ t. recs_some ports xs x s p.served t k) ts) ∙ g.one
      ∙ ap (λ m. set (map (λ t. recs_of ports t xs) ts) m (get_or (map (λ t. recs_of ports t xs) ts) m [] ++ length xs ∷ [])) zero in
      record { within = within; all = (λ k. record { tuples = ts; lists = one k; order = o k; counts = n k }) }
    where
      apart : (t u : Tuple) → tuple_eq (tuple_of s) t ≡ true → tuple_eq t u ≡ false → tuple_eq (tuple_of s) u ≡ false
      apart t u q h = ap (λ v. tuple_eq v u) (same (tuple_of s) t q) ∙ h

-- one list grown, seen in the lists' elements
pub grown_at : {V X : Type 0} (f : V → List X) (vs : List V) (c : ℕ) (v w : V) (x : X) → c < length (map f vs) → v ≡ get_or vs c v → f w ≡ f v ++ x ∷ []
    → map f (set vs c w) ≡ set (map f vs) c (get_or (map f vs) c [] ++ x ∷ [])
grown_at f vs c v w x lt is e =
    let less : c < length vs = omega (arith, length-map vs f) in
    map-set f vs c w ∙ ap (set (map f vs) c) (e ∙ ap (λ l. l ++ x ∷ []) (ap f is ∙ sym (get_or-map f vs c v [] less)))

pub seen_nil : (rs : List Captured) → seen_of rs [] ≡ []
seen_nil [] = refl
seen_nil (r ∷ rs) = refl

-- the records seen, one further
pub seen_more : (rs : List Captured) (ps : List Packet) (i : ℕ) (r : Captured) (p : Packet) → i < length rs → i < length ps
    → seen_of rs (take (i + 1) ps) ≡ seen_of rs (take i ps) ++ ((get_or rs i r).time, get_or ps i p) ∷ []
seen_more rs ps i r p a b = let on : i + 1 ≡ suc i = omega arith in ap (λ n. seen_of rs (take n ps)) on ∙ more rs ps i a b
  where
    none : {A : Type 0} {n : ℕ} → n < 0 → A
    none h = absurd (let no : ⊥ = omega arith in no)

    more : (rs : List Captured) (ps : List Packet) (i : ℕ) → i < length rs → i < length ps
        → seen_of rs (take (suc i) ps) ≡ seen_of rs (take i ps) ++ ((get_or rs i r).time, get_or ps i p) ∷ []
    more [] ps i a b = none a
    more (x ∷ xs) [] i a b = none b
    more (x ∷ xs) (y ∷ ys) zero a b = ap (λ l. (x.time, y) ∷ l) (seen_nil xs)
    more (x ∷ xs) (y ∷ ys) (suc i) a b =
        let c : i < length xs = omega (arith, a) in
        let d : i < length ys = omega (arith, b) in
        ap (λ l. (x.time, y) ∷ l) (more xs ys i c d)

pub length-seen : (rs : List Captured) (ps : List Packet) (i : ℕ) → i ≤ length rs → i ≤ length ps → length (seen_of rs (take i ps)) ≡ i
length-seen rs ps zero a b = ap length (seen_nil rs)
length-seen [] ps (suc i) a b = absurd (let no : ⊥ = omega arith in no)
length-seen (r ∷ rs) [] (suc i) a b = absurd (let no : ⊥ = omega arith in no)
length-seen (r ∷ rs) (p ∷ ps) (suc i) a b =
    let c : i ≤ length rs = omega (arith, a) in
    let d : i ≤ length ps = omega (arith, b) in
    ap suc (length-seen rs ps i c d)
