-- One more tuple among the connections: what was sorted out before stays, with an empty list more.
use Rattle.std.proofs.Common.{◌≡◌, ℕ, ◌+◌, ◌<◌, ◌≤◌, ◌||◌, nat_le, Bool, true, false, List, [], ◌∷◌, ◌++◌, suc, length, map, take, set, get_or, filter, position, Option, Some, None, refl, sym, ap, subst, ◌∙◌, arith}
use Rattle.std.specs.List.{list_any, position_from, filter_map, AllByRecursion}
use Rattle.std.specs.Option.{option_map, option_and_then}
use Rattle.std.proofs.lemmas.Bool.Decides.{nat_tests}
use Rattle.std.proofs.lemmas.Iterator.Adapters.{position_from-zero}
use Rattle.std.proofs.lemmas.List.{length-map, length-take, map-append, take_all}
use Rattle.std.proofs.lemmas.List.Folds.{list_any-append}
use Rattle.sq_base.specs.declared.kinds.Tuple.{Tuple}
use Rattle.capture_reader.specs.CaptureFile.{Packet as Captured}
use Rattle.segment_codec.specs.declared.packet.Packet.{Packet}
use Rattle.segment_codec.specs.declared.packet.Packet.TheVariants as packet
use Rattle.segment_codec.specs.declared.packet.Seg.{Seg}
use Rattle.segment_codec.specs.Refusal.{tuple_of}
use Rattle.conn_classifier.specs.Limits.{most_conns}
use Rattle.conn_classifier.specs.Connections.{conns, distinct, served_in, served_tuple, tuple_eq}
use Rattle.conn_classifier.specs.Classes.{class_in, counts_of}
use Rattle.conn_classifier.specs.Items.{Seen, arrivals, of_conn}
use Rattle.conn_classifier.specs.Sorting.{seen_of, conn_in, number_in, place_in, order_of, recs_of, SortedOf, sorted_of, sorted_seen, with_conn, counted, total}
use Rattle.conn_classifier.specs.declared.kinds.Class.{Class}
use Rattle.conn_classifier.specs.declared.kinds.Class.TheVariants as class
use Rattle.conn_classifier.proofs.Conns.{conns_none, conns_some, conns_full, same}
use Rattle.conn_classifier.proofs.Distinct.{any_without}
use Rattle.conn_classifier.proofs.PlanLaw.{all_to, same_tuple, apart_conns, few_conns}
use Rattle.conn_classifier.proofs.SortLemmas.{turn_none, turn_some, seen_more, seen_nil}
use Rattle.conn_classifier.proofs.Tallies.{total-counts}
use Rattle.conn_classifier.specs.declared.rules.Ports.{Ports}
use Rattle.conn_classifier.specs.Rules.{is_served}

-- a test that some element passes finds the same one with more elements behind
pub from_more : {K : Type 0} (f : K → Bool) (i : ℕ) (xs ys : List K) → list_any f xs ≡ true → position_from f i (xs ++ ys) ≡ position_from f i xs
from_more f i [] ys h = absurd (let no : ⊥ = cc in no)
from_more f i (x ∷ xs) ys h = by (f x) refl (from_more f (i + 1) xs ys)
  where
    by : (b : Bool) → f x ≡ b → (list_any f xs ≡ true → position_from f (i + 1) (xs ++ ys) ≡ position_from f (i + 1) xs)
        → position_from f i (x ∷ (xs ++ ys)) ≡ position_from f i (x ∷ xs)
    by true e rest = rw e refl
    by false e rest = rw e (rest (let later : list_any f xs ≡ true = rw e at h in later))

pub position_more : {K : Type 0} (f : K → Bool) (xs ys : List K) → list_any f xs ≡ true → position f (xs ++ ys) ≡ position f xs
position_more f xs ys h = position_from-zero f (xs ++ ys) ∙ from_more f 0 xs ys h ∙ sym (position_from-zero f xs)

-- none passes but the last
from_last : {K : Type 0} (f : K → Bool) (i : ℕ) (xs : List K) (y : K) → list_any f xs ≡ false → f y ≡ true → position_from f i (xs ++ y ∷ []) ≡ Some (i + length xs)
from_last f i [] y h e = let zero : i + 0 ≡ i = omega arith in rw (e, zero) refl
from_last f i (x ∷ xs) y h e = by (f x) refl (λ later. from_last f (i + 1) xs y later e)
  where
    by : (b : Bool) → f x ≡ b → (list_any f xs ≡ false → position_from f (i + 1) (xs ++ y ∷ []) ≡ Some ((i + 1) + length xs))
        → position_from f i (x ∷ (xs ++ y ∷ [])) ≡ Some (i + suc (length xs))
    by true q rest = absurd (let no : true ≡ false = rw q at h in let bad : ⊥ = cc in bad)
    by false q rest =
        let later : list_any f xs ≡ false = rw q at h in
        let on : (i + 1) + length xs ≡ i + suc (length xs) = omega arith in
        rw q (rest later ∙ ap Some on)

pub position_last : {K : Type 0} (f : K → Bool) (xs : List K) (y : K) → list_any f xs ≡ false → f y ≡ true → position f (xs ++ y ∷ []) ≡ Some (length xs)
position_last f xs y h e = let zero : 0 + length xs ≡ length xs = omega arith in position_from-zero f (xs ++ y ∷ []) ∙ from_last f 0 xs y h e ∙ ap Some zero

any_more : {K : Type 0} (f : K → Bool) (xs ys : List K) → list_any f xs ≡ true → list_any f (xs ++ ys) ≡ true
any_more f xs ys h = list_any-append f xs ys ∙ ap (λ b. b || list_any f ys) h

-- a record whose segment is of one of these connections, or which has none
abbrev pub IsListed : Ports → List Tuple → Packet → Type 0
IsListed ports ts p = (t : Tuple) → served_tuple ports p ≡ Some t → list_any (tuple_eq t) ts ≡ true

pub all_listed : (ts : List Tuple) → AllByRecursion (λ t. list_any (tuple_eq t) (distinct ts) ≡ true) ts
all_listed [] = tt
all_listed (t ∷ ts) = (let here = same_tuple t in rw here refl, all_to _ _ behind ts (all_listed ts))
  where
    behind : (u : Tuple) → list_any (tuple_eq u) (distinct ts) ≡ true → list_any (tuple_eq u) (distinct (t ∷ ts)) ≡ true
    behind u h = by (tuple_eq u t) refl
      where
        by : (b : Bool) → tuple_eq u t ≡ b → list_any (tuple_eq u) (distinct (t ∷ ts)) ≡ true
        by true e = rw e refl
        by false e = rw e (any_without tuple_eq same u t e (distinct ts) ∙ h)

from_tuples : (ports : Ports) (ds : List Tuple) (xs : List Seen) → AllByRecursion (λ t. list_any (tuple_eq t) ds ≡ true) (filter_map (served_tuple ports) (map (λ x. x.1) xs))
    → AllByRecursion (λ x. IsListed ports ds x.1) xs
from_tuples ports ds [] h = tt
from_tuples ports ds (x ∷ xs) h = by (served_tuple ports x.1) refl h (from_tuples ports ds xs)
  where
    by : (o : Option Tuple) → served_tuple ports x.1 ≡ o → AllByRecursion (λ t. list_any (tuple_eq t) ds ≡ true) (filter_map (served_tuple ports) (map (λ x. x.1) (x ∷ xs)))
        → (AllByRecursion (λ t. list_any (tuple_eq t) ds ≡ true) (filter_map (served_tuple ports) (map (λ x. x.1) xs)) → AllByRecursion (λ x. IsListed ports ds x.1) xs)
        → AllByRecursion (λ x. IsListed ports ds x.1) (x ∷ xs)
    by None e h rest = ((λ t q. absurd (let both : None ≡ Some t = sym e ∙ q in let no : ⊥ = cc in no)), rest (rw e at h))
    by (Some u) e h rest =
        let all : (list_any (tuple_eq u) ds ≡ true) × AllByRecursion (λ t. list_any (tuple_eq t) ds ≡ true) (filter_map (served_tuple ports) (map (λ x. x.1) xs)) = rw e at h in
        ((λ t q. let both : Some u ≡ Some t = sym e ∙ q in let is : u ≡ t = cc in subst (λ v. list_any (tuple_eq v) ds ≡ true) is all.0), rest all.1)

-- where there is room for more, each served segment is of a connection
pub listed : (ports : Ports) (xs : List Seen) → length (conns ports (map (λ x. x.1) xs)) < most_conns → AllByRecursion (λ x. IsListed ports (conns ports (map (λ x. x.1) xs)) x.1) xs
unfolding conns
listed ports xs room =
    let ds = distinct (filter_map (served_tuple ports) (map (λ x. x.1) xs)) in
    let short : length ds < most_conns = omega (arith, length-take most_conns ds) in
    let all : take most_conns ds ≡ ds = take_all most_conns ds (omega arith) in
    subst (λ l. AllByRecursion (λ (x : Seen). IsListed ports l x.1) xs) (sym all) (from_tuples ports ds xs (all_listed (filter_map (served_tuple ports) (map (λ x. x.1) xs))))

-- what a tuple that is new adds
module _ (ports : Ports) (ts : List Tuple) (t : Tuple) (new : list_any (tuple_eq t) ts ≡ false) where
  other : (s : Seg) → list_any (tuple_eq (tuple_of s)) ts ≡ true → tuple_eq (tuple_of s) t ≡ false
  other s h = by (tuple_eq (tuple_of s) t) refl
    where
      by : (b : Bool) → tuple_eq (tuple_of s) t ≡ b → tuple_eq (tuple_of s) t ≡ false
      by true q = absurd (let both : true ≡ false = sym h ∙ ap (λ u. list_any (tuple_eq u) ts) (same (tuple_of s) t q) ∙ new in let no : ⊥ = cc in no)
      by false q = q

  served_listed : (p : Packet) (s : Seg) → IsListed ports ts p → served_in ports p ≡ Some s → list_any (tuple_eq (tuple_of s)) ts ≡ true
  served_listed p s h e = h (tuple_of s) (ap (option_map tuple_of) e)

  none_of : (n : ℕ) (xs : List Seen) → AllByRecursion (λ x. IsListed ports ts x.1) xs → filter (λ a. tuple_eq (tuple_of a.seg) t) (arrivals ports n xs) ≡ []
  none_of n [] h = refl
  none_of n (x ∷ xs) h = by (served_in ports x.1) refl (none_of (suc n) xs h.1)
    where
      by : (o : Option Seg) → served_in ports x.1 ≡ o → filter (λ a. tuple_eq (tuple_of a.seg) t) (arrivals ports (suc n) xs) ≡ []
          → filter (λ a. tuple_eq (tuple_of a.seg) t) (arrivals ports n (x ∷ xs)) ≡ []
      by None e rest = rw e rest
      by (Some s) e rest = let off = other s (served_listed x.1 s h.0 e) in rw (e, off) rest

  same_conn : (p : Packet) → IsListed ports ts p → conn_in ports (ts ++ t ∷ []) p ≡ conn_in ports ts p
  same_conn p h = by (served_in ports p) refl
    where
      by : (o : Option Seg) → served_in ports p ≡ o → conn_in ports (ts ++ t ∷ []) p ≡ conn_in ports ts p
      by None e = ap (option_and_then (number_in (ts ++ t ∷ []))) e ∙ sym (ap (option_and_then (number_in ts)) e)
      by (Some s) e =
          ap (option_and_then (number_in (ts ++ t ∷ []))) e ∙ position_more (tuple_eq (tuple_of s)) ts (t ∷ []) (served_listed p s h e)
          ∙ sym (ap (option_and_then (number_in ts)) e)

  same_class_in : (p : Packet) → IsListed ports ts p → class_in ports (ts ++ t ∷ []) p ≡ class_in ports ts p
  same_class_in (packet.Segment s) h = by (is_served ports s.dst_port) refl
    where
      by : (b : Bool) → is_served ports s.dst_port ≡ b → class_in ports (ts ++ t ∷ []) (packet.Segment s) ≡ class_in ports ts (packet.Segment s)
      by true e =
          let is : list_any (tuple_eq (tuple_of s)) ts ≡ true = served_listed (packet.Segment s) s h (rw e refl) in
          let more = any_more (tuple_eq (tuple_of s)) ts (t ∷ []) is in
          rw (e, is, more) refl
      by false e = rw e refl
  same_class_in packet.Other h = refl
  same_class_in packet.Fragment h = refl
  same_class_in packet.Cut h = refl
  same_class_in (packet.Malformed why) h = refl
  same_class_in packet.BadSum h = refl

  same_order : (xs : List Seen) → AllByRecursion (λ x. IsListed ports ts x.1) xs → filter_map (λ x. conn_in ports (ts ++ t ∷ []) x.1) xs ≡ filter_map (λ x. conn_in ports ts x.1) xs
  same_order [] h = refl
  same_order (x ∷ xs) h = by (conn_in ports ts x.1) refl (same_order xs h.1)
    where
      by : (o : Option ℕ) → conn_in ports ts x.1 ≡ o → filter_map (λ x. conn_in ports (ts ++ t ∷ []) x.1) xs ≡ filter_map (λ x. conn_in ports ts x.1) xs
          → filter_map (λ x. conn_in ports (ts ++ t ∷ []) x.1) (x ∷ xs) ≡ filter_map (λ x. conn_in ports ts x.1) (x ∷ xs)
      by None e rest = let f = same_conn x.1 h.0 ∙ e in rw (f, e) rest
      by (Some c) e rest = let f = same_conn x.1 h.0 ∙ e in rw (f, e) (ap (λ l. c ∷ l) rest)

  same_classes : (xs : List Seen) → AllByRecursion (λ x. IsListed ports ts x.1) xs → map (λ x. class_in ports (ts ++ t ∷ []) x.1) xs ≡ map (λ x. class_in ports ts x.1) xs
  same_classes [] h = refl
  same_classes (x ∷ xs) h = (λ k. same_class_in x.1 h.0 k ∷ same_classes xs h.1 k)

  pub grows : (records : ℕ) (cut : Bool) (xs : List Seen) → AllByRecursion (λ x. IsListed ports ts x.1) xs
      → record { tuples = ts ++ t ∷ []; lists = map (λ u. recs_of ports u xs) ts ++ [] ∷ []; order = order_of ports ts xs; counts = counts_of records cut (map (λ x. class_in ports ts x.1) xs) }
      ≡ sorted_of ports records cut (ts ++ t ∷ []) xs
  unfolding of_conn order_of
  grows records cut xs h =
      let lists = ap (λ l. map (λ u. recs_of ports u xs) ts ++ map (λ a. a.rec) l ∷ []) (sym (none_of 0 xs h)) ∙ sym (map-append (λ u. recs_of ports u xs) ts (t ∷ [])) in
      (λ k. record { tuples = ts ++ t ∷ []; lists = lists k; order = sym (same_order xs h) k; counts = counts_of records cut (sym (same_classes xs h) k) })

-- what is sorted out so far, with one more tuple
module _ (t : Tuple) (s : SortedOf) where
  pub joins_known : list_any (tuple_eq t) s.tuples ≡ true → s ≡ with_conn t s
  joins_known h = by (nat_le most_conns (length s.tuples)) refl
    where
      by : (b : Bool) → nat_le most_conns (length s.tuples) ≡ b → s ≡ with_conn t s
      by true e = rw e refl
      by false e = rw (e, h) refl

  pub joins_full : most_conns ≤ length s.tuples → s ≡ with_conn t s
  joins_full full = let e : nat_le most_conns (length s.tuples) ≡ true = grind (arith, nat_tests, full) in rw e refl

  pub joins_new : length s.tuples < most_conns → list_any (tuple_eq t) s.tuples ≡ false
      → record s { tuples = s.tuples ++ t ∷ []; lists = s.lists ++ [] ∷ [] } ≡ with_conn t s
  joins_new room h = let e : nat_le most_conns (length s.tuples) ≡ false = grind (arith, nat_tests, room) in rw (e, h) refl

-- one record more, where xs were seen before it
module _ (ports : Ports) (records : ℕ) (cut : Bool) (xs : List Seen) (at : ℕ) (p : Packet) where
  before : List Tuple
  before = conns ports (map (λ x. x.1) xs)

  after : List Tuple
  after = conns ports (map (λ x. x.1) xs ++ p ∷ [])

  joins_none : served_in ports p ≡ None → sorted_of ports records cut before xs ≡ sorted_of ports records cut after xs
  unfolding before after
  joins_none e = ap (λ ts. sorted_of ports records cut ts xs) (sym (conns_none ports (map (λ x. x.1) xs) p (ap (option_map tuple_of) e)))

  joins_some : (t : Tuple) → served_tuple ports p ≡ Some t → with_conn t (sorted_of ports records cut before xs) ≡ sorted_of ports records cut after xs
  unfolding before after
  joins_some t e = by (nat_le most_conns (length (conns ports ps))) (list_any (tuple_eq t) (conns ports ps)) refl refl
    where
      ps : List Packet
      ps = map (λ x. x.1) xs

      by : (a b : Bool) → nat_le most_conns (length (conns ports ps)) ≡ a → list_any (tuple_eq t) (conns ports ps) ≡ b
          → with_conn t (sorted_of ports records cut (conns ports ps) xs) ≡ sorted_of ports records cut (conns ports (ps ++ p ∷ [])) xs
      by true b f g =
          let full : length (conns ports ps) < most_conns → ⊥ = λ room. grind (arith, nat_tests, f, room) in
          rw f (ap (λ ts. sorted_of ports records cut ts xs) (sym (conns_full ports ps p t e full)))
      by false true f g =
          let room : length (conns ports ps) < most_conns = grind (arith, nat_tests, f) in
          rw (f, g) (ap (λ ts. sorted_of ports records cut ts xs) (sym (conns_some ports ps p t e room ∙ rw g refl)))
      by false false f g =
          let room : length (conns ports ps) < most_conns = grind (arith, nat_tests, f) in
          rw (f, g) (grows ports (conns ports ps) t g records cut xs (listed ports xs room) ∙ ap (λ ts. sorted_of ports records cut ts xs) (sym (conns_some ports ps p t e room ∙ rw g refl)))

  -- the record counted, where its connection is known
  module _ (s : SortedOf) (so_far : s ≡ sorted_of ports records cut after xs) where
    whole : sorted_of ports records cut after (xs ++ (at, p) ∷ []) ≡ sorted_seen ports records cut (xs ++ (at, p) ∷ [])
    unfolding after
    whole = ap (λ ps. sorted_of ports records cut (conns ports ps) (xs ++ (at, p) ∷ [])) (sym (map-append (λ (x : Seen). x.1) xs ((at, p) ∷ [])))

    passes : place_in ports after p ≡ None → (k : Class) → k ≡ class_in ports [] p → record s { counts = counted k s.counts } ≡ sorted_seen ports records cut (xs ++ (at, p) ∷ [])
    passes q k e = (λ j. record (so_far j) { counts = counted (e j) (so_far j).counts }) ∙ sym (turn_none ports records cut after xs (at, p) q) ∙ whole

    adds : (c n : ℕ) (g : Seg) → place_in ports after p ≡ Some (c, g) → n ≡ length xs
        → record s {
          lists = set s.lists c (get_or s.lists c [] ++ n ∷ []);
          order = s.order ++ c ∷ [];
          counts = counted class.Served s.counts;
        } ≡ sorted_seen ports records cut (xs ++ (at, p) ∷ [])
    unfolding after
    adds c n g q e =
        let turn = turn_some ports records cut after xs (at, p) c g (apart_conns ports (map (λ x. x.1) xs ++ p ∷ [])) q in
        (λ k. record (so_far k) {
          lists = set (so_far k).lists c (get_or (so_far k).lists c [] ++ e k ∷ []);
          order = (so_far k).order ++ c ∷ [];
          counts = counted class.Served (so_far k).counts;
        })
        ∙ sym turn.all ∙ whole

  module _ (old : SortedOf) (is : old ≡ sorted_seen ports records cut xs) where
    pub unserved : served_in ports p ≡ None → (k : Class) → k ≡ class_in ports [] p → record old { counts = counted k old.counts } ≡ sorted_seen ports records cut (xs ++ (at, p) ∷ [])
    unfolding before
    unserved e k f = passes old (is ∙ joins_none e) (ap (option_and_then {U = ℕ × Seg} (λ s. option_map (λ c. (c, s)) (number_in after s))) e) k f

    -- a served segment, with the connections that there are then
    module _ (g : Seg) (t : Tuple) (now : SortedOf) (served : served_in ports p ≡ Some g) (of : t ≡ tuple_of g) (joined : now ≡ with_conn t old) where
      so_far : now ≡ sorted_of ports records cut after xs
      unfolding before
      so_far = joined ∙ ap (with_conn t) is ∙ joins_some t (ap (option_map tuple_of) served ∙ ap Some (sym of))

      place : (o : Option ℕ) → o ≡ position (tuple_eq t) now.tuples → place_in ports after p ≡ option_map {U = ℕ × Seg} (λ c. (c, g)) o
      place o e =
          ap (option_and_then {U = ℕ × Seg} (λ s. option_map (λ c. (c, s)) (number_in after s))) served
          ∙ ap (option_map {U = ℕ × Seg} (λ c. (c, g))) (sym (e ∙ (λ k. position (tuple_eq (of k)) (so_far k).tuples)))

      pub unfit : None ≡ position (tuple_eq t) now.tuples → (k : Class) → k ≡ class_in ports [] p
          → record now { counts = counted k now.counts } ≡ sorted_seen ports records cut (xs ++ (at, p) ∷ [])
      unfit e k f = passes now so_far (place None e) k f

      pub fit : (c n : ℕ) → Some c ≡ position (tuple_eq t) now.tuples → n ≡ length xs
          → record now {
            lists = set now.lists c (get_or now.lists c [] ++ n ∷ []);
            order = now.order ++ c ∷ [];
            counts = counted class.Served now.counts;
          } ≡ sorted_seen ports records cut (xs ++ (at, p) ∷ [])
      fit c n e f = adds now so_far c n g (place (Some c) e) f

-- what holds of all that is sorted out
module _ (ports : Ports) (records : ℕ) (cut : Bool) (xs : List Seen) (s : SortedOf) (is : s ≡ sorted_seen ports records cut xs) where
  pub total_here : total s.counts ≡ length xs
  total_here =
      ap (λ (t : SortedOf). total t.counts) is ∙ total-counts records cut (map (λ x. class_in ports (conns ports (map (λ x. x.1) xs)) x.1) xs)
      ∙ length-map xs (λ x. class_in ports (conns ports (map (λ x. x.1) xs)) x.1)

  pub few_here : length s.tuples ≤ most_conns
  few_here = omega (arith, ap (λ (t : SortedOf). length t.tuples) is, few_conns ports (map (λ x. x.1) xs))

  pub even_here : length s.lists ≡ length s.tuples
  even_here =
      ap (λ (t : SortedOf). length t.lists) is ∙ length-map (conns ports (map (λ x. x.1) xs)) (λ t. recs_of ports t xs) ∙ sym (ap (λ (t : SortedOf). length t.tuples) is)

-- nothing sorted yet
pub starts : (ports : Ports) (records : ℕ) (cut : Bool) (rs : List Captured) (ps : List Packet)
    → record { tuples = []; lists = []; order = []; counts = counts_of records cut [] } ≡ sorted_seen ports records cut (seen_of rs (take 0 ps))
unfolding conns of_conn order_of
starts ports records cut rs ps = ap (sorted_seen ports records cut) (sym (seen_nil rs))

-- one record further
pub one_further : (ports : Ports) (records : ℕ) (cut : Bool) (rs : List Captured) (ps : List Packet) (i : ℕ) (r : Captured) (d : Packet) → i < length rs → i < length ps
    → (time : ℕ) (s : SortedOf) → time ≡ (get_or rs i r).time → s ≡ sorted_seen ports records cut (seen_of rs (take i ps) ++ (time, get_or ps i d) ∷ [])
    → s ≡ sorted_seen ports records cut (seen_of rs (take (i + 1) ps))
one_further ports records cut rs ps i r d a b time s same so_far =
    so_far ∙ ap (λ n. sorted_seen ports records cut (seen_of rs (take i ps) ++ (n, get_or ps i d) ∷ [])) same ∙ ap (sorted_seen ports records cut) (sym (seen_more rs ps i r d a b))

-- the packets of the records seen
pub packets_seen : (rs : List Captured) (ps : List Packet) → length ps ≤ length rs → map (λ (x : Seen). x.1) (seen_of rs ps) ≡ ps
packets_seen [] [] h = refl
packets_seen [] (p ∷ ps) h = absurd (let no : ⊥ = omega (arith, h) in no)
packets_seen (r ∷ rs) [] h = refl
packets_seen (r ∷ rs) (p ∷ ps) h = let less : length ps ≤ length rs = omega (arith, h) in ap (λ l. p ∷ l) (packets_seen rs ps less)
