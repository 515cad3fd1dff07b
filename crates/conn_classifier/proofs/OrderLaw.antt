-- The connections of the served segments stand in record order, and each connection's items are of its own records.
use Rattle.std.proofs.Common.{◌≡◌, ℕ, ◌+◌, ◌<◌, ◌≤◌, ◌==◌, nat_lt, max, Bool, true, false, List, [], ◌∷◌, ◌++◌, suc, zero, length, map, filter, get_or, Option, Some, None, refl, sym, ap, ◌∙◌, arith, eq-eqb}
use Rattle.std.specs.List.{AllByRecursion, IsDistinct, position_from, position_or_len, filter_map}
use Rattle.std.proofs.lemmas.Bool.{ne_eqb, ltb-true}
use Rattle.std.proofs.lemmas.List.{get_or-map, length-map}
use Rattle.std.proofs.lemmas.Iterator.Adapters.{position_from-zero}
use Rattle.sq_base.specs.declared.kinds.Tuple.{Tuple}
use Rattle.segment_codec.specs.declared.packet.Packet.{Packet}
use Rattle.segment_codec.specs.declared.packet.Seg.{Seg}
use Rattle.segment_codec.specs.Packet.{packet_in}
use Rattle.capture_reader.specs.Limits.{most_records}
use Rattle.capture_reader.specs.CaptureFile.{last_time}
use Rattle.capture_reader.specs.Outcome.{CaptureFile}
use Rattle.conn_classifier.specs.declared.kinds.Arrival.{Arrival}
use Rattle.conn_classifier.specs.declared.kinds.Item.TheVariants.{Time}
use Rattle.segment_codec.specs.Refusal.{tuple_of}
use Rattle.conn_classifier.specs.Connections.{tuple_eq, served_in, conns, decoded}
use Rattle.conn_classifier.specs.Items.{Seen, arrivals, of_conn, items_after, items_of, conn_items}
use Rattle.conn_classifier.specs.Sorting.{number_in, conn_in, order_of}
use Rattle.conn_classifier.specs.Plan.{plan_by, IsOrdered, Climbs, records_of, seen}
use Rattle.conn_classifier.proofs.Conns.{same}
use Rattle.conn_classifier.proofs.PlanFacts.{all_at, no_below}
use Rattle.conn_classifier.proofs.ItemLemmas.{gap_by}
use Rattle.conn_classifier.specs.declared.rules.Ports.{Ports}
use Rattle.conn_classifier.specs.declared.rules.Rules.{Rules}

-- the number of a tuple among different ones
is_at : Option ℕ → ℕ → Bool
is_at None n = false
is_at (Some j) n = j == n

at_before : (p : Tuple → Bool) (i n : ℕ) (ts : List Tuple) → n < i → is_at (position_from p i ts) n ≡ false
unfolding is_at
at_before p i n [] lt = refl
at_before p i n (t ∷ ts) lt = by (p t) refl (at_before p (i + 1) n ts (omega (arith, lt)))
  where
    by : (b : Bool) → p t ≡ b → is_at (position_from p (i + 1) ts) n ≡ false → is_at (position_from p i (t ∷ ts)) n ≡ false
    by true e rest = rw e (ne_eqb i n (λ s. omega (arith, s, lt)))
    by false e rest = rw e rest

at_number : (u d : Tuple) (i c : ℕ) (ts : List Tuple) → IsDistinct tuple_eq ts → c < length ts → tuple_eq u (get_or ts c d) ≡ is_at (position_from (tuple_eq u) i ts) (i + c)
unfolding is_at IsDistinct
at_number u d i c [] apart lt = no_below lt
at_number u d i zero (t ∷ ts) apart lt = by (tuple_eq u t) refl (at_before (tuple_eq u) (i + 1) (i + 0) ts (omega arith))
  where
    by : (b : Bool) → tuple_eq u t ≡ b → is_at (position_from (tuple_eq u) (i + 1) ts) (i + 0) ≡ false → tuple_eq u t ≡ is_at (position_from (tuple_eq u) i (t ∷ ts)) (i + 0)
    by true e rest = rw e (let here : i ≡ i + 0 = omega arith in sym (eq-eqb i (i + 0) here))
    by false e rest = rw e (sym rest)
at_number u d i (suc c) (t ∷ ts) apart lt =
    let less : c < length ts = omega (arith, lt) in
    by (tuple_eq u t) refl less (at_number u d (i + 1) c ts apart.1 less)
  where
    by : (b : Bool) → tuple_eq u t ≡ b → c < length ts → tuple_eq u (get_or ts c d) ≡ is_at (position_from (tuple_eq u) (i + 1) ts) ((i + 1) + c)
        → tuple_eq u (get_or ts c d) ≡ is_at (position_from (tuple_eq u) i (t ∷ ts)) (i + suc c)
    by true e less rest =
        let off : tuple_eq u (get_or ts c d) ≡ false = ap (λ v. tuple_eq v (get_or ts c d)) (same u t e) ∙ all_at (λ y. tuple_eq t y ≡ false) ts c d apart.0 less in
        off ∙ sym (rw e (ne_eqb i (i + suc c) (λ s. omega (arith, s))))
    by false e less rest = let on : (i + 1) + c ≡ i + suc c = omega arith in rest ∙ ap (is_at (position_from (tuple_eq u) (i + 1) ts)) on ∙ sym (rw e refl)

-- the connection and the number of each served record
place : ℕ → Option ℕ → List (ℕ × ℕ)
place n None = []
place n (Some c) = (c, n) ∷ []

climbs_low : (a : ℕ) (xs : List ℕ) → Climbs (suc a) xs → Climbs a xs
climbs_low a [] h = tt
climbs_low a (x ∷ xs) h = (omega (arith, h.0), h.1)

number_below : (ts : List Tuple) (s : Seg) (c : ℕ) → number_in ts s ≡ Some c → c < length ts
number_below ts s c e = by (nat_lt (position_or_len (tuple_eq (tuple_of s)) ts) (length ts)) refl
  where
    by : (b : Bool) → nat_lt (position_or_len (tuple_eq (tuple_of s)) ts) (length ts) ≡ b → c < length ts
    by true q =
        let here : Some (position_or_len (tuple_eq (tuple_of s)) ts) ≡ Some c = rw q at e in
        let at : position_or_len (tuple_eq (tuple_of s)) ts ≡ c = cc in
        omega (arith, at, ltb-true (position_or_len (tuple_eq (tuple_of s)) ts) (length ts) q)
    by false q = absurd (let here : None ≡ Some c = rw q at e in let no : ⊥ = cc in no)

conn_below : (ports : Ports) (ts : List Tuple) (p : Packet) (c : ℕ) → conn_in ports ts p ≡ Some c → c < length ts
conn_below ports ts p c e = by (served_in ports p) refl
  where
    by : (o : Option Seg) → served_in ports p ≡ o → c < length ts
    by None q = absurd (let here : None ≡ Some c = rw q at e in let no : ⊥ = cc in no)
    by (Some s) q = number_below ts s c (rw q at e)

module _ (ports : Ports) (ts : List Tuple) where
  places : ℕ → List Seen → List (ℕ × ℕ)
  places n [] = []
  places n (x ∷ xs) = place n (conn_in ports ts x.1) ++ places (suc n) xs

  order_is : (n : ℕ) (xs : List Seen) → filter_map (λ (x : Seen). conn_in ports ts x.1) xs ≡ map (λ q. q.0) (places n xs)
  unfolding place places
  order_is n [] = refl
  order_is n (x ∷ xs) = by (conn_in ports ts x.1) refl (order_is (suc n) xs)
    where
      by : (o : Option ℕ) → conn_in ports ts x.1 ≡ o → filter_map (λ (x : Seen). conn_in ports ts x.1) xs ≡ map (λ q. q.0) (places (suc n) xs)
          → filter_map (λ (x : Seen). conn_in ports ts x.1) (x ∷ xs) ≡ map (λ q. q.0) (places n (x ∷ xs))
      by None e rest = rw e rest
      by (Some c) e rest = rw e (ap (λ l. c ∷ l) rest)

  places_few : (n : ℕ) (xs : List Seen) → length (places n xs) ≤ length xs
  unfolding place places
  places_few n [] = omega arith
  places_few n (x ∷ xs) = by (conn_in ports ts x.1) refl (places_few (suc n) xs)
    where
      by : (o : Option ℕ) → conn_in ports ts x.1 ≡ o → length (places (suc n) xs) ≤ length xs → length (places n (x ∷ xs)) ≤ length (x ∷ xs)
      by None e rest = rw e (omega (arith, rest))
      by (Some c) e rest = rw e (omega (arith, rest))

  places_climb : (n : ℕ) (xs : List Seen) → Climbs n (map (λ q. q.1) (places n xs))
  unfolding place places
  places_climb n [] = tt
  places_climb n (x ∷ xs) = by (conn_in ports ts x.1) refl (climbs_low n _ (places_climb (suc n) xs))
    where
      by : (o : Option ℕ) → conn_in ports ts x.1 ≡ o → Climbs n (map (λ q. q.1) (places (suc n) xs)) → Climbs n (map (λ q. q.1) (places n (x ∷ xs)))
      by None e rest = rw e rest
      by (Some c) e rest = rw e (omega arith, rest)

  places_within : (n : ℕ) (xs : List Seen) → AllByRecursion (λ (q : ℕ × ℕ). q.0 < length ts) (places n xs)
  unfolding place places
  places_within n [] = tt
  places_within n (x ∷ xs) = by (conn_in ports ts x.1) refl (places_within (suc n) xs)
    where
      by : (o : Option ℕ) → conn_in ports ts x.1 ≡ o → AllByRecursion (λ (q : ℕ × ℕ). q.0 < length ts) (places (suc n) xs) → AllByRecursion (λ (q : ℕ × ℕ). q.0 < length ts) (places n (x ∷ xs))
      by None e rest = rw e rest
      by (Some c) e rest = rw e (conn_below ports ts x.1 c e, rest)

  module _ (apart : IsDistinct tuple_eq ts) (c : ℕ) (lt : c < length ts) (d : Tuple) where
    at_conn : (s : Seg) → tuple_eq (tuple_of s) (get_or ts c d) ≡ is_at (number_in ts s) c
    at_conn s =
        let zero : 0 + c ≡ c = omega arith in
        at_number (tuple_of s) d 0 c ts apart lt ∙ (λ i. is_at (sym (position_from-zero (tuple_eq (tuple_of s)) ts) i) (zero i))

    records_are : (n : ℕ) (xs : List Seen) → map (λ (a : Arrival). a.rec) (filter (λ (a : Arrival). tuple_eq (tuple_of a.seg) (get_or ts c d)) (arrivals ports n xs)) ≡ map (λ q. q.1) (filter (λ q. q.0 == c) (places n xs))
    unfolding place places is_at
    records_are n [] = refl
    records_are n (x ∷ xs) = by (served_in ports x.1) refl (records_are (suc n) xs)
      where
        Goal : ℕ → List Seen → Type 0
        Goal n xs = map (λ (a : Arrival). a.rec) (filter (λ (a : Arrival). tuple_eq (tuple_of a.seg) (get_or ts c d)) (arrivals ports n xs)) ≡ map (λ q. q.1) (filter (λ q. q.0 == c) (places n xs))

        hit : (s : Seg) (j : ℕ) (b : Bool) → served_in ports x.1 ≡ Some s → number_in ts s ≡ Some j → (j == c) ≡ b → Goal (suc n) xs → Goal n (x ∷ xs)
        hit s j true e f h rest = let on : tuple_eq (tuple_of s) (get_or ts c d) ≡ true = at_conn s ∙ ap (λ o. is_at o c) f ∙ h in rw e (rw (on, f) (rw h (ap (λ l. n ∷ l) rest)))
        hit s j false e f h rest = let on : tuple_eq (tuple_of s) (get_or ts c d) ≡ false = at_conn s ∙ ap (λ o. is_at o c) f ∙ h in rw e (rw (on, f) (rw h rest))

        inner : (s : Seg) (o : Option ℕ) → served_in ports x.1 ≡ Some s → number_in ts s ≡ o → Goal (suc n) xs → Goal n (x ∷ xs)
        inner s None e f rest = let off : tuple_eq (tuple_of s) (get_or ts c d) ≡ false = at_conn s ∙ ap (λ o. is_at o c) f in rw e (rw (off, f) rest)
        inner s (Some j) e f rest = hit s j (j == c) e f refl rest

        by : (o : Option Seg) → served_in ports x.1 ≡ o → Goal (suc n) xs → Goal n (x ∷ xs)
        by None e rest = rw e rest
        by (Some s) e rest = inner s (number_in ts s) e refl rest

-- the records of items are those of their segments
records_after : (last at : ℕ) (arrived : List Arrival) → records_of (items_after at arrived ++ Time last ∷ []) ≡ map (λ a. a.rec) arrived
records_after last at [] = refl
records_after last at (a ∷ arrived) =
    let rest = records_after last (max at a.at) arrived in
    gap_by at (max at a.at) _ (λ l. records_of (l ++ Time last ∷ []) ≡ map (λ a. a.rec) (a ∷ arrived)) (ap (λ l. a.rec ∷ l) rest) (ap (λ l. a.rec ∷ l) rest)

records_items : (last : ℕ) (arrived : List Arrival) → records_of (items_of last arrived) ≡ map (λ a. a.rec) arrived
records_items last [] = refl
records_items last (a ∷ arrived) = ap (λ l. a.rec ∷ l) (records_after last a.at arrived)

nobody : Tuple
nobody = record { client = record { 0 = 0 }; client_port = 0; server = record { 0 = 0 }; server_port = 0 }

pub is_ordered : (file : CaptureFile) (rules : Rules) → length file.packets ≤ most_records → IsDistinct tuple_eq (conns rules.ports (decoded file rules.verify)) → IsOrdered (plan_by file rules)
unfolding plan_by order_of conn_items of_conn
is_ordered file rules few apart =
    let ts = conns rules.ports (decoded file rules.verify) in
    let xs = seen file rules.verify in
    record {
      places = places rules.ports ts 0 xs;
      few = omega (arith, few, places_few rules.ports ts 0 xs, length-map {B = Seen} file.packets (λ r. (r.time, packet_in file.link r.body rules.verify)));
      order = order_is rules.ports ts 0 xs;
      rising = places_climb rules.ports ts 0 xs;
      within = places_within rules.ports ts 0 xs;
      each = λ c lt.
          ap records_of (get_or-map (λ t. conn_items rules.ports (last_time file.packets) t xs) ts c nobody [] lt)
          ∙ records_items (last_time file.packets) (of_conn rules.ports (get_or ts c nobody) xs)
          ∙ records_are rules.ports ts apart c lt nobody 0 xs;
    }
