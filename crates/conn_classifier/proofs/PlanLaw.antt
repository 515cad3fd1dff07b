-- The plan of a capture is a plan: what holds of every plan follows from the sizes of the capture.
use Rattle.std.proofs.Common.{◌≡◌, ℕ, ◌+◌, ◌*◌, ◌<◌, ◌≤◌, ◌==◌, not, max, Bool, true, false, List, [], ◌∷◌, ◌++◌, suc, zero, length, map, take, filter, fold, Option, Some, None, IfSome, slice_get, refl, ap, subst, ◌∙◌, arith, eq-eqb}
use Rattle.std.specs.List.{AllByRecursion, IsDistinct, filter_map}
use Rattle.std.proofs.lemmas.List.{length-map, length-take, length-append}
use Rattle.std.proofs.lemmas.Bool.{and_from}
use Rattle.sq_base.specs.declared.kinds.Tuple.{Tuple}
use Rattle.segment_codec.specs.declared.packet.Packet.{Packet}
use Rattle.segment_codec.specs.declared.packet.Packet.TheVariants as packet
use Rattle.segment_codec.specs.declared.packet.Seg.{Seg}
use Rattle.segment_codec.specs.Packet.{packet_in}
use Rattle.capture_reader.specs.CaptureFile.{Packet as Captured, last_time}
use Rattle.capture_reader.specs.Outcome.{CaptureFile}
use Rattle.capture_reader.specs.Limits.{latest_time, most_records}
use Rattle.conn_classifier.specs.Limits.{most_conns}
use Rattle.conn_classifier.specs.declared.kinds.Arrival.{Arrival}
use Rattle.conn_classifier.specs.declared.kinds.Item.{Item}
use Rattle.conn_classifier.specs.declared.kinds.Item.TheVariants.{Time}
use Rattle.segment_codec.specs.Refusal.{tuple_of}
use Rattle.conn_classifier.specs.Connections.{tuple_eq, served_in, served_tuple, distinct, conns, decoded}
use Rattle.conn_classifier.specs.Items.{Seen, arrivals, of_conn, items_after, items_of, conn_items}
use Rattle.conn_classifier.specs.Plan.{plan_by, IsPlan, IsItems, IsInside, IsSpaced, Rises, seen}
use Rattle.conn_classifier.specs.Sorting.{seen_of, sorted_of}
use Rattle.conn_classifier.specs.declared.kinds.Counts.{Counts}
use Rattle.conn_classifier.proofs.Conns.{same}
use Rattle.conn_classifier.proofs.ItemLemmas.{gap_by}
use Rattle.conn_classifier.proofs.OrderLaw.{is_ordered}
use Rattle.conn_classifier.proofs.TextWithin.{EndsWithin, text_within}
use Rattle.conn_classifier.specs.declared.rules.Ports.{Ports}
use Rattle.conn_classifier.specs.declared.rules.Rules.{Rules}
use Rattle.conn_classifier.specs.Rules.{is_served}

-- what holds of all elements holds of all of a part
pub all_to : {X : Type 0} (P Q : X → Type 0) → ((x : X) → P x → Q x) → (xs : List X) → AllByRecursion P xs → AllByRecursion Q xs
all_to P Q f [] h = tt
all_to P Q f (x ∷ xs) h = (f x h.0, all_to P Q f xs h.1)

pub all_take : {X : Type 0} (P : X → Type 0) (n : ℕ) (xs : List X) → AllByRecursion P xs → AllByRecursion P (take n xs)
all_take P zero xs h = tt
all_take P (suc n) [] h = tt
all_take P (suc n) (x ∷ xs) h = (h.0, all_take P n xs h.1)

pub all_filter : {X : Type 0} (P : X → Type 0) (p : X → Bool) (xs : List X) → AllByRecursion P xs → AllByRecursion P (filter p xs)
all_filter P p [] h = tt
all_filter P p (x ∷ xs) h = by (p x) refl (all_filter P p xs h.1)
  where
    by : (b : Bool) → p x ≡ b → AllByRecursion P (filter p xs) → AllByRecursion P (filter p (x ∷ xs))
    by true e rest = rw e (h.0, rest)
    by false e rest = rw e rest

pub all_map : {X Y : Type 0} (P : Y → Type 0) (f : X → Y) (xs : List X) → AllByRecursion (λ x. P (f x)) xs → AllByRecursion P (map f xs)
all_map P f [] h = tt
all_map P f (x ∷ xs) h = (h.0, all_map P f xs h.1)

pub all_append : {X : Type 0} (P : X → Type 0) (xs ys : List X) → AllByRecursion P xs → AllByRecursion P ys → AllByRecursion P (xs ++ ys)
all_append P [] ys h k = k
all_append P (x ∷ xs) ys h k = (h.0, all_append P xs ys h.1 k)

pub all_distinct : (P : Tuple → Type 0) (ts : List Tuple) → AllByRecursion P ts → AllByRecursion P (distinct ts)
all_distinct P [] h = tt
all_distinct P (t ∷ ts) h = (h.0, all_filter P (λ u. not (tuple_eq u t)) (distinct ts) (all_distinct P ts h.1))

pub length-filter_le : {X : Type 0} (p : X → Bool) (xs : List X) → length (filter p xs) ≤ length xs
length-filter_le p [] = omega arith
length-filter_le p (x ∷ xs) = by (p x) refl (length-filter_le p xs)
  where
    by : (b : Bool) → p x ≡ b → length (filter p xs) ≤ length xs → length (filter p (x ∷ xs)) ≤ length (x ∷ xs)
    by true e rest = rw e (omega (arith, rest))
    by false e rest = rw e (omega (arith, rest))

pub same_tuple : (t : Tuple) → tuple_eq t t ≡ true
same_tuple t = and_from _ _ (same t.client.0) (and_from _ _ (same t.client_port) (and_from _ _ (same t.server.0) (same t.server_port)))
  where
    same : (n : ℕ) → (n == n) ≡ true
    same n = eq-eqb n n refl

-- a connection has a served port, and a segment among these
pub record IsConn (ports : Ports) (arrived : List Arrival) (t : Tuple) : Type 0 where
  pub served : is_served ports t.server_port ≡ true
  pub some : 0 < length (filter (λ a. tuple_eq (tuple_of a.seg) t) arrived)

pub served_port : (ports : Ports) (p : Packet) (s : Seg) → served_in ports p ≡ Some s → is_served ports s.dst_port ≡ true
served_port ports (packet.Segment q) s e = by (is_served ports q.dst_port) refl e
  where
    by : (b : Bool) → is_served ports q.dst_port ≡ b → served_in ports (packet.Segment q) ≡ Some s → is_served ports s.dst_port ≡ true
    by true h e = let same : q ≡ s = (let now : Some q ≡ Some s = rw h at e in cc) in subst (λ (r : Seg). is_served ports r.dst_port ≡ true) same h
    by false h e = absurd (let no : None ≡ Some s = rw h at e in let bad : ⊥ = cc in bad)
served_port ports packet.Other s e = absurd (let bad : ⊥ = cc in bad)
served_port ports packet.Fragment s e = absurd (let bad : ⊥ = cc in bad)
served_port ports packet.Cut s e = absurd (let bad : ⊥ = cc in bad)
served_port ports (packet.Malformed why) s e = absurd (let bad : ⊥ = cc in bad)
served_port ports packet.BadSum s e = absurd (let bad : ⊥ = cc in bad)

pub one_more : (ports : Ports) (a : Arrival) (arrived : List Arrival) (t : Tuple) → IsConn ports arrived t → IsConn ports (a ∷ arrived) t
one_more ports a arrived t is = by (tuple_eq (tuple_of a.seg) t) refl
  where
    by : (b : Bool) → tuple_eq (tuple_of a.seg) t ≡ b → IsConn ports (a ∷ arrived) t
    by true e = record { served = is.served; some = rw e (omega arith) }
    by false e = record { served = is.served; some = rw e is.some }

pub all_conns : (ports : Ports) (n : ℕ) (xs : List Seen) → AllByRecursion (IsConn ports (arrivals ports n xs)) (filter_map (served_tuple ports) (map (λ x. x.1) xs))
all_conns ports n [] = tt
all_conns ports n (x ∷ xs) = by (served_in ports x.1) refl (all_conns ports (suc n) xs)
  where
    first : (s : Seg) (more : List Arrival) → 0 < length (filter (λ a. tuple_eq (tuple_of a.seg) (tuple_of s)) (record { rec = n; at = x.0; seg = s } ∷ more))
    first s more = let same = same_tuple (tuple_of s) in rw same (omega arith)

    by : (o : Option Seg) → served_in ports x.1 ≡ o → AllByRecursion (IsConn ports (arrivals ports (suc n) xs)) (filter_map (served_tuple ports) (map (λ x. x.1) xs))
        → AllByRecursion (IsConn ports (arrivals ports n (x ∷ xs))) (filter_map (served_tuple ports) (x.1 ∷ map (λ x. x.1) xs))
    by None e rest = rw e rest
    by (Some s) e rest = rw e (
      record { served = served_port ports x.1 s e; some = first s (arrivals ports (suc n) xs) },
      all_to _ _ (one_more ports (record { rec = n; at = x.0; seg = s }) (arrivals ports (suc n) xs)) _ rest,
    )

-- the segments of a capture's records
pub record IsIn (file : CaptureFile) (last : ℕ) (a : Arrival) : Type 0 where
  pub time : a.at ≤ last
  pub record_number : a.rec < length file.packets
  pub text : IfSome (slice_get file.packets a.rec) (λ p. a.seg.text_from + a.seg.text_len ≤ length p.body)

pub served_within : (ports : Ports) (n : ℕ) (p : Packet) (s : Seg) → EndsWithin n p → served_in ports p ≡ Some s → s.text_from + s.text_len ≤ n
served_within ports n (packet.Segment q) s h e = by (is_served ports q.dst_port) refl e
  where
    by : (b : Bool) → is_served ports q.dst_port ≡ b → served_in ports (packet.Segment q) ≡ Some s → s.text_from + s.text_len ≤ n
    by true f e = let same : q ≡ s = (let now : Some q ≡ Some s = rw f at e in cc) in subst (λ (r : Seg). r.text_from + r.text_len ≤ n) same h
    by false f e = absurd (let no : None ≡ Some s = rw f at e in let bad : ⊥ = cc in bad)
served_within ports n packet.Other s h e = absurd (let bad : ⊥ = cc in bad)
served_within ports n packet.Fragment s h e = absurd (let bad : ⊥ = cc in bad)
served_within ports n packet.Cut s h e = absurd (let bad : ⊥ = cc in bad)
served_within ports n (packet.Malformed why) s h e = absurd (let bad : ⊥ = cc in bad)
served_within ports n packet.BadSum s h e = absurd (let bad : ⊥ = cc in bad)

module _ (file : CaptureFile) (rules : Rules) (last : ℕ) where
  all_in : (n : ℕ) (rs : List Captured) → n + length rs ≡ length file.packets → ((k : ℕ) → slice_get file.packets (n + k) ≡ slice_get rs k)
      → AllByRecursion (λ r. r.time ≤ last) rs → AllByRecursion (IsIn file last) (arrivals rules.ports n (map (λ r. (r.time, packet_in file.link r.body rules.verify)) rs))
  all_in n [] long is h = tt
  all_in n (r ∷ rs) long is h = by (served_in rules.ports (packet_in file.link r.body rules.verify)) refl (all_in (suc n) rs (omega (arith, long)) on h.1)
    where
      here : slice_get file.packets n ≡ Some r
      here = let none : n ≡ n + 0 = omega arith in ap (slice_get file.packets) none ∙ is 0

      on : (k : ℕ) → slice_get file.packets (suc n + k) ≡ slice_get rs k
      on k = let e : suc n + k ≡ n + suc k = omega arith in ap (slice_get file.packets) e ∙ is (suc k)

      by : (o : Option Seg) → served_in rules.ports (packet_in file.link r.body rules.verify) ≡ o → AllByRecursion (IsIn file last) (arrivals rules.ports (suc n) (map (λ r. (r.time, packet_in file.link r.body rules.verify)) rs))
          → AllByRecursion (IsIn file last) (arrivals rules.ports n (map (λ r. (r.time, packet_in file.link r.body rules.verify)) (r ∷ rs)))
      by None e rest = rw e rest
      by (Some s) e rest =
          let ends = served_within rules.ports (length r.body) (packet_in file.link r.body rules.verify) s (text_within file.link r.body rules.verify) e in
          rw e (record { time = h.0; record_number = omega (arith, long); text = rw here ends }, rest)

-- the items of segments of a capture
pub length-after : (at : ℕ) (arrived : List Arrival) → length (items_after at arrived) ≤ 2 * length arrived
length-after at [] = omega arith
length-after at (a ∷ arrived) =
    let rest = length-after (max at a.at) arrived in
    gap_by at (max at a.at) _ (λ l. length l ≤ 2 * length (a ∷ arrived)) (omega (arith, rest)) (omega (arith, rest))

module _ (file : CaptureFile) (last : ℕ) where
  pub rises_after : (at most : ℕ) (arrived : List Arrival) → at ≤ last → last ≤ most → AllByRecursion (IsIn file last) arrived
      → Rises at most (items_after at arrived ++ Time last ∷ [])
  rises_after at most [] le below h = (le, below)
  rises_after at most (a ∷ arrived) le below h =
      let rest = rises_after (max at a.at) most arrived (omega (arith, le, h.0.time)) below h.1 in
      gap_by at (max at a.at) _ (λ l. Rises at most (l ++ Time last ∷ [])) (omega arith, rest) (omega arith, (omega arith, rest))

  pub inside_after : (at : ℕ) (arrived : List Arrival) → AllByRecursion (IsIn file last) arrived
      → AllByRecursion (IsInside file) (items_after at arrived ++ Time last ∷ [])
  inside_after at [] h = (tt, tt)
  inside_after at (a ∷ arrived) h =
      let rest = inside_after (max at a.at) arrived h.1 in
      gap_by at (max at a.at) _ (λ l. AllByRecursion (IsInside file) (l ++ Time last ∷ []))
      ((h.0.record_number, h.0.text), rest) (tt, ((h.0.record_number, h.0.text), rest))

  spaced_after : (at : ℕ) (arrived : List Arrival) → IsSpaced (items_after at arrived ++ Time last ∷ [])
  spaced_after at [] = tt
  spaced_after at (a ∷ arrived) =
      let rest = spaced_after (max at a.at) arrived in
      gap_by at (max at a.at) _ (λ l. IsSpaced (l ++ Time last ∷ [])) rest rest

  pub items_are : (arrived : List Arrival) → 0 < length arrived → length arrived ≤ most_records → last ≤ latest_time → AllByRecursion (IsIn file last) arrived
      → IsItems file (items_of last arrived)
  items_are [] some few most h = absurd (let no : ⊥ = omega arith in no)
  items_are (a ∷ arrived) some few most h = record {
    some = omega arith;
    many = omega (arith, few, length-after a.at arrived, length-append (items_after a.at arrived) (Time last ∷ []));
    rising = (omega arith, rises_after a.at latest_time arrived h.0.time most h.1);
    inside = ((h.0.record_number, h.0.text), inside_after a.at arrived h.1);
    spaced = spaced_after a.at arrived;
  }

pub length-arrivals : (ports : Ports) (n : ℕ) (xs : List Seen) → length (arrivals ports n xs) ≤ length xs
length-arrivals ports n [] = omega arith
length-arrivals ports n (x ∷ xs) = by (served_in ports x.1) refl (length-arrivals ports (suc n) xs)
  where
    by : (o : Option Seg) → served_in ports x.1 ≡ o → length (arrivals ports (suc n) xs) ≤ length xs → length (arrivals ports n (x ∷ xs)) ≤ length (x ∷ xs)
    by None e rest = rw e (omega (arith, rest))
    by (Some s) e rest = rw e (omega (arith, rest))

-- no record is later than the last time
pub below_from : (a : ℕ) (rs : List Captured) → a ≤ fold max a (map (λ r. r.time) rs)
below_from a [] = omega arith
below_from a (r ∷ rs) = omega (arith, below_from (max a r.time) rs)

pub times_from : (a : ℕ) (rs : List Captured) → AllByRecursion (λ r. r.time ≤ fold max a (map (λ r. r.time) rs)) rs
times_from a [] = tt
times_from a (r ∷ rs) = (omega (arith, below_from (max a r.time) rs), times_from (max a r.time) rs)

pub seen_packets : (file : CaptureFile) (verify : Bool) → map (λ (x : Seen). x.1) (seen file verify) ≡ decoded file verify
seen_packets file verify = over file.packets
  where
    over : (rs : List Captured) → map (λ (x : Seen). x.1) (map (λ r. (r.time, packet_in file.link r.body verify)) rs) ≡ map (λ r. packet_in file.link r.body verify) rs
    over [] = refl
    over (r ∷ rs) = ap (λ l. packet_in file.link r.body verify ∷ l) (over rs)

pub seen_is : (file : CaptureFile) (verify : Bool) → seen_of file.packets (decoded file verify) ≡ seen file verify
seen_is file verify = over file.packets
  where
    over : (rs : List Captured) → seen_of rs (map (λ r. packet_in file.link r.body verify) rs) ≡ map (λ r. (r.time, packet_in file.link r.body verify)) rs
    over [] = refl
    over (r ∷ rs) = ap (λ l. (r.time, packet_in file.link r.body verify) ∷ l) (over rs)

pub few_conns : (ports : Ports) (ps : List Packet) → length (conns ports ps) ≤ most_conns
unfolding conns
few_conns ports ps = omega (arith, length-take most_conns (distinct (filter_map (served_tuple ports) ps)))

-- the connections are different
pub apart_filter : (p : Tuple → Bool) (ts : List Tuple) → IsDistinct tuple_eq ts → IsDistinct tuple_eq (filter p ts)
unfolding IsDistinct
apart_filter p [] h = tt
apart_filter p (t ∷ ts) h = by (p t) refl (apart_filter p ts h.1)
  where
    by : (b : Bool) → p t ≡ b → IsDistinct tuple_eq (filter p ts) → IsDistinct tuple_eq (filter p (t ∷ ts))
    by true e rest = rw e (all_filter (λ u. tuple_eq t u ≡ false) p ts h.0, rest)
    by false e rest = rw e rest

pub apart_take : (n : ℕ) (ts : List Tuple) → IsDistinct tuple_eq ts → IsDistinct tuple_eq (take n ts)
unfolding IsDistinct
apart_take zero ts h = tt
apart_take (suc n) [] h = tt
apart_take (suc n) (t ∷ ts) h = (all_take (λ u. tuple_eq t u ≡ false) n ts h.0, apart_take n ts h.1)

pub other_way : (t u : Tuple) → tuple_eq u t ≡ false → tuple_eq t u ≡ false
other_way t u e = by (tuple_eq t u) refl
  where
    by : (b : Bool) → tuple_eq t u ≡ b → tuple_eq t u ≡ false
    by true q = absurd (let both : tuple_eq u t ≡ true = ap (tuple_eq u) (same t u q) ∙ same_tuple u in let no : ⊥ = cc in no)
    by false q = q

pub all_others : (t : Tuple) (us : List Tuple) → AllByRecursion (λ u. tuple_eq t u ≡ false) (filter (λ u. not (tuple_eq u t)) us)
all_others t [] = tt
all_others t (u ∷ us) = by (tuple_eq u t) refl (all_others t us)
  where
    by : (b : Bool) → tuple_eq u t ≡ b → AllByRecursion (λ u. tuple_eq t u ≡ false) (filter (λ u. not (tuple_eq u t)) us)
        → AllByRecursion (λ u. tuple_eq t u ≡ false) (filter (λ u. not (tuple_eq u t)) (u ∷ us))
    by true e rest = rw e rest
    by false e rest = rw e (other_way t u e, rest)

pub apart_distinct : (ts : List Tuple) → IsDistinct tuple_eq (distinct ts)
unfolding IsDistinct
apart_distinct [] = tt
apart_distinct (t ∷ ts) = (all_others t (distinct ts), apart_filter (λ u. not (tuple_eq u t)) (distinct ts) (apart_distinct ts))

pub apart_conns : (ports : Ports) (ps : List Packet) → IsDistinct tuple_eq (conns ports ps)
unfolding conns
apart_conns ports ps = apart_take most_conns (distinct (filter_map (served_tuple ports) ps)) (apart_distinct (filter_map (served_tuple ports) ps))

module _ (file : CaptureFile) (rules : Rules) (few : length file.packets ≤ most_records) (most : last_time file.packets ≤ latest_time) where
  all_are_conns : AllByRecursion (IsConn rules.ports (arrivals rules.ports 0 (seen file rules.verify))) (conns rules.ports (decoded file rules.verify))
  unfolding conns
  all_are_conns =
      all_take _ most_conns _ (all_distinct _ _ (subst (λ ps. AllByRecursion (IsConn rules.ports (arrivals rules.ports 0 (seen file rules.verify))) (filter_map (served_tuple rules.ports) ps))
      (seen_packets file rules.verify) (all_conns rules.ports 0 (seen file rules.verify))))

  all_are_in : AllByRecursion (IsIn file (last_time file.packets)) (arrivals rules.ports 0 (seen file rules.verify))
  all_are_in = all_in file rules (last_time file.packets) 0 file.packets (omega arith) (λ k. let e : 0 + k ≡ k = omega arith in ap (slice_get file.packets) e) (times_from 0 file.packets)

  conn_is : (t : Tuple) → IsConn rules.ports (arrivals rules.ports 0 (seen file rules.verify)) t → IsItems file (conn_items rules.ports (last_time file.packets) t (seen file rules.verify))
  unfolding conn_items of_conn
  conn_is t is =
      let all = arrivals rules.ports 0 (seen file rules.verify) in
      items_are file (last_time file.packets) (filter (λ a. tuple_eq (tuple_of a.seg) t) all) is.some
      (omega (arith, few, length-filter_le (λ (a : Arrival). tuple_eq (tuple_of a.seg) t) all, length-arrivals rules.ports 0 (seen file rules.verify), length-map {B = Seen} file.packets (λ r. (r.time, packet_in file.link r.body rules.verify))))
      most (all_filter _ _ all all_are_in)

  pub is_plan : IsPlan (plan_by file rules)
  unfolding plan_by
  is_plan = record {
    few = few_conns rules.ports (decoded file rules.verify);
    listed = length-map (conns rules.ports (decoded file rules.verify)) (λ t. conn_items rules.ports (last_time file.packets) t (seen file rules.verify));
    served = all_to _ _ (λ t is. is.served) _ all_are_conns;
    each = all_map (IsItems file) (λ t. conn_items rules.ports (last_time file.packets) t (seen file rules.verify)) _ (all_to _ _ conn_is _ all_are_conns);
    ordered = is_ordered file rules few (apart_conns rules.ports (decoded file rules.verify));
  }

pub twice : {X Y Z : Type 0} (f : Y → Z) (g : X → Y) (xs : List X) → map f (map g xs) ≡ map (λ x. f (g x)) xs
twice f g [] = refl
twice f g (x ∷ xs) = ap (λ l. f (g x) ∷ l) (twice f g xs)

-- the parts that are made one after another are the plan
pub made : (file : CaptureFile) (rules : Rules) (packets : List Packet) (ts : List Tuple) (lists : List (List ℕ)) (items : List (List Item)) (order : List ℕ) (counts : Counts)
    → packets ≡ decoded file rules.verify
    → record { tuples = ts; lists = lists; order = order; counts = counts } ≡ sorted_of rules.ports (length file.packets) file.cut (conns rules.ports packets) (seen_of file.packets packets)
    → items ≡ map (items_of (last_time file.packets)) (map (λ t. of_conn rules.ports t (seen_of file.packets packets)) (conns rules.ports packets))
    → record { file = file; ports = rules.ports; tuples = ts; items = items; order = order; counts = counts } ≡ plan_by file rules
unfolding plan_by conn_items
made file rules packets ts lists items order counts p s i =
    let xs = ap (seen_of file.packets) p ∙ seen_is file rules.verify in
    let sorted : record { tuples = ts; lists = lists; order = order; counts = counts } ≡ sorted_of rules.ports (length file.packets) file.cut (conns rules.ports (decoded file rules.verify)) (seen file rules.verify) =
    s ∙ (λ k. sorted_of rules.ports (length file.packets) file.cut (conns rules.ports (p k)) (xs k)) in
    let all = i ∙ (λ k. map (items_of (last_time file.packets)) (map (λ t. of_conn rules.ports t (xs k)) (conns rules.ports (p k))))
    ∙ twice (items_of (last_time file.packets)) (λ t. of_conn rules.ports t (seen file rules.verify)) (conns rules.ports (decoded file rules.verify)) in
    (λ k. record { file = file; ports = rules.ports; tuples = (sorted k).tuples; items = all k; order = (sorted k).order; counts = (sorted k).counts })
