-- One more slot, and one more list of them, where the records are those of arrivals.
use Rattle.std.proofs.Common.{◌≡◌, ℕ, ◌+◌, ◌<◌, ◌≤◌, nat_le, Bool, true, false, max, List, [], ◌∷◌, ◌++◌, length, map, take, drop, get_or, set, Option, Some, None, refl, sym, ap, subst, ◌∙◌, arith, slice_get}
use Rattle.std.specs.List.{AllByRecursion}
use Rattle.std.specs.Option.{option_map, option_map_or}
use Rattle.std.proofs.lemmas.List.{get_or-map, length-map, map-append, take_more, drop_all}
use Rattle.std.proofs.lemmas.Option.{slice_get_within}
use Rattle.capture_reader.specs.CaptureFile.{Packet as Captured}
use Rattle.segment_codec.specs.declared.packet.Packet.{Packet}
use Rattle.conn_classifier.specs.Limits.{least_gap}
use Rattle.conn_classifier.specs.Hints.{hints_of, IsAhead}
use Rattle.conn_classifier.specs.Items.{gap, hint, items_after, items_of}
use Rattle.conn_classifier.specs.Slots.{IsKept, item_of, no_segment, segment_at, slot_gap}
use Rattle.conn_classifier.specs.declared.ahead.Ahead.{Ahead}
use Rattle.conn_classifier.specs.declared.ahead.Ahead.TheVariants as ahead
use Rattle.conn_classifier.specs.declared.kinds.Arrival.{Arrival}
use Rattle.conn_classifier.specs.declared.kinds.Item.{Item}
use Rattle.conn_classifier.specs.declared.kinds.Item.TheVariants.{Time, Segment}
use Rattle.conn_classifier.specs.declared.kinds.Slot.{Slot}
use Rattle.conn_classifier.specs.declared.kinds.Slot.TheVariants as slot
use Rattle.conn_classifier.proofs.HintLemmas.{looked_nil, turn_hints, turn_ahead}
use Rattle.conn_classifier.proofs.ItemLemmas.{hint_at, turn_made}
use Rattle.conn_classifier.proofs.PlanFacts.{all_at}

one_of : (xs : List Arrival) (i : ℕ) → i < length xs → Arrival
one_of [] i lt = absurd (let no : ⊥ = omega arith in no)
one_of (x ∷ xs) i lt = x

gap_slots : (ps : List Packet) (last at : ℕ) → map (item_of ps) (slot_gap last at) ≡ gap last at
gap_slots ps last at = by (nat_le (last + least_gap) at) refl
  where
    by : (b : Bool) → nat_le (last + least_gap) at ≡ b → map (item_of ps) (slot_gap last at) ≡ gap last at
    by true e = rw e refl
    by false e = rw e refl

module _ (rs : List Captured) (ps : List Packet) where
  -- what is kept of an arrival, by its record's number
  kept_slot : (a : Arrival) (at rec iss : ℕ) → IsKept rs ps a → rec ≡ a.rec → item_of ps (slot.Segment at rec iss) ≡ Segment at a.rec iss a.seg
  kept_slot a at rec iss k e =
      ap (λ n. item_of ps (slot.Segment at n iss)) e ∙ ap (λ o. Segment at a.rec iss (option_map_or (λ s. s) o no_segment)) k.segment

  kept_time : (a : Arrival) (rec : ℕ) (p : Captured) → IsKept rs ps a → rec ≡ a.rec → slice_get rs rec ≡ Some p → p.time ≡ a.at
  kept_time a rec p k e r =
      let here : Some p.time ≡ Some a.at = sym (ap (option_map (λ (q : Captured). q.time)) (sym (ap (slice_get rs) e) ∙ r)) ∙ k.time in cc

  kept_within : (a : Arrival) → IsKept rs ps a → a.rec < length rs
  kept_within a k = by (slice_get rs a.rec) refl
    where
      by : (o : Option Captured) → slice_get rs a.rec ≡ o → a.rec < length rs
      by None e = absurd (let both : None ≡ Some a.at = sym (ap (option_map (λ (q : Captured). q.time)) e) ∙ k.time in let no : ⊥ = cc in no)
      by (Some p) e = slice_get_within rs a.rec p e

  recs_within : (xs : List Arrival) → AllByRecursion (IsKept rs ps) xs → AllByRecursion (λ n. n < length rs) (map (λ a. a.rec) xs)
  recs_within [] h = tt
  recs_within (x ∷ xs) h = (kept_within x h.0, recs_within xs h.1)

  -- all records of all lists are the capture's
  pub lists_within : {V : Type 0} (f : V → List ℕ) (vs : List V) (xss : List (List Arrival)) → map f vs ≡ map (map (λ a. a.rec)) xss
      → AllByRecursion (AllByRecursion (IsKept rs ps)) xss → AllByRecursion (λ v. AllByRecursion (λ n. n < length rs) (f v)) vs
  lists_within f [] xss is h = tt
  lists_within f (v ∷ vs) [] is h = absurd (let no : ⊥ = cc in no)
  lists_within f (v ∷ vs) (xs ∷ xss) is h =
      let here : f v ≡ map (λ (a : Arrival). a.rec) xs = ap (λ l. get_or l 0 []) is in
      (subst (λ l. AllByRecursion (λ n. n < length rs) l) (sym here) (recs_within xs h.0), lists_within f vs xss (ap (drop 1) is) h.1)

  module _ (recs hs : List ℕ) (xs : List Arrival) (is : recs ≡ map (λ a. a.rec) xs) where
    even : length xs ≡ length recs
    even = sym (ap length is ∙ length-map xs (λ (a : Arrival). a.rec))

    -- nothing hinted yet
    pub ends_records : (n : ℕ) → n ≡ length recs → length hs ≡ length recs → (drop n hs ≡ hints_of (drop n xs)) × IsAhead ahead.Nothing (drop n xs)
    ends_records n all long =
        let end_xs : drop n xs ≡ [] = drop_all n xs (omega (arith, even, all)) in
        let end_hs : drop n hs ≡ [] = drop_all n hs (omega (arith, long, all)) in
        (end_hs ∙ sym (ap hints_of end_xs), subst (IsAhead ahead.Nothing) (sym end_xs) looked_nil)

    module _ (kept : AllByRecursion (IsKept rs ps) xs) (i : ℕ) (lt : i < length recs) where
      less : i < length xs
      less = omega (arith, lt, even)

      here : Arrival
      here = get_or xs i (one_of xs i less)

      rec_here : get_or recs i 0 ≡ here.rec
      unfolding here
      rec_here = ap (λ l. get_or l i 0) is ∙ get_or-map (λ a. a.rec) xs i (one_of xs i less) 0 less

      kept_here : IsKept rs ps here
      unfolding here
      kept_here = all_at (IsKept rs ps) xs i (one_of xs i less) kept less

      segment_here : segment_at ps (get_or recs i 0) ≡ Some here.seg
      segment_here = ap (segment_at ps) rec_here ∙ kept_here.segment

      -- one turn of the walk from the back
      pub turn_records : (n v : ℕ) (x y : Ahead) → n ≡ i + 1 → length hs ≡ length recs
          → ((a : Arrival) (more : List Arrival) → segment_at ps (get_or recs i 0) ≡ Some a.seg → IsAhead x more → v ≡ hint a.seg more)
          → ((a : Arrival) (more : List Arrival) → segment_at ps (get_or recs i 0) ≡ Some a.seg → IsAhead x more → IsAhead y (a ∷ more))
          → (drop n hs ≡ hints_of (drop n xs)) × IsAhead x (drop n xs) → (drop i (set hs i v) ≡ hints_of (drop i xs)) × IsAhead y (drop i xs)
      unfolding here
      turn_records n v x y on long hinted said so_far =
          let now : (drop (i + 1) hs ≡ hints_of (drop (i + 1) xs)) × IsAhead x (drop (i + 1) xs) = subst (λ m. (drop m hs ≡ hints_of (drop m xs)) × IsAhead x (drop m xs)) on so_far in
          let same : length hs ≡ length xs = omega (arith, long, even) in (
            turn_hints xs hs i (one_of xs i less) less same now.0 x now.1 v (hinted here (drop (i + 1) xs) segment_here now.1),
            turn_ahead xs hs i (one_of xs i less) less same now.0 x now.1 y (said here (drop (i + 1) xs) segment_here now.1),
          )

      -- one turn: what is kept so far, and what is left
      pub turn_slots : hs ≡ hints_of xs → (p : Captured) → slice_get rs (get_or recs i 0) ≡ Some p → (last : ℕ) (slots two three : List Slot) (end whole : List Item) (at : ℕ)
          → map (item_of ps) slots ++ (items_after last (drop i xs) ++ end) ≡ whole
          → at ≡ max last p.time → two ≡ slots ++ slot_gap last at → three ≡ two ++ slot.Segment at (get_or recs i 0) (get_or hs i 0) ∷ []
          → map (item_of ps) three ++ (items_after at (drop (i + 1) xs) ++ end) ≡ whole
      unfolding here
      turn_slots h p read last slots two three end whole at so_far at_is two_is three_is =
          turn_made xs i (one_of xs i less) last (map (item_of ps) slots) end whole (get_or hs i 0) less so_far
          (ap (λ l. get_or l i 0) h ∙ hint_at xs i 0 (one_of xs i less) less)
          at (map (item_of ps) two) (map (item_of ps) three)
          (at_is ∙ ap (max last) (kept_time here (get_or recs i 0) p kept_here rec_here read))
          (ap (map (item_of ps)) two_is ∙ map-append (item_of ps) slots (slot_gap last at) ∙ ap (λ l. map (item_of ps) slots ++ l) (gap_slots ps last at))
          (ap (map (item_of ps)) three_is ∙ map-append (item_of ps) two (slot.Segment at (get_or recs i 0) (get_or hs i 0) ∷ [])
          ∙ ap (λ x. map (item_of ps) two ++ x ∷ []) (kept_slot here at (get_or recs i 0) (get_or hs i 0) kept_here rec_here))

  -- the first slot
  pub first_slot : (recs hs : List ℕ) (xs : List Arrival) → recs ≡ map (λ a. a.rec) xs → AllByRecursion (IsKept rs ps) xs → 0 < length recs → hs ≡ hints_of xs
      → (p : Captured) → slice_get rs (get_or recs 0 0) ≡ Some p → (last : ℕ) (slots : List Slot) → slots ≡ slot.Segment p.time (get_or recs 0 0) (get_or hs 0 0) ∷ []
      → map (item_of ps) slots ++ (items_after p.time (drop 1 xs) ++ Time last ∷ []) ≡ items_of last xs
  first_slot recs hs [] is kept lt h p read last slots slots_is = absurd (let long : length recs ≡ 0 = ap length is in let no : ⊥ = omega (arith, lt, long) in no)
  first_slot recs hs (a ∷ xs) is kept lt h p read last slots slots_is =
      let rec_is : get_or recs 0 0 ≡ a.rec = ap (λ l. get_or l 0 0) is in
      let iss_is : get_or hs 0 0 ≡ hint a.seg xs = ap (λ l. get_or l 0 0) h in
      let time_is : p.time ≡ a.at = kept_time a (get_or recs 0 0) p kept.0 rec_is read in
      let rest = λ (t : ℕ). items_after t xs ++ Time last ∷ [] in
      ap (λ l. map (item_of ps) l ++ rest p.time) slots_is
      ∙ (λ k. item_of ps (slot.Segment (time_is k) (get_or recs 0 0) (iss_is k)) ∷ rest (time_is k))
      ∙ ap (λ x. x ∷ rest a.at) (kept_slot a a.at (get_or recs 0 0) (hint a.seg xs) kept.0 rec_is)

  -- the last time item
  pub last_slot : (recs : List ℕ) (xs : List Arrival) → recs ≡ map (λ a. a.rec) xs → (i at last : ℕ) (slots all : List Slot) → length recs ≤ i
      → map (item_of ps) slots ++ (items_after at (drop i xs) ++ Time last ∷ []) ≡ items_of last xs → all ≡ slots ++ slot.Time last ∷ []
      → map (item_of ps) all ≡ items_of last xs
  last_slot recs xs is i at last slots all full so_far all_is =
      let end : drop i xs ≡ [] = drop_all i xs (omega (arith, full, ap length is, length-map xs (λ (a : Arrival). a.rec))) in
      ap (map (item_of ps)) all_is ∙ map-append (item_of ps) slots (slot.Time last ∷ [])
      ∙ sym (ap (λ l. map (item_of ps) slots ++ (items_after at l ++ Time last ∷ [])) end) ∙ so_far

  -- one list of many
  module _ {V : Type 0} (f : V → List ℕ) (vs : List V) (xss : List (List Arrival)) (is : map f vs ≡ map (map (λ a. a.rec)) xss)
      (kept : AllByRecursion (AllByRecursion (IsKept rs ps)) xss) (k : ℕ) (v : V) (lt : k < length vs) (read : v ≡ get_or vs k v) where
    among : k < length xss
    among = omega (arith, lt, ap length is, length-map vs f, length-map xss (map (λ (a : Arrival). a.rec)))

    pub recs_of_list : f v ≡ map (λ a. a.rec) (get_or xss k [])
    recs_of_list =
        ap f read ∙ sym (get_or-map f vs k v [] lt) ∙ ap (λ l. get_or l k []) is ∙ get_or-map (map (λ (a : Arrival). a.rec)) xss k [] [] among

    pub kept_in_list : AllByRecursion (IsKept rs ps) (get_or xss k [])
    kept_in_list = all_at (AllByRecursion (IsKept rs ps)) xss k [] kept among

    pub turn_lists : {S : Type 0} (g : S → List Item) (last : ℕ) (made more : List S) (s : S) → map g made ≡ map (items_of last) (take k xss)
        → g s ≡ items_of last (get_or xss k []) → more ≡ made ++ s ∷ [] → map g more ≡ map (items_of last) (take (k + 1) xss)
    turn_lists g last made more s so_far one more_is =
        ap (map g) more_is ∙ map-append g made (s ∷ []) ∙ (λ j. so_far j ++ one j ∷ [])
        ∙ sym (ap (map (items_of last)) (take_more xss k [] among) ∙ map-append (items_of last) (take k xss) (get_or xss k [] ∷ []))
