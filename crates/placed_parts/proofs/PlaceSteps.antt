-- A part that goes on by one act, one that leaves or comes, and parts that are new.
use Rattle.std.proofs.Common.{◌≡◌, ◌≢◌, ℕ, zero, suc, ◌+◌, ◌%◌, ◌<◌, Bool, true, false, ◌==◌, inl, inr, Option, Some, None, List, [], ◌∷◌, ◌++◌, length, nat_lt, replicate, slice_get, slice_set, slice_index_or, refl, ap, sym, ◌∙◌, subst, arith}
use Rattle.std.proofs.lemmas.List.{append-nil}
use Rattle.std.proofs.lemmas.Bool.{cases_eq}
use Rattle.std.proofs.lemmas.Bool.Decides.{nat_tests}
use Rattle.perimeter_core.specs.declared.entries.Act.{Act}
use Rattle.perimeter_core.specs.declared.entries.Act.TheVariants as Did
use Rattle.perimeter_core.specs.declared.entries.Entry.TheVariants as Entry'
use Rattle.perimeter_core.specs.declared.marks.SynchAct.TheVariants as Done
use Rattle.perimeter_core.specs.Deeds.{fed, feed_numbers}
use Rattle.perimeter_core.specs.Blocks.{Blocks, longer, with_feeds, with_act, fresh, none_done}
use Rattle.perimeter_core.specs.Residing.{HadFeeds, Here}
use Rattle.perimeter_core.proofs.ActLists.{get_same, get_other, got, some_longer, feed_numbers-append}
use Rattle.perimeter_core.proofs.FeedLists.{up-append}
use Rattle.perimeter_core.proofs.NextFeed.{fed-append}
use Rattle.perimeter_core.specs.Backlog.{up}
use Rattle.perimeter_core.proofs.FeedActs.{longer_none}
use Rattle.placed_parts.specs.Standing.{HasHad, HasFed, InOrder, PlaceAt, PlacesStand, all_new, first_here}

all_here : (n c : ℕ) → none_done (replicate n true) c ≡ all_new n c
all_here zero c = let e : nat_lt c 0 ≡ false = grind (arith, nat_tests) in rw e refl
all_here (suc n) zero = let e : nat_lt 0 (suc n) ≡ true = grind (arith, nat_tests) in rw e refl
all_here (suc n) (suc c) = let e : nat_lt (suc c) (suc n) ≡ nat_lt c n = grind (arith, nat_tests) in rw e (all_here n c)

get_before : {A : Type 0} (xs : List A) (x : A) (c : ℕ) → c ≢ length xs → slice_get (xs ++ x ∷ []) c ≡ slice_get xs c
get_before [] x zero h = absurd (h refl)
get_before [] x (suc c) h = refl
get_before (y ∷ xs) x zero h = refl
get_before (y ∷ xs) x (suc c) h = get_before xs x c (λ e. h (ap suc e))

flag_last : (bs : List Bool) (b : Bool) → slice_index_or (bs ++ b ∷ []) (length bs) false ≡ b
flag_last [] b = refl
flag_last (a ∷ bs) b = flag_last bs b

flag_before : (bs : List Bool) (b : Bool) (c : ℕ) → c ≢ length bs → slice_index_or (bs ++ b ∷ []) c false ≡ slice_index_or bs c false
flag_before [] b zero h = absurd (h refl)
flag_before [] b (suc c) h = refl
flag_before (a ∷ bs) b zero h = refl
flag_before (a ∷ bs) b (suc c) h = flag_before bs b c (λ e. h (ap suc e))

pub get_seam : {A : Type 0} (xs : List A) (x : A) → slice_get (xs ++ x ∷ []) (length xs) ≡ Some x
get_seam [] x = refl
get_seam (y ∷ xs) x = get_seam xs x

pub not_past : {A : Type 0} (xs : List A) (c : ℕ) → c < length xs → slice_get xs c ≡ None → ⊥
not_past [] c lt e = omega (arith, lt)
not_past (x ∷ xs) zero lt e = cc e
not_past (x ∷ xs) (suc c) lt e = not_past xs c (omega (arith, lt)) e

module _ {P : Type 0} (At : ℕ → P → List Act → Type 0) where
  -- one place is changed
  pub places_set : (places : List (Option P)) (c : ℕ) (v : Option P) (blocks next : Blocks) → c < length places → PlacesStand At places blocks → PlaceAt At c (Some v) (next c)
      → ((d : ℕ) → c ≢ d → next d ≡ blocks d) → PlacesStand At (slice_set places c v) next
  places_set places c v blocks next lt old here others d =
      elim (cases_eq c d) [
        | inl e ↦ rw (← e, get_same places c v lt) here
        | inr e ↦ rw (get_other places c d v e, others d e) (old d)
      ]

  -- what the block of c was, by its part
  pub found : (c : ℕ) (o : Option (Option P)) (b : Option (List Act)) (part : P) → o ≡ Some (Some part) → PlaceAt At c o b → (had : List Act) × (b ≡ Some had) × At c part had
  found c (Some (Some x)) (Some had) part e h = let same : x ≡ part = cc e in (had, refl, subst (λ (l : P). At c l had) same h)
  found c (Some (Some x)) None part e h = absurd h
  found c (Some None) b part e h = absurd (cc e)
  found c None b part e h = absurd (cc e)

  -- the part of a block that has had n feeds
  pub had_feeds : (places : List (Option P)) (c n : ℕ) (part : P) → slice_get places c ≡ Some (Some part) → HadFeeds (PlacesStand At places) c n → HasFed (At c part) n
  had_feeds places c n part e h =
      let f = found c (slice_get places c) (h.blocks c) part e (h.stands c) in
      let same : f.0 ≡ h.had = cc (f.1, h.here) in record { had = f.0; stands = f.2; feeds = ap fed same ∙ h.feeds }

  -- the part of a block that is here
  pub had_some : (places : List (Option P)) (c : ℕ) (part : P) → slice_get places c ≡ Some (Some part) → Here (PlacesStand At places) c → HasHad (At c part)
  had_some places c part e h = let f = found c (slice_get places c) (h.blocks c) part e (h.stands c) in record { had = f.0; stands = f.2 }

  -- one feed more
  pub feed_stands : (places : List (Option P)) (blocks : Blocks) (c n : ℕ) (part next : P) → c < length places → slice_get places c ≡ Some (Some part)
      → ((had : List Act) → At c part had → At c next (had ++ Did.Feed n ∷ [])) → PlacesStand At places blocks → PlacesStand At (slice_set places c (Some next)) (with_feeds (Entry'.Feed c n ∷ []) blocks)
  feed_stands places blocks c n part next lt e more old =
      let f = found c (slice_get places c) (blocks c) part e (old c) in
      let one : (c == c) ≡ true = grind (arith, nat_tests) in
      let here : PlaceAt At c (Some (Some next)) (longer (Did.Feed n ∷ []) (blocks c)) = rw (some_longer (blocks c) f.0 (Did.Feed n ∷ []) f.1) (more f.0 f.2) in
      places_set places c (Some next) blocks (with_feeds (Entry'.Feed c n ∷ []) blocks) lt old (rw one here)
      (λ d ne. let other : (c == d) ≡ false = grind (arith, nat_tests) in rw other (longer_none (blocks d)))

  -- one call more
  pub call_stands : (places : List (Option P)) (blocks : Blocks) (c j k : ℕ) (part next : P) → c < length places → slice_get places c ≡ Some (Some part)
      → ((had : List Act) → At c part had → At c next (had ++ Did.Call j k ∷ [])) → PlacesStand At places blocks → PlacesStand At (slice_set places c (Some next)) (with_act (Done.Call c j k) [] blocks)
  call_stands places blocks c j k part next lt e more old =
      let f = found c (slice_get places c) (blocks c) part e (old c) in
      let one : (c == c) ≡ true = grind (arith, nat_tests) in
      let here : PlaceAt At c (Some (Some next)) (longer (Did.Call j k ∷ []) (blocks c)) = rw (some_longer (blocks c) f.0 (Did.Call j k ∷ []) f.1) (more f.0 f.2) in
      places_set places c (Some next) blocks (with_act (Done.Call c j k) [] blocks) lt old (rw one here)
      (λ d ne. let other : (c == d) ≡ false = grind (arith, nat_tests) in rw other refl)

  -- the part leaves
  pub out_stands : (places : List (Option P)) (blocks : Blocks) (c : ℕ) → c < length places → PlacesStand At places blocks → PlacesStand At (slice_set places c None) (with_act (Done.Out c) [] blocks)
  out_stands places blocks c lt old =
      let one : (c == c) ≡ true = grind (arith, nat_tests) in
      places_set places c None blocks (with_act (Done.Out c) [] blocks) lt old (rw one tt)
      (λ d ne. let other : (c == d) ≡ false = grind (arith, nat_tests) in rw other refl)

  -- a part comes
  pub in_stands : (places : List (Option P)) (blocks : Blocks) (c : ℕ) (part : P) (note : List Act) → c < length places → At c part note → PlacesStand At places blocks
      → PlacesStand At (slice_set places c (Some part)) (with_act (Done.In c) note blocks)
  in_stands places blocks c part note lt stands old =
      let one : (c == c) ≡ true = grind (arith, nat_tests) in
      places_set places c (Some part) blocks (with_act (Done.In c) note blocks) lt old (rw one stands)
      (λ d ne. let other : (c == d) ≡ false = grind (arith, nat_tests) in rw other refl)

  -- the part of a connection that is here is at its place, and the place of another one is empty
  pub part_of : (places : List (Option P)) (blocks : Blocks) (c : ℕ) (had : List Act) → PlacesStand At places blocks → blocks c ≡ Some had
      → (part : P) × (slice_get places c ≡ Some (Some part)) × At c part had
  part_of places blocks c had h e = go (slice_get places c) refl (subst (λ (b : Option (List Act)). PlaceAt At c (slice_get places c) b) e (h c))
    where
      go : (o : Option (Option P)) → slice_get places c ≡ o → PlaceAt At c o (Some had) → (part : P) × (slice_get places c ≡ Some (Some part)) × At c part had
      go (Some (Some part)) is l = (part, is, l)
      go (Some None) is l = absurd l
      go None is l = absurd l

  pub no_part_of : (places : List (Option P)) (blocks : Blocks) (c : ℕ) → PlacesStand At places blocks → blocks c ≡ None → c < length places → slice_get places c ≡ Some None
  no_part_of places blocks c h e lt = go (slice_get places c) refl (subst (λ (b : Option (List Act)). PlaceAt At c (slice_get places c) b) e (h c))
    where
      go : (o : Option (Option P)) → slice_get places c ≡ o → PlaceAt At c o None → slice_get places c ≡ Some None
      go (Some (Some part)) is l = absurd l
      go (Some None) is l = is
      go None is l = absurd (not_past places c lt is)

  -- where the block is here its part is there
  pub part_there : (places : List (Option P)) (c : ℕ) → Here (PlacesStand At places) c → (part : P) × (slice_get places c ≡ Some (Some part))
  part_there places c h = let at = part_of places h.blocks c h.had h.stands h.here in (at.0, at.1)

  -- where the block is here, no place is empty
  pub no_place : (places : List (Option P)) (c : ℕ) (d x : Option P) → c < length places → Here (PlacesStand At places) c → x ≡ slice_index_or places c d → ((part : P) → x ≡ Some part → ⊥) → ⊥
  no_place places c d x lt h is none =
      let part = part_there places c h in
      let at = got places c x d lt is in none part.0 (cc (at, part.1))

  -- one more place
  pub push_stands : (places : List (Option P)) (v : Option P) (n : ℕ) (blocks next : Blocks) → length places ≡ n → PlacesStand At places blocks → PlaceAt At n (Some v) (next n)
      → ((d : ℕ) → d ≢ n → next d ≡ blocks d) → PlacesStand At (places ++ v ∷ []) next
  push_stands places v n blocks next long old new others c =
      elim (cases_eq c n) [
        | inl e ↦ rw e (rw (ap (slice_get (places ++ v ∷ [])) (sym long) ∙ get_seam places v) new)
        | inr e ↦ rw (get_before places v c (λ w. e (w ∙ long)), others c e) (old c)
      ]

  pub first_stand : (places : List (Option P)) (starts : List Bool) (place : Option P) (here : Bool) → length places ≡ length starts → PlacesStand At places (none_done starts)
      → PlaceAt At (length places) (Some place) (fresh here) → PlacesStand At (places ++ place ∷ []) (none_done (starts ++ here ∷ []))
  first_stand places starts place here long old new =
      push_stands places place (length starts) (none_done starts) (none_done (starts ++ here ∷ [])) long old
      (rw (flag_last starts here) (subst (λ (n : ℕ). PlaceAt At n (Some place) (fresh here)) long new))
      (λ d ne. ap fresh (flag_before starts here d ne))

  -- those are here that a number names
  pub none_stand : (k squeues : ℕ) → PlacesStand At [] (first_here 0 k squeues)
  none_stand k squeues c = let no : nat_lt c 0 ≡ false = grind (arith, nat_tests) in rw no tt

  pub push_first : (places : List (Option P)) (v : Option P) (n k squeues : ℕ) → length places ≡ n → PlacesStand At places (first_here n k squeues)
      → PlaceAt At n (Some v) (fresh (n % squeues == k)) → PlacesStand At (places ++ v ∷ []) (first_here (n + 1) k squeues)
  push_first places v n k squeues long old new =
      let last : nat_lt n (n + 1) ≡ true = grind (arith, nat_tests) in
      push_stands places v n (first_here n k squeues) (first_here (n + 1) k squeues) long old (rw last new)
      (λ d ne. let same : nat_lt d (n + 1) ≡ nat_lt d n = grind (arith, nat_tests) in rw same refl)

  -- all are here
  pub all_stand : (places : List (Option P)) (n : ℕ) → PlacesStand At places (none_done (replicate n true)) → PlacesStand At places (all_new n)
  all_stand places n h c = subst (λ (b : Option (List Act)). PlaceAt At c (slice_get places c) b) (all_here n c) (h c)

-- the next feed keeps the order, and a call does
pub feed_in_order : {P : Type 0} (Had : P → List Act → Type 0) → ((p : P) (a b : List Act) → Had p a → Had p b → fed a ≡ fed b) → (part next : P) (n : ℕ) → HasFed (InOrder Had part) n → ((had : List Act) → Had part had → Had next (had ++ Did.Feed n ∷ []))
    → (had : List Act) → InOrder Had part had → InOrder Had next (had ++ Did.Feed n ∷ [])
feed_in_order Had same part next n h more had x =
    let is : fed had ≡ n = same part had h.had x.1 h.stands.1 ∙ h.feeds in
    let z : 0 + fed had ≡ n = omega (arith, is) in
    let now : fed had + 1 ≡ fed (had ++ Did.Feed n ∷ []) = sym (fed-append had (Did.Feed n ∷ [])) in (
      feed_numbers-append had (Did.Feed n ∷ []) ∙ (ap (λ ns. ns ++ n ∷ []) x.0 ∙ (ap (λ (m : ℕ). up 0 (fed had) ++ m ∷ []) (sym z) ∙ (up-append 0 (fed had) 1 ∙ ap (up 0) now))),
      more had x.1,
    )

pub call_in_order : {P : Type 0} (Had : P → List Act → Type 0) (part next : P) (j k : ℕ) → ((had : List Act) → Had part had → Had next (had ++ Did.Call j k ∷ []))
    → (had : List Act) → InOrder Had part had → InOrder Had next (had ++ Did.Call j k ∷ [])
call_in_order Had part next j k more had x =
    let now : fed had ≡ fed (had ++ Did.Call j k ∷ []) = sym (fed-append had (Did.Call j k ∷ []) ∙ omega arith) in
    (feed_numbers-append had (Did.Call j k ∷ []) ∙ (append-nil (feed_numbers had) ∙ (x.0 ∙ ap (up 0) now)), more had x.1)
