-- Where a place is closed and opened again: what stands at the seats, and that the stay which ended and the next one make up one life.
use Rattle.std.proofs.Common.{◌≡◌, ◌≢◌, ℕ, ◌+◌, ◌≤◌, inl, inr, Some, List, [], ◌∷◌, ◌++◌, length, map, slice_get, refl, sym, ap, subst, ◌∙◌, arith}
use Rattle.std.specs.List.{flat_map, sum, sum_by, swap}
use Rattle.std.specs.List.Sorted.{IsPermutation, SwapsInRange, apply_swaps}
use Rattle.std.proofs.lemmas.Bool.Decides.{eqb_tells}
use Rattle.std.proofs.lemmas.List.Elements.{All-from_recursion, recursion_from_All}
use Rattle.std.proofs.lemmas.List.Sums.{sum_by-cons}
use Rattle.std.proofs.lemmas.List.Sorted.{All-permutation, IsPermutation-append_left, IsPermutation-map, IsPermutation-refl, IsPermutation-sym, sum_by-IsPermutation}
use Rattle.indexmap.proofs.ReorderLemmas.{map-swap}
use Rattle.sq_base.specs.declared.kinds.Tuple.{Tuple}
use Rattle.turn_gate.specs.Passes.{number, seen}
use Rattle.turn_gate.specs.declared.pass.Pass.{Pass}
use Rattle.perimeter_core.specs.History.{Element, Limits, Setting}
use Rattle.squeue_state.specs.Naming.{Named, setting_of}
use Rattle.stream_stays.specs.declared.place.Stays.{Stays}
use Rattle.stream_stays.specs.Places.{IsOpen, life_of}
use Rattle.live_chats.specs.Accounts.{Accounts, HasEndedStay, HasRenewedStay, SeatsWereTold, WereTold, account_of, accounts_of, in_the_end, pushed_at}
use Rattle.live_chats.specs.Hearing.{ChatOf, conn_in}
use Rattle.live_chats.specs.Lived.{AreMadeOf, stays_behind}
use Rattle.live_chats.specs.Onward.{told_on}
use Rattle.live_chats.specs.Seating.{HasSeats, IsSeated, IsSettled, KeptBut, chat_at, conn_of_seat, conns_of, left_at}
use Rattle.live_chats.specs.declared.chats.Chats.{Chats}
use Rattle.live_chats.specs.declared.item.ChatItem.{ChatItem}
use Rattle.live_chats.proofs.ListLemmas.{left_moves, length_map, map_agrees, map_left}
use Rattle.live_chats.proofs.LivedLemmas.{IsOther, from_first, in_other_order, nothing_told, times, times_append}
use Rattle.live_chats.proofs.SeatLemmas.{Entry, account_at, left_accounts, others_kept, others_same, same_entry}

-- ---- numbers that are made of stays
moved_map : {X Y : Type 0} (f : X → Y) (xs : List X) (ms : List (ℕ × ℕ)) → map f (apply_swaps xs ms) ≡ apply_swaps (map f xs) ms
moved_map f xs [] = refl
moved_map f xs (m ∷ ms) = map-swap f (apply_swaps xs ms) m.0 m.1 ∙ ap (λ l. swap l m.0 m.1) (moved_map f xs ms)

-- the groups in the order of the numbers that they make
in_order : (groups : List (List ℕ)) (numbers : List ℕ) → IsPermutation (map sum groups) numbers → (gs : List (List ℕ)) × IsPermutation groups gs × (map sum gs ≡ numbers)
in_order groups numbers h = (
  apply_swaps groups h.moves,
  record { moves = h.moves; below = subst (λ (n : ℕ). SwapsInRange n h.moves) (length_map sum groups) h.below; is = refl },
  moved_map sum groups h.moves ∙ sym h.is,
)

times_all : (n : ℕ) (gs : List (List ℕ)) → times n (flat_map (λ (g : List ℕ). g) gs) ≡ sum_by (times n) gs
times_all n [] = refl
times_all n (g ∷ gs) = times_append n g (flat_map (λ (h : List ℕ). h) gs) ∙ ap (λ (m : ℕ). times n g + m) (times_all n gs) ∙ sym (sum_by-cons (times n) g gs)

-- a stay that ended is of the same life as the next one
longer : (before stays numbers : List ℕ) (n m : ℕ) → AreMadeOf stays (m ∷ numbers) → AreMadeOf ((before ++ n ∷ []) ++ stays) ((n + m) ∷ numbers)
longer before stays numbers n m made = let h = in_order made.groups (m ∷ numbers) made.sums in by h.0 h.1 h.2
  where
    by : (gs : List (List ℕ)) → IsPermutation made.groups gs → map sum gs ≡ m ∷ numbers → AreMadeOf ((before ++ n ∷ []) ++ stays) ((n + m) ∷ numbers)
    by [] moved sums = absurd (none sums)
      where
        none : [] ≡ m ∷ numbers → ⊥
        none e = cc
    by (g ∷ gs) moved sums =
        let first : sum g ≡ m = cc in
        let rest : map sum gs ≡ numbers = cc in
        let more : sum (n ∷ g) ≡ n + sum g = sum_by-cons (λ (k : ℕ). k) n g in
        let its : sum (n ∷ g) ≡ n + m = omega (arith, first, more) in
        record {
          groups = (n ∷ g) ∷ gs;
          sums = subst (λ (l : List ℕ). IsPermutation (sum (n ∷ g) ∷ map sum gs) l) (λ j. its j ∷ rest j) (IsPermutation-refl (sum (n ∷ g) ∷ map sum gs));
          fits = λ k.
              let fits = made.fits k in
              let was = times_all k made.groups in
              let same = sum_by-IsPermutation (times k) made.groups (g ∷ gs) moved in
              let one = times_append k (n ∷ []) g in
              let mine = times_all k ((n ∷ g) ∷ gs) in
              let with_it = sum_by-cons (times k) (n ∷ g) gs in
              let without_it = sum_by-cons (times k) g gs in
              let all = times_append k (before ++ n ∷ []) stays in
              let last = times_append k before (n ∷ []) in
              omega (arith, fits, was, same, one, mine, with_it, without_it, all, last);
        }

-- ---- from one moment to the next
module _ (S : Setting) (p : ℕ) where
  -- a stay of one of them ended, and its next one has no feed yet
  one_renewed : (past now : List Element) (was is others_of : Accounts) (t : Tuple) (n : ℕ) → IsPermutation was ((t, n) ∷ others_of) → IsPermutation is ((t, 0) ∷ others_of)
      → HasEndedStay S p past now n → WereTold S p past now was is []
  one_renewed past now was is left t n moved again ended = record {
    grown = ended.grown;
    goes_on = ended.goes_on;
    here = λ more h u gone.
        let away = recursion_from_All (IsOther u) ((t, n) ∷ left) (All-permutation (IsOther u) was ((t, n) ∷ left) moved (All-from_recursion (IsOther u) was gone)) in
        h u (recursion_from_All (IsOther u) is (All-permutation (IsOther u) ((t, 0) ∷ left) is (IsPermutation-sym is ((t, 0) ∷ left) again)
        (All-from_recursion (IsOther u) ((t, 0) ∷ left) (away.0, away.1))));
    lived = λ more rest others h made.
        let ends = λ (x : Tuple × ℕ). x.1 + more x.0 in
        let here : IsPermutation (in_the_end more is ++ others) ((0 + more t) ∷ in_the_end more left ++ others) =
        IsPermutation-append_left others (in_the_end more is) ((0 + more t) ∷ in_the_end more left) (IsPermutation-map ends is ((t, 0) ∷ left) again) in
        let back : IsPermutation ((n + more t) ∷ in_the_end more left ++ others) (in_the_end more was ++ others) =
        IsPermutation-append_left others ((n + more t) ∷ in_the_end more left) (in_the_end more was)
        (IsPermutation-map ends ((t, n) ∷ left) was (IsPermutation-sym was ((t, n) ∷ left) moved)) in
        let one = longer ended.before (stays_behind S p now rest) (in_the_end more left ++ others) n (0 + more t) (in_other_order _ _ _ here made) in
        let nothing : n + (0 + more t) ≡ n + more t = omega arith in
        let both = subst (λ (k : ℕ). AreMadeOf ((ended.before ++ n ∷ []) ++ stays_behind S p now rest) (k ∷ (in_the_end more left ++ others))) nothing one in
        subst (λ (l : List ℕ). AreMadeOf l (in_the_end more was ++ others)) (from_first S p past now ended.grown rest (ended.before ++ n ∷ []) ended.goes_on ended.ended)
        (in_other_order _ _ _ back both);
  }

  renewed_told : (past now : List Element) (was is left : Accounts) (t : Tuple) (n : ℕ) → IsPermutation was ((t, n) ∷ left) → IsPermutation is ((t, 0) ∷ left)
      → HasRenewedStay S p past now n → WereTold S p past now was is []
  renewed_told past now was is left t n moved again renewed =
      told_on S p past renewed.mid now was is is [] [] (one_renewed past renewed.mid was is left t n moved again renewed.ended) (nothing_told S p renewed.mid now is renewed.goes_on)

-- ---- the seats
module _ (a b : Stays ChatItem ChatOf) (es : List Entry) (i : ℕ) (e : Entry) (at : slice_get es i ≡ Some e) (kept : KeptBut e.1.place a b) (is_open : IsOpen b e.1.place)
    (chat : chat_at b e.1.place ≡ chat_at a e.1.place) where
  module _ {R : Type 0} (limits : R → Limits) (s : Named R) (o : Chats) (p q : Pass Element) (was : HasSeats limits s o p a es) where
    its : IsSeated a e
    its = was.seated i e at

    others : (k : ℕ) (f : Entry) → slice_get es k ≡ Some f → k ≢ i → IsSeated a f
    others k f there _ = was.seated k f there

    -- one is the renewed one, or another one
    which : (P : Entry → Type 0) → P e → ((k : ℕ) (f : Entry) → slice_get es k ≡ Some f → k ≢ i → P f) → (k : ℕ) (f : Entry) → slice_get es k ≡ Some f → P f
    which P here there k f at_k = elim (eqb_tells k i) [
      | inl same ↦ subst P (sym (same_entry es i e f at (ap (slice_get es) (sym same.1) ∙ at_k))) here
      | inr ne ↦ there k f at_k ne.1
    ]

    again : IsSeated b e
    again = record {
      is_open = is_open;
      ends = ap (λ (c : ChatOf). c.ends) chat ∙ its.ends;
      conn = its.conn;
      its_conn = ap (λ (c : ChatOf). c.conn) chat ∙ its.its_conn;
      facts = its.facts;
    }

    pub renewed_seats : IsSettled limits s o q b → length es ≤ (life_of b).asks → HasSeats limits s o q b es
    renewed_seats settled paid = record {
      settled = settled;
      seated = which (IsSeated b) again (others_kept a b es i e at kept its.ends was.distinct others);
      distinct = was.distinct;
      paid = paid;
    }

    pub renewed_conns : conns_of b es ≡ conns_of a es
    renewed_conns =
        map_agrees (conn_of_seat b) (conn_of_seat a) es
        (which (λ (f : Entry). conn_of_seat b f ≡ conn_of_seat a f) (ap (λ (c : ChatOf). (e.0, conn_in c.conn)) chat) (others_same a b es i e at kept its.ends was.distinct others))

    pub seats_renewed : pushed_at b e.1.place ≡ 0 → HasRenewedStay (setting_of limits s.given) (number p) (seen p) (seen q) (pushed_at a e.1.place) → SeatsWereTold limits s p q a b es es []
    seats_renewed none renewed =
        let left = accounts_of b (left_at i es) in
        let now : IsPermutation (accounts_of b es) (account_of b e ∷ left) =
        subst (λ (l : Accounts). IsPermutation (accounts_of b es) (account_of b e ∷ l)) (sym (map_left (account_of b) i es))
        (left_moves i (accounts_of b es) (account_of b e) (account_at b es i e at)) in
        renewed_told (setting_of limits s.given) (number p) (seen p) (seen q) (accounts_of a es) (accounts_of b es) left e.0 (pushed_at a e.1.place)
        (left_accounts a b es i e at kept its.ends was.distinct others)
        (subst (λ (n : ℕ). IsPermutation (accounts_of b es) ((e.0, n) ∷ left)) none now)
        renewed
