-- The seats of a table, where the places of those that are to leave are closed one after another.
use Rattle.std.proofs.Common.{◌≡◌, ◌≢◌, ℕ, zero, suc, ◌+◌, ◌≤◌, ◌⊎◌, inl, inr, Bool, true, false, cond, not, Option, Some, List, [], ◌∷◌, length, map, filter, slice_get, refl, sym, ap, subst, ◌∙◌, arith, true≢false, add-one}
use Rattle.std.specs.List.{IsDistinct}
use Rattle.std.specs.List.Sorted.{IsPermutation}
use Rattle.std.specs.Map.{keys_of}
use Rattle.std.proofs.lemmas.Map.Made.{IsDistinct-keys_filter}
use Rattle.std.proofs.lemmas.List.Sorted.{IsPermutation-cons, IsPermutation-map, IsPermutation-middle, IsPermutation-refl, IsPermutation-trans}
use Rattle.turn_gate.specs.Passes.{number, seen}
use Rattle.turn_gate.specs.declared.pass.Pass.{Pass}
use Rattle.perimeter_core.specs.History.{Element, Limits}
use Rattle.squeue_state.specs.Naming.{Named, setting_of}
use Rattle.sq_base.specs.declared.kinds.Tuple.{Tuple}
use Rattle.stream_stays.specs.declared.place.Stays.{Stays}
use Rattle.stream_stays.specs.Places.{life_of}
use Rattle.live_server.specs.Facts.{facts_of}
use Rattle.live_server.specs.Table.{tuple_eq}
use Rattle.live_server.specs.declared.conn.Conn.{Conn}
use Rattle.live_server.specs.declared.facts.Facts.{Facts}
use Rattle.live_server.proofs.TableLemmas.{same, tuple_equivalence}
use Rattle.live_chats.specs.Accounts.{Accounts, HasEndedStay, SeatsWereTold, WereTold, account_of, accounts_of, pushed_at}
use Rattle.live_chats.specs.Hearing.{ChatOf, conn_in}
use Rattle.live_chats.specs.Seating.{AllSeated, HasSeats, IsSeated, IsSettled, KeptBut, chat_at, conn_of_seat, conns_of}
use Rattle.live_chats.specs.declared.chats.Chats.{Chats}
use Rattle.live_chats.specs.declared.item.ChatItem.{ChatItem}
use Rattle.live_chats.specs.declared.seat.Seat.{Seat}
use Rattle.live_chats.proofs.ListLemmas.{filter_agrees, filter_map_is, map_agrees, one_place}
use Rattle.live_chats.proofs.LivedLemmas.{one_left}
use Rattle.live_chats.proofs.SeatLemmas.{away_by, same_entry, seated_kept, seats_told_on}

abbrev Entry : Type 0
Entry = Tuple × Seat

-- how many places less there are
abbrev cost : Bool → ℕ
cost b = cond b 1 0

sum : (a b c d : ℕ) → b ≡ c + d → a + b ≡ (a + c) + d
sum a b c d is = omega (arith, is)

left_first : (b : Bool) (n : ℕ) → suc n ≡ (cond b 0 1 + n) + cost b
left_first true n = omega arith
left_first false n = omega arith

module _ {X : Type 0} where
  none_in : (k : ℕ) (x : X) → slice_get [] k ≡ Some x → ⊥
  none_in zero x at = cc
  none_in (suc k) x at = cc

  -- who is left by a filter was there, and stays by it
  pub in_kept : (p : X → Bool) (xs : List X) (k : ℕ) (x : X) → slice_get (filter p xs) k ≡ Some x → (j : ℕ) × (slice_get xs j ≡ Some x) × (p x ≡ true)
  in_kept p [] k x at = absurd (none_in k x at)
  in_kept p (y ∷ ys) k x at = by (p y) refl k at (λ n h. in_kept p ys n x h)
    where
      by : (b : Bool) → p y ≡ b → (n : ℕ) → slice_get (cond b (y ∷ filter p ys) (filter p ys)) n ≡ Some x
          → ((m : ℕ) → slice_get (filter p ys) m ≡ Some x → (j : ℕ) × (slice_get ys j ≡ Some x) × (p x ≡ true)) → (j : ℕ) × (slice_get (y ∷ ys) j ≡ Some x) × (p x ≡ true)
      by true e zero h rest = let same : y ≡ x = cc in (zero, h, ap p (sym same) ∙ e)
      by true e (suc n) h rest = let r = rest n h in (suc r.0, r.1, r.2)
      by false e n h rest = let r = rest n h in (suc r.0, r.1, r.2)

  -- how many there are, without those of the first so many that go
  abbrev pub left_of : (X → Bool) → ℕ → List X → ℕ
  left_of goes zero xs = length xs
  left_of goes (suc i) [] = 0
  left_of goes (suc i) (x ∷ xs) = cond (goes x) 0 1 + left_of goes i xs

  pub left_more : (goes : X → Bool) (xs : List X) (i : ℕ) (x : X) → slice_get xs i ≡ Some x → left_of goes i xs ≡ left_of goes (suc i) xs + cost (goes x)
  left_more goes [] i x at = absurd (none_in i x at)
  left_more goes (y ∷ ys) zero x at = let same : y ≡ x = cc in left_first (goes y) (length ys) ∙ ap (λ (z : X). (cond (goes y) 0 1 + length ys) + cost (goes z)) same
  left_more goes (y ∷ ys) (suc i) x at = sum (cond (goes y) 0 1) (left_of goes i ys) (left_of goes (suc i) ys) (cost (goes x)) (left_more goes ys i x at)

  left_kept : (b : Bool) (x : X) (n : ℕ) (xs : List X) → n ≡ length xs → cond b 0 1 + n ≡ length (cond (not b) (x ∷ xs) xs)
  left_kept true x n xs is = omega (arith, is)
  left_kept false x n xs is = omega (arith, is)

  pub left_all : (goes : X → Bool) (xs : List X) (i : ℕ) → length xs ≤ i → left_of goes i xs ≡ length (filter (λ x. not (goes x)) xs)
  left_all goes [] zero past = refl
  left_all goes [] (suc i) past = refl
  left_all goes (x ∷ xs) zero past = absurd (let no : ⊥ = omega (arith, past) in no)
  left_all goes (x ∷ xs) (suc i) past = left_kept (goes x) x (left_of goes i xs) (filter (λ y. not (goes y)) xs) (left_all goes xs i (omega (arith, past)))

not_true : (b : Bool) → not b ≡ true → b ≡ false
not_true true e = absurd (true≢false (sym e))
not_true false e = refl

module _ {R : Type 0} (limits : R → Limits) (s : Named R) (o : Chats) (who : Facts → Bool) where
  -- The places of those of the first so many that go are closed; all others are as they were
  pub record IsClosing (p : Pass Element) (first st : Stays ChatItem ChatOf) (i : ℕ) (es : List Entry) : Type 0 where
    pub settled : IsSettled limits s o p st
    pub seated : (k : ℕ) (e : Entry) → slice_get es k ≡ Some e → (i ≤ k) ⊎ (who e.1.facts ≡ false) → IsSeated st e
    pub same : (k : ℕ) (e : Entry) → slice_get es k ≡ Some e → (i ≤ k) ⊎ (who e.1.facts ≡ false) → conn_of_seat st e ≡ conn_of_seat first e
    pub counted : (k : ℕ) (e : Entry) → slice_get es k ≡ Some e → (i ≤ k) ⊎ (who e.1.facts ≡ false) → pushed_at st e.1.place ≡ pushed_at first e.1.place
    pub distinct : IsDistinct tuple_eq (keys_of es)
    pub paid : left_of (λ (e : Entry). who e.1.facts) i es ≤ (life_of st).asks

  pub closing_at_first : (p : Pass Element) (st : Stays ChatItem ChatOf) (es : List Entry) → HasSeats limits s o p st es → IsClosing p st st 0 es
  closing_at_first p st es h = record { settled = h.settled; seated = λ k e at _. h.seated k e at; same = λ k e at _. refl; counted = λ k e at _. refl; distinct = h.distinct; paid = h.paid }

  later : (i k : ℕ) (A : Type 0) → (i + 1 ≤ k) ⊎ A → (i ≤ k) ⊎ A
  later i k A (inl h) = inl (omega (arith, h))
  later i k A (inr h) = inr h

  module _ (p q : Pass Element) (first a b : Stays ChatItem ChatOf) (es : List Entry) (i : ℕ) (e : Entry) (at : slice_get es i ≡ Some e) (c : IsClosing p first a i es) (settled : IsSettled limits s o q b) where
    -- one that stays
    closing_stays : who e.1.facts ≡ false → b ≡ a → IsClosing q first b (i + 1) es
    closing_stays left same =
        let paid = c.paid in
        let more = left_more (λ (x : Entry). who x.1.facts) es i e at in
        let less : cost (who e.1.facts) ≡ 0 = ap cost left in
        let asks : (life_of b).asks ≡ (life_of a).asks = ap (λ (x : Stays ChatItem ChatOf). (life_of x).asks) same in
        let next : left_of (λ (x : Entry). who x.1.facts) (i + 1) es ≡ left_of (λ (x : Entry). who x.1.facts) (suc i) es = ap (λ (n : ℕ). left_of (λ (x : Entry). who x.1.facts) n es) (add-one i) in
        record {
          settled = settled;
          seated = λ k f there or. subst (λ (x : Stays ChatItem ChatOf). IsSeated x f) (sym same) (c.seated k f there (later i k _ or));
          same = λ k f there or. ap (λ (x : Stays ChatItem ChatOf). conn_of_seat x f) same ∙ c.same k f there (later i k _ or);
          counted = λ k f there or. ap (λ (x : Stays ChatItem ChatOf). pushed_at x f.1.place) same ∙ c.counted k f there (later i k _ or);
          distinct = c.distinct;
          paid = omega (arith, paid, more, less, asks, next);
        }

    -- a seat that stays is at another place than one that goes
    other : who e.1.facts ≡ true → (k : ℕ) (f : Entry) → slice_get es k ≡ Some f → (i + 1 ≤ k) ⊎ (who f.1.facts ≡ false) → k ≢ i
    other so k f there (inl h) same = omega (arith, h, same)
    other so k f there (inr left) same =
        let one : f ≡ e = same_entry es i e f at (ap (slice_get es) (sym same) ∙ there) in
        true≢false (sym so ∙ (ap (λ (x : Entry). who x.1.facts) (sym one) ∙ left))

    apart : who e.1.facts ≡ true → (k : ℕ) (f : Entry) → slice_get es k ≡ Some f → (i + 1 ≤ k) ⊎ (who f.1.facts ≡ false) → f.1.place ≢ e.1.place
    apart so k f there or same =
        let mine : IsSeated a e = c.seated i e at (inl (omega arith)) in
        let its : IsSeated a f = c.seated k f there (later i k _ or) in
        other so k f there or (one_place tuple_eq tuple_equivalence.refl es k i f e c.distinct there at (sym its.ends ∙ (ap (λ (x : ℕ). (chat_at a x).ends) same ∙ mine.ends)))

    -- one that goes
    closing_goes : who e.1.facts ≡ true → KeptBut e.1.place a b → (life_of a).asks ≤ (life_of b).asks + 1 → IsClosing q first b (i + 1) es
    closing_goes so kept spent =
        let paid = c.paid in
        let more = left_more (λ (x : Entry). who x.1.facts) es i e at in
        let one : cost (who e.1.facts) ≡ 1 = ap cost so in
        let next : left_of (λ (x : Entry). who x.1.facts) (i + 1) es ≡ left_of (λ (x : Entry). who x.1.facts) (suc i) es = ap (λ (n : ℕ). left_of (λ (x : Entry). who x.1.facts) n es) (add-one i) in
        record {
          settled = settled;
          seated = λ k f there or. seated_kept e.1.place a b f kept (apart so k f there or) (c.seated k f there (later i k _ or));
          same = λ k f there or. ap (λ (x : ChatOf). (f.0, conn_in x.conn)) (kept.chats f.1.place (apart so k f there or)) ∙ c.same k f there (later i k _ or);
          counted = λ k f there or. kept.pushed f.1.place (apart so k f there or) ∙ c.counted k f there (later i k _ or);
          distinct = c.distinct;
          paid = omega (arith, paid, more, one, spent, next);
        }

    pub closing_on : (who e.1.facts ≡ false → b ≡ a) → (who e.1.facts ≡ true → KeptBut e.1.place a b) → (who e.1.facts ≡ true → (life_of a).asks ≤ (life_of b).asks + 1) → IsClosing q first b (i + 1) es
    closing_on stays goes spent = by (who e.1.facts) refl
      where
        by : (x : Bool) → who e.1.facts ≡ x → IsClosing q first b (i + 1) es
        by true so = closing_goes so (goes so) (spent so)
        by false left = closing_stays left (stays left)

    -- the place of one that goes may be closed
    pub closing_pays : who e.1.facts ≡ true → 1 ≤ (life_of a).asks
    closing_pays so =
        let paid = c.paid in
        let more = left_more (λ (x : Entry). who x.1.facts) es i e at in
        let one : cost (who e.1.facts) ≡ 1 = ap cost so in
        omega (arith, paid, more, one)

  module _ (p : Pass Element) (first st : Stays ChatItem ChatOf) (es : List Entry) (i : ℕ) (c : IsClosing p first st i es) (past : length es ≤ i) where
    abbrev stays : Entry → Bool
    stays e = not (who e.1.facts)

    pub closed_seats : HasSeats limits s o p st (filter (λ e. not (who e.1.facts)) es)
    closed_seats =
        let paid = c.paid in
        let all = left_all (λ (x : Entry). who x.1.facts) es i past in
        record {
          settled = c.settled;
          seated = λ k e there. let was = in_kept stays es k e there in c.seated was.0 e was.1 (inr (not_true (who e.1.facts) was.2));
          distinct = IsDistinct-keys_filter tuple_eq stays es c.distinct;
          paid = omega (arith, paid, all);
        }

    pub closed_conns : AllSeated first es → conns_of st (filter (λ e. not (who e.1.facts)) es) ≡ filter (λ c. not (who (facts_of c.1))) (conns_of first es)
    closed_conns seated =
        map_agrees (conn_of_seat st) (conn_of_seat first) (filter stays es) (λ k e there. let was = in_kept stays es k e there in c.same was.0 e was.1 (inr (not_true (who e.1.facts) was.2)))
        ∙ sym (filter_map_is (conn_of_seat first) (λ (x : Tuple × Conn). not (who (facts_of x.1))) es ∙ ap (map (conn_of_seat first)) (filter_agrees _ stays es
        (λ k e there. let its = seated k e there in ap (λ (x : Option Conn). not (who (facts_of (conn_in x)))) its.its_conn ∙ ap (λ (f : Facts). not (who f)) (sym its.facts))))

-- those that go of the first so many are gone
module _ {X : Type 0} (goes : X → Bool) where
  abbrev pub still : ℕ → List X → List X
  still zero xs = xs
  still (suc i) [] = []
  still (suc i) (x ∷ xs) = cond (goes x) (still i xs) (x ∷ still i xs)

  still_stays : (xs : List X) (i : ℕ) (x : X) → slice_get xs i ≡ Some x → goes x ≡ false → still (suc i) xs ≡ still i xs
  still_stays [] i x at e = absurd (none_in i x at)
  still_stays (y ∷ ys) zero x at e = let same : y ≡ x = cc in ap (λ (b : Bool). cond b ys (y ∷ ys)) (ap goes same ∙ e)
  still_stays (y ∷ ys) (suc i) x at e = ap (λ (l : List X). cond (goes y) l (y ∷ l)) (still_stays ys i x at e)

  still_goes : (xs : List X) (i : ℕ) (x : X) → slice_get xs i ≡ Some x → goes x ≡ true → IsPermutation (still i xs) (x ∷ still (suc i) xs)
  still_goes [] i x at e = absurd (none_in i x at)
  still_goes (y ∷ ys) zero x at e =
      let same : y ≡ x = cc in
      let rest : ys ≡ cond (goes y) ys (y ∷ ys) = ap (λ (b : Bool). cond b ys (y ∷ ys)) (sym (ap goes same ∙ e)) in
      subst (λ (l : List X). IsPermutation (y ∷ ys) l) (λ j. same j ∷ rest j) (IsPermutation-refl (y ∷ ys))
  still_goes (y ∷ ys) (suc i) x at e = by (goes y) (still_goes ys i x at e)
    where
      by : (b : Bool) → IsPermutation (still i ys) (x ∷ still (suc i) ys)
          → IsPermutation (cond b (still i ys) (y ∷ still i ys)) (x ∷ cond b (still (suc i) ys) (y ∷ still (suc i) ys))
      by true rest = rest
      by false rest =
          IsPermutation-trans (y ∷ still i ys) (y ∷ x ∷ still (suc i) ys) (x ∷ y ∷ still (suc i) ys)
          (IsPermutation-cons y (still i ys) (x ∷ still (suc i) ys) rest) (IsPermutation-middle (y ∷ []) x (still (suc i) ys))

  still_all : (xs : List X) (i : ℕ) → length xs ≤ i → still i xs ≡ filter (λ x. not (goes x)) xs
  still_all [] zero past = refl
  still_all [] (suc i) past = refl
  still_all (x ∷ xs) zero past = absurd (let no : ⊥ = omega (arith, past) in no)
  still_all (x ∷ xs) (suc i) past = ap (λ (l : List X). cond (goes x) l (x ∷ l)) (still_all xs i (omega (arith, past))) ∙ turned_round (goes x)
    where
      turned_round : (b : Bool) → cond b (filter (λ y. not (goes y)) xs) (x ∷ filter (λ y. not (goes y)) xs) ≡ cond (not b) (x ∷ filter (λ y. not (goes y)) xs) (filter (λ y. not (goes y)) xs)
      turned_round true = refl
      turned_round false = refl

  abbrev WasThere : List X → ℕ → X → Type 0
  WasThere xs i x = (j : ℕ) × (slice_get xs j ≡ Some x) × ((i ≤ j) ⊎ (goes x ≡ false))

  further : (y : X) (ys : List X) (i : ℕ) (x : X) → WasThere ys i x → WasThere (y ∷ ys) (suc i) x
  further y ys i x (j, there, inl h) = (suc j, there, inl (omega (arith, h)))
  further y ys i x (j, there, inr h) = (suc j, there, inr h)

  in_more : (y : X) (ys : List X) (i : ℕ) (x : X) → ((n : ℕ) → slice_get (still i ys) n ≡ Some x → WasThere ys i x)
      → (b : Bool) → goes y ≡ b → (n : ℕ) → slice_get (cond b (still i ys) (y ∷ still i ys)) n ≡ Some x → WasThere (y ∷ ys) (suc i) x
  in_more y ys i x rest true e n h = further y ys i x (rest n h)
  in_more y ys i x rest false e zero h = let same : y ≡ x = cc in (zero, h, inr (ap goes (sym same) ∙ e))
  in_more y ys i x rest false e (suc n) h = further y ys i x (rest n h)

  in_still : (xs : List X) (i k : ℕ) (x : X) → slice_get (still i xs) k ≡ Some x → WasThere xs i x
  in_still xs zero k x at = (k, at, inl (omega arith))
  in_still [] (suc i) k x at = absurd (none_in k x at)
  in_still (y ∷ ys) (suc i) k x at = in_more y ys i x (λ n h. in_still ys i n x h) (goes y) refl k at

module _ {R : Type 0} (limits : R → Limits) (s : Named R) (o : Chats) (who : Facts → Bool) where
  abbrev leaving : Entry → Bool
  leaving e = who e.1.facts

  module _ (p q r : Pass Element) (first a : Stays ChatItem ChatOf) (es : List Entry) (i : ℕ) (e : Entry) (at : slice_get es i ≡ Some e)
      (c : IsClosing limits s o who q first a i es) (number_is : number q ≡ number p)
      (told : SeatsWereTold limits s p q first first es (still leaving i es) []) where
    -- one that stays
    told_stays : who e.1.facts ≡ false → r ≡ q → SeatsWereTold limits s p r first first es (still leaving (i + 1) es) []
    told_stays stays same =
        let next : still leaving (i + 1) es ≡ still leaving i es = ap (λ (n : ℕ). still leaving n es) (add-one i) ∙ still_stays leaving es i e at stays in
        subst (λ (l : List Entry). SeatsWereTold limits s p r first first es l []) (sym next)
        (subst (λ (x : Pass Element). SeatsWereTold limits s p x first first es (still leaving i es) []) (sym same) told)

    -- one that goes
    told_goes : who e.1.facts ≡ true → HasEndedStay (setting_of limits s.given) (number q) (seen q) (seen r) (pushed_at a e.1.place)
        → SeatsWereTold limits s p r first first es (still leaving (i + 1) es) []
    told_goes goes ended =
        let next : still leaving (i + 1) es ≡ still leaving (suc i) es = ap (λ (n : ℕ). still leaving n es) (add-one i) in
        let here = still leaving i es in
        let there = still leaving (suc i) es in
        let feeds = c.counted i e at (inl (omega arith)) in
        let moved : IsPermutation (accounts_of first here) (account_of first e ∷ accounts_of first there) =
        IsPermutation-map (account_of first) here (e ∷ there) (still_goes leaving es i e at goes) in
        let one = one_left (setting_of limits s.given) (number q) (seen q) (seen r) (accounts_of first here) (accounts_of first there) e.0 (pushed_at first e.1.place) moved
        (away_by e.0 first there (λ k f h. let was = in_still leaving es (suc i) k f h in others (tuple_eq e.0 f.0) refl was.0 was.1 was.2))
        (subst (HasEndedStay (setting_of limits s.given) (number q) (seen q) (seen r)) feeds ended) in
        subst (λ (l : List Entry). SeatsWereTold limits s p r first first es l []) (sym next)
        (seats_told_on limits s p q r first first first es here there [] [] number_is told one)
      where
        others : {f : Entry} (b : Bool) → tuple_eq e.0 f.0 ≡ b → (j : ℕ) → slice_get es j ≡ Some f → (suc i ≤ j) ⊎ (who f.1.facts ≡ false) → tuple_eq e.0 f.0 ≡ false
        others false is j h or = is
        others {f} true is j h or =
            let same_place : j ≡ i = one_place tuple_eq tuple_equivalence.refl es j i f e c.distinct h at (sym (same e.0 f.0 is)) in
            absurd (elim or [
              | inl later ↦ (let no : ⊥ = omega (arith, later, same_place) in no)
              | inr stays ↦ (let one : f ≡ e = same_entry es i e f at (ap (slice_get es) (sym same_place) ∙ h) in
                  true≢false (sym goes ∙ (ap (λ (x : Entry). who x.1.facts) (sym one) ∙ stays)))
            ])

    pub told_closing : (who e.1.facts ≡ false → r ≡ q)
        → (who e.1.facts ≡ true → HasEndedStay (setting_of limits s.given) (number q) (seen q) (seen r) (pushed_at a e.1.place))
        → SeatsWereTold limits s p r first first es (still leaving (i + 1) es) []
    told_closing stays goes = by (who e.1.facts) refl
      where
        by : (b : Bool) → who e.1.facts ≡ b → SeatsWereTold limits s p r first first es (still leaving (i + 1) es) []
        by true h = told_goes h (goes h)
        by false h = told_stays h (stays h)

  -- where all that go are gone
  pub told_closed : (p q : Pass Element) (first st : Stays ChatItem ChatOf) (es : List Entry) (i : ℕ) → IsClosing limits s o who q first st i es → length es ≤ i
      → SeatsWereTold limits s p q first first es (still leaving i es) [] → SeatsWereTold limits s p q first st es (filter (λ e. not (who e.1.facts)) es) []
  told_closed p q first st es i c past told =
      let left = filter (λ (e : Entry). not (who e.1.facts)) es in
      let counts : accounts_of first (still leaving i es) ≡ accounts_of st left =
      ap (accounts_of first) (still_all leaving es i past)
      ∙ map_agrees (account_of first) (account_of st) left
      (λ k e there. let was = in_kept (λ (x : Entry). not (who x.1.facts)) es k e there in
      ap (λ (n : ℕ). (e.0, n)) (sym (c.counted was.0 e was.1 (inr (not_true (who e.1.facts) was.2))))) in
      subst (λ (l : Accounts). WereTold (setting_of limits s.given) (number p) (seen p) (seen q) (accounts_of first es) l []) counts told
