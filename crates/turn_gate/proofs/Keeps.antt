-- Each step of a gate keeps its rule.
use Rattle.std.proofs.Common.{◌/◌, ◌%◌, ◌^◌, ◌⊎◌, inl, inr, None, ◌≡◌, ◌≢◌, ℕ, zero, suc, ◌+◌, ◌<◌, ◌≤◌, ⊎_elim, Bool, true, false, List, [], ◌∷◌, ◌++◌, length, get_or, set, sym, refl, ap, ◌∙◌, subst, eqb, eq-eqb, ne_eqb, cond, Option, Some, arith, length-append, length-set, append-nil}
use mathlib.Core.Option as mo
use mathlib.Core.Logic.{dite}
use native.Mathlib.Decide.{ℕ_discrete}
use prog.Atomic.{either}
use lib.ListN.{get_elem?}
use Rattle.atomic_table.specs.Table.{State, Me, step, stepped, keeps, takes, gives, Allows, Splits, Joins, rest, put_back, opening, Final, Seen}
use Rattle.atomic_table.proofs.Lists.{at_set, set_here, set_else, at_longer, at_last}
use Rattle.turn_gate.specs.History.{Begins, only, Each, Has}
use Rattle.turn_gate.specs.Rule.{row, view, fresh, dealer, dealt, dealt_one, joined, spent, ticket_at, Knows, Fits, AtHome, Away, Holds, HasWhole, tried, watched, added, drew, glanced, freed}
use Rattle.turn_gate.specs.declared.views.Row.{Row}
use Rattle.turn_gate.specs.declared.views.View.{View}
use Rattle.turn_gate.specs.declared.kept.Kept.{Kept}
use Rattle.turn_gate.specs.declared.views.LockStep.{LockStep}
use Rattle.turn_gate.specs.declared.views.LockStep.TheVariants.{Draw, Load, Exchange, Serve}
use Rattle.turn_gate.proofs.Histories.{begins_itself, begins_more, only-append, only_same, only_other, all_to, all_joined, at_end, within, one_item, has_each}
use Rattle.turn_gate.proofs.Queues.{at_most}
use Rattle.turn_gate.proofs.Words.{apart, draws_serving, draws_out, frees_serving, frees_out, next_ticket, served_first}

module _ {T E : Type 0} (stands : T → List E → Type 0) (num : E → ℕ) (n : ℕ) where
  abbrev V : Type 0
  V = View E

  abbrev S : Type 0
  S = Option (Kept T)

  abbrev St : Type 0
  St = State S V

  abbrev M : Type 0
  M = Me S V

  abbrev Rule : St → Type 0
  Rule = Holds stands num n

  views_stay : (K : ℕ → V → Type 0) (vs : List V) (id : ℕ) (w : V) → K id w → ((j : ℕ) (v : V) → j ≢ id → get_elem? vs j ≡ mo.some v → K j v)
      → (j : ℕ) (v : V) → get_elem? (set vs id w) j ≡ mo.some v → K j v
  views_stay K vs id w mine others j v e = ⊎_elim (λ (t : (j ≡ id) × (w ≡ v)). subst (λ (x : ℕ × V). K x.0 x.1) (λ i. (sym t.0 i, t.1 i)) mine)
      (λ (t : (j ≢ id) × (get_elem? vs j ≡ mo.some v)). others j v t.0 t.1) (at_set vs id j w v e)

  -- the word that is found
  found_lock : (s : St) (h : Rule s) → get_or s.words 0 0 ≡ h.lock
  found_lock s h = ap (λ (ws : List ℕ). get_or ws 0 0) h.words

  -- two seats' views at one place are one view
  one_view : (s : St) (i j : ℕ) (v w : V) → i ≡ j → get_elem? s.views i ≡ mo.some v → get_elem? s.views j ≡ mo.some w → v ≡ w
  one_view s i j v w is a b = mo.some-injective v w (sym a ∙ (ap (get_elem? s.views) is ∙ b))

  -- a step at which the seat's rows, its ticket and its slot stay, and no word changes
  unmoved : (s : St) (h : Rule s) (id : ℕ) (me : M) (st : List LockStep) → get_elem? s.views id ≡ mo.some me.0
      → Rule (stepped s 0 (get_or s.words 0 0) id me.1 (view me.0.rows me.0.ticket me.0.has st) keeps)
  unmoved s h id me st at = let w : V = view me.0.rows me.0.ticket me.0.has st in let old = h.each id me.0 at in record {
    lock = h.lock;
    story = h.story;
    place = h.place;
    queue = h.queue;
    words = ap (λ (ws : List ℕ). set ws 0 (get_or ws 0 0)) h.words;
    out = h.out;
    few = h.few;
    each = views_stay (Fits stands num n h.lock h.story h.place h.queue s.homes) s.views id w (record { rows = old.rows; waits = old.waits; has = old.has }) (λ j v _. h.each j v);
    queued = λ i q e. let t = h.queued i q e in dite (ℕ_discrete (h.place q) id)
        (λ is. let same = one_view s (h.place q) id t.0 me.0 is t.2 at in (w, t.1, ap (get_elem? (set s.views id w)) is ∙ set_here s.views id w (within s.views id me.0 at), ap (λ (v : V). v.ticket) (sym same) ∙ t.3, ap (λ (v : V). v.rows) (sym same) ∙ t.4, t.5))
        (λ other. (t.0, t.1, set_else s.views id (h.place q) w other ∙ t.2, t.3, t.4, t.5));
    absent = h.absent;
    home = elim h.home [
      | inl a ↦ inl a
      | inr a ↦ inr (dite (ℕ_discrete (h.place a.0) id)
          (λ is. let same = one_view s (h.place a.0) id a.1 me.0 is a.3 at in (a.0, w, a.2, ap (get_elem? (set s.views id w)) is ∙ set_here s.views id w (within s.views id me.0 at), ap (λ (v : V). v.has) (sym same) ∙ a.4))
          (λ other. (a.0, a.1, a.2, set_else s.views id (h.place a.0) w other ∙ a.3, a.4)))
    ];
  }

  pub looks : (slots id : ℕ) (me : M) → Allows Rule slots id me 0 (λ x. x) (glanced (step slots 0 0 0 mo.none) me)
  looks slots id me s h _ at _ = (view me.0.rows me.0.ticket me.0.has (me.0.steps ++ Load (get_or s.words 0 0) ∷ []), keeps, tt, unmoved s h id me (me.0.steps ++ Load (get_or s.words 0 0) ∷ []) at, (refl, refl))

  in_queue : (s : St) (h : Rule s) (i q : ℕ) → get_elem? h.queue i ≡ mo.some q → i < 256
  in_queue s h i q e = let a = within h.queue i q e in let o = h.out in omega arith

  queue_once : (s : St) (h : Rule s) (i j q : ℕ) → i < j → j < 256 → get_elem? h.queue i ≡ mo.some q → get_elem? h.queue j ≡ mo.some q → ⊥
  queue_once s h i j q a b e f = let t = h.queued i q e in let u = h.queued j q f in let same = one_view s (h.place q) (h.place q) t.0 u.0 refl t.2 u.2 in
      let p : Some (ticket_at h.lock i) ≡ Some (ticket_at h.lock j) = sym t.3 ∙ (ap (λ (v : V). v.ticket) same ∙ u.3) in let one : ticket_at h.lock i ≡ ticket_at h.lock j = cc in apart (h.lock / 256) i j a b one

  queue_small : (s : St) (h : Rule s) (i q : ℕ) → get_elem? h.queue i ≡ mo.some q → q < n
  queue_small s h i q e = let t = h.queued i q e in let f = h.each (h.place q) t.0 t.2 in let k : Knows stands num n h.story h.place (h.place q) t.1 = (subst (Each (Knows stands num n h.story h.place (h.place q))) t.4 f.rows).0 in
      let small : t.1.number < n = k.small in let is : t.1.number ≡ q = t.5 in omega arith

  short : (s : St) (h : Rule s) → length h.queue ≤ n
  short s h = at_most h.queue n (λ i j q a b. queue_once s h i j q a (let o = h.out in omega arith)) (queue_small s h)

  own_row : (s : St) (h : Rule s) (id : ℕ) (me : M) (r : Row E) → me.0.rows ≡ r ∷ [] → get_elem? s.views id ≡ mo.some me.0 → Knows stands num n h.story h.place id r
  own_row s h id me r one at = (subst (Each (Knows stands num n h.story h.place id)) one (h.each id me.0 at).rows).0

  -- a seat with no ticket is nobody's place in the queue
  idle_else : (s : St) (h : Rule s) (id : ℕ) (v : V) → get_elem? s.views id ≡ mo.some v → v.ticket ≡ None → (i q : ℕ) → get_elem? h.queue i ≡ mo.some q → h.place q ≢ id
  idle_else s h id v at idle i q e is = let t = h.queued i q e in let same = one_view s (h.place q) id t.0 v is t.2 at in let p : Some (ticket_at h.lock i) ≡ None = sym t.3 ∙ (ap (λ (z : V). z.ticket) same ∙ idle) in absurd (cc)

  pub draws : (slots id : ℕ) (me : M) (r : Row E) → me.0.rows ≡ r ∷ [] → me.0.ticket ≡ None → me.0.has ≡ false → Allows Rule slots id me 0 (λ x. (x + 1) % 2 ^ 64) (drew (step slots 0 1 0 mo.none) me)
  draws slots id me r one idle empty s h _ at small = let x : ℕ = get_or s.words 0 0 in let fl = found_lock s h in let few = short s h in let o = h.out in let at_most_64 = h.few in
      let room : h.lock % 256 < 255 = omega arith in let tight : h.lock < 2 ^ 64 = omega arith in let lock : ℕ = (h.lock + 1) % 2 ^ 64 in let queue : List ℕ = h.queue ++ r.number ∷ [] in
      let w : V = view me.0.rows (Some (ticket_at x (x % 256))) me.0.has (me.0.steps ++ Draw x ∷ []) in let old = h.each id me.0 at in let k = own_row s h id me r one at in
      let same_ticket : (i : ℕ) → ticket_at h.lock i ≡ ticket_at lock i = λ i. ap (λ (z : ℕ). (z + i) % 2 ^ 56) (sym (draws_serving h.lock tight room)) in
      let mine : ticket_at x (x % 256) ≡ ticket_at lock (length h.queue) = ap (λ (z : ℕ). ticket_at z (z % 256)) fl ∙ (ap (ticket_at h.lock) (sym o) ∙ same_ticket (length h.queue)) in
      let last : get_elem? queue (length h.queue) ≡ mo.some r.number = at_last h.queue r.number (length h.queue) refl in (
        w,
        keeps,
        tt,
        record {
          lock = lock;
          story = h.story;
          place = h.place;
          queue = queue;
          words = ap (λ (ws : List ℕ). set ws 0 ((get_or ws 0 0 + 1) % 2 ^ 64)) h.words;
          out = length-append h.queue (r.number ∷ []) ∙ (ap (λ (z : ℕ). z + 1) o ∙ sym (draws_out h.lock tight room));
          few = h.few;
          each = views_stay (Fits stands num n lock h.story h.place queue s.homes) s.views id w
              (record { rows = old.rows; waits = λ t e. (r, length h.queue, one, last, (let p : Some (ticket_at x (x % 256)) ≡ Some t = e in let q : ticket_at x (x % 256) ≡ t = cc in sym q ∙ mine)); has = λ l. absurd (cc) })
              (λ j v other e. let f = h.each j v e in record {
                rows = f.rows;
                waits = λ t e. let u = f.waits t e in (u.0, u.1, u.2, at_longer h.queue (r.number ∷ []) u.1 u.0.number u.3, u.4 ∙ same_ticket u.1);
                has = λ l. let u = f.has l in (u.0, u.1, u.2, at_longer h.queue (r.number ∷ []) 0 u.0.number u.3, u.4);
              });
          queued = λ i q e. ⊎_elim (λ (t : (i < length h.queue) × (get_elem? h.queue i ≡ mo.some q)). let u = h.queued i q t.1 in
              (u.0, u.1, set_else s.views id (h.place q) w (idle_else s h id me.0 at idle i q t.1) ∙ u.2, u.3 ∙ ap (λ (z : ℕ). Some z) (same_ticket i), u.4, u.5))
              (λ (t : (i ≡ length h.queue) × (r.number ≡ q)). (w, r, ap (get_elem? (set s.views id w)) (ap h.place (sym t.1) ∙ k.here) ∙ set_here s.views id w (within s.views id me.0 at), ap (λ (z : ℕ). Some z) (mine ∙ ap (ticket_at lock) (sym t.0)), one, t.1))
              (at_end h.queue r.number q i e);
          absent = h.absent;
          home = elim h.home [ inl a ↦ inl a | inr a ↦ inr (a.0, a.1, at_longer h.queue (r.number ∷ []) 0 a.0 a.2, set_else s.views id (h.place a.0) w (idle_else s h id me.0 at idle 0 a.0 a.2) ∙ a.3, a.4) ];
        },
        (refl, refl),
      )

  -- the seat takes the slot; the word and the queue become such that it is served
  not_both : (x : S) (homes : List (mo.Option S)) → homes ≡ mo.some x ∷ [] → homes ≡ mo.none ∷ [] → ⊥
  not_both x homes a b = mo.some-ne-none x (mo.some-injective (mo.some x) mo.none (ap (λ (hs : List (mo.Option S)). get_elem? hs 0) (sym a ∙ b)))

  -- the head of the queue has the value, if anybody has, so a seat at the head that has it not finds it at home
  at_home : (s : St) (h : Rule s) (id : ℕ) (me : M) (r : Row E) → me.0.rows ≡ r ∷ [] → get_elem? s.views id ≡ mo.some me.0 → me.0.has ≡ false → get_elem? h.queue 0 ≡ mo.some r.number → AtHome stands num h.story s.homes
  at_home s h id me r one at empty first = elim h.home [
    | inl a ↦ a
    | inr a ↦ let q : a.0 ≡ r.number = mo.some-injective a.0 r.number (sym a.2 ∙ first) in let k = own_row s h id me r one at in
        let same = one_view s (h.place a.0) id a.1 me.0 (ap h.place q ∙ k.here) a.3 at in let bad : true ≡ false = sym a.4 ∙ (ap (λ (v : V). v.has) same ∙ empty) in absurd (cc)
  ]

  watch_hit : (s : St) (h : Rule s) (id : ℕ) (me : M) (r : Row E) (st : List LockStep) → me.0.rows ≡ r ∷ [] → get_elem? s.views id ≡ mo.some me.0 → get_elem? h.queue 0 ≡ mo.some r.number → (x : Kept T) → s.homes ≡ mo.some (Some x) ∷ []
      → Rule (stepped s 0 (get_or s.words 0 0) id me.1 (view (row r.number h.story r.mine ∷ []) me.0.ticket true st) (takes 0 (Some x)))
  watch_hit s h id me r st one at first x home = let w : V = view (row r.number h.story r.mine ∷ []) me.0.ticket true st in let old = h.each id me.0 at in let k = own_row s h id me r one at in
      let gone : set s.homes 0 mo.none ≡ mo.none ∷ [] = ap (λ (hs : List (mo.Option S)). set hs 0 mo.none) home in let row' : Row E = row r.number h.story r.mine in record {
        lock = h.lock;
        story = h.story;
        place = h.place;
        queue = h.queue;
        words = ap (λ (ws : List ℕ). set ws 0 (get_or ws 0 0)) h.words;
        out = h.out;
        few = h.few;
        each = views_stay (Fits stands num n h.lock h.story h.place h.queue (set s.homes 0 mo.none)) s.views id w (record {
          rows = (record { seen = begins_itself h.story; mine = k.mine; here = k.here; small = k.small }, tt);
          waits = λ t e. let u = old.waits t e in (row', u.1, refl, u.3 ∙ ap (λ (z : Row E). mo.some z.number) (one_item me.0.rows u.0 r u.2 one), u.4);
          has = λ _. (row', refl, refl, first, gone);
        }) (λ j v other e. let f = h.each j v e in record { rows = f.rows; waits = f.waits; has = λ l. absurd (not_both (Some x) s.homes home (f.has l).4) });
        queued = λ i q e. let t = h.queued i q e in dite (ℕ_discrete (h.place q) id)
            (λ is. let same = one_view s (h.place q) id t.0 me.0 is t.2 at in let rows = one_item me.0.rows t.1 r (ap (λ (v : V). v.rows) (sym same) ∙ t.4) one in
            (w, row', ap (get_elem? (set s.views id w)) is ∙ set_here s.views id w (within s.views id me.0 at), ap (λ (v : V). v.ticket) (sym same) ∙ t.3, refl, ap (λ (z : Row E). z.number) (sym rows) ∙ t.5))
            (λ other. (t.0, t.1, set_else s.views id (h.place q) w other ∙ t.2, t.3, t.4, t.5));
        absent = h.absent;
        home = inr (r.number, w, first, ap (get_elem? (set s.views id w)) k.here ∙ set_here s.views id w (within s.views id me.0 at), refl);
      }

  pub watches : (tells : T → List E → Type 0) (told : (x : T) (h : List E) → stands x h → tells x h) (slots id : ℕ) (me : M) (r : Row E) (t : ℕ) → me.0.rows ≡ r ∷ [] → me.0.ticket ≡ Some t → me.0.has ≡ false → Allows Rule slots id me 0 (λ x. x) (watched tells num (step slots 0 0 0 mo.none) me)
  watches tells told slots id me r t one mine empty s h _ at small = let x : ℕ = get_or s.words 0 0 in let fl = found_lock s h in let tight : h.lock < 2 ^ 64 = omega arith in let k = own_row s h id me r one at in
      let same_t : (t' : ℕ) → me.0.ticket ≡ Some t' → t ≡ t' = λ t' e. let p : Some t ≡ Some t' = sym mine ∙ e in cc in
      let st : List LockStep = me.0.steps ++ Load x ∷ [] in
      dite (ℕ_discrete (x / 256) t)
      (λ is. let u = (h.each id me.0 at).waits t mine in let inside = in_queue s h u.1 u.0.number u.3 in let serves : h.lock / 256 ≡ t = ap (λ (z : ℕ). z / 256) (sym fl) ∙ is in
      let zeroth : u.1 ≡ 0 = served_first (h.lock / 256) u.1 (omega arith) inside (sym u.4 ∙ sym serves) in
      let first : get_elem? h.queue 0 ≡ mo.some r.number = ap (get_elem? h.queue) (sym zeroth) ∙ (u.3 ∙ ap (λ (z : Row E). mo.some z.number) (one_item me.0.rows u.0 r u.2 one)) in
      let a = at_home s h id me r one at empty first in let w : V = view (row r.number h.story r.mine ∷ []) me.0.ticket true st in (
        w,
        takes 0 (Some a.0),
        ap (λ (hs : List (mo.Option S)). get_elem? hs 0) a.1,
        watch_hit s h id me r st one at first a.0 a.1,
        (
          refl,
          refl,
          (λ t' e' _ r' one'. subst (λ (z : Row E). (x : Kept T) × (h' : List E) × (w.rows ≡ row z.number h' z.mine ∷ []) × (w.ticket ≡ Some t') × (w.has ≡ true) × ((0, Some a.0) ∷ me.1 ≡ (0, Some x) ∷ me.1) × Begins z.seen h' × (only num z.number h' ≡ z.mine) × tells x.value.value h' × (x.count ≡ length h'))
              (one_item me.0.rows r r' one one') (a.0, h.story, refl, e', refl, refl, k.seen, k.mine, told a.0.value.value h.story a.3, a.2)),
          λ t' e' ne. absurd (ne (is ∙ same_t t' e')),
        ),
      ))
      (λ not. (view me.0.rows me.0.ticket me.0.has st, keeps, tt, unmoved s h id me st at, (refl, refl, (λ t' e' is. absurd (not (is ∙ sym (same_t t' e')))), λ _ _ _. (refl, refl, refl, refl))))

  nothing_at : (l : List ℕ) (i q : ℕ) → l ≡ [] → get_elem? l i ≡ mo.some q → ⊥
  nothing_at l i q e at = mo.some-ne-none q (sym at ∙ ap (λ (z : List ℕ). get_elem? z i) e)

  empty_list : (l : List ℕ) → length l ≡ 0 → l ≡ []
  empty_list [] e = refl
  empty_list (x ∷ xs) e = absurd (omega arith)

  only_one : (i q a : ℕ) → get_elem? (a ∷ []) i ≡ mo.some q → (i ≡ 0) × (a ≡ q)
  only_one zero q a e = (refl, mo.some-injective a q e)
  only_one (suc i) q a e = absurd (mo.some-ne-none q (sym e))

  try_hit : (s : St) (h : Rule s) (id old : ℕ) (me : M) (r : Row E) (st : List LockStep) → me.0.rows ≡ r ∷ [] → get_elem? s.views id ≡ mo.some me.0 → h.lock ≡ old → old % 256 ≡ 0 → old < 2 ^ 64 → (x : Kept T) → s.homes ≡ mo.some (Some x) ∷ []
      → Rule (stepped s 0 (old + 1) id me.1 (view (row r.number h.story r.mine ∷ []) (Some (old / 256)) true st) (takes 0 (Some x)))
  try_hit s h id old me r st one at is round tight x home = let row' : Row E = row r.number h.story r.mine in let w : V = view (row' ∷ []) (Some (old / 256)) true st in let k = own_row s h id me r one at in
      let gone : set s.homes 0 mo.none ≡ mo.none ∷ [] = ap (λ (hs : List (mo.Option S)). set hs 0 mo.none) home in let o = h.out in let none_yet : h.queue ≡ [] = empty_list h.queue (o ∙ (ap (λ (z : ℕ). z % 256) is ∙ round)) in
      let turn : old / 256 ≡ ticket_at (old + 1) 0 = omega arith in record {
        lock = old + 1;
        story = h.story;
        place = h.place;
        queue = r.number ∷ [];
        words = ap (λ (ws : List ℕ). set ws 0 (old + 1)) h.words;
        out = omega arith;
        few = h.few;
        each = views_stay (Fits stands num n (old + 1) h.story h.place (r.number ∷ []) (set s.homes 0 mo.none)) s.views id w (record {
          rows = (record { seen = begins_itself h.story; mine = k.mine; here = k.here; small = k.small }, tt);
          waits = λ t e. (row', 0, refl, refl, (let p : Some (old / 256) ≡ Some t = e in let q : old / 256 ≡ t = cc in sym q ∙ turn));
          has = λ _. (row', refl, refl, refl, gone);
        }) (λ j v other e. let f = h.each j v e in record { rows = f.rows; waits = λ t e. let u = f.waits t e in absurd (nothing_at h.queue u.1 u.0.number none_yet u.3); has = λ l. absurd (not_both (Some x) s.homes home (f.has l).4) });
        queued = λ i q e. let z = only_one i q r.number e in (w, row', ap (get_elem? (set s.views id w)) (ap h.place (sym z.1) ∙ k.here) ∙ set_here s.views id w (within s.views id me.0 at), ap (λ (y : ℕ). Some y) (turn ∙ ap (ticket_at (old + 1)) (sym z.0)), refl, z.1);
        absent = h.absent;
        home = inr (r.number, w, refl, ap (get_elem? (set s.views id w)) k.here ∙ set_here s.views id w (within s.views id me.0 at), refl);
      }

  pub tries : (tells : T → List E → Type 0) (told : (x : T) (h : List E) → stands x h → tells x h) (slots id old new : ℕ) (me : M) (r : Row E) → me.0.rows ≡ r ∷ [] → old % 256 ≡ 0 → new ≡ old + 1 → Allows Rule slots id me 0 (λ x. either (eqb x old) new x) (tried tells num (step slots 0 old new mo.none) me)
  tries tells told slots id old new me r one round up s h _ at small = let x : ℕ = get_or s.words 0 0 in let fl = found_lock s h in let st : List LockStep = me.0.steps ++ Exchange old x ∷ [] in dite (ℕ_discrete x old)
      (λ is. let lock_is : h.lock ≡ old = sym fl ∙ is in let tight : old < 2 ^ 64 = omega arith in let o = h.out in let none_yet : h.queue ≡ [] = empty_list h.queue (o ∙ (ap (λ (z : ℕ). z % 256) lock_is ∙ round)) in
      let k = own_row s h id me r one at in
      let a : AtHome stands num h.story s.homes = elim h.home [ inl b ↦ b | inr b ↦ absurd (nothing_at h.queue 0 b.0 none_yet b.2) ] in
      let w : V = view (row r.number h.story r.mine ∷ []) (Some (old / 256)) true st in (
        w,
        takes 0 (Some a.0),
        ap (λ (hs : List (mo.Option S)). get_elem? hs 0) a.1,
        subst (λ (b : ℕ). Rule (stepped s 0 b id me.1 w (takes 0 (Some a.0)))) (sym (ap (λ (b : Bool). either b new x) (eq-eqb x old is) ∙ up)) (try_hit s h id old me r st one at lock_is round tight a.0 a.1),
        (
          refl,
          refl,
          (λ _ r' one'. subst (λ (z : Row E). (x' : Kept T) × (h' : List E) × (w.rows ≡ row z.number h' z.mine ∷ []) × (w.ticket ≡ Some (x / 256)) × (w.has ≡ true) × ((0, Some a.0) ∷ me.1 ≡ (0, Some x') ∷ me.1) × Begins z.seen h' × (only num z.number h' ≡ z.mine) × tells x'.value.value h' × (x'.count ≡ length h'))
              (one_item me.0.rows r r' one one') (a.0, h.story, refl, ap (λ (z : ℕ). Some (z / 256)) (sym is), refl, refl, k.seen, k.mine, told a.0.value.value h.story a.3, a.2)),
          λ not. absurd (not is),
        ),
      ))
      (λ not. (
        view me.0.rows me.0.ticket me.0.has st,
        keeps,
        tt,
        subst (λ (b : ℕ). Rule (stepped s 0 b id me.1 (view me.0.rows me.0.ticket me.0.has st) keeps)) (sym (ap (λ (b : Bool). either b new x) (ne_eqb x old not))) (unmoved s h id me st at),
        (refl, refl, (λ is. absurd (not is)), λ _. (refl, refl, refl, refl)),
      ))

  pub adds : (slots id : ℕ) (me : M) (r : Row E) (e : E) (c : ℕ) → me.0.rows ≡ r ∷ [] → me.0.has ≡ true → num e ≡ r.number → c ≡ length r.seen + 1
      → Allows Rule slots id me 1 (λ _. c) (λ _. added (e ∷ []) (step slots 1 c 0 mo.none) me c)
  adds slots id me r e c one has right more s h _ at _ = let old = h.each id me.0 at in let o = old.has has in let k = own_row s h id me r one at in let rows0 : o.0 ≡ r = one_item me.0.rows o.0 r o.1 one in
      let whole : r.seen ≡ h.story = ap (λ (z : Row E). z.seen) (sym rows0) ∙ o.2 in
      let story : List E = h.story ++ e ∷ [] in let r' : Row E = row r.number (r.seen ++ e ∷ []) (r.mine ++ e ∷ []) in let w : V = view (r' ∷ []) me.0.ticket me.0.has me.0.steps in
      let long : c ≡ length story = more ∙ (ap (λ (l : List E). length l + 1) whole ∙ sym (length-append h.story (e ∷ []))) in
      let longer_seen : r.seen ++ e ∷ [] ≡ story = ap (λ (l : List E). l ++ e ∷ []) whole in
      let known : Knows stands num n story h.place id r' = record {
        seen = ([], sym longer_seen ∙ sym (append-nil (r.seen ++ e ∷ [])));
        mine = only-append num r.number h.story (e ∷ []) ∙ (λ i. k.mine i ++ only_same num r.number e right i);
        here = k.here;
        small = k.small;
      } in (
        w,
        keeps,
        tt,
        record {
          lock = h.lock;
          story = story;
          place = h.place;
          queue = h.queue;
          words = ap (λ (ws : List ℕ). set ws 1 c) h.words ∙ ap (λ (x : ℕ). h.lock ∷ x ∷ []) long;
          out = h.out;
          few = h.few;
          each = views_stay (Fits stands num n h.lock story h.place h.queue s.homes) s.views id w (record {
            rows = (known, tt);
            waits = λ t q. let u = old.waits t q in (r', u.1, refl, u.3 ∙ ap (λ (z : Row E). mo.some z.number) (one_item me.0.rows u.0 r u.2 one), u.4);
            has = λ _. (r', refl, longer_seen, o.3 ∙ ap (λ (z : Row E). mo.some z.number) rows0, o.4);
          })
              (λ j v other there. let f = h.each j v there in record {
                rows = all_to (Knows stands num n h.story h.place j) (Knows stands num n story h.place j) (λ z y. record {
                  seen = begins_more z.seen h.story (e ∷ []) y.seen;
                  mine = only-append num z.number h.story (e ∷ []) ∙ ((λ i. y.mine i ++ only_other num z.number e (λ is. other (sym y.here ∙ (ap h.place (sym is ∙ right) ∙ k.here))) i) ∙ append-nil z.mine);
                  here = y.here;
                  small = y.small;
                }) v.rows f.rows;
                waits = f.waits;
                has = λ l. let g = f.has l in let heads : g.0.number ≡ r.number = mo.some-injective g.0.number r.number (sym g.3 ∙ (o.3 ∙ ap (λ (z : Row E). mo.some z.number) rows0)) in
                    let kj = own_row s h j (v, []) g.0 g.1 there in absurd (other (sym kj.here ∙ (ap h.place heads ∙ k.here)));
              });
          queued = λ i q z. let t = h.queued i q z in dite (ℕ_discrete (h.place q) id)
              (λ is. let same = one_view s (h.place q) id t.0 me.0 is t.2 at in let rows = one_item me.0.rows t.1 r (ap (λ (v : V). v.rows) (sym same) ∙ t.4) one in
              (w, r', ap (get_elem? (set s.views id w)) is ∙ set_here s.views id w (within s.views id me.0 at), ap (λ (v : V). v.ticket) (sym same) ∙ t.3, refl, ap (λ (z : Row E). z.number) (sym rows) ∙ t.5))
              (λ other. (t.0, t.1, set_else s.views id (h.place q) w other ∙ t.2, t.3, t.4, t.5));
          absent = λ q big. only-append num q h.story (e ∷ []) ∙ (λ i. h.absent q big i ++ only_other num q e (λ is. let few : r.number < n = k.small in let same : r.number ≡ q = sym right ∙ is in omega arith) i);
          home = inr (r.number, w, o.3 ∙ ap (λ (z : Row E). mo.some z.number) rows0, ap (get_elem? (set s.views id w)) k.here ∙ set_here s.views id w (within s.views id me.0 at), has);
        },
        (refl, λ z is. ap (λ (q : Row E). (view (row q.number (q.seen ++ e ∷ []) (q.mine ++ e ∷ []) ∷ []) me.0.ticket me.0.has me.0.steps, me.1)) (one_item me.0.rows r z one is)),
      )

  nat_cases : (i : ℕ) → (i ≡ 0) ⊎ ((j : ℕ) × (i ≡ suc j))
  nat_cases zero = inl refl
  nat_cases (suc j) = inr (j, refl)

  tail : List ℕ → List ℕ
  tail [] = []
  tail (x ∷ xs) = xs

  tail_at : (l : List ℕ) (i q : ℕ) → get_elem? (tail l) i ≡ mo.some q → get_elem? l (suc i) ≡ mo.some q
  unfolding tail
  tail_at [] i q e = e
  tail_at (x ∷ xs) i q e = e

  at_tail : (l : List ℕ) (i q : ℕ) → get_elem? l (suc i) ≡ mo.some q → get_elem? (tail l) i ≡ mo.some q
  unfolding tail
  at_tail [] i q e = e
  at_tail (x ∷ xs) i q e = e

  tail_length : (l : List ℕ) (q : ℕ) → get_elem? l 0 ≡ mo.some q → length (tail l) + 1 ≡ length l
  unfolding tail
  tail_length [] q e = absurd (mo.some-ne-none q (sym e))
  tail_length (x ∷ xs) q e = omega arith

  -- a ticket of the queue that is not the first is one of the queue without its first
  later : (lock i : ℕ) → lock < 2 ^ 64 → 0 < lock % 256 → ticket_at lock (suc i) ≡ ticket_at ((lock + 255) % 2 ^ 64) i
  later lock i tight some_out = omega (arith, next_ticket (lock / 256) i, frees_serving lock tight some_out)

  pub frees : (slots id : ℕ) (me : M) (r : Row E) (x : Kept T) → me.0.rows ≡ r ∷ [] → me.0.has ≡ true → me.1 ≡ (0, Some x) ∷ [] → x.count ≡ length r.seen → stands x.value.value r.seen
      → Allows Rule slots id me 0 (λ z. (z + 255) % 2 ^ 64) (freed (step slots 0 255 0 mo.none) me)
  frees slots id me r x one has carried count right s h _ at small = let found : ℕ = get_or s.words 0 0 in let fl = found_lock s h in let tight : h.lock < 2 ^ 64 = omega arith in
      let old = h.each id me.0 at in let o = old.has has in let k = own_row s h id me r one at in let rows0 : o.0 ≡ r = one_item me.0.rows o.0 r o.1 one in
      let whole : r.seen ≡ h.story = ap (λ (z : Row E). z.seen) (sym rows0) ∙ o.2 in let first : get_elem? h.queue 0 ≡ mo.some r.number = o.3 ∙ ap (λ (z : Row E). mo.some z.number) rows0 in
      let lock : ℕ = (h.lock + 255) % 2 ^ 64 in let queue : List ℕ = tail h.queue in let l = tail_length h.queue r.number first in let out0 = h.out in
      let some_out : 0 < h.lock % 256 = omega arith in let out1 = frees_out h.lock tight some_out in
      let w : V = view me.0.rows None false (me.0.steps ++ Serve found ∷ []) in (
        w,
        gives,
        tt,
        record {
          lock = lock;
          story = h.story;
          place = h.place;
          queue = queue;
          words = ap (λ (ws : List ℕ). set ws 0 ((get_or ws 0 0 + 255) % 2 ^ 64)) h.words;
          out = omega arith;
          few = h.few;
          each = views_stay (Fits stands num n lock h.story h.place queue (put_back s.homes me.1)) s.views id w (record { rows = old.rows; waits = λ t e. absurd (cc); has = λ z. absurd (cc) })
              (λ j v other there. let f = h.each j v there in record {
                rows = f.rows;
                waits = λ t e. let u = f.waits t e in elim (nat_cases u.1) [
                  | inl z ↦ let heads : u.0.number ≡ r.number = mo.some-injective u.0.number r.number (sym u.3 ∙ (ap (get_elem? h.queue) z ∙ first)) in let kj = own_row s h j (v, []) u.0 u.2 there in absurd (other (sym kj.here ∙ (ap h.place heads ∙ k.here)))
                  | inr z ↦ (u.0, z.0, u.2, at_tail h.queue z.0 u.0.number (ap (get_elem? h.queue) (sym z.1) ∙ u.3), u.4 ∙ (ap (ticket_at h.lock) z.1 ∙ later h.lock z.0 tight some_out))
                ];
                has = λ y. let g = f.has y in let heads : g.0.number ≡ r.number = mo.some-injective g.0.number r.number (sym g.3 ∙ first) in let kj = own_row s h j (v, []) g.0 g.1 there in absurd (other (sym kj.here ∙ (ap h.place heads ∙ k.here)));
              });
          queued = λ i q e. let e' = tail_at h.queue i q e in let t = h.queued (suc i) q e' in (
            t.0,
            t.1,
            set_else s.views id (h.place q) w (λ is. let same = one_view s (h.place q) id t.0 me.0 is t.2 at in let rows = one_item me.0.rows t.1 r (ap (λ (v : V). v.rows) (sym same) ∙ t.4) one in
                let q_is : q ≡ r.number = sym t.5 ∙ ap (λ (z : Row E). z.number) rows in queue_once s h 0 (suc i) q (omega arith) (in_queue s h (suc i) q e') (first ∙ ap (λ (z : ℕ). mo.some z) (sym q_is)) e') ∙ t.2,
            t.3 ∙ ap (λ (z : ℕ). Some z) (later h.lock i tight some_out),
            t.4,
            t.5,
          );
          absent = h.absent;
          home = inl (x, (λ i. put_back (o.4 i) (carried i)), count ∙ ap (λ (l : List E). length l) whole, subst (stands x.value.value) whole right);
        },
        (refl, λ i. (w, rest (carried i))),
      )

  -- a seat that has the value has a ticket, so it is no seat without one
  away_else : (s : St) (h : Rule s) (id : ℕ) (v : V) → get_elem? s.views id ≡ mo.some v → v.ticket ≡ None → (a : Away stands num h.place h.queue s.views) → h.place a.0 ≢ id
  away_else s h id v at idle a = idle_else s h id v at idle 0 a.0 a.2

  module _ (s : St) (h : Rule s) (id k m : ℕ) (at : get_elem? s.views id ≡ mo.some (dealer k (suc m))) where
    abbrev dealt_place : ℕ → ℕ
    dealt_place q = cond (eqb q k) (length s.views) (h.place q)

    unmoved_place : (q : ℕ) → q ≢ k → dealt_place q ≡ h.place q
    unmoved_place q other = ap (λ (b : Bool). cond b (length s.views) (h.place q)) (ne_eqb q k other)

    elsewhere : (j : ℕ) (z : Row E) → Knows stands num n h.story h.place j z → z.number ≢ k → Knows stands num n h.story dealt_place j z
    elsewhere j z y other = record { seen = y.seen; mine = y.mine; here = unmoved_place z.number other ∙ y.here; small = y.small }

    still_fresh : (a c : ℕ) → k < a → Each (Knows stands num n h.story h.place id) (fresh a c) → Each (Knows stands num n h.story dealt_place id) (fresh a c)
    still_fresh a zero above e = tt
    still_fresh a (suc c) above e = (elsewhere id (row a [] []) e.0 (λ is. omega arith), still_fresh (a + 1) c (omega arith) e.1)

    deal_one : Rule record { words = s.words; homes = s.homes; views = set s.views id (dealer (k + 1) m) ++ view (row k [] [] ∷ []) None false [] ∷ [] }
    deal_one = let old = h.each id (dealer k (suc m)) at in let first : Knows stands num n h.story h.place id (row k [] []) = old.rows.0 in let left : V = dealer (k + 1) m in let right : V = view (row k [] [] ∷ []) None false [] in
        let K : ℕ → V → Type 0 = Fits stands num n h.lock h.story dealt_place h.queue s.homes in
        let long : length (set s.views id left) ≡ length s.views = length-set s.views id left in
        let others : (j : ℕ) (v : V) → get_elem? (set s.views id left) j ≡ mo.some v → K j v = views_stay K s.views id left (record { rows = still_fresh (k + 1) m (omega arith) old.rows.1; waits = λ t e. absurd (cc); has = λ l. absurd (cc) })
        (λ j v other e. let f = h.each j v e in record {
          rows = all_to (Knows stands num n h.story h.place j) (Knows stands num n h.story dealt_place j) (λ z y. elsewhere j z y (λ is. other (sym y.here ∙ (ap h.place is ∙ first.here)))) v.rows f.rows;
          waits = f.waits;
          has = f.has;
        }) in
        let last : K (length s.views) right = record {
          rows = (record { seen = first.seen; mine = first.mine; here = ap (λ (b : Bool). cond b (length s.views) (h.place k)) (eq-eqb k k refl); small = first.small }, tt);
          waits = λ t e. absurd (cc);
          has = λ l. absurd (cc);
        } in
        let stays : (q : ℕ) (v : V) → h.place q ≢ id → q ≢ k → get_elem? s.views (h.place q) ≡ mo.some v → get_elem? (set s.views id left ++ right ∷ []) (dealt_place q) ≡ mo.some v
        = λ q v other apart_k e. ap (get_elem? (set s.views id left ++ right ∷ [])) (unmoved_place q apart_k) ∙ at_longer (set s.views id left) (right ∷ []) (h.place q) v (set_else s.views id (h.place q) left other ∙ e) in
        let not_k : (i q : ℕ) → get_elem? h.queue i ≡ mo.some q → q ≢ k = λ i q e is. idle_else s h id (dealer k (suc m)) at refl i q e (ap h.place is ∙ first.here) in record {
          lock = h.lock;
          story = h.story;
          place = dealt_place;
          queue = h.queue;
          words = h.words;
          out = h.out;
          few = h.few;
          each = λ j v e. ⊎_elim (λ (t : (j < length (set s.views id left)) × (get_elem? (set s.views id left) j ≡ mo.some v)). others j v t.1)
              (λ (t : (j ≡ length (set s.views id left)) × (right ≡ v)). subst (λ (x : ℕ × V). K x.0 x.1) (λ i. (sym (t.0 ∙ long) i, t.1 i)) last) (at_end (set s.views id left) right v j e);
          queued = λ i q e. let t = h.queued i q e in (t.0, t.1, stays q t.0 (idle_else s h id (dealer k (suc m)) at refl i q e) (not_k i q e) t.2, t.3, t.4, t.5);
          absent = h.absent;
          home = elim h.home [ inl a ↦ inl a | inr a ↦ inr (a.0, a.1, a.2, stays a.0 a.1 (idle_else s h id (dealer k (suc m)) at refl 0 a.0 a.2) (not_k 0 a.0 a.2) a.3, a.4) ];
        }

  pub deals : (id k m : ℕ) → Splits Rule id (dealer k (suc m)) (dealt (dealer k (suc m))) (dealt_one (dealer k (suc m)))
  deals id k m s h at = deal_one s h id k m at

  module _ (s : St) (h : Rule s) (id other : ℕ) where
    abbrev joined_place : ℕ → ℕ
    joined_place q = cond (eqb (h.place q) other) id (h.place q)

    place_stays : (q : ℕ) → h.place q ≢ other → joined_place q ≡ h.place q
    place_stays q away = ap (λ (b : Bool). cond b id (h.place q)) (ne_eqb (h.place q) other away)

    stays_put : (j : ℕ) (z : Row E) → Knows stands num n h.story h.place j z → j ≢ other → Knows stands num n h.story joined_place j z
    stays_put j z y un = record { seen = y.seen; mine = y.mine; here = place_stays z.number (λ is. un (sym y.here ∙ is)) ∙ y.here; small = y.small }

    moves_over : (z : Row E) → Knows stands num n h.story h.place other z → Knows stands num n h.story joined_place id z
    moves_over z y = record { seen = y.seen; mine = y.mine; here = ap (λ (b : Bool). cond b id (h.place z.number)) (eq-eqb (h.place z.number) other y.here); small = y.small }

  pub joins : (id : ℕ) (v : V) (other : ℕ) (w : V) → v.ticket ≡ None → w.ticket ≡ None → Joins Rule id v other w (joined v w) spent
  joins id v other w idle_v idle_w s h at apart there' = let both : V = joined v w in
      let there : get_elem? s.views other ≡ mo.some w = sym (set_else s.views id other both apart) ∙ there' in
      let K : ℕ → V → Type 0 = Fits stands num n h.lock h.story (joined_place s h id other) h.queue s.homes in
      let kn = λ (j : ℕ). Knows stands num n h.story h.place j in let kn' = λ (j : ℕ). Knows stands num n h.story (joined_place s h id other) j in
      let a = h.each id v at in let b = h.each other w there in
      let inner : (j : ℕ) (z : V) → get_elem? (set s.views id both) j ≡ mo.some z → j ≢ other → K j z = views_stay (λ j z. j ≢ other → K j z) s.views id both
      (λ un. record {
        rows = all_joined (kn' id) w.rows v.rows (all_to (kn other) (kn' id) (moves_over s h id other) w.rows b.rows) (all_to (kn id) (kn' id) (λ z y. stays_put s h id other id z y un) v.rows a.rows);
        waits = λ t e. absurd (cc);
        has = λ l. absurd (cc);
      })
      (λ j z _ e un. let f = h.each j z e in record { rows = all_to (kn j) (kn' j) (λ q y. stays_put s h id other j q y un) z.rows f.rows; waits = f.waits; has = f.has }) in
      let stays : (i q : ℕ) (z : V) → get_elem? h.queue i ≡ mo.some q → get_elem? s.views (h.place q) ≡ mo.some z → get_elem? (set (set s.views id both) other spent) (joined_place s h id other q) ≡ mo.some z
      = λ i q z e f. let n1 = idle_else s h id v at idle_v i q e in let n2 = idle_else s h other w there idle_w i q e in
      ap (get_elem? (set (set s.views id both) other spent)) (place_stays s h id other q n2) ∙ (set_else (set s.views id both) other (h.place q) spent n2 ∙ (set_else s.views id (h.place q) both n1 ∙ f)) in record {
        lock = h.lock;
        story = h.story;
        place = joined_place s h id other;
        queue = h.queue;
        words = h.words;
        out = h.out;
        few = h.few;
        each = views_stay K (set s.views id both) other spent (record { rows = tt; waits = λ t e. absurd (cc); has = λ l. absurd (cc) }) (λ j z un e. inner j z e un);
        queued = λ i q e. let t = h.queued i q e in (t.0, t.1, stays i q t.0 e t.2, t.3, t.4, t.5);
        absent = h.absent;
        home = elim h.home [ inl c ↦ inl c | inr c ↦ inr (c.0, c.1, c.2, stays 0 c.0 c.1 c.2 c.3, c.4) ];
      }

  fresh_known : (k m : ℕ) → k + m ≤ n → Each (Knows stands num n [] (λ _. 0) 0) (fresh k m)
  fresh_known k zero within_n = tt
  fresh_known k (suc m) within_n = (record { seen = begins_itself []; mine = refl; here = refl; small = omega arith }, fresh_known (k + 1) m (omega arith))

  only_first : (v w : V) (j : ℕ) → get_elem? (v ∷ []) j ≡ mo.some w → (j ≡ 0) × (v ≡ w)
  only_first v w zero e = (refl, mo.some-injective v w e)
  only_first v w (suc j) e = absurd (mo.some-ne-none w (sym e))

  pub starts : (x : Kept T) → n ≤ 64 → x.count ≡ 0 → stands x.value.value [] → Rule (opening (0 ∷ 0 ∷ []) (Some x ∷ []) (dealer 0 n))
  starts x few none_yet right = record {
    lock = 0;
    story = [];
    place = λ _. 0;
    queue = [];
    words = refl;
    out = refl;
    few = few;
    each = λ j v e. let f = only_first (dealer 0 n) v j e in
        subst (λ (z : ℕ × V). Fits stands num n 0 [] (λ _. 0) [] (mo.some (Some x) ∷ []) z.0 z.1) (λ i. (sym f.0 i, f.1 i)) (record { rows = fresh_known 0 n (omega arith); waits = λ t e. absurd (cc); has = λ l. absurd (cc) });
    queued = λ i q e. absurd (nothing_at [] i q refl e);
    absent = λ q _. refl;
    home = inl (x, refl, none_yet, right);
  }

  -- where no ticket is out nobody is in the queue, so nobody has the value
  pub whole_of_free : (s : St) → Rule s → get_or s.words 0 0 % 256 ≡ 0 → HasWhole stands num s
  whole_of_free s h free = let none_yet : h.queue ≡ [] = empty_list h.queue (h.out ∙ (ap (λ (z : ℕ). z % 256) (sym (found_lock s h)) ∙ free)) in record {
    story = h.story;
    value = elim h.home [ inl a ↦ a | inr a ↦ absurd (nothing_at h.queue 0 a.0 none_yet a.2) ];
    count = ap (λ (ws : List ℕ). get_or ws 1 0) h.words;
    seats = λ j v at. all_to (Knows stands num n h.story h.place j) (λ (r : Row E). Begins r.seen h.story × (only num r.number h.story ≡ r.mine)) (λ z y. (y.seen, y.mine)) v.rows (h.each j v at).rows;
  }

  -- no seat of the gate but this one has a number, so none has the value
  pub finishes : (id : ℕ) (v : V) (words : List ℕ) (slots : List S) → v.ticket ≡ None → ((q : ℕ) → q < n → Has (λ (r : Row E). r.number ≡ q) v.rows) → Final (Seen Rule id v) words slots
      → (x : Kept T) × (h : List E) × (get_elem? slots 0 ≡ mo.some (Some x)) × stands x.value.value h × Each (λ (r : Row E). Begins r.seen h × (only num r.number h ≡ r.mine)) v.rows × ((q : ℕ) → n ≤ q → only num q h ≡ [])
  finishes id v words slots idle all f = let s = f.0 in let h : Rule s = f.1.0 in let at = f.1.1 in let fit = h.each id v at in
      let told : Each (λ (r : Row E). Begins r.seen h.story × (only num r.number h.story ≡ r.mine)) v.rows = all_to (Knows stands num n h.story h.place id) (λ (r : Row E). Begins r.seen h.story × (only num r.number h.story ≡ r.mine)) (λ z y. (y.seen, y.mine)) v.rows fit.rows in
      let a : AtHome stands num h.story s.homes = elim h.home [
        | inl b ↦ b
        | inr b ↦ let here : h.place b.0 ≡ id = has_each (Row E) (Knows stands num n h.story h.place id) (λ (z : Row E). z.number ≡ b.0) (h.place b.0 ≡ id) (λ z y is. ap h.place (sym is) ∙ y.here) v.rows fit.rows (all b.0 (queue_small s h 0 b.0 b.2)) in
            absurd (idle_else s h id v at idle 0 b.0 b.2 here)
      ] in
      (a.0, h.story, f.4 0 (Some a.0) (ap (λ (hs : List (mo.Option S)). get_elem? hs 0) a.1), a.3, told, h.absent)
