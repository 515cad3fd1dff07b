-- New squeues, their passes, and what a ring with a new pass may bring.
use Rattle.std.proofs.Common.{◌≡◌, ℕ, zero, suc, ◌+◌, ◌*◌, ◌<◌, ◌≤◌, ◌%◌, true, false, Some, List, [], ◌∷◌, ◌++◌, length, map, replicate, get_or, slice_index, slice_index_or, is_some, ◌==◌, refl, sym, ap, ◌∙◌, subst, arith}
use Rattle.std.specs.Prelude.{All, nat_lt}
use Rattle.std.proofs.Math.Nat.{mod-eq_of_lt}
use Rattle.std.proofs.lemmas.List.{get_or-map, get_or-replicate, length-replicate}
use Rattle.std.proofs.lemmas.List.Elements.{All-get_or}
use Rattle.std.proofs.lemmas.Bool.Decides.{nat_tests}
use Rattle.turn_gate.specs.Passes.{IsPassOf, AreFresh, number, seen}
use Rattle.turn_gate.specs.declared.pass.Pass.{Pass}
use Rattle.atomic_table.specs.Seated.{TableId}
use Rattle.perimeter_core.specs.declared.entries.Act.{Act}
use Rattle.perimeter_core.specs.declared.entries.Feed.{Feed}
use Rattle.perimeter_core.specs.Perimeter.{State, Idle, is_here}
use Rattle.perimeter_core.specs.History.{Element, Setting, Limits, start, run, feed_quota, feed_quotas}
use Rattle.perimeter_core.specs.Deeds.{entries, due}
use Rattle.perimeter_core.specs.Legal.{Enters, one_more, feeds_by}
use Rattle.placed_parts.specs.Placing.{Stands, limits_of, size_of}
use Rattle.placed_parts.specs.Standing.{all_new}
use Rattle.placed_parts.specs.declared.parts.Parts.{Ghosts}
use Rattle.placed_parts.specs.declared.places.Places.{Places}
use Rattle.squeue_state.specs.declared.guarded.Life.{Life}
use Rattle.histories.specs.declared.quota.Quota.{Quota}
use Rattle.squeue_state.specs.AllRoom.{HasAllRoom}
use Rattle.squeue_state.specs.Naming.{Given, Named, setting_of}
use Rattle.histories.specs.Elements.{number_of}
use Rattle.perimeter_core.specs.Blocks.{Blocks}
use Rattle.squeue_state.specs.Behind.{ever, room_of}
use Rattle.histories.specs.Quotas.{pairs}
use Rattle.squeue_state.specs.Clauses.{IsMade}
use Rattle.histories.specs.Quotas.{ask_quotas}
use Rattle.squeue_bench.specs.Rows.{IsRow}
use Rattle.squeue_bench.specs.Places.{MayBring}
use Rattle.squeue_bench.specs.Runs.{IsNewPass, Suits}
use Rattle.squeue_serve.proofs.Unused.{start_idle}
use Rattle.key_counters.proofs.Totals.{none_yet}

one_more_is : (c n : ℕ) (next : ℕ → ℕ) → next c ≡ n → one_more c next c ≡ n + 1
one_more_is c n next h = let e : (c == c) ≡ true = grind (arith, nat_tests) in rw e (ap (λ (x : ℕ). x + 1) h)

-- the feeds of one connection from n on, one after another
row_enters : (S : Setting) (s : State) (c n : ℕ) (next : ℕ → ℕ) (es : List Feed) → c ≡ c % S.rings → is_here s c ≡ true → next c ≡ n → n + length es ≤ slice_index S.limits.feeds c
    → ((i : ℕ) (d : Feed) → i < length es → slice_index_or es i d ≡ record { c = c; n = n + i }) → Enters S s c next (entries es)
row_enters S s c n next [] ring here due_is most is = tt
row_enters S s c n next (f ∷ fs) ring here due_is most is =
    let first : f ≡ record { c = c; n = n + 0 } = is 0 f (omega arith) in
    let number : f.n ≡ n = ap (λ (g : Feed). g.n) first ∙ omega arith in
    subst (λ (k : ℕ). (c ≡ k % S.rings) × (is_here s k ≡ true) × (f.n ≡ next k) × (f.n < slice_index S.limits.feeds k) × Enters S s c (one_more k next) (entries fs)) (sym (ap (λ (g : Feed). g.c) first)) (
      ring,
      here,
      number ∙ sym due_is,
      (let most' : n + length (f ∷ fs) ≤ slice_index S.limits.feeds c = most in omega (arith, most', number)),
      row_enters S s c (n + 1) (one_more c next) fs ring here (one_more_is c n next due_is) (omega (arith, most))
          (λ i d l. is (suc i) d (omega (arith, l)) ∙ ap (λ (k : ℕ). record { c = c; n = k }) (omega arith)),
    )

pub new_may : {R : Type 0} (limits : R → Limits) (bound items : ℕ) (s : Named R) (k : ℕ) (p : Pass Element) (feeds : List Feed) → Suits limits bound items s → IsNewPass k s p → k < length s.given.quotas → IsRow k items feeds → MayBring limits bound k feeds s (Some p)
new_may {R} limits bound items s k p feeds suits new l row =
    let S : Setting = setting_of limits s.given in
    let none : feeds_by (number p) (seen p) ≡ 0 = ap (feeds_by (number p)) new.nothing_seen in
    let ring : k ≡ k % S.rings = sym (mod-eq_of_lt (omega (arith, l, suits.its_rings))) in
    let row_may : Enters S (start S) k (due []) (entries feeds) = row_enters S (start S) k 0 (due []) feeds ring (suits.here k l) refl (omega (arith, row.0, suits.limit k l)) (λ i d m. row.1 i d (omega (arith, m, row.0)) ∙ ap (λ (n : ℕ). record { c = k; n = n }) (omega arith)) in
    let quota : feed_quota S (number p) ≡ items = ap (feed_quota S) new.its_number ∙ suits.quota k l in (
      record {
        pass = new.is_pass;
        no_worker = omega (arith, l, new.its_number);
        idle = subst (λ (H : List Element). Idle (run S H) (number p)) (sym new.nothing_seen) (start_idle S (number p));
        enters = subst (λ (H : List Element). Enters S (run S H) (number p) (due H) (entries feeds)) (sym new.nothing_seen) (subst (λ (n : ℕ). Enters S (start S) n (due []) (entries feeds)) (sym new.its_number) row_may);
        quota = omega (arith, none, quota, row.0);
      },
      new.its_number,
      suits.room,
    )

module _ (id : TableId) where
  -- the last of new passes, and those before it
  pub last_new : (k : ℕ) (ps : List (Pass Element)) (p : Pass Element) → AreFresh number_of id k (ps ++ p ∷ []) → AreFresh number_of id k ps × IsPassOf number_of id p × (number p ≡ k + length ps) × (seen p ≡ [])
  last_new k [] p f = (tt, f.0.0, (let e : number p ≡ k = f.0.1 in omega arith), f.0.2)
  last_new k (x ∷ xs) p f = let t = last_new (k + 1) xs p f.1 in ((f.0, t.0), t.1, (let e : number p ≡ (k + 1) + length xs = t.2 in omega arith), t.3)

abbrev pub quota_of : ℕ → Quota
quota_of items = record { feeds = items; asks = 0 }

abbrev pub life_of : ℕ → Life
life_of items = record { feeds = items; asks = 0 }

pub pairs_are : (n items : ℕ) → pairs (replicate n (quota_of items)) ≡ replicate n (items, 0)
pairs_are zero items = refl
pairs_are (suc n) items = ap (λ (qs : List (ℕ × ℕ)). (items, 0) ∷ qs) (pairs_are n items)

pub ever_are : (n items : ℕ) → ever (replicate n (life_of items)) ≡ replicate n (items, 0)
ever_are zero items = refl
ever_are (suc n) items = ap (λ (qs : List (ℕ × ℕ)). (items, 0) ∷ qs) (ever_are n items)

pub feeds_sum : (n items : ℕ) → feed_quotas (replicate n (items, 0)) ≡ n * items
feeds_sum zero items = omega arith
feeds_sum (suc n) items = let r = feeds_sum n items in let m : suc n * items ≡ items + n * items = grind arith in omega (arith, r, m)

pub asks_sum : (n items : ℕ) → ask_quotas (replicate n (items, 0)) ≡ 0
asks_sum zero items = refl
asks_sum (suc n) items = omega (arith, asks_sum n items)

pub none_had : (n c : ℕ) (had : List Act) → all_new n c ≡ Some had → had ≡ []
none_had n c had h = none_yet (nat_lt c n) had h

here_at : (k n : ℕ) → k < n → is_some (all_new n k) ≡ true
here_at k n l = let e : nat_lt k n ≡ true = grind (arith, nat_tests) in rw e refl

pub new_suits : {S P O : Type 0} {G : Ghosts S P O} (bound number rings room items n : ℕ) (quotas : List (ℕ × ℕ)) (rows : List (List ℕ)) (first : Places S P O G) (s : Named (Places S P O G)) → IsMade Stands size_of number rings quotas false room first s.given → rings ≡ n
    → quotas ≡ replicate n (items, 0) → length rows ≡ n → All (λ row. length row ≡ items) rows → Stands first (all_new n) → (limits_of first).feeds ≡ map length rows → (bound ≡ 0 → HasAllRoom s.given)
    → Suits limits_of bound items s × (length s.given.quotas ≡ n)
new_suits bound number rings room items n quotas rows first s m count_is same long all stands is fits =
    let paired : s.given.quotas ≡ replicate n (items, 0) = m.its_quotas ∙ same in
    let count : length s.given.quotas ≡ n = ap (λ (qs : List (ℕ × ℕ)). length qs) paired ∙ length-replicate n (items, 0) in (
      record {
        its_rings = m.its_rings ∙ (count_is ∙ sym count);
        room = fits;
        here = λ k l. m.its_blocks (all_new n) k stands ∙ here_at k n (omega (arith, l, count));
        quota = λ k l.
            let below : k < n = omega (arith, l, count) in
            ap (λ (qs : List (ℕ × ℕ)). (get_or qs k (0, 0)).0) paired ∙ ap (λ (x : ℕ × ℕ). x.0) (get_or-replicate n k (items, 0) (0, 0) below);
        limit = λ k l.
            let below : k < length rows = omega (arith, l, count, long) in
            ap (λ r. slice_index (limits_of r).feeds k) m.its_first
            ∙ (ap (λ (ns : List ℕ). slice_index ns k) is
            ∙ (get_or-map length rows k [] 0 below ∙ All-get_or (λ (row : List ℕ). length row ≡ items) rows k [] below all));
      },
      count,
    )

-- a squeue made for these quotas has room for all
pub made_whole : {R : Type 0} (stands : R → Blocks → Type 0) (size : R → ℕ) (number rings : ℕ) (quotas : List (ℕ × ℕ)) (first : R) (g : Given R) → IsMade stands size number rings quotas false (room_of quotas) first g → HasAllRoom g
made_whole stands size number rings quotas first g m = omega (arith, m.its_room, ap room_of m.its_quotas)
