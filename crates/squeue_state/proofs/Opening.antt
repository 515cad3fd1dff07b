-- What lies behind the gate of a new squeue stands for the empty history.
use mathlib.Core.Path.{fun_ext}
use Rattle.std.proofs.Common.{◌≡◌, ◌+◌, ◌*◌, ◌<◌, ◌≤◌, if◌then◌else◌, ℕ, Bool, true, false, Option, Some, None, List, [], length, map, get_or, ap, sym, ◌∙◌, subst, refl, arith}
use Rattle.std.specs.Prelude.{replicate, is_some, vec_capacity}
use Rattle.perimeter_core.specs.declared.resident.Resident.{Ghosts}
use Rattle.perimeter_core.specs.declared.entries.Act.{Act}
use Rattle.perimeter_core.specs.declared.marks.Own.TheVariants.{Free}
use Rattle.perimeter_core.specs.History.{Limits, all_quotas, feed_quotas}
use Rattle.perimeter_core.specs.Blocks.{Blocks, peri}
use Rattle.squeue_state.specs.Told.{Traced, mark_of}
use Rattle.squeue_state.specs.declared.inner.Inner.{Inner}
use Rattle.histories.specs.Limits.{most_entries, most_ever, most_room, most_passes, most_quotas}
use Rattle.squeue_state.specs.Naming.{Given, setting_of}
use Rattle.squeue_state.specs.Behind.{Behind, Noted, HasEmpty}
use Rattle.squeue_state.specs.Clauses.{StandsEmpty}
use Rattle.histories.specs.Quotas.{ask_quotas}
use Rattle.histories.proofs.Counts.{all_both}

new_at : (b : Bool) (o : Option (List Act)) → b ≡ is_some o → ((had : List Act) → o ≡ Some had → had ≡ []) → (if b then Some [] else None) ≡ o
new_at true None is empty = cc is
new_at true (Some had) is empty = ap (λ (xs : List Act). Some xs) (sym (empty had refl))
new_at false None is empty = refl
new_at false (Some had) is empty = cc is

-- the blocks of a resident that is as new
new_blocks : {R : Type 0} (limits : R → Limits) (g : Given R) (blocks : Blocks) → ((c : ℕ) → get_or g.starts c false ≡ is_some (blocks c)) → ((c : ℕ) (had : List Act) → blocks c ≡ Some had → had ≡ []) → blocks ≡ peri (setting_of limits g) []
new_blocks limits g blocks here empty = fun_ext (λ c. sym (new_at (get_or g.starts c false) (blocks c) (here c) (empty c)))

both_none : {A : Type 0} (b : Bool) (xs : List A) → (if b then xs else xs) ≡ xs
both_none true xs = refl
both_none false xs = refl

module _ {R P O : Type 0} (G : Ghosts R P O) where
  pub opens : (g : Given R) (i : Inner R) (r : R) (qs : List (ℕ × ℕ)) → g.quotas ≡ qs → g.first ≡ r → length g.starts ≡ G.size r → ((blocks : Blocks) (c : ℕ) → G.stands r blocks → get_or g.starts c false ≡ is_some (blocks c))
      → StandsEmpty (G.stands r) → length qs ≤ most_quotas → feed_quotas qs ≤ most_ever → ask_quotas qs ≤ most_ever
      → (room : ℕ) → g.room ≡ room → length qs ≤ room → room ≤ most_room
      → i.own ≡ Free → i.chain.items ≡ [] → i.wake ≡ false → i.polling ≡ false → i.here.items ≡ g.starts → i.closed.items ≡ replicate (length qs + 1) false → i.resident ≡ Some r → HasEmpty room i.spare → room ≡ vec_capacity i.chain → i.in_hand ≡ 0
      → Behind G g i []
  opens g i r qs is first conns here new few feeds asks room its least most own chain wake polling flags closed resident spare full out =
      let same = new_blocks G.limits g new.0 (λ c. here new.0 c new.1) new.2 in
      record {
        legal = tt;
        own = own;
        chain = chain;
        wake = wake;
        polling = polling;
        here = flags;
        closed = closed ∙ ap (λ (q : List (ℕ × ℕ)). replicate (length q + 1) false) (sym is);
        resident = rw (own, resident) (record { stands_for = subst (G.stands r) same new.1; same_limits = ap G.limits (sym first); same_size = sym conns; same_origin = ap G.origin (sym first) });
        spare = rw own (subst (λ (n : ℕ). HasEmpty n i.spare) (sym its) spare);
        room = its ∙ full;
        out = out;
        fits = omega (arith, its, least, ap length is);
        short = omega arith;
        few = subst (λ (q : List (ℕ × ℕ)). (all_quotas q ≤ most_entries) × (length q < most_passes) × (g.room ≤ most_room)) (sym is) (let both = all_both qs in omega (arith, both, feeds, asks), omega (arith, few), omega (arith, its, most));
      }

pub notes_none : {R : Type 0} (g : Given R) (kept : Bool) (t : Traced) (qs : List (ℕ × ℕ)) → g.quotas ≡ qs → g.traced ≡ kept → t.marks ≡ [] → t.entries ≡ []
    → t.mark_room ≡ (if kept then 8 * all_quotas qs + 4 * (length qs + 1) else 0) → t.entry_room ≡ (if kept then all_quotas qs else 0) → Noted g kept t []
notes_none g kept t qs is on marks entries mark_room entry_room =
    record {
      same = sym on;
      marks = ap (map (mark_of t.entries)) marks ∙ sym (both_none kept []);
      entries = omega (arith, ap length entries);
      mark_room = subst (λ (q : List (ℕ × ℕ)). t.mark_room ≡ (if kept then 8 * all_quotas q + 4 * (length q + 1) else 0)) (sym is) mark_room;
      entry_room = subst (λ (q : List (ℕ × ℕ)). t.entry_room ≡ (if kept then all_quotas q else 0)) (sym is) entry_room;
    }
