-- Tasks of rings, and what is left of their streams.
use Rattle.std.proofs.Common.{◌≡◌, ℕ, zero, suc, ◌+◌, ◌<◌, ◌≤◌, inl, inr, Some, List, [], ◌∷◌, ◌++◌, length, map, slice_get, refl, ap, sym, ◌∙◌, subst, arith, length-append, append-nil}
use Rattle.std.specs.Prelude.{reverse}
use Rattle.std.proofs.lemmas.List.{length-map, reverse-append}
use Rattle.std.proofs.lemmas.Option.{slice_get_within}
use Rattle.squeue_streams.specs.declared.streams.Stream.{Stream}
use Rattle.live_chats.specs.Hearing.{ChatOf}
use Rattle.live_chats.specs.declared.item.ChatItem.{ChatItem}
use Rattle.live_rings.specs.declared.ending.EndedRing.{EndedRing}
use Rattle.live_rings.specs.declared.ending.Ends.{Ends}
use Rattle.live_rings.specs.declared.ring.RingThread.{RingThread}
use Rattle.live_rings.specs.declared.ring.ServerTask.{ServerTask}
use Rattle.live_rings.specs.declared.ring.ServerTask.TheVariants as Task'
use Rattle.ring_groups.specs.Groups.{AllBecameFrom}
use Rattle.live_rings.specs.Seating.{AreNewStays, numbers_of}
use Rattle.live_rings.specs.Tasks.{AreNewRings, AreNewTasks, HasDone, IsNewTask, ended_of, tasks_for}
use Rattle.live_rings.proofs.Seated.{get_more}

-- a list of no length has nothing
pub none_long : {A : Type 0} (xs : List A) → length xs ≡ 0 → xs ≡ []
none_long [] n = refl
none_long (x ∷ xs) n = absurd (omega (arith, n))

module _ {S K : Type 0} where
  pub as_many : (places : ℕ) (parts : List (Stream ChatItem ChatOf)) (es : List (Ends S K)) (rs : List (RingThread S K)) → AreNewRings places parts es rs → length rs ≡ length es
  as_many places parts es rs are = sym (length-map rs (λ (r : RingThread S K). r.ends)) ∙ ap length are.ends_are

  serve_got : (rs : List (RingThread S K)) (k : ℕ) (t : ServerTask S K) → slice_get (map (λ r. Task'.Serve r) rs) k ≡ Some t → (r : RingThread S K) × (slice_get rs k ≡ Some r) × (Task'.Serve r ≡ t)
  serve_got [] k t is = cc is
  serve_got (r ∷ rs) zero t is = let same : Task'.Serve r ≡ t = cc is in (r, refl, same)
  serve_got (r ∷ rs) (suc k) t is = serve_got rs k t is

  -- the rings have their tasks
  pub are_tasks : (n places : ℕ) (parts : List (Stream ChatItem ChatOf)) (es : List (Ends S K)) (rs : List (RingThread S K)) → n ≡ length es → AreNewRings places parts es rs → AreNewTasks n places parts (tasks_for rs)
  are_tasks n places parts es rs counted are =
      let front : List (ServerTask S K) = map (λ r. Task'.Serve r) rs in
      let many : length front ≡ n = length-map rs (λ (r : RingThread S K). Task'.Serve r) ∙ (as_many places parts es rs are ∙ sym counted) in
      record {
        count = omega (arith, length-append front (Task'.Work ∷ []), many);
        each = λ c t at. elim (get_more front Task'.Work t c at) [
          | inl there ↦
              let r = serve_got rs c t there in
              let within : c < n = omega (arith, slice_get_within front c t there, many) in
              let own = are.each c r.0 r.1 in
              subst (IsNewTask n places parts c) r.2 (within, subst (λ (m : ℕ). AreNewStays m c parts r.0.stays × (r.0.free.items ≡ numbers_of m c places)) (sym counted) own)
          | inr last ↦ subst (IsNewTask n places parts c) last.1 (last.0 ∙ many)
        ];
      }

  pub one_at_most : (t : ServerTask S K) → length (ended_of (t ∷ [])) ≤ 1
  one_at_most (Task'.Serve ring) = omega arith
  one_at_most (Task'.Served ended) = omega arith
  one_at_most Task'.Work = omega arith

  -- what is left of one task more
  pub ended_left : (t : ServerTask S K) (ts : List (ServerTask S K)) (old new : List (EndedRing S K)) → new ≡ old ++ ended_of (t ∷ []) → ended_of ts ≡ reverse old → ended_of (t ∷ ts) ≡ reverse new
  ended_left (Task'.Serve ring) ts old new is left = left ∙ ap reverse (sym (append-nil old) ∙ sym is)
  ended_left (Task'.Served ended) ts old new is left = ap (λ (l : List (EndedRing S K)). ended ∷ l) left ∙ (sym (reverse-append old (ended ∷ [])) ∙ ap reverse (sym is))
  ended_left Task'.Work ts old new is left = left ∙ ap reverse (sym (append-nil old) ∙ sym is)

  module _ (P : Ends S K → EndedRing S K → Type 0) where
    abbrev pub DidEach : List (ServerTask S K) → List (ServerTask S K) → Type 0
    DidEach olds news = (k : ℕ) (t u : ServerTask S K) → slice_get olds k ≡ Some t → slice_get news k ≡ Some u → HasDone P t u

module _ {S K : Type 0} (P : Ends S K → EndedRing S K → Type 0) (Q : ℕ → Ends S K → EndedRing S K → Type 0) where
  -- when all are done this is left of each stream, by number
  pub all_ended_from : (rs : List (RingThread S K)) (news : List (ServerTask S K)) (m : ℕ) → length news ≡ length (tasks_for rs) → DidEach P (tasks_for rs) news
      → ((k : ℕ) (e : Ends S K) (d : EndedRing S K) → k < length rs → slice_get news k ≡ Some (Task'.Served d) → P e d → Q (m + k) e d)
      → AllBecameFrom Q m (map (λ r. r.ends) rs) (ended_of news)
  all_ended_from [] [] m n did f = absurd (omega (arith, n))
  all_ended_from [] (u ∷ v ∷ us) m n did f = absurd (omega (arith, n))
  all_ended_from [] (Task'.Work ∷ []) m n did f = tt
  all_ended_from [] (Task'.Serve ring ∷ []) m n did f = absurd (did 0 Task'.Work (Task'.Serve ring) refl refl)
  all_ended_from [] (Task'.Served ended ∷ []) m n did f = absurd (did 0 Task'.Work (Task'.Served ended) refl refl)
  all_ended_from (r ∷ rs) [] m n did f = absurd (omega (arith, n))
  all_ended_from (r ∷ rs) (Task'.Serve ring ∷ us) m n did f = absurd (did 0 (Task'.Serve r) (Task'.Serve ring) refl refl)
  all_ended_from (r ∷ rs) (Task'.Served ended ∷ us) m n did f =
      let none : m + 0 ≡ m = omega arith in (
        subst (λ (k : ℕ). Q k r.ends ended) none (f 0 r.ends ended (omega arith) refl (did 0 (Task'.Serve r) (Task'.Served ended) refl refl)),
        all_ended_from rs us (m + 1) (omega (arith, n)) (λ k t u was is. did (suc k) t u was is)
            (λ k e d lt at h. let same : m + suc k ≡ (m + 1) + k = omega arith in subst (λ (j : ℕ). Q j e d) same (f (suc k) e d (omega (arith, lt)) at h)),
      )
  all_ended_from (r ∷ rs) (Task'.Work ∷ us) m n did f = absurd (did 0 (Task'.Serve r) Task'.Work refl refl)
