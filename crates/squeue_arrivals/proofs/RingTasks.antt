-- Tasks of rings, and what is left of their sources.
use Rattle.std.proofs.Common.{◌≡◌, ◌⊎◌, ℕ, zero, suc, ◌+◌, ◌<◌, ◌≤◌, inl, inr, Option, Some, List, [], ◌∷◌, ◌++◌, length, map, replicate, slice_get, refl, ap, sym, ◌∙◌, subst, arith, length-append, append-nil, append_assoc}
use Rattle.std.specs.Prelude.{Bool, IfSome, true, false, reverse}
use Rattle.std.proofs.lemmas.List.{length-map, reverse-append}
use Rattle.std.proofs.lemmas.Option.{slice_get_within}
use Rattle.squeue_streams.specs.declared.streams.Stream.{Stream}
use Rattle.squeue_arrivals.specs.declared.served.ServedSource.{ServedSource}
use Rattle.squeue_arrivals.specs.declared.ring.Ring.{Ring}
use Rattle.squeue_arrivals.specs.declared.ring.RingTask.{RingTask}
use Rattle.squeue_arrivals.specs.declared.ring.RingTask.TheVariants as Task'
use Rattle.ring_groups.specs.Groups.{AllBecameFrom}
use Rattle.squeue_arrivals.specs.Tasks.{AreNewRings, AreNewTasks, HasDone, IsNewRing, IsNewTask, ended_of, tasks_for, watched_in}
use Rattle.squeue_arrivals.specs.declared.watching.Watched.{Watched}
use Rattle.squeue_arrivals.specs.declared.watching.WatchedEnd.{WatchedEnd}
use Rattle.squeue_arrivals.specs.Seating.{lookers_of}
use Rattle.squeue_arrivals.specs.Watching.{SawLast, WasWatched}
use Rattle.squeue_arrivals.proofs.Seated.{get_more, long}

-- what is in two lists one behind the other is in one of them
either : {A : Type 0} (xs ys : List A) (t : A) (c : ℕ) → slice_get (xs ++ ys) c ≡ Some t → (slice_get xs c ≡ Some t) ⊎ ((k : ℕ) × (c ≡ length xs + k) × (slice_get ys k ≡ Some t))
either [] ys t c is = inr (c, omega arith, is)
either (x ∷ xs) ys t zero is = inl is
either (x ∷ xs) ys t (suc c) is = elim (either xs ys t c is) [
  | inl there ↦ inl there
  | inr (k, at, there) ↦ inr (k, omega (arith, at), there)
]

all_one : {A : Type 0} (n : ℕ) (x : A) (k : ℕ) (t : A) → slice_get (replicate n x) k ≡ Some t → x ≡ t
all_one zero x k t is = cc is
all_one (suc n) x zero t is = cc is
all_one (suc n) x (suc k) t is = all_one n x k t is

-- a list of no length has nothing
pub none_long : {A : Type 0} (xs : List A) → length xs ≡ 0 → xs ≡ []
none_long [] n = refl
none_long (x ∷ xs) n = absurd (omega (arith, n))

pub as_many : {T S A : Type 0} (most room : ℕ) (parts : List (Stream T S)) (es : List A) (rs : List (Ring T S A)) → AreNewRings most room parts es rs → length rs ≡ length es
as_many {T} {S} {A} most room parts es rs are = sym (length-map rs (λ (r : Ring T S A). r.source)) ∙ ap length are.sources_are

pub tasks_long : {T S A : Type 0} (Z : Type 0) (lookers : ℕ) (rs : List (Ring T S A)) → length (tasks_for {Z = Z} lookers rs) ≡ length rs + lookers + 1
tasks_long {T} {S} {A} Z lookers rs =
    let serve : Ring T S A → RingTask T S A Z = λ r. Task'.Serve r in
    let mid : List (RingTask T S A Z) = replicate lookers Task'.Watch in
    omega (arith, length-append (map serve rs) (mid ++ Task'.Work ∷ []), length-append mid (Task'.Work ∷ []), length-map rs serve, long {A = RingTask T S A Z} lookers Task'.Watch)

module _ {T S A Z : Type 0} where
  serve_got : (rs : List (Ring T S A)) (k : ℕ) (t : RingTask T S A Z) → slice_get (map (λ r. Task'.Serve r) rs) k ≡ Some t → (r : Ring T S A) × (slice_get rs k ≡ Some r) × (Task'.Serve r ≡ t)
  serve_got [] k t is = cc is
  serve_got (r ∷ rs) zero t is = let same : Task'.Serve r ≡ t = cc is in (r, refl, same)
  serve_got (r ∷ rs) (suc k) t is = serve_got rs k t is

  -- the rings have their tasks, behind them those who look, and the worker
  pub are_tasks : (n lookers most room : ℕ) (parts : List (Stream T S)) (es : List A) (rs : List (Ring T S A)) → n ≡ length es → AreNewRings most room parts es rs → AreNewTasks n (n + lookers) most room parts (tasks_for {Z = Z} lookers rs)
  are_tasks n lookers most room parts es rs counted are =
      let front : List (RingTask T S A Z) = map (λ r. Task'.Serve r) rs in
      let mid : List (RingTask T S A Z) = replicate lookers Task'.Watch in
      let serve : Ring T S A → RingTask T S A Z = λ r. Task'.Serve r in
      let many : length front ≡ n = length-map rs serve ∙ (as_many most room parts es rs are ∙ sym counted) in
      let behind : length mid ≡ lookers = long {A = RingTask T S A Z} lookers Task'.Watch in
      record {
        count = omega (arith, tasks_long Z lookers rs, as_many most room parts es rs are, counted);
        each = λ c t at. elim (either front (mid ++ Task'.Work ∷ []) t c at) [
          | inl there ↦
              let r = serve_got rs c t there in
              let within : c < n = omega (arith, slice_get_within front c t there, many) in
              subst (IsNewTask n (n + lookers) most room parts c) r.2 (within, subst (λ (m : ℕ). IsNewRing m most room parts c r.0) (sym counted) (are.each c r.0 r.1))
          | inr (k, is, there) ↦ elim (get_more mid Task'.Work t k there) [
            | inl looks ↦
                subst (IsNewTask n (n + lookers) most room parts c) (all_one lookers Task'.Watch k t looks)
                (omega (arith, is, many), omega (arith, is, many, slice_get_within mid k t looks, behind))
            | inr last ↦ subst (IsNewTask n (n + lookers) most room parts c) last.1 (let e = last.0 in omega (arith, is, e, many, behind))
          ]
        ];
      }

  -- one ring more has its task
  pub tasks_more : (tasks new : List (RingTask T S A Z)) (rings left : List (Ring T S A)) (r : Ring T S A) (all : List (RingTask T S A Z)) → rings ≡ left ++ r ∷ [] → new ≡ tasks ++ Task'.Serve r ∷ []
      → tasks ++ map (λ (x : Ring T S A). Task'.Serve x) (reverse rings) ≡ all → new ++ map (λ (x : Ring T S A). Task'.Serve x) (reverse left) ≡ all
  tasks_more tasks new rings left r all split more is =
      ap (λ (l : List (RingTask T S A Z)). l ++ map (λ (x : Ring T S A). Task'.Serve x) (reverse left)) more
      ∙ (append_assoc tasks (Task'.Serve r ∷ []) (map (λ (x : Ring T S A). Task'.Serve x) (reverse left))
      ∙ (sym (ap (λ (l : List (Ring T S A)). tasks ++ map (λ (x : Ring T S A). Task'.Serve x) l) (ap reverse split ∙ reverse-append left (r ∷ []))) ∙ is))

  pub one_at_most : (t : RingTask T S A Z) → length (ended_of (t ∷ [])) ≤ 1
  one_at_most (Task'.Serve ring) = omega arith
  one_at_most (Task'.Served ended) = omega arith
  one_at_most Task'.Watch = omega arith
  one_at_most (Task'.Watched w) = omega arith
  one_at_most Task'.Work = omega arith

  -- what is left of one task more
  pub ended_left : (t : RingTask T S A Z) (ts : List (RingTask T S A Z)) (old new : List (ServedSource A T S)) → new ≡ old ++ ended_of (t ∷ []) → ended_of ts ≡ reverse old → ended_of (t ∷ ts) ≡ reverse new
  ended_left (Task'.Serve ring) ts old new is left = left ∙ ap reverse (sym (append-nil old) ∙ sym is)
  ended_left (Task'.Served ended) ts old new is left = ap (λ (l : List (ServedSource A T S)). ended ∷ l) left ∙ (sym (reverse-append old (ended ∷ [])) ∙ ap reverse (sym is))
  ended_left Task'.Watch ts old new is left = left ∙ ap reverse (sym (append-nil old) ∙ sym is)
  ended_left (Task'.Watched w) ts old new is left = left ∙ ap reverse (sym (append-nil old) ∙ sym is)
  ended_left Task'.Work ts old new is left = left ∙ ap reverse (sym (append-nil old) ∙ sym is)

  module _ (P : A → ServedSource A T S → Type 0) (L : Watched Z → Type 0) where
    abbrev pub DidEach : List (RingTask T S A Z) → List (RingTask T S A Z) → Type 0
    DidEach olds news = (k : ℕ) (t u : RingTask T S A Z) → slice_get olds k ≡ Some t → slice_get news k ≡ Some u → HasDone P L t u

    pub has_watched : (t : RingTask T S A Z) (w : Watched Z) → HasDone P L t (Task'.Watched w) → L w
    has_watched (Task'.Serve ring) w h = absurd h
    has_watched (Task'.Served ended) w h = absurd h
    has_watched Task'.Watch w h = h
    has_watched (Task'.Watched v) w h = absurd h
    has_watched Task'.Work w h = absurd h

    abbrev pub behind : ℕ → List (RingTask T S A Z)
    behind lookers = replicate lookers Task'.Watch ++ Task'.Work ∷ []

    -- nobody who looked has a source, nor has the worker
    none_ended : (lookers : ℕ) (news : List (RingTask T S A Z)) → length news ≡ lookers + 1 → DidEach (behind lookers) news → ended_of news ≡ []
    none_ended lookers [] n did = absurd (omega (arith, n))
    none_ended zero (u ∷ v ∷ us) n did = absurd (omega (arith, n))
    none_ended zero (Task'.Work ∷ []) n did = refl
    none_ended zero (Task'.Serve ring ∷ []) n did = absurd (did 0 Task'.Work (Task'.Serve ring) refl refl)
    none_ended zero (Task'.Served ended ∷ []) n did = absurd (did 0 Task'.Work (Task'.Served ended) refl refl)
    none_ended zero (Task'.Watch ∷ []) n did = refl
    none_ended zero (Task'.Watched w ∷ []) n did = refl
    none_ended (suc l) (Task'.Serve ring ∷ us) n did = absurd (did 0 Task'.Watch (Task'.Serve ring) refl refl)
    none_ended (suc l) (Task'.Served ended ∷ us) n did = absurd (did 0 Task'.Watch (Task'.Served ended) refl refl)
    none_ended (suc l) (Task'.Watch ∷ us) n did = none_ended l us (omega (arith, n)) (λ k t u was is. did (suc k) t u was is)
    none_ended (suc l) (Task'.Watched w ∷ us) n did = none_ended l us (omega (arith, n)) (λ k t u was is. did (suc k) t u was is)
    none_ended (suc l) (Task'.Work ∷ us) n did = none_ended l us (omega (arith, n)) (λ k t u was is. did (suc k) t u was is)

    -- the one who looked behind the rings has
    pub looked_one : (rs : List (Ring T S A)) (news : List (RingTask T S A Z)) → length news ≡ length (tasks_for {Z = Z} 1 rs) → DidEach (tasks_for 1 rs) news
        → (w : Watched Z) × (watched_in news ≡ Some w) × (slice_get news (length rs) ≡ Some (Task'.Watched w))
    looked_one [] [] n did = absurd (omega (arith, n))
    looked_one [] (Task'.Serve ring ∷ us) n did = absurd (did 0 Task'.Watch (Task'.Serve ring) refl refl)
    looked_one [] (Task'.Served ended ∷ us) n did = absurd (did 0 Task'.Watch (Task'.Served ended) refl refl)
    looked_one [] (Task'.Watch ∷ us) n did = absurd (did 0 Task'.Watch Task'.Watch refl refl)
    looked_one [] (Task'.Watched w ∷ us) n did = (w, refl, refl)
    looked_one [] (Task'.Work ∷ us) n did = absurd (did 0 Task'.Watch Task'.Work refl refl)
    looked_one (r ∷ rs) [] n did = absurd (omega (arith, n))
    looked_one (r ∷ rs) (Task'.Serve ring ∷ us) n did = absurd (did 0 (Task'.Serve r) (Task'.Serve ring) refl refl)
    looked_one (r ∷ rs) (Task'.Served ended ∷ us) n did = looked_one rs us (omega (arith, n)) (λ k t u was is. did (suc k) t u was is)
    looked_one (r ∷ rs) (Task'.Watch ∷ us) n did = absurd (did 0 (Task'.Serve r) Task'.Watch refl refl)
    looked_one (r ∷ rs) (Task'.Watched w ∷ us) n did = absurd (did 0 (Task'.Serve r) (Task'.Watched w) refl refl)
    looked_one (r ∷ rs) (Task'.Work ∷ us) n did = absurd (did 0 (Task'.Serve r) Task'.Work refl refl)

module _ {T S A Z : Type 0} (P : A → ServedSource A T S → Type 0) (L : Watched Z → Type 0) (Q : ℕ → A → ServedSource A T S → Type 0) where
  -- when all are done this is left of each source, by number
  pub all_ended_from : (lookers : ℕ) (rs : List (Ring T S A)) (news : List (RingTask T S A Z)) (m : ℕ) → length news ≡ length (tasks_for {Z = Z} lookers rs) → DidEach P L (tasks_for lookers rs) news
      → ((k : ℕ) (e : A) (d : ServedSource A T S) → k < length rs → slice_get news k ≡ Some (Task'.Served d) → P e d → Q (m + k) e d)
      → AllBecameFrom Q m (map (λ r. r.source) rs) (ended_of news)
  all_ended_from lookers [] news m n did f =
      let mid : List (RingTask T S A Z) = replicate lookers Task'.Watch in
      let none = none_ended P L lookers news (omega (arith, n, length-append mid (Task'.Work ∷ []), long {A = RingTask T S A Z} lookers Task'.Watch)) did in
      subst (AllBecameFrom Q m []) (sym none) tt
  all_ended_from lookers (r ∷ rs) [] m n did f = absurd (omega (arith, n))
  all_ended_from lookers (r ∷ rs) (Task'.Serve ring ∷ us) m n did f = absurd (did 0 (Task'.Serve r) (Task'.Serve ring) refl refl)
  all_ended_from lookers (r ∷ rs) (Task'.Served ended ∷ us) m n did f =
      let none : m + 0 ≡ m = omega arith in (
        subst (λ (k : ℕ). Q k r.source ended) none (f 0 r.source ended (omega arith) refl (did 0 (Task'.Serve r) (Task'.Served ended) refl refl)),
        all_ended_from lookers rs us (m + 1) (omega (arith, n)) (λ k t u was is. did (suc k) t u was is)
            (λ k e d lt at h. let same : m + suc k ≡ (m + 1) + k = omega arith in subst (λ (j : ℕ). Q j e d) same (f (suc k) e d (omega (arith, lt)) at h)),
      )
  all_ended_from lookers (r ∷ rs) (Task'.Watch ∷ us) m n did f = absurd (did 0 (Task'.Serve r) Task'.Watch refl refl)
  all_ended_from lookers (r ∷ rs) (Task'.Watched w ∷ us) m n did f = absurd (did 0 (Task'.Serve r) (Task'.Watched w) refl refl)
  all_ended_from lookers (r ∷ rs) (Task'.Work ∷ us) m n did f = absurd (did 0 (Task'.Serve r) Task'.Work refl refl)

module _ {W T S A Z : Type 0} (begins : W → S → Type 0) (step : W → S → T → S → Type 0) (work : W) (Says : List (Option (Stream T S)) → Z → Type 0) (looks : ℕ) where
  -- what was seen of a squeue is what the one saw who looked at it, if anybody did
  pub was_watched : (b : Bool) (P : A → ServedSource A T S → Type 0) (L : Watched Z → Type 0) (rs : List (Ring T S A)) (news : List (RingTask T S A Z)) → length news ≡ length (tasks_for {Z = Z} (lookers_of b) rs) → DidEach P L (tasks_for (lookers_of b) rs) news
      → (e : WatchedEnd Z) → e.end.setting.rings ≡ length rs → ((k : ℕ) (w : Watched Z) → slice_get news k ≡ Some (Task'.Watched w) → SawLast begins step work Says e.end.setting k looks e.end.history w.last)
      → IfSome (watched_in news) (λ w. e.last ≡ w.last) → WasWatched begins step work Says looks b e
  was_watched false P L rs news n did e rings saw last = tt
  was_watched true P L rs news n did e rings saw last =
      let one = looked_one P L rs news n did in
      let its : e.last ≡ one.0.last = subst (λ (o : Option (Watched Z)). IfSome o (λ w. e.last ≡ w.last)) one.1 last in
      subst (λ (o : Option Z). SawLast begins step work Says e.end.setting e.end.setting.rings looks e.end.history o) (sym its)
      (subst (λ (k : ℕ). SawLast begins step work Says e.end.setting k looks e.end.history one.0.last) (sym rings) (saw (length rs) one.0 one.2))
