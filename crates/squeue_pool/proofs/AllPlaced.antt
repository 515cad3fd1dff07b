-- How the parts come to their places, squeue by squeue, the last one first.
use Rattle.std.proofs.Common.{◌≡◌, ℕ, ◌+◌, ◌<◌, zero, suc, Bool, true, false, if◌then◌else◌, Option, Some, None, List, [], ◌∷◌, ◌++◌, length, append_assoc, map, reverse, slice_get, refl, ap, sym, ◌∙◌, subst, arith}
use Rattle.std.proofs.lemmas.List.{append-nil, length-map, reverse-append}
use Rattle.std.proofs.lemmas.Option.{slice_get_within}
use Rattle.perimeter_core.specs.declared.resident.Resident.{Ghosts}
use Rattle.perimeter_core.specs.Blocks.{peri}
use Rattle.perimeter_core.specs.Deeds.{acts}
use Rattle.perimeter_core.specs.History.{run}
use Rattle.perimeter_core.specs.Perimeter.{is_here}
use Rattle.histories.specs.Endings.{Ending}
use Rattle.squeue_state.specs.Told.{Traced}
use Rattle.squeue_serve.proofs.Lent.{get_end}
use Rattle.histories.proofs.ListPlaces.{some_at, got_map}
use Rattle.squeue_pool.specs.declared.pool.Pool.{Pool}
use Rattle.squeue_pool.specs.declared.work.Left.{Left}
use Rattle.squeue_pool.specs.Runs.{HasRun, ends_of}
use Rattle.squeue_pool.specs.Works.{Suits, WorkOf}
use Rattle.squeue_pool.specs.Finishing.{AreEmpty, AreTaken, HaveStood, LayIn, LiesSo, PartTaken}

abbrev pub end_and_trace : {R : Type 0} → Left R → Ending × Traced
end_and_trace v = (v.end, v.trace)

pub ends_are : {R : Type 0} (vs : List (Left R)) → map (λ (x : Ending × Traced). x.0) (map end_and_trace vs) ≡ ends_of vs
ends_are [] = refl
ends_are (v ∷ vs) = ap (λ (es : List Ending). v.end ∷ es) (ends_are vs)

pub traces_are : {R : Type 0} (vs : List (Left R)) → map (λ (x : Ending × Traced). x.1) (map end_and_trace vs) ≡ map (λ v. v.trace) vs
traces_are [] = refl
traces_are (v ∷ vs) = ap (λ (ts : List Traced). v.trace ∷ ts) (traces_are vs)

module _ {R P O : Type 0} (G : Ghosts R P O) (conns : ℕ) (all : List (Left R)) where
  -- what lies at the places when all but those that are left were taken apart
  pub record SoFar (rest : List (Left R)) (places : List (Option P)) (ends : List (Ending × Traced)) : Type 0 where
    pub done : List (Left R)
    pub are : all ≡ rest ++ done
    pub count : length places ≡ conns
    pub placed : (c : ℕ) → c < conns → LiesSo G done c (slice_get places c)
    pub in_order : reverse ends ≡ map end_and_trace done

  pub none_done : (places : List (Option P)) (ends : List (Ending × Traced)) → length places ≡ conns → AreEmpty places → ends ≡ [] → SoFar all places ends
  none_done places ends count empty none =
      record {
        done = [];
        are = sym (append-nil all);
        count = count;
        placed = λ c lt. subst (LiesSo G [] c) (sym (empty c (omega (arith, lt, count)))) (λ q v at. cc at);
        in_order = ap reverse none;
      }

  module _ (rest : List (Left R)) (v : Left R) (places : List (Option P)) (ends : List (Ending × Traced)) (h : SoFar (rest ++ v ∷ []) places ends) where
    whole : all ≡ rest ++ v ∷ h.done
    whole = h.are ∙ append_assoc rest (v ∷ []) h.done

    -- it stands at its number
    pub next_at : slice_get all (length rest) ≡ Some v
    next_at = ap (λ (l : List (Left R)). slice_get l (length rest)) whole ∙ get_end rest h.done v (length rest) refl

    module _ (new : List (Option P)) (stands : G.stands v.resident (peri v.end.setting v.end.history)) (added : AreTaken G v.resident places new) where
      -- the parts that were there before lie as they lay
      later : (c : ℕ) (o : Option (Option P)) → is_here (run v.end.setting v.end.history) c ≡ false → LiesSo G h.done c o → LiesSo G (v ∷ h.done) c o
      later c None gone lies = absurd lies
      later c (Some None) gone lies = by
        where
          by : (q : ℕ) (u : Left R) → slice_get (v ∷ h.done) q ≡ Some u → is_here (run u.end.setting u.end.history) c ≡ false
          by zero u at = let b : v ≡ u = cc at in subst (λ (u : Left R). is_here (run u.end.setting u.end.history) c ≡ false) b gone
          by (suc q) u at = lies q u at
      later c (Some (Some part)) gone lies =
          record { q = suc lies.q; left = lies.left; is_left = lies.is_left; here = lies.here; own = lies.own; stands = lies.stands }

      placed_now : (c : ℕ) → c < conns → LiesSo G (v ∷ h.done) c (slice_get new c)
      placed_now c lt =
          let part = added.each (peri v.end.setting v.end.history) stands c (omega (arith, lt, h.count)) in
          by (is_here (run v.end.setting v.end.history) c) refl part (h.placed c lt)
        where
          by : (here : Bool) → is_here (run v.end.setting v.end.history) c ≡ here
              → PartTaken G (G.origin v.resident) c (if here then Some (acts v.end.setting v.end.history c) else None) (slice_get places c) (slice_get new c)
              → LiesSo G h.done c (slice_get places c) → LiesSo G (v ∷ h.done) c (slice_get new c)
          by true is part old =
              subst (LiesSo G (v ∷ h.done) c) (sym part.1) (record { q = 0; left = v; is_left = refl; here = is; own = part.2; stands = part.3 })
          by false is part old = subst (LiesSo G (v ∷ h.done) c) (sym part) (later c (slice_get places c) is old)

      pub one_done : SoFar rest new (ends ++ (v.end, v.trace) ∷ [])
      one_done =
          record {
            done = v ∷ h.done;
            are = whole;
            count = added.count ∙ h.count;
            placed = placed_now;
            in_order = reverse-append ends ((v.end, v.trace) ∷ []) ∙ ap (λ (es : List (Ending × Traced)). (v.end, v.trace) ∷ es) h.in_order;
          }

  -- at the end all were
  module _ (rest : List (Left R)) (places : List (Option P)) (ends : List (Ending × Traced)) (none : rest ≡ []) (h : SoFar rest places ends) where
    same : all ≡ h.done
    same = h.are ∙ ap (λ (l : List (Left R)). l ++ h.done) none

    pub all_placed : (c : ℕ) → c < conns → LiesSo G all c (slice_get places c)
    all_placed c lt = subst (λ (l : List (Left R)). LiesSo G l c (slice_get places c)) (sym same) (h.placed c lt)

    pub all_in_order : reverse ends ≡ map end_and_trace all
    all_in_order = h.in_order ∙ ap (map end_and_trace) (sym same)

module _ {R P O : Type 0} (G : Ghosts R P O) (pool : Pool) (w : WorkOf R) (vs : List (Left R)) (ran : HasRun G pool w vs) where
  -- each resident stands for what its squeue's history did
  pub have_stood : (conns : ℕ) → conns ≡ w.conns → Suits G pool w → HaveStood G conns vs
  have_stood conns are suits =
      let first_at : (q : ℕ) (v : Left R) → slice_get vs q ≡ Some v → (first : R) × (slice_get w.residents q ≡ Some first) =
      λ q v at. some_at w.residents q (omega (arith, slice_get_within vs q v at, ran.count, suits.squeues.residents_are)) in
      record {
        stands = λ q v at. let f = first_at q v at in (ran.each q f.0 v f.1 at).stands;
        sizes = λ q v at. let f = first_at q v at in (ran.each q f.0 v f.1 at).size ∙ sym are;
      }

  -- the place of a connection isn't empty, since it is here after one of the histories
  pub is_there : (places : List (Option P)) (c : ℕ) → c < w.conns → LiesSo G vs c (slice_get places c) → (part : P) × (slice_get places c ≡ Some (Some part)) × LayIn G vs c part
  is_there places c lt lies = by (slice_get places c) lies
    where
      differ : true ≡ false → ⊥
      differ e = cc e

      never : ((q : ℕ) (v : Left R) → slice_get vs q ≡ Some v → is_here (run v.end.setting v.end.history) c ≡ false) → ⊥
      never nowhere =
          let once = ran.here c lt in
          let within = slice_get_within (ends_of vs) _ once.end once.is_end in
          let v = some_at vs _ (let n = length-map vs (λ (v : Left R). v.end) in omega (arith, within, n)) in
          let both : Some v.0.end ≡ Some once.end = sym (got_map (λ (v : Left R). v.end) vs _ v.0 v.1) ∙ once.is_end in
          let same : v.0.end ≡ once.end = cc both in
          differ (sym once.here ∙ subst (λ (e : Ending). is_here (run e.setting e.history) c ≡ false) same (nowhere _ v.0 v.1))

      by : (o : Option (Option P)) → LiesSo G vs c o → (part : P) × (o ≡ Some (Some part)) × LayIn G vs c part
      by None lies = absurd lies
      by (Some None) lies = absurd (never lies)
      by (Some (Some part)) lies = (part, refl, lies)
