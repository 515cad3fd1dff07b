-- The acts of an owner at its Ask, each as its contract says it.
use Rattle.std.proofs.Common.{◌≡◌, ℕ, ◌<◌, true, false, Some, is_some, List, [], refl, sym, subst, arith}
use Rattle.std.specs.Prelude.{Contains}
use Rattle.std.proofs.lemmas.List.Elements.{All-contains}
use Rattle.turn_gate.specs.Passes.{seen}
use Rattle.perimeter_core.specs.declared.resident.Resident.{Ghosts}
use Rattle.perimeter_core.specs.declared.entries.Act.{Act}
use Rattle.perimeter_core.specs.declared.marks.SynchAct.TheVariants as Done
use Rattle.perimeter_core.specs.Perimeter.{is_here}
use Rattle.perimeter_core.specs.History.{Limits}
use Rattle.perimeter_core.specs.Blocks.{Blocks, with_feeds, with_act, peri}
use Rattle.perimeter_core.specs.Residing.{Here, NotHere, IsWithin}
use Rattle.squeue_state.specs.Naming.{Named, setting_of}
use Rattle.squeue_drain.specs.declared.owner.Owner.{Owner}
use Rattle.squeue_drain.specs.Owning.{state_of, processed_by}
use Rattle.synch_enter.specs.declared.acts.Called.TheVariants as Called'
use Rattle.synch_enter.specs.Synch.{MayCall, MayTake, MayPut, HasCalled, HasTaken, HasPut, acts_at}
use Rattle.synch_enter.proofs.Acting.{here_in_range, was_taken, stood, tells, block_here, here, not_here, in_range, acted, none_queued}

module _ {R P O : Type 0} (G : Ghosts R P O) (s : Named R) (o : Owner R) where
  -- what is kept of the resident by an act
  pub record Keeps (r : R) : Type 0 where
    pub same_limits : G.limits r ≡ G.limits o.resident
    pub same_size : G.size r ≡ G.size o.resident
    pub same_origin : G.origin r ≡ G.origin o.resident

  module _ (c j k : ℕ) (may : MayCall G s c j k o) where
    pub call_known : Contains (G.limits o.resident).calls (c, j, k)
    call_known = subst (λ (l : Limits). Contains l.calls (c, j, k)) (sym may.stands_at.owns.resident.same_limits) may.exists

    pub call_range : IsWithin (G.size o.resident) (G.limits o.resident) → c < G.size o.resident
    call_range w = All-contains (λ (call : ℕ × ℕ × ℕ). call.0 < G.size o.resident) (G.limits o.resident).calls (c, j, k) w.calls call_known

    pub call_here : ((blocks : Blocks) → G.stands o.resident blocks → true ≡ is_some (blocks c)) → Here (G.stands o.resident) c
    call_here told = here G s o may.stands_at may.no_act c (tells G s o may.stands_at may.no_act c true told)

    pub called : (r : R) → Keeps r → ((blocks : Blocks) → G.stands o.resident blocks → true ≡ is_some (blocks c)) → ((blocks : Blocks) → G.stands o.resident blocks → G.stands r (with_act (Done.Call c j k) [] blocks))
        → HasCalled G s c j k o record o { resident = r; act = Done.Call c j k } Called'.Done
    called r kept told new =
        let is_in : is_here (state_of G.limits s o) c ≡ true = tells G s o may.stands_at may.no_act c true told in
        record {
          stands_at =
              acted G s o may.stands_at may.no_act (Done.Call c j k) [] r
              (new (with_feeds (processed_by G.limits s o) (peri (setting_of G.limits s.given) (seen o.pass))) (stood G s o may.stands_at may.no_act)) kept.same_limits kept.same_size kept.same_origin
              (here_in_range (setting_of G.limits s.given) (seen o.pass) c is_in) (may.thread, is_in, may.exists) refl;
          answers = (is_in, refl);
          gone = λ from came is. absurd (cc is);
        }

    pub elsewhere : ((blocks : Blocks) → G.stands o.resident blocks → false ≡ is_some (blocks c)) → HasCalled G s c j k o record o { act = Done.Away } Called'.Elsewhere
    elsewhere told =
        let away : is_here (state_of G.limits s o) c ≡ false = tells G s o may.stands_at may.no_act c false told in
        record {
          stands_at =
              acted G s o may.stands_at may.no_act Done.Away [] o.resident
              (stood G s o may.stands_at may.no_act) refl refl refl tt (omega (arith, may.thread), λ e. absurd (omega (arith, may.stands_at.no_worker, e))) refl;
          answers = (away, refl);
          gone = λ from came is. was_taken G.limits s c from o.pass came away;
        }

  module _ (c : ℕ) (may : MayTake G s c o) where
    pub take_here : Here (G.stands o.resident) c
    take_here = here G s o may.stands_at may.no_act c may.here

    pub take_range : c < G.size o.resident
    take_range = in_range G s o may.stands_at may.no_act c (here_in_range (setting_of G.limits s.given) (seen o.pass) c may.here)

    pub taken : (part : P) (r : R) → Keeps r → ((blocks : Blocks) → G.stands o.resident blocks → G.stands r (with_act (Done.Out c) [] blocks))
        → ((blocks : Blocks) (had : List Act) → G.stands o.resident blocks → blocks c ≡ Some had → G.part_stands part had)
        → G.is_part_of (G.origin o.resident) c part → HasTaken G s c o record o { resident = r; act = Done.Out c } part
    taken part r kept new had of =
        let S = setting_of G.limits s.given in
        let B : Blocks = with_feeds (processed_by G.limits s o) (peri S (seen o.pass)) in
        let before : G.stands o.resident (with_feeds (processed_by G.limits s o) (peri S (seen o.pass))) = stood G s o may.stands_at may.no_act in
        record {
          stands_at =
              acted G s o may.stands_at may.no_act (Done.Out c) [] r (new B before) kept.same_limits kept.same_size kept.same_origin
              (here_in_range S (seen o.pass) c may.here)
              (may.ring, may.here, may.leaves, none_queued G s o may.stands_at may.no_act c may.ring) refl;
          act = refl;
          part_of = subst (λ (x : O). G.is_part_of x c part) may.stands_at.owns.resident.same_origin of;
          part_had = had B (acts_at G.limits s c o) before (block_here G s o may.stands_at may.no_act c may.here);
        }

  module _ (c : ℕ) (part : P) (may : MayPut G s c part o) where
    pub put_away : NotHere (G.stands o.resident) c
    put_away = not_here G s o may.stands_at may.no_act c may.away

    pub put_range : c < G.size o.resident
    put_range = in_range G s o may.stands_at may.no_act c may.range

    pub put_of : G.is_part_of (G.origin o.resident) c part
    put_of = subst (λ (x : O). G.is_part_of x c part) (sym may.stands_at.owns.resident.same_origin) may.part_of

    pub put : (note : List Act) (r : R) → Keeps r → ((blocks : Blocks) → G.stands o.resident blocks → G.stands r (with_act (Done.In c) note blocks))
        → HasPut G s c note record o { resident = r; act = Done.In c }
    put note r kept new =
        let B : Blocks = with_feeds (processed_by G.limits s o) (peri (setting_of G.limits s.given) (seen o.pass)) in
        record {
          stands_at =
              acted G s o may.stands_at may.no_act (Done.In c) note r
              (new B (stood G s o may.stands_at may.no_act)) kept.same_limits kept.same_size kept.same_origin may.range (may.ring, may.away) tt;
          act = refl;
        }
