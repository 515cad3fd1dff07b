-- New squeues that suit the work are ready for it.
use Rattle.std.proofs.Common.{◌≡◌, ℕ, ◌+◌, ◌%◌, ◌<◌, ◌≤◌, ◌==◌, false, Some, List, length, map, slice_get, slice_index_or, take, ap, sym, ◌∙◌, arith}
use Rattle.std.proofs.lemmas.List.FromFn.{length-map-range_with_len}
use Rattle.perimeter_core.specs.declared.resident.Resident.{Ghosts}
use Rattle.perimeter_core.specs.History.{Setting}
use Rattle.squeue_state.specs.AllRoom.{HasAllRoom}
use Rattle.squeue_state.specs.Naming.{Named}
use Rattle.squeue_serve.proofs.Coming.{each_got}
use Rattle.squeue_rings.specs.Bringing.{AreOneRun, MayBringAll}
use Rattle.squeue_rings.specs.Calling.{MayMake, MayMakeEach}
use Rattle.squeue_rings.specs.Rings.{MayBring}
use Rattle.squeue_rings.specs.Starts.{StartAtHome}
use Rattle.histories.proofs.ListPlaces.{got_map}
use Rattle.squeue_rings.specs.declared.intake.Intake.{Intake}
use Rattle.squeue_rings.specs.Doing.{called_by}
use Rattle.squeue_pool.specs.declared.pool.Pool.{Pool}
use Rattle.squeue_pool.specs.AllJobs.{MayRun}
use Rattle.squeue_pool.specs.Works.{AreFor, IsFor, Suits, WorkOf}
use Rattle.squeue_pool.proofs.Made.{number_at}

module _ {R P O : Type 0} (G : Ghosts R P O) (pool : Pool) (w : WorkOf R) (suits : Suits G pool w) (ss : List (Named R)) (set : AreFor G pool w.residents w.quotas ss) where
  abbrev squeues : ℕ
  squeues = pool.pace.homes.squeues

  pub its_rings : (q : ℕ) (s : Named R) → IsFor G pool w.residents w.quotas q s → s.given.rings ≡ pool.rings
  its_rings q s is = ap (λ (S : Setting). S.rings) is.setting

  pub its_size : (q : ℕ) (s : Named R) → IsFor G pool w.residents w.quotas q s → G.size s.given.first ≡ w.conns
  its_size q s is = suits.sizes q s.given.first is.first

  pub its_conns : (q : ℕ) (s : Named R) → IsFor G pool w.residents w.quotas q s → length s.given.starts ≡ w.conns
  its_conns q s is = ap (λ (S : Setting). length S.starts) is.setting ∙ (length-map-range_with_len (λ c. c % squeues == q) 0 (G.size s.given.first) ∙ its_size q s is)

  one_run : AreOneRun G.origin squeues ss
  one_run =
      record {
        count = set.count;
        numbered = λ q s at. (set.each q s at).number;
        same_origin = λ i j s t a b. suits.same_origin i j s.given.first t.given.first (set.each i s a).first (set.each j t b).first;
        room = each_got (λ (s : Named R). HasAllRoom s.given) ss (λ q s at. (set.each q s at).room);
      }

  pub at_home : (q : ℕ) (s : Named R) → IsFor G pool w.residents w.quotas q s → (c : ℕ) → c < w.conns → slice_index_or s.given.starts c false ≡ (c % squeues == q)
  at_home q s is c lt =
      let z : 0 + c ≡ c = omega arith in
      let n = its_size q s is in
      ap (λ (S : Setting). slice_index_or S.starts c false) is.setting
      ∙ (number_at (λ c. c % squeues == q) 0 (G.size s.given.first) c false (omega (arith, lt, n)) ∙ ap (λ (d : ℕ). d % squeues == q) z)

  start_home : StartAtHome G.limits squeues ss
  start_home =
      each_got (λ (s : Named R). (c : ℕ) → c < length s.given.starts → slice_index_or s.given.starts c false ≡ (c % squeues == s.given.number)) ss
      (λ q s at c lt.
      let is = set.each q s at in
      let n = its_conns q s is in
      at_home q s is c (omega (arith, lt, n)) ∙ ap (λ (k : ℕ). c % squeues == k) (sym is.number))

  module _ (intakes : List Intake) (lists_are : w.lists ≡ map (λ l. l.list.items) intakes) (conns : ℕ) (conns_are : conns ≡ w.conns) where
    bring_all : (r : ℕ) (l : Intake) → slice_get intakes r ≡ Some l → MayBringAll G.limits squeues pool.pace.homes.spread r l.list.items ss
    bring_all r l at =
        let there : slice_get w.lists r ≡ Some l.list.items = ap (λ ls. slice_get ls r) lists_are ∙ got_map (λ (l : Intake). l.list.items) intakes r l at in
        record {
          order = suits.order r l.list.items there;
          may = each_got (MayBring G.limits squeues pool.pace.homes.spread r l.list.items) ss (λ q s is. suits.bring r l.list.items q s there (set.each q s is));
        }

    make_each : (j : ℕ) → MayMakeEach G.limits j (called_by w.calls j) ss
    make_each j k c at = each_got (λ (s : Named R). MayMake G.limits s j k (take k (called_by w.calls j)) c) ss (λ q s is. suits.make j k c q s at (set.each q s is))

    pub may_run : MayRun G pool intakes w.calls ss conns
    may_run =
        record {
          one = one_run;
          below = each_got (λ (s : Named R). length s.given.starts ≤ conns) ss (λ q s at. let n = its_conns q s (set.each q s at) in omega (arith, n, conns_are));
          rings_same = each_got (λ (s : Named R). s.given.rings ≡ pool.rings) ss (λ q s at. its_rings q s (set.each q s at));
          starts = start_home;
          bring = bring_all;
          short = suits.short_calls;
          make = make_each;
        }
