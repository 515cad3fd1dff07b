-- The work of a plan suits the setup of its run.
use Rattle.std.proofs.Common.{◌≡◌, ℕ, ◌+◌, ◌*◌, ◌%◌, ◌<◌, ◌≤◌, ◌==◌, zero, suc, inl, inr, All, Some, List, [], ◌∷◌, length, map, slice_get, slice_index_or, take, refl, ap, sym, ◌∙◌, subst, arith}
use Rattle.std.specs.Prelude.{get_or}
use Rattle.std.specs.List.{range_with_len}
use Rattle.std.proofs.lemmas.Bool.{cases_lt}
use Rattle.std.proofs.lemmas.Option.{slice_get_within}
use Rattle.squeue_state.specs.Naming.{Named}
use Rattle.placed_parts.specs.Standing.{first_here}
use Rattle.histories.proofs.ListPlaces.{some_at}
use Rattle.squeue_rings.specs.Calling.{MayMake}
use Rattle.squeue_rings.specs.Doing.{called_by}
use Rattle.squeue_rings.proofs.Works.{got_or}
use Rattle.squeue_pool.specs.declared.pool.Pool.{Pool}
use Rattle.squeue_pool.specs.Works as Pooled
use Rattle.squeue_pool.specs.Works.{IsFor, Suits, WorkOf}
use Rattle.conn_classifier.specs.Plan.{PlanOf, IsPlan, items_together}
use Rattle.conn_blocks.specs.contracts.blocks.BlocksResident.TheImpl.{ghosts}
use Rattle.conn_blocks.specs.declared.blocks.Blocks.{Blocks}
use Rattle.conn_blocks.specs.Allowed.{all_calls}
use Rattle.conn_blocks.specs.CallLists.{CallLists}
use Rattle.conn_blocks.specs.Places.{Stands, limits_of}
use Rattle.conn_blocks.proofs.Conns.{conns_of_thread}
use Rattle.ring_quotas.specs.Quotas.{quotas_of, setting_at}
use Rattle.ring_threads.specs.MadeFor.{IsMadeFor}
use Rattle.ring_quotas.proofs.Adding.{quotas_count}
use Rattle.ring_threads.proofs.Sufficing.{may_bring, may_make}
use Rattle.ring_threads.proofs.Totals.{order}
use Rattle.ring_threads.specs.Working.{IsWorkFor, setup_of}
use Rattle.ring_threads.proofs.FewFeeds.{list_few}

none_beyond : {A : Type 0} (xs : List (List A)) (j : ℕ) → length xs ≤ j → get_or xs j [] ≡ []
none_beyond [] j le = refl
none_beyond (x ∷ xs) zero le = absurd (omega (arith, le))
none_beyond (x ∷ xs) (suc j) le = none_beyond xs j (omega (arith, le))

-- a call is of a thread that there is
of_thread : (xs : List (List ℕ)) (j k c : ℕ) → slice_get (called_by xs j) k ≡ Some c → j < length xs
of_thread xs j k c at = elim (cases_lt j (length xs)) [
  | inl lt ↦ lt
  | inr le ↦ (let none : slice_get [] k ≡ Some c = subst (λ (l : List ℕ). slice_get l k ≡ Some c) (none_beyond xs j le) at in cc none)
]

module _ (p : PlanOf) (calls : CallLists) (pool : Pool) (w : WorkOf Blocks) (is : IsWorkFor p calls (setup_of pool) w) where
  abbrev squeues : ℕ
  squeues = pool.pace.homes.squeues

  abbrev spread : ℕ
  spread = pool.pace.homes.spread

  abbrev rings : ℕ
  rings = pool.rings

  its_quotas : (q : ℕ) (first : Blocks) → slice_get w.residents q ≡ Some first → slice_index_or w.quotas q [] ≡ quotas_of p calls squeues rings spread q
  its_quotas q first at =
      let quotas = some_at w.quotas q (omega (arith, slice_get_within w.residents q first at, is.residents.count, is.quotas.count)) in
      got_or w.quotas q quotas.0 [] quotas.1 ∙ (is.quotas.each q quotas.0 quotas.1).are

  -- each squeue has the setting of its homes and quotas
  pub same_setting : (q : ℕ) (first : Blocks) → slice_get w.residents q ≡ Some first
      → Pooled.setting_at ghosts pool q first (slice_index_or w.quotas q []) ≡ setting_at p calls squeues rings spread q
  same_setting q first at =
      let f = is.residents.each q first at in
      let quotas = its_quotas q first at in
      λ i. record {
        rings = rings;
        quotas = quotas i;
        starts = map (λ c. c % squeues == q) (range_with_len 0 (f.size i));
        limits = f.limits i;
      }

  made_for : (q : ℕ) (s : Named Blocks) → IsFor ghosts pool w.residents w.quotas q s → IsMadeFor limits_of p calls squeues rings spread s
  made_for q s fits = fits.setting ∙ (same_setting q s.given.first fits.first ∙ ap (setting_at p calls squeues rings spread) (sym fits.number))

  pub suits : IsPlan p → items_together p ≤ 2 * 1048576 + 4096 → All (λ call. call.0 < length p.tuples) (all_calls calls) → Suits ghosts pool w
  suits plan few known =
      record {
        squeues =
            record {
              residents_are = is.residents.count;
              quotas_are = is.quotas.count;
              each = λ q first quotas at there.
                  let f = is.residents.each q first at in
                  let its = is.quotas.each q quotas there in
                  record {
                    passes = (let n = ap length its.are ∙ quotas_count p calls squeues rings spread q in omega (arith, n, is.calls_are.threads));
                    feeds = its.feeds;
                    asks = its.asks;
                    stands = subst (λ (n : ℕ). Stands first (first_here n q squeues)) (sym f.size) f.stands;
                  };
            };
        sizes = λ q first at. (is.residents.each q first at).size ∙ sym is.conns;
        same_origin = λ i j x y a b. (is.residents.each i x a).origin ∙ sym (is.residents.each j y b).origin;
        lists = is.lists.count;
        short_lists = λ r list at. list_few p plan few rings r list (is.lists.each r list at);
        order = λ r list at. order p plan rings r list (is.lists.each r list at);
        bring = λ r list q s at fits. may_bring limits_of p calls squeues rings spread s (made_for q s fits) plan r list (omega (arith, slice_get_within w.lists r list at, is.lists.count)) (is.lists.each r list at);
        short_calls = λ j. let n = is.calls_are.few j in omega (arith, n);
        make = λ j k c q s at fits.
            let cs = conns_of_thread calls w.calls j is.calls_are in
            let lt = of_thread w.calls j k c at in
            subst (λ (l : List ℕ). MayMake limits_of s j k (take k l) c) (sym cs)
            (may_make limits_of p calls squeues rings spread s (made_for q s fits) j (omega (arith, lt, is.calls_are.threads)) known k c (subst (λ (l : List ℕ). slice_get l k ≡ Some c) cs at));
      }
