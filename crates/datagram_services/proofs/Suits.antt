-- The streams of a plan are work that squeues can do: work by key, with the items of each stream as its feeds.
use Rattle.std.proofs.Common.{◌≡◌, ℕ, ◌≤◌, ◌^◌, [], length, map, sum, ap, sym, ◌∙◌, subst, arith}
use Rattle.std.proofs.lemmas.List.{length-map}
use Rattle.std.proofs.lemmas.List.Sums.{sum-map}
use Rattle.perimeter_core.specs.History.{Limits}
use Rattle.placed_parts.specs.Standing.{first_here}
use Rattle.squeue_pool.specs.declared.pool.Pool.{Pool}
use Rattle.squeue_pool.specs.Keys.{HaveKeys}
use Rattle.squeue_pool.specs.Works.{Suits, WorkOf}
use Rattle.squeue_pool.proofs.ByKey.{keys_suit}
use Rattle.stream_plan.specs.Sound.{IsMorePlan}
use Rattle.stream_plan.specs.Streams.{MorePlanOf, item_count}
use Rattle.datagram_services.specs.contracts.blocks.StreamBlocksResident.TheImpl.{ghosts}
use Rattle.datagram_services.specs.declared.blocks.StreamBlocks.{StreamBlocks}
use Rattle.datagram_services.specs.Standing.{Stands, limits_of}
use Rattle.datagram_services.specs.Fits.{counts_of}
use Rattle.datagram_services.specs.Work.{IsFirst, IsWorkFor}

-- the limits of a squeue's first resident
pub its_limits : (p : MorePlanOf) (squeues q : ℕ) (r : StreamBlocks) → IsFirst p squeues q r → limits_of r ≡ record { feeds = counts_of p; leaves = []; calls = [] }
its_limits p squeues q r first = λ i. record { feeds = map item_count (first.origin i).streams; leaves = []; calls = first.calls i }

module _ (p : MorePlanOf) (sound : IsMorePlan p) (pool : Pool) (w : WorkOf StreamBlocks) (work : IsWorkFor p pool.pace.homes.squeues pool.rings w) (still : pool.pace.homes.spread ≡ 0) (some_rings : 1 ≤ pool.rings) where
  abbrev squeues : ℕ
  squeues = pool.pace.homes.squeues

  counted : length (counts_of p) ≡ length p.streams
  counted = length-map p.streams item_count

  few : sum (counts_of p) ≤ 2 ^ 30
  few = omega (arith, sum-map item_count p.streams, sound.together)

  have : HaveKeys ghosts squeues (counts_of p) w.residents
  have =
      record {
        residents_are = work.count;
        sizes = λ q first at. (work.first q first at).size ∙ sym counted;
        stand = λ q first at. subst (λ (n : ℕ). Stands first (first_here n q squeues)) (sym counted) (work.first q first at).stands;
        feeds = λ q first at. ap (λ (m : Limits). m.feeds) (its_limits p squeues q first (work.first q first at));
        same_origin = λ i j x y a b. (work.first i x a).origin ∙ sym (work.first j y b).origin;
      }

  pub suits : Suits ghosts pool w
  suits = subst (Suits ghosts pool) (sym work.by_key) (keys_suit ghosts pool (counts_of p) w.residents some_rings still few have)

-- the same work by the pool
pub by_pool : (p : MorePlanOf) (pool : Pool) (n r : ℕ) (w : WorkOf StreamBlocks) → pool.pace.homes.squeues ≡ n → pool.rings ≡ r → IsWorkFor p n r w → IsWorkFor p pool.pace.homes.squeues pool.rings w
by_pool p pool n r w a b work = subst (λ (k : ℕ). IsWorkFor p k pool.rings w) (sym a) (subst (λ (k : ℕ). IsWorkFor p n k w) (sym b) work)
