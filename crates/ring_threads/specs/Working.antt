-- What a run has to do for a plan.
use Rattle.std.specs.Prelude.{◌≡◌, ℕ, ◌≤◌, Some, List, length, slice_get}
use Rattle.histories.specs.Quotas.{ask_quotas}
use Rattle.histories.specs.Limits.{most_asks, most_feeds}
use Rattle.perimeter_core.specs.History.{feed_quotas}
use Rattle.placed_parts.specs.Standing.{first_here}
use Rattle.squeue_pool.specs.declared.pool.Pool.{Pool}
use Rattle.squeue_pool.specs.Works.{WorkOf}
use Rattle.conn_classifier.specs.Plan.{PlanOf}
use Rattle.conn_classifier.specs.RingList.{IsRingList}
use Rattle.conn_blocks.specs.declared.blocks.Blocks.{Blocks}
use Rattle.conn_blocks.specs.Allowed.{limits_in}
use Rattle.conn_blocks.specs.CallLists.{AreConnsOf, CallLists}
use Rattle.conn_blocks.specs.Places.{Stands, limits_of, origin_of, size_of}
use Rattle.ring_quotas.specs.declared.setup.Setup.{Setup}
use Rattle.ring_quotas.specs.Quotas.{quotas_of}

-- the setup of which a run is
abbrev pub setup_of : Pool → Setup
setup_of pool =
    record {
      squeues = pool.pace.homes.squeues;
      rings = pool.rings;
      mode = pool.pace.mode;
      budget = pool.pace.budget;
      spread = pool.pace.homes.spread;
      trace = pool.trace;
    }

-- there are so many, and each is so, by its number
pub record AreEach {A : Type 0} (Is : ℕ → A → Type 0) (n : ℕ) (xs : List A) : Type 0 where
  pub count : length xs ≡ n
  pub each : (k : ℕ) (x : A) → slice_get xs k ≡ Some x → Is k x

module _ (p : PlanOf) (calls : CallLists) (setup : Setup) where
  -- at these blocks just those connections are here, as new, that are first at home at squeue q
  pub record IsFirst (q : ℕ) (first : Blocks) : Type 0 where
    pub stands : Stands first (first_here (length p.tuples) q setup.squeues)
    pub size : size_of first ≡ length p.tuples
    pub limits : limits_of first ≡ limits_in p calls q setup.squeues setup.spread
    pub origin : origin_of first ≡ record { plan = p; calls = calls }

  -- the quotas are those of squeue q, which can have as many
  pub record AreQuotas (q : ℕ) (quotas : List (ℕ × ℕ)) : Type 0 where
    pub are : quotas ≡ quotas_of p calls setup.squeues setup.rings setup.spread q
    pub feeds : feed_quotas quotas ≤ most_feeds
    pub asks : ask_quotas quotas ≤ most_asks

  -- each squeue begins with its blocks and quotas, each ring brings its list, and each application thread makes its calls
  pub record IsWorkFor (w : WorkOf Blocks) : Type 0 where
    pub conns : w.conns ≡ length p.tuples
    pub residents : AreEach IsFirst setup.squeues w.residents
    pub quotas : AreEach AreQuotas setup.squeues w.quotas
    pub lists : AreEach (IsRingList p setup.rings) setup.rings w.lists
    pub calls_are : AreConnsOf calls w.calls
