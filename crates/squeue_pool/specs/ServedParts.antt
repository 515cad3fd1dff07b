-- What contracts see of parts that were served by key.
use Rattle.std.specs.Prelude.{ℕ, List, length}
use Rattle.placed_parts.specs.declared.parts.Parts.{Ghosts}
use Rattle.placed_parts.specs.declared.places.Places.{Places}
use Rattle.squeue_pool.specs.declared.pool.Pool.{Pool}
use Rattle.squeue_pool.specs.declared.served.ServedParts.{ServedParts}
use Rattle.squeue_pool.specs.Keys.{key_work}
use Rattle.squeue_pool.specs.Placed.{AreNew, HaveHad, as_resident}
use Rattle.squeue_pool.specs.Runs.{HasRun}

module _ {S P O : Type 0} {G : Ghosts S P O} where
  -- what all parts share
  abbrev pub shared_of : ServedParts S P O G → S
  shared_of v = v.shared

  -- how many feeds each connection has had
  abbrev pub counts_of : ServedParts S P O G → List ℕ
  counts_of v = v.counts.items

  -- each connection has had all its feeds
  abbrev pub IsServed : ServedParts S P O G → Type 0
  IsServed v = HaveHad v.shared v.counts.items v.left.items

  -- It was served by the squeues and rings of this pool, from places where nothing was done: what is left of each squeue is what its
  -- history made of these
  pub record WasServedBy (pool : Pool) (v : ServedParts S P O G) : Type 0 where
    pub residents : List (Places S P O G)
    pub new : AreNew v.shared (length v.counts.items) pool.pace.homes.squeues residents
    pub ran : HasRun (as_resident G) pool (key_work pool.pace.homes.squeues pool.rings v.counts.items residents) v.left.items
