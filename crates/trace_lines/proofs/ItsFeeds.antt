-- The feeds that were read are those that the mark enters.
use Rattle.std.proofs.Common.{◌≡◌, List, subst, sym}
use Rattle.perimeter_core.specs.declared.entries.Feed.{Feed}
use Rattle.perimeter_core.specs.declared.marks.Kind.{Kind}
use Rattle.perimeter_core.specs.declared.marks.Kind.TheVariants as Kind'
use Rattle.squeue_replay.specs.Marks.{HasItsFeeds}

pub of_fill : (s : Kind) (fs : List Feed) → s ≡ Kind'.Fill → HasItsFeeds s fs
of_fill s fs is = subst (λ (x : Kind). HasItsFeeds x fs) (sym is) tt

pub of_claim : (s : Kind) (fs : List Feed) → s ≡ Kind'.Claim → HasItsFeeds s fs
of_claim s fs is = subst (λ (x : Kind). HasItsFeeds x fs) (sym is) tt
