-- The block of one connection after a feed and after a call.
use Rattle.std.proofs.Common.{◌≡◌, ℕ, true, ◌==◌, Some, List, [], ◌∷◌, ◌++◌, refl, arith}
use Rattle.std.proofs.lemmas.Bool.Decides.{nat_tests}
use Rattle.perimeter_core.specs.declared.entries.Act.{Act}
use Rattle.perimeter_core.specs.declared.entries.Act.TheVariants as Did
use Rattle.perimeter_core.specs.declared.entries.Entry.TheVariants as Entry'
use Rattle.perimeter_core.specs.declared.marks.SynchAct.TheVariants as Done
use Rattle.perimeter_core.specs.Blocks.{Blocks, with_feeds, with_act}

pub after_feed : (blocks : Blocks) (c n : ℕ) (had : List Act) → blocks c ≡ Some had → with_feeds (Entry'.Feed c n ∷ []) blocks c ≡ Some (had ++ Did.Feed n ∷ [])
after_feed blocks c n had h = let one : (c == c) ≡ true = grind (arith, nat_tests) in rw (one, h) refl

pub after_call : (blocks : Blocks) (c j k : ℕ) (had : List Act) → blocks c ≡ Some had → with_act (Done.Call c j k) [] blocks c ≡ Some (had ++ Did.Call j k ∷ [])
after_call blocks c j k had h = let one : (c == c) ≡ true = grind (arith, nat_tests) in rw (one, h) refl
