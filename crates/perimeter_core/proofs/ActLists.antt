-- Lists of acts, places in a list, and blocks to which nothing was done.
use Rattle.std.proofs.Common.{◌≡◌, ◌≢◌, ℕ, zero, suc, ◌+◌, ◌<◌, Bool, true, false, Option, Some, is_some, get_or, List, [], ◌∷◌, ◌++◌, length, slice_get, slice_set, slice_index_or, refl, ap, sym, arith}
use Rattle.perimeter_core.specs.declared.entries.Act.{Act}
use Rattle.perimeter_core.specs.declared.entries.Act.TheVariants as Did
use Rattle.perimeter_core.specs.declared.entries.Entry.TheVariants as Entry'
use Rattle.perimeter_core.specs.declared.marks.SynchAct.TheVariants as Done
use Rattle.perimeter_core.specs.Deeds.{fed, feed_numbers}
use Rattle.perimeter_core.specs.Blocks.{Blocks, fresh, longer, none_done}
use Rattle.perimeter_core.specs.Residing.{HadFeeds, Here}
use Rattle.perimeter_core.specs.Backlog.{up}
use Rattle.perimeter_core.proofs.FeedLists.{up-append}

pub get_same : {A : Type 0} (xs : List A) (c : ℕ) (x : A) → c < length xs → slice_get (slice_set xs c x) c ≡ Some x
get_same [] c x h = absurd (omega arith)
get_same (y ∷ xs) zero x h = refl
get_same (y ∷ xs) (suc c) x h = get_same xs c x (omega arith)

pub get_other : {A : Type 0} (xs : List A) (c d : ℕ) (x : A) → c ≢ d → slice_get (slice_set xs c x) d ≡ slice_get xs d
get_other [] c d x h = refl
get_other (y ∷ xs) zero zero x h = absurd (h refl)
get_other (y ∷ xs) zero (suc d) x h = refl
get_other (y ∷ xs) (suc c) zero x h = refl
get_other (y ∷ xs) (suc c) (suc d) x h = get_other xs c d x (λ e. h (ap suc e))

pub feed_numbers-append : (xs ys : List Act) → feed_numbers (xs ++ ys) ≡ feed_numbers xs ++ feed_numbers ys
feed_numbers-append [] ys = refl
feed_numbers-append (Did.Feed n ∷ xs) ys = ap (λ ns. n ∷ ns) (feed_numbers-append xs ys)
feed_numbers-append (Did.Call j k ∷ xs) ys = feed_numbers-append xs ys

pub fed_is : (xs : List Act) → fed xs ≡ length (feed_numbers xs)
fed_is [] = refl
fed_is (Did.Feed n ∷ xs) = omega (arith, fed_is xs)
fed_is (Did.Call j k ∷ xs) = fed_is xs

pub up_next : (n : ℕ) → up 0 n ++ n ∷ [] ≡ up 0 (n + 1)
up_next n = let z : 0 + n ≡ n = omega arith in (rw z at (up-append 0 n 1))

pub some_longer : (o : Option (List Act)) (had more : List Act) → o ≡ Some had → longer more o ≡ Some (had ++ more)
some_longer o had more h = rw h refl

-- what was read at an index
pub got : {A : Type 0} (xs : List A) (c : ℕ) (x d : A) → c < length xs → x ≡ slice_index_or xs c d → slice_get xs c ≡ Some x
got [] c x d lt h = absurd (omega arith)
got (y ∷ xs) zero x d lt h = ap Some (sym h)
got (y ∷ xs) (suc c) x d lt h = got xs c x d (omega arith) h

pub here_of_feeds : (Stands : Blocks → Type 0) (c n : ℕ) → HadFeeds Stands c n → Here Stands c
here_of_feeds Stands c n h = record { blocks = h.blocks; had = h.had; stands = h.stands; here = h.here }

-- to new blocks nothing was done
fresh_empty : (b : Bool) (had : List Act) → fresh b ≡ Some had → had ≡ []
fresh_empty true had h = cc h
fresh_empty false had h = cc h

pub none_had : (starts : List Bool) (c : ℕ) (had : List Act) → none_done starts c ≡ Some had → had ≡ []
none_had starts c had h = fresh_empty (get_or starts c false) had h

pub is_fresh : (b : Bool) → is_some (fresh b) ≡ b
is_fresh true = refl
is_fresh false = refl
