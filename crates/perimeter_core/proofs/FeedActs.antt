-- Feeds that are done one after another.
use Rattle.std.proofs.Common.{◌≡◌, ℕ, Bool, true, false, if◌then◌else◌, ◌==◌, Option, Some, None, List, [], ◌∷◌, ◌++◌, refl, ap, sym, ◌∙◌, append_assoc}
use Rattle.std.proofs.lemmas.List.{append-nil}
use mathlib.Core.Path.{fun_ext}
use Rattle.perimeter_core.specs.declared.entries.Feed.{Feed}
use Rattle.perimeter_core.specs.declared.entries.Entry.{Entry}
use Rattle.perimeter_core.specs.declared.entries.Entry.TheVariants as Entry'
use Rattle.perimeter_core.specs.declared.entries.Act.{Act}
use Rattle.perimeter_core.specs.declared.entries.Act.TheVariants as Did
use Rattle.perimeter_core.specs.Deeds.{feed_acts, entries}
use Rattle.perimeter_core.specs.Blocks.{Blocks, longer, with_feeds}

kept_or_not : (b : Bool) (n : ℕ) (xs ys : List Act) → (if b then Did.Feed n ∷ (xs ++ ys) else (xs ++ ys)) ≡ (if b then Did.Feed n ∷ xs else xs) ++ ys
kept_or_not true n xs ys = refl
kept_or_not false n xs ys = refl

pub feed_acts-append : (c : ℕ) (xs ys : List Entry) → feed_acts c (xs ++ ys) ≡ feed_acts c xs ++ feed_acts c ys
feed_acts-append c [] ys = refl
feed_acts-append c (Entry'.Feed d n ∷ xs) ys = rw (feed_acts-append c xs ys) (kept_or_not (d == c) n (feed_acts c xs) (feed_acts c ys))
feed_acts-append c (Entry'.Ask p ∷ xs) ys = feed_acts-append c xs ys

pub longer_none : (o : Option (List Act)) → longer [] o ≡ o
longer_none None = refl
longer_none (Some had) = ap Some (append-nil had)

longer_twice : (a b : List Act) (o : Option (List Act)) → longer (a ++ b) o ≡ longer b (longer a o)
longer_twice a b None = refl
longer_twice a b (Some had) = ap Some (sym (append_assoc had a b))

pub with_none : (blocks : Blocks) → with_feeds [] blocks ≡ blocks
with_none blocks = fun_ext (λ c. longer_none (blocks c))

pub with_twice : (xs ys : List Entry) (blocks : Blocks) → with_feeds (xs ++ ys) blocks ≡ with_feeds ys (with_feeds xs blocks)
with_twice xs ys blocks = fun_ext (λ c. ap (λ a. longer a (blocks c)) (feed_acts-append c xs ys) ∙ longer_twice (feed_acts c xs) (feed_acts c ys) (blocks c))

pub entries_push : (fs : List Feed) (f : Feed) → entries (fs ++ f ∷ []) ≡ entries fs ++ Entry'.Feed f.c f.n ∷ []
entries_push [] f = refl
entries_push (g ∷ fs) f = ap (λ xs. Entry'.Feed g.c g.n ∷ xs) (entries_push fs f)
