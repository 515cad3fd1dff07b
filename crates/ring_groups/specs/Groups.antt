-- Groups, each of which one squeue serves.
use Rattle.std.specs.Prelude.{◌≡◌, ℕ, ◌+◌, ◌≤◌, List, [], ◌∷◌, ◌++◌, length}
use Rattle.ring_groups.specs.declared.groups.Group.{Group}
use Rattle.ring_groups.specs.declared.groups.Group.TheVariants as Group'

module _ {B A Z : Type 0} where
  -- what is in a group that is not served yet
  abbrev pub before_in : Group B A Z → List B
  before_in (Group'.Before all) = all.items
  before_in (Group'.After ended end) = []
  before_in Group'.Short = []

  -- all of it, group by group
  abbrev pub all_in : List (Group B A Z) → List B
  all_in [] = []
  all_in (g ∷ gs) = before_in g ++ all_in gs

  -- a squeue can serve it
  abbrev pub MayServe : Group B A Z → Type 0
  MayServe g = (1 ≤ length (before_in g)) × (length (before_in g) ≤ 63)

  -- it has as many as each would get, or one more
  abbrev pub IsEven : ℕ → Group B A Z → Type 0
  IsEven each g = (each ≤ length (before_in g)) × (length (before_in g) ≤ each + 1)

  abbrev pub AreGroups : List B → List (Group B A Z) → Type 0
  AreGroups all groups = all_in groups ≡ all

  -- how much has ended in a group, and in all of them
  abbrev pub ended_in : Group B A Z → ℕ
  ended_in (Group'.Before all) = 0
  ended_in (Group'.After ended end) = length ended.items
  ended_in Group'.Short = 0

  abbrev pub many_in : List (Group B A Z) → ℕ
  many_in [] = 0
  many_in (g ∷ gs) = ended_in g + many_in gs

  -- all groups have ended, and this is left of them, group by group, and this of their squeues
  abbrev pub HaveEnded : List (Group B A Z) → List A → List Z → Type 0
  HaveEnded [] ds zs = (ds ≡ []) × (zs ≡ [])
  HaveEnded (Group'.Before all ∷ gs) ds zs = ⊥
  HaveEnded (Group'.After ended end ∷ gs) ds zs =
      (more : List A) × (others : List Z) × (ds ≡ ended.items ++ more) × (zs ≡ end ∷ others) × HaveEnded gs more others
  HaveEnded (Group'.Short ∷ gs) ds zs = ⊥

-- for each before, by number, there is one after, of which this is so; and there is no other
abbrev pub AllBecame : {B A : Type 0} → (B → A → Type 0) → List B → List A → Type 0
AllBecame P [] [] = Unit {0}
AllBecame P [] (d ∷ ds) = ⊥
AllBecame P (e ∷ es) [] = ⊥
AllBecame P (e ∷ es) (d ∷ ds) = P e d × AllBecame P es ds

-- the same where what is so is of their number too, counted from the first one's
abbrev pub AllBecameFrom : {B A : Type 0} → (ℕ → B → A → Type 0) → ℕ → List B → List A → Type 0
AllBecameFrom P k [] [] = Unit {0}
AllBecameFrom P k [] (d ∷ ds) = ⊥
AllBecameFrom P k (e ∷ es) [] = ⊥
AllBecameFrom P k (e ∷ es) (d ∷ ds) = P k e d × AllBecameFrom P (k + 1) es ds

-- Of each squeue, in order, some of these are its own, at least one: of its end, and of those by their numbers there, this is so
abbrev pub AllOfGroups : {B A Z : Type 0} → (Z → ℕ → B → A → Type 0) → List Z → List B → List A → Type 0
AllOfGroups P [] es ds = (es ≡ []) × (ds ≡ [])
AllOfGroups {B} {A} P (z ∷ zs) es ds =
    (mine : List B) × (others : List B) × (its : List A) × (left : List A) × (1 ≤ length mine) × (es ≡ mine ++ others) × (ds ≡ its ++ left)
    × AllBecameFrom (P z) 0 mine its × AllOfGroups P zs others left

-- a group has ended so, or memory was missing for its squeue
abbrev pub IsServedOf : {B A Z : Type 0} → (Z → ℕ → B → A → Type 0) → List B → Group B A Z → Type 0
IsServedOf P es (Group'.Before more) = ⊥
IsServedOf P es (Group'.After ended end) = AllBecameFrom (P end) 0 es ended.items
IsServedOf P es Group'.Short = Unit {0}

abbrev pub HasServed : {B A Z : Type 0} → (Z → ℕ → B → A → Type 0) → Group B A Z → Group B A Z → Type 0
HasServed P old new = IsServedOf P (before_in old) new
