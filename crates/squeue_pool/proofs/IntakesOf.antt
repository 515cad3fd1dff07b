-- The intakes of lists that are taken one after another.
use Rattle.std.proofs.Common.{◌≡◌, ℕ, ◌<◌, ◌^◌, suc, All, Some, List, [], ◌∷◌, ◌++◌, Vec, length, map, slice_get, append_assoc, refl, ap, sym, ◌∙◌, subst}
use Rattle.std.specs.declared.alloc.Global.{Global}
use Rattle.std.proofs.lemmas.List.{append-nil, map-append}
use Rattle.std.proofs.lemmas.Option.{slice_get_within}
use Rattle.perimeter_core.specs.declared.entries.Feed.{Feed}
use Rattle.histories.specs.Quotas.{pairs}
use Rattle.histories.proofs.ListPlaces.{some_at, got_map}
use Rattle.squeue_rings.specs.declared.intake.IntakeEnds.{IntakeEnds}
use Rattle.squeue_rings.specs.declared.intake.Intake.{Intake}
use Rattle.squeue_rings.proofs.Works.{got_or}
use Rattle.squeue_pool.specs.declared.work.Work.{Work}
use Rattle.squeue_pool.specs.Works.{work_by, work_of}
use Rattle.squeue_rings.specs.Tasks.{AreUnused, IsUnused}
use Rattle.squeue_rings.proofs.Tasked.{each_more}

abbrev pub list_in : IntakeEnds → List Feed
list_in e = e.intake.list.items

abbrev pub feeds_in : Vec Feed Global → List Feed
feeds_in v = v.items

-- of all these lists those that are left have no intake yet
pub record SoFar (all left : List (Vec Feed Global)) (intakes : List IntakeEnds) : Type 0 where
  pub are : map feeds_in all ≡ map list_in intakes ++ map feeds_in left
  pub short : (k : ℕ) (v : Vec Feed Global) → slice_get left k ≡ Some v → length v.items < 2 ^ 32
  pub unused : AreUnused intakes

short_at : (all : List (Vec Feed Global)) → All (λ list. length list.items < 2 ^ 32) all → (k : ℕ) (v : Vec Feed Global) → slice_get all k ≡ Some v → length v.items < 2 ^ 32
short_at all h k v is = subst (λ (u : Vec Feed Global). length u.items < 2 ^ 32) (got_or all k v v is) (h k v (slice_get_within all k v is))

pub none_yet : (all : List (Vec Feed Global)) → All (λ list. length list.items < 2 ^ 32) all → SoFar all all []
none_yet all h = record { are = refl; short = short_at all h; unused = λ r e is. cc is }

pub next_short : (all left : List (Vec Feed Global)) (v : Vec Feed Global) (intakes : List IntakeEnds) → SoFar all (v ∷ left) intakes → length v.items < 2 ^ 32
next_short all left v intakes h = h.short 0 v refl

pub one_more : (all left : List (Vec Feed Global)) (v : Vec Feed Global) (intakes : List IntakeEnds) (e : IntakeEnds) → SoFar all (v ∷ left) intakes → e.intake.list.items ≡ v.items → IsUnused e → SoFar all left (intakes ++ e ∷ [])
one_more all left v intakes e h same new =
    record {
      are = h.are ∙ (ap (λ (l : List Feed). map list_in intakes ++ (l ∷ map feeds_in left)) (sym same)
          ∙ (sym (append_assoc (map list_in intakes) (list_in e ∷ []) (map feeds_in left)) ∙ ap (λ (ls : List (List Feed)). ls ++ map feeds_in left) (sym (map-append list_in intakes (e ∷ [])))));
      short = λ k u is. h.short (suc k) u is;
      unused = λ r u is. each_more (λ (k : ℕ) (u : IntakeEnds). IsUnused u) intakes e h.unused new r u is;
    }

pub all_taken : (all : List (Vec Feed Global)) (intakes : List IntakeEnds) → SoFar all [] intakes → map list_in intakes ≡ map feeds_in all
all_taken all intakes h = sym (h.are ∙ append-nil (map list_in intakes))

lists_of_intakes : (es : List IntakeEnds) → map (λ (l : Intake). l.list.items) (map (λ (e : IntakeEnds). e.intake) es) ≡ map list_in es
lists_of_intakes [] = refl
lists_of_intakes (e ∷ es) = ap (λ ls. list_in e ∷ ls) (lists_of_intakes es)

-- the intakes have the lists of which they were made
pub intakes_have : (all : List (Vec Feed Global)) (es : List IntakeEnds) (intakes : List Intake) → intakes ≡ map (λ (e : IntakeEnds). e.intake) es → map list_in es ≡ map feeds_in all → map (λ (l : Intake). l.list.items) intakes ≡ map feeds_in all
intakes_have all es intakes are same = ap (map (λ (l : Intake). l.list.items)) are ∙ (lists_of_intakes es ∙ same)

-- the work by its parts
pub same_work : {R : Type 0} (it : Work R) (conns : ℕ) (intakes : List Intake) → conns ≡ it.conns → map (λ (l : Intake). l.list.items) intakes ≡ map feeds_in it.lists.items
    → work_by conns it.residents.items it.quotas.items intakes it.calls.items ≡ work_of it
same_work it conns intakes a b = λ i. record {
  conns = a i;
  residents = it.residents.items;
  quotas = map (λ v. pairs v.items) it.quotas.items;
  lists = b i;
  calls = map (λ v. v.items) it.calls.items;
}

pub all_short : (lists : List (Vec Feed Global)) → ((r : ℕ) (list : List Feed) → slice_get (map feeds_in lists) r ≡ Some list → length list < 2 ^ 32) → All (λ list. length list.items < 2 ^ 32) lists
all_short lists short k d lt =
    let v = some_at lists k lt in
    subst (λ (u : Vec Feed Global). length u.items < 2 ^ 32) (sym (got_or lists k v.0 d v.1)) (short k v.0.items (got_map feeds_in lists k v.0 v.1))
