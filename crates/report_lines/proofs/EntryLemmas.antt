-- Entries and the acts that they stand for.
use Rattle.std.proofs.Common.{◌≡◌, ℕ, ◌+◌, ◌-◌, ◌≤◌, List, [], ◌∷◌, ◌++◌, suc, zero, map, refl, sym, ap, subst, ◌∙◌, inl, inr, cond, eqb, arith}
use Rattle.std.specs.List.{flat_map, range_with_len, AllByRecursion}
use Rattle.std.proofs.lemmas.Bool.Decides.{eqb_tells}
use Rattle.perimeter_core.specs.declared.entries.Act.{Act}
use Rattle.perimeter_core.specs.declared.entries.Act.TheVariants as act
use Rattle.report_lines.specs.ReportText.{Entry, feeds, call, with_act, entries_of}
use Rattle.report_lines.specs.OrderLaw.{acts_of, AreMaximal}

-- a run has a feed
abbrev pub HasFeed : Entry → Type 0
HasFeed (feeds m n) = m ≤ n
HasFeed (call j k) = Unit {0}

alone : (n : ℕ) → acts_of (feeds n n) ≡ act.Feed n ∷ []
alone n = ap (λ c. map (λ k. act.Feed k) (range_with_len n c)) (let e : n + 1 - n ≡ suc zero = omega arith in e)

longer : (n m last : ℕ) → n + 1 ≡ m → m ≤ last → acts_of (feeds n last) ≡ act.Feed n ∷ acts_of (feeds m last)
longer n m last e le =
    ap (λ c. map (λ k. act.Feed k) (range_with_len n c)) (let c : last + 1 - n ≡ suc (last + 1 - m) = omega arith in c)
    ∙ ap (λ j. act.Feed n ∷ map (λ k. act.Feed k) (range_with_len j (last + 1 - m))) e

-- what one act more does
record Spells (a : Act) (es : List Entry) (new : List Entry) : Type 0 where
  acts : flat_map acts_of new ≡ a ∷ flat_map acts_of es
  some : AllByRecursion HasFeed new
  maximal : AreMaximal new

before_run : (n m last : ℕ) (es : List Entry) → m ≤ last → AllByRecursion HasFeed es → AreMaximal (feeds m last ∷ es)
    → Spells (act.Feed n) (feeds m last ∷ es) (cond (eqb (n + 1) m) (feeds n last ∷ es) (feeds n n ∷ feeds m last ∷ es))
before_run n m last es le some max = elim (eqb_tells (n + 1) m) [ inl h ↦ subst (λ b. Spells (act.Feed n) (feeds m last ∷ es) (cond b (feeds n last ∷ es) (feeds n n ∷ feeds m last ∷ es))) (sym h.0) (joins h.1) | inr h ↦ subst (λ b. Spells (act.Feed n) (feeds m last ∷ es) (cond b (feeds n last ∷ es) (feeds n n ∷ feeds m last ∷ es))) (sym h.0) (stands h.1) ]
  where
    same : (ds : List Entry) → AreMaximal (feeds m last ∷ ds) → AreMaximal (feeds n last ∷ ds)
    same [] h = tt
    same (call j k ∷ ds) h = h
    same (feeds k l ∷ ds) h = h

    joins : n + 1 ≡ m → Spells (act.Feed n) (feeds m last ∷ es) (feeds n last ∷ es)
    joins e = record { acts = ap (λ l. l ++ flat_map acts_of es) (longer n m last e le); some = let low : n ≤ last = omega arith in (low, some); maximal = same es max }

    stands : (n + 1 ≡ m → ⊥) → Spells (act.Feed n) (feeds m last ∷ es) (feeds n n ∷ feeds m last ∷ es)
    stands ne = record { acts = ap (λ l. l ++ flat_map acts_of (feeds m last ∷ es)) (alone n); some = let low : n ≤ n = omega arith in (low, (le, some)); maximal = (ne, max) }

one_act : (a : Act) (es : List Entry) → AllByRecursion HasFeed es → AreMaximal es → Spells a es (with_act a es)
one_act (act.Call j k) es some max = record { acts = refl; some = (tt, some); maximal = max }
one_act (act.Feed n) [] some max = record { acts = ap (λ l. l ++ []) (alone n); some = let low : n ≤ n = omega arith in (low, tt); maximal = tt }
one_act (act.Feed n) (call j k ∷ es) some max = record { acts = ap (λ l. l ++ (act.Call j k ∷ flat_map acts_of es)) (alone n); some = let low : n ≤ n = omega arith in (low, some); maximal = max }
one_act (act.Feed n) (feeds m last ∷ es) some max = before_run n m last es some.0 some.1 max

record Whole (order : List Act) : Type 0 where
  acts : flat_map acts_of (entries_of order) ≡ order
  some : AllByRecursion HasFeed (entries_of order)
  maximal : AreMaximal (entries_of order)

whole : (order : List Act) → Whole order
whole [] = record { acts = refl; some = tt; maximal = tt }
whole (a ∷ order) =
    let rest = whole order in
    let more = one_act a (entries_of order) rest.some rest.maximal in
    record { acts = more.acts ∙ ap (λ l. a ∷ l) rest.acts; some = more.some; maximal = more.maximal }

pub entries_are_the_order : (order : List Act) → flat_map acts_of (entries_of order) ≡ order
entries_are_the_order order = (whole order).acts

pub entries_are_maximal : (order : List Act) → AreMaximal (entries_of order)
entries_are_maximal order = (whole order).maximal
