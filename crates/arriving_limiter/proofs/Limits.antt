-- What the requests of a channel are answered.
use Rattle.std.proofs.Common.{◌≡◌, ◌<◌, ℕ, zero, suc, Bool, Some, List, [], ◌∷◌, ◌++◌, length, map, slice_get, slice_index_or, refl, ap, sym, ◌∙◌, subst, arith}
use Rattle.std.specs.Prelude.{All}
use Rattle.std.proofs.lemmas.List.Elements.{All-cons, All-head, All-nil, All-tail}
use Rattle.key_limiter.specs.Limiting.{decided_from, decisions_of, full, level_after, level_by, passes}
use Rattle.key_limiter.specs.declared.limiter.Level.{Level}
use Rattle.squeue_streams.specs.Taking.{Takes}
use Rattle.squeue_arrivals.specs.Arriving.{IsMadeOf, items_for, keys_of, refused_in}
use Rattle.squeue_arrivals.specs.Channelling.{is_hung_up, received_by}
use Rattle.squeue_arrivals.specs.declared.channelled.Channelled.{Channelled}
use Rattle.squeue_arrivals.specs.declared.served.KeyPart.{KeyPart}
use Rattle.squeue_answers.specs.Answering.{ByAnswered, IsAnswered, answers_in, items_in}
use Rattle.squeue_answers.specs.Keeping.{kept_of}
use Rattle.squeue_answers.specs.declared.serving.AnsweredSource.{AnsweredSource}
use Rattle.squeue_answers.specs.declared.sinks.Kept.{Kept}
use Rattle.ring_groups.specs.Groups.{AllBecame}
use Rattle.arriving_limiter.specs.declared.Limiting.{Limiting}
use Rattle.arriving_limiter.specs.Limited.{IsLimited}

-- a bucket answers whether the request passes
abbrev pub Answers : Limiting → Level → ℕ → Bool → Level → Type 0
Answers w level time passed next = (passed ≡ passes w.limit level time) × (next ≡ level_after w.limit level time)

-- requests that are answered one after another
decided : (w : Limiting) (from to : Level) (xs : List (ℕ × Bool)) → Takes (λ level x next. Answers w level x.0 x.1 next) from xs to
    → (map (λ x. x.1) xs ≡ decided_from w.limit from (map (λ x. x.0) xs)) × (to ≡ level_by w.limit from (map (λ x. x.0) xs))
decided w from to [] took = (refl, took)
decided w from to (x ∷ xs) took =
    let more = decided w took.0 to xs took.2 in
    let rest : map (λ x. x.1) xs ≡ decided_from w.limit (level_after w.limit from x.0) (map (λ x. x.0) xs) = more.0 ∙ ap (λ (l : Level). decided_from w.limit l (map (λ x. x.0) xs)) took.1.1 in
    ((λ i. took.1.0 i ∷ rest i), more.1 ∙ ap (λ (l : Level). level_by w.limit l (map (λ x. x.0) xs)) took.1.1)

-- from a full bucket on
made : (w : Limiting) (xs : List (ℕ × Bool)) (level : Level) → IsMadeOf (λ (v : Limiting) level. level ≡ full v.limit) (ByAnswered Answers) w xs level
    → (map (λ x. x.1) xs ≡ decisions_of w.limit (map (λ x. x.0) xs)) × (level ≡ level_by w.limit (full w.limit) (map (λ x. x.0) xs))
made w xs level m =
    let so = decided w m.first level xs m.taken in
    let times : List ℕ = map (λ x. x.0) xs in
    (so.0 ∙ ap (λ (l : Level). decided_from w.limit l times) m.begun, so.1 ∙ ap (λ (l : Level). level_by w.limit l times) m.begun)

-- the part with this key
part_at : {S : Type 0} (parts : List (KeyPart S)) (i k : ℕ) → i < length (keys_of parts) → slice_index_or (keys_of parts) i k ≡ k → (part : KeyPart S) × (slice_get parts i ≡ Some part) × (part.key ≡ k)
part_at [] i k less is = absurd (omega (arith, less))
part_at (p ∷ parts) zero k less is = (p, refl, is)
part_at (p ∷ parts) (suc i) k less is = part_at parts i k (omega (arith, less)) is

-- a channel and a list from which and to which nothing came
abbrev pub IsFresh : {W : Type 0} → Channelled ℕ W × Kept Bool → Type 0
IsFresh s = (received_by s.0 ≡ []) × (kept_of s.1 ≡ [])

module _ {V : Type 0} (w : Limiting) (most : ℕ) where
  abbrev pub WasAnswered : Channelled ℕ V × Kept Bool → AnsweredSource (Channelled ℕ V) (Kept Bool) ℕ Level → Type 0
  WasAnswered =
      IsAnswered {O = Unit {0}} (λ w level. level ≡ full w.limit) Answers (λ s. tt) received_by is_hung_up kept_of w most

  limited : (source : Channelled ℕ V × Kept Bool) (left : AnsweredSource (Channelled ℕ V) (Kept Bool) ℕ Level) → IsFresh source → WasAnswered source left → IsLimited w.limit most left
  limited source left fresh was =
      record {
        all = was.all;
        its_requests = was.its_items.gave ∙ ap (λ (l : List (ℕ × ℕ)). l ++ items_in was.all ++ refused_in left.refused) fresh.0;
        all_came = was.its_items.over;
        its_answers = was.its_answers ∙ ap (λ (l : List Bool). l ++ answers_in was.all) fresh.1;
        by_rule = λ k. ruled k (items_for k was.all) refl;
        few = was.few;
        distinct = was.distinct;
        each = λ i part at. ((was.each i part at).0, (made w (items_for part.key was.all) part.state (was.each i part at).1).1);
        every = was.every;
        cause = was.its_items.cause;
      }
    where
      ruled : (k : ℕ) (xs : List (ℕ × Bool)) → items_for k was.all ≡ xs → map (λ x. x.1) (items_for k was.all) ≡ decisions_of w.limit (map (λ x. x.0) (items_for k was.all))
      ruled k [] is = ap (map (λ x. x.1)) is ∙ sym (ap (λ (l : List (ℕ × Bool)). decisions_of w.limit (map (λ x. x.0) l)) is)
      ruled k (x ∷ xs) is =
          let there = was.every k (λ none. absurd (cc (sym none ∙ is))) in
          let part = part_at left.parts.items there.0 k there.1 there.2 in
          (made w (items_for k was.all) part.0.state (subst (λ (n : ℕ). IsMadeOf (λ (v : Limiting) level. level ≡ full v.limit) (ByAnswered Answers) w (items_for n was.all) part.0.state) {x = part.0.key} part.2 (was.each there.0 part.0 part.1).1)).0

  pub all_limited : (sources : List (Channelled ℕ V × Kept Bool)) (lefts : List (AnsweredSource (Channelled ℕ V) (Kept Bool) ℕ Level))
      → All IsFresh sources → AllBecame WasAnswered sources lefts → (length lefts ≡ length sources) × All (IsLimited w.limit most) lefts
  all_limited [] [] fresh x = (refl, All-nil (IsLimited w.limit most))
  all_limited [] (l ∷ ls) fresh x = absurd x
  all_limited (s ∷ ss) [] fresh x = absurd x
  all_limited (s ∷ ss) (l ∷ ls) fresh x =
      let more = all_limited ss ls (All-tail IsFresh s ss fresh) x.1 in
      (ap suc more.0, All-cons (IsLimited w.limit most) l ls (limited s l (All-head IsFresh s ss fresh) x.0) more.1)
