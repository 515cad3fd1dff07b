-- The CALLs of accepted words: at most 1,024, of the four threads; and their lists, one CALL further.
use Rattle.std.proofs.Common.{◌≡◌, ℕ, ◌<◌, ◌≤◌, ◌==◌, Bool, true, false, List, [], ◌∷◌, ◌++◌, suc, length, map, filter, zero, get_or, set, Some, refl, sym, ap, subst, ◌∙◌, arith, if◌then◌else◌, append-nil, eq-eqb, ◌⊎◌, inl, inr}
use Rattle.std.specs.List.{AllByRecursion}
use Rattle.std.proofs.lemmas.Bool.{cases_lt, eqb-true, leb-true}
use Rattle.std.proofs.lemmas.List.{map-append}
use Rattle.std.proofs.lemmas.List.Elements.{filter-append}
use Rattle.tcb_machine.specs.declared.kinds.Call.{Call}
use Rattle.conn_blocks.specs.CallLists.{calls_of as list_of, call_count}
use Rattle.conn_blocks.specs.Limits.{callers, most_calls}
use Rattle.squeue_run.specs.Words.{Text}
use Rattle.shell.specs.Parts.{split_at}
use Rattle.squeue_run.specs.Asked.{Asked, asked, call_of, call_by, asked_of}
use Rattle.squeue_run.specs.CallWords.{lists_of}
use Rattle.squeue_run.specs.declared.calls.CallWord.{CallWord}
use Rattle.shell.proofs.Chains.{chained, mapped, guarded, number_within, some_is}
use Rattle.shell.specs.Asked.{calls_of}
use Rattle.shell.specs.Numbers.{number_between}
use Rattle.shell.specs.Words.{calls_in}
use Rattle.squeue_run.proofs.InRange.{parts_of}

call_thread : (thread connection what : Text) (w : CallWord) → call_by thread connection what ≡ Some w → w.thread < callers
call_thread thread connection what w e =
    let g = guarded (length thread == 1) _ w e in
    let j = chained _ (number_between 0 3 thread) w g.1 in
    let c = chained _ (number_between 0 4294967295 connection) w j.gives in
    let m = mapped _ (asked_of what) w c.gives in
    let most = (number_within 0 3 thread j.value j.found).1 in
    let same : j.value ≡ w.thread = ap (λ (v : CallWord). v.thread) m.gives in
    omega (arith, most, same)

word_thread : (text : Text) (w : CallWord) → call_of text ≡ Some w → w.thread < callers
word_thread text w e =
    let first = chained _ (split_at 58 text) w e in
    let second = chained _ (split_at 58 first.value.1) w first.gives in
    call_thread first.value.0 second.value.0 second.value.1 w second.gives

pub record FewCalls (texts : List Text) (ws : List CallWord) : Type 0 where
  pub count : length ws ≡ length texts
  pub threads : AllByRecursion (λ w. w.thread < callers) ws

few_calls : (texts : List Text) (ws : List CallWord) → calls_of call_of texts ≡ Some ws → FewCalls texts ws
few_calls [] ws e = subst (FewCalls []) (some_is e) (record { count = refl; threads = tt })
few_calls (t ∷ ts) ws e =
    let one = chained _ (call_of t) ws e in
    let more = mapped _ (calls_of call_of ts) ws one.gives in
    let rest = few_calls ts more.value more.found in
    subst (FewCalls (t ∷ ts)) more.gives (record { count = ap suc rest.count; threads = (word_thread t one.value one.found, rest.threads) })

pub record Few (ws : List CallWord) : Type 0 where
  pub count : length ws ≤ most_calls
  pub threads : AllByRecursion (λ w. w.thread < callers) ws

pub few_asked : (words : List Text) (a : Asked) → asked words ≡ Some a → Few a.calls
few_asked words a e =
    let p = parts_of words a e in
    let few = few_calls (calls_in p.uses) p.given.calls p.calls_are in
    let most = leb-true (length (calls_in p.uses)) most_calls p.few in
    subst Few p.same_calls (record { count = omega (arith, few.count, most); threads = few.threads })

-- a filter of one element
alone : {X : Type 0} (f : X → Bool) (x : X) → filter f (x ∷ []) ≡ (if f x then x ∷ [] else [])
alone f x = by (f x) refl
  where
    by : (b : Bool) → f x ≡ b → filter f (x ∷ []) ≡ (if f x then x ∷ [] else [])
    by true e = rw e refl
    by false e = rw e refl

-- the lists of the CALLs, one CALL further
module _ (ws : List CallWord) (w : CallWord) where
  abbrev old : ℕ → List (ℕ × Call)
  old j = map (λ v. (v.connection, v.call)) (filter (λ v. v.thread == j) ws)

  abbrev new : ℕ → List (ℕ × Call)
  new j = map (λ v. (v.connection, v.call)) (filter (λ v. v.thread == j) (ws ++ w ∷ []))

  pushed : (j : ℕ) → new j ≡ old j ++ map (λ v. (v.connection, v.call)) (if w.thread == j then w ∷ [] else [])
  pushed j =
      ap (map (λ v. (v.connection, v.call))) (filter-append (λ v. v.thread == j) ws (w ∷ []) ∙ ap (λ l. filter (λ v. v.thread == j) ws ++ l) (alone (λ v. v.thread == j) w))
      ∙ map-append (λ v. (v.connection, v.call)) (filter (λ v. v.thread == j) ws) (if w.thread == j then w ∷ [] else [])

  theirs : (j : ℕ) → (w.thread == j) ≡ false → new j ≡ old j
  theirs j e = pushed j ∙ ap (λ b. old j ++ map (λ v. (v.connection, v.call)) (if b then w ∷ [] else [])) e ∙ append-nil (old j)

  own : (j : ℕ) → w.thread ≡ j → new j ≡ old j ++ (w.connection, w.call) ∷ []
  own j e = pushed j ∙ ap (λ b. old j ++ map (λ v. (v.connection, v.call)) (if b then w ∷ [] else [])) (eq-eqb w.thread j e)

  apart : (i j : ℕ) → w.thread ≡ i → (i == j) ≡ false → (w.thread == j) ≡ false
  apart i j e f = ap (λ t. t == j) e ∙ f

  abbrev Pushes : ℕ → Type 0
  Pushes t = lists_of (ws ++ w ∷ []) ≡ set (lists_of ws) t (list_of (lists_of ws) t ++ (w.connection, w.call) ∷ [])

  first : w.thread ≡ 0 → Pushes 0
  first e = (λ k. own 0 e k ∷ theirs 1 (apart 0 1 e refl) k ∷ theirs 2 (apart 0 2 e refl) k ∷ theirs 3 (apart 0 3 e refl) k ∷ [])

  second : w.thread ≡ 1 → Pushes 1
  second e = (λ k. theirs 0 (apart 1 0 e refl) k ∷ own 1 e k ∷ theirs 2 (apart 1 2 e refl) k ∷ theirs 3 (apart 1 3 e refl) k ∷ [])

  third_of : w.thread ≡ 2 → Pushes 2
  third_of e = (λ k. theirs 0 (apart 2 0 e refl) k ∷ theirs 1 (apart 2 1 e refl) k ∷ own 2 e k ∷ theirs 3 (apart 2 3 e refl) k ∷ [])

  fourth : w.thread ≡ 3 → Pushes 3
  fourth e = (λ k. theirs 0 (apart 3 0 e refl) k ∷ theirs 1 (apart 3 1 e refl) k ∷ theirs 2 (apart 3 2 e refl) k ∷ own 3 e k ∷ [])

  pub lists_push : w.thread < callers → Pushes w.thread
  lists_push lt = by (cases_lt w.thread 1) (cases_lt w.thread 2) (cases_lt w.thread 3)
    where
      by : (w.thread < 1) ⊎ (1 ≤ w.thread) → (w.thread < 2) ⊎ (2 ≤ w.thread) → (w.thread < 3) ⊎ (3 ≤ w.thread) → Pushes w.thread
      by (inl a) b c = let e : w.thread ≡ 0 = omega (arith, a) in subst Pushes (sym e) (first e)
      by (inr a) (inl b) c = let e : w.thread ≡ 1 = omega (arith, a, b) in subst Pushes (sym e) (second e)
      by (inr a) (inr b) (inl c) = let e : w.thread ≡ 2 = omega (arith, b, c) in subst Pushes (sym e) (third_of e)
      by (inr a) (inr b) (inr c) = let e : w.thread ≡ 3 = omega (arith, c, lt) in subst Pushes (sym e) (fourth e)

-- how many CALLs the lists hold
pub lists_count : (ws : List CallWord) → call_count (lists_of ws) ≤ length ws
lists_count [] = omega arith
lists_count (w ∷ ws) = by (w.thread == 0) (w.thread == 1) (w.thread == 2) (w.thread == 3) refl refl refl refl (lists_count ws)
  where
    sole : (i j : ℕ) → (w.thread == i) ≡ true → (i == j) ≡ false → (w.thread == j) ≡ false
    sole i j e f = ap (λ t. t == j) (eqb-true w.thread i e) ∙ f

    by : (a b c d : Bool) → (w.thread == 0) ≡ a → (w.thread == 1) ≡ b → (w.thread == 2) ≡ c → (w.thread == 3) ≡ d
        → call_count (lists_of ws) ≤ length ws → call_count (lists_of (w ∷ ws)) ≤ length (w ∷ ws)
    by true b c d ea eb ec ed h = rw (ea, sole 0 1 ea refl, sole 0 2 ea refl, sole 0 3 ea refl) (omega (arith, h))
    by false true c d ea eb ec ed h = rw (ea, eb, sole 1 2 eb refl, sole 1 3 eb refl) (omega (arith, h))
    by false false true d ea eb ec ed h = rw (ea, eb, ec, sole 2 3 ec refl) (omega (arith, h))
    by false false false true ea eb ec ed h = rw (ea, eb, ec, ed) (omega (arith, h))
    by false false false false ea eb ec ed h = rw (ea, eb, ec, ed) (omega (arith, h))

-- a CALL of the words has a thread
pub thread_at : (ws : List CallWord) (i : ℕ) (d : CallWord) → AllByRecursion (λ w. w.thread < callers) ws → i < length ws → (get_or ws i d).thread < callers
thread_at [] i d all lt = absurd (omega (arith, lt))
thread_at (w ∷ ws) zero d all lt = all.0
thread_at (w ∷ ws) (suc i) d all lt = thread_at ws i d all.1 (omega (arith, lt))
