-- The calls of the application threads, read one after another.
use Rattle.std.proofs.Common.{arith, ◌≡◌, ℕ, zero, suc, ◌+◌, ◌^◌, ◌<◌, ◌≤◌, All, List, [], ◌∷◌, ◌++◌, length, get_or, set, refl, subst, ◌∙◌, sym, ap, append_assoc, length-append}
use Rattle.std.specs.List.{enumerate_from, flat_map}
use Rattle.std.proofs.lemmas.List.{append-nil, length-set}
use Rattle.std.proofs.lemmas.List.Elements.{All-cons, All-head, All-tail, All-nil}
use Rattle.tcb_machine.specs.declared.kinds.Call.{Call}
use Rattle.conn_blocks.specs.CallLists.{CallLists, call_count, calls_of}
use Rattle.conn_blocks.specs.Limits.{callers, most_calls}
use Rattle.report_lines.specs.TraceText.{call_line, calls_text, thread_text}
use Rattle.trace_lines.specs.Printed.{ArePrintedCalls, BeginsWithCall, IsPrintedCall}
use Rattle.trace_lines.proofs.CallLines.{BeginsWith, begins, below_conns, printed_below, printed_wider, same_call}

abbrev pub EachCall : ℕ → List (ℕ × Call) → Type 0
EachCall conns [] = Unit {0}
EachCall conns (x ∷ xs) = IsPrintedCall conns x × EachCall conns xs

abbrev pub EachThread : ℕ → CallLists → Type 0
EachThread conns [] = Unit {0}
EachThread conns (l ∷ ls) = EachCall conns l × EachThread conns ls

abbrev ArePrintedOn : ℕ → List (ℕ × Call) → Type 0
ArePrintedOn conns l = All (IsPrintedCall conns) l

each_call : (conns : ℕ) (l : List (ℕ × Call)) → All (IsPrintedCall conns) l → EachCall conns l
each_call conns [] h = tt
each_call conns (x ∷ xs) h = (All-head (IsPrintedCall conns) x xs h, each_call conns xs (All-tail (IsPrintedCall conns) x xs h))

all_calls : (conns : ℕ) (l : List (ℕ × Call)) → EachCall conns l → All (IsPrintedCall conns) l
all_calls conns [] h = All-nil (IsPrintedCall conns)
all_calls conns (x ∷ xs) h = All-cons (IsPrintedCall conns) x xs h.0 (all_calls conns xs h.1)

each_thread : (conns : ℕ) (ls : CallLists) → All (ArePrintedOn conns) ls → EachThread conns ls
each_thread conns [] h = tt
each_thread conns (l ∷ ls) h = (each_call conns l (All-head (ArePrintedOn conns) l ls h), each_thread conns ls (All-tail (ArePrintedOn conns) l ls h))

all_threads : (conns : ℕ) (ls : CallLists) → EachThread conns ls → All (ArePrintedOn conns) ls
all_threads conns [] h = All-nil (ArePrintedOn conns)
all_threads conns (l ∷ ls) h = All-cons (ArePrintedOn conns) l ls (all_calls conns l h.0) (all_threads conns ls h.1)

-- threads without calls, and those above thread j
abbrev pub AreEmpty : CallLists → Type 0
AreEmpty [] = Unit {0}
AreEmpty (l ∷ ls) = (l ≡ []) × AreEmpty ls

abbrev pub AreEmptyAbove : ℕ → CallLists → Type 0
AreEmptyAbove j [] = Unit {0}
AreEmptyAbove zero (l ∷ ls) = AreEmpty ls
AreEmptyAbove (suc j) (l ∷ ls) = AreEmptyAbove j ls

empty_above : (j : ℕ) (ls : CallLists) → AreEmpty ls → AreEmptyAbove j ls
empty_above j [] h = tt
empty_above zero (l ∷ ls) h = h.1
empty_above (suc j) (l ∷ ls) h = empty_above j ls h.1

empty_higher : (i j : ℕ) (ls : CallLists) → i ≤ j → AreEmptyAbove i ls → AreEmptyAbove j ls
empty_higher i j [] le h = tt
empty_higher zero zero (l ∷ ls) le h = h
empty_higher zero (suc j) (l ∷ ls) le h = empty_above j ls h
empty_higher (suc i) zero (l ∷ ls) le h = absurd (omega (arith, le))
empty_higher (suc i) (suc j) (l ∷ ls) le h = empty_higher i j ls (omega (arith, le)) h

empty_set : (j : ℕ) (ls : CallLists) (v : List (ℕ × Call)) → AreEmptyAbove j ls → AreEmptyAbove j (set ls j v)
empty_set j [] v h = tt
empty_set zero (l ∷ ls) v h = h
empty_set (suc j) (l ∷ ls) v h = empty_set j ls v h

-- the calls of threads from k on
abbrev pub text_from : ℕ → CallLists → List ℕ
text_from k ls = flat_map thread_text (enumerate_from k ls)

empty_text : (k : ℕ) (ls : CallLists) → AreEmpty ls → text_from k ls ≡ []
empty_text k [] h = refl
empty_text k (l ∷ ls) h = ap (λ x. flat_map (call_line k) x ++ text_from (k + 1) ls) h.0 ∙ empty_text (k + 1) ls h.1

thread_push : (k : ℕ) (l : List (ℕ × Call)) (x : ℕ × Call) (t : List ℕ) → flat_map (call_line k) (l ++ x ∷ []) ++ t ≡ flat_map (call_line k) l ++ (call_line k x ++ t)
thread_push k [] x t = ap (λ y. y ++ t) (append-nil (call_line k x))
thread_push k (y ∷ l) x t =
    append_assoc (call_line k y) (flat_map (call_line k) (l ++ x ∷ [])) t
    ∙ (ap (λ z. call_line k y ++ z) (thread_push k l x t) ∙ sym (append_assoc (call_line k y) (flat_map (call_line k) l) (call_line k x ++ t)))

push_text : (k j : ℕ) (ls : CallLists) (x : ℕ × Call) (t : List ℕ) → j < length ls → AreEmptyAbove j ls → text_from k (set ls j (get_or ls j [] ++ x ∷ [])) ++ t ≡ text_from k ls ++ (call_line (k + j) x ++ t)
push_text k j [] x t below h = absurd (omega (arith, below))
push_text k zero (l ∷ ls) x t below h =
    let none : text_from (k + 1) ls ≡ [] = empty_text (k + 1) ls h in
    let here : text_from k ((l ++ x ∷ []) ∷ ls) ++ t ≡ flat_map (call_line k) (l ++ x ∷ []) ++ t =
    ap (λ y. y ++ t) (ap (λ y. flat_map (call_line k) (l ++ x ∷ []) ++ y) none ∙ append-nil (flat_map (call_line k) (l ++ x ∷ []))) in
    let there : text_from k (l ∷ ls) ≡ flat_map (call_line k) l = ap (λ y. flat_map (call_line k) l ++ y) none ∙ append-nil (flat_map (call_line k) l) in
    here ∙ (thread_push k l x t ∙ (ap (λ y. y ++ (call_line k x ++ t)) (sym there) ∙ ap (λ n. text_from k (l ∷ ls) ++ (call_line n x ++ t)) (omega arith)))
push_text k (suc j) (l ∷ ls) x t below h =
    append_assoc (flat_map (call_line k) l) (text_from (k + 1) (set ls j (get_or ls j [] ++ x ∷ []))) t
    ∙ (ap (λ y. flat_map (call_line k) l ++ y) (push_text (k + 1) j ls x t (omega (arith, below)) h ∙ ap (λ n. text_from (k + 1) ls ++ (call_line n x ++ t)) (omega arith))
    ∙ sym (append_assoc (flat_map (call_line k) l) (text_from (k + 1) ls) (call_line (k + suc j) x ++ t)))

push_count : (j : ℕ) (ls : CallLists) (x : ℕ × Call) → j < length ls → call_count (set ls j (get_or ls j [] ++ x ∷ [])) ≡ call_count ls + 1
push_count j [] x below = absurd (omega (arith, below))
push_count zero (l ∷ ls) x below = omega (arith, length-append l (x ∷ []))
push_count (suc j) (l ∷ ls) x below = omega (arith, push_count j ls x (omega (arith, below)))

each_call_push : (conns : ℕ) (l : List (ℕ × Call)) (x : ℕ × Call) → EachCall conns l → IsPrintedCall conns x → EachCall conns (l ++ x ∷ [])
each_call_push conns [] x h g = (g, tt)
each_call_push conns (y ∷ l) x h g = (h.0, each_call_push conns l x h.1 g)

each_push : (conns j : ℕ) (ls : CallLists) (x : ℕ × Call) → EachThread conns ls → IsPrintedCall conns x → EachThread conns (set ls j (get_or ls j [] ++ x ∷ []))
each_push conns j [] x h g = tt
each_push conns zero (l ∷ ls) x h g = (each_call_push conns l x h.0 g, h.1)
each_push conns (suc j) (l ∷ ls) x h g = (h.0, each_push conns j ls x h.1 g)

-- calls with their threads, in order of the threads from one on
abbrev pub AreDue : ℕ → ℕ → List (ℕ × (ℕ × Call)) → Type 0
AreDue conns last [] = Unit {0}
AreDue conns last ((j, x) ∷ due) = (last ≤ j) × (j < callers) × IsPrintedCall conns x × AreDue conns j due

abbrev pub due_text : List (ℕ × (ℕ × Call)) → List ℕ
due_text [] = []
due_text ((j, x) ∷ due) = call_line j x ++ due_text due

abbrev pub with_thread : ℕ → List (ℕ × Call) → List (ℕ × (ℕ × Call)) → List (ℕ × (ℕ × Call))
with_thread k [] due = due
with_thread k (x ∷ xs) due = (k, x) ∷ with_thread k xs due

abbrev pub due_from : ℕ → CallLists → List (ℕ × (ℕ × Call))
due_from k [] = []
due_from k (l ∷ ls) = with_thread k l (due_from (k + 1) ls)

thread_due_text : (k : ℕ) (l : List (ℕ × Call)) (due : List (ℕ × (ℕ × Call))) → due_text (with_thread k l due) ≡ flat_map (call_line k) l ++ due_text due
thread_due_text k [] due = refl
thread_due_text k (x ∷ xs) due = ap (λ y. call_line k x ++ y) (thread_due_text k xs due) ∙ sym (append_assoc (call_line k x) (flat_map (call_line k) xs) (due_text due))

all_due_text : (k : ℕ) (ls : CallLists) → due_text (due_from k ls) ≡ text_from k ls
all_due_text k [] = refl
all_due_text k (l ∷ ls) = thread_due_text k l (due_from (k + 1) ls) ∙ ap (λ y. flat_map (call_line k) l ++ y) (all_due_text (k + 1) ls)

thread_due_count : (k : ℕ) (l : List (ℕ × Call)) (due : List (ℕ × (ℕ × Call))) → length (with_thread k l due) ≡ length l + length due
thread_due_count k [] due = omega arith
thread_due_count k (x ∷ xs) due = omega (arith, thread_due_count k xs due)

all_due_count : (k : ℕ) (ls : CallLists) → length (due_from k ls) ≡ call_count ls
all_due_count k [] = refl
all_due_count k (l ∷ ls) = omega (arith, thread_due_count k l (due_from (k + 1) ls), all_due_count (k + 1) ls)

thread_due : (conns k last : ℕ) (l : List (ℕ × Call)) (due : List (ℕ × (ℕ × Call))) → k < callers → EachCall conns l → ((m : ℕ) → m ≤ k → AreDue conns m due) → last ≤ k → AreDue conns last (with_thread k l due)
thread_due conns k last [] due below h rest le = rest last le
thread_due conns k last (x ∷ xs) due below h rest le = (le, below, h.0, thread_due conns k k xs due below h.1 rest (omega arith))

all_due : (conns k last : ℕ) (ls : CallLists) → EachThread conns ls → k + length ls ≡ callers → last ≤ k → AreDue conns last (due_from k ls)
all_due conns k last [] h size le = tt
all_due conns k last (l ∷ ls) h size le =
    thread_due conns k last l (due_from (k + 1) ls) (omega (arith, size)) h.0 (λ m n. all_due conns (k + 1) m ls h.1 (omega (arith, size)) (omega (arith, n))) le

-- how far the calls were read: thread last's was the last one
pub record CallsRead (text : List ℕ) (conns : ℕ) (calls : CallLists) (rest : List ℕ) (last count : ℕ) : Type 0 where
  pub threads : length calls ≡ callers
  pub counted : call_count calls ≡ count
  pub each : EachThread conns calls
  pub above : AreEmptyAbove last calls
  pub read : text ≡ calls_text calls ++ rest
  pub owed : (cs : CallLists) (t : List ℕ) → ArePrintedCalls conns cs → (BeginsWithCall t → ⊥) → text ≡ calls_text cs ++ t
      → (due : List (ℕ × (ℕ × Call))) × (AreDue conns last due × (count + length due ≤ most_calls) × (rest ≡ due_text due ++ t))

pub calls_none : (text : List ℕ) (conns : ℕ) → CallsRead text conns ([] ∷ [] ∷ [] ∷ [] ∷ []) text 0 0
calls_none text conns = record {
  threads = refl;
  counted = refl;
  each = (tt, (tt, (tt, (tt, tt))));
  above = (refl, (refl, (refl, tt)));
  read = refl;
  owed = λ cs t h none e. (
    due_from 0 cs,
    (
      all_due conns 0 0 cs (each_thread conns cs h.each) (omega (arith, h.threads)) (omega arith),
      omega (arith, all_due_count 0 cs, h.few),
      e ∙ ap (λ y. y ++ t) (sym (all_due_text 0 cs)),
    ),
  );
}

owed_behind : (conns last count j c : ℕ) (call : Call) (rest others t : List ℕ) (due : List (ℕ × (ℕ × Call))) → conns < 2 ^ 32 → (BeginsWithCall t → ⊥) → BeginsWith rest j c call others
    → AreDue conns last due → count + length due ≤ most_calls → rest ≡ due_text due ++ t → (ds : List (ℕ × (ℕ × Call))) × (AreDue conns j ds × (count + 1 + length ds ≤ most_calls) × (others ≡ due_text ds ++ t))
owed_behind conns last count j c call rest others t [] few none b h l e =
    absurd (none (subst BeginsWithCall (sym b.2 ∙ e) (begins j c call others)))
owed_behind conns last count j c call rest others t ((k, (d, ask)) ∷ ds) few none b h l e =
    let both : call_line j (c, call) ++ others ≡ call_line k (d, ask) ++ (due_text ds ++ t) = sym b.2 ∙ (e ∙ append_assoc (call_line k (d, ask)) (due_text ds) t) in
    let same = same_call j k c d call ask others (due_text ds ++ t) b.0 b.1 (omega (arith, h.1)) (printed_wider conns d ask few h.2) both in
    (ds, (subst (λ n. AreDue conns n ds) (sym same.0) h.3, omega (arith, l), same.2))

-- a call is read and kept
pub calls_more : (text : List ℕ) (conns : ℕ) (calls : CallLists) (rest others : List ℕ) (last count j c : ℕ) (call : Call) → CallsRead text conns calls rest last count → conns < 2 ^ 32 → BeginsWith rest j c call others
    → last ≤ j → j < callers → c < conns → CallsRead text conns (set calls j (calls_of calls j ++ (c, call) ∷ [])) others j (count + 1)
calls_more text conns calls rest others last count j c call r few b le below on = record {
  threads = length-set calls j (calls_of calls j ++ (c, call) ∷ []) ∙ r.threads;
  counted = omega (arith, push_count j calls (c, call) (omega (arith, below, r.threads)), r.counted);
  each = each_push conns j calls (c, call) r.each (printed_below conns c call on b.1);
  above = empty_set j calls (calls_of calls j ++ (c, call) ∷ []) (empty_higher last j calls le r.above);
  read =
      let more : text_from 0 (set calls j (calls_of calls j ++ (c, call) ∷ [])) ++ others ≡ text_from 0 calls ++ (call_line (0 + j) (c, call) ++ others) =
      push_text 0 j calls (c, call) others (omega (arith, below, r.threads)) (empty_higher last j calls le r.above) in
      let own : call_line (0 + j) (c, call) ++ others ≡ rest = ap (λ n. call_line n (c, call) ++ others) (omega arith) ∙ sym b.2 in
      r.read ∙ sym (more ∙ ap (λ y. text_from 0 calls ++ y) own);
  owed = λ cs t h none e.
      let due = r.owed cs t h none e in
      owed_behind conns last count j c call rest others t due.0 few none b due.1.0 due.1.1 due.1.2;
}

-- no text of calls is owed
abbrev pub NoCalls : List ℕ → ℕ → Type 0
NoCalls text conns = (calls : CallLists) (rest : List ℕ) → ArePrintedCalls conns calls → (BeginsWithCall rest → ⊥) → text ≡ calls_text calls ++ rest → ⊥

owed_line : (conns last : ℕ) (rest t : List ℕ) (due : List (ℕ × (ℕ × Call))) → conns < 2 ^ 32 → BeginsWithCall rest → (BeginsWithCall t → ⊥)
    → ((j c : ℕ) (call : Call) (after : List ℕ) → j < 2 ^ 32 → IsPrintedCall (2 ^ 32) (c, call) → rest ≡ call_line j (c, call) ++ after → ⊥) → AreDue conns last due → rest ≡ due_text due ++ t → ⊥
owed_line conns last rest t [] few is none other h e = none (subst BeginsWithCall e is)
owed_line conns last rest t ((k, (d, ask)) ∷ ds) few is none other h e =
    other k d ask (due_text ds ++ t) (omega (arith, h.1)) (printed_wider conns d ask few h.2) (e ∙ append_assoc (call_line k (d, ask)) (due_text ds) t)

-- a line that begins as a call's and is none
pub other_line : (text : List ℕ) (conns : ℕ) (calls : CallLists) (rest : List ℕ) (last count : ℕ) → CallsRead text conns calls rest last count → conns < 2 ^ 32 → BeginsWithCall rest
    → ((j c : ℕ) (call : Call) (after : List ℕ) → j < 2 ^ 32 → IsPrintedCall (2 ^ 32) (c, call) → rest ≡ call_line j (c, call) ++ after → ⊥) → NoCalls text conns
other_line text conns calls rest last count r few is other cs t h none e =
    let due = r.owed cs t h none e in
    owed_line conns last rest t due.0 few is none other due.1.0 due.1.2

owed_other : (conns last j c : ℕ) (call : Call) (rest others t : List ℕ) (due : List (ℕ × (ℕ × Call))) → conns < 2 ^ 32 → BeginsWithCall rest → (BeginsWithCall t → ⊥) → BeginsWith rest j c call others
    → (last ≤ j → j < callers → c < conns → ⊥) → AreDue conns last due → rest ≡ due_text due ++ t → ⊥
owed_other conns last j c call rest others t [] few is none b out h e = none (subst BeginsWithCall e is)
owed_other conns last j c call rest others t ((k, (d, ask)) ∷ ds) few is none b out h e =
    let both : call_line j (c, call) ++ others ≡ call_line k (d, ask) ++ (due_text ds ++ t) = sym b.2 ∙ (e ∙ append_assoc (call_line k (d, ask)) (due_text ds) t) in
    let same = same_call j k c d call ask others (due_text ds ++ t) b.0 b.1 (omega (arith, h.1)) (printed_wider conns d ask few h.2) both in
    out (omega (arith, same.0, h.0)) (omega (arith, same.0, h.1)) (omega (arith, same.1, below_conns conns d ask h.2))

-- a call of an earlier thread, of no thread, or on no connection
pub out_of_order : (text : List ℕ) (conns : ℕ) (calls : CallLists) (rest others : List ℕ) (last count j c : ℕ) (call : Call) → CallsRead text conns calls rest last count → conns < 2 ^ 32 → BeginsWithCall rest → BeginsWith rest j c call others
    → (last ≤ j → j < callers → c < conns → ⊥) → NoCalls text conns
out_of_order text conns calls rest others last count j c call r few is b out cs t h none e =
    let due = r.owed cs t h none e in
    owed_other conns last j c call rest others t due.0 few is none b out due.1.0 due.1.2

owed_too_many : (count : ℕ) (rest t : List ℕ) (due : List (ℕ × (ℕ × Call))) → most_calls ≤ count → BeginsWithCall rest → (BeginsWithCall t → ⊥) → count + length due ≤ most_calls → rest ≡ due_text due ++ t → ⊥
owed_too_many count rest t [] full is none l e = none (subst BeginsWithCall e is)
owed_too_many count rest t ((k, x) ∷ ds) full is none l e = omega (arith, full, l)

-- one call too many
pub too_many : (text : List ℕ) (conns : ℕ) (calls : CallLists) (rest : List ℕ) (last count : ℕ) → CallsRead text conns calls rest last count → most_calls ≤ count → BeginsWithCall rest → NoCalls text conns
too_many text conns calls rest last count r full is cs t h none e =
    let due = r.owed cs t h none e in
    owed_too_many count rest t due.0 full is none due.1.1 due.1.2

-- all calls were read
pub calls_all : (text : List ℕ) (conns : ℕ) (calls : CallLists) (rest : List ℕ) (last count : ℕ) → CallsRead text conns calls rest last count → count ≤ most_calls → (BeginsWithCall rest → ⊥)
    → ArePrintedCalls conns calls × (BeginsWithCall rest → ⊥) × (text ≡ calls_text calls ++ rest)
calls_all text conns calls rest last count r few none =
    (record { threads = r.threads; few = omega (arith, r.counted, few); each = all_threads conns calls r.each }, none, r.read)
