-- Accepted words ask for a setup and calls such as lines can say.
use Rattle.std.proofs.Common.{◌≡◌, ℕ, ◌<◌, ◌≤◌, ◌==◌, Bool, true, false, Option, Some, None, List, [], ◌∷◌, suc, length, map, filter, refl, subst, if◌then◌else◌, arith}
use Rattle.std.specs.Prelude.{All, codes, option_and_then, option_map}
use Rattle.std.specs.Str.{bytes_eq}
use Rattle.std.proofs.lemmas.Bool.{false≢true}
use Rattle.std.proofs.lemmas.List.Elements.{All-cons, All-filter, All-from_recursion, All-map, All-nil}
use Rattle.tcb_machine.specs.declared.kinds.Call.{Call}
use Rattle.tcb_machine.specs.declared.kinds.Call.TheVariants as Asks
use Rattle.shell.specs.Asked.{calls_of}
use Rattle.shell.specs.Numbers.{number_between}
use Rattle.shell.specs.Words.{calls_in}
use Rattle.squeue_run.specs.Words.{Text}
use Rattle.squeue_run.specs.Asked.{Asked, asked, asked_of, buffer_by, call_by, call_of, go_together}
use Rattle.shell.specs.Parts.{split_at}
use Rattle.squeue_run.specs.CallWords.{AllThere, lists_of}
use Rattle.squeue_run.specs.declared.calls.CallWord.{CallWord}
use Rattle.shell.proofs.Chains.{chained, guarded, mapped, number_within, some_is}
use Rattle.squeue_run.proofs.InRange.{budget_most, parts_of, setup_in_range}
use Rattle.squeue_run.proofs.Threads.{few_asked, lists_count}
use Rattle.trace_lines.specs.Printed.{ArePrintedCalls, IsPrintedCall, IsPrintedSetup}

-- what a call asks for fits its line
abbrev IsShort : Call → Type 0
IsShort (Asks.Buffer n) = n ≤ 65535
IsShort _ = Unit {0}

buffer_short : (parts : Text × Text) (x : Call) → buffer_by parts ≡ Some x → IsShort x
buffer_short parts x e =
    let g = guarded (bytes_eq parts.0 (codes "buffer")) (option_map Asks.Buffer (number_between 0 65535 parts.1)) x e in
    let m = mapped Asks.Buffer (number_between 0 65535 parts.1) x g.1 in
    subst IsShort m.gives (number_within 0 65535 parts.1 m.value m.found).1

asked_short : (what : Text) (x : Call) → asked_of what ≡ Some x → IsShort x
asked_short what x = by (bytes_eq what (codes "status")) (bytes_eq what (codes "close"))
  where
    by : (a b : Bool) → (if a then Some Asks.Status else if b then Some Asks.Close else option_and_then buffer_by (split_at 61 what)) ≡ Some x → IsShort x
    by true b e = subst IsShort (some_is e) tt
    by false true e = subst IsShort (some_is e) tt
    by false false e = let parts = chained buffer_by (split_at 61 what) x e in buffer_short parts.value x parts.gives

call_short : (thread connection what : Text) (w : CallWord) → call_by thread connection what ≡ Some w → IsShort w.call
call_short thread connection what w e =
    let g = guarded (length thread == 1) _ w e in
    let j = chained _ (number_between 0 3 thread) w g.1 in
    let c = chained _ (number_between 0 4294967295 connection) w j.gives in
    let m = mapped _ (asked_of what) w c.gives in
    subst (λ (v : CallWord). IsShort v.call) m.gives (asked_short what m.value m.found)

word_short : (text : Text) (w : CallWord) → call_of text ≡ Some w → IsShort w.call
word_short text w e =
    let first = chained _ (split_at 58 text) w e in
    let second = chained _ (split_at 58 first.value.1) w first.gives in
    call_short first.value.0 second.value.0 second.value.1 w second.gives

abbrev AreShort : List CallWord → Type 0
AreShort ws = All (λ w. IsShort w.call) ws

words_short : (texts : List Text) (ws : List CallWord) → calls_of call_of texts ≡ Some ws → AreShort ws
words_short [] ws e = subst AreShort (some_is e) (All-nil (λ (w : CallWord). IsShort w.call))
words_short (t ∷ ts) ws e =
    let one = chained _ (call_of t) ws e in
    let more = mapped _ (calls_of call_of ts) ws one.gives in
    subst AreShort more.gives (All-cons (λ (w : CallWord). IsShort w.call) one.value more.value (word_short t one.value one.found) (words_short ts more.value more.found))

printed : (n : ℕ) (w : CallWord) → w.connection < n → IsShort w.call → IsPrintedCall n (w.connection, w.call)
printed n w there short = by w.call short
  where
    by : (x : Call) → IsShort x → IsPrintedCall n (w.connection, x)
    by (Asks.Buffer m) s = (there, s)
    by Asks.Status s = there
    by Asks.Close s = there

module _ (n : ℕ) where
  abbrev IsSaid : CallWord → Type 0
  IsSaid w = IsPrintedCall n (w.connection, w.call)

  words_said : (ws : List CallWord) → AllThere n ws → AreShort ws → All IsSaid ws
  words_said [] there short = All-nil IsSaid
  words_said (w ∷ ws) there short = All-cons IsSaid w ws (printed n w there.0 (short 0 w (omega arith))) (words_said ws there.1 (λ k d lt. short (suc k) d (omega (arith, lt))))

  list_said : (ws : List CallWord) (j : ℕ) → All IsSaid ws → All (IsPrintedCall n) (map (λ w. (w.connection, w.call)) (filter (λ w. w.thread == j) ws))
  list_said ws j said = All-map (IsPrintedCall n) (λ (w : CallWord). (w.connection, w.call)) (filter (λ w. w.thread == j) ws) (All-filter (λ w. w.thread == j) IsSaid ws said)

  lists_said : (ws : List CallWord) → All IsSaid ws → All (All (IsPrintedCall n)) (lists_of ws)
  lists_said ws said =
      All-from_recursion (All (IsPrintedCall n)) (lists_of ws) (list_said ws 0 said, (list_said ws 1 said, (list_said ws 2 said, (list_said ws 3 said, tt))))

-- beside a trace no input is generated
read_alone : (number : Option ℕ) (trace : Bool) (calls : ℕ) → go_together number trace calls ≡ true → trace ≡ true → number ≡ None
read_alone None trace calls e on = refl
read_alone (Some n) true calls e on = absurd (false≢true e)
read_alone (Some n) false calls e on = absurd (false≢true on)

pub setup_said : (words : List Text) (a : Asked) → asked words ≡ Some a → a.setup.trace ≡ true → IsPrintedSetup a.setup
setup_said words a e traced = record { range = setup_in_range words a e; budget = budget_most words a e; traced = traced }

pub calls_said : (words : List Text) (a : Asked) (n : ℕ) → asked words ≡ Some a → AllThere n a.calls → ArePrintedCalls n (lists_of a.calls)
calls_said words a n e there =
    let p = parts_of words a e in
    let short = subst AreShort p.same_calls (words_short (calls_in p.uses) p.given.calls p.calls_are) in
    let few = few_asked words a e in
    record {
      threads = refl;
      few = omega (arith, lists_count a.calls, few.count);
      each = lists_said n a.calls (words_said n a.calls there short);
    }

-- a traced run reads its input
pub traced_reads : (words : List Text) (a : Asked) → asked words ≡ Some a → a.setup.trace ≡ true → a.number ≡ None
traced_reads words a e = read_alone a.number a.setup.trace (length a.calls) (parts_of words a e).together
