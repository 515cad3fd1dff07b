-- The text from the setup on fixes what it says.
use Rattle.std.proofs.Common.{◌≡◌, ℕ, ◌+◌, ◌^◌, ◌<◌, ◌==◌, Bool, true, false, if◌then◌else◌, List, [], ◌∷◌, ◌++◌, length, map, refl, ap, sym, ◌∙◌, append_assoc, arith, eq-eqb}
use Rattle.std.specs.Prelude.{All, codes}
use Rattle.std.specs.Fmt.{decimal}
use Rattle.std.specs.List.{enumerate_from, flat_map}
use Rattle.std.proofs.lemmas.Bool.{ne_eqb}
use Rattle.std.proofs.lemmas.List.{length-map}
use Rattle.std.proofs.lemmas.Grind.{flat_map-append}
use Rattle.std.proofs.lemmas.Fmt.{decimal_injective}
use Rattle.std.proofs.lemmas.List.Elements.{All-head, All-tail}
use Rattle.perimeter_core.specs.declared.entries.Entry.{Entry}
use Rattle.perimeter_core.specs.declared.entries.Entry.TheVariants.{Ask, Feed}
use Rattle.perimeter_core.specs.declared.marks.Mark.{Mark}
use Rattle.perimeter_core.specs.declared.marks.Mark.TheVariants as On
use Rattle.perimeter_core.specs.declared.marks.SynchAct.{SynchAct}
use Rattle.perimeter_core.specs.declared.marks.SynchAct.TheVariants as Done
use Rattle.tcb_machine.specs.declared.kinds.Call.{Call}
use Rattle.tcb_machine.specs.declared.kinds.Call.TheVariants as Asks
use Rattle.histories.specs.declared.mode.Mode.{Mode}
use Rattle.histories.specs.declared.mode.Mode.TheVariants as Mode'
use Rattle.histories.specs.ModeWords.{mode_word}
use Rattle.conn_blocks.specs.CallLists.{CallLists}
use Rattle.ring_quotas.specs.declared.setup.Setup.{Setup}
use Rattle.report_lines.specs.ReportText.{done_line, line}
use Rattle.report_lines.specs.TraceText.{act_fields, asked_text, call_line, entered_field, mark_fields, mark_line, setup_line, squeue_line, squeue_text, thread_text}
use Rattle.squeue_replay.specs.Marks.{IsPrinted}
use Rattle.trace_lines.specs.Printed.{IsPrintedCall, IsTold, Told, told_text}
use Rattle.trace_replay.proofs.Decode.{call_back, call_from, call_word, mark_back, mark_from, same_word, setup_back, setup_from, setup_words, thread_back, thread_from, verify_back, verify_from, word_decimal}
use Rattle.trace_replay.proofs.FirstLines.{same_front}
use Rattle.trace_replay.proofs.Words.{AreLines, AreWords, Line, Stops, all_both, all_of, apart, in_word, is_word, lines_apart, text_of, words_of}
use Rattle.conn_classifier.specs.Rules.{usual}

-- the lines, by words
abbrev mark_words : Mark → Line
mark_words (On.Fill p es) = (codes "fill", decimal p ∷ map entered_field es)
mark_words (On.Fast p e) = (codes "fast", decimal p ∷ entered_field e ∷ [])
mark_words (On.Claim p es) = (codes "claim", decimal p ∷ map entered_field es)
mark_words (On.Take p) = (codes "take", decimal p ∷ [])
mark_words (On.Leave p rest did) = (codes "leave", decimal p ∷ decimal rest ∷ act_fields did)
mark_words (On.Ask p) = (codes "ask", decimal p ∷ [])
mark_words (On.Grant p j rest) = (codes "grant", decimal p ∷ decimal j ∷ decimal rest ∷ [])
mark_words (On.Accept j) = (codes "accept", decimal j ∷ [])
mark_words (On.Work p) = (codes "work", decimal p ∷ [])
mark_words (On.Close p) = (codes "close", decimal p ∷ [])

mark_fields_are : (m : Mark) → mark_fields m ≡ words_of (mark_words m)
mark_fields_are (On.Fill p es) = refl
mark_fields_are (On.Fast p e) = refl
mark_fields_are (On.Claim p es) = refl
mark_fields_are (On.Take p) = refl
mark_fields_are (On.Leave p rest did) = refl
mark_fields_are (On.Ask p) = refl
mark_fields_are (On.Grant p j rest) = refl
mark_fields_are (On.Accept j) = refl
mark_fields_are (On.Work p) = refl
mark_fields_are (On.Close p) = refl

abbrev call_line_of : ℕ → ℕ × Call → Line
call_line_of j x = (codes "call", call_word j x ∷ [])

abbrev call_block : ℕ × List (ℕ × Call) → List Line
call_block (j, calls) = map (call_line_of j) calls

abbrev squeue_words : ℕ → ℕ → Line
squeue_words q count = (codes "squeue", decimal q ∷ codes "marks" ∷ decimal count ∷ [])

abbrev mark_block : ℕ × List Mark → List Line
mark_block (q, marks) = squeue_words q (length marks) ∷ map mark_words marks

abbrev call_lines : ℕ → CallLists → List Line
call_lines n calls = flat_map call_block (enumerate_from n calls)

abbrev mark_lines : ℕ → List (List Mark) → List Line
mark_lines n marks = flat_map mark_block (enumerate_from n marks)

abbrev done_words : Line
done_words = (codes "done", [])

abbrev lines_of : Told → List Line
lines_of t = (codes "setup", setup_words t.setup t.verify) ∷ (call_lines 0 t.calls ++ (mark_lines 0 t.marks ++ done_words ∷ []))

-- the text is that of its lines
one_call : (j : ℕ) (x : ℕ × Call) → call_line j x ≡ text_of (call_line_of j x)
unfolding call_line
one_call j (c, a) = refl

one_mark : (m : Mark) → mark_line m ≡ text_of (mark_words m)
unfolding mark_line
one_mark m = ap line (mark_fields_are m)

one_head : (q n : ℕ) → squeue_line q n ≡ text_of (squeue_words q n)
unfolding squeue_line
one_head q n = refl

one_setup : (s : Setup) (verify : Bool) → setup_line s (usual verify) ≡ text_of (codes "setup", setup_words s verify)
unfolding setup_line
one_setup s verify = refl

block_text : {X : Type 0} (f : X → List ℕ) (g : X → Line) (xs : List X) → ((x : X) → f x ≡ text_of (g x)) → flat_map f xs ≡ flat_map text_of (map g xs)
block_text f g [] h = refl
block_text f g (x ∷ xs) h = λ i. h x i ++ block_text f g xs h i

calls_are : (n : ℕ) (calls : CallLists) → flat_map thread_text (enumerate_from n calls) ≡ flat_map text_of (call_lines n calls)
calls_are n [] = refl
calls_are n (xs ∷ calls) =
    (λ i. block_text (call_line n) (call_line_of n) xs (one_call n) i ++ calls_are (n + 1) calls i)
    ∙ sym (flat_map-append text_of (map (call_line_of n) xs) (call_lines (n + 1) calls))

marks_are : (n : ℕ) (marks : List (List Mark)) → flat_map squeue_text (enumerate_from n marks) ≡ flat_map text_of (mark_lines n marks)
marks_are n [] = refl
marks_are n (ms ∷ marks) =
    (λ i. (one_head n (length ms) i ++ block_text mark_line mark_words ms one_mark i) ++ marks_are (n + 1) marks i)
    ∙ sym (flat_map-append text_of (mark_block (n, ms)) (mark_lines (n + 1) marks))

told_lines : (t : Told) → told_text t ≡ flat_map text_of (lines_of t)
told_lines t =
    (λ i. one_setup t.setup t.verify i ++ (calls_are 0 t.calls i ++ (marks_are 0 t.marks i ++ done_line)))
    ∙ ap (λ (l : List ℕ). text_of (codes "setup", setup_words t.setup t.verify) ++ (flat_map text_of (call_lines 0 t.calls) ++ l)) (sym (flat_map-append text_of (mark_lines 0 t.marks) (done_words ∷ [])))
    ∙ ap (λ (l : List ℕ). text_of (codes "setup", setup_words t.setup t.verify) ++ l) (sym (flat_map-append text_of (call_lines 0 t.calls) (mark_lines 0 t.marks ++ done_words ∷ [])))

-- all of its words are words
word_more : (f : List ℕ) (rest : List ℕ) → is_word f ≡ true → is_word rest ≡ true → is_word (f ++ rest) ≡ true
word_more f rest h k = all_both in_word f rest h k

word_entered : (e : Entry) → is_word (entered_field e) ≡ true
word_entered (Feed c n) = word_more (decimal c) (46 ∷ decimal n) (word_decimal c) (word_decimal n)
word_entered (Ask p) = refl

words_map : {X : Type 0} (f : X → List ℕ) (xs : List X) → ((x : X) → is_word (f x) ≡ true) → AreWords (map f xs)
words_map f [] h = tt
words_map f (x ∷ xs) h = (h x, words_map f xs h)

words_act : (a : SynchAct) → AreWords (act_fields a)
words_act Done.None = (refl, tt)
words_act (Done.Call c j k) = (refl, (word_decimal c, (word_decimal j, (word_decimal k, tt))))
words_act Done.Away = (refl, tt)
words_act (Done.Out c) = (refl, (word_decimal c, tt))
words_act (Done.In c) = (refl, (word_decimal c, tt))

words_mark : (m : Mark) → AreWords (words_of (mark_words m))
words_mark (On.Fill p es) = (refl, (word_decimal p, words_map entered_field es word_entered))
words_mark (On.Fast p e) = (refl, (word_decimal p, (word_entered e, tt)))
words_mark (On.Claim p es) = (refl, (word_decimal p, words_map entered_field es word_entered))
words_mark (On.Take p) = (refl, (word_decimal p, tt))
words_mark (On.Leave p rest did) = (refl, (word_decimal p, (word_decimal rest, words_act did)))
words_mark (On.Ask p) = (refl, (word_decimal p, tt))
words_mark (On.Grant p j rest) = (refl, (word_decimal p, (word_decimal j, (word_decimal rest, tt))))
words_mark (On.Accept j) = (refl, (word_decimal j, tt))
words_mark (On.Work p) = (refl, (word_decimal p, tt))
words_mark (On.Close p) = (refl, (word_decimal p, tt))

pub word_asked : (a : Call) → is_word (asked_text a) ≡ true
word_asked Asks.Status = refl
word_asked (Asks.Buffer n) = word_decimal n
word_asked Asks.Close = refl

word_call : (j : ℕ) (x : ℕ × Call) → is_word (call_word j x) ≡ true
word_call j (c, a) = word_more (decimal j) (58 ∷ (decimal c ++ 58 ∷ asked_text a)) (word_decimal j) (word_more (decimal c) (58 ∷ asked_text a) (word_decimal c) (word_asked a))

pub word_mode : (m : Mode) → is_word (mode_word m) ≡ true
unfolding mode_word
word_mode Mode'.Process = refl
word_mode Mode'.NoDrain = refl
word_mode Mode'.Fill = refl

words_setup : (s : Setup) (verify : Bool) → AreWords (setup_words s verify)
words_setup s verify =
    (refl, (word_decimal s.squeues, (refl, (word_decimal s.rings, (refl, (word_mode s.mode, (refl, (word_decimal s.budget, (refl, (word_decimal s.spread, (refl, (word_decimal (if verify then 1 else 0), tt))))))))))))

lines_both : (ls ms : List Line) → AreLines ls → AreLines ms → AreLines (ls ++ ms)
lines_both [] ms a b = b
lines_both (l ∷ ls) ms a b = (a.0, lines_both ls ms a.1 b)

lines_map : {X : Type 0} (g : X → Line) (xs : List X) → ((x : X) → AreWords (words_of (g x))) → AreLines (map g xs)
lines_map g [] h = tt
lines_map g (x ∷ xs) h = (h x, lines_map g xs h)

calls_lines : (n : ℕ) (calls : CallLists) → AreLines (call_lines n calls)
calls_lines n [] = tt
calls_lines n (xs ∷ calls) = lines_both (map (call_line_of n) xs) (call_lines (n + 1) calls) (lines_map (call_line_of n) xs (λ x. (refl, (word_call n x, tt)))) (calls_lines (n + 1) calls)

marks_lines : (n : ℕ) (marks : List (List Mark)) → AreLines (mark_lines n marks)
marks_lines n [] = tt
marks_lines n (ms ∷ marks) =
    lines_both (mark_block (n, ms)) (mark_lines (n + 1) marks) ((refl, (word_decimal n, (refl, (word_decimal (length ms), tt)))), lines_map mark_words ms words_mark) (marks_lines (n + 1) marks)

all_lines : (t : Told) → AreLines (lines_of t)
all_lines t = (
  (refl, words_setup t.setup t.verify),
  lines_both (call_lines 0 t.calls) (mark_lines 0 t.marks ++ done_words ∷ []) (calls_lines 0 t.calls) (lines_both (mark_lines 0 t.marks) (done_words ∷ []) (marks_lines 0 t.marks) ((refl, tt), tt)),
)

-- the lines of calls fix the calls
abbrev is_call_line : Line → Bool
is_call_line l = same_word l.0 (codes "call")

calls_call : (n : ℕ) (calls : CallLists) → all_of is_call_line (call_lines n calls) ≡ true
calls_call n [] = refl
calls_call n (xs ∷ calls) = all_both is_call_line (map (call_line_of n) xs) (call_lines (n + 1) calls) (block xs) (calls_call (n + 1) calls)
  where
    block : (xs : List (ℕ × Call)) → all_of is_call_line (map (call_line_of n) xs) ≡ true
    block [] = refl
    block (x ∷ xs) = block xs

marks_stop : (marks : List (List Mark)) → Stops is_call_line (mark_lines 0 marks ++ done_words ∷ [])
marks_stop [] = refl
marks_stop (ms ∷ marks) = refl

-- the thread of a call's line
abbrev first_of : List (List ℕ) → List ℕ
first_of [] = []
first_of (w ∷ ws) = w

abbrev is_of : ℕ → Line → Bool
is_of n l = thread_from (first_of l.1) == n

of_block : (n : ℕ) (xs : List (ℕ × Call)) → n < 2 ^ 64 → all_of (is_of n) (map (call_line_of n) xs) ≡ true
of_block n [] small = refl
of_block n (x ∷ xs) small =
    ap (λ (b : Bool). if b then all_of (is_of n) (map (call_line_of n) xs) else false) (eq-eqb (thread_from (call_word n x)) n (thread_back n x small)) ∙ of_block n xs small

later_stops : (n m : ℕ) (calls : CallLists) → n < m → m + length calls < 2 ^ 64 → Stops (is_of n) (call_lines m calls)
later_stops n m [] lt small = tt
later_stops n m ([] ∷ calls) lt small = later_stops n (m + 1) calls (omega (arith, lt)) (omega (arith, small))
later_stops n m ((x ∷ xs) ∷ calls) lt small =
    ne_eqb (thread_from (call_word m x)) n (λ e. (let t = thread_back m x (omega (arith, small)) in let no : ⊥ = omega (arith, e, t, lt) in no))

fits_call : (conns : ℕ) (x : ℕ × Call) → conns < 2 ^ 64 → IsPrintedCall conns x → (j : ℕ) → call_from (call_word j x) ≡ x
fits_call conns (c, Asks.Status) small h j = call_back j c Asks.Status (omega (arith, h, small)) tt
fits_call conns (c, Asks.Close) small h j = call_back j c Asks.Close (omega (arith, h, small)) tt
fits_call conns (c, Asks.Buffer n) small h j = call_back j c (Asks.Buffer n) (let a = h.0 in omega (arith, a, small)) (let b = h.1 in omega (arith, b))

threads_once : (conns more n : ℕ) (calls others : CallLists) → conns < 2 ^ 64 → more < 2 ^ 64 → All (λ thread. All (IsPrintedCall conns) thread) calls → All (λ thread. All (IsPrintedCall more) thread) others
    → length calls ≡ length others → n + length calls < 2 ^ 64 → call_lines n calls ≡ call_lines n others → calls ≡ others
threads_once conns more n [] [] s u a b same small e = refl
threads_once conns more n [] (ys ∷ others) s u a b same small e = absurd (let no : ⊥ = omega (arith, same) in no)
threads_once conns more n (xs ∷ calls) [] s u a b same small e = absurd (let no : ⊥ = omega (arith, same) in no)
threads_once conns more n (xs ∷ calls) (ys ∷ others) s u a b same small e =
    let part = apart (is_of n) (map (call_line_of n) xs) (map (call_line_of n) ys) (call_lines (n + 1) calls) (call_lines (n + 1) others)
    (of_block n xs (omega (arith, small))) (of_block n ys (omega (arith, small)))
    (later_stops n (n + 1) calls (omega arith) (omega (arith, small))) (later_stops n (n + 1) others (omega arith) (omega (arith, small, same))) e in
    let here : xs ≡ ys = calls_two xs ys (All-head (λ thread. All (IsPrintedCall conns) thread) xs calls a) (All-head (λ thread. All (IsPrintedCall more) thread) ys others b) part.0 in
    λ i. here i ∷ threads_once conns more (n + 1) calls others s u (All-tail (λ thread. All (IsPrintedCall conns) thread) xs calls a) (All-tail (λ thread. All (IsPrintedCall more) thread) ys others b) (omega (arith, same)) (omega (arith, small)) part.1 i
  where
    calls_two : (xs ys : List (ℕ × Call)) → All (IsPrintedCall conns) xs → All (IsPrintedCall more) ys → map (call_line_of n) xs ≡ map (call_line_of n) ys → xs ≡ ys
    calls_two [] [] a b e = refl
    calls_two [] (y ∷ ys) a b e = absurd (let no : ⊥ = cc e in no)
    calls_two (x ∷ xs) [] a b e = absurd (let no : ⊥ = cc e in no)
    calls_two (x ∷ xs) (y ∷ ys) a b e =
        let first : call_line_of n x ≡ call_line_of n y = cc e in
        let others : map (call_line_of n) xs ≡ map (call_line_of n) ys = cc e in
        let same : x ≡ y =
        sym (fits_call conns x s (All-head (IsPrintedCall conns) x xs a) n)
        ∙ (ap (λ (l : Line). call_from (first_of l.1)) first ∙ fits_call more y u (All-head (IsPrintedCall more) y ys b) n) in
        λ i. same i ∷ calls_two xs ys (All-tail (IsPrintedCall conns) x xs a) (All-tail (IsPrintedCall more) y ys b) others i

-- the lines of marks fix the marks
marks_once : (ms ns : List Mark) → All IsPrinted ms → All IsPrinted ns → map mark_words ms ≡ map mark_words ns → ms ≡ ns
marks_once [] [] a b e = refl
marks_once [] (n ∷ ns) a b e = absurd (let no : ⊥ = cc e in no)
marks_once (m ∷ ms) [] a b e = absurd (let no : ⊥ = cc e in no)
marks_once (m ∷ ms) (n ∷ ns) a b e =
    let first : mark_words m ≡ mark_words n = cc e in
    let others : map mark_words ms ≡ map mark_words ns = cc e in
    let back : (x : Mark) → IsPrinted x → mark_from (words_of (mark_words x)) ≡ x = λ x h. ap mark_from (sym (mark_fields_are x)) ∙ mark_back x h in
    let same : m ≡ n = sym (back m (All-head IsPrinted m ms a)) ∙ (ap (λ (l : Line). mark_from (words_of l)) first ∙ back n (All-head IsPrinted n ns b)) in
    λ i. same i ∷ marks_once ms ns (All-tail IsPrinted m ms a) (All-tail IsPrinted n ns b) others i

abbrev third_of : List (List ℕ) → List ℕ
third_of (a ∷ b ∷ c ∷ ws) = c
third_of _ = []

squeues_once : (n : ℕ) (marks others : List (List Mark)) → All (λ ms. length ms < 2 ^ 64) marks → All (λ ms. length ms < 2 ^ 64) others → All (λ ms. All IsPrinted ms) marks → All (λ ms. All IsPrinted ms) others
    → length marks ≡ length others → mark_lines n marks ++ done_words ∷ [] ≡ mark_lines n others ++ done_words ∷ [] → marks ≡ others
squeues_once n [] [] f g a b same e = refl
squeues_once n [] (ns ∷ others) f g a b same e = absurd (let no : ⊥ = omega (arith, same) in no)
squeues_once n (ms ∷ marks) [] f g a b same e = absurd (let no : ⊥ = omega (arith, same) in no)
squeues_once n (ms ∷ marks) (ns ∷ others) f g a b same e =
    let Few : List Mark → Type 0 = λ ms. length ms < 2 ^ 64 in
    let Each : List Mark → Type 0 = λ ms. All IsPrinted ms in
    let first : squeue_words n (length ms) ≡ squeue_words n (length ns) = cc e in
    let counts : decimal (length ms) ≡ decimal (length ns) = ap (λ (l : Line). third_of l.1) first in
    let many : length ms ≡ length ns = decimal_injective (length ms) (length ns) (All-head Few ms marks f) (All-head Few ns others g) counts in
    let rest : (map mark_words ms ++ mark_lines (n + 1) marks) ++ done_words ∷ [] ≡ (map mark_words ns ++ mark_lines (n + 1) others) ++ done_words ∷ [] = cc e in
    let turned = sym (append_assoc (map mark_words ms) (mark_lines (n + 1) marks) (done_words ∷ [])) ∙ (rest ∙ append_assoc (map mark_words ns) (mark_lines (n + 1) others) (done_words ∷ [])) in
    let parts = same_front (map mark_words ms) (map mark_words ns) (mark_lines (n + 1) marks ++ done_words ∷ []) (mark_lines (n + 1) others ++ done_words ∷ []) (length-map ms mark_words ∙ (many ∙ sym (length-map ns mark_words))) turned in
    let here : ms ≡ ns = marks_once ms ns (All-head Each ms marks a) (All-head Each ns others b) parts.0 in
    λ i. here i ∷ squeues_once (n + 1) marks others (All-tail Few ms marks f) (All-tail Few ns others g) (All-tail Each ms marks a) (All-tail Each ns others b) (omega (arith, same)) parts.1 i

abbrev second_of : List Line → List (List ℕ)
second_of [] = []
second_of (l ∷ ls) = l.1

abbrev others_of : List Line → List Line
others_of [] = []
others_of (l ∷ ls) = ls

pub told_once : (conns more : ℕ) (t u : Told) → conns < 2 ^ 64 → more < 2 ^ 64 → IsTold conns t → IsTold more u → told_text t ≡ told_text u → t ≡ u
told_once conns more t u small few a b e =
    let lines : lines_of t ≡ lines_of u = lines_apart (lines_of t) (lines_of u) (all_lines t) (all_lines u) (sym (told_lines t) ∙ (e ∙ told_lines u)) in
    let head : setup_words t.setup t.verify ≡ setup_words u.setup u.verify = ap (λ (ls : List Line). second_of ls) lines in
    let setup : t.setup ≡ u.setup = sym (setup_back t.setup t.verify a.setup) ∙ (ap setup_from head ∙ setup_back u.setup u.verify b.setup) in
    let verify : t.verify ≡ u.verify = sym (verify_back t.setup t.verify) ∙ (ap verify_from head ∙ verify_back u.setup u.verify) in
    let rest : call_lines 0 t.calls ++ (mark_lines 0 t.marks ++ done_words ∷ []) ≡ call_lines 0 u.calls ++ (mark_lines 0 u.marks ++ done_words ∷ []) = ap (λ (ls : List Line). others_of ls) lines in
    let parts = apart is_call_line (call_lines 0 t.calls) (call_lines 0 u.calls) (mark_lines 0 t.marks ++ done_words ∷ []) (mark_lines 0 u.marks ++ done_words ∷ []) (calls_call 0 t.calls) (calls_call 0 u.calls) (marks_stop t.marks) (marks_stop u.marks) rest in
    let four = a.calls.threads in
    let calls : t.calls ≡ u.calls = threads_once conns more 0 t.calls u.calls small few a.calls.each b.calls.each (four ∙ sym b.calls.threads) (omega (arith, four)) parts.0 in
    let count : length t.marks ≡ length u.marks = a.marks.count ∙ (ap (λ (s : Setup). s.squeues) setup ∙ sym b.marks.count) in
    let marks : t.marks ≡ u.marks = squeues_once 0 t.marks u.marks a.marks.few b.marks.few a.marks.each b.marks.each count parts.1 in
    λ i. record { setup = setup i; verify = verify i; calls = calls i; marks = marks i }
