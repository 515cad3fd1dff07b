-- The line of a call, by forms.
use Rattle.std.proofs.Common.{arith, ◌≡◌, ◌≢◌, ℕ, ◌^◌, ◌<◌, ◌≤◌, Bool, IsTrue, ◌↔◌, Decides, eqb, eq-eqb, List, [], ◌∷◌, ◌++◌, codes, length, get_or, drop, take, refl, ◌∙◌, sym, ap, append_assoc}
use Rattle.std.specs.Fmt.{decimal}
use Rattle.std.specs.List.{starts_with}
use Rattle.std.proofs.lemmas.Bool.{eqb-true}
use Rattle.std.proofs.lemmas.Slice.Eq.{slice_eq-Decides}
use Rattle.tcb_machine.specs.declared.kinds.Call.{Call}
use Rattle.tcb_machine.specs.declared.kinds.Call.TheVariants.{Status, Buffer, Close}
use Rattle.report_lines.specs.ReportText.{line}
use Rattle.report_lines.specs.TraceText.{asked_text, call_line}
use Rattle.trace_lines.specs.Forms.{filled, AreSmall}
use Rattle.trace_lines.specs.Printed.{BeginsWithCall, IsPrintedCall}
use Rattle.trace_lines.proofs.Numbers.{same_numbers}
use Rattle.trace_lines.proofs.Filled.{one_way}
use Rattle.trace_lines.proofs.OneLine.{AreFields, IsClear, clear-append, decimal_field, ends_field, one_line, word_field}

status_line : (j c : ℕ) (t : List ℕ) → call_line j (c, Status) ++ t ≡ filled (codes "call #:#:status\n") (j ∷ c ∷ []) ++ t
unfolding call_line
status_line j c t = simp append_assoc

close_line : (j c : ℕ) (t : List ℕ) → call_line j (c, Close) ++ t ≡ filled (codes "call #:#:close\n") (j ∷ c ∷ []) ++ t
unfolding call_line
close_line j c t = simp append_assoc

buffer_line : (j c n : ℕ) (t : List ℕ) → call_line j (c, Buffer n) ++ t ≡ filled (codes "call #:#:buffer=#\n") (j ∷ c ∷ n ∷ []) ++ t
unfolding call_line
buffer_line j c n t = simp append_assoc

-- a call of a thread at the front of a text, with its numbers in range
abbrev pub BeginsWith : List ℕ → ℕ → ℕ → Call → List ℕ → Type 0
BeginsWith text j c call rest = (j < 2 ^ 32) × IsPrintedCall (2 ^ 32) (c, call) × (text ≡ call_line j (c, call) ++ rest)

pub status_found : (text numbers rest : List ℕ) → length numbers ≡ 2 → AreSmall numbers → text ≡ filled (codes "call #:#:status\n") numbers ++ rest → BeginsWith text (get_or numbers 0 0) (get_or numbers 1 0) Status rest
status_found text [] rest l s e = absurd (omega (arith, l))
status_found text (j ∷ []) rest l s e = absurd (omega (arith, l))
status_found text (j ∷ c ∷ []) rest l s e = (s.0, s.1.0, e ∙ sym (status_line j c rest))
status_found text (j ∷ c ∷ n ∷ ns) rest l s e = absurd (omega (arith, l))

pub close_found : (text numbers rest : List ℕ) → length numbers ≡ 2 → AreSmall numbers → text ≡ filled (codes "call #:#:close\n") numbers ++ rest → BeginsWith text (get_or numbers 0 0) (get_or numbers 1 0) Close rest
close_found text [] rest l s e = absurd (omega (arith, l))
close_found text (j ∷ []) rest l s e = absurd (omega (arith, l))
close_found text (j ∷ c ∷ []) rest l s e = (s.0, s.1.0, e ∙ sym (close_line j c rest))
close_found text (j ∷ c ∷ n ∷ ns) rest l s e = absurd (omega (arith, l))

pub buffer_found : (text numbers rest : List ℕ) → length numbers ≡ 3 → AreSmall numbers → text ≡ filled (codes "call #:#:buffer=#\n") numbers ++ rest → get_or numbers 2 0 ≤ 65535
    → BeginsWith text (get_or numbers 0 0) (get_or numbers 1 0) (Buffer (get_or numbers 2 0)) rest
buffer_found text [] rest l s e most = absurd (omega (arith, l))
buffer_found text (j ∷ []) rest l s e most = absurd (omega (arith, l))
buffer_found text (j ∷ c ∷ []) rest l s e most = absurd (omega (arith, l))
buffer_found text (j ∷ c ∷ n ∷ []) rest l s e most = (s.0, (s.1.0, most), e ∙ sym (buffer_line j c n rest))
buffer_found text (j ∷ c ∷ n ∷ m ∷ ms) rest l s e most = absurd (omega (arith, l))

-- no numbers fill the form
abbrev pub NoneBy : ℕ → List ℕ → List ℕ → Type 0
NoneBy count form text = (ns rest : List ℕ) → length ns ≡ count → AreSmall ns → text ≡ filled form ns ++ rest → ⊥

pub no_call : (text : List ℕ) → NoneBy 2 (codes "call #:#:status\n") text → NoneBy 2 (codes "call #:#:close\n") text → NoneBy 3 (codes "call #:#:buffer=#\n") text
    → (j c : ℕ) (call : Call) (rest : List ℕ) → j < 2 ^ 32 → IsPrintedCall (2 ^ 32) (c, call) → text ≡ call_line j (c, call) ++ rest → ⊥
no_call text status close buffer j c Status rest sj h e = status (j ∷ c ∷ []) rest refl (sj, (h, tt)) (e ∙ status_line j c rest)
no_call text status close buffer j c Close rest sj h e = close (j ∷ c ∷ []) rest refl (sj, (h, tt)) (e ∙ close_line j c rest)
no_call text status close buffer j c (Buffer n) rest sj h e = buffer (j ∷ c ∷ n ∷ []) rest refl (sj, (h.0, (omega (arith, h.1), tt))) (e ∙ buffer_line j c n rest)

-- a size that is no window
pub too_large : (text numbers others : List ℕ) → NoneBy 2 (codes "call #:#:status\n") text → NoneBy 2 (codes "call #:#:close\n") text
    → length numbers ≡ 3 → AreSmall numbers → text ≡ filled (codes "call #:#:buffer=#\n") numbers ++ others → 65535 < get_or numbers 2 0
    → (j c : ℕ) (call : Call) (rest : List ℕ) → j < 2 ^ 32 → IsPrintedCall (2 ^ 32) (c, call) → text ≡ call_line j (c, call) ++ rest → ⊥
too_large text numbers others status close l s found large j c Status rest sj h e = status (j ∷ c ∷ []) rest refl (sj, (h, tt)) (e ∙ status_line j c rest)
too_large text numbers others status close l s found large j c Close rest sj h e = close (j ∷ c ∷ []) rest refl (sj, (h, tt)) (e ∙ close_line j c rest)
too_large text numbers others status close l s found large j c (Buffer n) rest sj h e =
    let small : AreSmall (j ∷ c ∷ n ∷ []) = (sj, (h.0, (omega (arith, h.1), tt))) in
    let same = one_way (codes "call #:#:buffer=#\n") numbers (j ∷ c ∷ n ∷ []) others rest refl l refl s small (sym found ∙ (e ∙ buffer_line j c n rest)) in
    let size : get_or numbers 2 0 ≡ n = ap (λ x. get_or x 2 0) same.0 in
    omega (arith, size, large, h.1)

-- its thread and its connection, and what stands behind
call_joined : (j c : ℕ) (l t : List ℕ) → line (codes "call" ∷ (decimal j ++ 58 ∷ (decimal c ++ 58 ∷ l)) ∷ []) ++ t ≡ codes "call " ++ (decimal j ++ 58 ∷ (decimal c ++ 58 ∷ (l ++ 10 ∷ t)))
call_joined j c l t = simp append_assoc

call_front : (j c : ℕ) (call : Call) (t : List ℕ) → call_line j (c, call) ++ t ≡ codes "call " ++ (decimal j ++ 58 ∷ (decimal c ++ 58 ∷ (asked_text call ++ 10 ∷ t)))
unfolding call_line
call_front j c call t = call_joined j c (asked_text call) t

pub begins : (j c : ℕ) (call : Call) (t : List ℕ) → BeginsWithCall (call_line j (c, call) ++ t)
begins j c call t = ap (take 5) (call_front j c call t)

asked_field : (c : ℕ) (call : Call) → IsPrintedCall (2 ^ 32) (c, call) → IsClear ends_field (asked_text call)
asked_field c Status h = word_field (codes "status") refl
asked_field c Close h = word_field (codes "close") refl
asked_field c (Buffer n) h = clear-append ends_field (codes "buffer=") (decimal n) (word_field (codes "buffer=") refl) (decimal_field n (omega (arith, h.1)))

small_conn : (c : ℕ) (call : Call) → IsPrintedCall (2 ^ 32) (c, call) → c < 2 ^ 32
small_conn c Status h = h
small_conn c Close h = h
small_conn c (Buffer n) h = h.0

-- its fields
abbrev fields_of : ℕ → ℕ → Call → List (List ℕ)
fields_of j c call = codes "call" ∷ (decimal j ++ 58 ∷ (decimal c ++ 58 ∷ asked_text call)) ∷ []

has_fields : (j c : ℕ) (call : Call) → fields_of j c call ≢ []
has_fields j c call e = cc e

are_fields : (j c : ℕ) (call : Call) → j < 2 ^ 32 → IsPrintedCall (2 ^ 32) (c, call) → AreFields (fields_of j c call)
are_fields j c call small h =
    let asked : IsClear ends_field (decimal c ++ 58 ∷ asked_text call) =
    clear-append ends_field (decimal c) (58 ∷ asked_text call) (decimal_field c (omega (arith, small_conn c call h))) (refl, asked_field c call h) in
    (word_field (codes "call") refl, (clear-append ends_field (decimal j) (58 ∷ (decimal c ++ 58 ∷ asked_text call)) (decimal_field j (omega (arith, small))) (refl, asked), tt))

behind_call : (j k c d : ℕ) (call ask : Call) (t u : List ℕ) → j < 2 ^ 32 → IsPrintedCall (2 ^ 32) (c, call) → k < 2 ^ 32 → IsPrintedCall (2 ^ 32) (d, ask) → call_line j (c, call) ++ t ≡ call_line k (d, ask) ++ u → t ≡ u
unfolding call_line
behind_call j k c d call ask t u sj h sk g e = (one_line (fields_of j c call) (fields_of k d ask) t u (has_fields j c call) (has_fields k d ask) (are_fields j c call sj h) (are_fields k d ask sk g) e).1

-- two calls at the front of one text are of one thread, on one connection, and have the same behind them
pub same_call : (j k c d : ℕ) (call ask : Call) (t u : List ℕ) → j < 2 ^ 32 → IsPrintedCall (2 ^ 32) (c, call) → k < 2 ^ 32 → IsPrintedCall (2 ^ 32) (d, ask) → call_line j (c, call) ++ t ≡ call_line k (d, ask) ++ u
    → (j ≡ k) × (c ≡ d) × (t ≡ u)
same_call j k c d call ask t u sj h sk g e =
    let parts = ap (drop 5) (sym (call_front j c call t) ∙ (e ∙ call_front k d ask u)) in
    let first = same_numbers j k (58 ∷ (decimal c ++ 58 ∷ (asked_text call ++ 10 ∷ t))) (58 ∷ (decimal d ++ 58 ∷ (asked_text ask ++ 10 ∷ u))) (omega (arith, sj)) (omega (arith, sk)) refl refl parts in
    let second = same_numbers c d (58 ∷ (asked_text call ++ 10 ∷ t)) (58 ∷ (asked_text ask ++ 10 ∷ u)) (omega (arith, small_conn c call h)) (omega (arith, small_conn d ask g)) refl refl (ap (drop 1) first.1) in
    (first.0, second.0, behind_call j k c d call ask t u sj h sk g e)

-- calls on fewer connections, and on more
pub printed_wider : (conns c : ℕ) (call : Call) → conns < 2 ^ 32 → IsPrintedCall conns (c, call) → IsPrintedCall (2 ^ 32) (c, call)
printed_wider conns c Status few h = omega (arith, few, h)
printed_wider conns c Close few h = omega (arith, few, h)
printed_wider conns c (Buffer n) few h = (omega (arith, few, h.0), h.1)

pub printed_below : (conns c : ℕ) (call : Call) → c < conns → IsPrintedCall (2 ^ 32) (c, call) → IsPrintedCall conns (c, call)
printed_below conns c Status below h = below
printed_below conns c Close below h = below
printed_below conns c (Buffer n) below h = (below, h.1)

pub below_conns : (conns c : ℕ) (call : Call) → IsPrintedCall conns (c, call) → c < conns
below_conns conns c Status h = h
below_conns conns c Close h = h
below_conns conns c (Buffer n) h = h.0

-- whether a text goes on with a call
pub call_or_not : (b : Bool) (text : List ℕ) → b ≡ starts_with eqb text (codes "call ") → IsTrue b ↔ BeginsWithCall text
call_or_not b text h =
    let both : Decides b (codes "call " ≡ take 5 text) = slice_eq-Decides {E = eqb} (λ x y. (eqb-true x y, eq-eqb x y)) (codes "call ") (take 5 text) b h in
    (λ is. sym (both.0 is), λ is. both.1 (sym is))
