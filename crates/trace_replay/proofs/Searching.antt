-- The first line that begins with a word.
use Rattle.std.proofs.Common.{◌≡◌, ◌≢◌, ℕ, ◌+◌, ◌-◌, ◌<◌, ◌≤◌, ◌⊎◌, List, [], ◌∷◌, ◌++◌, get_or, length, take, drop, inl, inr, sym, ap, ◌∙◌, arith}
use Rattle.std.proofs.lemmas.Bool.{cases_eq, cases_lt}
use Rattle.std.proofs.lemmas.List.{append_assoc, drop_at, get_or_at, get_or-drop, length-append, length-drop, length-take-le, take-append-drop, take_at, take_more}
use Rattle.report_lines.specs.ReportText.{done_line}
use Rattle.trace_replay.specs.Reasons.{IsCut}
use Rattle.trace_replay.specs.Lines.{EndsLine, HasLine, HasFirstLine, HasNoLine}

-- no line before this place begins with the word
abbrev pub NoneBefore : List ℕ → List ℕ → ℕ → Type 0
NoneBefore word text at = (front : List ℕ) → HasLine word text front → at ≤ length front

pub first_here : (word text more : List ℕ) (at : ℕ) → at ≤ length text → EndsLine (take at text) → NoneBefore word text at → drop at text ≡ word ++ more → HasFirstLine word text (take at text)
first_here word text more at within begins none starts = record {
  there = record { after = more; joined = sym (take-append-drop at text) ∙ ap (λ t. take at text ++ t) starts; begins = begins };
  first = λ front h. let far : at ≤ length front = none front h in omega (arith, length-take-le at text within);
}

-- behind another line stands a newline
newline_before : (text front rest : List ℕ) → text ≡ front ++ rest → EndsLine front → 0 < length front → get_or text (length front - 1) 0 ≡ 10
newline_before text front rest e (inl none) some = let size : length front ≡ 0 = ap length none in absurd (omega arith)
newline_before text front rest e (inr h) some =
    let size : length front ≡ length h.0 + 1 = ap length h.1 ∙ length-append h.0 (10 ∷ []) in
    let place : length h.0 ≡ length front - 1 = omega arith in
    ap (λ t. get_or t (length front - 1) 0) (e ∙ (ap (λ t. t ++ rest) h.1 ∙ append_assoc h.0 (10 ∷ []) rest)) ∙ get_or_at h.0 10 rest 0 (length front - 1) place

-- a line that begins so doesn't begin here, nor before the next newline
later : (word text front : List ℕ) (at n : ℕ) → NoneBefore word text at → ((rest : List ℕ) → drop at text ≢ word ++ rest) → ((k : ℕ) → k < n → get_or (drop at text) k 0 ≢ 10) → HasLine word text front → (length front ≡ at) ⊎ (length front ≡ at → ⊥)
    → (length front < at + (n + 1)) ⊎ (at + (n + 1) ≤ length front) → at + (n + 1) ≤ length front
later word text front at n none not_here apart h w (inr far) = far
later word text front at n none not_here apart h (inl here) (inl near) =
    absurd (not_here h.after (ap (λ t. drop at t) h.joined ∙ drop_at front (word ++ h.after) at here))
later word text front at n none not_here apart h (inr there) (inl near) =
    let far : at ≤ length front = none front h in
    let place : length front - 1 ≡ at + (length front - 1 - at) = omega arith in
    absurd (apart (length front - 1 - at) (omega arith)
    (get_or-drop at text (length front - 1 - at) 0 ∙ (ap (λ k. get_or text k 0) (sym place) ∙ newline_before text front (word ++ h.after) h.joined h.begins (omega arith))))

-- the next line
pub none_before_next : (word text : List ℕ) (at n : ℕ) → NoneBefore word text at → ((rest : List ℕ) → drop at text ≢ word ++ rest) → ((k : ℕ) → k < n → get_or (drop at text) k 0 ≢ 10) → NoneBefore word text (at + (n + 1))
none_before_next word text at n none not_here apart front h =
    later word text front at n none not_here apart h (cases_eq (length front) at) (cases_lt (length front) (at + (n + 1)))

pub next_begins : (text : List ℕ) (at n : ℕ) → n < length (drop at text) → get_or (drop at text) n 0 ≡ 10 → EndsLine (take (at + (n + 1)) text)
next_begins text at n within newline =
    let place : at + (n + 1) ≡ at + n + 1 = omega arith in
    inr (
      take (at + n) text,
      ap (λ k. take k text) place ∙ (take_more text (at + n) 0 (omega (arith, length-drop at text))
          ∙ ap (λ b. take (at + n) text ++ b ∷ []) (sym (get_or-drop at text n 0) ∙ newline)),
    )

pub none_left : (word text : List ℕ) (at : ℕ) → NoneBefore word text at → ((rest : List ℕ) → drop at text ≢ word ++ rest) → ((k : ℕ) → k < length (drop at text) → get_or (drop at text) k 0 ≢ 10) → HasNoLine word text
none_left word text at none not_here apart front h =
    let past : at + (length (drop at text) + 1) ≤ length front = none_before_next word text at (length (drop at text)) none not_here apart front h in
    let size : length text ≡ length front + length (word ++ h.after) = ap length h.joined ∙ length-append front (word ++ h.after) in
    omega (arith, length-drop at text)

-- the report up to the end of its line `done`, and what stands behind it
pub cut_at : (input report rest : List ℕ) (last end : ℕ) → end ≡ last + 5 → end ≤ length input → HasFirstLine done_line input (take last input) → report ≡ take end input → rest ≡ drop end input → IsCut input report rest
cut_at input report rest last end place within first front back =
    let size : length (take last input) ≡ last = length-take-le last input (omega arith) in
    let whole : length (take last input ++ done_line) ≡ end = omega (arith, length-append (take last input) done_line) in
    record {
      before = take last input;
      first = first;
      report_is = front ∙ (ap (λ t. take end t) (first.there.joined ∙ sym (append_assoc (take last input) done_line first.there.after)) ∙ take_at (take last input ++ done_line) first.there.after end whole);
      joined = sym (take-append-drop end input) ∙ (ap (λ t. t ++ drop end input) (sym front) ∙ ap (λ t. report ++ t) (sym back));
    }
