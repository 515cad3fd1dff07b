-- What is given to one run after another.
use Rattle.std.proofs.Common.{◌≡◌, ℕ, ◌+◌, ◌*◌, ◌<◌, true, true≢false, List, [], ◌∷◌, ◌++◌, inl, inr, arith, Result, Ok, Err, OnOk, length, min, take, slice_index_or, refl, sym, ap, ◌∙◌, subst}
use Rattle.std.specs.Fn.{Shared}
use Rattle.std.specs.List.{AllByRecursion}
use Rattle.std.specs.Result.{is_ok}
use Rattle.std.proofs.lemmas.Bool.{cases_lt}
use Rattle.std.proofs.lemmas.List.{take_more}
use Rattle.case_rows.specs.Runs.{Leaves, Passes, PassesRead, PassesWords, PassesWrite, Takes, all}
use Rattle.case_rows.specs.declared.given.Given.{Given}
use Rattle.case_rows.specs.declared.rows.Field.{Field}

-- what holds where the one is well holds where the other is
pub on_ok_by : {X E : Type 0} (r s : Result X E) (P : Type 0) → (is_ok r ≡ true → is_ok s ≡ true) → OnOk s P → OnOk r P
on_ok_by (Err e) s P f h = tt
on_ok_by (Ok x) (Ok y) P f h = h
on_ok_by (Ok x) (Err e) P f h = absurd (true≢false (sym (f refl)))

all_and : {X : Type 0} (P : X → Type 0) (xs : List X) (x : X) → AllByRecursion P xs → P x → AllByRecursion P (xs ++ x ∷ [])
all_and P [] x had p = (p, tt)
all_and P (y ∷ ys) x had p = (had.0, all_and P ys x had.1 p)

-- of one element more
pub all_on : {X : Type 0} (P : X → Type 0) (xs : List X) (i : ℕ) (d : X) → i < length xs → AllByRecursion P (take i xs) → P (slice_index_or xs i d) → AllByRecursion P (take (i + 1) xs)
all_on P xs i d lt had p = subst (AllByRecursion P) (sym (take_more xs i d lt)) (all_and P (take i xs) (slice_index_or xs i d) had p)

-- of one number more
pub below_next : (P : ℕ → Type 0) (n : ℕ) → ((k : ℕ) → k < n → P k) → P n → (k : ℕ) → k < n + 1 → P k
below_next P n had p k lt = elim (cases_lt k n) [ inl less ↦ had k less | inr more ↦ (let same : n ≡ k = omega (arith, lt, more) in subst P same p) ]

-- the same but for the words; but for the reads that fail; but for the writes
abbrev pub ButWords : Given → Given → Type 0
ButWords a b = b ≡ record a { words = b.words }

abbrev pub ButReads : Given → Given → Type 0
ButReads a b = b ≡ record a { failing = record a.failing { reads = b.failing.reads } }

abbrev pub ButWrites : Given → Given → Type 0
ButWrites a b = b ≡ record a { failing = record a.failing { writes = b.failing.writes } }

pub words_on : (a b c : Given) → ButWords a b → ButWords b c → ButWords a c
words_on a b c e f = let put : Given → Given = λ x. record x { words = c.words } in f ∙ ap put e

pub reads_on : (a b c : Given) → ButReads a b → ButReads b c → ButReads a c
reads_on a b c e f = let put : Given → Given = λ x. record x { failing = record x.failing { reads = c.failing.reads } } in f ∙ ap put e

pub writes_on : (a b c : Given) → ButWrites a b → ButWrites b c → ButWrites a c
writes_on a b c e f = let put : Given → Given = λ x. record x { failing = record x.failing { writes = c.failing.writes } } in f ∙ ap put e

module _ {P : Type 0} (calls : Shared P Takes Leaves) (program : P) (fields : List Field) where
  -- a run that passes by what was changed passes by what was given first
  pub words_passed : (a b : Given) (line : List ℕ) → ButWords a b → PassesWords calls program fields b line → PassesWords calls program fields a line
  words_passed a b line e h =
      (h.0, record { same = words_on a b h.0 e h.1.same; words = h.1.words }, subst (λ (i : List ℕ). Passes calls program fields h.0 i all) (ap (λ x. x.input.items) e) h.2)

  pub read_passed : (a b : Given) (call : ℕ) → ButReads a b → PassesRead calls program fields b call → PassesRead calls program fields a call
  read_passed a b call e h =
      (h.0, record { same = reads_on a b h.0 e h.1.same; only = h.1.only }, subst (λ (i : List ℕ). Passes calls program fields h.0 i all) (ap (λ x. x.input.items) e) h.2)

  pub write_passed : (a b : Given) (call : ℕ) → ButWrites a b → PassesWrite calls program fields b call → PassesWrite calls program fields a call
  write_passed a b call e h =
      let moved = subst (λ (x : Given). Passes calls program fields h.0 x.input.items (min (call * x.writes) all)) e h.2 in
      (h.0, record { same = writes_on a b h.0 e h.1.same; only = h.1.only }, moved)
