-- The lines of setups and calls, by forms.
use Rattle.std.proofs.Common.{arith, ◌≡◌, ℕ, ◌<◌, ◌≤◌, Bool, true, false, if◌then◌else◌, List, [], ◌∷◌, ◌++◌, codes, length, get_or, refl, subst, ◌∙◌, sym, ap, append_assoc}
use Rattle.std.specs.Fmt.{decimal}
use Rattle.histories.specs.declared.mode.Mode.{Mode}
use Rattle.histories.specs.declared.mode.Mode.TheVariants.{Process, NoDrain, Fill}
use Rattle.histories.specs.ModeWords.{mode_word}
use Rattle.ring_quotas.specs.Limits.{most_budget, most_rings, most_spread, most_squeues}
use Rattle.ring_quotas.specs.declared.setup.Setup.{Setup}
use Rattle.ring_quotas.specs.Quotas.{IsInRange}
use Rattle.report_lines.specs.ReportText.{line}
use Rattle.report_lines.specs.TraceText.{setup_line}
use Rattle.trace_lines.specs.Forms.{filled, is_form, blank_count, AreSmall}
use Rattle.trace_lines.specs.Printed.{IsPrintedSetup, setup_numbers}
use Rattle.trace_lines.proofs.Filled.{one_way}
use Rattle.conn_classifier.specs.Rules.{usual}

-- the line with this word as mode
abbrev text_with : List ℕ → Setup → Bool → List ℕ
text_with w s verify = line (
    codes "setup" ∷ codes "squeues" ∷ decimal s.squeues ∷ codes "rings" ∷ decimal s.rings ∷ codes "mode" ∷ w
    ∷ codes "budget" ∷ decimal s.budget ∷ codes "spread" ∷ decimal s.spread ∷ codes "verify" ∷ decimal (if verify then 1 else 0) ∷ [])

by_word : (s : Setup) (verify : Bool) (t : List ℕ) (m : Mode) → s.mode ≡ m → setup_line s (usual verify) ++ t ≡ text_with (mode_word m) s verify ++ t
unfolding setup_line
by_word s verify t m e = ap (λ x. text_with (mode_word x) s verify ++ t) e

pub process_line : (s : Setup) (verify : Bool) (t : List ℕ) → s.mode ≡ Process → setup_line s (usual verify) ++ t ≡ filled (codes "setup squeues # rings # mode process budget # spread # verify #\n") (setup_numbers s verify) ++ t
unfolding mode_word
process_line s verify t e = by_word s verify t Process e ∙ simp append_assoc

pub no_drain_line : (s : Setup) (verify : Bool) (t : List ℕ) → s.mode ≡ NoDrain → setup_line s (usual verify) ++ t ≡ filled (codes "setup squeues # rings # mode nodrain budget # spread # verify #\n") (setup_numbers s verify) ++ t
unfolding mode_word
no_drain_line s verify t e = by_word s verify t NoDrain e ∙ simp append_assoc

pub fill_line : (s : Setup) (verify : Bool) (t : List ℕ) → s.mode ≡ Fill → setup_line s (usual verify) ++ t ≡ filled (codes "setup squeues # rings # mode fill budget # spread # verify #\n") (setup_numbers s verify) ++ t
unfolding mode_word
fill_line s verify t e = by_word s verify t Fill e ∙ simp append_assoc

-- no setup is printed where none of these forms has one
abbrev pub NoSetup : List ℕ → List ℕ → Type 0
NoSetup text form = (s : Setup) (verify : Bool) (rest : List ℕ) → IsPrintedSetup s → text ≡ filled form (setup_numbers s verify) ++ rest → ⊥

none_by : (text : List ℕ) → NoSetup text (codes "setup squeues # rings # mode process budget # spread # verify #\n") → NoSetup text (codes "setup squeues # rings # mode nodrain budget # spread # verify #\n")
    → NoSetup text (codes "setup squeues # rings # mode fill budget # spread # verify #\n") → (m : Mode) (s : Setup) (verify : Bool) (rest : List ℕ) → s.mode ≡ m → IsPrintedSetup s → text ≡ setup_line s (usual verify) ++ rest → ⊥
none_by text a b c Process s verify rest is h e = a s verify rest h (e ∙ process_line s verify rest is)
none_by text a b c NoDrain s verify rest is h e = b s verify rest h (e ∙ no_drain_line s verify rest is)
none_by text a b c Fill s verify rest is h e = c s verify rest h (e ∙ fill_line s verify rest is)

pub no_setup : (text : List ℕ) → NoSetup text (codes "setup squeues # rings # mode process budget # spread # verify #\n") → NoSetup text (codes "setup squeues # rings # mode nodrain budget # spread # verify #\n")
    → NoSetup text (codes "setup squeues # rings # mode fill budget # spread # verify #\n") → (s : Setup) (verify : Bool) (rest : List ℕ) → IsPrintedSetup s → text ≡ setup_line s (usual verify) ++ rest → ⊥
no_setup text a b c s verify rest h e = none_by text a b c s.mode s verify rest refl h e

pub bit_most : (v : Bool) → (if v then 1 else 0) ≤ 1
bit_most true = omega arith
bit_most false = omega arith

-- the numbers of a setup that is printed are those that were read
pub setup_fixed : (text form numbers rest : List ℕ) → is_form form ≡ true → blank_count form ≡ 5 → (length numbers ≡ 5) × AreSmall numbers × (text ≡ filled form numbers ++ rest)
    → (s : Setup) (verify : Bool) (t : List ℕ) → IsPrintedSetup s → text ≡ filled form (setup_numbers s verify) ++ t → numbers ≡ setup_numbers s verify
setup_fixed text form numbers rest proper blanks found s verify t h e =
    let range : IsInRange s = h.range in
    let small : AreSmall (setup_numbers s verify) =
    (omega (arith, range.squeues), (omega (arith, range.rings), (omega (arith, h.budget), (omega (arith, range.spread), (omega (arith, bit_most verify), tt))))) in
    (one_way form numbers (setup_numbers s verify) rest t proper (found.0 ∙ sym blanks) (sym blanks) found.1 small (sym found.2 ∙ e)).0

-- another last number than 0 and 1
pub bit_over : (text form numbers rest : List ℕ) → is_form form ≡ true → blank_count form ≡ 5 → (length numbers ≡ 5) × AreSmall numbers × (text ≡ filled form numbers ++ rest) → 1 < get_or numbers 4 0
    → (s : Setup) (verify : Bool) (t : List ℕ) → IsPrintedSetup s → text ≡ filled form (setup_numbers s verify) ++ t → ⊥
bit_over text form numbers rest proper blanks found over s verify t h e =
    let last : get_or numbers 4 0 ≡ (if verify then 1 else 0) = ap (λ l. get_or l 4 0) (setup_fixed text form numbers rest proper blanks found s verify t h e) in
    omega (arith, last, over, bit_most verify)

-- the ranges of the other numbers
abbrev pub AreInRange : List ℕ → Type 0
AreInRange l =
    ((1 ≤ get_or l 0 0) × (get_or l 0 0 ≤ most_squeues)) × ((1 ≤ get_or l 1 0) × (get_or l 1 0 ≤ most_rings)) × ((1 ≤ get_or l 2 0) × (get_or l 2 0 ≤ most_budget)) × (get_or l 3 0 ≤ most_spread)

pub out_of_range : (text form numbers rest : List ℕ) → is_form form ≡ true → blank_count form ≡ 5 → (length numbers ≡ 5) × AreSmall numbers × (text ≡ filled form numbers ++ rest) → (AreInRange numbers → ⊥)
    → (s : Setup) (verify : Bool) (t : List ℕ) → IsPrintedSetup s → text ≡ filled form (setup_numbers s verify) ++ t → ⊥
out_of_range text form numbers rest proper blanks found other s verify t h e =
    let range : IsInRange s = h.range in
    let same = setup_fixed text form numbers rest proper blanks found s verify t h e in
    other (subst AreInRange (sym same) ((omega (arith, range.squeues), omega (arith, range.squeues)), (omega (arith, range.rings), omega (arith, range.rings)), (omega (arith, range.budget), h.budget), omega (arith, range.spread)))
