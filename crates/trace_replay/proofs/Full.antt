-- Histories of given marks, with notes by connection and number.
use Rattle.std.proofs.Common.{◌≡◌, ℕ, zero, suc, ◌+◌, ◌*◌, ◌<◌, ◌==◌, Bool, true, false, if◌then◌else◌, Some, List, [], ◌∷◌, ◌++◌, map, refl, ap, sym, ◌∙◌, subst, append_assoc, arith, eq-eqb}
use Rattle.std.specs.Prelude.{slice_get}
use Rattle.std.specs.List.{range_with_len}
use Rattle.std.proofs.lemmas.Bool.Decides.{nat_tests}
use Rattle.std.proofs.lemmas.List.{map-append}
use Rattle.perimeter_core.specs.declared.entries.Act.{Act}
use Rattle.perimeter_core.specs.declared.entries.Act.TheVariants as Did
use Rattle.perimeter_core.specs.declared.marks.SynchAct.TheVariants as Done
use Rattle.perimeter_core.specs.declared.marks.Mark.{Mark}
use Rattle.perimeter_core.specs.declared.marks.Mark.TheVariants as On
use Rattle.perimeter_core.specs.History.{Element}
use Rattle.perimeter_core.specs.Deeds.{fed, puts_in}
use Rattle.perimeter_core.specs.Legal.{NoteFits}
use Rattle.squeue_replay.specs.Histories.{note_of, noted_from, stay_of, times_in}
use Rattle.trace_replay.proofs.Notes.{Alike, NotesFit}
use Rattle.trace_replay.proofs.NotesIn.{marks_of, notes_in}
use Rattle.histories.proofs.SameCounts.{once_if}

module _ (f : ℕ → ℕ → List Act) where
  abbrev pub full_note : List Mark → Mark → List Act
  full_note past (On.Leave p rest (Done.In c)) = f c (times_in c past)
  full_note past _ = []

  abbrev pub full_from : List Mark → List Mark → List Element
  full_from past [] = []
  full_from past (m ∷ ms) = record { mark = m; note = full_note past m } ∷ full_from (past ++ m ∷ []) ms

  pub marks_of_full : (past ms : List Mark) → marks_of (full_from past ms) ≡ ms
  marks_of_full past [] = refl
  marks_of_full past (m ∷ ms) = ap (λ (l : List Mark). m ∷ l) (marks_of_full (past ++ m ∷ []) ms)

  note_fits : (past : List Mark) (m : Mark) → NoteFits m (full_note past m)
  note_fits past (On.Leave p rest (Done.In c)) = tt
  note_fits past (On.Leave p rest (Done.Out c)) = refl
  note_fits past (On.Leave p rest (Done.Call c j k)) = refl
  note_fits past (On.Leave p rest Done.Away) = refl
  note_fits past (On.Leave p rest Done.None) = refl
  note_fits past (On.Fill p es) = refl
  note_fits past (On.Fast p e) = refl
  note_fits past (On.Claim p es) = refl
  note_fits past (On.Take p) = refl
  note_fits past (On.Ask p) = refl
  note_fits past (On.Grant p j rest) = refl
  note_fits past (On.Accept j) = refl
  note_fits past (On.Work p) = refl
  note_fits past (On.Close p) = refl

  pub full_fits : (past ms : List Mark) → NotesFit (full_from past ms)
  full_fits past [] = tt
  full_fits past (m ∷ ms) = (note_fits past m, full_fits (past ++ m ∷ []) ms)

  -- the note of an In
  note_in : (past : List Mark) (m : Mark) (c : ℕ) → puts_in c m ≡ true → full_note past m ≡ f c (times_in c past)
  note_in past (On.Leave p rest (Done.In d)) c e = let same : d ≡ c = grind (arith, nat_tests, e) in ap (λ (k : ℕ). f k (times_in k past)) same
  note_in past (On.Leave p rest (Done.Out d)) c e = absurd cc
  note_in past (On.Leave p rest (Done.Call d j k)) c e = absurd cc
  note_in past (On.Leave p rest Done.Away) c e = absurd cc
  note_in past (On.Leave p rest Done.None) c e = absurd cc
  note_in past (On.Fill p es) c e = absurd cc
  note_in past (On.Fast p x) c e = absurd cc
  note_in past (On.Claim p es) c e = absurd cc
  note_in past (On.Take p) c e = absurd cc
  note_in past (On.Ask p) c e = absurd cc
  note_in past (On.Grant p j rest) c e = absurd cc
  note_in past (On.Accept j) c e = absurd cc
  note_in past (On.Work p) c e = absurd cc
  note_in past (On.Close p) c e = absurd cc

  times_more : (c : ℕ) (past : List Mark) (m : Mark) → times_in c (past ++ m ∷ []) ≡ times_in c past + (if puts_in c m then 1 else 0)
  times_more c [] m = omega arith
  times_more c (x ∷ past) m = let h = times_more c past m in omega (arith, h)

  -- the note of an In by its number
  pub notes_in_full : (c : ℕ) (past ms : List Mark) (i : ℕ) (n : List Act) → slice_get (notes_in c (full_from past ms)) i ≡ Some n → n ≡ f c (times_in c past + i)
  notes_in_full c past [] i n at = absurd (let no : ⊥ = cc at in no)
  notes_in_full c past (m ∷ ms) i n at = by (puts_in c m) refl (notes_in_full c (past ++ m ∷ []) ms) i at
    where
      by : (b : Bool) → puts_in c m ≡ b → ((i : ℕ) (n : List Act) → slice_get (notes_in c (full_from (past ++ m ∷ []) ms)) i ≡ Some n → n ≡ f c (times_in c (past ++ m ∷ []) + i))
          → (i : ℕ) → slice_get (if b then full_note past m ∷ notes_in c (full_from (past ++ m ∷ []) ms) else notes_in c (full_from (past ++ m ∷ []) ms)) i ≡ Some n
          → n ≡ f c (times_in c past + i)
      by true is go zero at =
          let same : full_note past m ≡ n = cc at in
          let z : times_in c past ≡ times_in c past + 0 = omega arith in
          sym same ∙ (note_in past m c is ∙ ap (f c) z)
      by true is go (suc i) at =
          let more : times_in c (past ++ m ∷ []) ≡ times_in c past + 1 = times_more c past m ∙ ap (λ (b : Bool). times_in c past + (if b then 1 else 0)) is in
          let z : times_in c (past ++ m ∷ []) + i ≡ times_in c past + suc i = omega (arith, more) in
          go i n at ∙ ap (f c) z
      by false is go i at =
          let more : times_in c (past ++ m ∷ []) ≡ times_in c past + 0 = times_more c past m ∙ ap (λ (b : Bool). times_in c past + (if b then 1 else 0)) is in
          let z : times_in c (past ++ m ∷ []) + i ≡ times_in c past + i = omega (arith, more) in
          go i n at ∙ ap (f c) z

times_both : (c : ℕ) (ms ns : List Mark) → times_in c (ms ++ ns) ≡ times_in c ms + times_in c ns
times_both c [] ns = omega arith
times_both c (m ∷ ms) ns = let h = times_both c ms ns in omega (arith, h)

-- with as many feeds in the notes they are alike
module _ (f g : ℕ → ℕ → List Act) where
  same_fed : (past ms : List Mark) (m : Mark) → ((c n : ℕ) → n < times_in c (past ++ (m ∷ ms)) → fed (f c n) ≡ fed (g c n)) → fed (full_note f past m) ≡ fed (full_note g past m)
  same_fed past ms (On.Leave p rest (Done.In c)) h =
      h c (times_in c past) (let t = times_both c past (On.Leave p rest (Done.In c) ∷ ms) in let one : once_if (c == c) ≡ 1 = ap once_if (eq-eqb c c refl) in omega (arith, t, one))
  same_fed past ms (On.Leave p rest (Done.Out c)) h = refl
  same_fed past ms (On.Leave p rest (Done.Call c j k)) h = refl
  same_fed past ms (On.Leave p rest Done.Away) h = refl
  same_fed past ms (On.Leave p rest Done.None) h = refl
  same_fed past ms (On.Fill p es) h = refl
  same_fed past ms (On.Fast p e) h = refl
  same_fed past ms (On.Claim p es) h = refl
  same_fed past ms (On.Take p) h = refl
  same_fed past ms (On.Ask p) h = refl
  same_fed past ms (On.Grant p j rest) h = refl
  same_fed past ms (On.Accept j) h = refl
  same_fed past ms (On.Work p) h = refl
  same_fed past ms (On.Close p) h = refl

  pub full_alike : (past ms : List Mark) → ((c n : ℕ) → n < times_in c (past ++ ms) → fed (f c n) ≡ fed (g c n)) → Alike (full_from f past ms) (full_from g past ms)
  full_alike past [] h = tt
  full_alike past (m ∷ ms) h =
      (refl, same_fed past ms m h, full_alike (past ++ m ∷ []) ms (subst (λ (l : List Mark). (c n : ℕ) → n < times_in c l → fed (f c n) ≡ fed (g c n)) (sym (append_assoc past (m ∷ []) ms)) h))

-- a history is alike to one with these notes, where its own have as many feeds
module _ (g : ℕ → ℕ → List Act) where
  note_same : (past : List Mark) (m : Mark) (note : List Act) → NoteFits m note → ((c : ℕ) → puts_in c m ≡ true → fed note ≡ fed (g c (times_in c past))) → fed note ≡ fed (full_note g past m)
  note_same past (On.Leave p rest (Done.In c)) note fits h = h c (eq-eqb c c refl)
  note_same past (On.Leave p rest (Done.Out c)) note fits h = ap fed fits
  note_same past (On.Leave p rest (Done.Call c j k)) note fits h = ap fed fits
  note_same past (On.Leave p rest Done.Away) note fits h = ap fed fits
  note_same past (On.Leave p rest Done.None) note fits h = ap fed fits
  note_same past (On.Fill p es) note fits h = ap fed fits
  note_same past (On.Fast p e) note fits h = ap fed fits
  note_same past (On.Claim p es) note fits h = ap fed fits
  note_same past (On.Take p) note fits h = ap fed fits
  note_same past (On.Ask p) note fits h = ap fed fits
  note_same past (On.Grant p j rest) note fits h = ap fed fits
  note_same past (On.Accept j) note fits h = ap fed fits
  note_same past (On.Work p) note fits h = ap fed fits
  note_same past (On.Close p) note fits h = ap fed fits

  pub alike_full : (past H : List Element) → NotesFit H
      → ((F K : List Element) (e : Element) (c : ℕ) → F ++ e ∷ K ≡ past ++ H → puts_in c e.mark ≡ true → fed e.note ≡ fed (g c (times_in c (marks_of F)))) → Alike H (full_from g (marks_of past) (marks_of H))
  alike_full past [] fits h = tt
  alike_full past (e ∷ H) fits h = (
    refl,
    note_same (marks_of past) e.mark e.note fits.0 (λ c puts. h past H e c refl puts),
    subst (λ (l : List Mark). Alike H (full_from g l (marks_of H))) (map-append (λ (x : Element). x.mark) past (e ∷ []))
        (alike_full (past ++ e ∷ []) H fits.1 (subst (λ (l : List Element). (F K : List Element) (x : Element) (c : ℕ) → F ++ x ∷ K ≡ l → puts_in c x.mark ≡ true → fed x.note ≡ fed (g c (times_in c (marks_of F)))) (sym (append_assoc past (e ∷ []) H)) h)),
  )

-- the notes that the homes ask for are such notes
module _ (squeues spread q : ℕ) where
  abbrev pub dues : ℕ → ℕ → List Act
  dues c n = map Did.Feed (range_with_len 0 (stay_of squeues q c n * spread))

  note_is : (past : List Mark) (m : Mark) → note_of squeues spread q past m ≡ full_note dues past m
  note_is past (On.Leave p rest (Done.In c)) = refl
  note_is past (On.Leave p rest (Done.Out c)) = refl
  note_is past (On.Leave p rest (Done.Call c j k)) = refl
  note_is past (On.Leave p rest Done.Away) = refl
  note_is past (On.Leave p rest Done.None) = refl
  note_is past (On.Fill p es) = refl
  note_is past (On.Fast p e) = refl
  note_is past (On.Claim p es) = refl
  note_is past (On.Take p) = refl
  note_is past (On.Ask p) = refl
  note_is past (On.Grant p j rest) = refl
  note_is past (On.Accept j) = refl
  note_is past (On.Work p) = refl
  note_is past (On.Close p) = refl

  pub noted_is : (past ms : List Mark) → noted_from squeues spread q past ms ≡ full_from dues past ms
  noted_is past [] = refl
  noted_is past (m ∷ ms) = λ i. record { mark = m; note = note_is past m i } ∷ noted_is (past ++ m ∷ []) ms i

  fed_range : (a n : ℕ) → fed (map Did.Feed (range_with_len a n)) ≡ n
  fed_range a zero = refl
  fed_range a (suc n) = let h = fed_range (a + 1) n in omega (arith, h)

  pub fed_dues : (c n : ℕ) → fed (dues c n) ≡ stay_of squeues q c n * spread
  fed_dues c n = fed_range 0 (stay_of squeues q c n * spread)
