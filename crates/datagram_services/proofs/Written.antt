-- A text that was told to an end in pieces, as it was written.
use Rattle.std.proofs.Common.{◌≡◌, ℕ, List, Option, Result, Ok, Err, OnOk, OnErr, refl, ap, subst, sym, ◌∙◌}
use Rattle.std.specs.Io.KnownBytes.{Appends}
use Rattle.sq_base.specs.Ends.{AppendsProperly, End, Rose, end_of}
use Rattle.sq_base.specs.declared.ends.Failed.{Failed}
use Rattle.text_digits.specs.Told.{Told, more}
use Rattle.text_digits.specs.Pieces.{told_first}
use Rattle.capture_reader.specs.Outcome.{CaptureFile}
use Rattle.shell.specs.Telling.{WritesAll}
use Rattle.datagram_services.specs.MoreRan.{GetsFrontOfReport, GetsReport}
use Rattle.datagram_services.specs.MoreText.{more_text, plan_text}
use Rattle.stream_plan.specs.Streams.{MorePlanOf, more_plan_of}

first_told : (place : ℕ) (was : Option (List ℕ)) (before : ℕ) (text : List ℕ) → more (told_first place was before).told text ≡ record { place = place; was = was; faults = before; text = text }
unfolding more
first_told place was before text = refl

-- from its beginning on
pub written_of : (text : List ℕ) (place : ℕ) (was is : Option (List ℕ)) (before after : ℕ) (old new : Told) (r : Result (Unit {0}) Failed)
    → old ≡ (told_first place was before).told → new ≡ more old text
    → OnOk r (Appends new.was is new.text × (after ≡ new.faults)) → OnErr r (AppendsProperly new.was is new.text × Rose new.faults after)
    → WritesAll r (record { was = was; is = is; faults_were = before; faults_are = after }) text
written_of text place was is before after old new r first told = by r
  where
    same : new ≡ record { place = place; was = was; faults = before; text = text }
    same = told ∙ ap (λ t. more t text) first ∙ first_told place was before text

    by : (r : Result (Unit {0}) Failed) → OnOk r (Appends new.was is new.text × (after ≡ new.faults)) → OnErr r (AppendsProperly new.was is new.text × Rose new.faults after)
        → WritesAll r (record { was = was; is = is; faults_were = before; faults_are = after }) text
    by (Ok x) o f = let t = subst (λ (t : Told). Appends t.was is t.text × (after ≡ t.faults)) same o in ((t.1, t.0), tt)
    by (Err x) o f = let t = subst (λ (t : Told). AppendsProperly t.was is t.text × Rose t.faults after) same f in (tt, (t.1, t.0))

-- what is told keeps its place
pub place_kept : (old new : Told) (text : List ℕ) → new ≡ more old text → new.place ≡ old.place
unfolding more
place_kept old new text e = ap (λ (t : Told). t.place) e

-- an end that is left so
pub left_as : {X : Type 0} (bytes : X → Option (List ℕ)) (faults : X → ℕ) (old now left : X) (r : Result (Unit {0}) Failed) (text : List ℕ) → left ≡ now
    → WritesAll r (end_of bytes faults old now) text → WritesAll r (end_of bytes faults old left) text
left_as bytes faults old now left r text e w = subst (λ x. WritesAll r (end_of bytes faults old x) text) (sym e) w

-- the plan's text is that of its capture
text_of : (file : CaptureFile) (p : MorePlanOf) → p ≡ more_plan_of file → plan_text p ≡ more_text file
unfolding more_text
text_of file p e = ap plan_text e

module _ (file : CaptureFile) (p : MorePlanOf) (out : End) (r : Result (Unit {0}) Failed) (of : p ≡ more_plan_of file) (wrote : WritesAll r out (plan_text p)) where
  pub whole_report : (x : Unit {0}) → r ≡ Ok x → GetsReport file out
  whole_report x e =
      let w : WritesAll (Ok x) out (more_text file) = subst (λ q. WritesAll q out (more_text file)) e (subst (WritesAll r out) (text_of file p of) wrote) in
      (w.0.1, w.0.0)

  pub front_of_report : (f : Failed) → r ≡ Err f → GetsFrontOfReport file out
  front_of_report f e =
      let w : WritesAll (Err f) out (more_text file) = subst (λ q. WritesAll q out (more_text file)) e (subst (WritesAll r out) (text_of file p of) wrote) in
      (w.1.1, w.1.0)
