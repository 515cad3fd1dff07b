-- What was written, as what the steps of a run say of it.
use Rattle.std.proofs.Common.{◌≡◌, ℕ, Bool, true, false, List, Option, None, Some, Result, Ok, Err, OnOk, OnErr, MatchResult, refl, subst, sym}
use Rattle.std.specs.Prelude.{if◌then◌else◌}
use Rattle.std.proofs.KnownBytes.{Keeps-refl}
use Rattle.std.specs.Io.KnownBytes.{Appends}
use Rattle.sq_base.specs.Ends.{AppendsProperly, End, IsUntouched, MetNoFault, Rose, end_of}
use Rattle.sq_base.specs.declared.ends.Failed.{Failed}
use Rattle.capture_reader.specs.Outcome.{CaptureFile, ReadsWhole}
use Rattle.pcapng_reader.specs.Input.{IsInput}
use Rattle.squeue_report.specs.Written.{IsWritten, Wrote}
use Rattle.squeue_run.specs.Asked.{Asked}
use Rattle.shell.specs.Reading.{Reads, TakesFew}
use Rattle.squeue_run.specs.Output.{IsSummary}
use Rattle.squeue_run.specs.Causes.{Fails, FailsBy, GeneratedFails, Gives, GivesBy, ReplayFails, Replays}
use Rattle.squeue_run.specs.declared.refusal.Refusal.{Refusal}
use Rattle.squeue_run.specs.declared.refusal.Refusal.TheVariants as refusal
use Rattle.squeue_run.specs.declared.run.Written.{Written}

-- all was put at once
pub wrote_by : (out : End) (bytes text : List ℕ) (r : Result (Unit {0}) Failed) → bytes ≡ text → OnOk r (Appends out.was out.is bytes) → OnOk r (MetNoFault out)
    → OnErr r (AppendsProperly out.was out.is bytes) → OnErr r (Rose out.faults_were out.faults_are) → Wrote out text r
wrote_by out bytes text (Ok x) e w k p f = (subst (Appends out.was out.is) e w, k)
wrote_by out bytes text (Err x) e w k p f = (subst (AppendsProperly out.was out.is) e p, f)

-- what is said of the text follows from what was said before
pub written_as : (P Q : List ℕ → Type 0) (out : End) (r : Result (Unit {0}) Failed) → ((t : List ℕ) → P t → Q t) → IsWritten P out r → IsWritten Q out r
written_as P Q out r f w = record { text = w.text; is = f w.text w.is; wrote = w.wrote }

pub matched : {A E : Type 0} {P P' : A → Type 0} {F F' : E → Type 0} (r : Result A E) → MatchResult r P F → ((x : A) → P x → P' x) → ((e : E) → F e → F' e) → MatchResult r P' F'
matched (Ok x) h f g = f x h
matched (Err e) h f g = g e h

-- nothing happened to an end that is as it was
pub untouched : {X : Type 0} (bytes : X → Option (List ℕ)) (faults : X → ℕ) (old new : X) → new ≡ old → IsUntouched (end_of bytes faults old new)
untouched bytes faults old new e = subst (λ x. IsUntouched (end_of bytes faults old x)) (sym e) (record { bytes = Keeps-refl (bytes old); faults = refl })

pub wrote_all : (out : End) (text : List ℕ) (r : Result (Unit {0}) Failed) (x : Unit {0}) → r ≡ Ok x → Wrote out text r → Appends out.was out.is text × MetNoFault out
wrote_all out text (Ok y) x e w = w
wrote_all out text (Err f) x e w = absurd (let no : ⊥ = cc in no)

pub wrote_front : (out : End) (text : List ℕ) (r : Result (Unit {0}) Failed) (f : Failed) → r ≡ Err f → Wrote out text r
    → AppendsProperly out.was out.is text × Rose out.faults_were out.faults_are
wrote_front out text (Ok y) f e w = absurd (let no : ⊥ = cc in no)
wrote_front out text (Err g) f e w = w

-- why a capture that is read gives nothing
pub not_replayed : (file : CaptureFile) (a : Asked) (source : End) (why : Refusal) → MetNoFault source → TakesFew source → Reads source file → ReplayFails file a why → FailsBy None a source why
not_replayed file a source refusal.NoMemory met few read h = (met, few, tt)
not_replayed file a source refusal.Usage met few read h = absurd h
not_replayed file a source (refusal.Capture f) met few read h = absurd h
not_replayed file a source (refusal.Pcapng f) met few read h = absurd h
not_replayed file a source (refusal.NoConnection c conns) met few read h = (met, few, (file, read, h))
not_replayed file a source (refusal.LongTrace n) met few read h = (met, few, (file, read, h))

-- the text without the marks, and with them
pub without_marks : (trace : Bool) (text marked plain : List ℕ) → trace ≡ false → text ≡ plain → text ≡ (if trace then marked else plain)
without_marks true text marked plain e t = absurd (let no : ⊥ = cc in no)
without_marks false text marked plain e t = t

pub with_marks : (trace : Bool) (text marked plain : List ℕ) → trace ≡ true → text ≡ marked → text ≡ (if trace then marked else plain)
with_marks true text marked plain e t = t
with_marks false text marked plain e t = absurd (let no : ⊥ = cc in no)

-- what the steps of a run give, as what accepted words ask
module _ (a : Asked) (source out : End) (r : Result Written Refusal) where
  abbrev Gave : Option ℕ → Type 0
  Gave number = MatchResult r (λ w. IsWritten (GivesBy number a source w.served) out w.wrote) (FailsBy number a source)

  pub generated_for : (number : Option ℕ) (n : ℕ) → number ≡ Some n → IsUntouched source → MatchResult r (λ w. IsWritten (IsSummary n a w.served) out w.wrote) GeneratedFails → Gave number
  generated_for number n e u h =
      subst Gave (sym e) (matched r h (λ w. written_as (IsSummary n a w.served) (GivesBy (Some n) a source w.served) out w.wrote (λ t s. (u, s))) (λ why f. (u, f)))

  pub replayed_for : (number : Option ℕ) (file : CaptureFile) (bytes : List ℕ) → number ≡ None → MetNoFault source → TakesFew source → ReadsWhole source.was source.is bytes
      → file.bytes ≡ bytes → IsInput file → MatchResult r (λ w. IsWritten (Replays file a w.served) out w.wrote) (ReplayFails file a) → Gave number
  replayed_for number file bytes e met few whole same input h =
      let read : Reads source file = record { read = subst (ReadsWhole source.was source.is) (sym same) whole; capture = input } in
      subst Gave (sym e) (matched r h (λ w. written_as (Replays file a w.served) (GivesBy None a source w.served) out w.wrote (λ t s. (met, few, (file, read, s))))
      (λ why f. not_replayed file a source why met few read f))

  pub asked_for : (words : Option Asked) → words ≡ Some a → Gave a.number → MatchResult r (λ w. IsWritten (Gives words source w.served) out w.wrote) (Fails words source)
  asked_for words e h = subst (λ q. MatchResult r (λ w. IsWritten (Gives q source w.served) out w.wrote) (Fails q source)) (sym e) h
