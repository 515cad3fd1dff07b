-- How a replay ends: by its answer, what was read, and what was written.
use Rattle.std.specs.Prelude.{◌≡◌, ℕ, ◌+◌, ◌≤◌, ◌⊎◌, Bool, true, false, List, length, codes}
use Rattle.std.specs.Io.KnownBytes.{Appends}
use Rattle.sq_base.specs.Ends.{AppendsProperly, End, IsUntouched, MetNoFault, Rose}
use Rattle.shell.specs.Telling.{OnlyTells, TellsLine}
use Rattle.capture_reader.specs.Outcome.{ReadsWhole, Takes}
use Rattle.trace_replay.specs.declared.reason.Reason.{Reason}
use Rattle.trace_replay.specs.declared.run.Replayed.{Replayed}
use Rattle.trace_replay.specs.declared.run.Replayed.TheVariants as replayed
use Rattle.trace_replay.specs.Reasons.{Holds}
use Rattle.trace_replay.specs.Replays.{Replays}
use Rattle.trace_replay.specs.Texts.{line, no_line, yes_line}

-- what the program ends with
abbrev pub code_of : Replayed → ℕ
code_of replayed.Yes = 0
code_of replayed.No = 1
code_of replayed.Usage = 2
code_of replayed.NoMemory = 3
code_of replayed.ReadFault = 4
code_of replayed.WriteFault = 5
code_of replayed.TooLarge = 7

-- what is answered of an input: that it replays, or the first reason why it doesn't
abbrev pub IsYes : List ℕ → List ℕ → Type 0
IsYes input text = Replays input × (text ≡ yes_line)

abbrev pub IsNo : List ℕ → List ℕ → Type 0
IsNo input text = (r : Reason) × Holds r input × (text ≡ no_line r)

-- an input that may be answered
abbrev pub IsEither : List ℕ → List ℕ → Type 0
IsEither input text = IsYes input text ⊎ IsNo input text

-- where an input has at most so many bytes
module _ (most : ℕ) where
  -- the source was read to its end: these bytes, within the size; no more than one byte past the size was taken
  pub record HasRead (source : End) (input : List ℕ) : Type 0 where
    pub read : ReadsWhole source.was source.is input
    pub small : length input ≤ most
    pub unfailing : MetNoFault source

  -- such an answer was written whole; a front of it was, and not all
  pub record GetsWhole (IsAnswer : List ℕ → List ℕ → Type 0) (source out err : End) : Type 0 where
    pub input : List ℕ
    pub read : HasRead source input
    pub text : List ℕ
    pub answer : IsAnswer input text
    pub written : Appends out.was out.is text
    pub unfailing : MetNoFault out
    pub quiet : IsUntouched err

  pub record GetsFront (IsAnswer : List ℕ → List ℕ → Type 0) (source out : End) : Type 0 where
    pub input : List ℕ
    pub read : HasRead source input
    pub text : List ℕ
    pub answer : IsAnswer input text
    pub written : AppendsProperly out.was out.is text
    pub failed : Rose out.faults_were out.faults_are

  -- by the answer; whether there are words
  abbrev pub HasReplayed : Bool → End → End → End → Replayed → Type 0
  HasReplayed true source out err replayed.Usage = IsUntouched source × OnlyTells out err (line (codes "usage: sqreplay"))
  HasReplayed true source out err _ = ⊥
  HasReplayed false source out err replayed.Yes = GetsWhole IsYes source out err
  HasReplayed false source out err replayed.No = GetsWhole IsNo source out err
  HasReplayed false source out err replayed.Usage = ⊥
  HasReplayed false source out err replayed.NoMemory =
      MetNoFault source × Takes (λ n. n ≤ most + 1) source.was source.is × OnlyTells out err (line (codes "sqreplay: out of memory"))
  HasReplayed false source out err replayed.ReadFault =
      Rose source.faults_were source.faults_are × Takes (λ n. n ≤ most) source.was source.is × OnlyTells out err (line (codes "sqreplay: read fault"))
  HasReplayed false source out err replayed.WriteFault = GetsFront IsEither source out × TellsLine err (line (codes "sqreplay: write fault"))
  HasReplayed false source out err replayed.TooLarge =
      MetNoFault source × Takes (λ n. n ≡ most + 1) source.was source.is × OnlyTells out err (line (codes "sqreplay: too large"))
