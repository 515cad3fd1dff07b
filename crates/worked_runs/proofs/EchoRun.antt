-- A stream of frames that is served by rings ends well.
use Rattle.std.specs.Prelude.{◌≡◌, ℕ, Option, None, Some, List, [], ◌∷◌, map}
use Rattle.std.specs.List.{sum}
use Rattle.std.specs.List.Sorted.{IsPermutation}
use Rattle.std.specs.Io.KnownBytes.{Appends}
use Rattle.std.proofs.Common.{arith, refl, subst, sym, ◌∙◌}
use Rattle.std.proofs.lemmas.List.{append-nil}
use Rattle.std.proofs.lemmas.List.Sorted.{IsPermutation-refl}
use Rattle.turn_gate.specs.declared.pass.Pass.{Pass}
use Rattle.perimeter_core.specs.History.{Element}
use Rattle.perimeter_core.specs.declared.known.Known.{Known}
use Rattle.live_chats.specs.Lived.{AreMadeOf, lives, stays_by}
use Rattle.live_server.specs.Frames.{answers, frames_in, serves_frames}
use Rattle.live_server.specs.Told.{Told, told_frames}
use Rattle.live_run.specs.declared.fault.Fault.{Fault}
use Rattle.live_rings.specs.Making.{server_of}
use Rattle.live_rings.specs.Served.{AllLived, HasEnded}
use Rattle.worked_runs.specs.OneEcho.{after, before, ending, history, input, layout, output, setting}
use Rattle.worked_runs.proofs.EchoAnswers.{answered_so, told_so, whole}

-- a reader or sink that is a list of bytes, and never fails
abbrev known : List ℕ → Option (List ℕ)
known bytes = Some bytes

abbrev never : List ℕ → ℕ
never bytes = 0

no_fault : {f : Fault} → None ≡ Some f → ⊥
no_fault e = cc e

written : Appends (Some []) (Some output) (answers input (server_of layout))
written = answered_so

pub has_ended : (pass : Known (Pass Element)) → HasEnded known never known never layout before (after pass)
has_ended pass = record {
  well = λ _ _. written;
  whole = λ _. whole;
  front = λ _. (output, ([], sym answered_so ∙ sym (append-nil output)), refl);
  framed = λ _. ((serves_frames (frames_in input) (server_of layout)).sent, written);
  stops = λ _. refl;
  reading = λ e. absurd (no_fault e);
  writing = λ e. absurd (no_fault e);
  frames = λ e. absurd (no_fault e);
  answered = λ e. absurd (no_fault e);
  so_far = λ e. absurd (no_fault e);
  others = λ e. absurd (no_fault e);
}

-- its only stay has the four feeds of the only life
made_of : AreMadeOf (stays_by setting 0 history) (lives (told_frames (frames_in input) (server_of layout)))
made_of = record {
  groups = (4 ∷ []) ∷ [];
  sums = subst (λ (ws : List Told). IsPermutation (map sum ((4 ∷ []) ∷ [])) (lives ws)) (sym told_so) (IsPermutation-refl (4 ∷ []));
  fits = λ n. omega arith;
}

pub has_lived : (pass : Known (Pass Element)) → AllLived known never known never layout (ending ∷ []) (before ∷ []) (after pass ∷ [])
has_lived pass =
    (before ∷ [], [], after pass ∷ [], [], omega arith, refl, refl, (record { ended = has_ended pass; ring = omega arith; lived = λ _ _. made_of }, tt), (refl, refl))
