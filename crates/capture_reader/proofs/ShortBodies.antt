-- The body of a spelling is as long as its header names.
use Rattle.std.proofs.Common.{ℕ, ◌+◌, ◌≤◌, List, [], ◌∷◌, length, subst, sym, arith, length-drop}
use Rattle.std.specs.List.{AllByRecursion}
use Rattle.capture_reader.specs.declared.form.Form.{Form}
use Rattle.capture_reader.specs.Limits.{longest_body}
use Rattle.capture_reader.specs.CaptureFile.{Packet, IsSpelling, packets_of}
use Rattle.capture_reader.specs.Outcome.{CaptureFile, IsCapture, HasShortBodies}

short_from : (form : Form) (at : ℕ) (pieces : List (List ℕ)) → AllByRecursion (IsSpelling form) pieces → AllByRecursion (λ (p : Packet). length p.body ≤ longest_body) (packets_of form at pieces)
short_from form at [] spelled = tt
short_from form at (piece ∷ pieces) spelled = (
  omega (arith, spelled.0.header, spelled.0.most, spelled.0.whole, length-drop 16 piece),
  short_from form (at + length piece) pieces spelled.1,
)

pub short : (file : CaptureFile) → IsCapture file → HasShortBodies file
short file is =
    subst (λ (ps : List Packet). AllByRecursion (λ (p : Packet). length p.body ≤ longest_body) ps) (sym is.captured.named) (short_from is.captured.form 24 is.captured.pieces is.captured.split.spelled)
