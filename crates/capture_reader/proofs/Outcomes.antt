-- From the header's answer and the records' to the outcome.
use Rattle.std.proofs.Common.{◌≡◌, ℕ, ◌≤◌, Bool, true, false, cond, List, length, drop, map, Option, None, Some, Result, Ok, Err, subst, sym, ◌∙◌, refl, arith, ltb, eqb, ◌&&◌}
use borrow.Author.Tests.{ltb-false}
use Rattle.byteorder.specs.Endian.{big_number}
use Rattle.sq_base.specs.Links.{link_of}
use Rattle.sq_base.specs.declared.kinds.Link.{Link}
use Rattle.capture_reader.specs.declared.form.Form.{Form}
use Rattle.capture_reader.specs.declared.capture.Record.{Record}
use Rattle.capture_reader.specs.declared.fault.CaptureFault.{CaptureFault}
use Rattle.capture_reader.specs.declared.fault.CaptureFault.TheVariants as fault
use Rattle.capture_reader.specs.Form.{number, form_of}
use Rattle.capture_reader.specs.Header.{header_answer, magic_answer, link_answer}
use Rattle.capture_reader.specs.CaptureFile.{Ends, Captured, Refused}
use Rattle.capture_reader.specs.SoFar.{StopsAt, Fails}
use Rattle.capture_reader.specs.Limits.{most_bytes}
use Rattle.capture_reader.specs.Outcome.{ParseFails, packet_at}
use Rattle.capture_reader.proofs.Pieces.{split_there}

-- one of the refusals that a header meets
abbrev IsOfHeader : CaptureFault → Type 0
IsOfHeader (fault.ShortHeader n) = Unit {0}
IsOfHeader (fault.Magic magic) = Unit {0}
IsOfHeader (fault.Version major minor) = Unit {0}
IsOfHeader (fault.Link n) = Unit {0}
IsOfHeader fault.Read = ⊥
IsOfHeader fault.NoMemory = ⊥
IsOfHeader (fault.TooLarge n) = ⊥
IsOfHeader (fault.RecordLength index len) = ⊥
IsOfHeader fault.TooManyRecords = ⊥

abbrev FailsOfHeader : Result (Form × Link) CaptureFault → Type 0
FailsOfHeader (Ok p) = Unit {0}
FailsOfHeader (Err f) = IsOfHeader f

link_of_header : (form : Form) (n : ℕ) (link : Option Link) → FailsOfHeader (link_answer form n link)
link_of_header form n None = tt
link_of_header form n (Some link) = tt

chosen_of_header : (b : Bool) (x y : Result (Form × Link) CaptureFault) → FailsOfHeader x → FailsOfHeader y → FailsOfHeader (cond b x y)
chosen_of_header true x y p q = p
chosen_of_header false x y p q = q

magic_of_header : (form : Option Form) (bytes : List ℕ) → FailsOfHeader (magic_answer form bytes)
magic_of_header None bytes = tt
magic_of_header (Some form) bytes =
    let n = number form 4 (drop 20 bytes) in
    let major = number form 2 (drop 4 bytes) in
    let minor = number form 2 (drop 6 bytes) in
    chosen_of_header (eqb major 2 && eqb minor 4) (link_answer form n (link_of n)) (Err (fault.Version major minor)) (link_of_header form n (link_of n)) (tt {0})

pub header_of_header : (bytes : List ℕ) → FailsOfHeader (header_answer bytes)
unfolding header_answer
header_of_header bytes =
    let form = form_of (big_number 4 bytes) in
    chosen_of_header (ltb (length bytes) 24) (Err (fault.ShortHeader (length bytes))) (magic_answer form bytes) (tt {0}) (magic_of_header form bytes)

guard_false : (b : Bool) (f : CaptureFault) (x : Result (Form × Link) CaptureFault) (p : Form × Link) → cond b (Err f) x ≡ Ok p → b ≡ false
guard_false true f x p e = cc
guard_false false f x p e = refl

pub header_long : (bytes : List ℕ) (p : Form × Link) → header_answer bytes ≡ Ok p → 24 ≤ length bytes
unfolding header_answer
header_long bytes p e =
    let t : ltb (length bytes) 24 ≡ false = guard_false (ltb (length bytes) 24) (fault.ShortHeader (length bytes)) (magic_answer (form_of (big_number 4 bytes)) bytes) p e in
    omega (arith, ltb-false)

-- such a refusal is the bytes' own
pub header_refuses : (bytes : List ℕ) (f : CaptureFault) → header_answer bytes ≡ Err f → Refused bytes f
header_refuses bytes (fault.ShortHeader n) e = e
header_refuses bytes (fault.Magic magic) e = e
header_refuses bytes (fault.Version major minor) e = e
header_refuses bytes (fault.Link n) e = e
header_refuses bytes fault.Read e = absurd (subst FailsOfHeader e (header_of_header bytes))
header_refuses bytes fault.NoMemory e = absurd (subst FailsOfHeader e (header_of_header bytes))
header_refuses bytes (fault.TooLarge n) e = absurd (subst FailsOfHeader e (header_of_header bytes))
header_refuses bytes (fault.RecordLength index len) e = absurd (subst FailsOfHeader e (header_of_header bytes))
header_refuses bytes fault.TooManyRecords e = absurd (subst FailsOfHeader e (header_of_header bytes))

pub header_fails : (bytes : List ℕ) (f : CaptureFault) → length bytes ≤ most_bytes → header_answer bytes ≡ Err f → ParseFails bytes f
header_fails bytes (fault.ShortHeader n) small e = (small, e)
header_fails bytes (fault.Magic magic) small e = (small, e)
header_fails bytes (fault.Version major minor) small e = (small, e)
header_fails bytes (fault.Link n) small e = (small, e)
header_fails bytes fault.Read small e = absurd (subst FailsOfHeader e (header_of_header bytes))
header_fails bytes fault.NoMemory small e = tt
header_fails bytes (fault.TooLarge n) small e = absurd (subst FailsOfHeader e (header_of_header bytes))
header_fails bytes (fault.RecordLength index len) small e = absurd (subst FailsOfHeader e (header_of_header bytes))
header_fails bytes fault.TooManyRecords small e = absurd (subst FailsOfHeader e (header_of_header bytes))

pub records_fail : (bytes : List ℕ) (form : Form) (link : Link) (f : CaptureFault) → length bytes ≤ most_bytes → header_answer bytes ≡ Ok (form, link) → Fails form bytes f → ParseFails bytes f
records_fail bytes form link fault.NoMemory small says h = tt
records_fail bytes form link (fault.RecordLength index len) small says h = (
  small,
  (
    h.2,
    record {
      form = form;
      link = link;
      pieces = h.3.read.pieces;
      rest = drop h.3.at bytes;
      split = split_there bytes form link h.3.at h.0 (header_long bytes (form, link) says) says h.3.read;
      counted = h.3.read.counted ∙ h.1;
      goes_on = h.3.there;
    },
  ),
)
records_fail bytes form link fault.TooManyRecords small says h = (
  small,
  record {
    form = form;
    link = link;
    pieces = h.2.read.pieces;
    rest = drop h.2.at bytes;
    split = split_there bytes form link h.2.at h.0 (header_long bytes (form, link) says) says h.2.read;
    counted = h.2.read.counted ∙ h.1;
    goes_on = h.2.there;
  },
)
records_fail bytes form link fault.Read small says h = absurd h
records_fail bytes form link (fault.TooLarge n) small says h = absurd h
records_fail bytes form link (fault.ShortHeader n) small says h = absurd h
records_fail bytes form link (fault.Magic magic) small says h = absurd h
records_fail bytes form link (fault.Version major minor) small says h = absurd h
records_fail bytes form link (fault.Link n) small says h = absurd h

pub records_captured : (bytes : List ℕ) (form : Form) (link : Link) (records : List Record) (cut : Bool) → header_answer bytes ≡ Ok (form, link)
    → StopsAt form bytes records (Ends cut form (length records)) → Captured bytes (record { link = link; packets = map (packet_at bytes) records; cut = cut })
records_captured bytes form link records cut says s = record {
  form = form;
  pieces = s.read.pieces;
  rest = drop s.at bytes;
  split = split_there bytes form link s.at records (header_long bytes (form, link) says) says s.read;
  ends = subst (λ (n : ℕ). Ends cut form n (drop s.at bytes)) (sym s.read.counted) s.there;
  named = s.read.named;
}
