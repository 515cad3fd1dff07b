-- Bytes are one capture, in whichever form, or none.
use Rattle.std.proofs.Common.{◌≡◌, ◌∙◌, ◌≤◌, ap, length, Result, Ok, Err, inl, inr, subst, sym}
use Rattle.capture_reader.specs.CaptureFile.{Contents, Meets}
use Rattle.capture_reader.specs.Limits.{most_bytes}
use Rattle.capture_reader.specs.Outcome.{CaptureFile, contents_of}
use Rattle.capture_reader.specs.declared.fault.CaptureFault.{CaptureFault}
use Rattle.capture_reader.proofs.OneOutcome.{meets_once}
use Rattle.pcapng_reader.specs.PcapngFile.{BeginsSection, Captured}
use Rattle.pcapng_reader.specs.Input.{IsInput, IsRefusedCapture, IsRefusedPcapng}
use Rattle.pcapng_reader.specs.declared.fault.PcapngFault.{PcapngFault}
use Rattle.pcapng_reader.proofs.Outcomes.{meets_once as ng_meets_once}

abbrev accepted : Contents → Result Contents CaptureFault
accepted x = Ok x

abbrev refused : CaptureFault → Result Contents CaptureFault
refused f = Err f

same_contents : (x y : Contents) → accepted x ≡ accepted y → x ≡ y
same_contents x y e = cc

not_both : (x : Contents) (f : CaptureFault) → accepted x ≡ refused f → ⊥
not_both x f e = cc

abbrev ng_accepted : Contents → Result Contents PcapngFault
ng_accepted x = Ok x

abbrev ng_refused : PcapngFault → Result Contents PcapngFault
ng_refused f = Err f

same_ng : (x y : Contents) → ng_accepted x ≡ ng_accepted y → x ≡ y
same_ng x y e = cc

not_both_ng : (x : Contents) (f : PcapngFault) → ng_accepted x ≡ ng_refused f → ⊥
not_both_ng x f e = cc

same_contents_of : (file found : CaptureFile) → found.bytes ≡ file.bytes → IsInput file → IsInput found → contents_of found ≡ contents_of file
same_contents_of file found bytes (inl p) (inl q) =
    same_ng (contents_of found) (contents_of file)
    (ng_meets_once file.bytes (ng_accepted (contents_of found)) (ng_accepted (contents_of file)) (subst (λ b. Captured b (contents_of found)) bytes q.captured) p.captured)
same_contents_of file found bytes (inl p) (inr q) = absurd (q.0 (subst BeginsSection (sym bytes) p.begins))
same_contents_of file found bytes (inr p) (inl q) = absurd (p.0 (subst BeginsSection bytes q.begins))
same_contents_of file found bytes (inr p) (inr q) =
    same_contents (contents_of found) (contents_of file)
    (meets_once file.bytes (accepted (contents_of found)) (accepted (contents_of file)) (subst (λ b. Meets b (Ok (contents_of found))) bytes q.1.captured) p.1.captured)

same_file : (file found : CaptureFile) → found.bytes ≡ file.bytes → contents_of found ≡ contents_of file → found ≡ file
same_file file found bytes contents =
    ap (λ b. record { bytes = b; link = found.link; packets = found.packets; cut = found.cut }) bytes
    ∙ ap (λ c. record { bytes = file.bytes; link = c.link; packets = c.packets; cut = c.cut }) contents

-- a capture is fixed by its bytes
pub same_input : (file found : CaptureFile) → found.bytes ≡ file.bytes → IsInput file → IsInput found → found ≡ file
same_input file found bytes is found_is = same_file file found bytes (same_contents_of file found bytes is found_is)

pub input_small : (file : CaptureFile) → IsInput file → length file.bytes ≤ most_bytes
input_small file (inl p) = p.small
input_small file (inr p) = p.1.small

-- a capture isn't refused
pub refused_not : (file : CaptureFile) (why : CaptureFault) → IsInput file → IsRefusedCapture why file.bytes → ⊥
refused_not file why (inl p) r = r.0 p.begins
refused_not file why (inr p) r = not_both (contents_of file) why (meets_once file.bytes (accepted (contents_of file)) (refused why) p.1.captured r.1.1)

pub refused_not_ng : (file : CaptureFile) (why : PcapngFault) → IsInput file → IsRefusedPcapng why file.bytes → ⊥
refused_not_ng file why (inl p) r = not_both_ng (contents_of file) why (ng_meets_once file.bytes (ng_accepted (contents_of file)) (ng_refused why) p.captured r.2)
refused_not_ng file why (inr p) r = p.0 r.0
