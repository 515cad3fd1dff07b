use Rattle.std.proofs.Common.{◌≡◌, Err, refl, ap}
use Rattle.std.proofs.KnownBytes.{Keeps-refl}
use Rattle.capture_reader.specs.declared.fault.CaptureFault.TheVariants.{Read}
use Rattle.datagram_services.proofs.MoreRuns.{no_capture, not_all, read_of, reported}
use Rattle.datagram_services.proofs.run.output_for.Goals as goal

pub returns-in-Err : goal.returns-in-Err
returns-in-Err g c =
    not_all _ _ c.in-Err.fault (λ e. c.in-Err.ensures.read (ap (λ f. Err f) e)) (λ no. c.in-Err.ensures.kept (λ e. no (let same : c.in-Err.fault ≡ Read = cc in same)))
    c.in-Err.ensures.few (record { bytes = Keeps-refl _; faults = refl }) c.in-Err.ensures.err

pub returns-in-Ok-parse_input : goal.returns-in-Ok-parse_input
returns-in-Ok-parse_input g c =
    let met = c.in-Ok.ensures.kept (λ e. let no : ⊥ = cc in no) in
    let capture = c.in-Ok-parse_input.ensures in
    reported c.in-Ok-parse_input.capture _ _ c.report.result met c.in-Ok.ensures.few (read_of _ _ _ c.in-Ok.ensures.ok.0 capture.1 capture.0) c.report.ensures

pub returns-in-Err-parse_input : goal.returns-in-Err-parse_input
returns-in-Err-parse_input g c =
    let met = c.in-Ok.ensures.kept (λ e. let no : ⊥ = cc in no) in
    no_capture _ _ _ _ met c.in-Ok.ensures.few (record { bytes = Keeps-refl _; faults = refl }) c.in-Ok.ensures.ok.0 c.in-Err-parse_input.ensures
