use Rattle.std.proofs.Common.{◌≡◌, ◌++◌, ℕ, Bool, List, refl, subst, sym, ◌∙◌}
use Rattle.conn_classifier.specs.Rules.{usual}
use Rattle.conn_classifier.specs.declared.rules.Rules.{Rules}
use Rattle.ring_quotas.specs.declared.setup.Setup.{Setup}
use Rattle.report_lines.specs.TraceText.{setup_line}
use Rattle.trace_lines.specs.Printed.{ArePrintedRules}
use Rattle.trace_lines.proofs.HeadLines.{fill_line, no_drain_line, no_setup, process_line}
use Rattle.trace_lines.proofs.heads.setup_line.Goals as goal

-- rules with the well-known ports, told by the line of a setup
by_rules : (text rest : List ℕ) (s : Setup) (verify : Bool) (rules : Rules) → rules ≡ usual verify → text ≡ setup_line s (usual verify) ++ rest
    → (text ≡ setup_line s (usual rules.verify) ++ rest) × ArePrintedRules rules
by_rules text rest s verify rules is said = subst (λ (r : Rules). (text ≡ setup_line s (usual r.verify) ++ rest) × ArePrintedRules r) (sym is) (said, refl)

pub returns-in-Some : goal.returns-in-Some
returns-in-Some c =
    let f = c.in-Some in
    let h = f.ensures in
    let told = by_rules c.args.text.now f.rest.now f.setup f.verify c.usual.result c.usual.ensures (h.2 ∙ sym (process_line f.setup f.verify f.rest.now h.1)) in
    (h.0, told.0, told.1)

pub returns-in-Some-setup_by : goal.returns-in-Some-setup_by
returns-in-Some-setup_by c =
    let f = c.in-Some-setup_by in
    let h = f.ensures in
    let told = by_rules c.args.text.now f.rest.now f.setup f.verify c.usual-in-Some-setup_by.result c.usual-in-Some-setup_by.ensures (h.2 ∙ sym (no_drain_line f.setup f.verify f.rest.now h.1)) in
    (h.0, told.0, told.1)

pub returns-in-Some-setup_by-2 : goal.returns-in-Some-setup_by-2
returns-in-Some-setup_by-2 c =
    let f = c.in-Some-setup_by-2 in
    let h = f.ensures in
    let told = by_rules c.args.text.now f.rest.now f.setup f.verify c.usual-in-Some-setup_by-2.result c.usual-in-Some-setup_by-2.ensures (h.2 ∙ sym (fill_line f.setup f.verify f.rest.now h.1)) in
    (h.0, told.0, told.1)

pub returns : goal.returns
returns c = no_setup c.args.text.now c.in_default.ensures c.in_default-setup_by.ensures c.in_default-setup_by-2.ensures
