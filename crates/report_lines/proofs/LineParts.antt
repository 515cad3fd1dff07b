-- Lines that are written part by part.
use Rattle.std.proofs.Common.{◌≡◌, ℕ, List, [], ◌∷◌, ◌++◌, codes, if◌then◌else◌, ap, ◌∙◌, append_assoc}
use Rattle.std.specs.Fmt.{decimal}
use Rattle.text_digits.specs.Told.{Told, more}
use Rattle.text_digits.proofs.Joins.{more_more}
use Rattle.sq_base.specs.declared.kinds.Tuple.{Tuple}
use Rattle.conn_classifier.specs.declared.kinds.Counts.{Counts}
use Rattle.conn_classifier.specs.declared.rules.Rules.{Rules}
use Rattle.histories.specs.ModeWords.{mode_word}
use Rattle.echo_services.specs.Pump.{service_word}
use Rattle.echo_services.specs.declared.service.Service.{Service}
use Rattle.ring_quotas.specs.declared.setup.Setup.{Setup}
use Rattle.report_lines.specs.ReportText.{conn_line, counts_line, end_field}
use Rattle.report_lines.specs.TraceText.{setup_line}

abbrev served_counts : Counts → List ℕ
served_counts n = codes "records " ++ (decimal n.records ++ (codes " tail " ++ (decimal n.tail ++ (codes " served " ++ (decimal n.served ++ (codes " nofit " ++ decimal n.nofit))))))

abbrev dropped_counts : Counts → List ℕ
dropped_counts n =
    codes " server " ++ (decimal n.server ++ (codes " other " ++ (decimal n.other ++ (codes " fragment " ++ (decimal n.fragment
    ++ (codes " cut " ++ (decimal n.cut ++ (codes " malformed " ++ (decimal n.malformed ++ (codes " badsum " ++ decimal n.badsum))))))))))

pub counted : (old one two three new : Told) (n : Counts) (conns : ℕ) → one ≡ more old (served_counts n) → two ≡ more one (dropped_counts n)
    → three ≡ more two (codes " connections " ++ decimal conns) → new ≡ more three (10 ∷ []) → new ≡ more old (counts_line n conns)
unfolding counts_line
counted old one two three new n conns e f g h =
    h ∙ ap (λ t. more t (10 ∷ [])) (g ∙ ap (λ t. more t (codes " connections " ++ decimal conns)) (f ∙ ap (λ t. more t (dropped_counts n)) e))
    ∙ simp (more_more, append_assoc)

pub headed : (old one two three new : Told) (c : ℕ) (t : Tuple) (service : Service) → one ≡ more old (codes "conn " ++ decimal c)
    → two ≡ more one (32 ∷ end_field t.client t.client_port) → three ≡ more two (32 ∷ end_field t.server t.server_port)
    → new ≡ more three (32 ∷ (service_word service ++ 10 ∷ [])) → new ≡ more old (conn_line c t service)
unfolding conn_line
headed old one two three new c t service e f g h =
    h ∙ ap (λ l. more l (32 ∷ (service_word service ++ 10 ∷ []))) (g ∙ ap (λ l. more l (32 ∷ end_field t.server t.server_port))
    (f ∙ ap (λ l. more l (32 ∷ end_field t.client t.client_port)) e))
    ∙ simp (more_more, append_assoc)

pub set_up : (old one two new : Told) (s : Setup) (rules : Rules) → one ≡ more old (codes "setup squeues " ++ (decimal s.squeues ++ (codes " rings " ++ decimal s.rings)))
    → two ≡ more one (codes " mode " ++ mode_word s.mode)
    → new ≡ more two (codes " budget " ++ (decimal s.budget ++ (codes " spread " ++ (decimal s.spread ++ (codes " verify " ++ (decimal (if rules.verify then 1 else 0) ++ 10 ∷ []))))))
    → new ≡ more old (setup_line s rules)
unfolding setup_line
set_up old one two new s rules e f g =
    let pace = codes " budget " ++ (decimal s.budget ++ (codes " spread " ++ (decimal s.spread ++ (codes " verify " ++ (decimal (if rules.verify then 1 else 0) ++ 10 ∷ []))))) in
    g ∙ ap (λ t. more t pace) (f ∙ ap (λ t. more t (codes " mode " ++ mode_word s.mode)) e) ∙ simp (more_more, append_assoc)
