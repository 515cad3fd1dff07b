-- Lines that are written part by part.
use Rattle.std.proofs.Common.{◌≡◌, ℕ, Bool, [], ◌∷◌, ◌++◌, codes, if◌then◌else◌, ap, ◌∙◌, append_assoc}
use Rattle.std.specs.Fmt.{decimal}
use Rattle.text_digits.specs.Told.{Told, more}
use Rattle.text_digits.proofs.Joins.{more_more}
use Rattle.sq_base.specs.declared.kinds.Tuple.{Tuple}
use Rattle.report_lines.specs.ReportText.{end_field}
use Rattle.stream_plan.specs.declared.kinds.Counts.{Counts}
use Rattle.datagram_services.specs.MoreText.{counts_line, protocol_word, service_word, stream_line}

pub counted : (old one two new : Told) (records : ℕ) (tail : Bool) (n : Counts) (streams : ℕ)
    → one ≡ more old (codes "records " ++ (decimal records ++ (codes " tail " ++ decimal (if tail then 1 else 0))))
    → two ≡ more one (codes " served " ++ (decimal n.served ++ (codes " nofit " ++ (decimal n.nofit ++ (codes " other " ++ decimal n.other)))))
    → new ≡ more two (codes " streams " ++ (decimal streams ++ 10 ∷ [])) → new ≡ more old (counts_line records tail n streams)
unfolding counts_line
counted old one two new records tail n streams e f g =
    let kinds = codes " served " ++ (decimal n.served ++ (codes " nofit " ++ (decimal n.nofit ++ (codes " other " ++ decimal n.other)))) in
    g ∙ ap (λ l. more l (codes " streams " ++ (decimal streams ++ 10 ∷ []))) (f ∙ ap (λ l. more l kinds) e) ∙ simp (more_more, append_assoc)

pub headed : (old one two three four new : Told) (c : ℕ) (t : Tuple) → one ≡ more old (codes "stream " ++ decimal c) → two ≡ more one (32 ∷ protocol_word t.server_port)
    → three ≡ more two (32 ∷ end_field t.client t.client_port) → four ≡ more three (32 ∷ end_field t.server t.server_port)
    → new ≡ more four (32 ∷ (service_word t.server_port ++ 10 ∷ [])) → new ≡ more old (stream_line c t)
unfolding stream_line
headed old one two three four new c t e f g h k =
    k ∙ ap (λ l. more l (32 ∷ (service_word t.server_port ++ 10 ∷ []))) (h ∙ ap (λ l. more l (32 ∷ end_field t.server t.server_port))
    (g ∙ ap (λ l. more l (32 ∷ end_field t.client t.client_port)) (f ∙ ap (λ l. more l (32 ∷ protocol_word t.server_port)) e)))
    ∙ simp (more_more, append_assoc)
