-- The summary's line, written in three parts.
use Rattle.std.proofs.Common.{◌≡◌, ℕ, List, [], ◌∷◌, ◌++◌, codes, ap, ◌∙◌, append_assoc}
use Rattle.std.specs.Fmt.{decimal}
use Rattle.squeue_report.specs.SummaryText.{summary_line}

pub three_parts : (old one two new check : List ℕ) (number bytes records conns replies octets : ℕ)
    → one ≡ old ++ (codes "generated " ++ (decimal number ++ (codes " bytes " ++ (decimal bytes ++ (codes " records " ++ decimal records)))))
    → two ≡ one ++ (codes " connections " ++ (decimal conns ++ (codes " replies " ++ (decimal replies ++ (codes " octets " ++ decimal octets)))))
    → new ≡ two ++ (codes " check " ++ (check ++ 10 ∷ []))
    → new ≡ old ++ summary_line number bytes records conns replies octets check
unfolding summary_line
three_parts old one two new check number bytes records conns replies octets e f g =
    g ∙ ap (λ l. l ++ (codes " check " ++ (check ++ 10 ∷ []))) (f ∙ ap (λ l. l ++ (codes " connections " ++ (decimal conns ++ (codes " replies " ++ (decimal replies ++ (codes " octets " ++ decimal octets)))))) e)
    ∙ simp append_assoc
