use Rattle.std.proofs.Common.{◌∙◌, ◌++◌, length, ap, append_assoc}
use Rattle.std.specs.Prelude.{codes}
use Rattle.std.specs.Fmt.{decimal}
use Rattle.http_pages.specs.AnswerText.{field, sized}
use Rattle.http_pages.proofs.text.push_sized.Goals as goal

pub returns : goal.returns
unfolding sized
returns c =
    let kind = field (codes "Content-Type") c.args.kind.now in
    let size = field (codes "Content-Length") (decimal (length c.args.said.now)) in
    c.in_ok-push_length.ensures
    ∙ ap (λ text. text ++ size) c.in_ok-push_field.ensures
    ∙ append_assoc c.args.text.now.items kind size
