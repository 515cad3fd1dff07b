use Rattle.std.proofs.Common.{◌≡◌, ℕ, ◌≤◌, Option, None, Some, length, refl, sym, ◌∙◌}
use Rattle.std.specs.Option.{IfSome}
use Rattle.http_pages.specs.declared.answer.Answer.{Answer}
use Rattle.http_pages.proofs.Standing.{answer_to-count}
use Rattle.page_service.proofs.site.PagesAnswerer.answer.Goals as goal

counted : (n : ℕ) (o : Option (Answer × ℕ)) → ((found : Answer × ℕ) → o ≡ Some found → found.1 ≤ n) → IfSome o (λ found. found.1 ≤ n)
counted n None h = tt
counted n (Some found) h = h found refl

pub returns-clause-counted : goal.returns-clause-counted
returns-clause-counted c =
    let bytes = c.args.bytes.now in
    counted (length bytes) c.answer_to.result (λ found e. (answer_to-count c.args.self.now c.args.at bytes found (sym c.answer_to.ensures ∙ e)).1)
