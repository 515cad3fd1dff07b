use Rattle.std.proofs.Common.{◌≡◌, ℕ, ◌∙◌, [], None, Some, Option, refl, subst, sym, true, false}
use Rattle.live_server.specs.Serving.{ServerOf, server_of}
use Rattle.live_server.specs.Told.{told_too_long}
use Rattle.live_server.proofs.ArriveLemmas.{map_ok}
use Rattle.live_server.proofs.ToldLemmas.{path_told_by}
use Rattle.live_server.proofs.rules.Rules.shorten.Goals.{else-is_to_us, then-is_to_us+in_default}
use Rattle.live_server.proofs.rules.Rules.shorten.Goals as goal

pub returns-in-Some-clause-told : goal.returns-in-Some-clause-told
returns-in-Some-clause-told g c =
    let sv : ServerOf = server_of g.T.ConnTable.conns c.args.self.now in
    map_ok c.shorten_at.result _ (g.T.ConnTable.tells c.args.self.now.table (told_too_long c.args.too_long.now sv) c.shorten_at.new.self.table)
    (λ told. subst (λ ws. g.T.ConnTable.tells c.args.self.now.table ws c.shorten_at.new.self.table)
    (sym (path_told_by c.args.too_long.now sv true (Some c.in-Some.place) (sym c.if-is_to_us.ensures) (sym c.find.ensures ∙ c.in-Some.is))) told)
    c.shorten_at.ensures.told

pub returns-clause-told : goal.returns-clause-told
returns-clause-told g c =
    let sv : ServerOf = server_of g.T.ConnTable.conns c.args.self.now in
    let untold : told_too_long c.args.too_long.now sv ≡ [] = elim c.if-is_to_us.branch [
      | then-is_to_us+in_default w ↦ path_told_by c.args.too_long.now sv true None (sym w.if-is_to_us.ensures) (sym w.find.ensures ∙ missed w.find.result w.in_default.not-Some)
      | else-is_to_us w ↦ path_told_by c.args.too_long.now sv false _ (sym w.if-is_to_us.ensures) refl
    ] in
    subst (λ t. g.T.ConnTable.tells c.args.self.now.table (told_too_long c.args.too_long.now sv) t) (sym c.pass_over.ensures.table)
    (subst (λ ws. g.T.ConnTable.tells c.args.self.now.table ws c.args.self.now.table) (sym untold) (g.met.T.ConnTable.tells_nothing c.args.self.now.table))
  where
    missed : (r : Option ℕ) → ((i : ℕ) → r ≡ Some i → ⊥) → r ≡ None
    missed None other = refl
    missed (Some i) other = absurd (other i refl)
