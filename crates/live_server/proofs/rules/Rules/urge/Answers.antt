use Rattle.std.proofs.Common.{◌≡◌, ℕ, Option, None, Some, refl, rules, subst, sym}
use Rattle.segment_codec.specs.Refusal.{tuple_of}
use Rattle.live_server.specs.Serving.{ServerOf, server_of}
use Rattle.live_server.specs.Table.{place_of}
use Rattle.live_server.specs.Told.{told_urging}
use Rattle.live_server.proofs.ArriveLemmas.{map_ok}
use Rattle.live_server.proofs.ToldLemmas.{unurged_told, urging_told}
use Rattle.live_server.proofs.rules.Rules.urge.Goals as goal

missed : (r : Option ℕ) → ((i : ℕ) → r ≡ Some i → ⊥) → r ≡ None
missed None other = refl
missed (Some i) other = absurd (other i refl)

pub returns-in-Some-find-clause-told : goal.returns-in-Some-find-clause-told
returns-in-Some-find-clause-told g c =
    let sv : ServerOf = server_of g.T.ConnTable.conns c.args.self.now in
    let at : place_of (tuple_of c.args.seg.now) sv.conns ≡ Some c.in-Some-find.place = search rules in
    map_ok c.urge_at.result _ (g.T.ConnTable.tells c.args.self.now.table (told_urging c.args.pointer c.args.seg.now sv) c.urge_at.new.self.table)
    (λ told. subst (λ ws. g.T.ConnTable.tells c.args.self.now.table ws c.urge_at.new.self.table)
    (sym (urging_told c.args.pointer c.in-Some.pointer c.args.seg.now sv (Some c.in-Some-find.place) c.in-Some.is at)) told)
    c.urge_at.ensures.told

pub returns-in_default-find-clause-told : goal.returns-in_default-find-clause-told
returns-in_default-find-clause-told g c =
    let sv : ServerOf = server_of g.T.ConnTable.conns c.args.self.now in
    let none : c.find.result ≡ None = missed c.find.result c.in_default-find.not-Some in
    let at : place_of (tuple_of c.args.seg.now) sv.conns ≡ None = search rules in
    subst (λ ws. g.T.ConnTable.tells c.args.self.now.table ws c.args.self.now.table)
    (sym (urging_told c.args.pointer c.in-Some.pointer c.args.seg.now sv None c.in-Some.is at)) (g.met.T.ConnTable.tells_nothing c.args.self.now.table)

pub returns-in_default-clause-told : goal.returns-in_default-clause-told
returns-in_default-clause-told g c =
    let sv : ServerOf = server_of g.T.ConnTable.conns c.args.self.now in
    subst (λ ws. g.T.ConnTable.tells c.args.self.now.table ws c.args.self.now.table)
    (sym (unurged_told c.args.pointer c.args.seg.now sv (missed c.args.pointer c.in_default.not-Some))) (g.met.T.ConnTable.tells_nothing c.args.self.now.table)
