use Rattle.std.proofs.Common.{◌+◌, ◌≤◌, ◌∙◌, [], ap, sym, refl, subst, Global, ℕ}
use Rattle.std.specs.Prelude.{Contains}
use Rattle.perimeter_core.specs.declared.marks.SynchAct.TheVariants as Done
use Rattle.placed_parts.specs.Placing.{limits_of, origin_of}
use Rattle.conn_migrate.specs.Moving.{Moved}
use Rattle.stream_stays.specs.Staying.{HasLife}
use Rattle.stream_stays.specs.Places.{chain_of}
use Rattle.rtrb.specs.Ring.{sent}
use Rattle.stream_stays.specs.Settling.{sent_in}
use Rattle.squeue_state.specs.declared.guarded.Life.{Life}
use Rattle.perimeter_core.specs.declared.entries.Feed.{Feed as FeedOf}
use Rattle.std.specs.Prelude.{Vec}
use Rattle.stream_stays.specs.declared.stay.Vacant.{Vacant}
use Rattle.stream_stays.proofs.Kept.{elsewhere_by, knows_turned, one_vacant, opened, touched_beside}
use Rattle.stream_stays.proofs.turning.open_at.Goals as goal

pub open-pass-requires-clause-life : goal.open-pass-requires-clause-life
open-pass-requires-clause-life g c = subst (λ (l : Life). HasLife limits_of c.args.sq.now l c.args.pass) (sym c.take_vacant-vacant.ensures.same.life) c.requires.knows.life

pub open-pass-requires-clause-asks : goal.open-pass-requires-clause-asks
open-pass-requires-clause-asks g c = subst (λ (l : Life). 1 ≤ l.asks) (sym c.take_vacant-vacant.ensures.same.life) c.requires.asks

pub open-pass-requires-clause-away : goal.open-pass-requires-clause-away
open-pass-requires-clause-away g c = (c.requires.knows.each c.args.c _ c.take_vacant-vacant.ensures.was).away

pub open-pass-requires-clause-part : goal.open-pass-requires-clause-part
open-pass-requires-clause-part g c = (c.requires.knows.each c.args.c _ c.take_vacant-vacant.ensures.was).part

pub returns-clause-knows : goal.returns-clause-knows
returns-clause-knows g c =
    let s = c.args.sq.now in
    let o = origin_of s.given.first in
    let old = c.args.stays.now in
    let new = c.put.new.self in
    let took = c.take_vacant-vacant.ensures in
    let put = c.put.ensures in
    let e = c.open-pass.ensures in
    let v = c.take_vacant-vacant.result in
    let stay = c.open-pass.result.1 in
    let at = c.requires.knows.each c.args.c _ took.was in
    let some : 1 ≤ v.leaves = subst (λ (x : Vacant g.row.X-Item.Denot g.row.X-State.Denot). 1 ≤ x.leaves) (one_vacant _ c.requires.vacant.0 v c.requires.vacant.1 took.was) c.requires.vacant.2 in
    let none = ap (λ (x : Vec FeedOf Global). x.items) (put.same.chain ∙ took.same.chain) ∙ c.requires.entered in
    let touched = ap (λ (x : Vec ℕ Global). x.items) (put.same.touched ∙ took.same.touched) in
    let elsewhere = elsewhere_by c.args.c old c.take_vacant-vacant.new.self _ new took.others put.others refl in
    let is = opened g.X.Steps.begins g.X.Steps.step limits_of s o c.open-pass.result.0 (chain_of new) c.args.c v stay none at.stream some e.begun e.stays at.ring in
    knows_turned g.X.Steps.begins g.X.Steps.step limits_of s o c.args.pass c.open-pass.result.0 c.args.c old new _ e.number (λ d other ring. e.others d (λ same. other (same ∙ at.stream)) ring)
    (subst (λ (l : Life). HasLife limits_of s l c.open-pass.result.0) (sym put.same.life) e.life) elsewhere put.now none c.requires.entered is c.requires.knows
    (λ d there. touched_beside c.args.c d old new v took.was elsewhere (c.requires.knows.touched d (subst (λ xs. Contains xs d) touched there)))

pub returns-clause-put : goal.returns-clause-put
returns-clause-put g c =
    let at = c.requires.knows.each c.args.c _ c.take_vacant-vacant.ensures.was in
    subst (λ d. Moved limits_of c.args.sq.now (Done.In d) [] c.args.pass c.open-pass.result.0) at.stream c.open-pass.ensures.put

pub returns-clause-elsewhere : goal.returns-clause-elsewhere
returns-clause-elsewhere g c = elsewhere_by c.args.c c.args.stays.now c.take_vacant-vacant.new.self _ c.put.new.self c.take_vacant-vacant.ensures.others c.put.ensures.others refl

pub returns-clause-opened : goal.returns-clause-opened
returns-clause-opened g c = (c.take_vacant-vacant.result, c.open-pass.result.1, c.take_vacant-vacant.ensures.was, c.put.ensures.now, c.open-pass.ensures.begun)

pub returns-clause-sent : goal.returns-clause-sent
returns-clause-sent g c = ap sent_in c.put.ensures.now ∙ (ap sent c.open-pass.ensures.begun.ring ∙ sym (ap sent_in c.take_vacant-vacant.ensures.was))

pub returns-clause-rest : goal.returns-clause-rest
returns-clause-rest g c =
    let took = c.take_vacant-vacant.ensures.same in
    let put = c.put.ensures.same in
    (ap (λ (x : Vec FeedOf Global). x.items) (put.chain ∙ took.chain) ∙ c.requires.entered, ap (λ (x : Vec ℕ Global). x.items) (put.touched ∙ took.touched))

pub returns-clause-spent : goal.returns-clause-spent
returns-clause-spent g c =
    let life = c.take_vacant-vacant.ensures.same.life in
    let put = c.put.ensures.same.life in
    let e = c.open-pass.ensures.spent in
    (ap (λ (l : Life). l.feeds) put ∙ (e.0 ∙ ap (λ (l : Life). l.feeds) life), sym (ap (λ (l : Life). l.asks) life) ∙ (e.1 ∙ ap (λ (l : Life). l.asks + 1) (sym put)))
