use Rattle.std.proofs.Common.{◌≡◌, ◌+◌, ◌∷◌, [], ℕ, List, length, ap, sym, ◌∙◌, subst, arith, length-append}
use Rattle.squeue_state.specs.Naming.{Named}
use Rattle.squeue_serve.specs.Places.{MayEnd}
use Rattle.squeue_serve.specs.Lending.{AreLent, AreHanded, HaveLast, IsRoomFor, lent_to}
use Rattle.squeue_serve.proofs.Coming.{have_last, all_passes, all_over, all_less}
use Rattle.squeue_serve.proofs.ending.end_last.Goals as goal

pub take_back-passes-requires-clause-last : goal.take_back-passes-requires-clause-last
take_back-passes-requires-clause-last g c =
    let ss = c.pop.new.self.items in
    let s = c.in_ok-squeue.squeue in
    let lent = lent_to c.args.jobs.now.items in
    let all = subst (λ (l : List (Named g.row.R.Denot)). AreLent (MayEnd g.R.Resident.limits) c.args.front c.args.count l lent) c.in_ok-squeue.ensures.items c.requires.lent in
    let counted : length ss ≡ c.len.result = omega (arith, c.len.ensures, c.pop.new.self.ok) in
    subst (λ (q : ℕ). HaveLast c.args.front c.args.count q lent) counted (have_last (MayEnd g.R.Resident.limits) c.args.front c.args.count ss s lent all)

pub finish-requires-clause-all : goal.finish-requires-clause-all
finish-requires-clause-all g c =
    let ss = c.pop.new.self.items in
    let s = c.in_ok-squeue.squeue in
    let ps = c.take_back-passes.result.items in
    let having = lent_to c.args.jobs.now.items in
    let without = lent_to c.take_back-passes.new.jobs.items in
    let all = subst (λ (l : List (Named g.row.R.Denot)). AreLent (MayEnd g.R.Resident.limits) c.args.front c.args.count l having) c.in_ok-squeue.ensures.items c.requires.lent in
    let counted : length ss ≡ c.len.result = omega (arith, c.len.ensures, c.pop.new.self.ok) in
    let handed = subst (λ (q : ℕ). AreHanded c.args.front c.args.count q ps without having) (sym counted) c.take_back-passes.ensures.handed in
    all_passes g.R.Resident.limits c.args.front c.args.count ss s ps without having handed all

pub finish-requires-clause-over : goal.finish-requires-clause-over
finish-requires-clause-over g c =
    let ss = c.pop.new.self.items in
    let s = c.in_ok-squeue.squeue in
    let ps = c.take_back-passes.result.items in
    let having = lent_to c.args.jobs.now.items in
    let without = lent_to c.take_back-passes.new.jobs.items in
    let all = subst (λ (l : List (Named g.row.R.Denot)). AreLent (MayEnd g.R.Resident.limits) c.args.front c.args.count l having) c.in_ok-squeue.ensures.items c.requires.lent in
    let counted : length ss ≡ c.len.result = omega (arith, c.len.ensures, c.pop.new.self.ok) in
    let handed = subst (λ (q : ℕ). AreHanded c.args.front c.args.count q ps without having) (sym counted) c.take_back-passes.ensures.handed in
    all_over g.R.Resident.limits c.args.front c.args.count ss s ps without having handed all

pub returns-clause-some : goal.returns-clause-some
returns-clause-some g c =
    let ss = c.pop.new.self.items in
    let ps = c.take_back-passes.result.items in
    let counted : length ss ≡ c.len.result = omega (arith, c.len.ensures, c.pop.new.self.ok) in (
      c.in_ok-squeue.squeue,
      c.in_ok-squeue.ensures.items,
      record {
        passes = ps;
        handed = subst (λ (q : ℕ). AreHanded c.args.front c.args.count q ps (lent_to c.take_back-passes.new.jobs.items) (lent_to c.args.jobs.now.items)) (sym counted) c.take_back-passes.ensures.handed;
        its_number = c.finish.ensures.setting.0;
        its_setting = c.finish.ensures.setting.1;
        ended = c.finish.ensures.ended;
        knows = c.finish.ensures.passes;
        resident = c.finish.ensures.resident;
        trace = c.finish.ensures.trace;
      },
    )

pub returns-clause-rooms : goal.returns-clause-rooms
returns-clause-rooms g c = (
  (let a : length c.args.squeues.now.rooms.items ≡ length c.pop-2.new.self.items + 1 = ap length c.in-Some.ensures.items ∙ length-append c.pop-2.new.self.items (c.in-Some.room ∷ []) in
      let b : length c.args.squeues.now.all.items ≡ length c.pop.new.self.items + 1 = ap length c.in_ok-squeue.ensures.items ∙ length-append c.pop.new.self.items (c.in_ok-squeue.squeue ∷ []) in
      omega (arith, a, b, c.requires.rooms.0)),
  all_less (IsRoomFor (c.args.count + 1)) c.pop-2.new.self.items c.args.squeues.now.rooms.items c.in-Some.room c.in-Some.ensures.items c.requires.rooms.1,
)
