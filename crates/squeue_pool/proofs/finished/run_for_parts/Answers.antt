use Rattle.std.proofs.Common.{map, ap, ◌∙◌, arith}
use Rattle.histories.specs.Endings.{Ending}
use Rattle.squeue_state.specs.Told.{Traced}
use Rattle.squeue_pool.specs.Works.{work_of}
use Rattle.squeue_pool.proofs.AllPlaced.{ends_are, have_stood, is_there, traces_are}
use Rattle.squeue_pool.proofs.finished.run_for_parts.Goals as goal

pub take_left-requires-clause-stood : goal.take_left-requires-clause-stood
take_left-requires-clause-stood g c =
    have_stood g.R.Resident c.args.pool.now (work_of c.args.work) c.in_ok-left.left.items c.in_ok-left.ensures _ c.in_ok-parts.ensures.count c.requires.work

pub returns : goal.returns
returns g c =
    let vs = c.in_ok-left.left.items in
    record {
      left = vs;
      ran = c.in_ok-left.ensures;
      ended = ap (map (λ (x : Ending × Traced). x.0)) c.take_left.ensures.ends ∙ ends_are vs;
      traces = ap (map (λ (x : Ending × Traced). x.1)) c.take_left.ensures.ends ∙ traces_are vs;
      count = c.take_left.ensures.count ∙ c.in_ok-parts.ensures.count;
      each = λ k lt. is_there g.R.Resident c.args.pool.now (work_of c.args.work) vs c.in_ok-left.ensures c.take_left.new.places.items k lt (c.take_left.ensures.placed k (omega (arith, lt, c.in_ok-parts.ensures.count)));
    }
