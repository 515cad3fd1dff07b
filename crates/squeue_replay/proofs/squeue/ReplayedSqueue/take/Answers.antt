use Rattle.std.proofs.Common.{◌≡◌, ◌≢◌, [], length, take, refl, rules, arith}
use Rattle.std.proofs.lemmas.Option.{MatchOption-at_some}
use Rattle.perimeter_core.specs.declared.marks.Own.TheVariants.{Out}
use Rattle.squeue_replay.specs.Replaying.{setting_of, squeue_of}
use Rattle.squeue_replay.specs.Steps.{Processed}
use Rattle.squeue_replay.proofs.Places.{none_past}
use Rattle.squeue_replay.proofs.MarkDone.{empty_says, take_asked, take_done, take_none}
use Rattle.squeue_replay.proofs.squeue.ReplayedSqueue.take.Goals as goal

pub returns-in_default-clause-tells : goal.returns-in_default-clause-tells
returns-in_default-clause-tells c = λ H k m.
    let s = c.args.self.now in
    let all : c.len-count.result ≡ length s.hand.items = omega (arith, c.len-count.ensures, s.hand.ok) in
    take_none (setting_of s) H c.args.p (squeue_of s) k c.len-count.result all (none_past _ _ _ c.in_ok-done.ensures.processed c.in_default.not-Some) m

pub returns-then-done-clause-tells : goal.returns-then-done-clause-tells
returns-then-done-clause-tells c = λ H k m.
    let s = c.args.self.now in
    let all : c.len-count.result ≡ length s.hand.items = omega (arith, c.len-count.ensures, s.hand.ok) in
    let did : Processed (take c.len-count.result s.hand.items) c.args.p c.in-Some.done.feeds c.in-Some.done.ask (squeue_of s) (squeue_of c.process.new.self) =
    MatchOption-at_some _ (λ done. Processed (take c.len-count.result s.hand.items) c.args.p done.feeds done.ask (squeue_of s) (squeue_of c.process.new.self)) c.in-Some.done c.in-Some.is c.in_ok-done.ensures.processed in
    take_asked (setting_of s) H c.args.p (squeue_of s) k c.len-count.result all c.in-Some.done.feeds c.in-Some.done.ask (squeue_of c.process.new.self) did c.if-done.true m

pub returns-clause-tells : goal.returns-clause-tells
returns-clause-tells c = λ H k.
    let s = c.args.self.now in
    let all : c.len-count.result ≡ length s.hand.items = omega (arith, c.len-count.ensures, s.hand.ok) in
    let did : Processed (take c.len-count.result s.hand.items) c.args.p c.in-Some.done.feeds c.in-Some.done.ask (squeue_of s) (squeue_of c.process.new.self) =
    MatchOption-at_some _ (λ done. Processed (take c.len-count.result s.hand.items) c.args.p done.feeds done.ask (squeue_of s) (squeue_of c.process.new.self)) c.in-Some.done c.in-Some.is c.in_ok-done.ensures.processed in
    let own : s.own ≡ Out c.args.p = search rules in
    let chain : s.chain.items ≢ [] = c.if-not-has_queued.ensures.0 refl in
    let says = empty_says c.is_empty.result s.hand.len s.hand.items c.is_empty.ensures (omega (arith, s.hand.ok)) in
    let hand : s.hand.items ≢ [] = λ e. (let full = says.1 e in let none = c.if-is_empty.false in cc (full, none)) in
    take_done (setting_of s) H c.args.p (squeue_of s) k c.len-count.result all c.in-Some.done.feeds c.in-Some.done.ask (squeue_of c.process.new.self) _ own chain hand did c.if-done.false
    (rw (c.swap.ensures.x_after, c.swap.ensures.y_after) refl)
