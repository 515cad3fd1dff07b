use Rattle.std.proofs.Common.{◌≡◌, ℕ, Some, List, [], ◌∷◌, length, length-append, slice_get, ap, sym, ◌∙◌, subst, arith}
use Rattle.squeue_rings.proofs.Tasked.{each_more}
use Rattle.datagram_services.specs.declared.blocks.StreamBlocks.{StreamBlocks}
use Rattle.datagram_services.specs.Work.{IsFirst}
use Rattle.datagram_services.proofs.work.residents_for.Goals as goal

pub loop-q-init : goal.loop-q-init
loop-q-init c =
    let none = c.new-residents.ensures.items in
    record { count = ap length none; each = λ q r at. cc (subst (λ (l : List StreamBlocks). slice_get l q ≡ Some r) none at) }

pub loop-q-preserved : goal.loop-q-preserved
loop-q-preserved c =
    let old = c.loop-q.residents.items in
    let r = c.in_ok-make.field-0 in
    let more = c.in_ok-push.ensures.items in
    let made = c.in_ok-make.ensures in
    let first : IsFirst c.args.plan.now c.args.squeues c.loop-q.q r = record { size = made.size; origin = made.origin; calls = made.calls ∙ c.new.ensures.items; stands = made.stands } in
    record {
      count = let n = ap length more in let m = length-append old (r ∷ []) in omega (arith, n, m, c.loop-q.invariant.count);
      each = subst (λ (l : List StreamBlocks). (q : ℕ) (x : StreamBlocks) → slice_get l q ≡ Some x → IsFirst c.args.plan.now c.args.squeues q x) (sym more)
          (each_more (IsFirst c.args.plan.now c.args.squeues) old r c.loop-q.invariant.each (subst (λ (n : ℕ). IsFirst c.args.plan.now c.args.squeues n r) (sym c.loop-q.invariant.count) first));
    }
