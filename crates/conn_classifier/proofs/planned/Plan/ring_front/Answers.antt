use Rattle.std.proofs.Common.{◌≡◌, ◌≤◌, ◌<◌, ◌+◌, ◌++◌, [], ◌∷◌, drop, length, get_or, set, replicate, ap, sym, subst, ◌∙◌, arith, append-nil, eq-eqb}
use Rattle.std.proofs.lemmas.List.{drop_all}
use Rattle.std.proofs.lemmas.Bool.{ne_eqb}
use Rattle.conn_classifier.specs.Plan.{PlanOf, IsPlan, items_in, records_of, IsSpaced}
use Rattle.conn_classifier.specs.RingList.{IsFront, feeds, to_segment}
use Rattle.conn_classifier.proofs.RingLaw.{Going, walk, behind, front_is, conn_here, spaced_here, some_here, skips, goes, brings, passes, going_at, walk_at, any_default}
use Rattle.conn_classifier.proofs.planned.Plan.ring_front.Goals.{then-c-rings+in_ok-next-2, else-c-rings}
use Rattle.conn_classifier.proofs.planned.Plan.ring_front.Goals as goal

pub index-n-requires : goal.index-n-requires
index-n-requires c =
    let p = c.args.self.now in
    let q : c.deref-c-items.result.now ≡ p.order = c.deref-c-items.ensures.value ∙ ap (λ (p : PlanOf). p.order) c.self.view_is in
    let g = going_at p c.args.rings c.args.r c.deref-c-items.result.now p.order q c.loop-c.c-index c.loop-c-test.true c.loop-c.next.items c.loop-c.invariant.going in
    omega (arith, conn_here p c.args.rings c.args.r _ _ _ g, g.left.long, c.loop-c.next.ok)

pub bring-requires-clause-conn : goal.bring-requires-clause-conn
bring-requires-clause-conn c =
    let p = c.args.self.now in
    let q : c.deref-c-items.result.now ≡ p.order = c.deref-c-items.ensures.value ∙ ap (λ (p : PlanOf). p.order) c.self.view_is in
    let g = going_at p c.args.rings c.args.r c.deref-c-items.result.now p.order q c.loop-c.c-index c.loop-c-test.true c.loop-c.next.items c.loop-c.invariant.going in
    conn_here p c.args.rings c.args.r _ _ _ g

pub bring-requires-clause-spaced : goal.bring-requires-clause-spaced
bring-requires-clause-spaced c =
    let p = c.args.self.now in
    let q : c.deref-c-items.result.now ≡ p.order = c.deref-c-items.ensures.value ∙ ap (λ (p : PlanOf). p.order) c.self.view_is in
    let g = going_at p c.args.rings c.args.r c.deref-c-items.result.now p.order q c.loop-c.c-index c.loop-c-test.true c.loop-c.next.items c.loop-c.invariant.going in
    let lt : get_or c.deref-c-items.result.now c.loop-c.c-index 0 < length c.loop-c.next.items = omega (arith, conn_here p c.args.rings c.args.r _ _ _ g, g.left.long) in
    let e : c.index-n.result.now ≡ get_or c.loop-c.next.items (get_or c.deref-c-items.result.now c.loop-c.c-index 0) 0 = c.index-n.ensures ∙ any_default _ _ _ 0 lt in
    subst (λ n. IsSpaced (drop n (items_in p (get_or c.deref-c-items.result.now c.loop-c.c-index 0)))) (sym e) (spaced_here p c.args.rings c.args.r _ _ _ g)

pub bring-requires-clause-segment : goal.bring-requires-clause-segment
bring-requires-clause-segment c =
    let p = c.args.self.now in
    let q : c.deref-c-items.result.now ≡ p.order = c.deref-c-items.ensures.value ∙ ap (λ (p : PlanOf). p.order) c.self.view_is in
    let g = going_at p c.args.rings c.args.r c.deref-c-items.result.now p.order q c.loop-c.c-index c.loop-c-test.true c.loop-c.next.items c.loop-c.invariant.going in
    let lt : get_or c.deref-c-items.result.now c.loop-c.c-index 0 < length c.loop-c.next.items = omega (arith, conn_here p c.args.rings c.args.r _ _ _ g, g.left.long) in
    let e : c.index-n.result.now ≡ get_or c.loop-c.next.items (get_or c.deref-c-items.result.now c.loop-c.c-index 0) 0 = c.index-n.ensures ∙ any_default _ _ _ 0 lt in
    subst (λ n. 0 < length (records_of (drop n (items_in p (get_or c.deref-c-items.result.now c.loop-c.c-index 0))))) (sym e)
    (some_here p c.args.rings c.args.r _ _ _ g (eq-eqb _ _ c.if-c-rings.true))

pub index_mut-requires : goal.index_mut-requires
index_mut-requires c =
    let p = c.args.self.now in
    let q : c.deref-c-items.result.now ≡ p.order = c.deref-c-items.ensures.value ∙ ap (λ (p : PlanOf). p.order) c.self.view_is in
    let g = going_at p c.args.rings c.args.r c.deref-c-items.result.now p.order q c.loop-c.c-index c.loop-c-test.true c.loop-c.next.items c.loop-c.invariant.going in
    omega (arith, conn_here p c.args.rings c.args.r _ _ _ g, g.left.long, c.loop-c.next.ok)

pub loop-c-preserved : goal.loop-c-preserved
loop-c-preserved c =
    let p = c.args.self.now in
    let i = c.loop-c.c-index in
    let here = get_or c.deref-c-items.result.now i 0 in
    let rest = drop (i + 1) p.order in
    let next = c.loop-c.next.items in
    let whole = walk p c.args.rings c.args.r p.order (replicate (length p.tuples) 0) in
    let q : c.deref-c-items.result.now ≡ p.order = c.deref-c-items.ensures.value ∙ ap (λ (p : PlanOf). p.order) c.self.view_is in
    let g : Going p c.args.rings c.args.r (here ∷ rest) next = going_at p c.args.rings c.args.r c.deref-c-items.result.now p.order q i c.loop-c-test.true next c.loop-c.invariant.going in
    let m : c.loop-c.list.items ++ walk p c.args.rings c.args.r (here ∷ rest) next ≡ whole =
    walk_at p c.args.rings c.args.r c.deref-c-items.result.now p.order q i c.loop-c-test.true c.loop-c.list.items whole next c.loop-c.invariant.made in
    elim c.if-c-rings.branch [
      | then-c-rings+in_ok-next-2 w ↦
          let on = eq-eqb _ _ w.if-c-rings.true in
          let lt : here < length next = omega (arith, conn_here p c.args.rings c.args.r _ _ _ g, g.left.long) in
          let n : w.index-n.result.now ≡ get_or next here 0 = w.index-n.ensures ∙ any_default _ _ _ 0 lt in
          let moved : w.in_ok-next-2.field-0 ≡ behind p c.args.rings c.args.r here (get_or next here 0) = w.in_ok-next-2.ensures.next ∙ ap (behind p c.args.rings c.args.r here) n in
          let grown : w.bring.new.list.items ≡ c.loop-c.list.items ++ feeds here (get_or next here 0) (to_segment (drop (get_or next here 0) (items_in p here))) =
          w.in_ok-next-2.ensures.list ∙ ap (λ n. c.loop-c.list.items ++ feeds here n (to_segment (drop n (items_in p here)))) n in
          let nexts : c.if-c-rings.next.items ≡ set next here (behind p c.args.rings c.args.r here (get_or next here 0)) = ap (λ v. v.items) w.next-is ∙ ap (set next here) moved in
          record {
            going = subst (Going p c.args.rings c.args.r rest) (sym nexts) (goes p c.args.rings c.args.r here rest next g on);
            made = (λ k. (w.list-is k).items ++ walk p c.args.rings c.args.r rest (nexts k))
                ∙ brings p c.args.rings c.args.r here rest next g c.loop-c.list.items w.bring.new.list.items whole m on grown;
          }
      | else-c-rings w ↦
          let off = ne_eqb _ _ w.if-c-rings.false in
          record {
            going = subst (λ v. Going p c.args.rings c.args.r rest v.items) (sym w.next-is) (skips p c.args.rings c.args.r here rest next g off);
            made = (λ k. (w.list-is k).items ++ walk p c.args.rings c.args.r rest (w.next-is k).items) ∙ passes p c.args.rings c.args.r here rest next g c.loop-c.list.items [] whole m off;
          }
    ]

pub returns : goal.returns
returns c =
    let p = c.args.self.now in
    let q : c.deref-c-items.result.now ≡ p.order = c.deref-c-items.ensures.value ∙ ap (λ (p : PlanOf). p.order) c.self.view_is in
    let over : length p.order ≤ c.loop-c.c-index = omega (arith, ap length q, c.loop-c-test.false) in
    let done : drop c.loop-c.c-index p.order ≡ [] = drop_all c.loop-c.c-index p.order over in
    let made : c.loop-c.list.items ≡ walk p c.args.rings c.args.r p.order (replicate (length p.tuples) 0) =
    sym (append-nil c.loop-c.list.items) ∙ ap (λ cs. c.loop-c.list.items ++ walk p c.args.rings c.args.r cs c.loop-c.next.items) (sym done) ∙ c.loop-c.invariant.made in
    subst (IsFront p c.args.rings c.args.r) (sym made) (front_is p c.args.rings c.args.r (subst IsPlan c.self.view_is c.self.invariant))
