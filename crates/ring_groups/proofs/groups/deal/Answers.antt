use Rattle.std.proofs.Common.{◌≡◌, ◌++◌, ◌∷◌, [], List, sym, ap, ◌∙◌, ◌+◌, ◌-◌, ◌/◌, ◌≤◌, min, arith, rules, length, length-append, append-nil, subst}
use Rattle.std.specs.Prelude.{All, reverse}
use Rattle.std.proofs.Math.Nat.{min-zero}
use Rattle.std.proofs.lemmas.List.{reverse-reverse, length-reverse}
use Rattle.std.proofs.lemmas.List.Elements.{All-append, All-cons, All-nil}
use Rattle.ring_groups.specs.declared.groups.Group.{Group}
use Rattle.ring_groups.specs.declared.groups.Group.TheVariants as Group'
use Rattle.ring_groups.specs.Groups.{IsEven, MayServe, all_in}
use Rattle.ring_groups.proofs.Grouped.{dealt_more, none_left}
use Rattle.ring_groups.proofs.Shares.{AreEvenly, dealt_even, dealt_min, evenly_begun, left_over, shares_some}
use Rattle.ring_groups.proofs.groups.deal.Goals as goal

pub groups-init : goal.groups-init
groups-init g c =
    let all = c.args.all.items in
    let none = c.in_ok-groups.ensures.items in
    record {
      dealt = sym (ap (λ l. all_in l ++ reverse c.reverse.new.self.items) none ∙ (ap reverse c.reverse.ensures.items ∙ reverse-reverse all));
      may = subst (All MayServe) (sym none) (All-nil MayServe);
      few = omega (arith, ap length c.reverse.ensures.items, length-reverse all, c.requires);
      left = λ some any. some;
      many = λ some. let same : length c.reverse.new.self.items ≡ length all = ap length c.reverse.ensures.items ∙ length-reverse all in
          omega (arith, ap length none, ap (min c.args.squeues) same);
      even = λ some.
          let same : length c.reverse.new.self.items ≡ length all = ap length c.reverse.ensures.items ∙ length-reverse all in
          let each = length all / min c.args.squeues (length all) in (
            subst (All (IsEven each)) (sym none) (All-nil (IsEven each)),
            subst (λ n. AreEvenly each n (min c.args.squeues n)) (sym same) (evenly_begun (length all) (min c.args.squeues (length all)) (λ any. shares_some (length all) c.args.squeues any some)),
          );
      room = omega (arith, ap length none, ap length c.reverse.ensures.items, length-reverse all, c.in_ok-groups.ensures.exact, c.len.ensures);
    }

pub groups-preserved : goal.groups-preserved
groups-preserved g c =
    let i = c.groups.invariant in
    let front = c.in_ok-front.front in
    let taken = c.in_ok-front.ensures.taken in
    let size = c.in_ok-front.ensures.size in
    let part : Group g.row.B.Denot g.row.A.Denot g.row.Z.Denot = Group'.Before front in
    let sizes = c.share-size.ensures in
    let count = c.len-in-groups.result in
    let same : count ≡ length c.groups.all.items = omega (arith, c.len-in-groups.ensures, c.groups.all.ok.0) in
    let any : 1 ≤ count = omega (arith, sizes.fits) in
    let there : 1 ≤ length c.groups.all.items = omega (arith, any, same) in
    let fewer : c.saturating_sub-left.result ≡ c.groups.left - 1 = search rules in
    let left = c.take_front.new.all.items in
    let whole : count ≡ length left + c.share-size.result =
    omega (arith, same, size, ap length taken, length-append front.items (reverse left), length-reverse left, length-reverse c.groups.all.items) in
    let each = length c.args.all.items / min c.args.squeues (length c.args.all.items) in
    let may : MayServe part = (omega (arith, size, sizes.fits), omega (arith, size, sizes.fits, i.few)) in
    record {
      dealt = dealt_more c.args.all.items c.groups.groups.items c.push_reserved.new.self.items part c.groups.all.items left i.dealt c.push_reserved.ensures.items taken;
      may = subst (All MayServe) (sym c.push_reserved.ensures.items) (All-append MayServe c.groups.groups.items (part ∷ []) i.may (All-cons MayServe part [] may (All-nil MayServe)));
      few = omega (arith, i.few, ap length taken, length-append front.items (reverse left), length-reverse left, length-reverse c.groups.all.items);
      left = λ some more. omega (arith, fewer, left_over count c.groups.left c.share-size.result (length left) (i.left some there) whole sizes.last more);
      many = λ some. omega (
        arith,
        i.many some,
        ap (λ n. min n (length left)) fewer,
        ap (min c.groups.left) same,
        dealt_min count c.groups.left c.share-size.result (length left) any (i.left some there) whole (sizes.leaves (i.left some there)) sizes.few,
        ap length c.push_reserved.ensures.items,
        length-append c.groups.groups.items (part ∷ []),
      );
      even = λ some.
          let was = i.even some in
          let went = dealt_even each count c.groups.left c.share-size.result (length left) any (i.left some there) whole (sizes.value (i.left some there))
          (subst (λ n. AreEvenly each n (min c.groups.left n)) (sym same) was.1) in
          let its : IsEven each part = (omega (arith, size, went.0.0), omega (arith, size, went.0.1)) in (
            subst (All (IsEven each)) (sym c.push_reserved.ensures.items) (All-append (IsEven each) c.groups.groups.items (part ∷ []) was.0 (All-cons (IsEven each) part [] its (All-nil (IsEven each)))),
            subst (λ n. AreEvenly each (length left) (min n (length left))) (sym fewer) went.1,
          );
      room = omega (
        arith,
        i.room,
        ap length c.push_reserved.ensures.items,
        length-append c.groups.groups.items (part ∷ []),
        c.push_reserved.ensures.capacity,
        ap length taken,
        length-append front.items (reverse left),
        length-reverse left,
        length-reverse c.groups.all.items,
        size,
        sizes.fits,
      );
    }

pub groups-smaller : goal.groups-smaller
groups-smaller g c =
    let front = c.in_ok-front.front in
    let taken = c.in_ok-front.ensures.taken in
    let left = c.take_front.new.all.items in
    omega (arith, ap length taken, length-append front.items (reverse left), length-reverse left, length-reverse c.groups.all.items, c.in_ok-front.ensures.size, c.share-size.ensures.fits)

pub returns-clause-groups : goal.returns-clause-groups
returns-clause-groups g c =
    let none : c.groups.all.items ≡ [] = none_left c.groups.all.items c.is_empty.result _ c.is_empty.ensures c.groups-test.false (omega (arith, c.groups.all.ok.0)) in
    sym (c.groups.invariant.dealt ∙ (ap (λ (l : List g.row.B.Denot). all_in c.groups.groups.items ++ reverse l) none ∙ append-nil (all_in c.groups.groups.items)))

pub returns-clause-even : goal.returns-clause-even
returns-clause-even g c some = (c.groups.invariant.even some).0

pub returns-clause-many : goal.returns-clause-many
returns-clause-many g c some =
    let none : c.groups.all.items ≡ [] = none_left c.groups.all.items c.is_empty.result _ c.is_empty.ensures c.groups-test.false (omega (arith, c.groups.all.ok.0)) in
    omega (arith, c.groups.invariant.many some, ap (λ l. min c.groups.left (length l)) none, min-zero c.groups.left)
