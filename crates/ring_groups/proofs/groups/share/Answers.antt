use Rattle.std.proofs.Common.{◌≡◌, ◌-◌, ◌/◌, ap, arith, refl}
use Rattle.std.proofs.Math.Nat.{div-one}
use Rattle.ring_groups.proofs.Shares.{share_fits, share_leaves, share_of_few}
use Rattle.ring_groups.proofs.groups.share.Goals as goal

pub overflow_sub-result : goal.overflow_sub-result
overflow_sub-result c = c.requires

pub nonzero_div-result : goal.nonzero_div-result
nonzero_div-result c = omega (arith, c.if-groups-le1.false)

pub overflow_add-result : goal.overflow_add-result
overflow_add-result c = omega (arith, share_fits c.args.count c.args.groups c.requires (omega (arith, c.if-groups-le1.false)), c.ranges.count.fits)

pub returns-then-groups-le1-clause-fits : goal.returns-then-groups-le1-clause-fits
returns-then-groups-le1-clause-fits c = (c.requires, omega arith)

pub returns-then-groups-le1-clause-leaves : goal.returns-then-groups-le1-clause-leaves
returns-then-groups-le1-clause-leaves c few fit = omega (arith, c.if-groups-le1.true)

pub returns-then-groups-le1-clause-few : goal.returns-then-groups-le1-clause-few
returns-then-groups-le1-clause-few c few = omega (arith, c.if-groups-le1.true, c.requires, few)

pub returns-then-groups-le1-clause-last : goal.returns-then-groups-le1-clause-last
returns-then-groups-le1-clause-last c few = omega arith

pub returns-else-groups-le1-clause-fits : goal.returns-else-groups-le1-clause-fits
returns-else-groups-le1-clause-fits c = (omega arith, share_fits c.args.count c.args.groups c.requires (omega (arith, c.if-groups-le1.false)))

pub returns-else-groups-le1-clause-leaves : goal.returns-else-groups-le1-clause-leaves
returns-else-groups-le1-clause-leaves c few fit = share_leaves c.args.count c.args.groups few fit

pub returns-else-groups-le1-clause-few : goal.returns-else-groups-le1-clause-few
returns-else-groups-le1-clause-few c few = share_of_few c.args.count c.args.groups c.requires few

pub returns-then-groups-le1-clause-value : goal.returns-then-groups-le1-clause-value
returns-then-groups-le1-clause-value c few =
    let one : c.args.groups ≡ 1 = omega (arith, few, c.if-groups-le1.true) in
    omega (arith, c.requires, div-one (c.args.count - 1), ap (λ n. (c.args.count - 1) / n) one)

pub returns-else-groups-le1-clause-value : goal.returns-else-groups-le1-clause-value
returns-else-groups-le1-clause-value c few = refl

pub returns-else-groups-le1-clause-last : goal.returns-else-groups-le1-clause-last
returns-else-groups-le1-clause-last c few = absurd (omega (arith, c.if-groups-le1.false, few))
