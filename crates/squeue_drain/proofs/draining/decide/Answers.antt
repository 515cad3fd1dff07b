use Rattle.std.proofs.Common.{◌≡◌, ℕ, List, [], ◌∷◌, arith}
use Rattle.std.proofs.lemmas.List.{nil_from_length}
use Rattle.perimeter_core.specs.declared.entries.Entry.{Entry}
use Rattle.perimeter_core.specs.declared.entries.Entry.TheVariants as Entry'
use Rattle.squeue_drain.proofs.Deciding.{at, gives, leaves, hand_is_some, left, left_tells, room, takes, taken, grants, granted_to, granted_tells, ask_first, asks, granted_is, none_queued, some_queued, is_not}
use Rattle.squeue_drain.proofs.draining.decide.Given.{Over}
use Rattle.squeue_drain.proofs.draining.decide.Goals.{Then-len-gt0, After-chain_len}
use Rattle.squeue_drain.proofs.draining.decide.Goals as goal

-- what is left of the hand: an Ask first, or nothing
ask : (g : Over) (c : Then-len-gt0 g) → (j : ℕ) × (rest : List Entry) × (c.args.owner.hand.left ≡ Entry'.Ask j ∷ rest)
ask g c = ask_first c.args.owner.hand.left (c.requires.front c.if-spent.false) (omega (arith, c.len.ensures, c.if-len-gt0.true))

nothing : (g : Over) (c : After-chain_len g) → c.args.owner.hand.left ≡ []
nothing g c = nil_from_length c.args.owner.hand.left (omega (arith, c.len.ensures, c.if-len-gt0.false))

pub leave-pass-requires-clause-hand : goal.leave-pass-requires-clause-hand
leave-pass-requires-clause-hand g c = (at c.requires.feeds c.requires.has c.turn-turn.ensures).left

pub leave-pass-requires-clause-resident : goal.leave-pass-requires-clause-resident
leave-pass-requires-clause-resident g c = gives c.requires.feeds c.requires.has c.turn-turn.ensures

pub leave-pass-requires-clause-room : goal.leave-pass-requires-clause-room
leave-pass-requires-clause-room g c = room c.requires.feeds c.requires.has c.turn-turn.ensures

pub leave-pass-requires-then-chain_len-eq0-clause-hand : goal.leave-pass-requires-then-chain_len-eq0-clause-hand
leave-pass-requires-then-chain_len-eq0-clause-hand g c = (at c.requires.feeds c.requires.has c.turn-turn.ensures).left

pub leave-pass-requires-then-chain_len-eq0-clause-resident : goal.leave-pass-requires-then-chain_len-eq0-clause-resident
leave-pass-requires-then-chain_len-eq0-clause-resident g c = gives c.requires.feeds c.requires.has c.turn-turn.ensures

pub leave-pass-requires-then-chain_len-eq0-clause-room : goal.leave-pass-requires-then-chain_len-eq0-clause-room
leave-pass-requires-then-chain_len-eq0-clause-room g c = room c.requires.feeds c.requires.has c.turn-turn.ensures

pub leave-pass-requires-clause-may : goal.leave-pass-requires-clause-may
leave-pass-requires-clause-may g c = leaves c.requires.feeds c.requires.has c.turn-turn.ensures (c.requires.some c.if-spent.true)

pub leave-pass-requires-then-chain_len-eq0-clause-may : goal.leave-pass-requires-then-chain_len-eq0-clause-may
leave-pass-requires-then-chain_len-eq0-clause-may g c =
    leaves c.requires.feeds c.requires.has c.turn-turn.ensures (hand_is_some c.requires.feeds c.requires.has c.turn-turn.ensures (nothing g (goal.at.leave-pass-requires-then-chain_len-eq0-clause-may g c).After-chain_len))

pub returns-then-spent : goal.returns-then-spent
returns-then-spent g c =
    let l = c.leave-pass.ensures in (
      left c.requires.feeds c.requires.has c.turn-turn.ensures (c.requires.some c.if-spent.true) (λ n. is_not c.args.spent n c.if-spent.true) l.marked,
      left_tells c.requires.feeds c.requires.has c.turn-turn.ensures l.rest l.polling l.marked,
    )

pub returns-then-chain_len-eq0 : goal.returns-then-chain_len-eq0
returns-then-chain_len-eq0 g c =
    let none = nothing g (goal.at.returns-then-chain_len-eq0 g c).After-chain_len in
    let l = c.leave-pass-then-chain_len-eq0.ensures in
    let queue = none_queued c.chain_len.result c.turn-turn.ensures c.chain_len.ensures c.if-chain_len-eq0.true in (
      left c.requires.feeds c.requires.has c.turn-turn.ensures (hand_is_some c.requires.feeds c.requires.has c.turn-turn.ensures none) (λ n. (none, queue)) l.marked,
      left_tells c.requires.feeds c.requires.has c.turn-turn.ensures l.rest l.polling l.marked,
    )

pub grant-pass-requires-clause-hand : goal.grant-pass-requires-clause-hand
grant-pass-requires-clause-hand g c = (at c.requires.feeds c.requires.has c.turn-turn.ensures).left

pub grant-pass-requires-clause-first : goal.grant-pass-requires-clause-first
grant-pass-requires-clause-first g c = let a = ask g c in asks a.0 c.args.owner.hand.left a.1 a.2

pub grant-pass-requires-clause-resident : goal.grant-pass-requires-clause-resident
grant-pass-requires-clause-resident g c = gives c.requires.feeds c.requires.has c.turn-turn.ensures

pub grant-pass-requires-clause-room : goal.grant-pass-requires-clause-room
grant-pass-requires-clause-room g c = room c.requires.feeds c.requires.has c.turn-turn.ensures

pub grant-pass-requires-clause-may : goal.grant-pass-requires-clause-may
grant-pass-requires-clause-may g c =
    let a = ask g c in
    rw (granted_is c.turn-turn.result.number a.0 c.args.owner.hand.left a.1 a.2) (grants c.requires.feeds c.requires.has c.turn-turn.ensures a.2)

pub returns-then-len-gt0 : goal.returns-then-len-gt0
returns-then-len-gt0 g c =
    let a = ask g (goal.at.returns-then-len-gt0 g c).Then-len-gt0 in
    let r = c.grant-pass.ensures in
    let m = rw (granted_is c.turn-turn.result.number a.0 c.args.owner.hand.left a.1 a.2) at c.grant-pass.ensures.marked in
    (granted_to c.requires.feeds c.requires.has c.turn-turn.ensures a.2 c.if-spent.false m, granted_tells c.requires.feeds c.requires.has c.turn-turn.ensures a.2 r.rest r.polling m)

pub len-requires : goal.len-requires
len-requires g c = let r = room c.requires.feeds c.requires.has c.turn-turn.ensures in omega (arith, r)

pub take-pass-requires-clause-may : goal.take-pass-requires-clause-may
take-pass-requires-clause-may g c =
    takes c.requires.feeds c.requires.has c.turn-turn.ensures (nothing g (goal.at.take-pass-requires-clause-may g c).After-chain_len)
    (some_queued c.chain_len.result c.turn-turn.ensures c.chain_len.ensures c.if-chain_len-eq0.false)

pub take-pass-requires-clause-hand : goal.take-pass-requires-clause-hand
take-pass-requires-clause-hand g c = ((at c.requires.feeds c.requires.has c.turn-turn.ensures).left, nothing g (goal.at.take-pass-requires-clause-hand g c).After-chain_len)

pub returns : goal.returns
returns g c =
    let queue = some_queued c.chain_len.result c.turn-turn.ensures c.chain_len.ensures c.if-chain_len-eq0.false in
    (c.if-spent.false, taken c.requires.feeds c.requires.has c.turn-turn.ensures (nothing g (goal.at.returns g c).After-chain_len) queue c.take-pass.ensures.pass c.take-pass.ensures.hand)
