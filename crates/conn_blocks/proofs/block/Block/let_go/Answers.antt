use Rattle.std.proofs.Common.{rules, ◌≡◌, ℕ, ◌+◌, ◌<◌, ◌≤◌, ◌++◌, ◌∷◌, [], true, false, Bool, length, map, drop, sym, ap, subst, ◌∙◌, arith}
use Rattle.std.specs.Prelude.{take_while}
use Rattle.std.proofs.lemmas.List.{append-nil}
use Rattle.perimeter_core.specs.declared.entries.Act.TheVariants as act
use Rattle.conn_blocks.specs.CallLists.{calls_of}
use Rattle.conn_blocks.specs.ServeOrder.{BlockOf}
use Rattle.conn_blocks.specs.Orders.{call_numbers, numbers_from, numbers_on}
use Rattle.conn_blocks.specs.Holding.{is_held_back, stage_at, Fits, IsSettled}
use Rattle.conn_blocks.proofs.Numbers.{left_one, left_none}
use Rattle.conn_blocks.proofs.LettingGo.{begins_here, next_on, gone_on, gone_all, later_on, fits_on}
use Rattle.conn_blocks.proofs.block.Block.let_go.Goals.{then-get-c+else-not-is_held, else-get-c}
use Rattle.conn_blocks.proofs.block.Block.let_go.Goals as goal

pub is_held-requires : goal.is_held-requires
is_held-requires c =
    let lt : c.loop-k.k < length (calls_of c.args.calls.now c.args.j) = omega (arith, c.loop-k-test.true, c.len-k-end.ensures.value) in
    c.loop-k.invariant.settled.table c.args.j c.loop-k.k c.requires.thread lt

pub returns-then-not-is_held-clause-order : goal.returns-then-not-is_held-clause-order
returns-then-not-is_held-clause-order c =
    let j = c.args.j in
    let k = c.loop-k.k in
    let xs = calls_of c.args.calls.now j in
    let so_far = c.loop-k.invariant in
    let f : ℕ → Bool = λ i. is_held_back (stage_at c.args.self.now.stages j i) in
    let lt : k < length xs = omega (arith, c.loop-k-test.true, c.len-k-end.ensures.value) in
    let no : c.is_held.result ≡ false = search rules in
    let held : f k ≡ false = ap is_held_back (sym (so_far.later k (omega arith))) ∙ sym c.is_held.ensures ∙ no in
    sym (append-nil c.loop-k.self.order)
    ∙ gone_all j k (numbers_from k c.args.c (drop k xs)) (numbers_from (k + 1) c.args.c (drop (k + 1) xs)) (left_one c.args.c k xs c.get.result lt c.get.ensures c.if-get-c.true) f
    c.loop-k.self.order _ held so_far.gone

pub make_call-requires-clause-next : goal.make_call-requires-clause-next
make_call-requires-clause-next c =
    let j = c.args.j in
    let k = c.loop-k.k in
    let xs = calls_of c.args.calls.now j in
    let so_far = c.loop-k.invariant in
    let lt : k < length xs = omega (arith, c.loop-k-test.true, c.len-k-end.ensures.value) in (
      c.requires.thread,
      begins_here j k (numbers_from k c.args.c (drop k xs)) (numbers_from (k + 1) c.args.c (drop (k + 1) xs)) (left_one c.args.c k xs c.get.result lt c.get.ensures c.if-get-c.true)
          (numbers_on c.args.calls.now c.args.c j) (call_numbers j c.loop-k.self.order) so_far.next,
    )

pub loop-k-preserved : goal.loop-k-preserved
loop-k-preserved c =
    let p = c.args.plan.now in
    let calls = c.args.calls.now in
    let j = c.args.j in
    let k = c.loop-k.k in
    let xs = calls_of calls j in
    let so_far = c.loop-k.invariant in
    let old = c.loop-k.self in
    let start = c.args.self.now in
    let f : ℕ → Bool = λ i. is_held_back (stage_at c.args.self.now.stages j i) in
    let lt : k < length xs = omega (arith, c.loop-k-test.true, c.len-k-end.ensures.value) in
    elim c.if-get-c.branch [
      | then-get-c+else-not-is_held w ↦
          let here = left_one c.args.c k xs c.get.result lt c.get.ensures w.if-get-c.true in
          let left = numbers_from k c.args.c (drop k xs) in
          let rest = numbers_from (k + 1) c.args.c (drop (k + 1) xs) in
          let new = c.if-get-c.self in
          let e = w.make_call.ensures in
          let longer : new.order ≡ old.order ++ act.Call j k ∷ [] = ap (λ (b : BlockOf). b.order) w.self-is ∙ e.order in
          let table = ap (λ (b : BlockOf). b.stages) w.self-is ∙ e.stages in
          let yes : w.is_held.result ≡ true = search rules in
          let held : f k ≡ true = ap is_held_back (sym (so_far.later k (omega arith))) ∙ sym w.is_held.ensures ∙ yes in
          record {
            settled = subst (IsSettled p calls c.args.c) (sym w.self-is) e.settled;
            next = next_on j k left rest here old.order new.order longer (numbers_on calls c.args.c j) so_far.next;
            gone = gone_on j k left rest here old.order new.order longer f _ held so_far.gone;
            fits = λ came fit. fits_on calls j k c.requires.thread old new longer table (so_far.settled.table j k c.requires.thread lt) came (so_far.fits came fit);
            later = λ m le. (let less : k < m = omega (arith, le) in let inner : k ≤ m = omega (arith, le) in later_on calls j k c.requires.thread old new longer table m less ∙ so_far.later m inner);
          }
      | else-get-c w ↦
          let here = left_none c.args.c k xs c.get.result lt c.get.ensures w.if-get-c.false in
          let same = w.self-is in
          record {
            settled = subst (IsSettled p calls c.args.c) (sym same) so_far.settled;
            next = so_far.next ∙ (λ i. call_numbers j (sym same i).order ++ here i);
            gone = (λ i. (same i).order ++ map (act.Call j) (take_while f (sym here i))) ∙ so_far.gone;
            fits = λ came fit. subst (Fits calls came) (sym same) (so_far.fits came fit);
            later = λ m le. (let inner : k ≤ m = omega (arith, le) in ap (λ (b : BlockOf). stage_at b.stages j m) same ∙ so_far.later m inner);
          }
    ]
