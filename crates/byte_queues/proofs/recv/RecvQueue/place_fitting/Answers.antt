use Rattle.std.proofs.Common.{◌≡◌, List, ◌+◌, ◌^◌, ◌≤◌, length, length-drop, drop, min, sym, ap, ◌∙◌, subst, arith, rules}
use Rattle.byte_queues.specs.ReceiveQueue.{Recv, next_of, laid}
use Rattle.byte_queues.specs.Runs.{count_before, count_up_to}
use Rattle.byte_queues.specs.declared.run.Run.{Run}
use Rattle.byte_queues.proofs.JoinLemmas.{before-within, up-within}
use Rattle.byte_queues.proofs.RunLemmas.{spaced-small, spaced-lower, spaced-higher}
use Rattle.byte_queues.proofs.PlaceLemmas.{Fitting, touched, touched-is, text-is, room-is, with_text, place-sound, place-held, place-blocks}
use Rattle.byte_queues.proofs.recv.RecvQueue.place_fitting.Goals as goal

pub runs_before-first-requires : goal.runs_before-first-requires
runs_before-first-requires c =
    let a = c.self.inside in
    let small = spaced-small a.taken (min (a.edge + 1) (2 ^ 62 + 2 ^ 32)) a.runs.items (omega arith) c.self.invariant.spaced in
    search (rules, small)

pub runs_touched-count-requires : goal.runs_touched-count-requires
runs_touched-count-requires c =
    let a = c.self.inside in
    let first : c.runs_before-first.result ≡ count_before c.args.at a.runs.items = c.runs_before-first.ensures ∙ ap (count_before c.args.at) c.as_slice.ensures.value in
    let w = before-within c.args.at a.runs.items in
    let same = ap length c.as_slice-2.ensures.value in
    omega (arith, first, w, same)

pub join-requires-clause-within : goal.join-requires-clause-within
join-requires-clause-within c =
    let a = c.self.inside in
    let at = c.args.at in
    let text = c.args.text.now in
    let first : c.runs_before-first.result ≡ count_before at a.runs.items = c.runs_before-first.ensures ∙ ap (count_before at) c.as_slice.ensures.value in
    let i = c.runs_before-first.result in
    let count : c.runs_touched-count.result ≡ count_up_to (at + length text) (drop i a.runs.items) =
    c.runs_touched-count.ensures ∙ ap (λ (rs : List Run). count_up_to (at + length text) (drop i rs)) c.as_slice-2.ensures.value in
    let w = before-within at a.runs.items in
    let u = up-within (at + length text) (drop i a.runs.items) in
    let l = length-drop i a.runs.items in
    omega (arith, first, count, w, u, l)

pub join-requires-clause-small : goal.join-requires-clause-small
join-requires-clause-small c =
    let a = c.self.inside in
    spaced-small a.taken (min (a.edge + 1) (2 ^ 62 + 2 ^ 32)) a.runs.items (omega arith) c.self.invariant.spaced

pub join-requires-clause-spaced : goal.join-requires-clause-spaced
join-requires-clause-spaced c =
    let a = c.self.inside in
    let high = min (a.edge + 1) (2 ^ 62 + 2 ^ 32) in
    spaced-lower a.taken 0 (2 ^ 64) a.runs.items (omega arith) (spaced-higher a.taken high (2 ^ 64) a.runs.items (omega arith) c.self.invariant.spaced)

pub invariant_of-self-then-has_room : goal.invariant_of-self-then-has_room
unfolding next_of
invariant_of-self-then-has_room c =
    let a = c.self.inside in
    let at = c.args.at in
    let text = c.args.text.now in
    let i = c.runs_before-first.result in
    let first : i ≡ count_before at a.runs.items = c.runs_before-first.ensures ∙ ap (count_before at) c.as_slice.ensures.value in
    let count : c.runs_touched-count.result ≡ touched at text a.runs.items =
    touched-is at (at + length text) i c.runs_touched-count.result text a.runs.items first (omega arith)
    (c.runs_touched-count.ensures ∙ ap (λ (rs : List Run). count_up_to (at + length text) (drop i rs)) c.as_slice-2.ensures.value) in
    let fits : Fitting a at text = record {
      queue = c.self.invariant;
      behind = subst (λ (q : Recv). q.taken ≤ at) (sym c.self.view_is) c.requires.behind;
      small = c.requires.small;
      some = c.requires.some;
      within = subst (λ (q : Recv). at + length text ≤ q.edge) (sym c.self.view_is) c.requires.within;
    } in
    let yes = sym (room-is a at c.runs_touched-count.result text c.args.self.now c.has_room.result c.self.view_is count c.has_room.ensures) ∙ c.if-has_room.true in
    let items : c.join.new.runs.items ≡ with_text at text a.runs.items = c.in_ok-join.ensures.ok ∙ text-is at i c.runs_touched-count.result text a.runs.items first count in
    let s = place-sound a at text c.join.new.runs.items fits yes items in
    record { spaced = s.spaced; few = s.few; edge = s.edge; read = s.read }

pub returns-in_ok-join-clause-ok : goal.returns-in_ok-join-clause-ok
returns-in_ok-join-clause-ok c =
    let a = c.self.inside in
    let at = c.args.at in
    let text = c.args.text.now in
    let i = c.runs_before-first.result in
    let first : i ≡ count_before at a.runs.items = c.runs_before-first.ensures ∙ ap (count_before at) c.as_slice.ensures.value in
    let count : c.runs_touched-count.result ≡ touched at text a.runs.items =
    touched-is at (at + length text) i c.runs_touched-count.result text a.runs.items first (omega arith)
    (c.runs_touched-count.ensures ∙ ap (λ (rs : List Run). count_up_to (at + length text) (drop i rs)) c.as_slice-2.ensures.value) in
    let fits : Fitting a at text = record {
      queue = c.self.invariant;
      behind = subst (λ (q : Recv). q.taken ≤ at) (sym c.self.view_is) c.requires.behind;
      small = c.requires.small;
      some = c.requires.some;
      within = subst (λ (q : Recv). at + length text ≤ q.edge) (sym c.self.view_is) c.requires.within;
    } in
    let yes = sym (room-is a at c.runs_touched-count.result text c.args.self.now c.has_room.result c.self.view_is count c.has_room.ensures) ∙ c.if-has_room.true in
    let items : c.join.new.runs.items ≡ with_text at text a.runs.items = c.in_ok-join.ensures.ok ∙ text-is at i c.runs_touched-count.result text a.runs.items first count in
    ap (laid at text) (sym c.self.view_is) ∙ place-held a at text c.join.new.runs.items fits yes items

pub returns-else-has_room-clause-ok : goal.returns-else-has_room-clause-ok
returns-else-has_room-clause-ok c =
    let a = c.self.inside in
    let at = c.args.at in
    let text = c.args.text.now in
    let i = c.runs_before-first.result in
    let first : i ≡ count_before at a.runs.items = c.runs_before-first.ensures ∙ ap (count_before at) c.as_slice.ensures.value in
    let count : c.runs_touched-count.result ≡ touched at text a.runs.items =
    touched-is at (at + length text) i c.runs_touched-count.result text a.runs.items first (omega arith)
    (c.runs_touched-count.ensures ∙ ap (λ (rs : List Run). count_up_to (at + length text) (drop i rs)) c.as_slice-2.ensures.value) in
    let fits : Fitting a at text = record {
      queue = c.self.invariant;
      behind = subst (λ (q : Recv). q.taken ≤ at) (sym c.self.view_is) c.requires.behind;
      small = c.requires.small;
      some = c.requires.some;
      within = subst (λ (q : Recv). at + length text ≤ q.edge) (sym c.self.view_is) c.requires.within;
    } in
    let no = sym (room-is a at c.runs_touched-count.result text c.args.self.now c.has_room.result c.self.view_is count c.has_room.ensures) ∙ c.if-has_room.false in
    ap (laid at text) (sym c.self.view_is) ∙ place-blocks a at text fits no
