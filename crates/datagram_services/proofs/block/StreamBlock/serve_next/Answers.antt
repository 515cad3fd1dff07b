use Rattle.std.proofs.Common.{◌≡◌, ◌+◌, ◌-◌, ◌^◌, ◌<◌, ◌≤◌, List, ◌++◌, length, drop, get_or, refl, ap, ◌∙◌, arith}
use Rattle.std.proofs.lemmas.List.{get_or_default}
use Rattle.std.proofs.lemmas.Result.{on_ok_weaker}
use Rattle.byte_queues.specs.ReceiveQueue.{next_of}
use Rattle.tcb_machine.specs.BlockState.{offered}
use Rattle.sq_base.specs.declared.kinds.Tuple.{Tuple}
use Rattle.capture_reader.specs.Limits.{latest_time}
use Rattle.chargen_service.specs.Chargen.{enters}
use Rattle.conn_classifier.specs.Plan.{time_of}
use Rattle.conn_classifier.specs.declared.kinds.Item.{Item}
use Rattle.conn_classifier.specs.declared.kinds.Item.TheVariants.{Time}
use Rattle.conn_classifier.proofs.PlanFacts.{rises_most}
use Rattle.stream_plan.specs.declared.kinds.ServedDatagram.{ServedDatagram}
use Rattle.datagram_services.specs.Items.{answers_to, entry_of}
use Rattle.datagram_services.proofs.OneMore.{on_ok_of_four, one_datagram, one_item, rises_next}
use Rattle.datagram_services.proofs.block.StreamBlock.serve_next.Goals as goal

pub enter-requires-clause-time : goal.enter-requires-clause-time
enter-requires-clause-time c =
    let s = c.args.stream.now in
    let items = c.items.result.now in
    let m = c.args.self.now.had - length c.datagrams-datagrams.result.now in
    let lt : m < length s.items = omega (arith, c.requires.next, c.if-n-datagrams.false, ap length c.datagrams-datagrams.ensures) in
    let at : m ≡ c.args.self.now.had - length s.datagrams = ap (λ (l : List ServedDatagram). c.args.self.now.had - length l) c.datagrams-datagrams.ensures in
    let i : Item = get_or items m (Time 0) in
    let is : i ≡ get_or s.items (c.args.self.now.had - length s.datagrams) i =
    get_or_default items m (Time 0) i (omega (arith, lt, ap length c.items.ensures)) ∙ (ap (λ (l : List Item). get_or l m i) c.items.ensures ∙ ap (λ n. get_or s.items n i) at) in
    let rest = rises_next c.args.self.now.generator.block.clock latest_time s.items (c.args.self.now.had - length s.datagrams) i (omega (arith, lt, at)) is c.requires.so_far.next in
    let most : time_of i ≤ 9007199254740992 = rises_most (time_of i) latest_time (drop ((c.args.self.now.had - length s.datagrams) + 1) s.items) rest.1 in
    omega (arith, most)

pub returns-then-n-datagrams-clause-served : goal.returns-then-n-datagrams-clause-served
returns-then-n-datagrams-clause-served c =
    let s = c.args.stream.now in
    let ds = c.datagrams-datagrams.result.now in
    let n = c.args.self.now.had in
    let d : ServedDatagram = get_or ds n (record { at = 0; rec = 0; udp = record { src = record { 0 = 0 }; src_port = 0; dst = record { 0 = 0 }; dst_port = 0; text_from = 0; text_len = 0 } }) in
    let is : d ≡ get_or s.datagrams n d = get_or_default ds n _ d c.if-n-datagrams.true ∙ ap (λ (l : List ServedDatagram). get_or l n d) c.datagrams-datagrams.ensures in
    let lt : n < length s.datagrams = omega (arith, c.if-n-datagrams.true, ap length c.datagrams-datagrams.ensures) in
    on_ok_weaker c.answer.result
    (λ (a : c.answer.new.answers.items ≡ c.args.self.now.answers.items ++ answers_to c.args.capture.now c.tuple.result d).
    one_datagram c.args.capture.now s c.args.self.now _ c.requires.so_far refl d lt is (a ∙ ap (λ (t : Tuple). c.args.self.now.answers.items ++ answers_to c.args.capture.now t d) c.tuple.ensures) refl)
    c.answer.ensures

pub returns-else-n-datagrams-clause-served : goal.returns-else-n-datagrams-clause-served
returns-else-n-datagrams-clause-served c =
    let s = c.args.stream.now in
    let items = c.items.result.now in
    let m = c.args.self.now.had - length c.datagrams-datagrams.result.now in
    let lt : m < length s.items = omega (arith, c.requires.next, c.if-n-datagrams.false, ap length c.datagrams-datagrams.ensures) in
    let at : m ≡ c.args.self.now.had - length s.datagrams = ap (λ (l : List ServedDatagram). c.args.self.now.had - length l) c.datagrams-datagrams.ensures in
    let i : Item = get_or items m (Time 0) in
    let is : i ≡ get_or s.items (c.args.self.now.had - length s.datagrams) i =
    get_or_default items m (Time 0) i (omega (arith, lt, ap length c.items.ensures)) ∙ (ap (λ (l : List Item). get_or l m i) c.items.ensures ∙ ap (λ n. get_or s.items n i) at) in
    let le : length s.datagrams ≤ c.args.self.now.had = omega (arith, c.if-n-datagrams.false, ap length c.datagrams-datagrams.ensures) in
    on_ok_of_four c.enter.result
    (λ (step : c.enter.new.generator ≡ enters (entry_of c.args.capture.now i) c.args.self.now.generator) (clock : c.enter.new.generator.block.clock ≡ time_of i)
    (received : next_of c.enter.new.generator.block.recv ≤ next_of c.args.self.now.generator.block.recv + 2 ^ 20) (offers : offered c.enter.new.generator.block ≤ offered c.args.self.now.generator.block + 2 ^ 16).
    one_item c.args.capture.now s c.args.self.now _ c.requires.so_far refl i le (omega (arith, lt, at)) is refl step clock received offers)
    c.enter.ensures.step c.enter.ensures.clock c.enter.ensures.next c.enter.ensures.offered
