use Rattle.std.proofs.Common.{◌≡◌, ℕ, ◌≤◌, Option, None, Some, List, length, map, slice_get, refl, sym, ap, subst, ◌∙◌, arith, rules}
use Rattle.sq_base.specs.declared.kinds.Tuple.{Tuple}
use Rattle.placed_parts.specs.Placing.{limits_of, origin_of}
use Rattle.squeue_state.specs.declared.guarded.Life.{Life}
use Rattle.stream_stays.specs.Places.{life_of}
use Rattle.live_chats.specs.Seating.{HasHeardSeats, HasSeats, all_learnt, conns_of}
use Rattle.live_chats.specs.declared.ear.Heard.{Heard}
use Rattle.live_chats.specs.declared.seat.Seat.{Seat}
use Rattle.std.specs.Map.{keys_of}
use Rattle.live_server.specs.Told.Told.{hears}
use Rattle.live_server.proofs.WrittenLemmas.{nothing_sent}
use Rattle.live_chats.specs.Accounts.{SeatsWereTold}
use Rattle.live_chats.proofs.LivedLemmas.{begins_on}
use Rattle.live_chats.proofs.SeatLemmas.{nobody_heard}
use Rattle.live_chats.proofs.ToldLemmas.{all_conns, all_frames_told, all_seats, all_sent, heard_length, is_heard, learnt_length, some_seats, some_sent, some_spoilt}
use Rattle.live_chats.proofs.reaching.reach_now.Goals as goal

pub returns-then-all-clause-seats : goal.returns-then-all-clause-seats
returns-then-all-clause-seats g c =
    let s = c.args.line.now.squeue.now in
    let es = c.args.seats.now.entries in
    let b = c.listen-pass.new.stays in
    let hs = c.mark_next.new.heard.items in
    let heard = is_heard c.args.measures c.args.now c.args.stays.now c.tell_all-pass.new.stays b es c.listen-pass.result.1.items hs c.args.out.now.items c.listen-pass.new.out.items c.tell_all-pass.result.1 _ c.requires.time c.tell_all-pass.ensures.count
    c.requires.seats.seated c.requires.seats.distinct c.tell_all-pass.ensures.told c.listen-pass.ensures.kept c.tell_all-pass.ensures.touched c.listen-pass.ensures.answers (λ lt. c.mark_next.ensures.next (omega (arith, lt, c.len-3.ensures.len)))
    (λ past. c.mark_next.ensures.all (omega (arith, past, c.len-3.ensures.len))) in
    let learned = c.learn_all.ensures ∙ ap (λ (l : List (Option Heard)). all_learnt l c.args.seats.now.entries) c.as_slice.ensures.value in
    let paid : length c.args.seats.now.entries ≤ (life_of c.listen-pass.new.stays).asks =
    omega (arith, c.listen-pass.ensures.asks, c.tell_all-pass.ensures.asks, c.if-life-len.false, c.len.ensures.len, ap (λ (l : Life). l.asks) c.life.ensures) in
    let all = λ (k : ℕ) (is : slice_get c.mark_next.new.heard.items k ≡ Some None). c.all_heard-all.ensures c.if-all.true k (ap (λ (l : List (Option Heard)). slice_get l k) c.as_slice-2.ensures.value ∙ is) in
    subst (HasSeats limits_of s (origin_of s.given.first) c.listen-pass.result.0 b) (sym learned)
    (all_seats c.args.measures c.args.now c.args.stays.now b es c.listen-pass.result.1.items hs c.args.out.now.items c.listen-pass.new.out.items heard limits_of s (origin_of s.given.first) c.listen-pass.result.0 c.listen-pass.ensures.settled c.requires.seats.distinct paid all)

pub returns-then-all-clause-table : goal.returns-then-all-clause-table
returns-then-all-clause-table g c = λ _.
    let es = c.args.seats.now.entries in
    let b = c.listen-pass.new.stays in
    let hs = c.mark_next.new.heard.items in
    let heard = is_heard c.args.measures c.args.now c.args.stays.now c.tell_all-pass.new.stays b es c.listen-pass.result.1.items hs c.args.out.now.items c.listen-pass.new.out.items c.tell_all-pass.result.1 _ c.requires.time c.tell_all-pass.ensures.count
    c.requires.seats.seated c.requires.seats.distinct c.tell_all-pass.ensures.told c.listen-pass.ensures.kept c.tell_all-pass.ensures.touched c.listen-pass.ensures.answers (λ lt. c.mark_next.ensures.next (omega (arith, lt, c.len-3.ensures.len)))
    (λ past. c.mark_next.ensures.all (omega (arith, past, c.len-3.ensures.len))) in
    let learned = c.learn_all.ensures ∙ ap (λ (l : List (Option Heard)). all_learnt l c.args.seats.now.entries) c.as_slice.ensures.value in
    let all = λ (k : ℕ) (is : slice_get c.mark_next.new.heard.items k ≡ Some None). c.all_heard-all.ensures c.if-all.true k (ap (λ (l : List (Option Heard)). slice_get l k) c.as_slice-2.ensures.value ∙ is) in
    ap (conns_of b) learned ∙ all_conns c.args.measures c.args.now c.args.stays.now b es c.listen-pass.result.1.items hs c.args.out.now.items c.listen-pass.new.out.items heard all

pub returns-then-all-clause-sent : goal.returns-then-all-clause-sent
returns-then-all-clause-sent g c = λ _.
    let es = c.args.seats.now.entries in
    let b = c.listen-pass.new.stays in
    let hs = c.mark_next.new.heard.items in
    let heard = is_heard c.args.measures c.args.now c.args.stays.now c.tell_all-pass.new.stays b es c.listen-pass.result.1.items hs c.args.out.now.items c.listen-pass.new.out.items c.tell_all-pass.result.1 _ c.requires.time c.tell_all-pass.ensures.count
    c.requires.seats.seated c.requires.seats.distinct c.tell_all-pass.ensures.told c.listen-pass.ensures.kept c.tell_all-pass.ensures.touched c.listen-pass.ensures.answers (λ lt. c.mark_next.ensures.next (omega (arith, lt, c.len-3.ensures.len)))
    (λ past. c.mark_next.ensures.all (omega (arith, past, c.len-3.ensures.len))) in
    let all = λ (k : ℕ) (is : slice_get c.mark_next.new.heard.items k ≡ Some None). c.all_heard-all.ensures c.if-all.true k (ap (λ (l : List (Option Heard)). slice_get l k) c.as_slice-2.ensures.value ∙ is) in
    all_sent c.args.measures c.args.now c.args.stays.now b es c.listen-pass.result.1.items hs c.args.out.now.items c.listen-pass.new.out.items heard all

pub returns-then-all-clause-told : goal.returns-then-all-clause-told
returns-then-all-clause-told g c = λ _.
    let es = c.args.seats.now.entries in
    let b = c.listen-pass.new.stays in
    let hs = c.mark_next.new.heard.items in
    let heard = is_heard c.args.measures c.args.now c.args.stays.now c.tell_all-pass.new.stays b es c.listen-pass.result.1.items hs c.args.out.now.items c.listen-pass.new.out.items c.tell_all-pass.result.1 _ c.requires.time c.tell_all-pass.ensures.count
    c.requires.seats.seated c.requires.seats.distinct c.tell_all-pass.ensures.told c.listen-pass.ensures.kept c.tell_all-pass.ensures.touched c.listen-pass.ensures.answers (λ lt. c.mark_next.ensures.next (omega (arith, lt, c.len-3.ensures.len)))
    (λ past. c.mark_next.ensures.all (omega (arith, past, c.len-3.ensures.len))) in
    let learned = c.learn_all.ensures ∙ ap (λ (l : List (Option Heard)). all_learnt l c.args.seats.now.entries) c.as_slice.ensures.value in
    let all = λ (k : ℕ) (is : slice_get c.mark_next.new.heard.items k ≡ Some None). c.all_heard-all.ensures c.if-all.true k (ap (λ (l : List (Option Heard)). slice_get l k) c.as_slice-2.ensures.value ∙ is) in
    let s = c.args.line.now.squeue.now in
    subst (λ (l : List (Tuple × Seat)). SeatsWereTold limits_of s c.args.pass c.listen-pass.result.0 c.args.stays.now b es l (map hears (keys_of es))) (sym learned)
    (all_frames_told c.args.measures c.args.now c.args.stays.now b es c.listen-pass.result.1.items hs c.args.out.now.items c.listen-pass.new.out.items heard limits_of s c.args.pass c.listen-pass.result.0
    c.requires.seats.distinct all (begins_on _ _ _ c.tell_all-pass.ensures.grows c.listen-pass.ensures.grows))

pub drop_unheard-pass-requires-clause-seats : goal.drop_unheard-pass-requires-clause-seats
drop_unheard-pass-requires-clause-seats g c =
    let s = c.args.line.now.squeue.now in
    let es = c.args.seats.now.entries in
    let b = c.listen-pass.new.stays in
    let hs = c.mark_next.new.heard.items in
    let heard = is_heard c.args.measures c.args.now c.args.stays.now c.tell_all-pass.new.stays b es c.listen-pass.result.1.items hs c.args.out.now.items c.listen-pass.new.out.items c.tell_all-pass.result.1 _ c.requires.time c.tell_all-pass.ensures.count
    c.requires.seats.seated c.requires.seats.distinct c.tell_all-pass.ensures.told c.listen-pass.ensures.kept c.tell_all-pass.ensures.touched c.listen-pass.ensures.answers (λ lt. c.mark_next.ensures.next (omega (arith, lt, c.len-3.ensures.len)))
    (λ past. c.mark_next.ensures.all (omega (arith, past, c.len-3.ensures.len))) in
    let learned = c.learn_all.ensures ∙ ap (λ (l : List (Option Heard)). all_learnt l c.args.seats.now.entries) c.as_slice.ensures.value in
    let paid : length c.args.seats.now.entries ≤ (life_of c.listen-pass.new.stays).asks =
    omega (arith, c.listen-pass.ensures.asks, c.tell_all-pass.ensures.asks, c.if-life-len.false, c.len.ensures.len, ap (λ (l : Life). l.asks) c.life.ensures) in
    subst (λ (x : List (Option Heard) × List (Tuple × Seat)). HasHeardSeats limits_of c.args.line.now.squeue.now (origin_of c.args.line.now.squeue.now.given.first) x.0 (length x.0) c.listen-pass.result.0 c.listen-pass.new.stays x.1)
    (λ j. (sym c.as_slice-3.ensures.value j, sym learned j))
    (some_seats c.args.measures c.args.now c.args.stays.now b es c.listen-pass.result.1.items hs c.args.out.now.items c.listen-pass.new.out.items heard limits_of s (origin_of s.given.first) c.listen-pass.result.0 c.listen-pass.ensures.settled c.requires.seats.distinct paid)

pub drop_unheard-pass-requires-clause-count : goal.drop_unheard-pass-requires-clause-count
drop_unheard-pass-requires-clause-count g c =
    let es = c.args.seats.now.entries in
    let b = c.listen-pass.new.stays in
    let hs = c.mark_next.new.heard.items in
    let heard = is_heard c.args.measures c.args.now c.args.stays.now c.tell_all-pass.new.stays b es c.listen-pass.result.1.items hs c.args.out.now.items c.listen-pass.new.out.items c.tell_all-pass.result.1 _ c.requires.time c.tell_all-pass.ensures.count
    c.requires.seats.seated c.requires.seats.distinct c.tell_all-pass.ensures.told c.listen-pass.ensures.kept c.tell_all-pass.ensures.touched c.listen-pass.ensures.answers (λ lt. c.mark_next.ensures.next (omega (arith, lt, c.len-3.ensures.len)))
    (λ past. c.mark_next.ensures.all (omega (arith, past, c.len-3.ensures.len))) in
    let learned = c.learn_all.ensures ∙ ap (λ (l : List (Option Heard)). all_learnt l c.args.seats.now.entries) c.as_slice.ensures.value in
    omega (arith, ap length c.as_slice-3.ensures.value, ap length learned, learnt_length hs es, heard_length c.args.measures c.args.now c.args.stays.now b es c.listen-pass.result.1.items hs c.args.out.now.items c.listen-pass.new.out.items heard)

pub returns-clause-lost : goal.returns-clause-lost
returns-clause-lost g c = λ _.
    let es = c.args.seats.now.entries in
    let b = c.listen-pass.new.stays in
    let hs = c.mark_next.new.heard.items in
    let heard = is_heard c.args.measures c.args.now c.args.stays.now c.tell_all-pass.new.stays b es c.listen-pass.result.1.items hs c.args.out.now.items c.listen-pass.new.out.items c.tell_all-pass.result.1 _ c.requires.time c.tell_all-pass.ensures.count
    c.requires.seats.seated c.requires.seats.distinct c.tell_all-pass.ensures.told c.listen-pass.ensures.kept c.tell_all-pass.ensures.touched c.listen-pass.ensures.answers (λ lt. c.mark_next.ensures.next (omega (arith, lt, c.len-3.ensures.len)))
    (λ past. c.mark_next.ensures.all (omega (arith, past, c.len-3.ensures.len))) in
    let learned = c.learn_all.ensures ∙ ap (λ (l : List (Option Heard)). all_learnt l c.args.seats.now.entries) c.as_slice.ensures.value in
    some_spoilt c.args.measures c.args.now c.args.stays.now b es c.listen-pass.result.1.items hs c.args.out.now.items c.listen-pass.new.out.items heard c.drop_unheard-pass.new.stays c.drop_unheard-pass.new.seats.entries
    (λ k e at. (let was = c.drop_unheard-pass.ensures.were k e at in (was.0, was.1, ap (λ (l : List (Tuple × Seat)). slice_get l was.0) (sym learned) ∙ was.2, was.3)))

pub learn_all-requires : goal.learn_all-requires
learn_all-requires g c =
    let es = c.args.seats.now.entries in
    let b = c.listen-pass.new.stays in
    let hs = c.mark_next.new.heard.items in
    let heard = is_heard c.args.measures c.args.now c.args.stays.now c.tell_all-pass.new.stays b es c.listen-pass.result.1.items hs c.args.out.now.items c.listen-pass.new.out.items c.tell_all-pass.result.1 _ c.requires.time c.tell_all-pass.ensures.count
    c.requires.seats.seated c.requires.seats.distinct c.tell_all-pass.ensures.told c.listen-pass.ensures.kept c.tell_all-pass.ensures.touched c.listen-pass.ensures.answers (λ lt. c.mark_next.ensures.next (omega (arith, lt, c.len-3.ensures.len)))
    (λ past. c.mark_next.ensures.all (omega (arith, past, c.len-3.ensures.len))) in
    omega (arith, ap length c.as_slice.ensures.value, heard_length c.args.measures c.args.now c.args.stays.now b es c.listen-pass.result.1.items hs c.args.out.now.items c.listen-pass.new.out.items heard)

pub returns-then-is_empty-clause-told : goal.returns-then-is_empty-clause-told
returns-then-is_empty-clause-told g c = λ _.
    let none : length c.args.seats.now.entries ≡ 0 = search rules in
    nobody_heard limits_of c.args.line.now.squeue.now c.args.pass c.args.stays.now c.args.seats.now.entries none

pub returns-clause-wrote : goal.returns-clause-wrote
returns-clause-wrote g c = λ _.
    let es = c.args.seats.now.entries in
    let b = c.listen-pass.new.stays in
    let hs = c.mark_next.new.heard.items in
    let heard = is_heard c.args.measures c.args.now c.args.stays.now c.tell_all-pass.new.stays b es c.listen-pass.result.1.items hs c.args.out.now.items c.listen-pass.new.out.items c.tell_all-pass.result.1 _ c.requires.time c.tell_all-pass.ensures.count
    c.requires.seats.seated c.requires.seats.distinct c.tell_all-pass.ensures.told c.listen-pass.ensures.kept c.tell_all-pass.ensures.touched c.listen-pass.ensures.answers (λ lt. c.mark_next.ensures.next (omega (arith, lt, c.len-3.ensures.len)))
    (λ past. c.mark_next.ensures.all (omega (arith, past, c.len-3.ensures.len))) in
    some_sent c.args.measures c.args.now c.args.stays.now b es c.listen-pass.result.1.items hs c.args.out.now.items c.listen-pass.new.out.items heard

pub returns-then-life-len-clause-wrote : goal.returns-then-life-len-clause-wrote
returns-then-life-len-clause-wrote g c = λ _. nothing_sent _ _ _ refl

pub returns-in_default-clause-wrote : goal.returns-in_default-clause-wrote
returns-in_default-clause-wrote g c = λ _. nothing_sent _ _ _ refl
