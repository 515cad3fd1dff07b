use Rattle.std.proofs.Common.{◌≡◌, ◌∙◌, rules, ap, sym, subst, not, filter, List, []}
use Rattle.sq_base.specs.declared.kinds.Tuple.{Tuple}
use Rattle.placed_parts.specs.Placing.{limits_of, origin_of}
use Rattle.indexmap.proofs.CallerLemmas.{filter-RetainsPairs}
use Rattle.live_chats.specs.Accounts.{SeatsWereTold}
use Rattle.live_chats.specs.Seating.{HasSeats, conns_of, goes}
use Rattle.live_chats.specs.declared.seat.Seat.{Seat}
use Rattle.live_chats.proofs.leaving.drop_who.Goals as goal

pub returns-clause-seats : goal.returns-clause-seats
returns-clause-seats g c =
    let s = c.args.line.now.squeue.now in
    let left : c.retain.new.self.entries ≡ filter (λ (e : Tuple × Seat). not (goes c.args.who.now e.1.facts)) c.args.seats.now.entries = filter-RetainsPairs _ _ _ (λ k v b w h call. search rules) _ _ c.retain.ensures.filtered in
    subst (λ (es : List (Tuple × Seat)). HasSeats limits_of s (origin_of s.given.first) c.close_all-pass.result c.close_all-pass.new.stays es) (sym left) c.close_all-pass.ensures.seats

pub returns-clause-table : goal.returns-clause-table
returns-clause-table g c =
    let left : c.retain.new.self.entries ≡ filter (λ (e : Tuple × Seat). not (goes c.args.who.now e.1.facts)) c.args.seats.now.entries = filter-RetainsPairs _ _ _ (λ k v b w h call. search rules) _ _ c.retain.ensures.filtered in
    ap (conns_of c.close_all-pass.new.stays) left ∙ c.close_all-pass.ensures.table

pub returns-clause-told : goal.returns-clause-told
returns-clause-told g c =
    let s = c.args.line.now.squeue.now in
    let left : c.retain.new.self.entries ≡ filter (λ (e : Tuple × Seat). not (goes c.args.who.now e.1.facts)) c.args.seats.now.entries = filter-RetainsPairs _ _ _ (λ k v b w h call. search rules) _ _ c.retain.ensures.filtered in
    subst (λ (es : List (Tuple × Seat)). SeatsWereTold limits_of s c.args.pass c.close_all-pass.result c.args.stays.now c.close_all-pass.new.stays c.args.seats.now.entries es [])
    (sym left) c.close_all-pass.ensures.told
