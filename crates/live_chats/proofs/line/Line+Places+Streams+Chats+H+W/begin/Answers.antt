use Rattle.std.proofs.Common.{◌≡◌, ◌+◌}
use Rattle.live_chats.specs.Accounts.{pushed_at}
use Rattle.live_chats.specs.Hearing.{hearing}
use Rattle.live_chats.specs.Listening.{IsAnswer}
use Rattle.live_chats.specs.Seating.{KeptBut, chat_at}
use Rattle.stream_stays.specs.Places.{IsOpen}
use Rattle.live_chats.specs.declared.item.ChatItem.TheVariants.{Opens}
use Rattle.live_chats.proofs.LivedLemmas.{begins_on}
use Rattle.live_chats.proofs.PlaceLemmas.{all_open, begun, kept_on, kept_open}
use Rattle.live_chats.proofs.SeatLemmas.{none_of, of_some}
use Rattle.live_chats.proofs.line.Line+Places+Streams+Chats+H+W.begin.Goals as goal

pub returns-in_default-clause-kept : goal.returns-in_default-clause-kept
returns-in_default-clause-kept g c = all_open c.args.stays.now c.open-pass.new.stays (none_of _ c.open-pass.result.1 c.in_default.is c.open-pass.ensures.none)

pub returns-in-Some-heard-clause-kept : goal.returns-in-Some-heard-clause-kept
returns-in-Some-heard-clause-kept g c =
    let a = c.args.stays.now in
    let b = c.open-pass.new.stays in
    let o = of_some (λ k. IsOpen b k × (IsOpen a k → ⊥) × KeptBut k a b) c.open-pass.result.1 c.in-Some.c c.in-Some.is c.open-pass.ensures.place in
    kept_open c.in-Some.c a c.hear-pass.new.stays o.1 (kept_on c.in-Some.c a b c.hear-pass.new.stays o.2 c.hear-pass.ensures.others)

pub returns-in-Some-heard-clause-begun : goal.returns-in-Some-heard-clause-begun
returns-in-Some-heard-clause-begun g c =
    let a = c.args.stays.now in
    let b = c.open-pass.new.stays in
    let o = of_some (λ k. IsOpen b k × (IsOpen a k → ⊥) × KeptBut k a b) c.open-pass.result.1 c.in-Some.c c.in-Some.is c.open-pass.ensures.place in
    let h = of_some (λ h. (chat_at c.hear-pass.new.stays c.in-Some.c ≡ hearing (Opens c.args.ends c.args.conn) (chat_at b c.in-Some.c)) × IsAnswer (chat_at c.hear-pass.new.stays c.in-Some.c) h c.new-none.result.items c.hear-pass.new.out.items) c.hear-pass.result.1 c.in-Some-heard.field-0 c.in-Some-heard.is c.hear-pass.ensures.heard in
    let none = of_some (λ k. pushed_at b k ≡ 0) c.open-pass.result.1 c.in-Some.c c.in-Some.is c.open-pass.ensures.new in
    let one = of_some (λ _. pushed_at c.hear-pass.new.stays c.in-Some.c ≡ pushed_at b c.in-Some.c + 1) c.hear-pass.result.1 c.in-Some-heard.field-0 c.in-Some-heard.is c.hear-pass.ensures.pushed in
    begun c.in-Some.c c.args.ends c.args.conn a b c.hear-pass.new.stays o.1 c.hear-pass.ensures.place h.0 none one

pub returns-clause-kept : goal.returns-clause-kept
returns-clause-kept g c =
    let a = c.args.stays.now in
    let b = c.open-pass.new.stays in
    let o = of_some (λ k. IsOpen b k × (IsOpen a k → ⊥) × KeptBut k a b) c.open-pass.result.1 c.in-Some.c c.in-Some.is c.open-pass.ensures.place in
    kept_open c.in-Some.c a c.close-pass.new.stays o.1
    (kept_on c.in-Some.c a c.hear-pass.new.stays c.close-pass.new.stays (kept_on c.in-Some.c a b c.hear-pass.new.stays o.2 c.hear-pass.ensures.others) c.close-pass.ensures.others)

pub returns-in-Some-heard-clause-grows : goal.returns-in-Some-heard-clause-grows
returns-in-Some-heard-clause-grows g c = begins_on _ _ _ c.open-pass.ensures.grows c.hear-pass.ensures.grows

pub returns-clause-grows : goal.returns-clause-grows
returns-clause-grows g c =
    let ended = c.close-pass.ensures.ended in
    begins_on _ _ _ (begins_on _ _ _ c.open-pass.ensures.grows c.hear-pass.ensures.grows) (ended.grown, ended.goes_on)
