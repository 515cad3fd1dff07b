use Rattle.std.proofs.Common.{List, [], ◌∷◌, ◌++◌, ◌+◌, slice_get, ap, sym, ◌∙◌}
use Rattle.stream_stays.specs.declared.place.Place.{Place}
use Rattle.stream_stays.specs.Settling.{sent_in}
use Rattle.live_chats.specs.Hearing.{ChatOf}
use Rattle.live_chats.specs.declared.item.ChatItem.{ChatItem}
use Rattle.live_chats.specs.Accounts.{pushed_in}
use Rattle.live_chats.proofs.LivedLemmas.{begins_itself}
use Rattle.live_chats.proofs.PlaceLemmas.{chat_same, chat_told, counted_no, counted_yes, elsewhere_kept, pushed_late, pushed_no, pushed_yes}
use Rattle.live_chats.proofs.line.Line+Places+Streams+Chats+H+W.push.Goals as goal

pub push_at-pushed-requires-clause-open : goal.push_at-pushed-requires-clause-open
push_at-pushed-requires-clause-open g c =
    let s = c.push_at.ensures.same in
    (s.1, ap (λ (ps : List (Place ChatItem ChatOf)). slice_get ps c.args.c) c.enter-pass.ensures.places ∙ s.3)

pub returns-in-Ok-clause-others : goal.returns-in-Ok-clause-others
returns-in-Ok-clause-others g c = elsewhere_kept c.args.c c.args.stays.now c.push_at.new.stays c.push_at.ensures.elsewhere

pub returns-in-Ok-clause-taken : goal.returns-in-Ok-clause-taken
returns-in-Ok-clause-taken g c = λ _. (chat_told c.args.stays.now c.push_at.new.stays c.args.c c.args.item c.in-Ok.ensures.sent, c.in-Ok.ensures.touched)

pub returns-in-Err-clause-others : goal.returns-in-Err-clause-others
returns-in-Err-clause-others g c =
    pushed_late c.args.c c.args.stays.now c.push_at.new.stays c.enter-pass.new.stays c.push_at-pushed.new.stays c.push_at.ensures.elsewhere c.enter-pass.ensures.places c.push_at-pushed.ensures.elsewhere

pub returns-in-Err-clause-taken : goal.returns-in-Err-clause-taken
returns-in-Err-clause-taken g c = λ yes.
    let sent = pushed_yes c.push_at-pushed.result _ _ c.is_ok.result c.is_ok.ensures.value c.push_at-pushed.ensures.sent yes in
    let touched = pushed_yes c.push_at-pushed.result _ _ c.is_ok.result c.is_ok.ensures.value c.push_at-pushed.ensures.touched yes in
    let before = ap (λ (ps : List (Place ChatItem ChatOf)). sent_in (slice_get ps c.args.c)) c.enter-pass.ensures.places ∙ c.in-Err.ensures.sent in
    let item = c.in-Err.ensures.same.5.0 in (
      chat_told c.args.stays.now c.push_at-pushed.new.stays c.args.c c.args.item (sent ∙ (λ j. before j ++ item j ∷ [])),
      touched ∙ ap (λ (l : List _). l ++ c.args.c ∷ []) (c.enter-pass.ensures.touched ∙ c.in-Err.ensures.touched),
    )

pub returns-in-Err-clause-refused : goal.returns-in-Err-clause-refused
returns-in-Err-clause-refused g c = λ no.
    let sent = pushed_no c.push_at-pushed.result _ _ c.is_ok.result c.is_ok.ensures.value c.push_at-pushed.ensures.sent no in
    let touched = pushed_no c.push_at-pushed.result _ _ c.is_ok.result c.is_ok.ensures.value c.push_at-pushed.ensures.touched no in
    let before = ap (λ (ps : List (Place ChatItem ChatOf)). sent_in (slice_get ps c.args.c)) c.enter-pass.ensures.places ∙ c.in-Err.ensures.sent in (
      chat_same c.args.stays.now c.push_at-pushed.new.stays c.args.c (sent ∙ before),
      touched ∙ c.enter-pass.ensures.touched ∙ c.in-Err.ensures.touched,
    )

pub returns-in-Ok-clause-grows : goal.returns-in-Ok-clause-grows
returns-in-Ok-clause-grows g c = begins_itself _

pub returns-in-Err-clause-grows : goal.returns-in-Err-clause-grows
returns-in-Err-clause-grows g c = c.enter-pass.ensures.grows

pub returns-in-Ok-clause-pushed : goal.returns-in-Ok-clause-pushed
returns-in-Ok-clause-pushed g c = λ _.
    let s = c.in-Ok.ensures.same in
    ap pushed_in s.3 ∙ s.5.1 ∙ ap (λ o. pushed_in o + 1) (sym s.2)

pub returns-in-Err-clause-pushed : goal.returns-in-Err-clause-pushed
returns-in-Err-clause-pushed g c = λ yes.
    let first = c.in-Err.ensures.same in
    let s = c.push_at-pushed.ensures.same in
    let before = ap (λ (ps : List (Place ChatItem ChatOf)). pushed_in (slice_get ps c.args.c)) c.enter-pass.ensures.places ∙ ap pushed_in first.3 ∙ first.5.2 ∙ ap pushed_in (sym first.2) in
    ap pushed_in s.3 ∙ counted_yes _ _ _ _ _ c.push_at-pushed.result c.is_ok.result c.is_ok.ensures.value s.5 yes ∙ ap (λ n. n + 1) (ap pushed_in (sym s.2) ∙ before)

pub returns-in-Err-clause-unpushed : goal.returns-in-Err-clause-unpushed
returns-in-Err-clause-unpushed g c = λ no.
    let first = c.in-Err.ensures.same in
    let s = c.push_at-pushed.ensures.same in
    let before = ap (λ (ps : List (Place ChatItem ChatOf)). pushed_in (slice_get ps c.args.c)) c.enter-pass.ensures.places ∙ ap pushed_in first.3 ∙ first.5.2 ∙ ap pushed_in (sym first.2) in
    ap pushed_in s.3 ∙ counted_no _ _ _ _ _ c.push_at-pushed.result c.is_ok.result c.is_ok.ensures.value s.5 no ∙ ap pushed_in (sym s.2) ∙ before
