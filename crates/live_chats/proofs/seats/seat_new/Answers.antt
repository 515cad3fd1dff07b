use Rattle.std.proofs.Common.{ℕ, ap, sym, ◌∙◌, arith, ◌++◌, ◌∷◌, []}
use Rattle.std.proofs.lemmas.List.{length-append}
use Rattle.squeue_state.specs.declared.guarded.Life.{Life}
use Rattle.placed_parts.specs.Placing.{limits_of, origin_of}
use Rattle.live_server.specs.Facts.{facts_of}
use Rattle.live_server.specs.declared.conn.Conn.{Conn}
use Rattle.turn_gate.specs.Passes.{number, seen}
use Rattle.squeue_state.specs.Naming.{setting_of}
use Rattle.live_chats.specs.Accounts.{accounts_of}
use Rattle.live_chats.specs.Seating.{Begins, conns_of}
use Rattle.live_chats.proofs.LivedLemmas.{one_begun}
use Rattle.live_chats.proofs.PlaceLemmas.{open_on}
use Rattle.live_chats.proofs.SeatLemmas.{entered_last, kept_seats, new_away, of_some, open_conns, pushed_accounts, pushed_conns, pushed_distinct, pushed_seated}
use Rattle.live_chats.proofs.seats.seat_new.Goals as goal

pub returns-in_default-place-clause-seats : goal.returns-in_default-place-clause-seats
returns-in_default-place-clause-seats g c =
    kept_seats limits_of c.args.line.now.squeue.now (origin_of c.args.line.now.squeue.now.given.first) c.args.pass c.begin-pass.result.0 c.args.stays.now c.begin-pass.new.stays c.args.seats.now.entries c.requires.seats
    c.begin-pass.ensures.settled c.begin-pass.ensures.kept (omega (arith, c.begin-pass.ensures.asks, c.len.ensures.len, ap (λ (l : Life). l.asks) c.life.ensures))

pub returns-in_default-place-clause-kept : goal.returns-in_default-place-clause-kept
returns-in_default-place-clause-kept g c = open_conns c.args.stays.now c.begin-pass.new.stays c.args.seats.now.entries c.requires.seats.seated c.begin-pass.ensures.kept

pub returns-in-Ok-insert-clause-seats : goal.returns-in-Ok-insert-clause-seats
returns-in-Ok-insert-clause-seats g c =
    let es = c.args.seats.now.entries in
    let a = c.args.stays.now in
    let b = c.begin-pass.new.stays in
    let begun = of_some (λ (k : ℕ). Begins k c.args.ends c.in-Ok.conn.value a b) c.begin-pass.result.1 c.in-Some.place c.in-Some.is c.begin-pass.ensures.begun in
    let facts = c.facts-facts.ensures ∙ ap facts_of (sym c.in-Ok.ensures.ok) in
    rw (c.in-Ok-insert.ensures.entries ∙ entered_last a b es c.in-Some.place c.args.ends c.in-Ok.conn.value c.facts-facts.result facts c.requires.seats.seated c.begin-pass.ensures.kept begun c.requires.new) (record {
      settled = c.begin-pass.ensures.settled;
      seated = pushed_seated a b es c.in-Some.place c.args.ends c.in-Ok.conn.value c.facts-facts.result facts c.requires.seats.seated c.begin-pass.ensures.kept begun c.requires.new;
      distinct = pushed_distinct a b es c.in-Some.place c.args.ends c.in-Ok.conn.value c.facts-facts.result facts c.requires.seats.seated c.begin-pass.ensures.kept begun c.requires.new c.requires.seats.distinct;
      paid = simp length-append (omega (arith, c.begin-pass.ensures.asks, c.len.ensures.len, ap (λ (l : Life). l.asks) c.life.ensures));
    })

pub returns-in-Ok-insert-clause-put : goal.returns-in-Ok-insert-clause-put
returns-in-Ok-insert-clause-put g c =
    let es = c.args.seats.now.entries in
    let a = c.args.stays.now in
    let b = c.begin-pass.new.stays in
    let begun = of_some (λ (k : ℕ). Begins k c.args.ends c.in-Ok.conn.value a b) c.begin-pass.result.1 c.in-Some.place c.in-Some.is c.begin-pass.ensures.begun in
    let facts = c.facts-facts.ensures ∙ ap facts_of (sym c.in-Ok.ensures.ok) in
    rw (c.in-Ok-insert.ensures.entries ∙ entered_last a b es c.in-Some.place c.args.ends c.in-Ok.conn.value c.facts-facts.result facts c.requires.seats.seated c.begin-pass.ensures.kept begun c.requires.new)
    (pushed_conns a b es c.in-Some.place c.args.ends c.in-Ok.conn.value c.facts-facts.result facts c.requires.seats.seated c.begin-pass.ensures.kept begun c.requires.new
    ∙ ap (λ (d : Conn). conns_of a es ++ (c.args.ends, d) ∷ []) c.in-Ok.ensures.ok)

pub returns-in-Err-clause-seats : goal.returns-in-Err-clause-seats
returns-in-Err-clause-seats g c =
    let es = c.args.seats.now.entries in
    let a = c.args.stays.now in
    let b = c.begin-pass.new.stays in
    let begun = of_some (λ (k : ℕ). Begins k c.args.ends c.in-Ok.conn.value a b) c.begin-pass.result.1 c.in-Some.place c.in-Some.is c.begin-pass.ensures.begun in
    let kept = open_on c.in-Some.place a b c.close-pass.new.stays begun.was_not c.begin-pass.ensures.kept c.close-pass.ensures.others in
    rw c.in-Err.ensures.err (kept_seats limits_of c.args.line.now.squeue.now (origin_of c.args.line.now.squeue.now.given.first) c.args.pass c.close-pass.result a c.close-pass.new.stays es c.requires.seats
    c.close-pass.ensures.settled kept (omega (arith, c.close-pass.ensures.asks, c.begin-pass.ensures.asks, c.len.ensures.len, ap (λ (l : Life). l.asks) c.life.ensures)))

pub returns-in-Err-clause-kept : goal.returns-in-Err-clause-kept
returns-in-Err-clause-kept g c =
    let es = c.args.seats.now.entries in
    let a = c.args.stays.now in
    let b = c.begin-pass.new.stays in
    let begun = of_some (λ (k : ℕ). Begins k c.args.ends c.in-Ok.conn.value a b) c.begin-pass.result.1 c.in-Some.place c.in-Some.is c.begin-pass.ensures.begun in
    let kept = open_on c.in-Some.place a b c.close-pass.new.stays begun.was_not c.begin-pass.ensures.kept c.close-pass.ensures.others in
    rw c.in-Err.ensures.err (open_conns a c.close-pass.new.stays es c.requires.seats.seated kept)

pub returns-in-Ok-insert-clause-told : goal.returns-in-Ok-insert-clause-told
returns-in-Ok-insert-clause-told g c =
    let s = c.args.line.now.squeue.now in
    let es = c.args.seats.now.entries in
    let a = c.args.stays.now in
    let b = c.begin-pass.new.stays in
    let begun = of_some (λ (k : ℕ). Begins k c.args.ends c.in-Ok.conn.value a b) c.begin-pass.result.1 c.in-Some.place c.in-Some.is c.begin-pass.ensures.begun in
    let facts = c.facts-facts.ensures ∙ ap facts_of (sym c.in-Ok.ensures.ok) in
    let seated = c.requires.seats.seated in
    let kept = c.begin-pass.ensures.kept in
    rw (c.in-Ok-insert.ensures.entries ∙ entered_last a b es c.in-Some.place c.args.ends c.in-Ok.conn.value c.facts-facts.result facts seated kept begun c.requires.new)
    (one_begun (setting_of limits_of s.given) (number c.args.pass) (seen c.args.pass) (seen c.begin-pass.result.0) (accounts_of a es) _ c.args.ends
    (new_away a b es c.in-Some.place c.args.ends c.in-Ok.conn.value c.facts-facts.result facts seated kept begun c.requires.new)
    (pushed_accounts a b es c.in-Some.place c.args.ends c.in-Ok.conn.value c.facts-facts.result facts seated kept begun c.requires.new) c.begin-pass.ensures.grows)
