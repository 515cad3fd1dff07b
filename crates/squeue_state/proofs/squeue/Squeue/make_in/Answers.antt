use Rattle.std.proofs.Common.{if◌then◌else◌, ◌≡◌, ◌+◌, ◌∙◌, ℕ, Bool, true, false, ap, sym, refl, get_or, length, arith}
use Rattle.std.specs.Prelude.{replicate}
use Rattle.std.proofs.lemmas.List.{length-map}
use Rattle.squeue_state.specs.Naming.{Chosen}
use Rattle.squeue_state.specs.Behind.{ever}
use Rattle.squeue_state.proofs.Opening.{opens, notes_none}
use Rattle.squeue_state.proofs.squeue.Squeue.make_in.Goals as goal

if_same : (b : Bool) {n m : ℕ} → (b ≡ true → n ≡ m) → (if b then n else 0) ≡ (if b then m else 0)
if_same true h = h refl
if_same false h = refl

pub make-requires-clause-start : goal.make-requires-clause-start
make-requires-clause-start g c =
    let facts = c.chosen-facts.ensures in
    let qs = ever c.args.lives.now in
    let is = ap (λ (f : Chosen). f.quotas) facts in
    let count : length qs ≡ length c.args.lives.now = length-map c.args.lives.now (λ q. (q.feeds, q.asks)) in
    let starts = ap (λ (f : Chosen). f.starts) facts ∙ c.deref.ensures.value in (
      opens g.R.Resident _ _ c.args.resident qs is c.of-first.ensures
          (ap length starts ∙ c.in_ok-here.ensures.length)
          (λ blocks k s. ap (λ xs. get_or xs k false) starts ∙ c.in_ok-here.ensures.here blocks k s)
          c.requires.fresh (omega (arith, count, c.requires.few.1)) c.requires.feeds c.requires.asks
          c.args.room.queue (ap (λ (f : Chosen). f.room) facts) (omega (arith, count, c.requires.queue.0)) c.requires.queue.1
          refl c.in_ok-with_capacity.ensures.items refl refl (sym starts) (c.in_ok-flags.ensures ∙ ap (λ (n : ℕ). replicate (n + 1) false) (sym count)) refl
          (c.in_ok-with_capacity-2.ensures.items, omega (arith, c.in_ok-with_capacity-2.ensures.exact))
          (omega (arith, c.in_ok-with_capacity.ensures.exact)) refl,
      notes_none _ c.args.trace c.in_ok-new_trace.field-0 qs is (ap (λ (f : Chosen). f.traced) facts) c.in_ok-new_trace.ensures.empty.0 c.in_ok-new_trace.ensures.empty.1
          (c.in_ok-new_trace.ensures.room.0 ∙ if_same c.args.trace (λ on. omega (arith, c.requires.marks on, count)))
          (c.in_ok-new_trace.ensures.room.1 ∙ if_same c.args.trace c.requires.entries),
    )
