-- What a turn reads of the value that it holds.
use Rattle.std.proofs.Common.{◌≡◌, ◌+◌, ◌<◌, ◌^◌, ◌↔◌, ℕ, Bool, true, false, List, ap, sym, ◌∙◌, subst, length, get_or, arith, length-append}
use Rattle.std.proofs.lemmas.List.{get_or_default}
use Rattle.perimeter_core.specs.declared.resident.Resident.{Ghosts}
use Rattle.perimeter_core.specs.Perimeter.{is_here, is_closed}
use Rattle.perimeter_core.specs.Backlog.{queue}
use Rattle.perimeter_core.specs.History.{Element, start, run}
use Rattle.perimeter_core.proofs.BlocksFollow.{flags}
use Rattle.perimeter_core.proofs.HistoryLength.{closed_flags}
use Rattle.squeue_state.proofs.QueuedRoom.{queued_within}
use Rattle.turn_gate.specs.Helds.{held_value, held_seen}
use Rattle.turn_gate.specs.declared.held.Held.{Held}
use Rattle.perimeter_core.specs.declared.marks.Kind.{Kind}
use Rattle.squeue_state.specs.declared.inner.Inner.{Inner}
use Rattle.squeue_state.specs.declared.guarded.Guarded.{Guarded}
use Rattle.squeue_state.specs.Naming.{Given, Named, Turned, setting_of}
use Rattle.squeue_state.specs.Behind.{Behind}
use Rattle.squeue_state.specs.Clauses.{IsTurnOf, turned_of}

module _ {R P O : Type 0} (G : Ghosts R P O) where
  pub reads : (t : Named R) (h : Held (Guarded R) Kind Element) (u : Turned R) (v : Guarded R) → IsTurnOf G t h → turned_of t h ≡ u → v ≡ held_value h
      → Behind G u.squeue.given v.inner u.found
  reads t h u v inv is same =
      subst (λ (x : Turned R). Behind G x.squeue.given v.inner x.found) is
      (subst (λ (w : Guarded R). Behind G t.given w.inner (held_seen h)) (sym same) inv.1)

  -- what is queued is few
  pub few_queued : (g : Given R) (i : Inner R) (H : List Element) → Behind G g i H → length i.chain.items < 2 ^ 31
  few_queued g i H b =
      let S = setting_of G.limits g in
      let fits = queued_within S g.room H b.legal b.fits in
      let few = b.few in
      omega (arith, fits, few.1, few.2, ap length b.chain, length-append (run S H).hand (run S H).chain)

  -- what is queued or in the owner's hand, as the gate counts it
  pub backlog_is : (g : Given R) (i : Inner R) (H : List Element) → Behind G g i H → length (queue (run (setting_of G.limits g) H)) ≡ i.in_hand + length i.chain.items
  backlog_is g i H b =
      let S = setting_of G.limits g in
      omega (arith, b.out, ap length b.chain, length-append (run S H).hand (run S H).chain)

  pub here_flags : (g : Given R) (i : Inner R) (H : List Element) → Behind G g i H → length i.here.items ≡ length g.starts
  here_flags g i H b = ap length b.here ∙ flags (start (setting_of G.limits g)) H

  pub here_at : (g : Given R) (i : Inner R) (H : List Element) (c : ℕ) (now : Bool) → Behind G g i H → c < length g.starts → now ≡ get_or i.here.items c now
      → now ≡ is_here (run (setting_of G.limits g) H) c
  here_at g i H c now b below is =
      let there : c < length i.here.items = omega (arith, below, here_flags g i H b) in
      is ∙ (get_or_default i.here.items c now false there ∙ ap (λ xs. get_or xs c false) b.here)

  pub pass_flags : (g : Given R) (i : Inner R) (H : List Element) → Behind G g i H → length i.closed.items ≡ length g.quotas + 1
  pass_flags g i H b = ap length b.closed ∙ closed_flags (setting_of G.limits g) H b.legal

  pub others : (g : Given R) (i : Inner R) (H : List Element) (all : Bool) → Behind G g i H
      → ((all ≡ true) ↔ ((p : ℕ) → p + 1 < length i.closed.items → get_or i.closed.items p false ≡ true))
      → ((all ≡ true) ↔ ((p : ℕ) → p < length g.quotas → is_closed (run (setting_of G.limits g) H) p ≡ true))
  others g i H all b said =
      let n = pass_flags g i H b in
      let same : (p : ℕ) → get_or i.closed.items p false ≡ is_closed (run (setting_of G.limits g) H) p = λ p. ap (λ xs. get_or xs p false) b.closed in
      (λ is p lt. sym (same p) ∙ said.0 is p (omega (arith, lt, n)), λ each. said.1 (λ p lt. same p ∙ each p (omega (arith, lt, n))))
