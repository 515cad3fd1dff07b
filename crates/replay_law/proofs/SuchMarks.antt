-- A legal history has such marks as lines can say, where the setting's numbers are small.
use Rattle.std.proofs.Common.{◌≡◌, ◌∙◌, ℕ, ◌^◌, ◌<◌, ◌≤◌, inl, inr, true, List, [], ◌∷◌, ◌++◌, length, map, ap, sym, subst, arith, length-append}
use Rattle.std.specs.Prelude.{All, Contains, slice_index}
use Rattle.std.proofs.lemmas.List.{map-append}
use Rattle.std.proofs.lemmas.List.Elements.{All-nil, All-push}
use Rattle.perimeter_core.specs.declared.entries.Entry.{Entry}
use Rattle.perimeter_core.specs.declared.entries.Entry.TheVariants.{Feed, Ask}
use Rattle.perimeter_core.specs.declared.marks.SynchAct.{SynchAct}
use Rattle.perimeter_core.specs.declared.marks.SynchAct.TheVariants as Done
use Rattle.perimeter_core.specs.declared.marks.Mark.{Mark}
use Rattle.perimeter_core.specs.declared.marks.Mark.TheVariants as On
use Rattle.perimeter_core.specs.Perimeter.{State, Can, unprocessed}
use Rattle.perimeter_core.specs.History.{Element, Setting, all_quotas, conns, pass_of, passes, run, worker}
use Rattle.perimeter_core.specs.Backlog.{queue}
use Rattle.perimeter_core.specs.Deeds.{done, due, entries_of}
use Rattle.perimeter_core.specs.Legal.{ActFits, ActInRange, ActsFit, EntriesInRange, Enters, InRange, Legal, RightKind, all_feeds, one_more}
use Rattle.perimeter_core.proofs.OneMore.{legal_ind}
use Rattle.perimeter_core.proofs.OrderAndWake.{order}
use Rattle.perimeter_core.proofs.Quotas.{entered_within}
use Rattle.squeue_replay.specs.Marks.{AreFeeds, IsPrinted, IsPrintedAct}

-- passes, connections, feeds and calls are numbers of 32 bits, and so few entries may be entered that their count is one of 64
pub record IsSmallSetting (S : Setting) : Type 0 where
  pub pass_count : passes S ≤ 2 ^ 32
  pub conn_count : conns S ≤ 2 ^ 32
  pub feed_limits : (c : ℕ) → c < conns S → slice_index S.limits.feeds c ≤ 2 ^ 32
  pub call_numbers : (c j k : ℕ) → Contains S.limits.calls (c, j, k) → (j < 2 ^ 32) × (k < 2 ^ 32)
  pub entry_count : all_quotas S.quotas < 2 ^ 64

module _ (S : Setting) (small : IsSmallSetting S) where
  feeds_said : (s : State) (p : ℕ) (next : ℕ → ℕ) (es : List Entry) → all_feeds es ≡ true → EntriesInRange S es → Enters S s p next es → AreFeeds es
  feeds_said s p next [] kind range enters = tt
  feeds_said s p next (Feed c n ∷ es) kind range enters =
      let most = small.feed_limits c range.0 in
      (omega (arith, range.0, small.conn_count), omega (arith, enters.3, most), feeds_said s p (one_more c next) es kind range.1 enters.4)
  feeds_said s p next (Ask q ∷ es) kind range enters = absurd cc

  act_said : (H : List Element) (s : State) (p : ℕ) (queue : List Entry) (act : SynchAct) → ActInRange S act → ActFits S H s p queue act → IsPrintedAct act
  act_said H s p queue Done.None range fits = tt
  act_said H s p queue (Done.Call c j k) range fits = let there = small.call_numbers c j k fits.2 in (omega (arith, range, small.conn_count), there.0, there.1)
  act_said H s p queue Done.Away range fits = tt
  act_said H s p queue (Done.Out c) range fits = omega (arith, range, small.conn_count)
  act_said H s p queue (Done.In c) range fits = omega (arith, range, small.conn_count)

  -- by what a mark needs to follow
  mark_said : (H : List Element) (s : State) (m : Mark) → length s.hand < 2 ^ 64 → Can (worker S) s m → InRange S m → RightKind m → Enters S s (pass_of m) (due H) (entries_of m) → ActsFit S H s m → IsPrinted m
  mark_said H s (On.Fill p es) hand can range kind enters act = (omega (arith, range.0, small.pass_count), can, feeds_said s p (due H) es kind range.1 enters)
  mark_said H s (On.Fast p e) hand can range kind enters act = (omega (arith, range.0, small.pass_count), feeds_said s p (due H) (e ∷ []) kind range.1 enters)
  mark_said H s (On.Claim p es) hand can range kind enters act = (
    omega (arith, range.0, small.pass_count),
    elim kind [
      | inl k ↦ inl (can.1, feeds_said s p (due H) es k range.1 enters)
      | inr k ↦ inr k
    ],
  )
  mark_said H s (On.Take p) hand can range kind enters act = omega (arith, range.0, small.pass_count)
  mark_said H s (On.Leave p rest did) hand can range kind enters act =
      (omega (arith, range.0, small.pass_count), omega (arith, can.1, hand), act_said H s p (unprocessed rest s.hand ++ s.chain) did range.1 act)
  mark_said H s (On.Ask p) hand can range kind enters act = omega (arith, range.0, small.pass_count)
  mark_said H s (On.Grant p j rest) hand can range kind enters act =
      (omega (arith, range.0, small.pass_count), omega (arith, range.1, small.pass_count), omega (arith, can.1, hand))
  mark_said H s (On.Accept j) hand can range kind enters act = omega (arith, range.0, small.pass_count)
  mark_said H s (On.Work p) hand can range kind enters act = omega (arith, range.0, small.pass_count)
  mark_said H s (On.Close p) hand can range kind enters act = omega (arith, range.0, small.pass_count)

  -- what is in the hand was entered
  hand_few : (H : List Element) → Legal S H → length (run S H).hand < 2 ^ 64
  hand_few H l =
      let all = ap length (order S H l) ∙ length-append (done S H) (queue (run S H)) in
      omega (arith, all, length-append (run S H).hand (run S H).chain, entered_within S H l, small.entry_count)

  pub marks_said : (H : List Element) → Legal S H → All IsPrinted (map (λ e. e.mark) H)
  marks_said H l =
      legal_ind S (λ (G : List Element). All IsPrinted (map (λ e. e.mark) G)) (All-nil IsPrinted)
      (λ G e k i m.
      subst (All IsPrinted) (sym (map-append (λ (x : Element). x.mark) G (e ∷ [])))
      (All-push IsPrinted (map (λ x. x.mark) G) e.mark i (mark_said G (run S G) e.mark (hand_few G k) m.step m.range m.kind m.enters m.act)))
      H l
