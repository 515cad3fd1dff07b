-- A history's length stays below the count's bound.
use Rattle.std.proofs.Common.{◌≡◌, ◌≢◌, ◌+◌, ◌-◌, ◌^◌, ◌<◌, ◌≤◌, ℕ, List, [], ◌∷◌, ◌++◌, length, length-append, arith, zero, suc, refl, ap, sym, ◌∙◌, true, false, None, add-one}
use Rattle.std.specs.Prelude.{replicate, IsSome}
use Rattle.std.proofs.lemmas.List.{length-drop}
use Rattle.perimeter_core.specs.declared.resident.Resident.{Ghosts}
use Rattle.perimeter_core.specs.declared.entries.Act.{Act}
use Rattle.perimeter_core.specs.declared.marks.SynchAct.{SynchAct}
use Rattle.perimeter_core.specs.declared.marks.Own.{Own}
use Rattle.perimeter_core.specs.History.{Element, Setting, start, run}
use Rattle.perimeter_core.specs.Legal.{May}
use Rattle.perimeter_core.specs.declared.entries.Feed.{Feed}
use Rattle.perimeter_core.specs.declared.entries.Entry.TheVariants as Entry'
use Rattle.perimeter_core.proofs.OneMore.{run_push, legal_more}
use Rattle.squeue_state.proofs.QueuedRoom.{queued_few, queued_within, fits_after}
use Rattle.perimeter_core.proofs.HistoryLength.{length_bounded}
use Rattle.squeue_state.specs.declared.inner.Inner.{Inner}
use Rattle.squeue_state.specs.Naming.{Given, Handed, setting_of}
use Rattle.squeue_state.specs.Behind.{Behind, FeedsFit}
use Rattle.squeue_state.specs.Lone.{is_lone, buffer_of}
use Rattle.squeue_state.specs.Hands.{GoBack}
use Rattle.squeue_state.specs.Clauses.{IsLeft}
use Rattle.histories.specs.Elements.{ask_claimed_by, asked_by, left_by_pass}
use Rattle.squeue_state.proofs.Steps.{go_back, lone_one, spare_there}

module _ {R P O : Type 0} (G : Ghosts R P O) where
  pub counts : (g : Given R) (i : Inner R) (H : List Element) (e : Element) → Behind G g i (H ++ e ∷ []) → length H < 2 ^ 63
  counts g i H e b =
      let l = length_bounded (setting_of G.limits g) (H ++ e ∷ []) b.legal in
      let few = b.few.0 in
      let small = b.few.1 in
      let one = length-append H (e ∷ []) in
      omega arith

flag_more : (n : ℕ) → replicate n false ++ false ∷ [] ≡ replicate (suc n) false
flag_more zero = refl
flag_more (suc n) = ap (λ xs. false ∷ xs) (flag_more n)

pub one_flag : (n : ℕ) → replicate n false ++ false ∷ [] ≡ replicate (n + 1) false
one_flag n = flag_more n ∙ ap (λ k. replicate k false) (sym (add-one n))

module _ {R P O : Type 0} (G : Ghosts R P O) where
  -- what is filled fits beside what is queued
  pub fill_fits : (g : Given R) (i : Inner R) (H : List Element) (es : List Feed) → Behind G g i H → FeedsFit (setting_of G.limits g) g.room H (length es) → length (run (setting_of G.limits g) H).chain + length es ≤ g.room
  fill_fits g i H es b fit =
      let S = setting_of G.limits g in
      omega (arith, fit, queued_few S H b.legal, length-append (run S H).hand (run S H).chain)

  -- what is left of the hand fits before the chain
  pub left_fits : (g : Given R) (i : Inner R) (H : List Element) → Behind G g i H → length (run (setting_of G.limits g) H).hand + length (run (setting_of G.limits g) H).chain ≤ g.room
  left_fits g i H b = b.short

  pub claim_ask_fits : (g : Given R) (i : Inner R) (H : List Element) (p : ℕ) → Behind G g i H → May (setting_of G.limits g) H (ask_claimed_by p) → length (run (setting_of G.limits g) H).chain < g.room
  claim_ask_fits g i H p b m =
      let S = setting_of G.limits g in
      let e = ask_claimed_by p in
      let fits = queued_within S g.room (H ++ e ∷ []) (legal_more S H e b.legal m) (fits_after S g.room H e b.legal m b.fits) in
      let hand = ap (λ t. length t.hand) (run_push (start S) H e) in
      omega (arith, fits, hand, length-append (run S (H ++ e ∷ [])).hand (run S (H ++ e ∷ [])).chain, length-append (run S H).chain (Entry'.Ask p ∷ []))

  pub ask_fits : (g : Given R) (i : Inner R) (H : List Element) (p : ℕ) → Behind G g i H → May (setting_of G.limits g) H (asked_by p) → length (run (setting_of G.limits g) H).chain < g.room
  ask_fits g i H p b m =
      let S = setting_of G.limits g in
      let e = asked_by p in
      let fits = queued_within S g.room (H ++ e ∷ []) (legal_more S H e b.legal m) (fits_after S g.room H e b.legal m b.fits) in
      let chain = ap (λ t. length t.chain) (run_push (start S) H e) in
      omega (arith, fits, chain, length-append (run S (H ++ e ∷ [])).hand (run S (H ++ e ∷ [])).chain, length-append (run S H).chain (Entry'.Ask p ∷ []))

  -- a hand is short
  pub few_hand : (g : Given R) (i : Inner R) (H : List Element) → Behind G g i H → length (run (setting_of G.limits g) H).hand < 2 ^ 31
  few_hand g i H b = let few = b.few in let fits = left_fits g i H b in omega (arith, fits, few.1, few.2)

module _ {R P O : Type 0} (G : Ghosts R P O) (g : Given R) (i : Inner R) (H : List Element) (hand : Handed) (b : Behind G g i H) (is : IsLeft G.limits g H hand) where
  abbrev S : Setting
  S = setting_of G.limits g

  within : length hand.left ≤ length (run S H).hand
  within = let n = ap length is.is_left ∙ length-drop (length (run S H).hand - length hand.left) (run S H).hand in omega (arith, n)

  its : hand.room ≡ buffer_of g.room (is_lone i.own H)
  its = is.has_room ∙ ap (λ (o : Own). buffer_of g.room (is_lone o H)) (sym b.own)

  one : is_lone i.own H ≡ true → length (run S H).hand ≡ 1
  one lone = sym b.out ∙ lone_one g.room (is_lone i.own H) i.in_hand i.own i.spare b.spare lone

  -- a hand of at least one entry is longer than what is left of it
  fewer : (rest : ℕ) → ((run S H).hand ≢ [] → rest < length (run S H).hand) → length (run S H).hand ≡ 1 → rest ≡ 0
  fewer rest progress long =
      let less = progress (λ (none : (run S H).hand ≡ []). let l = ap length none in absurd (omega (arith, l, long))) in
      omega (arith, less, long)

  -- what an owner leaves goes back before what is queued
  pub leaves_back : (p : ℕ) (act : SynchAct) (note : List Act) → May S H (left_by_pass p (length hand.left) act note) → GoBack hand.room (length hand.left) (length i.chain.items)
  leaves_back p act note m =
      go_back g.room (is_lone i.own H) (length hand.left) (length i.chain.items) hand.room its (λ lone. fewer (length hand.left) m.progress (one lone))
      (let n = within in omega (arith, n, ap length b.chain, b.short))

  -- and so does what is left behind an Ask
  pub grants_back : (rest : ℕ) → rest + 1 ≤ length hand.left → GoBack hand.room rest (length i.chain.items)
  grants_back rest some =
      let n = within in
      go_back g.room (is_lone i.own H) rest (length i.chain.items) hand.room its (λ lone. let l = one lone in omega (arith, l, n, some)) (omega (arith, n, some, ap length b.chain, b.short))

  -- there is a buffer for what is queued
  pub one_there : hand.room ≡ None → IsSome i.spare
  one_there none = spare_there g.room (is_lone i.own H) i.in_hand i.own i.spare hand.room b.spare its none
