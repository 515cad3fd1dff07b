-- An entry of feeds at their home keeps a ring's pace, and so do a move and a closing.
use Rattle.std.proofs.Common.{◌≡◌, ◌≢◌, ℕ, ◌≤◌, ◌⊎◌, inl, inr, Bool, true, false, Some, None, List, [], ◌∷◌, ◌++◌, refl, ap, sym, ◌∙◌, subst, append_assoc, arith}
use Rattle.std.proofs.lemmas.List.{append_cancel_left}
use Rattle.turn_gate.specs.History.{Each, only}
use Rattle.turn_gate.specs.Passes.{IsPassOf, mine, number, seen}
use Rattle.turn_gate.specs.declared.pass.Pass.{Pass}
use Rattle.perimeter_core.specs.declared.entries.Act.{Act}
use Rattle.perimeter_core.specs.declared.entries.Entry.{Entry}
use Rattle.perimeter_core.specs.declared.entries.Feed.{Feed as FeedOf}
use Rattle.perimeter_core.specs.declared.marks.Own.{Own}
use Rattle.perimeter_core.specs.declared.marks.Own.TheVariants.{Free, Out, Granted}
use Rattle.perimeter_core.specs.declared.marks.SynchAct.{SynchAct}
use Rattle.perimeter_core.specs.declared.marks.Mark.TheVariants as On
use Rattle.perimeter_core.specs.Perimeter.{is_empty, is_free}
use Rattle.perimeter_core.specs.History.{Element, Limits, Setting, made_by, pass_of, run}
use Rattle.perimeter_core.specs.Deeds.{done, done_by, entries}
use Rattle.perimeter_core.specs.Legal.{Legal, feed_count}
use Rattle.squeue_state.specs.Naming.{Named, setting_of}
use Rattle.histories.specs.Elements.{claimed_by, closed_by, fast_by, filled_by, left_by_pass, number_of}
use Rattle.squeue_state.proofs.Makers.{made-append, only_made, others_made}
use Rattle.histories.proofs.OwnersFacts.{done_more}
use Rattle.histories.specs.declared.mode.Mode.{Mode}
use Rattle.histories.specs.declared.mode.Mode.TheVariants as Mode'
use Rattle.squeue_enter.specs.declared.entering.Entered.{Entered}
use Rattle.squeue_enter.specs.declared.entering.How.{How}
use Rattle.squeue_enter.specs.Entering.{DrainsFrom, HasEntered, LeavesFrom, Went}
use Rattle.squeue_enter.specs.Ways.{is_one, way_of}
use Rattle.synch_enter.specs.Synch.{IsWay}
use Rattle.conn_migrate.specs.Moving.{Moved}
use Rattle.squeue_serve.specs.Places.{HasClosed}
use Rattle.histories.specs.Keeping.{AreHome}
use Rattle.squeue_rings.specs.Paced.{IsPaced}
use Rattle.squeue_rings.specs.OwnMarks.{has_one, moves_block}
use Rattle.histories.specs.Runs.{home_of}
use Rattle.squeue_rings.proofs.OwnMarks.{own_made}
use Rattle.squeue_rings.proofs.Pacing.{Paces, paced, paces, paces_join, paces_others}
use Rattle.squeue_rings.proofs.PacedMarks.{EntersNoFeed, paces_alone, paces_claim, paces_drain, paces_fast, paces_fill, paces_plain}

all_home : (squeues spread q : ℕ) (es : List FeedOf) → Each (λ f. home_of squeues spread f ≡ q) es → AreHome squeues spread q (entries es)
all_home squeues spread q [] home = tt
all_home squeues spread q (f ∷ fs) home = (home.0, all_home squeues spread q fs home.1)

-- how many feeds are entered, as entries
one_entry : (es : List FeedOf) → has_one (entries es) ≡ is_one es
one_entry [] = refl
one_entry (f ∷ []) = refl
one_entry (f ∷ g ∷ fs) = refl

-- the turn of the pass r found H, in which it made M, and entered these feeds
module _ (squeues spread budget q : ℕ) (S : Setting) (r : ℕ) (some : 1 ≤ budget) (es : List FeedOf) (home : Each (λ f. home_of squeues spread f ≡ q) es)
    (H M : List Element) (had : made_by r H ≡ M) (to : Pass Element) (knows : made_by r (seen to) ≡ mine to) (legal : Legal S (seen to)) (how : How) where
  made_one : (e : Element) → pass_of e.mark ≡ r → made_by r (H ++ e ∷ []) ≡ M ++ e ∷ []
  made_one e own = made-append r H (e ∷ []) ∙ (ap (λ (xs : List Element). xs ++ made_by r (e ∷ [])) had ∙ ap (λ (xs : List Element). M ++ xs) (own_made r e [] own))

  module _ (mode : Mode) (at : Paces squeues spread mode budget q S r [] H None) where
    -- the one feed
    its_home : (f : FeedOf) → es ≡ f ∷ [] → home_of squeues spread f ≡ q
    its_home f is = let h : Each (λ (f : FeedOf). home_of squeues spread f ≡ q) (f ∷ []) = subst (Each (λ (f : FeedOf). home_of squeues spread f ≡ q)) is home in h.0

    -- with process
    taken_so : (e : Element) → done_by (run S H) e.mark ≡ [] → Paces squeues spread mode budget q S r H (e ∷ []) (Some (feed_count (done S H))) → Paces squeues spread mode budget q S r [] (H ++ e ∷ []) (Some (feed_count (done S (H ++ e ∷ []))))
    taken_so e none one =
        let more = done_more S H e in
        let zero = ap feed_count none in
        let same : feed_count (done S H) ≡ feed_count (done S (H ++ e ∷ [])) = omega (arith, more, zero) in
        let joined = paces_join squeues spread mode budget q S r [] H (e ∷ []) None (Some (feed_count (done S H))) at one in
        record { keeps = joined.keeps; exact = joined.exact; now = joined.now ∙ ap Some same }

    by_fast : mode ≡ Mode'.Process → way_of mode (is_free (run S H).own) (is_empty (run S H).chain) (has_one (entries es)) ≡ way_of Mode'.Process true true true → (f : FeedOf) → es ≡ f ∷ [] → DrainsFrom S r budget (H ++ fast_by r f ∷ []) (M ++ fast_by r f ∷ []) to → Paces squeues spread mode budget q S r [] (seen to) None
    by_fast process way f is d =
        paces_drain squeues spread mode budget q S r process (H ++ fast_by r f ∷ []) (M ++ fast_by r f ∷ []) to
        (taken_so (fast_by r f) refl (paces_fast squeues spread mode budget q S r H at.now f (its_home f is) (λ fill. let no : Mode'.Fill ≡ Mode'.Process = sym fill ∙ process in cc no) (inl (ap (λ (l : List FeedOf). way_of mode (is_free (run S H).own) (is_empty (run S H).chain) (has_one (entries l))) (sym is) ∙ way))))
        (made_one (fast_by r f) refl) knows d

    by_claim : mode ≡ Mode'.Process → way_of mode (is_free (run S H).own) (is_empty (run S H).chain) (has_one (entries es)) ≡ way_of Mode'.Process true false true → DrainsFrom S r budget (H ++ claimed_by r es ∷ []) (M ++ claimed_by r es ∷ []) to → Paces squeues spread mode budget q S r [] (seen to) None
    by_claim process way d =
        paces_drain squeues spread mode budget q S r process (H ++ claimed_by r es ∷ []) (M ++ claimed_by r es ∷ []) to
        (taken_so (claimed_by r es) refl (paces_claim squeues spread mode budget q S r H at.now es (all_home squeues spread q es home) process way))
        (made_one (claimed_by r es) refl) knows d

    -- with nodrain, alone
    by_alone : mode ≡ Mode'.NoDrain → way_of mode (is_free (run S H).own) (is_empty (run S H).chain) (has_one (entries es)) ≡ way_of Mode'.NoDrain true true true → (f : FeedOf) → es ≡ f ∷ [] → LeavesFrom r (H ++ fast_by r f ∷ []) (M ++ fast_by r f ∷ []) to → Paces squeues spread mode budget q S r [] (seen to) None
    by_alone nodrain way f is l =
        let one = paces_fast squeues spread mode budget q S r H at.now f (its_home f is) (λ fill. let no : Mode'.Fill ≡ Mode'.NoDrain = sym fill ∙ nodrain in cc no) (inr (ap (λ (l : List FeedOf). way_of mode (is_free (run S H).own) (is_empty (run S H).chain) (has_one (entries l))) (sym is) ∙ way)) in
        paces_alone squeues spread mode budget q S r nodrain some H (M ++ fast_by r f ∷ []) f to
        (paces_join squeues spread mode budget q S r [] H (fast_by r f ∷ []) None (Some (feed_count (done S H))) at one) legal l

    by_fill : (mode ≡ Mode'.Process → (run S H).own ≢ Free) → (mode ≡ Mode'.NoDrain → is_one es ≡ true → ((run S H).own ≢ Free) ⊎ ((run S H).chain ≢ [])) → way_of mode (is_free (run S H).own) (is_empty (run S H).chain) (has_one (entries es)) ≡ way_of Mode'.Fill true true true → seen to ≡ H ++ filled_by r es ∷ []
        → Paces squeues spread mode budget q S r [] (seen to) None
    by_fill busy behind way saw =
        subst (λ (G : List Element). Paces squeues spread mode budget q S r [] G None) (sym saw)
        (paces_join squeues spread mode budget q S r [] H (filled_by r es ∷ []) None None at (paces_fill squeues spread mode budget q S r H at.now es (all_home squeues spread q es home) busy behind way))

  -- the way by what the turn found
  found_way : (mode : Mode) (own : Own) (chain : List Entry) (one : Bool) → (run S H).own ≡ own → (run S H).chain ≡ chain → is_one es ≡ one → way_of mode (is_free (run S H).own) (is_empty (run S H).chain) (has_one (entries es)) ≡ way_of mode (is_free own) (is_empty chain) one
  found_way mode own chain one o c i =
      ap (λ (v : Own). way_of mode (is_free v) (is_empty (run S H).chain) (has_one (entries es))) o
      ∙ (ap (λ (v : List Entry). way_of mode (is_free own) (is_empty v) (has_one (entries es))) c ∙ ap (way_of mode (is_free own) (is_empty chain)) (one_entry es ∙ i))

  -- whichever way it went
  went : (mode : Mode) (own : Own) (chain : List Entry) (one : Bool) → (run S H).own ≡ own → (run S H).chain ≡ chain → is_one es ≡ one → Paces squeues spread mode budget q S r [] H None → Went S (way_of mode (is_free own) (is_empty chain) one) r budget es H M to how
      → Paces squeues spread mode budget q S r [] (seen to) None
  went Mode'.Process Free [] true o c i at w = by_fast Mode'.Process at refl (found_way Mode'.Process Free [] true o c i) w.0 w.1 w.3
  went Mode'.Process Free [] false o c i at w = by_claim Mode'.Process at refl (found_way Mode'.Process Free [] false o c i) w.1
  went Mode'.Process Free (e ∷ chain) one o c i at w = by_claim Mode'.Process at refl (found_way Mode'.Process Free (e ∷ chain) one o c i) w.1
  went Mode'.Process (Out p) chain one o c i at w = by_fill Mode'.Process at (λ _ free. let no : Out p ≡ Free = sym o ∙ free in cc no) (λ m. cc m) (found_way Mode'.Process (Out p) chain one o c i) w.1
  went Mode'.Process (Granted p) chain one o c i at w = by_fill Mode'.Process at (λ _ free. let no : Granted p ≡ Free = sym o ∙ free in cc no) (λ m. cc m) (found_way Mode'.Process (Granted p) chain one o c i) w.1
  went Mode'.NoDrain Free [] true o c i at w = by_alone Mode'.NoDrain at refl (found_way Mode'.NoDrain Free [] true o c i) w.0 w.1 w.3
  went Mode'.NoDrain Free [] false o c i at w = by_fill Mode'.NoDrain at (λ m. cc m) (λ _ is. let no : true ≡ false = sym is ∙ i in cc no) (found_way Mode'.NoDrain Free [] false o c i) w.1
  went Mode'.NoDrain Free (e ∷ chain) one o c i at w = by_fill Mode'.NoDrain at (λ m. cc m) (λ _ _. inr (λ empty. let no : e ∷ chain ≡ [] = sym c ∙ empty in cc no)) (found_way Mode'.NoDrain Free (e ∷ chain) one o c i) w.1
  went Mode'.NoDrain (Out p) chain one o c i at w = by_fill Mode'.NoDrain at (λ m. cc m) (λ _ _. inl (λ free. let no : Out p ≡ Free = sym o ∙ free in cc no)) (found_way Mode'.NoDrain (Out p) chain one o c i) w.1
  went Mode'.NoDrain (Granted p) chain one o c i at w = by_fill Mode'.NoDrain at (λ m. cc m) (λ _ _. inl (λ free. let no : Granted p ≡ Free = sym o ∙ free in cc no)) (found_way Mode'.NoDrain (Granted p) chain one o c i) w.1
  went Mode'.Fill own chain one o c i at w = by_fill Mode'.Fill at (λ m. cc m) (λ m. cc m) (found_way Mode'.Fill own chain one o c i) w.1

module _ {R : Type 0} (limits : R → Limits) (s : Named R) (squeues spread : ℕ) (mode : Mode) (budget : ℕ) where
  abbrev S : Setting
  S = setting_of limits s.given

  -- what a pass has seen more, and made
  made_more : (from to : Pass Element) → IsPassOf number_of s.gate to → number to ≡ number from → made_by (number from) (seen to) ≡ mine to
  made_more from to is same = ap (λ (p : ℕ). made_by p (seen to)) (sym same) ∙ (sym (only_made (number to) (seen to)) ∙ is.2)

  pub entry_paced : (es : List FeedOf) (from : Pass Element) (answer : Entered) → IsPassOf number_of s.gate from → 1 ≤ budget → Each (λ f. home_of squeues spread f ≡ s.given.number) es → HasEntered limits s mode budget es from answer
      → IsPaced squeues spread mode budget s.given.number (setting_of limits s.given) (number from) (seen from) → IsPaced squeues spread mode budget s.given.number (setting_of limits s.given) (number from) (seen answer.pass)
  entry_paced es from answer is some home h before =
      let r = number from in
      let q = s.given.number in
      let rest = h.begins.0 in
      let others = others_made r (seen from) rest (mine from) is.2 (ap (λ (G : List Element). only number_of r G) (sym h.begins.1) ∙ h.own) in
      let at = subst (λ (G : List Element). Paces squeues spread mode budget q S r [] G None) (sym h.begins.1)
      (paces_join squeues spread mode budget q S r [] (seen from) rest None None (paces squeues spread mode budget q S r (seen from) before) (paces_others squeues spread mode budget q S r (seen from) rest None before.not_taken others)) in
      paced squeues spread mode budget q S r (seen answer.pass)
      (went squeues spread budget q S r some es home h.found (mine from) (sym (only_made r h.found) ∙ h.own) answer.pass (made_more from answer.pass h.goes_on.is_pass h.goes_on.same_number) h.goes_on.legal answer.how
      mode (run S h.found).own (run S h.found).chain (is_one es) refl refl refl at h.went)

  -- marks of its own that enter no feed
  plain_paced : (from to : Pass Element) (K L : List Element) → IsPassOf number_of s.gate from → IsPassOf number_of s.gate to → number to ≡ number from → seen to ≡ seen from ++ K → mine to ≡ mine from ++ L → Each (λ e. EntersNoFeed (number from) e.mark) L
      → IsPaced squeues spread mode budget s.given.number (setting_of limits s.given) (number from) (seen from) → IsPaced squeues spread mode budget s.given.number (setting_of limits s.given) (number from) (seen to)
  plain_paced from to K L is was same saw made each before =
      let r = number from in
      let q = s.given.number in
      let had : made_by r (seen from) ≡ mine from = sym (only_made r (seen from)) ∙ is.2 in
      let own : made_by r K ≡ L =
      append_cancel_left (mine from) (made_by r K) L
      (ap (λ (xs : List Element). xs ++ made_by r K) (sym had) ∙ (sym (made-append r (seen from) K) ∙ (ap (made_by r) (sym saw) ∙ (made_more from to was same ∙ made)))) in
      paced squeues spread mode budget q S r (seen to)
      (subst (λ (G : List Element). Paces squeues spread mode budget q S r [] G None) (sym saw)
      (paces_join squeues spread mode budget q S r [] (seen from) K None None (paces squeues spread mode budget q S r (seen from) before)
      (paces_plain squeues spread mode budget q S r (seen from) K before.not_taken (subst (Each (λ (e : Element). EntersNoFeed r e.mark)) (sym own) each))))

  way_plain : (p : ℕ) (free : Bool) (ask last : Element) (marks : List Element) → IsWay free p ask marks → EntersNoFeed p last.mark → Each (λ e. EntersNoFeed p e.mark) ((ask ∷ marks) ++ last ∷ [])
  way_plain p false ask last marks w l = rw (w.0, w.1) (tt, (tt, (l, tt)))
  way_plain p true ask last marks w l =
      elim w.1 [
        | inl none ↦ rw (w.0, none) (refl, (l, tt))
        | inr hands ↦ rw (w.0, hands.3) (refl, (tt, (tt, (l, tt))))
      ]

  pub move_paced : (act : SynchAct) (note : List Act) → ((p : ℕ) → moves_block (On.Leave p 0 act) ≡ true) → (from to : Pass Element) → IsPassOf number_of s.gate from → Moved limits s act note from to
      → IsPaced squeues spread mode budget s.given.number (setting_of limits s.given) (number from) (seen from) → IsPaced squeues spread mode budget s.given.number (setting_of limits s.given) (number from) (seen to)
  move_paced act note moves from to is m before =
      let last : Element = left_by_pass (number from) 0 act note in
      plain_paced from to m.goes_on.grows.0 ((m.came.behind.ask ∷ m.came.behind.marks) ++ last ∷ []) is m.goes_on.is_pass m.goes_on.same_number m.goes_on.grows.1
      (m.left.now_mine ∙ (ap (λ (xs : List Element). xs ++ last ∷ []) m.came.behind.now_mine ∙ append_assoc (mine from) (m.came.behind.ask ∷ m.came.behind.marks) (last ∷ [])))
      (way_plain (number from) (is_free (run S m.came.found).own) m.came.behind.ask last m.came.behind.marks m.came.behind.way (moves (number from))) before

  pub close_paced : (from to : Pass Element) → IsPassOf number_of s.gate from → HasClosed limits s from to
      → IsPaced squeues spread mode budget s.given.number (setting_of limits s.given) (number from) (seen from) → IsPaced squeues spread mode budget s.given.number (setting_of limits s.given) (number from) (seen to)
  close_paced from to is h before =
      let e : Element = closed_by (number from) in
      plain_paced from to (h.goes_on.0 ++ e ∷ []) (e ∷ []) is h.is_pass h.same_number
      (h.now_seen ∙ (ap (λ (xs : List Element). xs ++ e ∷ []) h.goes_on.1 ∙ append_assoc (seen from) h.goes_on.0 (e ∷ []))) h.now_mine (tt, tt) before
