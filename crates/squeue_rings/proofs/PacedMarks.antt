-- Which marks of a ring keep its pace, one by one and as a drain has them.
use Rattle.std.specs.Prelude.{replicate}
use Rattle.std.proofs.Common.{◌≡◌, ◌≢◌, ℕ, zero, suc, ◌+◌, ◌≤◌, ◌⊎◌, true, false, Some, None, List, [], ◌∷◌, ◌++◌, refl, ap, sym, ◌∙◌, subst, append_assoc, arith}
use Rattle.std.proofs.lemmas.List.{append_cancel_left, append_cancel_right}
use Rattle.turn_gate.specs.History.{Each}
use Rattle.turn_gate.specs.Passes.{mine, seen}
use Rattle.turn_gate.specs.declared.pass.Pass.{Pass}
use Rattle.perimeter_core.specs.declared.entries.Entry.{Entry}
use Rattle.perimeter_core.specs.declared.entries.Entry.TheVariants.{Feed, Ask}
use Rattle.perimeter_core.specs.declared.entries.Feed.{Feed as FeedOf}
use Rattle.perimeter_core.specs.declared.marks.Own.TheVariants.{Free, Out}
use Rattle.perimeter_core.specs.declared.marks.SynchAct.TheVariants as Done
use Rattle.perimeter_core.specs.declared.marks.Mark.{Mark}
use Rattle.perimeter_core.specs.declared.marks.Mark.TheVariants as On
use Rattle.perimeter_core.specs.Perimeter.{State, is_empty, is_free, processed}
use Rattle.perimeter_core.specs.History.{Element, Setting, made_by, pass_of, run, start}
use Rattle.perimeter_core.specs.Deeds.{done, entries, entries_of}
use Rattle.perimeter_core.specs.Legal.{Legal, feed_count}
use Rattle.perimeter_core.proofs.OneMore.{legal_front, run_push}
use Rattle.perimeter_core.proofs.Since.{known_since}
use Rattle.histories.specs.Elements.{claimed_by, fast_by, filled_by, left_by_pass, taken_by}
use Rattle.squeue_state.proofs.Makers.{made-append}
use Rattle.squeue_drain.specs.Draining.{Ends, is_leave, plain}
use Rattle.histories.proofs.OwnersFacts.{done_more, done_still}
use Rattle.histories.specs.declared.mode.Mode.{Mode}
use Rattle.histories.specs.declared.mode.Mode.TheVariants as Mode'
use Rattle.squeue_enter.specs.Entering.{DrainsFrom, LeavesFrom}
use Rattle.squeue_enter.specs.Ways.{is_one, way_of}
use Rattle.histories.proofs.Counts.{only_feeds}
use Rattle.histories.specs.Homes.{home}
use Rattle.histories.specs.Keeping.{AreHome, claims_feeds, fills, fills_one, is_fast, leaves_it, taken, taken_after}
use Rattle.squeue_rings.specs.Paced.{OfRing}
use Rattle.squeue_rings.specs.OwnMarks.{GoesByTable, has_one, moves_block}
use Rattle.squeue_rings.proofs.OwnMarks.{own_made}
use Rattle.squeue_rings.proofs.Pacing.{IsRight, Paces, paces_all, paces_join, paces_one, paces_others}

-- the mark enters at most an Ask of the pass, and leaves only with a block that it moves
abbrev pub EntersNoFeed : ℕ → Mark → Type 0
EntersNoFeed p (On.Fill q es) = ⊥
EntersNoFeed p (On.Fast q e) = ⊥
EntersNoFeed p (On.Claim q es) = es ≡ Ask p ∷ []
EntersNoFeed p (On.Leave q rest act) = moves_block (On.Leave q rest act) ≡ true
EntersNoFeed p _ = Unit {0}

module _ (squeues spread : ℕ) (mode : Mode) (budget q : ℕ) (S : Setting) (r : ℕ) where
  -- what such a mark is, where the ring hasn't taken the perimeter with feeds
  record IsPlain (past : List Element) (m : Mark) : Type 0 where
    at_home : AreHome squeues spread q (entries_of m)
    no_fast : is_fast m ≡ false
    no_claim : claims_feeds m ≡ false
    no_fill : fills m ≡ false
    no_fill_of_one : fills_one m ≡ false
    goes : GoesByTable mode (run S past) m
    with_block : leaves_it m ≡ true → moves_block m ≡ true
    still : taken_after S past None m ≡ None

  is_plain : (past : List Element) (m : Mark) → EntersNoFeed r m → IsPlain past m
  is_plain past (On.Fill p es) none = absurd none
  is_plain past (On.Fast p e) none = absurd none
  is_plain past (On.Claim p es) none = rw none (record { at_home = tt; no_fast = refl; no_claim = refl; no_fill = refl; no_fill_of_one = refl; goes = λ feeds. cc feeds; with_block = λ leaves. cc leaves; still = refl })
  is_plain past (On.Take p) none = record { at_home = tt; no_fast = refl; no_claim = refl; no_fill = refl; no_fill_of_one = refl; goes = tt; with_block = λ leaves. cc leaves; still = refl }
  is_plain past (On.Leave p rest act) none = record { at_home = tt; no_fast = refl; no_claim = refl; no_fill = refl; no_fill_of_one = refl; goes = tt; with_block = λ _. none; still = refl }
  is_plain past (On.Ask p) none = record { at_home = tt; no_fast = refl; no_claim = refl; no_fill = refl; no_fill_of_one = refl; goes = tt; with_block = λ leaves. cc leaves; still = refl }
  is_plain past (On.Grant p j rest) none = record { at_home = tt; no_fast = refl; no_claim = refl; no_fill = refl; no_fill_of_one = refl; goes = tt; with_block = λ leaves. cc leaves; still = refl }
  is_plain past (On.Accept j) none = record { at_home = tt; no_fast = refl; no_claim = refl; no_fill = refl; no_fill_of_one = refl; goes = tt; with_block = λ leaves. cc leaves; still = refl }
  is_plain past (On.Work p) none = record { at_home = tt; no_fast = refl; no_claim = refl; no_fill = refl; no_fill_of_one = refl; goes = tt; with_block = λ leaves. cc leaves; still = refl }
  is_plain past (On.Close p) none = record { at_home = tt; no_fast = refl; no_claim = refl; no_fill = refl; no_fill_of_one = refl; goes = tt; with_block = λ leaves. cc leaves; still = refl }

  keeps_plain : (past : List Element) (e : Element) → taken S r past ≡ None → EntersNoFeed r e.mark → IsRight squeues spread mode budget q S r past e × (taken_after S past None e.mark ≡ None)
  keeps_plain past e is none =
      let m = is_plain past e.mark none in (
        (
          record {
            home = m.at_home;
            fill = λ _. (m.no_fast, m.no_claim);
            no_claim = λ _. m.no_claim;
            busy = λ _ fill. let no : true ≡ false = sym fill ∙ m.no_fill in cc no;
            busy_or_behind = λ _ fill. let no : true ≡ false = sym fill ∙ m.no_fill_of_one in cc no;
            leaves_next = λ _ took. absurd (took is);
            few = λ _. rw is tt;
            full = λ _ _ _. rw is tt;
          },
          record { way = m.goes; moves = λ leaves _. m.with_block leaves },
        ),
        m.still,
      )

  -- where a ring hasn't taken the perimeter with feeds, marks that enter none change nothing
  pub paces_plain : (past K : List Element) → taken S r past ≡ None → Each (λ e. EntersNoFeed r e.mark) (made_by r K) → Paces squeues spread mode budget q S r past K None
  paces_plain past K is each = paces_all squeues spread mode budget q S r None (λ e. EntersNoFeed r e.mark) keeps_plain past K is each

  module _ (past : List Element) (is : taken S r past ≡ None) where
    -- it queues feeds
    pub paces_fill : (es : List FeedOf) → AreHome squeues spread q (entries es) → (mode ≡ Mode'.Process → (run S past).own ≢ Free)
        → (mode ≡ Mode'.NoDrain → is_one es ≡ true → ((run S past).own ≢ Free) ⊎ ((run S past).chain ≢ [])) → way_of mode (is_free (run S past).own) (is_empty (run S past).chain) (has_one (entries es)) ≡ way_of Mode'.Fill true true true
        → Paces squeues spread mode budget q S r past (filled_by r es ∷ []) None
    paces_fill es at_home busy behind way =
        paces_one squeues spread mode budget q S r past None None (filled_by r es) refl is (
          record {
            home = at_home;
            fill = λ _. (refl, refl);
            no_claim = λ _. refl;
            busy = λ m _. busy m;
            busy_or_behind = λ m one. behind m (as_one es one);
            leaves_next = λ _ took. absurd (took is);
            few = λ gives. cc gives;
            full = λ _ leaves. cc leaves;
          },
          record { way = way; moves = λ leaves. cc leaves },
        ) refl
      where
        as_one : (es : List FeedOf) → fills_one (On.Fill r (entries es)) ≡ true → is_one es ≡ true
        as_one [] one = cc one
        as_one (f ∷ []) one = refl
        as_one (f ∷ g ∷ fs) one = cc one

    -- it takes the perimeter with one feed
    pub paces_fast : (f : FeedOf) → home squeues spread f.c f.n ≡ q → mode ≢ Mode'.Fill → GoesByTable mode (run S past) (On.Fast r (Feed f.c f.n))
        → Paces squeues spread mode budget q S r past (fast_by r f ∷ []) (Some (feed_count (done S past)))
    paces_fast f at_home other way =
        paces_one squeues spread mode budget q S r past None (Some (feed_count (done S past))) (fast_by r f) refl is (
          record {
            home = (at_home, tt);
            fill = λ m. absurd (other m);
            no_claim = λ _. refl;
            busy = λ _ fill. cc fill;
            busy_or_behind = λ _ fill. cc fill;
            leaves_next = λ _ took. absurd (took is);
            few = λ gives. cc gives;
            full = λ _ leaves. cc leaves;
          },
          record { way = way; moves = λ leaves. cc leaves },
        ) refl

    -- it takes it with all that is queued and its feeds
    pub paces_claim : (es : List FeedOf) → AreHome squeues spread q (entries es) → mode ≡ Mode'.Process → way_of mode (is_free (run S past).own) (is_empty (run S past).chain) (has_one (entries es)) ≡ way_of Mode'.Process true false true
        → Paces squeues spread mode budget q S r past (claimed_by r es ∷ []) (Some (feed_count (done S past)))
    paces_claim es at_home process way =
        paces_one squeues spread mode budget q S r past None (Some (feed_count (done S past))) (claimed_by r es) refl is (
          record {
            home = at_home;
            fill = λ m. let no : Mode'.Fill ≡ Mode'.Process = sym m ∙ process in cc no;
            no_claim = λ m. let no : Mode'.NoDrain ≡ Mode'.Process = sym m ∙ process in cc no;
            busy = λ _ fill. cc fill;
            busy_or_behind = λ _ fill. cc fill;
            leaves_next = λ _ took. absurd (took is);
            few = λ gives. cc gives;
            full = λ _ leaves. cc leaves;
          },
          record { way = λ _. way; moves = λ leaves. cc leaves },
        ) (rw (only_feeds es) refl)

  -- while it has the perimeter so it may leave
  of_owner : (past : List Element) (n : ℕ) (m : Mark) → taken S r past ≡ Some n → GoesByTable mode (run S past) m → OfRing mode S r past m
  of_owner past n m is goes = record { way = goes; moves = λ _ not. let no : Some n ≡ None = sym is ∙ not in cc no }

  -- with process it takes the queue while it has the perimeter
  keeps_take : mode ≡ Mode'.Process → (n : ℕ) (past : List Element) (e : Element) → taken S r past ≡ Some n → e ≡ taken_by r → IsRight squeues spread mode budget q S r past e × (taken_after S past (Some n) e.mark ≡ Some n)
  keeps_take process n past e is took_it =
      subst (λ (e : Element). IsRight squeues spread mode budget q S r past e × (taken_after S past (Some n) e.mark ≡ Some n)) (sym took_it) (
        (
          record {
            home = tt;
            fill = λ _. (refl, refl);
            no_claim = λ _. refl;
            busy = λ _ fill. cc fill;
            busy_or_behind = λ _ fill. cc fill;
            leaves_next = λ m. let no : Mode'.NoDrain ≡ Mode'.Process = sym m ∙ process in cc no;
            few = λ gives. cc gives;
            full = λ _ leaves. cc leaves;
          },
          of_owner past n (On.Take r) is tt,
        ),
        refl,
      )

  -- and then it leaves or grants
  paces_end : mode ≡ Mode'.Process → (n : ℕ) (past : List Element) (last : Mark) → taken S r past ≡ Some n → Ends r last → feed_count (done S (past ++ plain last ∷ [])) ≤ n + budget
      → (is_leave last ≡ true → (run S (past ++ plain last ∷ [])).chain ≢ [] → feed_count (done S (past ++ plain last ∷ [])) ≡ n + budget) → Paces squeues spread mode budget q S r past (plain last ∷ []) None
  paces_end process n past (On.Leave p rest Done.None) is ends most full =
      paces_one squeues spread mode budget q S r past (Some n) None (plain (On.Leave p rest Done.None)) ends is (
        record {
          home = tt;
          fill = λ _. (refl, refl);
          no_claim = λ _. refl;
          busy = λ _ fill. cc fill;
          busy_or_behind = λ _ fill. cc fill;
          leaves_next = λ _ _. refl;
          few = λ _. rw is most;
          full = λ _ _ queued. rw is (full refl queued);
        },
        of_owner past n (On.Leave p rest Done.None) is tt,
      ) refl
  paces_end process n past (On.Grant p j rest) is ends most full =
      paces_one squeues spread mode budget q S r past (Some n) None (plain (On.Grant p j rest)) ends.0 is (
        record {
          home = tt;
          fill = λ _. (refl, refl);
          no_claim = λ _. refl;
          busy = λ _ fill. cc fill;
          busy_or_behind = λ _ fill. cc fill;
          leaves_next = λ m. let no : Mode'.NoDrain ≡ Mode'.Process = sym m ∙ process in cc no;
          few = λ _. rw is most;
          full = λ _ leaves. cc leaves;
        },
        of_owner past n (On.Grant p j rest) is tt,
      ) refl
  paces_end process n past (On.Leave p rest (Done.Call c j k)) is ends most full = absurd ends
  paces_end process n past (On.Leave p rest Done.Away) is ends most full = absurd ends
  paces_end process n past (On.Leave p rest (Done.Out c)) is ends most full = absurd ends
  paces_end process n past (On.Leave p rest (Done.In c)) is ends most full = absurd ends
  paces_end process n past (On.Fill p es) is ends most full = absurd ends
  paces_end process n past (On.Fast p e) is ends most full = absurd ends
  paces_end process n past (On.Claim p es) is ends most full = absurd ends
  paces_end process n past (On.Take p) is ends most full = absurd ends
  paces_end process n past (On.Ask p) is ends most full = absurd ends
  paces_end process n past (On.Accept j) is ends most full = absurd ends
  paces_end process n past (On.Work p) is ends most full = absurd ends
  paces_end process n past (On.Close p) is ends most full = absurd ends

  -- of what the pass saw behind H, its own elements but the last
  own_before : (H M K L : List Element) (last : Element) (to : Pass Element) → made_by r H ≡ M → made_by r (seen to) ≡ mine to → seen to ≡ H ++ (K ++ last ∷ []) → mine to ≡ M ++ (L ++ last ∷ []) → pass_of last.mark ≡ r → made_by r K ≡ L
  own_before H M K L last to had knows saw made own =
      append_cancel_right (made_by r K) L (last ∷ [])
      (append_cancel_left M (made_by r K ++ last ∷ []) (L ++ last ∷ [])
      (ap (λ (xs : List Element). xs ++ (made_by r K ++ last ∷ [])) (sym had)
      ∙ (ap (λ (xs : List Element). made_by r H ++ (made_by r K ++ xs)) (sym (own_made r last [] own))
      ∙ (ap (λ (xs : List Element). made_by r H ++ xs) (sym (made-append r K (last ∷ [])))
      ∙ (sym (made-append r H (K ++ last ∷ [])) ∙ (ap (made_by r) (sym saw) ∙ (knows ∙ made)))))))

  all_took : (k : ℕ) → Each (λ e. e ≡ taken_by r) (replicate k (taken_by r))
  all_took zero = tt
  all_took (suc k) = (refl, all_took k)

  ends_own : (last : Mark) → Ends r last → pass_of last ≡ r
  ends_own (On.Leave p rest Done.None) ends = ends
  ends_own (On.Grant p j rest) ends = ends.0
  ends_own (On.Leave p rest (Done.Call c j k)) ends = absurd ends
  ends_own (On.Leave p rest Done.Away) ends = absurd ends
  ends_own (On.Leave p rest (Done.Out c)) ends = absurd ends
  ends_own (On.Leave p rest (Done.In c)) ends = absurd ends
  ends_own (On.Fill p es) ends = absurd ends
  ends_own (On.Fast p e) ends = absurd ends
  ends_own (On.Claim p es) ends = absurd ends
  ends_own (On.Take p) ends = absurd ends
  ends_own (On.Ask p) ends = absurd ends
  ends_own (On.Accept j) ends = absurd ends
  ends_own (On.Work p) ends = absurd ends
  ends_own (On.Close p) ends = absurd ends

  -- a drain behind H, where the ring has taken the perimeter with feeds
  pub paces_drain : mode ≡ Mode'.Process → (H M : List Element) (to : Pass Element) → Paces squeues spread mode budget q S r [] H (Some (feed_count (done S H))) → made_by r H ≡ M → made_by r (seen to) ≡ mine to → DrainsFrom S r budget H M to
      → Paces squeues spread mode budget q S r [] (seen to) None
  paces_drain process H M to now had knows d =
      let n = feed_count (done S H) in
      let own = own_before H M d.between (replicate d.takes (taken_by r)) (plain d.last) to had knows d.now_seen d.now_mine (ends_own d.last d.ends) in
      let takes = paces_all squeues spread mode budget q S r (Some n) (λ e. e ≡ taken_by r) (keeps_take process n) H d.between now.now (subst (Each (λ (e : Element). e ≡ taken_by r)) (sym own) (all_took d.takes)) in
      let whole : (H ++ d.between) ++ plain d.last ∷ [] ≡ seen to = append_assoc H d.between (plain d.last ∷ []) ∙ sym d.now_seen in
      let end = paces_end process n (H ++ d.between) d.last takes.now d.ends
      (subst (λ (G : List Element). feed_count (done S G) ≤ n + budget) (sym whole) d.most)
      (subst (λ (G : List Element). is_leave d.last ≡ true → (run S G).chain ≢ [] → feed_count (done S G) ≡ n + budget) (sym whole) d.full) in
      subst (λ (G : List Element). Paces squeues spread mode budget q S r [] G None) whole
      (paces_join squeues spread mode budget q S r [] (H ++ d.between) (plain d.last ∷ []) (Some n) None (paces_join squeues spread mode budget q S r [] H d.between (Some n) (Some n) now takes) end)

  -- with nodrain it takes the perimeter with one feed, and leaves
  pub paces_alone : mode ≡ Mode'.NoDrain → 1 ≤ budget → (H M : List Element) (f : FeedOf) (to : Pass Element) → Paces squeues spread mode budget q S r [] (H ++ fast_by r f ∷ []) (Some (feed_count (done S H))) → Legal S (seen to) → LeavesFrom r (H ++ fast_by r f ∷ []) M to
      → Paces squeues spread mode budget q S r [] (seen to) None
  paces_alone nodrain some H M f to now legal l =
      let n = feed_count (done S H) in
      let e : Element = left_by_pass r 0 Done.None [] in
      let after : (run S first).own ≡ Out r = ap (λ (s : State). s.own) (run_push (start S) H (fast_by r f)) in
      let hand : (run S first).hand ≡ Feed f.c f.n ∷ [] = ap (λ (s : State). s.hand) (run_push (start S) H (fast_by r f)) in
      let others = paces_others squeues spread mode budget q S r first l.between (Some n) now.now l.others in
      let whole : (first ++ l.between) ++ e ∷ [] ≡ seen to = append_assoc first l.between (e ∷ []) ∙ sym l.now_seen in
      let legal_so : Legal S (first ++ l.between) = legal_front S (first ++ l.between) (e ∷ []) (subst (Legal S) (sym whole) legal) in
      let still = done_still S first l.between r legal_so l.others after in
      let has = (known_since S first l.between r legal_so l.others).owner after in
      let one : feed_count (processed 0 (run S (first ++ l.between)).hand) ≡ 1 = ap (λ (es : List Entry). feed_count (processed 0 es)) (has.1 ∙ hand) in
      let before : feed_count (done S first) ≡ n + 0 = done_more S H (fast_by r f) in
      let more : feed_count (done S ((first ++ l.between) ++ e ∷ [])) ≡ feed_count (done S (first ++ l.between)) + feed_count (processed 0 (run S (first ++ l.between)).hand) = done_more S (first ++ l.between) e in
      let few : feed_count (done S ((first ++ l.between) ++ e ∷ [])) ≤ n + budget = omega (arith, some, still, one, before, more) in
      let end = paces_one squeues spread mode budget q S r (first ++ l.between) (Some n) None e refl others.now (
        record {
          home = tt;
          fill = λ _. (refl, refl);
          no_claim = λ _. refl;
          busy = λ _ fill. cc fill;
          busy_or_behind = λ _ fill. cc fill;
          leaves_next = λ _ _. refl;
          few = λ _. rw others.now few;
          full = λ m. let no : Mode'.Process ≡ Mode'.NoDrain = sym m ∙ nodrain in cc no;
        },
        of_owner (first ++ l.between) n e.mark others.now tt,
      ) refl in
      subst (λ (G : List Element). Paces squeues spread mode budget q S r [] G None) whole
      (paces_join squeues spread mode budget q S r [] (first ++ l.between) (e ∷ []) (Some n) None (paces_join squeues spread mode budget q S r [] first l.between (Some n) (Some n) now others) end)
    where
      first : List Element
      first = H ++ fast_by r f ∷ []
