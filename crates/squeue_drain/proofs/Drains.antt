-- A drain, turn by turn.
use Rattle.std.specs.Prelude.{replicate}
use Rattle.std.proofs.Common.{◌<◌, ◌≤◌, ◌≡◌, ◌≢◌, ℕ, zero, suc, ◌+◌, Bool, true, false, List, [], ◌∷◌, ◌++◌, length, refl, ap, sym, ◌∙◌, subst, append_assoc, arith}
use Rattle.std.proofs.lemmas.List.{append-nil}
use Rattle.turn_gate.specs.Passes.{number, seen, mine}
use Rattle.turn_gate.specs.declared.pass.Pass.{Pass}
use Rattle.perimeter_core.specs.declared.resident.Resident.{Ghosts}
use Rattle.perimeter_core.specs.Perimeter.{Idle, has_ask, is_closed}
use Rattle.perimeter_core.specs.History.{Element, Setting, Limits, run, made_by}
use Rattle.perimeter_core.specs.Deeds.{done}
use Rattle.perimeter_core.specs.Legal.{feed_count}
use Rattle.squeue_state.specs.Naming.{Named, setting_of}
use Rattle.perimeter_core.specs.declared.entries.Entry.{Entry}
use Rattle.perimeter_core.specs.declared.marks.SynchAct.TheVariants as Done
use Rattle.perimeter_core.specs.declared.marks.Mark.TheVariants as On
use Rattle.histories.specs.Elements.{taken_by, left_by_pass}
use Rattle.squeue_drain.specs.declared.owner.Owner.{Owner}
use Rattle.squeue_drain.specs.Owning.{Feeds, HasFeeds, processed_by, state_of, fed_so_far}
use Rattle.squeue_drain.specs.Draining.{plain, is_leave, Ends, StaysBelow, GoesOn, TookOnly, Drained, Off, Onward, ServedOne}
use Rattle.squeue_drain.proofs.Hands.{parts, count_feeds}
use Rattle.squeue_drain.proofs.Deciding.{begins_trans}
use Rattle.perimeter_core.proofs.Since.{none_made}
use Rattle.std.proofs.Common.{length-append}

-- one more of the same
push_same : {A : Type 0} (k : ℕ) (x : A) → replicate k x ++ x ∷ [] ≡ replicate (suc k) x
push_same zero x = refl
push_same (suc k) x = ap (λ xs. x ∷ xs) (push_same k x)

pub took_none : (p : ℕ) (q : Pass Element) → TookOnly p q q
took_none p q = (0, sym (append-nil (mine q)))

pub took_more : (p n : ℕ) (from mid to : Pass Element) → TookOnly p from mid → n ≡ p → mine to ≡ mine mid ++ taken_by n ∷ [] → TookOnly p from to
took_more p n from mid to t same one =
    let e : mine to ≡ (mine from ++ replicate t.0 (taken_by p)) ++ taken_by p ∷ [] = one ∙ (ap (λ (h : List Element). h ++ taken_by n ∷ []) t.1 ∙ ap (λ (k : ℕ). (mine from ++ replicate t.0 (taken_by p)) ++ taken_by k ∷ []) same) in
    (suc t.0, e ∙ (append_assoc (mine from) (replicate t.0 (taken_by p)) (taken_by p ∷ []) ∙ ap (λ (h : List Element). mine from ++ h) (push_same t.0 (taken_by p))))

grown : (a b c d : List Element) (e : Element) → d ≡ a ++ b → (d ++ c) ++ e ∷ [] ≡ a ++ ((b ++ c) ++ e ∷ [])
grown a b c d e h =
    ap (λ (x : List Element). (x ++ c) ++ e ∷ []) h
    ∙ (ap (λ (x : List Element). x ++ e ∷ []) (append_assoc a b c) ∙ append_assoc a (b ++ c) (e ∷ []))

-- others neither take nor grant as p
others_below : (S : Setting) (p most : ℕ) (H K : List Element) → made_by p K ≡ [] → StaysBelow S p most H K
others_below S p most H [] none = tt
others_below S p most H (e ∷ K) none = let n = none_made p e K none in (λ is _. absurd (n.0 is), others_below S p most (H ++ e ∷ []) K n.1)

join_below : (S : Setting) (p most : ℕ) (H K L : List Element) → StaysBelow S p most H K → StaysBelow S p most (H ++ K) L → StaysBelow S p most H (K ++ L)
join_below S p most H [] L a b = subst (λ (G : List Element). StaysBelow S p most G L) (append-nil H) b
join_below S p most H (e ∷ K) L a b = (a.0, join_below S p most (H ++ e ∷ []) K L a.1 (subst (λ (G : List Element). StaysBelow S p most G L) (sym (append_assoc H (e ∷ []) K)) b))

-- others' elements, and then one of p's
below_more : (S : Setting) (p most : ℕ) (H K L : List Element) (e : Element) → StaysBelow S p most H K → made_by p L ≡ [] → (is_leave e.mark ≡ false → feed_count (done S ((H ++ (K ++ L)) ++ e ∷ [])) < most)
    → StaysBelow S p most H ((K ++ L) ++ e ∷ [])
below_more S p most H K L e a none few = join_below S p most H (K ++ L) (e ∷ []) (join_below S p most H K L a (others_below S p most (H ++ K) L none)) (λ _ on. few on, tt)

module _ {R : Type 0} (limits : R → Limits) (s : Named R) where
  pub on_same : (p q : Pass Element) → GoesOn limits s p p → q ≡ p → GoesOn limits s p q
  on_same p q g e = subst (λ (x : Pass Element). GoesOn limits s p x) (sym e) g

  pub on_trans : (a b c : Pass Element) → GoesOn limits s a b → GoesOn limits s b c → GoesOn limits s a c
  on_trans a b c f g =
      record {
        is_pass = g.is_pass;
        same_number = g.same_number ∙ f.same_number;
        grows = begins_trans (seen a) (seen b) (seen c) f.grows g.grows;
        legal = g.legal;
      }

module _ {R P O : Type 0} (G : Ghosts R P O) (s : Named R) where
  abbrev S : Setting
  S = setting_of G.limits s.given

  pub on_start : (o : Owner R) → Feeds G s o → GoesOn G.limits s o.pass o.pass
  on_start o is = record { is_pass = is.owns.pass; same_number = refl; grows = ([], sym (append-nil (seen o.pass))); legal = is.owns.legal }

  -- what is fed and what is left
  fed_and_left : (o : Owner R) → Feeds G s o → fed_so_far G.limits s o + length o.hand.left ≡ feed_count (done S (seen o.pass)) + length (state_of G.limits s o).hand
  fed_and_left o is =
      let n = ap (λ xs. length xs) (parts (state_of G.limits s o).hand o.hand.left is.owns.hand.is_left) in
      omega (arith, n, length-append (processed_by G.limits s o) o.hand.left, count_feeds (processed_by G.limits s o) is.feeds)

  -- feeds were processed, without a turn
  pub fed_on : (o next : Owner R) (a b : ℕ) → Feeds G s o → Feeds G s next → next.pass ≡ o.pass → length next.hand.left + b ≡ length o.hand.left + a
      → fed_so_far G.limits s next + a ≡ fed_so_far G.limits s o + b
  fed_on o next a b is more same count =
      let e : feed_count (done S (seen next.pass)) + length (state_of G.limits s next).hand ≡ feed_count (done S (seen o.pass)) + length (state_of G.limits s o).hand =
      ap (λ (p : Pass Element). feed_count (done S (seen p)) + length (run S (seen p)).hand) same in
      omega (arith, e, count, fed_and_left o is, fed_and_left next more)

  pub still_has : (o next : Owner R) → next.pass ≡ o.pass → HasFeeds G.limits s o → HasFeeds G.limits s next
  still_has o next same has =
      record {
        some = λ e. has.some (ap (λ (p : Pass Element). (run S (seen p)).hand) (sym same) ∙ e);
        no_ask = ap (λ (p : Pass Element). has_ask (number p) (run S (seen p)).hand) same ∙ has.no_ask;
      }

  -- from the drain's start to the owner's present
  pub record Since (budget rest : ℕ) (first o : Owner R) : Type 0 where
    pub goes_on : GoesOn G.limits s first.pass o.pass
    pub took_only : TookOnly (number first.pass) first.pass o.pass
    pub count : fed_so_far G.limits s o + rest ≡ fed_so_far G.limits s first + budget
    pub closed : is_closed (state_of G.limits s o) (number first.pass) ≡ is_closed (state_of G.limits s first) (number first.pass)
    pub made : List Element
    pub so_far : seen o.pass ≡ seen first.pass ++ made
    pub below : StaysBelow S (number first.pass) (fed_so_far G.limits s first + budget) (seen first.pass) made

  pub since_start : (budget : ℕ) (o : Owner R) → Feeds G s o → Since budget budget o o
  since_start budget o is = record { goes_on = on_start o is; took_only = took_none (number o.pass) o.pass; count = refl; closed = refl; made = []; so_far = sym (append-nil (seen o.pass)); below = tt }

  pub since_fed : (budget a b : ℕ) (first o next : Owner R) → Since budget b first o → Feeds G s o → Feeds G s next → next.pass ≡ o.pass
      → length next.hand.left + b ≡ length o.hand.left + a → Since budget a first next
  since_fed budget a b first o next k is more same count =
      record {
        goes_on = subst (λ (p : Pass Element). GoesOn G.limits s first.pass p) (sym same) k.goes_on;
        took_only = subst (λ (p : Pass Element). TookOnly (number first.pass) first.pass p) (sym same) k.took_only;
        count = omega (arith, k.count, fed_on o next a b is more same count);
        closed = ap (λ (p : Pass Element). is_closed (run S (seen p)) (number first.pass)) same ∙ k.closed;
        made = k.made;
        so_far = ap (λ (p : Pass Element). seen p) same ∙ k.so_far;
        below = k.below;
      }

  pub since_taken : (budget rest : ℕ) (first o next : Owner R) → 1 ≤ rest → Since budget rest first o → Onward G s o next → Since budget rest first next
  since_taken budget rest first o next some k on =
      let same : number o.pass ≡ number first.pass = k.goes_on.same_number in
      let e : Element = taken_by (number o.pass) in
      let saw : seen next.pass ≡ seen first.pass ++ ((k.made ++ on.since) ++ e ∷ []) = on.now_seen ∙ grown (seen first.pass) k.made on.since (seen o.pass) e k.so_far in
      let whole : (seen first.pass ++ (k.made ++ on.since)) ++ e ∷ [] ≡ seen next.pass = append_assoc (seen first.pass) (k.made ++ on.since) (e ∷ []) ∙ sym saw in
      let few : feed_count (done S ((seen first.pass ++ (k.made ++ on.since)) ++ e ∷ [])) < fed_so_far G.limits s first + budget =
      let c : feed_count (done S ((seen first.pass ++ (k.made ++ on.since)) ++ e ∷ [])) ≡ feed_count (done S (seen next.pass)) = ap (λ (h : List Element). feed_count (done S h)) whole in
      omega (arith, c, on.count, k.count, some) in
      record {
        goes_on = on_trans G.limits s first.pass o.pass next.pass k.goes_on on.goes_on;
        took_only = took_more (number first.pass) (number o.pass) first.pass o.pass next.pass k.took_only same on.now_mine;
        count = omega (arith, k.count, on.count);
        closed = subst (λ (n : ℕ). is_closed (state_of G.limits s next) n ≡ is_closed (state_of G.limits s o) n) same on.closed ∙ k.closed;
        made = (k.made ++ on.since) ++ e ∷ [];
        so_far = saw;
        below = below_more S (number first.pass) (fed_so_far G.limits s first + budget) (seen first.pass) k.made on.since e k.below (subst (λ (n : ℕ). made_by n on.since ≡ []) same on.others) (λ _. few);
      }

  pub drained : (budget rest : ℕ) (first o : Owner R) (spent : Bool) (to : Pass Element) → Since budget rest first o → (spent ≡ true → rest ≡ 0) → (spent ≡ false → 1 ≤ rest) → Off G.limits s spent o to → Drained G.limits s budget first to
  drained budget rest first o spent to k when before off =
      let same : number o.pass ≡ number first.pass = k.goes_on.same_number in
      let tk = k.took_only in
      let saw : seen to ≡ seen first.pass ++ ((k.made ++ off.since) ++ plain off.last ∷ []) = off.now_seen ∙ grown (seen first.pass) k.made off.since (seen o.pass) (plain off.last) k.so_far in
      let whole : (seen first.pass ++ (k.made ++ off.since)) ++ plain off.last ∷ [] ≡ seen to = append_assoc (seen first.pass) (k.made ++ off.since) (plain off.last ∷ []) ∙ sym saw in
      record {
        goes_on = on_trans G.limits s first.pass o.pass to k.goes_on off.goes_on;
        takes = tk.0;
        between = k.made ++ off.since;
        last = off.last;
        ends = subst (λ (n : ℕ). Ends n off.last) same off.ends;
        now_seen = saw;
        now_mine = off.now_mine ∙ (ap (λ (h : List Element). h ++ plain off.last ∷ []) tk.1 ∙ append_assoc (mine first.pass) (replicate tk.0 (taken_by (number first.pass))) (plain off.last ∷ []));
        most = omega (arith, off.count, k.count);
        full = λ leave some. all spent refl leave some;
        spent = below_more S (number first.pass) (fed_so_far G.limits s first + budget) (seen first.pass) k.made off.since (plain off.last) k.below (subst (λ (n : ℕ). made_by n off.since ≡ []) same off.others)
            (λ on. subst (λ (h : List Element). feed_count (done S h) < fed_so_far G.limits s first + budget) (sym whole) (few spent refl on));
        idle = λ open_pass.
            subst (λ (n : ℕ). Idle (run S (seen to)) n) same
            (off.idle (subst (λ (n : ℕ). is_closed (state_of G.limits s o) n ≡ false) (sym same) (k.closed ∙ open_pass)));
      }
    where
      all : (b : Bool) → spent ≡ b → is_leave off.last ≡ true → (run S (seen to)).chain ≢ [] → feed_count (done S (seen to)) ≡ fed_so_far G.limits s first + budget
      all true is leave some = let none = when is in omega (arith, none, off.count, k.count)
      all false is leave some = absurd (some (off.empty is leave))

      few : (b : Bool) → spent ≡ b → is_leave off.last ≡ false → feed_count (done S (seen to)) < fed_so_far G.limits s first + budget
      few true is on = absurd (let l = ap is_leave (off.leaves is) in cc)
      few false is on = let some = before is in omega (arith, some, off.count, k.count)

-- the owner of one feed
module _ {R P O : Type 0} (G : Ghosts R P O) (s : Named R) where
  pub none_of_some : (o : Owner R) → o.hand.left ≡ [] → HasFeeds G.limits s o → length o.hand.left < length (state_of G.limits s o).hand
  none_of_some o none has = rw none (more (state_of G.limits s o).hand has.some)
    where
      more : (xs : List Entry) → xs ≢ [] → 0 < length xs
      more [] some = absurd (some refl)
      more (x ∷ xs) some = omega arith

  pub served_one : (o n : Owner R) (to : Pass Element) → n.pass ≡ o.pass → n.hand.left ≡ [] → Off G.limits s true n to → ServedOne G.limits s o to
  served_one o n to same none off =
      let last : plain off.last ≡ left_by_pass (number n.pass) 0 Done.None [] = ap plain (off.leaves refl ∙ ap (λ (xs : List Entry). On.Leave (number n.pass) (length xs) Done.None) none) in
      subst (λ (p : Pass Element). GoesOn G.limits s p to × (made_by (number p) off.since ≡ []) × (seen to ≡ (seen p ++ off.since) ++ left_by_pass (number p) 0 Done.None [] ∷ [])
      × (mine to ≡ mine p ++ left_by_pass (number p) 0 Done.None [] ∷ []) × (is_closed (run (setting_of G.limits s.given) (seen p)) (number p) ≡ false → Idle (run (setting_of G.limits s.given) (seen to)) (number p)) → ServedOne G.limits s o to) (sym same)
      (λ k. record { goes_on = k.0; since = off.since; others = k.1; now_seen = k.2; now_mine = k.3; idle = k.4 })
      (off.goes_on, off.others, off.now_seen ∙ ap (λ (e : Element). (seen n.pass ++ off.since) ++ e ∷ []) last, off.now_mine ∙ ap (λ (e : Element). mine n.pass ++ e ∷ []) last, off.idle)
