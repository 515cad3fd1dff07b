-- The marks by which an owner says what it has processed: what they need, and that what is kept stands for the longer history.
use Rattle.std.proofs.Common.{◌≡◌, ◌≢◌, ℕ, Bool, true, false, ◌&&◌, ◌||◌, if◌then◌else◌, ◌==◌, Some, List, [], ◌∷◌, ◌++◌, length, refl, ap, sym, ◌∙◌, subst, arith, length-append}
use Rattle.std.specs.Prelude.{slice_get, slice_index_or}
use Rattle.std.proofs.Math.Bool.{or-false}
use Rattle.perimeter_core.specs.declared.entries.Entry.{Entry}
use Rattle.perimeter_core.specs.declared.marks.Own.TheVariants.{Out}
use Rattle.perimeter_core.specs.declared.marks.Mark.TheVariants as On
use Rattle.perimeter_core.specs.Perimeter.{State, after, has_ask, is_closed}
use Rattle.perimeter_core.specs.History.{Element, Setting, run, start, pass_of}
use Rattle.perimeter_core.specs.Deeds.{done_by, entries_of}
use Rattle.perimeter_core.specs.Legal.{May, all_feeds, ask_count, feed_count}
use Rattle.perimeter_core.proofs.OneMore.{legal_more, run_push}
use Rattle.perimeter_core.proofs.Quotas.{feeds_push, asks_push}
use Rattle.perimeter_core.proofs.IdleKept.{feeds_no_ask}
use Rattle.squeue_replay.specs.Standing.{GuestStands, PassOf, PassStands, SqueueOf, Stands}
use Rattle.squeue_replay.specs.Steps.{Answered, Became, Processed, guest_fed}
use Rattle.squeue_replay.proofs.AskSteps.{feeds_alone}
use Rattle.squeue_replay.proofs.GuestActs.{became_same, taken_guest}
use Rattle.squeue_replay.proofs.GuestSteps.{guest_after, guest_goes_on}
use Rattle.histories.proofs.OwnersFacts.{owner_below}
use Rattle.histories.proofs.Counts.{quota_kept}

no_more : (b : Bool) (n : ℕ) → n ≡ 0 → (if b then n else 0) ≡ 0
no_more true n h = h
no_more false n h = refl

-- what is kept after such a mark, whose last processed entry is the Ask of pass j or none
module _ (S : Setting) (H : List Element) (e : Element) (x y : SqueueOf) (k : Stands S H x) (m : May S H e) (ask : Bool) (j : ℕ) where
  s : State
  s = run S H

  one_step : run S (H ++ e ∷ []) ≡ after (run S H) e.mark
  one_step = run_push (start S) H e

  pass_stands : entries_of e.mark ≡ [] → (after (run S H) e.mark).closed ≡ (run S H).closed
      → ((p : ℕ) → (has_ask p (after (run S H) e.mark).hand || has_ask p (after (run S H) e.mark).chain) ≡ (if ask && (j == p) then false else (has_ask p (run S H).hand || has_ask p (run S H).chain)))
      → Answered ask j x.passes y.passes → (p : ℕ) (a : PassOf) → slice_get y.passes p ≡ Some a → PassStands S (H ++ e ∷ []) p a
  pass_stands none closed asks answered p a at =
      let was = answered.each p a at in
      let before = k.each_pass p was.0 was.1 in
      let feeds : (if pass_of e.mark == p then feed_count (entries_of e.mark) else 0) ≡ 0 = no_more (pass_of e.mark == p) _ (ap feed_count none) in
      let no_asks : (if pass_of e.mark == p then ask_count (entries_of e.mark) else 0) ≡ 0 = no_more (pass_of e.mark == p) _ (ap ask_count none) in
      let same_feeds : a.feeds ≡ was.0.feeds = ap (λ (z : PassOf). z.feeds) was.2 in
      let same_asks : a.asks ≡ was.0.asks = ap (λ (z : PassOf). z.asks) was.2 in
      record {
        closed = ap (λ (z : PassOf). z.closed) was.2 ∙ (before.closed ∙ sym (ap (λ (r : State). is_closed r p) one_step ∙ ap (λ (l : List Bool). slice_index_or l p false) closed));
        waiting = ap (λ (z : PassOf). z.waiting) was.2 ∙ (ap (λ (w : Bool). if ask && (j == p) then false else w) before.waiting ∙ sym (ap (λ (r : State). has_ask p r.hand || has_ask p r.chain) one_step ∙ asks p));
        feeds = omega (arith, feeds_push p H e, feeds, same_feeds, before.feeds);
        asks = omega (arith, asks_push p H e, no_asks, same_asks, before.asks);
      }

  pub goes_on : entries_of e.mark ≡ [] → (after (run S H) e.mark).closed ≡ (run S H).closed
      → ((p : ℕ) → (has_ask p (after (run S H) e.mark).hand || has_ask p (after (run S H) e.mark).chain) ≡ (if ask && (j == p) then false else (has_ask p (run S H).hand || has_ask p (run S H).chain)))
      → Answered ask j x.passes y.passes → Became (λ c. guest_after c (run S H) e) x.guests y.guests
      → y.own ≡ (after (run S H) e.mark).own → y.wake ≡ (after (run S H) e.mark).wake → y.chain ≡ (after (run S H) e.mark).chain → y.hand ≡ (after (run S H) e.mark).hand
      → Stands S (H ++ e ∷ []) y
  goes_on none closed asks answered became own wake chain hand =
      record {
        legal = legal_more S H e k.legal m;
        own = own ∙ sym (ap (λ (r : State). r.own) one_step);
        wake = wake ∙ sym (ap (λ (r : State). r.wake) one_step);
        chain = chain ∙ sym (ap (λ (r : State). r.chain) one_step);
        hand = hand ∙ sym (ap (λ (r : State). r.hand) one_step);
        passes = answered.count ∙ k.passes;
        each_pass = pass_stands none closed asks answered;
        guests = became.count ∙ k.guests;
        each_guest = λ c h at.
            let was = became.each c h at in
            subst (GuestStands S (H ++ e ∷ []) c) (sym was.2) (guest_goes_on S H e k.legal m c was.0 (k.each_guest c was.0 was.1));
      }

-- what a Take needs
pub record TakeMay (p : ℕ) (x : SqueueOf) : Type 0 where
  pub own : x.own ≡ Out p
  pub chain : x.chain ≢ []
  pub hand : x.hand ≢ []
  pub feeds : all_feeds x.hand ≡ true

abbrev pub take_mark : ℕ → Element
take_mark p = record { mark = On.Take p; note = [] }

pub take_fits : (S : Setting) (H : List Element) (p : ℕ) (x : SqueueOf) → Stands S H x → May S H (take_mark p) → TakeMay p x
take_fits S H p x k m =
    record {
      own = k.own ∙ m.step.0;
      chain = λ e. m.step.1 (sym k.chain ∙ e);
      hand = λ e. m.asks_last.1 (sym k.hand ∙ e);
      feeds = ap all_feeds k.hand ∙ m.asks_last.0;
    }

pub take_may : (S : Setting) (H : List Element) (p : ℕ) (x : SqueueOf) → Stands S H x → TakeMay p x → May S H (take_mark p)
take_may S H p x k t =
    let out : (run S H).own ≡ Out p = sym k.own ∙ t.own in
    record {
      step = (out, λ e. t.chain (k.chain ∙ e));
      range = (owner_below S H p k.legal out, tt);
      worker_only = tt;
      idle = tt;
      kind = tt;
      enters = tt;
      quota = quota_kept S p H (take_mark p) k.legal refl;
      asks_last = (ap all_feeds (sym k.hand) ∙ t.feeds, λ e. t.hand (k.hand ∙ e));
      at_its_ask = tt;
      act = tt;
      progress = tt;
      note = refl;
    }

nothing_left : (xs ys : List Entry) → xs ≡ xs ++ ys → ys ≡ []
nothing_left xs [] e = refl
nothing_left xs (y ∷ ys) e = absurd (let n = ap length e in let sum = length-append xs (y ∷ ys) in omega (arith, n, sum))

pub take_stands : (S : Setting) (H : List Element) (p n : ℕ) (x t y : SqueueOf) → Stands S H x → x.own ≡ Out p → x.chain ≢ [] → x.hand ≢ [] → Processed x.hand p n false x t
    → y ≡ record t { hand = t.chain; chain = t.hand } → Stands S (H ++ take_mark p ∷ []) y × (n ≡ feed_count (done_by (run S H) (On.Take p)))
take_stands S H p n x t y k own chain hand did is =
    let all : all_feeds x.hand ≡ true = feeds_alone p x.hand did.right (sym did.asked) in
    let may = take_may S H p x k (record { own = own; chain = chain; hand = hand; feeds = all }) in
    let none : t.hand ≡ [] = nothing_left x.hand t.hand did.hand in (
      goes_on S H (take_mark p) x y k may false p refl refl
          (λ q. rw (← k.hand, ← k.chain) (rw (feeds_no_ask q x.hand all) (or-false (has_ask q x.chain))))
          (subst (λ (z : SqueueOf). Answered false p x.passes z.passes) (sym is) did.passes)
          (subst (λ (z : SqueueOf). Became (λ c. guest_after c (run S H) (take_mark p)) x.guests z.guests) (sym is)
          (became_same (λ c. guest_fed c x.hand) (λ c. guest_after c (run S H) (take_mark p)) x.guests t.guests
          (λ c g at. ap (λ (es : List Entry). guest_fed c es g) k.hand ∙ taken_guest c p (run S H) g) did.guests))
          (ap (λ (z : SqueueOf). z.own) is ∙ (did.own ∙ k.own))
          (ap (λ (z : SqueueOf). z.wake) is ∙ (did.wake ∙ k.wake))
          (ap (λ (z : SqueueOf). z.chain) is ∙ none)
          (ap (λ (z : SqueueOf). z.hand) is ∙ (did.chain ∙ k.chain)),
      did.feeds ∙ ap feed_count k.hand,
    )
