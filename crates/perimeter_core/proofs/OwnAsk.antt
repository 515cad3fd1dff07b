-- Who is owner or granted has no Ask queued, but for the one that it claimed with.
use Rattle.std.proofs.Common.{◌≡◌, ℕ, ◌+◌, ◌≤◌, Bool, true, false, if◌then◌else◌, ◌==◌, ◌||◌, ◌⊎◌, inl, inr, List, [], ◌∷◌, ◌++◌, refl, ap, ◌∙◌, arith}
use Rattle.std.proofs.lemmas.Bool.Decides.{nat_tests}
use Rattle.perimeter_core.specs.declared.entries.Entry.{Entry}
use Rattle.perimeter_core.specs.declared.entries.Entry.TheVariants.{Feed, Ask}
use Rattle.perimeter_core.specs.declared.marks.Own.TheVariants.{Out, Granted}
use Rattle.perimeter_core.specs.declared.marks.Mark.{Mark}
use Rattle.perimeter_core.specs.declared.marks.Mark.TheVariants as On
use Rattle.perimeter_core.specs.Perimeter.{State, Can, after, has_ask, processed}
use Rattle.perimeter_core.specs.History.{Element, Setting, worker, start, run}
use Rattle.perimeter_core.specs.Deeds.{entries_of, done_by}
use Rattle.perimeter_core.specs.Legal.{Legal, IdleFirst, RightKind}
use Rattle.perimeter_core.specs.Backlog.{queue, QueuedInRange, WaitsNoMore}
use Rattle.perimeter_core.proofs.OneMore.{run_push, legal_ind}
use Rattle.perimeter_core.proofs.OrderAndWake.{sound}
use Rattle.perimeter_core.proofs.FeedOrder.{queue_after}
use Rattle.perimeter_core.proofs.BehindAnAsk.{ends_has, has_ask-append}
use Rattle.perimeter_core.proofs.IdleKept.{no_ask_split, feeds_no_ask, enters_no_ask}
use Rattle.perimeter_core.proofs.QueuedRange.{range_right, queued_range}
use Rattle.perimeter_core.proofs.Room.{asks_of, asks_of-append, one_ask}

-- a list without Asks of p, and one with such an Ask
pub asked_some : (p : ℕ) (es : List Entry) → has_ask p es ≡ true → 1 ≤ asks_of p es
asked_some p [] h = absurd cc
asked_some p (Feed c n ∷ es) h = asked_some p es h
asked_some p (Ask q ∷ es) h = at (q == p) h (asked_some p es)
  where
    at : (b : Bool) → (b || has_ask p es) ≡ true → (has_ask p es ≡ true → 1 ≤ asks_of p es) → 1 ≤ (if b then 1 else 0) + asks_of p es
    at true h f = omega arith
    at false h f = omega (arith, f h)

pub none_asked : (p : ℕ) (es : List Entry) → asks_of p es ≡ 0 → has_ask p es ≡ false
none_asked p es h = go (has_ask p es) refl
  where
    go : (b : Bool) → has_ask p es ≡ b → b ≡ false
    go true e = absurd (omega (arith, h, asked_some p es e))
    go false e = refl

-- the worker never asks
pub no_worker : (S : Setting) (es : List Entry) → QueuedInRange S es → has_ask (worker S) es ≡ false
no_worker S [] h = refl
no_worker S (Feed c n ∷ es) h = no_worker S es h.2
no_worker S (Ask q ∷ es) h =
    let other : (q == worker S) ≡ false = grind (arith, nat_tests, h.0) in rw other (no_worker S es h.1)

pub owner_chain_after : (w : ℕ) (s : State) (m : Mark) (p : ℕ) → Can w s m → IdleFirst s m → RightKind m → WaitsNoMore s p → (after s m).own ≡ Out p → has_ask p (after s m).chain ≡ false
owner_chain_after w s (On.Fill q es) p can idle kind i o =
    has_ask-append p s.chain es (i.owner_chain o) (enters_no_ask (On.Fill q es) p kind (λ z. idle.no_owner (rw z o)))
owner_chain_after w s (On.Ask q) p can idle kind i o =
    has_ask-append p s.chain (Ask q ∷ []) (i.owner_chain o) (enters_no_ask (On.Ask q) p kind (λ z. idle.no_owner (rw z o)))
owner_chain_after w s (On.Fast q e) p can idle kind i o = rw can.1 refl
owner_chain_after w s (On.Claim q es) p can idle kind i o = refl
owner_chain_after w s (On.Take q) p can idle kind i o = refl
owner_chain_after w s (On.Leave q rest act) p can idle kind i o = absurd (cc o)
owner_chain_after w s (On.Grant q j rest) p can idle kind i o = absurd (cc o)
owner_chain_after w s (On.Accept j) p can idle kind i o =
    let same : j ≡ p = cc o in (no_ask_split p s.hand s.chain (i.granted (rw same at can))).1
owner_chain_after w s (On.Work q) p can idle kind i o = refl
owner_chain_after w s (On.Close q) p can idle kind i o = i.owner_chain o

abbrev Last : ℕ → List Entry → Type 0
Last p hand = (has_ask p hand ≡ false) ⊎ ((front : List Entry) × (hand ≡ front ++ Ask p ∷ []) × (has_ask p front ≡ false))

pub owner_hand_after : (S : Setting) (s : State) (m : Mark) (p : ℕ) → Can (worker S) s m → IdleFirst s m → RightKind m → QueuedInRange S (queue s) → WaitsNoMore s p → (after s m).own ≡ Out p
    → Last p (after s m).hand
owner_hand_after S s (On.Fill q es) p can idle kind range i o = i.owner_hand o
owner_hand_after S s (On.Ask q) p can idle kind range i o = i.owner_hand o
owner_hand_after S s (On.Close q) p can idle kind range i o = i.owner_hand o
owner_hand_after S s (On.Fast q e) p can idle kind range i o = inl (feeds_no_ask p (e ∷ []) kind)
owner_hand_after S s (On.Claim q es) p can idle kind range i o =
    let same : q ≡ p = cc o in
    let none = rw same at idle.not_in_chain in
    elim kind [
      | inl k ↦ inl (has_ask-append p s.chain es none (feeds_no_ask p es k))
      | inr k ↦ inr (s.chain, rw (k, same) refl, none)
    ]
owner_hand_after S s (On.Take q) p can idle kind range i o = inl (i.owner_chain o)
owner_hand_after S s (On.Leave q rest act) p can idle kind range i o = absurd (cc o)
owner_hand_after S s (On.Grant q j rest) p can idle kind range i o = absurd (cc o)
owner_hand_after S s (On.Accept j) p can idle kind range i o = inl refl
owner_hand_after S s (On.Work q) p can idle kind range i o =
    let same : worker S ≡ p = cc (o, can.2) in inl (rw same at (no_worker S s.chain (range_right S s.hand s.chain range)))

pub no_ask_grown : (s : State) (m : Mark) (p : ℕ) → queue s ++ entries_of m ≡ done_by s m ++ queue (after s m) → has_ask p (queue s) ≡ false → has_ask p (entries_of m) ≡ false
    → has_ask p (queue (after s m)) ≡ false
no_ask_grown s m p e a b = (no_ask_split p (done_by s m) (queue (after s m)) (rw e at (has_ask-append p (queue s) (entries_of m) a b))).1

pub granted_after : (w : ℕ) (s : State) (m : Mark) (p : ℕ) → Can w s m → IdleFirst s m → RightKind m → queue s ++ entries_of m ≡ done_by s m ++ queue (after s m)
    → asks_of p (queue s) ≤ 1 → WaitsNoMore s p → (after s m).own ≡ Granted p → has_ask p (queue (after s m)) ≡ false
granted_after w s (On.Grant q j rest) p can idle kind e one i o =
    let same : j ≡ p = cc o in
    let some = asked_some p (processed rest s.hand) (ends_has p (processed rest s.hand) (rw same at can.2)) in
    let all = asks_of-append p (queue s) [] in
    let parts = ap (asks_of p) e ∙ asks_of-append p (processed rest s.hand) (queue (after s (On.Grant q j rest))) in
    none_asked p (queue (after s (On.Grant q j rest))) (omega (arith, one, some, all, parts))
granted_after w s (On.Fill q es) p can idle kind e one i o =
    let other = enters_no_ask (On.Fill q es) p kind (λ z. idle.not_granted (rw z o)) in
    no_ask_grown s (On.Fill q es) p e (i.granted o) other
granted_after w s (On.Ask q) p can idle kind e one i o =
    let other = enters_no_ask (On.Ask q) p kind (λ z. idle.not_granted (rw z o)) in
    no_ask_grown s (On.Ask q) p e (i.granted o) other
granted_after w s (On.Close q) p can idle kind e one i o = i.granted o
granted_after w s (On.Fast q x) p can idle kind e one i o = absurd (cc o)
granted_after w s (On.Claim q es) p can idle kind e one i o = absurd (cc o)
granted_after w s (On.Take q) p can idle kind e one i o = absurd (cc (can.0, o))
granted_after w s (On.Leave q rest act) p can idle kind e one i o = absurd (cc o)
granted_after w s (On.Accept j) p can idle kind e one i o = absurd (cc o)
granted_after w s (On.Work q) p can idle kind e one i o = absurd (cc o)

pub waits_no_more : (S : Setting) (H : List Element) (p : ℕ) → Legal S H → WaitsNoMore (run S H) p
waits_no_more S H p l =
    legal_ind S (λ (G : List Element). WaitsNoMore (run S G) p)
    (record { owner_chain = λ o. refl; owner_hand = λ o. inl refl; granted = λ o. refl })
    (λ G e k i m.
    let q = queue_after (worker S) (run S G) e.mark m.step (sound S G k) in
    rw (run_push (start S) G e)
    (record {
      owner_chain = owner_chain_after (worker S) (run S G) e.mark p m.step m.idle m.kind i;
      owner_hand = owner_hand_after S (run S G) e.mark p m.step m.idle m.kind (queued_range S G k) i;
      granted = granted_after (worker S) (run S G) e.mark p m.step m.idle m.kind q (one_ask S G p k) i;
    }))
    H l
