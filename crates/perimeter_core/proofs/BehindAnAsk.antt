-- Nothing of a ring's connections stands behind the ring's Ask.
use Rattle.std.proofs.Common.{◌≡◌, ◌≢◌, ℕ, ◌%◌, Bool, true, false, if◌then◌else◌, ◌==◌, ◌||◌, inl, inr, List, [], ◌∷◌, ◌++◌, refl, sym, ◌∙◌}
use Rattle.std.proofs.lemmas.List.{append-nil}
use Rattle.std.proofs.lemmas.Bool.{cases_eq, or_right}
use Rattle.perimeter_core.specs.declared.entries.Entry.{Entry}
use Rattle.perimeter_core.specs.declared.entries.Entry.TheVariants.{Feed, Ask}
use Rattle.perimeter_core.specs.declared.marks.Own.TheVariants.{Out, Granted}
use Rattle.perimeter_core.specs.declared.marks.Mark.{Mark}
use Rattle.perimeter_core.specs.declared.marks.Mark.TheVariants as On
use Rattle.perimeter_core.specs.Perimeter.{State, Can, Idle, after, has_ask, ends_with_ask, processed}
use Rattle.perimeter_core.specs.History.{Element, Setting, worker, start, run, pass_of}
use Rattle.perimeter_core.specs.Deeds.{entries_of, done_by, feeds_of, due}
use Rattle.perimeter_core.specs.Legal.{Legal, Enters, IdleFirst, RightKind, all_feeds}
use Rattle.perimeter_core.specs.Backlog.{queue, behind, NoneBehind}
use Rattle.perimeter_core.proofs.OneMore.{run_push, legal_ind}
use Rattle.perimeter_core.proofs.Sound.{Sound}
use Rattle.perimeter_core.proofs.OrderAndWake.{sound}
use Rattle.perimeter_core.proofs.FeedLists.{nil_right, no_feeds_right, no_feeds_both, enters_own}
use Rattle.perimeter_core.proofs.FeedOrder.{queue_after}

tail_nil : (b : Bool) (n : ℕ) (fs : List ℕ) → (if b then n ∷ fs else fs) ≡ [] → fs ≡ []
tail_nil true n fs h = absurd cc
tail_nil false n fs h = h

either_nil : (c : ℕ) (b : Bool) (xs ys : List Entry) → feeds_of c xs ≡ [] → feeds_of c ys ≡ [] → feeds_of c (if b then xs else ys) ≡ []
either_nil c true xs ys h k = h
either_nil c false xs ys h k = k

pub behind_sub : (c r : ℕ) (es : List Entry) → feeds_of c es ≡ [] → feeds_of c (behind r es) ≡ []
behind_sub c r [] h = refl
behind_sub c r (Feed d n ∷ es) h = behind_sub c r es (tail_nil (d == c) n (feeds_of c es) h)
behind_sub c r (Ask p ∷ es) h = either_nil c (p == r) es (behind r es) h (behind_sub c r es h)

grow_at : (c : ℕ) (b : Bool) (q es rest rest' : List Entry) → feeds_of c (if b then q else rest) ≡ [] → feeds_of c es ≡ []
    → (feeds_of c rest ≡ [] → feeds_of c rest' ≡ []) → feeds_of c (if b then q ++ es else rest') ≡ []
grow_at c true q es rest rest' h k f = no_feeds_both c q es h k
grow_at c false q es rest rest' h k f = f h

pub behind_grow : (c r : ℕ) (q es : List Entry) → feeds_of c (behind r q) ≡ [] → feeds_of c es ≡ [] → feeds_of c (behind r (q ++ es)) ≡ []
behind_grow c r [] es h k = behind_sub c r es k
behind_grow c r (Feed d n ∷ q) es h k = behind_grow c r q es h k
behind_grow c r (Ask p ∷ q) es h k = grow_at c (p == r) q es (behind r q) (behind r (q ++ es)) h k (λ z. behind_grow c r q es z k)

drop_at' : (c r : ℕ) (b : Bool) (xs ys : List Entry) → feeds_of c (if b then xs ++ ys else behind r (xs ++ ys)) ≡ []
    → (feeds_of c (behind r (xs ++ ys)) ≡ [] → feeds_of c (behind r ys) ≡ []) → feeds_of c (behind r ys) ≡ []
drop_at' c r true xs ys h f = behind_sub c r ys (no_feeds_right c xs ys h)
drop_at' c r false xs ys h f = f h

pub behind_drop : (c r : ℕ) (xs ys : List Entry) → feeds_of c (behind r (xs ++ ys)) ≡ [] → feeds_of c (behind r ys) ≡ []
behind_drop c r [] ys h = h
behind_drop c r (Feed d n ∷ xs) ys h = behind_drop c r xs ys h
behind_drop c r (Ask p ∷ xs) ys h = drop_at' c r (p == r) xs ys h (λ z. behind_drop c r xs ys z)

has_at : (c r : ℕ) (b : Bool) (xs ys : List Entry) → (b || has_ask r xs) ≡ true → feeds_of c (if b then xs ++ ys else behind r (xs ++ ys)) ≡ []
    → (has_ask r xs ≡ true → feeds_of c (behind r (xs ++ ys)) ≡ [] → feeds_of c ys ≡ []) → feeds_of c ys ≡ []
has_at c r true xs ys a h f = no_feeds_right c xs ys h
has_at c r false xs ys a h f = f a h

-- what stands behind a list with the Ask
pub behind_has : (c r : ℕ) (xs ys : List Entry) → has_ask r xs ≡ true → feeds_of c (behind r (xs ++ ys)) ≡ [] → feeds_of c ys ≡ []
behind_has c r [] ys a h = absurd cc
behind_has c r (Feed d n ∷ xs) ys a h = behind_has c r xs ys a h
behind_has c r (Ask p ∷ xs) ys a h = has_at c r (p == r) xs ys a h (λ a' h'. behind_has c r xs ys a' h')

or_left : (a : Bool) → a ≡ true → (a || false) ≡ true
or_left true h = refl
or_left false h = h

pub ends_has : (r : ℕ) (xs : List Entry) → ends_with_ask r xs ≡ true → has_ask r xs ≡ true
ends_has r [] h = absurd cc
ends_has r (Feed d n ∷ xs) h = ends_has r xs h
ends_has r (Ask p ∷ []) h = or_left (p == r) h
ends_has r (Ask p ∷ x ∷ xs) h = or_right (p == r) (has_ask r (x ∷ xs)) (ends_has r (x ∷ xs) h)

none_at : (b : Bool) (r : ℕ) (q es : List Entry) → (b || has_ask r q) ≡ false → (has_ask r q ≡ false → behind r (q ++ es) ≡ behind r es)
    → (if b then q ++ es else behind r (q ++ es)) ≡ behind r es
none_at true r q es h f = absurd cc
none_at false r q es h f = f h

pub behind_none : (r : ℕ) (q es : List Entry) → has_ask r q ≡ false → behind r (q ++ es) ≡ behind r es
behind_none r [] es h = refl
behind_none r (Feed d n ∷ q) es h = behind_none r q es h
behind_none r (Ask p ∷ q) es h = none_at (p == r) r q es h (λ z. behind_none r q es z)

behind_feeds : (r : ℕ) (es : List Entry) → all_feeds es ≡ true → behind r es ≡ []
behind_feeds r [] h = refl
behind_feeds r (Feed d n ∷ es) h = behind_feeds r es h
behind_feeds r (Ask p ∷ es) h = absurd cc

behind_own : (b : Bool) (es : List Entry) → (if b then es else es) ≡ es
behind_own true es = refl
behind_own false es = refl

pub has_ask-append : (r : ℕ) (xs ys : List Entry) → has_ask r xs ≡ false → has_ask r ys ≡ false → has_ask r (xs ++ ys) ≡ false
has_ask-append r [] ys h k = k
has_ask-append r (Feed c n ∷ xs) ys h k = has_ask-append r xs ys h k
has_ask-append r (Ask p ∷ xs) ys h k = or_false (p == r) (has_ask r xs) (has_ask r (xs ++ ys)) h (λ z. has_ask-append r xs ys z k)
  where
    or_false : (a b d : Bool) → (a || b) ≡ false → (b ≡ false → d ≡ false) → (a || d) ≡ false
    or_false true b d h f = absurd cc
    or_false false b d h f = f h

not_asked : (s : State) (p r : ℕ) → p ≡ r → Idle s p → has_ask r (queue s) ≡ false
not_asked s p r is idle = has_ask-append r s.hand s.chain (rw is at idle.not_in_hand) (rw is at idle.not_in_chain)

-- a ring enters nothing behind its own Ask
own_grow : (s : State) (m : Mark) (r c : ℕ) → pass_of m ≡ r → IdleFirst s m → RightKind m → feeds_of c (behind r (queue s)) ≡ [] → feeds_of c (behind r (queue s ++ entries_of m)) ≡ []
own_grow s (On.Fill p es) r c is idle kind h = let a = not_asked s p r is idle in rw (behind_none r (queue s) es a, behind_feeds r es kind) refl
own_grow s (On.Fast p e) r c is idle kind h = let a = not_asked s p r is idle in rw (behind_none r (queue s) (e ∷ []) a, behind_feeds r (e ∷ []) kind) refl
own_grow s (On.Claim p es) r c is idle kind h =
    let a = not_asked s p r is idle in
    rw (behind_none r (queue s) es a)
    (elim kind [ inl k ↦ rw (behind_feeds r es k) refl | inr k ↦ rw (k, behind_own (p == r) []) refl ])
own_grow s (On.Ask p) r c is idle kind h =
    let a = not_asked s p r is idle in rw (behind_none r (queue s) (Ask p ∷ []) a, behind_own (p == r) []) refl
own_grow s (On.Take p) r c is idle kind h = rw append-nil h
own_grow s (On.Leave p rest act) r c is idle kind h = rw append-nil h
own_grow s (On.Grant p j rest) r c is idle kind h = rw append-nil h
own_grow s (On.Accept j) r c is idle kind h = rw append-nil h
own_grow s (On.Work p) r c is idle kind h = rw append-nil h
own_grow s (On.Close p) r c is idle kind h = rw append-nil h

grow : (S : Setting) (s : State) (m : Mark) (next : ℕ → ℕ) (r c : ℕ) → r ≡ c % S.rings → IdleFirst s m → RightKind m
    → Enters S s (pass_of m) next (entries_of m) → feeds_of c (behind r (queue s)) ≡ [] → feeds_of c (behind r (queue s ++ entries_of m)) ≡ []
grow S s m next r c ring idle kind enters h =
    elim (cases_eq (pass_of m) r) [
      | inl e ↦ own_grow s m r c e idle kind h
      | inr e ↦ behind_grow c r (queue s) (entries_of m) h (enters_own S s (pass_of m) c next (entries_of m) enters (λ z. e (z ∙ sym ring)))
    ]

-- while nothing of c is queued and another pass enters, nothing of c is queued
quiet : (S : Setting) (s : State) (m : Mark) (next : ℕ → ℕ) (r c : ℕ) → r ≡ c % S.rings → Enters S s (pass_of m) next (entries_of m)
    → queue s ++ entries_of m ≡ done_by s m ++ queue (after s m) → pass_of m ≢ r → feeds_of c (queue s) ≡ [] → feeds_of c (queue (after s m)) ≡ []
quiet S s m next r c ring enters q other h =
    let all = no_feeds_both c (queue s) (entries_of m) h (enters_own S s (pass_of m) c next (entries_of m) enters (λ z. other (z ∙ sym ring))) in
    no_feeds_right c (done_by s m) (queue (after s m)) (rw q at all)

-- a mark that enters nothing
quiet_none : (s : State) (m : Mark) (c : ℕ) → entries_of m ≡ []
    → queue s ++ entries_of m ≡ done_by s m ++ queue (after s m) → feeds_of c (queue s) ≡ [] → feeds_of c (queue (after s m)) ≡ []
quiet_none s m c none q h =
    no_feeds_right c (done_by s m) (queue (after s m)) (rw (← q, none, append-nil) h)

granted_after : (S : Setting) (w : ℕ) (s : State) (m : Mark) (next : ℕ → ℕ) (r c : ℕ) → r ≡ c % S.rings → Can w s m → IdleFirst s m
    → Enters S s (pass_of m) next (entries_of m) → queue s ++ entries_of m ≡ done_by s m ++ queue (after s m)
    → feeds_of c (behind r (done_by s m ++ queue (after s m))) ≡ [] → NoneBehind s r c → (after s m).own ≡ Granted r → feeds_of c (queue (after s m)) ≡ []
granted_after S w s (On.Fill p es) next r c ring can idle enters q b i o =
    quiet S s (On.Fill p es) next r c ring enters q (λ z. idle.not_granted (rw z o)) (i.granted o)
granted_after S w s (On.Ask p) next r c ring can idle enters q b i o =
    quiet S s (On.Ask p) next r c ring enters q (λ z. idle.not_granted (rw z o)) (i.granted o)
granted_after S w s (On.Close p) next r c ring can idle enters q b i o = quiet_none s (On.Close p) c refl q (i.granted o)
granted_after S w s (On.Grant p j rest) next r c ring can idle enters q b i o =
    let same : j ≡ r = cc in behind_has c r (processed rest s.hand) (queue (after s (On.Grant p j rest))) (ends_has r (processed rest s.hand) (rw same at can.2)) b
granted_after S w s (On.Take p) next r c ring can idle enters q b i o = absurd (cc (can.0, o))
granted_after S w s (On.Fast p e) next r c ring can idle enters q b i o = absurd (cc o)
granted_after S w s (On.Claim p es) next r c ring can idle enters q b i o = absurd (cc o)
granted_after S w s (On.Leave p rest act) next r c ring can idle enters q b i o = absurd (cc o)
granted_after S w s (On.Accept j) next r c ring can idle enters q b i o = absurd (cc o)
granted_after S w s (On.Work p) next r c ring can idle enters q b i o = absurd (cc o)

owner_after : (S : Setting) (w : ℕ) (s : State) (m : Mark) (next : ℕ → ℕ) (r c : ℕ) → r ≡ c % S.rings → Can w s m → Sound s → IdleFirst s m
    → Enters S s (pass_of m) next (entries_of m) → queue s ++ entries_of m ≡ done_by s m ++ queue (after s m)
    → NoneBehind s r c → (after s m).own ≡ Out r → (after s m).hand ≡ [] → feeds_of c (queue (after s m)) ≡ []
owner_after S w s (On.Fill p es) next r c ring can k idle enters q i o h =
    quiet S s (On.Fill p es) next r c ring enters q (λ z. idle.no_owner (rw z o)) (i.owner o h)
owner_after S w s (On.Ask p) next r c ring can k idle enters q i o h =
    quiet S s (On.Ask p) next r c ring enters q (λ z. idle.no_owner (rw z o)) (i.owner o h)
owner_after S w s (On.Close p) next r c ring can k idle enters q i o h = quiet_none s (On.Close p) c refl q (i.owner o h)
owner_after S w s (On.Accept j) next r c ring can k idle enters q i o h =
    let same : j ≡ r = cc (o) in quiet_none s (On.Accept j) c refl q (i.granted (rw same at can))
owner_after S w s (On.Take p) next r c ring can k idle enters q i o h = absurd (can.1 h)
owner_after S w s (On.Fast p e) next r c ring can k idle enters q i o h = absurd (cc h)
owner_after S w s (On.Claim p es) next r c ring can k idle enters q i o h = absurd (can.1 (nil_right s.chain es h))
owner_after S w s (On.Leave p rest act) next r c ring can k idle enters q i o h = absurd (cc o)
owner_after S w s (On.Grant p j rest) next r c ring can k idle enters q i o h = absurd (cc o)
owner_after S w s (On.Work p) next r c ring can k idle enters q i o h = absurd (cc (can.1, rw (can.0, h) at k.wake))

pub none_behind_after : (S : Setting) (w : ℕ) (s : State) (m : Mark) (next : ℕ → ℕ) (r c : ℕ) → r ≡ c % S.rings → Can w s m → Sound s → IdleFirst s m → RightKind m
    → Enters S s (pass_of m) next (entries_of m) → NoneBehind s r c → NoneBehind (after s m) r c
none_behind_after S w s m next r c ring can k idle kind enters i =
    let q = queue_after w s m can k in
    let b = rw q at (grow S s m next r c ring idle kind enters i.asked) in
    record {
      asked = behind_drop c r (done_by s m) (queue (after s m)) b;
      granted = granted_after S w s m next r c ring can idle enters q b i;
      owner = owner_after S w s m next r c ring can k idle enters q i;
    }

pub none_behind : (S : Setting) (H : List Element) (r c : ℕ) → Legal S H → r ≡ c % S.rings → NoneBehind (run S H) r c
none_behind S H r c l ring =
    legal_ind S (λ (G : List Element). NoneBehind (run S G) r c) (record { asked = refl; granted = λ o. refl; owner = λ o h. refl })
    (λ G e k i m.
    rw (run_push (start S) G e)
    (none_behind_after S (worker S) (run S G) e.mark (due G) r c ring m.step (sound S G k) m.idle m.kind m.enters i))
    H l
