-- How many marks a legal history has at most.
use Rattle.std.proofs.Common.{◌≡◌, ◌≢◌, ℕ, zero, suc, ◌+◌, ◌-◌, ◌*◌, ◌<◌, ◌≤◌, Bool, true, false, List, [], ◌∷◌, ◌++◌, length, replicate, slice_index_or, slice_set, refl, ap, ◌∙◌, arith, length-append}
use Rattle.std.proofs.lemmas.List.{length-set, length-take-le, length-replicate}
use Rattle.perimeter_core.specs.declared.entries.Entry.{Entry}
use Rattle.perimeter_core.specs.declared.entries.Entry.TheVariants.{Ask}
use Rattle.perimeter_core.specs.declared.marks.Own.{Own}
use Rattle.perimeter_core.specs.declared.marks.Own.TheVariants.{Free, Out, Granted}
use Rattle.perimeter_core.specs.declared.marks.Mark.{Mark}
use Rattle.perimeter_core.specs.declared.marks.Mark.TheVariants as On
use Rattle.perimeter_core.specs.Perimeter.{State, Can, after, ends_with_ask, processed}
use Rattle.perimeter_core.specs.History.{Element, Setting, worker, passes, start, run, all_quotas}
use Rattle.perimeter_core.specs.Deeds.{entries_of, entered}
use Rattle.perimeter_core.specs.Legal.{Legal, InRange, AsksLast, Progress}
use Rattle.perimeter_core.specs.Backlog.{queue}
use Rattle.perimeter_core.proofs.OneMore.{run_push, entered_push, legal_ind}
use Rattle.perimeter_core.proofs.Sound.{Sound}
use Rattle.perimeter_core.proofs.OrderAndWake.{sound}
use Rattle.perimeter_core.proofs.FeedOrder.{queue_after}
use Rattle.perimeter_core.proofs.Quotas.{entered_within}

-- what is kept in store for the marks to come: four for each queued entry, and these by who has the perimeter
abbrev pub rank : Own → List Entry → ℕ
rank Free hand = 1
rank (Granted j) hand = 3
rank (Out p) [] = 2
rank (Out p) (e ∷ es) = 0

abbrev pub store : State → ℕ
store s = 4 * length (queue s) + rank s.own s.hand

abbrev pub closing : Mark → ℕ
closing (On.Close p) = 1
closing _ = 0

rank_hand : (p : ℕ) (hand : List Entry) → hand ≢ [] → rank (Out p) hand ≡ 0
rank_hand p [] h = absurd (h refl)
rank_hand p (e ∷ es) h = refl

some_length : {A : Type 0} (xs : List A) → xs ≢ [] → 1 ≤ length xs
some_length [] h = absurd (h refl)
some_length (x ∷ xs) h = omega arith

lengths : (q es d q' : List Entry) → q ++ es ≡ d ++ q' → length q + length es ≡ length d + length q'
lengths q es d q' h = omega (arith, length-append q es, length-append d q', ap length h)

nonempty_append : {A : Type 0} (xs ys : List A) → ys ≢ [] → xs ++ ys ≢ []
nonempty_append [] ys h = h
nonempty_append (x ∷ xs) ys h = λ z. cc

ends_some : (j : ℕ) (es : List Entry) → ends_with_ask j es ≡ true → 1 ≤ length es
ends_some j [] h = absurd cc
ends_some j (e ∷ es) h = omega arith

length_processed : (rest : ℕ) (hand : List Entry) → length (processed rest hand) ≡ length hand - rest
length_processed rest hand = length-take-le (length hand - rest) hand (omega arith)

processed_nil : (rest : ℕ) (hand : List Entry) → 1 ≤ length (processed rest hand) → hand ≢ []
processed_nil rest [] h = absurd (omega (arith, h, length_processed rest []))
processed_nil rest (e ∷ es) h = λ z. cc

leave_pays : (p rest q q' : ℕ) (hand : List Entry) → rest ≤ length hand → (hand ≢ [] → rest < length hand) → q + 0 ≡ length (processed rest hand) + q'
    → 1 + (4 * q' + 1) ≤ 4 * q + rank (Out p) hand
leave_pays p rest q q' [] le pro h = omega arith
leave_pays p rest q q' (e ∷ es) le pro h =
    let lt = pro (λ z. cc) in let n = length_processed rest (e ∷ es) in omega (arith, lt, n, h)

wake_some : (s : State) → Sound s → s.own ≡ Free → s.wake ≡ true → s.chain ≢ []
wake_some s k o h = λ z. cc (h, rw (o, z) at k.wake)

pub pays : (w : ℕ) (s : State) (m : Mark) → Can w s m → Sound s → AsksLast s m → Progress s m
    → 1 + store (after s m) ≤ store s + 5 * length (entries_of m) + closing m
pays w s (On.Fill p es) can k last pro =
    let n = lengths (queue s) es [] (queue (after s (On.Fill p es))) (queue_after w s (On.Fill p es) can k) in
    let one = some_length es can in omega (arith, n, one)
pays w s (On.Fast p e) can k last pro =
    let n = lengths (queue s) (e ∷ []) [] (queue (after s (On.Fast p e))) (queue_after w s (On.Fast p e) can k) in
    rw can.0 (omega (arith, n))
pays w s (On.Claim p es) can k last pro =
    let n = lengths (queue s) es [] (queue (after s (On.Claim p es))) (queue_after w s (On.Claim p es) can k) in
    let one = some_length es can.1 in
    rw (can.0, rank_hand p (s.chain ++ es) (nonempty_append s.chain es can.1)) (omega (arith, n, one))
pays w s (On.Take p) can k last pro =
    let n = lengths (queue s) [] s.hand (queue (after s (On.Take p))) (queue_after w s (On.Take p) can k) in
    let one = some_length s.hand last.1 in
    rw (can.0, rank_hand p s.chain can.1) (omega (arith, n, one))
pays w s (On.Leave p rest act) can k last pro =
    let n = lengths (queue s) [] (processed rest s.hand) (queue (after s (On.Leave p rest act))) (queue_after w s (On.Leave p rest act) can k) in
    rw can.0 (let r = leave_pays p rest (length (queue s)) (length (queue (after s (On.Leave p rest act)))) s.hand can.1 pro n in omega (arith, r))
pays w s (On.Ask p) can k last pro =
    let n = lengths (queue s) (Ask p ∷ []) [] (queue (after s (On.Ask p))) (queue_after w s (On.Ask p) can k) in omega (arith, n)
pays w s (On.Grant p j rest) can k last pro =
    let n = lengths (queue s) [] (processed rest s.hand) (queue (after s (On.Grant p j rest))) (queue_after w s (On.Grant p j rest) can k) in
    let one = ends_some j (processed rest s.hand) can.2 in
    rw (can.0, rank_hand p s.hand (processed_nil rest s.hand one)) (omega (arith, n, one))
pays w s (On.Accept j) can k last pro =
    let n = lengths (queue s) [] [] (queue (after s (On.Accept j))) (queue_after w s (On.Accept j) can k) in
    rw can (omega (arith, n))
pays w s (On.Work p) can k last pro =
    let n = lengths (queue s) [] [] (queue (after s (On.Work p))) (queue_after w s (On.Work p) can k) in
    rw (can.0, rank_hand p s.chain (wake_some s k can.0 can.1)) (omega (arith, n))
pays w s (On.Close p) can k last pro = omega arith

-- how many marks are Close
abbrev pub closes : List Element → ℕ
closes [] = 0
closes (e ∷ H) = closing e.mark + closes H

closes_push : (H : List Element) (e : Element) → closes (H ++ e ∷ []) ≡ closes H + closing e.mark
closes_push [] e = omega arith
closes_push (x ∷ H) e = omega (arith, closes_push H e)

pub length_paid : (S : Setting) (H : List Element) → Legal S H → length H + store (run S H) ≤ 5 * length (entered H) + closes H + 1
length_paid S H l =
    legal_ind S (λ (G : List Element). length G + store (run S G) ≤ 5 * length (entered G) + closes G + 1) (omega arith)
    (λ G e k i m.
    rw (run_push (start S) G e, entered_push G e)
    (let p = pays (worker S) (run S G) e.mark m.step (sound S G k) m.asks_last m.progress in
    omega (arith, i, p, length-append G (e ∷ []), length-append (entered G) (entries_of e.mark), closes_push G e)))
    H l

-- each pass is closed once
abbrev pub trues : List Bool → ℕ
trues [] = 0
trues (true ∷ bs) = 1 + trues bs
trues (false ∷ bs) = trues bs

trues_le : (bs : List Bool) → trues bs ≤ length bs
trues_le [] = omega arith
trues_le (true ∷ bs) = omega (arith, trues_le bs)
trues_le (false ∷ bs) = omega (arith, trues_le bs)

trues_set : (bs : List Bool) (p : ℕ) → slice_index_or bs p false ≡ false → p < length bs → trues (slice_set bs p true) ≡ trues bs + 1
trues_set [] p h lt = absurd (omega arith)
trues_set (true ∷ bs) zero h lt = absurd cc
trues_set (false ∷ bs) zero h lt = omega arith
trues_set (true ∷ bs) (suc p) h lt = omega (arith, trues_set bs p h (omega arith))
trues_set (false ∷ bs) (suc p) h lt = trues_set bs p h (omega arith)

trues_none : (n : ℕ) → trues (replicate n false) ≡ 0
trues_none zero = refl
trues_none (suc n) = trues_none n

record Shut (S : Setting) (n : ℕ) (s : State) : Type 0 where
  flags : length s.closed ≡ passes S
  shut : trues s.closed ≡ n

shut_after : (S : Setting) (n w : ℕ) (s : State) (m : Mark) → Can w s m → InRange S m → Shut S n s → Shut S (n + closing m) (after s m)
shut_after S n w s (On.Close p) can range i =
    record { flags = length-set s.closed p true ∙ i.flags; shut = trues_set s.closed p can.open_pass (rw i.flags range.0) ∙ ap (λ x. x + 1) i.shut }
shut_after S n w s (On.Fill p es) can range i = record { flags = i.flags; shut = omega (arith, i.shut) }
shut_after S n w s (On.Fast p e) can range i = record { flags = i.flags; shut = omega (arith, i.shut) }
shut_after S n w s (On.Claim p es) can range i = record { flags = i.flags; shut = omega (arith, i.shut) }
shut_after S n w s (On.Take p) can range i = record { flags = i.flags; shut = omega (arith, i.shut) }
shut_after S n w s (On.Leave p rest act) can range i = record { flags = i.flags; shut = omega (arith, i.shut) }
shut_after S n w s (On.Ask p) can range i = record { flags = i.flags; shut = omega (arith, i.shut) }
shut_after S n w s (On.Grant p j rest) can range i = record { flags = i.flags; shut = omega (arith, i.shut) }
shut_after S n w s (On.Accept j) can range i = record { flags = i.flags; shut = omega (arith, i.shut) }
shut_after S n w s (On.Work p) can range i = record { flags = i.flags; shut = omega (arith, i.shut) }

shut : (S : Setting) (H : List Element) → Legal S H → Shut S (closes H) (run S H)
shut S H l =
    legal_ind S (λ (G : List Element). Shut S (closes G) (run S G))
    (record { flags = length-replicate (passes S) false; shut = trues_none (passes S) })
    (λ G e k i m. rw (run_push (start S) G e, closes_push G e) (shut_after S (closes G) (worker S) (run S G) e.mark m.step m.range i))
    H l

pub closed_flags : (S : Setting) (H : List Element) → Legal S H → length (run S H).closed ≡ passes S
closed_flags S H l = (shut S H l).flags

pub closes_le : (S : Setting) (H : List Element) → Legal S H → closes H ≤ passes S
closes_le S H l = let i = shut S H l in omega (arith, i.flags, i.shut, trues_le (run S H).closed)

pub bounded : (S : Setting) (H : List Element) → Legal S H → length H ≤ 5 * all_quotas S.quotas + passes S + 1
bounded S H l = omega (arith, length_paid S H l, closes_le S H l, entered_within S H l)

pub length_bounded : (S : Setting) (H : List Element) → Legal S H → length H ≤ 8 * all_quotas S.quotas + 4 * passes S
length_bounded S H l = omega (arith, bounded S H l)
