-- A pass that is idle or asked stays so while others make marks.
use Rattle.std.proofs.Common.{◌≡◌, ◌≢◌, ℕ, ◌-◌, Bool, true, false, ◌==◌, ◌&&◌, ◌⊎◌, inl, inr, List, [], ◌∷◌, ◌++◌, length, take, drop, refl, ap, sym, ◌∙◌, arith}
use Rattle.std.proofs.lemmas.List.{take-append-drop}
use Rattle.std.proofs.lemmas.Bool.{cases_eq, or_parts, or_from, cases_Bool}
use Rattle.std.proofs.lemmas.Bool.Decides.{nat_tests}
use Rattle.perimeter_core.specs.declared.entries.Entry.{Entry}
use Rattle.perimeter_core.specs.declared.entries.Entry.TheVariants.{Feed, Ask}
use Rattle.perimeter_core.specs.declared.marks.Own.TheVariants.{Out, Granted}
use Rattle.perimeter_core.specs.declared.marks.Mark.{Mark}
use Rattle.perimeter_core.specs.declared.marks.Mark.TheVariants as On
use Rattle.perimeter_core.specs.Perimeter.{State, Can, Idle, after, is_empty, has_ask, processed, unprocessed}
use Rattle.perimeter_core.specs.History.{pass_of}
use Rattle.perimeter_core.specs.Deeds.{entries_of, done_by}
use Rattle.perimeter_core.specs.Legal.{RightKind, all_feeds, AsksLast, only_last_ask}
use Rattle.perimeter_core.specs.Backlog.{queue}
use Rattle.perimeter_core.proofs.Sound.{Sound}
use Rattle.perimeter_core.proofs.FeedOrder.{queue_after}
use Rattle.perimeter_core.proofs.BehindAnAsk.{ends_has, has_ask-append}
use Rattle.perimeter_core.proofs.OthersMarks.{closed_kept}

pub no_ask_split : (p : ℕ) (xs ys : List Entry) → has_ask p (xs ++ ys) ≡ false → (has_ask p xs ≡ false) × (has_ask p ys ≡ false)
no_ask_split p [] ys h = (refl, h)
no_ask_split p (Feed c n ∷ xs) ys h = no_ask_split p xs ys h
no_ask_split p (Ask q ∷ xs) ys h =
    let s = or_parts (q == p) (has_ask p (xs ++ ys)) h in
    let r = no_ask_split p xs ys s.1 in (or_from (q == p) (has_ask p xs) s.0 r.0, r.1)

pub feeds_no_ask : (p : ℕ) (es : List Entry) → all_feeds es ≡ true → has_ask p es ≡ false
feeds_no_ask p [] h = refl
feeds_no_ask p (Feed c n ∷ es) h = feeds_no_ask p es h
feeds_no_ask p (Ask q ∷ es) h = absurd cc

other_ask : (q p : ℕ) → q ≢ p → has_ask p (Ask q ∷ []) ≡ false
other_ask q p h = let e : (q == p) ≡ false = grind (arith, nat_tests) in rw e refl

-- nobody asks for another pass
pub enters_no_ask : (m : Mark) (p : ℕ) → RightKind m → pass_of m ≢ p → has_ask p (entries_of m) ≡ false
enters_no_ask (On.Fill q es) p kind ne = feeds_no_ask p es kind
enters_no_ask (On.Fast q e) p kind ne = feeds_no_ask p (e ∷ []) kind
enters_no_ask (On.Claim q es) p kind ne =
    elim kind [ inl k ↦ feeds_no_ask p es k | inr k ↦ let z = other_ask q p ne in rw k z ]
enters_no_ask (On.Ask q) p kind ne = other_ask q p ne
enters_no_ask (On.Take q) p kind ne = refl
enters_no_ask (On.Leave q rest act) p kind ne = refl
enters_no_ask (On.Grant q j rest) p kind ne = refl
enters_no_ask (On.Accept j) p kind ne = refl
enters_no_ask (On.Work q) p kind ne = refl
enters_no_ask (On.Close q) p kind ne = refl

out_other : (w : ℕ) (s : State) (m : Mark) (p : ℕ) → Can w s m → pass_of m ≢ p → s.own ≢ Out p → (after s m).own ≢ Out p
out_other w s (On.Fill q es) p can ne o = o
out_other w s (On.Fast q e) p can ne o = λ z. ne (cc z)
out_other w s (On.Claim q es) p can ne o = λ z. ne (cc z)
out_other w s (On.Take q) p can ne o = o
out_other w s (On.Leave q rest act) p can ne o = λ z. cc z
out_other w s (On.Ask q) p can ne o = o
out_other w s (On.Grant q j rest) p can ne o = λ z. cc z
out_other w s (On.Accept j) p can ne o = λ z. ne (cc z)
out_other w s (On.Work q) p can ne o = λ z. ne (cc z)
out_other w s (On.Close q) p can ne o = o

granted_other : (w : ℕ) (s : State) (m : Mark) (p : ℕ) → Can w s m → has_ask p s.hand ≡ false → s.own ≢ Granted p → (after s m).own ≢ Granted p
granted_other w s (On.Grant q j rest) p can absent o = λ z.
    let same : j ≡ p = cc z in
    let cut : take (length s.hand - rest) s.hand ++ drop (length s.hand - rest) s.hand ≡ s.hand = take-append-drop (length s.hand - rest) s.hand in
    let none = (no_ask_split p (processed rest s.hand) (unprocessed rest s.hand) (rw cut absent)).0 in
    let some = ends_has p (processed rest s.hand) (rw same at can.2) in cc (none, some)
granted_other w s (On.Fill q es) p can absent o = o
granted_other w s (On.Fast q e) p can absent o = λ z. cc z
granted_other w s (On.Claim q es) p can absent o = λ z. cc z
granted_other w s (On.Take q) p can absent o = o
granted_other w s (On.Leave q rest act) p can absent o = λ z. cc z
granted_other w s (On.Ask q) p can absent o = o
granted_other w s (On.Accept j) p can absent o = λ z. cc z
granted_other w s (On.Work q) p can absent o = λ z. cc z
granted_other w s (On.Close q) p can absent o = o

-- A pass that is idle stays so while others make marks
pub idle_kept : (w : ℕ) (s : State) (m : Mark) (p : ℕ) → Can w s m → Sound s → RightKind m → pass_of m ≢ p → Idle s p → Idle (after s m) p
idle_kept w s m p can k kind ne i =
    let q = queue_after w s m can k in
    let before = has_ask-append p (queue s) (entries_of m) (has_ask-append p s.hand s.chain i.not_in_hand i.not_in_chain) (enters_no_ask m p kind ne) in
    let rest = (no_ask_split p (done_by s m) (queue (after s m)) (rw q at before)).1 in
    let parts = no_ask_split p (after s m).hand (after s m).chain rest in
    record {
      open_pass = closed_kept s m p ne ∙ i.open_pass;
      no_owner = out_other w s m p can ne i.no_owner;
      not_granted = granted_other w s m p can i.not_in_hand i.not_granted;
      not_in_hand = parts.0;
      not_in_chain = parts.1;
    }

only_none : (q p : ℕ) (es : List Entry) → only_last_ask q es ≡ true → q ≢ p → has_ask p es ≡ false
only_none q p [] h ne = refl
only_none q p (Feed c n ∷ es) h ne = only_none q p es h ne
only_none q p (Ask r ∷ es) h ne = one (r == q) refl es h
  where
    one : (b : Bool) → (r == q) ≡ b → (es : List Entry) → (b && is_empty es) ≡ true → has_ask p (Ask r ∷ es) ≡ false
    one true e [] h = let o : r ≢ p = λ z. (let f : r ≡ q = grind (arith, nat_tests) in ne (sym f ∙ z)) in other_ask r p o
    one true e (x ∷ es) h = absurd cc
    one false e es h = absurd cc

-- A pass that asked is still queued, or is granted
pub ask_kept : (w : ℕ) (s : State) (m : Mark) (p : ℕ) → Can w s m → Sound s → AsksLast s m → pass_of m ≢ p → has_ask p (queue s) ≡ true
    → (has_ask p (queue (after s m)) ≡ true) ⊎ ((after s m).own ≡ Granted p)
ask_kept w s m p can k last ne h =
    elim (cases_Bool (has_ask p (queue (after s m)))) [
      | inl present ↦ inl present
      | inr absent ↦ inr (granted m can last ne (λ d. clash d absent))
    ]
  where
    clash : has_ask p (done_by s m) ≡ false → has_ask p (queue (after s m)) ≡ false → ⊥
    clash d absent =
        let both = rw (← (queue_after w s m can k)) at (has_ask-append p (done_by s m) (queue (after s m)) d absent) in
        cc (h, (no_ask_split p (queue s) (entries_of m) both).0)

    granted : (m : Mark) → Can w s m → AsksLast s m → pass_of m ≢ p → (has_ask p (done_by s m) ≡ false → ⊥) → (after s m).own ≡ Granted p
    granted (On.Grant q j rest) can last ne f =
        elim (cases_eq j p) [ inl e ↦ ap Granted e | inr o ↦ absurd (f (only_none j p (processed rest s.hand) last o)) ]
    granted (On.Leave q rest act) can last ne f = absurd (f (only_none q p (processed rest s.hand) last ne))
    granted (On.Take q) can last ne f = absurd (f (feeds_no_ask p s.hand last.0))
    granted (On.Fill q es) can last ne f = absurd (f refl)
    granted (On.Fast q e) can last ne f = absurd (f refl)
    granted (On.Claim q es) can last ne f = absurd (f refl)
    granted (On.Ask q) can last ne f = absurd (f refl)
    granted (On.Accept j) can last ne f = absurd (f refl)
    granted (On.Work q) can last ne f = absurd (f refl)
    granted (On.Close q) can last ne f = absurd (f refl)
