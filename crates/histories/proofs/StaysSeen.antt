-- What a step of its ring does to the stays of a connection at one squeue: nothing where it neither came nor left, and else one
-- note more, or one more that has ended.
use Rattle.std.proofs.Common.{◌≡◌, ℕ, ◌+◌, ◌≤◌, ◌==◌, Bool, true, false, if◌then◌else◌, Option, Some, None, is_some, List, [], ◌∷◌, ◌++◌, length, map, refl, ap, sym, ◌∙◌, subst, append_assoc, length-append, arith}
use Rattle.std.proofs.lemmas.List.{append-nil, length-map, map-append}
use Rattle.std.proofs.lemmas.Bool.Decides.{nat_tests}
use Rattle.perimeter_core.specs.declared.entries.Act.{Act}
use Rattle.perimeter_core.specs.declared.marks.SynchAct.TheVariants as Done
use Rattle.perimeter_core.specs.declared.marks.Mark.{Mark}
use Rattle.perimeter_core.specs.declared.marks.Mark.TheVariants as On
use Rattle.perimeter_core.specs.Perimeter.{State, is_here}
use Rattle.perimeter_core.specs.History.{Element, Setting, start, run}
use Rattle.perimeter_core.specs.Deeds.{acts, acts_after, puts_in, reported, takes_out, times_left}
use Rattle.perimeter_core.specs.Legal.{ActsFit, Legal, May}
use Rattle.perimeter_core.proofs.BlocksFollow.{flags}
use Rattle.perimeter_core.proofs.Elsewhere.{taken_between}
use Rattle.perimeter_core.proofs.FeedOrder.{puts_away}
use Rattle.perimeter_core.proofs.OneMore.{legal_front, legal_ind, legal_next, run_push}
use Rattle.perimeter_core.proofs.RingKnows.{here_step}
use Rattle.histories.specs.Elements.{left_by_pass}
use Rattle.histories.specs.Stays.{Stay, Stays, all_in, as_list, begun, longer_by, stays}
use Rattle.histories.proofs.OneSqueue.{fits, in_begins, out_ends, stays_push}
use Rattle.histories.proofs.StaysKept.{at_first}
use Rattle.histories.proofs.Counts.{left_append}

-- the notes of all stays, and what those that have ended had
abbrev pub notes : Stays → List (List Act)
notes v = map (λ (u : Stay). u.note) (all_in v)

abbrev pub hads : Stays → List (List Act)
hads v = map (λ (u : Stay). u.had) v.ended

-- the one and the other are the same of both
abbrev pub AreAlike : Stays → Stays → Type 0
AreAlike v w = (notes w ≡ notes v) × (hads w ≡ hads v)

-- one stay more has ended, which had so much; and one more has begun, with this note
abbrev pub HasEnded : Stays → Stays → List Act → Type 0
HasEnded v w had = (notes w ≡ notes v) × (hads w ≡ hads v ++ had ∷ [])

abbrev pub HasBegun : Stays → Stays → List Act → Type 0
HasBegun v w note = (notes w ≡ notes v ++ note ∷ []) × (hads w ≡ hads v)

pub fewer_ended : (v : Stays) → length (hads v) ≤ length (notes v)
fewer_ended v =
    let a = length-map v.ended (λ (u : Stay). u.had) in
    let b = length-map (v.ended ++ as_list v.now) (λ (u : Stay). u.note) in
    let c = length-append v.ended (as_list v.now) in
    omega (arith, a, b, c)

one_more : (v : Stays) (o : Option Stay) → v.now ≡ o → true ≡ is_some o → length (notes v) ≡ length (hads v) + 1
one_more v None is some = cc some
one_more v (Some u) is some =
    let a = length-map v.ended (λ (u : Stay). u.had) in
    let b = length-map (v.ended ++ as_list v.now) (λ (u : Stay). u.note) in
    let c = length-append v.ended (as_list v.now) in
    let d : length (as_list v.now) ≡ 1 = ap (λ (o : Option Stay). length (as_list o)) is in
    omega (arith, a, b, c, d)

no_more : (v : Stays) (o : Option Stay) → v.now ≡ o → false ≡ is_some o → hads (record { ended = all_in v; now = None }) ≡ hads v
no_more v None is none = ap (λ (o : Option Stay). map (λ (u : Stay). u.had) (v.ended ++ as_list o)) is ∙ ap (map (λ (u : Stay). u.had)) (append-nil v.ended)
no_more v (Some u) is none = cc none

-- where the block is, one stay goes on
pub goes_on_here : (S : Setting) (H : List Element) (c : ℕ) → Legal S H → is_here (run S H) c ≡ true → length (notes (stays S H c)) ≡ length (hads (stays S H c)) + 1
goes_on_here S H c l here = one_more (stays S H c) (stays S H c).now refl (sym here ∙ (fits S c H l).is_now)

-- where the block isn't, all stays have ended
all_ended : (v : Stays) (o : Option Stay) → v.now ≡ o → false ≡ is_some o → length (notes v) ≡ length (hads v)
all_ended v None is none =
    let a = length-map v.ended (λ (u : Stay). u.had) in
    let b = length-map (v.ended ++ as_list v.now) (λ (u : Stay). u.note) in
    let c = length-append v.ended (as_list v.now) in
    let d : length (as_list v.now) ≡ 0 = ap (λ (o : Option Stay). length (as_list o)) is in
    omega (arith, a, b, c, d)
all_ended v (Some u) is none = cc none

pub all_over_away : (S : Setting) (H : List Element) (c : ℕ) → Legal S H → is_here (run S H) c ≡ false → length (notes (stays S H c)) ≡ length (hads (stays S H c))
all_over_away S H c l away = all_ended (stays S H c) (stays S H c).now refl (sym away ∙ (fits S c H l).is_now)

-- a mark that puts nothing in leaves the notes, and one that takes nothing out leaves what the stays that ended had
pub same_note : (past : List Stay) (more had : List Act) (o : Option Stay)
    → map (λ (u : Stay). u.note) (past ++ as_list (longer_by more had o)) ≡ map (λ (u : Stay). u.note) (past ++ as_list o)
same_note past more had None = refl
same_note past more had (Some u) =
    map-append (λ (u : Stay). u.note) past (record { note = u.note; own = u.own ++ more; had = had } ∷ [])
    ∙ sym (map-append (λ (u : Stay). u.note) past (u ∷ []))

notes_after : (a b : Bool) (more had note : List Act) (v : Stays) → a ≡ false
    → notes (if a then record { ended = all_in v; now = Some (begun note) }
    else if b then record { ended = v.ended ++ as_list (longer_by more had v.now); now = None }
    else record { ended = v.ended; now = longer_by more had v.now }) ≡ notes v
notes_after true b more had note v puts = cc puts
notes_after false true more had note v puts =
    ap (map (λ (u : Stay). u.note)) (append-nil (v.ended ++ as_list (longer_by more had v.now))) ∙ same_note v.ended more had v.now
notes_after false false more had note v puts = same_note v.ended more had v.now

hads_after : (a b : Bool) (more had note : List Act) (v : Stays) → a ≡ false → b ≡ false
    → hads (if a then record { ended = all_in v; now = Some (begun note) }
    else if b then record { ended = v.ended ++ as_list (longer_by more had v.now); now = None }
    else record { ended = v.ended; now = longer_by more had v.now }) ≡ hads v
hads_after true b more had note v puts takes = cc puts
hads_after false true more had note v puts takes = cc takes
hads_after false false more had note v puts takes = refl

same_notes : (S : Setting) (H : List Element) (e : Element) (c : ℕ) → puts_in c e.mark ≡ false → notes (stays S (H ++ e ∷ []) c) ≡ notes (stays S H c)
same_notes S H e c puts =
    ap notes (stays_push c (start S) [] (at_first S c) H e)
    ∙ notes_after (puts_in c e.mark) (takes_out c e.mark) (reported c (run S H) e.mark) (acts_after c (run S H) (acts S H c) e) e.note (stays S H c) puts

same_hads : (S : Setting) (H : List Element) (e : Element) (c : ℕ) → puts_in c e.mark ≡ false
    → takes_out c e.mark ≡ false → hads (stays S (H ++ e ∷ []) c) ≡ hads (stays S H c)
same_hads S H e c puts takes =
    ap hads (stays_push c (start S) [] (at_first S c) H e)
    ∙ hads_after (puts_in c e.mark) (takes_out c e.mark) (reported c (run S H) e.mark) (acts_after c (run S H) (acts S H c) e) e.note (stays S H c) puts takes

-- who takes a block out finds it here
pub takes_here : (S : Setting) (H : List Element) (s : State) (m : Mark) (c : ℕ) → ActsFit S H s m → takes_out c m ≡ true → (is_here s c ≡ true) × (puts_in c m ≡ false)
takes_here S H s (On.Leave p rest (Done.Out d)) c f e = let same : d ≡ c = grind (arith, nat_tests, e) in (subst (λ (k : ℕ). is_here s k ≡ true) same f.1, refl)
takes_here S H s (On.Leave p rest (Done.In d)) c f e = absurd cc
takes_here S H s (On.Leave p rest (Done.Call d j k)) c f e = absurd cc
takes_here S H s (On.Leave p rest Done.Away) c f e = absurd cc
takes_here S H s (On.Leave p rest Done.None) c f e = absurd cc
takes_here S H s (On.Fill p es) c f e = absurd cc
takes_here S H s (On.Fast p x) c f e = absurd cc
takes_here S H s (On.Claim p es) c f e = absurd cc
takes_here S H s (On.Take p) c f e = absurd cc
takes_here S H s (On.Ask p) c f e = absurd cc
takes_here S H s (On.Grant p j rest) c f e = absurd cc
takes_here S H s (On.Accept j) c f e = absurd cc
takes_here S H s (On.Work p) c f e = absurd cc
takes_here S H s (On.Close p) c f e = absurd cc

one_longer : (past : List Stay) (more had : List Act) (o : Option Stay) → true ≡ is_some o
    → length (map (λ (u : Stay). u.had) (past ++ as_list (longer_by more had o))) ≡ length (map (λ (u : Stay). u.had) past) + 1
one_longer past more had None some = cc some
one_longer past more had (Some u) some =
    let w : Stay = record { note = u.note; own = u.own ++ more; had = had } in
    let a = length-map (past ++ w ∷ []) (λ (u : Stay). u.had) in
    let b = length-map past (λ (u : Stay). u.had) in
    let c = length-append past (w ∷ []) in
    omega (arith, a, b, c)

ended_after : (a b here : Bool) (more had note : List Act) (v : Stays) (n : ℕ) → here ≡ is_some v.now → (a ≡ true → here ≡ false)
    → (b ≡ true → (here ≡ true) × (a ≡ false)) → length (hads v) ≡ n
    → length (hads (if a then record { ended = all_in v; now = Some (begun note) }
    else if b then record { ended = v.ended ++ as_list (longer_by more had v.now); now = None }
    else record { ended = v.ended; now = longer_by more had v.now })) ≡ n + (if b then 1 else 0)
ended_after true true here more had note v n is puts takes count = let no = (takes refl).1 in cc no
ended_after true false here more had note v n is puts takes count =
    let same = ap length (no_more v v.now refl (sym (puts refl) ∙ is)) in let r : length (hads (record { ended = all_in v; now = None })) ≡ n + 0 = omega (arith, same, count) in r
ended_after false true here more had note v n is puts takes count =
    let one = one_longer v.ended more had v.now (sym (takes refl).0 ∙ is) in omega (arith, one, count)
ended_after false false here more had note v n is puts takes count = omega (arith, count)

-- as many stays have ended as the block was taken out
pub ended_count : (S : Setting) (H : List Element) (c : ℕ) → Legal S H → length (hads (stays S H c)) ≡ times_left c H
ended_count S H c l =
    legal_ind S (λ (G : List Element). length (hads (stays S G c)) ≡ times_left c G) refl
    (λ G e k i m.
    let more = ended_after (puts_in c e.mark) (takes_out c e.mark) (is_here (run S G) c) (reported c (run S G) e.mark) (acts_after c (run S G) (acts S G c) e) e.note
    (stays S G c) (times_left c G) (fits S c G k).is_now (λ puts. (puts_away S G (run S G) e.mark c m.act puts).0) (takes_here S G (run S G) e.mark c m.act) i in
    let step = ap (λ (v : Stays). length (hads v)) (stays_push c (start S) [] (at_first S c) G e) in
    let left : times_left c (G ++ e ∷ []) ≡ times_left c G + ((if takes_out c e.mark then 1 else 0) + 0) = left_append c G (e ∷ []) in
    step ∙ (more ∙ (let z : times_left c G + (if takes_out c e.mark then 1 else 0) ≡ times_left c G + ((if takes_out c e.mark then 1 else 0) + 0) = omega arith in z) ∙ sym left))
    H l

-- Where no Out of c was made, and c is in the end where it was, it neither came nor left
kept_since : (S : Setting) (H K : List Element) (c : ℕ) → Legal S (H ++ K) → times_left c K ≡ 0
    → is_here (run S (H ++ K)) c ≡ is_here (run S H) c → AreAlike (stays S H c) (stays S (H ++ K) c)
kept_since S H [] c l none same = (ap (λ (G : List Element). notes (stays S G c)) (append-nil H), ap (λ (G : List Element). hads (stays S G c)) (append-nil H))
kept_since S H (e ∷ K) c l none same = at (takes_out c e.mark) (puts_in c e.mark) refl refl none (kept_since S (H ++ e ∷ []) K c)
  where
    whole : (H ++ e ∷ []) ++ K ≡ H ++ e ∷ K
    whole = append_assoc H (e ∷ []) K

    may : May S H e
    may = legal_next S H K e l

    step : is_here (run S (H ++ e ∷ [])) c ≡ (if puts_in c e.mark then true else if takes_out c e.mark then false else is_here (run S H) c)
    step = ap (λ (s : State). is_here s c) (run_push (start S) H e) ∙ here_step S (run S H) e.mark c may.range (flags (start S) H)

    legal : Legal S ((H ++ e ∷ []) ++ K)
    legal = subst (Legal S) (sym whole) l

    at : (a b : Bool) → takes_out c e.mark ≡ a → puts_in c e.mark ≡ b → (if a then 1 else 0) + times_left c K ≡ 0
        → (Legal S ((H ++ e ∷ []) ++ K) → times_left c K ≡ 0
        → is_here (run S ((H ++ e ∷ []) ++ K)) c ≡ is_here (run S (H ++ e ∷ [])) c → AreAlike (stays S (H ++ e ∷ []) c) (stays S ((H ++ e ∷ []) ++ K) c))
        → AreAlike (stays S H c) (stays S (H ++ e ∷ K) c)
    at true b takes puts none go = absurd (omega (arith, none))
    at false true takes puts none go =
        let was : is_here (run S H) c ≡ false = (puts_away S H (run S H) e.mark c may.act puts).0 in
        let now : is_here (run S (H ++ e ∷ [])) c ≡ true = step ∙ rw puts refl in
        let out = taken_between S (H ++ e ∷ []) K c legal now (ap (λ (G : List Element). is_here (run S G) c) whole ∙ (same ∙ was)) in
        absurd (omega (arith, none, out))
    at false false takes puts none go =
        let now : is_here (run S (H ++ e ∷ [])) c ≡ is_here (run S H) c = step ∙ rw (puts, takes) refl in
        let rest = go legal (omega (arith, none)) (ap (λ (G : List Element). is_here (run S G) c) whole ∙ (same ∙ sym now)) in (
          ap (λ (G : List Element). notes (stays S G c)) (sym whole) ∙ (rest.0 ∙ same_notes S H e c puts),
          ap (λ (G : List Element). hads (stays S G c)) (sym whole) ∙ (rest.1 ∙ same_hads S H e c puts takes),
        )

pub stays_kept : (S : Setting) (H K G : List Element) (c : ℕ) → G ≡ H ++ K → Legal S G
    → times_left c G ≡ times_left c H → is_here (run S G) c ≡ is_here (run S H) c → AreAlike (stays S H c) (stays S G c)
stays_kept S H K G c is l left same =
    let n = ap (times_left c) (sym is) ∙ left in
    let m = left_append c H K in
    subst (λ (G : List Element). AreAlike (stays S H c) (stays S G c)) (sym is)
    (kept_since S H K c (subst (Legal S) is l) (omega (arith, n, m)) (ap (λ (G : List Element). is_here (run S G) c) (sym is) ∙ same))

-- The first Out of c since H: one stay more has ended, which had all that was ever done to the block
pub one_out : (S : Setting) (H K G : List Element) (p rest c : ℕ) → G ≡ (H ++ K) ++ left_by_pass p rest (Done.Out c) [] ∷ [] → Legal S G
    → times_left c G ≡ times_left c H + 1 → is_here (run S H) c ≡ true → HasEnded (stays S H c) (stays S G c) (acts S G c)
one_out S H K G p rest c is l left here = subst (λ (G : List Element). HasEnded (stays S H c) (stays S G c) (acts S G c)) (sym is) (notes_same, one_had)
  where
    e : Element
    e = left_by_pass p rest (Done.Out c) []

    F : List Element
    F = H ++ K

    legal : Legal S (F ++ e ∷ [])
    legal = subst (Legal S) is l

    counted : times_left c (F ++ e ∷ []) ≡ times_left c F + ((if c == c then 1 else 0) + 0)
    counted = left_append c F (e ∷ [])

    own : (c == c) ≡ true
    own = grind (arith, nat_tests)

    one : times_left c (F ++ e ∷ []) ≡ times_left c F + (1 + 0)
    one = counted ∙ ap (λ (b : Bool). times_left c F + ((if b then 1 else 0) + 0)) own

    front : AreAlike (stays S H c) (stays S F c)
    front =
        let n : times_left c (F ++ e ∷ []) ≡ times_left c H + 1 = ap (times_left c) (sym is) ∙ left in
        stays_kept S H K F c refl (legal_front S F (e ∷ []) legal) (omega (arith, n, one)) ((legal_next S F [] e legal).act.1 ∙ sym here)

    notes_same : notes (stays S (F ++ e ∷ []) c) ≡ notes (stays S H c)
    notes_same = same_notes S F e c refl ∙ front.0

    one_had : hads (stays S (F ++ e ∷ []) c) ≡ hads (stays S H c) ++ acts S (F ++ e ∷ []) c ∷ []
    one_had =
        let o = out_ends S F p rest c legal in
        ap hads o.ends ∙ (map-append (λ (u : Stay). u.had) (stays S F c).ended (o.last ∷ [])
        ∙ (ap (λ (l : List (List Act)). l ++ o.last.had ∷ []) front.1 ∙ ap (λ (a : List Act). hads (stays S H c) ++ a ∷ []) o.has_all))

-- The first In of c since H: one stay more has begun, with its note
pub one_in : (S : Setting) (H K G : List Element) (p rest c : ℕ) (note : List Act) → G ≡ (H ++ K) ++ left_by_pass p rest (Done.In c) note ∷ [] → Legal S G
    → times_left c G ≡ times_left c H → is_here (run S H) c ≡ false → HasBegun (stays S H c) (stays S G c) note
one_in S H K G p rest c note is l left here = subst (λ (G : List Element). HasBegun (stays S H c) (stays S G c) note) (sym is) (one_note, same_had)
  where
    e : Element
    e = left_by_pass p rest (Done.In c) note

    F : List Element
    F = H ++ K

    legal : Legal S (F ++ e ∷ [])
    legal = subst (Legal S) is l

    away : is_here (run S F) c ≡ false
    away = (legal_next S F [] e legal).act.1

    front : AreAlike (stays S H c) (stays S F c)
    front =
        let n : times_left c (F ++ e ∷ []) ≡ times_left c H = ap (times_left c) (sym is) ∙ left in
        let m : times_left c (F ++ e ∷ []) ≡ times_left c F + (0 + 0) = left_append c F (e ∷ []) in
        stays_kept S H K F c refl (legal_front S F (e ∷ []) legal) (omega (arith, n, m)) (away ∙ sym here)

    one_note : notes (stays S (F ++ e ∷ []) c) ≡ notes (stays S H c) ++ note ∷ []
    one_note =
        ap notes (in_begins S F p rest c note) ∙ (map-append (λ (u : Stay). u.note) (all_in (stays S F c)) (begun note ∷ [])
        ∙ ap (λ (l : List (List Act)). l ++ note ∷ []) front.0)

    same_had : hads (stays S (F ++ e ∷ []) c) ≡ hads (stays S H c)
    same_had =
        let v : Stays = stays S F c in
        ap hads (in_begins S F p rest c note) ∙ (no_more v v.now refl (sym away ∙ (fits S c F (legal_front S F (e ∷ []) legal)).is_now) ∙ front.1)
