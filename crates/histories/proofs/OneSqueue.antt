-- The stays at one squeue by its history.
use Rattle.std.proofs.Common.{◌≡◌, ℕ, zero, suc, Bool, true, false, if◌then◌else◌, ◌==◌, Option, Some, None, is_some, List, [], ◌∷◌, ◌++◌, length, refl, ap, sym, ◌∙◌, append_assoc, arith}
use Rattle.std.proofs.lemmas.List.{append-nil}
use Rattle.std.specs.Prelude.{slice_get}
use Rattle.std.proofs.lemmas.Bool.Decides.{nat_tests}
use Rattle.perimeter_core.specs.declared.entries.Act.{Act}
use Rattle.perimeter_core.specs.declared.marks.SynchAct.TheVariants as Done
use Rattle.perimeter_core.specs.Perimeter.{State, after, is_here}
use Rattle.perimeter_core.specs.History.{Element, Setting, start, run, run_from}
use Rattle.perimeter_core.specs.Deeds.{acts, acts_from, acts_after, reported, puts_in, takes_out}
use Rattle.perimeter_core.specs.Legal.{Legal}
use Rattle.perimeter_core.proofs.OneMore.{run_push, legal_ind, legal_front, legal_next}
use Rattle.perimeter_core.proofs.BlocksFollow.{acts_push, flags}
use Rattle.perimeter_core.proofs.RingKnows.{here_step}
use Rattle.histories.specs.Elements.{left_by_pass}
use Rattle.histories.specs.Stays.{Stay, Stays, as_list, all_in, begun, longer_by, stays_after, stays_from, stays, EndsAStay}

pub stays_push : (c : ℕ) (s : State) (had : List Act) (v : Stays) (H : List Element) (e : Element) → stays_from c s had v (H ++ e ∷ []) ≡ stays_after c (run_from s H) (acts_from c s had H) (stays_from c s had v H) e
stays_push c s had v [] e = refl
stays_push c s had v (x ∷ H) e = stays_push c (after s x.mark) (acts_after c s had x) (stays_after c s had v x) H e

-- all that the block had is what it came with and what was done here
abbrev pub IsSound : Stay → Type 0
IsSound v = v.had ≡ v.note ++ v.own

abbrev pub AreSound : List Stay → Type 0
AreSound [] = Unit {0}
AreSound (v ∷ vs) = IsSound v × AreSound vs

-- the stay that goes on has what the history says
abbrev pub GoesOnWith : List Act → Option Stay → Type 0
GoesOnWith had None = Unit {0}
GoesOnWith had (Some v) = (v.had ≡ had) × IsSound v

pub record Fits (here : Bool) (had : List Act) (v : Stays) : Type 0 where
  pub is_now : here ≡ is_some v.now
  pub now_had : GoesOnWith had v.now
  pub past : AreSound v.ended

sound_both : (vs ws : List Stay) → AreSound vs → AreSound ws → AreSound (vs ++ ws)
sound_both [] ws a b = b
sound_both (v ∷ vs) ws a b = (a.0, sound_both vs ws a.1 b)

sound_now : (had : List Act) (o : Option Stay) → GoesOnWith had o → AreSound (as_list o)
sound_now had None h = tt
sound_now had (Some v) h = (h.1, tt)

pub all_sound : {here : Bool} {had : List Act} {v : Stays} → Fits here had v → AreSound (all_in v)
all_sound {here} {had} {v} f = sound_both v.ended (as_list v.now) f.past (sound_now had v.now f.now_had)

grown : (had more : List Act) (o : Option Stay) → GoesOnWith had o → GoesOnWith (had ++ more) (longer_by more (had ++ more) o)
grown had more None h = tt
grown had more (Some v) h = (refl, ap (λ (xs : List Act). xs ++ more) (sym h.0 ∙ h.1) ∙ append_assoc v.note v.own more)

still : (more had : List Act) (o : Option Stay) → is_some (longer_by more had o) ≡ is_some o
still more had None = refl
still more had (Some v) = refl

fits_after : (a b here : Bool) (had more note : List Act) (v : Stays) → Fits here had v
    → Fits (if a then true else if b then false else here) (if a then note else had ++ more)
    (if a then record { ended = all_in v; now = Some (begun note) }
    else if b then record { ended = v.ended ++ as_list (longer_by more (if a then note else had ++ more) v.now); now = None }
    else record { ended = v.ended; now = longer_by more (if a then note else had ++ more) v.now })
fits_after true b here had more note v f = record { is_now = refl; now_had = (refl, sym (append-nil note)); past = all_sound f }
fits_after false true here had more note v f =
    record { is_now = refl; now_had = tt; past = sound_both v.ended (as_list (longer_by more (had ++ more) v.now)) f.past (sound_now (had ++ more) (longer_by more (had ++ more) v.now) (grown had more v.now f.now_had)) }
fits_after false false here had more note v f = record { is_now = f.is_now ∙ sym (still more (had ++ more) v.now); now_had = grown had more v.now f.now_had; past = f.past }

fits_start : (b : Bool) → Fits b [] record { ended = []; now = if b then Some (begun []) else None }
fits_start true = record { is_now = refl; now_had = (refl, refl); past = tt }
fits_start false = record { is_now = refl; now_had = tt; past = tt }

-- the stays of a legal history are those of its block
pub fits : (S : Setting) (c : ℕ) (H : List Element) → Legal S H → Fits (is_here (run S H) c) (acts S H c) (stays S H c)
fits S c H l =
    legal_ind S (λ (G : List Element). Fits (is_here (run S G) c) (acts S G c) (stays S G c)) (fits_start (is_here (start S) c))
    (λ G e k i m.
    rw (run_push (start S) G e, acts_push c (start S) [] G e, stays_push c (start S) [] record { ended = []; now = if is_here (start S) c then Some (begun []) else None } G e, here_step S (run S G) e.mark c m.range (flags (start S) G))
    (fits_after (puts_in c e.mark) (takes_out c e.mark) (is_here (run S G) c) (acts S G c) (reported c (run S G) e.mark) e.note (stays S G c) i))
    H l

-- the first stay, if there is one from the start, came with nothing
abbrev pub BeginsWithNothing : List Stay → Type 0
BeginsWithNothing [] = ⊥
BeginsWithNothing (v ∷ vs) = v.note ≡ []

begins_both : (vs ws : List Stay) → BeginsWithNothing vs → BeginsWithNothing (vs ++ ws)
begins_both [] ws h = absurd h
begins_both (v ∷ vs) ws h = h

begins_grown : (vs : List Stay) (more had : List Act) (o : Option Stay) → BeginsWithNothing (vs ++ as_list o) → BeginsWithNothing (vs ++ as_list (longer_by more had o))
begins_grown [] more had None h = h
begins_grown [] more had (Some v) h = h
begins_grown (w ∷ vs) more had o h = h

begins_after : (a b : Bool) (more had note : List Act) (v : Stays) → BeginsWithNothing (all_in v)
    → BeginsWithNothing (all_in (if a then record { ended = all_in v; now = Some (begun note) }
    else if b then record { ended = v.ended ++ as_list (longer_by more had v.now); now = None }
    else record { ended = v.ended; now = longer_by more had v.now }))
begins_after true b more had note v h = begins_both (all_in v) (begun note ∷ []) h
begins_after false true more had note v h = begins_both (v.ended ++ as_list (longer_by more had v.now)) [] (begins_grown v.ended more had v.now h)
begins_after false false more had note v h = begins_grown v.ended more had v.now h

begins_from : (c : ℕ) (s : State) (had : List Act) (v : Stays) (H : List Element) → BeginsWithNothing (all_in v) → BeginsWithNothing (all_in (stays_from c s had v H))
begins_from c s had v [] h = h
begins_from c s had v (e ∷ H) h =
    begins_from c (after s e.mark) (acts_after c s had e) (stays_after c s had v e) H
    (begins_after (puts_in c e.mark) (takes_out c e.mark) (reported c s e.mark) (acts_after c s had e) e.note v h)

pub begins : (S : Setting) (c : ℕ) (H : List Element) → is_here (start S) c ≡ true → BeginsWithNothing (all_in (stays S H c))
begins S c H here = begins_from c (start S) [] record { ended = []; now = if is_here (start S) c then Some (begun []) else None } H (rw here refl)

-- reads of lists
pub sound_at : (vs : List Stay) (i : ℕ) (v : Stay) → AreSound vs → slice_get vs i ≡ Some v → IsSound v
sound_at [] i v a h = absurd (cc h)
sound_at (w ∷ vs) zero v a h = let e : w ≡ v = cc h in rw (← e) a.0
sound_at (w ∷ vs) (suc i) v a h = sound_at vs i v a.1 h

pub first_note : (vs : List Stay) (v : Stay) → BeginsWithNothing vs → slice_get vs 0 ≡ Some v → v.note ≡ []
first_note [] v b h = absurd b
first_note (w ∷ vs) v b h = let e : w ≡ v = cc h in rw (← e) b

pub in_front : (vs ws : List Stay) (i : ℕ) (v : Stay) → slice_get vs i ≡ Some v → slice_get (vs ++ ws) i ≡ Some v
in_front [] ws i v h = absurd (cc h)
in_front (w ∷ vs) ws zero v h = h
in_front (w ∷ vs) ws (suc i) v h = in_front vs ws i v h

pub next_one : (vs : List Stay) (v : Stay) → slice_get (vs ++ v ∷ []) (length vs) ≡ Some v
next_one [] v = refl
next_one (w ∷ vs) v = next_one vs v

pub some_of : (o : Option Stay) → true ≡ is_some o → (v : Stay) × (o ≡ Some v)
some_of None h = absurd (cc h)
some_of (Some v) h = (v, refl)

-- an In begins a stay with its note
pub in_begins : (S : Setting) (H : List Element) (p rest c : ℕ) (note : List Act) → stays S (H ++ left_by_pass p rest (Done.In c) note ∷ []) c ≡ record { ended = all_in (stays S H c); now = Some (begun note) }
in_begins S H p rest c note =
    let same : (c == c) ≡ true = grind (arith, nat_tests) in
    stays_push c (start S) [] record { ended = []; now = if is_here (start S) c then Some (begun []) else None } H (left_by_pass p rest (Done.In c) note) ∙ rw same refl

abbrev of : List Stay → Option Stay → Stays
of past now = record { ended = past; now = now }

ended_with : (b : Bool) (more had : List Act) (past : List Stay) (o : Option Stay) (v : Stay) → b ≡ true → o ≡ Some v
    → (if b then of (past ++ as_list (longer_by more had o)) None else of past (longer_by more had o)) ≡ of (past ++ record { note = v.note; own = v.own ++ more; had = had } ∷ []) None
ended_with b more had past o v same is = rw (same, is) refl

-- an Out ends the stay that goes on, and there it has all that the history says
pub out_ends : (S : Setting) (H : List Element) (p rest c : ℕ) → Legal S (H ++ left_by_pass p rest (Done.Out c) [] ∷ []) → EndsAStay S H (left_by_pass p rest (Done.Out c) []) c
out_ends S H p rest c l =
    let e : Element = left_by_pass p rest (Done.Out c) [] in
    let s : State = run S H in
    let v : Stays = stays S H c in
    let f = fits S c H (legal_front S H (e ∷ []) l) in
    let now = some_of v.now (sym (legal_next S H [] e l).act.1 ∙ f.is_now) in
    let same : (c == c) ≡ true = grind (arith, nat_tests) in
    let had : List Act = acts_after c s (acts S H c) e in
    record {
      last = record { note = now.0.note; own = now.0.own ++ reported c s e.mark; had = acts_after c s (acts S H c) e };
      ends =
          stays_push c (start S) [] record { ended = []; now = if is_here (start S) c then Some (begun []) else None } H e
          ∙ ended_with (c == c) (reported c s e.mark) had v.ended v.now now.0 same now.1;
      has_all = sym (acts_push c (start S) [] H e);
    }
