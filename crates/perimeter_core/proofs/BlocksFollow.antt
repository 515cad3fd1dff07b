-- What the resident stands for after one more element.
use Rattle.std.proofs.Common.{◌≡◌, ◌≢◌, ℕ, zero, suc, ◌<◌, Bool, true, false, if◌then◌else◌, ◌==◌, Option, Some, None, List, [], ◌∷◌, ◌++◌, length, slice_index_or, slice_set, refl, ap, sym, ◌∙◌, append_assoc, arith}
use Rattle.std.proofs.lemmas.List.{append-nil, length-set}
use Rattle.std.proofs.lemmas.Bool.Decides.{nat_tests}
use mathlib.Core.Path.{fun_ext}
use Rattle.perimeter_core.specs.declared.entries.Act.{Act}
use Rattle.perimeter_core.specs.declared.entries.Act.TheVariants as Did
use Rattle.perimeter_core.specs.declared.marks.SynchAct.{SynchAct}
use Rattle.perimeter_core.specs.declared.marks.SynchAct.TheVariants as Done
use Rattle.perimeter_core.specs.declared.marks.Mark.{Mark}
use Rattle.perimeter_core.specs.declared.marks.Mark.TheVariants as On
use Rattle.perimeter_core.specs.Perimeter.{State, after, is_here, processed}
use Rattle.perimeter_core.specs.History.{Element, Setting, conns, start, run, run_from}
use Rattle.perimeter_core.specs.Deeds.{done_by, feed_acts, acts_after, acts_from, acts}
use Rattle.perimeter_core.specs.Legal.{May, InRange}
use Rattle.perimeter_core.specs.Blocks.{Blocks, peri, longer, with_feeds, with_act, act_of}
use Rattle.perimeter_core.proofs.OneMore.{run_push}

pub acts_push : (c : ℕ) (s : State) (had : List Act) (H : List Element) (e : Element) → acts_from c s had (H ++ e ∷ []) ≡ acts_after c (run_from s H) (acts_from c s had H) e
acts_push c s had [] e = refl
acts_push c s had (x ∷ H) e = acts_push c (after s x.mark) (acts_after c s had x) H e

-- there is a flag for each connection
flags_after : (s : State) (m : Mark) → length (after s m).here ≡ length s.here
flags_after s (On.Leave p rest Done.None) = refl
flags_after s (On.Leave p rest (Done.Call c j k)) = refl
flags_after s (On.Leave p rest Done.Away) = refl
flags_after s (On.Leave p rest (Done.Out c)) = length-set s.here c false
flags_after s (On.Leave p rest (Done.In c)) = length-set s.here c true
flags_after s (On.Fill p es) = refl
flags_after s (On.Fast p e) = refl
flags_after s (On.Claim p es) = refl
flags_after s (On.Take p) = refl
flags_after s (On.Ask p) = refl
flags_after s (On.Grant p j rest) = refl
flags_after s (On.Accept j) = refl
flags_after s (On.Work p) = refl
flags_after s (On.Close p) = refl

pub flags : (s : State) (H : List Element) → length (run_from s H).here ≡ length s.here
flags s [] = refl
flags s (e ∷ H) = flags (after s e.mark) H ∙ flags_after s e.mark

flag_same : (bs : List Bool) (c : ℕ) (b : Bool) → c < length bs → slice_index_or (slice_set bs c b) c false ≡ b
flag_same [] c b h = absurd (omega arith)
flag_same (x ∷ bs) zero b h = refl
flag_same (x ∷ bs) (suc c) b h = flag_same bs c b (omega arith)

flag_out : (bs : List Bool) (c : ℕ) → slice_index_or (slice_set bs c false) c false ≡ false
flag_out [] c = refl
flag_out (x ∷ bs) zero = refl
flag_out (x ∷ bs) (suc c) = flag_out bs c

pub flag_other : (bs : List Bool) (c d : ℕ) (b : Bool) → c ≢ d → slice_index_or (slice_set bs c b) d false ≡ slice_index_or bs d false
flag_other [] c d b h = refl
flag_other (x ∷ bs) zero zero b h = absurd (h refl)
flag_other (x ∷ bs) zero (suc d) b h = refl
flag_other (x ∷ bs) (suc c) zero b h = refl
flag_other (x ∷ bs) (suc c) (suc d) b h = flag_other bs c d b (λ e. h (ap suc e))

abbrev block : Bool → List Act → Option (List Act)
block here had = if here then Some had else None

block_longer : (here : Bool) (had more : List Act) → block here (had ++ more) ≡ longer more (block here had)
block_longer true had more = refl
block_longer false had more = refl

block_plain : (here : Bool) (had more : List Act) → block here (had ++ (more ++ [])) ≡ longer more (block here had)
block_plain here had more = rw append-nil (block_longer here had more)

block_call : (b here : Bool) (had more call : List Act) → block here (had ++ (more ++ (if b then call else []))) ≡ (if b then longer call (longer more (block here had)) else longer more (block here had))
block_call true true had more call = ap Some (sym (append_assoc had more call))
block_call true false had more call = refl
block_call false here had more call = block_plain here had more

out_case : (bs : List Bool) (c d : ℕ) (b : Bool) → (c == d) ≡ b → (had more : List Act)
    → block (slice_index_or (slice_set bs c false) d false) (had ++ (more ++ [])) ≡ (if b then None else longer more (block (slice_index_or bs d false) had))
out_case bs c d true e had more = let same : c ≡ d = grind (arith, nat_tests) in rw (same, flag_out bs d) refl
out_case bs c d false e had more =
    let other : c ≢ d = grind (arith, nat_tests) in rw (flag_other bs c d false other) (block_plain (slice_index_or bs d false) had more)

in_case : (bs : List Bool) (c d : ℕ) (b : Bool) → (c == d) ≡ b → c < length bs → (had more note : List Act)
    → block (slice_index_or (slice_set bs c true) d false) (if b then note else had ++ (more ++ [])) ≡ (if b then Some note else longer more (block (slice_index_or bs d false) had))
in_case bs c d true e lt had more note = let same : c ≡ d = grind (arith, nat_tests) in rw (← same, flag_same bs c true lt) refl
in_case bs c d false e lt had more note =
    let other : c ≢ d = grind (arith, nat_tests) in rw (flag_other bs c d true other) (block_plain (slice_index_or bs d false) had more)

block_after : (s : State) (had : List Act) (d : ℕ) (m : Mark) (note : List Act) → ((p rest c : ℕ) → m ≡ On.Leave p rest (Done.In c) → c < length s.here)
    → block (is_here (after s m) d) (acts_after d s had (record { mark = m; note = note }))
    ≡ with_act (act_of m) note (λ c. longer (feed_acts c (done_by s m)) (block (is_here s c) had)) d
block_after s had d (On.Leave p rest Done.None) note h = block_plain (is_here s d) had (feed_acts d (processed rest s.hand))
block_after s had d (On.Leave p rest (Done.Call c j k)) note h =
    block_call (c == d) (is_here s d) had (feed_acts d (processed rest s.hand)) (Did.Call j k ∷ [])
block_after s had d (On.Leave p rest Done.Away) note h = block_plain (is_here s d) had (feed_acts d (processed rest s.hand))
block_after s had d (On.Leave p rest (Done.Out c)) note h = out_case s.here c d (c == d) refl had (feed_acts d (processed rest s.hand))
block_after s had d (On.Leave p rest (Done.In c)) note h =
    in_case s.here c d (c == d) refl (h p rest c refl) had (feed_acts d (processed rest s.hand)) note
block_after s had d (On.Fill p es) note h = block_plain (is_here s d) had []
block_after s had d (On.Fast p e) note h = block_plain (is_here s d) had []
block_after s had d (On.Claim p es) note h = block_plain (is_here s d) had []
block_after s had d (On.Take p) note h = block_plain (is_here s d) had (feed_acts d s.hand)
block_after s had d (On.Ask p) note h = block_plain (is_here s d) had []
block_after s had d (On.Grant p j rest) note h = block_plain (is_here s d) had (feed_acts d (processed rest s.hand))
block_after s had d (On.Accept j) note h = block_plain (is_here s d) had []
block_after s had d (On.Work p) note h = block_plain (is_here s d) had []
block_after s had d (On.Close p) note h = block_plain (is_here s d) had []

with_act_at : (act : SynchAct) (note : List Act) (a b : Blocks) (d : ℕ) → a d ≡ b d → with_act act note a d ≡ with_act act note b d
with_act_at Done.None note a b d h = h
with_act_at (Done.Call c j k) note a b d h = rw h refl
with_act_at Done.Away note a b d h = h
with_act_at (Done.Out c) note a b d h = rw h refl
with_act_at (Done.In c) note a b d h = rw h refl

in_range : (S : Setting) (m : Mark) → InRange S m → (p rest c : ℕ) → m ≡ On.Leave p rest (Done.In c) → c < conns S
in_range S m r p rest c e = (rw e at r).1

-- what a resident stands for after one more element: the entries that it reports are added, and then its act
pub peri_push : (S : Setting) (H : List Element) (e : Element) → May S H e
    → peri S (H ++ e ∷ []) ≡ with_act (act_of e.mark) e.note (with_feeds (done_by (run S H) e.mark) (peri S H))
peri_push S H e m =
    fun_ext (λ d.
    rw (run_push (start S) H e, acts_push d (start S) [] H e)
    (block_after (run S H) (acts S H d) d e.mark e.note (λ p rest c is. rw (flags (start S) H) (in_range S e.mark m.range p rest c is))
    ∙ with_act_at (act_of e.mark) e.note (λ c. longer (feed_acts c (done_by (run S H) e.mark)) (block (is_here (run S H) c) (acts S H d)))
    (with_feeds (done_by (run S H) e.mark) (peri S H)) d refl))
