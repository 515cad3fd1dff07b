-- A ring's own elements fix what it has to know of its connections.
use Rattle.std.proofs.Common.{◌≡◌, ◌≢◌, ℕ, zero, suc, ◌+◌, ◌%◌, ◌<◌, Bool, true, false, if◌then◌else◌, ◌==◌, List, [], ◌∷◌, ◌++◌, length, slice_index_or, slice_set, refl, ap, ◌∙◌, arith}
use Rattle.std.proofs.lemmas.List.{append-nil}
use Rattle.std.proofs.lemmas.Bool.Decides.{nat_tests}
use Rattle.perimeter_core.specs.declared.marks.SynchAct.TheVariants as Done
use Rattle.perimeter_core.specs.declared.marks.Mark.{Mark}
use Rattle.perimeter_core.specs.declared.marks.Mark.TheVariants as On
use Rattle.perimeter_core.specs.Perimeter.{State, after, is_here}
use Rattle.perimeter_core.specs.History.{Element, Setting, conns, start, run, pass_of, made_by}
use Rattle.perimeter_core.specs.Deeds.{puts_in, takes_out, times_left, due_after, due}
use Rattle.perimeter_core.specs.Legal.{May, Legal, InRange}
use Rattle.perimeter_core.specs.Knowledge.{here_by, RingKnows}
use Rattle.perimeter_core.proofs.OneMore.{run_push, due_push, legal_ind}
use Rattle.perimeter_core.proofs.OthersMarks.{here_kept_by_others, puts_other, due_kept_by_others}
use Rattle.perimeter_core.proofs.BlocksFollow.{flags}
use Rattle.perimeter_core.proofs.LeavesFew.{left_push}

-- elements at the end
made_push : (p : ℕ) (H : List Element) (e : Element) → made_by p (H ++ e ∷ []) ≡ made_by p H ++ (if pass_of e.mark == p then e ∷ [] else [])
made_push p [] e = refl
made_push p (x ∷ H) e = rw (made_push p H e) (front (pass_of x.mark == p) (made_by p H) (if pass_of e.mark == p then e ∷ [] else []))
  where
    front : (b : Bool) (xs ys : List Element) → (if b then x ∷ (xs ++ ys) else (xs ++ ys)) ≡ (if b then x ∷ xs else xs) ++ ys
    front true xs ys = refl
    front false xs ys = refl

here_push : (c : ℕ) (b : Bool) (H : List Element) (e : Element) → here_by c b (H ++ e ∷ []) ≡ (if puts_in c e.mark then true else if takes_out c e.mark then false else here_by c b H)
here_push c b [] e = refl
here_push c b (x ∷ H) e = here_push c (if puts_in c x.mark then true else if takes_out c x.mark then false else b) H e

set_here : (bs : List Bool) (d c : ℕ) (b : Bool) → d < length bs → slice_index_or (slice_set bs d b) c false ≡ (if d == c then b else slice_index_or bs c false)
set_here bs d c b lt = at (d == c) refl
  where
    same_one : (bs : List Bool) (d : ℕ) → d < length bs → slice_index_or (slice_set bs d b) d false ≡ b
    same_one [] d lt = absurd (omega arith)
    same_one (x ∷ bs) zero lt = refl
    same_one (x ∷ bs) (suc d) lt = same_one bs d (omega arith)

    other_one : (bs : List Bool) (d c : ℕ) → d ≢ c → slice_index_or (slice_set bs d b) c false ≡ slice_index_or bs c false
    other_one [] d c h = refl
    other_one (x ∷ bs) zero zero h = absurd (h refl)
    other_one (x ∷ bs) zero (suc c) h = refl
    other_one (x ∷ bs) (suc d) zero h = refl
    other_one (x ∷ bs) (suc d) (suc c) h = other_one bs d c (λ e. h (ap suc e))

    at : (t : Bool) → (d == c) ≡ t → slice_index_or (slice_set bs d b) c false ≡ (if t then b else slice_index_or bs c false)
    at true e = let f : d ≡ c = grind (arith, nat_tests) in rw (← f) (same_one bs d lt)
    at false e = let f : d ≢ c = grind (arith, nat_tests) in other_one bs d c f

-- the flag of a connection follows its Outs and Ins
pub here_step : (S : Setting) (s : State) (m : Mark) (c : ℕ) → InRange S m → length s.here ≡ conns S → is_here (after s m) c ≡ (if puts_in c m then true else if takes_out c m then false else is_here s c)
here_step S s (On.Leave p rest Done.None) c r n = refl
here_step S s (On.Leave p rest (Done.Call d j k)) c r n = refl
here_step S s (On.Leave p rest Done.Away) c r n = refl
here_step S s (On.Leave p rest (Done.Out d)) c r n = set_here s.here d c false (rw n r.1)
here_step S s (On.Leave p rest (Done.In d)) c r n = set_here s.here d c true (rw n r.1)
here_step S s (On.Fill q es) c r n = refl
here_step S s (On.Fast q e) c r n = refl
here_step S s (On.Claim q es) c r n = refl
here_step S s (On.Take q) c r n = refl
here_step S s (On.Ask q) c r n = refl
here_step S s (On.Grant q j rest) c r n = refl
here_step S s (On.Accept j) c r n = refl
here_step S s (On.Work q) c r n = refl
here_step S s (On.Close q) c r n = refl

ring_own : (S : Setting) (H : List Element) (e : Element) (c : ℕ) (b : Bool) → (pass_of e.mark == c % S.rings) ≡ b → May S H e → RingKnows S H c
    → (is_here (after (run S H) e.mark) c ≡ here_by c (is_here (start S) c) (made_by (c % S.rings) H ++ (if b then e ∷ [] else [])))
    × (due_after c (due H c) e ≡ due (made_by (c % S.rings) H ++ (if b then e ∷ [] else [])) c)
    × (times_left c H + (if takes_out c e.mark then 1 else 0) ≡ times_left c (made_by (c % S.rings) H ++ (if b then e ∷ [] else [])))
ring_own S H e c true is m i = (
  rw (here_push c (is_here (start S) c) (made_by (c % S.rings) H) e, ← i.here) (here_step S (run S H) e.mark c m.range (flags (start S) H)),
  rw (due_push c 0 (made_by (c % S.rings) H) e) (ap (λ n. due_after c n e) i.next),
  rw (left_push c (made_by (c % S.rings) H) e) (ap (λ n. n + (if takes_out c e.mark then 1 else 0)) i.left),
)
ring_own S H e c false is m i =
    let ne : pass_of e.mark ≢ c % S.rings = grind (arith, nat_tests) in
    let p = puts_other S H (run S H) e.mark c m.act ne in (
      rw append-nil (here_kept_by_others S H (run S H) e.mark c m.act ne ∙ i.here),
      rw append-nil (due_kept_by_others S H (run S H) e c (due H c) (due H) m.act m.enters ne ∙ i.next),
      rw (append-nil, p.1) (omega (arith, i.left)),
    )

pub ring_knows : (S : Setting) (H : List Element) (c : ℕ) → Legal S H → RingKnows S H c
ring_knows S H c l =
    legal_ind S (λ (G : List Element). RingKnows S G c) (record { here = refl; next = refl; left = refl })
    (λ G e k i m.
    let r = ring_own S G e c (pass_of e.mark == c % S.rings) refl m i in
    record {
      here = rw (run_push (start S) G e, made_push (c % S.rings) G e) r.0;
      next = rw (due_push c 0 G e, made_push (c % S.rings) G e) r.1;
      left = rw (left_push c G e, made_push (c % S.rings) G e) r.2;
    })
    H l
