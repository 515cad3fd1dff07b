-- The queued feeds of a connection.
use Rattle.std.proofs.Common.{◌≡◌, ◌≢◌, ℕ, zero, suc, ◌+◌, Bool, true, false, if◌then◌else◌, List, [], ◌∷◌, ◌++◌, length, refl, ap, sym, ◌∙◌, subst, arith, slice_index_or, slice_set}
use Rattle.std.proofs.lemmas.Bool.Decides.{nat_tests}
use Rattle.perimeter_core.specs.declared.entries.Entry.{Entry}
use Rattle.perimeter_core.specs.declared.marks.SynchAct.{SynchAct}
use Rattle.perimeter_core.specs.declared.marks.SynchAct.TheVariants as Done
use Rattle.perimeter_core.specs.declared.marks.Mark.{Mark}
use Rattle.perimeter_core.specs.declared.marks.Mark.TheVariants as On
use Rattle.perimeter_core.specs.Perimeter.{State, Can, after, is_here, unprocessed, here_after}
use Rattle.perimeter_core.specs.History.{Element, Setting, worker, start, run, pass_of}
use Rattle.perimeter_core.specs.Deeds.{entries_of, done_by, feeds_of, fed, puts_in, due_after, due}
use Rattle.perimeter_core.specs.Legal.{Legal, Enters, ActFits, ActsFit}
use Rattle.perimeter_core.specs.Backlog.{queue, up, FeedsInOrder}
use Rattle.perimeter_core.proofs.OneMore.{run_push, due_push, legal_ind}
use Rattle.perimeter_core.proofs.Sound.{Sound, order_after}
use Rattle.perimeter_core.proofs.OrderAndWake.{sound}
use Rattle.perimeter_core.proofs.FeedLists.{feeds_of-append, no_feeds_right, no_feeds_both, up-append, up_rest, enters_up, enters_here}

-- what is queued and what a mark enters is what it processes and what is queued after it
pub queue_after : (w : ℕ) (s : State) (m : Mark) → Can w s m → Sound s → queue s ++ entries_of m ≡ done_by s m ++ queue (after s m)
queue_after w s m c k = order_after w s m (queue s) [] c k refl

-- consecutive up to the next number
pub record Runs (c next : ℕ) (es : List Entry) : Type 0 where
  pub first : ℕ
  pub count : ℕ
  pub numbers : feeds_of c es ≡ up first count
  pub ends : first + count ≡ next

pub runs_grow : (S : Setting) (s : State) (p c : ℕ) (next : ℕ → ℕ) (q es : List Entry) → Enters S s p next es → Runs c (next c) q
    → Runs c (next c + length (feeds_of c es)) (q ++ es)
runs_grow S s p c next q es h r =
    record {
      first = r.first;
      count = r.count + length (feeds_of c es);
      numbers =
          feeds_of-append c q es
          ∙ (ap (λ xs. xs ++ feeds_of c es) r.numbers
          ∙ (ap (λ xs. up r.first r.count ++ xs) (enters_up S s p c next es h ∙ ap (λ n. up n (length (feeds_of c es))) (sym r.ends))
          ∙ up-append r.first r.count (length (feeds_of c es))));
      ends = omega (arith, r.ends);
    }

pub runs_shrink : (c n : ℕ) (xs ys : List Entry) → Runs c n (xs ++ ys) → Runs c n ys
runs_shrink c n xs ys r =
    let u = up_rest (feeds_of c xs) (feeds_of c ys) r.first r.count (sym (feeds_of-append c xs ys) ∙ r.numbers) in
    record { first = r.first + length (feeds_of c xs); count = length (feeds_of c ys); numbers = u.0; ends = omega (arith, u.1, r.ends) }

-- a block that is here stays here but for an Out, and then nothing of it is queued
here_out : (here : List Bool) (c d : ℕ) → c ≢ d → slice_index_or here c false ≡ true → slice_index_or (slice_set here d false) c false ≡ true
here_out [] c d k h = h
here_out (x ∷ here) zero zero k h = absurd (k refl)
here_out (x ∷ here) zero (suc d) k h = h
here_out (x ∷ here) (suc c) zero k h = h
here_out (x ∷ here) (suc c) (suc d) k h = here_out here c d (λ e. k (ap suc e)) h

here_in : (here : List Bool) (c d : ℕ) → slice_index_or here c false ≡ true → slice_index_or (slice_set here d true) c false ≡ true
here_in [] c d h = h
here_in (x ∷ here) zero zero h = refl
here_in (x ∷ here) zero (suc d) h = h
here_in (x ∷ here) (suc c) zero h = h
here_in (x ∷ here) (suc c) (suc d) h = here_in here c d h

here_act : (S : Setting) (H : List Element) (s : State) (p c : ℕ) (q : List Entry) (act : SynchAct) → ActFits S H s p q act → is_here s c ≡ true → feeds_of c q ≢ []
    → slice_index_or (here_after act s.here) c false ≡ true
here_act S H s p c q Done.None f h w = h
here_act S H s p c q (Done.Call d j k) f h w = h
here_act S H s p c q Done.Away f h w = h
here_act S H s p c q (Done.Out d) f h w =
    here_out s.here c d (λ e. w (rw e f.3)) h
here_act S H s p c q (Done.In d) f h w = here_in s.here c d h

pub here_kept : (S : Setting) (H : List Element) (s : State) (m : Mark) (c : ℕ) → ActsFit S H s m → is_here s c ≡ true → feeds_of c (queue (after s m)) ≢ [] → is_here (after s m) c ≡ true
here_kept S H s (On.Leave p rest act) c f h w = here_act S H s p c (unprocessed rest s.hand ++ s.chain) act f h w
here_kept S H s (On.Fill p es) c f h w = h
here_kept S H s (On.Fast p e) c f h w = h
here_kept S H s (On.Claim p es) c f h w = h
here_kept S H s (On.Take p) c f h w = h
here_kept S H s (On.Ask p) c f h w = h
here_kept S H s (On.Grant p j rest) c f h w = h
here_kept S H s (On.Accept j) c f h w = h
here_kept S H s (On.Work p) c f h w = h
here_kept S H s (On.Close p) c f h w = h

-- who puts c in finds it not here, and enters nothing
puts_act : (S : Setting) (H : List Element) (s : State) (p c rest : ℕ) (q : List Entry) (act : SynchAct) → ActFits S H s p q act → puts_in c (On.Leave p rest act) ≡ true → is_here s c ≡ false
puts_act S H s p c rest q (Done.In d) f e = let same : d ≡ c = grind (arith, nat_tests) in rw same at f.1
puts_act S H s p c rest q Done.None f e = absurd cc
puts_act S H s p c rest q (Done.Call d j k) f e = absurd cc
puts_act S H s p c rest q Done.Away f e = absurd cc
puts_act S H s p c rest q (Done.Out d) f e = absurd cc

pub puts_away : (S : Setting) (H : List Element) (s : State) (m : Mark) (c : ℕ) → ActsFit S H s m → puts_in c m ≡ true → (is_here s c ≡ false) × (entries_of m ≡ [])
puts_away S H s (On.Leave p rest act) c f e = (puts_act S H s p c rest (unprocessed rest s.hand ++ s.chain) act f e, refl)
puts_away S H s (On.Fill p es) c f e = absurd cc
puts_away S H s (On.Fast p x) c f e = absurd cc
puts_away S H s (On.Claim p es) c f e = absurd cc
puts_away S H s (On.Take p) c f e = absurd cc
puts_away S H s (On.Ask p) c f e = absurd cc
puts_away S H s (On.Grant p j rest) c f e = absurd cc
puts_away S H s (On.Accept j) c f e = absurd cc
puts_away S H s (On.Work p) c f e = absurd cc
puts_away S H s (On.Close p) c f e = absurd cc

pub not_here_nil : {A : Type 0} (b : Bool) (xs : List A) → b ≡ false → (xs ≢ [] → b ≡ true) → xs ≡ []
not_here_nil b [] h k = refl
not_here_nil b (x ∷ xs) h k = absurd (cc (k (λ e. cc), h))

either_here : (c : ℕ) (q es : List Entry) (h : Bool) → (feeds_of c q ≢ [] → h ≡ true) → (feeds_of c es ≢ [] → h ≡ true) → feeds_of c (q ++ es) ≢ [] → h ≡ true
either_here c q es true a b w = refl
either_here c q es false a b w =
    absurd (w (no_feeds_both c q es (not_here_nil false (feeds_of c q) refl a) (not_here_nil false (feeds_of c es) refl b)))

-- the law for one connection, in a form that each mark keeps
pub record InOrder (c next : ℕ) (s : State) : Type 0 where
  pub runs : Runs c next (queue s)
  pub here : feeds_of c (queue s) ≢ [] → is_here s c ≡ true

due_case : (S : Setting) (H : List Element) (s : State) (c : ℕ) (next : ℕ → ℕ) (e : Element) (b : Bool) → puts_in c e.mark ≡ b → ActsFit S H s e.mark
    → (feeds_of c (queue s) ≢ [] → is_here s c ≡ true) → queue s ++ entries_of e.mark ≡ done_by s e.mark ++ queue (after s e.mark)
    → Runs c (next c + length (feeds_of c (entries_of e.mark))) (queue (after s e.mark))
    → Runs c (if b then fed e.note else next c + length (feeds_of c (entries_of e.mark))) (queue (after s e.mark))
due_case S H s c next e false is f h q r = r
due_case S H s c next e true is f h q r =
    let away = puts_away S H s e.mark c f is in
    let none : feeds_of c (queue s) ≡ [] = not_here_nil (is_here s c) (feeds_of c (queue s)) away.0 h in
    let all : feeds_of c (queue s ++ entries_of e.mark) ≡ [] = no_feeds_both c (queue s) (entries_of e.mark) none (rw away.1 refl) in
    let left : feeds_of c (queue (after s e.mark)) ≡ [] = no_feeds_right c (done_by s e.mark) (queue (after s e.mark)) (rw q at all) in
    record { first = fed e.note; count = 0; numbers = left; ends = omega arith }

pub in_order_after : (S : Setting) (H : List Element) (w : ℕ) (s : State) (p c : ℕ) (next : ℕ → ℕ) (e : Element) → Can w s e.mark → Sound s
    → Enters S s p next (entries_of e.mark) → ActsFit S H s e.mark → InOrder c (next c) s → InOrder c (due_after c (next c) e) (after s e.mark)
in_order_after S H w s p c next e can k enters fits i =
    let q = queue_after w s e.mark can k in
    let grown : Runs c (next c + length (feeds_of c (entries_of e.mark))) (done_by s e.mark ++ queue (after s e.mark)) =
    subst (λ (xs : List Entry). Runs c (next c + length (feeds_of c (entries_of e.mark))) xs) q
    (runs_grow S s p c next (queue s) (entries_of e.mark) enters i.runs) in
    record {
      runs =
          due_case S H s c next e (puts_in c e.mark) refl fits i.here q
          (runs_shrink c (next c + length (feeds_of c (entries_of e.mark))) (done_by s e.mark) (queue (after s e.mark)) grown);
      here = λ h.
          here_kept S H s e.mark c fits
          (either_here c (queue s) (entries_of e.mark) (is_here s c) i.here (enters_here S s p c next (entries_of e.mark) enters)
          (λ z. h (no_feeds_right c (done_by s e.mark) (queue (after s e.mark)) (rw q at z))))
          h;
    }

pub in_order : (S : Setting) (c : ℕ) (H : List Element) → Legal S H → InOrder c (due H c) (run S H)
in_order S c H l =
    legal_ind S (λ (G : List Element). InOrder c (due G c) (run S G))
    (record { runs = record { first = 0; count = 0; numbers = refl; ends = refl }; here = λ h. absurd (h refl) })
    (λ G e k i m.
    rw (run_push (start S) G e, due_push c 0 G e)
    (in_order_after S G (worker S) (run S G) (pass_of e.mark) c (due G) e m.step (sound S G k) m.enters m.act i))
    H l

pub feeds_in_order : (S : Setting) (H : List Element) (c : ℕ) → Legal S H → FeedsInOrder (run S H) c (due H c)
feeds_in_order S H c l =
    let i = in_order S c H l in
    record { first = i.runs.first; count = i.runs.count; numbers = i.runs.numbers; ends = i.runs.ends; here = i.here }
