-- The hand of an owner is empty exactly where it came by Accept.
use Rattle.std.proofs.Common.{◌≡◌, ◌≢◌, ℕ, Bool, true, false, if◌then◌else◌, ◌==◌, List, [], ◌∷◌, ◌++◌, refl, sym, ◌∙◌, arith}
use Rattle.std.proofs.lemmas.Bool.Decides.{nat_tests}
use Rattle.perimeter_core.specs.declared.marks.Own.TheVariants.{Out}
use Rattle.perimeter_core.specs.declared.marks.Mark.{Mark}
use Rattle.perimeter_core.specs.declared.marks.Mark.TheVariants as On
use Rattle.perimeter_core.specs.Perimeter.{State, Can, after, is_empty}
use Rattle.perimeter_core.specs.History.{Element, Setting, worker, start, run, pass_of}
use Rattle.perimeter_core.specs.Legal.{Legal, IdleFirst}
use Rattle.perimeter_core.specs.Knowledge.{is_accept, last_was_accept}
use Rattle.perimeter_core.proofs.OneMore.{run_push, legal_ind}
use Rattle.perimeter_core.proofs.Sound.{Sound, is_empty-append, is_empty-nonempty}
use Rattle.perimeter_core.proofs.OrderAndWake.{sound}

came_push : (p : ℕ) (b : Bool) (H : List Element) (e : Element) → last_was_accept p b (H ++ e ∷ []) ≡ (if pass_of e.mark == p then is_accept e.mark else last_was_accept p b H)
came_push p b [] e = refl
came_push p b (x ∷ H) e = came_push p (if pass_of x.mark == p then is_accept x.mark else b) H e

if_same : (p : ℕ) (a b : Bool) → (if p == p then a else b) ≡ a
if_same p a b = let e : (p == p) ≡ true = grind (arith, nat_tests) in rw e refl

if_other : (q p : ℕ) (a b : Bool) → q ≢ p → (if q == p then a else b) ≡ b
if_other q p a b h = let e : (q == p) ≡ false = grind (arith, nat_tests) in rw e refl

came_after : (w : ℕ) (s : State) (m : Mark) (p : ℕ) (was : Bool) → Can w s m → Sound s → IdleFirst s m → (s.own ≡ Out p → was ≡ is_empty s.hand)
    → (after s m).own ≡ Out p → (if pass_of m == p then is_accept m else was) ≡ is_empty (after s m).hand
came_after w s (On.Fill q es) p was can k idle i o = let ne : q ≢ p = λ z. idle.no_owner (rw z o) in if_other q p false was ne ∙ i o
came_after w s (On.Ask q) p was can k idle i o = let ne : q ≢ p = λ z. idle.no_owner (rw z o) in if_other q p false was ne ∙ i o
came_after w s (On.Close q) p was can k idle i o = let ne : q ≢ p = λ z. idle.no_owner (rw z o) in if_other q p false was ne ∙ i o
came_after w s (On.Fast q e) p was can k idle i o = let same : q ≡ p = cc o in rw same (if_same p false was)
came_after w s (On.Claim q es) p was can k idle i o = let same : q ≡ p = cc o in rw same (if_same p false was ∙ sym (is_empty-append s.chain es can.1))
came_after w s (On.Take q) p was can k idle i o = let same : q ≡ p = cc (can.0, o) in rw same (if_same p false was ∙ sym (is_empty-nonempty s.chain can.1))
came_after w s (On.Accept j) p was can k idle i o = let same : j ≡ p = cc o in rw same (if_same p true was)
came_after w s (On.Work q) p was can k idle i o =
    let same : q ≡ p = cc o in
    rw same (if_same p false was ∙ sym (is_empty-nonempty s.chain (λ z. cc (can.1, rw (can.0, z) at k.wake))))
came_after w s (On.Leave q rest act) p was can k idle i o = absurd (cc o)
came_after w s (On.Grant q j rest) p was can k idle i o = absurd (cc o)

pub came_by_accept : (S : Setting) (H : List Element) (p : ℕ) → Legal S H → (run S H).own ≡ Out p → last_was_accept p false H ≡ is_empty (run S H).hand
came_by_accept S H p l =
    legal_ind S (λ (G : List Element). (run S G).own ≡ Out p → last_was_accept p false G ≡ is_empty (run S G).hand) (λ o. absurd (cc o))
    (λ G e k i m.
    rw (run_push (start S) G e, came_push p false G e)
    (came_after (worker S) (run S G) e.mark p (last_was_accept p false G) m.step (sound S G k) m.idle i))
    H l
