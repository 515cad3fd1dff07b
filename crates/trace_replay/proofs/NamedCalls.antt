-- Each call that a legal history reports is one that the setting names.
use Rattle.std.proofs.Common.{◌≡◌, ℕ, ◌==◌, Bool, true, false, if◌then◌else◌, List, [], ◌∷◌, ◌++◌, refl, subst, arith, zero, suc}
use Rattle.std.specs.Prelude.{slice_get, Some, Contains}
use Rattle.std.specs.List.{AllByRecursion}
use Rattle.std.proofs.lemmas.Bool.Decides.{nat_tests}
use Rattle.std.proofs.lemmas.Option.{none-some}
use Rattle.perimeter_core.specs.declared.entries.Act.{Act}
use Rattle.perimeter_core.specs.declared.entries.Act.TheVariants as Did
use Rattle.perimeter_core.specs.declared.entries.Entry.{Entry}
use Rattle.perimeter_core.specs.declared.entries.Entry.TheVariants.{Feed, Ask}
use Rattle.perimeter_core.specs.declared.marks.SynchAct.TheVariants as Done
use Rattle.perimeter_core.specs.declared.marks.Mark.{Mark}
use Rattle.perimeter_core.specs.declared.marks.Mark.TheVariants as On
use Rattle.perimeter_core.specs.Perimeter.{State}
use Rattle.perimeter_core.specs.History.{Element, Setting, start, run_from}
use Rattle.perimeter_core.specs.Deeds.{call_act, done_by, feed_acts, reported}
use Rattle.perimeter_core.specs.Legal.{Legal, ActsFit}
use Rattle.perimeter_core.proofs.OneMore.{legal_ind}
use Rattle.histories.specs.Stays.{Stay, all_in, done_in, reports, stays}
use Rattle.histories.proofs.StaysKept.{reports_are_done, reports_push}
use Rattle.trace_replay.specs.Joining.{IsNamed}

module _ (names : List (ℕ × ℕ × ℕ)) (c : ℕ) where
  pub named_both : (xs ys : List Act) → AllByRecursion (IsNamed names c) xs → AllByRecursion (IsNamed names c) ys → AllByRecursion (IsNamed names c) (xs ++ ys)
  named_both [] ys a b = b
  named_both (x ∷ xs) ys a b = (a.0, named_both xs ys a.1 b)

  named_front : (xs ys : List Act) → AllByRecursion (IsNamed names c) (xs ++ ys) → AllByRecursion (IsNamed names c) xs
  named_front [] ys a = tt
  named_front (x ∷ xs) ys a = (a.0, named_front xs ys a.1)

  named_back : (xs ys : List Act) → AllByRecursion (IsNamed names c) (xs ++ ys) → AllByRecursion (IsNamed names c) ys
  named_back [] ys a = a
  named_back (x ∷ xs) ys a = named_back xs ys a.1

  feeds_named : (es : List Entry) → AllByRecursion (IsNamed names c) (feed_acts c es)
  feeds_named [] = tt
  feeds_named (Feed d n ∷ es) = by (d == c) (feeds_named es)
    where
      by : (b : Bool) → AllByRecursion (IsNamed names c) (feed_acts c es) → AllByRecursion (IsNamed names c) (if b then Did.Feed n ∷ feed_acts c es else feed_acts c es)
      by true more = (tt, more)
      by false more = more
  feeds_named (Ask p ∷ es) = feeds_named es

  named_at : (vs : List Stay) (i : ℕ) (v : Stay) → AllByRecursion (IsNamed names c) (done_in vs) → slice_get vs i ≡ Some v → AllByRecursion (IsNamed names c) v.own
  named_at [] i v a e = absurd (none-some v e)
  named_at (w ∷ vs) zero v a e = let same : w ≡ v = cc e in subst (λ (u : Stay). AllByRecursion (IsNamed names c) u.own) same (named_front w.own (done_in vs) a)
  named_at (w ∷ vs) (suc i) v a e = named_at vs i v (named_back w.own (done_in vs) a) e

call_named : (S : Setting) (H : List Element) (s : State) (c : ℕ) (m : Mark) → ActsFit S H s m → AllByRecursion (IsNamed S.limits.calls c) (call_act c m)
call_named S H s c (On.Leave p rest (Done.Call d j k)) fits = by (d == c) refl
  where
    by : (b : Bool) → (d == c) ≡ b → AllByRecursion (IsNamed S.limits.calls c) (if b then Did.Call j k ∷ [] else [])
    by true e = let same : d ≡ c = grind (arith, nat_tests, e) in (subst (λ (n : ℕ). Contains S.limits.calls (n, j, k)) same fits.2, tt)
    by false e = tt
call_named S H s c (On.Leave p rest Done.None) fits = tt
call_named S H s c (On.Leave p rest Done.Away) fits = tt
call_named S H s c (On.Leave p rest (Done.Out d)) fits = tt
call_named S H s c (On.Leave p rest (Done.In d)) fits = tt
call_named S H s c (On.Fill p es) fits = tt
call_named S H s c (On.Fast p e) fits = tt
call_named S H s c (On.Claim p es) fits = tt
call_named S H s c (On.Take p) fits = tt
call_named S H s c (On.Ask p) fits = tt
call_named S H s c (On.Grant p j rest) fits = tt
call_named S H s c (On.Accept j) fits = tt
call_named S H s c (On.Work p) fits = tt
call_named S H s c (On.Close p) fits = tt

reports_named : (S : Setting) (H : List Element) (c : ℕ) → Legal S H → AllByRecursion (IsNamed S.limits.calls c) (reports S H c)
reports_named S H c l =
    legal_ind S (λ (G : List Element). AllByRecursion (IsNamed S.limits.calls c) (reports S G c)) tt
    (λ G e k i m.
    rw (reports_push c (start S) G e)
    (named_both S.limits.calls c (reports S G c) (reported c (run_from (start S) G) e.mark) i
    (named_both S.limits.calls c (feed_acts c (done_by (run_from (start S) G) e.mark)) (call_act c e.mark)
    (feeds_named S.limits.calls c (done_by (run_from (start S) G) e.mark)) (call_named S G (run_from (start S) G) c e.mark m.act))))
    H l

pub stay_named : (S : Setting) (H : List Element) (c i : ℕ) (v : Stay) → Legal S H → slice_get (all_in (stays S H c)) i ≡ Some v → AllByRecursion (IsNamed S.limits.calls c) v.own
stay_named S H c i v l at =
    named_at S.limits.calls c (all_in (stays S H c)) i v (subst (λ (xs : List Act). AllByRecursion (IsNamed S.limits.calls c) xs) (reports_are_done S H c l) (reports_named S H c l)) at
