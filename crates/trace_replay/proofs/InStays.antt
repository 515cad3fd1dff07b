-- What is so of each stay at each squeue is so of each stay of a connection.
use Rattle.std.proofs.Common.{◌≡◌, ℕ, ◌+◌, ◌/◌, ◌%◌, ◌<◌, Bool, true, false, if◌then◌else◌, Option, Some, None, List, [], ◌∷◌, ◌++◌, length, refl, ap, ◌∙◌, subst, arith, length-append}
use Rattle.std.specs.Prelude.{slice_get}
use Rattle.std.proofs.lemmas.Bool.Decides.{nat_tests}
use Rattle.std.proofs.lemmas.List.{length-map}
use Rattle.perimeter_core.specs.declared.marks.SynchAct.TheVariants as Done
use Rattle.perimeter_core.specs.declared.marks.Mark.{Mark}
use Rattle.perimeter_core.specs.declared.marks.Mark.TheVariants as On
use Rattle.perimeter_core.specs.Perimeter.{is_here}
use Rattle.perimeter_core.specs.History.{Element, Setting, conns, start}
use Rattle.perimeter_core.specs.Deeds.{puts_in}
use Rattle.perimeter_core.specs.Legal.{InRange, Legal, LegalFrom}
use Rattle.histories.specs.Endings.{Ending}
use Rattle.histories.specs.Stays.{Stay, all_in, as_list, ended_stay, stay, stays, stays_at, stays_in}
use Rattle.histories.proofs.OneSqueue.{in_front}
use Rattle.squeue_replay.specs.Histories.{times_in}
use Rattle.trace_replay.proofs.NotesIn.{firsts, marks_of, notes_are, notes_counted, notes_in}

module _ (hs : List Ending) (c : ℕ) (P : ℕ → Stay → Type 0) where
  in_one : (q : ℕ) (o : Option Ending) (i : ℕ) (v : Stay) → slice_get hs q ≡ o → ((q : ℕ) (e : Ending) → slice_get hs q ≡ Some e → (i : ℕ) (v : Stay) → slice_get (all_in (stays e.setting e.history c)) i ≡ Some v → P q v)
      → slice_get (all_in (stays_in o c)) i ≡ Some v → P q v
  in_one q None i v is each at = absurd (let no : ⊥ = cc at in no)
  in_one q (Some e) i v is each at = each q e is i v at

  pub in_stay : ((q : ℕ) (e : Ending) → slice_get hs q ≡ Some e → (i : ℕ) (v : Stay) → slice_get (all_in (stays e.setting e.history c)) i ≡ Some v → P q v)
      → (t : ℕ) (v : Stay) → stay hs c t ≡ Some v → P ((c + t) % length hs) v
  in_stay each t v at = in_one ((c + t) % length hs) (slice_get hs ((c + t) % length hs)) (t / length hs) v refl each at

  ended_in_one : (q : ℕ) (o : Option Ending) (i : ℕ) (v : Stay) → slice_get hs q ≡ o → ((q : ℕ) (e : Ending) → slice_get hs q ≡ Some e → slice_get (stays e.setting e.history c).ended i ≡ Some v → P q v)
      → slice_get (stays_in o c).ended i ≡ Some v → P q v
  ended_in_one q None i v is each at = absurd (let no : ⊥ = cc at in no)
  ended_in_one q (Some e) i v is each at = each q e is at

  pub in_ended : (t : ℕ) (v : Stay) → ((q : ℕ) (e : Ending) → slice_get hs q ≡ Some e → slice_get (stays e.setting e.history c).ended (t / length hs) ≡ Some v → P q v)
      → ended_stay hs c t ≡ Some v → P ((c + t) % length hs) v
  in_ended t v each at = ended_in_one ((c + t) % length hs) (slice_get hs ((c + t) % length hs)) (t / length hs) v refl each at

-- a stay that has ended is a stay
pub is_stay : (hs : List Ending) (c t : ℕ) (v : Stay) → ended_stay hs c t ≡ Some v → stay hs c t ≡ Some v
is_stay hs c t v at = in_front (stays_at hs c t).ended (as_list (stays_at hs c t).now) (t / length hs) v at

-- a stay at a place of a squeue
pub stay_there : (hs : List Ending) (c t q i : ℕ) (e : Ending) (v : Stay) → slice_get hs q ≡ Some e → (c + t) % length hs ≡ q → t / length hs ≡ i
    → slice_get (all_in (stays e.setting e.history c)) i ≡ Some v → stay hs c t ≡ Some v
stay_there hs c t q i e v at place number is =
    (λ j. slice_get (all_in (stays_in (slice_get hs (place j)) c)) (number j)) ∙ (ap (λ (o : Option Ending). slice_get (all_in (stays_in o c)) i) at ∙ is)

pub ended_there : (hs : List Ending) (c t q i : ℕ) (e : Ending) (o : Option Stay) → slice_get hs q ≡ Some e → (c + t) % length hs ≡ q → t / length hs ≡ i
    → slice_get (stays e.setting e.history c).ended i ≡ o → ended_stay hs c t ≡ o
ended_there hs c t q i e o at place number is =
    (λ j. slice_get (stays_in (slice_get hs (place j)) c).ended (number j)) ∙ (ap (λ (o : Option Ending). slice_get (stays_in o c).ended i) at ∙ is)

-- how many stays a squeue had
pub stays_count : (S : Setting) (H : List Element) (c : ℕ) → length (all_in (stays S H c)) ≡ length (firsts (is_here (start S) c)) + times_in c (marks_of H)
stays_count S H c =
    let a = length-map (all_in (stays S H c)) (λ (u : Stay). u.note) in
    let b = ap length (notes_are S H c) in
    let d = length-append (firsts (is_here (start S) c)) (notes_in c H) in
    let n = notes_counted c H in
    omega (arith, a, b, d, n)

-- the connection of an In is known
pub in_known : (S : Setting) (m : Mark) (c : ℕ) → InRange S m → puts_in c m ≡ true → c < conns S
in_known S (On.Leave p rest (Done.In d)) c r e = let same : d ≡ c = grind (arith, nat_tests, e) in subst (λ (k : ℕ). k < conns S) same r.1
in_known S (On.Leave p rest (Done.Out d)) c r e = absurd cc
in_known S (On.Leave p rest (Done.Call d j k)) c r e = absurd cc
in_known S (On.Leave p rest Done.Away) c r e = absurd cc
in_known S (On.Leave p rest Done.None) c r e = absurd cc
in_known S (On.Fill p es) c r e = absurd cc
in_known S (On.Fast p x) c r e = absurd cc
in_known S (On.Claim p es) c r e = absurd cc
in_known S (On.Take p) c r e = absurd cc
in_known S (On.Ask p) c r e = absurd cc
in_known S (On.Grant p j rest) c r e = absurd cc
in_known S (On.Accept j) c r e = absurd cc
in_known S (On.Work p) c r e = absurd cc
in_known S (On.Close p) c r e = absurd cc

known_from : (S : Setting) (c n : ℕ) (past H : List Element) → LegalFrom S past H → n < times_in c (marks_of H) → c < conns S
known_from S c n past [] l lt = absurd (let no : ⊥ = omega (arith, lt) in no)
known_from S c n past (e ∷ H) l lt = by (puts_in c e.mark) refl n lt (λ n lt. known_from S c n (past ++ e ∷ []) H l.1 lt)
  where
    by : (b : Bool) → puts_in c e.mark ≡ b → (n : ℕ) → n < (if b then 1 else 0) + times_in c (marks_of H) → ((n : ℕ) → n < times_in c (marks_of H) → c < conns S) → c < conns S
    by true is n lt rest = in_known S e.mark c l.0.range is
    by false is n lt rest = rest n (omega (arith, lt))

pub known_in : (S : Setting) (H : List Element) (c n : ℕ) → Legal S H → n < times_in c (marks_of H) → c < conns S
known_in S H c n l lt = known_from S c n [] H l lt
