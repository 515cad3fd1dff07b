-- The calls among acts: what one history made, and what all stays of a block had.
use Rattle.std.proofs.Common.{◌≡◌, ℕ, zero, suc, ◌+◌, ◌<◌, ◌==◌, ◌&&◌, Bool, true, false, if◌then◌else◌, Option, Some, None, List, [], ◌∷◌, ◌++◌, length, refl, ap, sym, ◌∙◌, add-zero, arith}
use Rattle.std.specs.Prelude.{slice_get}
use Rattle.std.proofs.lemmas.Option.{slice_get_within}
use Rattle.perimeter_core.specs.declared.entries.Act.{Act}
use Rattle.perimeter_core.specs.declared.entries.Act.TheVariants as Did
use Rattle.perimeter_core.specs.declared.entries.Entry.{Entry}
use Rattle.perimeter_core.specs.declared.entries.Entry.TheVariants.{Feed, Ask}
use Rattle.perimeter_core.specs.declared.marks.SynchAct.TheVariants as Done
use Rattle.perimeter_core.specs.declared.marks.Mark.{Mark}
use Rattle.perimeter_core.specs.declared.marks.Mark.TheVariants as On
use Rattle.perimeter_core.specs.Perimeter.{State, after, is_here}
use Rattle.perimeter_core.specs.History.{Element, start, run}
use Rattle.perimeter_core.specs.Deeds.{acts, done_by, feed_acts, call_act, reported}
use Rattle.perimeter_core.specs.Legal.{Legal}
use Rattle.histories.specs.Endings.{Ending}
use Rattle.histories.specs.Stays.{Stay, all_in, stays, reports_from, done_in, stays_in, stay, own_of, joined, AreLinked}
use Rattle.histories.proofs.StaysJoin.{all_stays}
use Rattle.histories.proofs.StaysKept.{reports_are_done}
use Rattle.squeue_rings.specs.Made.{makes_call, times_made}
use Rattle.squeue_pool.specs.Runs.{made_in_all}
use Rattle.squeue_pool.specs.Counting.{times_called}
use Rattle.squeue_pool.proofs.Sums.{sum_below, sum_over, if_there, below_none, below_suc, over_none, over_more, same_terms, by_places, over_all}

called_both : (j k : ℕ) (xs ys : List Act) → times_called j k (xs ++ ys) ≡ times_called j k xs + times_called j k ys
called_both j k [] ys = omega arith
called_both j k (Did.Feed n ∷ xs) ys = called_both j k xs ys
called_both j k (Did.Call i m ∷ xs) ys = omega (arith, called_both j k xs ys)

module _ (c j k : ℕ) where
  feeds_call_nothing : (es : List Entry) → times_called j k (feed_acts c es) ≡ 0
  feeds_call_nothing [] = refl
  feeds_call_nothing (Feed d n ∷ es) = by (d == c) (feeds_call_nothing es)
    where
      by : (b : Bool) → times_called j k (feed_acts c es) ≡ 0 → times_called j k (if b then Did.Feed n ∷ feed_acts c es else feed_acts c es) ≡ 0
      by true h = omega (arith, h)
      by false h = h
  feeds_call_nothing (Ask p ∷ es) = feeds_call_nothing es

  one_call : (m : Mark) → times_called j k (call_act c m) ≡ (if makes_call c j k m then 1 else 0)
  one_call (On.Leave p rest (Done.Call d i m)) = by (d == c)
    where
      by : (b : Bool) → times_called j k (if b then Did.Call i m ∷ [] else []) ≡ (if b && ((i == j) && (m == k)) then 1 else 0)
      by true = add-zero (if (i == j) && (m == k) then 1 else 0)
      by false = refl
  one_call _ = refl

  -- a history reports the calls that it made
  pub history_calls : (s : State) (H : List Element) → times_called j k (reports_from c s H) ≡ times_made c j k H
  history_calls s [] = refl
  history_calls s (e ∷ H) =
      let rest = history_calls (after s e.mark) H in
      let both = called_both j k (reported c s e.mark) (reports_from c (after s e.mark) H) in
      let parts = called_both j k (feed_acts c (done_by s e.mark)) (call_act c e.mark) in
      let none = feeds_call_nothing (done_by s e.mark) in
      let one = one_call e.mark in
      omega (arith, rest, both, parts, none, one)

  -- the calls of a stay, and those of a history
  abbrev own_calls : Stay → ℕ
  own_calls v = times_called j k v.own

  abbrev all_made : Ending → ℕ
  all_made h = times_made c j k h.history

  done_calls : (vs : List Stay) → times_called j k (done_in vs) ≡ sum_over own_calls vs
  done_calls [] = sym (over_none own_calls)
  done_calls (v ∷ vs) = let rest = done_calls vs in called_both j k v.own (done_in vs) ∙ (ap (λ (n : ℕ). own_calls v + n) rest ∙ sym (over_more own_calls v vs))

  own_or_none : (o : Option Stay) → times_called j k (own_of o) ≡ if_there own_calls o
  own_or_none None = refl
  own_or_none (Some v) = refl

  joined_calls : (hs : List Ending) (n : ℕ) → times_called j k (joined hs c n) ≡ sum_below n (λ s. if_there own_calls (stay hs c s))
  joined_calls hs zero = sym (below_none (λ s. if_there own_calls (stay hs c s)))
  joined_calls hs (suc n) =
      let front = joined_calls hs n in
      let both = called_both j k (joined hs c n) (own_of (stay hs c n)) in
      let last = own_or_none (stay hs c n) in
      let whole = below_suc n (λ s. if_there own_calls (stay hs c s)) in
      omega (arith, front, both, last, whole)

  -- at one squeue
  at_one : (o : Option Ending) → ((h : Ending) → o ≡ Some h → Legal h.setting h.history) → sum_over own_calls (all_in (stays_in o c)) ≡ if_there all_made o
  at_one None legal = over_none own_calls
  at_one (Some h) legal =
      sym (done_calls (all_in (stays h.setting h.history c)))
      ∙ (ap (λ (xs : List Act). times_called j k xs) (sym (reports_are_done h.setting h.history c (legal h refl))) ∙ history_calls (start h.setting) h.history)

  made_summed : (hs : List Ending) → made_in_all c j k hs ≡ sum_over all_made hs
  made_summed [] = sym (over_none all_made)
  made_summed (h ∷ hs) = ap (λ (n : ℕ). all_made h + n) (made_summed hs) ∙ sym (over_more all_made h hs)

pub calls_of_all : (n : ℕ) (hs : List Ending) (c q : ℕ) (h : Ending) (j k : ℕ) → AreLinked n hs → c < n → slice_get hs q ≡ Some h
    → is_here (run h.setting h.history) c ≡ true → times_called j k (acts h.setting h.history c) ≡ made_in_all c j k hs
calls_of_all n hs c q h j k are lt at here =
    let of = all_stays hs c q h are.legal (are.home c lt) (are.linked c lt) at here in
    let within : q < length hs = slice_get_within hs q h at in
    let column : ℕ → List Stay = λ p. all_in (stays_in (slice_get hs p) c) in
    let own : Stay → ℕ = own_calls c j k in
    let made : Ending → ℕ = all_made c j k in
    ap (λ (xs : List Act). times_called j k xs) of.are_joined
    ∙ (joined_calls c j k hs of.count
    ∙ (over_all own (length hs) c column (omega (arith, within)) of.count of.none_else
    ∙ (same_terms (length hs) (λ p. sum_over own (column p)) (λ p. if_there made (slice_get hs p)) (λ p below. at_one c j k (slice_get hs p) (are.legal p))
    ∙ (by_places made (length hs) hs (omega arith) ∙ sym (made_summed c j k hs)))))
