-- The setup of accepted words is in range.
use Rattle.std.proofs.Common.{◌≡◌, ◌≤◌, List, Some, ap, subst, codes, refl, arith}
use Rattle.std.specs.Prelude.{length, nat_le, option_and_then, true}
use Rattle.ring_quotas.specs.Limits.{most_budget, most_rings, most_spread, most_squeues}
use Rattle.ring_quotas.specs.Quotas.{IsInRange}
use Rattle.ring_quotas.specs.declared.setup.Setup.{Setup}
use Rattle.histories.specs.ModeWords.{mode_of}
use Rattle.shell.specs.Asked.{AskedOf, GivenOf, calls_of, givens, number_for, text_for}
use Rattle.shell.specs.Asked as shell
use Rattle.shell.specs.Words.{Use, calls_in, uses_of}
use Rattle.shell.proofs.Chains.{chained, guarded, mapped, some_is}
use Rattle.shell.proofs.Ranges.{ranged}
use Rattle.squeue_run.specs.Words.{Text, sqrun_table}
use Rattle.squeue_run.specs.Asked.{Asked, asked, asked_by, asked_with, call_of, go_together, setup_of}
use Rattle.squeue_run.specs.declared.calls.CallWord.{CallWord}

-- what accepted words say: their uses, what these give, and what that asks
pub record Parts (words : List Text) (a : Asked) : Type 0 where
  pub uses : List Use
  pub given : AskedOf CallWord
  pub few : nat_le (length (calls_in uses)) sqrun_table.most_calls ≡ true
  pub givens_are : givens sqrun_table.options uses ≡ Some given.givens
  pub calls_are : calls_of call_of (calls_in uses) ≡ Some given.calls
  pub setup_is : setup_of given.givens ≡ Some a.setup
  pub same_calls : given.calls ≡ a.calls
  pub together : go_together a.number a.setup.trace (length a.calls) ≡ true

pub parts_of : (words : List Text) (a : Asked) → asked words ≡ Some a → Parts words a
parts_of words a e =
    let v = chained asked_by (shell.asked call_of sqrun_table words) a e in
    let u = chained (shell.asked_by call_of sqrun_table) (uses_of sqrun_table.options words) v.value v.found in
    let c = guarded (nat_le (length (calls_in u.value)) sqrun_table.most_calls) _ v.value u.gives in
    let g = chained _ (givens sqrun_table.options u.value) v.value c.1 in
    let k = mapped _ (calls_of call_of (calls_in u.value)) v.value g.gives in
    let s = chained (asked_with v.value (number_for (codes "gen") v.value.givens)) (setup_of v.value.givens) a v.gives in
    let t = guarded (go_together (number_for (codes "gen") v.value.givens) s.value.trace (length v.value.calls)) _ a s.gives in
    let whole = some_is t.1 in
    record {
      uses = u.value;
      given = v.value;
      few = c.0;
      givens_are = subst (λ (gs : List GivenOf). givens sqrun_table.options u.value ≡ Some gs) (ap (λ (x : AskedOf CallWord). x.givens) k.gives) g.found;
      calls_are = subst (λ (cs : List CallWord). calls_of call_of (calls_in u.value) ≡ Some cs) (ap (λ (x : AskedOf CallWord). x.calls) k.gives) k.found;
      setup_is = subst (λ (x : Setup). setup_of v.value.givens ≡ Some x) (ap (λ (x : Asked). x.setup) whole) s.found;
      same_calls = ap (λ (x : Asked). x.calls) whole;
      together = subst (λ (x : Asked). go_together x.number x.setup.trace (length x.calls) ≡ true) whole t.0;
    }

by_givens : (us : List Use) (gs : List GivenOf) (s : Setup) → givens sqrun_table.options us ≡ Some gs → setup_of gs ≡ Some s → IsInRange s
by_givens us gs s e f =
    let q = chained _ (number_for (codes "squeues") gs) s f in
    let r = chained _ (number_for (codes "rings") gs) s q.gives in
    let m = chained _ (option_and_then mode_of (text_for (codes "mode") gs)) s r.gives in
    let b = chained _ (number_for (codes "budget") gs) s m.gives in
    let d = mapped _ (number_for (codes "spread") gs) s b.gives in
    subst IsInRange d.gives (record {
      squeues = ranged 1 most_squeues (codes "squeues") (Some 1) q.value us sqrun_table.options gs (omega arith, omega arith) refl e q.found;
      rings = ranged 1 most_rings (codes "rings") (Some 1) r.value us sqrun_table.options gs (omega arith, omega arith) refl e r.found;
      budget = (ranged 1 most_budget (codes "budget") (Some 64) b.value us sqrun_table.options gs (omega arith, omega arith) refl e b.found).0;
      spread = (ranged 0 most_spread (codes "spread") (Some 0) d.value us sqrun_table.options gs (omega arith, omega arith) refl e d.found).1;
    })

budget_by : (us : List Use) (gs : List GivenOf) (s : Setup) → givens sqrun_table.options us ≡ Some gs → setup_of gs ≡ Some s → s.budget ≤ most_budget
budget_by us gs s e f =
    let q = chained _ (number_for (codes "squeues") gs) s f in
    let r = chained _ (number_for (codes "rings") gs) s q.gives in
    let m = chained _ (option_and_then mode_of (text_for (codes "mode") gs)) s r.gives in
    let b = chained _ (number_for (codes "budget") gs) s m.gives in
    let d = mapped _ (number_for (codes "spread") gs) s b.gives in
    let most = (ranged 1 most_budget (codes "budget") (Some 64) b.value us sqrun_table.options gs (omega arith, omega arith) refl e b.found).1 in
    let same : b.value ≡ s.budget = ap (λ (x : Setup). x.budget) d.gives in
    omega (arith, same, most)

-- the budget is one that a report tells
pub budget_most : (words : List Text) (a : Asked) → asked words ≡ Some a → a.setup.budget ≤ most_budget
budget_most words a e =
    let p = parts_of words a e in
    budget_by p.uses p.given.givens a.setup p.givens_are p.setup_is

pub setup_in_range : (words : List Text) (a : Asked) → asked words ≡ Some a → IsInRange a.setup
setup_in_range words a e =
    let p = parts_of words a e in
    by_givens p.uses p.given.givens a.setup p.givens_are p.setup_is
