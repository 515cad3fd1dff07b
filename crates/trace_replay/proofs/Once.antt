-- What is fixed by an input: the orders by the histories; and a plan has few connections.
use Rattle.std.proofs.Common.{◌≡◌, ℕ, suc, ◌+◌, ◌^◌, ◌≤◌, ◌<◌, Bool, Some, List, [], ◌∷◌, ◌++◌, length, take, refl, ap, sym, ◌∙◌, subst, arith}
use Rattle.std.specs.Prelude.{IfSome, slice_get}
use Rattle.std.specs.List.{filter_map}
use Rattle.std.proofs.lemmas.List.{length-take, take-append-le}
use Rattle.std.proofs.lemmas.Option.{slice_get_within}
use Rattle.perimeter_core.specs.declared.entries.Act.{Act}
use Rattle.perimeter_core.specs.History.{Element, Setting}
use Rattle.perimeter_core.specs.Deeds.{done}
use Rattle.perimeter_core.specs.Legal.{feed_count}
use Rattle.sq_base.specs.declared.kinds.Tuple.{Tuple}
use Rattle.capture_reader.specs.Outcome.{CaptureFile}
use Rattle.histories.specs.Endings.{Ending}
use Rattle.conn_classifier.specs.Connections.{conns, decoded, distinct, served_tuple}
use Rattle.conn_classifier.specs.Rules.{usual_ports}
use Rattle.conn_classifier.specs.Plan.{PlanOf, plan_by, plan_of}
use Rattle.conn_blocks.specs.CallLists.{CallLists}
use Rattle.conn_blocks.specs.Orders.{settle}
use Rattle.histories.specs.declared.mode.Mode.{Mode}
use Rattle.histories.specs.Keeping.{KeepsFrom, KeepsPace, taken}
use Rattle.ring_quotas.specs.declared.setup.Setup.{Setup}
use Rattle.histories.proofs.ListPlaces.{get_front}
use Rattle.trace_replay.specs.Reasons.{AreFit, AreOrdered}
use Rattle.trace_replay.proofs.StaysAlike.{all_fixed}

-- a plan has few connections
few_taken : (ts : List Tuple) → length (take 4096 ts) < 2 ^ 64
few_taken ts = let n = length-take 4096 ts in omega (arith, n)

pub few_conns : (file : CaptureFile) (verify : Bool) → length (plan_of file verify).tuples < 2 ^ 64
unfolding plan_by conns
few_conns file verify = few_taken (distinct (filter_map (served_tuple usual_ports) (decoded file verify)))

keeps_front : (squeues spread : ℕ) (mode : Mode) (budget q : ℕ) (S : Setting) (r : ℕ) (past H K : List Element)
    → KeepsFrom squeues spread mode budget q S r past (H ++ K) → KeepsFrom squeues spread mode budget q S r past H
keeps_front squeues spread mode budget q S r past [] K k = tt
keeps_front squeues spread mode budget q S r past (e ∷ H) K k = (k.0, keeps_front squeues spread mode budget q S r (past ++ e ∷ []) H K k.1)

-- the first marks of a history that fits do
pub fit_front : (setup : Setup) (q : ℕ) (e : Ending) (A B : List Element) → A ++ B ≡ e.history → AreFit setup q e → AreFit setup q (record e { history = A })
fit_front setup q e A B split fit = record {
  pace = λ r lt.
      keeps_front setup.squeues setup.spread setup.mode setup.budget q e.setting r [] A B
      (subst (λ (H : List Element). KeepsPace setup.squeues setup.spread setup.mode setup.budget q e.setting r H) (sym split) (fit.pace r lt));
  takes = λ r lt n m at is.
      let within = slice_get_within A n m at in
      let there : slice_get e.history n ≡ Some m = ap (λ (H : List Element). slice_get H n) (sym split) ∙ get_front A B n m at in
      let before : take n e.history ≡ take n A = ap (take n) (sym split) ∙ take-append-le n A B (omega (arith, within)) in
      let with_it : take (n + 1) e.history ≡ take (n + 1) A = ap (take (n + 1)) (sym split) ∙ take-append-le (n + 1) A B (omega (arith, within)) in
      subst (λ (H : List Element). IfSome (taken e.setting r H) (λ had. feed_count (done e.setting (take (n + 1) A)) ≤ had + setup.budget)) before
      (subst (λ (H : List Element). IfSome (taken e.setting r (take n e.history)) (λ had. feed_count (done e.setting H) ≤ had + setup.budget)) with_it (fit.takes r lt n m there is));
}

-- orders are fixed
same_list : {A : Type 0} (xs ys : List A) → length xs ≡ length ys → ((i : ℕ) (x y : A) → slice_get xs i ≡ Some x → slice_get ys i ≡ Some y → x ≡ y) → xs ≡ ys
same_list [] [] n h = refl
same_list [] (y ∷ ys) n h = absurd (let no : ⊥ = omega (arith, n) in no)
same_list (x ∷ xs) [] n h = absurd (let no : ⊥ = omega (arith, n) in no)
same_list (x ∷ xs) (y ∷ ys) n h = λ i. h 0 x y refl refl i ∷ same_list xs ys (omega (arith, n)) (λ k a b at is. h (suc k) a b at is) i

pub orders_once : (p : PlanOf) (calls : CallLists) (hs : List Ending) (orders others : List (List Act)) → AreOrdered p calls hs orders → AreOrdered p calls hs others → orders ≡ others
orders_once p calls hs orders others a b =
    same_list orders others (a.count ∙ sym b.count)
    (λ c x y at is.
    let one = a.each c x at in
    let two = b.each c y is in
    one.settled ∙ (ap (settle calls c) (all_fixed hs c one.did two.did one.all two.all) ∙ sym two.settled))
