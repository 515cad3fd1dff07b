-- Each call that there is stands among all calls, with its connection, its thread and its number.
use Rattle.std.proofs.Common.{◌≡◌, ℕ, ◌+◌, suc, zero, List, [], ◌∷◌, ◌++◌, Some, subst, arith}
use Rattle.std.specs.Prelude.{Contains, slice_get}
use Rattle.std.proofs.lemmas.List.Elements.{Contains-append_left, Contains-append_right}
use Rattle.std.proofs.lemmas.Option.{none-some}
use Rattle.tcb_machine.specs.declared.kinds.Call.{Call}
use Rattle.conn_blocks.specs.Allowed.{named_from, all_from, all_calls}
use Rattle.conn_blocks.specs.CallLists.{CallLists, call_at}

named_has : (j k : ℕ) (xs : List (ℕ × Call)) (m : ℕ) (x : ℕ × Call) → slice_get xs m ≡ Some x → Contains (named_from j k xs) (x.0, j, k + m)
named_has j k [] m x e = absurd (none-some x e)
named_has j k (y ∷ xs) zero x e =
    let same : y ≡ x = cc e in
    let number : k ≡ k + zero = omega arith in
    (0, omega arith, λ i. ((same i).0, j, number i))
named_has j k (y ∷ xs) (suc m) x e =
    let number : suc k + m ≡ k + suc m = omega arith in
    let r : Contains (named_from j (suc k) xs) (x.0, j, k + suc m) = subst (λ n. Contains (named_from j (suc k) xs) (x.0, j, n)) number (named_has j (suc k) xs m x e) in
    let lt = r.1 in
    (suc r.0, omega (arith, lt), r.2)

all_have : (j : ℕ) (ls : CallLists) (i k : ℕ) (x : ℕ × Call) → call_at ls i k ≡ Some x → Contains (all_from j ls) (x.0, j + i, k)
all_have j [] i k x e = absurd (none-some x e)
all_have j (l ∷ ls) zero k x e =
    let thread : j ≡ j + zero = omega arith in
    let number : 0 + k ≡ k = omega arith in
    let here = subst (λ n. Contains (named_from j 0 l) (x.0, j, n)) number (named_has j 0 l k x e) in
    subst (λ t. Contains (named_from j 0 l ++ all_from (suc j) ls) (x.0, t, k)) thread (Contains-append_left (named_from j 0 l) (all_from (suc j) ls) (x.0, j, k) here)
all_have j (l ∷ ls) (suc i) k x e =
    let thread : suc j + i ≡ j + suc i = omega arith in
    Contains-append_right (named_from j 0 l) (all_from (suc j) ls) (x.0, j + suc i, k) (subst (λ t. Contains (all_from (suc j) ls) (x.0, t, k)) thread (all_have (suc j) ls i k x e))

pub call_is_named : (calls : CallLists) (c j k : ℕ) (call : Call) → call_at calls j k ≡ Some (c, call) → Contains (all_calls calls) (c, j, k)
call_is_named calls c j k call e =
    let thread : 0 + j ≡ j = omega arith in
    subst (λ t. Contains (all_calls calls) (c, t, k)) thread (all_have 0 calls j k (c, call) e)
