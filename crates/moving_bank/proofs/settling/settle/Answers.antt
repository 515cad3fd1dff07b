use Rattle.std.proofs.Common.{◌≡◌, ◌^◌, ◌<◌, ◌≤◌, ◌+◌, ℕ, List, [], ◌∷◌, ◌++◌, Vec, length, map, sum, sym, ap, ◌∙◌, subst, arith}
use Rattle.std.specs.Prelude.{All, sum_by}
use Rattle.std.specs.List.{range_with_len}
use Rattle.std.specs.declared.alloc.Global.{Global}
use Rattle.std.proofs.lemmas.List.{length-map}
use Rattle.std.proofs.lemmas.List.Elements.{All-map}
use Rattle.std.proofs.lemmas.List.FromFn.{map-range_with_len_more}
use Rattle.std.proofs.lemmas.Simd.{map-map}
use Rattle.squeue.specs.Calls.{limits_for}
use Rattle.squeue.proofs.Rows.{all_short, lengths_of}
use Rattle.moving_bank.specs.declared.accounts.Bank.{Bank}
use Rattle.moving_bank.specs.declared.accounts.Statement.{Statement}
use Rattle.moving_bank.specs.declared.accounts.Transfer.{Transfer}
use Rattle.moving_bank.specs.Booking.{accounts_of, calls_of, deposits_of}
use Rattle.moving_bank.specs.Settling.{statement_of, statements_of}
use Rattle.moving_bank.proofs.Called.{IsOf, all_named, few_calls}
use Rattle.moving_bank.proofs.Statements.{had_theirs, its_statement}
use Rattle.moving_bank.proofs.Totals.{money_kept, summed_rows}
use Rattle.moving_bank.proofs.settling.settle.Goals as goal

pub lengths-requires : goal.lengths-requires
lengths-requires g c = all_short (λ row. length row.items) c.args.deposits.now (omega (arith, c.requires.deposits))

pub serve_called-requires-clause-few : goal.serve_called-requires-clause-few
serve_called-requires-clause-few g c κs within =
    let deposits = c.args.deposits.now in
    let transfers : List (List Transfer) = map (λ row. row.items) c.args.transfers.now in
    let counts : c.deref.result.now ≡ map (λ row. length row.items) deposits = c.deref.ensures.value ∙ c.in_ok-counts.ensures in
    let calls : map (λ (called : Vec ℕ Global). called.items) c.in_ok-calls.calls.items ≡ calls_of transfers = c.in_ok-calls.ensures ∙ sym (map-map accounts_of (λ (row : Vec Transfer Global). row.items) c.args.transfers.now) in
    record {
      conns = omega (arith, ap length counts, length-map deposits (λ row. length row.items), c.requires.accounts);
      feeds = subst (λ (ns : List ℕ). sum ns ≤ 2 ^ 20) (sym counts) c.requires.deposits;
      called = subst (λ (ls : List (List ℕ)). All (λ called. length called ≤ 2 ^ 12) ls) (sym calls)
          (few_calls transfers (All-map (λ (row : List Transfer). length row ≤ 2 ^ 11) (λ (row : Vec Transfer Global). row.items) c.args.transfers.now c.requires.transfers));
    }

pub serve_called-requires-clause-range : goal.serve_called-requires-clause-range
serve_called-requires-clause-range g c κs within =
    let deposits = c.args.deposits.now in
    let transfers : List (List Transfer) = map (λ row. row.items) c.args.transfers.now in
    let counts : c.deref.result.now ≡ map (λ row. length row.items) deposits = c.deref.ensures.value ∙ c.in_ok-counts.ensures in
    let n : length deposits ≡ length c.deref.result.now = sym (length-map deposits (λ row. length row.items)) ∙ sym (ap length counts) in
    let calls : map (λ (called : Vec ℕ Global). called.items) c.in_ok-calls.calls.items ≡ calls_of transfers = c.in_ok-calls.ensures ∙ sym (map-map accounts_of (λ (row : Vec Transfer Global). row.items) c.args.transfers.now) in
    subst (λ (ls : List (List ℕ)). All (λ called. All (λ d. d < length c.deref.result.now) called) ls) (sym calls)
    (subst (λ (m : ℕ). All (λ called. All (λ d. d < m) called) (calls_of transfers)) n
    (all_named (length deposits) transfers (All-map (All (IsOf (length deposits))) (λ (row : Vec Transfer Global). row.items) c.args.transfers.now c.requires.named)))

pub serve_called-requires-clause-limits : goal.serve_called-requires-clause-limits
serve_called-requires-clause-limits g c κs within =
    let counts : c.deref.result.now ≡ map (λ row. length row.items) c.args.deposits.now = c.deref.ensures.value ∙ c.in_ok-counts.ensures in
    let feeds = lengths_of (λ (row : Vec ℕ Global). row.items) c.args.deposits.now ∙ sym counts in
    let calls : map (λ (called : Vec ℕ Global). called.items) c.in_ok-calls.calls.items ≡ calls_of (map (λ (row : Vec Transfer Global). row.items) c.args.transfers.now) =
    c.in_ok-calls.ensures ∙ sym (map-map accounts_of (λ (row : Vec Transfer Global). row.items) c.args.transfers.now) in
    λ i. limits_for (feeds i) (sym calls i)

pub part_there-requires : goal.part_there-requires
part_there-requires g c =
    let bank : Bank = record { deposits = c.args.deposits; transfers = c.args.transfers } in
    let counts : c.deref.result.now ≡ map (λ row. length row.items) c.args.deposits.now = c.deref.ensures.value ∙ c.in_ok-counts.ensures in
    let had = had_theirs bank c.in_ok-finished.finished c.deref.result.now (map (λ (called : Vec ℕ Global). called.items) c.in_ok-calls.calls.items) c.in_ok-finished.ensures.had counts c.in_ok-calls.ensures in
    let n = length-map c.args.deposits.now (λ (row : Vec ℕ Global). length row.items) in
    let m = length-map (deposits_of bank) length in
    let k = length-map c.args.deposits.now (λ (row : Vec ℕ Global). row.items) in
    let it = had.each c.loop-c.c (omega (arith, c.loop-c-test.true, ap length c.in_ok-counts.ensures, n, m, k)) in
    (it.part, it.lies)

pub loop-c-preserved : goal.loop-c-preserved
loop-c-preserved g c =
    let deposits : List (List ℕ) = map (λ row. row.items) c.args.deposits.now in
    let transfers : List (List Transfer) = map (λ row. row.items) c.args.transfers.now in
    let bank : Bank = record { deposits = c.args.deposits; transfers = c.args.transfers } in
    let counts : c.deref.result.now ≡ map (λ row. length row.items) c.args.deposits.now = c.deref.ensures.value ∙ c.in_ok-counts.ensures in
    let had = had_theirs bank c.in_ok-finished.finished c.deref.result.now (map (λ (called : Vec ℕ Global). called.items) c.in_ok-calls.calls.items) c.in_ok-finished.ensures.had counts c.in_ok-calls.ensures in
    let n = length-map c.args.deposits.now (λ (row : Vec ℕ Global). length row.items) in
    let m = length-map deposits length in
    let k = length-map c.args.deposits.now (λ (row : Vec ℕ Global). row.items) in
    let it = had.each c.loop-c.c (omega (arith, c.loop-c-test.true, ap length c.in_ok-counts.ensures, n, m, k)) in
    let few : sum (map length deposits) ≤ 2 ^ 20 = subst (λ (ns : List ℕ). sum ns ≤ 2 ^ 20) (sym (lengths_of (λ (row : Vec ℕ Global). row.items) c.args.deposits.now)) c.requires.deposits in
    let range = c.requires.pool.1 in
    let threads : length transfers ≤ 63 = omega (arith, c.requires.pool.0, range, length-map c.args.transfers.now (λ (row : Vec Transfer Global). row.items)) in
    let short = All-map (λ (row : List Transfer). length row ≤ 2 ^ 11) (λ (row : Vec Transfer Global). row.items) c.args.transfers.now c.requires.transfers in
    let is = its_statement bank c.in_ok-finished.finished c.loop-c.c c.part_there.result.now it c.part_there.ensures few threads short in
    c.in_ok-push.ensures.items
    ∙ ((λ i. c.loop-c.invariant i ++ is i ∷ []) ∙ sym (map-range_with_len_more (statement_of deposits transfers) 0 c.loop-c.c c.loop-c.c (omega arith)))

pub returns-clause-statements : goal.returns-clause-statements
returns-clause-statements g c =
    let deposits : List (List ℕ) = map (λ row. row.items) c.args.deposits.now in
    let transfers : List (List Transfer) = map (λ row. row.items) c.args.transfers.now in
    let n = length-map c.args.deposits.now (λ (row : Vec ℕ Global). length row.items) in
    let k = length-map c.args.deposits.now (λ (row : Vec ℕ Global). row.items) in
    let all : c.loop-c.c ≡ length deposits = omega (arith, c.loop-c-test.false, c.loop-c.auto.c-end, ap length c.in_ok-counts.ensures, n, k) in
    c.loop-c.invariant ∙ ap (λ (m : ℕ). map (statement_of deposits transfers) (range_with_len 0 m)) all

pub returns-clause-kept : goal.returns-clause-kept
returns-clause-kept g c =
    let deposits : List (List ℕ) = map (λ row. row.items) c.args.deposits.now in
    let transfers : List (List Transfer) = map (λ row. row.items) c.args.transfers.now in
    let n = length-map c.args.deposits.now (λ (row : Vec ℕ Global). length row.items) in
    let k = length-map c.args.deposits.now (λ (row : Vec ℕ Global). row.items) in
    let all : c.loop-c.c ≡ length deposits = omega (arith, c.loop-c-test.false, c.loop-c.auto.c-end, ap length c.in_ok-counts.ensures, n, k) in
    let are : c.loop-c.statements.items ≡ statements_of deposits transfers = c.loop-c.invariant ∙ ap (λ (m : ℕ). map (statement_of deposits transfers) (range_with_len 0 m)) all in
    let named = All-map (All (IsOf (length c.args.deposits.now))) (λ (row : Vec Transfer Global). row.items) c.args.transfers.now c.requires.named in
    ap (sum_by (λ (s : Statement). s.credit)) are
    ∙ (money_kept deposits transfers (subst (λ (m : ℕ). All (All (IsOf m)) transfers) (sym k) named)
    ∙ (λ i. summed_rows (λ (row : Vec ℕ Global). row.items) c.args.deposits.now i + sum_by (λ (s : Statement). s.debit) (sym are i)))
