use Rattle.std.proofs.Common.{◌≡◌, ◌<◌, ◌/◌, ◌++◌, ◌∷◌, [], ℕ, length, get_or, sym, ap, ◌∙◌, subst, arith}
use Rattle.std.specs.Vec.{vec_len}
use Rattle.std.proofs.lemmas.List.{length-map}
use Rattle.squeue.proofs.Named.{call_listed}
use Rattle.squeue.specs.declared.Act.TheVariants as Did
use Rattle.moving_bank.specs.declared.accounts.Transfer.{Transfer}
use Rattle.moving_bank.specs.Booking.{HasBooked, calls_of, transfer_at, transfers_of}
use Rattle.moving_bank.proofs.BankSteps.{came_in, row_is, table_place, transfer_read, went_out}
use Rattle.moving_bank.proofs.accounts.BankParts.call.Goals as goal

pub bounds-self-j : goal.bounds-self-j
bounds-self-j c =
    let rows = c.args.self.now.transfers.now in
    let transfers = transfers_of c.args.self.now in
    let place = (table_place transfers c.args.j c.args.k c.args._c (call_listed (calls_of transfers) c.args._c c.args.j c.args.k c.requires.exists)).0 in
    omega (arith, place, length-map rows (λ row. row.items))

pub index-requires : goal.index-requires
index-requires c =
    let rows = c.args.self.now.transfers.now in
    let transfers = transfers_of c.args.self.now in
    let place = table_place transfers c.args.j c.args.k c.args._c (call_listed (calls_of transfers) c.args._c c.args.j c.args.k c.requires.exists) in
    let lt : c.args.j < length rows = let below = place.0 in omega (arith, below, length-map rows (λ row. row.items)) in
    let row = row_is rows c.args.j c.index-self-j.result lt c.index-self-j.is in
    let within = place.1 in
    subst (λ v. c.args.k / 2 < vec_len v) c.index-self-j.is (omega (arith, within, ap length row, c.index-self-j.result.ok))

pub returns-then-k-eq0-clause-stands : goal.returns-then-k-eq0-clause-stands
returns-then-k-eq0-clause-stands c had old =
    let rows = c.args.self.now.transfers.now in
    let transfers = transfers_of c.args.self.now in
    let k = c.args.account.now in
    let i : ℕ = c.args.k / 2 in
    let t = c.index.result.now in
    let place = table_place transfers c.args.j c.args.k c.args._c (call_listed (calls_of transfers) c.args._c c.args.j c.args.k c.requires.exists) in
    let lt : c.args.j < length rows = let below = place.0 in omega (arith, below, length-map rows (λ row. row.items)) in
    let within : i < length c.index-self-j.result.items = let below = place.1 in omega (arith, below, ap length (row_is rows c.args.j c.index-self-j.result lt c.index-self-j.is)) in
    let read = transfer_read rows c.args.j i c.index-self-j.result t lt within c.index-self-j.is (c.index.ensures ∙ ap (λ v. get_or v.items i t) (sym c.index-self-j.is)) in
    let its : t ≡ transfer_at (transfers_of k.bank) c.args.j i = read ∙ (λ n. transfer_at (transfers_of (sym c.requires.owner.its_bank n)) c.args.j i) in
    subst (λ (sum : ℕ). HasBooked (record k { sums = record k.sums { debit = sum } }) (had ++ Did.Call c.args.j c.args.k ∷ [])) (omega (arith, c.saturating_add-account.ensures, c.from.ensures))
    (went_out k had old c.args.j c.args.k t.amount (omega arith) c.if-k-eq0.true (ap (λ (t : Transfer). t.amount) its))

pub returns-else-k-eq0-clause-stands : goal.returns-else-k-eq0-clause-stands
returns-else-k-eq0-clause-stands c had old =
    let rows = c.args.self.now.transfers.now in
    let transfers = transfers_of c.args.self.now in
    let k = c.args.account.now in
    let i : ℕ = c.args.k / 2 in
    let t = c.index.result.now in
    let place = table_place transfers c.args.j c.args.k c.args._c (call_listed (calls_of transfers) c.args._c c.args.j c.args.k c.requires.exists) in
    let lt : c.args.j < length rows = let below = place.0 in omega (arith, below, length-map rows (λ row. row.items)) in
    let within : i < length c.index-self-j.result.items = let below = place.1 in omega (arith, below, ap length (row_is rows c.args.j c.index-self-j.result lt c.index-self-j.is)) in
    let read = transfer_read rows c.args.j i c.index-self-j.result t lt within c.index-self-j.is (c.index.ensures ∙ ap (λ v. get_or v.items i t) (sym c.index-self-j.is)) in
    let its : t ≡ transfer_at (transfers_of k.bank) c.args.j i = read ∙ (λ n. transfer_at (transfers_of (sym c.requires.owner.its_bank n)) c.args.j i) in
    subst (λ (sum : ℕ). HasBooked (record k { sums = record k.sums { credit = sum } }) (had ++ Did.Call c.args.j c.args.k ∷ [])) (omega (arith, c.saturating_add-account-else-k-eq0.ensures, c.from-else-k-eq0.ensures))
    (came_in k had old c.args.j c.args.k t.amount (omega arith) c.if-k-eq0.false (ap (λ (t : Transfer). t.amount) its))
