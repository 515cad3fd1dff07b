use Rattle.std.proofs.Common.{◌≡◌, ◌<◌, ◌+◌, ◌++◌, ◌∷◌, [], ℕ, List, length, get_or, sym, ap, ◌∙◌, subst, arith}
use Rattle.std.specs.Vec.{vec_len}
use Rattle.squeue.specs.declared.Act.TheVariants as Did
use Rattle.squeue.proofs.Rows.{row_read, row_within, value_read}
use Rattle.moving_bank.specs.Booking.{HasBooked, deposits_of, row_of}
use Rattle.moving_bank.proofs.BankSteps.{deposited}
use Rattle.moving_bank.proofs.accounts.BankParts.feed.Goals as goal

pub index-amount-requires : goal.index-amount-requires
index-amount-requires c =
    let rows = c.args.self.now.deposits.now in
    let row = row_read (λ v. v.items) rows c.args.c c.args.n c.index-self-c.result c.index-self-c.result c.requires.range c.index-self-c.is in
    let within = row_within (λ v. v.items) rows c.args.c c.args.n c.requires.limit in
    subst (λ v. c.args.n < vec_len v) c.index-self-c.is (omega (arith, within, ap length row, c.index-self-c.result.ok))

pub returns-clause-stands : goal.returns-clause-stands
returns-clause-stands c had old =
    let rows = c.args.self.now.deposits.now in
    let k = c.args.account.now in
    let within : c.args.n < length (row_of (deposits_of c.args.self.now) c.args.c) = row_within (λ v. v.items) rows c.args.c c.args.n c.requires.limit in
    let amount : c.index-amount.result.now ≡ get_or (row_of (deposits_of c.args.self.now) c.args.c) c.args.n 0 =
    value_read (λ v. v.items) rows c.args.c c.args.n c.index-self-c.result c.index-amount.result.now c.requires.range within c.index-self-c.is (c.index-amount.ensures ∙ ap (λ v. get_or v.items c.args.n c.index-amount.result.now) (sym c.index-self-c.is)) in
    let row : row_of (deposits_of c.args.self.now) c.args.c ≡ row_of (deposits_of k.bank) k.number = λ i. row_of (deposits_of (sym c.requires.owner.its_bank i)) (sym c.requires.owner.number i) in
    subst (λ (credit : ℕ). HasBooked (record k { had = k.had + 1; sums = record k.sums { credit = credit } }) (had ++ Did.Feed c.args.n ∷ [])) (omega (arith, c.saturating_add-account.ensures, c.from.ensures))
    (deposited k had old c.args.n c.index-amount.result.now (omega arith) (amount ∙ ap (λ (r : List ℕ). get_or r c.args.n 0) row))
