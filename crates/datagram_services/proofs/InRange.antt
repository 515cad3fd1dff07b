-- The setup of accepted words is in range, without spread and without trace.
use Rattle.std.proofs.Common.{◌≡◌, false, List, Some, ap, sym, subst, codes, refl, arith}
use Rattle.std.specs.Prelude.{length, nat_le, option_and_then}
use Rattle.ring_quotas.specs.Limits.{most_budget, most_rings, most_squeues}
use Rattle.ring_quotas.specs.Quotas.{IsInRange}
use Rattle.ring_quotas.specs.declared.setup.Setup.{Setup}
use Rattle.histories.specs.ModeWords.{mode_of}
use Rattle.shell.specs.Asked.{AskedOf, GivenOf, asked, asked_by, calls_of, givens, no_call, number_for, text_for}
use Rattle.shell.specs.Table.{Text}
use Rattle.shell.specs.Words.{Use, calls_in, uses_of}
use Rattle.shell.specs.declared.asked.NoCall.{NoCall}
use Rattle.shell.proofs.Chains.{chained, guarded, mapped}
use Rattle.shell.proofs.Ranges.{ranged}
use Rattle.datagram_services.specs.MoreWords.{setup_of, sqmore_table}

-- where the options gave this
pub plain_range : (us : List Use) (gs : List GivenOf) (s : Setup) → givens sqmore_table.options us ≡ Some gs → setup_of gs ≡ Some s → IsInRange s
plain_range us gs s e f =
    let q = chained _ (number_for (codes "squeues") gs) s f in
    let r = chained _ (number_for (codes "rings") gs) s q.gives in
    let m = chained _ (option_and_then mode_of (text_for (codes "mode") gs)) s r.gives in
    let b = mapped _ (number_for (codes "budget") gs) s m.gives in
    subst IsInRange b.gives (record {
      squeues = ranged 1 most_squeues (codes "squeues") (Some 1) q.value us sqmore_table.options gs (omega arith, omega arith) refl e q.found;
      rings = ranged 1 most_rings (codes "rings") (Some 1) r.value us sqmore_table.options gs (omega arith, omega arith) refl e r.found;
      budget = (ranged 1 most_budget (codes "budget") (Some 64) b.value us sqmore_table.options gs (omega arith, omega arith) refl e b.found).0;
      spread = omega arith;
    })

-- where the words asked for this
pub asked_range : (words : List Text) (a : AskedOf NoCall) (s : Setup) → asked no_call sqmore_table words ≡ Some a → setup_of a.givens ≡ Some s → IsInRange s
asked_range words a s e f =
    let u = chained (asked_by no_call sqmore_table) (uses_of sqmore_table.options words) a e in
    let c = guarded (nat_le (length (calls_in u.value)) sqmore_table.most_calls) _ a u.gives in
    let g = chained _ (givens sqmore_table.options u.value) a c.1 in
    let k = mapped _ (calls_of no_call (calls_in u.value)) a g.gives in
    plain_range u.value a.givens s (subst (λ (gs : List GivenOf). givens sqmore_table.options u.value ≡ Some gs) (ap (λ (x : AskedOf NoCall). x.givens) k.gives) g.found) f

plain_spread : (gs : List GivenOf) (s : Setup) → setup_of gs ≡ Some s → (s.spread ≡ 0) × (s.trace ≡ false)
plain_spread gs s f =
    let q = chained _ (number_for (codes "squeues") gs) s f in
    let r = chained _ (number_for (codes "rings") gs) s q.gives in
    let m = chained _ (option_and_then mode_of (text_for (codes "mode") gs)) s r.gives in
    let b = mapped _ (number_for (codes "budget") gs) s m.gives in
    (sym (ap (λ (x : Setup). x.spread) b.gives), sym (ap (λ (x : Setup). x.trace) b.gives))

pub asked_spread : (words : List Text) (a : AskedOf NoCall) (s : Setup) → asked no_call sqmore_table words ≡ Some a → setup_of a.givens ≡ Some s → (s.spread ≡ 0) × (s.trace ≡ false)
asked_spread words a s e f = plain_spread a.givens s f
