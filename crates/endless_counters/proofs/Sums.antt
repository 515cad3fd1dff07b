-- Sums modulo a number.
use Rattle.std.proofs.Common.{◌≡◌, ℕ, suc, ◌+◌, ◌%◌, ◌^◌, ◌<◌, Some, List, [], ◌∷◌, length, take, get_or, slice_get, refl, ap, sym, ◌∙◌, arith}
use Rattle.std.specs.Prelude.{sum, sum_by}
use Rattle.std.proofs.Math.Nat.{mod-add-mod}
use Rattle.std.proofs.lemmas.List.Sums.{sum_by-cons, sum_by_more}
use Rattle.squeue_streams.specs.Taking.{Takes}
use Rattle.squeue_arrivals.specs.Arriving.{IsMadeOf}
use Rattle.endless_counters.specs.declared.totals.Adding.{Adding}
use Rattle.endless_counters.specs.declared.totals.Total.{Total}
use Rattle.endless_counters.specs.Counting.{Adds, AreSummed, AreTotals}
use Rattle.endless_counters.specs.Serving.{Begins, Step}

abbrev m : ℕ
m = 2 ^ 64

-- one place more
place_more : {A : Type 0} (f : A → ℕ) (xs : List A) (i : ℕ) (d x : A) (before more now : ℕ) → i < length xs → x ≡ get_or xs i d → before ≡ sum_by f (take i xs) % m → more ≡ f x → now ≡ (before + more) % m → now ≡ sum_by f (take (i + 1) xs) % m
place_more f xs i d x before more now lt at was is step =
    step ∙ (ap (λ (n : ℕ). (n + more) % m) was ∙ (mod-add-mod (sum_by f (take i xs)) m more
    ∙ ap (λ (n : ℕ). n % m) (ap (λ (n : ℕ). sum_by f (take i xs) + n) (is ∙ ap f at) ∙ sym (sum_by_more f xs i d lt))))

pub summed_more : {A : Type 0} (held : A → Total) (xs : List A) (i : ℕ) (d x : A) (before more now : Total) → i < length xs → x ≡ get_or xs i d → AreSummed held (take i xs) before → more ≡ held x
    → now.amounts ≡ (before.amounts + more.amounts) % m → now.total ≡ (before.total + more.total) % m → AreSummed held (take (i + 1) xs) now
summed_more held xs i d x before more now lt at was is amounts total =
    record {
      amounts = place_more (λ y. (held y).amounts) xs i d x before.amounts more.amounts now.amounts lt at was.amounts (ap (λ (t : Total). t.amounts) is) amounts;
      total = place_more (λ y. (held y).total) xs i d x before.total more.total now.total lt at was.total (ap (λ (t : Total). t.total) is) total;
    }

-- sums modulo m of what is the same modulo m
both : (a b c d : ℕ) → a % m ≡ b % m → c % m ≡ d % m → (a + c) % m ≡ (b + d) % m
both a b c d h t =
    sym (mod-add-mod a m c) ∙ (ap (λ (n : ℕ). (n + c) % m) h ∙ (mod-add-mod b m c ∙ (ap (λ (n : ℕ). n % m) (let e : b + c ≡ c + b = omega arith in e)
    ∙ (sym (mod-add-mod c m b) ∙ (ap (λ (n : ℕ). (n + b) % m) t ∙ (mod-add-mod d m b ∙ ap (λ (n : ℕ). n % m) (let e : d + b ≡ b + d = omega arith in e)))))))

sums_mod : {A : Type 0} (f g : A → ℕ) (xs : List A) → ((i : ℕ) (x : A) → slice_get xs i ≡ Some x → f x % m ≡ g x % m) → sum_by f xs % m ≡ sum_by g xs % m
sums_mod f g [] each = refl
sums_mod f g (x ∷ xs) each =
    ap (λ (n : ℕ). n % m) (sum_by-cons f x xs)
    ∙ (both (f x) (g x) (sum_by f xs) (sum_by g xs) (each 0 x refl) (sums_mod f g xs (λ i y at. each (suc i) y at)) ∙ ap (λ (n : ℕ). n % m) (sym (sum_by-cons g x xs)))

-- the total is of these amounts
pub record IsTotal (t : Total) (taken : List ℕ) : Type 0 where
  pub amounts : t.amounts % m ≡ length taken % m
  pub total : t.total % m ≡ sum taken % m

pub totals : {A : Type 0} (held : A → Total) (taken : A → List ℕ) (all : List A) (seen : Total) → ((i : ℕ) (x : A) → slice_get all i ≡ Some x → IsTotal (held x) (taken x))
    → AreSummed held all seen → AreTotals taken all seen
totals held taken all seen each summed =
    record {
      amounts = summed.amounts ∙ sums_mod (λ x. (held x).amounts) (λ x. length (taken x)) all (λ i x at. (each i x at).amounts);
      total = summed.total ∙ sums_mod (λ x. (held x).total) (λ x. sum (taken x)) all (λ i x at. (each i x at).total);
    }

-- amounts that are added one after another
added : (xs : List ℕ) (from to : Total) → Takes Adds from xs to → (to.amounts % m ≡ (from.amounts + length xs) % m) × (to.total % m ≡ (from.total + sum xs) % m)
added [] from to is = (
  ap (λ (t : Total). t.amounts % m) is ∙ ap (λ (n : ℕ). n % m) (let e : from.amounts ≡ from.amounts + 0 = omega arith in e),
  ap (λ (t : Total). t.total % m) is ∙ ap (λ (n : ℕ). n % m) (let e : from.total ≡ from.total + 0 = omega arith in e),
)
added (x ∷ xs) from to is =
    let next : Total = is.0 in
    let rest = added xs next to is.2 in
    let c = sum_by-cons (λ (y : ℕ). y) x xs in (
      rest.0 ∙ (ap (λ (n : ℕ). (n + length xs) % m) is.1.amounts ∙ (mod-add-mod (from.amounts + 1) m (length xs)
          ∙ ap (λ (n : ℕ). n % m) (let e : (from.amounts + 1) + length xs ≡ from.amounts + length (x ∷ xs) = omega arith in e))),
      rest.1 ∙ (ap (λ (n : ℕ). (n + sum xs) % m) is.1.total ∙ (mod-add-mod (from.total + x) m (sum xs)
          ∙ ap (λ (n : ℕ). n % m) (let e : (from.total + x) + sum xs ≡ from.total + sum (x ∷ xs) = omega (arith, c) in e))),
    )

pub is_total : (w : Adding) (xs : List ℕ) (state : Total) → IsMadeOf Begins Step w xs state → IsTotal state xs
is_total w xs state made =
    let all = added xs made.first state made.taken in
    let none = ap (λ (t : Total). t.amounts) made.begun in
    let nothing = ap (λ (t : Total). t.total) made.begun in
    record {
      amounts = all.0 ∙ ap (λ (n : ℕ). n % m) (let e : made.first.amounts + length xs ≡ length xs = omega (arith, none) in e);
      total = all.1 ∙ ap (λ (n : ℕ). n % m) (let e : made.first.total + sum xs ≡ sum xs = omega (arith, nothing) in e);
    }
