-- A squeue before its first mark, and one that has ended.
use Rattle.std.proofs.Common.{◌≡◌, ℕ, zero, suc, ◌+◌, IsTrue, Bool, true, false, if◌then◌else◌, Some, None, List, [], ◌∷◌, ◌++◌, length, map, refl, ap, sym, ◌∙◌, arith}
use Rattle.std.proofs.lemmas.List.{map-append, length-map}
use Rattle.std.proofs.lemmas.List.Elements.{All-cons, All-head, All-nil, All-tail}
use Rattle.std.proofs.lemmas.List.FromFn.{length-map-range_with_len, map-range_with_len_more}
use Rattle.std.specs.List.{range_with_len}
use Rattle.std.specs.Prelude.{All, slice_get}
use Rattle.std.proofs.lemmas.Simd.{map-map}
use Rattle.std.proofs.lemmas.Option.{get_or_from_slice_get, slice_get_within}
use Rattle.perimeter_core.specs.declared.marks.Own.TheVariants.{Free}
use Rattle.perimeter_core.specs.Ending.{IsOver}
use Rattle.perimeter_core.specs.History.{Element, Setting, passes, run}
use Rattle.histories.specs.Stays.{Stay, as_list, begun}
use Rattle.histories.specs.Quotas.{pairs}
use Rattle.histories.specs.declared.quota.Quota.{Quota}
use Rattle.histories.proofs.ListPlaces.{some_at, open_flag, from_map}
use Rattle.squeue_replay.specs.declared.guest.Guest.{Guest}
use Rattle.squeue_replay.specs.declared.squeue.Pass.{Pass}
use Rattle.squeue_replay.specs.Standing.{GuestOf, GuestStands, PassOf, PassStands, SqueueOf, Stands, guest_of}
use Rattle.squeue_replay.specs.Entering.{first_guest, first_pass}
use Rattle.squeue_replay.proofs.Reading.{kept}

pass_first : (S : Setting) (p : ℕ) (x : PassOf) → slice_get (map first_pass S.quotas) p ≡ Some x → PassStands S [] p x
pass_first S p x at =
    let q = from_map first_pass S.quotas p x at in
    let is : x ≡ first_pass q.0 = sym q.2 in
    let quota = get_or_from_slice_get S.quotas p q.0 (0, 0) q.1 in
    record {
      closed = ap (λ (v : PassOf). v.closed) is ∙ sym (open_flag (passes S) p);
      waiting = ap (λ (v : PassOf). v.waiting) is;
      feeds = let n = ap (λ (v : PassOf). v.feeds) is in let m = ap (λ (v : ℕ × ℕ). v.0) quota in omega (arith, n, m);
      asks = let n = ap (λ (v : PassOf). v.asks) is in let m = ap (λ (v : ℕ × ℕ). v.1) quota in omega (arith, n, m);
    }

first_stays : (b : Bool) → (if b then [] ∷ [] else []) ≡ map (λ (v : Stay). v.own) ([] ++ as_list (if b then Some (begun []) else None))
first_stays true = refl
first_stays false = refl

guest_first : (S : Setting) (c : ℕ) (g : GuestOf) → slice_get (map first_guest S.starts) c ≡ Some g → GuestStands S [] c g
guest_first S c g at =
    let b = from_map first_guest S.starts c g at in
    let is : g ≡ first_guest b.0 = sym b.2 in
    let here = get_or_from_slice_get S.starts c b.0 false b.1 in
    record {
      here = ap (λ (v : GuestOf). v.here) is ∙ sym here;
      due = ap (λ (v : GuestOf). v.due) is;
      queued = ap (λ (v : GuestOf). v.queued) is;
      left = ap (λ (v : GuestOf). v.left) is;
      came = ap (λ (v : GuestOf). v.came) is;
      did = ap (λ (v : GuestOf). v.did) is ∙ (first_stays b.0 ∙ ap (λ (h : Bool). map (λ (v : Stay). v.own) ([] ++ as_list (if h then Some (begun []) else None))) (sym here));
    }

pub first_stands : (S : Setting) (s : SqueueOf) → s.own ≡ Free → s.wake ≡ false → s.chain ≡ [] → s.hand ≡ [] → s.passes ≡ map first_pass S.quotas → s.guests ≡ map first_guest S.starts → Stands S [] s
first_stands S s own wake chain hand passes_ guests_ =
    record {
      legal = tt;
      own = own;
      wake = wake;
      chain = chain;
      hand = hand;
      passes = ap length passes_ ∙ length-map S.quotas first_pass;
      each_pass = λ p x at. pass_first S p x (ap (λ (xs : List PassOf). slice_get xs p) (sym passes_) ∙ at);
      guests = ap length guests_ ∙ length-map S.starts first_guest;
      each_guest = λ c g at. guest_first S c g (ap (λ (xs : List GuestOf). slice_get xs c) (sym guests_) ∙ at);
    }

-- whether it has ended
pub over : (S : Setting) (H : List Element) (s : SqueueOf) → Stands S H s → s.own ≡ Free → s.chain ≡ [] → ((p : ℕ) (x : PassOf) → slice_get s.passes p ≡ Some x → x.closed ≡ true) → IsOver S (run S H)
over S H s k free empty closed =
    record {
      closed = λ p less. let x = some_at s.passes p (let n = k.passes in omega (arith, n, less)) in sym (k.each_pass p x.0 x.1).closed ∙ closed p x.0 x.1;
      free = sym k.own ∙ free;
      empty = sym k.chain ∙ empty;
    }

pub over_closed : (S : Setting) (H : List Element) (s : SqueueOf) → Stands S H s → IsOver S (run S H) → (p : ℕ) (x : PassOf) → slice_get s.passes p ≡ Some x → x.closed ≡ true
over_closed S H s k o p x at = (k.each_pass p x at).closed ∙ o.closed p (let n = k.passes in let less = slice_get_within s.passes p x at in omega (arith, n, less))

-- what the code makes

abbrev pub made_pass : Quota → Pass
made_pass q = record { closed = false; waiting = false; feeds = q.feeds; asks = q.asks }

made_passes : (qs : List Quota) → map kept (map made_pass qs) ≡ map first_pass (pairs qs)
made_passes [] = refl
made_passes (q ∷ qs) = ap (λ (ys : List PassOf). first_pass (q.feeds, q.asks) ∷ ys) (made_passes qs)

pub passes_first : (xs : List Pass) (qs rs : List Quota) (quotas : List (ℕ × ℕ)) → xs ≡ map made_pass rs → rs ≡ qs → pairs qs ≡ quotas → map kept xs ≡ map first_pass quotas
passes_first xs qs rs quotas is same are = ap (map kept) (is ∙ ap (map made_pass) same) ∙ (made_passes qs ∙ ap (map first_pass) are)

pub guests_first : (gs : List GuestOf) (starts : ℕ → Bool) (n m : ℕ) → gs ≡ map (λ c. first_guest (starts c)) (range_with_len 0 n) → n ≡ m → gs ≡ map first_guest (map starts (range_with_len 0 m))
guests_first gs starts n m is same = is ∙ (ap (λ (k : ℕ). map (λ c. first_guest (starts c)) (range_with_len 0 k)) same ∙ sym (map-map first_guest starts (range_with_len 0 m)))

pub one_guest_more : (f : ℕ → GuestOf) (gs hs : List Guest) (g : Guest) (n : ℕ) → map guest_of gs ≡ map f (range_with_len 0 n) → hs ≡ gs ++ g ∷ [] → guest_of g ≡ f n → map guest_of hs ≡ map f (range_with_len 0 (n + 1))
one_guest_more f gs hs g n so_far is one =
    ap (map guest_of) is ∙ (map-append guest_of gs (g ∷ []) ∙ (ap (λ (xs : List GuestOf). xs ++ guest_of g ∷ []) so_far
    ∙ (ap (λ (x : GuestOf). map f (range_with_len 0 n) ++ x ∷ []) one ∙ sym (map-range_with_len_more f 0 n n (omega arith)))))

pub counted_guests : (gs : List Guest) (f : ℕ → GuestOf) (n : ℕ) → map guest_of gs ≡ map f (range_with_len 0 n) → length gs ≡ n
counted_guests gs f n is = sym (length-map gs guest_of) ∙ (ap length is ∙ length-map-range_with_len f 0 n)

pub closed_all : (xs : List Pass) → All (λ p. IsTrue p.closed) xs → (p : ℕ) (x : PassOf) → slice_get (map kept xs) p ≡ Some x → x.closed ≡ true
closed_all [] all p x at = absurd cc
closed_all (y ∷ xs) all zero x at = let same : kept y ≡ x = cc in sym (ap (λ (v : PassOf). v.closed) same) ∙ All-head (λ p. IsTrue p.closed) y xs all
closed_all (y ∷ xs) all (suc p) x at = closed_all xs (All-tail (λ p. IsTrue p.closed) y xs all) p x at

pub all_closed : (xs : List Pass) → ((p : ℕ) (x : PassOf) → slice_get (map kept xs) p ≡ Some x → x.closed ≡ true) → All (λ p. IsTrue p.closed) xs
all_closed [] each = All-nil (λ p. IsTrue p.closed)
all_closed (y ∷ xs) each = All-cons (λ p. IsTrue p.closed) y xs (each 0 (kept y) refl) (all_closed xs (λ p x at. each (suc p) x at))
