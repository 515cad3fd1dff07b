-- Keys at their places, when one more comes or an item more.
use Rattle.std.proofs.Common.{◌≡◌, ◌≢◌, ℕ, zero, ◌+◌, ◌*◌, ◌^◌, ◌<◌, ◌≤◌, ◌⊎◌, inl, inr, Some, List, [], ◌∷◌, ◌++◌, length, slice_get, refl, ap, sym, ◌∙◌, subst, arith, length-append}
use Rattle.std.specs.Prelude.{Contains, nat_eq}
use Rattle.std.specs.HashSet.{IsUnique, spare}
use Rattle.std.proofs.Math.Nat.{le_of_mul-le-mul_right, mul-le-mul_right}
use Rattle.std.proofs.lemmas.Bool.{cases_eq}
use Rattle.std.proofs.lemmas.Option.{get_or_from_slice_get, slice_get_within}
use Rattle.std.proofs.lemmas.List.Elements.{Contains-append_left}
use Rattle.turn_gate.specs.History.{Begins}
use Rattle.turn_gate.specs.Passes.{number, seen}
use Rattle.turn_gate.specs.declared.pass.Pass.{Pass}
use Rattle.perimeter_core.specs.History.{Element, Limits}
use Rattle.squeue_state.specs.Naming.{Named, setting_of}
use Rattle.stream_stays.specs.declared.place.Stays.{Stays}
use Rattle.stream_stays.specs.Places.{Knows}
use Rattle.squeue_arrivals.specs.Arriving.{items_for}
use Rattle.squeue_arrivals.specs.Keyed.{IsFirst}
use Rattle.squeue_arrivals.specs.Keeping.{AllCame, AllCameBut, HasAll, HasKeys, HasSeated, IsTable, IsUnused, Keeps, KeepsBut, Serves}
use Rattle.squeue_arrivals.specs.Placed.{SameRing, keys_in, most_in, place_of}
use Rattle.squeue_arrivals.specs.declared.ring_keys.RingKeys.{RingKeys}
use Rattle.squeue_arrivals.specs.declared.steps.Keyed.{Keyed}
use Rattle.squeue_arrivals.proofs.KeyLists.{items_more, items_other, one_number}
use Rattle.squeue_arrivals.proofs.PlacesKept.{leaves_few, serves_on, unused_on}
use Rattle.squeue_arrivals.proofs.Seated.{get_more}

-- places of two numbers are two
pub place_apart : (k : RingKeys) (i j : ℕ) → i ≢ j → place_of k i ≢ place_of k j
place_apart k i j other same =
    let some : zero < k.rings = omega (arith, k.fits.0) in
    let le : i ≤ j = le_of_mul-le-mul_right (omega (arith, same)) some in
    let ge : j ≤ i = le_of_mul-le-mul_right (omega (arith, same)) some in
    other (omega (arith, le, ge))

pub place_same : (a b : RingKeys) (i : ℕ) → SameRing a b → place_of b i ≡ place_of a i
place_same a b i same = rw (same.number, same.rings) refl

pub ring_on : (a b c : RingKeys) → SameRing a b → SameRing b c → SameRing a c
ring_on a b c x y = record { number = y.number ∙ x.number; rings = y.rings ∙ x.rings; most = y.most ∙ x.most }

pub is_among : (ks : List ℕ) (i k : ℕ) → slice_get ks i ≡ Some k → Contains ks k
is_among ks i k at = (i, slice_get_within ks i k at, get_or_from_slice_get ks i k k at)

-- what was added last is there
pub last_there : (ks new : List ℕ) (key : ℕ) → new ≡ ks ++ key ∷ [] → slice_get new (length ks) ≡ Some key
last_there ks new key is = ap (λ (l : List ℕ). slice_get l (length ks)) is ∙ last_got ks key
  where
    last_got : (ks : List ℕ) (x : ℕ) → slice_get (ks ++ x ∷ []) (length ks) ≡ Some x
    last_got [] x = refl
    last_got (y ∷ ks) x = last_got ks x

-- there are fewer places than numbers
pub few_places : (k : RingKeys) → most_in k < 2 ^ 32
few_places k =
    let one : 1 ≤ k.rings = omega (arith, k.fits.0) in
    let le : 1 * k.most ≤ k.rings * k.most = mul-le-mul_right k.most one in
    omega (arith, le, k.fits.1)

-- a list that isn't another than the empty one is empty
none_of : {T : Type 0} (xs : List T) → (xs ≢ [] → ⊥) → xs ≡ []
none_of [] some = refl
none_of (x ∷ xs) some = absurd (some (λ e. cc e))

more_than_none : {T : Type 0} (xs : List T) (x : T) → xs ++ x ∷ [] ≢ []
more_than_none [] x e = cc e
more_than_none (y ∷ xs) x e = cc e

module _ {T : Type 0} (all : List (ℕ × T)) where
  -- nothing came for a key that has no place
  pub none_came : (k : RingKeys) (key : ℕ) → IsTable all k → (Contains (keys_in k) key → ⊥) → items_for key all ≡ []
  none_came k key table new = none_of (items_for key all) (λ some. new (table.every key some))

  -- an item more of a key that has a place
  table_more : (k : RingKeys) (i key : ℕ) (x : T) → IsTable all k → slice_get (keys_in k) i ≡ Some key → IsTable (all ++ (key, x) ∷ []) k
  table_more k i key x table at =
      record {
        few = table.few;
        room = table.room;
        distinct = table.distinct;
        every = λ other some. elim (cases_eq key other) [
          | inl same ↦ is_among (keys_in k) i other (at ∙ ap (λ (n : ℕ). Some n) same)
          | inr apart ↦ table.every other (subst (λ (xs : List T). xs ≢ []) (items_other other key x all apart) some)
        ];
      }

  came_more : (k : RingKeys) (key : ℕ) (x : T) → AllCameBut all k key → AllCame (all ++ (key, x) ∷ []) k
  came_more k key x came i other at = elim (cases_eq key other) [
    | inl same ↦ subst (λ (n : ℕ). items_for n (all ++ (key, x) ∷ []) ≢ []) same (subst (λ (xs : List T). xs ≢ []) (sym (items_more key x all)) (more_than_none (items_for key all) x))
    | inr apart ↦ subst (λ (xs : List T). xs ≢ []) (sym (items_other other key x all apart)) (came i other at (λ e. apart (sym e)))
  ]

  pub came_but : (k : RingKeys) (key : ℕ) → AllCame all k → AllCameBut all k key
  came_but k key came = λ i other at apart. came i other at

module _ {R W T S : Type 0} (step : Keyed W T S → S → T → S → Type 0) (limits : R → Limits) (s : Named R) (o : Keyed W T S) (all : List (ℕ × T)) where
  -- where every place keeps what it has, every key has its place
  pub keys_kept : (p q : Pass Element) (a b : Stays T S) (k : RingKeys) → HasKeys step limits s o all p a k → Knows IsFirst step limits s o q b → number q ≡ number p → Begins (seen p) (seen q) → Keeps a b
      → HasKeys step limits s o all q b k
  keys_kept p q a b k has knows same grows keeps =
      record {
        knows = knows;
        table = has.table;
        at = λ i key is. let n = length (items_for key all) in serves_on (setting_of limits s.given) p q a b (place_of k i) n n (items_for key all) same grows (keeps (place_of k i)) (let le : n ≤ n = omega arith in le) (leaves_few limits s step o q b knows) (has.at i key is);
        free = λ i le lt. unused_on (setting_of limits s.given) a b (place_of k i) (keeps (place_of k i)) (has.free i le lt);
      }

  module _ (p q : Pass Element) (a b : Stays T S) (k : RingKeys) (i key : ℕ) (has : HasKeys step limits s o all p a k) (is_at : slice_get (keys_in k) i ≡ Some key)
      (knows : Knows IsFirst step limits s o q b) (same : number q ≡ number p) (grows : Begins (seen p) (seen q)) (keeps : KeepsBut (place_of k i) a b) where
    -- an item more of a key
    pub keys_more : (x : T) → Serves (setting_of limits s.given) q b (place_of k i) (items_for key all ++ x ∷ []) (length (items_for key all) + 1) → HasKeys step limits s o (all ++ (key, x) ∷ []) q b k
    keys_more x brought =
        record {
          knows = knows;
          table = table_more all k i key x has.table is_at;
          at = λ j other at. elim (cases_eq i j) [
            | inl here ↦
                let key_is : key ≡ other = cc (sym is_at ∙ (ap (slice_get (keys_in k)) here ∙ at)) in
                let items : items_for key all ++ x ∷ [] ≡ items_for other (all ++ (key, x) ∷ []) = sym (items_more key x all) ∙ ap (λ (n : ℕ). items_for n (all ++ (key, x) ∷ [])) key_is in
                let many : length (items_for key all) + 1 ≡ length (items_for other (all ++ (key, x) ∷ [])) = sym (length-append (items_for key all) (x ∷ [])) ∙ ap length items in
                let now = subst (λ (xs : List T). Serves (setting_of limits s.given) q b (place_of k i) xs (length (items_for key all) + 1)) items brought in
                let counted = subst (λ (n : ℕ). Serves (setting_of limits s.given) q b (place_of k i) (items_for other (all ++ (key, x) ∷ [])) n) many now in
                subst (λ (n : ℕ). Serves (setting_of limits s.given) q b (place_of k n) (items_for other (all ++ (key, x) ∷ [])) (length (items_for other (all ++ (key, x) ∷ [])))) here counted
            | inr apart ↦
                let there = place_apart k j i (λ e. apart (sym e)) in
                let others : key ≢ other = λ e. apart (one_number (keys_in k) i j other has.table.distinct (is_at ∙ ap (λ (n : ℕ). Some n) e) at) in
                let n = length (items_for other all) in
                let still = serves_on (setting_of limits s.given) p q a b (place_of k j) n n (items_for other all) same grows (keeps (place_of k j) there) (let le : n ≤ n = omega arith in le) (leaves_few limits s step o q b knows) (has.at j other at) in
                subst (λ (xs : List T). Serves (setting_of limits s.given) q b (place_of k j) xs (length xs)) (sym (items_other other key x all others)) still
          ];
          free = λ j le lt.
              let within = slice_get_within (keys_in k) i key is_at in
              let there = place_apart k j i (λ e. absurd (omega (arith, e, le, within))) in
              unused_on (setting_of limits s.given) a b (place_of k j) (keeps (place_of k j) there) (has.free j le lt);
        }

    pub all_came_more : (x : T) → AllCameBut all k key → AllCame (all ++ (key, x) ∷ []) k
    all_came_more x came = came_more all k key x came

  -- a key more takes the next place
  module _ (p q : Pass Element) (a b : Stays T S) (k next : RingKeys) (key : ℕ) (has : HasKeys step limits s o all p a k) (new : Contains (keys_in k) key → ⊥)
      (left : length (keys_in k) < most_in k) (knows : Knows IsFirst step limits s o q b) (same : number q ≡ number p) (grows : Begins (seen p) (seen q))
      (is_open : Serves (setting_of limits s.given) q b (place_of k (length (keys_in k))) [] 0) (keeps : KeepsBut (place_of k (length (keys_in k))) a b)
      (more : keys_in next ≡ keys_in k ++ key ∷ []) (ring : SameRing k next) (room : spare k.set ≤ spare next.set + 1) (distinct : IsUnique nat_eq next.set) where
    many : length (keys_in next) ≡ length (keys_in k) + 1
    many = ap length more ∙ length-append (keys_in k) (key ∷ [])

    got : (j other : ℕ) → slice_get (keys_in next) j ≡ Some other → (slice_get (keys_in k) j ≡ Some other) ⊎ ((j ≡ length (keys_in k)) × (key ≡ other))
    got j other at = get_more (keys_in k) key other j (ap (λ (l : List ℕ). slice_get l j) (sym more) ∙ at)

    none : items_for key all ≡ []
    none = none_came all k key has.table new

    pub keys_one : HasKeys step limits s o all q b next
    keys_one =
        record {
          knows = knows;
          table = record {
            few = omega (arith, many, left, ring.most);
            room = omega (arith, many, has.table.room, room, ring.most);
            distinct = distinct;
            every = λ other some. subst (λ (l : List ℕ). Contains l other) (sym more) (Contains-append_left (keys_in k) (key ∷ []) other (has.table.every other some));
          };
          at = λ j other at. elim (got j other at) [
            | inl there ↦
                let within = slice_get_within (keys_in k) j other there in
                let apart = place_apart k j (length (keys_in k)) (λ e. absurd (omega (arith, e, within))) in
                let n = length (items_for other all) in
                subst (λ (c : ℕ). Serves (setting_of limits s.given) q b c (items_for other all) n) (sym (place_same k next j ring))
                (serves_on (setting_of limits s.given) p q a b (place_of k j) n n (items_for other all) same grows (keeps (place_of k j) apart) (let le : n ≤ n = omega arith in le) (leaves_few limits s step o q b knows) (has.at j other there))
            | inr last ↦
                let here : place_of k (length (keys_in k)) ≡ place_of next j = ap (place_of k) (sym last.0) ∙ sym (place_same k next j ring) in
                let items : [] ≡ items_for other all = sym none ∙ ap (λ (n : ℕ). items_for n all) last.1 in
                subst (λ (c : ℕ). Serves (setting_of limits s.given) q b c (items_for other all) (length (items_for other all))) here
                (subst (λ (xs : List T). Serves (setting_of limits s.given) q b (place_of k (length (keys_in k))) xs (length xs)) items is_open)
          ];
          free = λ j le lt.
              let apart = place_apart k j (length (keys_in k)) (λ e. absurd (omega (arith, e, le, many))) in
              subst (IsUnused (setting_of limits s.given) b) (sym (place_same k next j ring))
              (unused_on (setting_of limits s.given) a b (place_of k j) (keeps (place_of k j) apart) (has.free j (omega (arith, le, many)) (omega (arith, lt, ring.most))));
        }

    pub came_one : AllCame all k → AllCameBut all next key
    came_one came = λ j other at apart. elim (got j other at) [
      | inl there ↦ came j other there
      | inr last ↦ absurd (apart (sym last.1))
    ]

-- a key takes the next place, which is number c
module _ {R W T S : Type 0} (step : Keyed W T S → S → T → S → Type 0) (limits : R → Limits) (s : Named R) (o : Keyed W T S) (all : List (ℕ × T)) where
  pub seated_one : (p q : Pass Element) (a b : Stays T S) (k next : RingKeys) (key c : ℕ) → HasAll step limits s o all p a k → (Contains (keys_in k) key → ⊥) → length (keys_in k) < most_in k
      → c ≡ place_of k (length (keys_in k)) → Knows IsFirst step limits s o q b → number q ≡ number p → Begins (seen p) (seen q) → Serves (setting_of limits s.given) q b c [] 0 → KeepsBut c a b
      → keys_in next ≡ keys_in k ++ key ∷ [] → SameRing k next → spare k.set ≤ spare next.set + 1 → IsUnique nat_eq next.set → HasSeated step limits s o all key q b next (Some c)
  seated_one p q a b k next key c has new left c_is knows same grows is_open keeps more ring room distinct =
      let open_there = subst (λ (d : ℕ). Serves (setting_of limits s.given) q b d [] 0) c_is is_open in
      let keeps_there = subst (λ (d : ℕ). KeepsBut d a b) c_is keeps in
      record {
        keys = keys_one step limits s o all p q a b k next key has.0 new left knows same grows open_there keeps_there more ring room distinct;
        came = came_one step limits s o all p q a b k next key has.0 new left knows same grows open_there keeps_there more ring room distinct has.1;
        none = λ none. cc none;
      }
