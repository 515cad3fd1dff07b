-- What want of memory costs when the time comes to all.
use Rattle.std.proofs.Common.{◌≡◌, ℕ, zero, suc, ◌<◌, ◌⊎◌, inl, inr, Bool, true, false, cond, [], ◌∷◌, length, get_or, Option, None, Some, Result, Ok, Err, OnErr, refl, sym, ap, subst, ◌∙◌, arith}
use Rattle.std.specs.List.{IsDistinct}
use Rattle.std.specs.Map.{keys_of, lookup}
use Rattle.std.specs.Option.{option_map}
use Rattle.std_collections.proofs.HashLookup.{own_IsFirst}
use Rattle.sq_base.specs.declared.kinds.Tuple.{Tuple}
use Rattle.live_server.specs.Acts.{emptied, ticked}
use Rattle.live_server.specs.Isolation.{LosesOne}
use Rattle.live_server.specs.Serving.{ServerOf, measures_of}
use Rattle.live_server.specs.Table.{Conns, reached_until, tuple_eq, without}
use Rattle.live_server.specs.declared.conn.Conn.{Conn}
use Rattle.live_server.specs.declared.measures.Measures.{Measures}
use Rattle.live_server.proofs.TableLemmas.{distinct_without, entry_at, length_without, look_without, tuple_equivalence}

-- what holds anyhow holds of an error
pub on_err : {X E : Type 0} (r : Result X E) (P : Type 0) → P → OnErr r P
on_err (Ok x) P p = tt
on_err (Err e) P p = p

pub map_err : {X E : Type 0} (r : Result X E) (P Q : Type 0) → (P → Q) → OnErr r P → OnErr r Q
map_err (Ok x) P Q f h = tt
map_err (Err e) P Q f h = f h

module _ (measures : Measures) (now : ℕ) where
  abbrev stepped : Conn → Conn
  stepped c = emptied (ticked measures now c)

  until_keys : (cs : Conns) (i : ℕ) → keys_of (reached_until measures now i cs) ≡ keys_of cs
  until_keys [] zero = refl
  until_keys [] (suc i) = refl
  until_keys (c ∷ cs) zero = refl
  until_keys (c ∷ cs) (suc i) = ap (λ ks. c.0 ∷ ks) (until_keys cs i)

  until_length : (cs : Conns) (i : ℕ) → length (reached_until measures now i cs) ≡ length cs
  until_length [] zero = refl
  until_length [] (suc i) = refl
  until_length (c ∷ cs) zero = refl
  until_length (c ∷ cs) (suc i) = ap suc (until_length cs i)

  abbrev IsOneOf : Option Conn → Option Conn → Type 0
  IsOneOf there here = (there ≡ here) ⊎ (there ≡ option_map stepped here)

  one_of : (b : Bool) (c : Conn) (there here : Option Conn) → IsOneOf there here → IsOneOf (cond b (Some (stepped c)) there) (cond b (Some c) here)
  one_of true c there here h = inr refl
  one_of false c there here h = h

  until_look : (q : Tuple) (cs : Conns) (i : ℕ) → IsOneOf (lookup (tuple_eq q) (reached_until measures now i cs)) (lookup (tuple_eq q) cs)
  until_look q [] zero = inl refl
  until_look q [] (suc i) = inl refl
  until_look q (c ∷ cs) zero = inl refl
  until_look q (c ∷ cs) (suc i) = one_of (tuple_eq q c.0) c.1 _ _ (until_look q cs i)

pub lost_one : (now : ℕ) (sv here : ServerOf) → here ≡ sv → (i : ℕ) → i < length here.conns → (new : Conns) → new ≡ without i (reached_until (measures_of here) now i here.conns) → LosesOne now sv (record here { conns = new })
lost_one now sv here is i lt new left = subst (λ (x : ServerOf). LosesOne now x (record here { conns = new })) is (λ table.
    let es = reached_until (measures_of here) now i here.conns in
    let within : i < length es = omega (arith, until_length (measures_of here) now here.conns i, lt) in
    let once : IsDistinct tuple_eq (keys_of es) = subst (IsDistinct tuple_eq) (sym (until_keys (measures_of here) now here.conns i)) table.once in
    let t = get_or (keys_of es) i (entry_at es i within).0 in
    let look = look_without es i t (own_IsFirst tuple_eq tuple_equivalence es i (entry_at es i within).0 once within) within once in (
      record {
        once = subst (λ (l : Conns). IsDistinct tuple_eq (keys_of l)) (sym left) (distinct_without es i within once);
        bounded = omega (arith, ap (λ (l : Conns). length l) left, length_without es i within, until_length (measures_of here) now here.conns i, table.bounded);
      },
      (
        t,
        ap (lookup (tuple_eq t)) left ∙ look t ∙ ap (λ b. cond b None (lookup (tuple_eq t) es)) (tuple_equivalence.refl t),
        λ q apart. subst (λ o. IsOneOf (measures_of here) now o (lookup (tuple_eq q) here.conns))
            (sym (ap (lookup (tuple_eq q)) left ∙ look q ∙ ap (λ b. cond b None (lookup (tuple_eq q) es)) apart)) (until_look (measures_of here) now q here.conns i),
      ),
    ))
