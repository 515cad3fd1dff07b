-- The table: who leaves it, who joins, and what each connection is then.
use Rattle.std.proofs.Common.{◌≡◌, ℕ, zero, suc, ◌+◌, ◌<◌, ◌≤◌, Bool, true, false, cond, [], ◌∷◌, ◌++◌, length, position, remove, slice_get, Option, None, Some, IfSome, IfNone, unwrap_or, is_some, true≢false, refl, sym, ap, subst, ◌∙◌, arith, Bor}
use Rattle.std.specs.Cmp.{IsEquivalence}
use Rattle.std.specs.List.{swap_remove, IsDistinct}
use Rattle.std.specs.Map.{keys_of, lookup, IsKeyTest}
use Rattle.std.specs.Map.Iter.{deref_pair}
use Rattle.std.specs.Option.{option_map, option_map_or}
use Rattle.std_collections.proofs.Entries.{keys_set_value_at, length-set_value_at}
use Rattle.std_collections.proofs.HashLookup.{IsAbsent, IsFirst, Updated-push, Updated-set, Updated-take, distinct_push, distinct_swap_remove, length-swap_remove, lookup-IsAbsent, Rearranges-swap_remove, IsFirst-set_value_at, swap_remove-set_value_at}
use Rattle.indexmap.specs.IndexMap.{IndexMap, insert_entry, set_value_at, Updates}
use Rattle.indexmap.proofs.MapLemmas.{absent_from_lookup, Found-position, Missing-position, insert_entry-absent}
use Rattle.sq_base.specs.declared.kinds.Tuple.{Tuple}
use Rattle.tcb_machine.specs.BlockState.{new_block}
use Rattle.live_server.specs.Acts.{emptied, is_half_open, is_over, no_conn}
use Rattle.live_server.specs.Isolation.{kept_as}
use Rattle.live_server.specs.Table.{Conns, conn_at, place_of, replaced, settled, tuple_eq, without, IsNew}
use Rattle.live_server.specs.declared.conn.Conn.{Conn}

-- two ends that pass the test are the same
pub same : (a b : Tuple) → tuple_eq a b ≡ true → a ≡ b
same a b e = grind (arith, e)

pub tuple_equivalence : IsEquivalence tuple_eq
tuple_equivalence = record {
  refl = λ x. grind arith;
  symm = λ x y. grind arith;
  congr = λ x y z e. ap (λ w. tuple_eq w z) (same x y e);
}

pub key_test : (t : Tuple) → IsKeyTest tuple_eq (tuple_eq t)
key_test t x y e = ap (λ w. tuple_eq w y) (same t x e)

pub first_at : (t : Tuple) (cs : Conns) (i : ℕ) → place_of t cs ≡ Some i → IsFirst (tuple_eq t) cs i
first_at t cs i at = (Found-position (tuple_eq t) cs i at).first

pub within_at : (t : Tuple) (cs : Conns) (i : ℕ) → place_of t cs ≡ Some i → i < length cs
within_at t cs i at = (Found-position (tuple_eq t) cs i at).within

pub new_from_place : (t : Tuple) (cs : Conns) → place_of t cs ≡ None → IsNew t cs
new_from_place t cs none = (Missing-position (tuple_eq t) cs none).value

-- the entry at a place
pub entry_at : (cs : Conns) (i : ℕ) → i < length cs → (k : Tuple) × (slice_get cs i ≡ Some (k, conn_at i cs))
entry_at [] i lt = absurd (omega arith)
entry_at (c ∷ cs) zero lt = (c.0, refl)
entry_at (c ∷ cs) (suc i) lt = entry_at cs i (omega arith)

pub conn_read : (cs : Conns) (i : ℕ) (k : Tuple) (c : Conn) → slice_get cs i ≡ Some (k, c) → conn_at i cs ≡ c
conn_read cs i k c at = ap (λ o. option_map_or (λ e. e.1) o no_conn) at

-- the ends of the entry at their place
own_ends : (t : Tuple) (cs : Conns) (i : ℕ) (e : Tuple × Conn) → IsFirst (tuple_eq t) cs i → slice_get cs i ≡ Some e → t ≡ e.0
own_ends t [] i e h at = absurd h
own_ends t (c ∷ cs) zero e h at = same t c.0 h ∙ ap (λ o. (unwrap_or o c).0) at
own_ends t (c ∷ cs) (suc i) e h at = own_ends t cs i e h.1 at

-- who left by place isn't there
pub gone_from : {S : Type 0} (t : Tuple) (i : ℕ) (m n : IndexMap Tuple Conn S) (r : Option (Tuple × Conn)) → r ≡ slice_get m.entries i → IfSome r (λ p. Updates tuple_eq m n p.0 None)
    → place_of t m.entries ≡ Some i → IsNew t n.entries
gone_from t i m n None is updates at = absurd (true≢false (sym (ap is_some (is ∙ (entry_at m.entries i (within_at t m.entries i at)).1))))
gone_from t i m n (Some p) is updates at = ap (λ q. lookup (tuple_eq q) n.entries) (own_ends t m.entries i p (first_at t m.entries i at) (sym is)) ∙ updates.1

-- nor does a write by place move anybody
pub place_written : (t : Tuple) (cs : Conns) (i : ℕ) (c : Conn) → place_of t (set_value_at cs i c) ≡ place_of t cs
place_written t cs i c = ap (position (tuple_eq t)) (keys_set_value_at cs i c)

pub none_is_over : is_over no_conn ≡ true
unfolding new_block
none_is_over = refl

pub none_is_whole : is_half_open no_conn ≡ false
unfolding new_block
none_is_whole = refl

pub conn_found : {A : Type 0} (p : Conn → A) (cs : Conns) (i : ℕ) (r : Option (Bor Tuple × Bor Conn)) (x : Bor Tuple × Bor Conn) → option_map deref_pair r ≡ slice_get cs i → r ≡ Some x → p x.1.now ≡ p (conn_at i cs)
conn_found p cs i r x at is = ap p (sym (conn_read cs i x.0.now x.1.now (sym at ∙ ap (option_map deref_pair) is)))

pub conn_missed : {A : Type 0} (p : Conn → A) (cs : Conns) (i : ℕ) (r : Option (Bor Tuple × Bor Conn)) → option_map deref_pair r ≡ slice_get cs i → r ≡ None → p no_conn ≡ p (conn_at i cs)
conn_missed p cs i r at is = ap (λ o. p (option_map_or (λ e. e.1) o no_conn)) (sym (ap (option_map deref_pair) is) ∙ at)

-- a removal by place
module _ (cs : Conns) (i : ℕ) where
  pub left_by : (r : Option (Tuple × Conn)) (new : Conns) → r ≡ slice_get cs i → IfSome r (λ p. new ≡ swap_remove cs i p) → IfNone r (new ≡ cs) → new ≡ without i cs
  unfolding without
  left_by None new is some none = none ∙ ap (λ o. option_map_or (λ c. swap_remove cs i c) o cs) is
  left_by (Some p) new is some none = some ∙ ap (λ o. option_map_or (λ c. swap_remove cs i c) o cs) is

  pub without_is : i < length cs → (e : Tuple × Conn) × (without i cs ≡ swap_remove cs i e)
  unfolding without
  without_is lt = let e = entry_at cs i lt in ((e.0, conn_at i cs), ap (λ o. option_map_or (λ c. swap_remove cs i c) o cs) e.1)

  pub length_without : i < length cs → length (without i cs) + 1 ≡ length cs
  length_without lt = let w = without_is lt in ap (λ (l : Conns). length l + 1) w.1 ∙ length-swap_remove cs i w.0 lt

  pub distinct_without : i < length cs → IsDistinct tuple_eq (keys_of cs) → IsDistinct tuple_eq (keys_of (without i cs))
  distinct_without lt d =
      let w = without_is lt in
      subst (λ (l : Conns). IsDistinct tuple_eq (keys_of l)) (sym w.1) (distinct_swap_remove tuple_eq tuple_equivalence cs i w.0 lt d)

  -- all others stay, and the one at the place is gone
  pub look_without : (t : Tuple) → IsFirst (tuple_eq t) cs i → i < length cs → IsDistinct tuple_eq (keys_of cs) → (q : Tuple)
      → lookup (tuple_eq q) (without i cs) ≡ cond (tuple_eq t q) None (lookup (tuple_eq q) cs)
  look_without t first lt d q =
      let w = without_is lt in
      ap (lookup (tuple_eq q)) w.1 ∙ (Updated-take tuple_eq tuple_equivalence (tuple_eq t) (key_test t) cs i w.0 d first).0 q

-- without any premise: what isn't there doesn't come by a removal
absent_remove : (t : Tuple) (cs : Conns) (i : ℕ) → IsAbsent (tuple_eq t) cs → IsAbsent (tuple_eq t) (remove cs i)
absent_remove t [] zero h = tt
absent_remove t [] (suc i) h = tt
absent_remove t (c ∷ cs) zero h = h.1
absent_remove t (c ∷ cs) (suc i) h = (h.0, absent_remove t cs i h.1)

pub new_without : (t : Tuple) (cs : Conns) (i : ℕ) → i < length cs → IsNew t cs → IsNew t (without i cs)
new_without t cs i lt new =
    let w = without_is cs i lt in
    ap (lookup (tuple_eq t)) w.1
    ∙ lookup-IsAbsent (tuple_eq t) (swap_remove cs i w.0)
    ((Rearranges-swap_remove tuple_eq tuple_equivalence cs i w.0 lt).absent (tuple_eq t) (absent_remove t cs i (absent_from_lookup (tuple_eq t) cs new)))

-- a write by place
module _ (cs : Conns) (i : ℕ) (c : Conn) where
  written : (es : Conns) (j : ℕ) → j < length es → conn_at j (set_value_at es j c) ≡ c
  written [] j lt = absurd (omega arith)
  written (e ∷ es) zero lt = refl
  written (e ∷ es) (suc j) lt = written es j (omega arith)

  pub conn_written : i < length cs → conn_at i (set_value_at cs i c) ≡ c
  conn_written lt = written cs i lt

  pub distinct_set : IsDistinct tuple_eq (keys_of cs) → IsDistinct tuple_eq (keys_of (set_value_at cs i c))
  distinct_set d = subst (IsDistinct tuple_eq) (sym (keys_set_value_at cs i c)) d

-- a write to the one that leaves is lost
pub without_set : (cs : Conns) (i : ℕ) (v : Conn) → i < length cs → without i (set_value_at cs i v) ≡ without i cs
without_set cs i v lt =
    let after = without_is (set_value_at cs i v) i (omega (arith, length-set_value_at cs i v, lt)) in
    let before = without_is cs i lt in
    after.1 ∙ swap_remove-set_value_at cs i v after.0 before.0 lt ∙ sym before.1

-- the connection at a place becomes another one
module _ (cs : Conns) (i : ℕ) (c : Conn) (lt : i < length cs) where
  abbrev set_there : Conns
  set_there = set_value_at cs i (emptied c)

  there : i < length set_there
  there = omega (arith, length-set_value_at cs i (emptied c), lt)

  replaced_is : replaced i c cs ≡ cond (is_over c) (without i set_there) set_there
  unfolding replaced settled emptied
  replaced_is = ap (λ (x : Conn). cond (is_over x) (without i set_there) set_there) (conn_written cs i (emptied c) lt)

  pub length_replaced : length (replaced i c cs) ≤ length cs
  length_replaced = by (is_over c) replaced_is
    where
      by : (b : Bool) → replaced i c cs ≡ cond b (without i set_there) set_there → length (replaced i c cs) ≤ length cs
      by true is = omega (arith, ap (λ (l : Conns). length l) is, length_without set_there i there, length-set_value_at cs i (emptied c))
      by false is = omega (arith, ap (λ (l : Conns). length l) is, length-set_value_at cs i (emptied c))

  pub distinct_replaced : IsDistinct tuple_eq (keys_of cs) → IsDistinct tuple_eq (keys_of (replaced i c cs))
  distinct_replaced d = by (is_over c) replaced_is
    where
      by : (b : Bool) → replaced i c cs ≡ cond b (without i set_there) set_there → IsDistinct tuple_eq (keys_of (replaced i c cs))
      by true is = subst (λ (l : Conns). IsDistinct tuple_eq (keys_of l)) (sym is) (distinct_without set_there i there (distinct_set cs i (emptied c) d))
      by false is = subst (λ (l : Conns). IsDistinct tuple_eq (keys_of l)) (sym is) (distinct_set cs i (emptied c) d)

  pub look_replaced : (t : Tuple) → IsFirst (tuple_eq t) cs i → IsDistinct tuple_eq (keys_of cs) → (q : Tuple)
      → lookup (tuple_eq q) (replaced i c cs) ≡ cond (tuple_eq t q) (kept_as c) (lookup (tuple_eq q) cs)
  look_replaced t first d q = by (is_over c) refl
    where
      set_look : lookup (tuple_eq q) set_there ≡ cond (tuple_eq t q) (Some (emptied c)) (lookup (tuple_eq q) cs)
      set_look = (Updated-set tuple_eq tuple_equivalence (tuple_eq t) (key_test t) cs i (emptied c) first).0 q

      twice : (b : Bool) (x y : Option Conn) → cond b None (cond b x y) ≡ cond b None y
      twice true x y = refl
      twice false x y = refl

      by : (b : Bool) → is_over c ≡ b → lookup (tuple_eq q) (replaced i c cs) ≡ cond (tuple_eq t q) (kept_as c) (lookup (tuple_eq q) cs)
      by true over =
          ap (lookup (tuple_eq q)) (replaced_is ∙ ap (λ b. cond b (without i set_there) set_there) over)
          ∙ look_without set_there i t (IsFirst-set_value_at (tuple_eq t) cs i (emptied c) first) there (distinct_set cs i (emptied c) d) q
          ∙ ap (cond (tuple_eq t q) None) set_look
          ∙ twice (tuple_eq t q) (Some (emptied c)) (lookup (tuple_eq q) cs)
          ∙ ap (λ b. cond (tuple_eq t q) (cond b None (Some (emptied c))) (lookup (tuple_eq q) cs)) (sym over)
      by false over =
          ap (lookup (tuple_eq q)) (replaced_is ∙ ap (λ b. cond b (without i set_there) set_there) over)
          ∙ set_look
          ∙ ap (λ b. cond (tuple_eq t q) (cond b None (Some (emptied c))) (lookup (tuple_eq q) cs)) (sym over)

-- a new connection goes last
module _ (t : Tuple) (c : Conn) (cs : Conns) (new : IsNew t cs) where
  pub appended : insert_entry tuple_eq cs t c ≡ cs ++ (t, c) ∷ []
  appended = insert_entry-absent tuple_eq t c cs (absent_from_lookup (tuple_eq t) cs new)

  pub look_appended : (q : Tuple) → lookup (tuple_eq q) (cs ++ (t, c) ∷ []) ≡ cond (tuple_eq t q) (Some c) (lookup (tuple_eq q) cs)
  look_appended q = (Updated-push tuple_eq tuple_equivalence cs t c (absent_from_lookup (tuple_eq t) cs new)).0 q

  pub distinct_appended : IsDistinct tuple_eq (keys_of cs) → IsDistinct tuple_eq (keys_of (cs ++ (t, c) ∷ []))
  distinct_appended d = distinct_push tuple_eq tuple_equivalence cs (t, c) d (absent_from_lookup (tuple_eq t) cs new)
