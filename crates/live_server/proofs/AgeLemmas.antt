-- Who gives way had its own entry among those that wait.
use Rattle.std.proofs.Common.{◌≡◌, ℕ, zero, suc, ◌⊎◌, inl, inr, Bool, true, false, cond, List, [], ◌∷◌, Contains, Option, None, Some, refl, sym, ap, subst, ◌∙◌, arith, unwrap_or, zero-lt-suc, suc-le-suc}
use Rattle.std.specs.Map.{lookup}
use Rattle.std.proofs.lemmas.Bool.{and_parts}
use Rattle.sq_base.specs.declared.kinds.Tuple.{Tuple}
use Rattle.live_server.specs.Acts.{is_half_open}
use Rattle.live_server.specs.Isolation.{conn_of, IsTable, OwnEntryGivesWay}
use Rattle.live_server.specs.Serving.{ServerOf, gives_way, has_place, is_waiting, yielding, yields, yields_at}
use Rattle.live_server.specs.Table.{conn_at, place_of, tuple_eq}
use Rattle.live_server.specs.declared.conn.Conn.{Conn}
use Rattle.live_server.proofs.TableLemmas.{first_at, look_without, same, within_at}
use Rattle.live_server.proofs.PlaceLemmas.{conn_looked}
use Rattle.live_server.proofs.LawLemmas.{with_waiting, yields_by, yields_table}

module _ (q : Tuple) (c : Conn) where
  -- it stays, or it is half open and leaves for its own entry
  abbrev StaysOr : Type 0 → ServerOf → Type 0
  StaysOr P after = (conn_of q after ≡ Some c) ⊎ ((is_half_open c ≡ true) × P)

  or_chosen : (P : Type 0) (b : Bool) (x y : ServerOf) → StaysOr P x → StaysOr P y → StaysOr P (cond b x y)
  or_chosen P true x y here there = here
  or_chosen P false x y here there = there

  module _ (w : Tuple × ℕ) (sv : ServerOf) (table : IsTable sv) (here : conn_of q sv ≡ Some c) where
    abbrev IsOwn : Type 0
    IsOwn = w ≡ (q, c.number)

    left_at : (i : ℕ) → place_of w.0 sv.conns ≡ Some i → is_waiting w.1 (conn_at i sv.conns) ≡ true → (v : Bool) → tuple_eq w.0 q ≡ v → StaysOr IsOwn (gives_way i sv)
    left_at i at waits false apart =
        inl (look_without sv.conns i w.0 (first_at w.0 sv.conns i at) (within_at w.0 sv.conns i at) table.once q
        ∙ ap (λ (b : Bool). cond b None (lookup (tuple_eq q) sv.conns)) apart ∙ here)
    left_at i at waits true own =
        let ends : w.0 ≡ q = same w.0 q own in
        let found : conn_at i sv.conns ≡ c =
        ap (λ (o : Option Conn). unwrap_or o c) (sym (conn_looked q sv.conns i (ap (λ t. place_of t sv.conns) (sym ends) ∙ at)) ∙ here) in
        let both = and_parts _ _ waits in
        let number : (conn_at i sv.conns).number ≡ w.1 = grind (arith, both.1) in
        inr (ap is_half_open (sym found) ∙ both.0, λ j. (ends j, (sym number ∙ ap (λ (x : Conn). x.number) found) j))

    left_or : (i : ℕ) → place_of w.0 sv.conns ≡ Some i → (h : Bool) → is_waiting w.1 (conn_at i sv.conns) ≡ h → StaysOr IsOwn (cond h (gives_way i sv) sv)
    left_or i at false whole = inl here
    left_or i at true waits = left_at i at waits (tuple_eq w.0 q) refl

    one_yields : StaysOr IsOwn (yields w sv)
    unfolding yields_at
    one_yields = by (place_of w.0 sv.conns) refl
      where
        by : (r : Option ℕ) → place_of w.0 sv.conns ≡ r → StaysOr IsOwn (yields w sv)
        by None at = subst (StaysOr IsOwn) (sym (yields_by w sv table None at)) (inl here)
        by (Some i) at = subst (StaysOr IsOwn) (sym (yields_by w sv table (Some i) at)) (left_or i at (is_waiting w.1 (conn_at i sv.conns)) refl)

  entry_behind : (w x : Tuple × ℕ) (ws : List (Tuple × ℕ)) → Contains ws x → Contains (w ∷ ws) x
  entry_behind w x ws h = (suc h.0, suc-le-suc h.1, h.2)

  entry_first : (w x : Tuple × ℕ) (ws : List (Tuple × ℕ)) → w ≡ x → Contains (w ∷ ws) x
  entry_first w x ws is = (zero, zero-lt-suc _, is)

  own_yields : (ws : List (Tuple × ℕ)) (sv : ServerOf) → IsTable sv → conn_of q sv ≡ Some c → StaysOr (Contains ws (q, c.number)) (yielding ws sv)
  own_yields [] sv table here = inl here
  own_yields (w ∷ ws) sv table here =
      let before : ServerOf = record sv { waiting = ws } in
      let whole = with_waiting ws sv table in
      or_chosen (Contains (w ∷ ws) (q, c.number)) (has_place sv) sv (yielding ws (yields w before)) (inl here)
      (behind before (one_yields w before whole here) (own_yields ws (yields w before) (yields_table w before whole)))
    where
      behind : (before : ServerOf) → StaysOr (w ≡ (q, c.number)) (yields w before)
          → (conn_of q (yields w before) ≡ Some c → StaysOr (Contains ws (q, c.number)) (yielding ws (yields w before)))
          → StaysOr (Contains (w ∷ ws) (q, c.number)) (yielding ws (yields w before))
      behind before (inr own) on = inr (own.0, entry_first w (q, c.number) ws own.1)
      behind before (inl stays) on = later (on stays)
        where
          later : StaysOr (Contains ws (q, c.number)) (yielding ws (yields w before)) → StaysOr (Contains (w ∷ ws) (q, c.number)) (yielding ws (yields w before))
          later (inl on) = inl on
          later (inr gone) = inr (gone.0, entry_behind w (q, c.number) ws gone.1)

pub own_entry_law : OwnEntryGivesWay
own_entry_law q sv c table here = own_yields q c sv.waiting sv table here
