-- A caller makes a call, wherever its block is.
use Rattle.std.proofs.Common.{◌≡◌, ℕ, ◌+◌, ◌<◌, ◌==◌, ◌&&◌, if◌then◌else◌, inl, inr, Bool, true, false, Option, Some, None, List, [], ◌∷◌, ◌++◌, length, slice_get, slice_index_or, slice_set, refl, ap, sym, ◌∙◌, subst, arith}
use Rattle.std.proofs.lemmas.Bool.{cases_eq}
use Rattle.std.proofs.lemmas.List.{length-set}
use Rattle.turn_gate.specs.declared.pass.Pass.{Pass}
use Rattle.perimeter_core.specs.History.{Element, Limits}
use Rattle.perimeter_core.proofs.ActLists.{get_same}
use Rattle.squeue_state.specs.Naming.{Named}
use Rattle.squeue_serve.specs.Places.{AtEach, Became, Holds}
use Rattle.squeue_serve.proofs.Unused.{each_at}
use Rattle.squeue_rings.specs.Made.{made_in, once_on}
use Rattle.squeue_rings.specs.Calling.{CallerAt, CallersAt, HasTried, MayMake, MayMakeAll, MayTry, TriesAt}
use Rattle.squeue_rings.proofs.Reaching.{held, hold}
use Rattle.squeue_rings.proofs.Slots.{at_got, at_length, at_made, got_at, got_other}
use Rattle.squeue_rings.proofs.OnceEach.{once_more, one_changed}
use Rattle.squeue_rings.proofs.CallsCounted.{no_call, one_call}
use Rattle.squeue_rings.proofs.Trying.{begins, ends, has_made, may_try, still_tries}

module _ {R : Type 0} (limits : R → Limits) (j k : ℕ) (cs : List ℕ) (c : ℕ) (ss : List (Named R)) where
  -- while it tries the call, its passes know so, and it has made those before
  pub record Tries (places : List (Option (Pass Element))) : Type 0 where
    pub each : AtEach (λ s o. Holds (TriesAt limits s j cs c) o) ss places
    pub made : (d m : ℕ) → made_in d j m places ≡ once_on cs d m

  pub all_begin : (places : List (Option (Pass Element))) → CallersAt limits j cs ss places → Tries places
  all_begin places h =
      record {
        each =
            at_made (λ s o. Holds (TriesAt limits s j cs c) o) ss places (at_length (λ s o. Holds (CallerAt limits s j cs) o) ss places h.each)
            (λ i s o is it. let x = held (CallerAt limits s j cs) o (at_got (λ s o. Holds (CallerAt limits s j cs) o) ss places i s o h.each is it) in hold (TriesAt limits s j cs c) x.0 o x.1 (begins limits s j cs c x.0 x.2));
        made = h.made;
      }

  module _ (may : MayMakeAll limits j k cs c ss) (places : List (Option (Pass Element))) (tries : Tries places) (q : ℕ) (s : Named R) (o : Option (Pass Element)) (lq : q < length ss) (is : s ≡ slice_index_or ss q s) (it : o ≡ slice_index_or places q o) where
    h : AtEach (λ s o. Holds (TriesAt limits s j cs c) o) ss places
    h = tries.each

    lo : q < length places
    lo = omega (arith, lq, at_length (λ s o. Holds (TriesAt limits s j cs c) o) ss places h)

    there : slice_get ss q ≡ Some s
    there = got_at ss q s lq is

    x : (x : Pass Element) × (o ≡ Some x) × TriesAt limits s j cs c x
    x = held (TriesAt limits s j cs c) o (at_got (λ s o. Holds (TriesAt limits s j cs c) o) ss places q s o h there (got_at places q o lo it))

    pub one_may_try : Holds (λ x. MayTry limits s c j k x) o
    one_may_try = hold (λ x. MayTry limits s c j k x) x.0 o x.1 (may_try limits s j k cs c x.0 (each_at (λ s. MayMake limits s j k cs c) ss q s may there) x.2)

    became : (b : Bool) (n : Option (Pass Element)) → Became (λ x y. HasTried limits s b c j k x y) o n → (y : Pass Element) × (n ≡ Some y) × HasTried limits s b c j k x.0 y
    became b n h = by n (subst (λ (o : Option (Pass Element)). Became (λ x y. HasTried limits s b c j k x y) o n) x.1 h)
      where
        by : (n : Option (Pass Element)) → Became (λ x y. HasTried limits s b c j k x y) (Some x.0) n → (y : Pass Element) × (n ≡ Some y) × HasTried limits s b c j k x.0 y
        by None h = absurd h
        by (Some y) h = (y, refl, h)

    changed : (P : Named R → Pass Element → Type 0) (n : Option (Pass Element)) → Holds (P s) n → ((t : Named R) (x : Pass Element) → TriesAt limits t j cs c x → P t x) → AtEach (λ t o. Holds (P t) o) ss (slice_set places q n)
    changed P n new others =
        at_made (λ t o. Holds (P t) o) ss (slice_set places q n) (length-set places q n ∙ at_length (λ s o. Holds (TriesAt limits s j cs c) o) ss places h)
        (λ i t p at got. elim (cases_eq i q) [
          | inl e ↦
              let a : t ≡ s = (let d : Some t ≡ Some s = sym at ∙ (ap (slice_get ss) e ∙ there) in cc d) in
              let b : p ≡ n = (let d : Some p ≡ Some n = sym got ∙ (ap (slice_get (slice_set places q n)) e ∙ get_same places q n lo) in cc d) in
              subst (λ (t : Named R). Holds (P t) p) (sym a) (subst (Holds (P s)) (sym b) new)
          | inr apart ↦
              let u = held (TriesAt limits t j cs c) p (at_got (λ s o. Holds (TriesAt limits s j cs c) o) ss places i t p h at (sym (got_other places q i n apart) ∙ got)) in
              hold (P t) u.0 p u.1 (others t u.0 u.2)
        ])

    -- the place whose pass tries it
    had : slice_get places q ≡ Some (Some x.0)
    had = got_at places q o lo it ∙ ap Some x.1

    its_may : MayMake limits s j k cs c
    its_may = each_at (λ s. MayMake limits s j k cs c) ss q s may there

    pub not_yet : (b : Bool) (n : Option (Pass Element)) → length cs ≡ k → b ≡ false → Became (λ x y. HasTried limits s b c j k x y) o n → Tries (slice_set places q n)
    not_yet b n is_next none ran =
        let y = became false n (subst (λ (b : Bool). Became (λ x y. HasTried limits s b c j k x y) o n) none ran) in
        record {
          each = changed (λ t x. TriesAt limits t j cs c x) n (hold (TriesAt limits s j cs c) y.0 n y.1 (still_tries limits s j k cs c x.0 y.0 is_next its_may x.2 y.2)) (λ t x h. h);
          made = λ d m.
              let one = one_changed d j m places q x.0 y.0 had in
              let new = ap (λ (o : Option (Pass Element)). made_in d j m (slice_set places q o)) y.1 in
              let kept = no_call limits s j x.0 y.0 x.2.pass x.2.is_number x.2.legal c k y.2 d m in
              omega (arith, one, new, kept, tries.made d m);
        }

    pub now_made : (b : Bool) (n : Option (Pass Element)) → length cs ≡ k → b ≡ true → Became (λ x y. HasTried limits s b c j k x y) o n → CallersAt limits j (cs ++ c ∷ []) ss (slice_set places q n)
    now_made b n is_next made ran =
        let y = became true n (subst (λ (b : Bool). Became (λ x y. HasTried limits s b c j k x y) o n) made ran) in
        record {
          each = changed (λ t x. CallerAt limits t j (cs ++ c ∷ []) x) n (hold (CallerAt limits s j (cs ++ c ∷ [])) y.0 n y.1 (has_made limits s j k cs c x.0 y.0 is_next x.2 y.2)) (λ t x h. ends limits t j cs c x h);
          made = λ d m.
              let one = one_changed d j m places q x.0 y.0 had in
              let new = ap (λ (o : Option (Pass Element)). made_in d j m (slice_set places q o)) y.1 in
              let more = one_call limits s j x.0 y.0 x.2.pass x.2.is_number x.2.legal c k y.2 d m in
              let asked = once_more cs c d m ∙ ap (λ (n : ℕ). once_on cs d m + (if (c == d) && (n == m) then 1 else 0)) is_next in
              omega (arith, one, new, more, asked, tries.made d m);
        }
