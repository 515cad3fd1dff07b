use Rattle.std.proofs.Common.{◌≡◌, ◌<◌, ◌≤◌, ◌∙◌, ℕ, true, false, Some, length, nat_lt, ap, sym, arith, vec_len}
use Rattle.std.specs.Prelude.{Option}
use Rattle.std.proofs.lemmas.Bool.Decides.{nat_tests}
use Rattle.std.proofs.lemmas.Option.{slice_get-get_or, slice_get_within}
use Rattle.stream_stays.specs.declared.place.Place.{Place}
use Rattle.stream_stays.specs.declared.place.Stays.{Stays}
use Rattle.stream_stays.specs.declared.place.Place.TheVariants.{Vacant as Vacant'}
use Rattle.stream_stays.specs.declared.stay.Vacant.{Vacant}
use Rattle.stream_stays.specs.Places.{place_at, places_of}
use Rattle.stream_stays.proofs.place.Stays.can_open.Goals as goal

some_left : (n : ℕ) → nat_lt 0 n ≡ true → 1 ≤ n
some_left n is = grind (arith, nat_tests)

none_left : (n : ℕ) → nat_lt 0 n ≡ false → n ≡ 0
none_left n is = grind (arith, nat_tests)

its : {T S : Type 0} (x : Option (Place T S)) (a : Place T S) (v : Vacant T S) → x ≡ Some a → x ≡ Some (Vacant' v) → a ≡ Vacant' v
its x a v is there = cc (sym is ∙ there)

one : {T S : Type 0} (a v : Vacant T S) → Vacant' a ≡ Vacant' v → v ≡ a
one a v is = cc is

within : {T S : Type 0} (st : Stays T S) (c n : ℕ) → n ≡ vec_len st.places → c < n → c < length (places_of st)
within st c n is less = let all = st.places.ok.0 in omega (arith, is, less, all)

beyond : {T S : Type 0} (st : Stays T S) (c n : ℕ) (v : Vacant T S) → n ≡ vec_len st.places → n ≤ c → place_at st c ≡ Some (Vacant' v) → ⊥
beyond st c n v is past there =
    let all = st.places.ok.0 in
    let in_range = slice_get_within (places_of st) c (Vacant' v) there in
    omega (arith, is, past, all, in_range)

pub returns-then-at-len : goal.returns-then-at-len
returns-then-at-len g c = record { yes = λ is. absurd (cc is); no = λ is v there. absurd (beyond c.args.self.now c.args.c c.len.result v c.len.ensures c.if-at-len.true there) }

pub returns-in-Vacant-clause-yes : goal.returns-in-Vacant-clause-yes
returns-in-Vacant-clause-yes g c = λ is.
    (c.in-Vacant.vacant, slice_get-get_or (places_of c.args.self.now) c.args.c c.index.result.now (within c.args.self.now c.args.c c.len.result c.len.ensures c.if-at-len.false) ∙ ap Some (sym c.index.ensures ∙ c.in-Vacant.is), some_left c.in-Vacant.vacant.leaves is)

pub returns-in-Vacant-clause-no : goal.returns-in-Vacant-clause-no
returns-in-Vacant-clause-no g c = λ is v there.
    let here = slice_get-get_or (places_of c.args.self.now) c.args.c c.index.result.now (within c.args.self.now c.args.c c.len.result c.len.ensures c.if-at-len.false) ∙ ap Some (sym c.index.ensures) in
    let same : v ≡ c.in-Vacant.vacant = one c.in-Vacant.vacant v (sym c.in-Vacant.is ∙ its _ c.index.result.now v here there) in
    ap (λ (x : Vacant g.row.T.Denot g.row.S.Denot). x.leaves) same ∙ none_left c.in-Vacant.vacant.leaves is

pub returns-in_default : goal.returns-in_default
returns-in_default g c =
    record {
      yes = λ is. absurd (cc is);
      no = λ is v there.
          let here = slice_get-get_or (places_of c.args.self.now) c.args.c c.index.result.now (within c.args.self.now c.args.c c.len.result c.len.ensures c.if-at-len.false) ∙ ap Some (sym c.index.ensures) in
          absurd (c.in_default.not-Vacant v (its _ c.index.result.now v here there));
    }
