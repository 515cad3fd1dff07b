-- The stays of histories that are alike: what was done in each is the same.
use Rattle.std.proofs.Common.{◌≡◌, ℕ, zero, suc, ◌+◌, ◌/◌, ◌%◌, ◌≤◌, inl, inr, Bool, true, false, if◌then◌else◌, Option, Some, None, List, [], ◌∷◌, ◌++◌, length, map, refl, ap, sym, ◌∙◌, subst, arith}
use Rattle.std.specs.Prelude.{slice_get}
use Rattle.std.specs.Option.{option_map}
use Rattle.std.proofs.lemmas.Bool.{cases_lt}
use Rattle.std.proofs.lemmas.List.{map-append}
use Rattle.std.proofs.lemmas.Option.{slice_get-map, slice_get_past}
use Rattle.perimeter_core.specs.declared.entries.Act.{Act}
use Rattle.perimeter_core.specs.declared.marks.Mark.{Mark}
use Rattle.perimeter_core.specs.Perimeter.{State, after}
use Rattle.perimeter_core.specs.History.{Element, Setting}
use Rattle.perimeter_core.specs.Deeds.{acts_after, puts_in, reported, takes_out}
use Rattle.histories.specs.Endings.{Ending}
use Rattle.histories.specs.Stays.{AreOfAllStays, Stay, Stays, all_in, as_list, begun, ended_stay, joined, longer_by, own_of, stay, stays, stays_after, stays_at, stays_from, stays_in}
use Rattle.histories.proofs.ListPlaces.{some_at}
use Rattle.trace_replay.proofs.Notes.{Alike, alike_ind}

abbrev pub own_now : Option Stay → Option (List Act)
own_now o = option_map (λ (u : Stay). u.own) o

abbrev pub owns : List Stay → List (List Act)
owns vs = map (λ (u : Stay). u.own) vs

abbrev as_acts : Option (List Act) → List (List Act)
as_acts None = []
as_acts (Some xs) = xs ∷ []

abbrev more_own : List Act → Option (List Act) → Option (List Act)
more_own more None = None
more_own more (Some xs) = Some (xs ++ more)

-- the same was done in the stays of both
pub record SameOwn (v w : Stays) : Type 0 where
  pub ended : owns v.ended ≡ owns w.ended
  pub now : own_now v.now ≡ own_now w.now

owns_list : (o : Option Stay) → owns (as_list o) ≡ as_acts (own_now o)
owns_list None = refl
owns_list (Some v) = refl

owns_more : (more had : List Act) (o : Option Stay) → own_now (longer_by more had o) ≡ more_own more (own_now o)
owns_more more had None = refl
owns_more more had (Some v) = refl

owns_with : (vs : List Stay) (o : Option Stay) → owns (vs ++ as_list o) ≡ owns vs ++ as_acts (own_now o)
owns_with vs o = map-append (λ (u : Stay). u.own) vs (as_list o) ∙ ap (λ (xs : List (List Act)). owns vs ++ xs) (owns_list o)

same_with : (vs ws : List Stay) (o n : Option Stay) → owns vs ≡ owns ws → own_now o ≡ own_now n → owns (vs ++ as_list o) ≡ owns (ws ++ as_list n)
same_with vs ws o n e f = owns_with vs o ∙ ((λ i. e i ++ as_acts (f i)) ∙ sym (owns_with ws n))

pub same_all : (v w : Stays) → SameOwn v w → owns (all_in v) ≡ owns (all_in w)
same_all v w s = same_with v.ended w.ended v.now w.now s.ended s.now

same_longer : (more had last : List Act) (o n : Option Stay) → own_now o ≡ own_now n → own_now (longer_by more had o) ≡ own_now (longer_by more last n)
same_longer more had last o n e = owns_more more had o ∙ (ap (more_own more) e ∙ sym (owns_more more last n))

same_after : (a b : Bool) (more had last note other : List Act) (v w : Stays) → SameOwn v w
    → SameOwn (if a then record { ended = all_in v; now = Some (begun note) }
    else if b then record { ended = v.ended ++ as_list (longer_by more had v.now); now = None }
    else record { ended = v.ended; now = longer_by more had v.now })
    (if a then record { ended = all_in w; now = Some (begun other) }
    else if b then record { ended = w.ended ++ as_list (longer_by more last w.now); now = None }
    else record { ended = w.ended; now = longer_by more last w.now })
same_after true b more had last note other v w s = record { ended = same_all v w s; now = refl }
same_after false true more had last note other v w s =
    record { ended = same_with v.ended w.ended (longer_by more had v.now) (longer_by more last w.now) s.ended (same_longer more had last v.now w.now s.now); now = refl }
same_after false false more had last note other v w s = record { ended = s.ended; now = same_longer more had last v.now w.now s.now }

same_element : (c : ℕ) (s : State) (had last : List Act) (v w : Stays) (e f : Element) → e.mark ≡ f.mark → SameOwn v w → SameOwn (stays_after c s had v e) (stays_after c s last w f)
same_element c s had last v w e f m same =
    let was : List Act = acts_after c s had e in
    let is : List Act = acts_after c s last f in
    let by_mark : stays_after c s had v e ≡ (if puts_in c f.mark then record { ended = all_in v; now = Some (begun e.note) }
    else if takes_out c f.mark then record { ended = v.ended ++ as_list (longer_by (reported c s f.mark) was v.now); now = None }
    else record { ended = v.ended; now = longer_by (reported c s f.mark) was v.now }) =
    ap (λ (x : Mark). if puts_in c x then record { ended = all_in v; now = Some (begun e.note) }
    else if takes_out c x then record { ended = v.ended ++ as_list (longer_by (reported c s x) (acts_after c s had e) v.now); now = None }
    else record { ended = v.ended; now = longer_by (reported c s x) (acts_after c s had e) v.now }) m in
    subst (λ (x : Stays). SameOwn x (stays_after c s last w f)) (sym by_mark)
    (same_after (puts_in c f.mark) (takes_out c f.mark) (reported c s f.mark) was is e.note f.note v w same)

pub stays_alike : (c : ℕ) (H K : List Element) → Alike H K → (s : State) (had last : List Act) (v w : Stays) → SameOwn v w → SameOwn (stays_from c s had v H) (stays_from c s last w K)
stays_alike c H K a =
    alike_ind (λ H K. (s : State) (had last : List Act) (v w : Stays) → SameOwn v w → SameOwn (stays_from c s had v H) (stays_from c s last w K)) (λ s had last v w same. same)
    (λ e f H K m n i s had last v w same.
    subst (λ (t : State). SameOwn (stays_from c t (acts_after c s had e) (stays_after c s had v e) H) (stays_from c (after s f.mark) (acts_after c s last f) (stays_after c s last w f) K)) (sym (ap (after s) m))
    (i (after s f.mark) (acts_after c s had e) (acts_after c s last f) (stays_after c s had v e) (stays_after c s last w f) (same_element c s had last v w e f m same)))
    H K a

stays_of_both : (c : ℕ) (S T : Setting) (H K : List Element) → S ≡ T → Alike H K → SameOwn (stays S H c) (stays T K c)
stays_of_both c S T H K e a =
    subst (λ (T : Setting). SameOwn (stays S H c) (stays T K c)) e
    (stays_alike c H K a _ [] [] _ _ (record { ended = refl; now = refl }))

-- histories of as many squeues, alike at each
pub record AllAlike (hs ks : List Ending) : Type 0 where
  pub count : length hs ≡ length ks
  pub each : (q : ℕ) (h k : Ending) → slice_get hs q ≡ Some h → slice_get ks q ≡ Some k → (h.setting ≡ k.setting) × Alike h.history k.history

module _ (hs ks : List Ending) (a : AllAlike hs ks) (c : ℕ) where
  same_in : (q : ℕ) → SameOwn (stays_in (slice_get hs q) c) (stays_in (slice_get ks q) c)
  same_in q =
      elim (cases_lt q (length hs)) [
        | inl lt ↦
            let h = some_at hs q lt in
            let k = some_at ks q (let n = a.count in omega (arith, lt, n)) in
            let both = a.each q h.0 k.0 h.1 k.1 in
            subst (λ (o : Option Ending). SameOwn (stays_in o c) (stays_in (slice_get ks q) c)) (sym h.1)
            (subst (λ (o : Option Ending). SameOwn (stays_in (Some h.0) c) (stays_in o c)) (sym k.1) (stays_of_both c h.0.setting k.0.setting h.0.history k.0.history both.0 both.1))
        | inr ge ↦
            let x = slice_get_past hs q ge in
            let y = slice_get_past ks q (let n = a.count in omega (arith, ge, n)) in
            subst (λ (o : Option Ending). SameOwn (stays_in o c) (stays_in (slice_get ks q) c)) (sym x)
            (subst (λ (o : Option Ending). SameOwn (stays_in None c) (stays_in o c)) (sym y) (record { ended = refl; now = refl }))
      ]

  same_at : (s : ℕ) → SameOwn (stays_at hs c s) (stays_at ks c s)
  same_at s = subst (λ (n : ℕ). SameOwn (stays_at hs c s) (stays_in (slice_get ks ((c + s) % n)) c)) a.count (same_in ((c + s) % length hs))

  got_own : (vs ws : List Stay) (i j : ℕ) → owns vs ≡ owns ws → i ≡ j → own_now (slice_get vs i) ≡ own_now (slice_get ws j)
  got_own vs ws i j e same =
      sym (slice_get-map (λ (u : Stay). u.own) vs i) ∙ ((λ k. slice_get (e k) (same k)) ∙ slice_get-map (λ (u : Stay). u.own) ws j)

  pub stay_same : (s : ℕ) → own_now (stay hs c s) ≡ own_now (stay ks c s)
  stay_same s = got_own (all_in (stays_at hs c s)) (all_in (stays_at ks c s)) (s / length hs) (s / length ks) (same_all (stays_at hs c s) (stays_at ks c s) (same_at s)) (ap (λ (n : ℕ). s / n) a.count)

  pub ended_same : (s : ℕ) → own_now (ended_stay hs c s) ≡ own_now (ended_stay ks c s)
  ended_same s = got_own (stays_at hs c s).ended (stays_at ks c s).ended (s / length hs) (s / length ks) (same_at s).ended (ap (λ (n : ℕ). s / n) a.count)

pub some_same : (o n : Option Stay) (v : Stay) → own_now o ≡ own_now n → o ≡ Some v → (w : Stay) × (n ≡ Some w) × (v.own ≡ w.own)
some_same None n v e is = absurd (let no : ⊥ = cc is in no)
some_same (Some u) None v e is = absurd (let no : ⊥ = cc e in no)
some_same (Some u) (Some w) v e is = (w, refl, (let x : Some u ≡ Some v = is in let y : u ≡ v = cc x in let z : u.own ≡ w.own = cc e in sym (ap (λ (s : Stay). s.own) y) ∙ z))

pub none_same : (o n : Option Stay) → own_now o ≡ own_now n → o ≡ None → n ≡ None
none_same o None e is = refl
none_same None (Some w) e is = absurd (let no : ⊥ = cc e in no)
none_same (Some u) (Some w) e is = absurd (let no : ⊥ = cc is in no)

abbrev acts_or : Option (List Act) → List Act
acts_or None = []
acts_or (Some xs) = xs

own_or : (o : Option Stay) → own_of o ≡ acts_or (own_now o)
own_or None = refl
own_or (Some v) = refl

pub own_same : (o n : Option Stay) → own_now o ≡ own_now n → own_of o ≡ own_of n
own_same o n e = own_or o ∙ (ap acts_or e ∙ sym (own_or n))

module _ (hs ks : List Ending) (a : AllAlike hs ks) (c : ℕ) where
  pub joined_same : (n : ℕ) → joined hs c n ≡ joined ks c n
  joined_same zero = refl
  joined_same (suc n) = λ i. joined_same n i ++ own_same (stay hs c n) (stay ks c n) (stay_same hs ks a c n) i

  pub all_same : (did : List Act) → AreOfAllStays hs c did → AreOfAllStays ks c did
  all_same did h = record {
    count = h.count;
    each = λ s lt. let v = h.each s lt in let w = some_same (stay hs c s) (stay ks c s) v.0 (stay_same hs ks a c s) v.1 in (w.0, w.1);
    none_else = λ s le. none_same (stay hs c s) (stay ks c s) (stay_same hs ks a c s) (h.none_else s le);
    are_joined = h.are_joined ∙ joined_same h.count;
  }

-- the acts of all stays are fixed
pub all_fixed : (hs : List Ending) (c : ℕ) (did other : List Act) → AreOfAllStays hs c did → AreOfAllStays hs c other → did ≡ other
all_fixed hs c did other a b =
    let no_less : (x y : List Act) (f : AreOfAllStays hs c x) (g : AreOfAllStays hs c y) → f.count ≤ g.count = λ x y f g. elim (cases_lt g.count f.count) [
      | inl less ↦ absurd (let v = f.each g.count less in let none = g.none_else g.count (omega arith) in let no : ⊥ = cc (v.1, none) in no)
      | inr le ↦ le
    ] in
    let same : a.count ≡ b.count = (let x = no_less did other a b in let y = no_less other did b a in omega (arith, x, y)) in
    a.are_joined ∙ (ap (joined hs c) same ∙ sym b.are_joined)
