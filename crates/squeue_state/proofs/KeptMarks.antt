-- One more mark kept.
use Rattle.std.proofs.Common.{◌≡◌, ◌+◌, ◌*◌, ◌<◌, ◌≤◌, ℕ, Bool, true, false, if◌then◌else◌, List, [], ◌∷◌, ◌++◌, length, map, ap, sym, ◌∙◌, subst, arith, length-append}
use Rattle.std.proofs.lemmas.List.{map-append, length-map}
use Rattle.perimeter_core.specs.declared.marks.Mark.{Mark}
use Rattle.perimeter_core.specs.History.{Element}
use Rattle.perimeter_core.specs.Deeds.{entered, entries_of}
use Rattle.perimeter_core.specs.Legal.{Legal}
use Rattle.perimeter_core.specs.History.{Limits, all_quotas}
use Rattle.perimeter_core.proofs.OneMore.{entered_push}
use Rattle.perimeter_core.proofs.Quotas.{entered_within}
use Rattle.perimeter_core.proofs.HistoryLength.{length_bounded}
use Rattle.perimeter_core.specs.Kinds.{mark_by}
use Rattle.squeue_state.specs.Told.{Traced, marks_of}
use Rattle.squeue_state.specs.Naming.{Given, setting_of}
use Rattle.perimeter_core.specs.declared.entries.Feed.{Feed}
use Rattle.perimeter_core.specs.declared.entries.Act.{Act}
use Rattle.perimeter_core.specs.declared.marks.Kind.{Kind}
use Rattle.squeue_state.specs.declared.guarded.Guarded.{Guarded}
use Rattle.histories.specs.Elements.{element_of}
use Rattle.squeue_state.specs.Behind.{Noted}

entered_more : (H : List Element) (e : Element) → length (entered (H ++ e ∷ [])) ≡ length (entered H) + length (entries_of e.mark)
entered_more H e = ap length (entered_push H e) ∙ length-append (entered H) (entries_of e.mark)

module _ {R : Type 0} (g : Given R) (t u : Traced) (H : List Element) (e : Element) (m : Mark) where
  -- where the marks are kept
  pub noted_one : (kept : Bool) → kept ≡ true → e.mark ≡ m → Noted g kept t H → marks_of u ≡ marks_of t ++ m ∷ [] → length u.entries ≤ length t.entries + length (entries_of m)
      → u.mark_room ≡ t.mark_room → u.entry_room ≡ t.entry_room → Noted g kept u (H ++ e ∷ [])
  noted_one kept on is n marks entries mark_room entry_room =
      let was : marks_of t ≡ map (λ x. x.mark) H = n.marks ∙ ap (λ b. if b then map (λ x. x.mark) H else []) on in
      let now : marks_of u ≡ map (λ x. x.mark) (H ++ e ∷ []) =
      marks ∙ (ap (λ xs. xs ++ m ∷ []) was ∙ (ap (λ x. map (λ y. y.mark) H ++ x ∷ []) (sym is) ∙ sym (map-append (λ y. y.mark) H (e ∷ [])))) in
      record {
        same = n.same;
        marks = now ∙ ap (λ b. if b then map (λ x. x.mark) (H ++ e ∷ []) else []) (sym on);
        entries = omega (arith, n.entries, entries, entered_more H e, ap (λ x. length (entries_of x)) is);
        mark_room = mark_room ∙ n.mark_room;
        entry_room = entry_room ∙ n.entry_room;
      }

  -- where they aren't
  pub noted_none : (kept : Bool) → kept ≡ false → Noted g kept t H → Noted g kept t (H ++ e ∷ [])
  noted_none kept off n =
      record {
        same = n.same;
        marks = n.marks ∙ (ap (λ b. if b then map (λ x. x.mark) H else []) off ∙ ap (λ b. if b then map (λ x. x.mark) (H ++ e ∷ []) else []) (sym off));
        entries = omega (arith, n.entries, entered_more H e);
        mark_room = n.mark_room;
        entry_room = n.entry_room;
      }

-- there is room for one more
pub room_left : {R : Type 0} (limits : R → Limits) (g : Given R) (t : Traced) (H : List Element) (e : Element) (kept : Bool) → Legal (setting_of limits g) (H ++ e ∷ []) → Noted g kept t H → kept ≡ true
    → (length t.marks < t.mark_room) × (length t.entries + length (entries_of e.mark) ≤ t.entry_room)
room_left limits g t H e kept l n on =
    let S = setting_of limits g in
    let was : marks_of t ≡ map (λ x. x.mark) H = n.marks ∙ ap (λ b. if b then map (λ x. x.mark) H else []) on in
    let count : length t.marks ≡ length H = sym (length-map t.marks _) ∙ (ap length was ∙ length-map H _) in
    let bound = length_bounded S (H ++ e ∷ []) l in
    let all = entered_within S (H ++ e ∷ []) l in
    let more = length-append H (e ∷ []) in
    let marks = n.mark_room ∙ ap (λ b. if b then 8 * all_quotas g.quotas + 4 * (length g.quotas + 1) else 0) on in
    let entries = n.entry_room ∙ ap (λ b. if b then all_quotas g.quotas else 0) on in
    (omega (arith, count, bound, more, marks), omega (arith, all, entered_more H e, n.entries, entries))

-- the same of the value that is lent
pub room_at : {R : Type 0} (limits : R → Limits) (g : Given R) (v w : Guarded R) (H : List Element) (p q : ℕ) (kind : Kind) (es : List Feed) (note : List Act) → v ≡ w → p ≡ q → Legal (setting_of limits g) (H ++ element_of q kind es note ∷ []) → Noted g w.traced w.trace H
    → v.traced ≡ true → (length v.trace.marks < v.trace.mark_room) × (length v.trace.entries + length (entries_of (mark_by p kind es)) ≤ v.trace.entry_room)
room_at {R} limits g v w H p q kind es note is same l n =
    subst (λ (x : Guarded R). x.traced ≡ true → (length x.trace.marks < x.trace.mark_room) × (length x.trace.entries + length (entries_of (mark_by p kind es)) ≤ x.trace.entry_room)) (sym is)
    (λ on. let r = room_left limits g w.trace H (element_of q kind es note) w.traced l n on in
    (r.0, omega (arith, r.1, ap (λ (k : ℕ). length (entries_of (mark_by k kind es))) same)))
