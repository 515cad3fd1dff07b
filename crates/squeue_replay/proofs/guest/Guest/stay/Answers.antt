use Rattle.std.proofs.Common.{◌≡◌, ℕ, ◌+◌, ◌≤◌, ◌⊎◌, inl, inr, List, Some, None, Bor, length, ap, sym, ◌∙◌, subst, refl, arith}
use Rattle.std.specs.List.{PartBy}
use Rattle.std.specs.Prelude.{option_map, slice_get}
use Rattle.std.proofs.lemmas.Option.{slice_get_past, slice_get_read}
use Rattle.perimeter_core.specs.declared.entries.Act.{Act}
use Rattle.squeue_replay.specs.Parts.{parts_of}
use Rattle.squeue_replay.proofs.Parts.{parts_count, stay_lent}
use Rattle.squeue_replay.proofs.guest.Guest.stay.Goals as goal
use Rattle.squeue_replay.proofs.guest.Guest.stay.Goals.{in-Some, in-None}

pub returns-in_err-from : goal.returns-in_err-from
returns-in_err-from c =
    let n = parts_count c.args.self.now.stays.items c.args.self.now.acts.items in
    let past : length c.deref.result.now ≤ c.args.number = c.in_err-from.ensures.lookup.3 in
    let same = ap (λ (xs : List ℕ). length xs) c.deref.ensures.value in
    ap (option_map (λ (acts : Bor (List Act)). acts.now)) c.from_residual.ensures
    ∙ sym (slice_get_past (parts_of c.args.self.now.stays.items c.args.self.now.acts.items) c.args.number (omega (arith, n, past, same)))

pub returns : goal.returns
returns c =
    let a = c.in_ok-from.ensures.lookup in
    let at : slice_get c.args.self.now.stays.items c.args.number ≡ Some c.in_ok-from.field-0.now =
    subst (λ (xs : List ℕ). slice_get xs c.args.number ≡ Some c.in_ok-from.field-0.now) c.deref.ensures.value (slice_get_read c.deref.result.now (length c.deref.result.now) c.args.number c.in_ok-from.field-0.now refl a.3.0 a.1) in
    let next : (slice_get c.args.self.now.stays.items (c.args.number + 1) ≡ Some c.match-get.to) ⊎ ((slice_get c.args.self.now.stays.items (c.args.number + 1) ≡ None) × (c.match-get.to ≡ length c.args.self.now.acts.items)) =
    elim c.match-get.branch [
      | in-Some w ↦
          (let b = w.in-Some.ensures.lookup in
          inl
          (subst (λ (xs : List ℕ). slice_get xs (c.args.number + 1) ≡ Some c.match-get.to) c.deref-2.ensures.value
          (rw w.to-is (slice_get_read c.deref-2.result.now (length c.deref-2.result.now) (c.args.number + 1) w.in-Some.to.now refl b.3.0 b.1))))
      | in-None w ↦
          (let b = w.in-None.ensures.lookup in
          let end : w.len-to.result ≡ length c.args.self.now.acts.items = omega (arith, w.len-to.ensures, c.args.self.now.acts.ok) in
          inr (subst (λ (xs : List ℕ). slice_get xs (c.args.number + 1) ≡ None) c.deref-2.ensures.value (slice_get_past c.deref-2.result.now (c.args.number + 1) b.3), w.to-is ∙ end))
    ] in
    stay_lent c.args.self.now.stays.items c.args.self.now.acts.items c.args.number c.in_ok-from.field-0.now c.match-get.to c.get-3.result c.args.self.now.inside at next
    (subst (λ (xs : List Act). PartBy (λ (x : Bor (List Act)). x.now) xs c.in_ok-from.field-0.now c.match-get.to c.get-3.result) c.deref-3.ensures.value c.get-3.ensures.lookup)
