-- Which stay of a connection an In at a squeue begins.
use Rattle.std.proofs.Common.{◌≡◌, ℕ, zero, suc, ◌+◌, ◌-◌, ◌*◌, ◌/◌, ◌%◌, ◌<◌, ◌≤◌, ◌==◌, inl, inr, Bool, true, false, if◌then◌else◌, Some, List, [], ◌++◌, length, refl, ap, sym, ◌∙◌, arith, eq-eqb}
use Rattle.std.specs.Prelude.{slice_get}
use Rattle.std.proofs.lemmas.Bool.{cases_lt, ne_eqb, eqb-true, eqb-false}
use Rattle.std.proofs.lemmas.Nat.{div-add-mod', div-mul-add, mod-mul-add, mod_below}
use Rattle.perimeter_core.specs.declared.entries.Act.{Act}
use Rattle.perimeter_core.specs.declared.marks.Mark.{Mark}
use Rattle.perimeter_core.specs.Perimeter.{is_here}
use Rattle.perimeter_core.specs.History.{Setting, start}
use Rattle.histories.specs.Stays.{Stay, all_in, stays}
use Rattle.squeue_replay.specs.Histories.{stay_of}
use Rattle.ring_quotas.proofs.Moving.{mod_sum}
use Rattle.trace_replay.proofs.NotesIn.{firsts, note_at, notes_in}
use Rattle.trace_replay.proofs.Full.{full_from, notes_in_full}

module _ (s : ℕ) (some : 0 < s) where
  pub away_of : (c t : ℕ) → ((c + t) % s + s - c % s) % s ≡ t % s
  away_of c t =
      let a = mod_below c s some in
      let o = mod_below t s some in
      elim (mod_sum c t s some) [
        | inl h ↦
            let e : (c + t) % s + s - c % s ≡ 1 * s + t % s = (let x = h.0 in omega (arith, x, a)) in
            ap (λ (m : ℕ). m % s) e ∙ mod-mul-add 1 s (t % s) o
        | inr h ↦
            let e : (c + t) % s + s - c % s ≡ 0 * s + t % s = omega (arith, h, a) in
            ap (λ (m : ℕ). m % s) e ∙ mod-mul-add 0 s (t % s) o
      ]

  -- a stay is where the first one was exactly after whole rounds
  same_home : (c t : ℕ) → ((c + t) % s == c % s) ≡ (t % s == 0)
  same_home c t = by (t % s == 0) refl
    where
      by : (b : Bool) → (t % s == 0) ≡ b → ((c + t) % s == c % s) ≡ b
      by true e =
          let z = eqb-true (t % s) 0 e in
          let a = mod_below c s some in
          eq-eqb ((c + t) % s) (c % s) (elim (mod_sum c t s some) [ inl h ↦ (let x = h.0 in omega (arith, x, z)) | inr h ↦ absurd (let no : ⊥ = omega (arith, h, z, a) in no) ])
      by false e =
          let o = mod_below t s some in
          ne_eqb ((c + t) % s) (c % s) (λ same. elim (mod_sum c t s some) [
            | inl h ↦ eqb-false (t % s) 0 e (let x = h.0 in omega (arith, x, same))
            | inr h ↦ (let no : ⊥ = omega (arith, h, same, o) in no)
          ])

  pub stay_is : (c t n : ℕ) → t / s ≡ length (firsts (t % s == 0)) + n → stay_of s ((c + t) % s) c n ≡ t
  stay_is c t n is = ap (λ (first : ℕ). if first == 0 then s * (n + 1) else first + s * n) (away_of c t) ∙ by (t % s == 0) refl is
    where
      by : (b : Bool) → (t % s == 0) ≡ b → t / s ≡ length (firsts b) + n → (if b then s * (n + 1) else t % s + s * n) ≡ t
      by true e is =
          let z = eqb-true (t % s) 0 e in
          let d = div-add-mod' t s in
          let m : t / s * s ≡ (1 + n) * s = ap (λ (k : ℕ). k * s) is in
          omega (arith, z, d, m)
      by false e is =
          let d = div-add-mod' t s in
          let m : t / s * s ≡ (0 + n) * s = ap (λ (k : ℕ). k * s) is in
          omega (arith, d, m)

  -- how far a squeue is from the one where the connection begins
  pub record Way (q c : ℕ) : Type 0 where
    pub off : ℕ
    pub rounds : ℕ
    pub is : (q + s - c % s) % s ≡ off
    pub below : off < s
    pub leads : c + off ≡ rounds * s + q
    pub home : (q == c % s) ≡ (off == 0)

  pub way : (q c : ℕ) → q < s → Way q c
  way q c lt =
      let a = mod_below c s some in
      let d = div-add-mod' c s in
      elim (cases_lt q (c % s)) [
        | inl less ↦
            let n : q + s - c % s < s = omega (arith, less, a) in
            let z : q + s - c % s ≡ 0 * s + (q + s - c % s) = omega arith in
            record {
              off = q + s - c % s;
              rounds = c / s + 1;
              is = ap (λ (m : ℕ). m % s) z ∙ mod-mul-add 0 s (q + s - c % s) n;
              below = n;
              leads = omega (arith, less, a, d);
              home = ne_eqb q (c % s) (λ e. (let no : ⊥ = omega (arith, less, e) in no)) ∙ sym (ne_eqb (q + s - c % s) 0 (λ e. (let no : ⊥ = omega (arith, e, a, less) in no)));
            }
        | inr more ↦
            let n : q - c % s < s = omega (arith, lt) in
            let z : q + s - c % s ≡ 1 * s + (q - c % s) = omega (arith, more) in
            record {
              off = q - c % s;
              rounds = c / s;
              is = ap (λ (m : ℕ). m % s) z ∙ mod-mul-add 1 s (q - c % s) n;
              below = n;
              leads = omega (arith, more, d);
              home = by (q - c % s == 0) refl more;
            }
      ]
    where
      by : (b : Bool) → (q - c % s == 0) ≡ b → c % s ≤ q → (q == c % s) ≡ b
      by true e le = let z = eqb-true (q - c % s) 0 e in eq-eqb q (c % s) (omega (arith, z, le))
      by false e le = ne_eqb q (c % s) (λ same. eqb-false (q - c % s) 0 e (omega (arith, same)))

  -- where the stay is that an In begins
  pub begun_at : (q c n : ℕ) → q < s → ((c + stay_of s q c n) % s ≡ q) × (stay_of s q c n / s ≡ length (firsts (q == c % s)) + n)
  begun_at q c n lt =
      let w = way q c lt in
      let k : ℕ = length (firsts (q == c % s)) + n in
      let t : stay_of s q c n ≡ k * s + w.off = ap (λ (first : ℕ). if first == 0 then s * (n + 1) else first + s * n) w.is ∙ (by (w.off == 0) w.off refl ∙ ap (λ (b : Bool). (length (firsts b) + n) * s + w.off) (sym w.home)) in
      let sum : c + (k * s + w.off) ≡ (w.rounds + k) * s + q = (let l = w.leads in omega (arith, l)) in (
        ap (λ (m : ℕ). (c + m) % s) t ∙ (ap (λ (m : ℕ). m % s) sum ∙ mod-mul-add (w.rounds + k) s q lt),
        ap (λ (m : ℕ). m / s) t ∙ div-mul-add k s w.off w.below,
      )
    where
      by : (b : Bool) (off : ℕ) → (off == 0) ≡ b → (if b then s * (n + 1) else off + s * n) ≡ (length (firsts b) + n) * s + off
      by true off e = let z = eqb-true off 0 e in omega (arith, z)
      by false off e = omega arith

-- The notes are right of a history whose notes are those of the stays that it begins
module _ (s : ℕ) (some : 0 < s) (F : ℕ → ℕ → List Act) (S : Setting) (ms : List Mark) (c t : ℕ) (nothing : F c 0 ≡ [])
    (home : is_here (start S) c ≡ ((c + t) % s == c % s)) where
  abbrev q : ℕ
  q = (c + t) % s

  pub noted_right : (v : Stay) → slice_get (all_in (stays S (full_from (λ c n. F c (stay_of s q c n)) [] ms) c)) (t / s) ≡ Some v → v.note ≡ F c t
  noted_right v at =
      let H = full_from (λ c n. F c (stay_of s q c n)) [] ms in
      let b : is_here (start S) c ≡ (t % s == 0) = home ∙ same_home s some c t in
      let n = note_at S H c (t / s) v at in
      by (t % s == 0) (t / s) refl refl (ap (λ (b : Bool). slice_get (firsts b ++ notes_in c H) (t / s)) (sym b) ∙ n)
    where
      by : (b : Bool) (k : ℕ) → (t % s == 0) ≡ b → t / s ≡ k → slice_get (firsts b ++ notes_in c (full_from (λ c n. F c (stay_of s q c n)) [] ms)) k ≡ Some v.note → v.note ≡ F c t
      by true zero e is at =
          let none : [] ≡ v.note = cc at in
          let d = div-add-mod' t s in
          let z = eqb-true (t % s) 0 e in
          let m : t / s * s ≡ 0 * s = ap (λ (k : ℕ). k * s) is in
          let first : 0 ≡ t = omega (arith, d, z, m) in
          sym none ∙ (sym nothing ∙ ap (F c) first)
      by true (suc k) e is at =
          let z : 0 + k ≡ k = omega arith in
          let place : t / s ≡ length (firsts (t % s == 0)) + k = is ∙ ((let z : suc k ≡ 1 + k = omega arith in z) ∙ ap (λ (b : Bool). length (firsts b) + k) (sym e)) in
          notes_in_full (λ c n. F c (stay_of s q c n)) c [] ms k v.note at ∙ (ap (λ (n : ℕ). F c (stay_of s q c n)) z ∙ ap (F c) (stay_is s some c t k place))
      by false k e is at =
          let z : 0 + k ≡ k = omega arith in
          let place : t / s ≡ length (firsts (t % s == 0)) + k = is ∙ ((let z : k ≡ 0 + k = omega arith in z) ∙ ap (λ (b : Bool). length (firsts b) + k) (sym e)) in
          notes_in_full (λ c n. F c (stay_of s q c n)) c [] ms k v.note at ∙ (ap (λ (n : ℕ). F c (stay_of s q c n)) z ∙ ap (F c) (stay_is s some c t k place))
