-- How the parts are taken out of a resident, connection by connection.
use Rattle.std.proofs.Common.{◌≡◌, ◌≢◌, ℕ, zero, suc, ◌<◌, ◌≤◌, ◌==◌, true, false, Option, Some, None, List, [], length, slice_get, refl, sym, ◌∙◌, subst, arith, inl, inr}
use Rattle.std.specs.Prelude.{is_some}
use Rattle.std.proofs.lemmas.Bool.Decides.{nat_tests}
use Rattle.std.proofs.lemmas.Bool.{cases_eq}
use Rattle.perimeter_core.specs.declared.entries.Act.{Act}
use Rattle.perimeter_core.specs.declared.marks.SynchAct.TheVariants as Done
use Rattle.perimeter_core.specs.declared.resident.Resident.{Ghosts}
use Rattle.perimeter_core.specs.Blocks.{Blocks, with_act}
use Rattle.perimeter_core.specs.Residing.{Here}
use Rattle.squeue_pool.specs.Finishing.{AreTaken, PartTaken, taken, taken_if}

-- the blocks that are left when those of the first connections were taken
abbrev pub left_after : ℕ → Blocks → Blocks
left_after zero blocks = blocks
left_after (suc c) blocks = taken c (left_after c blocks)

taken_other : (o : Option (List Act)) (c k : ℕ) (blocks : Blocks) → c < k → taken_if o c blocks k ≡ blocks k
taken_other (Some had) c k blocks lt = let b : (c == k) ≡ false = grind (arith, nat_tests) in rw b refl
taken_other None c k blocks lt = refl

pub left_same : (c k : ℕ) (blocks : Blocks) → c ≤ k → left_after c blocks k ≡ blocks k
left_same zero k blocks le = refl
left_same (suc c) k blocks le = taken_other (left_after c blocks c) c k (left_after c blocks) (omega (arith, le)) ∙ left_same c k blocks (omega (arith, le))

-- a connection that is here, by what its resident stands for
pub here_now : (Stands : Blocks → Type 0) (blocks : Blocks) (c : ℕ) → Stands blocks → is_some (blocks c) ≡ true → Here Stands c
here_now Stands blocks c stands is_so = by (blocks c) refl is_so
  where
    by : (o : Option (List Act)) → blocks c ≡ o → is_some o ≡ true → Here Stands c
    by (Some had) is is_so = record { blocks = blocks; had = had; stands = stands; here = is }
    by None is is_so = cc is_so

module _ {R P O : Type 0} (G : Ghosts R P O) where
  -- where the connection isn't here
  pub lies_on : (o : O) (c : ℕ) (had : Option (List Act)) (old : Option (Option P)) → is_some had ≡ false → PartTaken G o c had old old
  lies_on o c None old isnt = refl
  lies_on o c (Some had) old isnt = cc isnt

  pub stands_on : (r : R) (c : ℕ) (blocks : Blocks) → is_some (blocks c) ≡ false → G.stands r blocks → G.stands r (taken c blocks)
  stands_on r c blocks isnt stands = by (blocks c) isnt
    where
      by : (o : Option (List Act)) → is_some o ≡ false → G.stands r (taken_if o c blocks)
      by None isnt = stands
      by (Some had) isnt = cc isnt

  -- where it is
  pub lies_now : (o : O) (c : ℕ) (had : Option (List Act)) (old : Option (Option P)) (part : P) → is_some had ≡ true → G.is_part_of o c part → ((h : List Act) → had ≡ Some h → G.part_stands part h) → PartTaken G o c had old (Some (Some part))
  lies_now o c (Some had) old part is_so own stands = (part, refl, own, stands had refl)
  lies_now o c None old part is_so own stands = cc is_so

  pub stands_without : (r : R) (c : ℕ) (blocks : Blocks) → is_some (blocks c) ≡ true → G.stands r (with_act (Done.Out c) [] blocks) → G.stands r (taken c blocks)
  stands_without r c blocks is_so stands = by (blocks c) is_so
    where
      by : (o : Option (List Act)) → is_some o ≡ true → G.stands r (taken_if o c blocks)
      by (Some had) is_so = stands
      by None is_so = cc is_so

module _ {R P O : Type 0} (G : Ghosts R P O) (first : R) (old : List (Option P)) where
  -- the parts of the connections below c were taken out
  pub record TakenBelow (c : ℕ) (r : R) (places : List (Option P)) : Type 0 where
    pub count : length places ≡ length old
    pub size : G.size r ≡ G.size first
    pub origin : G.origin r ≡ G.origin first
    pub stands : (blocks : Blocks) → G.stands first blocks → G.stands r (left_after c blocks)
    pub done : (blocks : Blocks) → G.stands first blocks → (k : ℕ) → k < c → PartTaken G (G.origin first) k (blocks k) (slice_get old k) (slice_get places k)
    pub rest : (k : ℕ) → c ≤ k → slice_get places k ≡ slice_get old k

  pub none_taken : TakenBelow 0 first old
  none_taken = record { count = refl; size = refl; origin = refl; stands = λ blocks s. s; done = λ blocks s k lt. absurd (omega (arith, lt)); rest = λ k le. refl }

  pub one_taken : (c : ℕ) (r next : R) (places new : List (Option P)) → TakenBelow c r places
      → ((blocks : Blocks) → G.stands r blocks → PartTaken G (G.origin r) c (blocks c) (slice_get places c) (slice_get new c))
      → ((k : ℕ) → k ≢ c → slice_get new k ≡ slice_get places k) → length new ≡ length places
      → ((blocks : Blocks) → G.stands r blocks → G.stands next (taken c blocks)) → G.size next ≡ G.size r → G.origin next ≡ G.origin r → TakenBelow (suc c) next new
  one_taken c r next places new h part others count stands size origin =
      record {
        count = count ∙ h.count;
        size = size ∙ h.size;
        origin = origin ∙ h.origin;
        stands = λ blocks s. stands (left_after c blocks) (h.stands blocks s);
        done = λ blocks s k lt. elim (cases_eq k c) [
          | inl same ↦
              let p = part (left_after c blocks) (h.stands blocks s) in
              let q : PartTaken G (G.origin first) c (blocks c) (slice_get old c) (slice_get new c) =
              subst (λ (o : O). PartTaken G o c (blocks c) (slice_get old c) (slice_get new c)) h.origin
              (subst (λ (o : Option (Option P)). PartTaken G (G.origin r) c (blocks c) o (slice_get new c)) (h.rest c (omega arith))
              (subst (λ (o : Option (List Act)). PartTaken G (G.origin r) c o (slice_get places c) (slice_get new c)) (left_same c c blocks (omega arith)) p)) in
              subst (λ (i : ℕ). PartTaken G (G.origin first) i (blocks i) (slice_get old i) (slice_get new i)) (sym same) q
          | inr apart ↦ subst (PartTaken G (G.origin first) k (blocks k) (slice_get old k)) (sym (others k apart)) (h.done blocks s k (omega (arith, lt, apart)))
        ];
        rest = λ k le. others k (λ e. absurd (omega (arith, e, le))) ∙ h.rest k (omega (arith, le));
      }

  pub all_taken : (c : ℕ) (r : R) (places : List (Option P)) → length old ≤ c → TakenBelow c r places → AreTaken G first old places
  all_taken c r places le h = record { count = h.count; each = λ blocks s k lt. h.done blocks s k (omega (arith, lt, le)) }
