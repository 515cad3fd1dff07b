-- The blocks that lie at places.
use Rattle.std.proofs.Common.{◌≡◌, ℕ, zero, suc, Box, Option, Some, None, List, [], ◌∷◌, length, slice_get, refl, ap, subst, arith}
use Rattle.std.specs.declared.alloc.Global.{Global}
use Rattle.conn_blocks.specs.ServeOrder.{BlockOf}
use Rattle.ring_threads.specs.Lying.{AreThere, blocks_at}

later : (o : Option (Box BlockOf Global)) (places : List (Option (Box BlockOf Global))) → AreThere (o ∷ places) → AreThere places
later o places there = λ c lt. there (suc c) (omega (arith, lt))

first_there : {A : Type 0} (o : Option (Box BlockOf Global)) (places : List (Option (Box BlockOf Global))) → AreThere (o ∷ places) → o ≡ None → A
first_there o places there none =
    let f = there 0 (omega arith) in
    let e : o ≡ Some f.0 = cc f.1 in
    cc (subst (λ (x : Option (Box BlockOf Global)). x ≡ Some f.0) none e)

pub as_many : (places : List (Option (Box BlockOf Global))) → AreThere places → length (blocks_at places) ≡ length places
as_many [] there = refl
as_many (Some b ∷ places) there = ap suc (as_many places (later (Some b) places there))
as_many (None ∷ places) there = first_there None places there refl

pub lies_at : (places : List (Option (Box BlockOf Global))) (c : ℕ) (b : Box BlockOf Global) → AreThere places → slice_get places c ≡ Some (Some b) → slice_get (blocks_at places) c ≡ Some b.value
lies_at [] c b there is = cc is
lies_at (None ∷ places) c b there is = first_there None places there refl
lies_at (Some d ∷ places) zero b there is = let e : d ≡ b = cc is in ap (λ (x : Box BlockOf Global). Some x.value) e
lies_at (Some d ∷ places) (suc c) b there is = lies_at places c b (later (Some d) places there) is
