-- The blocks that lie at places.
use Rattle.std.proofs.Common.{◌≡◌, ℕ, zero, suc, Option, Some, None, List, [], ◌∷◌, length, slice_get, refl, ap, subst, arith}
use Rattle.datagram_services.specs.Standing.{served_of}
use Rattle.datagram_services.specs.declared.block.StreamBlock.{StreamBlock}
use Rattle.datagram_services.specs.Lying.{AreThere, streams_at}

later : (o : Option StreamBlock) (places : List (Option StreamBlock)) → AreThere (o ∷ places) → AreThere places
later o places there = λ c lt. there (suc c) (omega (arith, lt))

first_there : {A : Type 0} (o : Option StreamBlock) (places : List (Option StreamBlock)) → AreThere (o ∷ places) → o ≡ None → A
first_there o places there none =
    let f = there 0 (omega arith) in
    let e : o ≡ Some f.0 = cc f.1 in
    cc (subst (λ (x : Option StreamBlock). x ≡ Some f.0) none e)

pub as_many : (places : List (Option StreamBlock)) → AreThere places → length (streams_at places) ≡ length places
as_many [] there = refl
as_many (Some block ∷ places) there = ap suc (as_many places (later (Some block) places there))
as_many (None ∷ places) there = first_there None places there refl

pub lies_at : (places : List (Option StreamBlock)) (c : ℕ) (block : StreamBlock) → AreThere places → slice_get places c ≡ Some (Some block) → slice_get (streams_at places) c ≡ Some (served_of block)
lies_at [] c block there is = cc is
lies_at (None ∷ places) c block there is = first_there None places there refl
lies_at (Some d ∷ places) zero block there is = let e : d ≡ block = cc is in ap (λ (x : StreamBlock). Some (served_of x)) e
lies_at (Some d ∷ places) (suc c) block there is = lies_at places c block (later (Some d) places there) is
