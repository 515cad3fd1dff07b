-- One packet decoded, and its place among all.
use Rattle.std.proofs.Common.{◌≡◌, ◌≢◌, ℕ, ◌+◌, ◌<◌, ◌==◌, Bool, true, false, List, [], length, get_or, set, refl, sym, ap, subst, ◌∙◌, arith, IfSome, slice_get}
use Rattle.std.proofs.lemmas.List.{get_or-map, get_or-set_other}
use Rattle.std.proofs.lemmas.Grind.{get_or-set_at}
use Rattle.std.proofs.lemmas.Bool.{eqb-true, eqb-false}
use Rattle.std.proofs.lemmas.Option.{slice_get-get_or}
use Rattle.capture_reader.specs.CaptureFile.{Packet as Captured}
use Rattle.capture_reader.specs.Outcome.{CaptureFile}
use Rattle.segment_codec.specs.declared.packet.Packet.{Packet}
use Rattle.segment_codec.specs.Packet.{packet_in}
use Rattle.conn_classifier.specs.Connections.{decoded}

none : Captured
none = record { time = 0; from = 0; body = [] }

pub decoded_at : (file : CaptureFile) (verify : Bool) (i : ℕ) (body : List ℕ) (d : Packet) → i < length file.packets
    → IfSome (slice_get file.packets i) (λ p. body ≡ p.body) → packet_in file.link body verify ≡ get_or (decoded file verify) i d
decoded_at file verify i body d lt h =
    let here : body ≡ (get_or file.packets i none).body = subst (λ o. IfSome o (λ (p : Captured). body ≡ p.body)) (slice_get-get_or file.packets i none lt) h in
    ap (λ b. packet_in file.link b verify) here ∙ sym (get_or-map (λ r. packet_in file.link r.body verify) file.packets i none d lt)

-- one more place written
pub one_more : (xs ys : List Packet) (at k : ℕ) (v : Packet) → k < length xs → ((j : ℕ) (d : Packet) → j < k → get_or xs j d ≡ get_or ys (at + j) d)
    → ((d : Packet) → v ≡ get_or ys (at + k) d) → (j : ℕ) (d : Packet) → j < k + 1 → get_or (set xs k v) j d ≡ get_or ys (at + j) d
one_more xs ys at k v lt so_far here j d below = by (j == k) refl
  where
    by : (b : Bool) → (j == k) ≡ b → get_or (set xs k v) j d ≡ get_or ys (at + j) d
    by true e = let same : j ≡ k = eqb-true _ _ e in get_or-set_at xs k j v d same lt ∙ here d ∙ ap (λ n. get_or ys (at + n) d) (sym same)
    by false e =
        let apart : j ≢ k = eqb-false _ _ e in
        let less : j < k = omega (arith, below, apart) in
        get_or-set_other xs k j v d apart ∙ so_far j d less
