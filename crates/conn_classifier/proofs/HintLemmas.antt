-- What one more segment in front says of the hints.
use Rattle.std.proofs.Common.{◌≡◌, ℕ, ◌+◌, ◌<◌, ◌%◌, ◌==◌, bit_and, Bool, true, false, List, [], ◌∷◌, length, drop, get_or, set, if◌then◌else◌, refl, sym, ap, ◌∙◌, subst, eq-eqb}
use Rattle.std.proofs.lemmas.Bool.{ne_eqb, eqb-true}
use Rattle.std.proofs.lemmas.List.{drop_more, drop-set}
use Rattle.segment_codec.specs.ControlBits.{ack, has_ack, has_rst, has_syn, rst, syn}
use Rattle.segment_codec.specs.declared.packet.Seg.{Seg}
use Rattle.conn_classifier.specs.declared.kinds.Arrival.{Arrival}
use Rattle.conn_classifier.specs.declared.ahead.Ahead.{Ahead}
use Rattle.conn_classifier.specs.Items.{hint, looked}
use Rattle.conn_classifier.specs.Hints.{hints_of, said, IsAhead}

module _ (a : Arrival) (more : List Arrival) (seq : ℕ) where
  looked_syn : has_syn a.seg ≡ true → looked seq (a ∷ more) ≡ (if a.seg.seq == seq then looked seq more else 0)
  unfolding looked
  looked_syn e = by (a.seg.seq == seq) refl
    where
      by : (b : Bool) → (a.seg.seq == seq) ≡ b → looked seq (a ∷ more) ≡ (if a.seg.seq == seq then looked seq more else 0)
      by true q = rw (e, q) refl
      by false q = rw (e, q) (rw e refl)

  looked_rst : has_syn a.seg ≡ false → has_rst a.seg ≡ true → looked seq (a ∷ more) ≡ looked seq more
  unfolding looked
  looked_rst e f = rw (e, f) refl

  looked_ack : has_syn a.seg ≡ false → has_rst a.seg ≡ false → has_ack a.seg ≡ true → looked seq (a ∷ more) ≡ (a.seg.ack + 4294967295) % 4294967296
  unfolding looked
  looked_ack e f g = rw (e, f, g) (rw e refl)

  looked_none : has_syn a.seg ≡ false → has_rst a.seg ≡ false → has_ack a.seg ≡ false → looked seq (a ∷ more) ≡ looked seq more
  unfolding looked
  looked_none e f g = rw (e, f, g) refl

pub looked_nil : (seq : ℕ) → 0 ≡ looked seq []
unfolding looked
looked_nil seq = refl

module _ (a : Arrival) (x : Ahead) (more : List Arrival) (is : IsAhead x more) (seq : ℕ) where
  pub ahead_syn : (iss : ℕ) → iss ≡ said x a.seg.seq → bit_and a.seg.flags syn ≡ syn → (if a.seg.seq == seq then iss else 0) ≡ looked seq (a ∷ more)
  ahead_syn iss e s = by (a.seg.seq == seq) refl ∙ sym (looked_syn a more seq (eq-eqb _ _ s))
    where
      by : (b : Bool) → (a.seg.seq == seq) ≡ b → (if a.seg.seq == seq then iss else 0) ≡ (if a.seg.seq == seq then looked seq more else 0)
      by true q = rw q (e ∙ is a.seg.seq ∙ ap (λ n. looked n more) (eqb-true _ _ q))
      by false q = rw q refl

  pub ahead_rst : (bit_and a.seg.flags syn ≡ syn → ⊥) → bit_and a.seg.flags rst ≡ rst → said x seq ≡ looked seq (a ∷ more)
  ahead_rst s r = is seq ∙ sym (looked_rst a more seq (ne_eqb _ _ s) (eq-eqb _ _ r))

  pub ahead_ack : (bit_and a.seg.flags syn ≡ syn → ⊥) → (bit_and a.seg.flags rst ≡ rst → ⊥) → bit_and a.seg.flags ack ≡ ack
      → (a.seg.ack + 4294967295) % 4294967296 ≡ looked seq (a ∷ more)
  ahead_ack s r k = sym (looked_ack a more seq (ne_eqb _ _ s) (ne_eqb _ _ r) (eq-eqb _ _ k))

  pub ahead_none : (bit_and a.seg.flags syn ≡ syn → ⊥) → (bit_and a.seg.flags rst ≡ rst → ⊥) → (bit_and a.seg.flags ack ≡ ack → ⊥)
      → said x seq ≡ looked seq (a ∷ more)
  ahead_none s r k = is seq ∙ sym (looked_none a more seq (ne_eqb _ _ s) (ne_eqb _ _ r) (ne_eqb _ _ k))

-- an arrival of this segment
abbrev pub of_segment : Arrival → Seg → Arrival
of_segment a s = record { rec = a.rec; at = a.at; seg = s }

pub same_segment : (a : Arrival) (s : Seg) → a.seg ≡ s → (more : List Arrival) (seq : ℕ) → looked seq (of_segment a s ∷ more) ≡ looked seq (a ∷ more)
same_segment a s e more seq = ap (λ t. looked seq (of_segment a t ∷ more)) (sym e)

-- one turn of the walk from the back
module _ (xs : List Arrival) (hs : List ℕ) (j : ℕ) (d : Arrival) (lt : j < length xs) (long : length hs ≡ length xs)
    (so_far : drop (j + 1) hs ≡ hints_of (drop (j + 1) xs)) (x : Ahead) (is : IsAhead x (drop (j + 1) xs)) where
  pub turn_hints : (v : ℕ) → v ≡ hint (get_or xs j d).seg (drop (j + 1) xs) → drop j (set hs j v) ≡ hints_of (drop j xs)
  turn_hints v e =
      drop-set hs j v (subst (λ n. j < n) (sym long) lt) ∙ (λ k. e k ∷ so_far k) ∙ sym (ap hints_of (drop_more xs j d lt))

  pub turn_ahead : (y : Ahead) → IsAhead y (get_or xs j d ∷ drop (j + 1) xs) → IsAhead y (drop j xs)
  turn_ahead y h = subst (IsAhead y) (sym (drop_more xs j d lt)) h
