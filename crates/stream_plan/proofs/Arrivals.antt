-- What arrived, one record further.
use Rattle.std.proofs.Common.{◌≡◌, ℕ, ◌+◌, ◌<◌, List, [], ◌∷◌, ◌++◌, zero, suc, length, take, Some, None, IfSome, slice_get, refl, sym, ap, ◌∙◌, arith, append-nil, append_assoc}
use Rattle.sq_base.specs.declared.kinds.Link.{Link}
use Rattle.capture_reader.specs.CaptureFile.{Packet as Captured}
use Rattle.stream_plan.specs.declared.kinds.Arrived.{Arrived}
use Rattle.stream_plan.specs.declared.kinds.Found.{Found}
use Rattle.stream_plan.specs.Streams.{arrived, arrived_from, served_in}

-- a list, one element further
taken : {A : Type 0} (xs : List A) (i : ℕ) (x : A) → slice_get xs i ≡ Some x → take (i + 1) xs ≡ take i xs ++ x ∷ []
taken xs i x e = let on : i + 1 ≡ suc i = omega arith in ap (λ n. take n xs) on ∙ more xs i e
  where
    more : {A : Type 0} {x : A} (xs : List A) (i : ℕ) → slice_get xs i ≡ Some x → take (suc i) xs ≡ take i xs ++ x ∷ []
    more [] i e = absurd (let no : ⊥ = cc in no)
    more (y ∷ ys) zero e = let same : y ≡ _ = cc in ap (λ z. z ∷ []) same
    more (y ∷ ys) (suc i) e = ap (λ l. y ∷ l) (more ys i e)

taken_length : {A : Type 0} (xs : List A) (i : ℕ) (x : A) → slice_get xs i ≡ Some x → length (take i xs) ≡ i
taken_length [] i x e = absurd (let no : ⊥ = cc in no)
taken_length (y ∷ ys) zero x e = refl
taken_length (y ∷ ys) (suc i) x e = ap suc (taken_length ys i x e)

module _ (link : Link) where
  arrived_push : (n : ℕ) (rs : List Captured) (r : Captured) → arrived_from link n (rs ++ r ∷ []) ≡ arrived_from link n rs ++ arrived (n + length rs) r.time (served_in link r.body)
  arrived_push n [] r =
      let none : n + 0 ≡ n = omega arith in
      append-nil (arrived n r.time (served_in link r.body)) ∙ ap (λ m. arrived m r.time (served_in link r.body)) (sym none)
  arrived_push n (q ∷ rs) r =
      let on : suc n + length rs ≡ n + suc (length rs) = omega arith in
      ap (λ l. arrived n q.time (served_in link q.body) ++ l) (arrived_push (suc n) rs r ∙ ap (λ m. arrived_from link (suc n) rs ++ arrived m r.time (served_in link r.body)) on)
      ∙ sym (append_assoc (arrived n q.time (served_in link q.body)) (arrived_from link (suc n) rs) (arrived (n + suc (length rs)) r.time (served_in link r.body)))

  -- one record further, by what of it is served
  module _ (rs : List Captured) (i : ℕ) (r : Captured) (here : slice_get rs i ≡ Some r) (xs : List Arrived) (so_far : xs ≡ arrived_from link 0 (take i rs)) where
    further : arrived_from link 0 (take (i + 1) rs) ≡ xs ++ arrived i r.time (served_in link r.body)
    further =
        let number : 0 + length (take i rs) ≡ i = omega (arith, taken_length rs i r here) in
        ap (arrived_from link 0) (taken rs i r here) ∙ arrived_push 0 (take i rs) r
        ∙ (λ k. sym so_far k ++ arrived (number k) r.time (served_in link r.body))

    pub one_more : (f : Found) (at : ℕ) → at ≡ r.time → Some f ≡ served_in link r.body → xs ++ record { rec = i; at = at; found = f } ∷ [] ≡ arrived_from link 0 (take (i + 1) rs)
    one_more f at time is = (λ k. xs ++ arrived i (time k) (is k)) ∙ sym further

    pub none_more : None ≡ served_in link r.body → xs ≡ arrived_from link 0 (take (i + 1) rs)
    none_more is = sym (further ∙ ap (λ o. xs ++ arrived i r.time o) (sym is) ∙ append-nil xs)

-- the packet of this number, where its body is known
pub record IsAt (rs : List Captured) (i : ℕ) (body : List ℕ) : Type 0 where
  pub packet : Captured
  pub here : slice_get rs i ≡ Some packet
  pub its_body : body ≡ packet.body
  pub same : (p : Captured) → slice_get rs i ≡ Some p → p.time ≡ packet.time

pub some_body : (rs : List Captured) (i : ℕ) (body : List ℕ) → i < length rs → IfSome (slice_get rs i) (λ p. body ≡ p.body) → IsAt rs i body
some_body [] i body lt h = absurd (let no : ⊥ = omega (arith, lt) in no)
some_body (r ∷ rs) zero body lt h = record { packet = r; here = refl; its_body = h; same = λ p e. let same : r ≡ p = cc in ap (λ (q : Captured). q.time) (sym same) }
some_body (r ∷ rs) (suc i) body lt h = let rest = some_body rs i body (omega (arith, lt)) h in record { packet = rest.packet; here = rest.here; its_body = rest.its_body; same = rest.same }
