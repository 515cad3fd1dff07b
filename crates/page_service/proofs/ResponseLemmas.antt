-- The answers to what was received: more bytes change none, and one request more has one answer more.
use Rattle.std.proofs.Common.{◌≡◌, ℕ, ◌≤◌, List, [], ◌∷◌, ◌++◌, Option, None, Some, Bool, true, false, cond, length, take, drop, refl, sym, ap, ◌∙◌, subst, append_assoc, append-nil}
use Rattle.std.proofs.lemmas.List.{take-append-drop, drop-append-le, drop_all}
use Rattle.page_service.specs.Protocol.{Protocol, IsProtocol, IsFront, KeptAll, answered, responses}

chosen-nil : (b : Bool) (xs : List ℕ) → xs ++ cond b [] [] ≡ xs
chosen-nil true xs = append-nil xs
chosen-nil false xs = append-nil xs

module _ {A : Type 0} (p : Protocol A) where
  abbrev pub IsOwn : ℕ → List ℕ → A × ℕ → Type 0
  IsOwn at head found = (more : List ℕ) → p.answers at (head ++ more) ≡ Some found

  -- one answer, where another request may follow
  one-kept : (rest : List ℕ → List ℕ) (bytes : List ℕ) (o : Option (A × ℕ)) (found : A × ℕ) → o ≡ Some found → p.keeps found.0 ≡ true
      → answered p rest bytes o ≡ p.text found.0 ++ rest (drop found.1 bytes)
  one-kept rest bytes o found e k =
      ap (answered p rest bytes) e ∙ ap (λ (b : Bool). p.text found.0 ++ cond b (rest (drop found.1 bytes)) []) k

module _ {A : Type 0} (p : Protocol A) (law : IsProtocol p) where
  -- bytes behind a request change nothing
  pub found-more : (at : ℕ) (bytes more : List ℕ) (found : A × ℕ) → p.answers at bytes ≡ Some found → p.answers at (bytes ++ more) ≡ Some found
  found-more at bytes more found e =
      let n = found.1 in
      ap (λ (xs : List ℕ). p.answers at (xs ++ more)) (sym (take-append-drop n bytes))
      ∙ (ap (p.answers at) (append_assoc (take n bytes) (drop n bytes) more) ∙ law.alone at bytes (drop n bytes ++ more) found e)

  -- more times and bytes only go on

  front-text : (text xs ys : List ℕ) (b : Bool) → IsFront xs ys → IsFront (text ++ cond b xs []) (text ++ cond b ys [])
  front-text text xs ys true h = (h.0, append_assoc text xs h.0 ∙ ap (λ (zs : List ℕ). text ++ zs) h.1)
  front-text text xs ys false h = ([], append-nil (text ++ []))

  front-by : (at : ℕ) (times more bytes rest : List ℕ) (o : Option (A × ℕ)) → p.answers at bytes ≡ o
      → ((bs : List ℕ) → IsFront (responses p times bs) (responses p (times ++ more) (bs ++ rest)))
      → IsFront (answered p (responses p times) bytes o) (answered p (responses p (times ++ more)) (bytes ++ rest) (p.answers at (bytes ++ rest)))
  front-by at times more bytes rest None e h = (answered p (responses p (times ++ more)) (bytes ++ rest) (p.answers at (bytes ++ rest)), refl)
  front-by at times more bytes rest (Some found) e h =
      let n = found.1 in
      let whole = answered p (responses p (times ++ more)) (bytes ++ rest) in
      let same : drop n (bytes ++ rest) ≡ drop n bytes ++ rest = drop-append-le n bytes rest (law.counted at bytes found e) in
      let f = front-text (p.text found.0) (responses p times (drop n bytes)) (responses p (times ++ more) (drop n (bytes ++ rest))) (p.keeps found.0)
      (subst (λ (bs : List ℕ). IsFront (responses p times (drop n bytes)) (responses p (times ++ more) bs)) (sym same) (h (drop n bytes))) in
      (f.0, f.1 ∙ ap whole (sym (found-more at bytes rest found e)))

  pub goes-on : (times more bytes rest : List ℕ) → IsFront (responses p times bytes) (responses p (times ++ more) (bytes ++ rest))
  goes-on [] more bytes rest = (responses p more (bytes ++ rest), refl)
  goes-on (at ∷ times) more bytes rest = front-by at times more bytes rest (p.answers at bytes) refl (λ bs. goes-on times more bs rest)

  -- one request more, whatever stands behind it

  pub one-more : (times bytes head more : List ℕ) (at : ℕ) (found : A × ℕ) → KeptAll p times bytes → IsOwn p at head found
      → responses p (times ++ at ∷ []) (bytes ++ (head ++ more)) ≡ responses p times bytes ++ p.text found.0
  one-more [] bytes head more at found k own =
      ap (λ (bs : List ℕ). responses p (at ∷ []) (bs ++ (head ++ more))) k
      ∙ (ap (answered p (responses p []) (head ++ more)) (own more) ∙ chosen-nil (p.keeps found.0) (p.text found.0))
  one-more (first ∷ times) bytes head more at found k own =
      let f = k.0 in
      let n = f.1 in
      let x = head ++ more in
      let text = p.text f.0 in
      one-kept p (responses p (times ++ at ∷ [])) (bytes ++ x) (p.answers first (bytes ++ x)) f (found-more first bytes x f k.1) k.2
      ∙ (ap (λ (bs : List ℕ). text ++ responses p (times ++ at ∷ []) bs) (drop-append-le n bytes x (law.counted first bytes f k.1))
      ∙ (ap (λ (bs : List ℕ). text ++ bs) (one-more times (drop n bytes) head more at found k.3 own)
      ∙ (sym (append_assoc text (responses p times (drop n bytes)) (p.text found.0))
      ∙ ap (λ (bs : List ℕ). bs ++ p.text found.0) (sym (one-kept p (responses p times) bytes (p.answers first bytes) f k.1 k.2)))))

  pub kept-more : (times bytes head : List ℕ) (at : ℕ) (found : A × ℕ) → KeptAll p times bytes → IsOwn p at head found → p.keeps found.0 ≡ true → length head ≤ found.1
      → KeptAll p (times ++ at ∷ []) (bytes ++ head)
  kept-more [] bytes head at found k own keeps w =
      let same : bytes ++ head ≡ head = ap (λ (bs : List ℕ). bs ++ head) k in
      subst (λ (bs : List ℕ). KeptAll p (at ∷ []) bs) (sym same)
      (found, ap (p.answers at) (sym (append-nil head)) ∙ own [], keeps, drop_all found.1 head w)
  kept-more (first ∷ times) bytes head at found k own keeps w =
      let f = k.0 in
      let n = f.1 in (
        f,
        found-more first bytes head f k.1,
        k.2,
        subst (λ (bs : List ℕ). KeptAll p (times ++ at ∷ []) bs) (sym (drop-append-le n bytes head (law.counted first bytes f k.1))) (kept-more times (drop n bytes) head at found k.3 own keeps w),
      )

  -- nothing that stands behind them has an answer yet
  pub kept-stays : (times bytes more : List ℕ) → KeptAll p times bytes → responses p times (bytes ++ more) ≡ responses p times bytes
  kept-stays [] bytes more k = refl
  kept-stays (first ∷ times) bytes more k =
      let f = k.0 in
      let n = f.1 in
      one-kept p (responses p times) (bytes ++ more) (p.answers first (bytes ++ more)) f (found-more first bytes more f k.1) k.2
      ∙ (ap (λ (bs : List ℕ). p.text f.0 ++ responses p times bs) (drop-append-le n bytes more (law.counted first bytes f k.1))
      ∙ (ap (λ (bs : List ℕ). p.text f.0 ++ bs) (kept-stays times (drop n bytes) more k.3)
      ∙ sym (one-kept p (responses p times) bytes (p.answers first bytes) f k.1 k.2)))
