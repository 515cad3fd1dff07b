-- CALLs, one at a time.
use Rattle.std.proofs.Common.{◌≡◌, ◌∙◌, ℕ, ◌+◌, ◌<◌, refl, sym, ap, List, [], ◌∷◌, ◌++◌, length, take, drop, Option, Some, None, map, get_or, Bor, append_assoc}
use Rattle.std.specs.Prelude.{option_map, option_and_then}
use Rattle.std.proofs.lemmas.List.{take_more, take-append-drop, map-append}
use Rattle.shell.specs.Asked.{calls_of}
use Rattle.shell.specs.Table.{Text}

abbrev pub now_of : List (Bor Text) → List Text
now_of = map (λ w. w.now)

module _ {C : Type 0} (call_of : Text → Option C) where
  -- one more CALL
  pub calls_of-push : (ws : List Text) (w : Text) (cs : List C) (one : C) → (calls_of call_of) ws ≡ Some cs → call_of w ≡ Some one → (calls_of call_of) (ws ++ w ∷ []) ≡ Some (cs ++ one ∷ [])
  calls_of-push [] w cs one e f = ap (option_and_then (λ o. option_map (λ others. o ∷ others) (Some []))) f ∙ ap (λ (l : List C). Some (l ++ one ∷ [])) (same e)
    where
      same : Some [] ≡ Some cs → [] ≡ cs
      same h = cc
  calls_of-push (v ∷ vs) w cs one e f = go (call_of v) ((calls_of call_of) vs) e (λ us h. calls_of-push vs w us one h f)
    where
      same : (x : C) (us : List C) → Some (x ∷ us) ≡ Some cs → x ∷ us ≡ cs
      same x us h = cc

      none : None ≡ Some cs → ⊥
      none h = cc

      go : (o : Option C) (more : Option (List C)) → option_and_then (λ x. option_map (λ others. x ∷ others) more) o ≡ Some cs
          → ((us : List C) → more ≡ Some us → (calls_of call_of) (vs ++ w ∷ []) ≡ Some (us ++ one ∷ []))
          → option_and_then (λ x. option_map (λ others. x ∷ others) ((calls_of call_of) (vs ++ w ∷ []))) o ≡ Some (cs ++ one ∷ [])
      go None more h next = absurd (none h)
      go (Some x) None h next = absurd (none h)
      go (Some x) (Some us) h next = ap (option_map (λ others. x ∷ others)) (next us refl) ∙ ap (λ (l : List C). Some (l ++ one ∷ [])) (same x us h)

  -- a word that is no CALL spoils all
  pub calls_of-bad : (ws : List Text) (w : Text) (more : List Text) → call_of w ≡ None → (calls_of call_of) (ws ++ w ∷ more) ≡ None
  calls_of-bad [] w more f = ap (option_and_then (λ o. option_map (λ others. o ∷ others) ((calls_of call_of) more))) f
  calls_of-bad (v ∷ vs) w more f = ap (λ (o : Option (List C)). option_and_then (λ x. option_map (λ others. x ∷ others) o) (call_of v)) (calls_of-bad vs w more f) ∙ go (call_of v)
    where
      go : (o : Option C) → option_and_then (λ x. option_map (λ others. x ∷ others) None) o ≡ None
      go None = refl
      go (Some x) = refl

  pub calls_step : (ws : List (Bor Text)) (i : ℕ) (d : Bor Text) (cs : List C) (one : C) → i < length ws → (calls_of call_of) (now_of (take i ws)) ≡ Some cs → call_of (get_or ws i d).now ≡ Some one
      → (calls_of call_of) (now_of (take (i + 1) ws)) ≡ Some (cs ++ one ∷ [])
  calls_step ws i d cs one within so_far is =
      ap (λ (l : List (Bor Text)). (calls_of call_of) (now_of l)) (take_more ws i d within)
      ∙ (ap (calls_of call_of) (map-append (λ (w : Bor Text). w.now) (take i ws) (get_or ws i d ∷ []))
      ∙ calls_of-push (now_of (take i ws)) (get_or ws i d).now cs one so_far is)

  pub calls_spoiled : (ws : List (Bor Text)) (i : ℕ) (d : Bor Text) → i < length ws → call_of (get_or ws i d).now ≡ None → (calls_of call_of) (now_of ws) ≡ None
  calls_spoiled ws i d within is =
      ap (λ (l : List (Bor Text)). (calls_of call_of) (now_of l)) (sym (take-append-drop (i + 1) ws) ∙ ap (λ (l : List (Bor Text)). l ++ drop (i + 1) ws) (take_more ws i d within))
      ∙ (ap (calls_of call_of) (map-append (λ (w : Bor Text). w.now) (take i ws ++ get_or ws i d ∷ []) (drop (i + 1) ws)
      ∙ ap (λ (l : List Text). l ++ now_of (drop (i + 1) ws)) (map-append (λ (w : Bor Text). w.now) (take i ws) (get_or ws i d ∷ [])))
      ∙ (ap (calls_of call_of) (append_assoc (now_of (take i ws)) ((get_or ws i d).now ∷ []) (now_of (drop (i + 1) ws)))
      ∙ calls_of-bad (now_of (take i ws)) (get_or ws i d).now (now_of (drop (i + 1) ws)) is))
