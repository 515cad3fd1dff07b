-- The histories of all squeues that have given marks, with notes by connection and stay.
use Rattle.std.proofs.Common.{◌≡◌, ◌≢◌, ℕ, zero, suc, ◌+◌, ◌*◌, ◌/◌, ◌%◌, ◌<◌, ◌==◌, Bool, true, false, Option, Some, None, List, [], ◌∷◌, length, map, refl, ap, sym, ◌∙◌, subst, arith}
use Rattle.std.specs.Prelude.{slice_get}
use Rattle.std.specs.Option.{option_map}
use Rattle.std.specs.List.{enumerate_from, range_with_len}
use Rattle.std.proofs.lemmas.Bool.Decides.{nat_tests}
use Rattle.std.proofs.lemmas.List.{length-map}
use Rattle.std.proofs.lemmas.List.FromFn.{get_or-map-range_with_len, length-map-range_with_len, length-enumerate_from}
use Rattle.std.proofs.lemmas.Option.{slice_get-map}
use Rattle.perimeter_core.specs.declared.entries.Act.{Act}
use Rattle.perimeter_core.specs.declared.entries.Act.TheVariants as Did
use Rattle.perimeter_core.specs.declared.marks.Mark.{Mark}
use Rattle.perimeter_core.specs.Perimeter.{is_here}
use Rattle.perimeter_core.specs.History.{Setting, start}
use Rattle.histories.specs.Endings.{Ending}
use Rattle.histories.specs.Stays.{StartsAtHome, Stay, all_in, stay, stays_in}
use Rattle.conn_classifier.specs.Plan.{PlanOf}
use Rattle.conn_blocks.specs.CallLists.{CallLists}
use Rattle.ring_quotas.specs.declared.setup.Setup.{Setup}
use Rattle.ring_quotas.specs.Quotas.{setting_at}
use Rattle.squeue_replay.specs.Histories.{endings_of, noted, stay_of}
use Rattle.trace_replay.proofs.Full.{full_from, marks_of_full, noted_is}
use Rattle.trace_replay.proofs.NotesIn.{marks_of}
use Rattle.trace_replay.proofs.Rounds.{noted_right}

same_test : (a b : ℕ) → (a == b) ≡ (b == a)
same_test a b = by (a == b) (b == a) refl refl
  where
    by : (x y : Bool) → (a == b) ≡ x → (b == a) ≡ y → (a == b) ≡ (b == a)
    by true true u v = u ∙ sym v
    by false false u v = u ∙ sym v
    by true false u v = let e : a ≡ b = grind (arith, nat_tests) in let f : b ≢ a = grind (arith, nat_tests) in absurd (f (sym e))
    by false true u v = let e : b ≡ a = grind (arith, nat_tests) in let f : a ≢ b = grind (arith, nat_tests) in absurd (f (sym e))

numbered_got : {A : Type 0} (n : ℕ) (xs : List A) (i : ℕ) → slice_get (enumerate_from n xs) i ≡ option_map (λ x. (n + i, x)) (slice_get xs i)
numbered_got n [] i = refl
numbered_got n (x ∷ xs) zero = let z : n ≡ n + 0 = omega arith in ap (λ (k : ℕ). Some (k, x)) z
numbered_got n (x ∷ xs) (suc i) =
    let z : n + 1 + i ≡ n + suc i = omega arith in
    numbered_got (n + 1) xs i ∙ ap (λ (k : ℕ). option_map (λ y. (k, y)) (slice_get xs i)) z

some_is : {A : Type 0} (o : Option A) (f : A → Ending) (e : Ending) → option_map f o ≡ Some e → (x : A) × (o ≡ Some x) × (e ≡ f x)
some_is None f e at = absurd (let no : ⊥ = cc at in no)
some_is (Some x) f e at = (x, refl, (let s : f x ≡ e = cc at in sym s))

module _ (p : PlanOf) (calls : CallLists) (setup : Setup) where
  abbrev pub setting_for : ℕ → Setting
  setting_for q = setting_at p calls setup.squeues setup.rings setup.spread q

  pub starts_count : (q : ℕ) → length (setting_for q).starts ≡ length p.tuples
  starts_count q = length-map-range_with_len (λ c. c % setup.squeues == q) 0 (length p.tuples)

  pub starts_at : (q c : ℕ) → c < length p.tuples → is_here (start (setting_for q)) c ≡ (q == c % setup.squeues)
  starts_at q c lt = get_or-map-range_with_len (λ c. c % setup.squeues == q) 0 (length p.tuples) c c false lt (omega arith) ∙ same_test (c % setup.squeues) q

  -- where all settings are those of their numbers, connections begin at home
  pub all_start : (hs : List Ending) → length hs ≡ setup.squeues → ((q : ℕ) (e : Ending) → slice_get hs q ≡ Some e → e.setting ≡ setting_for q) → (c : ℕ) → c < length p.tuples → StartsAtHome hs c
  all_start hs count set c lt q h at =
      ap (λ (S : Setting). is_here (start S) c) (set q h at) ∙ (starts_at q c lt ∙ ap (λ (n : ℕ). q == c % n) (sym count))

  module _ (F : ℕ → ℕ → List Act) where
    abbrev pub full_ending : ℕ × List Mark → Ending
    full_ending (q, ms) = record { number = q; setting = setting_for q; history = full_from (λ c n. F c (stay_of setup.squeues q c n)) [] ms }

    abbrev pub full_endings : List (List Mark) → List Ending
    full_endings marks = map full_ending (enumerate_from 0 marks)

    pub full_count : (marks : List (List Mark)) → length (full_endings marks) ≡ length marks
    full_count marks = length-map (enumerate_from 0 marks) full_ending ∙ length-enumerate_from 0 marks

    full_got : (marks : List (List Mark)) (q : ℕ) → slice_get (full_endings marks) q ≡ option_map (λ ms. full_ending (q, ms)) (slice_get marks q)
    full_got marks q =
        let z : 0 + q ≡ q = omega arith in
        slice_get-map full_ending (enumerate_from 0 marks) q
        ∙ (ap (option_map full_ending) (numbered_got 0 marks q) ∙ (twice (slice_get marks q) (0 + q) ∙ ap (λ (k : ℕ). option_map (λ ms. full_ending (k, ms)) (slice_get marks q)) z))
      where
        twice : (o : Option (List Mark)) (k : ℕ) → option_map full_ending (option_map (λ ms. (k, ms)) o) ≡ option_map (λ ms. full_ending (k, ms)) o
        twice None k = refl
        twice (Some ms) k = refl

    -- the history at a squeue
    pub full_at : (marks : List (List Mark)) (q : ℕ) (e : Ending) → slice_get (full_endings marks) q ≡ Some e → (ms : List Mark) × (slice_get marks q ≡ Some ms) × (e ≡ full_ending (q, ms))
    full_at marks q e at = some_is (slice_get marks q) (λ ms. full_ending (q, ms)) e (sym (full_got marks q) ∙ at)

    pub full_is : (marks : List (List Mark)) (q : ℕ) (ms : List Mark) → slice_get marks q ≡ Some ms → slice_get (full_endings marks) q ≡ Some (full_ending (q, ms))
    full_is marks q ms at = full_got marks q ∙ ap (option_map (λ ms. full_ending (q, ms))) at

    marks_from : (n : ℕ) (marks : List (List Mark)) → map (λ e. marks_of e.history) (map full_ending (enumerate_from n marks)) ≡ marks
    marks_from n [] = refl
    marks_from n (ms ∷ marks) = λ i. marks_of_full (λ c k. F c (stay_of setup.squeues n c k)) [] ms i ∷ marks_from (n + 1) marks i

    -- they have these marks
    pub full_marks : (marks : List (List Mark)) → map (λ e. marks_of e.history) (full_endings marks) ≡ marks
    full_marks marks = marks_from 0 marks

    pub full_setting : (marks : List (List Mark)) (q : ℕ) (e : Ending) → slice_get (full_endings marks) q ≡ Some e → e.setting ≡ setting_for q
    full_setting marks q e at = let f = full_at marks q e at in ap (λ (e : Ending). e.setting) f.2

    module _ (some : 0 < setup.squeues) (marks : List (List Mark)) (count : length marks ≡ setup.squeues) where
      -- and each stay has the note of its number
      pub full_notes : (c t : ℕ) (v : Stay) → c < length p.tuples → F c 0 ≡ [] → stay (full_endings marks) c t ≡ Some v → v.note ≡ F c t
      full_notes c t v lt nothing at =
          let n : length (full_endings marks) ≡ setup.squeues = full_count marks ∙ count in
          let place : slice_get (all_in (stays_in (slice_get (full_endings marks) ((c + t) % setup.squeues)) c)) (t / setup.squeues) ≡ Some v =
          subst (λ (n : ℕ). slice_get (all_in (stays_in (slice_get (full_endings marks) ((c + t) % n)) c)) (t / n) ≡ Some v) n at in
          by (slice_get (full_endings marks) ((c + t) % setup.squeues)) refl place
        where
          by : (o : Option Ending) → slice_get (full_endings marks) ((c + t) % setup.squeues) ≡ o → slice_get (all_in (stays_in o c)) (t / setup.squeues) ≡ Some v → v.note ≡ F c t
          by None is at = absurd (let no : ⊥ = cc at in no)
          by (Some e) is at =
              let f = full_at marks ((c + t) % setup.squeues) e is in
              let at' : slice_get (all_in (stays_in (Some (full_ending ((c + t) % setup.squeues, f.0))) c)) (t / setup.squeues) ≡ Some v =
              subst (λ (e : Ending). slice_get (all_in (stays_in (Some e) c)) (t / setup.squeues) ≡ Some v) f.2 at in
              noted_right setup.squeues some F (setting_for ((c + t) % setup.squeues)) f.0 c t nothing (starts_at ((c + t) % setup.squeues) c lt) v at'

  -- the notes of feeds alone
  abbrev pub due_by_stay : ℕ → ℕ → List Act
  due_by_stay c t = map Did.Feed (range_with_len 0 (t * setup.spread))

  pub endings_are : (marks : List (List Mark)) → endings_of p calls setup marks ≡ full_endings due_by_stay marks
  endings_are marks = from 0 marks
    where
      from : (n : ℕ) (marks : List (List Mark)) → map (λ (q, ms). record { number = q; setting = setting_for q; history = noted setup.squeues setup.spread q ms }) (enumerate_from n marks)
          ≡ map (full_ending due_by_stay) (enumerate_from n marks)
      from n [] = refl
      from n (ms ∷ marks) = λ i. record { number = n; setting = setting_for n; history = noted_is setup.squeues setup.spread n [] ms i } ∷ from (n + 1) marks i
