-- The owner's count behind one more mark.
use Rattle.std.proofs.Common.{◌≡◌, ◌≢◌, ℕ, ◌+◌, ◌-◌, ◌^◌, ◌≤◌, ◌==◌, ◌⊎◌, min, Bool, true, false, if◌then◌else◌, inl, inr, IfSome, Option, Some, None, List, [], ◌∷◌, ◌++◌, refl, ap, sym, ◌∙◌, subst, append_assoc, arith}
use Rattle.std.specs.Prelude.{option_map}
use Rattle.std.proofs.lemmas.Bool.{cases_eq, eq-eqb, ne_eqb}
use Rattle.std.proofs.lemmas.List.{append-nil}
use Rattle.perimeter_core.specs.declared.marks.Own.{Own}
use Rattle.perimeter_core.specs.declared.marks.Own.TheVariants.{Free, Granted, Out}
use Rattle.perimeter_core.specs.declared.marks.Mark.{Mark}
use Rattle.perimeter_core.specs.declared.marks.Mark.TheVariants as On
use Rattle.perimeter_core.specs.Perimeter.{Can, State, after}
use Rattle.perimeter_core.specs.History.{Element, Setting, pass_of, run, start, worker}
use Rattle.perimeter_core.specs.Deeds.{done, done_by}
use Rattle.perimeter_core.specs.Legal.{IdleFirst, May, all_feeds, feed_count}
use Rattle.perimeter_core.proofs.OneMore.{run_push}
use Rattle.histories.proofs.OwnersFacts.{done_more}
use Rattle.histories.specs.Keeping.{taken, taken_after, taken_from}
use Rattle.squeue_replay.specs.Pacing.{CountStands, count_after}

module _ (S : Setting) (p : ℕ) where
  -- whether the pass has taken the squeue with feeds, after one mark more
  abbrev pub taken_then : List Element → Option ℕ → Mark → Option ℕ
  taken_then past o m = if pass_of m == p then taken_after S past o m else o

  push_from : (past : List Element) (o : Option ℕ) (H : List Element) (e : Element) → taken_from S p past o (H ++ e ∷ []) ≡ taken_then (past ++ H) (taken_from S p past o H) e.mark
  push_from past o [] e = ap (λ (G : List Element). taken_then G o e.mark) (sym (append-nil past))
  push_from past o (x ∷ H) e =
      let next : Option ℕ = taken_then past o x.mark in
      push_from (past ++ x ∷ []) next H e ∙ ap (λ (G : List Element). taken_then G (taken_from S p (past ++ x ∷ []) next H) e.mark) (append_assoc past (x ∷ []) H)

  pub taken_push : (past : List Element) (e : Element) → taken S p (past ++ e ∷ []) ≡ taken_then past (taken S p past) e.mark
  taken_push past e = push_from [] None past e

-- a count with so many more
abbrev pub count_more : ℕ → Option ℕ → Option ℕ
count_more k count = option_map (λ n. min (n + k) (2 ^ 64 - 1)) count

-- of those processed since it was taken
abbrev pub since : ℕ → Option ℕ → Option ℕ
since n t = option_map (λ had. min (n - had) (2 ^ 64 - 1)) t

since_more : (t : Option ℕ) (n k : ℕ) → IfSome t (λ had. had ≤ n) → count_more k (since n t) ≡ since (n + k) t
since_more None n k few = refl
since_more (Some had) n k few = let e : min (min (n - had) (2 ^ 64 - 1) + k) (2 ^ 64 - 1) ≡ min ((n + k) - had) (2 ^ 64 - 1) = omega (arith, few) in ap (λ (x : ℕ). Some x) e

since_now : (n : ℕ) → since (n + 0) (Some n) ≡ Some 0
since_now n = let e : min ((n + 0) - n) (2 ^ 64 - 1) ≡ 0 = omega arith in ap (λ (x : ℕ). Some x) e

module _ (S : Setting) (past : List Element) (p : ℕ) where
  -- a mark of the pass itself, and of another one
  own_then : (m : Mark) (o : Option ℕ) → pass_of m ≡ p → taken_then S p past o m ≡ taken_after S past o m
  own_then m o is = rw (eq-eqb (pass_of m) p is) refl

  other_then : (m : Mark) (o : Option ℕ) → pass_of m ≢ p → taken_then S p past o m ≡ o
  other_then m o apart = rw (ne_eqb (pass_of m) p apart) refl

module _ (S : Setting) (past : List Element) (count : Option ℕ) (stands : CountStands S past count) (p : ℕ) where
  abbrev n : ℕ
  n = feed_count (done S past)

  abbrev t : Option ℕ
  t = taken S p past

  -- who may neither enter nor ask isn't the one that does
  away : (q : ℕ) → (run S past).own ≡ Out p → (run S past).own ≢ Out q → q ≢ p
  away q own unlike is = unlike (own ∙ ap (λ (x : ℕ). Out x) (sym is))

  kept : (m : Mark) → (run S past).own ≡ Out p → (run S past).own ≢ Out (pass_of m) → (k : ℕ) → count_more k count ≡ since (n + k) (taken_then S p past t m)
  kept m own unlike k =
      subst (λ (x : Option ℕ). count_more k count ≡ since (n + k) x) (sym (other_then S past p m t (away (pass_of m) own unlike)))
      (ap (count_more k) (stands.owner p own) ∙ since_more t n k (stands.before p))

  -- the owner's count, behind the mark
  counts : (m : Mark) (k : ℕ) → Can (worker S) (run S past) m → IdleFirst (run S past) m → k ≡ feed_count (done_by (run S past) m) → (after (run S past) m).own ≡ Out p
      → count_after m (count_more k count) ≡ since (n + k) (taken_then S p past t m)
  counts (On.Fill q es) k can idle is own = kept (On.Fill q es) own idle.no_owner k
  counts (On.Fast q e) k can idle is own =
      let me : q ≡ p = cc own in
      subst (λ (x : Option ℕ). Some 0 ≡ since (n + k) x) (sym (own_then S past p (On.Fast q e) t me)) (rw is (sym (since_now n)))
  counts (On.Claim q es) k can idle is own =
      let me : q ≡ p = cc own in
      subst (λ (x : Option ℕ). (if all_feeds es then Some 0 else None) ≡ since (n + k) x) (sym (own_then S past p (On.Claim q es) t me)) (rw is (by (all_feeds es)))
    where
      by : (b : Bool) → (if b then Some 0 else None) ≡ since (n + 0) (if b then Some n else None)
      by true = sym (since_now n)
      by false = refl
  counts (On.Take q) k can idle is own =
      let me : q ≡ p = (let o : Out q ≡ Out p = sym can.0 ∙ own in cc o) in
      subst (λ (x : Option ℕ). count_more k count ≡ since (n + k) x) (sym (own_then S past p (On.Take q) t me)) (ap (count_more k) (stands.owner p own) ∙ since_more t n k (stands.before p))
  counts (On.Leave q rest act) k can idle is own = cc own
  counts (On.Ask q) k can idle is own = kept (On.Ask q) own idle.no_owner k
  counts (On.Grant q j rest) k can idle is own = cc own
  counts (On.Accept j) k can idle is own =
      let me : j ≡ p = cc own in
      subst (λ (x : Option ℕ). None ≡ since (n + k) x) (sym (own_then S past p (On.Accept j) t me)) refl
  counts (On.Work q) k can idle is own =
      let me : q ≡ p = cc own in
      subst (λ (x : Option ℕ). None ≡ since (n + k) x) (sym (own_then S past p (On.Work q) t me)) refl
  counts (On.Close q) k can idle is own = kept (On.Close q) own idle.no_owner k

  -- a mark behind which its pass hasn't taken the squeue with feeds
  gone : (m : Mark) → taken_after S past t m ≡ None → (run S past).own ≢ Out p ⊎ (pass_of m ≡ p) → taken_then S p past t m ≡ None
  gone m none apart =
      elim (cases_eq (pass_of m) p) [
        | inl me ↦ own_then S past p m t me ∙ none
        | inr other ↦ other_then S past p m t other ∙ elim apart [ inl unlike ↦ stands.others p unlike | inr me ↦ absurd (other me) ]
      ]

  still : (m : Mark) (o : Own) → (run S past).own ≡ o → o ≢ Out p → taken_after S past t m ≡ None → taken_then S p past t m ≡ None
  still m o is unlike none = gone m none (inl (λ e. unlike (sym is ∙ e)))

  -- who isn't owner behind the mark hasn't taken it with feeds
  nobodys : (m : Mark) → Can (worker S) (run S past) m → (after (run S past) m).own ≢ Out p → taken_then S p past t m ≡ None
  nobodys (On.Fill q es) can unlike = still (On.Fill q es) (run S past).own refl unlike refl
  nobodys (On.Fast q e) can unlike = other_then S past p (On.Fast q e) t (λ me. unlike (ap (λ (x : ℕ). Out x) me)) ∙ stands.others p (λ e. let x : Free ≡ Out p = sym can.0 ∙ e in cc x)
  nobodys (On.Claim q es) can unlike = other_then S past p (On.Claim q es) t (λ me. unlike (ap (λ (x : ℕ). Out x) me)) ∙ stands.others p (λ e. let x : Free ≡ Out p = sym can.0 ∙ e in cc x)
  nobodys (On.Take q) can unlike = other_then S past p (On.Take q) t (λ me. unlike (can.0 ∙ ap (λ (x : ℕ). Out x) me)) ∙ stands.others p unlike
  nobodys (On.Leave q rest act) can unlike =
      elim (cases_eq q p) [
        | inl me ↦ own_then S past p (On.Leave q rest act) t me
        | inr other ↦ other_then S past p (On.Leave q rest act) t other ∙ stands.others p (λ e. other (let x : Out q ≡ Out p = sym can.0 ∙ e in cc x))
      ]
  nobodys (On.Ask q) can unlike = still (On.Ask q) (run S past).own refl unlike refl
  nobodys (On.Grant q j rest) can unlike =
      elim (cases_eq q p) [
        | inl me ↦ own_then S past p (On.Grant q j rest) t me
        | inr other ↦ other_then S past p (On.Grant q j rest) t other ∙ stands.others p (λ e. other (let x : Out q ≡ Out p = sym can.0 ∙ e in cc x))
      ]
  nobodys (On.Accept j) can unlike = still (On.Accept j) (Granted j) can (λ e. cc e) refl
  nobodys (On.Work q) can unlike = still (On.Work q) Free can.0 (λ e. cc e) refl
  nobodys (On.Close q) can unlike = still (On.Close q) (run S past).own refl unlike refl

  -- what was processed when it was taken was processed before
  earlier : (m : Mark) (k : ℕ) → IfSome (taken_after S past t m) (λ had. had ≤ n + k) → IfSome (taken_then S p past t m) (λ had. had ≤ n + k)
  earlier m k own =
      elim (cases_eq (pass_of m) p) [
        | inl me ↦ subst (λ (x : Option ℕ). IfSome x (λ had. had ≤ n + k)) (sym (own_then S past p m t me)) own
        | inr other ↦ subst (λ (x : Option ℕ). IfSome x (λ had. had ≤ n + k)) (sym (other_then S past p m t other)) (later t k (stands.before p))
      ]
    where
      later : (o : Option ℕ) (k : ℕ) → IfSome o (λ had. had ≤ n) → IfSome o (λ had. had ≤ n + k)
      later None k few = tt
      later (Some had) k few = omega (arith, few)

  were : (m : Mark) (k : ℕ) → IfSome (taken_after S past t m) (λ had. had ≤ n + k)
  were (On.Fast q e) k = let x : n ≤ n + k = omega arith in x
  were (On.Claim q es) k = by (all_feeds es)
    where
      by : (b : Bool) → IfSome (if b then Some n else None) (λ had. had ≤ n + k)
      by true = let x : n ≤ n + k = omega arith in x
      by false = tt
  were (On.Take q) k = later t (stands.before p)
    where
      later : (o : Option ℕ) → IfSome o (λ had. had ≤ n) → IfSome o (λ had. had ≤ n + k)
      later None few = tt
      later (Some had) few = omega (arith, few)
  were (On.Fill q es) k = tt
  were (On.Leave q rest act) k = tt
  were (On.Ask q) k = tt
  were (On.Grant q j rest) k = tt
  were (On.Accept j) k = tt
  were (On.Work q) k = tt
  were (On.Close q) k = tt

-- one mark more
pub count_stands : (S : Setting) (past : List Element) (e : Element) (count : Option ℕ) → CountStands S past count → May S past e → CountStands S (past ++ e ∷ []) (count_after e.mark (count_more (feed_count (done_by (run S past) e.mark)) count))
count_stands S past e count stands may =
    let k : ℕ = feed_count (done_by (run S past) e.mark) in
    let n : ℕ = feed_count (done S past) in
    let state : run S (past ++ e ∷ []) ≡ after (run S past) e.mark = run_push (start S) past e in
    let owned = ap (λ (s : State). s.own) state in
    let more = done_more S past e in
    record {
      owner = λ p own.
          counts S past count stands p e.mark k may.step may.idle refl (sym owned ∙ own)
          ∙ (ap (λ (x : ℕ). since x (taken_then S p past (taken S p past) e.mark)) (sym more)
          ∙ ap (λ (x : Option ℕ). since (feed_count (done S (past ++ e ∷ []))) x) (sym (taken_push S p past e)));
      others = λ p unlike. taken_push S p past e ∙ nobodys S past count stands p e.mark may.step (λ own. unlike (owned ∙ own));
      before = λ p.
          subst (λ (x : ℕ). IfSome (taken S p (past ++ e ∷ [])) (λ had. had ≤ x)) (sym more)
          (subst (λ (x : Option ℕ). IfSome x (λ had. had ≤ n + k)) (sym (taken_push S p past e)) (earlier S past count stands p e.mark k (were S past count stands p e.mark k)));
    }
