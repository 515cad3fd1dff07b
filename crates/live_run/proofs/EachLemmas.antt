-- One datagram after another is written.
use Rattle.std.proofs.Common.{◌≡◌, ◌==◌, ℕ, ◌+◌, ◌<◌, ◌≤◌, inl, inr, Bool, true, false, true≢false, cond, List, [], ◌∷◌, ◌++◌, length, take, get_or, Option, refl, sym, ap, subst, ◌∙◌, append-nil, append_assoc, arith}
use Rattle.std.proofs.KnownBytes.{Appends-kept, Appends-nil, Appends-trans}
use Rattle.std.proofs.Math.Seq.{take-length}
use Rattle.std.proofs.lemmas.Bool.Decides.{nat_tests}
use Rattle.std.proofs.lemmas.List.{take_more}
use Rattle.std.specs.Io.KnownBytes.{Appends, Keeps}
use Rattle.std.specs.List.{concat}
use Rattle.sq_base.specs.Ends.{Rose}
use Rattle.live_server.specs.declared.acting.Datagram.{Datagram}
use Rattle.live_run.specs.Rounds.{AreWritten, IsCut, WritesEach}

-- what failed so far has failed behind it
still_cut : (F G : Type 0) → (F → G) → (part whole : List ℕ) → IsCut F part whole → IsCut G part whole
still_cut F G more part whole (inl front) = inl front
still_cut F G more part whole (inr none) = inr (none.0, more none.1)

still_written : (F G : Type 0) → (F → G) → (ps : List (List ℕ)) (ds : List Datagram) (n : ℕ) → AreWritten F ps ds n → AreWritten G ps ds n
still_written F G more [] [] n is = is
still_written F G more [] (d ∷ ds) n is = absurd is
still_written F G more (p ∷ ps) [] n is = absurd is
still_written F G more (p ∷ ps) (d ∷ ds) n (inl is) = inl (is.0, still_written F G more ps ds n is.1)
still_written F G more (p ∷ ps) (d ∷ ds) n (inr is) = inr (still_cut F G more p d.bytes is.0, is.1, is.2, still_written F G more ps ds is.1 is.3)

both_written : (F : Type 0) (ps : List (List ℕ)) (ds : List Datagram) (n : ℕ) (qs : List (List ℕ)) (es : List Datagram) (m : ℕ) → AreWritten F ps ds n → AreWritten F qs es m → AreWritten F (ps ++ qs) (ds ++ es) (n + m)
both_written F [] [] n qs es m is more =
    let same : m ≡ n + m = omega (arith, is) in
    subst (AreWritten F qs es) same more
both_written F [] (d ∷ ds) n qs es m is more = absurd is
both_written F (p ∷ ps) [] n qs es m is more = absurd is
both_written F (p ∷ ps) (d ∷ ds) n qs es m (inl is) more = inl (is.0, both_written F ps ds n qs es m is.1 more)
both_written F (p ∷ ps) (d ∷ ds) n qs es m (inr is) more =
    inr (is.0, is.1 + m, omega (arith, is.2), both_written F ps ds is.1 qs es m is.3 more)

both_joined : (ps qs : List (List ℕ)) → concat ps ++ concat qs ≡ concat (ps ++ qs)
both_joined [] qs = refl
both_joined (p ∷ ps) qs = append_assoc p (concat ps) (concat qs) ∙ ap (λ l. p ++ l) (both_joined ps qs)

module _ (was mid is : Option (List ℕ)) (first here last : ℕ) (before : first ≤ here) (behind : here ≤ last) where
  rose_before : Rose first here → Rose first last
  rose_before rose = omega (arith, rose, behind)

  rose_behind : Rose here last → Rose first last
  rose_behind rose = omega (arith, rose, before)

  pub each_more : (sent : List Datagram) (i : ℕ) (d : Datagram) (lost more : ℕ) → i < length sent → d ≡ get_or sent i d
      → WritesEach (record { was = was; is = mid; faults_were = first; faults_are = here }) (take i sent) lost
      → WritesEach (record { was = mid; is = is; faults_were = here; faults_are = last }) (d ∷ []) more
      → WritesEach (record { was = was; is = is; faults_were = first; faults_are = last }) (take (i + 1) sent) (lost + more)
  each_more sent i d lost more lt at so_far one =
      let all : take i sent ++ d ∷ [] ≡ take (i + 1) sent = sym (take_more sent i d lt ∙ ap (λ x. take i sent ++ x ∷ []) (sym at)) in
      let rose = Rose first last in (
        so_far.0 ++ one.0,
        subst (λ ds. AreWritten rose (so_far.0 ++ one.0) ds (lost + more)) all
            (both_written rose so_far.0 (take i sent) lost one.0 (d ∷ []) more
            (still_written (Rose first here) rose rose_before so_far.0 (take i sent) lost so_far.1)
            (still_written (Rose here last) rose rose_behind one.0 (d ∷ []) more one.1)),
        subst (Appends was is) (both_joined so_far.0 one.0) (Appends-trans _ _ _ _ _ so_far.2 one.2),
      )

-- what one write tells
module _ (was is : Option (List ℕ)) (first last : ℕ) (d : Datagram) where
  abbrev One : ℕ → Type 0
  One lost = WritesEach (record { was = was; is = is; faults_were = first; faults_are = last }) (d ∷ []) lost

  pub one_taken : (n : ℕ) (bytes : List ℕ) (whole : Bool) → (n == length bytes) ≡ whole → bytes ≡ d.bytes → n ≤ length bytes → (0 < length bytes → 0 < n) → Appends was is (take n bytes) → One (cond whole 0 1)
  one_taken n bytes true all same within some wrote =
      let as_long : n ≡ length bytes = grind (arith, nat_tests, all) in
      (d.bytes ∷ [], inl (refl, refl), subst (Appends was is) (ap (λ k. take k bytes) as_long ∙ take-length bytes ∙ same ∙ sym (append-nil d.bytes)) wrote)
  one_taken n bytes false short same within some wrote =
      let less : n < length bytes = grind (arith, nat_tests, short, within) in (
        take n d.bytes ∷ [],
        inr (inl (n, some (omega (arith, less)), subst (λ (bs : List ℕ). n < length bs) same less, refl), 0, refl, refl),
        subst (Appends was is) (ap (λ bs. take n bs) same ∙ sym (append-nil (take n d.bytes))) wrote,
      )

  pub one_refused : Keeps was is → Rose first last → One 1
  one_refused kept rose = ([] ∷ [], inr (inr (refl, rose), 0, refl, refl), Appends-kept was was is [] (Appends-nil was) kept)

-- one more was lost, or not
pub lost_one : (whole : Bool) (lost now : ℕ) → whole ≡ false → now ≡ lost + 1 → now ≡ lost + cond whole 0 1
lost_one true lost now so is = absurd (true≢false so)
lost_one false lost now so is = is

pub lost_none : (whole : Bool) (lost now : ℕ) → whole ≡ true → now ≡ lost → now ≡ lost + cond whole 0 1
lost_none true lost now so is = omega (arith, is)
lost_none false lost now so is = absurd (true≢false (sym so))

pub few_more : (whole : Bool) (lost now i : ℕ) → now ≡ lost + cond whole 0 1 → lost ≤ i → now ≤ i + 1
few_more true lost now i is few = omega (arith, is, few)
few_more false lost now i is few = omega (arith, is, few)
