-- The notes of a ring's connections have the feeds that were due, by what its passes have seen.
use Rattle.std.proofs.Common.{◌≡◌, ◌≢◌, ℕ, ◌+◌, ◌*◌, ◌/◌, ◌%◌, ◌<◌, ◌==◌, inl, inr, true, false, Option, Some, List, [], ◌∷◌, ◌++◌, length, slice_get, ap, sym, ◌∙◌, subst, add-zero, arith}
use Rattle.std.proofs.lemmas.Bool.{cases_eq}
use Rattle.std.proofs.Math.Nat.{zero-div}
use Rattle.turn_gate.specs.Passes.{seen}
use Rattle.turn_gate.specs.declared.pass.Pass.{Pass}
use Rattle.perimeter_core.specs.declared.entries.Act.{Act}
use Rattle.perimeter_core.specs.declared.entries.Feed.{Feed as FeedOf}
use Rattle.perimeter_core.specs.Perimeter.{is_here}
use Rattle.perimeter_core.specs.History.{Element, Limits, run, start}
use Rattle.perimeter_core.specs.Deeds.{acts, fed, times_left}
use Rattle.squeue_state.specs.Naming.{Named, setting_of}
use Rattle.histories.specs.Endings.{Ending}
use Rattle.histories.specs.Stays.{Stay, Stays, all_in, stays_at}
use Rattle.squeue_rings.specs.Bringing.{HasMoved}
use Rattle.histories.specs.Noted.{AreNoted}
use Rattle.histories.specs.Runs.{moves}
use Rattle.squeue_rings.specs.Seen.{seen_ends}
use Rattle.squeue_rings.proofs.Leaving.{Turns, home_is, turns}
use Rattle.squeue_rings.proofs.Linking.{front_or_last, one_number}
use Rattle.squeue_rings.proofs.RingStays.{N, at_place, ends_length, first_stays, had, ho, legal_before, long_new, note_more, notes_at, notes_kept, was_b}
use Rattle.histories.proofs.ListPlaces.{from_map, got_map}
use Rattle.squeue_rings.proofs.Slots.{within}
use Rattle.squeue_rings.proofs.Standing.{other_home}
use Rattle.histories.proofs.StaysSeen.{AreAlike, all_over_away, ended_count, notes}

-- A row of lists, one list for each of n places, whose number s is what stands at place (c + s) mod n in its round s div n
module _ {A : Type 0} (n c : ℕ) (P : ℕ → A → Type 0) where
  abbrev pub Tells : (ℕ → List A) → Type 0
  Tells N = (s : ℕ) (m : A) → slice_get (N ((c + s) % n)) (s / n) ≡ Some m → P s m

  tells_kept : (N N' : ℕ → List A) → ((k : ℕ) → N' k ≡ N k) → Tells N → Tells N'
  tells_kept N N' kept tells s m at = tells s m (ap (λ (l : List A). slice_get l (s / n)) (sym (kept ((c + s) % n))) ∙ at)

  tells_first : (N : ℕ → List A) → 0 < n → ((k i : ℕ) (m : A) → slice_get (N k) i ≡ Some m → (k ≡ c % n) × (i ≡ 0) × P 0 m) → Tells N
  tells_first N some only s m at =
      let o = only ((c + s) % n) (s / n) m at in
      let e : s ≡ 0 = one_number n c s 0 some (o.0 ∙ ap (λ (k : ℕ). k % n) (sym (add-zero c))) (o.1 ∙ sym (zero-div n)) in
      subst (λ (k : ℕ). P k m) (sym e) o.2

  -- one more, number t, at its place in its round
  tells_more : (N N' : ℕ → List A) (q t : ℕ) (h : A) → 0 < n → q ≡ (c + t) % n → N' q ≡ N q ++ h ∷ [] → ((k : ℕ) → k ≢ q → N' k ≡ N k) → length (N q) ≡ t / n → P t h → Tells N → Tells N'
  tells_more N N' q t h some is more others round new tells s m at =
      elim (cases_eq ((c + s) % n) q) [
        | inl e ↦
            elim (front_or_last (N q) h (s / n) m (ap (λ (l : List A). slice_get l (s / n)) (sym more) ∙ (ap (λ (k : ℕ). slice_get (N' k) (s / n)) (sym e) ∙ at))) [
              | inl before ↦ tells s m (ap (λ (k : ℕ). slice_get (N k) (s / n)) e ∙ before)
              | inr last ↦
                  let same : t ≡ s = one_number n c t s some (sym is ∙ sym e) (sym (last.0 ∙ round)) in
                  subst (λ (k : ℕ). P k m) same (subst (P t) last.1 new)
            ]
        | inr other ↦ tells s m (ap (λ (l : List A). slice_get l (s / n)) (sym (others ((c + s) % n) other)) ∙ at)
      ]

module _ (spread : ℕ) where
  -- the note of stay s
  abbrev Counts : ℕ → List Act → Type 0
  Counts s note = fed note ≡ s * spread

  from_noted : (hs : List Ending) (c : ℕ) → AreNoted spread hs c → Tells (length hs) c Counts (notes_at hs c)
  from_noted hs c noted s m at =
      let v = from_map (λ (u : Stay). u.note) (all_in (stays_at hs c s)) (s / length hs) m at in
      subst (Counts s) v.2 (noted s v.0 v.1)

  to_noted : (hs : List Ending) (c : ℕ) → Tells (length hs) c Counts (notes_at hs c) → AreNoted spread hs c
  to_noted hs c tells s v at = tells s v.note (got_map (λ (u : Stay). u.note) (all_in (stays_at hs c s)) (s / length hs) v at)

module _ {R : Type 0} (limits : R → Limits) (ss : List (Named R)) (c spread : ℕ) where
  told_by : (os : List (Option (Pass Element))) → length os ≡ length ss → AreNoted spread (seen_ends limits ss os) c → Tells (length ss) c (Counts spread) (N limits ss c os)
  told_by os long noted = subst (λ (n : ℕ). Tells n c (Counts spread) (N limits ss c os)) (ends_length limits ss os long) (from_noted spread (seen_ends limits ss os) c noted)

  noted_by : (os : List (Option (Pass Element))) → length os ≡ length ss → Tells (length ss) c (Counts spread) (N limits ss c os) → AreNoted spread (seen_ends limits ss os) c
  noted_by os long tells = to_noted spread (seen_ends limits ss os) c (subst (λ (n : ℕ). Tells n c (Counts spread) (N limits ss c os)) (sym (ends_length limits ss os long)) tells)

  -- the connection came to no squeue
  pub noted_kept : (old new : List (Option (Pass Element))) → length old ≡ length ss → length new ≡ length ss
      → ((k : ℕ) → AreAlike (at_place limits ss c old k) (at_place limits ss c new k)) → AreNoted spread (seen_ends limits ss old) c → AreNoted spread (seen_ends limits ss new) c
  noted_kept old new lo ln alike noted =
      noted_by new ln (tells_kept (length ss) c (Counts spread) (N limits ss c old) (N limits ss c new) (λ k. (alike k).0) (told_by old lo noted))

  -- before anything happened there is at most its first stay, whose note is empty
  pub noted_first : (os : List (Option (Pass Element))) → 0 < length ss → length os ≡ length ss
      → ((k : ℕ) (s : Named R) → slice_get ss k ≡ Some s
      → (x : Pass Element) × (slice_get os k ≡ Some (Some x)) × (seen x ≡ []) × (is_here (start (setting_of limits s.given)) c ≡ (c % length ss == k)))
      → AreNoted spread (seen_ends limits ss os) c
  noted_first os some long new =
      noted_by os long
      (tells_first (length ss) c (Counts spread) (N limits ss c os) some
      (λ k i m at. let o = first_stays limits ss os c new k i m at in (o.0, o.1, ap fed o.2 ∙ (let z : 0 ≡ 0 * spread = omega arith in z))))

-- A move begins the stay of that number, with all feeds before the one for which it is made
module _ {R : Type 0} (limits : R → Limits) (squeues spread : ℕ) (f : FeedOf) (ss : List (Named R)) (old new : List (Option (Pass Element)))
    (h : HasMoved limits squeues spread f ss old new) (long : length old ≡ length ss) (count : length ss ≡ squeues) (moved : moves squeues spread f ≡ true)
    (here : is_here (run (setting_of limits h.a.given) (seen h.pa)) f.c ≡ true)
    (away : is_here (run (setting_of limits h.b.given) (seen h.pb)) f.c ≡ false) where
  turn : Turns spread f.n
  turn = turns squeues spread f.c f.n (other_home squeues spread f moved)

  pub noted_own : fed (acts (setting_of limits h.a.given) (seen h.qa) f.c) ≡ f.n → times_left f.c (seen h.pb) ≡ f.n / spread / squeues
      → AreNoted spread (seen_ends limits ss old) f.c → AreNoted spread (seen_ends limits ss new) f.c
  noted_own has left noted =
      let lt = within ss to h.b h.to in
      let legal = legal_before limits h.b h.pb h.qb h.put.goes_on in
      let S = setting_of limits h.b.given in
      let place : to ≡ (f.c + f.n / spread) % length ss = home_is squeues spread f.c f.n turn.some ∙ ap (λ (n : ℕ). (f.c + f.n / spread) % n) (sym count) in
      let round : length (N limits ss f.c old to) ≡ f.n / spread / length ss =
      ap (λ (v : Stays). length (notes v)) (was_b limits squeues spread f ss old new h long count moved here away)
      ∙ (all_over_away S (seen h.pb) f.c legal away ∙ (ended_count S (seen h.pb) f.c legal ∙ (left ∙ ap (λ (n : ℕ). f.n / spread / n) (sym count)))) in
      noted_by limits ss f.c spread new (long_new limits squeues spread f ss old new h long)
      (tells_more (length ss) f.c (Counts spread) (N limits ss f.c old) (N limits ss f.c new) to (f.n / spread) (had limits squeues spread f ss old new h long count moved here away)
      (omega (arith, lt)) place (note_more limits squeues spread f ss old new h long count moved here away)
      (notes_kept limits squeues spread f ss old new h long count moved here away) round (has ∙ turn.first) (told_by limits ss f.c spread old long noted))
    where
      to : ℕ
      to = ho limits squeues spread f ss old new h long
