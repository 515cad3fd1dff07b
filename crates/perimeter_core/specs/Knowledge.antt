-- What a pass knows of a perimeter by the elements that it made or saw.
use Rattle.std.specs.Prelude.{◌≡◌, ℕ, ◌%◌, ◌⊎◌, Bool, true, false, if◌then◌else◌, ◌==◌, List, [], ◌∷◌, ◌++◌}
use Rattle.perimeter_core.specs.declared.marks.Own.TheVariants.{Out, Granted}
use Rattle.perimeter_core.specs.declared.marks.Mark.{Mark}
use Rattle.perimeter_core.specs.declared.marks.Mark.TheVariants as On
use Rattle.perimeter_core.specs.Perimeter.{State, Idle, has_ask, is_here, is_closed}
use Rattle.perimeter_core.specs.History.{Element, Setting, start, run, pass_of, made_by}
use Rattle.perimeter_core.specs.Deeds.{entries_of, entered, puts_in, takes_out, times_left, due}
use Rattle.perimeter_core.specs.Backlog.{queue}

-- What a pass knows of itself stays so while another pass makes the element
pub record PassKept (s t : State) (e : Element) (p : ℕ) : Type 0 where
  pub closed : is_closed t p ≡ is_closed s p
  pub idle : Idle s p → Idle t p
  pub owner : s.own ≡ Out p → (t.own ≡ Out p) × (t.hand ≡ s.hand) × (t.chain ≡ s.chain ++ entries_of e.mark) × (t.here ≡ s.here)
  pub granted : s.own ≡ Granted p → (t.own ≡ Granted p) × (t.hand ≡ s.hand) × (t.chain ≡ s.chain ++ entries_of e.mark) × (t.here ≡ s.here)
  pub asked : has_ask p (queue s) ≡ true → (has_ask p (queue t) ≡ true) ⊎ (t.own ≡ Granted p)

-- The same over the elements K, none of which the pass made
pub record KnownSince (s t : State) (K : List Element) (p : ℕ) : Type 0 where
  pub closed : is_closed t p ≡ is_closed s p
  pub idle : Idle s p → Idle t p
  pub owner : s.own ≡ Out p → (t.own ≡ Out p) × (t.hand ≡ s.hand) × (t.chain ≡ s.chain ++ entered K) × (t.here ≡ s.here)
  pub granted : s.own ≡ Granted p → (t.own ≡ Granted p) × (t.hand ≡ s.hand) × (t.chain ≡ s.chain ++ entered K) × (t.here ≡ s.here)
  pub asked : has_ask p (queue s) ≡ true → (has_ask p (queue t) ≡ true) ⊎ (t.own ≡ Granted p)

-- the pass is owner, or the perimeter is granted to it
abbrev pub HasIt : State → ℕ → Type 0
HasIt s p = (s.own ≡ Out p) ⊎ (s.own ≡ Granted p)

-- whether c is here, by the Outs and Ins of c alone
abbrev pub here_by : ℕ → Bool → List Element → Bool
here_by c here [] = here
here_by c here (e ∷ H) = here_by c (if puts_in c e.mark then true else if takes_out c e.mark then false else here) H

-- The elements of its ring alone fix whether a connection is here, its next number and how often it left
pub record RingKnows (S : Setting) (H : List Element) (c : ℕ) : Type 0 where
  pub here : is_here (run S H) c ≡ here_by c (is_here (start S) c) (made_by (c % S.rings) H)
  pub next : due H c ≡ due (made_by (c % S.rings) H) c
  pub left : times_left c H ≡ times_left c (made_by (c % S.rings) H)

abbrev pub is_accept : Mark → Bool
is_accept (On.Accept j) = true
is_accept _ = false

-- whether the last mark of p is Accept; was says it of what stands before
abbrev pub last_was_accept : ℕ → Bool → List Element → Bool
last_was_accept p was [] = was
last_was_accept p was (e ∷ H) = last_was_accept p (if pass_of e.mark == p then is_accept e.mark else was) H
