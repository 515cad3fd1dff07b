-- What one pass knows of the state, kept by the marks of the other passes.
use Rattle.std.proofs.Common.{◌≡◌, ◌≢◌, ℕ, ◌%◌, true, false, List, ◌++◌, slice_index_or, refl, ap, sym, ◌∙◌, arith}
use Rattle.std.proofs.lemmas.List.{append-nil}
use Rattle.std.proofs.lemmas.Bool.Decides.{nat_tests}
use Rattle.perimeter_core.specs.declared.entries.Entry.{Entry}
use Rattle.perimeter_core.specs.declared.marks.Own.TheVariants.{Out, Granted}
use Rattle.perimeter_core.specs.declared.marks.SynchAct.{SynchAct}
use Rattle.perimeter_core.specs.declared.marks.SynchAct.TheVariants as Done
use Rattle.perimeter_core.specs.declared.marks.Mark.{Mark}
use Rattle.perimeter_core.specs.declared.marks.Mark.TheVariants as On
use Rattle.perimeter_core.specs.Perimeter.{State, Can, after, is_here, is_closed, here_after, unprocessed}
use Rattle.perimeter_core.specs.History.{Element, Setting, pass_of}
use Rattle.perimeter_core.specs.Deeds.{entries_of, puts_in, takes_out, due_after}
use Rattle.perimeter_core.specs.Legal.{Enters, ActsFit, ActFits}
use Rattle.perimeter_core.proofs.FeedLists.{enters_own}
use Rattle.perimeter_core.proofs.BlocksFollow.{flag_other}

-- The owner keeps the perimeter and its hand while other passes make marks, and the chain grows at its end
pub owner_kept : (w : ℕ) (s : State) (m : Mark) (p : ℕ) → Can w s m → pass_of m ≢ p → s.own ≡ Out p
    → ((after s m).own ≡ Out p) × ((after s m).hand ≡ s.hand) × ((after s m).chain ≡ s.chain ++ entries_of m) × ((after s m).here ≡ s.here)
owner_kept w s (On.Fill q es) p can ne o = (o, refl, refl, refl)
owner_kept w s (On.Fast q e) p can ne o = absurd (cc (can.0, o))
owner_kept w s (On.Claim q es) p can ne o = absurd (cc (can.0, o))
owner_kept w s (On.Take q) p can ne o = absurd (ne (cc (can.0, o)))
owner_kept w s (On.Leave q rest act) p can ne o = absurd (ne (cc (can.0, o)))
owner_kept w s (On.Ask q) p can ne o = (o, refl, refl, refl)
owner_kept w s (On.Grant q j rest) p can ne o = absurd (ne (cc (can.0, o)))
owner_kept w s (On.Accept j) p can ne o = absurd (cc (can, o))
owner_kept w s (On.Work q) p can ne o = absurd (cc (can.0, o))
owner_kept w s (On.Close q) p can ne o = (o, refl, sym (append-nil s.chain), refl)

-- A granted pass stays granted
pub granted_kept : (w : ℕ) (s : State) (m : Mark) (p : ℕ) → Can w s m → pass_of m ≢ p → s.own ≡ Granted p
    → ((after s m).own ≡ Granted p) × ((after s m).hand ≡ s.hand) × ((after s m).chain ≡ s.chain ++ entries_of m) × ((after s m).here ≡ s.here)
granted_kept w s (On.Fill q es) p can ne o = (o, refl, refl, refl)
granted_kept w s (On.Fast q e) p can ne o = absurd (cc (can.0, o))
granted_kept w s (On.Claim q es) p can ne o = absurd (cc (can.0, o))
granted_kept w s (On.Take q) p can ne o = absurd (cc (can.0, o))
granted_kept w s (On.Leave q rest act) p can ne o = absurd (cc (can.0, o))
granted_kept w s (On.Ask q) p can ne o = (o, refl, refl, refl)
granted_kept w s (On.Grant q j rest) p can ne o = absurd (cc (can.0, o))
granted_kept w s (On.Accept j) p can ne o = absurd (ne (cc (can, o)))
granted_kept w s (On.Work q) p can ne o = absurd (cc (can.0, o))
granted_kept w s (On.Close q) p can ne o = (o, refl, sym (append-nil s.chain), refl)

-- Whether a pass is closed is its own doing
pub closed_kept : (s : State) (m : Mark) (p : ℕ) → pass_of m ≢ p → is_closed (after s m) p ≡ is_closed s p
closed_kept s (On.Close q) p ne = flag_other s.closed q p true ne
closed_kept s (On.Fill q es) p ne = refl
closed_kept s (On.Fast q e) p ne = refl
closed_kept s (On.Claim q es) p ne = refl
closed_kept s (On.Take q) p ne = refl
closed_kept s (On.Leave q rest act) p ne = refl
closed_kept s (On.Ask q) p ne = refl
closed_kept s (On.Grant q j rest) p ne = refl
closed_kept s (On.Accept j) p ne = refl
closed_kept s (On.Work q) p ne = refl

-- the act of a pass on a connection of another ring leaves the flag
here_act_kept : (S : Setting) (H : List Element) (s : State) (p c : ℕ) (q : List Entry) (act : SynchAct) → ActFits S H s p q act → p ≢ c % S.rings
    → slice_index_or (here_after act s.here) c false ≡ slice_index_or s.here c false
here_act_kept S H s p c q Done.None f ne = refl
here_act_kept S H s p c q (Done.Call d j k) f ne = refl
here_act_kept S H s p c q Done.Away f ne = refl
here_act_kept S H s p c q (Done.Out d) f ne = flag_other s.here d c false (λ e. ne (f.0 ∙ ap (λ x. x % S.rings) e))
here_act_kept S H s p c q (Done.In d) f ne = flag_other s.here d c true (λ e. ne (f.0 ∙ ap (λ x. x % S.rings) e))

-- Whether a connection is here is its ring's doing
pub here_kept_by_others : (S : Setting) (H : List Element) (s : State) (m : Mark) (c : ℕ) → ActsFit S H s m → pass_of m ≢ c % S.rings → is_here (after s m) c ≡ is_here s c
here_kept_by_others S H s (On.Leave p rest act) c f ne = here_act_kept S H s p c (unprocessed rest s.hand ++ s.chain) act f ne
here_kept_by_others S H s (On.Fill q es) c f ne = refl
here_kept_by_others S H s (On.Fast q e) c f ne = refl
here_kept_by_others S H s (On.Claim q es) c f ne = refl
here_kept_by_others S H s (On.Take q) c f ne = refl
here_kept_by_others S H s (On.Ask q) c f ne = refl
here_kept_by_others S H s (On.Grant q j rest) c f ne = refl
here_kept_by_others S H s (On.Accept j) c f ne = refl
here_kept_by_others S H s (On.Work q) c f ne = refl
here_kept_by_others S H s (On.Close q) c f ne = refl

puts_act_other : (S : Setting) (H : List Element) (s : State) (p c rest : ℕ) (q : List Entry) (act : SynchAct) → ActFits S H s p q act → p ≢ c % S.rings → puts_in c (On.Leave p rest act) ≡ false
puts_act_other S H s p c rest q Done.None f ne = refl
puts_act_other S H s p c rest q (Done.Call d j k) f ne = refl
puts_act_other S H s p c rest q Done.Away f ne = refl
puts_act_other S H s p c rest q (Done.Out d) f ne = refl
puts_act_other S H s p c rest q (Done.In d) f ne = let other : d ≢ c = λ e. ne (f.0 ∙ ap (λ x. x % S.rings) e) in grind (arith, nat_tests, other)

takes_act_other : (S : Setting) (H : List Element) (s : State) (p c rest : ℕ) (q : List Entry) (act : SynchAct) → ActFits S H s p q act → p ≢ c % S.rings → takes_out c (On.Leave p rest act) ≡ false
takes_act_other S H s p c rest q Done.None f ne = refl
takes_act_other S H s p c rest q (Done.Call d j k) f ne = refl
takes_act_other S H s p c rest q Done.Away f ne = refl
takes_act_other S H s p c rest q (Done.Out d) f ne = let other : d ≢ c = λ e. ne (f.0 ∙ ap (λ x. x % S.rings) e) in grind (arith, nat_tests, other)
takes_act_other S H s p c rest q (Done.In d) f ne = refl

pub puts_other : (S : Setting) (H : List Element) (s : State) (m : Mark) (c : ℕ) → ActsFit S H s m → pass_of m ≢ c % S.rings → (puts_in c m ≡ false) × (takes_out c m ≡ false)
puts_other S H s (On.Leave p rest act) c f ne =
    (puts_act_other S H s p c rest (unprocessed rest s.hand ++ s.chain) act f ne, takes_act_other S H s p c rest (unprocessed rest s.hand ++ s.chain) act f ne)
puts_other S H s (On.Fill q es) c f ne = (refl, refl)
puts_other S H s (On.Fast q e) c f ne = (refl, refl)
puts_other S H s (On.Claim q es) c f ne = (refl, refl)
puts_other S H s (On.Take q) c f ne = (refl, refl)
puts_other S H s (On.Ask q) c f ne = (refl, refl)
puts_other S H s (On.Grant q j rest) c f ne = (refl, refl)
puts_other S H s (On.Accept j) c f ne = (refl, refl)
puts_other S H s (On.Work q) c f ne = (refl, refl)
puts_other S H s (On.Close q) c f ne = (refl, refl)

-- The next number of a connection is its ring's doing
pub due_kept_by_others : (S : Setting) (H : List Element) (s : State) (e : Element) (c n : ℕ) (next : ℕ → ℕ) → ActsFit S H s e.mark
    → Enters S s (pass_of e.mark) next (entries_of e.mark) → pass_of e.mark ≢ c % S.rings → due_after c n e ≡ n
due_kept_by_others S H s e c n next f enters ne =
    let none = enters_own S s (pass_of e.mark) c next (entries_of e.mark) enters ne in
    rw ((puts_other S H s e.mark c f ne).0, none) (omega arith)
