use Rattle.std.proofs.Common.{◌≡◌, ◌+◌, ◌∙◌, ℕ, Option, None, Some, List, [], drop, ap, sym}
use Rattle.std.proofs.lemmas.List.{drop-drop}
use Rattle.perimeter_core.specs.declared.entries.Entry.{Entry}
use Rattle.perimeter_core.specs.declared.entries.Feed.{Feed}
use Rattle.squeue_state.specs.declared.hand.Taken.{Taken}
use Rattle.squeue_state.specs.declared.hand.Taken.TheVariants.{One}
use Rattle.squeue_state.specs.Naming.{Handed}
use Rattle.squeue_state.specs.Hands.{handed}
use Rattle.squeue_state.proofs.hand.Hand.pass_first.Goals as goal
use Rattle.squeue_state.proofs.hand.Hand.pass_first.Goals.{in-One, in-Many}

-- of one feed nothing is left
one_passed : (f : Option Feed) (old : Handed) → handed (One f) ≡ old → [] ≡ drop 1 old.left
one_passed None old is = ap (λ (h : Handed). drop 1 h.left) is
one_passed (Some f) old is = ap (λ (h : Handed). drop 1 h.left) is

-- of a buffer one entry less
more_passed : (xs : List Entry) (k : ℕ) (before old : Handed) → before.left ≡ drop k xs → before ≡ old → drop (k + 1) xs ≡ drop 1 old.left
more_passed xs k before old now is = sym (drop-drop 1 k xs) ∙ (ap (drop 1) (sym now) ∙ ap (λ (h : Handed). drop 1 h.left) is)

pub returns-clause-left : goal.returns-clause-left
returns-clause-left c =
    elim c.match-self.branch [
      | in-One w ↦ ap (λ (t : Taken). (handed t).left) (ap (λ s. s.taken) w.self-inside-is) ∙ one_passed _ c.args.self.now (ap handed (sym w.in-One.is) ∙ c.self.view_is)
      | in-Many w ↦
          ap (λ (t : Taken). (handed t).left) (ap (λ s. s.taken) w.self-inside-is)
          ∙ more_passed w.in-Many.field-0.items w.in-Many.at (handed c.self.inside.taken) c.args.self.now (ap (λ (t : Taken). (handed t).left) w.in-Many.is) c.self.view_is
    ]
