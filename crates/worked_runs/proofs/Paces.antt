-- Worked examples of a ring's pace: histories where it is kept, and for each condition one where that is broken.
use Rattle.std.proofs.Common.{ℕ, inl, inr, List, [], ◌∷◌, refl, arith}
use Rattle.perimeter_core.specs.declared.entries.Entry.TheVariants.{Feed, Ask}
use Rattle.perimeter_core.specs.declared.marks.SynchAct.TheVariants as Done
use Rattle.perimeter_core.specs.declared.marks.Mark.{Mark}
use Rattle.perimeter_core.specs.declared.marks.Mark.TheVariants as On
use Rattle.perimeter_core.specs.History.{Element, plain}
use Rattle.perimeter_trial.specs.Worked.{three_passes, three_passes_one_worker}
use Rattle.histories.specs.declared.mode.Mode.{Mode}
use Rattle.histories.specs.declared.mode.Mode.TheVariants.{Process, NoDrain, Fill}
use Rattle.histories.specs.Keeping.{Keeps, KeepsPace}

-- ring r of three, at the one squeue that there is, where each connection is at home
abbrev AfterNothing : Mode → ℕ → Mark → Type 0
AfterNothing mode r m = Keeps 1 0 mode 64 0 three_passes r [] (plain m)

abbrev Kept : Mode → ℕ → ℕ → List Element → Type 0
Kept mode budget r H = KeepsPace 1 0 mode budget 0 three_passes r H

-- three passes and one worker, with fill
fill_keeps : AfterNothing Fill 0 (On.Fill 0 (Feed 0 0 ∷ Feed 0 1 ∷ []))
fill_keeps =
    record {
      home = (refl, (refl, tt));
      fill = λ _. (refl, refl);
      no_claim = λ _. refl;
      busy = λ m. cc m;
      busy_or_behind = λ m. cc m;
      leaves_next = λ m. cc m;
      few = λ _. tt;
      full = λ m. cc m;
    }

close_keeps : Keeps 1 0 Fill 64 0 three_passes 0 (plain (On.Fill 0 (Feed 0 0 ∷ Feed 0 1 ∷ [])) ∷ plain (On.Fill 1 (Feed 1 0 ∷ Feed 1 1 ∷ [])) ∷ plain (On.Fill 2 (Feed 2 0 ∷ [])) ∷ []) (plain (On.Close 0))
close_keeps =
    record {
      home = tt;
      fill = λ _. (refl, refl);
      no_claim = λ _. refl;
      busy = λ m. cc m;
      busy_or_behind = λ m. cc m;
      leaves_next = λ m. cc m;
      few = λ _. tt;
      full = λ m. cc m;
    }

three_passes_keep : Kept Fill 64 0 three_passes_one_worker
three_passes_keep =
    (λ _. fill_keeps, (λ own. absurd (omega (arith, own)), (λ own. absurd (omega (arith, own)), (λ _. close_keeps, (λ own. absurd (omega (arith, own)), (λ own. absurd (omega (arith, own)), (λ own. absurd (omega (arith, own)), (λ own. absurd (omega (arith, own)), tt))))))))

-- with process a ring that finds nobody there would have taken the perimeter
process_would_take : Kept Process 64 0 three_passes_one_worker → ⊥
process_would_take k = (k.0 refl).busy refl refl refl

-- with nodrain one feed is queued behind others, and nowhere else
behind_others : Keeps 1 0 NoDrain 64 0 three_passes 2 (plain (On.Fill 0 (Feed 0 0 ∷ [])) ∷ []) (plain (On.Fill 2 (Feed 2 0 ∷ [])))
behind_others =
    record {
      home = (refl, tt);
      fill = λ _. (refl, refl);
      no_claim = λ _. refl;
      busy = λ m. cc m;
      busy_or_behind = λ _ _. inr (λ empty. cc empty);
      leaves_next = λ _ took. absurd (took refl);
      few = λ _. tt;
      full = λ m. cc m;
    }

alone_would_take : AfterNothing NoDrain 2 (On.Fill 2 (Feed 2 0 ∷ [])) → ⊥
alone_would_take k = elim (k.busy_or_behind refl refl) [ inl own ↦ own refl | inr chain ↦ chain refl ]

-- of two squeues connection 1 isn't at home at the first
away_from_home : Keeps 2 0 Fill 64 0 three_passes 1 [] (plain (On.Fill 1 (Feed 1 0 ∷ []))) → ⊥
away_from_home k = let h = k.home.0 in absurd (omega (arith, h))

fast_with_fill : AfterNothing Fill 0 (On.Fast 0 (Feed 0 0)) → ⊥
fast_with_fill k = let no = (k.fill refl).0 in cc no

claim_with_fill : AfterNothing Fill 0 (On.Claim 0 (Feed 0 0 ∷ [])) → ⊥
claim_with_fill k = let no = (k.fill refl).1 in cc no

claim_with_nodrain : AfterNothing NoDrain 0 (On.Claim 0 (Feed 0 0 ∷ [])) → ⊥
claim_with_nodrain k = let no = k.no_claim refl in cc no

-- a ring may claim with its own Ask in each mode
claim_of_an_ask : AfterNothing NoDrain 0 (On.Claim 0 (Ask 0 ∷ []))
claim_of_an_ask =
    record {
      home = tt;
      fill = λ _. (refl, refl);
      no_claim = λ _. refl;
      busy = λ m. cc m;
      busy_or_behind = λ _ one. cc one;
      leaves_next = λ _ took. absurd (took refl);
      few = λ _. tt;
      full = λ m. cc m;
    }

take_with_nodrain : Kept NoDrain 64 0 (plain (On.Fast 0 (Feed 0 0)) ∷ plain (On.Fill 1 (Feed 1 0 ∷ [])) ∷ plain (On.Take 0) ∷ []) → ⊥
take_with_nodrain k = let no = (k.1.1.0 refl).leaves_next refl (λ none. cc none) in cc no

-- of two feeds one more than the budget is processed; one too few
over_the_budget : Kept Process 1 0 (plain (On.Claim 0 (Feed 0 0 ∷ Feed 0 1 ∷ [])) ∷ plain (On.Leave 0 0 Done.None) ∷ []) → ⊥
over_the_budget k = let few = (k.1.0 refl).few refl in absurd (omega (arith, few))

left_early : Kept Process 2 0 (plain (On.Claim 0 (Feed 0 0 ∷ Feed 0 1 ∷ [])) ∷ plain (On.Leave 0 1 Done.None) ∷ []) → ⊥
left_early k = let full = (k.1.0 refl).full refl refl (λ empty. cc empty) in absurd (omega (arith, full))

-- and just as many
claim_keeps : Keeps 1 0 Process 1 0 three_passes 0 [] (plain (On.Claim 0 (Feed 0 0 ∷ Feed 0 1 ∷ [])))
claim_keeps =
    record {
      home = (refl, (refl, tt));
      fill = λ m. cc m;
      no_claim = λ m. cc m;
      busy = λ _ fill. cc fill;
      busy_or_behind = λ m. cc m;
      leaves_next = λ m. cc m;
      few = λ _. tt;
      full = λ _ leaves. cc leaves;
    }

leave_keeps : Keeps 1 0 Process 1 0 three_passes 0 (plain (On.Claim 0 (Feed 0 0 ∷ Feed 0 1 ∷ [])) ∷ []) (plain (On.Leave 0 1 Done.None))
leave_keeps =
    record {
      home = tt;
      fill = λ m. cc m;
      no_claim = λ _. refl;
      busy = λ _ fill. cc fill;
      busy_or_behind = λ m. cc m;
      leaves_next = λ m. cc m;
      few = λ _. omega arith;
      full = λ _ _ _. refl;
    }

spent : Kept Process 1 0 (plain (On.Claim 0 (Feed 0 0 ∷ Feed 0 1 ∷ [])) ∷ plain (On.Leave 0 1 Done.None) ∷ [])
spent = (λ _. claim_keeps, (λ _. leave_keeps, tt))
