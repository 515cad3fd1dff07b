-- A ring that stands at its Ask.
use Rattle.std.proofs.Common.{◌≡◌, ℕ, ◌%◌, ◌⊎◌, inl, inr, true, List, [], refl}
use Rattle.perimeter_core.specs.declared.marks.Own.TheVariants.{Out}
use Rattle.perimeter_core.specs.Perimeter.{ends_with_ask}
use Rattle.perimeter_core.specs.History.{Element, Setting, run}
use Rattle.perimeter_core.specs.Deeds.{feeds_of}
use Rattle.perimeter_core.specs.Legal.{Legal}
use Rattle.perimeter_core.proofs.FeedLists.{no_feeds_right}
use Rattle.perimeter_core.proofs.BehindAnAsk.{none_behind, behind_has, ends_has}

pub nothing_queued : (S : Setting) (H : List Element) (c : ℕ) → Legal S H → (run S H).own ≡ Out (c % S.rings)
    → ((run S H).hand ≡ []) ⊎ (ends_with_ask (c % S.rings) (run S H).hand ≡ true) → feeds_of c (run S H).chain ≡ []
nothing_queued S H c l o at =
    let n = none_behind S H (c % S.rings) c l refl in
    elim at [
      | inl empty ↦ no_feeds_right c (run S H).hand (run S H).chain (n.owner o empty)
      | inr ends ↦ behind_has c (c % S.rings) (run S H).hand (run S H).chain (ends_has (c % S.rings) (run S H).hand ends) n.asked
    ]
