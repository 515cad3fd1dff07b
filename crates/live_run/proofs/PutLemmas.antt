-- What a call of `put` wrote of a text.
use Rattle.std.proofs.Common.{◌≡◌, ◌∙◌, ℕ, List, [], Option, Result, Ok, Err, OnErr, OnOk, append-nil, drop, sym, take, take-append-drop, true, false, true≢false}
use Rattle.std.specs.Io.KnownBytes.{Appends}
use Rattle.std.specs.Result.{is_err}
use Rattle.sq_base.specs.Ends.{AppendsProperly}
use Rattle.live_run.specs.Fronts.{AppendsFront}

module _ {X E : Type 0} (was is : Option (List ℕ)) (text written : List ℕ) (same : text ≡ written) where
  pub front_put : (r : Result X E) → is_err r ≡ true → OnErr r (AppendsProperly was is text) → AppendsFront was is written
  front_put (Ok x) failed h = absurd (true≢false (sym failed))
  front_put (Err e) failed h = (take h.0 text, (drop h.0 text, sym same ∙ sym (take-append-drop h.0 text)), h.2)

  pub all_put : (r : Result X E) → is_err r ≡ false → OnOk r (Appends was is text) → AppendsFront was is written
  all_put (Ok x) well h = (text, ([], sym same ∙ sym (append-nil text)), h)
  all_put (Err e) well h = absurd (true≢false well)
