-- What is written out of a place was closed.
use Rattle.std.specs.Prelude.{ℕ, ◌+◌, ◌%◌, ◌^◌, List, length}
use Rattle.std.proofs.Common.{Global, refl, sym, subst, ap, ◌∙◌}
use Rattle.rtrb.specs.declared.AnyItems.{AnyItems}
use Rattle.rtrb.specs.declared.consumer.Consumer.{Consumer}
use Rattle.squeue_streams.specs.Taking.{Takes, state_of}
use Rattle.stream_stays.specs.declared.stay.Stay.{Stay}
use Rattle.stream_stays.specs.declared.stay.Vacant.{Vacant}
use Rattle.worked_runs.specs.OneClose.{HasClosed, IsClosed, history, unfed}

module _ {T S O : Type 0} (begins : O → ℕ → Consumer T Global AnyItems → S → Type 0) (step : O → S → T → S → Type 0) (o : O) (stay : Stay T) (vacant : Vacant T S) (item : T) (from : S) (input : Consumer T Global AnyItems) where
  pub has_closed : IsClosed begins step o stay vacant item from input → HasClosed begins step o stay vacant history
  has_closed is = record {
    leaves = is.leaves.0 ∙ sym (ap (λ n. n + 1) is.leaves.1);
    feeds = sym is.pushed;
    all = is.taken.0 ∙ sym is.items;
    made = record {
      first = from;
      first_input = input;
      begun = is.begun;
      its_ring = is.its_ring;
      taken = subst (λ (l : List T). Takes (step o) from l (state_of vacant.part)) (sym is.taken.0) (state_of vacant.part, is.taken.1, refl);
      counted = is.counted ∙ ap (λ (l : List T). length l % 2 ^ 64) (sym is.taken.0);
    };
  }

  -- without the feed of the item it isn't what is promised
  pub not_fed : IsClosed begins step o stay vacant item from input → HasClosed begins step o stay vacant unfed → ⊥
  not_fed is closed = cc (closed.feeds ∙ is.pushed)
