-- A stream that takes one item more.
use Rattle.std.proofs.Common.{◌≡◌, Global, ℕ, zero, suc, ◌+◌, ◌%◌, ◌^◌, ◌≤◌, ◌<◌, List, [], ◌∷◌, ◌++◌, length, replicate, slice_index, refl, ap, sym, ◌∙◌, subst, arith, length-append}
use Rattle.std.proofs.Math.Nat.{mod-add-mod}
use Rattle.std.proofs.lemmas.List.{append-nil}
use Rattle.perimeter_core.specs.declared.entries.Act.{Act}
use Rattle.perimeter_core.specs.declared.entries.Act.TheVariants as Did
use Rattle.perimeter_core.proofs.NextFeed.{fed-append}
use Rattle.placed_parts.specs.Standing.{HasFed}
use Rattle.rtrb.specs.declared.AnyItems.{AnyItems}
use Rattle.rtrb.specs.declared.consumer.Consumer.{Consumer}
use Rattle.rtrb.specs.Ring.{SameConsumer, received}
use Rattle.squeue_streams.specs.declared.streams.Stream.{Stream}
use Rattle.squeue_streams.specs.Taking.{HasTaken, HasTakenMore, IsStreamOf, Takes, count_of, input_of, most_feeds, state_of}

-- the same end of the same ring
pub same_end : {T : Type 0} (a b c : Consumer T Global AnyItems) → SameConsumer a b → SameConsumer b c → SameConsumer a c
same_end a b c x y = ((y.0.0 ∙ x.0.0, y.0.1 ∙ x.0.1, y.0.2 ∙ x.0.2, y.0.3 ∙ x.0.3), y.1 ∙ x.1)

-- one item more
pub takes_more : {T S : Type 0} (step : S → T → S → Type 0) (from at to : S) (xs : List T) (x : T) → Takes step from xs at → step at x to → Takes step from (xs ++ x ∷ []) to
takes_more {T} {S} step from at to [] x is one = (to, subst (λ (s : S). step s x to) is one, refl)
takes_more step from at to (y ∷ xs) x is one = (is.0, is.1, takes_more step is.0 at to xs x is.2 one)

-- no limit is above that of all
limit_within : (count most c : ℕ) → slice_index (replicate count most) c ≤ most
limit_within zero most c = omega arith
limit_within (suc count) most zero = omega arith
limit_within (suc count) most (suc c) = limit_within count most c

-- where nothing is left it is all
pub all_left : {T : Type 0} (xs more ys : List T) → length more ≡ 0 → xs ++ more ≡ ys → xs ≡ ys
all_left xs [] ys none is = sym (append-nil xs) ∙ is
all_left xs (y ∷ more) ys none is = absurd (let e : length (y ∷ more) ≡ 0 = none in omega (arith, e))

module _ {T S : Type 0} where
  -- a feed below the limit can be counted
  pub counted : (stream : Stream T S) (count n c : ℕ) → HasFed (HasTaken stream) n → n < slice_index (replicate count most_feeds) c → stream.had < most_feeds
  counted stream count n c was below = omega (arith, was.stands.feeds, was.feeds, below, limit_within count most_feeds c)

  pub taken_more : (n : ℕ) (stream next : Stream T S) (x : T) (had : List Act) → received next.input ≡ received stream.input ++ x ∷ [] → next.had ≡ stream.had + 1
      → HasTaken stream had → HasTaken next (had ++ Did.Feed n ∷ [])
  taken_more n stream next x had popped more h =
      record {
        feeds = fed-append had (Did.Feed n ∷ []) ∙ omega (arith, h.feeds, more);
        popped = omega (arith, more, h.popped, ap length popped, length-append (received stream.input) (x ∷ []));
      }

  -- an item that is taken beside the feeds
  taken_beside : (stream next : Stream T S) (x : T) (had : List Act) → received next.input ≡ received stream.input ++ x ∷ [] → next.had ≡ stream.had → HasTaken stream had → HasTaken next had
  taken_beside stream next x had popped same h =
      record { feeds = h.feeds ∙ sym same; popped = omega (arith, same, h.popped, ap length popped, length-append (received stream.input) (x ∷ [])) }

  pub stream_more : {O : Type 0} (begins : O → ℕ → Consumer T Global AnyItems → S → Type 0) (step : O → S → T → S → Type 0) (o : O) (c : ℕ) (stream next : Stream T S) (x : T)
      → IsStreamOf begins step o c stream → SameConsumer stream.input next.input → received next.input ≡ received stream.input ++ x ∷ [] → step o stream.state x next.state → next.count ≡ (stream.count + 1) % 2 ^ 64 → IsStreamOf begins step o c next
  stream_more begins step o c stream next x is ring popped one more =
      record {
        first = is.first;
        first_input = is.first_input;
        begun = is.begun;
        its_ring = same_end is.first_input stream.input next.input is.its_ring ring;
        taken = subst (λ (xs : List T). Takes (step o) is.first xs next.state) (sym popped) (takes_more (step o) is.first stream.state next.state (received stream.input) x is.taken one);
        counted =
            more ∙ (ap (λ (n : ℕ). (n + 1) % 2 ^ 64) is.counted ∙ (mod-add-mod (length (received stream.input)) (2 ^ 64) 1
            ∙ ap (λ (n : ℕ). n % 2 ^ 64) (sym (ap length popped ∙ length-append (received stream.input) (x ∷ [])))));
      }

  -- a stream from which nothing was popped is what it begins with
  pub stream_new : {O : Type 0} (begins : O → ℕ → Consumer T Global AnyItems → S → Type 0) (step : O → S → T → S → Type 0) (o : O) (c : ℕ) (stream : Stream T S)
      → received (input_of stream) ≡ [] → count_of stream ≡ 0 → begins o c (input_of stream) (state_of stream) → IsStreamOf begins step o c stream
  stream_new begins step o c stream none uncounted begun =
      record {
        first = state_of stream;
        first_input = input_of stream;
        begun = begun;
        its_ring = ((refl, refl, refl, refl), refl);
        taken = subst (λ (xs : List T). Takes (step o) (state_of stream) xs (state_of stream)) (sym none) refl;
        counted = uncounted ∙ sym (ap (λ (xs : List T). length xs % 2 ^ 64) none);
      }

  -- a call changes nothing
  pub called : (j k : ℕ) (stream : Stream T S) (had : List Act) → HasTaken stream had → HasTaken stream (had ++ Did.Call j k ∷ [])
  called j k stream had h = record { feeds = fed-append had (Did.Call j k ∷ []) ∙ omega (arith, h.feeds); popped = h.popped }

  -- a stream that is put in again is what it was
  pub stream_same : {O : Type 0} (begins : O → ℕ → Consumer T Global AnyItems → S → Type 0) (step : O → S → T → S → Type 0) (o : O) (c : ℕ) (stream next : Stream T S)
      → next.input ≡ stream.input → next.state ≡ stream.state → next.count ≡ stream.count → IsStreamOf begins step o c stream → IsStreamOf begins step o c next
  stream_same begins step o c stream next input state count is =
      record {
        first = is.first;
        first_input = is.first_input;
        begun = is.begun;
        its_ring = rw input is.its_ring;
        taken = rw (input, state) is.taken;
        counted = rw (input, count) is.counted;
      }

  -- a look at the ring takes nothing
  pub has_looked : {O : Type 0} (begins : O → ℕ → Consumer T Global AnyItems → S → Type 0) (step : O → S → T → S → Type 0) (o : O) (stream next : Stream T S)
      → SameConsumer stream.input next.input → received next.input ≡ received stream.input → next.state ≡ stream.state → next.had ≡ stream.had → next.count ≡ stream.count → HasTakenMore begins step o stream next
  has_looked begins step o stream next ring popped state had count =
      record {
        ring = ring;
        stands = λ notes h. record { feeds = h.feeds ∙ sym had; popped = rw (had, popped) h.popped };
        its = λ c is.
            record {
              first = is.first;
              first_input = is.first_input;
              begun = is.begun;
              its_ring = same_end is.first_input stream.input next.input is.its_ring ring;
              taken = subst (λ (xs : List T). Takes (step o) is.first xs next.state) (sym popped) (subst (λ (s : S). Takes (step o) is.first (received stream.input) s) (sym state) is.taken);
              counted = count ∙ (is.counted ∙ sym (ap (λ (xs : List T). length xs % 2 ^ 64) popped));
            };
      }

  -- one item more is more
  pub has_one_more : {O : Type 0} (begins : O → ℕ → Consumer T Global AnyItems → S → Type 0) (step : O → S → T → S → Type 0) (o : O) (stream next : Stream T S) (x : T)
      → SameConsumer stream.input next.input → received next.input ≡ received stream.input ++ x ∷ [] → next.had ≡ stream.had → step o stream.state x next.state → next.count ≡ (stream.count + 1) % 2 ^ 64
      → HasTakenMore begins step o stream next
  has_one_more begins step o stream next x ring popped had one more =
      record {
        ring = ring;
        stands = λ notes. taken_beside stream next x notes popped had;
        its = λ c is. stream_more begins step o c stream next x is ring popped one more;
      }

  pub has_more_on : {O : Type 0} (begins : O → ℕ → Consumer T Global AnyItems → S → Type 0) (step : O → S → T → S → Type 0) (o : O) (a b c : Stream T S) → HasTakenMore begins step o a b → HasTakenMore begins step o b c → HasTakenMore begins step o a c
  has_more_on begins step o a b c x y =
      record {
        ring = same_end a.input b.input c.input x.ring y.ring;
        stands = λ had h. y.stands had (x.stands had h);
        its = λ d is. y.its d (x.its d is);
      }
