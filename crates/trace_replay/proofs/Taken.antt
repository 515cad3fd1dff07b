-- A block that was given all that was done to its connection, and is taken out.
use Rattle.std.proofs.Common.{◌≡◌, ℕ, ◌+◌, ◌<◌, ◌==◌, inr, Bool, true, false, if◌then◌else◌, Option, Some, None, List, [], ◌++◌, length, refl, ap, sym, ◌∙◌, subst, eq-eqb, arith}
use Rattle.std.specs.Prelude.{Box, IfSome, MatchOption, slice_index}
use Rattle.std.specs.Bool.{then_some}
use Rattle.std.proofs.lemmas.Bool.{both_ways, eqb-true}
use Rattle.std.proofs.lemmas.Bool.Decides.{nat_tests}
use Rattle.std.proofs.lemmas.List.FromFn.{get_or-map-range_with_len}
use Rattle.std.proofs.Math.Nat.{mod-lt}
use Rattle.std.specs.declared.alloc.Global.{Global}
use Rattle.perimeter_core.specs.declared.entries.Act.{Act}
use Rattle.perimeter_core.specs.Blocks.{Blocks as Had, longer}
use Rattle.perimeter_core.specs.Residing.{Here}
use Rattle.conn_classifier.specs.Plan.{PlanOf, items_in}
use Rattle.conn_blocks.specs.Allowed.{feed_limits}
use Rattle.conn_blocks.specs.CallLists.{CallLists}
use Rattle.conn_blocks.specs.Holding.{StandsFor, calls_on}
use Rattle.conn_blocks.specs.Orders.{settle}
use Rattle.conn_blocks.specs.Places.{IsPartOf, PartStands}
use Rattle.placed_parts.specs.Standing.{first_here}
use Rattle.conn_blocks.specs.ServeOrder.{BlockOf, OriginOf}
use Rattle.conn_blocks.specs.SettledFeeds.{feeds_settle}
use Rattle.conn_blocks.proofs.PlaceSteps.{here_first}
use Rattle.squeue_replay.specs.Standing.{GuestOf}
use Rattle.trace_replay.specs.Joining.{FeedsFollow, HasNoOrder, HasOrder, HasStays, did_before, with_acts, without}
use Rattle.trace_replay.proofs.Giving.{all_follow, here_with}
use Rattle.trace_replay.proofs.WholeOrder.{long_is_whole, whole_is_long}

-- one squeue has all connections at first
pub here_at_one : (n c : ℕ) → c < n → first_here n 0 1 c ≡ Some []
here_at_one n c lt = let some : 0 < 1 = omega arith in here_first n 0 1 c lt (omega (arith, mod-lt c some))

-- how many feeds the connection may have
pub feeds_allowed : (p : PlanOf) (c : ℕ) → c < length p.tuples → slice_index (feed_limits p) c ≡ length (items_in p c)
feeds_allowed p c lt = get_or-map-range_with_len (λ d. length (items_in p d)) 0 (length p.tuples) c c 0 lt (omega arith)

pub given_here : (Now : Had → Type 0) (c : ℕ) (xs : List Act) (had : Had) → had c ≡ Some [] → Now (with_acts c xs had) → Here Now c
given_here Now c xs had e s = record { blocks = with_acts c xs had; had = [] ++ xs; stands = s; here = here_with c xs had [] e }

taken_as : (o : OriginOf) (c : ℕ) (did : List Act) (b : Box BlockOf Global) → IsPartOf o c b → PartStands b did → StandsFor o.plan o.calls c did b.value
taken_as o c did b own part = subst (λ w. StandsFor w.plan w.calls w.c did b.value) own part

-- a block that is taken out stands for what was done to it
pub taken : (o : OriginOf) (p : PlanOf) (calls : CallLists) (c : ℕ) (did : List Act) (b : Box BlockOf Global) → o ≡ record { plan = p; calls = calls } → IsPartOf o c b → PartStands b did
    → StandsFor p calls c did b.value
taken o p calls c did b same own part = subst (λ (w : OriginOf). StandsFor w.plan w.calls c did b.value) same (taken_as o c did b own part)

-- without it the others stay
pub others_stay : (c d : ℕ) (had : Had) → c < d → without c had d ≡ had d
others_stay c d had lt = let other : (c == d) ≡ false = grind (arith, nat_tests) in rw other refl

pub without_given : (c : ℕ) (xs : List Act) (had : Had) → without c (with_acts c xs had) ≡ without c had
without_given c xs had i d = by (c == d) i
  where
    by : (b : Bool) → (if b then None else if b then longer xs (had d) else had d) ≡ (if b then None else had d)
    by true = refl
    by false = refl

module _ (squeues : ℕ) (kept : List (List GuestOf)) (c : ℕ) (p : PlanOf) (calls : CallLists) (n : ℕ) (all : HasStays squeues kept c n) where
  -- a feed was missing, or came out of its turn
  pub feeds_lack : (FeedsFollow (length (items_in p c)) 0 (did_before squeues kept c n) → ⊥) → HasNoOrder squeues kept c p calls
  feeds_lack lacks = inr (record {
    count = n;
    all = all;
    whole = λ w. lacks (all_follow (length (items_in p c)) 0 (length (items_in p c)) (did_before squeues kept c n) (omega arith)
        (sym (feeds_settle calls c (did_before squeues kept c n)) ∙ w.feeds));
  })

  module _ (b : BlockOf) (stands : StandsFor p calls c (did_before squeues kept c n) b) where
    pub too_short : (length b.order ≡ length (items_in p c) + calls_on calls c → ⊥) → HasNoOrder squeues kept c p calls
    too_short short = inr (record {
      count = n;
      all = all;
      whole = λ w. short (ap length stands.order ∙ whole_is_long p calls c (settle calls c (did_before squeues kept c n)) stands.settled.threads w);
    })

    pub long_enough : b.short ≡ false → length b.order ≡ length (items_in p c) + calls_on calls c → HasOrder squeues kept c p calls b
    long_enough short long = record { count = n; all = all; stands = stands; short = short; whole = long_is_whole p calls c b stands.settled long }

  -- by how long the order is, the block has one that is whole, or there is none
  pub judged : (x : Box BlockOf Global) (order : List Act) (items asked : ℕ) (o : Option (Box BlockOf Global)) → StandsFor p calls c (did_before squeues kept c n) x.value → x.value.short ≡ false
      → x.value.order ≡ order → items ≡ length (items_in p c) → asked ≡ calls_on calls c → o ≡ then_some (length order == items + asked) x
      → MatchOption o (HasNoOrder squeues kept c p calls) (λ b. HasOrder squeues kept c p calls b.value)
  judged x order items asked o stands short same i k e =
      subst (λ (r : Option (Box BlockOf Global)). MatchOption r (HasNoOrder squeues kept c p calls) (λ b. HasOrder squeues kept c p calls b.value)) (sym e) (by (length order == items + asked) refl)
    where
      by : (b : Bool) → (length order == items + asked) ≡ b → MatchOption (then_some b x) (HasNoOrder squeues kept c p calls) (λ b. HasOrder squeues kept c p calls b.value)
      by true is = let long : length order ≡ items + asked = eqb-true (length order) (items + asked) is in
          long_enough x.value stands short (omega (arith, ap length same, long, i, k))
      by false is = too_short x.value stands (λ long. (let all : length order ≡ items + asked = omega (arith, ap length same, long, i, k) in
          both_ways (length order == items + asked) is (eq-eqb (length order) (items + asked) all)))

pub some_has : {A : Type 0} (P : A → Type 0) (o : Option A) (x : A) → o ≡ Some x → IfSome o P → P x
some_has P o x e h = subst (λ r. IfSome r P) e h

pub any_some : {A : Type 0} (P : Type 0) (o : Option A) → P → IfSome o (λ x. P)
any_some P None h = tt
any_some P (Some x) h = h
