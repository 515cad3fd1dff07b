-- What stays on a device where memory is missing.
use Rattle.std.proofs.Common.{◌≡◌, ℕ, ◌-◌, ◌<◌, ◌≤◌, nat_le, Bool, true, false, cond, List, ◌++◌, length, ◌∙◌, Result, Ok, Err, inr, sym, ap, subst, arith}
use Rattle.std.specs.Prelude.{OnErr}
use Rattle.std.proofs.lemmas.Bool.Decides.{nat_tests}
use Rattle.live_server.specs.Isolation.{CostsOf, KeepsRest}
use Rattle.live_server.specs.Serving.{ServerOf, on_datagram, on_time, sends_nothing}
use Rattle.live_server.specs.Written.{HasSent}
use Rattle.live_server.specs.declared.acting.Datagram.{Datagram}
use Rattle.live_server.proofs.WrittenLemmas.{all_sent, sent_behind, sent_of_front}
use Rattle.live_run.specs.Rounds.{round, tick_interval, LosesAtRound}

-- what it costs, and what goes out then
module _ (now ticked : ℕ) (body : List ℕ) (sv : ServerOf) where
  is_due : tick_interval ≤ now - ticked → nat_le tick_interval (now - ticked) ≡ true
  is_due due = grind (arith, nat_tests)

  not_due : now - ticked < tick_interval → nat_le tick_interval (now - ticked) ≡ false
  not_due early = grind (arith, nat_tests)

  round_by : (b : Bool) → nat_le tick_interval (now - ticked) ≡ b
      → (round now ticked body sv).sent ≡ (cond b (on_time now sv) (sends_nothing sv)).sent ++ (on_datagram now body (cond b (on_time now sv) (sends_nothing sv)).server).sent
  round_by b e = ap (λ (v : Bool). (cond v (on_time now sv) (sends_nothing sv)).sent ++ (on_datagram now body (cond v (on_time now sv) (sends_nothing sv)).server).sent) e

  lost_by : {X E : Type 0} (r : Result X E) (b : Bool) → nat_le tick_interval (now - ticked) ≡ b → (here after : ServerOf) → here ≡ (cond b (on_time now sv) (sends_nothing sv)).server
      → OnErr r (CostsOf body here after) → OnErr r (KeepsRest (length body) here after) → OnErr r (LosesAtRound now ticked body sv after)
  lost_by (Ok x) b e here after at costs rest = tt
  lost_by (Err x) b e here after at costs rest =
      inr (subst (λ (m : ServerOf). CostsOf body m after × KeepsRest (length body) m after) (at ∙ ap (λ (v : Bool). (cond v (on_time now sv) (sends_nothing sv)).server) (sym e)) (costs, rest))

  -- memory was missing behind the time
  pub lost_behind : {X E : Type 0} (r : Result X E) → tick_interval ≤ now - ticked → (here after : ServerOf) → here ≡ (on_time now sv).server
      → OnErr r (CostsOf body here after) → OnErr r (KeepsRest (length body) here after) → OnErr r (LosesAtRound now ticked body sv after)
  lost_behind r due here after at costs rest = lost_by r true (is_due due) here after at costs rest

  -- or where no time came
  pub lost_early : {X E : Type 0} (r : Result X E) → now - ticked < tick_interval → (here after : ServerOf) → here ≡ sv
      → OnErr r (CostsOf body here after) → OnErr r (KeepsRest (length body) here after) → OnErr r (LosesAtRound now ticked body sv after)
  lost_early r early here after at costs rest = lost_by r false (not_due early) here after at costs rest

  -- memory was missing as the time came
  pub time_partly : tick_interval ≤ now - ticked → (was is : List Datagram) → HasSent was is (on_time now sv).sent → HasSent was is (round now ticked body sv).sent
  time_partly due was is h = sent_of_front was is _ (on_time now sv).sent (on_datagram now body (on_time now sv).server).sent (round_by true (is_due due)) h

  -- or behind that
  pub behind_partly : {X E : Type 0} (r : Result X E) → tick_interval ≤ now - ticked → (was mid is : List Datagram) (here : ServerOf) → here ≡ (on_time now sv).server → mid ≡ was ++ (on_time now sv).sent
      → OnErr r (HasSent mid is (on_datagram now body here).sent) → OnErr r (HasSent was is (round now ticked body sv).sent)
  behind_partly (Ok x) due was mid is here at sent h = tt
  behind_partly (Err e) due was mid is here at sent h =
      sent_behind was mid is _ (on_time now sv).sent (on_datagram now body (on_time now sv).server).sent (round_by true (is_due due)) (all_sent was mid _ sent)
      (subst (λ (x : ServerOf). HasSent mid is (on_datagram now body x).sent) at h)

  -- or where no time came
  pub datagram_partly : {X E : Type 0} (r : Result X E) → now - ticked < tick_interval → (was mid is : List Datagram) (here : ServerOf) → here ≡ sv → mid ≡ was
      → OnErr r (HasSent mid is (on_datagram now body here).sent) → OnErr r (HasSent was is (round now ticked body sv).sent)
  datagram_partly (Ok x) early was mid is here at sent h = tt
  datagram_partly (Err e) early was mid is here at sent h =
      subst (HasSent was is) (sym (round_by false (not_due early)))
      (subst (λ (x : List Datagram × ServerOf). HasSent x.0 is (on_datagram now body x.1).sent) (λ j. (sent j, at j)) h)
