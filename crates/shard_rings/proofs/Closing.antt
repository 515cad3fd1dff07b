-- When a ring has brought, it may close its passes; closed, each has entered as many feeds as the ring sent parcels there.
use Rattle.std.proofs.Common.{◌≡◌, ℕ, ◌+◌, ◌==◌, ◌<◌, zero, suc, Bool, true, false, if◌then◌else◌, Option, Some, None, List, [], ◌∷◌, length, slice_get, refl, ap, sym, ◌∙◌, subst, arith}
use Rattle.std.proofs.lemmas.Option.{slice_get_within}
use Rattle.turn_gate.specs.History.{only}
use Rattle.turn_gate.specs.Passes.{IsPassOf, mine, number, seen}
use Rattle.turn_gate.specs.declared.pass.Pass.{Pass}
use Rattle.perimeter_core.specs.Perimeter.{Idle}
use Rattle.perimeter_core.specs.History.{Element, Limits, pass_of, run}
use Rattle.perimeter_core.specs.Legal.{feeds_by}
use Rattle.perimeter_core.proofs.OwnCounts.{own_counts}
use Rattle.perimeter_core.proofs.Quotas.{feeds_push}
use Rattle.squeue_state.specs.Naming.{Named, setting_of}
use Rattle.squeue_state.proofs.Makers.{only_made}
use Rattle.histories.specs.Elements.{closed_by, number_of}
use Rattle.histories.proofs.ListPlaces.{some_at}
use Rattle.squeue_serve.specs.Places.{AtEach, AtEachTwo, Became, HasClosed, Holds, MayClose}
use Rattle.squeue_rings.proofs.Slots.{at_made}
use Rattle.shard_rings.specs.declared.cell.Cell.{Cell}
use Rattle.shard_rings.specs.Knowing.{IsAt, Serves, sent_of}
use Rattle.shard_rings.specs.Rows.{AreKnown, IsKnown}
use Rattle.shard_rings.specs.Tasks.{HasFed}

-- who knows what the pass made knows how many feeds it entered
pub own_feeds : (p : ℕ) (H K its : List Element) → only number_of p H ≡ its → only number_of p K ≡ its → feeds_by p H ≡ feeds_by p K
own_feeds p H K its a b = (own_counts p H).0 ∙ (ap (feeds_by p) (sym (only_made p H) ∙ (a ∙ (sym b ∙ only_made p K))) ∙ sym (own_counts p K).0)

module _ {R : Type 0} (limits : R → Limits) (s : Named R) (ring : ℕ) where
  may_close : (n fed : ℕ) (p : Pass Element) → Serves limits s ring → IsAt limits s ring n fed p → MayClose limits s p
  may_close n fed p serves at =
      record {
        pass = at.pass;
        other = subst (λ (k : ℕ). k < length s.given.quotas) (sym at.is_number) serves.no_worker;
        idle = subst (λ (k : ℕ). Idle (run (setting_of limits s.given) (seen p)) k) (sym at.is_number) at.idle;
      }

  -- closing enters nothing
  closed_feeds : (p q : Pass Element) → IsPassOf number_of s.gate p → HasClosed limits s p q → feeds_by (number p) (seen q) ≡ feeds_by (number p) (seen p)
  closed_feeds p q pass closed =
      let e : Element = closed_by (number p) in
      let all : feeds_by (number p) (seen q) ≡ feeds_by (number p) closed.found + (if pass_of e.mark == number p then 0 else 0) = ap (feeds_by (number p)) closed.now_seen ∙ feeds_push (number p) closed.found e in
      let none = nothing (pass_of e.mark == number p) in
      let same : feeds_by (number p) closed.found ≡ feeds_by (number p) (seen p) = own_feeds (number p) closed.found (seen p) (mine p) closed.own pass.2 in
      omega (arith, all, none, same)
    where
      nothing : (b : Bool) → ◌≡◌ {A = ℕ} (if b then 0 else 0) 0
      nothing true = refl
      nothing false = refl

  has_fed : (n fed : ℕ) (p q : Pass Element) → Serves limits s ring → IsAt limits s ring n fed p → HasClosed limits s p q → HasFed limits ring fed s q
  has_fed n fed p q serves at closed =
      let number_is : number q ≡ ring = closed.same_number ∙ at.is_number in
      let few = serves.no_worker in
      record {
        end = record { pass = closed.is_pass; is_number = number_is; over = λ worker. absurd (omega (arith, worker, number_is, few)) };
        fed = subst (λ (k : ℕ). feeds_by k (seen q) ≡ feeds_by k (seen p)) at.is_number (closed_feeds p q at.pass closed) ∙ at.feeds;
      }

module _ {R A : Type 0} (C : Named R → A → A → Type 0) where
  two_length : (ss : List (Named R)) (os ns : List A) → AtEachTwo C ss os ns → length ns ≡ length ss
  two_length [] [] [] two = refl
  two_length [] [] (n ∷ ns) two = absurd two
  two_length [] (o ∷ os) ns two = absurd two
  two_length (s ∷ ss) [] ns two = absurd two
  two_length (s ∷ ss) (o ∷ os) [] two = absurd two
  two_length (s ∷ ss) (o ∷ os) (n ∷ ns) two = ap suc (two_length ss os ns two.1)

  two_at : (ss : List (Named R)) (os ns : List A) (q : ℕ) (s : Named R) (n : A) → AtEachTwo C ss os ns → slice_get ss q ≡ Some s → slice_get ns q ≡ Some n → (o : A) × (slice_get os q ≡ Some o) × C s o n
  two_at [] os ns q s n two is at = cc is
  two_at (t ∷ ss) [] ns q s n two is at = absurd two
  two_at (t ∷ ss) (o ∷ os) [] q s n two is at = cc at
  two_at (t ∷ ss) (o ∷ os) (m ∷ ns) zero s n two is at =
      let a : t ≡ s = cc is in
      let b : m ≡ n = cc at in
      (o, refl, subst (λ (s : Named R). C s o n) a (subst (C t o) b two.0))
  two_at (t ∷ ss) (o ∷ os) (m ∷ ns) (suc q) s n two is at = two_at ss os ns q s n two.1 is at

module _ {R T : Type 0} (limits : R → Limits) (ring : ℕ) (squeues : List (Named R)) (places : List (Option (Pass Element))) (cells : List (Cell T)) (known : AreKnown limits ring squeues places cells) where
  pub all_may_close : AtEach (λ s o. Holds (MayClose limits s) o) squeues places
  all_may_close =
      at_made (λ s o. Holds (MayClose limits s) o) squeues places known.places_count
      (λ q s o squeue place.
      let lt : q < length cells = subst (λ (n : ℕ). q < n) (sym known.cells_count) (slice_get_within squeues q s squeue) in
      let c = some_at cells q lt in
      by s o c.0 (known.each q s o c.0 squeue place c.1))
    where
      by : (s : Named R) (o : Option (Pass Element)) (c : Cell T) → IsKnown limits ring s o c → Holds (MayClose limits s) o
      by s None c is = absurd is.at
      by s (Some p) c is = may_close limits s ring c.entered (length (sent_of c)) p is.serves is.at

  module _ (closed : List (Option (Pass Element))) (two : AtEachTwo (λ s o n. Became (HasClosed limits s) o n) squeues places closed) where
    pub closed_count : length closed ≡ length squeues
    closed_count = two_length (λ s o n. Became (HasClosed limits s) o n) squeues places closed two

    pub all_fed : (q : ℕ) (s : Named R) (n : Option (Pass Element)) (c : Cell T) → slice_get squeues q ≡ Some s → slice_get closed q ≡ Some n → slice_get cells q ≡ Some c → Holds (HasFed limits ring (length (sent_of c)) s) n
    all_fed q s n c squeue place its =
        let o = two_at (λ s o n. Became (HasClosed limits s) o n) squeues places closed q s n two squeue place in
        by o.0 n (known.each q s o.0 c squeue o.1 its) o.2
      where
        by : (o n : Option (Pass Element)) → IsKnown limits ring s o c → Became (HasClosed limits s) o n → Holds (HasFed limits ring (length (sent_of c)) s) n
        by None n is became = absurd is.at
        by (Some p) None is became = absurd became
        by (Some p) (Some q) is became = has_fed limits s ring c.entered (length (sent_of c)) p q is.serves is.at became
