-- What a stream that was served leaves.
use Rattle.std.proofs.Common.{◌≡◌, ℕ, Option, Some, Result, Ok, Err, List, ap, ◌∙◌, sym}
use Rattle.live_run.specs.declared.fault.Fault.{Fault}
use Rattle.live_run.specs.declared.fault.Fault.TheVariants as Fault'
use Rattle.live_rings.specs.declared.ending.EndedRing.{EndedRing}
use Rattle.live_rings.specs.declared.words.Layout.{Layout}
use Rattle.live_run.proofs.ReadLemmas.{not_failed}
use Rattle.live_rings.specs.Served.{HasEnded, HasServed, fault_of}

-- a stream that failed so
abbrev failed : Fault → Result (Unit {0}) Fault
failed fault = Err fault

module _ {S K : Type 0} (rest : S → Option (List ℕ)) (reads : S → ℕ) (contents : K → Option (List ℕ)) (faults : K → ℕ) (setup : Layout) where
  pub has_ended : (reader : S) (sink : K) (d : EndedRing S K) (result : Result (Unit {0}) Fault) → d.fault ≡ fault_of result
      → HasServed rest reads contents faults setup reader sink d.reader d.sink d.lost result → HasEnded rest reads contents faults setup (record { reader = reader; sink = sink }) d
  has_ended reader sink d (Ok x) is served =
      record {
        well = λ none kept. served.written kept;
        whole = λ none. served.whole;
        front = served.front;
        framed = λ _. served.framed (not_failed x Fault'.Writing);
        stops = served.stops;
        reading = λ why. cc (sym is ∙ why);
        writing = λ why. cc (sym is ∙ why);
        frames = λ why. cc (sym is ∙ why);
        answered = λ why kept. cc (sym is ∙ why);
        so_far = λ why kept. cc (sym is ∙ why);
        others = λ why. cc (sym is ∙ why);
      }
  has_ended reader sink d (Err e) is served =
      record {
        well = λ none kept. cc (sym is ∙ none);
        whole = λ none. cc (sym is ∙ none);
        front = served.front;
        framed = λ other. served.framed (λ why. other (is ∙ same_fault Fault'.Writing why));
        stops = served.stops;
        reading = λ why. served.reading (same Fault'.Reading (sym is ∙ why));
        writing = λ why. served.writing (same Fault'.Writing (sym is ∙ why));
        frames = λ why. served.frames (same Fault'.Frames (sym is ∙ why));
        answered = λ why kept. served.answered (same Fault'.Frames (sym is ∙ why)) kept;
        so_far = λ why kept. served.so_far (same Fault'.Reading (sym is ∙ why)) kept;
        others = λ why. served.words (same Fault'.Words (sym is ∙ why));
      }
    where
      same : (f : Fault) → Some e ≡ Some f → failed e ≡ failed f
      same f eq = let one : e ≡ f = cc eq in ap failed one

      same_fault : (f : Fault) → failed e ≡ failed f → Some e ≡ Some f
      same_fault f eq = let one : e ≡ f = cc eq in ap (λ (g : Fault). Some g) one
