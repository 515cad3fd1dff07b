-- Serving by a service that keeps something from one pump to the next, with the whole streams beside the block. A connection that is over
-- leaves a new service to the next one.
use Rattle.std.specs.Prelude.{◌≡◌, ℕ, false, List, [], ◌∷◌, ◌++◌, replicate, if◌then◌else◌}
use Rattle.tcb_machine.specs.BlockState.{Block}
use Rattle.tcb_machine.specs.CallAnswers.{tcp_call}
use Rattle.tcb_machine.specs.States.{is_listen}
use Rattle.tcb_machine.specs.TcpStep.{tcp_segment}
use Rattle.echo_services.specs.Serving.{Entry, segment, time, asks, kept}
use Rattle.echo_services.specs.WholeStreams.{Whole, all_offered, whole_enters, whole_new}
use Rattle.page_service.specs.declared.phase.Phase.{Phase}
use Rattle.page_service.specs.declared.phase.Phase.TheVariants.{Reads}
use Rattle.page_service.specs.Protocol.{Protocol, responses}
use Rattle.page_service.specs.Pump.{Open, left_of, pump}

pub record Held (S : Type 0) : Type 0 where
  pub whole : Whole
  pub service : S

-- what a service is: what a pump makes of a block, what it keeps then, and what it is at first
pub record Service (S : Type 0) : Type 0 where
  pub pumps : S → Block → Block
  pub after : S → Block → S
  pub new : S

module _ {S : Type 0} (v : Service S) where
  abbrev pub kept_by : Entry → Block → S → S
  kept_by (segment now iss s text) b x = kept v.after x (tcp_segment now iss s text b)
  kept_by (time to) b x = x
  kept_by (asks call) b x = kept v.after x (tcp_call call b).verdict

  abbrev pub kept_enters : Entry → Held S → Held S
  kept_enters e h =
      let w = whole_enters (v.pumps h.service) e h.whole in
      record { whole = w; service = if is_listen w.block.state then v.new else kept_by e h.whole.block h.service }

  abbrev pub kept_serves : List Entry → Held S → Held S
  kept_serves [] h = h
  kept_serves (e ∷ es) h = kept_serves es (kept_enters e h)

  abbrev pub kept_new : Held S
  kept_new = record { whole = whole_new; service = v.new }

-- times of segments, in the order in which these came: of each as many as there may be
abbrev pub AreTimesOf : List Entry → List ℕ → Type 0
AreTimesOf [] times = times ≡ []
AreTimesOf (segment now iss s text ∷ es) times = (n : ℕ) × (rest : List ℕ) × (times ≡ replicate n now ++ rest) × AreTimesOf es rest
AreTimesOf (time to ∷ es) times = AreTimesOf es times
AreTimesOf (asks call ∷ es) times = AreTimesOf es times

-- that of a protocol
abbrev pub service_of : {A : Type 0} → Protocol A → Service (Phase A)
service_of p = record { pumps = λ w b. (pump p w b).1; after = λ w b. (pump p w b).0; new = Reads }

-- Who serves by a protocol offered the answers to what was taken, in order and each once, each read when a segment came, in their order. While our
-- FIN isn't wanted and another request may follow, what was taken are the requests that were answered, and nothing else
pub record OffersAnswers {A : Type 0} (p : Protocol A) (es : List Entry) (h : Held (Phase A)) : Type 0 where
  pub times : List ℕ
  pub offered : all_offered h.whole ++ left_of p h.service ≡ responses p times h.whole.read
  pub timely : AreTimesOf es times
  pub taken : h.whole.block.fin_wanted ≡ false → Open p times h.whole.read h.service
