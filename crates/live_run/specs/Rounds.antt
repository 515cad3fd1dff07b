-- What becomes of a server on a device with each datagram that is read.
use Rattle.std.specs.Prelude.{◌≡◌, ℕ, ◌+◌, ◌-◌, ◌*◌, ◌<◌, min, ◌⊎◌, nat_le, true, List, [], ◌∷◌, length, take, if◌then◌else◌}
use Rattle.std.specs.Io.KnownBytes.{Appends}
use Rattle.std.specs.List.{concat}
use Rattle.sq_base.specs.Ends.{End, Rose}
use Rattle.live_server.specs.Isolation.{CostsOf, KeepsRest, LosesOne}
use Rattle.live_server.specs.declared.acting.Datagram.{Datagram}
use Rattle.live_server.specs.Serving.{Outcome, ServerOf, on_datagram, on_time, sends_nothing, then_sends}

-- so many microseconds pass at least between two times at which all deadlines are looked at
abbrev pub tick_interval : ℕ
tick_interval = 20000

-- what is told of the time, behind what was told at the last look at the clock: no more than twice what has passed since, of which a tenth of
-- a second counts at most. So after a pause the time runs twice as fast, until it has caught up
abbrev pub told_after : ℕ → ℕ → ℕ → ℕ
told_after told looked time = min time (told + 2 * min 100000 (time - looked))

-- when the time last came to all
abbrev pub ticked_by : ℕ → ℕ → ℕ
ticked_by now ticked = if nat_le tick_interval (now - ticked) then now else ticked

abbrev pub timed : ℕ → ℕ → ServerOf → Outcome
timed now ticked sv = if nat_le tick_interval (now - ticked) then on_time now sv else sends_nothing sv

-- the time comes to all, where it is due, and then the datagram
abbrev pub round : ℕ → ℕ → List ℕ → ServerOf → Outcome
round now ticked body sv = then_sends (timed now ticked sv) (on_datagram now body)

-- Where memory was missing: as the time came to all, and then only the connections changed; or behind it, and then what it cost and what
-- stays are what the datagram costs and leaves
abbrev pub LosesAtRound : ℕ → ℕ → List ℕ → ServerOf → ServerOf → Type 0
LosesAtRound now ticked body before after =
    ((nat_le tick_interval (now - ticked) ≡ true) × LosesOne now before after × (after ≡ record before { conns = after.conns }))
    ⊎ (CostsOf body (timed now ticked before).server after × KeepsRest (length body) (timed now ticked before).server after)

-- a front of it, which isn't all; or nothing, and a write failed
abbrev pub IsCut : Type 0 → List ℕ → List ℕ → Type 0
IsCut failed part whole = ((n : ℕ) × (0 < n) × (n < length whole) × (part ≡ take n whole)) ⊎ ((part ≡ []) × failed)

-- each datagram is written whole, but for so many, which are cut
abbrev pub AreWritten : Type 0 → List (List ℕ) → List Datagram → ℕ → Type 0
AreWritten failed [] [] lost = lost ≡ 0
AreWritten failed [] (d ∷ ds) lost = ⊥
AreWritten failed (p ∷ ps) [] lost = ⊥
AreWritten failed (p ∷ ps) (d ∷ ds) lost =
    ((p ≡ d.bytes) × AreWritten failed ps ds lost)
    ⊎ (IsCut failed p d.bytes × (others : ℕ) × (lost ≡ others + 1) × AreWritten failed ps ds others)

abbrev pub WritesEach : End → List Datagram → ℕ → Type 0
WritesEach device sent lost = (parts : List (List ℕ)) × AreWritten (Rose device.faults_were device.faults_are) parts sent lost × Appends device.was device.is (concat parts)
