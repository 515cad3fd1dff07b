-- What the calls answer, and which server a handle has then.
use Rattle.std.specs.Prelude.{◌≡◌, ◌⊎◌, ℕ, List, [], length, None, Some, IsSomeAnd, MatchOption, option_map}
use Rattle.std.specs.Option.{option_map_or}
use Rattle.live_server.specs.declared.setting.Setting.{Setting}
use Rattle.sqtcp_engine.specs.Engines.{Engined, first_bytes, new_engine, without_first}
use Rattle.sqtcp_c.specs.declared.handle.Sqtcp.{Sqtcp}

abbrev pub done : ℕ
done = 0

abbrev pub no_memory : ℕ
no_memory = 1

abbrev pub refused : ℕ
refused = 2

abbrev pub closed : ℕ
closed = 3

-- the longest datagram (RFC 791, 3.1: a total length of 16 bits)
abbrev pub most_bytes : ℕ
most_bytes = 65535

-- it has none
abbrev pub IsClosed : Sqtcp → Type 0
IsClosed s = s.held.value ≡ None

-- it has the same one, or none as before
abbrev pub Stays : Sqtcp → Sqtcp → Type 0
Stays old now = now.held.value ≡ old.held.value

abbrev pub Refuses : ℕ → Sqtcp → Sqtcp → Type 0
Refuses answer old now = (answer ≡ refused) × Stays old now

-- an open server: it is as the call makes it; or memory was missing, and it is as that leaves it
abbrev pub Serves : Engined → (Engined → Type 0) → ℕ → Sqtcp → Type 0
Serves made costs answer now = ((answer ≡ done) × (now.held.value ≡ Some made)) ⊎ ((answer ≡ no_memory) × IsSomeAnd now.held.value costs)

-- a call that only an open server takes
abbrev pub Takes : (Engined → Engined) → (Engined → Engined → Type 0) → ℕ → Sqtcp → Sqtcp → Type 0
Takes makes costs answer old now = MatchOption old.held.value ((answer ≡ closed) × IsClosed now) (λ e. Serves (makes e) (costs e) answer now)

-- where none is open: it has a new one, with nothing to send; or memory was missing, and it has none
abbrev pub Begins : Setting → List ℕ → ℕ → Sqtcp → Type 0
Begins setting secret answer now = ((answer ≡ done) × (now.held.value ≡ Some (new_engine setting secret))) ⊎ ((answer ≡ no_memory) × IsClosed now)

-- an open one stays
abbrev pub Opens : Setting → List ℕ → ℕ → Sqtcp → Sqtcp → Type 0
Opens setting secret answer old now = MatchOption old.held.value (Begins setting secret answer now) (λ e. Refuses answer old now)

-- the next datagram that is to be sent, or nothing
abbrev pub next_bytes : Sqtcp → List ℕ
next_bytes s = option_map_or (λ e. first_bytes e.queue) s.held.value []

-- it was the next one, and no longer waits
abbrev pub Passes : Sqtcp → Sqtcp → Type 0
Passes old now = now.held.value ≡ option_map without_first old.held.value

-- how many connections it has; a closed one has none
abbrev pub count_of : Sqtcp → ℕ
count_of s = option_map_or (λ e. length e.server.conns) s.held.value 0
