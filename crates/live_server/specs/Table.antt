-- The table of connections: the two ends of each, with what is known of it.
use Rattle.std.specs.Prelude.{◌≡◌, ℕ, ◌+◌, ◌-◌, ◌^◌, min, ◌==◌, ◌&&◌, not, [], ◌∷◌, ◌++◌, take, drop, Bool, List, map, filter}
use Rattle.std.specs.Prelude.{position, slice_get, swap_remove, Option, None, if◌then◌else◌}
use Rattle.std.specs.Map.{keys_of, lookup}
use Rattle.std.specs.Option.{option_map_or}
use Rattle.sq_base.specs.declared.kinds.Tuple.{Tuple}
use Rattle.tcb_machine.specs.BlockState.{held_in}
use Rattle.live_server.specs.Acts.{emptied, is_over, no_conn, ticked}
use Rattle.indexmap.specs.IndexMap.{set_value_at}
use Rattle.live_server.specs.declared.conn.Conn.{Conn}
use Rattle.live_server.specs.declared.measures.Measures.{Measures}

abbrev pub Conns : Type 0
Conns = List (Tuple × Conn)

abbrev pub tuple_eq : Tuple → Tuple → Bool
tuple_eq a b = (a.client.0 == b.client.0) && ((a.client_port == b.client_port) && ((a.server.0 == b.server.0) && (a.server_port == b.server_port)))

-- the place of a connection
abbrev pub place_of : Tuple → Conns → Option ℕ
place_of t cs = position (tuple_eq t) (keys_of cs)

-- the connection at a place
abbrev pub conn_at : ℕ → Conns → Conn
conn_at place cs = option_map_or (λ c. c.1) (slice_get cs place) no_conn

-- a connection that has none
abbrev pub IsNew : Tuple → Conns → Type 0
IsNew t cs = lookup (tuple_eq t) cs ≡ None

-- the table without the connection at a place, which the last one takes
unfoldable pub without : ℕ → Conns → Conns
without place cs = option_map_or (λ c. swap_remove cs place c) (slice_get cs place) cs

-- the connection at a place leaves where it is over
unfoldable pub settled : ℕ → Conns → Conns
settled place cs = if is_over (conn_at place cs) then without place cs else cs

-- the connection at a place becomes another one, what it sent taken out, and leaves where it is over
unfoldable pub replaced : ℕ → Conn → Conns → Conns
replaced place c cs = settled place (set_value_at cs place (emptied c))

-- the time comes to each at a tick
abbrev pub all_reached : Measures → ℕ → Conns → Conns
all_reached m now cs = map (λ c. (c.0, emptied (ticked m now c.1))) cs

-- and to the first so many
abbrev pub reached_until : Measures → ℕ → ℕ → Conns → Conns
reached_until m now i cs = all_reached m now (take i cs) ++ drop i cs

-- those that are over leave
unfoldable pub without_over : Conns → Conns
without_over cs = filter (λ c. not (is_over c.1)) cs

-- how many bytes all hold, as far as 64 bits can say
abbrev pub total_of : Conns → ℕ
total_of [] = 0
total_of (c ∷ cs) = held_in c.1.tcb + total_of cs

abbrev pub held_by : Conns → ℕ
held_by cs = min (2 ^ 64 - 1) (total_of cs)
