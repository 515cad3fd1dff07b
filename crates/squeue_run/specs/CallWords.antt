-- The CALLs by thread, and whether their connections are there.
use Rattle.std.specs.Prelude.{◌≡◌, ℕ, ◌<◌, ◌≤◌, ◌==◌, List, [], ◌∷◌, map, filter, ◌⊎◌}
use Rattle.conn_blocks.specs.CallLists.{CallLists}
use Rattle.squeue_run.specs.declared.calls.CallWord.{CallWord}

-- the calls of thread j: connection, and what is asked
abbrev pub lists_of : List CallWord → CallLists
lists_of ws =
    map (λ w. (w.connection, w.call)) (filter (λ w. w.thread == 0) ws)
    ∷ map (λ w. (w.connection, w.call)) (filter (λ w. w.thread == 1) ws)
    ∷ map (λ w. (w.connection, w.call)) (filter (λ w. w.thread == 2) ws)
    ∷ map (λ w. (w.connection, w.call)) (filter (λ w. w.thread == 3) ws)
    ∷ []

-- all CALLs name connections of this many
abbrev pub AllThere : ℕ → List CallWord → Type 0
AllThere n [] = Unit {0}
AllThere n (w ∷ ws) = (w.connection < n) × AllThere n ws

-- c is the connection of the first CALL, in word order, that names none of this many
abbrev pub IsFirstMissing : ℕ → ℕ → List CallWord → Type 0
IsFirstMissing n c [] = ⊥
IsFirstMissing n c (w ∷ ws) = ((n ≤ w.connection) × (c ≡ w.connection)) ⊎ ((w.connection < n) × IsFirstMissing n c ws)
