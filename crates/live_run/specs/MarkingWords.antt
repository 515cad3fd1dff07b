-- The words that set TTL and DSCP: `--ttl N` and `--dscp N`, in this order.
use Rattle.std.specs.Prelude.{ℕ, List, [], ◌∷◌, Option, Some, if◌then◌else◌, codes, option_map, option_and_then}
use Rattle.std.specs.Str.{bytes_eq}
use Rattle.shell.specs.Numbers.{number_between}
use Rattle.shell.specs.Table.{Text}
use Rattle.live_server.specs.declared.marking.Marking.{Marking}

-- the number behind a word that stands first, in a range, and the words behind it; without the word the usual number
abbrev pub number_in : Text → ℕ → ℕ → ℕ → List Text → Option (ℕ × List Text)
number_in word least most usual [] = Some (usual, [])
number_in word least most usual (a ∷ []) = Some (usual, a ∷ [])
number_in word least most usual (a ∷ number ∷ rest) =
    if bytes_eq a word then option_map (λ n. (n, rest)) (number_between least most number) else Some (usual, a ∷ number ∷ rest)

-- TTL from 1 to 255, and 64 without the word; DSCP from 0 to 63, and 0 without it
abbrev pub marking_in : List Text → Option (Marking × List Text)
marking_in words =
    option_and_then (λ t. option_map (λ d. (record { ttl = t.0; dscp = d.0 }, d.1)) (number_in (codes "--dscp") 0 63 0 t.1)) (number_in (codes "--ttl") 1 255 64 words)
