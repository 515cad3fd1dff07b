-- The words of the command line, and what they ask for.
use Rattle.std.specs.Prelude.{ℕ, ◌≤◌, ◌+◌, ◌-◌, ◌*◌, ◌&&◌, nat_le, Bool, List, [], ◌∷◌, length, take, Option, Some, None}
use Rattle.std.specs.Prelude.{if◌then◌else◌, codes, option_map, option_and_then}
use Rattle.std.specs.Str.{bytes_eq}
use Rattle.histories.specs.declared.mode.Mode.{Mode}
use Rattle.histories.specs.ModeWords.{mode_of}
use Rattle.live_server.specs.declared.initial.Secret.{Secret}
use Rattle.live_run.specs.declared.words.Medium.{Medium as Ends}
use Rattle.live_run.specs.declared.words.Medium.TheVariants.{Device, Frames}
use Rattle.live_run.specs.declared.words.ServerWords.{ServerWords}
use Rattle.live_run.specs.Words.{asked as server_asked}
use Rattle.shell.specs.Numbers.{numeral}
use Rattle.shell.specs.Table.{Text}
use Rattle.live_rings.specs.declared.words.RingWords.{RingWords}

-- so many rings and squeues there may be
abbrev pub most_rings : ℕ
most_rings = 63

-- what is asked for is in these bounds
pub record AreFew (w : RingWords) : Type 0 where
  pub rings : w.rings ≤ most_rings
  pub squeues : 1 ≤ w.squeues
  pub budget : 1 ≤ w.budget

abbrev pub secret_in : Ends → Option Secret
secret_in (Frames secret) = Some secret
secret_in Device = None

-- what the words of the servers ask for, behind which the files' names stand
abbrev pub with_servers : ℕ → ℕ → Mode → ℕ → ServerWords → RingWords
with_servers rings squeues mode budget w =
    record { rings = rings; squeues = squeues; mode = mode; budget = budget; setting = w.setting; secret = secret_in w.mode }

-- there is a ring, a squeue, and something that an owner processes, and not too many
abbrev pub are_in_range : ℕ → ℕ → ℕ → Bool
are_in_range rings squeues budget =
    nat_le 1 rings && nat_le rings most_rings && nat_le 1 squeues && nat_le squeues most_rings && nat_le 1 budget

-- the words of the servers, and two files for each ring behind them
abbrev pub asked_behind : ℕ → ℕ → Mode → ℕ → List Text → Option (RingWords × ℕ)
asked_behind rings squeues mode budget rest =
    if are_in_range rings squeues budget && nat_le (2 * rings) (length rest)
    then option_map (λ w. (with_servers rings squeues mode budget w, 8 + (length rest - 2 * rings))) (server_asked (take (length rest - 2 * rings) rest))
    else None

abbrev pub asked_by : Option ℕ → Option ℕ → Option Mode → Option ℕ → List Text → Option (RingWords × ℕ)
asked_by rings squeues mode budget rest =
    option_and_then (λ n. option_and_then (λ q. option_and_then (λ m. option_and_then (λ b. asked_behind n q m b rest) budget) mode) squeues) rings

-- --rings N --squeues M --mode MODE --budget N, the words of the servers, and two files for each ring; and how many words stand before these
abbrev pub asked : List Text → Option (RingWords × ℕ)
asked (a ∷ rings ∷ b ∷ squeues ∷ c ∷ mode ∷ d ∷ budget ∷ rest) =
    if bytes_eq a (codes "--rings") && bytes_eq b (codes "--squeues") && bytes_eq c (codes "--mode") && bytes_eq d (codes "--budget")
    then asked_by (numeral rings) (numeral squeues) (mode_of mode) (numeral budget) rest
    else None
asked [] = None
asked (_ ∷ []) = None
asked (_ ∷ _ ∷ []) = None
asked (_ ∷ _ ∷ _ ∷ []) = None
asked (_ ∷ _ ∷ _ ∷ _ ∷ []) = None
asked (_ ∷ _ ∷ _ ∷ _ ∷ _ ∷ []) = None
asked (_ ∷ _ ∷ _ ∷ _ ∷ _ ∷ _ ∷ []) = None
asked (_ ∷ _ ∷ _ ∷ _ ∷ _ ∷ _ ∷ _ ∷ []) = None
