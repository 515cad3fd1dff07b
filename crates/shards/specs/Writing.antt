-- Bytes of several rings, written behind one another.
use Rattle.std.specs.Prelude.{◌≡◌, ◌⊎◌, ℕ, List, [], ◌∷◌, Vec}
use Rattle.std.specs.List.{AllByRecursion, flat_map}
use Rattle.std.proofs.Common.{Global}
use Rattle.shards.specs.declared.written.Written.{Written}

abbrev pub bytes_of : Written → List ℕ
bytes_of w = w.out.items

-- what was written of a parcel: all of it, where it went back empty
abbrev pub kept : List ℕ → List ℕ → List ℕ
kept came [] = came
kept came (x ∷ went) = []

-- all that was written stands there in order, and each parcel went back empty or as it came
pub record IsWritten (log : List (ℕ × (Vec ℕ Global × Vec ℕ Global))) (w : Written) : Type 0 where
  pub bytes : bytes_of w ≡ flat_map (λ (e : ℕ × (Vec ℕ Global × Vec ℕ Global)). kept e.1.0.items e.1.1.items) log
  pub whole : AllByRecursion (λ (e : ℕ × (Vec ℕ Global × Vec ℕ Global)). (e.1.1.items ≡ []) ⊎ (e.1.1.items ≡ e.1.0.items)) log
