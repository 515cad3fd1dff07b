-- The first CALL without a connection, looked for from the front.
use Rattle.std.proofs.Common.{ℕ, ◌<◌, List, ◌∷◌, inr}
use Rattle.squeue_run.specs.CallWords.{AllThere, IsFirstMissing}
use Rattle.squeue_run.specs.declared.calls.CallWord.{CallWord}

-- what is left decides for the whole
pub record Decides (n : ℕ) (whole rest : List CallWord) : Type 0 where
  pub there : AllThere n rest → AllThere n whole
  pub missing : (c : ℕ) → IsFirstMissing n c rest → IsFirstMissing n c whole

pub goes_on : (n : ℕ) (whole more : List CallWord) (w : CallWord) → Decides n whole (w ∷ more) → w.connection < n → Decides n whole more
goes_on n whole more w d lt = record { there = λ h. d.there (lt, h); missing = λ c h. d.missing c (inr (lt, h)) }
