-- What a visit has found and left, and what a look has seen.
use Rattle.std.specs.Prelude.{List}
use Rattle.perimeter_core.specs.declared.resident.Resident.{Ghosts}
use Rattle.perimeter_core.specs.History.{Element}
use Rattle.perimeter_core.specs.Blocks.{peri}
use Rattle.squeue_state.specs.Naming.{Named, setting_of}
use Rattle.squeue_state.specs.Behind.{IsPeri}

-- What was done, as Does tells it, was done to one of the squeue's residents, which stood for what the history H did and stands
-- for it still
pub record HasVisited {R P O A : Type 0} (G : Ghosts R P O) (s : Named R) (Does : R → R → A → Type 0) (H : List Element) (seen : A) : Type 0 where
  pub found : R
  pub left : R
  pub stood : IsPeri G s.given found (peri (setting_of G.limits s.given) H)
  pub stands : IsPeri G s.given left (peri (setting_of G.limits s.given) H)
  pub does : Does found left seen

-- What was seen, as Says tells it, is of one of the squeue's residents, which stands for what the history H did
pub record HasSeen {R P O A : Type 0} (G : Ghosts R P O) (s : Named R) (Says : R → A → Type 0) (H : List Element) (seen : A) : Type 0 where
  pub resident : R
  pub stands : IsPeri G s.given resident (peri (setting_of G.limits s.given) H)
  pub says : Says resident seen
