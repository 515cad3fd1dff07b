-- How a run by rings is set up.
use Rattle.std.specs.Prelude.{◌≤◌, [], false}
use Rattle.live_server.specs.Serving.{ServerOf}
use Rattle.live_server.specs.Counting.{no_counts}
use Rattle.live_server.specs.declared.crowding.TurnedAway.TheVariants.{Nobody}
use Rattle.live_rings.specs.declared.words.Layout.{Layout}

-- a server of a stream to which nothing came
abbrev pub server_of : Layout → ServerOf
server_of s = record { conns = []; waiting = []; held = 0; pings = 0; told = false; turned = Nobody; draining = false; setting = s.setting; secret = s.secret.0; counts = no_counts }

-- there are squeues, and an owner processes something
pub record IsInRange (s : Layout) : Type 0 where
  pub squeues : 1 ≤ s.squeues
  pub budget : 1 ≤ s.budget
