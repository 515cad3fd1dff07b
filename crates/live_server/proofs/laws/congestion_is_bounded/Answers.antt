use Rattle.live_server.proofs.PathLemmas.{restart_wide}
use Rattle.live_server.proofs.PromiseLemmas.{first_wide, segment_wide, shown_narrow, silence_narrow, timeout_wide}
use Rattle.live_server.proofs.laws.congestion_is_bounded.Goals as goal

pub returns-clause-first : goal.returns-clause-first
returns-clause-first c = first_wide

pub returns-clause-segment : goal.returns-clause-segment
returns-clause-segment c = segment_wide

pub returns-clause-timeout : goal.returns-clause-timeout
returns-clause-timeout c = timeout_wide

pub returns-clause-restart : goal.returns-clause-restart
returns-clause-restart c = restart_wide

pub returns-clause-shown : goal.returns-clause-shown
returns-clause-shown c = shown_narrow

pub returns-clause-silence : goal.returns-clause-silence
returns-clause-silence c = silence_narrow
