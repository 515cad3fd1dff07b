use Rattle.std.proofs.Common.{◌≡◌, length}
use Rattle.http_pages.specs.Hosts.{is_name_after}
use Rattle.http_pages.proofs.hosts.is_name.Given as goal

abbrev pub invariant-loop-bytes : goal.invariant-loop-bytes
invariant-loop-bytes l = is_name_after l.owed l.bytes ≡ is_name_after 0 l.fn.name

abbrev pub decreases-loop-bytes : goal.decreases-loop-bytes
decreases-loop-bytes l = length l.bytes
