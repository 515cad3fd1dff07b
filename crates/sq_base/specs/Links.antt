-- The link types of captures that are read (libpcap's link types).
use Rattle.std.specs.Prelude.{ℕ, ◌==◌, Option, None, Some, if◌then◌else◌}
use Rattle.sq_base.specs.declared.kinds.Link.{Link}
use Rattle.sq_base.specs.declared.kinds.Link.TheVariants.{Ethernet, RawIp, Cooked}

-- the whole number of 32 bits counts
abbrev pub link_of : ℕ → Option Link
link_of n =
    if n == 1 then Some Ethernet
    else if n == 101 then Some RawIp
    else if n == 113 then Some Cooked
    else None
