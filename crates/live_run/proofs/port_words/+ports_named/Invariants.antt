use Rattle.live_run.proofs.port_words.+ports_named.Given as goal

abbrev pub decreases-ports_named : goal.decreases-ports_named
decreases-ports_named l = l.more
