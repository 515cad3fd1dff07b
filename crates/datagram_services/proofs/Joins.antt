-- Texts joined one after another.
use Rattle.std.proofs.Common.{append_assoc, append-nil, length-append}
use Rattle.text_digits.proofs.Joins.{more_more}

pub ruleset joins = (more_more, append_assoc, append-nil, length-append)
