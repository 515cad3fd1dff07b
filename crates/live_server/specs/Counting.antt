-- What is counted.
use Rattle.std.specs.Prelude.{ℕ, ◌+◌, ◌%◌, ◌^◌}
use Rattle.icmp_codec.specs.declared.unreachable.Cause.{Cause}
use Rattle.icmp_codec.specs.declared.unreachable.Cause.TheVariants.{Away, Parameter, Port, Prohibited, TimeExceeded}
use Rattle.live_server.specs.declared.conn.Judged.{Judged}
use Rattle.live_server.specs.declared.conn.Judged.TheVariants.{Challenged, Late, Taken, Unanswered}
use Rattle.live_server.specs.declared.counts.Counts.{Counts}

abbrev pub no_counts : Counts
no_counts = record {
  passed_over = 0;
  pinged = 0;
  astray = 0;
  refused = 0;
  opened = 0;
  turned_away = 0;
  gave_way = 0;
  left = 0;
  challenges = 0;
  unanswered = 0;
  late = 0;
  over_full = 0;
  shortened = 0;
  unreachable = 0;
  port_unreachable = 0;
  prohibited = 0;
  time_exceeded = 0;
  parameter_problem = 0;
  unreached = 0;
  urgent = 0;
}

-- so many more, modulo 2^64
abbrev pub more : ℕ → ℕ → ℕ
more k n = (n + k) % 2 ^ 64

abbrev pub counting_judged : Judged → Counts → Counts
counting_judged Taken n = n
counting_judged Challenged n = record n { challenges = more 1 n.challenges }
counting_judged Unanswered n = record n { unanswered = more 1 n.unanswered }
counting_judged Late n = record n { late = more 1 n.late }

-- a segment that didn't arrive, by its cause (RFC 1122, 3.2.2)
abbrev pub counting_cause : Cause → Counts → Counts
counting_cause Away n = record n { unreachable = more 1 n.unreachable }
counting_cause Port n = record n { port_unreachable = more 1 n.port_unreachable }
counting_cause Prohibited n = record n { prohibited = more 1 n.prohibited }
counting_cause TimeExceeded n = record n { time_exceeded = more 1 n.time_exceeded }
counting_cause Parameter n = record n { parameter_problem = more 1 n.parameter_problem }
