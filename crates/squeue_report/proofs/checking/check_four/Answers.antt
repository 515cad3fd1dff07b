use Rattle.std.proofs.Common.{◌+◌, ◌*◌, ◌%◌, ◌∙◌}
use Rattle.squeue_report.proofs.CheckValues.{four_more}
use Rattle.squeue_report.proofs.checking.check_four.Goals as goal

pub returns : goal.returns
returns c =
    (λ k. (((c.args.before * 11527715348014283921 % 18446744073709551616 + c.from.ensures k * 624165263380053675 % 18446744073709551616) % 18446744073709551616
    + (c.from-2.ensures k * 956575116354345 % 18446744073709551616 + c.from-3.ensures k * 1099511628211 % 18446744073709551616) % 18446744073709551616) % 18446744073709551616
    + c.from-4.ensures k) % 18446744073709551616)
    ∙ four_more c.args.before c.args.a c.args.b c.args.c c.args.d
