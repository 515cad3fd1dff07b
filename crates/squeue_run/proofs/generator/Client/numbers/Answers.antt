use Rattle.std.proofs.Common.{◌≤◌, ◌+◌, ◌%◌, ◌^◌, ◌∙◌, sym, ap, arith}
use Rattle.squeue_run.proofs.GeneratorNumbers.{syn_flags, syn_seq, syn_ack, ack_flags, ack_seq, ack_ack, in_text, text_seq, text_ack, in_fin, fin_seq, fin_ack, in_last, last_seq, last_ack}
use Rattle.squeue_run.proofs.generator.Client.numbers.Goals as goal

pub returns-in-0-clause-flags : goal.returns-in-0-clause-flags
returns-in-0-clause-flags c n d = syn_flags n c.args.round d c.in-0.is

pub returns-in-0-clause-seq : goal.returns-in-0-clause-seq
returns-in-0-clause-seq c n d e = syn_seq n c.args.round d _ c.in-0.is e

pub returns-in-0-clause-ack : goal.returns-in-0-clause-ack
returns-in-0-clause-ack c n d e = syn_ack n c.args.round d c.in-0.is

pub returns-in-1-clause-flags : goal.returns-in-1-clause-flags
returns-in-1-clause-flags c n d = ack_flags n c.args.round d c.in-1.is

pub returns-in-1-clause-seq : goal.returns-in-1-clause-seq
returns-in-1-clause-seq c n d e = c.seq.ensures ∙ ack_seq n c.args.round d c.args.self.now c.in-1.is e

pub returns-in-1-clause-ack : goal.returns-in-1-clause-ack
returns-in-1-clause-ack c n d e = c.ack.ensures ∙ ack_ack n c.args.round d c.args.self.now c.in-1.is e

pub returns-in-98-clause-flags : goal.returns-in-98-clause-flags
returns-in-98-clause-flags c n d = sym (ap (λ r. r.flags) (in_fin n c.args.round d c.in-98.is))

pub returns-in-98-clause-seq : goal.returns-in-98-clause-seq
returns-in-98-clause-seq c n d e = c.seq-in-98.ensures ∙ fin_seq n c.args.round d c.args.self.now c.in-98.is e

pub returns-in-98-clause-ack : goal.returns-in-98-clause-ack
returns-in-98-clause-ack c n d e = c.ack-in-98.ensures ∙ fin_ack n c.args.round d c.args.self.now c.in-98.is e

pub returns-in-2-to-97-clause-flags : goal.returns-in-2-to-97-clause-flags
returns-in-2-to-97-clause-flags c n d =
    let low : 2 ≤ c.args.round = omega arith in
    let high : c.args.round ≤ 97 = omega arith in
    sym (ap (λ r. r.flags) (in_text n c.args.round d low high))

pub returns-in-2-to-97-clause-seq : goal.returns-in-2-to-97-clause-seq
returns-in-2-to-97-clause-seq c n d e =
    let low : 2 ≤ c.args.round = omega arith in
    let high : c.args.round ≤ 97 = omega arith in
    c.seq-in-2-to-97.ensures ∙ text_seq n c.args.round d c.args.self.now low high e

pub returns-in-2-to-97-clause-ack : goal.returns-in-2-to-97-clause-ack
returns-in-2-to-97-clause-ack c n d e =
    let low : 2 ≤ c.args.round = omega arith in
    let high : c.args.round ≤ 97 = omega arith in
    c.ack-in-2-to-97.ensures ∙ text_ack n c.args.round d c.args.self.now low high e

pub returns-in_default-clause-flags : goal.returns-in_default-clause-flags
returns-in_default-clause-flags c n d =
    let low : 99 ≤ c.args.round = omega arith in
    sym (ap (λ r. r.flags) (in_last n c.args.round d low))

pub returns-in_default-clause-seq : goal.returns-in_default-clause-seq
returns-in_default-clause-seq c n d e =
    let low : 99 ≤ c.args.round = omega arith in
    ap (λ s. (s + 1) % 2 ^ 32) c.seq-in_default.ensures ∙ last_seq n c.args.round d c.args.self.now low e

pub returns-in_default-clause-ack : goal.returns-in_default-clause-ack
returns-in_default-clause-ack c n d e =
    let low : 99 ≤ c.args.round = omega arith in
    ap (λ s. (s + 1) % 2 ^ 32) c.ack-in_default.ensures ∙ last_ack n c.args.round d c.args.self.now low e
