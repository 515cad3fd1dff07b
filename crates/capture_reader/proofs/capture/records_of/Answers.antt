use Rattle.std.proofs.Common.{rules, arith, ◌≡◌, ◌+◌, ◌≤◌, length, drop, ℕ, ◌++◌, ◌∷◌, [], subst, sym, refl}
use Rattle.capture_reader.specs.CaptureFile.{named_length}
use Rattle.capture_reader.specs.Limits.{longest_body}
use Rattle.capture_reader.specs.SoFar.{ReadsTo}
use Rattle.capture_reader.specs.declared.capture.Record.{Record}
use Rattle.capture_reader.proofs.Pieces.{reads_more}
use Rattle.capture_reader.proofs.capture.records_of.Goals as goal

pub loop-rest-preserved : goal.loop-rest-preserved
loop-rest-preserved c =
    let bytes = c.args.bytes.now in
    let form = c.args.form in
    let at = c.loop-rest.at in
    let old = c.loop-rest.records.items in
    let len = c.u32_at-len.result in
    let r : Record = record { at = c.time_of.result; from = at + 16; len = len } in
    let e : len ≡ named_length form (drop at bytes) = search rules in
    let items : c.push.new.self.items ≡ old ++ r ∷ [] = search rules in
    let header : 16 ≤ length (drop at bytes) = search rules in
    let most : named_length form (drop at bytes) ≤ longest_body = subst (λ (n : ℕ). n ≤ longest_body) e (omega arith) in
    let whole : 16 + named_length form (drop at bytes) ≤ length (drop at bytes) = subst (λ (n : ℕ). 16 + n ≤ length (drop at bytes)) e (search rules) in
    let more : ReadsTo form bytes (at + (16 + named_length form (drop at bytes))) (old ++ r ∷ []) =
    reads_more form bytes at old r c.loop-rest.invariant.read header most whole (search rules) refl e c.time_of.ensures.small in
    record {
      few = search rules;
      read = subst (λ (n : ℕ). ReadsTo form bytes (at + (16 + n)) c.push.new.self.items) (sym e)
          (subst (ReadsTo form bytes (at + (16 + named_length form (drop at bytes)))) (sym items) more);
    }
