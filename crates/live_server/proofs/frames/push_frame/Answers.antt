use Rattle.std.proofs.Common.{◌++◌, ◌∙◌, ap, length}
use Rattle.std.proofs.Transfers.{starts_with_of_append, starts_with_of_eq, starts_with_trans}
use Rattle.byteorder.specs.Endian.{big_bytes}
use Rattle.live_server.proofs.FrameLemmas.{three_joined}
use Rattle.live_server.proofs.frames.push_frame.Goals as goal

pub returns-clause-sent : goal.returns-clause-sent
returns-clause-sent c =
    three_joined c.args.out.now.items _ _ _ c.extend_from_slice.new.self.items c.extend_from_slice-2.new.self.items _
    (c.in_ok-extend_from_slice.ensures.items ∙ ap (λ l. c.args.out.now.items ++ l) (c.to_be_bytes.ensures ∙ ap (λ b. big_bytes 8 (length b)) c.as_slice-bytes.ensures))
    (c.in_ok-extend_from_slice-2.ensures.items ∙ ap (λ l. c.extend_from_slice.new.self.items ++ l) c.to_be_bytes-2.ensures)
    (c.in_ok-extend_from_slice-3.ensures.items ∙ ap (λ l. c.extend_from_slice-2.new.self.items ++ l) c.as_slice-bytes.ensures)

pub returns-in_err-extend_from_slice-clause-stays : goal.returns-in_err-extend_from_slice-clause-stays
returns-in_err-extend_from_slice-clause-stays c = starts_with_of_eq _ _ c.in_err-extend_from_slice.ensures.items

pub returns-in_err-extend_from_slice-2-clause-stays : goal.returns-in_err-extend_from_slice-2-clause-stays
returns-in_err-extend_from_slice-2-clause-stays c =
    starts_with_of_append _ c.args.out.now.items _ (c.in_err-extend_from_slice-2.ensures.items ∙ c.in_ok-extend_from_slice.ensures.items)

pub returns-in_err-extend_from_slice-3-clause-stays : goal.returns-in_err-extend_from_slice-3-clause-stays
returns-in_err-extend_from_slice-3-clause-stays c =
    starts_with_trans _ c.extend_from_slice.new.self.items c.args.out.now.items
    (starts_with_of_append _ c.extend_from_slice.new.self.items _ (c.in_err-extend_from_slice-3.ensures.items ∙ c.in_ok-extend_from_slice-2.ensures.items))
    (starts_with_of_append _ c.args.out.now.items _ c.in_ok-extend_from_slice.ensures.items)

pub returns-clause-stays : goal.returns-clause-stays
returns-clause-stays c =
    starts_with_trans _ c.extend_from_slice-2.new.self.items c.args.out.now.items
    (starts_with_of_append _ c.extend_from_slice-2.new.self.items _ c.in_ok-extend_from_slice-3.ensures.items)
    (starts_with_trans _ c.extend_from_slice.new.self.items c.args.out.now.items
    (starts_with_of_append _ c.extend_from_slice.new.self.items _ c.in_ok-extend_from_slice-2.ensures.items)
    (starts_with_of_append _ c.args.out.now.items _ c.in_ok-extend_from_slice.ensures.items))
