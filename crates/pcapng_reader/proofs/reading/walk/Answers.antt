use Rattle.std.proofs.Common.{rules, arith, ◌≡◌, ◌≤◌, ◌<◌, ◌⊎◌, ◌∙◌, sym, ap, subst, length, drop, take, ℕ, List, Some, Ok, Err}
use Rattle.std.proofs.lemmas.Result.{err_from_is_err_and}
use Rattle.pcapng_reader.specs.declared.fault.PcapngFault.TheVariants as fault
use Rattle.pcapng_reader.specs.Frame.{framed}
use Rattle.pcapng_reader.specs.Blocks.{content_says}
use Rattle.pcapng_reader.specs.SoFar.{state_of}
use Rattle.pcapng_reader.proofs.Frames.{framed_fits}
use Rattle.pcapng_reader.proofs.Steps.{frame_fails, content_fails, block_whole, block_some, block_within, block_kept, reaches_on}
use Rattle.pcapng_reader.proofs.reading.walk.Goals as goal

pub returns-in_err-frame : goal.returns-in_err-frame
returns-in_err-frame c =
    let bytes = c.args.bytes.now in
    let s = state_of c.loop-rest.reading in
    let p = err_from_is_err_and c.from_residual.result c.from_residual.ensures.1 in
    let f = c.in_err-frame.field-0.0 in
    let some : 0 < length (drop s.at bytes) = search rules in
    let told : framed s.order s.blocks (drop s.at bytes) ≡ Err f = search rules in
    rw (p.1, p.2) (frame_fails bytes s some c.loop-rest.invariant.reaches f told)

pub split_at-requires : goal.split_at-requires
split_at-requires c =
    let bytes = c.args.bytes.now in
    let s = state_of c.loop-rest.reading in
    let told : framed s.order s.blocks (drop s.at bytes) ≡ Ok (Some c.in-Some.frame) = search rules in
    let fits = framed_fits s.order s.blocks (drop s.at bytes) c.in-Some.frame told in
    subst (λ (xs : List ℕ). c.in-Some.frame.total ≤ length xs) (sym c.rest_at-rest.ensures) fits.within

pub content-requires-clause-whole : goal.content-requires-clause-whole
content-requires-clause-whole c =
    let bytes = c.args.bytes.now in
    let s = state_of c.loop-rest.reading in
    let told : framed s.order s.blocks (drop s.at bytes) ≡ Ok (Some c.in-Some.frame) = search rules in
    let front : c.split_at.result.0.now ≡ take c.in-Some.frame.total (drop s.at bytes) = c.split_at.ensures.front ∙ ap (take c.in-Some.frame.total) c.rest_at-rest.ensures in
    let some : 0 < length (drop s.at bytes) = search rules in
    block_whole bytes s some c.loop-rest.invariant.reaches c.in-Some.frame c.split_at.result.0.now told front

pub returns-in_err-content : goal.returns-in_err-content
returns-in_err-content c =
    let bytes = c.args.bytes.now in
    let s = state_of c.loop-rest.reading in
    let block = c.split_at.result.0.now in
    let p = err_from_is_err_and c.from_residual-in_err-content.result c.from_residual-in_err-content.ensures.1 in
    let f = c.in_err-content.field-0.0 in
    let told : framed s.order s.blocks (drop s.at bytes) ≡ Ok (Some c.in-Some.frame) = search rules in
    let front : block ≡ take c.in-Some.frame.total (drop s.at bytes) = c.split_at.ensures.front ∙ ap (take c.in-Some.frame.total) c.rest_at-rest.ensures in
    let some : 0 < length (drop s.at bytes) = search rules in
    let says : (f ≡ fault.NoMemory) ⊎ (content_says s c.in-Some.frame block ≡ Err f) = search rules in
    rw (p.1, p.2) (content_fails bytes s some c.loop-rest.invariant.reaches c.in-Some.frame block told front f says)

pub overflow_add-reading : goal.overflow_add-reading
overflow_add-reading c =
    let bytes = c.args.bytes.now in
    let s = state_of c.loop-rest.reading in
    let new = state_of c.content.new.self in
    let block = c.split_at.result.0.now in
    let told : framed s.order s.blocks (drop s.at bytes) ≡ Ok (Some c.in-Some.frame) = search rules in
    let front : block ≡ take c.in-Some.frame.total (drop s.at bytes) = c.split_at.ensures.front ∙ ap (take c.in-Some.frame.total) c.rest_at-rest.ensures in
    let some : 0 < length (drop s.at bytes) = search rules in
    let says : content_says s c.in-Some.frame block ≡ Ok new = search rules in
    let kept = block_kept bytes s some c.loop-rest.invariant.reaches c.in-Some.frame block told front c.loop-rest.invariant.within c.loop-rest.invariant.records new says in
    omega (arith, kept.blocks, c.loop-rest.invariant.few, c.loop-rest.invariant.within, c.requires)

pub overflow_add-reading-in-loop-rest : goal.overflow_add-reading-in-loop-rest
overflow_add-reading-in-loop-rest c =
    let bytes = c.args.bytes.now in
    let s = state_of c.loop-rest.reading in
    let new = state_of c.content.new.self in
    let block = c.split_at.result.0.now in
    let told : framed s.order s.blocks (drop s.at bytes) ≡ Ok (Some c.in-Some.frame) = search rules in
    let front : block ≡ take c.in-Some.frame.total (drop s.at bytes) = c.split_at.ensures.front ∙ ap (take c.in-Some.frame.total) c.rest_at-rest.ensures in
    let some : 0 < length (drop s.at bytes) = search rules in
    let says : content_says s c.in-Some.frame block ≡ Ok new = search rules in
    let kept = block_kept bytes s some c.loop-rest.invariant.reaches c.in-Some.frame block told front c.loop-rest.invariant.within c.loop-rest.invariant.records new says in
    let inside = block_within bytes s some c.loop-rest.invariant.reaches c.in-Some.frame block told front c.loop-rest.invariant.within in
    omega (arith, kept.at, inside, c.requires)

pub loop-rest-smaller : goal.loop-rest-smaller
loop-rest-smaller c =
    let bytes = c.args.bytes.now in
    let s = state_of c.loop-rest.reading in
    let new = state_of c.content.new.self in
    let block = c.split_at.result.0.now in
    let told : framed s.order s.blocks (drop s.at bytes) ≡ Ok (Some c.in-Some.frame) = search rules in
    let front : block ≡ take c.in-Some.frame.total (drop s.at bytes) = c.split_at.ensures.front ∙ ap (take c.in-Some.frame.total) c.rest_at-rest.ensures in
    let some : 0 < length (drop s.at bytes) = search rules in
    let says : content_says s c.in-Some.frame block ≡ Ok new = search rules in
    let kept = block_kept bytes s some c.loop-rest.invariant.reaches c.in-Some.frame block told front c.loop-rest.invariant.within c.loop-rest.invariant.records new says in
    let inside = block_within bytes s some c.loop-rest.invariant.reaches c.in-Some.frame block told front c.loop-rest.invariant.within in
    let size = block_some bytes s some c.loop-rest.invariant.reaches c.in-Some.frame block told front in
    omega (arith, kept.at, inside, size)

pub loop-rest-preserved : goal.loop-rest-preserved
loop-rest-preserved c =
    let bytes = c.args.bytes.now in
    let s = state_of c.loop-rest.reading in
    let new = state_of c.content.new.self in
    let block = c.split_at.result.0.now in
    let told : framed s.order s.blocks (drop s.at bytes) ≡ Ok (Some c.in-Some.frame) = search rules in
    let front : block ≡ take c.in-Some.frame.total (drop s.at bytes) = c.split_at.ensures.front ∙ ap (take c.in-Some.frame.total) c.rest_at-rest.ensures in
    let some : 0 < length (drop s.at bytes) = search rules in
    let says : content_says s c.in-Some.frame block ≡ Ok new = search rules in
    let inv = c.loop-rest.invariant in
    let kept = block_kept bytes s some inv.reaches c.in-Some.frame block told front inv.within inv.records new says in
    let inside = block_within bytes s some inv.reaches c.in-Some.frame block told front inv.within in
    let size = block_some bytes s some inv.reaches c.in-Some.frame block told front in
    record {
      within = omega (arith, kept.at, inside);
      few = omega (arith, kept.at, kept.blocks, inv.few, size);
      records = kept.records;
      reaches = reaches_on bytes s some inv.reaches c.in-Some.frame block told front inv.within inv.records new says;
    }
