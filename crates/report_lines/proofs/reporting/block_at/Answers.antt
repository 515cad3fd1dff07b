use Rattle.std.proofs.Common.{◌≡◌, Box, Some, length, rules, slice_get, refl, ap, ◌∙◌}
use Rattle.std.specs.Option.{option_map}
use Rattle.std.specs.declared.alloc.Global.{Global}
use Rattle.std.proofs.lemmas.Option.{slice_get-map, slice_get_read}
use Rattle.conn_blocks.specs.ServeOrder.{BlockOf}
use Rattle.report_lines.proofs.reporting.block_at.Goals as goal

pub returns : goal.returns
returns c =
    let items = c.args.blocks.now in
    let box = c.index-blocks-c.result in
    let got : slice_get items c.args.c ≡ Some box = slice_get_read items (length items) c.args.c box refl c.requires c.index-blocks-c.is in
    let same : box.value ≡ c.deref.result.now = search rules in
    slice_get-map (λ (b : Box BlockOf Global). b.value) items c.args.c ∙ (ap (option_map (λ (b : Box BlockOf Global). b.value)) got ∙ ap Some same)
