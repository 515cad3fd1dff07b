use Rattle.std.proofs.Common.{◌≡◌, ℕ, ◌∷◌, ◌++◌, [], List, Vec, map, ap, ◌∙◌, arith}
use Rattle.std.specs.List.{range_with_len}
use Rattle.std.specs.declared.alloc.Global.{Global}
use Rattle.std.proofs.lemmas.List.{map-append}
use Rattle.perimeter_core.specs.declared.entries.Feed.{Feed}
use Rattle.histories.specs.Lists.{list_of}
use Rattle.squeue_rings.proofs.Tasked.{numbers_more}
use Rattle.squeue_pool.proofs.keys.key_lists.Goals as goal

pub loop-ring-init : goal.loop-ring-init
loop-ring-init c = ap (map (λ (list : Vec Feed Global). list.items)) c.new-lists.ensures.items

pub loop-ring-preserved : goal.loop-ring-preserved
loop-ring-preserved c =
    let f : ℕ → List Feed = λ r. list_of c.args.rings r 0 c.args.counts.now in
    let old = map (λ (list : Vec Feed Global). list.items) c.loop-ring.lists.items in
    let new = c.in_ok-key_list.field-0 in
    numbers_more f c.loop-ring.ring [] old (map (λ (list : Vec Feed Global). list.items) c.push.new.self.items) c.loop-ring.invariant
    (ap (map (λ (list : Vec Feed Global). list.items)) c.in_ok-push.ensures.items ∙ (map-append (λ (list : Vec Feed Global). list.items) c.loop-ring.lists.items (new ∷ [])
    ∙ ap (λ (l : List Feed). old ++ l ∷ []) c.in_ok-key_list.ensures))

pub returns : goal.returns
returns c =
    let all : c.loop-ring.ring ≡ c.args.rings = omega (arith, c.loop-ring-test.false, c.loop-ring.auto.ring-end) in
    c.loop-ring.invariant ∙ ap (λ n. map (λ r. list_of c.args.rings r 0 c.args.counts.now) (range_with_len 0 n)) all
