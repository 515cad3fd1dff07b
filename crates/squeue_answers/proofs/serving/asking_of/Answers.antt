use Rattle.std.proofs.Common.{◌≡◌, ◌∙◌, ◌++◌, ◌∷◌, [], sym, ap, arith, length, length-append, append-nil, map, rules}
use Rattle.std.specs.Prelude.{reverse}
use Rattle.std.proofs.lemmas.List.{map-append, reverse-reverse, length-reverse}
use Rattle.ring_groups.proofs.Grouped.{taken_more}
use Rattle.squeue_answers.specs.Asking.{new_asking}
use Rattle.squeue_answers.proofs.serving.asking_of.Goals as goal

pub sources-init : goal.sources-init
sources-init g c =
    record {
      gone = [];
      all = sym (ap reverse c.reverse.ensures.items ∙ reverse-reverse c.args.sources.items);
      asked = c.in_ok-asking.ensures.items;
      room = omega (arith, ap length c.in_ok-asking.ensures.items, ap length c.reverse.ensures.items, length-reverse c.args.sources.items, c.in_ok-asking.ensures.exact, c.len.ensures, c.args.sources.ok.0);
    }

pub sources-preserved : goal.sources-preserved
sources-preserved g c =
    let i = c.sources.invariant in
    let x : g.row.A.Denot × g.row.K.Denot = (c.in-Some.source, c.in-Some.sink) in
    record {
      gone = i.gone ++ x ∷ [];
      all = taken_more c.args.sources.items i.gone c.sources.sources.items c.pop.new.self.items x i.all c.in-Some.ensures.items;
      asked =
          c.push_reserved.ensures.items
          ∙ (ap (λ l. l ++ c.in_ok-next.next ∷ []) i.asked
          ∙ (ap (λ y. map (λ s. new_asking s.0 s.1) i.gone ++ y ∷ []) c.in_ok-next.ensures ∙ sym (map-append (λ (s : g.row.A.Denot × g.row.K.Denot). new_asking s.0 s.1) i.gone (x ∷ []))));
      room = omega (arith, i.room, ap length c.in-Some.ensures.items, length-append c.pop.new.self.items (x ∷ []), ap length c.push_reserved.ensures.items, length-append c.sources.asking.items (c.in_ok-next.next ∷ []), c.push_reserved.ensures.capacity);
    }

pub returns : goal.returns
returns g c =
    let i = c.sources.invariant in
    let none : c.sources.sources.items ≡ [] = search rules in
    let all : c.args.sources.items ≡ i.gone = i.all ∙ (ap (λ l. i.gone ++ reverse l) none ∙ append-nil i.gone) in
    i.asked ∙ ap (map (λ s. new_asking s.0 s.1)) (sym all)
