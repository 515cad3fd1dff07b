use Rattle.std.proofs.Common.{◌≡◌, ◌∙◌, List, ◌++◌, ◌∷◌, [], ap, sym, arith, append_assoc, length, length-append, map, append-nil, rules}
use Rattle.std.proofs.lemmas.List.{map-append, reverse-append}
use Rattle.std.specs.Prelude.{reverse}
use Rattle.squeue_arrivals.proofs.arriving.ends_of.Goals as goal

-- one end more is kept, of those that were taken away last
ends_more : {A B : Type 0} (f : A → B) (old left : List A) (x : A) (had now all : List B) → old ≡ left ++ x ∷ [] → now ≡ had ++ f x ∷ [] → all ≡ map f old ++ reverse had → all ≡ map f left ++ reverse now
ends_more {A} {B} f old left x had now all split next is =
    is ∙ (ap (λ (l : List A). map f l ++ reverse had) split ∙ (ap (λ (l : List B). l ++ reverse had) (map-append f left (x ∷ []))
    ∙ (append_assoc (map f left) (f x ∷ []) (reverse had) ∙ ap (λ (l : List B). map f left ++ l) (sym (ap reverse next ∙ reverse-append had (f x ∷ []))))))

pub ends-init : goal.ends-init
ends-init g c =
    record {
      ends = sym (append-nil (map (λ e. e.end) c.args.watched.items)) ∙ ap (λ l. map (λ e. e.end) c.args.watched.items ++ reverse l) (sym c.requires.0);
      room = omega (arith, ap length c.requires.0, c.requires.1);
    }

pub ends-preserved : goal.ends-preserved
ends-preserved g c =
    let i = c.ends.invariant in
    record {
      ends = ends_more (λ e. e.end) c.ends.watched.items c.pop.new.self.items c.in-Some.last c.ends.ends.items c.push_reserved.new.self.items _ c.in-Some.ensures.items c.push_reserved.ensures.items i.ends;
      room = omega (arith, i.room, ap length c.in-Some.ensures.items, length-append c.pop.new.self.items (c.in-Some.last ∷ []), ap length c.push_reserved.ensures.items, length-append c.ends.ends.items (c.in-Some.last.end ∷ []), c.push_reserved.ensures.capacity);
    }

pub returns : goal.returns
returns g c =
    let none : c.ends.watched.items ≡ [] = search rules in
    c.reverse.ensures.items ∙ sym (c.ends.invariant.ends ∙ ap (λ l. map (λ e. e.end) l ++ reverse c.ends.ends.items) none)
