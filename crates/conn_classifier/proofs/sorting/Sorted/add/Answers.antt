use Rattle.std.proofs.Common.{◌<◌, [], ◌∷◌, ◌++◌, length, set, get_or, ap, sym, subst, ◌∙◌}
use Rattle.conn_classifier.specs.Sorting.{SortedOf, counted}
use Rattle.conn_classifier.specs.declared.kinds.Class.TheVariants as class
use Rattle.conn_classifier.proofs.SortLemmas.{grown_at}
use Rattle.conn_classifier.proofs.sorting.Sorted.add.Goals as goal

pub returns : goal.returns
returns c =
    let lt = subst (λ (s : SortedOf). c.args.c < length s.lists) (sym c.self.view_is) c.requires.within in
    let lists = grown_at (λ v. v.items) c.self.inside.lists.items c.args.c c.index_mut.result.now c.push.new.self c.args.rec lt c.index_mut.ensures.value c.in_ok-push.ensures.items in
    (λ k. record { tuples = c.self.inside.tuples.keys; lists = lists k; order = c.in_ok-push-2.ensures.items k; counts = c.count.ensures k })
    ∙ ap (λ (s : SortedOf). record s {
      lists = set s.lists c.args.c (get_or s.lists c.args.c [] ++ c.args.rec ∷ []);
      order = s.order ++ c.args.c ∷ [];
      counts = counted class.Served s.counts;
    }) c.self.view_is
