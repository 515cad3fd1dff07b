use Rattle.std.proofs.Common.{◌+◌, ◌++◌, ◌∷◌, [], ap, sym, ◌∙◌, replicate, arith, ◌≡◌, length, length-append}
use Rattle.std.proofs.lemmas.List.{append-nil, map-append, replicate_more}
use Rattle.squeue_state.specs.Behind.{ever}
use Rattle.squeue_arrivals.specs.Seating.{lives_of, looker_life, lookers_of, one_life}
use Rattle.squeue_arrivals.proofs.seating.lives.Goals.{then-watched, else-watched}
use Rattle.squeue_arrivals.proofs.seating.lives.Goals as goal

pub loop-k-preserved : goal.loop-k-preserved
loop-k-preserved c =
    let longer : length c.push_reserved.new.self.items ≡ length c.loop-k.lives.items + 1 = ap length c.push_reserved.ensures.items ∙ length-append c.loop-k.lives.items _ in
    record {
      lives =
          ap ever c.push_reserved.ensures.items ∙ (map-append (λ l. (l.feeds, l.asks)) c.loop-k.lives.items _
          ∙ (ap (λ xs. xs ++ one_life ∷ []) c.loop-k.invariant.lives ∙ replicate_more c.loop-k._k one_life));
      len = omega (arith, longer, c.loop-k.invariant.len);
      room = omega (arith, c.loop-k.invariant.room, c.push_reserved.ensures.capacity);
    }

pub returns : goal.returns
returns c =
    let last : c.loop-k._k ≡ c.args.rings = omega (arith, c.loop-k-test.false, c.loop-k.auto) in
    let rings = c.loop-k.invariant.lives ∙ ap (λ n. replicate n one_life) last in
    elim c.if-watched.branch [
      | then-watched w ↦
          ap (λ v. ever v.items) w.lives-is ∙ (ap ever w.push_reserved-then-watched.ensures.items ∙ (map-append (λ l. (l.feeds, l.asks)) c.loop-k.lives.items _
          ∙ (ap (λ xs. xs ++ looker_life ∷ []) rings ∙ ap (λ b. lives_of c.args.rings (lookers_of b)) (sym w.if-watched.true))))
      | else-watched w ↦
          ap (λ v. ever v.items) w.lives-is ∙ (rings ∙ (sym (append-nil (replicate c.args.rings one_life)) ∙ ap (λ b. lives_of c.args.rings (lookers_of b)) (sym w.if-watched.false)))
    ]
