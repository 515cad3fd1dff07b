use Rattle.std.proofs.Common.{◌≡◌, ◌+◌, ◌++◌, ◌∷◌, [], ℕ, Some, length, slice_get, vec_len, length-append, append_assoc, refl, ap, ◌∙◌, subst, arith}
use Rattle.squeue_serve.specs.Lending.{holder, lent_to}
use Rattle.squeue_serve.proofs.Lent.{one_lent, all_lent, has_room, get_end}
use Rattle.squeue_serve.proofs.jobs.lend_all.Goals as goal

pub lend_to-requires-clause-room : goal.lend_to-requires-clause-room
lend_to-requires-clause-room g c =
    let left = c.pop.new.self.items in
    let counted : vec_len c.pop.new.self ≡ length left = omega (arith, c.pop.new.self.ok) in
    let one : length c.loop-pass.passes.items ≡ length left + 1 = ap length c.in-Some.ensures.items ∙ length-append left (c.in-Some.pass ∷ []) in
    let all : length c.args.passes.items ≡ length c.loop-pass.passes.items + length c.loop-pass.invariant.behind = ap length c.loop-pass.invariant.left ∙ length-append c.loop-pass.passes.items c.loop-pass.invariant.behind in (
      c.args.q + 1,
      c.loop-pass.invariant.places (c.args.q + 1) c.requires.places,
      has_room c.args.front c.args.count c.args.q c.args.passes.items (lent_to c.args.jobs.now.items) (lent_to c.loop-pass.jobs.items) (length left) (length c.loop-pass.passes.items) c.holder.result (omega (arith, one, all, c.requires.passes)) one
          (c.holder.ensures ∙ ap (holder c.args.front c.args.count c.args.q) (c.len.ensures ∙ counted)) c.loop-pass.invariant.handed c.requires.fit,
    )

pub loop-pass-preserved : goal.loop-pass-preserved
loop-pass-preserved g c =
    let left = c.pop.new.self.items in
    let counted : vec_len c.pop.new.self ≡ length left = omega (arith, c.pop.new.self.ok) in
    let behind = c.loop-pass.invariant.behind in
    let one : length c.loop-pass.passes.items ≡ length left + 1 = ap length c.in-Some.ensures.items ∙ length-append left (c.in-Some.pass ∷ []) in
    let all : length c.args.passes.items ≡ length c.loop-pass.passes.items + length behind = ap length c.loop-pass.invariant.left ∙ length-append c.loop-pass.passes.items behind in
    let whole : c.args.passes.items ≡ left ++ c.in-Some.pass ∷ behind = c.loop-pass.invariant.left ∙ (ap (λ l. l ++ behind) c.in-Some.ensures.items ∙ append_assoc left (c.in-Some.pass ∷ []) behind) in
    let at : c.holder.result ≡ holder c.args.front c.args.count c.args.q (length left) = c.holder.ensures ∙ ap (holder c.args.front c.args.count c.args.q) (c.len.ensures ∙ counted) in
    let now = lent_to c.loop-pass.jobs.items in
    let next = lent_to c.lend_to.new.jobs.items in
    record {
      handed =
          one_lent c.args.front c.args.count c.args.q (length left) (length c.loop-pass.passes.items) c.args.passes.items c.in-Some.pass (lent_to c.args.jobs.now.items) now next (omega (arith, one, all, c.requires.passes)) one
          (ap (λ l. slice_get l (length left)) whole ∙ get_end left behind c.in-Some.pass (length left) refl) c.loop-pass.invariant.handed
          (subst (λ (i : ℕ). next i ≡ now i ++ Some c.in-Some.pass ∷ []) at c.lend_to.ensures.lent)
          (λ i apart. c.lend_to.ensures.others i (λ e. apart (e ∙ at)));
      behind = c.in-Some.pass ∷ behind;
      left = whole;
      tasks = c.lend_to.ensures.tasks ∙ c.loop-pass.invariant.tasks;
      places = λ n room. c.lend_to.ensures.places n (c.loop-pass.invariant.places n room);
      room = omega (arith, c.loop-pass.invariant.room, c.in-Some.ensures.capacity);
    }

pub returns-clause-handed : goal.returns-clause-handed
returns-clause-handed g c =
    all_lent c.args.front c.args.count c.args.q c.args.passes.items (lent_to c.args.jobs.now.items) (lent_to c.loop-pass.jobs.items) (length c.loop-pass.passes.items) (omega (arith, c.in_default.ensures.cases)) c.requires.passes c.loop-pass.invariant.handed
