use Rattle.std.proofs.Common.{◌≡◌, ℕ, ◌+◌, ◌<◌, List, length, take, get_or, refl, rules}
use Rattle.std.proofs.lemmas.List.{take_more}
use Rattle.squeue_state.specs.declared.trace.TraceMark.{TraceMark}
use Rattle.small_squeue.proofs.marks.has_marks.Goals as goal

-- one more mark that agrees
one_more : (xs ys : List TraceMark) (i : ℕ) (x d : TraceMark) → take i xs ≡ take i ys → i < length xs → i < length ys → x ≡ get_or xs i x → x ≡ get_or ys i d → take (i + 1) xs ≡ take (i + 1) ys
one_more xs ys i x d same a b at there = rw (take_more xs i x a, take_more ys i d b, ← at, ← there, same) refl

pub loop-i-preserved : goal.loop-i-preserved
loop-i-preserved c =
    one_more c.args.trace.now.marks c.args.marks.now c.loop-i.i c.mark.result _ c.loop-i.invariant (search rules) (search rules) (c.mark.ensures.mark c.mark.result) (c.if-not-is_same.ensures.yes refl)
