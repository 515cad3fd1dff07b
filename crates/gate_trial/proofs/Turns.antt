-- How often a pass had the gate.
use Rattle.std.proofs.Common.{◌≡◌, ◌+◌, List, [], ◌∷◌, ap, arith}
use Rattle.turn_gate.specs.Passes.{freed_once, turns_of, waited}
use Rattle.turn_gate.specs.declared.views.LockStep.{LockStep}
use Rattle.turn_gate.specs.declared.views.LockStep.TheVariants.{Serve}
use Rattle.turn_gate.proofs.Passing.{turns_of-append}

-- steps that free the lock by none of them, and then one that does, are one turn
pub one_turn : (xs ys zs : List LockStep) → waited xs ys → freed_once ys zs → turns_of zs ≡ turns_of xs + 1
one_turn xs ys zs w f =
    let a = turns_of-append xs w.0 in
    let b = turns_of-append ys (Serve f.0 ∷ []) in
    omega (arith, a, b, w.2, ap turns_of w.1, ap turns_of f.1)
