-- How often a connection came and left is few, since how often it may leave is.
use Rattle.std.proofs.Common.{◌≡◌, ℕ, ◌+◌, ◌<◌, ◌≤◌, ◌^◌, Bool, true, false, if◌then◌else◌, List, map, refl, arith}
use Rattle.std.specs.Prelude.{slice_index}
use Rattle.std.proofs.lemmas.Option.{slice_get_within}
use Rattle.perimeter_core.specs.Perimeter.{is_here}
use Rattle.perimeter_core.specs.History.{Element, Setting, conns, run, start}
use Rattle.perimeter_core.specs.Deeds.{puts_in, takes_out, times_left}
use Rattle.perimeter_core.specs.Legal.{Legal}
use Rattle.perimeter_core.proofs.OneMore.{legal_ind, run_push}
use Rattle.perimeter_core.proofs.BlocksFollow.{flags}
use Rattle.perimeter_core.proofs.FeedOrder.{puts_away}
use Rattle.perimeter_core.proofs.LeavesFew.{leaves_few, left_push}
use Rattle.perimeter_core.proofs.RingKnows.{here_step}
use Rattle.squeue_replay.specs.Histories.{times_in}
use Rattle.squeue_replay.specs.Standing.{SqueueOf, Stands}
use Rattle.squeue_replay.specs.Steps.{AreFew}
use Rattle.squeue_replay.proofs.OneMoreMark.{times_in_push}

abbrev one : Bool → ℕ
one b = if b then 1 else 0

-- where one comes it was away, and where one goes it is away
counted : (a b here : Bool) (came left : ℕ) → (a ≡ true → here ≡ false) → came ≤ left + one here → came + one a ≤ left + one b + one (if a then true else if b then false else here)
counted true b true came left away h = absurd (let no : ⊥ = cc (away refl) in no)
counted true true false came left away h = omega (arith, h)
counted true false false came left away h = omega (arith, h)
counted false true true came left away h = omega (arith, h)
counted false true false came left away h = omega (arith, h)
counted false false here came left away h = omega (arith, h)

came_after_left : (S : Setting) (H : List Element) (c : ℕ) → Legal S H → times_in c (map (λ e. e.mark) H) ≤ times_left c H + one (is_here (run S H) c)
came_after_left S H c l =
    legal_ind S (λ (G : List Element). times_in c (map (λ e. e.mark) G) ≤ times_left c G + one (is_here (run S G) c)) (omega arith)
    (λ G e k i m.
    rw (times_in_push c G e, left_push c G e, run_push (start S) G e, here_step S (run S G) e.mark c m.range (flags (start S) G))
    (counted (puts_in c e.mark) (takes_out c e.mark) (is_here (run S G) c) (times_in c (map (λ x. x.mark) G)) (times_left c G)
    (λ comes. (puts_away S G (run S G) e.mark c m.act comes).0) i))
    H l

one_most : (b : Bool) → one b ≤ 1
one_most true = omega arith
one_most false = omega arith

pub counts_few : (S : Setting) (H : List Element) (x : SqueueOf) → Stands S H x → ((c : ℕ) → c < conns S → slice_index S.limits.leaves c < 2 ^ 32) → AreFew x.guests
counts_few S H x k few c g at =
    let stands = k.each_guest c g at in
    let lt = slice_get_within x.guests c g at in
    let within : c < conns S = omega (arith, lt, k.guests) in
    let most = few c within in
    let left = leaves_few S H c k.legal in
    let came = came_after_left S H c k.legal in
    let last = one_most (is_here (run S H) c) in
    (omega (arith, stands.came, came, left, most, last), omega (arith, stands.left, left, most))
