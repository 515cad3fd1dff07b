-- Text that counts, challenges of one connection, and the congestion window.
use Rattle.std.proofs.Common.{◌≡◌, ℕ, zero, suc, ◌+◌, ◌-◌, ◌*◌, ◌/◌, ◌^◌, ◌<◌, ◌≤◌, min, max, nat_le, nat_lt, ◌&&◌, ◌||◌, not, ◌==◌, Bool, true, false, cond, List, [], ◌∷◌, ◌++◌, length, slice_get, Option, None, Some, refl, sym, ap, subst, ◌∙◌, arith, true≢false}
use Rattle.std.specs.Option.{option_map_or}
use Rattle.std.proofs.Math.Nat.{div-mul-le_self, mul-le-mul_left, mul-le-mul_right, one-mul}
use Rattle.std.proofs.lemmas.Bool.Decides.{nat_tests}
use Rattle.std.proofs.lemmas.Nat.{div_below}
use Rattle.std.proofs.lemmas.Option.{none-some, same_Some}
use Rattle.segment_codec.specs.ControlBits.{syn}
use Rattle.segment_codec.specs.Refusal.{tuple_of}
use Rattle.segment_codec.specs.declared.packet.Seg.{Seg}
use Rattle.sq_base.specs.SerialOrder.{dist}
use Rattle.sq_base.specs.declared.kinds.Tuple.{Tuple}
use Rattle.tcb_machine.specs.BlockState.{Block, has}
use Rattle.tcb_machine.specs.Challenges.{is_syn_received}
use Rattle.live_server.specs.Acts.{after, allowed, bared, challenged, emptied, is_allowed, is_over, judged, new_conn, provokes, reached, repaired, taken, takes, ticked}
use Rattle.live_server.specs.Congestion.{acknowledges, again_up_to, begun, eased, first_window, flight, grown, halved, is_at_recover, is_duplicate, is_fresh, reaches, recovers, repeated, rested, seen_window, slowly, timed_out, tolerance, under_way, usable, within}
use Rattle.live_server.specs.Limits.{challenge_interval}
use Rattle.live_server.specs.Promises.{AgainIsWithin, BeginsBeyondRecover, ChallengesAreApart, Coming, FirstIsWide, IsWide, SegmentKeepsWide, ShownIsNarrow, SilenceIsNarrow, SlowStartIsSlow, TextIsBounded, TextIsCounted, TimeCountsAnew, TimeoutIsNarrow, TimeoutIsWide, came, challenges, segment, time, when_challenged}
use Rattle.live_server.specs.Serving.{ServerOf, admits, becomes, comes, fits, gives_way, goes_on, has_place, heeded, heeded_text, heeds, holding, is_waiting, makes_place, noting, on_segment, on_time, opens, overfull, refuses, sends_nothing, sends_of, served, takes_free, takes_place, time_to, turns_away, yielding, yields, yields_at}
use Rattle.live_server.specs.Services.{service_at}
use Rattle.live_server.specs.Table.{conn_at, place_of}
use Rattle.live_server.specs.declared.congestion.Congestion.{Congestion}
use Rattle.live_server.specs.declared.conn.Conn.{Conn}
use Rattle.live_server.specs.declared.conn.Judged.{Judged}
use Rattle.live_server.specs.declared.conn.Judged.TheVariants.{Challenged, Late, Taken, Unanswered}
use Rattle.live_server.specs.declared.measures.Measures.{Measures}

-- ---- what counts as held changes where text is heeded alone
yielded_held : (w : Tuple × ℕ) (sv : ServerOf) → (yields w sv).held ≡ sv.held
unfolding yields yields_at
yielded_held w sv = by (place_of w.0 sv.conns)
  where
    at : (i : ℕ) (b : Bool) → (cond b (gives_way i sv) sv).held ≡ sv.held
    at i true = refl
    at i false = refl

    by : (r : Option ℕ) → (option_map_or (λ place. yields_at w.1 place sv) r sv).held ≡ sv.held
    by None = refl
    by (Some i) = at i (is_waiting w.1 (conn_at i sv.conns))

yielding_held : (ws : List (Tuple × ℕ)) (sv : ServerOf) → (yielding ws sv).held ≡ sv.held
yielding_held [] sv = refl
yielding_held (w ∷ ws) sv = by (has_place sv) (yielding_held ws (yields w (record sv { waiting = ws })) ∙ yielded_held w (record sv { waiting = ws }))
  where
    by : (b : Bool) → (yielding ws (yields w (record sv { waiting = ws }))).held ≡ sv.held → (cond b sv (yielding ws (yields w (record sv { waiting = ws })))).held ≡ sv.held
    by true h = refl
    by false h = h

admitted_held : (now : ℕ) (s : Seg) (text : List ℕ) (sv : ServerOf) → (admits now s text sv).server.held ≡ sv.held
unfolding admits takes_place
admitted_held now s text sv = by (is_over fresh)
  where
    fresh : Conn
    fresh = served now s text sv (new_conn (service_at sv.setting now s.dst_port) sv.setting.segment sv.setting.marking now)

    placed : (b : Bool) → (cond b (takes_free (tuple_of s) fresh (makes_place sv)) (turns_away (tuple_of s) (makes_place sv))).server.held ≡ sv.held
    placed true = yielding_held sv.waiting sv
    placed false = yielding_held sv.waiting sv

    by : (b : Bool) → (cond b (sends_of (tuple_of s) fresh sv) (takes_place (tuple_of s) fresh (makes_place sv))).server.held ≡ sv.held
    by true = refl
    by false = placed (has_place (makes_place sv))

opened_held : (now : ℕ) (s : Seg) (text : List ℕ) (sv : ServerOf) → (opens now s text sv).server.held ≡ sv.held
unfolding opens
opened_held now s text sv = by sv.draining
  where
    by : (b : Bool) → (cond b (refuses now s sv) (admits now s text sv)).server.held ≡ sv.held
    by true = refl
    by false = admitted_held now s text sv

came_held : (now : ℕ) (s : Seg) (text : List ℕ) (sv : ServerOf) → (comes now s text sv).server.held ≡ sv.held
unfolding comes goes_on becomes
came_held now s text sv = by (place_of (tuple_of s) sv.conns)
  where
    by : (r : Option ℕ) → (option_map_or (λ place. goes_on now s text place sv) r (opens now s text sv)).server.held ≡ sv.held
    by None = opened_held now s text sv
    by (Some i) = refl

timed_same : (now : ℕ) (t : Tuple) (sv : ServerOf) → ((time_to now t sv).server.held ≡ sv.held) × ((time_to now t sv).server.setting ≡ sv.setting)
unfolding time_to becomes
timed_same now t sv = by (place_of t sv.conns)
  where
    by : (r : Option ℕ) → ((option_map_or (λ place. becomes place t (reached now (conn_at place sv.conns)) sv) r (sends_nothing sv)).server.held ≡ sv.held)
        × ((option_map_or (λ place. becomes place t (reached now (conn_at place sv.conns)) sv) r (sends_nothing sv)).server.setting ≡ sv.setting)
    by None = (refl, refl)
    by (Some i) = (refl, refl)

fits_same : (text : List ℕ) (a b : ServerOf) → a.held ≡ b.held → a.setting ≡ b.setting → fits text a ≡ fits text b
unfolding fits
fits_same text a b held setting = λ j. nat_le (length text) ((setting j).bytes - held j)

-- what is noted of the text
noted_held : (text : List ℕ) (sv : ServerOf) → sv.held < 2 ^ 64 → (noting text sv).held ≡ min (2 ^ 64 - 1) (sv.held + length (heeded_text text sv))
noted_held text sv few = by (fits text sv)
  where
    by : (b : Bool) → (cond b (holding text sv) (overfull sv)).held ≡ min (2 ^ 64 - 1) (sv.held + length (cond b text []))
    by true = refl
    by false = omega (arith, few)

pub time_counts_anew : TimeCountsAnew
unfolding on_time
time_counts_anew now sv = refl

pub text_counted : TextIsCounted
unfolding on_segment heeds
text_counted now s text sv few =
    let first : ServerOf = (time_to now (tuple_of s) sv).server in
    let same = timed_same now (tuple_of s) sv in
    came_held now (heeded s text first) (heeded_text text first) (noting text first)
    ∙ noted_held text first (omega (arith, same.0, few))
    ∙ (λ j. min (2 ^ 64 - 1) (same.0 j + length (cond (fits_same text first sv same.0 same.1 j) text [])))

noted_bounded : (text : List ℕ) (sv : ServerOf) → sv.held ≤ sv.setting.bytes → (noting text sv).held ≤ sv.setting.bytes
unfolding fits
noted_bounded text sv few = by (nat_le (length text) (sv.setting.bytes - sv.held)) refl
  where
    by : (b : Bool) → nat_le (length text) (sv.setting.bytes - sv.held) ≡ b → (cond b (holding text sv) (overfull sv)).held ≤ sv.setting.bytes
    by true e = let fits_so : length text ≤ sv.setting.bytes - sv.held = grind (arith, nat_tests) in omega (arith, few, fits_so)
    by false e = few

pub text_bounded : TextIsBounded
unfolding on_segment heeds
text_bounded now s text sv few =
    let first : ServerOf = (time_to now (tuple_of s) sv).server in
    let same = timed_same now (tuple_of s) sv in
    let first_few : first.held ≤ first.setting.bytes = subst (λ (n : ℕ). first.held ≤ n) (ap (λ (g : Rattle.live_server.specs.declared.setting.Setting.Setting). g.bytes) (sym same.1)) (omega (arith, same.0, few)) in
    let noted = noted_bounded text first first_few in
    omega (arith, came_held now (heeded s text first) (heeded_text text first) (noting text first), noted, ap (λ (g : Rattle.live_server.specs.declared.setting.Setting.Setting). g.bytes) same.1)

-- ---- challenges
-- the first is at a moment or later, and each next one an interval behind
abbrev Spaced : ℕ → List ℕ → Type 0
Spaced n [] = Unit {0}
Spaced n (t ∷ ts) = (n ≤ t) × Spaced (t + challenge_interval) ts

spaced_at : (n : ℕ) (ts : List ℕ) (k a b : ℕ) → Spaced n ts → slice_get ts k ≡ Some a → slice_get ts (suc k) ≡ Some b → a + challenge_interval ≤ b
spaced_at n [] k a b h at next = absurd (none-some _ at)
spaced_at n (t ∷ []) zero a b h at next = absurd (none-some _ next)
spaced_at n (t ∷ u ∷ ts) zero a b h at next = omega (arith, same_Some _ _ at, same_Some _ _ next, h.1.0)
spaced_at n (t ∷ ts) (suc k) a b h at next = spaced_at (t + challenge_interval) ts k a b h.1 at next

-- one that is challenged was quiet for long enough
quiet_by : (late ordinary quiet : Bool) → cond late Late (cond ordinary Taken (cond quiet Unanswered Challenged)) ≡ Challenged → quiet ≡ false
quiet_by true ordinary quiet e = absurd (cc e)
quiet_by false true quiet e = absurd (cc e)
quiet_by false false true e = absurd (cc e)
quiet_by false false false e = refl

quiet_before : (now : ℕ) (s : Seg) (text : List ℕ) (c : Conn) → judged now s text c ≡ Challenged → c.quiet_until ≤ now
unfolding judged
quiet_before now s text c e =
    let past : nat_lt now c.quiet_until ≡ false = quiet_by (not (takes now c.tcb)) (not (provokes s text c.tcb)) (nat_lt now c.quiet_until) e in
    grind (arith, nat_tests, past)

timed_quiet : (now : ℕ) (c : Conn) → (emptied (reached now c)).quiet_until ≡ c.quiet_until
unfolding emptied
timed_quiet now c = refl

ticked_quiet : (measures : Measures) (now : ℕ) (c : Conn) → (emptied (ticked measures now c)).quiet_until ≡ c.quiet_until
unfolding emptied
ticked_quiet measures now c = refl

allowed_quiet : (now iss : ℕ) (s : Seg) (c : Conn) → (allowed now iss s c).quiet_until ≡ c.quiet_until
unfolding allowed taken repaired
allowed_quiet now iss s c = by (is_allowed s c.tcb)
  where
    by : (b : Bool) → (cond b (taken now iss (bared s c.tcb) [] c) c).quiet_until ≡ c.quiet_until
    by true = refl
    by false = refl

came_quiet : (j : Judged) (now iss : ℕ) (s : Seg) (text : List ℕ) (c : Conn) → (emptied (after j now iss s text c)).quiet_until ≡ (elim j [ Taken ↦ c.quiet_until | Challenged ↦ now + challenge_interval | Unanswered ↦ c.quiet_until | Late ↦ c.quiet_until ])
unfolding emptied after taken repaired challenged
came_quiet Taken now iss s text c = refl
came_quiet Challenged now iss s text c = refl
came_quiet Unanswered now iss s text c = allowed_quiet now iss s c
came_quiet Late now iss s text c = refl

-- behind a segment, where the rest is spaced behind what it left
segment_spaced : (now iss : ℕ) (s : Seg) (text : List ℕ) (c : Conn) (rest : List ℕ) → Spaced (came (segment now iss s text) c).quiet_until rest
    → Spaced c.quiet_until (when_challenged now (judged now s text (emptied (reached now c))) ++ rest)
segment_spaced now iss s text c rest behind = by (judged now s text before) refl
  where
    before : Conn
    before = emptied (reached now c)

    shown : (j : Judged) → judged now s text before ≡ j → Spaced c.quiet_until (when_challenged now j ++ rest) → Spaced c.quiet_until (when_challenged now (judged now s text before) ++ rest)
    shown j e h = subst (λ (x : Judged). Spaced c.quiet_until (when_challenged now x ++ rest)) (sym e) h

    still : (j : Judged) → judged now s text before ≡ j → (n : ℕ) → (emptied (after j now iss s text before)).quiet_until ≡ n → Spaced n rest
    still j e n is = subst (λ (m : ℕ). Spaced m rest) (ap (λ (x : Judged). (emptied (after x now iss s text before)).quiet_until) e ∙ is) behind

    by : (j : Judged) → judged now s text before ≡ j → Spaced c.quiet_until (when_challenged now (judged now s text before) ++ rest)
    by Taken e = shown Taken e (still Taken e c.quiet_until (came_quiet Taken now iss s text before ∙ timed_quiet now c))
    by Unanswered e = shown Unanswered e (still Unanswered e c.quiet_until (came_quiet Unanswered now iss s text before ∙ timed_quiet now c))
    by Late e = shown Late e (still Late e c.quiet_until (came_quiet Late now iss s text before ∙ timed_quiet now c))
    by Challenged e = shown Challenged e (
      subst (λ (n : ℕ). n ≤ now) (timed_quiet now c) (quiet_before now s text before e),
      still Challenged e (now + challenge_interval) (came_quiet Challenged now iss s text before),
    )

spaced : (xs : List Coming) (c : Conn) → Spaced c.quiet_until (challenges xs c)
spaced [] c = tt
spaced (time measures now ∷ xs) c = subst (λ (n : ℕ). Spaced n (challenges xs (came (time measures now) c))) (ticked_quiet measures now c) (spaced xs (came (time measures now) c))
spaced (segment now iss s text ∷ xs) c = segment_spaced now iss s text c (challenges xs (came (segment now iss s text) c)) (spaced xs (came (segment now iss s text) c))

pub challenges_apart : ChallengesAreApart
challenges_apart xs c k a b at next = spaced_at c.quiet_until (challenges xs c) k a b (spaced xs c) at next

-- ---- congestion
pub first_wide : FirstIsWide
first_wide b few = omega (arith, few)

halved_wide : (n : ℕ) (b : Block) → 2 * b.agreed.mss ≤ halved n b
halved_wide n b = omega arith

pub timeout_wide : TimeoutIsWide
unfolding timed_out
timeout_wide b x = halved_wide (flight b) b

chosen_wide : (b : Block) (which : Bool) (x y : Congestion) → IsWide b x → IsWide b y → IsWide b (cond which x y)
chosen_wide b true x y here there = here
chosen_wide b false x y here there = there

recovers_wide : (n : ℕ) (s : Seg) (b : Block) (x : Congestion) → IsWide b x → IsWide b (recovers n s b x)
unfolding recovers
recovers_wide n s b x wide = chosen_wide b (reaches s.ack x) _ _ wide wide

grown_wide : (n : ℕ) (b : Block) (x : Congestion) → IsWide b x → IsWide b (grown n b x)
unfolding grown
grown_wide n b x wide = wide

slowly_wide : (n : ℕ) (s : Seg) (b : Block) (x : Congestion) → IsWide b x → IsWide b (slowly n s b x)
unfolding slowly
slowly_wide n s b x wide = grown_wide n b x wide

repeated_wide : (b : Block) (x : Congestion) → IsWide b x → IsWide b (repeated b x)
unfolding repeated
repeated_wide b x wide =
    chosen_wide b x.recovering _ _ (chosen_wide b x.slow _ _ wide wide)
    (chosen_wide b (is_at_recover b x) _ _ wide (chosen_wide b (nat_lt (x.duplicates + 1) (tolerance (within b x) b)) _ _ wide (halved_wide (within b x) b)))

begun_wide : (b : Block) (x : Congestion) → IsWide b x → IsWide b (begun b x)
unfolding begun
begun_wide b x wide = chosen_wide b x.recovering _ _ wide wide

pub segment_wide : SegmentKeepsWide
unfolding eased
segment_wide s b x wide =
    chosen_wide b (is_syn_received b.state) _ _ (begun_wide b x wide)
    (chosen_wide b (is_fresh s b) _ _
    (chosen_wide b x.recovering _ _ (chosen_wide b x.slow _ _ (slowly_wide _ s b x wide) (recovers_wide _ s b x wide)) (grown_wide _ b x wide))
    (chosen_wide b (is_duplicate s b x) _ _ (repeated_wide b x wide) wide))

-- ---- recovery
quiet_chosen : (which : Bool) (x y : Congestion) → x.recovering ≡ false → y.recovering ≡ false → (cond which x y).recovering ≡ false
quiet_chosen true x y here there = here
quiet_chosen false x y here there = there

-- where there is none, its own branch isn't taken
quiet_rest : (x y z : Congestion) → x.recovering ≡ false → z.recovering ≡ false → (cond x.recovering y z).recovering ≡ false
quiet_rest x y z none there = subst (λ (which : Bool). (cond which y z).recovering ≡ false) (sym none) there

-- and where a test holds, its branch is
quiet_where : (which : Bool) (x z : Congestion) → which ≡ true → x.recovering ≡ false → (cond which x z).recovering ≡ false
quiet_where true x z e none = none
quiet_where false x z e none = absurd (true≢false (sym e))

begun_quiet : (b : Block) (x : Congestion) → x.recovering ≡ false → (begun b x).recovering ≡ false
unfolding begun
begun_quiet b x none = quiet_chosen x.recovering _ _ none none

grown_quiet : (n : ℕ) (b : Block) (x : Congestion) → x.recovering ≡ false → (grown n b x).recovering ≡ false
unfolding grown
grown_quiet n b x none = none

repeated_quiet : (b : Block) (x : Congestion) → x.recovering ≡ false → b.una ≡ x.recover → (repeated b x).recovering ≡ false
unfolding repeated
repeated_quiet b x none there =
    let at : is_at_recover b x ≡ true = grind (arith, nat_tests, there) in
    quiet_rest x _ _ none (quiet_where (is_at_recover b x) x _ at none)

pub begins_beyond : BeginsBeyondRecover
unfolding eased
begins_beyond s b x none there =
    quiet_chosen (is_syn_received b.state) _ _ (begun_quiet b x none)
    (quiet_chosen (is_fresh s b) _ _ (quiet_rest x _ _ none (grown_quiet _ b x none))
    (quiet_chosen (is_duplicate s b x) _ _ (repeated_quiet b x none there) none))

-- ---- slow start behind a timeout
pub timeout_narrow : TimeoutIsNarrow
unfolding timed_out
timeout_narrow b x = omega arith

-- mss * mss / w is no more than mss
few_more : (mss w : ℕ) → 1 ≤ mss → mss ≤ w → max 1 (mss * mss / max 1 w) ≤ mss
few_more mss w some wide =
    let most : mss * mss ≤ mss * max 1 w = mul-le-mul_left mss (omega (arith, wide)) in
    let below : mss * mss < suc mss * max 1 w = omega (arith, most) in
    omega (arith, some, div_below (mss * mss) (max 1 w) (suc mss) (omega arith) below)

grown_few : (n : ℕ) (b : Block) (x : Congestion) → 1 ≤ b.agreed.mss → IsWide b x → (grown n b x).window ≤ x.window + b.agreed.mss
unfolding grown
grown_few n b x some wide = by (nat_lt x.window x.threshold) refl
  where
    by : (t : Bool) → nat_lt x.window x.threshold ≡ t
        → min 131072 (x.window + cond t (min n b.agreed.mss) (max 1 (b.agreed.mss * b.agreed.mss / max 1 x.window))) ≤ x.window + b.agreed.mss
    by true e = omega arith
    by false e =
        let past : x.threshold ≤ x.window = grind (arith, nat_tests, e) in
        omega (arith, few_more b.agreed.mss x.window some (omega (arith, past, wide)))

slowly_few : (n : ℕ) (s : Seg) (b : Block) (x : Congestion) → 1 ≤ b.agreed.mss → IsWide b x → (slowly n s b x).window ≤ x.window + b.agreed.mss
unfolding slowly
slowly_few n s b x some wide = grown_few n b x some wide

few_where : (n : ℕ) (which : Bool) (x y : Congestion) → which ≡ true → x.window ≤ n → (cond which x y).window ≤ n
few_where n true x y e few = few
few_where n false x y e few = absurd (true≢false (sym e))

both : (a b : Bool) → (a && b) ≡ true → (a ≡ true) × (b ≡ true)
both true true e = (refl, refl)
both true false e = absurd (true≢false (sym e))
both false b e = absurd (true≢false (sym e))

begun_few : (b : Block) (x : Congestion) → x.recovering ≡ true → (begun b x).window ≤ x.window
unfolding begun
begun_few b x is = few_where x.window x.recovering x _ is (omega arith)

repeated_few : (b : Block) (x : Congestion) → x.recovering ≡ true → x.slow ≡ true → (repeated b x).window ≤ x.window
unfolding repeated
repeated_few b x is slow = few_where x.window x.recovering _ _ is (few_where x.window x.slow x _ slow (omega arith))

pub slow_segment : SlowStartIsSlow
unfolding eased
slow_segment s b x some slow wide = by (is_syn_received b.state) (is_fresh s b) (is_duplicate s b x)
  where
    is : x.recovering ≡ true
    is = (both x.recovering x.slow slow).0

    its : x.slow ≡ true
    its = (both x.recovering x.slow slow).1

    n : ℕ
    n = dist b.una s.ack

    by : (half fresh again : Bool)
        → (cond half (begun b x) (cond fresh (acknowledges n s b x) (cond again (repeated b x) x))).window ≤ x.window + cond fresh b.agreed.mss 0
    by true fresh again = omega (arith, begun_few b x is)
    by false true again =
        let few = slowly_few n s b x some wide in
        few_where (x.window + b.agreed.mss) x.recovering _ _ is (few_where (x.window + b.agreed.mss) x.slow (slowly n s b x) _ its few)
    by false false true = omega (arith, repeated_few b x is its)
    by false false false = omega arith

pub again_within : AgainIsWithin
unfolding again_up_to
again_within window b x = by (nat_le (under_way b x) (min window x.window)) refl
  where
    most : ℕ
    most = min window x.window

    by : (t : Bool) → nat_le (under_way b x) most ≡ t
        → cond t (max x.again (under_way b x)) (x.again + (most - x.again) / b.agreed.mss * b.agreed.mss) ≤ max x.again most
    by true e = let few : under_way b x ≤ most = grind (arith, nat_tests, e) in omega (arith, few)
    by false e = omega (arith, div-mul-le_self (most - x.again) b.agreed.mss)

-- ---- silence
pub silence_narrow : SilenceIsNarrow
unfolding rested
silence_narrow now rto b x none late = by (flight b == 0) (nat_lt (x.sent + rto) now) (grind (arith, nat_tests, none)) (grind (arith, nat_tests, late))
  where
    by : (idle past : Bool) → idle ≡ true → past ≡ true
        → (cond (idle && past) (record x { window = min x.window (first_window b.agreed.mss) }) x).window ≤ first_window b.agreed.mss
    by true true e f = omega arith
    by true false e f = absurd (true≢false (sym f))
    by false past e f = absurd (true≢false (sym e))

pub shown_narrow : ShownIsNarrow
unfolding seen_window
shown_narrow s b x plain = by (has s.flags syn) (s.wnd == 0) plain refl
  where
    unit : ℕ
    unit = 2 ^ b.agreed.snd_shift

    share : ℕ
    share = usable b x / unit

    whole : share * unit ≤ usable b x
    whole = div-mul-le_self (usable b x) unit

    few : (m : ℕ) → m ≤ share → max 1 m * unit ≤ max unit (usable b x)
    few zero h = omega (arith, one-mul unit)
    few (suc m) h =
        let more : suc m * unit ≤ share * unit = mul-le-mul_right unit h in
        let same : suc m ≡ max 1 (suc m) = omega arith in
        subst (λ (n : ℕ). n * unit ≤ max unit (usable b x)) same (omega (arith, whole, more))

    by : (opens closed : Bool) → opens ≡ false → (s.wnd == 0) ≡ closed
        → (cond (opens || closed) s.wnd (max 1 (min s.wnd share)) * unit ≤ max unit (usable b x)) × (cond (opens || closed) s.wnd (max 1 (min s.wnd share)) ≤ s.wnd)
    by true closed other e = absurd (true≢false other)
    by false true other e =
        let none : s.wnd ≡ 0 = grind (arith, nat_tests, e) in
        (subst (λ (n : ℕ). n * unit ≤ max unit (usable b x)) (sym none) (omega arith), omega arith)
    by false false other e =
        let some : 1 ≤ s.wnd = grind (arith, nat_tests, e) in
        (few (min s.wnd share) (omega arith), omega (arith, some))
