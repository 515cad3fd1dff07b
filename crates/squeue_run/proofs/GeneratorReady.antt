-- The clients of the generator, as it goes on.
use Rattle.std.proofs.Common.{◌≡◌, ℕ, ◌+◌, ◌*◌, ◌/◌, ◌%◌, ◌^◌, ◌<◌, ◌≤◌, Bool, true, false, cond, eqb, ltb, List, [], ◌∷◌, ◌++◌, length, map, set, take, drop, get_or, slice_get, Some, refl, sym, ap, ◌∙◌, ◌⊎◌, inl, inr, arith, length-set, get_or-set_other}
use Rattle.sq_base.specs.declared.kinds.Tuple.{Tuple}
use Rattle.segment_codec.specs.declared.packet.Reply.{Reply}
use Rattle.segment_codec.specs.PlainSegments.{plain}
use Rattle.segment_codec.specs.SegmentBytes.{segment_bytes}
use Rattle.std.proofs.lemmas.Bool.{eqb-true, eqb-false, le-ltb, lt-ltb, cases_lt}
use Rattle.std.proofs.lemmas.Grind.{get_or-set_at}
use Rattle.std.proofs.lemmas.Option.{slice_get-get_or, get_or_from_slice_get}
use Rattle.std.proofs.lemmas.List.{append-nil, take_all, drop_all}
use Rattle.std.proofs.lemmas.List.FromFn.{length-map-range_with_len, get_or-map-range_with_len}
use Rattle.squeue_run.specs.declared.generator.Client.{Client}
use Rattle.squeue_run.specs.GeneratedCapture.{below, next_state, state_at, draw, isn, iss, text_len, sent_before, round_text, text_before, text_at, drawn_text, numbers_at, ends_of, segment_at, record_of, record_at}
use Rattle.squeue_run.specs.GeneratorState.{client_at, Ready}
use Rattle.squeue_run.proofs.GeneratorSteps.{state_more, drawn, drawn_more, sent_more, round_text_more, text_more, below_next}

-- one byte of text more
pub state_step : (number from n old new : ℕ) → old ≡ state_at number (from + n) → new ≡ next_state old → new ≡ state_at number (from + (n + 1))
state_step number from n old new o s =
    s ∙ ap next_state o ∙ sym (state_more number (from + n)) ∙ ap (state_at number) (let e : from + n + 1 ≡ from + (n + 1) = omega arith in e)

pub value_is : (number k old new v : ℕ) → old ≡ state_at number k → new ≡ next_state old → v ≡ new / 2 ^ 32 → v ≡ draw number k
value_is number k old new v o s e = e ∙ ap (λ x. x / 2 ^ 32) (s ∙ ap next_state o) ∙ sym (drawn number k)

pub byte_more : (number from n old new v : ℕ) (bytes more : List ℕ) → old ≡ state_at number (from + n) → new ≡ next_state old → v ≡ new / 2 ^ 32
    → bytes ≡ drawn_text number from n → more ≡ bytes ++ v % 256 ∷ [] → more ≡ drawn_text number from (n + 1)
byte_more number from n old new v bytes more o s e b m =
    m ∙ (λ i. b i ++ value_is number (from + n) old new v o s e i % 256 ∷ []) ∙ sym (drawn_more number from n)

-- a new client
pub client_new : (number c s t u v w : ℕ) (e : Bool) → s ≡ state_at number (2 * c) → t ≡ next_state s → v ≡ t / 2 ^ 32 → u ≡ next_state t → w ≡ u / 2 ^ 32 → e ≡ eqb (c % 2) 0
    → record { isn = v; iss = w; sent = 0; echoed = e } ≡ client_at number 0 c
unfolding client_at sent_before
client_new number c s t u v w e at first one second two even =
    let i = value_is number (2 * c) s t v at first one in
    let j = value_is number (2 * c + 1) t u w (first ∙ ap next_state at ∙ sym (state_more number (2 * c))) second two in
    λ k. record { isn = i k; iss = j k; sent = 0; echoed = even k }

pub two_draws : (number c s t u : ℕ) → s ≡ state_at number (2 * c) → t ≡ next_state s → u ≡ next_state t → u ≡ state_at number (2 * (c + 1))
two_draws number c s t u at first second =
    second ∙ ap next_state (first ∙ ap next_state at ∙ sym (state_more number (2 * c))) ∙ sym (state_more number (2 * c + 1))
    ∙ ap (state_at number) (let e : 2 * c + 1 + 1 ≡ 2 * (c + 1) = omega arith in e)

-- so many new clients
abbrev pub new_clients : ℕ → ℕ → List Client
new_clients number n = map (client_at number 0) (below n)

pub new_more : (number c : ℕ) (x : Client) (cs : List Client) → cs ≡ new_clients number c → x ≡ client_at number 0 c → cs ++ x ∷ [] ≡ new_clients number (c + 1)
new_more number c x cs e f = (λ i. e i ++ f i ∷ []) ∙ sym (ap (map (client_at number 0)) (below_next c) ∙ map_push (below c))
  where
    map_push : (xs : List ℕ) → map (client_at number 0) (xs ++ c ∷ []) ≡ map (client_at number 0) xs ++ client_at number 0 c ∷ []
    map_push [] = refl
    map_push (y ∷ ys) = ap (λ l. client_at number 0 y ∷ l) (map_push ys)

dummy : Client
dummy = record { isn = 0; iss = 0; sent = 0; echoed = false }

pub ready_first : (number c state : ℕ) (cs : List Client) → c ≡ 1000 → cs ≡ new_clients number c → state ≡ state_at number (2 * c) → Ready number 0 0 state cs
unfolding text_before round_text
ready_first number c state cs all e s = record {
  count = ap length e ∙ length-map-range_with_len (client_at number 0) 0 c ∙ all;
  each = λ d lt.
      let inside : d < c = omega (arith, lt, all) in
      let room : d < length cs = omega (arith, lt, ap length e ∙ length-map-range_with_len (client_at number 0) 0 c, all) in
      let start : 0 + d ≡ d = omega arith in
      slice_get-get_or cs d dummy room
      ∙ ap Some (ap (λ l. get_or l d dummy) e ∙ get_or-map-range_with_len (client_at number 0) 0 c d d dummy inside start
      ∙ ap (λ b. client_at number (cond b (0 + 1) 0) d) (sym (le-ltb d 0 (omega arith))));
  drawn = s ∙ ap (λ n. state_at number (2 * n)) all;
}

no_conn : (round : ℕ) → round_text round 0 ≡ 0
unfolding round_text
no_conn round = refl

module _ (number round c state : ℕ) (cs : List Client) (r : Ready number round c state cs) where
  -- the client whose turn it is
  pub in_turn : c < 1000 → slice_get cs c ≡ Some (client_at number round c)
  in_turn lt = r.each c lt ∙ ap (λ b. Some (client_at number (cond b (round + 1) round) c)) (le-ltb c c (omega arith))

  pub turn : (d : Client) → c < 1000 → get_or cs c d ≡ client_at number round c
  turn d lt = get_or_from_slice_get cs c (client_at number round c) d (in_turn lt)

  pub ready_more : (new : ℕ) (x : Client) → c < 1000 → x ≡ client_at number (round + 1) c
      → new ≡ state_at number (2000 + text_before round + round_text round c + text_len round c) → Ready number round (c + 1) new (set cs c x)
  ready_more new x lt e s = record {
    count = length-set cs c x ∙ r.count;
    each = λ d few. at d few (eqb d c) refl;
    drawn = s ∙ ap (state_at number) (let n : 2000 + text_before round + round_text round c + text_len round c ≡ 2000 + text_before round + round_text round (c + 1) = omega (arith, round_text_more round c) in n);
  }
    where
      past : (d : ℕ) → (d ≡ c → ⊥) → (d < c) ⊎ (c ≤ d) → ltb d c ≡ ltb d (c + 1)
      past d ne (inl less) = lt-ltb d c less ∙ sym (lt-ltb d (c + 1) (omega (arith, less)))
      past d ne (inr more) = le-ltb d c more ∙ sym (le-ltb d (c + 1) (let far : c + 1 ≤ d = omega (arith, more, ne) in far))

      at : (d : ℕ) → d < 1000 → (b : Bool) → eqb d c ≡ b → slice_get (set cs c x) d ≡ Some (client_at number (cond (ltb d (c + 1)) (round + 1) round) d)
      at d few true f =
          let same = eqb-true d c f in
          let room : d < length (set cs c x) = omega (arith, few, length-set cs c x, r.count) in
          let inside : c < length cs = omega (arith, lt, r.count) in
          slice_get-get_or (set cs c x) d dummy room
          ∙ ap Some (get_or-set_at cs c d x dummy same inside ∙ e ∙ ap (client_at number (round + 1)) (sym same)
          ∙ ap (λ b. client_at number (cond b (round + 1) round) d) (sym (lt-ltb d (c + 1) (let less : d < c + 1 = omega (arith, same) in less))))
      at d few false f =
          let ne = eqb-false d c f in
          let room : d < length (set cs c x) = omega (arith, few, length-set cs c x, r.count) in
          let old_room : d < length cs = omega (arith, few, r.count) in
          slice_get-get_or (set cs c x) d dummy room ∙ ap Some (get_or-set_other cs c d x dummy ne) ∙ sym (slice_get-get_or cs d dummy old_room)
          ∙ r.each d few ∙ ap (λ b. Some (client_at number (cond b (round + 1) round) d)) (past d ne (cases_lt d c))

  -- a round is done
  pub ready_round : c ≡ 1000 → Ready number (round + 1) 0 state cs
  ready_round all = record {
    count = r.count;
    each = λ d few.
        r.each d few ∙ ap (λ b. Some (client_at number (cond b (round + 1) round) d)) (lt-ltb d c (let lt : d < c = omega arith in lt))
        ∙ ap (λ b. Some (client_at number (cond b (round + 1 + 1) (round + 1)) d)) (sym (le-ltb d 0 (omega arith)));
    drawn = r.drawn ∙ ap (state_at number) (let n : 2000 + text_before round + round_text round c ≡ 2000 + text_before (round + 1) + round_text (round + 1) 0 = omega (arith, text_more round, ap (round_text round) all, no_conn (round + 1)) in n);
  }

-- a client's segment as a record
pub segment_is : (number round c at flags seq ack : ℕ) (text : List ℕ) → at ≡ 10 * (1000 * round + c) → flags ≡ (numbers_at number round c).flags
    → seq ≡ (numbers_at number round c).seq → ack ≡ (numbers_at number round c).ack → text ≡ text_at number round c
    → plain at flags seq ack 65535 text ≡ segment_at number round c
unfolding segment_at
segment_is number round c at flags seq ack text e f g h i =
    λ k. plain (e k) (f k) (g k) (h k) 65535 (i k)

pub record_is : (number round c : ℕ) (body : List ℕ) (t : Tuple) (r : Reply) → body ≡ segment_bytes t r → t ≡ ends_of c → r ≡ segment_at number round c
    → record_of (10 * (1000 * round + c)) body ≡ record_at number round c
unfolding record_at
record_is number round c body t r b e f = ap (record_of (10 * (1000 * round + c))) (b ∙ (λ k. segment_bytes (e k) (f k)))

-- a client after its segment
pub client_next : (number round c len : ℕ) (x : Client) → x ≡ client_at number round c → len ≡ text_len round c
    → record { isn = x.isn; iss = x.iss; sent = (x.sent + len) % 4294967296; echoed = x.echoed } ≡ client_at number (round + 1) c
unfolding client_at
client_next number round c len x e l =
    let sent : (sent_before round c % 4294967296 + len) % 4294967296 ≡ sent_before (round + 1) c % 4294967296 = omega (arith, sent_more round c, l) in
    (λ k. record { isn = (e k).isn; iss = (e k).iss; sent = ((e k).sent + len) % 4294967296; echoed = (e k).echoed })
    ∙ (λ k. record { isn = isn number c; iss = iss number c; sent = sent k; echoed = eqb (c % 2) 0 })

-- a table that was lent whole
pub given_back : (len : ℕ) (new old : List Client) → len ≡ 1000 → length new ≡ 1000 → length old ≡ 1000 → take len (new ++ drop (length new) old) ≡ new
given_back len new old l n o =
    ap (λ xs. take len (new ++ xs)) (drop_all (length new) old (let e : length old ≤ length new = omega (arith, n, o) in e))
    ∙ ap (take len) (append-nil new) ∙ take_all len new (let e : length new ≤ len = omega (arith, l, n) in e)
