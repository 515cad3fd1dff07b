-- What items make of a chat.
use Rattle.std.proofs.Common.{◌≡◌, ℕ, min, ◌⊎◌, inl, inr, Bool, true, false, not, ◌||◌, Option, None, Some, List, [], ◌∷◌, ◌++◌, refl, sym, ◌∙◌, ap, true≢false, Global, Vec}
use Rattle.segment_codec.specs.declared.packet.Seg.{Seg}
use Rattle.sq_base.specs.declared.kinds.Tuple.{Tuple}
use Rattle.tcb_machine.specs.Limits.{last_time}
use Rattle.live_server.specs.declared.acting.Datagram.{Datagram}
use Rattle.live_server.specs.declared.conn.Conn.{Conn}
use Rattle.live_server.specs.declared.conn.Met.{Met}
use Rattle.live_server.specs.declared.measures.Measures.{Measures}
use Rattle.squeue_streams.specs.Taking.{Takes, items_of, state_of}
use Rattle.live_chats.specs.Hearing.{ChatOf, Hears, hearing, hearing_all, is_opening, losing, meeting, nobody, shortening, silent, timing, urging}
use Rattle.live_chats.specs.Telling.{ItemsTell}
use Rattle.live_chats.specs.declared.item.ChatItem.{ChatItem}
use Rattle.live_chats.specs.declared.item.ChatItem.TheVariants.{Meets, Opens, Shortens, Time, Urges}

-- nothing of the answer before stays
pub hearing-silent : (x : ChatItem) (c : ChatOf) → hearing x (silent c) ≡ hearing x c
unfolding hearing
hearing-silent (Opens ends conn) c = refl
hearing-silent (Meets now iss seg text) c =
    elim c.conn as (λ o. meeting (min now last_time) iss seg text.items o (silent c) ≡ meeting (min now last_time) iss seg text.items o c) [ None ↦ refl | Some d ↦ refl ]
hearing-silent (Shortens seq most) c = elim c.conn as (λ o. shortening seq most o (silent c) ≡ shortening seq most o c) [ None ↦ refl | Some d ↦ refl ]
hearing-silent (Urges now pointer seg) c = elim c.conn as (λ o. urging now pointer seg o (silent c) ≡ urging now pointer seg o c) [ None ↦ refl | Some d ↦ refl ]
hearing-silent (Time measures now) c = elim c.conn as (λ o. timing measures (min now last_time) o (silent c) ≡ timing measures (min now last_time) o c) [ None ↦ refl | Some d ↦ refl ]

-- an item doesn't lose memory
hearing-here : (x : ChatItem) (c : ChatOf) → c.lost ≡ false → (hearing x c).lost ≡ false
unfolding hearing
hearing-here (Opens ends conn) c here = refl
hearing-here (Meets now iss seg text) c here =
    elim c.conn as (λ o. (meeting (min now last_time) iss seg text.items o c).lost ≡ false) [ None ↦ here | Some d ↦ here ]
hearing-here (Shortens seq most) c here = elim c.conn as (λ o. (shortening seq most o c).lost ≡ false) [ None ↦ here | Some d ↦ here ]
hearing-here (Urges now pointer seg) c here = elim c.conn as (λ o. (urging now pointer seg o c).lost ≡ false) [ None ↦ here | Some d ↦ here ]
hearing-here (Time measures now) c here = elim c.conn as (λ o. (timing measures (min now last_time) o c).lost ≡ false) [ None ↦ here | Some d ↦ here ]

pub hearing_all-here : (xs : List ChatItem) (c : ChatOf) → c.lost ≡ false → (hearing_all xs c).lost ≡ false
hearing_all-here [] c here = here
hearing_all-here (x ∷ xs) c here = hearing_all-here xs (hearing x c) (hearing-here x c here)

-- where a connection begins nothing stays of what was
opening_forgets : (x : ChatItem) (c d : ChatOf) → is_opening x ≡ true → hearing x c ≡ hearing x d
unfolding hearing
opening_forgets (Opens ends conn) c d is = refl
opening_forgets (Meets now iss seg text) c d is = absurd (true≢false (sym is))
opening_forgets (Shortens seq most) c d is = absurd (true≢false (sym is))
opening_forgets (Urges now pointer seg) c d is = absurd (true≢false (sym is))
opening_forgets (Time measures now) c d is = absurd (true≢false (sym is))

-- a segment, what a router says of one, and the time leave the ends
pub meets_keeps_ends : (now iss : ℕ) (seg : Seg) (text : Vec ℕ Global) (c : ChatOf) → (hearing (Meets now iss seg text) c).ends ≡ c.ends
unfolding hearing
meets_keeps_ends now iss seg text c = elim c.conn as (λ o. (meeting (min now last_time) iss seg text.items o c).ends ≡ c.ends) [ None ↦ refl | Some d ↦ refl ]

pub shortens_keeps_ends : (seq most : ℕ) (c : ChatOf) → (hearing (Shortens seq most) c).ends ≡ c.ends
unfolding hearing
shortens_keeps_ends seq most c = elim c.conn as (λ o. (shortening seq most o c).ends ≡ c.ends) [ None ↦ refl | Some d ↦ refl ]

pub urges_keeps_ends : (now pointer : ℕ) (seg : Seg) (c : ChatOf) → (hearing (Urges now pointer seg) c).ends ≡ c.ends
unfolding hearing
urges_keeps_ends now pointer seg c = elim c.conn as (λ o. (urging now pointer seg o c).ends ≡ c.ends) [ None ↦ refl | Some d ↦ refl ]

pub time_keeps_ends : (measures : Measures) (now : ℕ) (c : ChatOf) → (hearing (Time measures now) c).ends ≡ c.ends
unfolding hearing
time_keeps_ends measures now c = elim c.conn as (λ o. (timing measures (min now last_time) o c).ends ≡ c.ends) [ None ↦ refl | Some d ↦ refl ]

-- where it is lost, and no connection begins
passed_by : (lost opens : Bool) → (not lost || opens) ≡ false → (lost ≡ true) × (opens ≡ false)
passed_by true opens e = (refl, e)
passed_by false opens e = absurd (true≢false e)

pub passed_over : (x : ChatItem) (old to : ChatOf) → (not old.lost || is_opening x) ≡ false → to ≡ old → Hears old x to
passed_over x old to e same =
    let it = passed_by old.lost (is_opening x) e in
    record {
      begins = λ b. absurd (true≢false (sym b ∙ it.1));
      hears = λ h. absurd (true≢false (sym it.0 ∙ (ap (λ (c : ChatOf). c.lost) (sym same) ∙ h)));
      loses = λ h _. absurd (true≢false (sym it.0 ∙ h));
      stopped = λ _ _. same;
    }

-- where an item was told to one that isn't lost, or that begins, and the answer before was taken away first
module _ (x : ChatItem) (ends : Tuple) (conn : Option Conn) (sent now_sent : List Datagram) (met : Option Met) (lost : Bool) (old to : ChatOf)
    (was : record { ends = ends; conn = conn; sent = sent; met = met; lost = lost } ≡ old) (none : now_sent ≡ []) (takes : (not old.lost || is_opening x) ≡ true) where
  abbrev before : ChatOf
  before = record { ends = ends; conn = conn; sent = now_sent; met = None; lost = lost }

  not_stopped : old.lost ≡ true → is_opening x ≡ false → to ≡ old
  not_stopped l other = absurd (true≢false (sym takes ∙ (λ j. not (l j) || other j)))

  -- it was heard
  pub heard_so : to ≡ hearing x before → Hears old x to
  heard_so is =
      let empty : before ≡ silent old = (λ j. record { ends = ends; conn = conn; sent = none j; met = None; lost = lost }) ∙ ap silent was in
      let its : to ≡ hearing x old = is ∙ ap (hearing x) empty ∙ hearing-silent x old in
      record {
        begins = λ _. its;
        hears = λ _. its;
        loses = λ h l. absurd (true≢false (sym l ∙ (ap (λ (c : ChatOf). c.lost) its ∙ hearing-here x old h)));
        stopped = not_stopped;
      }

  -- memory was missing
  pub lost_so : (t : Tuple) → is_opening x ≡ false → t ≡ ends → to ≡ record { ends = t; conn = None; sent = []; met = None; lost = true } → Hears old x to
  lost_so t other same is =
      let its : to ≡ losing old = is ∙ (λ j. record { ends = (same ∙ ap (λ (c : ChatOf). c.ends) was) j; conn = None; sent = []; met = None; lost = true }) in
      record {
        begins = λ b. absurd (true≢false (sym b ∙ other));
        hears = λ h. absurd (true≢false (ap (λ (c : ChatOf). c.lost) (sym is) ∙ h));
        loses = λ _ _. its;
        stopped = not_stopped;
      }

-- items behind items
pub hearing_all-append : (xs ys : List ChatItem) (c : ChatOf) → hearing_all (xs ++ ys) c ≡ hearing_all ys (hearing_all xs c)
hearing_all-append [] ys c = refl
hearing_all-append (x ∷ xs) ys c = hearing_all-append xs ys (hearing x c)

-- One that isn't lost is what its items make of it. Where memory was missing since, a connection has begun behind that
pub told_all : (xs : List ChatItem) (from ideal to : ChatOf) → Takes Hears from xs to → (from.lost ≡ true) ⊎ (from ≡ ideal) → to.lost ≡ false → to ≡ hearing_all xs ideal
told_all [] from ideal to h (inl lost) here = absurd (true≢false (sym lost ∙ sym (ap (λ (c : ChatOf). c.lost) h) ∙ here))
told_all [] from ideal to h (inr same) here = h ∙ same
told_all (x ∷ xs) from ideal to (next, one, more) so here = told_all xs next (hearing x ideal) to more (by (is_opening x) refl next.lost refl so) here
  where
    by : (b : Bool) → is_opening x ≡ b → (l : Bool) → next.lost ≡ l → (from.lost ≡ true) ⊎ (from ≡ ideal) → (next.lost ≡ true) ⊎ (next ≡ hearing x ideal)
    by true opens l is so = inr (one.begins opens ∙ opening_forgets x from ideal opens)
    by false other true is so = inl is
    by false other false is (inl lost) = absurd (true≢false (sym lost ∙ sym (ap (λ (c : ChatOf). c.lost) (one.stopped lost other)) ∙ is))
    by false other false is (inr same) = inr (one.hears is ∙ ap (hearing x) same)

pub items_tell : ItemsTell
items_tell o c s h here = told_all (items_of s) h.first nobody (state_of s) h.taken (inr h.begun.nobody_is) here
