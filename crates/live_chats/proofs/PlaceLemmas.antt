-- What stands at places, from one call to the next.
use Rattle.std.proofs.Common.{◌≡◌, ℕ, Option, None, Some, List, [], ◌∷◌, ◌++◌, ◌+◌, slice_get, refl, sym, ap, subst, ◌∙◌, Global, Box, Bool, true, false, true≢false, Result, Ok, Err, is_ok, MatchResult}
use Rattle.sq_base.specs.declared.kinds.Tuple.{Tuple}
use Rattle.live_server.specs.declared.conn.Conn.{Conn}
use Rattle.squeue_streams.specs.Taking.{state_of}
use Rattle.stream_stays.specs.declared.place.Place.{Place}
use Rattle.stream_stays.specs.declared.place.Place.TheVariants.{Open, Out, Vacant as Vacant'}
use Rattle.stream_stays.specs.declared.place.Stays.{Stays}
use Rattle.stream_stays.specs.declared.stay.Stay.{Stay}
use Rattle.stream_stays.specs.declared.stay.Vacant.{Vacant}
use Rattle.stream_stays.specs.Places.{IsOpen, SameElsewhere, place_at, places_of}
use Rattle.stream_stays.specs.Staying.{pushed_of}
use Rattle.stream_stays.specs.Settling.{Collected, SameAt, SamePlaces, sent_in, WasCollected}
use Rattle.live_chats.specs.Accounts.{pushed_at, pushed_in}
use Rattle.live_chats.specs.Hearing.{ChatOf, hearing, hearing_all, nobody}
use Rattle.live_chats.specs.Listening.{IsAnswer, Listens, Writes}
use Rattle.live_chats.specs.Seating.{Begins, KeptBut, KeptOpen, chat_at}
use Rattle.live_chats.specs.Telling.{IsFirst, Tells}
use Rattle.live_chats.specs.declared.chats.Chats.{Chats}
use Rattle.live_chats.specs.declared.ear.Ear.{Ear}
use Rattle.live_chats.specs.declared.item.ChatItem.{ChatItem}
use Rattle.live_chats.specs.declared.item.ChatItem.TheVariants.{Opens}
use Rattle.live_server.specs.declared.acting.Datagram.{Datagram}
use Rattle.live_server.proofs.WrittenLemmas.{nothing_sent}
use Rattle.live_chats.proofs.HearLemmas.{hearing_all-append, items_tell}

-- the same was pushed at a place
pub chat_same : (a b : Stays ChatItem ChatOf) (c : ℕ) → sent_in (place_at b c) ≡ sent_in (place_at a c) → chat_at b c ≡ chat_at a c
unfolding chat_at
chat_same a b c e = ap (λ (xs : List ChatItem). hearing_all xs nobody) e

-- one item more was
pub chat_told : (a b : Stays ChatItem ChatOf) (c : ℕ) (x : ChatItem) → sent_in (place_at b c) ≡ sent_in (place_at a c) ++ x ∷ [] → chat_at b c ≡ hearing x (chat_at a c)
unfolding chat_at
chat_told a b c x e = ap (λ (xs : List ChatItem). hearing_all xs nobody) e ∙ hearing_all-append (sent_in (place_at a c)) (x ∷ []) nobody

pub elsewhere_kept : (c : ℕ) (a b : Stays ChatItem ChatOf) → SameElsewhere c a b → KeptBut c a b
elsewhere_kept c a b h = record {
  opens = λ d ne o. (o.0, h.others d ne ∙ o.1);
  chats = λ d ne. chat_same a b d (ap sent_in (h.others d ne));
  pushed = λ d ne. ap pushed_in (h.others d ne);
}

open_so : (p q : Option (Place ChatItem ChatOf)) (stay : Stay ChatItem) → SameAt p q → p ≡ Some (Open stay) → (s : Stay ChatItem) × (q ≡ Some (Open s))
open_so p q stay h e = by q (subst (λ o. SameAt o q) e h)
  where
    by : (o : Option (Place ChatItem ChatOf)) → SameAt (Some (Open stay)) o → (s : Stay ChatItem) × (o ≡ Some (Open s))
    by None x = absurd x
    by (Some (Vacant' v)) x = absurd x
    by (Some (Open s)) x = (s, refl)
    by (Some Out) x = absurd x

-- a part stays where the places are settled
pub open_kept : (a b : Stays ChatItem ChatOf) → SamePlaces a b → (d : ℕ) → IsOpen a d → IsOpen b d
open_kept a b h d o = open_so (place_at a d) (place_at b d) o.0 (h.each d) o.1

-- and as much was pushed
pushed_same : (p q : Option (Place ChatItem ChatOf)) → SameAt p q → pushed_in q ≡ pushed_in p
pushed_same None q h = ap pushed_in h
pushed_same (Some (Vacant' v)) q h = ap pushed_in h
pushed_same (Some Out) q h = ap pushed_in h
pushed_same (Some (Open a)) None h = absurd h
pushed_same (Some (Open a)) (Some (Vacant' v)) h = absurd h
pushed_same (Some (Open a)) (Some Out) h = absurd h
pushed_same (Some (Open a)) (Some (Open b)) h = h.pushed

-- so the others are kept from a push over an entry to where it is settled
pub told_kept : (c : ℕ) (a b d e : Stays ChatItem ChatOf) → SameElsewhere c a b → places_of d ≡ places_of b → SamePlaces d e → ((k : ℕ) → sent_in (place_at e k) ≡ sent_in (place_at d k)) → KeptBut c a e
told_kept c a b d e push enter settle sent =
    let there : (k : ℕ) → place_at d k ≡ place_at b k = λ k. ap (λ (ps : List (Place ChatItem ChatOf)). slice_get ps k) enter in
    record {
      opens = λ k ne o. open_kept d e settle k (o.0, there k ∙ push.others k ne ∙ o.1);
      chats = λ k ne. chat_same a e k (sent k ∙ ap sent_in (there k ∙ push.others k ne));
      pushed = λ k ne. pushed_same (place_at d k) (place_at e k) (settle.each k) ∙ ap pushed_in (there k ∙ push.others k ne);
    }

pub told_open : (c : ℕ) (b d e : Stays ChatItem ChatOf) → IsOpen b c → places_of d ≡ places_of b → SamePlaces d e → IsOpen e c
told_open c b d e o enter settle = open_kept d e settle c (o.0, ap (λ (ps : List (Place ChatItem ChatOf)). slice_get ps c) enter ∙ o.1)

pub told_so : (c : ℕ) (x : ChatItem) (a b d e : Stays ChatItem ChatOf) → sent_in (place_at b c) ≡ sent_in (place_at a c) ++ x ∷ [] → places_of d ≡ places_of b → ((k : ℕ) → sent_in (place_at e k) ≡ sent_in (place_at d k))
    → chat_at e c ≡ hearing x (chat_at a c)
told_so c x a b d e push enter sent = chat_told a e c x (sent c ∙ ap (λ (ps : List (Place ChatItem ChatOf)). sent_in (slice_get ps c)) enter ∙ push)

-- where one item was pushed, one more was when it is settled
pub told_pushed : (c : ℕ) (a b d e : Stays ChatItem ChatOf) (stay next : Stay ChatItem) → place_at a c ≡ Some (Open stay) → place_at b c ≡ Some (Open next)
    → pushed_of next ≡ pushed_of stay + 1 → places_of d ≡ places_of b → SamePlaces d e → pushed_at e c ≡ pushed_at a c + 1
told_pushed c a b d e stay next was is more enter settle =
    pushed_same (place_at d c) (place_at e c) (settle.each c)
    ∙ ap pushed_in (ap (λ (ps : List (Place ChatItem ChatOf)). slice_get ps c) enter ∙ is)
    ∙ more ∙ ap (λ (o : Option (Place ChatItem ChatOf)). pushed_in o + 1) (sym was)

-- the same where a place took nothing until what waited was entered
pub pushed_late : (c : ℕ) (a b d e : Stays ChatItem ChatOf) → SameElsewhere c a b → places_of d ≡ places_of b → SameElsewhere c d e → KeptBut c a e
pushed_late c a b d e first enter last =
    let there : (k : ℕ) → place_at d k ≡ place_at b k = λ k. ap (λ (ps : List (Place ChatItem ChatOf)). slice_get ps k) enter in
    record {
      opens = λ k ne o. (o.0, last.others k ne ∙ there k ∙ first.others k ne ∙ o.1);
      chats = λ k ne. chat_same a e k (ap sent_in (last.others k ne ∙ there k ∙ first.others k ne));
      pushed = λ k ne. ap pushed_in (last.others k ne ∙ there k ∙ first.others k ne);
    }

pub pushed_yes : {X E : Type 0} (r : Result X E) (P Q : Type 0) (b : Bool) → b ≡ is_ok r → MatchResult r (λ _. P) (λ _. Q) → b ≡ true → P
pushed_yes (Ok x) P Q b is h so = h
pushed_yes (Err e) P Q b is h so = absurd (true≢false (sym so ∙ is))

pub pushed_no : {X E : Type 0} (r : Result X E) (P Q : Type 0) (b : Bool) → b ≡ is_ok r → MatchResult r (λ _. P) (λ _. Q) → b ≡ false → Q
pushed_no (Ok x) P Q b is h so = absurd (true≢false (sym is ∙ so))
pushed_no (Err e) P Q b is h so = h

-- how many were pushed where an item is pushed, taken or not
module _ {X E : Type 0} (A B : Type 0) (D : E → Type 0) (m n : ℕ) where
  pub counted_yes : (r : Result X E) (b : Bool) → b ≡ is_ok r → MatchResult r (λ _. A × (n ≡ m + 1)) (λ x. D x × B × (n ≡ m)) → b ≡ true → n ≡ m + 1
  counted_yes (Ok x) b is h so = h.1
  counted_yes (Err e) b is h so = absurd (true≢false (sym so ∙ is))

  pub counted_no : (r : Result X E) (b : Bool) → b ≡ is_ok r → MatchResult r (λ _. A × (n ≡ m + 1)) (λ x. D x × B × (n ≡ m)) → b ≡ false → n ≡ m
  counted_no (Ok x) b is h so = absurd (true≢false (sym is ∙ so))
  counted_no (Err e) b is h so = h.2

-- all parts stay over an entry and a settle
pub settled_open : (a d e : Stays ChatItem ChatOf) → places_of d ≡ places_of a → SamePlaces d e → ((k : ℕ) → sent_in (place_at e k) ≡ sent_in (place_at d k)) → KeptOpen a e
settled_open a d e enter settle sent =
    let there : (k : ℕ) → place_at d k ≡ place_at a k = λ k. ap (λ (ps : List (Place ChatItem ChatOf)). slice_get ps k) enter in
    record {
      opens = λ k o. open_kept d e settle k (o.0, there k ∙ o.1);
      chats = λ k o. chat_same a e k (sent k ∙ ap sent_in (there k));
      pushed = λ k o. pushed_same (place_at d k) (place_at e k) (settle.each k) ∙ ap pushed_in (there k);
    }

-- a state that was shown at a place, and isn't lost, is the chat there
pub shown_chat : {V : Type 0} {takes : V → V → ℕ → ChatOf → Type 0} (o : Chats) (c : ℕ) (d e : Stays ChatItem ChatOf) (from to : V)
    (shown : WasCollected IsFirst Tells takes o from to c (sent_in (place_at d c))) → sent_in (place_at e c) ≡ sent_in (place_at d c) → (state_of shown.part).lost ≡ false → state_of shown.part ≡ chat_at e c
unfolding chat_at
shown_chat o c d e from to shown sent here = items_tell o c shown.part shown.its_own here ∙ ap (λ (xs : List ChatItem). hearing_all xs nobody) (shown.all ∙ sym sent)

-- what went out of it is some of what the chat sent
pub shown_writes : {V : Type 0} {takes : V → V → ℕ → ChatOf → Type 0} (o : Chats) (c : ℕ) (d e : Stays ChatItem ChatOf) (from to : V)
    (shown : WasCollected IsFirst Tells takes o from to c (sent_in (place_at d c))) → sent_in (place_at e c) ≡ sent_in (place_at d c)
    → (before after : List Datagram) → Writes (state_of shown.part) before after → Writes (chat_at e c) before after
shown_writes o c d e from to shown sent before after w = by (state_of shown.part).lost refl
  where
    by : (b : Bool) → (state_of shown.part).lost ≡ b → Writes (chat_at e c) before after
    by true lost = record { lost = λ _. w.lost lost; part = nothing_sent before after _ (w.lost lost) }
    by false here = subst (λ (x : ChatOf). Writes x before after) (shown_chat o c d e from to shown sent here) w

-- who listened where one place was settled heard its chat
pub listened : (o : Chats) (c : ℕ) (d e : Stays ChatItem ChatOf) (ts : List ℕ) (from to : Ear) → ts ≡ c ∷ [] → Collected IsFirst Tells Listens o d ts from to
    → ((k : ℕ) → sent_in (place_at e k) ≡ sent_in (place_at d k)) → Listens from to c (chat_at e c)
listened o c d e ts from to one all sent =
    let there : (next : Ear) × _ × (to ≡ next) = subst (λ l. Collected IsFirst Tells Listens o d l from to) one all in
    let shown = there.1 in
    record {
      heard = λ h is. (
          let answer = shown.took.heard h (ap (λ (x : Ear). x.heard) (sym there.2) ∙ is) in
          let its : state_of shown.part ≡ chat_at e c = shown_chat o c d e from there.0 shown (sent c) answer.here in
          subst (λ (x : Ear). IsAnswer (chat_at e c) h from.out.items x.out.items) (sym there.2)
          (subst (λ (x : ChatOf). IsAnswer x h from.out.items there.0.out.items) its answer));
      wrote = subst (λ (x : Ear). Writes (chat_at e c) from.out.items x.out.items) (sym there.2)
          (shown_writes o c d e from there.0 shown (sent c) from.out.items there.0.out.items shown.took.wrote);
    }

-- a place was opened
pub opened_so : (c : ℕ) (a b : Stays ChatItem ChatOf) → SameElsewhere c a b → (v : Vacant ChatItem ChatOf) (s : Stay ChatItem) → place_at a c ≡ Some (Vacant' v) → place_at b c ≡ Some (Open s)
    → IsOpen b c × (IsOpen a c → ⊥) × KeptBut c a b
opened_so c a b h v s was is = ((s, is), no, elsewhere_kept c a b h)
  where
    no : IsOpen a c → ⊥
    no o = clash (sym was ∙ o.1)
      where
        clash : Some (Vacant' v) ≡ Some (Open o.0) → ⊥
        clash e = cc

pub kept_on : (c : ℕ) (a b d : Stays ChatItem ChatOf) → KeptBut c a b → KeptBut c b d → KeptBut c a d
kept_on c a b d h k = record {
  opens = λ e ne o. k.opens e ne (h.opens e ne o);
  chats = λ e ne. k.chats e ne ∙ h.chats e ne;
  pushed = λ e ne. k.pushed e ne ∙ h.pushed e ne;
}

-- where no part was at the one place, all others are kept
pub kept_open : (c : ℕ) (a b : Stays ChatItem ChatOf) → (IsOpen a c → ⊥) → KeptBut c a b → KeptOpen a b
kept_open c a b out k = record {
  opens = λ d o. k.opens d (λ e. out (subst (IsOpen a) e o)) o;
  chats = λ d o. k.chats d (λ e. out (subst (IsOpen a) e o));
  pushed = λ d o. k.pushed d (λ e. out (subst (IsOpen a) e o));
}

pub open_on : (c : ℕ) (a b d : Stays ChatItem ChatOf) → (IsOpen a c → ⊥) → KeptOpen a b → KeptBut c b d → KeptOpen a d
open_on c a b d out h k = record {
  opens = λ e o. k.opens e (λ x. out (subst (IsOpen a) x o)) (h.opens e o);
  chats = λ e o. k.chats e (λ x. out (subst (IsOpen a) x o)) ∙ h.chats e o;
  pushed = λ e o. k.pushed e (λ x. out (subst (IsOpen a) x o)) ∙ h.pushed e o;
}

pub all_open : (a b : Stays ChatItem ChatOf) → b ≡ a → KeptOpen a b
all_open a b e = record {
  opens = λ d o. subst (λ (x : Stays ChatItem ChatOf). IsOpen x d) (sym e) o;
  chats = λ d o. ap (λ (x : Stays ChatItem ChatOf). chat_at x d) e;
  pushed = λ d o. ap (λ (x : Stays ChatItem ChatOf). pushed_at x d) e;
}

-- a connection began
pub begun : (c : ℕ) (ends : Tuple) (conn : Box Conn Global) (a b d : Stays ChatItem ChatOf) → (IsOpen a c → ⊥) → IsOpen d c → chat_at d c ≡ hearing (Opens ends conn) (chat_at b c)
    → pushed_at b c ≡ 0 → pushed_at d c ≡ pushed_at b c + 1 → Begins c ends conn.value a d
unfolding hearing
begun c ends conn a b d out is told none one = record {
  was_not = out;
  is_open = is;
  ends_are = ap (λ (x : ChatOf). x.ends) told;
  conn_is = ap (λ (x : ChatOf). x.conn) told;
  one = one ∙ ap (λ (n : ℕ). n + 1) none;
}
