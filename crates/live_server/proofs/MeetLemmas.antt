-- What a segment meets at a connection, behind the time.
use Rattle.std.proofs.Common.{◌≡◌, ℕ, Bool, true, false, cond, List, ◌++◌, refl, sym, ap, subst, ◌∙◌, true≢false, append_assoc}
use Rattle.segment_codec.specs.declared.packet.Seg.{Seg}
use Rattle.sq_base.specs.declared.kinds.Tuple.{Tuple}
use Rattle.live_server.specs.Acts.{Meeting, emptied, is_over, judged, meets, reached, receives, sent_by}
use Rattle.live_server.specs.Written.{HasSent}
use Rattle.live_server.specs.declared.acting.Datagram.{Datagram}
use Rattle.live_server.specs.declared.conn.Conn.{Conn}
use Rattle.live_server.specs.declared.conn.Judged.{Judged}
use Rattle.live_server.specs.declared.conn.Met.{Met}
use Rattle.live_server.specs.declared.conn.Met.TheVariants.{Gone, Judged as judges}
use Rattle.live_server.proofs.WrittenLemmas.{all_sent, sent_behind, sent_of_front}

pub emptied_twice : (c : Conn) → emptied (emptied c) ≡ emptied c
unfolding emptied
emptied_twice c = refl

pub emptied_over : (c : Conn) → is_over (emptied c) ≡ is_over c
unfolding emptied
emptied_over c = refl

abbrev is_gone : Met → Bool
is_gone Gone = true
is_gone (judges j) = false

module _ (now iss : ℕ) (s : Seg) (text : List ℕ) (t : Tuple) (c : Conn) where
  abbrev here : Conn
  here = emptied (reached now c)

  abbrev nobody : Meeting
  nobody = record { conn = reached now c; sent = sent_by t (reached now c); met = Gone }

  abbrev somebody : Meeting
  somebody = record {
    conn = receives now iss s text here;
    sent = sent_by t (reached now c) ++ sent_by t (receives now iss s text here);
    met = judges (judged now s text here);
  }

  pub meets_by : (b : Bool) → is_over here ≡ b → meets now iss s text t c ≡ cond b nobody somebody
  unfolding meets
  meets_by b e = ap (λ v. cond v nobody somebody) (sym (emptied_over (reached now c)) ∙ e)

  pub gone_is_over : (meets now iss s text t c).met ≡ Gone → is_over (emptied (meets now iss s text t c).conn) ≡ true
  gone_is_over gone = by (is_over here) refl
    where
      by : (b : Bool) → is_over here ≡ b → is_over (emptied (meets now iss s text t c).conn) ≡ true
      by true e = ap (λ (m : Meeting). is_over (emptied m.conn)) (meets_by true e) ∙ e
      by false e = absurd (true≢false (sym (ap is_gone (sym (ap (λ (m : Meeting). m.met) (meets_by false e)) ∙ gone))))

  -- memory was missing for what the time makes it send
  pub timed_partly : (start told : List Datagram) → HasSent start told (sent_by t (reached now c)) → HasSent start told (meets now iss s text t c).sent
  timed_partly start told h = by (is_over here) refl
    where
      by : (b : Bool) → is_over here ≡ b → HasSent start told (meets now iss s text t c).sent
      by true e = subst (HasSent start told) (ap (λ (m : Meeting). m.sent) (sym (meets_by true e))) h
      by false e = sent_of_front start told _ (sent_by t (reached now c)) (sent_by t (receives now iss s text here)) (ap (λ (m : Meeting). m.sent) (meets_by false e)) h

  -- the time came
  module _ (after : Conn) (timed : after ≡ here) (start told : List Datagram) (sent : told ≡ start ++ sent_by t (reached now c)) where
    over_by : (b : Bool) → is_over after ≡ b → meets now iss s text t c ≡ cond b nobody somebody
    over_by b e = meets_by b (sym (ap is_over timed) ∙ e)

    pub gone_met : is_over after ≡ true → Gone ≡ (meets now iss s text t c).met
    gone_met e = ap (λ (m : Meeting). m.met) (sym (over_by true e))

    pub gone_conn : is_over after ≡ true → after ≡ emptied (meets now iss s text t c).conn
    gone_conn e = timed ∙ ap (λ (m : Meeting). emptied m.conn) (sym (over_by true e))

    pub gone_sent : is_over after ≡ true → told ≡ start ++ (meets now iss s text t c).sent
    gone_sent e = sent ∙ ap (λ (m : Meeting). start ++ m.sent) (sym (over_by true e))

    pub judged_met : is_over after ≡ false → (j : Judged) → j ≡ judged now s text after → judges j ≡ (meets now iss s text t c).met
    judged_met e j is = ap judges (is ∙ ap (judged now s text) timed) ∙ ap (λ (m : Meeting). m.met) (sym (over_by false e))

    pub judged_conn : is_over after ≡ false → (last : Conn) → last ≡ emptied (receives now iss s text after) → last ≡ emptied (meets now iss s text t c).conn
    judged_conn e last is = is ∙ ap (λ x. emptied (receives now iss s text x)) timed ∙ ap (λ (m : Meeting). emptied m.conn) (sym (over_by false e))

    pub judged_sent : is_over after ≡ false → (all : List Datagram) → all ≡ told ++ sent_by t (receives now iss s text after) → all ≡ start ++ (meets now iss s text t c).sent
    judged_sent e all is =
        is ∙ (λ j. sent j ++ sent_by t (receives now iss s text (timed j)))
        ∙ append_assoc start (sent_by t (reached now c)) (sent_by t (receives now iss s text here))
        ∙ ap (λ (m : Meeting). start ++ m.sent) (sym (over_by false e))

    -- and memory was missing for what the segment makes it send
    pub judged_partly : is_over after ≡ false → (all : List Datagram) → HasSent told all (sent_by t (receives now iss s text after)) → HasSent start all (meets now iss s text t c).sent
    judged_partly e all h =
        sent_behind start told all _ (sent_by t (reached now c)) (sent_by t (receives now iss s text here)) (ap (λ (m : Meeting). m.sent) (over_by false e))
        (all_sent start told _ sent) (subst (λ (x : Conn). HasSent told all (sent_by t (receives now iss s text x))) timed h)
