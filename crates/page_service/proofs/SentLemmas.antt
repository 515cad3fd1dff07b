-- What a pump offers, with what is left of the answer under way, is the answers to what was taken.
use Rattle.std.proofs.Common.{◌≡◌, ℕ, ◌+◌, ◌<◌, ◌≤◌, List, [], ◌∷◌, ◌++◌, Option, None, Some, Bool, true, false, cond, ◌⊎◌, inl, inr, length, take, drop, refl, sym, ap, ◌∙◌, subst, arith, append_assoc, append-nil}
use Rattle.std.specs.Prelude.{nat_le, suc, zero}
use Rattle.std.proofs.lemmas.Bool.{false≢true}
use Rattle.std.proofs.lemmas.Bool.Decides.{leb_tells}
use Rattle.std.proofs.lemmas.List.{drop-drop, drop_all}
use Rattle.byte_queues.specs.ReceiveQueue.{next_bytes, ready_of}
use Rattle.byte_queues.specs.SendQueue.{room_of}
use Rattle.byte_queues.proofs.WholeLemmas.{next-count}
use Rattle.tcb_machine.specs.BlockState.{Block}
use Rattle.echo_services.specs.Closing.{is_close_wait, throws}
use Rattle.echo_services.specs.Pumping.{may_offer}
use Rattle.page_service.specs.declared.phase.Phase.{Phase}
use Rattle.page_service.specs.declared.phase.Phase.TheVariants.{Reads, Answers, Ends}
use Rattle.page_service.specs.Protocol.{Protocol, IsProtocol, KeptAll, responses}
use Rattle.page_service.specs.Pump.{Open, Turn, goes, rests, behind, closes, left_from, left_of, more_of, most_turns, pump, reads, said, then_on, turn, turns, waiting}
use Rattle.page_service.proofs.CloseLemmas.{closed_recv, closed_out}
use Rattle.page_service.proofs.PumpsLemmas.{found-ready}
use Rattle.page_service.proofs.ResponseLemmas.{IsOwn, one-more, kept-more}
use Rattle.page_service.proofs.WorkLemmas.{Adds, adds-nothing, adds-taken, adds-offered, adds-both, first-ready}

adds-closed : (b : Block) → Adds b (closes b) (next_bytes (ready_of b.recv) b.recv ++ []) ([] ++ [])
adds-closed b =
    let c = throws (ready_of b.recv) b in
    adds-both b c (closes b) (next_bytes (ready_of b.recv) b.recv) [] [] [] (adds-taken (ready_of b.recv) b) (adds-nothing c (closes b) (closed_recv b.state c) (closed_out b.state c))

-- times of which this is so may be followed by one more
abbrev pub MayFollow : (List ℕ → Type 0) → ℕ → Type 0
MayFollow Q at = (times : List ℕ) → Q times → Q (times ++ at ∷ [])

module _ {A : Type 0} (p : Protocol A) (Q : List ℕ → Type 0) where
  -- so much was read at these times, and so much was sent, in this phase
  pub record Sent (times read sent : List ℕ) (w : Phase A) : Type 0 where
    pub same : sent ++ left_of p w ≡ responses p times read
    pub stays : (more : List ℕ) → responses p times (read ++ more) ≡ responses p times read
    pub timely : Q times

  -- a step from a block, behind which so much was read and sent
  pub record Leads (read sent : List ℕ) (b : Block) (w : Phase A) (c : Block) : Type 0 where
    pub times : List ℕ
    pub taken : List ℕ
    pub offered : List ℕ
    pub adds : Adds b c taken offered
    pub sends : Sent times (read ++ taken) (sent ++ offered) w
    pub opens : Open p times (read ++ taken) w

  abbrev pub LeadsOn : List ℕ → List ℕ → Block → Turn A → Type 0
  LeadsOn read sent b (goes w c) = Leads read sent b w c × (c.clock ≡ b.clock)
  LeadsOn read sent b (rests w c) = Leads read sent b w c

  pub sent-at : (times read sent read' sent' : List ℕ) (w : Phase A) → read' ≡ read → sent' ≡ sent → Sent times read sent w → Sent times read' sent' w
  sent-at times read sent read' sent' w r s h = subst (λ (xs : List ℕ). Sent times xs sent' w) (sym r) (subst (λ (ys : List ℕ). Sent times read ys w) (sym s) h)

  -- nothing is read
  leads-unread : (times read sent more : List ℕ) (b c : Block) (w : Phase A) → Adds b c [] more → sent ++ (more ++ left_of p w) ≡ responses p times read
      → ((xs : List ℕ) → responses p times (read ++ xs) ≡ responses p times read) → Q times → Open p times read w → Leads read sent b w c
  leads-unread times read sent more b c w a e f q o = record {
    times = times;
    taken = [];
    offered = more;
    adds = a;
    sends = sent-at times read (sent ++ more) (read ++ []) (sent ++ more) w (append-nil read) refl (record { same = append_assoc sent more (left_of p w) ∙ e; stays = f; timely = q });
    opens = subst (λ (xs : List ℕ). Open p times xs w) (sym (append-nil read)) o;
  }

  -- more is read, and has no answer
  leads-thrown : (times read sent more : List ℕ) (b c : Block) (w : Phase A) → Adds b c (more ++ []) ([] ++ []) → sent ++ left_of p w ≡ responses p times read
      → ((xs : List ℕ) → responses p times (read ++ xs) ≡ responses p times read) → Q times → Open p times (read ++ (more ++ [])) w → Leads read sent b w c
  leads-thrown times read sent more b c w a e f q o = record {
    times = times;
    taken = more ++ [];
    offered = [] ++ [];
    adds = a;
    sends = record {
      same = ap (λ (xs : List ℕ). xs ++ left_of p w) (append-nil sent) ∙ (e ∙ sym (f (more ++ [])));
      stays = λ xs. ap (responses p times) (append_assoc read (more ++ []) xs) ∙ (f ((more ++ []) ++ xs) ∙ sym (f (more ++ [])));
      timely = q;
    };
    opens = o;
  }

module _ {A : Type 0} (p : Protocol A) (Q : List ℕ → Type 0) (law : IsProtocol p) where
  -- the request is its own bytes
  own : (b : Block) (found : A × ℕ) → p.answers b.clock (waiting b) ≡ Some found → IsOwn p b.clock (next_bytes found.1 b.recv) found
  own b found e more =
      ap (λ (xs : List ℕ). p.answers b.clock (xs ++ more)) (sym (first-ready found.1 b.recv (found-ready p law b found e)))
      ∙ law.alone b.clock (waiting b) more found e

  leads-found : (found : A × ℕ) (b : Block) (times read sent : List ℕ) → p.answers b.clock (waiting b) ≡ Some found → MayFollow Q b.clock → Sent p Q times read sent Reads → KeptAll p times read
      → Leads p Q read sent b (Answers found.0 0) (throws found.1 b)
  leads-found found b times read sent e q h k =
      let head = next_bytes found.1 b.recv in
      let after = times ++ b.clock ∷ [] in
      let text = p.text found.0 in
      let mine = own b found e in
      let size = next-count found.1 b.recv (found-ready p law b found e) in
      let all : (more : List ℕ) → responses p after (read ++ (head ++ more)) ≡ responses p times read ++ text = λ more. one-more p law times read head more b.clock found k mine in
      let whole : responses p after (read ++ head) ≡ responses p times read ++ text = ap (λ (xs : List ℕ). responses p after (read ++ xs)) (sym (append-nil head)) ∙ all [] in
      let sent_all : sent ≡ responses p times read = sym (append-nil sent) ∙ h.same in
      record {
        times = after;
        taken = head;
        offered = [];
        adds = adds-taken found.1 b;
        sends = record {
          same = ap (λ (xs : List ℕ). xs ++ text) (append-nil sent ∙ sent_all) ∙ sym whole;
          stays = λ xs. ap (responses p after) (append_assoc read head xs) ∙ (all xs ∙ sym whole);
          timely = q times h.timely;
        };
        opens = λ keeps. kept-more p law times read head b.clock found k mine keeps (omega (arith, size));
      }

  leads-read : (o : Option (A × ℕ)) (b : Block) (times read sent : List ℕ) → p.answers b.clock (waiting b) ≡ o → MayFollow Q b.clock → Sent p Q times read sent Reads → KeptAll p times read
      → LeadsOn p Q read sent b (reads p o b)
  leads-read (Some found) b times read sent e q h k = (leads-found found b times read sent e q h k, refl)
  leads-read None b times read sent e q h k = by_close (is_close_wait b.state)
    where
      by_close : (t : Bool) → LeadsOn p Q read sent b (cond t (goes Ends b) (rests Reads b))
      by_close true = (leads-unread p Q times read sent [] b b Ends (adds-nothing b b refl refl) h.same h.stays h.timely tt, refl)
      by_close false = leads-unread p Q times read sent [] b b Reads (adds-nothing b b refl refl) h.same h.stays h.timely k

  -- what is offered and what is left behind it are what was left
  rest-of : (a : A) (given : ℕ) (b : Block) → more_of p a given b ++ left_from p a (given + length (more_of p a given b)) ≡ left_from p a given
  rest-of a given b =
      let more = more_of p a given b in
      let left = left_from p a given in
      ap (λ (xs : List ℕ). more ++ xs) (sym (drop-drop (length more) given (p.text a)))
      ∙ taken-rest (room_of b.out) left
    where
      taken-rest : (n : ℕ) (xs : List ℕ) → take n xs ++ drop (length (take n xs)) xs ≡ xs
      taken-rest zero xs = refl
      taken-rest (suc n) [] = refl
      taken-rest (suc n) (x ∷ xs) = ap (λ (ys : List ℕ). x ∷ ys) (taken-rest n xs)

  behind-left : (t : Bool) → left_of p (cond t Reads Ends) ≡ []
  behind-left true = refl
  behind-left false = refl

  behind-open : (t : Bool) (times read : List ℕ) → (t ≡ true → KeptAll p times read) → Open p times read (cond t Reads Ends)
  behind-open true times read h = h refl
  behind-open false times read h = tt

  leads-given : (t : Bool) (a : A) (given : ℕ) (b : Block) (times read sent : List ℕ)
      → ((t ≡ true) × (length (p.text a) ≤ given + length (more_of p a given b))) ⊎ ((t ≡ false) × (given + length (more_of p a given b) < length (p.text a)))
      → Sent p Q times read sent (Answers a given) → Open p times read (Answers a given)
      → LeadsOn p Q read sent b (said t (cond t (behind p a) (Answers a (given + length (more_of p a given b)))) (record b { out = b.out ++ more_of p a given b }))
  leads-given true a given b times read sent (inr g) h o = absurd (false≢true (sym g.0))
  leads-given false a given b times read sent (inl g) h o = absurd (false≢true g.0)
  leads-given false a given b times read sent (inr g) h o =
      let more = more_of p a given b in
      leads-unread p Q times read sent more b (record b { out = b.out ++ more }) (Answers a (given + length more)) (adds-offered more b)
      (ap (λ (xs : List ℕ). sent ++ xs) (rest-of a given b) ∙ h.same) h.stays h.timely o
  leads-given true a given b times read sent (inl g) h o =
      let more = more_of p a given b in
      let none : left_from p a (given + length more) ≡ [] = drop_all (given + length more) (p.text a) g.1 in (
        leads-unread p Q times read sent more b (record b { out = b.out ++ more }) (behind p a) (adds-offered more b)
            (ap (λ (xs : List ℕ). sent ++ (more ++ xs)) (behind-left (p.keeps a) ∙ sym none) ∙ (ap (λ (xs : List ℕ). sent ++ xs) (rest-of a given b) ∙ h.same))
            h.stays h.timely (behind-open (p.keeps a) times read o),
        refl,
      )

  turn-leads : (w : Phase A) (b : Block) (times read sent : List ℕ) → MayFollow Q b.clock → Sent p Q times read sent w → Open p times read w → LeadsOn p Q read sent b (turn p w b)
  turn-leads Reads b times read sent q h o = leads-read (p.answers b.clock (waiting b)) b times read sent refl q h o
  turn-leads (Answers a given) b times read sent q h o =
      let now = given + length (more_of p a given b) in
      leads-given (nat_le (length (p.text a)) now) a given b times read sent (leb_tells (length (p.text a)) now) h o
  turn-leads Ends b times read sent q h o = leads-thrown p Q times read sent (next_bytes (ready_of b.recv) b.recv) b (closes b) Ends (adds-closed b) h.same h.stays h.timely tt

  -- all turns

  leads-both : (read sent : List ℕ) (b c d : Block) (v w : Phase A) (f : Leads p Q read sent b v c) → Leads p Q (read ++ f.taken) (sent ++ f.offered) c w d → Leads p Q read sent b w d
  leads-both read sent b c d v w f g =
      let r = append_assoc read f.taken g.taken in
      let s = append_assoc sent f.offered g.offered in
      record {
        times = g.times;
        taken = f.taken ++ g.taken;
        offered = f.offered ++ g.offered;
        adds = adds-both b c d f.taken g.taken f.offered g.offered f.adds g.adds;
        sends = sent-at p Q g.times ((read ++ f.taken) ++ g.taken) ((sent ++ f.offered) ++ g.offered) (read ++ (f.taken ++ g.taken)) (sent ++ (f.offered ++ g.offered)) w (sym r) (sym s) g.sends;
        opens = subst (λ (xs : List ℕ). Open p g.times xs w) r g.opens;
      }

  then-leads : (n : ℕ) (read sent : List ℕ) (b : Block) (t : Turn A) → MayFollow Q b.clock → LeadsOn p Q read sent b t
      → ((w : Phase A) (c : Block) (times xs ys : List ℕ) → MayFollow Q c.clock → Sent p Q times xs ys w → Open p times xs w → Leads p Q xs ys c (turns p n w c).0 (turns p n w c).1)
      → Leads p Q read sent b (then_on (turns p n) t).0 (then_on (turns p n) t).1
  then-leads n read sent b (goes w c) q g f =
      let h = g.0 in
      leads-both read sent b c (turns p n w c).1 w (turns p n w c).0 h (f w c h.times (read ++ h.taken) (sent ++ h.offered) (subst (λ (at : ℕ). MayFollow Q at) (sym g.1) q) h.sends h.opens)
  then-leads n read sent b (rests w c) q h f = h

  pub turns-lead : (n : ℕ) (w : Phase A) (b : Block) (times read sent : List ℕ) → MayFollow Q b.clock → Sent p Q times read sent w → Open p times read w → Leads p Q read sent b (turns p n w b).0 (turns p n w b).1
  unfolding turns
  turns-lead zero w b times read sent q h o = leads-unread p Q times read sent [] b b w (adds-nothing b b refl refl) h.same h.stays h.timely o
  turns-lead (suc n) w b times read sent q h o = then-leads n read sent b (turn p w b) q (turn-leads w b times read sent q h o) (λ x c ts xs ys r g k. turns-lead n x c ts xs ys r g k)

  -- a pump

  pub record Pumped (read sent : List ℕ) (b : Block) (w : Phase A) (c : Block) : Type 0 where
    pub times : List ℕ
    pub taken : List ℕ
    pub offered : List ℕ
    pub adds : Adds b c taken offered
    pub sends : Sent p Q times (read ++ taken) (sent ++ offered) w
    pub opens : c.fin_wanted ≡ false → Open p times (read ++ taken) w

  from-leads : (read sent : List ℕ) (b c : Block) (w : Phase A) → Leads p Q read sent b w c → Pumped read sent b w c
  from-leads read sent b c w h = record { times = h.times; taken = h.taken; offered = h.offered; adds = h.adds; sends = h.sends; opens = λ _. h.opens }

  thrown-pumped : (times read sent : List ℕ) (w : Phase A) (b : Block) → b.fin_wanted ≡ true → Sent p Q times read sent w → Pumped read sent b w (throws (ready_of b.recv) b)
  thrown-pumped times read sent w b f h =
      let more = next_bytes (ready_of b.recv) b.recv in
      record {
        times = times;
        taken = more;
        offered = [];
        adds = adds-taken (ready_of b.recv) b;
        sends = record {
          same = ap (λ (xs : List ℕ). xs ++ left_of p w) (append-nil sent) ∙ (h.same ∙ sym (h.stays more));
          stays = λ xs. ap (responses p times) (append_assoc read more xs) ∙ (h.stays (more ++ xs) ∙ sym (h.stays more));
          timely = h.timely;
        };
        opens = λ g. absurd (false≢true (sym g ∙ f));
      }

  pumping : (t m : Bool) (w : Phase A) (b : Block) (times read sent : List ℕ) → b.fin_wanted ≡ t → (b.fin_wanted ≡ false → MayFollow Q b.clock) → Sent p Q times read sent w → (b.fin_wanted ≡ false → Open p times read w)
      → let x = cond t (w, throws (ready_of b.recv) b) (cond m (turns p most_turns w b) (w, b)) in Pumped read sent b x.0 x.1
  pumping true m w b times read sent f q h o = thrown-pumped times read sent w b f h
  pumping false true w b times read sent f q h o = from-leads read sent b (turns p most_turns w b).1 (turns p most_turns w b).0 (turns-lead most_turns w b times read sent (q f) h (o f))
  pumping false false w b times read sent f q h o = from-leads read sent b b w (leads-unread p Q times read sent [] b b w (adds-nothing b b refl refl) h.same h.stays h.timely (o f))

  pub pump-sends : (w : Phase A) (b : Block) (times read sent : List ℕ) → (b.fin_wanted ≡ false → MayFollow Q b.clock) → Sent p Q times read sent w → (b.fin_wanted ≡ false → Open p times read w)
      → Pumped read sent b (pump p w b).0 (pump p w b).1
  unfolding pump
  pump-sends w b times read sent q h o = pumping b.fin_wanted (may_offer b.state) w b times read sent refl q h o
