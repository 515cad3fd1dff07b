-- The lines of a report with marks, by the bytes with which they begin.
use Rattle.std.proofs.Common.{◌≡◌, ℕ, zero, suc, ◌+◌, ◌/◌, ◌%◌, ◌==◌, Bool, true, false, if◌then◌else◌, List, [], ◌∷◌, ◌++◌, length, map, get_or, refl, ap, sym, ◌∙◌, subst, arith}
use Rattle.std.specs.Prelude.{codes, nat_lt, slice_index}
use Rattle.std.specs.List.{enumerate_from, flat_map, join_with_byte}
use Rattle.std.specs.Fmt.{decimal, digit_glyph, digits, digits_onto}
use Rattle.std.proofs.lemmas.Bool.{ne_eqb}
use Rattle.byteorder.specs.Endian.{big_bytes}
use Rattle.hex.specs.Hex.{encode_lower, encode_with, lower_digits}
use Rattle.sq_base.specs.declared.kinds.Addr.{Addr}
use Rattle.sq_base.specs.declared.kinds.Tuple.{Tuple}
use Rattle.segment_codec.specs.declared.packet.Reply.{Reply}
use Rattle.segment_codec.specs.SegmentBytes.{segment_bytes}
use Rattle.perimeter_core.specs.declared.entries.Act.{Act}
use Rattle.perimeter_core.specs.declared.entries.Entry.{Entry as Entered}
use Rattle.perimeter_core.specs.declared.entries.Entry.TheVariants.{Ask, Feed}
use Rattle.perimeter_core.specs.declared.marks.Mark.{Mark}
use Rattle.perimeter_core.specs.declared.marks.Mark.TheVariants as On
use Rattle.perimeter_core.specs.declared.marks.SynchAct.{SynchAct}
use Rattle.perimeter_core.specs.declared.marks.SynchAct.TheVariants as Done
use Rattle.conn_classifier.specs.declared.kinds.Counts.{Counts}
use Rattle.conn_classifier.specs.Plan.{PlanOf}
use Rattle.tcb_machine.specs.declared.kinds.Answer.{Answer}
use Rattle.tcb_machine.specs.declared.kinds.Answer.TheVariants as answer
use Rattle.tcb_machine.specs.declared.kinds.Call.{Call}
use Rattle.tcb_machine.specs.declared.kinds.Call.TheVariants as Asks
use Rattle.tcb_machine.specs.declared.kinds.State.{State}
use Rattle.tcb_machine.specs.declared.kinds.State.TheVariants as State'
use Rattle.echo_services.specs.declared.service.Service.{Service}
use Rattle.echo_services.specs.declared.service.Service.TheVariants as Service'
use Rattle.echo_services.specs.Pump.{service_word}
use Rattle.histories.specs.declared.mode.Mode.{Mode}
use Rattle.histories.specs.declared.mode.Mode.TheVariants as Mode'
use Rattle.histories.specs.ModeWords.{mode_word}
use Rattle.conn_blocks.specs.CallLists.{CallLists}
use Rattle.conn_blocks.specs.ServeOrder.{Serving, serve}
use Rattle.conn_blocks.specs.Services.{service_in}
use Rattle.ring_quotas.specs.declared.setup.Setup.{Setup}
use Rattle.report_lines.specs.Names.{state_word}
use Rattle.report_lines.specs.ReportText.{Entry, answer_fields, answer_line, body_text, call, conn_line, conn_text, counts_line, datagram_line, end_field, end_line, entries_of, entry_field, feeds, line, line_end, order_line, reply_line}
use Rattle.report_lines.specs.TraceText.{act_fields, asked_text, call_line, calls_text, entered_field, mark_line, setup_line, squeue_line, squeue_text, thread_text}
use Rattle.trace_replay.proofs.FirstLines.{avoids, avoids_both}
use Rattle.conn_classifier.specs.Rules.{usual}

-- a field without a newline
abbrev pub clear : List ℕ → Bool
clear [] = true
clear (x ∷ xs) = if x == 10 then false else clear xs

abbrev pub AllClear : List (List ℕ) → Type 0
AllClear [] = Unit {0}
AllClear (f ∷ fs) = (clear f ≡ true) × AllClear fs

clear_step : (t a b : Bool) → (a ≡ true → b ≡ true) → (if t then false else a) ≡ true → (if t then false else b) ≡ true
clear_step true a b f h = h
clear_step false a b f h = f h

pub clear_both : (xs ys : List ℕ) → clear xs ≡ true → clear ys ≡ true → clear (xs ++ ys) ≡ true
clear_both [] ys h k = k
clear_both (x ∷ xs) ys h k = clear_step (x == 10) (clear xs) (clear (xs ++ ys)) (λ g. clear_both xs ys g k) h

clear_one : (x : ℕ) (xs : List ℕ) → (x == 10) ≡ false → clear xs ≡ true → clear (x ∷ xs) ≡ true
clear_one x xs e h = ap (λ (t : Bool). if t then false else clear xs) e ∙ h

-- a line of clear fields, by its first byte
module _ (b : ℕ) where
  in_line : (f rest : List ℕ) → clear f ≡ true → avoids b false rest ≡ true → avoids b false (f ++ rest) ≡ true
  in_line [] rest h k = k
  in_line (x ∷ f) rest h k = by (x == 10) refl h (λ g. in_line f rest g k)
    where
      by : (t : Bool) → (x == 10) ≡ t → (if t then false else clear f) ≡ true → (clear f ≡ true → avoids b false (f ++ rest) ≡ true) → avoids b (x == 10) (f ++ rest) ≡ true
      by true e h go = absurd (let no : ⊥ = cc h in no)
      by false e h go = subst (λ (t : Bool). avoids b t (f ++ rest) ≡ true) (sym e) (go h)

  line_ends : (fs : List (List ℕ)) → AllClear fs → avoids b false (line_end fs) ≡ true
  line_ends [] h = refl
  line_ends (f ∷ fs) h = in_line f (line_end fs) h.0 (line_ends fs h.1)

  pub line_avoids : (x : ℕ) (f : List ℕ) (fs : List (List ℕ)) → (x == b) ≡ false → (x == 10) ≡ false → clear f ≡ true → AllClear fs → avoids b true (line ((x ∷ f) ∷ fs)) ≡ true
  line_avoids x f fs other inner h k =
      (λ i. if other i then false else avoids b (inner i) (f ++ line_end fs)) ∙ in_line f (line_end fs) h (line_ends fs k)

  pub flat_avoids : {X : Type 0} (f : X → List ℕ) (xs : List X) → ((x : X) → avoids b true (f x) ≡ true) → avoids b true (flat_map f xs) ≡ true
  flat_avoids f [] h = refl
  flat_avoids f (x ∷ xs) h = avoids_both b true (f x) (flat_map f xs) (h x) (flat_avoids f xs h)

-- numbers and words are clear
glyph_clear : (upper : Bool) (d : ℕ) → (digit_glyph upper d == 10) ≡ false
glyph_clear upper d = by (nat_lt d 10) upper
  where
    by : (a b : Bool) → ((if a then 48 + d else (if b then 55 + d else 87 + d)) == 10) ≡ false
    by true b = ne_eqb (48 + d) 10 (λ e. (let no : ⊥ = omega (arith, e) in no))
    by false true = ne_eqb (55 + d) 10 (λ e. (let no : ⊥ = omega (arith, e) in no))
    by false false = ne_eqb (87 + d) 10 (λ e. (let no : ⊥ = omega (arith, e) in no))

onto_clear : (k base : ℕ) (upper : Bool) (n : ℕ) (acc : List ℕ) → clear acc ≡ true → clear (digits_onto k base upper n acc) ≡ true
onto_clear zero base upper n acc h = h
onto_clear (suc k) base upper n acc h =
    by (n / base == 0) (clear_one (digit_glyph upper (n % base)) acc (glyph_clear upper (n % base)) h)
    (onto_clear k base upper (n / base) (digit_glyph upper (n % base) ∷ acc) (clear_one (digit_glyph upper (n % base)) acc (glyph_clear upper (n % base)) h))
  where
    by : (t : Bool) → clear (digit_glyph upper (n % base) ∷ acc) ≡ true → clear (digits_onto k base upper (n / base) (digit_glyph upper (n % base) ∷ acc)) ≡ true
        → clear (if t then digit_glyph upper (n % base) ∷ acc else digits_onto k base upper (n / base) (digit_glyph upper (n % base) ∷ acc)) ≡ true
    by true a b = a
    by false a b = b

pub clear_decimal : (n : ℕ) → clear (decimal n) ≡ true
unfolding digits
clear_decimal n = onto_clear 64 10 false n [] refl

clear_joined : (ns : List ℕ) → clear (join_with_byte 46 (map decimal ns)) ≡ true
clear_joined [] = refl
clear_joined (n ∷ []) = clear_decimal n
clear_joined (n ∷ m ∷ ns) = clear_both (decimal n) (46 ∷ join_with_byte 46 (map decimal (m ∷ ns))) (clear_decimal n) (clear_joined (m ∷ ns))

clear_at : (t : List ℕ) (i : ℕ) → clear t ≡ true → (slice_index t i == 10) ≡ false
clear_at [] i h = refl
clear_at (x ∷ t) zero h = by (x == 10) refl h
  where
    by : (b : Bool) → (x == 10) ≡ b → (if b then false else clear t) ≡ true → (x == 10) ≡ false
    by true e h = absurd (let no : ⊥ = cc h in no)
    by false e h = e
clear_at (x ∷ t) (suc i) h = clear_at t i (by (x == 10) h)
  where
    by : (b : Bool) → (if b then false else clear t) ≡ true → clear t ≡ true
    by true h = absurd (let no : ⊥ = cc h in no)
    by false h = h

clear_hex : (t bytes : List ℕ) → clear t ≡ true → clear (encode_with t bytes) ≡ true
unfolding encode_with
clear_hex t [] h = refl
clear_hex t (b ∷ bytes) h =
    clear_one (slice_index t (b / 16)) (slice_index t (b % 16) ∷ encode_with t bytes) (clear_at t (b / 16) h)
    (clear_one (slice_index t (b % 16)) (encode_with t bytes) (clear_at t (b % 16) h) (clear_hex t bytes h))

clear_state : (s : State) → clear (state_word s) ≡ true
unfolding state_word
clear_state State'.Listen = refl
clear_state State'.SynReceived = refl
clear_state State'.Established = refl
clear_state State'.FinWait1 = refl
clear_state State'.FinWait2 = refl
clear_state State'.CloseWait = refl
clear_state State'.Closing = refl
clear_state State'.LastAck = refl
clear_state State'.TimeWait = refl

clear_service : (s : Service) → clear (service_word s) ≡ true
unfolding service_word
clear_service Service'.Echo = refl
clear_service Service'.Discard = refl

clear_mode : (m : Mode) → clear (mode_word m) ≡ true
unfolding mode_word
clear_mode Mode'.Process = refl
clear_mode Mode'.NoDrain = refl
clear_mode Mode'.Fill = refl

clear_end : (a : Addr) (port : ℕ) → clear (end_field a port) ≡ true
unfolding end_field
clear_end a port = clear_both (join_with_byte 46 (map decimal (big_bytes 4 a.0))) (58 ∷ decimal port) (clear_joined (big_bytes 4 a.0)) (clear_decimal port)

clear_entry : (e : Entry) → clear (entry_field e) ≡ true
clear_entry (feeds m n) = by (m == n)
  where
    by : (b : Bool) → clear (if b then 102 ∷ decimal m else 102 ∷ (decimal m ++ 45 ∷ decimal n)) ≡ true
    by true = clear_decimal m
    by false = clear_both (decimal m) (45 ∷ decimal n) (clear_decimal m) (clear_decimal n)
clear_entry (call j k) = clear_both (decimal j) (46 ∷ decimal k) (clear_decimal j) (clear_decimal k)

clear_map : {X : Type 0} (f : X → List ℕ) (xs : List X) → ((x : X) → clear (f x) ≡ true) → AllClear (map f xs)
clear_map f [] h = tt
clear_map f (x ∷ xs) h = (h x, clear_map f xs h)

clear_answer : (a : Answer) → AllClear (answer_fields a)
clear_answer (answer.Status state received offered unacked) = (clear_state state, (clear_decimal received, (clear_decimal offered, (clear_decimal unacked, tt))))
clear_answer answer.Done = (refl, tt)
clear_answer answer.NotOpen = (refl, tt)
clear_answer answer.Already = (refl, tt)

clear_asked : (a : Call) → clear (asked_text a) ≡ true
clear_asked Asks.Status = refl
clear_asked (Asks.Buffer n) = clear_decimal n
clear_asked Asks.Close = refl

clear_entered : (e : Entered) → clear (entered_field e) ≡ true
clear_entered (Feed c n) = clear_both (decimal c) (46 ∷ decimal n) (clear_decimal c) (clear_decimal n)
clear_entered (Ask p) = refl

clear_act : (a : SynchAct) → AllClear (act_fields a)
clear_act Done.None = (refl, tt)
clear_act (Done.Call c j k) = (refl, (clear_decimal c, (clear_decimal j, (clear_decimal k, tt))))
clear_act Done.Away = (refl, tt)
clear_act (Done.Out c) = (refl, (clear_decimal c, tt))
clear_act (Done.In c) = (refl, (clear_decimal c, tt))

-- no line of a report up to its setup begins so
pub record BeginsNone (b : ℕ) : Type 0 where
  pub record_or_reply : (114 == b) ≡ false
  pub conn : (99 == b) ≡ false
  pub order : (111 == b) ≡ false
  pub answer : (97 == b) ≡ false
  pub end : (101 == b) ≡ false

module _ (b : ℕ) (none : BeginsNone b) where
  counts_avoid : (n : Counts) (conns : ℕ) → avoids b true (counts_line n conns) ≡ true
  unfolding counts_line
  counts_avoid n conns =
      line_avoids b 114 (codes "ecords")
      (decimal n.records ∷ codes "tail" ∷ decimal n.tail ∷ codes "served" ∷ decimal n.served ∷ codes "nofit" ∷ decimal n.nofit ∷ codes "server" ∷ decimal n.server
      ∷ codes "other" ∷ decimal n.other ∷ codes "fragment" ∷ decimal n.fragment ∷ codes "cut" ∷ decimal n.cut ∷ codes "malformed" ∷ decimal n.malformed
      ∷ codes "badsum" ∷ decimal n.badsum ∷ codes "connections" ∷ decimal conns ∷ []) none.record_or_reply refl refl (
        clear_decimal n.records,
        (
          refl,
          (
            clear_decimal n.tail,
            (
              refl,
              (
                clear_decimal n.served,
                (
                  refl,
                  (
                    clear_decimal n.nofit,
                    (
                      refl,
                      (
                        clear_decimal n.server,
                        (
                          refl,
                          (
                            clear_decimal n.other,
                            (refl, (clear_decimal n.fragment, (refl, (clear_decimal n.cut, (refl, (clear_decimal n.malformed, (refl, (clear_decimal n.badsum, (refl, (clear_decimal conns, tt)))))))))),
                          ),
                        ),
                      ),
                    ),
                  ),
                ),
              ),
            ),
          ),
        ),
      )

  conn_avoids : (c : ℕ) (t : Tuple) (service : Service) → avoids b true (conn_line c t service) ≡ true
  unfolding conn_line
  conn_avoids c t service =
      line_avoids b 99 (codes "onn")
      (decimal c ∷ end_field t.client t.client_port ∷ end_field t.server t.server_port ∷ service_word service ∷ []) none.conn refl refl
      (clear_decimal c, (clear_end t.client t.client_port, (clear_end t.server t.server_port, (clear_service service, tt))))

  order_avoids : (order : List Act) → avoids b true (order_line order) ≡ true
  unfolding order_line
  order_avoids order = line_avoids b 111 (codes "rder") (map entry_field (entries_of order)) none.order refl refl (clear_map entry_field (entries_of order) clear_entry)

  reply_avoids : (t : Tuple) (r : Reply) → avoids b true (reply_line t r) ≡ true
  unfolding reply_line datagram_line
  reply_avoids t r = line_avoids b 114 (codes "eply") (decimal r.at ∷ encode_lower (segment_bytes t r) ∷ []) none.record_or_reply refl refl (clear_decimal r.at, (clear_hex lower_digits (segment_bytes t r) refl, tt))

  answer_avoids : (x : ℕ × ℕ × Answer) → avoids b true (answer_line x) ≡ true
  unfolding answer_line
  answer_avoids (j, k, a) = line_avoids b 97 (codes "nswer") (decimal j ∷ decimal k ∷ answer_fields a) none.answer refl refl (clear_decimal j, (clear_decimal k, clear_answer a))

  end_avoids : (s : State) → avoids b true (end_line s) ≡ true
  unfolding end_line
  end_avoids s = line_avoids b 101 (codes "nd") (state_word s ∷ []) none.end refl refl (clear_state s, tt)

  served_avoids : (c : ℕ) (t : Tuple) (service : Service) (order : List Act) (s : Serving) → avoids b true (conn_text c t service order s) ≡ true
  unfolding conn_text
  served_avoids c t service order s =
      avoids_both b true (conn_line c t service) _ (conn_avoids c t service)
      (avoids_both b true (order_line order) _ (order_avoids order)
      (avoids_both b true (flat_map (reply_line t) s.block.replies) _ (flat_avoids b (reply_line t) s.block.replies (reply_avoids t))
      (avoids_both b true (flat_map answer_line s.answers) (end_line s.block.state) (flat_avoids b answer_line s.answers answer_avoids) (end_avoids s.block.state))))

  pub body_avoids : (p : PlanOf) (calls : CallLists) (orders : List (List Act)) → avoids b true (body_text p calls orders) ≡ true
  unfolding body_text
  body_avoids p calls orders =
      avoids_both b true (counts_line p.counts (length p.tuples)) _ (counts_avoid p.counts (length p.tuples))
      (flat_avoids b (λ (c, t). conn_text c t (service_in p c) (get_or orders c []) (serve p calls c (get_or orders c []))) (enumerate_from 0 p.tuples)
      (λ (c, t). served_avoids c t (service_in p c) (get_or orders c []) (serve p calls c (get_or orders c []))))

-- no line but the last one begins with a d
setup_avoids : (s : Setup) (verify : Bool) → avoids 100 true (setup_line s (usual verify)) ≡ true
unfolding setup_line
setup_avoids s verify =
    line_avoids 100 115 (codes "etup")
    (codes "squeues" ∷ decimal s.squeues ∷ codes "rings" ∷ decimal s.rings ∷ codes "mode" ∷ mode_word s.mode
    ∷ codes "budget" ∷ decimal s.budget ∷ codes "spread" ∷ decimal s.spread ∷ codes "verify" ∷ decimal (if verify then 1 else 0) ∷ []) refl refl refl
    (refl, (clear_decimal s.squeues, (refl, (clear_decimal s.rings, (refl, (clear_mode s.mode, (refl, (clear_decimal s.budget, (refl, (clear_decimal s.spread, (refl, (clear_decimal (if verify then 1 else 0), tt))))))))))))

call_avoids : (j : ℕ) (x : ℕ × Call) → avoids 100 true (call_line j x) ≡ true
unfolding call_line
call_avoids j (c, a) =
    line_avoids 100 99 (codes "all") ((decimal j ++ 58 ∷ (decimal c ++ 58 ∷ asked_text a)) ∷ []) refl refl refl
    (clear_both (decimal j) (58 ∷ (decimal c ++ 58 ∷ asked_text a)) (clear_decimal j) (clear_both (decimal c) (58 ∷ asked_text a) (clear_decimal c) (clear_asked a)), tt)

thread_avoids : (x : ℕ × List (ℕ × Call)) → avoids 100 true (thread_text x) ≡ true
thread_avoids (j, calls) = flat_avoids 100 (call_line j) calls (call_avoids j)

mark_avoids : (m : Mark) → avoids 100 true (mark_line m) ≡ true
unfolding mark_line
mark_avoids (On.Fill p es) = line_avoids 100 102 (codes "ill") (decimal p ∷ map entered_field es) refl refl refl (clear_decimal p, clear_map entered_field es clear_entered)
mark_avoids (On.Fast p e) = line_avoids 100 102 (codes "ast") (decimal p ∷ entered_field e ∷ []) refl refl refl (clear_decimal p, (clear_entered e, tt))
mark_avoids (On.Claim p es) = line_avoids 100 99 (codes "laim") (decimal p ∷ map entered_field es) refl refl refl (clear_decimal p, clear_map entered_field es clear_entered)
mark_avoids (On.Take p) = line_avoids 100 116 (codes "ake") (decimal p ∷ []) refl refl refl (clear_decimal p, tt)
mark_avoids (On.Leave p rest did) = line_avoids 100 108 (codes "eave") (decimal p ∷ decimal rest ∷ act_fields did) refl refl refl (clear_decimal p, (clear_decimal rest, clear_act did))
mark_avoids (On.Ask p) = line_avoids 100 97 (codes "sk") (decimal p ∷ []) refl refl refl (clear_decimal p, tt)
mark_avoids (On.Grant p j rest) = line_avoids 100 103 (codes "rant") (decimal p ∷ decimal j ∷ decimal rest ∷ []) refl refl refl (clear_decimal p, (clear_decimal j, (clear_decimal rest, tt)))
mark_avoids (On.Accept j) = line_avoids 100 97 (codes "ccept") (decimal j ∷ []) refl refl refl (clear_decimal j, tt)
mark_avoids (On.Work p) = line_avoids 100 119 (codes "ork") (decimal p ∷ []) refl refl refl (clear_decimal p, tt)
mark_avoids (On.Close p) = line_avoids 100 99 (codes "lose") (decimal p ∷ []) refl refl refl (clear_decimal p, tt)

squeue_avoids : (x : ℕ × List Mark) → avoids 100 true (squeue_text x) ≡ true
unfolding squeue_line
squeue_avoids (q, marks) =
    avoids_both 100 true (squeue_line q (length marks)) _ (line_avoids 100 115 (codes "queue") (decimal q ∷ codes "marks" ∷ decimal (length marks) ∷ []) refl refl refl (clear_decimal q, (refl, (clear_decimal (length marks), tt))))
    (flat_avoids 100 mark_line marks mark_avoids)

-- what a report with marks begins with, up to its setup
abbrev pub head_text : PlanOf → CallLists → List (List Act) → List ℕ
head_text p calls orders = line (codes "report" ∷ codes "2" ∷ []) ++ body_text p calls orders

pub head_avoids : (b : ℕ) → BeginsNone b → (p : PlanOf) (calls : CallLists) (orders : List (List Act)) → avoids b true (head_text p calls orders) ≡ true
head_avoids b none p calls orders =
    avoids_both b true (line (codes "report" ∷ codes "2" ∷ [])) (body_text p calls orders) (line_avoids b 114 (codes "eport") (codes "2" ∷ []) none.record_or_reply refl refl (refl, tt)) (body_avoids b none p calls orders)

-- and from there up to its last line
abbrev pub told_front : Setup → Bool → CallLists → List (List Mark) → List ℕ
told_front setup verify calls marks = setup_line setup (usual verify) ++ (calls_text calls ++ flat_map squeue_text (enumerate_from 0 marks))

pub told_avoids : (setup : Setup) (verify : Bool) (calls : CallLists) (marks : List (List Mark)) → avoids 100 true (told_front setup verify calls marks) ≡ true
told_avoids setup verify calls marks =
    avoids_both 100 true (setup_line setup (usual verify)) _ (setup_avoids setup verify)
    (avoids_both 100 true (calls_text calls) _ (flat_avoids 100 thread_text (enumerate_from 0 calls) thread_avoids) (flat_avoids 100 squeue_text (enumerate_from 0 marks) squeue_avoids))

pub no_d : BeginsNone 100
no_d = record { record_or_reply = refl; conn = refl; order = refl; answer = refl; end = refl }

pub no_s : BeginsNone 115
no_s = record { record_or_reply = refl; conn = refl; order = refl; answer = refl; end = refl }
