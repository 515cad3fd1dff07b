-- The marks of histories that fit are right, and give the same orders.
use Rattle.std.proofs.Common.{◌≡◌, ℕ, ◌+◌, ◌/◌, ◌%◌, ◌<◌, ◌==◌, Bool, true, Some, List, [], ◌∷◌, ◌++◌, length, map, ap, sym, ◌∙◌, subst, arith}
use Rattle.std.specs.Prelude.{slice_get}
use Rattle.std.specs.Option.{option_map}
use Rattle.std.proofs.lemmas.List.{length-map}
use Rattle.std.proofs.lemmas.Option.{slice_get-map, slice_get_within}
use Rattle.perimeter_core.specs.declared.entries.Act.{Act}
use Rattle.perimeter_core.specs.declared.marks.Mark.{Mark}
use Rattle.perimeter_core.specs.Perimeter.{State, is_here}
use Rattle.perimeter_core.specs.History.{Element, Setting, run, start}
use Rattle.perimeter_core.specs.Deeds.{fed, puts_in}
use Rattle.perimeter_core.specs.Legal.{Legal}
use Rattle.perimeter_core.specs.Ending.{IsOver}
use Rattle.perimeter_core.proofs.OneMore.{legal_next}
use Rattle.histories.specs.Endings.{Ending}
use Rattle.histories.specs.Stays.{AreOfAllStays, Stay, all_in, ended_stay, stay, stays}
use Rattle.histories.proofs.StaysJoin.{all_stays}
use Rattle.conn_classifier.specs.Plan.{PlanOf}
use Rattle.conn_blocks.specs.CallLists.{CallLists}
use Rattle.histories.specs.Keeping.{KeepsPace}
use Rattle.ring_quotas.specs.declared.setup.Setup.{Setup}
use Rattle.ring_quotas.specs.Quotas.{IsInRange}
use Rattle.ring_quotas.specs.Fits.{Fits}
use Rattle.squeue_replay.specs.Histories.{endings_of, stay_of, times_in}
use Rattle.histories.proofs.ListPlaces.{some_at}
use Rattle.trace_replay.specs.Reasons.{AreOrdered, AreRight, HasClosed, IsOrdered, MissesAnOut}
use Rattle.trace_replay.proofs.Endings.{due_by_stay, endings_are, full_at, full_count, full_endings, full_setting, starts_at, starts_count}
use Rattle.trace_replay.proofs.Full.{alike_full, fed_dues, full_fits, full_from}
use Rattle.trace_replay.proofs.InStays.{in_known, stay_there}
use Rattle.trace_replay.proofs.Notes.{Alike, NotesFit, legal_alike, notes_fit, pace_alike, run_alike}
use Rattle.trace_replay.proofs.NotesIn.{begins_stay, firsts, marks_of}
use Rattle.trace_replay.proofs.Rounds.{begun_at}
use Rattle.trace_replay.proofs.StaysAlike.{AllAlike, all_same, ended_same, some_same, stay_same}
use Rattle.trace_replay.proofs.TakesFew.{takes_few}

-- histories that are alike at each squeue: the ones are right where the others are
module _ (p : PlanOf) (calls : CallLists) (setup : Setup) (F : ℕ → ℕ → List Act) (marks : List (List Mark)) where
  pub full_notes_fit : (q : ℕ) (e : Ending) → slice_get (full_endings p calls setup F marks) q ≡ Some e → NotesFit e.history
  full_notes_fit q e at =
      let f = full_at p calls setup F marks q e at in
      subst (λ (e : Ending). NotesFit e.history) (sym f.2) (full_fits (λ c n. F c (stay_of setup.squeues q c n)) [] f.0)

pub over_alike : (h k : Ending) → h.setting ≡ k.setting → Alike h.history k.history → IsOver h.setting (run h.setting h.history) → IsOver k.setting (run k.setting k.history)
over_alike h k same a over =
    subst (λ (s : State). IsOver k.setting s) (run_alike h.history k.history a (start k.setting))
    (subst (λ (S : Setting). IsOver S (run S h.history)) same over)

pub legal_both : (h k : Ending) → h.setting ≡ k.setting → Alike h.history k.history → NotesFit k.history → Legal h.setting h.history → Legal k.setting k.history
legal_both h k same a notes l = legal_alike k.setting h.history k.history a notes (subst (λ (S : Setting). Legal S h.history) same l)

module _ (p : PlanOf) (calls : CallLists) (setup : Setup) (some : 0 < setup.squeues) (marks : List (List Mark)) (hs : List Ending) (orders : List (List Act))
    (same : marks ≡ map (λ e. map (λ m. m.mark) e.history) hs) (fits : Fits p calls setup hs orders) where
  abbrev F : ℕ → ℕ → List Act
  F = due_by_stay p calls setup

  abbrev ks : List Ending
  ks = full_endings p calls setup F marks

  note_right : (q : ℕ) (h : Ending) → slice_get hs q ≡ Some h → (B K : List Element) (e : Element) (c : ℕ) → B ++ e ∷ K ≡ h.history → puts_in c e.mark ≡ true
      → fed e.note ≡ fed (F c (stay_of setup.squeues q c (times_in c (marks_of B))))
  note_right q h at B K e c split puts =
      let fit = fits.each q h at in
      let n : ℕ = times_in c (marks_of B) in
      let t : ℕ = stay_of setup.squeues q c n in
      let lt : q < setup.squeues = (let w = slice_get_within hs q h at in let k = fits.count in omega (arith, w, k)) in
      let legal : Legal h.setting (B ++ e ∷ K) = subst (Legal h.setting) (sym split) fit.ended.legal in
      let may = legal_next h.setting B K e legal in
      let size : length h.setting.starts ≡ length p.tuples = ap (λ (S : Setting). length S.starts) fit.setting ∙ starts_count p calls setup q in
      let known : c < length p.tuples = (let k = in_known h.setting e.mark c may.range puts in omega (arith, k, size)) in
      let home : is_here (start h.setting) c ≡ (q == c % setup.squeues) = ap (λ (S : Setting). is_here (start S) c) fit.setting ∙ starts_at p calls setup q c known in
      let begins = begins_stay h.setting B K e c puts in
      let v : Stay = begins.0 in
      let where_it_is = begun_at setup.squeues some q c n lt in
      let there : slice_get (all_in (stays h.setting h.history c)) (length (firsts (q == c % setup.squeues)) + n) ≡ Some v =
      subst (λ (H : List Element). slice_get (all_in (stays h.setting H c)) (length (firsts (q == c % setup.squeues)) + n) ≡ Some v) split
      (subst (λ (b : Bool). slice_get (all_in (stays h.setting (B ++ e ∷ K) c)) (length (firsts b) + n) ≡ Some v) home begins.1) in
      let is : stay hs c t ≡ Some v =
      stay_there hs c t q (length (firsts (q == c % setup.squeues)) + n) h v at
      (ap (λ (m : ℕ). (c + t) % m) fits.count ∙ where_it_is.0) (ap (λ (m : ℕ). t / m) fits.count ∙ where_it_is.1) there in
      ap fed (sym begins.2) ∙ (fits.noted c known t v is ∙ sym (fed_dues setup.squeues setup.spread q c n))

  alike : AllAlike hs ks
  alike = record {
    count = sym (full_count p calls setup F marks ∙ (ap length same ∙ length-map hs (λ e. map (λ m. m.mark) e.history)));
    each = λ q h k hat kat.
        let fit = fits.each q h hat in
        let f = full_at p calls setup F marks q k kat in
        let g : ℕ → ℕ → List Act = λ c n. F c (stay_of setup.squeues q c n) in
        let its : Some f.0 ≡ Some (marks_of h.history) =
        sym f.1 ∙ (ap (λ (l : List (List Mark)). slice_get l q) same ∙ (slice_get-map (λ e. map (λ m. m.mark) e.history) hs q ∙ ap (option_map (λ (e : Ending). marks_of e.history)) hat)) in
        let is : f.0 ≡ marks_of h.history = cc its in
        let whole : Alike h.history (full_from g [] (marks_of h.history)) =
        alike_full g [] h.history (notes_fit h.setting h.history fit.ended.legal) (λ B K e c split puts. note_right q h hat B K e c split puts) in (
          fit.setting ∙ sym (full_setting p calls setup F marks q k kat),
          subst (λ (e : Ending). Alike h.history e.history) (sym f.2) (subst (λ (ms : List Mark). Alike h.history (full_from g [] ms)) (sym is) whole),
        );
  }

  other : (q : ℕ) (k : Ending) → slice_get ks q ≡ Some k → (h : Ending) × (slice_get hs q ≡ Some h)
  other q k at = let w = slice_get_within ks q k at in let n = alike.count in some_at hs q (omega (arith, w, n))

  legal : (q : ℕ) (k : Ending) → slice_get ks q ≡ Some k → Legal k.setting k.history
  legal q k at =
      let h = other q k at in
      let both = alike.each q h.0 k h.1 at in
      legal_both h.0 k both.0 both.1 (full_notes_fit p calls setup F marks q k at) (fits.each q h.0 h.1).ended.legal

  closed : (q : ℕ) (k : Ending) → slice_get ks q ≡ Some k → HasClosed k
  closed q k at =
      let h = other q k at in
      let both = alike.each q h.0 k h.1 at in
      over_alike h.0 k both.0 both.1 (fits.each q h.0 h.1).ended.over

  paced : (q : ℕ) (k : Ending) → slice_get ks q ≡ Some k → (r : ℕ) → r < setup.rings → KeepsPace setup.squeues setup.spread setup.mode setup.budget q k.setting r k.history
  paced q k at r lt =
      let h = other q k at in
      let both = alike.each q h.0 k h.1 at in
      pace_alike setup.squeues setup.spread setup.mode setup.budget q k.setting r h.0.history k.history both.1
      (subst (λ (S : Setting). KeepsPace setup.squeues setup.spread setup.mode setup.budget q S r h.0.history) both.0 ((fits.each q h.0 h.1).keeps r lt))

  right : AreRight setup ks
  right = record {
    legal = legal;
    closed = closed;
    fit = λ q k at. record {
      pace = paced q k at;
      takes = λ r lt. takes_few setup.squeues setup.spread setup.mode setup.budget q r k (legal q k at) (closed q k at).free (paced q k at r lt);
    };
  }

  no_out_missing : (c : ℕ) → c < length p.tuples → MissesAnOut ks c → ⊥
  no_out_missing c lt m =
      let began = some_same (stay ks c (m.before + 1)) (stay hs c (m.before + 1)) m.now (sym (stay_same hs ks alike c (m.before + 1))) m.begun in
      let last = fits.linked.linked c lt m.before began.0 began.1 in
      let over = some_same (ended_stay hs c m.before) (ended_stay ks c m.before) last.0 (ended_same hs ks alike c m.before) last.1 in
      let none = m.not_ended in
      let no : ⊥ = cc (over.1, none) in no

  in_order : (c : ℕ) (order : List Act) → c < length p.tuples → slice_get orders c ≡ Some order → IsOrdered p calls ks c order
  in_order c order lt at =
      let s = fits.settled c order at in
      let once = s.1 in
      let l = fits.linked in
      record {
        left = no_out_missing c lt;
        did = s.0;
        all = all_same hs ks alike c s.0
            (subst (AreOfAllStays hs c) (sym once.acts_are) (all_stays hs c once.squeue once.end l.legal (l.home c lt) (l.linked c lt) once.is_end once.here));
        settled = s.2;
        whole = fits.whole c order at;
      }

  pub right_and_ordered : length orders ≡ length p.tuples → AreRight setup ks × AreOrdered p calls ks orders
  right_and_ordered count = (
    right,
    record { count = count; each = λ c order at. in_order c order (let w = slice_get_within orders c order at in omega (arith, w, count)) at },
  )

pub right_from_fits : (p : PlanOf) (calls : CallLists) (setup : Setup) (marks : List (List Mark)) (hs : List Ending) (orders : List (List Act)) → IsInRange setup
    → marks ≡ map (λ e. map (λ m. m.mark) e.history) hs → length orders ≡ length p.tuples → Fits p calls setup hs orders
    → AreRight setup (endings_of p calls setup marks) × AreOrdered p calls (endings_of p calls setup marks) orders
right_from_fits p calls setup marks hs orders range same count fits =
    let some : 0 < setup.squeues = (let s = range.squeues.0 in omega (arith, s)) in
    subst (λ (es : List Ending). AreRight setup es × AreOrdered p calls es orders) (sym (endings_are p calls setup marks)) (right_and_ordered p calls setup some marks hs orders same fits count)
