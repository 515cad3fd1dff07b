-- How far a squeue's marks were gone through, mark by mark.
use Rattle.std.specs.Option.{option_or}
use Rattle.std.specs.Bool.{then_some}
use Rattle.std.specs.List.{flat_map}
use Rattle.std.proofs.Common.{◌≡◌, ◌↔◌, ℕ, suc, ◌+◌, ◌<◌, ◌≤◌, not, All, Bool, true, false, Decides, IsTrue, MatchOption, Option, Some, None, List, [], ◌∷◌, ◌++◌, length, take, refl, ap, sym, ◌∙◌, subst, append_assoc, arith, length-append}
use Rattle.std.proofs.lemmas.List.{append-nil, length_push}
use Rattle.std.proofs.Math.Seq.{take-append_seam}
use Rattle.perimeter_core.specs.declared.marks.Mark.{Mark}
use Rattle.perimeter_core.specs.Ending.{IsOver}
use Rattle.perimeter_core.specs.History.{Element, Setting, run}
use Rattle.perimeter_core.specs.Legal.{Legal}
use Rattle.histories.specs.Endings.{Ending}
use Rattle.conn_classifier.specs.Plan.{PlanOf}
use Rattle.conn_blocks.specs.CallLists.{CallLists}
use Rattle.ring_quotas.specs.declared.setup.Setup.{Setup}
use Rattle.ring_quotas.specs.Quotas.{setting_at}
use Rattle.report_lines.specs.ReportText.{line, line_end}
use Rattle.report_lines.specs.TraceText.{mark_fields, mark_line}
use Rattle.squeue_replay.specs.declared.pace.PaceCheck.{PaceCheck}
use Rattle.squeue_replay.specs.Histories.{ending_of, note_of, noted, noted_from}
use Rattle.squeue_replay.specs.Marks.{IsPrinted}
use Rattle.squeue_replay.specs.Pacing.{KeepsAt, PaceStands}
use Rattle.squeue_replay.specs.Standing.{SqueueOf, Stands}
use Rattle.squeue_replay.proofs.OneMoreMark.{noted_push}
use Rattle.trace_lines.proofs.MarkOnce.{line_same}
use Rattle.trace_replay.specs.Reasons.{AreFit, IsIllegalAt, IsUnfitAt}
use Rattle.trace_replay.specs.Going.{HasGone}
use Rattle.trace_replay.proofs.Fitting.{fit_more, fit_none, unfit_here, unfit_on}

-- ---- lines

end_some : (fs : List (List ℕ)) → 0 < length (line_end fs)
end_some [] = omega arith
end_some (f ∷ fs) = omega arith

some_line : (fs : List (List ℕ)) → 0 < length (line fs)
some_line [] = omega arith
some_line (f ∷ fs) = omega (arith, length-append f (line_end fs), end_some fs)

-- a mark has a line
pub has_line : (m : Mark) → 0 < length (mark_line m)
unfolding mark_line
has_line m = some_line (mark_fields m)

pub shorter : (m : Mark) (text rest : List ℕ) → text ≡ mark_line m ++ rest → length rest + 1 ≤ length text
shorter m text rest is = omega (arith, ap length is, length-append (mark_line m) rest, has_line m)

first_of_all : (m : Mark) (ms : List Mark) → All IsPrinted (m ∷ ms) → IsPrinted m
first_of_all m ms each = each 0 m (omega arith)

others_of_all : (m : Mark) (ms : List Mark) → All IsPrinted (m ∷ ms) → All IsPrinted ms
others_of_all m ms each = λ k d there. each (suc k) d (omega (arith, there))

-- the next of these marks is the one that was read
pub record Next (more : List Mark) (m : Mark) (rest : List ℕ) : Type 0 where
  pub others : List Mark
  pub is : more ≡ m ∷ others
  pub lines : rest ≡ flat_map mark_line others
  pub printed : All IsPrinted others

pub next_mark : (more : List Mark) (text : List ℕ) (m : Mark) (rest : List ℕ) → All IsPrinted more → text ≡ flat_map mark_line more → IsPrinted m → text ≡ mark_line m ++ rest → Next more m rest
next_mark [] text m rest each lines printed is = let less = shorter m text rest is in let none = ap length lines in absurd (omega (arith, less, none))
next_mark (x ∷ more) text m rest each lines printed is =
    let one = line_same x m (flat_map mark_line more) rest (first_of_all x more each) printed (sym lines ∙ is) in
    record { others = more; is = ap (λ (y : Mark). y ∷ more) one.0; lines = sym one.1; printed = others_of_all x more each }

-- where no mark can be read, there is none left
pub no_next : (more : List Mark) (text : List ℕ) → All IsPrinted more → text ≡ flat_map mark_line more → 0 < length text → ((m : Mark) (rest : List ℕ) → IsPrinted m → text ≡ mark_line m ++ rest → ⊥) → ⊥
no_next [] text each lines some none = let e = ap length lines in omega (arith, e, some)
no_next (x ∷ more) text each lines some none = none x (flat_map mark_line more) (first_of_all x more each) lines

all_gone : (more : List Mark) (text : List ℕ) → text ≡ flat_map mark_line more → length text ≡ 0 → more ≡ []
all_gone [] text lines none = refl
all_gone (x ∷ more) text lines none = let less = shorter x text (flat_map mark_line more) lines in absurd (omega (arith, less, none))

-- ---- histories

joined_from : (squeues spread q : ℕ) (front a b : List Mark) → noted_from squeues spread q front (a ++ b) ≡ noted_from squeues spread q front a ++ noted_from squeues spread q (front ++ a) b
joined_from squeues spread q front [] b = ap (λ (f : List Mark). noted_from squeues spread q f b) (sym (append-nil front))
joined_from squeues spread q front (x ∷ a) b =
    let e : Element = record { mark = x; note = note_of squeues spread q front x } in
    ap (λ (H : List Element). e ∷ H)
    (joined_from squeues spread q (front ++ x ∷ []) a b ∙ ap (λ (f : List Mark). noted_from squeues spread q (front ++ x ∷ []) a ++ noted_from squeues spread q f b) (append_assoc front (x ∷ []) a))

long_from : (squeues spread q : ℕ) (front a : List Mark) → length (noted_from squeues spread q front a) ≡ length a
long_from squeues spread q front [] = refl
long_from squeues spread q front (x ∷ a) = ap (λ (n : ℕ). suc n) (long_from squeues spread q (front ++ x ∷ []) a)

module _ (p : PlanOf) (calls : CallLists) (setup : Setup) (q : ℕ) where
  abbrev pub its_setting : Setting
  its_setting = setting_at p calls setup.squeues setup.rings setup.spread q

  abbrev pub history : List Mark → List Element
  history ms = noted setup.squeues setup.spread q ms

  abbrev pub ended : List Mark → Ending
  ended ms = ending_of p calls setup (q, ms)

  long : (a : List Mark) → length (history a) ≡ length a
  long a = long_from setup.squeues setup.spread q [] a

  front_of : (a b : List Mark) → take (length a) (history (a ++ b)) ≡ history a
  front_of a b =
      ap (λ (H : List Element). take (length a) H) (joined_from setup.squeues setup.spread q [] a b)
      ∙ (ap (λ (n : ℕ). take n (history a ++ noted_from setup.squeues setup.spread q a b)) (sym (long a)) ∙ take-append_seam (history a) (noted_from setup.squeues setup.spread q a b))

  -- so many of these marks were gone through, and these lines are those of the rest
  pub record Reached (ms : List Mark) (rest : List ℕ) (count : ℕ) (unfit : Option ℕ) (s : SqueueOf) (pace : PaceCheck) : Type 0 where
    pub past : List Mark
    pub more : List Mark
    pub joined : ms ≡ past ++ more
    pub printed : All IsPrinted more
    pub lines : rest ≡ flat_map mark_line more
    pub counted : count ≡ length past
    pub stands : Stands its_setting (history past) s
    pub paced : PaceStands its_setting (history past) pace
    pub fit : MatchOption unfit (AreFit setup q (ended past)) (IsUnfitAt setup q (ended past))

  pub begins : (ms : List Mark) (lines : List ℕ) (s : SqueueOf) (pace : PaceCheck) → All IsPrinted ms → lines ≡ flat_map mark_line ms → Stands its_setting [] s → PaceStands its_setting [] pace → Reached ms lines 0 None s pace
  begins ms lines s pace printed are stands paced =
      record { past = []; more = ms; joined = refl; printed = printed; lines = are; counted = refl; stands = stands; paced = paced; fit = fit_none setup q q its_setting }

  abbrev behind : List Mark → Mark → Element
  behind past m = record { mark = m; note = note_of setup.squeues setup.spread q past m }

  abbrev with : List Element → Ending
  with H = record { number = q; setting = its_setting; history = H }

  first_unfit : (past : List Mark) (m : Mark) (count : ℕ) (unfit : Option ℕ) (keeps : Bool) → count ≡ length past → MatchOption unfit (AreFit setup q (ended past)) (IsUnfitAt setup q (ended past)) → Decides keeps (KeepsAt setup q its_setting (history past) (behind past m))
      → MatchOption (option_or unfit (then_some (not keeps) count)) (AreFit setup q (with (history past ++ behind past m ∷ []))) (IsUnfitAt setup q (with (history past ++ behind past m ∷ [])))
  first_unfit past m count (Some n) keeps counted fit decided = unfit_on setup q q its_setting (history past) (behind past m) n fit
  first_unfit past m count None true counted fit decided = fit_more setup q q its_setting (history past) (behind past m) fit (decided.0 refl)
  first_unfit past m count None false counted fit decided =
      subst (IsUnfitAt setup q (with (history past ++ behind past m ∷ []))) (long past ∙ sym counted) (unfit_here setup q q its_setting (history past) (behind past m) fit (λ one. let unlike : false ≡ true = decided.1 one in cc unlike))

  one_more : (past : List Mark) (m : Mark) (count : ℕ) (unfit : Option ℕ) (keeps : Bool) → count ≡ length past → MatchOption unfit (AreFit setup q (ended past)) (IsUnfitAt setup q (ended past)) → Decides keeps (KeepsAt setup q its_setting (history past) (behind past m))
      → MatchOption (option_or unfit (then_some (not keeps) count)) (AreFit setup q (ended (past ++ m ∷ []))) (IsUnfitAt setup q (ended (past ++ m ∷ [])))
  one_more past m count unfit keeps counted fit decided =
      subst (λ (H : List Element). MatchOption (option_or unfit (then_some (not keeps) count)) (AreFit setup q (with H)) (IsUnfitAt setup q (with H))) (sym (noted_push setup.squeues setup.spread q past m)) (first_unfit past m count unfit keeps counted fit decided)

  module _ (ms : List Mark) (text : List ℕ) (count : ℕ) (unfit : Option ℕ) (s : SqueueOf) (pace : PaceCheck) (reached : Reached ms text count unfit s pace) (m : Mark) (rest : List ℕ) (printed : IsPrinted m) (is : text ≡ mark_line m ++ rest) where
    next : Next reached.more m rest
    next = next_mark reached.more text m rest reached.printed reached.lines printed is

    whole : ms ≡ (reached.past ++ m ∷ []) ++ next.others
    whole = reached.joined ∙ (ap (λ (more : List Mark). reached.past ++ more) next.is ∙ sym (append_assoc reached.past (m ∷ []) next.others))

    pub goes_on : (t : SqueueOf) (after : PaceCheck) (keeps : Bool) → Stands its_setting (history (reached.past ++ m ∷ [])) t → PaceStands its_setting (history (reached.past ++ m ∷ [])) after
        → Decides keeps (KeepsAt setup q its_setting (history reached.past) (record { mark = m; note = note_of setup.squeues setup.spread q reached.past m }))
        → Reached ms rest (count + 1) (option_or unfit (then_some (not keeps) count)) t after
    goes_on t after keeps stands paced decided =
        record {
          past = reached.past ++ m ∷ [];
          more = next.others;
          joined = whole;
          printed = next.printed;
          lines = next.lines;
          counted = ap (λ (n : ℕ). n + 1) reached.counted ∙ sym (length_push reached.past m);
          stands = stands;
          paced = paced;
          fit = one_more reached.past m count unfit keeps reached.counted reached.fit decided;
        }

    pub illegal : (Legal its_setting (history (reached.past ++ m ∷ [])) → ⊥) → IsIllegalAt (ended ms) count
    illegal unlike =
        let one = length_push reached.past m in
        let all = ap length whole ∙ length-append (reached.past ++ m ∷ []) next.others in
        let so_long = long ms in
        let n = reached.counted in
        let front : take count (history ms) ≡ history reached.past =
        ap (λ (k : ℕ). take k (history ms)) n ∙ (ap (λ (l : List Mark). take (length reached.past) (history l)) reached.joined ∙ front_of reached.past reached.more) in
        let to : take (count + 1) (history ms) ≡ history (reached.past ++ m ∷ []) =
        ap (λ (k : ℕ). take k (history ms)) (ap (λ (k : ℕ). k + 1) n ∙ sym one) ∙ (ap (λ (l : List Mark). take (length (reached.past ++ m ∷ [])) (history l)) whole ∙ front_of (reached.past ++ m ∷ []) next.others) in
        record {
          there = omega (arith, one, all, so_long, n);
          before = subst (Legal its_setting) (sym front) reached.stands.legal;
          illegal = λ legal. unlike (subst (Legal its_setting) to legal);
        }

  pub ends : (ms : List Mark) (text : List ℕ) (count : ℕ) (unfit : Option ℕ) (s : SqueueOf) (pace : PaceCheck) (has : Bool) → Reached ms text count unfit s pace → length text ≡ 0
      → ((H : List Element) → Stands its_setting H s → (IsTrue has ↔ IsOver its_setting (run its_setting H))) → HasGone setup q (ended ms) s.guests has unfit
  ends ms text count unfit s pace has reached none over =
      subst (λ (l : List Mark). HasGone setup q (ended l) s.guests has unfit)
      (sym (reached.joined ∙ (ap (λ (more : List Mark). reached.past ++ more) (all_gone reached.more text reached.lines none) ∙ append-nil reached.past)))
      (record {
        legal = reached.stands.legal;
        count = reached.stands.guests;
        each = reached.stands.each_guest;
        ended = over (history reached.past) reached.stands;
        unfit = reached.fit;
      })
