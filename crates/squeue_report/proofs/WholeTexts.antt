-- Whole texts, told part by part.
use Rattle.std.proofs.Common.{◌≡◌, ℕ, List, [], ◌∷◌, ◌++◌, length, map, codes, Option, Result, Ok, Err, OnOk, OnErr, refl, ap, subst, sym, ◌∙◌, append_assoc}
use Rattle.std.specs.List.{flat_map, enumerate_from}
use Rattle.std.specs.Io.KnownBytes.{Appends}
use Rattle.sq_base.specs.Ends.{AppendsProperly, Rose, end_of}
use Rattle.sq_base.specs.declared.ends.Failed.{Failed}
use Rattle.text_digits.specs.Told.{Told, more}
use Rattle.text_digits.specs.Pieces.{told_first}
use Rattle.text_digits.proofs.Joins.{more_more}
use Rattle.perimeter_core.specs.declared.marks.Mark.{Mark}
use Rattle.conn_classifier.specs.Plan.{PlanOf}
use Rattle.conn_blocks.specs.CallLists.{CallLists}
use Rattle.conn_blocks.specs.ServeOrder.{BlockOf}
use Rattle.conn_blocks.specs.ServedBlocks.{AreServed}
use Rattle.ring_quotas.specs.declared.setup.Setup.{Setup}
use Rattle.report_lines.specs.ReportText.{line, counts_line, body_text, done_line, report_text}
use Rattle.report_lines.specs.TraceText.{setup_line, calls_text, squeue_text, trace_text}
use Rattle.report_lines.proofs.Blocks.{agree, agrees, blocks_text}
use Rattle.squeue_report.specs.Written.{HasTold, IsWritten, Wrote}
use Rattle.conn_classifier.specs.declared.rules.Rules.{Rules}

module _ (p : PlanOf) (bs : List BlockOf) where
  -- the counts and all connections, for whatever calls the blocks are served
  abbrev pub IsBody : List ℕ → Type 0
  IsBody text = (calls : CallLists) → AreServed p calls bs → text ≡ body_text p calls (map (λ b. b.order) bs)

  abbrev pub IsReport : List ℕ → Type 0
  IsReport text = (calls : CallLists) → AreServed p calls bs → text ≡ report_text p calls (map (λ b. b.order) bs)

  is_body : IsBody (counts_line p.counts (length p.tuples) ++ blocks_text p 0 p.tuples bs)
  unfolding body_text
  is_body calls served =
      ap (λ l. counts_line p.counts (length p.tuples) ++ l) (agree p calls (map (λ b. b.order) bs) 0 p.tuples bs served.count (agrees p calls bs served))

  pub body_told : (old counts new : Told) → counts ≡ more old (counts_line p.counts (length p.tuples)) → new ≡ more counts (blocks_text p 0 p.tuples bs) → HasTold IsBody old new
  body_told old counts new c n =
      record {
        text = counts_line p.counts (length p.tuples) ++ blocks_text p 0 p.tuples bs;
        is = is_body;
        told = n ∙ ap (λ t. more t (blocks_text p 0 p.tuples bs)) c ∙ more_more old (counts_line p.counts (length p.tuples)) (blocks_text p 0 p.tuples bs);
      }

  abbrev head : List ℕ
  head = line (codes "report" ∷ codes "1" ∷ [])

  is_whole : (text : List ℕ) → IsBody text → IsReport (head ++ (text ++ done_line))
  unfolding report_text
  is_whole text is calls served = ap (λ l. head ++ (l ++ done_line)) (is calls served)

  pub report_told : (old first body text : Told) → first ≡ more old (line (codes "report" ∷ codes "1" ∷ [])) → HasTold IsBody first body → text ≡ more body done_line → HasTold IsReport old text
  report_told old first body text f b t =
      record {
        text = head ++ (b.text ++ done_line);
        is = is_whole b.text b.is;
        told = t ∙ ap (λ l. more l done_line) (b.told ∙ ap (λ l. more l b.text) f) ∙ more_more (more old head) b.text done_line ∙ more_more old head (b.text ++ done_line);
      }

module _ (p : PlanOf) (calls : CallLists) (setup : Setup) (rules : Rules) (bs : List BlockOf) (marks : List (List Mark)) where
  abbrev pub IsTrace : List ℕ → Type 0
  IsTrace text = AreServed p calls bs → text ≡ trace_text p calls setup rules (map (λ b. b.order) bs) marks

  abbrev begin : List ℕ
  begin = line (codes "report" ∷ codes "2" ∷ [])

  abbrev rest : List ℕ
  rest = setup_line setup rules ++ (calls_text calls ++ (flat_map squeue_text (enumerate_from 0 marks) ++ done_line))

  is_trace : (text : List ℕ) → IsBody p bs text → IsTrace (begin ++ (text ++ rest))
  unfolding trace_text
  is_trace text is served = ap (λ l. begin ++ (l ++ rest)) (is calls served)

  pub trace_told : (old first body set called squeues text : Told) → first ≡ more old (line (codes "report" ∷ codes "2" ∷ [])) → HasTold (IsBody p bs) first body
      → set ≡ more body (setup_line setup rules) → called ≡ more set (calls_text calls) → squeues ≡ more called (flat_map squeue_text (enumerate_from 0 marks)) → text ≡ more squeues done_line
      → HasTold IsTrace old text
  trace_told old first body set called squeues text f b s c q t =
      let b1 = b.told ∙ ap (λ l. more l b.text) f in
      let s1 = s ∙ ap (λ l. more l (setup_line setup rules)) b1 in
      let c1 = c ∙ ap (λ l. more l (calls_text calls)) s1 in
      let q1 = q ∙ ap (λ l. more l (flat_map squeue_text (enumerate_from 0 marks))) c1 in
      record {
        text = begin ++ (b.text ++ rest);
        is = is_trace b.text b.is;
        told = t ∙ ap (λ l. more l done_line) q1 ∙ simp (more_more, append_assoc);
      }

first_told : (place : ℕ) (was : Option (List ℕ)) (before : ℕ) (text : List ℕ) → more (told_first place was before).told text ≡ record { place = place; was = was; faults = before; text = text }
unfolding more
first_told place was before text = refl

-- a text that was told to an end in pieces, from its beginning on, was written
pub written_of : (Is : List ℕ → Type 0) (place : ℕ) (was is : Option (List ℕ)) (before after : ℕ) (old new : Told) (r : Result (Unit {0}) Failed)
    → old ≡ (told_first place was before).told → HasTold Is old new
    → OnOk r (Appends new.was is new.text × (after ≡ new.faults)) → OnErr r (AppendsProperly new.was is new.text × Rose new.faults after)
    → IsWritten Is (record { was = was; is = is; faults_were = before; faults_are = after }) r
written_of Is place was is before after old new r first h ok failed = record { text = h.text; is = h.is; wrote = by r ok failed }
  where
    same : new ≡ record { place = place; was = was; faults = before; text = h.text }
    same = h.told ∙ ap (λ t. more t h.text) first ∙ first_told place was before h.text

    by : (r : Result (Unit {0}) Failed) → OnOk r (Appends new.was is new.text × (after ≡ new.faults)) → OnErr r (AppendsProperly new.was is new.text × Rose new.faults after)
        → Wrote (record { was = was; is = is; faults_were = before; faults_are = after }) h.text r
    by (Ok x) o f = subst (λ (t : Told). Appends t.was is t.text × (after ≡ t.faults)) same o
    by (Err x) o f = subst (λ (t : Told). AppendsProperly t.was is t.text × Rose t.faults after) same f

-- what is told keeps its place
pub place_kept : (Is : List ℕ → Type 0) (old new : Told) → HasTold Is old new → new.place ≡ old.place
unfolding more
place_kept Is old new h = ap (λ (t : Told). t.place) h.told

-- an end that is left so
pub left_as : {X : Type 0} (bytes : X → Option (List ℕ)) (faults : X → ℕ) (Is : List ℕ → Type 0) (old now left : X) (r : Result (Unit {0}) Failed) → left ≡ now
    → IsWritten Is (end_of bytes faults old now) r → IsWritten Is (end_of bytes faults old left) r
left_as bytes faults Is old now left r e w = subst (λ x. IsWritten Is (end_of bytes faults old x) r) (sym e) w
