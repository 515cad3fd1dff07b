-- What was served has whole orders, and without calls only one order is whole.
use Rattle.std.proofs.Common.{◌≡◌, ◌∙◌, ℕ, ◌<◌, Bool, true, false, List, [], ◌∷◌, length, map, get_or, slice_get, Some, IfSome, subst, sym, refl, ap, ap₂, zero, suc, arith}
use Rattle.std.specs.Prelude.{if◌then◌else◌}
use Rattle.std.specs.List.{range_with_len}
use Rattle.std.proofs.lemmas.List.{ext_get_or, length-map, get_or-map}
use Rattle.std.proofs.lemmas.Option.{slice_get-get_or}
use Rattle.perimeter_core.specs.declared.entries.Act.{Act}
use Rattle.perimeter_core.specs.declared.entries.Act.TheVariants as act
use Rattle.capture_reader.specs.Outcome.{CaptureFile}
use Rattle.conn_classifier.specs.Plan.{PlanOf, plan_by, plan_of}
use Rattle.conn_classifier.specs.declared.kinds.Item.{Item}
use Rattle.conn_blocks.specs.CallLists.{CallLists}
use Rattle.perimeter_core.specs.declared.marks.Mark.{Mark}
use Rattle.histories.specs.Endings.{Ending}
use Rattle.squeue_state.specs.Told.{Traced, marks_of}
use Rattle.conn_blocks.specs.Orders.{IsWhole, numbers_on}
use Rattle.conn_blocks.specs.ServeOrder.{BlockOf}
use Rattle.conn_blocks.proofs.WholeOrders.{is_feeds}
use Rattle.ring_quotas.specs.declared.setup.Setup.{Setup}
use Rattle.ring_quotas.specs.Quotas.{marks_most}
use Rattle.ring_threads.specs.Served.{HasServed, ServedOf, orders_of}
use Rattle.conn_blocks.specs.ServedBlocks.{AreServed}
use Rattle.report_lines.specs.ReportText.{report_text}
use Rattle.squeue_report.specs.SummaryText.{summary_text}
use Rattle.report_lines.specs.TraceText.{trace_text}
use Rattle.squeue_run.specs.Asked.{Asked, rules_of}
use Rattle.squeue_run.specs.CallWords.{AllThere, lists_of}
use Rattle.squeue_run.specs.Output.{plan_for, AreOrders, IsGenerated, IsReport, IsSummary, histories_of, items_alone, told_of}
use Rattle.squeue_run.specs.Ran.{conns_of, marks_in}
use Rattle.squeue_run.specs.declared.calls.CallWord.{CallWord}

abbrev orders_in : List BlockOf → List (List Act)
orders_in bs = map (λ b. b.order) bs

are_orders : (p : PlanOf) (calls : CallLists) (bs : List BlockOf) → AreServed p calls bs → ((c : ℕ) (order : List Act) → slice_get (orders_in bs) c ≡ Some order → IsWhole p calls c order)
    → AreOrders p calls (orders_in bs)
are_orders p calls bs served whole =
    let count : length (orders_in bs) ≡ length p.tuples = length-map bs (λ b. b.order) ∙ served.count in
    record {
      count = count;
      whole = λ c lt. whole c (get_or (orders_in bs) c []) (slice_get-get_or (orders_in bs) c [] (subst (λ n. c < n) (sym count) lt));
    }

no_call : (c j : ℕ) → numbers_on (lists_of []) c j ≡ []
no_call c zero = refl
no_call c (suc zero) = refl
no_call c (suc (suc zero)) = refl
no_call c (suc (suc (suc zero))) = refl
no_call c (suc (suc (suc (suc j)))) = refl

-- each connection has its items
listed : (file : CaptureFile) (verify : Bool) → length (plan_of file verify).items ≡ length (plan_of file verify).tuples
unfolding plan_by
listed file verify = length-map _ _

alone : (file : CaptureFile) (verify : Bool) (orders : List (List Act)) → AreOrders (plan_of file verify) (lists_of []) orders → orders ≡ items_alone (plan_of file verify)
alone file verify orders are =
    let p = plan_of file verify in
    let feeds : List Item → List Act = λ items. map act.Feed (range_with_len 0 (length items)) in
    let count : length orders ≡ length p.items = are.count ∙ sym (listed file verify) in
    ext_get_or [] orders (items_alone p) (count ∙ sym (length-map p.items feeds))
    (λ c lt. is_feeds p (lists_of []) c (get_or orders c []) (no_call c) (are.whole c (subst (λ n. c < n) are.count lt))
    ∙ sym (get_or-map feeds p.items c [] [] (subst (λ n. c < n) count lt)))

-- traces of these marks are the marks of the histories
module _ (marks : Ending → List Mark) where
  abbrev Tell : Bool → List Ending → List Traced → Type 0
  Tell b es ts = (q : ℕ) (e : Ending) → slice_get es q ≡ Some e → IfSome (slice_get ts q) (λ t. marks_of t ≡ (if b then marks e else []))

  traced : (es : List Ending) (ts : List Traced) → length ts ≡ length es → Tell true es ts → map marks_of ts ≡ map marks es
  traced [] [] count h = refl
  traced [] (t ∷ ts) count h = absurd (omega (arith, count))
  traced (e ∷ es) [] count h = absurd (omega (arith, count))
  traced (e ∷ es) (t ∷ ts) count h = ap₂ (λ m ms. m ∷ ms) (h 0 e refl) (traced es ts (omega (arith, count)) (λ q x is. h (suc q) x is))

-- the report with what the traces hold is that with the marks of the histories
told : (p : PlanOf) (calls : CallLists) (a : Asked) (v : ServedOf) → HasServed p calls a.setup v
    → (if a.setup.trace then trace_text p calls a.setup (rules_of a) (orders_of v) (map marks_of v.traces) else report_text p calls (orders_of v)) ≡ told_of p calls a v
told p calls a v h = by a.setup.trace h.traced
  where
    by : (b : Bool) → Tell (λ e. map (λ m. m.mark) e.history) b v.ended v.traces
        → (if b then trace_text p calls a.setup (rules_of a) (orders_of v) (map marks_of v.traces) else report_text p calls (orders_of v))
        ≡ (if b then trace_text p calls a.setup (rules_of a) (orders_of v) (histories_of v) else report_text p calls (orders_of v))
    by true t = ap (trace_text p calls a.setup (rules_of a) (orders_of v)) (traced (λ e. map (λ m. m.mark) e.history) v.ended v.traces h.traces t)
    by false t = refl

-- the plan is that of the capture, and the calls are those of the words
at_home : (s : Setup) (v : ServedOf) (p q : PlanOf) (calls others : CallLists) → p ≡ q → calls ≡ others → HasServed p calls s v → HasServed q others s v
at_home s v p q calls others same equal h =
    let Of : PlanOf → Type 0 = λ r. HasServed r calls s v in
    let By : CallLists → Type 0 = λ k. HasServed q k s v in
    subst By equal (subst Of same h)

pub is_report : (file : CaptureFile) (a : Asked) (p : PlanOf) (calls : CallLists) (v : ServedOf) (text : List ℕ)
    → p ≡ plan_of file a.verify → calls ≡ lists_of a.calls → HasServed p calls a.setup v
    → (AreServed p calls v.blocks
    → text ≡ (if a.setup.trace then trace_text p calls a.setup (rules_of a) (orders_of v) (map marks_of v.traces) else report_text p calls (orders_of v)))
    → IsReport file a v text
is_report file a p calls v text same equal h says =
    let q = plan_of file a.verify in
    let served : HasServed q (lists_of a.calls) a.setup v = at_home a.setup v p q calls (lists_of a.calls) same equal h in
    let are = are_orders q (lists_of a.calls) v.blocks served.served served.fits.whole in
    let Orders : List CallWord → Type 0 = λ ws. AreOrders q (lists_of ws) (orders_of v) in
    record {
      served = served;
      whole = are;
      alone = λ none. alone file a.verify (orders_of v) (subst Orders none are);
      says = says h.served ∙ told p calls a v h ∙ ap (λ r. told_of r calls a v) same ∙ ap (λ k. told_of q k a v) equal;
    }

pub is_summary : (number : ℕ) (file : CaptureFile) (a : Asked) (p : PlanOf) (calls : CallLists) (v : ServedOf) (input text : List ℕ) → IsGenerated number file
    → p ≡ plan_of file a.verify → calls ≡ lists_of [] → input ≡ file.bytes → HasServed p calls a.setup v
    → ((k : CallLists) → AreServed p k v.blocks → text ≡ summary_text number input p k (orders_of v)) → IsSummary number a v text
is_summary number file a p calls v input text generated same equal bytes h says =
    let q = plan_of file a.verify in
    let served : HasServed q (lists_of []) a.setup v = at_home a.setup v p q calls (lists_of []) same equal h in
    let items : orders_of v ≡ items_alone q = alone file a.verify (orders_of v) (are_orders q (lists_of []) v.blocks served.served served.fits.whole) in
    record {
      file = file;
      generated = generated;
      served = served;
      alone = items;
      says = says (lists_of []) (subst (λ k. AreServed p k v.blocks) equal h.served)
          ∙ ap (λ r. summary_text number input r (lists_of []) (orders_of v)) same
          ∙ ap (summary_text number input q (lists_of [])) items
          ∙ ap (λ b. summary_text number b q (lists_of []) (items_alone q)) bytes;
    }

-- each CALL that was looked up has its connection
pub all_there : (file : CaptureFile) (a : Asked) (p : PlanOf) (n : ℕ) (vs ws : List CallWord) → p ≡ plan_for file a → n ≡ length p.tuples → vs ≡ ws
    → AllThere n vs → AllThere (conns_of file a) ws
all_there file a p n vs ws same count equal all =
    let At : ℕ → Type 0 = λ k. AllThere k vs in
    let Of : List CallWord → Type 0 = λ us. AllThere (conns_of file a) us in
    subst Of equal (subst At (count ∙ ap (λ q. length q.tuples) same) all)

-- the marks are those of the capture and of the words
pub marks_are : (file : CaptureFile) (a : Asked) (p : PlanOf) (calls : CallLists) → p ≡ plan_of file a.verify → calls ≡ lists_of a.calls → marks_most p calls a.setup ≡ marks_in file a
marks_are file a p calls same equal = ap (λ r. marks_most r calls a.setup) same ∙ ap (λ k. marks_most (plan_of file a.verify) k a.setup) equal
