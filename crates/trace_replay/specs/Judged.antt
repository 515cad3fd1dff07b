-- Why a report isn't right whose lines are read, over what they say.
use Rattle.std.specs.Prelude.{◌≡◌, ℕ, List, ◌++◌, codes}
use Rattle.perimeter_core.specs.declared.entries.Act.{Act}
use Rattle.perimeter_core.specs.declared.marks.Mark.{Mark}
use Rattle.conn_classifier.specs.Plan.{PlanOf}
use Rattle.conn_blocks.specs.CallLists.{CallLists}
use Rattle.ring_quotas.specs.declared.setup.Setup.{Setup}
use Rattle.report_lines.specs.ReportText.{body_text}
use Rattle.squeue_replay.specs.Histories.{endings_of}
use Rattle.trace_replay.specs.declared.reason.Reason.{Reason}
use Rattle.trace_replay.specs.declared.reason.Reason.TheVariants as reason
use Rattle.trace_replay.specs.Reasons.{AreOrdered, AreRight, DifferAt, IsUnordered, MarksFail}

-- what a report with marks has before its setup
abbrev pub head_of : PlanOf → CallLists → List (List Act) → List ℕ
head_of p calls orders = codes "report 2\n" ++ body_text p calls orders

module _ (p : PlanOf) (calls : CallLists) (setup : Setup) (marks : List (List Mark)) (head : List ℕ) where
  pub record DiffersAt (n : ℕ) : Type 0 where
    pub right : AreRight setup (endings_of p calls setup marks)
    pub orders : List (List Act)
    pub ordered : AreOrdered p calls (endings_of p calls setup marks) orders
    pub differ : DifferAt n head (head_of p calls orders)

  pub record IsHead : Type 0 where
    pub right : AreRight setup (endings_of p calls setup marks)
    pub orders : List (List Act)
    pub ordered : AreOrdered p calls (endings_of p calls setup marks) orders
    pub same : head ≡ head_of p calls orders

  abbrev pub FailsFor : Reason → Type 0
  FailsFor (reason.Order c) = AreRight setup (endings_of p calls setup marks) × IsUnordered p calls (endings_of p calls setup marks) c
  FailsFor (reason.Text n) = DiffersAt n
  FailsFor r = MarksFail setup (endings_of p calls setup marks) r
