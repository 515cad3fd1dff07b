-- A whole run with a call and with its marks ends well, and what it wrote replays.
use Rattle.std.specs.Prelude.{◌≡◌, ℕ, zero, suc, ◌≤◌, ◌==◌, ◌&&◌, true, false, Option, Some, List, [], ◌∷◌, ◌++◌, length, get_or, slice_get, if◌then◌else◌}
use Rattle.std.specs.Option.{option_map_or}
use Rattle.std.proofs.Common.{refl, sym, subst, ap, ◌∙◌, arith}
use Rattle.std.proofs.lemmas.Bool.Decides.{nat_tests}
use Rattle.std.proofs.lemmas.List.{append-nil}
use Rattle.sq_base.specs.declared.kinds.Status.TheVariants as status
use Rattle.conn_classifier.specs.Plan.{PlanOf}
use Rattle.tcb_machine.specs.declared.kinds.Call.{Call}
use Rattle.perimeter_core.specs.History.{run}
use Rattle.perimeter_core.specs.Legal.{Legal}
use Rattle.perimeter_core.specs.Ending.{IsOver}
use Rattle.histories.specs.declared.mode.Mode.TheVariants as Mode'
use Rattle.histories.specs.Keeping.{KeepsPace}
use Rattle.histories.specs.ModeWords.{mode_word}
use Rattle.squeue_pool.specs.Keeping.{PassesKeep}
use Rattle.squeue_pool.specs.Runs.{made_in_all}
use Rattle.conn_blocks.specs.CallLists.{call_at, calls_of}
use Rattle.conn_blocks.specs.Orders.{IsWhole, call_numbers, numbers_from, numbers_on, settle}
use Rattle.ring_quotas.specs.Quotas.{marks_most, setting_at}
use Rattle.ring_threads.specs.Served.{HasServed}
use Rattle.squeue_run.specs.Asked.{Asked, asked}
use Rattle.squeue_run.specs.CallWords.{AllThere}
use Rattle.squeue_run.specs.GeneratedCapture.{file_header, record_of}
use Rattle.squeue_run.specs.Limits.{most_marks}
use Rattle.squeue_run.specs.Output.{AreOrders, IsReport, told_of}
use Rattle.squeue_run.specs.Ran.{Accepts, HasRan, IsServable}
use Rattle.squeue_run.specs.declared.calls.CallWord.{CallWord}
use Rattle.shell.specs.Words.{uses_from}
use Rattle.trace_replay.specs.Answers.{HasReplayed}
use Rattle.trace_replay.specs.Replays.{Replays, most_input}
use Rattle.trace_replay.specs.Texts.{yes_line}
use Rattle.trace_replay.specs.declared.run.Replayed.TheVariants as replayed
use Rattle.replay_law.specs.Wrote.{WroteWhatReplays}
use Rattle.worked_runs.specs.OneSqueue.{setup_by, block_of}
use Rattle.worked_runs.specs.FiveSegments.{file, plan, source, err}
use Rattle.worked_runs.specs.TracedCall.{words, word, wanted, calls, setting, history, ending, trace, order, served, text, out, input, replay_source, replay_out}
use Rattle.worked_runs.proofs.OneConnection.{is_zero}
use Rattle.worked_runs.proofs.OneCall.{no_second, no_third}
use Rattle.worked_runs.proofs.ToldTraced.{told}
use Rattle.worked_runs.proofs.Whole.{is_input, plan_is, reads, takes_few}
use Rattle.worked_runs.proofs.Witness.{Goes, has_served}

-- What was served

-- only the first thread has calls
no_others : (j : ℕ) → calls_of calls (suc j) ≡ []
no_others zero = refl
no_others (suc zero) = refl
no_others (suc (suc zero)) = refl
no_others (suc (suc (suc j))) = refl

abbrev Asks : ℕ → ℕ → ℕ
Asks j k = option_map_or (λ (x : ℕ × Call). if x.0 == 0 then 1 else 0) (call_at calls j k) 0

none_asked : (j k : ℕ) → 0 ≡ Asks (suc j) k
none_asked j k = sym (ap (λ (l : List (ℕ × Call)). option_map_or (λ (x : ℕ × Call). if x.0 == 0 then 1 else 0) (slice_get l k) 0) (no_others j))

-- it makes its only call once
called : (j k : ℕ) → made_in_all 0 j k (ending ∷ []) ≡ Asks j k
called zero zero = refl
called zero (suc k) = let other : ((0 == 0) && ((0 == 0) && (0 == suc k))) ≡ false = no_third (0 == 0) (0 == suc k) (grind (arith, nat_tests)) in rw other refl
called (suc j) k = let other : ((0 == 0) && ((0 == suc j) && (0 == k))) ≡ false = no_second (0 == 0) (0 == suc j) (0 == k) (grind (arith, nat_tests)) in rw other (none_asked j k)

asked_so : (j : ℕ) → call_numbers j order ≡ numbers_on calls 0 j
asked_so zero = refl
asked_so (suc j) = let other : (0 == suc j) ≡ false = grind (arith, nat_tests) in rw other (sym (ap (numbers_from 0 0) (no_others j)))

whole : IsWhole plan calls 0 order
whole = record { feeds = refl; asked = asked_so }

settles : order ≡ settle calls 0 order
unfolding settle
settles = refl

goes : Goes plan calls setting history order
goes = record {
  one = refl;
  stayed = record { starts = refl; one_stay = refl };
  here = refl;
  acts_are = refl;
  settles = settles;
  whole = whole;
  called = called;
}

-- The run

pub asked_is : asked words ≡ Some wanted
unfolding uses_from mode_word
asked_is = refl

few_marks : marks_most plan calls (setup_by true) ≤ most_marks
few_marks = let so_many : marks_most plan calls (setup_by true) ≡ 80 = refl in omega (arith, so_many)

all_there : AllThere (length plan.tuples) (word ∷ [])
all_there = (omega arith, tt)

servable : IsServable file wanted
servable = record {
  there = subst (λ (p : PlanOf). AllThere (length p.tuples) (word ∷ [])) (sym plan_is) all_there;
  marks = λ traced. subst (λ (p : PlanOf). marks_most p calls (setup_by true) ≤ most_marks) (sym plan_is) few_marks;
}

some_call : {w : CallWord} → w ∷ [] ≡ [] → ⊥
some_call e = cc e

pub accepts : Accepts (asked words) (Some file.bytes)
accepts = subst (λ (a : Option Asked). Accepts a (Some file.bytes)) (sym asked_is) (record { file = file; bytes = refl; capture = is_input; servable = servable })

module _ (legal : Legal setting history) (over : IsOver setting (run setting history)) (keeps : KeepsPace 1 0 Mode'.Process 64 0 setting 0 history) (set : setting ≡ setting_at plan calls 1 1 0 0)
    (passes : PassesKeep Mode'.Process ending) where
  pub was_served : HasServed plan calls (setup_by true) served
  was_served = has_served plan calls setting history order goes legal over keeps set passes true trace refl (block_of plan calls order) refl (record { whole = refl; served = refl })

  orders_whole : AreOrders plan calls (order ∷ [])
  orders_whole = record { count = refl; whole = λ c lt. subst (λ k. IsWhole plan calls k (get_or (order ∷ []) k [])) (sym (is_zero c lt)) whole }

  is_report : IsReport file wanted served text
  is_report = record {
    served = subst (λ (p : PlanOf). HasServed p calls (setup_by true) served) (sym plan_is) was_served;
    whole = subst (λ (p : PlanOf). AreOrders p calls (order ∷ [])) (sym plan_is) orders_whole;
    alone = λ none. absurd (some_call none);
    says = subst (λ (p : PlanOf). text ≡ told_of p calls wanted served) (sym plan_is) told;
  }

  pub has_ran : HasRan (asked words) source out err (Some served) status.Ok
  has_ran =
      subst (λ (a : Option Asked). HasRan a source out err (Some served) status.Ok) (sym asked_is)
      (record {
        ran = (
          (refl, takes_few),
          (file, reads, servable, record { served = served; handed = refl; text = text; output = is_report; written = refl; unfailing = refl }, record { bytes = refl; faults = refl }),
        );
        handed = tt;
      })

-- The replay

-- a source that had these bytes, and has none left, gave these
all_read : {bytes read : List ℕ} → bytes ≡ read ++ [] → read ≡ bytes
all_read {bytes} {read} e = sym (e ∙ append-nil read)

pub replays : WroteWhatReplays source out → Replays input
replays w = subst (λ (l : List ℕ). Replays (text ++ l)) (all_read w.whole.taken) (subst (λ (l : List ℕ). Replays (l ++ w.read)) (sym w.appended) w.replays)

input_size : length input ≡ 1057
unfolding file_header record_of
input_size = refl

small : length input ≤ most_input
small = omega (arith, input_size)

pub has_replayed : Replays input → HasReplayed most_input false replay_source replay_out err replayed.Yes
has_replayed r = record {
  input = input;
  read = record { read = record { taken = sym (append-nil input); ended = refl }; small = small; unfailing = refl };
  text = yes_line;
  answer = (r, refl);
  written = refl;
  unfailing = refl;
  quiet = record { bytes = refl; faults = refl };
}
