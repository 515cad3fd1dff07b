-- From the parts of what the words ask to the whole.
use Rattle.std.proofs.Common.{◌≡◌, ◌∙◌, Bool, cond, true, false, ap, List, length, Some, None, codes}
use Rattle.std.specs.Prelude.{option_and_then}
use Rattle.shell.specs.Asked.{AskedOf, is_set, number_for}
use Rattle.shell.specs.Asked as shell
use Rattle.squeue_run.specs.Words.{Text, sqrun_table}
use Rattle.squeue_run.specs.Asked.{asked, asked_by, asked_with, call_of, go_together, setup_of}
use Rattle.ring_quotas.specs.declared.setup.Setup.{Setup}
use Rattle.squeue_run.specs.declared.calls.CallWord.{CallWord}

module _ (ws : List Text) (a : AskedOf CallWord) (all : shell.asked call_of sqrun_table ws ≡ Some a) where
  asked_is : asked ws ≡ asked_by a
  asked_is = ap (option_and_then asked_by) all

  pub asked_no_setup : setup_of a.givens ≡ None → asked ws ≡ None
  asked_no_setup e = asked_is ∙ ap (option_and_then (asked_with a (number_for (codes "gen") a.givens))) e

  module _ (s : Setup) (found : setup_of a.givens ≡ Some s) where
    with_setup : asked ws ≡ asked_with a (number_for (codes "gen") a.givens) s
    with_setup = asked_is ∙ ap (option_and_then (asked_with a (number_for (codes "gen") a.givens))) found

    pub asked_apart : go_together (number_for (codes "gen") a.givens) s.trace (length a.calls) ≡ false → asked ws ≡ None
    asked_apart e =
        with_setup ∙ ap (λ (b : Bool). cond b (Some (record { setup = s; verify = is_set (codes "verify") a.givens; number = number_for (codes "gen") a.givens; calls = a.calls })) None) e

    pub asked_all : go_together (number_for (codes "gen") a.givens) s.trace (length a.calls) ≡ true
        → asked ws ≡ Some (record { setup = s; verify = is_set (codes "verify") a.givens; number = number_for (codes "gen") a.givens; calls = a.calls })
    asked_all e =
        with_setup ∙ ap (λ (b : Bool). cond b (Some (record { setup = s; verify = is_set (codes "verify") a.givens; number = number_for (codes "gen") a.givens; calls = a.calls })) None) e

-- words that are refused before
pub asked_none : (ws : List Text) → shell.asked call_of sqrun_table ws ≡ None → asked ws ≡ None
asked_none ws e = ap (option_and_then asked_by) e
