-- What the connections of a ring had at its squeue.
use Rattle.std.proofs.Common.{◌≡◌, ℕ, ◌<◌, Bool, false, Option, None, Some, Result, Ok, Err, List, [], ◌++◌, sym, subst, ◌∙◌, append-nil}
use Rattle.std.specs.Prelude.{IfSome, OnOk}
use Rattle.turn_gate.specs.History.{Begins}
use Rattle.perimeter_core.specs.History.{Element, Setting}
use Rattle.live_server.specs.Told.{Told}
use Rattle.live_run.specs.declared.fault.Fault.{Fault}
use Rattle.live_chats.specs.Accounts.{Accounts, WereTold}
use Rattle.live_chats.specs.Lived.{AreMadeOf, lives, stays_by}
use Rattle.live_chats.specs.Onward.{same_pass_on}
use Rattle.live_chats.proofs.LivedLemmas.{all_lived, begins_on}
use Rattle.turn_gate.specs.Passes.{number, seen}
use Rattle.turn_gate.specs.declared.pass.Pass.{Pass}
use Rattle.histories.specs.Endings.{Ending}
use Rattle.live_server.specs.Frames.{frames_in}
use Rattle.live_server.specs.Told.{told_frames}
use Rattle.live_rings.specs.Making.{server_of}
use Rattle.live_rings.specs.declared.ending.EndedRing.{EndedRing}
use Rattle.live_rings.specs.declared.ending.Ends.{Ends}
use Rattle.live_rings.specs.declared.words.Layout.{Layout}
use Rattle.live_rings.specs.Served.{EndedAt, EndedIn, LivedBy, fault_of}

-- a table in which nobody was, and which all have left
pub all_there : (S S0 S1 : Setting) (n0 n1 m : ℕ) (x y z : List Element) (A B : Accounts) (ws : List Told) → S0 ≡ S → S1 ≡ S0 → n1 ≡ n0 → m ≡ n1 → A ≡ []
    → WereTold S0 n0 x y A B ws → WereTold S1 m y z B [] [] → (H : List Element) → Begins z H → AreMadeOf (stays_by S m H) (lives ws)
all_there S S0 S1 n0 n1 m x y z A B ws setting same number last none told left H grows =
    let all = same_pass_on S0 S1 n0 m x y z A B [] ws [] same (last ∙ number) told left in
    let here = subst (λ (l : Accounts). WereTold S0 n0 x z l [] ws) none (subst (WereTold S0 n0 x z A []) (append-nil ws) all) in
    let made = all_lived S0 n0 x z grows.0 ws here in
    subst (λ (l : List Element). AreMadeOf (stays_by S m l) (lives ws)) (sym grows.1)
    (subst (λ (k : ℕ). AreMadeOf (stays_by S k (z ++ grows.0)) (lives ws)) (sym (last ∙ number))
    (subst (λ (T : Setting). AreMadeOf (stays_by T n0 (z ++ grows.0)) (lives ws)) setting made))

if_some_so : {X : Type 0} (P Q : X → Type 0) → ((x : X) → P x → Q x) → (o : Option X) → IfSome o P → IfSome o Q
if_some_so P Q f None p = tt
if_some_so P Q f (Some x) p = f x p

-- what is so where nothing went wrong and nothing was lost
pub lived_so : {X : Type 0} (P Q : X → Type 0) (result : Result (Unit {0}) Fault) (fault : Option Fault) (lost : Bool) (o : Option X) → fault ≡ fault_of result
    → ((x : X) → P x → Q x) → OnOk result (lost ≡ false → IfSome o P) → fault ≡ None → lost ≡ false → IfSome o Q
lived_so P Q (Ok x) fault lost o is f h none kept = if_some_so P Q f o (h kept)
lived_so P Q (Err e) fault lost o is f h none kept = cc (sym is ∙ none)

-- the same behind a call
pub lived_still : {X : Type 0} (P Q : X → Type 0) (result : Result (Unit {0}) Fault) (lost : Bool) (o : Option X) → ((x : X) → P x → Q x)
    → OnOk result (lost ≡ false → IfSome o P) → OnOk result (lost ≡ false → IfSome o Q)
lived_still P Q (Ok x) lost o f h = λ kept. if_some_so P Q f o (h kept)
lived_still P Q (Err e) lost o f h = tt

-- a pass that has seen more
pub lived_more : (S : Setting) (p q : Pass Element) (told : List Told) → Begins (seen p) (seen q) → number q ≡ number p → LivedBy S p told → LivedBy S q told
lived_more S p q told more same lived H grows =
    subst (λ (k : ℕ). AreMadeOf (stays_by S k H) (lives told)) (sym same) (lived H (begins_on (seen p) (seen q) H more grows))

-- what is so of a ring's pass is so of the history at its squeue's end
module _ {S K : Type 0} (rest : S → Option (List ℕ)) (reads : S → ℕ) (contents : K → Option (List ℕ)) (faults : K → ℕ) (setup : Layout) where
  pub ended_in : (at : Setting) (end : Ending) (k : ℕ) (e : Ends S K) (d : EndedRing S K) → end.setting ≡ at → k < end.setting.rings → number d.pass.value ≡ k → Begins (seen d.pass.value) end.history
      → EndedAt rest reads contents faults at setup e d → EndedIn rest reads contents faults setup end k e d
  ended_in at end k e d setting ring number_is grows h = record {
    ended = h.ended;
    ring = ring;
    lived = λ none kept. by (rest e.reader) (h.lived none kept);
  }
    where
      by : (o : Option (List ℕ)) → IfSome o (λ input. LivedBy at d.pass.value (told_frames (frames_in input) (server_of setup)))
          → IfSome o (λ input. AreMadeOf (stays_by end.setting k end.history) (lives (told_frames (frames_in input) (server_of setup))))
      by None p = tt
      by (Some input) p =
          let told = lives (told_frames (frames_in input) (server_of setup)) in
          subst (λ (T : Setting). AreMadeOf (stays_by T k end.history) told) (sym setting)
          (subst (λ (n : ℕ). AreMadeOf (stays_by at n end.history) told) number_is (p end.history grows))
