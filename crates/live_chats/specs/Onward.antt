-- What was told from one moment of a table to the next, and what was told then, is what was told in all: the laws of a table rest on it.
use Rattle.std.proofs.Common.{◌≡◌, ℕ, ◌+◌, cond, List, [], ◌∷◌, ◌++◌, refl, sym, ap, subst, ◌∙◌, append_assoc, append-nil}
use Rattle.sq_base.specs.declared.kinds.Tuple.{Tuple}
use Rattle.perimeter_core.specs.History.{Element, Setting}
use Rattle.live_server.specs.Table.{tuple_eq}
use Rattle.live_server.specs.Told.{Told}
use Rattle.live_server.specs.Told.Told.{begins, hears}
use Rattle.live_chats.specs.Accounts.{Accounts, HearIfHere, WereTold, in_the_end}
use Rattle.live_chats.specs.Lived.{AreMadeOf, heard_with, lives_with, stays_behind}

pub heard_append : (more : Tuple → ℕ) (ws vs : List Told) (t : Tuple) → heard_with more (ws ++ vs) t ≡ heard_with (heard_with more vs) ws t
heard_append more [] vs t = refl
heard_append more (begins u ∷ ws) vs t = ap (λ (n : ℕ). cond (tuple_eq t u) 0 n) (heard_append more ws vs t)
heard_append more (hears u ∷ ws) vs t = ap (λ (n : ℕ). cond (tuple_eq t u) (1 + n) n) (heard_append more ws vs t)

abbrev pub heard_both : (more : Tuple → ℕ) (ws vs : List Told) → heard_with (heard_with more vs) ws ≡ heard_with more (ws ++ vs)
heard_both more ws vs = λ j t. sym (heard_append more ws vs t) j

pub lives_append : (more : Tuple → ℕ) (ws vs : List Told) → lives_with more (ws ++ vs) ≡ lives_with (heard_with more vs) ws ++ lives_with more vs
lives_append more [] vs = refl
lives_append more (begins u ∷ ws) vs = λ j. (1 + heard_append more ws vs u j) ∷ lives_append more ws vs j
lives_append more (hears u ∷ ws) vs = lives_append more ws vs

-- from a moment to itself nothing was told
pub untold : (S : Setting) (p : ℕ) (past : List Element) (accounts : Accounts) → WereTold S p past past accounts accounts []
untold S p past accounts = record { grown = []; goes_on = sym (append-nil past); here = λ more h. h; lived = λ more rest others h made. made }

module _ (S : Setting) (p : ℕ) where
  pub told_on : (past mid now : List Element) (was at is : Accounts) (ws vs : List Told) → WereTold S p past mid was at ws → WereTold S p mid now at is vs
      → WereTold S p past now was is (ws ++ vs)
  told_on past mid now was at is ws vs a b = record {
    grown = a.grown ++ b.grown;
    goes_on = b.goes_on ∙ ap (λ (l : List Element). l ++ b.grown) a.goes_on ∙ append_assoc past a.grown b.grown;
    here = λ more h. subst (HearIfHere was) (heard_both more ws vs) (a.here (heard_with more vs) (b.here more h));
    lived = λ more rest others h made.
        let later = lives_with more vs in
        let first = b.lived more rest others h made in
        let last = a.lived (heard_with more vs) (b.grown ++ rest) (later ++ others) (b.here more h) first in
        let numbers : in_the_end (heard_with (heard_with more vs) ws) was ++ (lives_with (heard_with more vs) ws ++ (later ++ others))
        ≡ in_the_end (heard_with more (ws ++ vs)) was ++ (lives_with more (ws ++ vs) ++ others) =
        (λ j. in_the_end (heard_both more ws vs j) was ++ sym (append_assoc (lives_with (heard_with more vs) ws) later others) j)
        ∙ ap (λ (l : List ℕ). in_the_end (heard_with more (ws ++ vs)) was ++ (l ++ others)) (sym (lives_append more ws vs)) in
        subst (λ (l : List ℕ). AreMadeOf l (in_the_end (heard_with more (ws ++ vs)) was ++ (lives_with more (ws ++ vs) ++ others)))
        (ap (stays_behind S p past) (sym (append_assoc a.grown b.grown rest)))
        (subst (AreMadeOf (stays_behind S p past (a.grown ++ (b.grown ++ rest)))) numbers last);
  }

-- where a table's pass and its squeue are the same
pub same_pass_on : (S T : Setting) (n m : ℕ) (past mid now : List Element) (was at is : Accounts) (ws vs : List Told) → T ≡ S → m ≡ n
    → WereTold S n past mid was at ws → WereTold T m mid now at is vs → WereTold S n past now was is (ws ++ vs)
same_pass_on S T n m past mid now was at is ws vs setting number first more =
    told_on S n past mid now was at is ws vs first
    (subst (λ (k : ℕ). WereTold S k mid now at is vs) number (subst (λ (X : Setting). WereTold X m mid now at is vs) setting more))
