-- A log that goes on by one act.
use Rattle.std.proofs.Common.{◌≡◌, ◌≢◌, ℕ, zero, suc, ◌+◌, ◌<◌, Bool, true, false, ◌==◌, inl, inr, Option, Some, None, List, [], ◌∷◌, ◌++◌, length, slice_get, slice_set, slice_index_or, refl, ap, sym, ◌∙◌, subst, arith}
use Rattle.std.proofs.lemmas.List.{append-nil}
use Rattle.std.proofs.lemmas.Bool.{cases_eq}
use Rattle.std.proofs.lemmas.Bool.Decides.{nat_tests}
use Rattle.perimeter_core.specs.declared.entries.Act.{Act}
use Rattle.perimeter_core.specs.declared.entries.Act.TheVariants as Did
use Rattle.perimeter_core.specs.declared.entries.Entry.TheVariants as Entry'
use Rattle.perimeter_core.specs.declared.marks.SynchAct.TheVariants as Done
use Rattle.perimeter_trial.specs.declared.logs.Log.{Log}
use Rattle.perimeter_core.specs.Deeds.{fed, feed_numbers}
use Rattle.perimeter_core.specs.Blocks.{Blocks, fresh, longer, none_done, with_feeds, with_act}
use Rattle.perimeter_core.specs.Residing.{HadFeeds, Here}
use Rattle.perimeter_trial.specs.Logging.{IsLogOf, LogAt, LogsStand}
use Rattle.perimeter_core.proofs.FeedLists.{length-up}
use Rattle.perimeter_core.proofs.FeedActs.{longer_none}
use Rattle.perimeter_core.proofs.ActLists.{get_same, get_other, feed_numbers-append, fed_is, up_next, some_longer, got}

-- one log is changed
pub logs_set : (logs : List (Option Log)) (c : ℕ) (v : Option Log) (blocks next : Blocks) → c < length logs → LogsStand logs blocks → LogAt c (Some v) (next c)
    → ((d : ℕ) → c ≢ d → next d ≡ blocks d) → LogsStand (slice_set logs c v) next
logs_set logs c v blocks next lt old here others d =
    elim (cases_eq c d) [
      | inl e ↦ rw (← e, get_same logs c v lt) here
      | inr e ↦ rw (get_other logs c d v e, others d e) (old d)
    ]

-- what the block of c was, by its log
pub found : (c : ℕ) (o : Option (Option Log)) (b : Option (List Act)) (log : Log) → o ≡ Some (Some log) → LogAt c o b → (had : List Act) × (b ≡ Some had) × (log.c ≡ c) × IsLogOf log had
found c (Some (Some x)) (Some had) log e h = let same : x ≡ log = cc e in let r = subst (λ (l : Log). LogAt c (Some (Some l)) (Some had)) same h in (had, refl, r.0, r.1)
found c (Some (Some x)) None log e h = absurd h
found c (Some None) b log e h = absurd (cc e)
found c None b log e h = absurd (cc e)

pub count_is : (log : Log) (logs : List (Option Log)) (c n : ℕ) → slice_get logs c ≡ Some (Some log) → HadFeeds (LogsStand logs) c n → log.fed ≡ n
count_is log logs c n e h =
    let f = found c (slice_get logs c) (h.blocks c) log e (h.stands c) in
    let same : f.0 ≡ h.had = cc (f.1, h.here) in
    let numbers : length (feed_numbers f.0) ≡ log.fed = ap length f.3.feeds ∙ length-up 0 log.fed in
    sym numbers ∙ (sym (fed_is f.0) ∙ (ap fed same ∙ h.feeds))

pub feed_stands : (logs : List (Option Log)) (blocks : Blocks) (c n : ℕ) (log next : Log) → c < length logs → slice_get logs c ≡ Some (Some log) → HadFeeds (LogsStand logs) c n
    → next.c ≡ log.c → next.fed ≡ n + 1 → (next.short ≡ false → (log.short ≡ false) × (next.acts.items ≡ log.acts.items ++ Did.Feed n ∷ []))
    → LogsStand logs blocks → LogsStand (slice_set logs c (Some next)) (with_feeds (Entry'.Feed c n ∷ []) blocks)
feed_stands logs blocks c n log next lt e had number count noted old =
    let f = found c (slice_get logs c) (blocks c) log e (old c) in
    let is = count_is log logs c n e had in
    let one : (c == c) ≡ true = grind (arith, nat_tests) in
    let here : LogAt c (Some (Some next)) (longer (Did.Feed n ∷ []) (blocks c)) =
    rw (some_longer (blocks c) f.0 (Did.Feed n ∷ []) f.1) (
      number ∙ f.2,
      record {
        feeds =
            feed_numbers-append f.0 (Did.Feed n ∷ [])
            ∙ (ap (λ ns. ns ++ n ∷ []) f.3.feeds ∙ (rw (is, count) (up_next n)));
        acts = λ s. let w = noted s in rw w.1 (ap (λ xs. xs ++ Did.Feed n ∷ []) (f.3.acts w.0));
      },
    ) in
    logs_set logs c (Some next) blocks (with_feeds (Entry'.Feed c n ∷ []) blocks) lt old (rw one here)
    (λ d ne. let other : (c == d) ≡ false = grind (arith, nat_tests) in rw other (longer_none (blocks d)))

pub call_stands : (logs : List (Option Log)) (blocks : Blocks) (c j k : ℕ) (log next : Log) → c < length logs → slice_get logs c ≡ Some (Some log)
    → next.c ≡ log.c → next.fed ≡ log.fed → (next.short ≡ false → (log.short ≡ false) × (next.acts.items ≡ log.acts.items ++ Did.Call j k ∷ []))
    → LogsStand logs blocks → LogsStand (slice_set logs c (Some next)) (with_act (Done.Call c j k) [] blocks)
call_stands logs blocks c j k log next lt e number count noted old =
    let f = found c (slice_get logs c) (blocks c) log e (old c) in
    let one : (c == c) ≡ true = grind (arith, nat_tests) in
    let here : LogAt c (Some (Some next)) (longer (Did.Call j k ∷ []) (blocks c)) =
    rw (some_longer (blocks c) f.0 (Did.Call j k ∷ []) f.1) (
      number ∙ f.2,
      record {
        feeds = feed_numbers-append f.0 (Did.Call j k ∷ []) ∙ (append-nil (feed_numbers f.0) ∙ (rw count f.3.feeds));
        acts = λ s. let w = noted s in rw w.1 (ap (λ xs. xs ++ Did.Call j k ∷ []) (f.3.acts w.0));
      },
    ) in
    logs_set logs c (Some next) blocks (with_act (Done.Call c j k) [] blocks) lt old (rw one here)
    (λ d ne. let other : (c == d) ≡ false = grind (arith, nat_tests) in rw other refl)

-- where the block is here its log is there
pub log_there : (logs : List (Option Log)) (c : ℕ) → Here (LogsStand logs) c → (log : Log) × (slice_get logs c ≡ Some (Some log))
log_there logs c h = go (slice_get logs c) refl (subst (λ (b : Option (List Act)). LogAt c (slice_get logs c) b) h.here (h.stands c))
  where
    go : (o : Option (Option Log)) → slice_get logs c ≡ o → LogAt c o (Some h.had) → (log : Log) × (slice_get logs c ≡ Some (Some log))
    go (Some (Some log)) e l = (log, e)
    go (Some None) e l = absurd l
    go None e l = absurd l

-- where the block is here, no place is empty
pub no_place : (logs : List (Option Log)) (c : ℕ) (d x : Option Log) → c < length logs → Here (LogsStand logs) c → x ≡ slice_index_or logs c d → ((log : Log) → x ≡ Some log → ⊥) → ⊥
no_place logs c d x lt h is none =
    let log = log_there logs c h in
    let at = got logs c x d lt is in none log.0 (cc (at, log.1))

-- one more place
pub first_at : (k : ℕ) (logs : List (Option Log)) (starts : List Bool) (place : Option Log) (here : Bool) → length logs ≡ length starts
    → ((c : ℕ) → LogAt (k + c) (slice_get logs c) (none_done starts c)) → LogAt (k + length logs) (Some place) (fresh here)
    → (c : ℕ) → LogAt (k + c) (slice_get (logs ++ place ∷ []) c) (none_done (starts ++ here ∷ []) c)
first_at k [] [] place here n old new zero = new
first_at k [] [] place here n old new (suc c) = tt
first_at k [] (b ∷ starts) place here n old new c = absurd cc
first_at k (x ∷ logs) [] place here n old new c = absurd cc
first_at k (x ∷ logs) (b ∷ starts) place here n old new zero = old zero
first_at k (x ∷ logs) (b ∷ starts) place here n old new (suc c) =
    let next : (d : ℕ) → k + suc d ≡ suc k + d = λ d. omega arith in
    subst (λ (n : ℕ). LogAt n (slice_get (logs ++ place ∷ []) c) (none_done (starts ++ here ∷ []) c)) (sym (next c))
    (first_at (suc k) logs starts place here (omega (arith, n))
    (λ d. subst (λ (n : ℕ). LogAt n (slice_get logs d) (none_done starts d)) (next d) (old (suc d)))
    (subst (λ (n : ℕ). LogAt n (Some place) (fresh here)) (next (length logs)) new) c)

pub first_stand : (logs : List (Option Log)) (starts : List Bool) (place : Option Log) (here : Bool) → length logs ≡ length starts → LogsStand logs (none_done starts)
    → LogAt (length logs) (Some place) (fresh here) → LogsStand (logs ++ place ∷ []) (none_done (starts ++ here ∷ []))
first_stand logs starts place here n old new c =
    let z : (d : ℕ) → 0 + d ≡ d = λ d. omega arith in
    subst (λ (n : ℕ). LogAt n (slice_get (logs ++ place ∷ []) c) (none_done (starts ++ here ∷ []) c)) (z c)
    (first_at 0 logs starts place here n
    (λ d. subst (λ (n : ℕ). LogAt n (slice_get logs d) (none_done starts d)) (sym (z d)) (old d))
    (subst (λ (n : ℕ). LogAt n (Some place) (fresh here)) (sym (z (length logs))) new) c)
