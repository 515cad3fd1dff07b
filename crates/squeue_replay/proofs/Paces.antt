-- Whether one more mark keeps homes, mode and budget, by what it met and the owner's count.
use Rattle.std.proofs.Common.{◌≡◌, ◌≢◌, ℕ, ◌+◌, ◌^◌, ◌<◌, ◌≤◌, ◌⊎◌, ◌&&◌, ◌||◌, not, nat_eq, Bool, true, false, Decides, inl, inr, IfSome, is_some, Option, Some, None, List, [], ◌∷◌, ◌++◌, length, refl, ap, sym, ◌∙◌, subst, arith}
use Rattle.std.proofs.lemmas.Bool.Decides.{Decides-and, Decides-at, Decides-like, Decides-or, nat_tests}
use Rattle.perimeter_core.specs.declared.entries.Entry.{Entry}
use Rattle.perimeter_core.specs.declared.marks.Own.{Own}
use Rattle.perimeter_core.specs.declared.marks.Own.TheVariants.{Free, Granted, Out}
use Rattle.perimeter_core.specs.declared.marks.Mark.{Mark}
use Rattle.perimeter_core.specs.declared.marks.Mark.TheVariants as On
use Rattle.perimeter_core.specs.Perimeter.{Can}
use Rattle.perimeter_core.specs.History.{Element, Setting, pass_of, run, worker}
use Rattle.perimeter_core.specs.declared.entries.Feed.{Feed as FeedOf}
use Rattle.perimeter_core.specs.Deeds.{done, done_by, entries, entries_of}
use Rattle.perimeter_core.specs.Legal.{IdleFirst, May, feed_count}
use Rattle.histories.proofs.OwnersFacts.{done_more}
use Rattle.histories.specs.declared.mode.Mode.{Mode}
use Rattle.histories.specs.declared.mode.Mode.TheVariants as Mode'
use Rattle.histories.specs.Keeping.{AreHome, Keeps, claims_feeds, fills, fills_one, gives_it_up, is_fast, leaves_it, taken}
use Rattle.ring_quotas.specs.declared.setup.Setup.{Setup}
use Rattle.squeue_replay.specs.declared.pace.Met.{Met}
use Rattle.perimeter_core.specs.declared.marks.Kind.{Kind}
use Rattle.perimeter_core.specs.declared.marks.Kind.TheVariants as Kind'
use Rattle.perimeter_core.specs.Kinds.{mark_by}
use Rattle.squeue_replay.specs.Pacing.{CountStands, count_after, HasMet, KeepsAt, at_most, fits_budget, fits_mode, just, takes, takes_or_grants}
use Rattle.squeue_replay.proofs.OwnersCount.{count_more, count_stands, since}

-- ---- tests

pub unlike : {P : Type 0} → true ≡ false → P
unlike e = cc e

pub same_after_all : {P : Type 0} (n k : ℕ) → not (nat_eq n k) ≡ false → n ≢ k → P
same_after_all n k e other = absurd (grind (arith, nat_tests))

always : {P : Type 0} → P → Decides true P
always p = (λ _. p, λ _. refl)

where_so : {P : Type 0} (a b : Bool) → Decides b P → Decides (not a || b) (a ≡ true → P)
where_so true b d = Decides-like b (λ p _. p) (λ f. f refl) d
where_so false b d = always (λ e. cc e)

isnt : (a : Bool) → Decides (not a) (a ≡ false)
isnt true = (λ e. cc e, λ e. cc e)
isnt false = always refl

-- ---- the count

module _ (budget n k whole : ℕ) (small : budget < 2 ^ 32) (grows : whole ≡ n + k) where
  within : (t : Option ℕ) → IfSome t (λ had. had ≤ n) → Decides (at_most (count_more k (since n t)) budget) (IfSome t (λ had. whole ≤ had + budget))
  within None before = always tt
  within (Some had) before = (λ e. grind (arith, nat_tests), λ few. grind (arith, nat_tests))

  exact : (t : Option ℕ) → IfSome t (λ had. had ≤ n) → Decides (just (count_more k (since n t)) budget) (IfSome t (λ had. whole ≡ had + budget))
  exact None before = always tt
  exact (Some had) before = (λ e. grind (arith, nat_tests), λ few. grind (arith, nat_tests))

is_counted : (k n : ℕ) (t : Option ℕ) → is_some (count_more k (since n t)) ≡ is_some t
is_counted k n None = refl
is_counted k n (Some had) = refl

taken_or_not : (t : Option ℕ) → Decides (not (is_some t)) (t ≢ None → false ≡ true)
taken_or_not None = always (λ unlike. absurd (unlike refl))
taken_or_not (Some had) = (λ e. cc e, λ f. f (λ e. cc e))

-- ---- the mark, behind a past in which this count stands

module _ (S : Setting) (past : List Element) (count : Option ℕ) (stands : CountStands S past count) (k : ℕ) where
  abbrev n : ℕ
  n = feed_count (done S past)

  abbrev now : Option ℕ
  now = count_more k count

  -- who isn't the owner hasn't taken the squeue with feeds
  not_taken : (p : ℕ) (o : Own) → (run S past).own ≡ o → o ≢ Out p → taken S p past ≡ None
  not_taken p o is unlike = stands.others p (λ e. unlike (sym is ∙ e))

  -- the owner alone goes on
  goes_on : (m : Mark) → Can (worker S) (run S past) m → IdleFirst (run S past) m → Decides (not (takes_or_grants m && is_some now)) (taken S (pass_of m) past ≢ None → leaves_it m ≡ true)
  goes_on (On.Fill q es) can idle = always (λ unlike. absurd (unlike (stands.others q idle.no_owner)))
  goes_on (On.Fast q e) can idle = always (λ unlike. absurd (unlike (not_taken q Free can.0 (λ e. cc e))))
  goes_on (On.Claim q es) can idle = always (λ unlike. absurd (unlike (not_taken q Free can.0 (λ e. cc e))))
  goes_on (On.Take q) can idle = owners q can.0
    where
      owners : (q : ℕ) → (run S past).own ≡ Out q → Decides (not (is_some now)) (taken S q past ≢ None → false ≡ true)
      owners q own =
          subst (λ (b : Bool). Decides (not b) (taken S q past ≢ None → false ≡ true)) (sym (ap (λ (c : Option ℕ). is_some (count_more k c)) (stands.owner q own) ∙ is_counted k n (taken S q past))) (taken_or_not (taken S q past))
  goes_on (On.Leave q rest act) can idle = always (λ unlike. refl)
  goes_on (On.Ask q) can idle = always (λ unlike. absurd (unlike (stands.others q idle.no_owner)))
  goes_on (On.Grant q j rest) can idle = owners q can.0
    where
      owners : (q : ℕ) → (run S past).own ≡ Out q → Decides (not (is_some now)) (taken S q past ≢ None → false ≡ true)
      owners q own =
          subst (λ (b : Bool). Decides (not b) (taken S q past ≢ None → false ≡ true)) (sym (ap (λ (c : Option ℕ). is_some (count_more k c)) (stands.owner q own) ∙ is_counted k n (taken S q past))) (taken_or_not (taken S q past))
  goes_on (On.Accept q) can idle = always (λ unlike. absurd (unlike (not_taken q (Granted q) can (λ e. cc e))))
  goes_on (On.Work q) can idle = always (λ unlike. absurd (unlike (not_taken q Free can.0 (λ e. cc e))))
  goes_on (On.Close q) can idle = always (λ unlike. absurd (unlike (stands.others q idle.no_owner)))

  module _ (rings budget whole : ℕ) (small : budget < 2 ^ 32) (grows : whole ≡ n + k) where
    abbrev Few : Option ℕ → Type 0
    Few t = IfSome t (λ had. whole ≤ had + budget)

    abbrev AsMany : Option ℕ → Type 0
    AsMany t = IfSome t (λ had. whole ≡ had + budget)

    owners_few : (q : ℕ) → (run S past).own ≡ Out q → Decides (at_most now budget) (Few (taken S q past))
    owners_few q own = subst (λ (c : Option ℕ). Decides (at_most (count_more k c) budget) (Few (taken S q past))) (sym (stands.owner q own)) (within budget n k whole small grows (taken S q past) (stands.before q))

    owners_all : (q : ℕ) → (run S past).own ≡ Out q → Decides (just now budget) (AsMany (taken S q past))
    owners_all q own = subst (λ (c : Option ℕ). Decides (just (count_more k c) budget) (AsMany (taken S q past))) (sym (stands.owner q own)) (exact budget n k whole small grows (taken S q past) (stands.before q))

    -- it gives the squeue up, or takes the queue, within the budget
    abbrev Spends : Mark → Type 0
    Spends m = (gives_it_up m ≡ true → Few (taken S (pass_of m) past)) × ((r : ℕ) → r < rings → m ≡ On.Take r → Few (taken S r past))

    spends : (m : Mark) → Can (worker S) (run S past) m → pass_of m < rings → Decides (not (takes m || gives_it_up m) || at_most now budget) (Spends m)
    spends (On.Fill q es) can ring = always (λ e. cc e, λ r lt e. cc e)
    spends (On.Fast q e) can ring = always (λ e. cc e, λ r lt e. cc e)
    spends (On.Claim q es) can ring = always (λ e. cc e, λ r lt e. cc e)
    spends (On.Take q) can ring =
        Decides-like (at_most now budget) (λ few. (λ e. cc e, λ r lt e. let same : q ≡ r = cc e in subst (λ (x : ℕ). Few (taken S x past)) same few)) (λ h. h.1 q ring refl) (owners_few q can.0)
    spends (On.Leave q rest act) can ring = Decides-like (at_most now budget) (λ few. (λ e. few, λ r lt e. cc e)) (λ h. h.0 refl) (owners_few q can.0)
    spends (On.Ask q) can ring = always (λ e. cc e, λ r lt e. cc e)
    spends (On.Grant q j rest) can ring = Decides-like (at_most now budget) (λ few. (λ e. few, λ r lt e. cc e)) (λ h. h.0 refl) (owners_few q can.0)
    spends (On.Accept q) can ring = always (λ e. cc e, λ r lt e. cc e)
    spends (On.Work q) can ring = always (λ e. cc e, λ r lt e. cc e)
    spends (On.Close q) can ring = always (λ e. cc e, λ r lt e. cc e)

    -- it leaves something queued after as many as the budget
    module _ (left : Bool) (queue : List Entry) (met : Decides left (queue ≢ [])) where
      abbrev Fills : Mark → Type 0
      Fills m = leaves_it m ≡ true → queue ≢ [] → AsMany (taken S (pass_of m) past)

      spends_all : (m : Mark) → Can (worker S) (run S past) m → Decides (not (leaves_it m && left) || just now budget) (Fills m)
      spends_all (On.Fill q es) can = always (λ e. cc e)
      spends_all (On.Fast q e) can = always (λ e. cc e)
      spends_all (On.Claim q es) can = always (λ e. cc e)
      spends_all (On.Take q) can = always (λ e. cc e)
      spends_all (On.Leave q rest act) can =
          Decides-like (not left || just now budget) (λ f _ some. f (met.1 some)) (λ f e. f refl (met.0 e)) (where_so left (just now budget) (owners_all q can.0))
      spends_all (On.Ask q) can = always (λ e. cc e)
      spends_all (On.Grant q j rest) can = always (λ e. cc e)
      spends_all (On.Accept q) can = always (λ e. cc e)
      spends_all (On.Work q) can = always (λ e. cc e)
      spends_all (On.Close q) can = always (λ e. cc e)

-- ---- all of it

module _ (squeues spread budget rings q : ℕ) (S : Setting) (past : List Element) (e : Element) (met : Met) (count : Option ℕ) (stands : CountStands S past count) (may : May S past e) (has : HasMet S past e met) (small : budget < 2 ^ 32) (ring : pass_of e.mark < rings) where
  abbrev counts_now : Option ℕ
  counts_now = count_more met.processed count

  abbrev so_many : ℕ
  so_many = feed_count (done S (past ++ e ∷ []))

  grown : so_many ≡ feed_count (done S past) + met.processed
  grown = done_more S past e ∙ ap (λ (x : ℕ). feed_count (done S past) + x) (sym has.processed)

  abbrev Keeping : Mode → Type 0
  Keeping mode = Keeps squeues spread mode budget q S (pass_of e.mark) past e × ((r : ℕ) → r < rings → e.mark ≡ On.Take r → IfSome (taken S r past) (λ had. so_many ≤ had + budget))

  abbrev Home : Type 0
  Home = AreHome squeues spread q (entries_of e.mark)

  few : Decides (not (takes e.mark || gives_it_up e.mark) || at_most counts_now budget) (Spends S past count stands met.processed rings budget so_many small grown e.mark)
  few = spends S past count stands met.processed rings budget so_many small grown e.mark may.step ring

  all : Decides (not (leaves_it e.mark && met.left) || just counts_now budget) (Fills S past count stands met.processed rings budget so_many small grown met.left (run S (past ++ e ∷ [])).chain has.left e.mark)
  all = spends_all S past count stands met.processed rings budget so_many small grown met.left (run S (past ++ e ∷ [])).chain has.left e.mark may.step

  on : Decides (not (takes_or_grants e.mark && is_some counts_now)) (taken S (pass_of e.mark) past ≢ None → leaves_it e.mark ≡ true)
  on = goes_on S past count stands met.processed e.mark may.step may.idle

  abbrev FitsMode : Mode → Type 0
  FitsMode mode = fits_mode mode e.mark met.taken met.queued (is_some counts_now) ≡ true

  abbrev FitsBudget : Mode → Type 0
  FitsBudget mode = fits_budget mode budget e.mark counts_now met.left ≡ true

  by_mode : (result : Bool) (mode : Mode) → Decides result (Home × FitsMode mode × FitsBudget mode) → Decides result (Keeping mode)
  by_mode result Mode'.Fill d =
      let m = Decides-and (not (is_fast e.mark)) (not (claims_feeds e.mark)) (isnt (is_fast e.mark)) (isnt (claims_feeds e.mark)) in
      let b = Decides-and (not (takes e.mark || gives_it_up e.mark) || at_most counts_now budget) true few (always (tt {0})) in
      Decides-like result
      (λ (h : Home × FitsMode Mode'.Fill × FitsBudget Mode'.Fill).
      (record { home = h.0; fill = λ _. m.0 h.1; no_claim = λ x. cc x; busy = λ x. cc x; busy_or_behind = λ x. cc x; leaves_next = λ x. cc x; few = (b.0 h.2).0.0; full = λ x. cc x }, (b.0 h.2).0.1))
      (λ (k : Keeping Mode'.Fill). (k.0.home, m.1 (k.0.fill refl), b.1 ((k.0.few, k.1), tt))) d
  by_mode result Mode'.Process d =
      let m = where_so (fills e.mark) met.taken has.taken in
      let b = Decides-and (not (takes e.mark || gives_it_up e.mark) || at_most counts_now budget) (not (leaves_it e.mark && met.left) || just counts_now budget) few all in
      Decides-like result
      (λ (h : Home × FitsMode Mode'.Process × FitsBudget Mode'.Process).
      (record { home = h.0; fill = λ x. cc x; no_claim = λ x. cc x; busy = λ _. m.0 h.1; busy_or_behind = λ x. cc x; leaves_next = λ x. cc x; few = (b.0 h.2).0.0; full = λ _. (b.0 h.2).1 }, (b.0 h.2).0.1))
      (λ (k : Keeping Mode'.Process). (k.0.home, m.1 (k.0.busy refl), b.1 ((k.0.few, k.1), k.0.full refl))) d
  by_mode result Mode'.NoDrain d =
      let behind = where_so (fills_one e.mark) (met.taken || met.queued) (Decides-or met.taken met.queued has.taken has.queued) in
      let m =
      Decides-and (not (claims_feeds e.mark)) ((not (fills_one e.mark) || (met.taken || met.queued)) && not (takes_or_grants e.mark && is_some counts_now)) (isnt (claims_feeds e.mark))
      (Decides-and (not (fills_one e.mark) || (met.taken || met.queued)) (not (takes_or_grants e.mark && is_some counts_now)) behind on) in
      let b = Decides-and (not (takes e.mark || gives_it_up e.mark) || at_most counts_now budget) true few (always (tt {0})) in
      Decides-like result
      (λ (h : Home × FitsMode Mode'.NoDrain × FitsBudget Mode'.NoDrain).
      (record { home = h.0; fill = λ x. cc x; no_claim = λ _. (m.0 h.1).0; busy = λ x. cc x; busy_or_behind = λ _. (m.0 h.1).1.0; leaves_next = λ _. (m.0 h.1).1.1; few = (b.0 h.2).0.0; full = λ x. cc x }, (b.0 h.2).0.1))
      (λ (k : Keeping Mode'.NoDrain). (k.0.home, m.1 (k.0.no_claim refl, (k.0.busy_or_behind refl, k.0.leaves_next refl)), b.1 ((k.0.few, k.1), tt))) d

pub pass_by : (p : ℕ) (kind : Kind) (fs : List FeedOf) → pass_of (mark_by p kind fs) ≡ p
pass_by p Kind'.Fill fs = refl
pass_by p Kind'.Fast fs = refl
pass_by p Kind'.Claim fs = refl
pass_by p Kind'.ClaimAsk fs = refl
pass_by p Kind'.Take fs = refl
pass_by p (Kind'.Leave rest act) fs = refl
pass_by p Kind'.Ask fs = refl
pass_by p (Kind'.Grant j rest) fs = refl
pass_by p Kind'.Accept fs = refl
pass_by p Kind'.Work fs = refl
pass_by p Kind'.Close fs = refl

module _ (setup : Setup) (q : ℕ) (S : Setting) (past : List Element) (e : Element) (m : Mark) (is : e.mark ≡ m) (met : Met) (count : Option ℕ) (stands : CountStands S past count) (may : May S past e) (has : HasMet S past e met) where
  -- the count behind the mark
  pub goes_on_counted : (after : Option ℕ) → after ≡ count_after m (count_more met.processed count) → CountStands S (past ++ e ∷ []) after
  goes_on_counted after now =
      subst (λ (o : Option ℕ). CountStands S (past ++ e ∷ []) o)
      (sym (now ∙ (ap (λ (x : ℕ). count_after m (count_more x count)) has.processed ∙ ap (λ (x : Mark). count_after x (count_more (feed_count (done_by (run S past) e.mark)) count)) (sym is))))
      (count_stands S past e count stands may)

  -- a mark of another pass keeps trivially
  pub others_keep : (result : Bool) → result ≡ true → setup.rings ≤ pass_of m → Decides result (KeepsAt setup q S past e)
  others_keep result yes_it_is other =
      let p = ap pass_of is in
      Decides-at result true yes_it_is
      (always (record { keeps = λ lt. absurd (omega (arith, other, lt, p)); takes = λ r lt took. let t = ap pass_of took in absurd (omega (arith, other, lt, p, t)) }))

  -- a ring's by what is tested
  pub rings_keep : (result : Bool) (o : Option ℕ) → o ≡ count_more met.processed count → setup.budget < 2 ^ 32 → pass_of m < setup.rings
      → Decides result (AreHome setup.squeues setup.spread q (entries_of m) × (fits_mode setup.mode m met.taken met.queued (is_some o) ≡ true) × (fits_budget setup.mode setup.budget m o met.left ≡ true)) → Decides result (KeepsAt setup q S past e)
  rings_keep result o is_o small ring d =
      let mine : pass_of e.mark < setup.rings = subst (λ (x : Mark). pass_of x < setup.rings) (sym is) ring in
      Decides-like result (λ h. record { keeps = λ _. h.0; takes = h.1 }) (λ k. (k.keeps mine, k.takes))
      (by_mode setup.squeues setup.spread setup.budget setup.rings q S past e met count stands may has small mine result setup.mode
      (subst (λ (x : Mark). Decides result (AreHome setup.squeues setup.spread q (entries_of x) × (fits_mode setup.mode x met.taken met.queued (is_some (count_more met.processed count)) ≡ true) × (fits_budget setup.mode setup.budget x (count_more met.processed count) met.left ≡ true)))
      (sym is)
      (subst (λ (n : Option ℕ). Decides result (AreHome setup.squeues setup.spread q (entries_of m) × (fits_mode setup.mode m met.taken met.queued (is_some n) ≡ true) × (fits_budget setup.mode setup.budget m n met.left ≡ true))) is_o d)))

-- with nodrain a ring queues one feed only where somebody has the squeue, or behind others
pub fill_fits : (p : ℕ) (fs : List FeedOf) (busy queued by_feeds : Bool) → (length fs ≢ 1) ⊎ (busy ≡ true) → fits_mode Mode'.NoDrain (On.Fill p (entries fs)) busy queued by_feeds ≡ true
fill_fits p [] busy queued by_feeds h = refl
fill_fits p (f ∷ g ∷ fs) busy queued by_feeds h = refl
fill_fits p (f ∷ []) true queued by_feeds h = refl
fill_fits p (f ∷ []) false queued by_feeds (inl more) = absurd (more refl)
fill_fits p (f ∷ []) false queued by_feeds (inr is) = cc is

pub one_fits : (p : ℕ) (fs : List FeedOf) (busy queued by_feeds : Bool) → length fs ≡ 1 → busy ≡ false → fits_mode Mode'.NoDrain (On.Fill p (entries fs)) busy queued by_feeds ≡ queued
one_fits p [] busy queued by_feeds one free = absurd (omega (arith, one))
one_fits p (f ∷ g ∷ fs) busy queued by_feeds one free = absurd (omega (arith, one))
one_fits p (f ∷ []) true queued by_feeds one free = cc free
one_fits p (f ∷ []) false true by_feeds one free = refl
one_fits p (f ∷ []) false false by_feeds one free = refl
