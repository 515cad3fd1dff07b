-- A Take and a Leave by the steps in which they are made.
use Rattle.std.proofs.Common.{◌≡◌, ◌≢◌, ℕ, ◌+◌, ◌-◌, ◌*◌, ◌<◌, ◌≤◌, ◌⊎◌, inl, inr, Bool, true, false, not, if◌then◌else◌, ◌==◌, Some, List, [], ◌∷◌, ◌++◌, length, map, take, refl, ap, sym, ◌∙◌, subst, arith}
use Rattle.std.specs.Prelude.{slice_get}
use Rattle.std.proofs.lemmas.Bool.Decides.{nat_tests}
use Rattle.std.proofs.lemmas.List.{take_all, nil_from_length}
use Rattle.std.proofs.lemmas.Bool.{eqb-true, eq-eqb}
use Rattle.perimeter_core.specs.declared.entries.Act.{Act}
use Rattle.perimeter_core.specs.declared.entries.Entry.{Entry}
use Rattle.perimeter_core.specs.declared.marks.Own.TheVariants.{Free, Out}
use Rattle.perimeter_core.specs.declared.marks.SynchAct.{SynchAct}
use Rattle.perimeter_core.specs.declared.marks.SynchAct.TheVariants as Done
use Rattle.perimeter_core.specs.declared.marks.Mark.TheVariants as On
use Rattle.perimeter_core.specs.Perimeter.{ends_with_ask, is_empty, processed}
use Rattle.perimeter_core.specs.History.{Element, Setting, run}
use Rattle.perimeter_core.specs.Deeds.{done_by, fed}
use Rattle.perimeter_core.specs.Legal.{May, NoteFits, feed_count, only_last_ask}
use Rattle.squeue_replay.specs.Histories.{stay_of, times_in}
use Rattle.squeue_replay.specs.Standing.{GuestOf, SqueueOf, Stands}
use Rattle.squeue_replay.specs.Steps.{ActMay, AreFew, Became, NotesFeeds, Processed, guest_acted, guest_fed}
use Rattle.squeue_replay.proofs.AskSteps.{alone_right}
use Rattle.squeue_replay.proofs.GuestActs.{became_same}
use Rattle.squeue_replay.proofs.ProcessSteps.{take_fits, take_mark, take_stands}
use Rattle.squeue_replay.proofs.LeaveSteps.{LeaveMay, leave_fits, leave_mark, leave_stands}

module _ (S : Setting) (H : List Element) (p : ℕ) (x : SqueueOf) (k : Stands S H x) (count : ℕ) (is_all : count ≡ length x.hand) where
  whole : take count x.hand ≡ x.hand
  whole = take_all count x.hand (omega (arith, is_all))

  -- an Ask was among what a Take processes
  pub take_none : only_last_ask p (take count x.hand) ≡ false → May S H (take_mark p) → ⊥
  take_none wrong m =
      let right = (alone_right p x.hand (take_fits S H p x k m).feeds).0 in
      let same : only_last_ask p (take count x.hand) ≡ only_last_ask p x.hand = ap (only_last_ask p) whole in
      cc (wrong, right, same)

  pub take_asked : (n : ℕ) (ask : Bool) (t : SqueueOf) → Processed (take count x.hand) p n ask x t → ask ≡ true → May S H (take_mark p) → ⊥
  take_asked n ask t did is m =
      let right = (alone_right p x.hand (take_fits S H p x k m).feeds).1 in
      let same : ends_with_ask p (take count x.hand) ≡ ends_with_ask p x.hand = ap (ends_with_ask p) whole in
      let asked = did.asked in
      cc (asked, is, right, same)

  pub take_done : (n : ℕ) (ask : Bool) (t y : SqueueOf) → x.own ≡ Out p → x.chain ≢ [] → x.hand ≢ [] → Processed (take count x.hand) p n ask x t → ask ≡ false
      → y ≡ record t { hand = t.chain; chain = t.hand } → Stands S (H ++ take_mark p ∷ []) y × (n ≡ feed_count (done_by (run S H) (On.Take p)))
  take_done n ask t y own chain hand did no_ask is =
      take_stands S H p n x t y k own chain hand
      (subst (λ (b : Bool). Processed x.hand p n b x t) no_ask (subst (λ (es : List Entry). Processed es p n ask x t) whole did)) is

same_acts : (act : SynchAct) (c m n : ℕ) (g : GuestOf) → ((d : ℕ) → act ≡ Done.In d → d ≡ c → m ≡ n) → guest_acted c m act g ≡ guest_acted c n act g
same_acts Done.None c m n g same = refl
same_acts Done.Away c m n g same = refl
same_acts (Done.Call d j i) c m n g same = refl
same_acts (Done.Out d) c m n g same = refl
same_acts (Done.In d) c m n g same = at (d == c) refl
  where
    at : (b : Bool) → (d == c) ≡ b → (if b then record g { here = true; due = m; came = g.came + 1; did = g.did ++ [] ∷ [] } else g) ≡ (if b then record g { here = true; due = n; came = g.came + 1; did = g.did ++ [] ∷ [] } else g)
    at true is = ap (λ (v : ℕ). record g { here = true; due = v; came = g.came + 1; did = g.did ++ [] ∷ [] }) (same d refl (grind (arith, nat_tests, is)))
    at false is = refl

some_left : (count len rest : ℕ) → count ≡ len - rest → count ≢ 0 → rest < len
some_left count len rest is some = omega (arith, is, some)

abbrev put_together : Bool → List GuestOf → SqueueOf → SqueueOf
put_together wake guests t = record t { own = Free; chain = t.hand ++ t.chain; hand = []; wake = wake; guests = guests }

module _ (S : Setting) (H : List Element) (p rest n count : ℕ) (act : SynchAct) (note : List Act) (ask : Bool) (squeues spread q : ℕ) (x t : SqueueOf) (k : Stands S H x)
    (is_count : count ≡ length x.hand - rest) (did' : Processed (take count x.hand) p n ask x t) where
  did : Processed (processed rest x.hand) p n ask x t
  did = subst (λ (m : ℕ). Processed (take m x.hand) p n ask x t) is_count did'

  -- what was tested says that the Leave may follow
  pub leave_tested : (at_ask : Bool) → x.own ≡ Out p → rest ≤ length x.hand → (x.hand ≢ [] → count ≢ 0) → (act ≢ Done.None → at_ask ≡ true) → (at_ask ≡ true → (x.hand ≡ []) ⊎ (ask ≡ true))
      → ActMay S t.guests p act → LeaveMay S p rest act x t.guests
  leave_tested at_ask own few some asks stands may =
      record {
        own = own;
        few = few;
        progress = λ full. some_left count (length x.hand) rest is_count (some full);
        right = did.right;
        at_ask = λ acts. elim (stands (asks acts)) [ inl e ↦ inl e | inr a ↦ inr (sym did.asked ∙ a) ];
        may = may;
      }

  -- and the tests hold where it may
  pub leave_seen : (at_ask : Bool) → ((x.hand ≡ []) ⊎ (ask ≡ true) → at_ask ≡ true) → May S H (leave_mark p rest act note) → (act ≢ Done.None → at_ask ≡ true) × ActMay S t.guests p act
  leave_seen at_ask stands m =
      let f = leave_fits S H p rest x k t.guests did.guests act note m in
      ((λ acts. elim (f.at_ask acts) [ inl e ↦ stands (inl e) | inr e ↦ stands (inr (did.asked ∙ e)) ]), f.may)

  pub leave_done : (u w y : SqueueOf) (wake : Bool) → LeaveMay S p rest act x t.guests → NoteFits (On.Leave p rest act) note → NotesFeeds squeues spread q H act note
      → Became (λ c g. guest_acted c (stay_of squeues q c g.came * spread) act g) t.guests u.guests → u ≡ record t { guests = u.guests }
      → w ≡ record u { own = Free; chain = u.hand ++ u.chain; hand = [] } → y ≡ record w { wake = wake } → wake ≡ not (is_empty w.chain)
      → Stands S (H ++ leave_mark p rest act note ∷ []) y × (n ≡ feed_count (done_by (run S H) (On.Leave p rest act)))
  leave_done u w y wake may noted feeds acted u_is w_is y_is wake_is =
      let parts : w ≡ record t { own = Free; chain = t.hand ++ t.chain; hand = []; guests = u.guests } = w_is ∙ ap (λ (z : SqueueOf). record z { own = Free; chain = z.hand ++ z.chain; hand = [] }) u_is in
      let e : y ≡ put_together wake u.guests t = y_is ∙ ap (λ (z : SqueueOf). record z { wake = wake }) parts in
      let gs : u.guests ≡ y.guests = sym (ap (λ (z : SqueueOf). z.guests) e) in
      let queued : wake ≡ not (is_empty (t.hand ++ t.chain)) = wake_is ∙ ap (λ (z : SqueueOf). not (is_empty z.chain)) parts in
      let is : y ≡ put_together (not (is_empty (t.hand ++ t.chain))) y.guests t = e ∙ (ap (λ (b : Bool). put_together b u.guests t) queued ∙ ap (λ (l : List GuestOf). put_together (not (is_empty (t.hand ++ t.chain))) l t) gs) in
      leave_stands S H p rest n act note ask x t y k did noted may
      (subst (λ (l : List GuestOf). Became (λ c. guest_acted c (fed note) act) t.guests l) gs
      (became_same (λ c g. guest_acted c (stay_of squeues q c g.came * spread) act g) (λ c. guest_acted c (fed note) act) t.guests u.guests
      (λ c g at. same_acts act c (stay_of squeues q c g.came * spread) (fed note) g (λ d put same. counts c g at d put same)) acted))
      is
    where
      counts : (c : ℕ) (g : GuestOf) → slice_get t.guests c ≡ Some g → (d : ℕ) → act ≡ Done.In d → d ≡ c → stay_of squeues q c g.came * spread ≡ fed note
      counts c g at d put same =
          let was = did.guests.each c g at in
          let came : g.came ≡ times_in c (map (λ e. e.mark) H) = ap (λ (z : GuestOf). z.came) was.2 ∙ (k.each_guest c was.0 was.1).came in
          let noted_so : NotesFeeds squeues spread q H (Done.In c) note = subst (λ (b : SynchAct). NotesFeeds squeues spread q H b note) (put ∙ ap Done.In same) feeds in
          ap (λ (m : ℕ). stay_of squeues q c m * spread) came ∙ sym noted_so

-- whether nothing is there, by a count
pub empty_says : (b : Bool) (n : ℕ) (xs : List Entry) → b ≡ (n == 0) → n ≡ length xs → (b ≡ true → xs ≡ []) × (xs ≡ [] → b ≡ true)
empty_says b n xs is len = (
  (λ t. let zero = eqb-true n 0 (sym is ∙ t) in nil_from_length xs (omega (arith, zero, len))),
  (λ e. let none = ap length e in is ∙ eq-eqb n 0 (omega (arith, none, len))),
)

-- what was processed leaves how often connections came and left
pub few_after : (gs hs : List GuestOf) (es : List Entry) → AreFew gs → Became (λ c. guest_fed c es) gs hs → AreFew hs
few_after gs hs es few fed_so c h at =
    let was = fed_so.each c h at in
    let low = few c was.0 was.1 in
    let came : h.came ≡ was.0.came = ap (λ (z : GuestOf). z.came) was.2 in
    let left : h.left ≡ was.0.left = ap (λ (z : GuestOf). z.left) was.2 in
    (omega (arith, low.0, came), omega (arith, low.1, left))
