-- An owner at its Ask that does its one act.
use Rattle.std.proofs.Common.{◌≡◌, ℕ, ◌<◌, ◌%◌, ◌⊎◌, Bool, true, false, if◌then◌else◌, Some, None, is_some, List, [], ◌∷◌, ◌++◌, length, refl, ap, sym, ◌∙◌, subst}
use Rattle.turn_gate.specs.Passes.{number, seen}
use Rattle.turn_gate.specs.declared.pass.Pass.{Pass}
use Rattle.perimeter_core.specs.declared.resident.Resident.{Ghosts}
use Rattle.perimeter_core.specs.declared.entries.Act.{Act}
use Rattle.perimeter_core.specs.declared.marks.Own.TheVariants.{Out}
use Rattle.perimeter_core.specs.declared.marks.SynchAct.{SynchAct}
use Rattle.perimeter_core.specs.declared.marks.SynchAct.TheVariants as Done
use Rattle.perimeter_core.specs.declared.marks.Mark.TheVariants as On
use Rattle.perimeter_core.specs.Perimeter.{State, after, is_here, is_free, ends_with_ask}
use Rattle.perimeter_core.specs.History.{Element, Setting, Limits, start, run}
use Rattle.perimeter_core.specs.Deeds.{acts, feed_acts, feeds_of, times_left}
use Rattle.perimeter_core.specs.Legal.{Legal, ActFits, ActInRange, NoteFits}
use Rattle.perimeter_core.specs.Blocks.{Blocks, peri, longer, with_feeds, with_act}
use Rattle.perimeter_core.specs.Residing.{Here, NotHere}
use Rattle.perimeter_core.proofs.OneMore.{run_push}
use Rattle.perimeter_core.proofs.BlocksFollow.{flags}
use Rattle.perimeter_core.proofs.Elsewhere.{taken_between}
use Rattle.perimeter_core.proofs.AtItsAsk.{nothing_queued}
use Rattle.squeue_state.specs.Naming.{Named, setting_of}
use Rattle.squeue_drain.specs.declared.owner.Owner.{Owner}
use Rattle.squeue_drain.specs.Owning.{state_of, processed_by}
use Rattle.synch_enter.specs.Synch.{StandsAtItsAsk, IsWay, CameFor, acts_at}
use Rattle.squeue_enter.proofs.Carrying.{here_below}

-- a connection that is here is one that there is
pub here_in_range : (S : Setting) (H : List Element) (c : ℕ) → is_here (run S H) c ≡ true → c < length S.starts
here_in_range S H c h = subst (λ (k : ℕ). c < k) (flags (start S) H) (here_below (run S H).here c h)

some_block : (b : Bool) (had more : List Act) → is_some (longer more (if b then Some had else None)) ≡ b
some_block true had more = refl
some_block false had more = refl

some_here : (S : Setting) (H : List Element) (more : List Act) (c : ℕ) → is_here (run S H) c ≡ true → longer more (peri S H c) ≡ Some (acts S H c ++ more)
some_here S H more c h = rw h refl

none_here : (S : Setting) (H : List Element) (more : List Act) (c : ℕ) → is_here (run S H) c ≡ false → longer more (peri S H c) ≡ None
none_here S H more c h = rw h refl

-- a pass's Ask leaves what is here
ask_leaves : (b : Bool) (p : ℕ) (ask : Element) (marks : List Element) (t : State) (c : ℕ) → IsWay b p ask marks → is_here (after t ask.mark) c ≡ is_here t c
ask_leaves true p ask marks t c w = rw w.0 refl
ask_leaves false p ask marks t c w = rw w.0 refl

-- c was here at the pass's Ask, and is here no more
pub was_taken : {R : Type 0} (limits : R → Limits) (s : Named R) (c : ℕ) (from to : Pass Element) (came : CameFor limits s c from to) → is_here (run (setting_of limits s.given) (seen to)) c ≡ false
    → 0 < times_left c came.0.behind.since
was_taken limits s c from to came away =
    let S : Setting = setting_of limits s.given in
    let b = came.0.behind in
    let H : List Element = came.0.found ++ b.ask ∷ [] in
    let legal : Legal S (H ++ b.since) = subst (λ (G : List Element). Legal S G) b.now_seen came.0.goes_on.legal in
    let here : is_here (run S H) c ≡ true =
    ap (λ (t : State). is_here t c) (run_push (start S) came.0.found b.ask)
    ∙ (ask_leaves (is_free (run S came.0.found).own) (number from) b.ask b.marks (run S came.0.found) c b.way ∙ came.1) in
    taken_between S H b.since c legal here (ap (λ (G : List Element). is_here (run S G) c) (sym b.now_seen) ∙ away)

module _ {R P O : Type 0} (G : Ghosts R P O) (s : Named R) (o : Owner R) (is : StandsAtItsAsk G s [] o) (none : o.act ≡ Done.None) where
  abbrev S : Setting
  S = setting_of G.limits s.given

  -- what the resident stands for
  abbrev pub before : Blocks
  before = with_feeds (processed_by G.limits s o) (peri S (seen o.pass))

  pub stood : G.stands o.resident (with_feeds (processed_by G.limits s o) (peri S (seen o.pass)))
  stood = subst (λ (act : SynchAct). G.stands o.resident (with_act act [] (with_feeds (processed_by G.limits s o) (peri S (seen o.pass))))) none is.owns.resident.stands_for

  pub tells : (c : ℕ) (b : Bool) → ((blocks : Blocks) → G.stands o.resident blocks → b ≡ is_some (blocks c)) → is_here (state_of G.limits s o) c ≡ b
  tells c b told = sym (told (with_feeds (processed_by G.limits s o) (peri S (seen o.pass))) stood ∙ some_block (is_here (state_of G.limits s o) c) (acts S (seen o.pass) c) (feed_acts c (processed_by G.limits s o)))

  pub block_here : (c : ℕ) → is_here (state_of G.limits s o) c ≡ true → with_feeds (processed_by G.limits s o) (peri S (seen o.pass)) c ≡ Some (acts_at G.limits s c o)
  block_here c h = some_here S (seen o.pass) (feed_acts c (processed_by G.limits s o)) c h

  pub here : (c : ℕ) → is_here (state_of G.limits s o) c ≡ true → Here (G.stands o.resident) c
  here c h = record { blocks = with_feeds (processed_by G.limits s o) (peri S (seen o.pass)); had = acts_at G.limits s c o; stands = stood; here = block_here c h }

  pub not_here : (c : ℕ) → is_here (state_of G.limits s o) c ≡ false → NotHere (G.stands o.resident) c
  not_here c h =
      record {
        blocks = with_feeds (processed_by G.limits s o) (peri S (seen o.pass));
        stands = stood;
        away = none_here S (seen o.pass) (feed_acts c (processed_by G.limits s o)) c h;
      }

  -- the resident's connections are the squeue's
  pub in_range : (c : ℕ) → c < length s.given.starts → c < G.size o.resident
  in_range c h = subst (λ (k : ℕ). c < k) (sym is.owns.resident.same_size) h

  pub acted : (act : SynchAct) (note : List Act) (r : R) → G.stands r (with_act act note (with_feeds (processed_by G.limits s o) (peri S (seen o.pass)))) → G.limits r ≡ G.limits o.resident → G.size r ≡ G.size o.resident → G.origin r ≡ G.origin o.resident
      → ActInRange S act → ActFits S (seen o.pass) (state_of G.limits s o) (number o.pass) (state_of G.limits s o).chain act → NoteFits (On.Leave (number o.pass) 0 act) note
      → StandsAtItsAsk G s note record o { resident = r; act = act }
  acted act note r new lim sz org range fits note_fits =
      record {
        owns = record {
          pass = is.owns.pass;
          legal = is.owns.legal;
          own = is.owns.own;
          hand = is.owns.hand;
          resident = record {
            stands_for = new;
            same_limits = lim ∙ is.owns.resident.same_limits;
            same_size = sz ∙ is.owns.resident.same_size;
            same_origin = org ∙ is.owns.resident.same_origin;
          };
        };
        no_worker = is.no_worker;
        open_pass = is.open_pass;
        left = is.left;
        at_ask = is.at_ask;
        only = is.only;
        range = range;
        fits = fits;
        note_fits = note_fits;
      }

  -- nothing of c is queued behind the Ask of its ring
  pub none_queued : (c : ℕ) → number o.pass ≡ c % s.given.rings → feeds_of c (state_of G.limits s o).chain ≡ []
  none_queued c ring =
      nothing_queued S (seen o.pass) c is.owns.legal (is.owns.own ∙ ap Out ring)
      (subst (λ (p : ℕ). ((state_of G.limits s o).hand ≡ []) ⊎ (ends_with_ask p (state_of G.limits s o).hand ≡ true)) ring is.at_ask)
