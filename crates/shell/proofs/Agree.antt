-- clap's walk takes exactly the words that their own definition takes, and ends with the rows of what they say.
use Rattle.std.proofs.Common.{◌≡◌, ◌∙◌, ℕ, Bool, cond, true, false, true≢false, refl, sym, ap, ap₂, subst, codes, List, [], ◌∷◌, ◌++◌, Option, Some, None, ◌&&◌, not, map, fold, length, append_assoc}
use Rattle.std.specs.Prelude.{option_map, slice_get, drop, encode_utf8, nat_lt}
use Rattle.std.specs.Option.{option_map_or}
use Rattle.std.specs.List.{AllByRecursion}
use Rattle.std.specs.Str.{chars}
use Rattle.std.proofs.lemmas.List.{append-nil}
use Rattle.std.proofs.lemmas.Slice.Eq.{bytes_eq-Decides}
use Rattle.clap.specs.Words.{Kinds, Row}
use Rattle.clap.specs.Kinds.{or_else}
use Rattle.clap.specs.Lexer.{short_of}
use Rattle.clap.specs.Walk.{Held, Rule, Waiting, Walk, after_flag, after_step, arg_by_long, has_row, idle, is_pending, long_met, next as next_step, option, option_word, positional, positional_held, pushed, settled, to_positional, used, value as value_step, walked}
use Rattle.clap.specs.Simple.{filled, with_index}
use Rattle.clap.specs.Faults.{bundle_step_fault, flags_fault, long_fault, positional_fault, settle_fault, short_fault, step_fault, stray_fault, turn_fault, use_fault, walk_fault}
use Rattle.clap.specs.declared.error.kind.ErrorKind.TheVariants as kind
use Rattle.shell.specs.Command.{calls_rule, flag_rule, option_rule}
use Rattle.shell.specs.Table.{TableOf, is_table, Text, is_flag, is_option}
use Rattle.shell.specs.Words.{Look, Use, value, flag, call, dashed, end, look_of, named, plain, valued, uses_from, and_then_uses, met}
use Rattle.shell.proofs.Names.{by_index, known_flag, known_id, known_long, short_none}
use Rattle.shell.proofs.Names.{rules_built, shape_built}
use Rattle.shell.proofs.Uses.{apply_all, apply_all-append, fine, fine-append, quiet, quiet-or_else}
use Rattle.shell.proofs.Turns.{at, await, fault_at, fault_by, hold, IsHeld, listed, once_fault, once_is, quiet-once, settles, settles_quiet, turn_fault_is, walk_at, walked_is}
use Rattle.shell.proofs.Names.{not_known}
use Rattle.shell.proofs.Unknown.{taken, taken_unknown, taken_waiting, unknown_named, unknown_valued}
use Rattle.shell.proofs.Tests.{and_assoc, and_false, and_right, and_true}

some_same : (us vs : List Use) → Some us ≡ Some vs → us ≡ vs
some_same us vs e = cc

none_some : (us : List Use) → None ≡ Some us → ⊥
none_some us e = cc

abbrev call_rule : Rule
call_rule = with_index 1 (filled calls_rule)

chosen : {X : Type 0} (b : Bool) (x y : X) → cond (b && false) x y ≡ y
chosen true x y = refl
chosen false x y = refl

permitted_once : (b : Bool) → b ≡ ((true && b) && true)
permitted_once true = refl
permitted_once false = refl

-- `--name` of a flag
set_once : (name : Text) (rows : List Row) → use_fault false (filled (flag_rule name)) [] rows ≡ once_fault name rows
set_once name rows = go (has_row name rows)
  where
    go : (b : Bool) → or_else (cond (b && true) (kind.ArgumentConflict ∷ []) []) [] ≡ cond b (kind.ArgumentConflict ∷ []) []
    go true = refl
    go false = refl

quiet_first : (a b : Kinds) → quiet a ≡ false → quiet (or_else a b) ≡ false
quiet_first a b e = quiet-or_else a b ∙ ap (λ q. q && quiet b) e

-- what follows the hyphen has a first character
abbrev pub Bundle : Option Text → Type 0
Bundle None = ⊥
Bundle (Some []) = ⊥
Bundle (Some (y ∷ ys)) = (c : ℕ) × (slice_get (chars (y ∷ ys)) 0 ≡ Some c)

abbrev pub Shorts : Look → Option Text → Type 0
Shorts plain short = short ≡ None
Shorts dashed short = Bundle short
Shorts end short = Unit {0}
Shorts (valued name v) short = Unit {0}
Shorts (named name) short = Unit {0}

abbrev IsFree : Waiting → Type 0
IsFree idle = Unit {0}
IsFree positional = Unit {0}
IsFree (option name) = ⊥

same_map : (o : Option (List Use)) → option_map (λ us. [] ++ us) o ≡ o
same_map None = refl
same_map (Some us) = refl

-- every word looks to clap as it does to the definition
abbrev pub Readable : List Text → Type 0
Readable = AllByRecursion (λ w. Shorts (look_of w) (short_of w))

module _ (t : TableOf) (apart : is_table t ≡ true) where
  abbrev pub end_of : Walk → List Text → Walk
  end_of w ws = fold (walked (rules_built t apart) []) w ws

  -- nothing is found wrong with these words, from here to the end
  abbrev pub quiet_from : Walk → List Text → Bool
  quiet_from w ws = quiet (walk_fault (shape_built t apart) [] w ws) && quiet (settle_fault (rules_built t apart) false (end_of w ws).held)

  quiet_from-step : (w : Walk) (x : Text) (ws : List Text) → quiet_from w (x ∷ ws) ≡ (quiet (turn_fault (shape_built t apart) [] w x) && quiet_from (walked (rules_built t apart) [] w x) ws)
  unfolding walk_fault
  quiet_from-step w x ws =
      ap (λ b. b && quiet (settle_fault (rules_built t apart) false (end_of (walked (rules_built t apart) [] w x) ws).held)) (quiet-or_else (turn_fault (shape_built t apart) [] w x) (walk_fault (shape_built t apart) [] (walked (rules_built t apart) [] w x) ws))
      ∙ and_assoc (quiet (turn_fault (shape_built t apart) [] w x)) (quiet (walk_fault (shape_built t apart) [] (walked (rules_built t apart) [] w x) ws)) (quiet (settle_fault (rules_built t apart) false (end_of (walked (rules_built t apart) [] w x) ws).held))

  quiet_from-none : (w : Walk) → quiet_from w [] ≡ quiet (settle_fault (rules_built t apart) false w.held)
  unfolding walk_fault
  quiet_from-none w = refl

  -- from this place in the walk, with these uses not yet in the rows, the words give what the definition says of them
  pub record Agrees (w : Walk) (before : List Use) (rows : List Row) (ws : List Text) (o : Option (List Use)) : Type 0 where
    pub faults : quiet_from w ws ≡ (taken t apart) before rows o
    pub ends : (us : List Use) → o ≡ Some us → (fine t apart) (before ++ us) rows ≡ true → (settled (rules_built t apart) (end_of w ws).held).rows ≡ apply_all (before ++ us) rows

  -- words that both refuse
  refused : (w : Walk) (before : List Use) (rows : List Row) (ws : List Text) (o : Option (List Use)) → quiet_from w ws ≡ false → (taken t apart) before rows o ≡ false → Agrees w before rows ws o
  refused w before rows ws o e f = record {
    faults = e ∙ sym f;
    ends = λ us is good. absurd (true≢false (sym good ∙ (ap ((taken t apart) before rows) (sym is) ∙ f)));
  }

  turn_refused : (w : Walk) (x : Text) (ws : List Text) → quiet (turn_fault (shape_built t apart) [] w x) ≡ false → quiet_from w (x ∷ ws) ≡ false
  turn_refused w x ws e = quiet_from-step w x ws ∙ ap (λ b. b && quiet_from (walked (rules_built t apart) [] w x) ws) e

  -- one turn: clap applies the uses `done`, and keeps `now`; the word says `extra`
  turn_agrees : (w next : Walk) (x : Text) (ws : List Text) (before done now extra : List Use) (rows : List Row) (o : Option (List Use))
      → walked (rules_built t apart) [] w x ≡ next → quiet (turn_fault (shape_built t apart) [] w x) ≡ (fine t apart) done rows
      → ((us : List Use) → before ++ (extra ++ us) ≡ done ++ (now ++ us))
      → Agrees next now (apply_all done rows) ws o → Agrees w before rows (x ∷ ws) (option_map (λ us. extra ++ us) o)
  turn_agrees w next x ws before done now extra rows o walks turns same rest = record {
    faults = quiet_from-step w x ws ∙ (ap₂ (λ (a b : Bool). a && b) turns (ap (λ n. quiet_from n ws) walks ∙ rest.faults) ∙ joined o);
    ends = λ us is good. ends_of o rest us is good;
  }
    where
      joined : (o : Option (List Use)) → ((fine t apart) done rows && (taken t apart) now (apply_all done rows) o) ≡ (taken t apart) before rows (option_map (λ us. extra ++ us) o)
      joined None = and_false ((fine t apart) done rows)
      joined (Some us) = sym ((fine-append t apart) done (now ++ us) rows) ∙ ap (λ l. (fine t apart) l rows) (sym (same us))

      ends_of : (o : Option (List Use)) → Agrees next now (apply_all done rows) ws o → (us : List Use) → option_map (λ us. extra ++ us) o ≡ Some us → (fine t apart) (before ++ us) rows ≡ true
          → (settled (rules_built t apart) (end_of w (x ∷ ws)).held).rows ≡ apply_all (before ++ us) rows
      ends_of None rest us is good = absurd (none_some us is)
      ends_of (Some vs) rest us is good =
          let said : before ++ us ≡ done ++ (now ++ vs) = ap (λ l. before ++ l) (sym (some_same (extra ++ vs) us is)) ∙ same vs in
          let all : ((fine t apart) done rows && (fine t apart) (now ++ vs) (apply_all done rows)) ≡ true = sym ((fine-append t apart) done (now ++ vs) rows) ∙ (ap (λ l. (fine t apart) l rows) (sym said) ∙ good) in
          ap (λ n. (settled (rules_built t apart) (end_of n ws).held).rows) walks
          ∙ (rest.ends vs refl (and_right ((fine t apart) done rows) ((fine t apart) (now ++ vs) (apply_all done rows)) all)
          ∙ (sym (apply_all-append done (now ++ vs) rows) ∙ ap (λ l. apply_all l rows) (sym said)))

  -- no word is left
  at_end : (p : Option Use) (rows : List Row) (waiting : Waiting) (behind : Bool) → (IsHeld t apart) p → Agrees (at (hold p rows) waiting behind) (listed p) rows [] (Some [])
  at_end p rows waiting behind is = record {
    faults = quiet_from-none (at (hold p rows) waiting behind) ∙ ((settles_quiet t apart) p rows is ∙ ap (λ l. (fine t apart) l rows) (sym (append-nil (listed p))));
    ends = λ us e good. ap (λ h. h.rows) ((settles t apart) p rows is) ∙ ap (λ l. apply_all l rows) (sym (append-nil (listed p)) ∙ ap (λ l. listed p ++ l) (some_same [] us e));
  }

  -- a CALL settles what was pending, and is pending
  to_calls : (p : Option Use) (rows : List Row) (x : Text) → (IsHeld t apart) p → positional_held (rules_built t apart) call_rule x (hold p rows) ≡ hold (Some (call x)) (apply_all (listed p) rows)
  to_calls p rows x is =
      ap (pushed (codes "calls") x) (chosen (is_pending call_rule (hold p rows).pending) (hold p rows) (settled (rules_built t apart) (hold p rows)))
      ∙ ap (pushed (codes "calls") x) ((settles t apart) p rows is)

  calls_fault : (h : Held) → step_fault (shape_built t apart) 1 h value_step ≡ settle_fault (rules_built t apart) false h
  calls_fault h =
      ap (λ (a : Option Rule). option_map_or (λ r. positional_fault (rules_built t apart) false r h) a (stray_fault (shape_built t apart))) (by_index t apart)
      ∙ chosen (is_pending call_rule h.pending) [] (settle_fault (rules_built t apart) false h)

  behind_fault : (h : Held) (waiting : Waiting) (x : Text) → turn_fault (shape_built t apart) [] (at h waiting true) x ≡ settle_fault (rules_built t apart) false h
  behind_fault h waiting x = calls_fault h

  behind_walk : (p : Option Use) (rows : List Row) (waiting : Waiting) (x : Text) → (IsHeld t apart) p → walked (rules_built t apart) [] (at (hold p rows) waiting true) x ≡ at (hold (Some (call x)) (apply_all (listed p) rows)) positional true
  unfolding walked
  behind_walk p rows waiting x is =
      ap (λ (a : Option Rule). to_positional (rules_built t apart) a x (at (hold p rows) waiting true) (hold p rows)) (by_index t apart)
      ∙ ap (λ h. at h positional true) (to_calls p rows x is)

  -- behind `--` each word is a CALL
  pub behind_agrees : (ws : List Text) (p : Option Use) (rows : List Row) (waiting : Waiting) → (IsHeld t apart) p → Agrees (at (hold p rows) waiting true) (listed p) rows ws (Some (map call ws))
  behind_agrees [] p rows waiting is = at_end p rows waiting true is
  behind_agrees (x ∷ ws) p rows waiting is =
      turn_agrees (at (hold p rows) waiting true) (at (hold (Some (call x)) (apply_all (listed p) rows)) positional true) x ws (listed p) (listed p) (call x ∷ []) (call x ∷ []) rows (Some (map call ws))
      (behind_walk p rows waiting x is)
      (ap quiet (behind_fault (hold p rows) waiting x) ∙ (settles_quiet t apart) p rows is)
      (λ us. refl)
      (behind_agrees ws (Some (call x)) (apply_all (listed p) rows) positional tt)

  -- and what can't be settled stays wrong
  behind_doomed : (ws : List Text) (h : Held) (waiting : Waiting) → quiet (settle_fault (rules_built t apart) false h) ≡ false → quiet_from (at h waiting true) ws ≡ false
  behind_doomed [] h waiting e = quiet_from-none (at h waiting true) ∙ e
  behind_doomed (x ∷ ws) h waiting e = turn_refused (at h waiting true) x ws (ap quiet (behind_fault h waiting x) ∙ e)

  await_fault : (name : Text) (rows : List Row) → (is_option t.options) name ≡ true → quiet (settle_fault (rules_built t apart) false (await name rows)) ≡ false
  await_fault name rows is = ap (λ a. quiet (option_map_or (λ r. use_fault false r [] rows) a [])) ((known_id t apart) name is)

  abbrev flag_fault : Option Rule → Option Text → Waiting → Text → Held → Kinds
  flag_fault a v waiting x h = or_else (long_fault (rules_built t apart) false a v h) (step_fault (shape_built t apart) 1
      (after_flag (rules_built t apart) waiting x (long_met (rules_built t apart) a v h).0 (long_met (rules_built t apart) a v h).1).0
      (after_flag (rules_built t apart) waiting x (long_met (rules_built t apart) a v h).0 (long_met (rules_built t apart) a v h).1).1)

  abbrev flag_walk : Option Rule → Option Text → Waiting → Text → Held → Walk
  flag_walk a v waiting x h = after_step (rules_built t apart) x (at h waiting false)
      (after_flag (rules_built t apart) waiting x (long_met (rules_built t apart) a v h).0 (long_met (rules_built t apart) a v h).1).0
      (after_flag (rules_built t apart) waiting x (long_met (rules_built t apart) a v h).0 (long_met (rules_built t apart) a v h).1).1

  -- a use that is made at once, where it is a known option's or flag's
  use_quiet : (p : Option Use) (rows : List Row) (id : Text) → (IsHeld t apart) p
      → quiet (or_else (or_else (settle_fault (rules_built t apart) false (hold p rows)) (once_fault id (settled (rules_built t apart) (hold p rows)).rows)) [])
      ≡ ((fine t apart) (listed p) rows && not (has_row id (apply_all (listed p) rows)))
  use_quiet p rows id is =
      quiet-or_else (or_else (settle_fault (rules_built t apart) false (hold p rows)) (once_fault id (settled (rules_built t apart) (hold p rows)).rows)) []
      ∙ (and_true (quiet (or_else (settle_fault (rules_built t apart) false (hold p rows)) (once_fault id (settled (rules_built t apart) (hold p rows)).rows)))
      ∙ (quiet-or_else (settle_fault (rules_built t apart) false (hold p rows)) (once_fault id (settled (rules_built t apart) (hold p rows)).rows)
      ∙ ap₂ (λ (a b : Bool). a && b) ((settles_quiet t apart) p rows is)
      (quiet-once id (settled (rules_built t apart) (hold p rows)).rows ∙ ap (λ h. not (has_row id h.rows)) ((settles t apart) p rows is))))

  -- `--name=value` of an option
  valued_quiet : (p : Option Use) (rows : List Row) (waiting : Waiting) (x name v : Text) → (IsHeld t apart) p → (is_option t.options) name ≡ true
      → quiet (flag_fault (Some (filled (option_rule name))) (Some v) waiting x (hold p rows)) ≡ (fine t apart) (listed p ++ value name v ∷ []) rows
  valued_quiet p rows waiting x name v is known =
      ap (λ f. quiet (or_else (or_else (settle_fault (rules_built t apart) false (hold p rows)) f) [])) (once_is name v (settled (rules_built t apart) (hold p rows)).rows)
      ∙ (use_quiet p rows name is
      ∙ (ap (λ b. (fine t apart) (listed p) rows && b) (permitted_once (not (has_row name (apply_all (listed p) rows))) ∙ ap (λ b. (b && not (has_row name (apply_all (listed p) rows))) && true) (sym known))
      ∙ sym ((fine-append t apart) (listed p) (value name v ∷ []) rows)))

  valued_walk : (p : Option Use) (rows : List Row) (waiting : Waiting) (x name v : Text) → (IsHeld t apart) p
      → flag_walk (Some (filled (option_rule name))) (Some v) waiting x (hold p rows) ≡ at (hold None (apply_all (listed p ++ value name v ∷ []) rows)) idle false
  valued_walk p rows waiting x name v is =
      ap (λ h. at (hold None (used (filled (option_rule name)) (v ∷ []) h.rows)) idle false) ((settles t apart) p rows is)
      ∙ ap (λ r. at (hold None r) idle false) (sym (apply_all-append (listed p) (value name v ∷ []) rows))

  set_quiet : (p : Option Use) (rows : List Row) (waiting : Waiting) (x name : Text) → (IsHeld t apart) p → (is_flag t.options) name ≡ true
      → quiet (flag_fault (Some (filled (flag_rule name))) None waiting x (hold p rows)) ≡ (fine t apart) (listed p ++ flag name ∷ []) rows
  set_quiet p rows waiting x name is known =
      ap (λ f. quiet (or_else (or_else (settle_fault (rules_built t apart) false (hold p rows)) f) [])) (set_once name (settled (rules_built t apart) (hold p rows)).rows)
      ∙ (use_quiet p rows name is
      ∙ (ap (λ b. (fine t apart) (listed p) rows && b) (permitted_once (not (has_row name (apply_all (listed p) rows))) ∙ ap (λ b. (b && not (has_row name (apply_all (listed p) rows))) && true) (sym known))
      ∙ sym ((fine-append t apart) (listed p) (flag name ∷ []) rows)))

  set_walk : (p : Option Use) (rows : List Row) (waiting : Waiting) (x name : Text) → (IsHeld t apart) p
      → flag_walk (Some (filled (flag_rule name))) None waiting x (hold p rows) ≡ at (hold None (apply_all (listed p ++ flag name ∷ []) rows)) idle false
  set_walk p rows waiting x name is =
      ap (λ h. at (hold None (used (filled (flag_rule name)) [] h.rows)) idle false) ((settles t apart) p rows is)
      ∙ ap (λ r. at (hold None r) idle false) (sym (apply_all-append (listed p) (flag name ∷ []) rows))

  -- `--name` of an option
  named_quiet : (p : Option Use) (rows : List Row) (waiting : Waiting) (x name : Text) → (IsHeld t apart) p
      → quiet (flag_fault (Some (filled (option_rule name))) None waiting x (hold p rows)) ≡ (fine t apart) (listed p) rows
  named_quiet p rows waiting x name is =
      quiet-or_else (settle_fault (rules_built t apart) false (hold p rows)) [] ∙ (and_true (quiet (settle_fault (rules_built t apart) false (hold p rows))) ∙ (settles_quiet t apart) p rows is)

  named_walk : (p : Option Use) (rows : List Row) (waiting : Waiting) (x name : Text) → (IsHeld t apart) p
      → flag_walk (Some (filled (option_rule name))) None waiting x (hold p rows) ≡ at (await name (apply_all (listed p) rows)) (option name) false
  named_walk p rows waiting x name is = ap (λ h. at (await name h.rows) (option name) false) ((settles t apart) p rows is)

  -- a flag word where an option waits
  await_long : (name other : Text) (v : Option Text) (rows : List Row) → (is_option t.options) name ≡ true → quiet (long_fault (rules_built t apart) false (arg_by_long (rules_built t apart) other) v (await name rows)) ≡ false
  await_long name other v rows known = by_option ((is_option t.options) other) refl
    where
      known_fault : (v : Option Text) → quiet (long_fault (rules_built t apart) false (Some (filled (option_rule other))) v (await name rows)) ≡ false
      known_fault None = await_fault name rows known
      known_fault (Some u) = quiet_first (settle_fault (rules_built t apart) false (await name rows)) (use_fault false (filled (option_rule other)) (u ∷ []) (settled (rules_built t apart) (await name rows)).rows) (await_fault name rows known)

      set_fault : (v : Option Text) → quiet (long_fault (rules_built t apart) false (Some (filled (flag_rule other))) v (await name rows)) ≡ false
      set_fault None = quiet_first (settle_fault (rules_built t apart) false (await name rows)) (use_fault false (filled (flag_rule other)) [] (settled (rules_built t apart) (await name rows)).rows) (await_fault name rows known)
      set_fault (Some u) = refl

      by_flag : (b : Bool) → (is_option t.options) other ≡ false → (is_flag t.options) other ≡ b → quiet (long_fault (rules_built t apart) false (arg_by_long (rules_built t apart) other) v (await name rows)) ≡ false
      by_flag true e f = ap (λ a. quiet (long_fault (rules_built t apart) false a v (await name rows))) ((known_flag t apart) other f) ∙ set_fault v
      by_flag false e f = ap (λ a. quiet (long_fault (rules_built t apart) false a v (await name rows))) ((not_known t apart) other e f)

      by_option : (b : Bool) → (is_option t.options) other ≡ b → quiet (long_fault (rules_built t apart) false (arg_by_long (rules_built t apart) other) v (await name rows)) ≡ false
      by_option true e = ap (λ a. quiet (long_fault (rules_built t apart) false a v (await name rows))) ((known_long t apart) other e) ∙ known_fault v
      by_option false e = by_flag ((is_flag t.options) other) e refl

  await_walk : (name : Text) → (is_option t.options) name ≡ true → (rows : List Row) (x : Text) → (walk_at t apart) (option name) plain None x (await name rows) ≡ at (hold (Some (value name x)) rows) idle false
  await_walk name known rows x =
      ap (λ (a : Option Rule). after_step (rules_built t apart) x (at (await name rows) (option name) false) (option_word a name x (await name rows)).0 (next_step (option_word a name x (await name rows)).1))
      (known_id t apart name known)
      ∙ ap (λ (b : Bool). at (hold (Some (value name x)) rows) (cond (nat_lt (cond b 1 0) 1) (option name) idle) false) ((bytes_eq-Decides name name).1 refl)

  dashed_quiet : (short : Option Text) (rows : List Row) (pending : Option (Text × List Text)) → Bundle short → quiet ((fault_by t apart) dashed short (record { rows = rows; pending = pending; skip = 0 })) ≡ false
  unfolding flags_fault
  dashed_quiet None rows pending is = absurd is
  dashed_quiet (Some []) rows pending is = absurd is
  dashed_quiet (Some (y ∷ ys)) rows pending is =
      ap (λ (o : Option ℕ). quiet (bundle_step_fault (rules_built t apart) false o (y ∷ ys) 0 (record { rows = rows; pending = pending; skip = 0 }) (flags_fault (rules_built t apart) false (length ys)))) is.1
      ∙ ap (λ (a : Option Rule). quiet (short_fault (rules_built t apart) false a (drop (length (encode_utf8 is.0)) (y ∷ ys)) (record { rows = rows; pending = pending; skip = 0 })
      (flags_fault (rules_built t apart) false (length ys) (drop (length (encode_utf8 is.0)) (y ∷ ys)) 0))) (short_none t apart is.0)

  plain_quiet : (p : Option Use) (rows : List Row) (waiting : Waiting) (x : Text) → (IsHeld t apart) p → IsFree waiting → quiet ((fault_at t apart) waiting plain None x (hold p rows)) ≡ (fine t apart) (listed p) rows
  plain_quiet p rows idle x is free = ap quiet (calls_fault (hold p rows)) ∙ (settles_quiet t apart) p rows is
  plain_quiet p rows positional x is free = ap quiet (calls_fault (hold p rows)) ∙ (settles_quiet t apart) p rows is
  plain_quiet p rows (option name) x is free = absurd free

  plain_walk : (p : Option Use) (rows : List Row) (waiting : Waiting) (x : Text) → (IsHeld t apart) p → IsFree waiting → (walk_at t apart) waiting plain None x (hold p rows) ≡ at (hold (Some (call x)) (apply_all (listed p) rows)) positional false
  plain_walk p rows idle x is free =
      ap (λ (a : Option Rule). to_positional (rules_built t apart) a x (at (hold p rows) idle false) (hold p rows)) (by_index t apart)
      ∙ ap (λ h. at h positional false) (to_calls p rows x is)
  plain_walk p rows positional x is free =
      ap (λ (a : Option Rule). to_positional (rules_built t apart) a x (at (hold p rows) positional false) (hold p rows)) (by_index t apart)
      ∙ ap (λ h. at h positional false) (to_calls p rows x is)
  plain_walk p rows (option name) x is free = absurd free

  record Both (ws : List Text) : Type 0 where
    free : (p : Option Use) (rows : List Row) (waiting : Waiting) → (IsHeld t apart) p → IsFree waiting → Agrees (at (hold p rows) waiting false) (listed p) rows ws ((uses_from t.options) ws None)
    awaits : (name : Text) (rows : List Row) → (is_option t.options) name ≡ true → Agrees (at (await name rows) (option name) false) [] rows ws ((uses_from t.options) ws (Some name))

  abbrev Turn : Waiting → Look → Option Text → Text → Held → Type 0
  Turn waiting l short x h = (turn_fault (shape_built t apart) [] (at h waiting false) x ≡ (fault_at t apart) waiting l short x h) × (walked (rules_built t apart) [] (at h waiting false) x ≡ (walk_at t apart) waiting l short x h)

  -- a flag word that is refused
  flag_refused : (p : Option Use) (rows : List Row) (waiting : Waiting) (x : Text) (ws : List Text) (name : Text) (v : Option Text) (o : Option (List Use))
      → turn_fault (shape_built t apart) [] (at (hold p rows) waiting false) x ≡ flag_fault (arg_by_long (rules_built t apart) name) v waiting x (hold p rows)
      → quiet (long_fault (rules_built t apart) false (arg_by_long (rules_built t apart) name) v (hold p rows)) ≡ false → (taken t apart) (listed p) rows o ≡ false
      → Agrees (at (hold p rows) waiting false) (listed p) rows (x ∷ ws) o
  flag_refused p rows waiting x ws name v o turn wrong nothing =
      refused (at (hold p rows) waiting false) (listed p) rows (x ∷ ws) o
      (turn_refused (at (hold p rows) waiting false) x ws (ap quiet turn ∙ quiet_first (long_fault (rules_built t apart) false (arg_by_long (rules_built t apart) name) v (hold p rows)) _ wrong)) nothing

  -- a use that is made at once
  at_once : (p : Option Use) (rows : List Row) (waiting : Waiting) (x : Text) (ws : List Text) (u : Use) → Both ws
      → walked (rules_built t apart) [] (at (hold p rows) waiting false) x ≡ at (hold None (apply_all (listed p ++ u ∷ []) rows)) idle false
      → quiet (turn_fault (shape_built t apart) [] (at (hold p rows) waiting false) x) ≡ (fine t apart) (listed p ++ u ∷ []) rows
      → Agrees (at (hold p rows) waiting false) (listed p) rows (x ∷ ws) (and_then_uses u ((uses_from t.options) ws None))
  at_once p rows waiting x ws u both walks turns =
      turn_agrees (at (hold p rows) waiting false) (at (hold None (apply_all (listed p ++ u ∷ []) rows)) idle false) x ws (listed p) (listed p ++ u ∷ []) [] (u ∷ []) rows ((uses_from t.options) ws None)
      walks turns (λ us. sym (append_assoc (listed p) (u ∷ []) us)) (both.free None (apply_all (listed p ++ u ∷ []) rows) idle tt tt)

  free_valued : (b : Bool) (p : Option Use) (rows : List Row) (waiting : Waiting) (x name v : Text) (short : Option Text) (ws : List Text) → (IsHeld t apart) p → Both ws
      → Turn waiting (valued name v) short x (hold p rows) → (is_option t.options) name ≡ b → Agrees (at (hold p rows) waiting false) (listed p) rows (x ∷ ws) (and_then_uses (value name v) ((uses_from t.options) ws None))
  free_valued true p rows waiting x name v short ws is both turn e =
      at_once p rows waiting x ws (value name v) both
      (turn.1 ∙ (ap (λ a. flag_walk a (Some v) waiting x (hold p rows)) ((known_long t apart) name e) ∙ valued_walk p rows waiting x name v is))
      (ap quiet turn.0 ∙ (ap (λ a. quiet (flag_fault a (Some v) waiting x (hold p rows))) ((known_long t apart) name e) ∙ valued_quiet p rows waiting x name v is e))
  free_valued false p rows waiting x name v short ws is both turn e =
      flag_refused p rows waiting x ws name (Some v) (and_then_uses (value name v) ((uses_from t.options) ws None)) turn.0 ((unknown_valued t apart) name v (hold p rows) e) ((taken_unknown t apart) (listed p) name v rows ((uses_from t.options) ws None) e)

  free_named : (b c : Bool) (p : Option Use) (rows : List Row) (waiting : Waiting) (x name : Text) (short : Option Text) (ws : List Text) → (IsHeld t apart) p → Both ws
      → Turn waiting (named name) short x (hold p rows) → (is_flag t.options) name ≡ b → (is_option t.options) name ≡ c
      → Agrees (at (hold p rows) waiting false) (listed p) rows (x ∷ ws) (cond b (and_then_uses (flag name) ((uses_from t.options) ws None)) ((uses_from t.options) ws (Some name)))
  free_named true c p rows waiting x name short ws is both turn e f =
      at_once p rows waiting x ws (flag name) both
      (turn.1 ∙ (ap (λ a. flag_walk a None waiting x (hold p rows)) ((known_flag t apart) name e) ∙ set_walk p rows waiting x name is))
      (ap quiet turn.0 ∙ (ap (λ a. quiet (flag_fault a None waiting x (hold p rows))) ((known_flag t apart) name e) ∙ set_quiet p rows waiting x name is e))
  free_named false true p rows waiting x name short ws is both turn e f =
      subst (Agrees (at (hold p rows) waiting false) (listed p) rows (x ∷ ws)) (same_map ((uses_from t.options) ws (Some name)))
      (turn_agrees (at (hold p rows) waiting false) (at (await name (apply_all (listed p) rows)) (option name) false) x ws (listed p) (listed p) [] [] rows ((uses_from t.options) ws (Some name))
      (turn.1 ∙ (ap (λ a. flag_walk a None waiting x (hold p rows)) ((known_long t apart) name f) ∙ named_walk p rows waiting x name is))
      (ap quiet turn.0 ∙ (ap (λ a. quiet (flag_fault a None waiting x (hold p rows))) ((known_long t apart) name f) ∙ named_quiet p rows waiting x name is))
      (λ us. refl) (both.awaits name (apply_all (listed p) rows) f))
  free_named false false p rows waiting x name short ws is both turn e f =
      flag_refused p rows waiting x ws name None ((uses_from t.options) ws (Some name)) turn.0 ((unknown_named t apart) name (hold p rows) f e) ((taken_waiting t apart) (listed p) name rows ws f)

  free_look : (l : Look) (short : Option Text) (x : Text) (ws : List Text) (p : Option Use) (rows : List Row) (waiting : Waiting) → (IsHeld t apart) p → IsFree waiting → Shorts l short → Both ws
      → Turn waiting l short x (hold p rows) → Agrees (at (hold p rows) waiting false) (listed p) rows (x ∷ ws) ((met t.options) None l x ws ((uses_from t.options) ws))
  free_look end short x ws p rows waiting is free shorts both turn =
      turn_agrees (at (hold p rows) waiting false) (at (hold p rows) waiting true) x ws (listed p) [] (listed p) [] rows (Some (map call ws)) turn.1 (ap quiet turn.0) (λ us. refl) (behind_agrees ws p rows waiting is)
  free_look (valued name v) short x ws p rows waiting is free shorts both turn = free_valued ((is_option t.options) name) p rows waiting x name v short ws is both turn refl
  free_look (named name) short x ws p rows waiting is free shorts both turn = free_named ((is_flag t.options) name) ((is_option t.options) name) p rows waiting x name short ws is both turn refl refl
  free_look dashed short x ws p rows waiting is free shorts both turn =
      refused (at (hold p rows) waiting false) (listed p) rows (x ∷ ws) None
      (turn_refused (at (hold p rows) waiting false) x ws (ap quiet turn.0 ∙ quiet_first ((fault_by t apart) dashed short (hold p rows)) _ (dashed_quiet short rows (hold p rows).pending shorts))) refl
  free_look plain short x ws p rows waiting is free shorts both turn =
      turn_agrees (at (hold p rows) waiting false) (at (hold (Some (call x)) (apply_all (listed p) rows)) positional false) x ws (listed p) (listed p) (call x ∷ []) (call x ∷ []) rows ((uses_from t.options) ws None)
      (turn.1 ∙ (ap (λ s. (walk_at t apart) waiting plain s x (hold p rows)) shorts ∙ plain_walk p rows waiting x is free))
      (ap quiet turn.0 ∙ (ap (λ s. quiet ((fault_at t apart) waiting plain s x (hold p rows))) shorts ∙ plain_quiet p rows waiting x is free))
      (λ us. refl) (both.free (Some (call x)) (apply_all (listed p) rows) positional tt tt)

  awaits_look : (l : Look) (short : Option Text) (x : Text) (ws : List Text) (name : Text) (rows : List Row) → (is_option t.options) name ≡ true → Shorts l short → Both ws
      → Turn (option name) l short x (await name rows) → Agrees (at (await name rows) (option name) false) [] rows (x ∷ ws) ((met t.options) (Some name) l x ws ((uses_from t.options) ws))
  awaits_look end short x ws name rows known shorts both turn =
      let w = at (await name rows) (option name) false in
      refused w [] rows (x ∷ ws) None
      (quiet_from-step w x ws ∙ (ap (λ n. quiet (turn_fault (shape_built t apart) [] w x) && quiet_from n ws) turn.1
      ∙ (ap (λ b. quiet (turn_fault (shape_built t apart) [] w x) && b) (behind_doomed ws (await name rows) (option name) (await_fault name rows known)) ∙ and_false (quiet (turn_fault (shape_built t apart) [] w x))))) refl
  awaits_look (valued other v) short x ws name rows known shorts both turn =
      let w = at (await name rows) (option name) false in
      refused w [] rows (x ∷ ws) None (turn_refused w x ws (ap quiet turn.0 ∙ quiet_first (long_fault (rules_built t apart) false (arg_by_long (rules_built t apart) other) (Some v) (await name rows)) _ (await_long name other (Some v) rows known))) refl
  awaits_look (named other) short x ws name rows known shorts both turn =
      let w = at (await name rows) (option name) false in
      refused w [] rows (x ∷ ws) None (turn_refused w x ws (ap quiet turn.0 ∙ quiet_first (long_fault (rules_built t apart) false (arg_by_long (rules_built t apart) other) None (await name rows)) _ (await_long name other None rows known))) refl
  awaits_look dashed short x ws name rows known shorts both turn =
      let w = at (await name rows) (option name) false in
      refused w [] rows (x ∷ ws) None (turn_refused w x ws (ap quiet turn.0 ∙ quiet_first ((fault_by t apart) dashed short (await name rows)) _ (dashed_quiet short rows (await name rows).pending shorts))) refl
  awaits_look plain short x ws name rows known shorts both turn =
      turn_agrees (at (await name rows) (option name) false) (at (hold (Some (value name x)) rows) idle false) x ws [] [] (value name x ∷ []) (value name x ∷ []) rows ((uses_from t.options) ws None)
      (turn.1 ∙ (ap (λ s. (walk_at t apart) (option name) plain s x (await name rows)) shorts ∙ await_walk name known rows x))
      (ap quiet turn.0 ∙ ap (λ s. quiet ((fault_at t apart) (option name) plain s x (await name rows))) shorts)
      (λ us. refl) (both.free (Some (value name x)) rows idle known tt)

  both_ways : (ws : List Text) → Readable ws → Both ws
  unfolding uses_from
  both_ways [] readable = record {
    free = λ p rows waiting is free. at_end p rows waiting false is;
    awaits = λ name rows known. refused (at (await name rows) (option name) false) [] rows [] None (quiet_from-none (at (await name rows) (option name) false) ∙ await_fault name rows known) refl;
  }
  both_ways (x ∷ ws) readable =
      let more = both_ways ws readable.1 in
      record {
        free = λ p rows waiting is free. free_look (look_of x) (short_of x) x ws p rows waiting is free readable.0 more ((turn_fault_is t apart) waiting x (hold p rows), (walked_is t apart) waiting x (hold p rows));
        awaits = λ name rows known. awaits_look (look_of x) (short_of x) x ws name rows known readable.0 more ((turn_fault_is t apart) (option name) x (await name rows), (walked_is t apart) (option name) x (await name rows));
      }

  -- from the front, with nothing read
  pub from_front : (ws : List Text) → Readable ws → Agrees (at (hold None []) idle false) [] [] ws ((uses_from t.options) ws None)
  from_front ws readable = (both_ways ws readable).free None [] idle tt tt
