-- A text that is written piece by piece.
use Rattle.std.proofs.Common.{◌≡◌, ◌∙◌, ℕ, ◌+◌, ◌<◌, List, [], ◌∷◌, ◌++◌, Option, Result, Ok, Err, OnOk, OnErr, IsErr, length, take, drop, get_or, ap, sym, subst, refl, append_assoc, true≢false}
use Rattle.std.specs.Prelude.{⊤}
use Rattle.std.proofs.KnownBytes.{Appends-trans}
use Rattle.std.proofs.lemmas.List.{append-nil, map-append, take-append-drop, take_more}
use Rattle.std.specs.Io.KnownBytes.{Appends}
use Rattle.sq_base.specs.Ends.{AppendsProperly, Rose}
use Rattle.sq_base.specs.declared.ends.Failed.{Failed}
use Rattle.shell.specs.Table.{OptionOf, options_of, option_of}
use Rattle.shell.specs.declared.table.OptionRow.{OptionRow}
use Rattle.shell.specs.Telling.{WritesAll}
use Rattle.shell.specs.Usage.{option_text, options_text}
use Rattle.shell.proofs.TellLemmas.{stops_early, stops_later}

-- a text was appended without a fault; or a write failed behind a front of it
abbrev pub Wrote : Option (List ℕ) → Option (List ℕ) → ℕ → ℕ → List ℕ → Type 0
Wrote was is f h text = (h ≡ f) × Appends was is text

abbrev pub Stopped : Option (List ℕ) → Option (List ℕ) → ℕ → ℕ → List ℕ → Type 0
Stopped was is f h text = Rose f h × AppendsProperly was is text

pub wrote_more : (was mid is : Option (List ℕ)) (f g h : ℕ) (a b : List ℕ) → Wrote was mid f g a → Wrote mid is g h b → Wrote was is f h (a ++ b)
wrote_more was mid is f g h a b first rest = (rest.0 ∙ first.0, Appends-trans was mid is a b first.1 rest.1)

pub stops_more : (was mid is : Option (List ℕ)) (f g h : ℕ) (a b : List ℕ) → Wrote was mid f g a → Stopped mid is g h b → Stopped was is f h (a ++ b)
stops_more was mid is f g h a b first rest = (subst (λ (n : ℕ). Rose n h) first.0 rest.0, stops_later was mid is a b first.1 rest.1)

pub stops_here : (was is : Option (List ℕ)) (f h : ℕ) (a b : List ℕ) → Stopped was is f h a → Stopped was is f h (a ++ b)
stops_here was is f h a b stop = (stop.0, stops_early was is a b stop.1)

-- and so a writer's answer
pub answers_stop : (was is : Option (List ℕ)) (f h : ℕ) (text : List ℕ) (r : Result ⊤ Failed) → IsErr r → Stopped was is f h text
    → WritesAll r (record { was = was; is = is; faults_were = f; faults_are = h }) text
answers_stop was is f h text (Ok u) bad stop = absurd (true≢false (sym bad))
answers_stop was is f h text (Err e) good stop = (tt, stop)

pub answers_last : (was is : Option (List ℕ)) (f h : ℕ) (text : List ℕ) (r : Result ⊤ Failed) → OnOk r (Appends was is text) → OnErr r (AppendsProperly was is text) → OnErr r (Rose f h) → OnOk r (h ≡ f)
    → WritesAll r (record { was = was; is = is; faults_were = f; faults_are = h }) text
answers_last was is f h text (Ok u) whole front rose kept = ((kept, whole), tt)
answers_last was is f h text (Err e) whole front rose kept = (tt, (rose, front))

pub answers_behind : (was mid is : Option (List ℕ)) (f g h : ℕ) (a b : List ℕ) (r : Result ⊤ Failed) → Wrote was mid f g a
    → WritesAll r (record { was = mid; is = is; faults_were = g; faults_are = h }) b → WritesAll r (record { was = was; is = is; faults_were = f; faults_are = h }) (a ++ b)
answers_behind was mid is f g h a b (Ok u) first rest = (wrote_more was mid is f g h a b first rest.0, tt)
answers_behind was mid is f g h a b (Err e) first rest = (tt, stops_more was mid is f g h a b first rest.1)

-- ---- the options of a usage line

texts_split : (xs ys : List OptionOf) → options_text (xs ++ ys) ≡ options_text xs ++ options_text ys
texts_split [] ys = refl
texts_split (x ∷ xs) ys = ap (λ (t : List ℕ). option_text x ++ t) (texts_split xs ys) ∙ sym (append_assoc (option_text x) (options_text xs) (options_text ys))

pub texts_more : (os : List OptionRow) (i : ℕ) (d : OptionRow) → i < length os
    → options_text (options_of (take (i + 1) os)) ≡ options_text (options_of (take i os)) ++ option_text (option_of (get_or os i d))
texts_more os i d within =
    ap (λ (l : List OptionRow). options_text (options_of l)) (take_more os i d within)
    ∙ (ap options_text (map-append option_of (take i os) (get_or os i d ∷ []))
    ∙ (texts_split (options_of (take i os)) (option_of (get_or os i d) ∷ [])
    ∙ ap (λ (t : List ℕ). options_text (options_of (take i os)) ++ t) (append-nil (option_text (option_of (get_or os i d))))))

pub texts_at : (os : List OptionRow) (i : ℕ) (d : OptionRow) → i < length os
    → (options_text (options_of (take i os)) ++ option_text (option_of (get_or os i d))) ++ options_text (options_of (drop (i + 1) os)) ≡ options_text (options_of os)
texts_at os i d within =
    ap (λ (t : List ℕ). t ++ options_text (options_of (drop (i + 1) os))) (sym (texts_more os i d within))
    ∙ (sym (texts_split (options_of (take (i + 1) os)) (options_of (drop (i + 1) os)))
    ∙ (ap options_text (sym (map-append option_of (take (i + 1) os) (drop (i + 1) os)))
    ∙ ap (λ (l : List OptionRow). options_text (options_of l)) (take-append-drop (i + 1) os)))
