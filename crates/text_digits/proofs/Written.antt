-- A text that is written in pieces, step by step.
use Rattle.std.proofs.Common.{Result, Ok, Err, OnOk, OnErr, is_err, true, false, ◌≡◌, ℕ, ◌+◌, ◌-◌, ◌<◌, ◌≤◌, Option, None, Some, List, [], ◌++◌, length, take, drop, take-append-drop, refl, sym, ap, subst, ◌∙◌, append_assoc, append-nil, length-append, arith}
use Rattle.std.proofs.lemmas.List.{length-take-le, take-take, take_at, take-append-le}
use Rattle.std.proofs.KnownBytes.{Appends-nil, Appends-trans}
use Rattle.std.specs.Io.KnownBytes.{Appends}
use Rattle.sq_base.specs.Ends.{AppendsProperly, Rose}
use Rattle.text_digits.specs.Told.{Told, more}
use Rattle.text_digits.specs.Pieces.{Telling, told_first, IsWhole, HasFront, IsCut}

-- the filled part, when bytes were copied behind it
pub filled_more : (n len : ℕ) (items d b copied rest behind : List ℕ) → d ≡ items → copied ≡ b → n + length b ≤ len → n ≤ length items
    → take (n + length b) (take len ((take n d ++ (copied ++ rest)) ++ behind)) ≡ take n items ++ b
filled_more n len items d b copied rest behind e f inside le =
    let m = n + length b in
    let long : length (take n items ++ b) ≡ m = length-append (take n items) b ∙ ap (λ k. k + length b) (length-take-le n items le) in
    let joined : (take n items ++ (b ++ rest)) ++ behind ≡ (take n items ++ b) ++ (rest ++ behind) = simp append_assoc in
    take-take m len ((take n d ++ (copied ++ rest)) ++ behind) inside
    ∙ (λ k. take m ((take n (e k) ++ (f k ++ rest)) ++ behind)) ∙ ap (take m) joined ∙ take_at (take n items ++ b) (rest ++ behind) m long

-- the same of a list whose length is known as k
pub filled_by : (n k len : ℕ) (items d b copied rest behind : List ℕ) → length b ≡ k → d ≡ items → copied ≡ b → n + k ≤ len → n ≤ length items
    → take (n + k) (take len ((take n d ++ (copied ++ rest)) ++ behind)) ≡ take n items ++ b
filled_by n k len items d b copied rest behind long e f inside le =
    subst (λ j. take (n + j) (take len ((take n d ++ (copied ++ rest)) ++ behind)) ≡ take n items ++ b) long
    (filled_more n len items d b copied rest behind e f (omega (arith, long, inside)) le)

pub more_place : (t : Told) (bytes : List ℕ) → (more t bytes).place ≡ t.place
unfolding more
more_place t bytes = refl

-- bytes are kept behind those that are
pub kept : (t u : Telling) (is : Option (List ℕ)) (faults : ℕ) (old bytes new : List ℕ) → IsWhole t is faults old
    → u ≡ record { told = more t.told bytes; written = t.written } → new ≡ old ++ bytes → IsWhole u is faults new
unfolding more
kept t u is faults old bytes new w e n =
    subst (λ v. IsWhole v is faults new) (sym e)
    (w.0, ap (λ l. l ++ bytes) w.1 ∙ append_assoc t.written old bytes ∙ ap (λ l. t.written ++ l) (sym n), w.2)

-- what is kept is written
pub flushed : (t u : Telling) (was is : Option (List ℕ)) (before faults : ℕ) (old : List ℕ) → IsWhole t was before old → Appends was is old → faults ≡ before
    → u ≡ record { told = t.told; written = t.told.text } → IsWhole u is faults []
flushed t u was is before faults old w a f e =
    subst (λ v. IsWhole v is faults []) (sym e)
    (subst (λ l. Appends t.told.was is l) (sym w.1) (Appends-trans t.told.was was is t.written old w.0 a), sym (append-nil t.told.text), f ∙ w.2)

-- a front stays one where the text grows
front_more : (was is : Option (List ℕ)) (text bytes : List ℕ) → HasFront was is text → HasFront was is (text ++ bytes)
front_more None is text bytes h = omega (arith, h, length-append text bytes)
front_more (Some x) None text bytes h = absurd h
front_more (Some x) (Some y) text bytes h =
    (h.0 ∙ ap (λ l. x ++ l) (sym (take-append-le (length y - length x) text bytes (omega (arith, h.1)))), omega (arith, h.1, length-append text bytes))

pub cut_more : (t u : Told) (is : Option (List ℕ)) (faults : ℕ) (bytes : List ℕ) → IsCut t is faults → u ≡ more t bytes → IsCut u is faults
unfolding more
cut_more t u is faults bytes c e = subst (λ v. IsCut v is faults) (sym e) (front_more t.was is t.text bytes c.0, c.1)

-- some of what is kept was written, and not all of it
some_of : (was mid is : Option (List ℕ)) (written old text : List ℕ) → text ≡ written ++ old → Appends was mid written → AppendsProperly mid is old → HasFront was is text
some_of None mid is written old text e a p = omega (arith, p.1, ap length e ∙ length-append written old)
some_of (Some x) None is written old text e a p = absurd a
some_of (Some x) (Some y) None written old text e a p = absurd p.2
some_of (Some x) (Some y) (Some z) written old text e a p =
    let n = p.0 in
    let front = written ++ take n old in
    let whole : z ≡ x ++ front = p.2 ∙ ap (λ l. l ++ take n old) a ∙ append_assoc x written (take n old) in
    let few : n ≤ length old = omega (arith, p.1) in
    let size : length front ≡ length written + n = length-append written (take n old) ∙ ap (λ k. length written + k) (length-take-le n old few) in
    let long : length z ≡ length x + length front = ap length whole ∙ length-append x front in
    let all : length text ≡ length written + length old = ap length e ∙ length-append written old in
    let rest : text ≡ front ++ drop n old = e ∙ ap (λ l. written ++ l) (sym (take-append-drop n old)) ∙ sym (append_assoc written (take n old) (drop n old)) in
    let count : length z - length x ≡ length front = omega (arith, long) in
    (whole ∙ ap (λ l. x ++ l) (sym (ap (take (length z - length x)) rest ∙ take_at front (drop n old) (length z - length x) (sym count))), omega (arith, long, size, all, p.1))

pub cut_off : (t u : Telling) (was is : Option (List ℕ)) (before faults : ℕ) (old : List ℕ) → IsWhole t was before old → AppendsProperly was is old → Rose before faults
    → u ≡ record { told = t.told; written = t.told.text } → IsCut u.told is faults
cut_off t u was is before faults old w p r e =
    subst (λ v. IsCut v.told is faults) (sym e)
    (some_of t.told.was was is t.written old t.told.text w.1 w.0 p, subst (λ n. Rose n faults) w.2 r)

-- a front that isn't all
pub front_is : (was is : Option (List ℕ)) (text : List ℕ) → HasFront was is text → AppendsProperly was is text
front_is None is text h = (0, h, tt)
front_is (Some x) None text h = absurd h
front_is (Some x) (Some y) text h =
    let n = length y - length x in
    let long : length y ≡ length x + length (take n text) = ap length h.0 ∙ length-append x (take n text) in
    let few : n < length text = omega (arith, h.1, long) in
    (n, few, h.0)

pub on_ok : {A E : Type 0} (r : Result A E) (P : Type 0) → is_err r ≡ false → OnOk r P → P
on_ok (Ok x) P e h = h
on_ok (Err x) P e h = absurd (let no : ⊥ = cc in no)

pub on_err : {A E : Type 0} (r : Result A E) (P : Type 0) → is_err r ≡ true → OnErr r P → P
on_err (Ok x) P e h = absurd (let no : ⊥ = cc in no)
on_err (Err x) P e h = h

pub nothing : (t : Telling) (place : ℕ) (was : Option (List ℕ)) (faults : ℕ) → t ≡ told_first place was faults → IsWhole t was faults []
nothing t place was faults e = subst (λ s. IsWhole s was faults []) (sym e) (Appends-nil was, refl, refl)

pub cut_at_end : (old new : Told) (is : Option (List ℕ)) (faults : ℕ) → new ≡ old → IsCut new is faults → AppendsProperly old.was is old.text × Rose old.faults faults
cut_at_end old new is faults e c =
    let cut = subst (λ t. IsCut t is faults) e c in
    (front_is old.was is old.text cut.0, cut.1)
