-- The lines that a field or a part has in full, and which lines a file may have.
use Rattle.std.proofs.Common.{◌≡◌, ℕ, ◌+◌, ◌<◌, ◌==◌, ◌&&◌, ◌||◌, not, inl, inr, arith, length, Bool, cond, true, false, Option, Some, None, Result, Ok, Err, OnOk, List, [], ◌∷◌, ◌++◌, map, take, refl, ap, sym, ◌∙◌}
use Rattle.std.specs.Prelude.{is_some, unwrap_or}
use Rattle.std.specs.Borrow.{Bor}
use Rattle.std.specs.List.{list_any, position_or_len}
use Rattle.std.specs.Option.{option_map}
use Rattle.std.specs.Str.{bytes_eq}
use Rattle.std.proofs.lemmas.Bool.{cases_Bool, cond-false, cond-true, ne_eqb, or_left, or_right}
use Rattle.std.proofs.lemmas.List.{map-append, take-map}
use Rattle.case_rows.specs.Files.{Named, Numbered, begins, fit_more, fit_rows, fit_section, fit_to_come, groups, in_full, is_new, is_part, is_row, lines_of, more_in_full, named_of, stands, starts}
use Rattle.case_rows.specs.Rows.{Line, lines_named}
use Rattle.case_rows.specs.Words.{behind_word}
use Rattle.case_rows.specs.declared.reading.Broken.{Broken}
use Rattle.case_rows.specs.declared.reading.Reader.{Reader}
use Rattle.case_rows.specs.declared.rows.Field.{Field}

-- the lines of a part, where they are borrowed
pub lines_borrowed : (fs : List Field) (name : List ℕ) → lines_of (map named_of fs) name ≡ option_map (map (λ (l : Line). l.now)) (lines_named fs name)
lines_borrowed [] name = refl
lines_borrowed (f ∷ fs) name = go (bytes_eq f.name.now name) (lines_borrowed fs name)
  where
    go : (b : Bool) → lines_of (map named_of fs) name ≡ option_map (map (λ (l : Line). l.now)) (lines_named fs name)
        → cond b (Some (map (λ (l : Line). l.now) f.lines.items)) (lines_of (map named_of fs) name) ≡ option_map (map (λ (l : Line). l.now)) (cond b (Some f.lines.items) (lines_named fs name))
    go true rest = refl
    go false rest = rest

-- `@` stands before a name, or doesn't
pub full_part : (fs : List Field) (line name : List ℕ) (ls : List Line) → line ≡ 64 ∷ name → Some ls ≡ lines_named fs name → in_full (map named_of fs) line ≡ map (λ (l : Line). l.now) ls
full_part fs line name ls is found =
    ap (in_full (map named_of fs)) is ∙ ap (λ o. unwrap_or o []) (lines_borrowed fs name ∙ ap (option_map (map (λ (l : Line). l.now))) (sym found))

pub full_line : (parts : List Named) (line : List ℕ) → ((rest : List ℕ) → line ≡ 64 ∷ rest → ⊥) → in_full parts line ≡ line ∷ []
full_line parts [] none = refl
full_line parts (b ∷ bs) none = cond-false (b == 64) (unwrap_or (lines_of parts bs) []) ((b ∷ bs) ∷ []) (ne_eqb b 64 (λ e. none bs (ap (λ x. x ∷ bs) e)))

pub part_stands : (fs : List Field) (line name : List ℕ) (ls : List Line) → line ≡ 64 ∷ name → Some ls ≡ lines_named fs name → stands (map named_of fs) line ≡ true
part_stands fs line name ls is found =
    let some : Option (List (List ℕ)) → Bool = λ o. is_some o in
    ap (stands (map named_of fs)) is ∙ ap some (lines_borrowed fs name ∙ ap (option_map (map (λ (l : Line). l.now))) (sym found))

pub line_stands : (parts : List Named) (line : List ℕ) → ((rest : List ℕ) → line ≡ 64 ∷ rest → ⊥) → stands parts line ≡ true
line_stands parts [] none = refl
line_stands parts (b ∷ bs) none = ap (λ (t : Bool). not t || is_some (lines_of parts bs)) (ne_eqb b 64 (λ e. none bs (ap (λ x. x ∷ bs) e)))

-- lines that are added to borrowed ones
pub lines_added : (had more now : List Line) (full : List (List ℕ)) → now ≡ had ++ more → full ≡ map (λ (l : Line). l.now) more → map (λ (l : Line). l.now) now ≡ map (λ (l : Line). l.now) had ++ full
lines_added had more now full is same = ap (map (λ (l : Line). l.now)) is ∙ (map-append (λ (l : Line). l.now) had more ∙ ap (λ ls. map (λ (l : Line). l.now) had ++ ls) (sym same))

some_of : {X Y : Type 0} (f : X → Y) (o : Option X) → is_some o ≡ is_some (option_map f o)
some_of f None = refl
some_of f (Some x) = refl

-- a name is among those of fields
pub name_found : (fs : List Field) (name : List ℕ) (b : Bool) (o : Option (Bor (List Line))) → b ≡ is_some o → option_map (λ ls. ls.now) o ≡ lines_named fs name → b ≡ is_some (lines_of (map named_of fs) name)
name_found fs name b o is found =
    let some : Option (List Line) → Bool = λ p. is_some p in
    is ∙ (some_of (λ (ls : Bor (List Line)). ls.now) o ∙ (ap some found ∙ (some_of (map (λ (l : Line). l.now)) (lines_named fs name) ∙ ap (λ (p : Option (List (List ℕ))). is_some p) (sym (lines_borrowed fs name)))))

-- where nothing stands before the first that passes
pub starts_seen : {X Y : Type 0} (p : Y → Bool) (v : X → Y) (xs : List X) (n : ℕ) → n ≡ position_or_len p (map v xs) → (0 < length xs → n ≡ 0) → starts p (map v xs) ≡ true
starts_seen p v [] n at none = refl
starts_seen p v (x ∷ xs) n at none = elim (cases_Bool (p (v x))) [
  | inl is ↦ is
  | inr is ↦
      let nought : n ≡ 0 = none (omega arith) in
      let more : n ≡ 1 + position_or_len p (map v xs) = at ∙ ap (λ (b : Bool). cond (not b) (1 + position_or_len p (map v xs)) 0) is in
      absurd (omega (arith, nought, more))
]

-- what a front of a slice shows
pub front_seen : {X Y : Type 0} (p : Y → Bool) (v : X → Y) (front more : List X) (n : ℕ) → n ≡ position_or_len p (map v more) → front ≡ take n more → map v front ≡ take (position_or_len p (map v more)) (map v more)
front_seen p v front more n at is = ap (map v) is ∙ (sym (take-map v n more) ∙ ap (λ (k : ℕ). take k (map v more)) at)

pub any_map : {X Y : Type 0} (p : Y → Bool) (f : X → Y) (xs : List X) → list_any p (map f xs) ≡ list_any (λ x. p (f x)) xs
any_map p f [] = refl
any_map p f (x ∷ xs) = ap (λ (b : Bool). p (f x) || b) (any_map p f xs)

both_first : (a b c : Bool) → (a && b) ≡ true → (a && (b && c)) ≡ c
both_first true true c h = refl
both_first true false c h = cc h
both_first false b c h = cc h

abbrev names : Reader → List (List ℕ)
names r = map (λ row. row.name.now) r.rows.items

-- a row that was taken was fit to be, and so was a part
pub row_fits : (r : Result (Unit {0}) Broken) (old new : Reader) (l : Numbered) (ls section : List Numbered) (name : List ℕ) → is_row l.1 ≡ true → name ≡ behind_word l.1
    → section ≡ take (position_or_len begins ls) ls → OnOk r (new.parts ≡ old.parts) → OnOk r (names new ≡ names old ++ name ∷ [])
    → OnOk r ((is_new name (list_any (λ n. bytes_eq n name) (names old)) && fit_section (map named_of old.parts.items) section) ≡ true) → OnOk r (fit_to_come new ls ≡ fit_to_come old (l ∷ ls))
row_fits (Ok x) old new l ls section name is called front same more fits =
    let parts = map named_of old.parts.items in
    let gs = groups begins ls in
    let taken = take (position_or_len begins ls) ls in
    let is_fit : List ℕ → List Numbered → Bool = λ n s. is_new n (list_any (λ m. bytes_eq m n) (names old)) && (fit_section parts s && fit_rows parts (names old ++ n ∷ []) gs) in
    let other : Bool = is_new (behind_word l.1) (is_some (lines_of parts (behind_word l.1))) && (fit_more parts taken && fit_rows (parts ++ (behind_word l.1, more_in_full parts taken) ∷ []) (names old) gs) in
    let whole : fit_to_come old (l ∷ ls) ≡ is_fit (behind_word l.1) taken =
    ap (fit_rows parts (names old)) (cond-true (begins l) ((l, taken) ∷ gs) gs (or_left (is_row l.1) (is_part l.1) is)) ∙ cond-true (is_row l.1) (is_fit (behind_word l.1) taken) other is in
    let now : fit_to_come new ls ≡ fit_rows parts (names old ++ name ∷ []) gs =
    ap (λ ps. fit_rows (map named_of ps.items) (names new) gs) same ∙ ap (λ (ns : List (List ℕ)). fit_rows parts ns gs) more in
    now ∙ (sym (both_first (is_new name (list_any (λ m. bytes_eq m name) (names old))) (fit_section parts section) (fit_rows parts (names old ++ name ∷ []) gs) fits)
    ∙ (ap (λ (n : List ℕ). is_fit n section) called ∙ (ap (λ (s : List Numbered). is_fit (behind_word l.1) s) front ∙ sym whole)))
row_fits (Err e) old new l ls section name is called front same more fits = tt

pub part_fits : (r : Result (Unit {0}) Broken) (old new : Reader) (l : Numbered) (ls section : List Numbered) (name : List ℕ) → is_row l.1 ≡ false → is_part l.1 ≡ true → name ≡ behind_word l.1
    → section ≡ take (position_or_len begins ls) ls → OnOk r (map named_of new.parts.items ≡ map named_of old.parts.items ++ (name, more_in_full (map named_of old.parts.items) section) ∷ []) → OnOk r (new.rows ≡ old.rows)
    → OnOk r ((is_new name (is_some (lines_of (map named_of old.parts.items) name)) && fit_more (map named_of old.parts.items) section) ≡ true) → OnOk r (fit_to_come new ls ≡ fit_to_come old (l ∷ ls))
part_fits (Ok x) old new l ls section name no_row is called front more same fits =
    let parts = map named_of old.parts.items in
    let gs = groups begins ls in
    let taken = take (position_or_len begins ls) ls in
    let row : Bool = is_new (behind_word l.1) (list_any (λ m. bytes_eq m (behind_word l.1)) (names old)) && (fit_section parts taken && fit_rows parts (names old ++ behind_word l.1 ∷ []) gs) in
    let is_fit : List ℕ → List Numbered → Bool = λ n s. is_new n (is_some (lines_of parts n)) && (fit_more parts s && fit_rows (parts ++ (n, more_in_full parts s) ∷ []) (names old) gs) in
    let whole : fit_to_come old (l ∷ ls) ≡ is_fit (behind_word l.1) taken =
    ap (fit_rows parts (names old)) (cond-true (begins l) ((l, taken) ∷ gs) gs (or_right (is_row l.1) (is_part l.1) is)) ∙ cond-false (is_row l.1) row (is_fit (behind_word l.1) taken) no_row in
    let now : fit_to_come new ls ≡ fit_rows (parts ++ (name, more_in_full parts section) ∷ []) (names old) gs =
    ap (λ rs. fit_rows (map named_of new.parts.items) (map (λ row. row.name.now) rs.items) gs) same ∙ ap (λ (ps : List Named). fit_rows ps (names old) gs) more in
    now ∙ (sym (both_first (is_new name (is_some (lines_of parts name))) (fit_more parts section) (fit_rows (parts ++ (name, more_in_full parts section) ∷ []) (names old) gs) fits)
    ∙ (ap (λ (n : List ℕ). is_fit n section) called ∙ (ap (λ (s : List Numbered). is_fit (behind_word l.1) s) front ∙ sym whole)))
part_fits (Err e) old new l ls section name no_row is called front more same fits = tt
