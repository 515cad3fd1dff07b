-- Lines of texts: how many there are, and where two texts differ first.
use Rattle.std.proofs.Common.{◌≡◌, ◌≢◌, ℕ, ◌+◌, ◌-◌, ◌<◌, ◌≤◌, ◌==◌, ◌⊎◌, Bool, false, List, [], ◌∷◌, ◌++◌, if◌then◌else◌, codes, get_or, length, take, drop, inl, inr, refl, sym, ap, subst, ◌∙◌, arith}
use Rattle.std.proofs.lemmas.Bool.{cases_eq, ne_eqb}
use Rattle.std.proofs.lemmas.List.{append_assoc, append_cancel_left, append_cancel_right, get_or-drop, length-append, length-drop, same_from_push, take-append-drop}
use Rattle.trace_replay.specs.Lines.{EndsLine, HasFirstLine}
use Rattle.trace_replay.specs.Reasons.{DifferAt, ShareLine, lines_in}

heads : (a b : ℕ) (xs ys : List ℕ) → a ∷ xs ≡ b ∷ ys → (a ≡ b) × (xs ≡ ys)
heads a b xs ys e = (cc, cc)

-- a byte before the end of a line
line_byte : (b : ℕ) (bs : List ℕ) → lines_in (b ∷ bs) ≡ 0 → (b ≢ 10) × (lines_in bs ≡ 0)
line_byte b bs h =
    let Ends : ℕ → Type 0 = λ n. lines_in (n ∷ bs) ≡ 0 in
    (λ e. let one : 1 + lines_in bs ≡ 0 = subst Ends e h in omega arith, omega arith)

no_newline : (b : ℕ) (bs : List ℕ) → b ≢ 10 → lines_in (b ∷ bs) ≡ lines_in bs
no_newline b bs h =
    let counted : Bool → ℕ = λ t. (if t then 1 else 0) + lines_in bs in
    let same : counted (b == 10) ≡ counted false = ap counted (ne_eqb b 10 h) in
    omega (arith, same)

-- two texts that begin with a line each, without its end
pub same_line : (a b x y : List ℕ) → lines_in a ≡ 0 → lines_in b ≡ 0 → a ++ 10 ∷ x ≡ b ++ 10 ∷ y → (a ≡ b) × (x ≡ y)
same_line [] [] x y p q e = (refl, (heads 10 10 x y e).1)
same_line [] (d ∷ b) x y p q e = absurd ((line_byte d b q).0 (sym (heads 10 d x (b ++ 10 ∷ y) e).0))
same_line (c ∷ a) [] x y p q e = absurd ((line_byte c a p).0 (heads c 10 (a ++ 10 ∷ x) y e).0)
same_line (c ∷ a) (d ∷ b) x y p q e =
    let h : (c ≡ d) × (a ++ 10 ∷ x ≡ b ++ 10 ∷ y) = heads c d (a ++ 10 ∷ x) (b ++ 10 ∷ y) e in
    let t : (a ≡ b) × (x ≡ y) = same_line a b x y (line_byte c a p).1 (line_byte d b q).1 h.1 in
    (cc, t.1)

-- a text up to its last newline, and what stands behind it
pub record LastLine (text : List ℕ) : Type 0 where
  pub lines : List ℕ
  pub left : List ℕ
  pub joined : text ≡ lines ++ left
  pub ends : EndsLine lines
  pub none_left : lines_in left ≡ 0
  pub count : lines_in lines ≡ lines_in text

last_of_byte : (b : ℕ) (bs : List ℕ) (l : LastLine bs) → l.lines ≡ [] → (b ≡ 10) ⊎ (b ≡ 10 → ⊥) → LastLine (b ∷ bs)
last_of_byte b bs l none (inl e) = record {
  lines = b ∷ [];
  left = l.left;
  joined = ap (λ t. b ∷ t) (l.joined ∙ ap (λ t. t ++ l.left) none);
  ends = inr ([], ap (λ n. n ∷ []) e);
  none_left = l.none_left;
  count = omega (arith, ap lines_in none, l.count);
}
last_of_byte b bs l none (inr h) = record {
  lines = [];
  left = b ∷ l.left;
  joined = ap (λ t. b ∷ t) (l.joined ∙ ap (λ t. t ++ l.left) none);
  ends = inl refl;
  none_left = omega (arith, no_newline b l.left h, l.none_left);
  count = omega (arith, ap lines_in none, l.count, no_newline b bs h);
}

last_of : (b : ℕ) (bs : List ℕ) (l : LastLine bs) → EndsLine l.lines → LastLine (b ∷ bs)
last_of b bs l (inl e) = last_of_byte b bs l e (cases_eq b 10)
last_of b bs l (inr e) = record {
  lines = b ∷ l.lines;
  left = l.left;
  joined = ap (λ t. b ∷ t) l.joined;
  ends = inr (b ∷ e.0, ap (λ t. b ∷ t) e.1);
  none_left = l.none_left;
  count = omega (arith, l.count);
}

pub last_line : (text : List ℕ) → LastLine text
last_line [] = record { lines = []; left = []; joined = refl; ends = inl refl; none_left = refl; count = refl }
last_line (b ∷ bs) = let l = last_line bs in last_of b bs l l.ends

-- no byte begins both
abbrev pub ShareNone : List ℕ → List ℕ → Type 0
ShareNone f r = (b : ℕ) (fs rs : List ℕ) → f ≡ b ∷ fs → r ≡ b ∷ rs → ⊥

no_line : (left line f r fa ra : List ℕ) → lines_in left ≡ 0 → ShareNone f r → left ++ f ≡ line ++ 10 ∷ fa → left ++ r ≡ line ++ 10 ∷ ra → ⊥
no_line [] [] f r fa ra z n p q = n 10 fa ra p q
no_line [] (b ∷ line) f r fa ra z n p q = n b (line ++ 10 ∷ fa) (line ++ 10 ∷ ra) p q
no_line (c ∷ left) [] f r fa ra z n p q = (line_byte c left z).0 (heads c 10 (left ++ f) fa p).0
no_line (c ∷ left) (b ∷ line) f r fa ra z n p q =
    no_line left line f r fa ra (line_byte c left z).1 n (heads c b (left ++ f) (line ++ 10 ∷ fa) p).1 (heads c b (left ++ r) (line ++ 10 ∷ ra) q).1

-- two texts that are the same up to here, and go on with no byte in common
pub differ_behind : (n : ℕ) (found right u f r : List ℕ) → n ≡ lines_in u + 1 → found ≡ u ++ f → right ≡ u ++ r → ShareNone f r → f ≢ r → DifferAt n found right
differ_behind n found right u f r number p q none d =
    let s = last_line u in
    record {
      same = s.lines;
      found_left = s.left ++ f;
      right_left = s.left ++ r;
      found_is = p ∙ (ap (λ t. t ++ f) s.joined ∙ append_assoc s.lines s.left f);
      right_is = q ∙ (ap (λ t. t ++ r) s.joined ∙ append_assoc s.lines s.left r);
      lines = s.ends;
      number = omega (arith, number, s.count);
      differ = λ e. d (append_cancel_left s.left f r e);
      no_more = λ w. no_line s.left w.line f r w.found_after w.right_after s.none_left none w.found_is w.right_is;
    }

-- a text that doesn't begin with the first line of a report with marks
pub differ_first : (found middle : List ℕ) → ((rest : List ℕ) → found ≢ codes "report 2\n" ++ rest) → DifferAt 1 found (codes "report 2\n" ++ middle)
differ_first found middle not = record {
  same = [];
  found_left = found;
  right_left = codes "report 2\n" ++ middle;
  found_is = refl;
  right_is = refl;
  lines = inl refl;
  number = refl;
  differ = not middle;
  no_more = λ w. let line : codes "report 2" ≡ w.line = (same_line (codes "report 2") w.line middle w.right_after refl w.one_line w.right_is).0 in
      not w.found_after (w.found_is ∙ ap (λ t. t ++ 10 ∷ w.found_after) (sym line));
}

at_drop : (k : ℕ) (xs fs : List ℕ) (b : ℕ) → drop k xs ≡ b ∷ fs → (k < length xs) × (get_or xs k 0 ≡ b)
at_drop k xs fs b e =
    let size : length xs - k ≡ length (b ∷ fs) = sym (length-drop k xs) ∙ ap length e in
    let zero : k ≡ k + 0 = omega arith in
    (omega arith, ap (λ n. get_or xs n 0) zero ∙ (sym (get_or-drop k xs 0 0) ∙ ap (λ t. get_or t 0 0) e))

same_end : (f r : List ℕ) → ShareNone f r → f ≡ r → f ≡ []
same_end [] r n e = refl
same_end (b ∷ f) r n e = absurd (n b f f refl (sym e))

past : (k : ℕ) (xs : List ℕ) → drop k xs ≡ [] → k ≤ length xs → k ≡ length xs
past k xs e within =
    let size : length xs - k ≡ 0 = sym (length-drop k xs) ∙ ap length e in
    omega arith

-- two texts that begin so, and then have k bytes in common, the most that they have
pub differ_later : (found f middle : List ℕ) (k n : ℕ) → found ≡ codes "report 2\n" ++ f → n ≡ lines_in (take k middle) → take k f ≡ take k middle → k ≤ length f → k ≤ length middle
    → (k < length f → k < length middle → get_or f k 0 ≡ get_or middle k 0 → ⊥) → (k ≡ length f → k ≡ length middle → ⊥) → DifferAt (n + 2) found (codes "report 2\n" ++ middle)
differ_later found f middle k n p counted same in_f in_m longest not_all =
    let none : ShareNone (drop k f) (drop k middle) =
    λ b fs rs e d. longest (at_drop k f fs b e).0 (at_drop k middle rs b d).0 ((at_drop k f fs b e).1 ∙ sym (at_drop k middle rs b d).1) in
    differ_behind (n + 2) found (codes "report 2\n" ++ middle) (codes "report 2\n" ++ take k middle) (drop k f) (drop k middle) (omega (arith, counted))
    (p ∙ ap (λ t. codes "report 2\n" ++ t) (sym (take-append-drop k f) ∙ ap (λ t. t ++ drop k f) same))
    (ap (λ t. codes "report 2\n" ++ t) (sym (take-append-drop k middle))) none
    (λ e. not_all (past k f (same_end (drop k f) (drop k middle) none e) in_f) (past k middle (sym e ∙ same_end (drop k f) (drop k middle) none e) in_m))

-- a text ends with one of its bytes
record Ending (text : List ℕ) : Type 0 where
  front : List ℕ
  last : ℕ
  joined : text ≡ front ++ last ∷ []

ending : (b : ℕ) (bs : List ℕ) → Ending (b ∷ bs)
ending b [] = record { front = []; last = b; joined = refl }
ending b (c ∷ bs) = let e = ending c bs in record { front = b ∷ e.front; last = e.last; joined = ap (λ t. b ∷ t) e.joined }

-- what is left of lines behind lines ends with a newline
ends_left : (same : List ℕ) (b : ℕ) (left head : List ℕ) → head ≡ same ++ b ∷ left → EndsLine head → (front : List ℕ) × (b ∷ left ≡ front ++ 10 ∷ [])
ends_left same b left head e (inl none) =
    let size : 0 ≡ length same + length (b ∷ left) = ap length (sym none ∙ e) ∙ length-append same (b ∷ left) in
    absurd (omega arith)
ends_left same b left head e (inr h) =
    let d = ending b left in
    let both : (same ++ d.front) ++ d.last ∷ [] ≡ h.0 ++ 10 ∷ [] = append_assoc same d.front (d.last ∷ []) ∙ (ap (λ t. same ++ t) (sym d.joined) ∙ (sym e ∙ h.1)) in
    (d.front, d.joined ∙ ap (λ n. d.front ++ n ∷ []) (same_from_push (same ++ d.front) h.0 d.last 10 both).1)

-- the first line of lines and more is in them
first_within : (front line rest after : List ℕ) → (front ++ 10 ∷ []) ++ rest ≡ line ++ 10 ∷ after → lines_in line ≡ 0 → (within : List ℕ) × (front ++ 10 ∷ [] ≡ line ++ 10 ∷ within)
first_within [] [] rest after e z = ([], refl)
first_within [] (b ∷ line) rest after e z = absurd ((line_byte b line z).0 (sym (heads 10 b rest (line ++ 10 ∷ after) e).0))
first_within (c ∷ front) [] rest after e z = (front ++ 10 ∷ [], ap (λ n. n ∷ (front ++ 10 ∷ [])) (heads c 10 ((front ++ 10 ∷ []) ++ rest) after e).0)
first_within (c ∷ front) (b ∷ line) rest after e z =
    let h : (c ≡ b) × ((front ++ 10 ∷ []) ++ rest ≡ line ++ 10 ∷ after) = heads c b ((front ++ 10 ∷ []) ++ rest) (line ++ 10 ∷ after) e in
    let i = first_within front line rest after h.1 (line_byte b line z).1 in
    (i.0, ap (λ n. n ∷ (front ++ 10 ∷ [])) h.0 ∙ ap (λ t. b ∷ t) i.1)

-- a line of a text that begins with a word begins with it
line_begins : (word line after text : List ℕ) → lines_in word ≡ 0 → line ++ 10 ∷ after ≡ word ++ text → (more : List ℕ) × (line ≡ word ++ more)
line_begins [] line after text z e = (line, refl)
line_begins (w ∷ word) [] after text z e = absurd ((line_byte w word z).0 (sym (heads 10 w after (word ++ text) e).0))
line_begins (w ∷ word) (b ∷ line) after text z e =
    let h : (b ≡ w) × (line ++ 10 ∷ after ≡ word ++ text) = heads b w (line ++ 10 ∷ after) (word ++ text) e in
    let i = line_begins word line after text (line_byte w word z).1 h.1 in
    (i.0, ap (λ n. n ∷ line) h.0 ∙ ap (λ t. w ∷ t) i.1)

-- lines before the first that begins with a word don't go on with a line that begins so
not_sooner : (word text same : List ℕ) (b : ℕ) (left rest line after more : List ℕ) → lines_in word ≡ 0 → EndsLine same → HasFirstLine word (same ++ (b ∷ left ++ rest)) (same ++ b ∷ left)
    → b ∷ left ++ rest ≡ line ++ 10 ∷ after → rest ≡ line ++ 10 ∷ more → rest ≡ word ++ text → ⊥
not_sooner word text same b left rest line after more z ends first shared begins says =
    let w = line_begins word line more text z (sym begins ∙ says) in
    let sooner : length (same ++ b ∷ left) ≤ length same = first.first same record {
      after = w.0 ++ 10 ∷ after;
      joined = ap (λ t. same ++ t) (shared ∙ (ap (λ t. t ++ 10 ∷ after) w.1 ∙ append_assoc word w.0 (10 ∷ after)));
      begins = ends;
    } in
    omega (arith, sooner, length-append same (b ∷ left))

-- what is left of two fronts, both with the same text behind them that begins with a line of this word, shares a line only where the fronts do
no_shared : (word text same fl rl rest : List ℕ) → lines_in word ≡ 0 → EndsLine same → EndsLine (same ++ fl) → EndsLine (same ++ rl) → HasFirstLine word (same ++ (fl ++ rest)) (same ++ fl)
    → HasFirstLine word (same ++ (rl ++ rest)) (same ++ rl) → rest ≡ word ++ text → fl ≢ rl → (ShareLine fl rl → ⊥) → ShareLine (fl ++ rest) (rl ++ rest) → ⊥
no_shared word text same [] [] rest z ends fe re ff rf says d apart w = d refl
no_shared word text same [] (b ∷ rl) rest z ends fe re ff rf says d apart w =
    not_sooner word text same b rl rest w.line w.right_after w.found_after z ends rf w.right_is w.found_is says
no_shared word text same (b ∷ fl) [] rest z ends fe re ff rf says d apart w =
    not_sooner word text same b fl rest w.line w.found_after w.right_after z ends ff w.found_is w.right_is says
no_shared word text same (b ∷ fl) (c ∷ rl) rest z ends fe re ff rf says d apart w =
    let f = ends_left same b fl (same ++ b ∷ fl) refl fe in
    let r = ends_left same c rl (same ++ c ∷ rl) refl re in
    let in_f = first_within f.0 w.line rest w.found_after (ap (λ t. t ++ rest) (sym f.1) ∙ w.found_is) w.one_line in
    let in_r = first_within r.0 w.line rest w.right_after (ap (λ t. t ++ rest) (sym r.1) ∙ w.right_is) w.one_line in
    apart record { line = w.line; found_after = in_f.0; right_after = in_r.0; found_is = f.1 ∙ in_f.1; right_is = r.1 ∙ in_r.1; one_line = w.one_line }

-- two texts differ where their lines before the first with this word do, where they are the same from there on
pub whole_differ : (n : ℕ) (word text head right rest : List ℕ) → lines_in word ≡ 0 → HasFirstLine word (head ++ rest) head → HasFirstLine word (right ++ rest) right → rest ≡ word ++ text → DifferAt n head right
    → DifferAt n (head ++ rest) (right ++ rest)
whole_differ n word text head right rest z in_head in_right says d =
    let found : head ++ rest ≡ d.same ++ (d.found_left ++ rest) = ap (λ t. t ++ rest) d.found_is ∙ append_assoc d.same d.found_left rest in
    let other : right ++ rest ≡ d.same ++ (d.right_left ++ rest) = ap (λ t. t ++ rest) d.right_is ∙ append_assoc d.same d.right_left rest in
    let First : List ℕ → List ℕ → Type 0 = HasFirstLine word in
    record {
      same = d.same;
      found_left = d.found_left ++ rest;
      right_left = d.right_left ++ rest;
      found_is = found;
      right_is = other;
      lines = d.lines;
      number = d.number;
      differ = λ e. d.differ (append_cancel_right d.found_left d.right_left rest e);
      no_more = no_shared word text d.same d.found_left d.right_left rest z d.lines (subst EndsLine d.found_is in_head.there.begins) (subst EndsLine d.right_is in_right.there.begins)
          (subst (First (d.same ++ (d.found_left ++ rest))) d.found_is (subst (λ t. First t head) found in_head))
          (subst (First (d.same ++ (d.right_left ++ rest))) d.right_is (subst (λ t. First t right) other in_right)) says d.differ d.no_more;
    }
