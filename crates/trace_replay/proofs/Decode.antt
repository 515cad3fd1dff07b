-- Fields of lines read back: numbers, entries, acts, marks and calls.
use Rattle.std.proofs.Common.{◌≡◌, ◌≢◌, ℕ, zero, suc, ◌+◌, ◌/◌, ◌%◌, ◌^◌, ◌<◌, ◌==◌, ◌⊎◌, inl, inr, Bool, true, false, if◌then◌else◌, List, [], ◌∷◌, ◌++◌, map, drop, get_or, refl, ap, sym, ◌∙◌, arith, eq-eqb}
use Rattle.std.specs.Prelude.{Option, codes, nat_lt}
use Rattle.std.specs.Fmt.{decimal, digit_glyph, digits, digits_onto}
use Rattle.std.specs.Option.{unwrap_or}
use Rattle.std.proofs.lemmas.Bool.{ne_eqb}
use Rattle.std.proofs.lemmas.Bool.Decides.{nat_tests}
use Rattle.std.proofs.lemmas.Nat.{mod_below}
use Rattle.perimeter_core.specs.declared.entries.Entry.{Entry}
use Rattle.perimeter_core.specs.declared.entries.Entry.TheVariants.{Ask, Feed}
use Rattle.perimeter_core.specs.declared.marks.Mark.{Mark}
use Rattle.perimeter_core.specs.declared.marks.Mark.TheVariants as On
use Rattle.perimeter_core.specs.declared.marks.SynchAct.{SynchAct}
use Rattle.perimeter_core.specs.declared.marks.SynchAct.TheVariants as Done
use Rattle.tcb_machine.specs.declared.kinds.Call.{Call}
use Rattle.tcb_machine.specs.declared.kinds.Call.TheVariants as Asks
use Rattle.histories.specs.declared.mode.Mode.{Mode}
use Rattle.histories.specs.declared.mode.Mode.TheVariants as Mode'
use Rattle.histories.specs.ModeWords.{mode_of, mode_word}
use Rattle.histories.proofs.ModeWords.{word_names}
use Rattle.ring_quotas.specs.declared.setup.Setup.{Setup}
use Rattle.report_lines.specs.TraceText.{act_fields, asked_text, entered_field, mark_fields}
use Rattle.squeue_replay.specs.Marks.{AreFeeds, IsPrinted, IsPrintedAct, IsSmall}
use Rattle.trace_lines.specs.Printed.{IsPrintedSetup}
use Rattle.trace_replay.proofs.Words.{all_of, first_byte, in_word, is_word, number_is, number_of}

-- digits are of a kind
onto_of : (P : ℕ → Bool) → ((d : ℕ) → d < 10 → P (48 + d) ≡ true) → (k n : ℕ) (acc : List ℕ) → all_of P acc ≡ true → all_of P (digits_onto k 10 false n acc) ≡ true
onto_of P digit zero n acc h = h
onto_of P digit (suc k) n acc h =
    by (n / 10 == 0) here (onto_of P digit k (n / 10) (digit_glyph false (n % 10) ∷ acc) here)
  where
    glyph : digit_glyph false (n % 10) ≡ 48 + n % 10
    glyph = let t : nat_lt (n % 10) 10 ≡ true = (let lt = mod_below n 10 (omega arith) in grind (arith, nat_tests, lt)) in ap (λ (b : Bool). if b then 48 + n % 10 else 87 + n % 10) t

    here : all_of P (digit_glyph false (n % 10) ∷ acc) ≡ true
    here = ap (λ (b : Bool). if b then all_of P acc else false) (ap P glyph ∙ digit (n % 10) (mod_below n 10 (omega arith))) ∙ h

    by : (t : Bool) → all_of P (digit_glyph false (n % 10) ∷ acc) ≡ true → all_of P (digits_onto k 10 false (n / 10) (digit_glyph false (n % 10) ∷ acc)) ≡ true
        → all_of P (if t then digit_glyph false (n % 10) ∷ acc else digits_onto k 10 false (n / 10) (digit_glyph false (n % 10) ∷ acc)) ≡ true
    by true a b = a
    by false a b = b

pub digits_are : (P : ℕ → Bool) → ((d : ℕ) → d < 10 → P (48 + d) ≡ true) → (n : ℕ) → all_of P (decimal n) ≡ true
unfolding digits
digits_are P digit n = onto_of P digit 64 n [] refl

-- not this byte
abbrev pub but : ℕ → ℕ → Bool
but s b = if b == s then false else true

digit_but : (s : ℕ) → ((d : ℕ) → d < 10 → 48 + d ≢ s) → (n : ℕ) → all_of (but s) (decimal n) ≡ true
digit_but s other n = digits_are (but s) (λ d lt. ap (λ (t : Bool). if t then false else true) (ne_eqb (48 + d) s (other d lt))) n

no_dot : (n : ℕ) → all_of (but 46) (decimal n) ≡ true
no_dot n = digit_but 46 (λ d lt e. (let no : ⊥ = omega (arith, e) in no)) n

no_colon : (n : ℕ) → all_of (but 58) (decimal n) ≡ true
no_colon n = digit_but 58 (λ d lt e. (let no : ⊥ = omega (arith, lt, e) in no)) n

no_a : (n : ℕ) → all_of (but 97) (decimal n) ≡ true
no_a n = digit_but 97 (λ d lt e. (let no : ⊥ = omega (arith, lt, e) in no)) n

pub word_decimal : (n : ℕ) → is_word (decimal n) ≡ true
word_decimal n =
    digits_are in_word
    (λ d lt. let a = ne_eqb (48 + d) 32 (λ e. (let no : ⊥ = omega (arith, e) in no)) in let b = ne_eqb (48 + d) 10 (λ e. (let no : ⊥ = omega (arith, e) in no)) in
    λ i. if a i then false else (if b i then false else true)) n

-- up to the first such byte, and behind it
abbrev pub front_of : ℕ → List ℕ → List ℕ
front_of s [] = []
front_of s (x ∷ xs) = if x == s then [] else x ∷ front_of s xs

abbrev pub back_of : ℕ → List ℕ → List ℕ
back_of s [] = []
back_of s (x ∷ xs) = if x == s then xs else back_of s xs

split_test : (a : Bool) (b : Bool) → (if (if a then false else true) then b else false) ≡ true → (a ≡ false) × (b ≡ true)
split_test true b h = absurd (let no : ⊥ = cc h in no)
split_test false b h = (refl, h)

front_is : (s : ℕ) (xs ys : List ℕ) → all_of (but s) xs ≡ true → front_of s (xs ++ s ∷ ys) ≡ xs
front_is s [] ys h = ap (λ (t : Bool). if t then [] else s ∷ front_of s ys) (eq-eqb s s refl)
front_is s (x ∷ xs) ys h =
    let t = split_test (x == s) (all_of (but s) xs) h in
    ap (λ (b : Bool). if b then [] else x ∷ front_of s (xs ++ s ∷ ys)) t.0 ∙ ap (λ (l : List ℕ). x ∷ l) (front_is s xs ys t.1)

back_is : (s : ℕ) (xs ys : List ℕ) → all_of (but s) xs ≡ true → back_of s (xs ++ s ∷ ys) ≡ ys
back_is s [] ys h = ap (λ (t : Bool). if t then ys else back_of s ys) (eq-eqb s s refl)
back_is s (x ∷ xs) ys h =
    let t = split_test (x == s) (all_of (but s) xs) h in
    ap (λ (b : Bool). if b then xs ++ s ∷ ys else back_of s (xs ++ s ∷ ys)) t.0 ∙ back_is s xs ys t.1

first_but : (s t : ℕ) (xs ys : List ℕ) → (t == s) ≡ false → all_of (but s) xs ≡ true → (first_byte (xs ++ t ∷ ys) == s) ≡ false
first_but s t [] ys other h = other
first_but s t (x ∷ xs) ys other h = (split_test (x == s) (all_of (but s) xs) h).0

abbrev pub same_word : List ℕ → List ℕ → Bool
same_word [] [] = true
same_word [] (y ∷ ys) = false
same_word (x ∷ xs) [] = false
same_word (x ∷ xs) (y ∷ ys) = if x == y then same_word xs ys else false

small_fits : (n : ℕ) → IsSmall n → n < 2 ^ 64
small_fits n h = omega (arith, h)

small_back : (n : ℕ) → IsSmall n → number_of (decimal n) ≡ n
small_back n h = number_is n (small_fits n h)

-- an entry: an Ask is of the pass that makes the mark
abbrev entry_from : ℕ → List ℕ → Entry
entry_from p w = if first_byte w == 97 then Ask p else Feed (number_of (front_of 46 w)) (number_of (back_of 46 w))

entry_back : (p c n : ℕ) → IsSmall c → IsSmall n → entry_from p (entered_field (Feed c n)) ≡ Feed c n
entry_back p c n a b =
    let w : List ℕ = decimal c ++ 46 ∷ decimal n in
    ap (λ (t : Bool). if t then Ask p else Feed (number_of (front_of 46 w)) (number_of (back_of 46 w))) (first_but 97 46 (decimal c) (decimal n) refl (no_a c))
    ∙ (λ i. Feed (number_of (front_is 46 (decimal c) (decimal n) (no_dot c) i)) (number_of (back_is 46 (decimal c) (decimal n) (no_dot c) i)))
    ∙ (λ i. Feed (small_back c a i) (small_back n b i))

entries_back : (p : ℕ) (es : List Entry) → AreFeeds es → map (entry_from p) (map entered_field es) ≡ es
entries_back p [] h = refl
entries_back p (Feed c n ∷ es) h = λ i. entry_back p c n h.0 h.1 i ∷ entries_back p es h.2 i
entries_back p (Ask q ∷ es) h = absurd h

one_back : (p : ℕ) (e : Entry) → AreFeeds (e ∷ []) → entry_from p (entered_field e) ≡ e
one_back p (Feed c n) h = entry_back p c n h.0 h.1
one_back p (Ask q) h = absurd h

abbrev number_at : ℕ → List (List ℕ) → ℕ
number_at k ws = number_of (get_or ws k [])

abbrev act_from : List (List ℕ) → SynchAct
act_from ws =
    let w = get_or ws 0 [] in
    if same_word w (codes "call") then Done.Call (number_at 1 ws) (number_at 2 ws) (number_at 3 ws)
    else if same_word w (codes "away") then Done.Away
    else if same_word w (codes "out") then Done.Out (number_at 1 ws)
    else if same_word w (codes "in") then Done.In (number_at 1 ws)
    else Done.None

act_back : (a : SynchAct) → IsPrintedAct a → act_from (act_fields a) ≡ a
act_back (Done.Call c j k) h = λ i. Done.Call (small_back c h.0 i) (small_back j h.1 i) (small_back k h.2 i)
act_back Done.Away h = refl
act_back (Done.Out c) h = λ i. Done.Out (small_back c h i)
act_back (Done.In c) h = λ i. Done.In (small_back c h i)
act_back Done.None h = refl

abbrev pub mark_from : List (List ℕ) → Mark
mark_from ws =
    let w = get_or ws 0 [] in
    let p = number_at 1 ws in
    if same_word w (codes "fill") then On.Fill p (map (entry_from p) (drop 2 ws))
    else if same_word w (codes "fast") then On.Fast p (entry_from p (get_or ws 2 []))
    else if same_word w (codes "claim") then On.Claim p (map (entry_from p) (drop 2 ws))
    else if same_word w (codes "take") then On.Take p
    else if same_word w (codes "leave") then On.Leave p (number_at 2 ws) (act_from (drop 3 ws))
    else if same_word w (codes "ask") then On.Ask p
    else if same_word w (codes "grant") then On.Grant p (number_at 2 ws) (number_at 3 ws)
    else if same_word w (codes "accept") then On.Accept p
    else if same_word w (codes "work") then On.Work p
    else On.Close p

claim_back : (p : ℕ) (es : List Entry) → ((es ≢ []) × AreFeeds es) ⊎ (es ≡ Ask p ∷ []) → map (entry_from p) (map entered_field es) ≡ es
claim_back p es (inl h) = entries_back p es h.1
claim_back p es (inr own) = ap (λ (l : List Entry). map (entry_from p) (map entered_field l)) own ∙ sym own

pub mark_back : (m : Mark) → IsPrinted m → mark_from (mark_fields m) ≡ m
mark_back (On.Fill p es) h = (λ i. On.Fill (small_back p h.0 i) (map (entry_from (small_back p h.0 i)) (map entered_field es))) ∙ ap (On.Fill p) (entries_back p es h.2)
mark_back (On.Fast p e) h = (λ i. On.Fast (small_back p h.0 i) (entry_from (small_back p h.0 i) (entered_field e))) ∙ ap (On.Fast p) (one_back p e h.1)
mark_back (On.Claim p es) h = (λ i. On.Claim (small_back p h.0 i) (map (entry_from (small_back p h.0 i)) (map entered_field es))) ∙ ap (On.Claim p) (claim_back p es h.1)
mark_back (On.Take p) h = ap On.Take (small_back p h)
mark_back (On.Leave p rest act) h = λ i. On.Leave (small_back p h.0 i) (number_is rest h.1 i) (act_back act h.2 i)
mark_back (On.Ask p) h = ap On.Ask (small_back p h)
mark_back (On.Grant p j rest) h = λ i. On.Grant (small_back p h.0 i) (small_back j h.1 i) (number_is rest h.2 i)
mark_back (On.Accept j) h = ap On.Accept (small_back j h)
mark_back (On.Work p) h = ap On.Work (small_back p h)
mark_back (On.Close p) h = ap On.Close (small_back p h)

-- a call, by its word: thread, connection, and what is asked
abbrev pub call_word : ℕ → ℕ × Call → List ℕ
call_word j (c, call) = decimal j ++ 58 ∷ (decimal c ++ 58 ∷ asked_text call)

abbrev pub thread_from : List ℕ → ℕ
thread_from w = number_of (front_of 58 w)

abbrev asked_from : List ℕ → Call
asked_from w = if same_word w (codes "status") then Asks.Status else if same_word w (codes "close") then Asks.Close else Asks.Buffer (number_of (drop 7 w))

abbrev pub call_from : List ℕ → ℕ × Call
call_from w = let r = back_of 58 w in (number_of (front_of 58 r), asked_from (back_of 58 r))

abbrev FitsCall : Call → Type 0
FitsCall (Asks.Buffer n) = n < 2 ^ 64
FitsCall _ = Unit {0}

asked_back : (a : Call) → FitsCall a → asked_from (asked_text a) ≡ a
asked_back Asks.Status h = refl
asked_back (Asks.Buffer n) h = ap Asks.Buffer (number_is n h)
asked_back Asks.Close h = refl

pub thread_back : (j : ℕ) (x : ℕ × Call) → j < 2 ^ 64 → thread_from (call_word j x) ≡ j
thread_back j (c, a) h = ap number_of (front_is 58 (decimal j) (decimal c ++ 58 ∷ asked_text a) (no_colon j)) ∙ number_is j h

pub call_back : (j c : ℕ) (a : Call) → c < 2 ^ 64 → FitsCall a → call_from (call_word j (c, a)) ≡ (c, a)
call_back j c a small fits =
    let r : List ℕ = decimal c ++ 58 ∷ asked_text a in
    ap (λ (r : List ℕ). (number_of (front_of 58 r), asked_from (back_of 58 r))) (back_is 58 (decimal j) r (no_colon j))
    ∙ ((λ i. (number_of (front_is 58 (decimal c) (asked_text a) (no_colon c) i), asked_from (back_is 58 (decimal c) (asked_text a) (no_colon c) i)))
    ∙ (λ i. (number_is c small i, asked_back a fits i)))

-- the setup
abbrev mode_from : List ℕ → Mode
mode_from w = unwrap_or (mode_of w) Mode'.Fill

mode_back : (m : Mode) → mode_from (mode_word m) ≡ m
mode_back m = ap (λ (o : Option Mode). unwrap_or o Mode'.Fill) (word_names m)

abbrev pub setup_words : Setup → Bool → List (List ℕ)
setup_words s verify =
    codes "squeues" ∷ decimal s.squeues ∷ codes "rings" ∷ decimal s.rings ∷ codes "mode" ∷ mode_word s.mode
    ∷ codes "budget" ∷ decimal s.budget ∷ codes "spread" ∷ decimal s.spread ∷ codes "verify" ∷ decimal (if verify then 1 else 0) ∷ []

abbrev pub setup_from : List (List ℕ) → Setup
setup_from ws = record { squeues = number_at 1 ws; rings = number_at 3 ws; mode = mode_from (get_or ws 5 []); budget = number_at 7 ws; spread = number_at 9 ws; trace = true }

abbrev pub verify_from : List (List ℕ) → Bool
verify_from ws = number_at 11 ws == 1

pub setup_back : (s : Setup) (verify : Bool) → IsPrintedSetup s → setup_from (setup_words s verify) ≡ s
setup_back s verify h =
    let a : s.squeues < 2 ^ 64 = (let x = h.range.squeues.1 in omega (arith, x)) in
    let b : s.rings < 2 ^ 64 = (let x = h.range.rings.1 in omega (arith, x)) in
    let c : s.budget < 2 ^ 64 = (let x = h.budget in omega (arith, x)) in
    let d : s.spread < 2 ^ 64 = (let x = h.range.spread in omega (arith, x)) in
    λ i. record { squeues = number_is s.squeues a i; rings = number_is s.rings b i; mode = mode_back s.mode i; budget = number_is s.budget c i; spread = number_is s.spread d i; trace = sym h.traced i }

pub verify_back : (s : Setup) (verify : Bool) → verify_from (setup_words s verify) ≡ verify
verify_back s true = ap (λ (n : ℕ). n == 1) (number_is 1 (omega arith))
verify_back s false = ap (λ (n : ℕ). n == 1) (number_is 0 (omega arith))
