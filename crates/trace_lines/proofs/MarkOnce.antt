-- The line of a mark that a line can say is no other such mark's, whatever stands behind it.
use Rattle.std.proofs.Common.{◌≡◌, ◌≢◌, ℕ, ◌+◌, ◌*◌, ◌==◌, ◌⊎◌, inl, inr, List, [], ◌∷◌, ◌++◌, codes, decimal, map, refl, ap, sym, ◌∙◌, arith}
use Rattle.std.proofs.lemmas.Fmt.{decimal_injective}
use Rattle.perimeter_core.specs.declared.entries.Entry.{Entry}
use Rattle.perimeter_core.specs.declared.entries.Entry.TheVariants.{Feed, Ask}
use Rattle.perimeter_core.specs.declared.marks.Mark.{Mark}
use Rattle.perimeter_core.specs.declared.marks.Mark.TheVariants as On
use Rattle.perimeter_core.specs.declared.marks.SynchAct.{SynchAct}
use Rattle.perimeter_core.specs.declared.marks.SynchAct.TheVariants as Done
use Rattle.report_lines.specs.TraceText.{act_fields, entered_field, mark_fields, mark_line}
use Rattle.squeue_replay.specs.Marks.{AreFeeds, IsPrinted, IsPrintedAct, IsSmall}
use Rattle.trace_lines.proofs.OneLine.{AreFields, IsClear, apart, clear-append, decimal_clear, decimal_field, ends_field, front_same, no_digit, one_line, word_field}

number_same : (n m : ℕ) → IsSmall n → IsSmall m → decimal n ≡ decimal m → n ≡ m
number_same n m small_n small_m e = decimal_injective n m (omega (arith, small_n)) (omega (arith, small_m)) e

small_field : (n : ℕ) → IsSmall n → IsClear ends_field (decimal n)
small_field n small = decimal_field n (omega (arith, small))

small_clear : (n : ℕ) → IsSmall n → IsClear no_digit (decimal n)
small_clear n small = decimal_clear n (omega (arith, small))

-- ---- feeds

feed_same : (c n d k : ℕ) → IsSmall c → IsSmall n → IsSmall d → IsSmall k → entered_field (Feed c n) ≡ entered_field (Feed d k) → (c ≡ d) × (n ≡ k)
feed_same c n d k small_c small_n small_d small_k e =
    let r = front_same no_digit (decimal c) (decimal d) (46 ∷ decimal n) (46 ∷ decimal k) (small_clear c small_c) (small_clear d small_d) refl refl e in
    let number : decimal n ≡ decimal k = (let h = r.1 in cc h) in
    (number_same c d small_c small_d r.0, number_same n k small_n small_k number)

feeds_same : (es fs : List Entry) → AreFeeds es → AreFeeds fs → map entered_field es ≡ map entered_field fs → es ≡ fs
feeds_same [] [] are_es are_fs e = refl
feeds_same [] (f ∷ fs) are_es are_fs e = cc e
feeds_same (g ∷ es) [] are_es are_fs e = cc e
feeds_same (Ask p ∷ es) (f ∷ fs) are_es are_fs e = absurd are_es
feeds_same (Feed c n ∷ es) (Ask q ∷ fs) are_es are_fs e = absurd are_fs
feeds_same (Feed c n ∷ es) (Feed d k ∷ fs) are_es are_fs e =
    let first : entered_field (Feed c n) ≡ entered_field (Feed d k) = cc e in
    let others : map entered_field es ≡ map entered_field fs = cc e in
    let one = feed_same c n d k are_es.0 are_es.1 are_fs.0 are_fs.1 first in
    let more = feeds_same es fs are_es.2 are_fs.2 others in
    cc (one.0, one.1, more)

-- feeds aren't an Ask
no_ask : {P : Type 0} (p : ℕ) (es : List Entry) → es ≢ [] → AreFeeds es → map entered_field es ≡ map entered_field (Ask p ∷ []) → P
no_ask p [] some are e = absurd (some refl)
no_ask p (Ask q ∷ es) some are e = absurd are
no_ask p (Feed c n ∷ es) some are e =
    let first : decimal c ++ 46 ∷ decimal n ≡ codes "ask" = cc e in
    let r = front_same no_digit (decimal c) [] (46 ∷ decimal n) (codes "ask") (small_clear c are.0) tt refl refl first in
    apart (λ b. b == 46) 46 97 (let h = r.1 in cc h) refl refl

feeds_clear : (es : List Entry) → AreFeeds es → AreFields (map entered_field es)
feeds_clear [] are = tt
feeds_clear (Ask p ∷ es) are = absurd are
feeds_clear (Feed c n ∷ es) are = (clear-append ends_field (decimal c) (46 ∷ decimal n) (small_field c are.0) (refl, small_field n are.1), feeds_clear es are.2)

-- ---- acts

first_letters : List (List ℕ) → ℕ
first_letters [] = 0
first_letters ([] ∷ fs) = 0
first_letters ((a ∷ []) ∷ fs) = a
first_letters ((a ∷ b ∷ []) ∷ fs) = a * 256 + b
first_letters ((a ∷ b ∷ c ∷ bs) ∷ fs) = (a * 256 + b) * 256 + c

act_same : (a b : SynchAct) → IsPrintedAct a → IsPrintedAct b → act_fields a ≡ act_fields b → a ≡ b
unfolding first_letters
act_same Done.None Done.None pa pb e = refl
act_same Done.Away Done.Away pa pb e = refl
act_same (Done.Call c j k) (Done.Call d i l) pa pb e =
    let one : decimal c ≡ decimal d = cc e in
    let two : decimal j ≡ decimal i = cc e in
    let three : decimal k ≡ decimal l = cc e in
    cc (number_same c d pa.0 pb.0 one, number_same j i pa.1 pb.1 two, number_same k l pa.2 pb.2 three)
act_same (Done.Out c) (Done.Out d) pa pb e = let one : decimal c ≡ decimal d = cc e in cc (number_same c d pa pb one)
act_same (Done.In c) (Done.In d) pa pb e = let one : decimal c ≡ decimal d = cc e in cc (number_same c d pa pb one)
act_same _ _ pa pb e = absurd (omega (arith, ap first_letters e))

act_clear : (a : SynchAct) → IsPrintedAct a → AreFields (act_fields a)
act_clear Done.None pa = (word_field (codes "none") refl, tt)
act_clear Done.Away pa = (word_field (codes "away") refl, tt)
act_clear (Done.Call c j k) pa = (word_field (codes "call") refl, (small_field c pa.0, (small_field j pa.1, (small_field k pa.2, tt))))
act_clear (Done.Out c) pa = (word_field (codes "out") refl, (small_field c pa, tt))
act_clear (Done.In c) pa = (word_field (codes "in") refl, (small_field c pa, tt))

-- ---- marks

same_mark : (a b : Mark) → IsPrinted a → IsPrinted b → mark_fields a ≡ mark_fields b → a ≡ b
unfolding first_letters
same_mark (On.Fill p es) (On.Fill q fs) pa pb e =
    let one : decimal p ≡ decimal q = cc e in
    let others : map entered_field es ≡ map entered_field fs = cc e in
    cc (number_same p q pa.0 pb.0 one, feeds_same es fs pa.2 pb.2 others)
same_mark (On.Fast p f) (On.Fast q g) pa pb e =
    let one : decimal p ≡ decimal q = cc e in
    let others : map entered_field (f ∷ []) ≡ map entered_field (g ∷ []) = cc e in
    let feeds : f ∷ [] ≡ g ∷ [] = feeds_same (f ∷ []) (g ∷ []) pa.1 pb.1 others in
    let feed : f ≡ g = cc feeds in
    cc (number_same p q pa.0 pb.0 one, feed)
same_mark (On.Claim p es) (On.Claim q fs) pa pb e =
    let one : decimal p ≡ decimal q = cc e in
    let others : map entered_field es ≡ map entered_field fs = cc e in
    let pass = number_same p q pa.0 pb.0 one in
    let all : es ≡ fs = by pass pa.1 pb.1 others in
    cc (pass, all)
  where
    by : p ≡ q → ((es ≢ []) × AreFeeds es) ⊎ (es ≡ Ask p ∷ []) → ((fs ≢ []) × AreFeeds fs) ⊎ (fs ≡ Ask q ∷ []) → map entered_field es ≡ map entered_field fs → es ≡ fs
    by pass (inl f) (inl g) e = feeds_same es fs f.1 g.1 e
    by pass (inl f) (inr g) e = no_ask q es f.0 f.1 (e ∙ ap (map entered_field) g)
    by pass (inr f) (inl g) e = no_ask p fs g.0 g.1 (sym e ∙ ap (map entered_field) f)
    by pass (inr f) (inr g) e = cc (pass, f, g)
same_mark (On.Take p) (On.Take q) pa pb e = let one : decimal p ≡ decimal q = cc e in cc (number_same p q pa pb one)
same_mark (On.Leave p rest a) (On.Leave q left b) pa pb e =
    let one : decimal p ≡ decimal q = cc e in
    let two : decimal rest ≡ decimal left = cc e in
    let others : act_fields a ≡ act_fields b = cc e in
    cc (number_same p q pa.0 pb.0 one, decimal_injective rest left pa.1 pb.1 two, act_same a b pa.2 pb.2 others)
same_mark (On.Ask p) (On.Ask q) pa pb e = let one : decimal p ≡ decimal q = cc e in cc (number_same p q pa pb one)
same_mark (On.Grant p j rest) (On.Grant q i left) pa pb e =
    let one : decimal p ≡ decimal q = cc e in
    let two : decimal j ≡ decimal i = cc e in
    let three : decimal rest ≡ decimal left = cc e in
    cc (number_same p q pa.0 pb.0 one, number_same j i pa.1 pb.1 two, decimal_injective rest left pa.2 pb.2 three)
same_mark (On.Accept p) (On.Accept q) pa pb e = let one : decimal p ≡ decimal q = cc e in cc (number_same p q pa pb one)
same_mark (On.Work p) (On.Work q) pa pb e = let one : decimal p ≡ decimal q = cc e in cc (number_same p q pa pb one)
same_mark (On.Close p) (On.Close q) pa pb e = let one : decimal p ≡ decimal q = cc e in cc (number_same p q pa pb one)
same_mark _ _ pa pb e = absurd (omega (arith, ap first_letters e))

fields_clear : (m : Mark) → IsPrinted m → AreFields (mark_fields m)
fields_clear (On.Fill p es) pm = (word_field (codes "fill") refl, (small_field p pm.0, feeds_clear es pm.2))
fields_clear (On.Fast p f) pm = (word_field (codes "fast") refl, (small_field p pm.0, feeds_clear (f ∷ []) pm.1))
fields_clear (On.Claim p es) pm = (word_field (codes "claim") refl, (small_field p pm.0, by pm.1))
  where
    by : ((es ≢ []) × AreFeeds es) ⊎ (es ≡ Ask p ∷ []) → AreFields (map entered_field es)
    by (inl f) = feeds_clear es f.1
    by (inr f) = rw f (word_field (codes "ask") refl, tt)
fields_clear (On.Take p) pm = (word_field (codes "take") refl, (small_field p pm, tt))
fields_clear (On.Leave p rest a) pm = (word_field (codes "leave") refl, (small_field p pm.0, (decimal_field rest pm.1, act_clear a pm.2)))
fields_clear (On.Ask p) pm = (word_field (codes "ask") refl, (small_field p pm, tt))
fields_clear (On.Grant p j rest) pm = (word_field (codes "grant") refl, (small_field p pm.0, (small_field j pm.1, (decimal_field rest pm.2, tt))))
fields_clear (On.Accept p) pm = (word_field (codes "accept") refl, (small_field p pm, tt))
fields_clear (On.Work p) pm = (word_field (codes "work") refl, (small_field p pm, tt))
fields_clear (On.Close p) pm = (word_field (codes "close") refl, (small_field p pm, tt))

has_fields : (m : Mark) → mark_fields m ≢ []
has_fields (On.Fill p es) e = cc e
has_fields (On.Fast p f) e = cc e
has_fields (On.Claim p es) e = cc e
has_fields (On.Take p) e = cc e
has_fields (On.Leave p rest a) e = cc e
has_fields (On.Ask p) e = cc e
has_fields (On.Grant p j rest) e = cc e
has_fields (On.Accept p) e = cc e
has_fields (On.Work p) e = cc e
has_fields (On.Close p) e = cc e

-- a mark by the front of a text
pub line_same : (a b : Mark) (x y : List ℕ) → IsPrinted a → IsPrinted b → mark_line a ++ x ≡ mark_line b ++ y → (a ≡ b) × (x ≡ y)
unfolding mark_line
line_same a b x y pa pb e =
    let r = one_line (mark_fields a) (mark_fields b) x y (has_fields a) (has_fields b) (fields_clear a pa) (fields_clear b pb) e in
    (same_mark a b pa pb r.0, r.1)
