-- The lines of marks, by forms.
use Rattle.std.proofs.Common.{arith, ◌≡◌, ◌≢◌, ℕ, ◌^◌, ◌<◌, ◌⊎◌, inl, inr, true, List, [], ◌∷◌, ◌++◌, map, codes, length, get_or, refl, subst, ◌∙◌, sym, ap, append_assoc}
use Rattle.std.specs.Fmt.{decimal}
use Rattle.perimeter_core.specs.declared.entries.Feed.{Feed as FeedOf}
use Rattle.perimeter_core.specs.declared.entries.Entry.{Entry}
use Rattle.perimeter_core.specs.declared.entries.Entry.TheVariants.{Feed, Ask}
use Rattle.perimeter_core.specs.declared.marks.Mark.{Mark}
use Rattle.perimeter_core.specs.declared.marks.Mark.TheVariants as On
use Rattle.perimeter_core.specs.declared.marks.SynchAct.{SynchAct}
use Rattle.perimeter_core.specs.declared.marks.SynchAct.TheVariants as Done
use Rattle.perimeter_core.specs.Deeds.{entries}
use Rattle.report_lines.specs.ReportText.{line, line_end}
use Rattle.report_lines.specs.TraceText.{entered_field, act_fields, mark_line}
use Rattle.perimeter_core.specs.declared.marks.Kind.{Kind}
use Rattle.perimeter_core.specs.declared.marks.Kind.TheVariants as Kind'
use Rattle.perimeter_core.specs.Kinds.{mark_by}
use Rattle.squeue_replay.specs.Marks.{AreFeeds, IsPrinted, IsPrintedAct, IsSmall}
use Rattle.trace_lines.specs.Forms.{filled, blank_count, is_form, AreSmall}
use Rattle.trace_lines.proofs.Numbers.{same_numbers, tail_same}
use Rattle.trace_lines.proofs.Filled.{one_way}

pub take_line : (p : ℕ) (t : List ℕ) → mark_line (On.Take p) ++ t ≡ filled (codes "take #\n") (p ∷ []) ++ t
unfolding mark_line
take_line p t = refl

pub ask_line : (p : ℕ) (t : List ℕ) → mark_line (On.Ask p) ++ t ≡ filled (codes "ask #\n") (p ∷ []) ++ t
unfolding mark_line
ask_line p t = refl

pub accept_line : (p : ℕ) (t : List ℕ) → mark_line (On.Accept p) ++ t ≡ filled (codes "accept #\n") (p ∷ []) ++ t
unfolding mark_line
accept_line p t = refl

pub work_line : (p : ℕ) (t : List ℕ) → mark_line (On.Work p) ++ t ≡ filled (codes "work #\n") (p ∷ []) ++ t
unfolding mark_line
work_line p t = refl

pub close_line : (p : ℕ) (t : List ℕ) → mark_line (On.Close p) ++ t ≡ filled (codes "close #\n") (p ∷ []) ++ t
unfolding mark_line
close_line p t = refl

pub claim_ask_line : (p : ℕ) (t : List ℕ) → mark_line (On.Claim p (Ask p ∷ [])) ++ t ≡ filled (codes "claim # ask\n") (p ∷ []) ++ t
unfolding mark_line
claim_ask_line p t = refl

pub fast_line : (p c n : ℕ) (t : List ℕ) → mark_line (On.Fast p (Feed c n)) ++ t ≡ filled (codes "fast # #.#\n") (p ∷ c ∷ n ∷ []) ++ t
unfolding mark_line
fast_line p c n t = simp append_assoc

pub fill_line : (p : ℕ) (es : List Entry) (t : List ℕ) → es ≢ [] → mark_line (On.Fill p es) ++ t ≡ filled (codes "fill # ") (p ∷ []) ++ (line (map entered_field es) ++ t)
unfolding mark_line
fill_line p [] t some = absurd (some refl)
fill_line p (e ∷ es) t some = simp append_assoc

pub claim_line : (p : ℕ) (es : List Entry) (t : List ℕ) → es ≢ [] → mark_line (On.Claim p es) ++ t ≡ filled (codes "claim # ") (p ∷ []) ++ (line (map entered_field es) ++ t)
unfolding mark_line
claim_line p [] t some = absurd (some refl)
claim_line p (e ∷ es) t some = simp append_assoc

pub grant_line : (p j left : ℕ) (t : List ℕ) → mark_line (On.Grant p j left) ++ t ≡ filled (codes "grant # # ") (p ∷ j ∷ []) ++ (decimal left ++ 10 ∷ t)
unfolding mark_line
grant_line p j left t = simp append_assoc

act_end : (a : SynchAct) → line_end (act_fields a) ≡ 32 ∷ line (act_fields a)
act_end Done.None = refl
act_end (Done.Call c j k) = refl
act_end Done.Away = refl
act_end (Done.Out c) = refl
act_end (Done.In c) = refl

leave_joined : (p left : ℕ) (l t : List ℕ) → (decimal p ++ 32 ∷ (decimal left ++ 32 ∷ l)) ++ t ≡ (decimal p ++ 32 ∷ []) ++ (decimal left ++ 32 ∷ (l ++ t))
leave_joined p left l t = simp append_assoc

pub leave_line : (p left : ℕ) (a : SynchAct) (t : List ℕ) → mark_line (On.Leave p left a) ++ t ≡ filled (codes "leave # ") (p ∷ []) ++ (decimal left ++ 32 ∷ (line (act_fields a) ++ t))
unfolding mark_line
leave_line p left a t =
    ap (λ l. codes "leave " ++ ((decimal p ++ 32 ∷ (decimal left ++ l)) ++ t)) (act_end a) ∙ ap (λ l. codes "leave " ++ l) (leave_joined p left (line (act_fields a)) t)

-- a Fast
pub fast_found : (text numbers rest : List ℕ) → length numbers ≡ 3 → AreSmall numbers → text ≡ filled (codes "fast # #.#\n") numbers ++ rest
    → IsPrinted (On.Fast (get_or numbers 0 0) (Feed (get_or numbers 1 0) (get_or numbers 2 0))) × (text ≡ mark_line (On.Fast (get_or numbers 0 0) (Feed (get_or numbers 1 0) (get_or numbers 2 0))) ++ rest)
fast_found text [] rest l s e = absurd (omega (arith, l))
fast_found text (p ∷ []) rest l s e = absurd (omega (arith, l))
fast_found text (p ∷ c ∷ []) rest l s e = absurd (omega (arith, l))
fast_found text (p ∷ c ∷ n ∷ []) rest l s e = ((s.0, (s.1.0, s.1.1.0, tt)), e ∙ sym (fast_line p c n rest))
fast_found text (p ∷ c ∷ n ∷ m ∷ ms) rest l s e = absurd (omega (arith, l))

pub fast_fails : (text : List ℕ) → ((ns rest : List ℕ) → length ns ≡ 3 → AreSmall ns → text ≡ filled (codes "fast # #.#\n") ns ++ rest → ⊥)
    → (p : ℕ) (e : Entry) (rest : List ℕ) → IsPrinted (On.Fast p e) → text ≡ mark_line (On.Fast p e) ++ rest → ⊥
fast_fails text none p (Feed c n) rest h e = none (p ∷ c ∷ n ∷ []) rest refl (h.0, (h.1.0, (h.1.1, tt))) (e ∙ fast_line p c n rest)
fast_fails text none p (Ask q) rest h e = h.1

-- a Grant
pub grant_found : (text numbers rest others : List ℕ) (left : ℕ) → length numbers ≡ 2 → AreSmall numbers → text ≡ filled (codes "grant # # ") numbers ++ rest → left < 2 ^ 64 → rest ≡ decimal left ++ 10 ∷ others
    → IsPrinted (On.Grant (get_or numbers 0 0) (get_or numbers 1 0) left) × (text ≡ mark_line (On.Grant (get_or numbers 0 0) (get_or numbers 1 0) left) ++ others)
grant_found text [] rest others left l s e small is = absurd (omega (arith, l))
grant_found text (p ∷ []) rest others left l s e small is = absurd (omega (arith, l))
grant_found text (p ∷ j ∷ []) rest others left l s e small is =
    ((s.0, s.1.0, small), e ∙ (ap (λ t. filled (codes "grant # # ") (p ∷ j ∷ []) ++ t) is ∙ sym (grant_line p j left others)))
grant_found text (p ∷ j ∷ n ∷ ns) rest others left l s e small is = absurd (omega (arith, l))

pub grant_fails : (text : List ℕ) → ((ns rest : List ℕ) → length ns ≡ 2 → AreSmall ns → text ≡ filled (codes "grant # # ") ns ++ rest → ⊥)
    → (p j left : ℕ) (rest : List ℕ) → IsPrinted (On.Grant p j left) → text ≡ mark_line (On.Grant p j left) ++ rest → ⊥
grant_fails text none p j left rest h e = none (p ∷ j ∷ []) (decimal left ++ 10 ∷ rest) refl (h.0, (h.1, tt)) (e ∙ grant_line p j left rest)

pub grant_fails_later : (text numbers rest : List ℕ) → length numbers ≡ 2 → AreSmall numbers → text ≡ filled (codes "grant # # ") numbers ++ rest
    → ((n : ℕ) (t : List ℕ) → n < 2 ^ 64 → rest ≡ decimal n ++ 10 ∷ t → ⊥)
    → (p j left : ℕ) (t : List ℕ) → IsPrinted (On.Grant p j left) → text ≡ mark_line (On.Grant p j left) ++ t → ⊥
grant_fails_later text numbers rest l s found none p j left t h e =
    let same = one_way (codes "grant # # ") numbers (p ∷ j ∷ []) rest (decimal left ++ 10 ∷ t) refl l refl s (h.0, (h.1, tt)) (sym found ∙ (e ∙ grant_line p j left t)) in
    none left t h.2 same.1

-- a Leave
pub leave_found : (text rest others behind : List ℕ) (p left : ℕ) (a : SynchAct) → IsSmall p × (text ≡ filled (codes "leave # ") (p ∷ []) ++ rest) → (left < 2 ^ 64) × (rest ≡ decimal left ++ 32 ∷ others)
    → IsPrintedAct a × (others ≡ line (act_fields a) ++ behind) → IsPrinted (On.Leave p left a) × (text ≡ mark_line (On.Leave p left a) ++ behind)
leave_found text rest others behind p left a f g h =
    ((f.0, g.0, h.0), f.1 ∙ (ap (λ t. filled (codes "leave # ") (p ∷ []) ++ t) (g.1 ∙ ap (λ t. decimal left ++ 32 ∷ t) h.1) ∙ sym (leave_line p left a behind)))

pub leave_fails : (text : List ℕ) → ((p : ℕ) (rest : List ℕ) → IsSmall p → text ≡ filled (codes "leave # ") (p ∷ []) ++ rest → ⊥)
    → (p left : ℕ) (a : SynchAct) (rest : List ℕ) → IsPrinted (On.Leave p left a) → text ≡ mark_line (On.Leave p left a) ++ rest → ⊥
leave_fails text none p left a rest h e = none p (decimal left ++ 32 ∷ (line (act_fields a) ++ rest)) h.0 (e ∙ leave_line p left a rest)

leave_rest : (text rest t : List ℕ) (q p left : ℕ) (a : SynchAct) → IsSmall q × (text ≡ filled (codes "leave # ") (q ∷ []) ++ rest) → IsPrinted (On.Leave p left a) → text ≡ mark_line (On.Leave p left a) ++ t
    → rest ≡ decimal left ++ 32 ∷ (line (act_fields a) ++ t)
leave_rest text rest t q p left a f h e =
    let same = one_way (codes "leave # ") (q ∷ []) (p ∷ []) rest (decimal left ++ 32 ∷ (line (act_fields a) ++ t)) refl refl refl (f.0, tt) (h.0, tt) (sym f.1 ∙ (e ∙ leave_line p left a t)) in
    same.1

pub leave_fails_later : (text rest : List ℕ) (q : ℕ) → IsSmall q × (text ≡ filled (codes "leave # ") (q ∷ []) ++ rest) → ((n : ℕ) (t : List ℕ) → n < 2 ^ 64 → rest ≡ decimal n ++ 32 ∷ t → ⊥)
    → (p left : ℕ) (a : SynchAct) (t : List ℕ) → IsPrinted (On.Leave p left a) → text ≡ mark_line (On.Leave p left a) ++ t → ⊥
leave_fails_later text rest q f none p left a t h e = none left (line (act_fields a) ++ t) h.1 (leave_rest text rest t q p left a f h e)

pub leave_fails_last : (text rest others : List ℕ) (q n : ℕ) → IsSmall q × (text ≡ filled (codes "leave # ") (q ∷ []) ++ rest) → (n < 2 ^ 64) × (rest ≡ decimal n ++ 32 ∷ others)
    → ((a : SynchAct) (t : List ℕ) → IsPrintedAct a → others ≡ line (act_fields a) ++ t → ⊥)
    → (p left : ℕ) (a : SynchAct) (t : List ℕ) → IsPrinted (On.Leave p left a) → text ≡ mark_line (On.Leave p left a) ++ t → ⊥
leave_fails_last text rest others q n f g none p left a t h e =
    let same = same_numbers n left (32 ∷ others) (32 ∷ (line (act_fields a) ++ t)) g.0 h.1 refl refl (sym g.1 ∙ leave_rest text rest t q p left a f h e) in
    none a t h.2 (tail_same 32 _ _ same.1)

-- none of the marks that enter no feed
abbrev pub NoLine : List ℕ → List ℕ → Type 0
NoLine text form = (p : ℕ) (rest : List ℕ) → IsSmall p → text ≡ filled form (p ∷ []) ++ rest → ⊥

never_claims : (p : ℕ) → (◌≢◌ {A = List Entry} [] [] × AreFeeds []) ⊎ (◌≡◌ {A = List Entry} [] (Ask p ∷ [])) → ⊥
never_claims p (inl h) = h.0 refl
never_claims p (inr e) = cc

pub none_without_feeds : (text : List ℕ) → NoLine text (codes "take #\n") → NoLine text (codes "ask #\n") → NoLine text (codes "accept #\n") → NoLine text (codes "work #\n") → NoLine text (codes "close #\n") → NoLine text (codes "claim # ask\n")
    → ((p j left : ℕ) (rest : List ℕ) → IsPrinted (On.Grant p j left) → text ≡ mark_line (On.Grant p j left) ++ rest → ⊥)
    → ((p left : ℕ) (a : SynchAct) (rest : List ℕ) → IsPrinted (On.Leave p left a) → text ≡ mark_line (On.Leave p left a) ++ rest → ⊥)
    → (p : ℕ) (s : Kind) (rest : List ℕ) → IsPrinted (mark_by p s []) → text ≡ mark_line (mark_by p s []) ++ rest → ⊥
none_without_feeds text a b c d f g grants leaves p Kind'.Fill rest h e = h.1 refl
none_without_feeds text a b c d f g grants leaves p Kind'.Fast rest h e = h.1
none_without_feeds text a b c d f g grants leaves p Kind'.Claim rest h e = never_claims p h.1
none_without_feeds text a b c d f g grants leaves p Kind'.ClaimAsk rest h e = g p rest h.0 (e ∙ claim_ask_line p rest)
none_without_feeds text a b c d f g grants leaves p Kind'.Take rest h e = a p rest h (e ∙ take_line p rest)
none_without_feeds text a b c d f g grants leaves p (Kind'.Leave left act) rest h e = leaves p left act rest h e
none_without_feeds text a b c d f g grants leaves p Kind'.Ask rest h e = b p rest h (e ∙ ask_line p rest)
none_without_feeds text a b c d f g grants leaves p (Kind'.Grant j left) rest h e = grants p j left rest h e
none_without_feeds text a b c d f g grants leaves p Kind'.Accept rest h e = c p rest h (e ∙ accept_line p rest)
none_without_feeds text a b c d f g grants leaves p Kind'.Work rest h e = d p rest h (e ∙ work_line p rest)
none_without_feeds text a b c d f g grants leaves p Kind'.Close rest h e = f p rest h (e ∙ close_line p rest)

-- none of all marks
abbrev pub NoFeeds : List ℕ → List ℕ → Type 0
NoFeeds text form = (p : ℕ) (es : List Entry) (rest : List ℕ) → IsSmall p → es ≢ [] → AreFeeds es → text ≡ filled form (p ∷ []) ++ (line (map entered_field es) ++ rest) → ⊥

no_claim : (text : List ℕ) → NoFeeds text (codes "claim # ") → ((p : ℕ) (s : Kind) (rest : List ℕ) → IsPrinted (mark_by p s []) → text ≡ mark_line (mark_by p s []) ++ rest → ⊥)
    → (p : ℕ) (es : List Entry) (rest : List ℕ) → IsSmall p → ((es ≢ []) × AreFeeds es) ⊎ (es ≡ Ask p ∷ []) → text ≡ mark_line (On.Claim p es) ++ rest → ⊥
no_claim text claims without p es rest small (inl h) e = claims p es rest small h.0 h.1 (e ∙ claim_line p es rest h.0)
no_claim text claims without p es rest small (inr is) e = without p Kind'.ClaimAsk rest (small, inr refl) (subst (λ l. text ≡ mark_line (On.Claim p l) ++ rest) is e)

pub no_mark : (text : List ℕ) → ((p : ℕ) (s : Kind) (rest : List ℕ) → IsPrinted (mark_by p s []) → text ≡ mark_line (mark_by p s []) ++ rest → ⊥)
    → ((p : ℕ) (e : Entry) (rest : List ℕ) → IsPrinted (On.Fast p e) → text ≡ mark_line (On.Fast p e) ++ rest → ⊥) → NoFeeds text (codes "fill # ") → NoFeeds text (codes "claim # ")
    → (m : Mark) (rest : List ℕ) → IsPrinted m → text ≡ mark_line m ++ rest → ⊥
no_mark text without fast fills claims (On.Fill p es) rest h e = fills p es rest h.0 h.1 h.2 (e ∙ fill_line p es rest h.1)
no_mark text without fast fills claims (On.Fast p x) rest h e = fast p x rest h e
no_mark text without fast fills claims (On.Claim p es) rest h e = no_claim text claims without p es rest h.0 h.1 e
no_mark text without fast fills claims (On.Take p) rest h e = without p Kind'.Take rest h e
no_mark text without fast fills claims (On.Leave p left act) rest h e = without p (Kind'.Leave left act) rest h e
no_mark text without fast fills claims (On.Ask p) rest h e = without p Kind'.Ask rest h e
no_mark text without fast fills claims (On.Grant p j left) rest h e = without p (Kind'.Grant j left) rest h e
no_mark text without fast fills claims (On.Accept p) rest h e = without p Kind'.Accept rest h e
no_mark text without fast fills claims (On.Work p) rest h e = without p Kind'.Work rest h e
no_mark text without fast fills claims (On.Close p) rest h e = without p Kind'.Close rest h e

-- marks with feeds
pub fill_found : (text rest : List ℕ) (p : ℕ) (fs : List FeedOf) → IsSmall p × (entries fs ≢ []) × AreFeeds (entries fs) × (text ≡ filled (codes "fill # ") (p ∷ []) ++ (line (map entered_field (entries fs)) ++ rest))
    → IsPrinted (mark_by p Kind'.Fill fs) × (text ≡ mark_line (mark_by p Kind'.Fill fs) ++ rest)
fill_found text rest p fs h = ((h.0, h.1, h.2), h.3 ∙ sym (fill_line p (entries fs) rest h.1))

pub claim_found : (text rest : List ℕ) (p : ℕ) (fs : List FeedOf) → IsSmall p × (entries fs ≢ []) × AreFeeds (entries fs) × (text ≡ filled (codes "claim # ") (p ∷ []) ++ (line (map entered_field (entries fs)) ++ rest))
    → IsPrinted (mark_by p Kind'.Claim fs) × (text ≡ mark_line (mark_by p Kind'.Claim fs) ++ rest)
claim_found text rest p fs h = ((h.0, inl (h.1, h.2)), h.3 ∙ sym (claim_line p (entries fs) rest h.1))

pub with_fill : (text rest : List ℕ) (p : ℕ) (s : Kind) (fs : List FeedOf)
    → IsSmall p × (s ≡ Kind'.Fill) × (entries fs ≢ []) × AreFeeds (entries fs) × (text ≡ filled (codes "fill # ") (p ∷ []) ++ (line (map entered_field (entries fs)) ++ rest))
    → IsPrinted (mark_by p s fs) × (text ≡ mark_line (mark_by p s fs) ++ rest)
with_fill text rest p s fs h = subst (λ x. IsPrinted (mark_by p x fs) × (text ≡ mark_line (mark_by p x fs) ++ rest)) (sym h.1) (fill_found text rest p fs (h.0, h.2, h.3, h.4))

pub with_claim : (text rest : List ℕ) (p : ℕ) (s : Kind) (fs : List FeedOf)
    → IsSmall p × (s ≡ Kind'.Claim) × (entries fs ≢ []) × AreFeeds (entries fs) × (text ≡ filled (codes "claim # ") (p ∷ []) ++ (line (map entered_field (entries fs)) ++ rest))
    → IsPrinted (mark_by p s fs) × (text ≡ mark_line (mark_by p s fs) ++ rest)
with_claim text rest p s fs h = subst (λ x. IsPrinted (mark_by p x fs) × (text ≡ mark_line (mark_by p x fs) ++ rest)) (sym h.1) (claim_found text rest p fs (h.0, h.2, h.3, h.4))

-- what is owed behind a form whose one blank was read
pub feeds_owed : (text form rest : List ℕ) (q : ℕ) → is_form form ≡ true → blank_count form ≡ 1 → IsSmall q × (text ≡ filled form (q ∷ []) ++ rest)
    → ((es : List Entry) (t : List ℕ) → es ≢ [] → AreFeeds es → rest ≡ line (map entered_field es) ++ t → ⊥) → NoFeeds text form
feeds_owed text form rest q proper blanks found none p es t small some feeds e =
    let same = one_way form (q ∷ []) (p ∷ []) rest (line (map entered_field es) ++ t) proper (sym blanks) (sym blanks) (found.0, tt) (small, tt) (sym found.1 ∙ e) in
    none es t some feeds same.1
