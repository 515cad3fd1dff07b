-- There is one way to cut bytes into spellings.
use Rattle.std.proofs.Common.{◌≡◌, ℕ, ◌+◌, ◌<◌, ◌≤◌, Bool, true, false, List, [], ◌∷◌, ◌++◌, length, take, drop, Result, Ok, Err, ◌⊎◌, inl, inr, subst, sym, ap, ◌∙◌, refl, arith, length-append, length-drop, append_assoc}
use Rattle.std.proofs.lemmas.List.{take_at, drop_at, drop-append-le}
use Rattle.std.specs.List.{concat, AllByRecursion}
use Rattle.sq_base.specs.declared.kinds.Link.{Link}
use Rattle.capture_reader.specs.declared.form.Form.{Form}
use Rattle.capture_reader.specs.declared.fault.CaptureFault.{CaptureFault}
use Rattle.capture_reader.specs.declared.fault.CaptureFault.TheVariants as fault
use Rattle.capture_reader.specs.Header.{header_answer}
use Rattle.capture_reader.specs.CaptureFile.{Packet, IsSplit, IsSpelling, IsPartial, IsTooLong, Ends, packets_of, named_length}
use Rattle.capture_reader.specs.Limits.{most_records}
use Rattle.capture_reader.specs.Form.{number}
use Rattle.capture_reader.specs.CaptureFile.{Contents, Meets}
use Rattle.capture_reader.proofs.Pieces.{number-append}

abbrev okay : Form × Link → Result (Form × Link) CaptureFault
okay p = Ok p

abbrev failed : CaptureFault → Result (Form × Link) CaptureFault
failed f = Err f

-- the named length is in the header
named-append : (form : Form) (a x : List ℕ) → 16 ≤ length a → named_length form (a ++ x) ≡ named_length form a
named-append form a x long =
    ap (λ (xs : List ℕ). number form 4 xs) (drop-append-le 8 a x (omega arith)) ∙ number-append form 4 (drop 8 a) x (omega (arith, length-drop 8 a))

-- two lists that begin the same list and are as long are one
same_front : (a b x y : List ℕ) → length a ≡ length b → a ++ x ≡ b ++ y → (a ≡ b) × (x ≡ y)
same_front a b x y long e = (
  sym (take_at a x (length a) refl) ∙ (ap (take (length a)) e ∙ take_at b y (length a) (sym long)),
  sym (drop_at a x (length a) refl) ∙ (ap (drop (length a)) e ∙ drop_at b y (length a) (sym long)),
)

-- the first spelling is the same
first_piece : (form : Form) (a b x y : List ℕ) → IsSpelling form a → IsSpelling form b → a ++ x ≡ b ++ y → (a ≡ b) × (x ≡ y)
first_piece form a b x y p q e =
    let named : named_length form a ≡ named_length form b = sym (named-append form a x p.header) ∙ (ap (named_length form) e ∙ named-append form b y q.header) in
    same_front a b x y (omega (arith, p.whole, q.whole, named)) e

-- no spelling begins these bytes
abbrev Stops : Form → List ℕ → Type 0
Stops form z = (a x : List ℕ) → IsSpelling form a → z ≡ a ++ x → ⊥

stops_none : (form : Form) → Stops form []
stops_none form a x p e = absurd (omega (arith, ap length e, length-append a x, p.header))

stops_partial : (form : Form) (z : List ℕ) → IsPartial form z → Stops form z
stops_partial form z h a x p e =
    let long : length z ≡ length a + length x = ap length e ∙ length-append a x in
    let named : named_length form z ≡ named_length form a = ap (named_length form) e ∙ named-append form a x p.header in
    let room : 16 ≤ length z = omega (arith, long, p.header) in
    let short : length z < 16 + named_length form z = (h.1 room).1 in
    omega (arith, long, named, short, p.whole)

stops_too_long : (form : Form) (len : ℕ) (z : List ℕ) → IsTooLong len form z → Stops form z
stops_too_long form len z h a x p e =
    let named : named_length form z ≡ named_length form a = ap (named_length form) e ∙ named-append form a x p.header in
    omega (arith, named, h.1, h.2, p.most)

-- where no further piece begins, there are at least as many as in any other cut
most_pieces : (form : Form) (ps qs : List (List ℕ)) (x y : List ℕ) → AllByRecursion (IsSpelling form) ps → AllByRecursion (IsSpelling form) qs
    → Stops form x → concat ps ++ x ≡ concat qs ++ y → length qs ≤ length ps
most_pieces form ps [] x y a b s e = omega arith
most_pieces form [] (q ∷ qs) x y a b s e = absurd (s q (concat qs ++ y) b.0 (e ∙ append_assoc q (concat qs) y))
most_pieces form (p ∷ ps) (q ∷ qs) x y a b s e =
    let first = first_piece form p q (concat ps ++ x) (concat qs ++ y) a.0 b.0 (sym (append_assoc p (concat ps) x) ∙ (e ∙ append_assoc q (concat qs) y)) in
    omega (arith, most_pieces form ps qs x y a.1 b.1 s first.1)

same_cons : (a b : List ℕ) (us vs : List (List ℕ)) → a ≡ b → us ≡ vs → a ∷ us ≡ b ∷ vs
same_cons a b us vs e f = cc

-- two cuts into as many pieces are one
same_pieces : (form : Form) (ps qs : List (List ℕ)) (x y : List ℕ) → AllByRecursion (IsSpelling form) ps → AllByRecursion (IsSpelling form) qs
    → length ps ≡ length qs → concat ps ++ x ≡ concat qs ++ y → (ps ≡ qs) × (x ≡ y)
same_pieces form [] [] x y a b n e = (refl, e)
same_pieces form [] (q ∷ qs) x y a b n e = absurd (omega (arith, n))
same_pieces form (p ∷ ps) [] x y a b n e = absurd (omega (arith, n))
same_pieces form (p ∷ ps) (q ∷ qs) x y a b n e =
    let first = first_piece form p q (concat ps ++ x) (concat qs ++ y) a.0 b.0 (sym (append_assoc p (concat ps) x) ∙ (e ∙ append_assoc q (concat qs) y)) in
    let more = same_pieces form ps qs x y a.1 b.1 (omega (arith, n)) first.1 in
    (same_cons p q ps qs first.0 more.0, more.1)

-- how the packets end
data Ending : Type 0 where
  whole : Contents → Ending
  too_long : ℕ → ℕ → Ending
  too_many : Ending

abbrev outcome : Ending → Result Contents CaptureFault
outcome (whole c) = Ok c
outcome (too_long index len) = Err (fault.RecordLength index len)
outcome too_many = Err fault.TooManyRecords

-- what an ending says of the pieces and the rest
abbrev Tells : Ending → Form → Link → List (List ℕ) → List ℕ → Type 0
Tells (whole c) form link ps z = (c.link ≡ link) × (c.packets ≡ packets_of form 24 ps) × Ends c.cut form (length ps) z
Tells (too_long index len) form link ps z = (length ps ≡ index) × (index < most_records) × IsTooLong len form z
Tells too_many form link ps z = (length ps ≡ most_records) × (0 < length z)

record Later (bytes : List ℕ) (x : Result Contents CaptureFault) : Type 0 where
  ending : Ending
  is : x ≡ outcome ending
  form : Form
  link : Link
  pieces : List (List ℕ)
  rest : List ℕ
  split : IsSplit bytes form link pieces rest
  told : Tells ending form link pieces rest

-- the header decides, or the packets
stage : (bytes : List ℕ) (x : Result Contents CaptureFault) → Meets bytes x → ((f : CaptureFault) × (header_answer bytes ≡ Err f) × (x ≡ Err f)) ⊎ Later bytes x
stage bytes (Ok c) h = inr (record { ending = whole c; is = refl; form = h.form; link = c.link; pieces = h.pieces; rest = h.rest; split = h.split; told = (refl, h.named, h.ends) })
stage bytes (Err (fault.RecordLength index len)) h = inr (record { ending = too_long index len; is = refl; form = h.1.form; link = h.1.link; pieces = h.1.pieces; rest = h.1.rest; split = h.1.split; told = (h.1.counted, h.0, h.1.goes_on) })
stage bytes (Err fault.TooManyRecords) h = inr (record { ending = too_many; is = refl; form = h.form; link = h.link; pieces = h.pieces; rest = h.rest; split = h.split; told = (h.counted, h.goes_on) })
stage bytes (Err (fault.ShortHeader n)) h = inl (fault.ShortHeader n, h, refl)
stage bytes (Err (fault.Magic m)) h = inl (fault.Magic m, h, refl)
stage bytes (Err (fault.Version a b)) h = inl (fault.Version a b, h, refl)
stage bytes (Err (fault.Link n)) h = inl (fault.Link n, h, refl)
stage bytes (Err fault.Read) h = absurd h
stage bytes (Err fault.NoMemory) h = absurd h
stage bytes (Err (fault.TooLarge n)) h = absurd h

-- it stops there, or there are as many as may be
record Bounded (form : Form) (ps : List (List ℕ)) (z : List ℕ) : Type 0 where
  few : length ps ≤ most_records
  stops : Stops form z ⊎ (length ps ≡ most_records)

bounded_ends : (cut : Bool) (form : Form) (ps : List (List ℕ)) (z : List ℕ) → Ends cut form (length ps) z → Bounded form ps z
bounded_ends false form ps z h = record { few = h.1; stops = inl (subst (Stops form) (sym h.0) (stops_none form)) }
bounded_ends true form ps z h = record { few = omega (arith, h.1); stops = inl (stops_partial form z h.0) }

bounded : (x : Ending) (form : Form) (link : Link) (ps : List (List ℕ)) (z : List ℕ) → Tells x form link ps z → Bounded form ps z
bounded (whole c) form link ps z h = bounded_ends c.cut form ps z h.2
bounded (too_long index len) form link ps z h = record { few = omega (arith, h.0, h.1); stops = inl (stops_too_long form len z h.2) }
bounded too_many form link ps z h = record { few = omega (arith, h.0); stops = inr h.0 }

as_many : (form : Form) (ps qs : List (List ℕ)) (x y : List ℕ) → AllByRecursion (IsSpelling form) ps → AllByRecursion (IsSpelling form) qs
    → concat ps ++ x ≡ concat qs ++ y → (length ps ≤ most_records) → (length qs ≤ most_records) → Stops form x ⊎ (length ps ≡ most_records) → Stops form y ⊎ (length qs ≡ most_records) → length ps ≡ length qs
as_many form ps qs x y a b e m n (inl s) (inl t) = omega (arith, most_pieces form ps qs x y a b s e, most_pieces form qs ps y x b a t (sym e))
as_many form ps qs x y a b e m n (inl s) (inr t) = omega (arith, most_pieces form ps qs x y a b s e, m, t)
as_many form ps qs x y a b e m n (inr s) (inl t) = omega (arith, most_pieces form qs ps y x b a t (sym e), n, s)
as_many form ps qs x y a b e m n (inr s) (inr t) = omega (arith, s, t)

-- of the same pieces and the same rest
same_cut : (c d : Bool) (form : Form) (n : ℕ) (z : List ℕ) → Ends c form n z → Ends d form n z → c ≡ d
same_cut false false form n z h k = refl
same_cut true true form n z h k = refl
same_cut false true form n z h k = absurd (omega (arith, ap length h.0, k.0.0))
same_cut true false form n z h k = absurd (omega (arith, ap length k.0, h.0.0))

not_both : (c : Bool) (form : Form) (n len : ℕ) (z : List ℕ) → Ends c form n z → IsTooLong len form z → ⊥
not_both false form n len z h k = omega (arith, ap length h.0, k.0)
not_both true form n len z h k = omega (arith, (h.0.1 k.0).0, k.1, k.2)

not_many : (c : Bool) (form : Form) (n : ℕ) (z : List ℕ) → Ends c form n z → n ≡ most_records → 0 < length z → ⊥
not_many false form n z h e k = omega (arith, ap length h.0, k)
not_many true form n z h e k = omega (arith, h.1, e)

abbrev contents : Link → List Packet → Bool → Contents
contents l ps b = record { link = l; packets = ps; cut = b }

same_contents : (c d : Contents) → c.link ≡ d.link → c.packets ≡ d.packets → c.cut ≡ d.cut → c ≡ d
same_contents c d p q r =
    ap (λ (l : Link). contents l c.packets c.cut) p ∙ (ap (λ (ps : List Packet). contents d.link ps c.cut) q ∙ ap (contents d.link d.packets) r)

told_once : (x y : Ending) (form : Form) (link : Link) (ps : List (List ℕ)) (z : List ℕ) → Tells x form link ps z → Tells y form link ps z → x ≡ y
told_once (whole c) (whole d) form link ps z h k = ap whole (same_contents c d (h.0 ∙ sym k.0) (h.1 ∙ sym k.1) (same_cut c.cut d.cut form (length ps) z h.2 k.2))
told_once (whole c) (too_long index len) form link ps z h k = absurd (not_both c.cut form (length ps) len z h.2 k.2)
told_once (too_long index len) (whole c) form link ps z h k = absurd (not_both c.cut form (length ps) len z k.2 h.2)
told_once (whole c) too_many form link ps z h k = absurd (not_many c.cut form (length ps) z h.2 k.0 k.1)
told_once too_many (whole c) form link ps z h k = absurd (not_many c.cut form (length ps) z k.2 h.0 h.1)
told_once (too_long i m) (too_long j n) form link ps z h k = let p : i ≡ j = sym h.0 ∙ k.0 in let q : m ≡ n = h.2.1 ∙ sym k.2.1 in cc
told_once (too_long i m) too_many form link ps z h k = absurd (omega (arith, h.0, h.1, k.0))
told_once too_many (too_long i m) form link ps z h k = absurd (omega (arith, k.0, k.1, h.0))
told_once too_many too_many form link ps z h k = refl

-- two splits of the same bytes have one form, and what is behind the header is the same
record Aligned (form form' : Form) (link link' : Link) (ps qs : List (List ℕ)) (x y : List ℕ) : Type 0 where
  forms : form ≡ form'
  links : link ≡ link'
  behind : concat ps ++ x ≡ concat qs ++ y

same_ok : (p q : Form × Link) → okay p ≡ okay q → p ≡ q
same_ok p q e = cc

aligned : (bytes : List ℕ) (form form' : Form) (link link' : Link) (ps qs : List (List ℕ)) (x y : List ℕ) → IsSplit bytes form link ps x → IsSplit bytes form' link' qs y
    → Aligned form form' link link' ps qs x y
aligned bytes form form' link link' ps qs x y s t =
    let says : (form, link) ≡ (form', link') = same_ok (form, link) (form', link') (sym s.says ∙ t.says) in
    record {
      forms = ap (λ (p : Form × Link). p.0) says;
      links = ap (λ (p : Form × Link). p.1) says;
      behind = (same_front s.header t.header (concat ps ++ x) (concat qs ++ y) (s.size ∙ sym t.size) (sym s.whole ∙ t.whole)).1;
    }

same_err : (f g : CaptureFault) → failed f ≡ failed g → f ≡ g
same_err f g e = cc

apart : (f : CaptureFault) (p : Form × Link) → failed f ≡ okay p → ⊥
apart f p e = cc

-- two outcomes of the packets are one
later_once : (bytes : List ℕ) (x y : Result Contents CaptureFault) → Later bytes x → Later bytes y → x ≡ y
later_once bytes x y s t =
    let al = aligned bytes s.form t.form s.link t.link s.pieces t.pieces s.rest t.rest s.split t.split in
    let t-split : IsSplit bytes s.form s.link t.pieces t.rest =
    subst (λ (f : Form). IsSplit bytes f s.link t.pieces t.rest) (sym al.forms) (subst (λ (l : Link). IsSplit bytes t.form l t.pieces t.rest) (sym al.links) t.split) in
    let t-told : Tells t.ending s.form s.link t.pieces t.rest =
    subst (λ (f : Form). Tells t.ending f s.link t.pieces t.rest) (sym al.forms) (subst (λ (l : Link). Tells t.ending t.form l t.pieces t.rest) (sym al.links) t.told) in
    let p = bounded s.ending s.form s.link s.pieces s.rest s.told in
    let q = bounded t.ending s.form s.link t.pieces t.rest t-told in
    let many = as_many s.form s.pieces t.pieces s.rest t.rest s.split.spelled t-split.spelled al.behind p.few q.few p.stops q.stops in
    let same = same_pieces s.form s.pieces t.pieces s.rest t.rest s.split.spelled t-split.spelled many al.behind in
    let t-told-2 : Tells t.ending s.form s.link s.pieces s.rest =
    subst (λ (ps : List (List ℕ)). Tells t.ending s.form s.link ps s.rest) (sym same.0) (subst (λ (z : List ℕ). Tells t.ending s.form s.link t.pieces z) (sym same.1) t-told) in
    s.is ∙ (ap outcome (told_once s.ending t.ending s.form s.link s.pieces s.rest s.told t-told-2) ∙ sym t.is)

pub meets_once : (bytes : List ℕ) (x y : Result Contents CaptureFault) → Meets bytes x → Meets bytes y → x ≡ y
meets_once bytes x y h k = both (stage bytes x h) (stage bytes y k)
  where
    Early : Result Contents CaptureFault → Type 0
    Early r = (f : CaptureFault) × (header_answer bytes ≡ Err f) × (r ≡ Err f)

    both : Early x ⊎ Later bytes x → Early y ⊎ Later bytes y → x ≡ y
    both (inl a) (inl b) = a.2 ∙ (ap (λ (f : CaptureFault). Err f) (same_err a.0 b.0 (sym a.1 ∙ b.1)) ∙ sym b.2)
    both (inl a) (inr b) = absurd (apart a.0 (b.form, b.link) (sym a.1 ∙ b.split.says))
    both (inr a) (inl b) = absurd (apart b.0 (a.form, a.link) (sym b.1 ∙ a.split.says))
    both (inr a) (inr b) = later_once bytes x y a b
