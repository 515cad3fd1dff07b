-- A text that is sent in pieces, one piece after another.
use Rattle.std.proofs.Common.{◌≡◌, ℕ, ◌+◌, ◌-◌, ◌<◌, ◌≤◌, List, [], ◌∷◌, length, take, drop, min, refl, sym, ap, ◌∙◌, arith, cond, false, Bool, eqb, subst, length-drop}
use Rattle.std.specs.Prelude.{suc, zero}
use Rattle.std.proofs.lemmas.Bool.Decides.{nat_tests}
use Rattle.std.proofs.lemmas.List.{drop_all, drop-drop, drop-take, length-take-le}
use Rattle.sq_base.specs.SerialOrder.{dist}
use Rattle.tcb_machine.specs.BlockState.{Block, unsent, snd_nxt}
use Rattle.segment_codec.specs.ControlBits.{ack, psh}
use Rattle.tcb_machine.specs.States.{is_listen}
use Rattle.tcb_machine.specs.Output.{pieces, sends_pieces, sends_text, sendable, outputs_text}
use Rattle.tcb_machine.specs.Limits.{least_mss, most_mss}

not_zero : (n : ℕ) → 0 < n → eqb n 0 ≡ false
not_zero n h = grind (arith, nat_tests)

-- more room for pieces makes no difference
pieces-enough : (k j n : ℕ) (t : List ℕ) → length t ≤ k → length t ≤ j → 0 < n → pieces k n t ≡ pieces j n t
pieces-enough zero zero n t a b h = refl
pieces-enough zero (suc j) n [] a b h = refl
pieces-enough zero (suc j) n (x ∷ xs) a b h = absurd (omega (arith, a))
pieces-enough (suc k) zero n [] a b h = refl
pieces-enough (suc k) zero n (x ∷ xs) a b h = absurd (omega (arith, b))
pieces-enough (suc k) (suc j) n t a b h =
    ap (λ (ps : List (List ℕ)). cond (eqb (length t) 0) [] (take n t ∷ ps))
    (pieces-enough k j n (drop n t) (omega (arith, a, h, length-drop n t)) (omega (arith, b, h, length-drop n t)) h)

-- the first piece of a text
pieces-first : (k n : ℕ) (t : List ℕ) → 0 < length t → length t ≤ k → 0 < n → pieces k n t ≡ take n t ∷ pieces (length t - n) n (drop n t)
pieces-first zero n t some a h = absurd (omega (arith, some, a))
pieces-first (suc k) n t some a h =
    ap (λ (c : Bool). cond c [] (take n t ∷ pieces k n (drop n t))) (not_zero (length t) some)
    ∙ ap (λ (ps : List (List ℕ)). take n t ∷ ps) (pieces-enough k (length t - n) n (drop n t) (omega (arith, a, h, length-drop n t)) (omega (arith, length-drop n t)) h)

-- a piece before others
sends-more : (n : ℕ) (t u : List ℕ) (b : Block) → 0 < length u → 0 < n
    → sends_pieces (t ∷ pieces (length u) n u) b ≡ sends_pieces (pieces (length u) n u) (sends_text ack t b)
sends-more n t u b some h =
    let first : pieces (length u) n u ≡ take n u ∷ pieces (length u - n) n (drop n u) = pieces-first (length u) n u some (omega arith) h in
    ap (λ (ps : List (List ℕ)). sends_pieces (t ∷ ps) b) first ∙ ap (λ (ps : List (List ℕ)). sends_pieces ps (sends_text ack t b)) (sym first)

take-take-le : (m n : ℕ) (xs : List ℕ) → m ≤ n → take m (take n xs) ≡ take m xs
take-take-le zero n xs h = refl
take-take-le (suc m) zero xs h = absurd (omega (arith, h))
take-take-le (suc m) (suc n) [] h = refl
take-take-le (suc m) (suc n) (x ∷ xs) h = ap (λ (ys : List ℕ). x ∷ ys) (take-take-le m n xs (omega (arith, h)))

pieces-none : (k n : ℕ) → pieces k n [] ≡ []
pieces-none zero n = refl
pieces-none (suc k) n = refl

-- the text that is left, after a piece of m bytes
pub unsent-after : (m flags : ℕ) (b : Block) → b.acked ≤ b.sent → m ≤ length (unsent b) → unsent (sends_text flags (take m (unsent b)) b) ≡ drop m (unsent b)
unfolding unsent sends_text
unsent-after m flags b h within =
    ap (λ (k : ℕ). drop k b.out) (omega (arith, h, length-take-le m (drop (b.sent - b.acked) b.out) within)) ∙ sym (drop-drop m (b.sent - b.acked) b.out)

pub text-more : (left m : ℕ) (b : Block) → 0 < m → m < left → left ≤ length (unsent b) → b.acked ≤ b.sent
    → sends_pieces (pieces left m (take left (unsent b))) b
    ≡ sends_pieces (pieces (left - m) m (take (left - m) (unsent (sends_text ack (take m (unsent b)) b)))) (sends_text ack (take m (unsent b)) b)
text-more left m b some more within h =
    let u = unsent b in
    let t = take left u in
    let rest = take (left - m) (drop m u) in
    let b' = sends_text ack (take m u) b in
    let long : length t ≡ left = length-take-le left u within in
    let part : drop m t ≡ rest = ap (λ (k : ℕ). drop m (take k u)) (omega (arith, more)) ∙ drop-take m (left - m) u in
    let count : length rest ≡ left - m = length-take-le (left - m) (drop m u) (omega (arith, within, length-drop m u)) in
    let first : pieces left m t ≡ take m t ∷ pieces (length t - m) m (drop m t) = pieces-first left m t (omega (arith, long, more)) (omega (arith, long)) some in
    ap (λ (ps : List (List ℕ)). sends_pieces ps b) first
    ∙ (ap (λ (p : List ℕ). sends_pieces (p ∷ pieces (length t - m) m (drop m t)) b) (take-take-le m left u (omega (arith, more)))
    ∙ (ap (λ (p : List ℕ). sends_pieces (take m u ∷ pieces (length t - m) m p) b) part
    ∙ (ap (λ (k : ℕ). sends_pieces (take m u ∷ pieces k m rest) b) (omega (arith, long, count))
    ∙ (sends-more m (take m u) rest b (omega (arith, count, more)) some
    ∙ (ap (λ (k : ℕ). sends_pieces (pieces k m rest) b') count
    ∙ ap (λ (p : List ℕ). sends_pieces (pieces (left - m) m (take (left - m) p)) b') (sym (unsent-after m ack b h (omega (arith, more, within)))))))))

pub text-last : (left m : ℕ) (b : Block) → 0 < left → left ≤ m → left ≤ length (unsent b)
    → sends_pieces (pieces left m (take left (unsent b))) b ≡ sends_text (psh + ack) (take left (unsent b)) b
text-last left m b some few within =
    let t = take left (unsent b) in
    let long : length t ≡ left = length-take-le left (unsent b) within in
    let none : drop m t ≡ [] = drop_all m t (omega (arith, long, few)) in
    let all : take m t ≡ t = take-all m t (omega (arith, long, few)) in
    let first : pieces left m t ≡ take m t ∷ pieces (length t - m) m (drop m t) = pieces-first left m t (omega (arith, long, some)) (omega (arith, long)) (omega (arith, some, few)) in
    ap (λ (ps : List (List ℕ)). sends_pieces ps b) first
    ∙ (ap (λ (p : List ℕ). sends_pieces (p ∷ pieces (length t - m) m (drop m t)) b) all
    ∙ (ap (λ (p : List ℕ). sends_pieces (t ∷ pieces (length t - m) m p) b) none
    ∙ ap (λ (ps : List (List ℕ)). sends_pieces (t ∷ ps) b) (pieces-none (length t - m) m)))
  where
    take-all : (n : ℕ) (xs : List ℕ) → length xs ≤ n → take n xs ≡ xs
    take-all zero [] h = refl
    take-all zero (x ∷ xs) h = absurd (omega (arith, h))
    take-all (suc n) [] h = refl
    take-all (suc n) (x ∷ xs) h = ap (λ (ys : List ℕ). x ∷ ys) (take-all n xs (omega (arith, h)))

pub text-first : (u left : ℕ) (b : Block) → u ≡ b.wnd - dist b.una (snd_nxt b) → left ≡ min u (length (unsent b))
    → sends_pieces (pieces left b.agreed.mss (take left (unsent b))) b ≡ outputs_text b
unfolding outputs_text sendable
text-first u left b e l =
    let xs = unsent b in
    let same : take left xs ≡ take (b.wnd - dist b.una (snd_nxt b)) xs = ap (λ (k : ℕ). take k xs) l ∙ (take-min u xs ∙ ap (λ (k : ℕ). take k xs) e) in
    let long : left ≡ length (take left xs) = sym (length-take-le left xs (omega (arith, l))) in
    ap (λ (k : ℕ). sends_pieces (pieces k b.agreed.mss (take left xs)) b) long
    ∙ ap (λ (t : List ℕ). sends_pieces (pieces (length t) b.agreed.mss t) b) same
  where
    take-min : (n : ℕ) (xs : List ℕ) → take (min n (length xs)) xs ≡ take n xs
    take-min zero xs = let e : min zero (length xs) ≡ zero = omega arith in ap (λ (k : ℕ). take k xs) e
    take-min (suc n) [] = let e : min (suc n) 0 ≡ zero = omega arith in ap (λ (k : ℕ). take k []) e
    take-min (suc n) (x ∷ xs) = let e : min (suc n) (length (x ∷ xs)) ≡ suc (min n (length xs)) = omega arith in ap (λ (k : ℕ). take k (x ∷ xs)) e ∙ ap (λ (ys : List ℕ). x ∷ ys) (take-min n xs)

-- the pieces that are left to send make the rest of the output
pub record Left (left most : ℕ) (b old : Block) : Type 0 where
  pub opened : is_listen b.state ≡ false
  pub size : most ≡ b.agreed.mss
  pub some : least_mss ≤ most
  pub small : most ≤ most_mss
  pub within : left ≤ length (unsent b)
  pub ordered : b.acked ≤ b.sent
  pub state : b.state ≡ old.state
  pub clock : b.clock ≡ old.clock
  pub recv : b.recv ≡ old.recv
  pub acked : b.acked ≡ old.acked
  pub out : b.out ≡ old.out
  pub held : left ≤ 65535
  pub rest : sends_pieces (pieces left most (take left (unsent b))) b ≡ outputs_text old

pub left-more : (left most : ℕ) (b old b' : Block) → Left left most b old → most < left → b' ≡ sends_text ack (take most (unsent b)) b → Left (left - most) most b' old
unfolding sends_text
left-more left most b old b' l more e =
    let fits : most ≤ length (unsent b) = omega (arith, l.within, more) in
    let long : length (take most (unsent b)) ≡ most = length-take-le most (unsent b) fits in
    let after = unsent-after most ack b l.ordered fits in
    let count : length (unsent (sends_text ack (take most (unsent b)) b)) ≡ length (unsent b) - most = ap length after ∙ length-drop most (unsent b) in
    let one : 0 < most = omega (arith, l.some) in
    subst (λ (x : Block). Left (left - most) most x old) (sym e) (record {
      opened = l.opened;
      size = l.size;
      some = l.some;
      small = l.small;
      within = omega (arith, count, l.within, more);
      ordered = omega (arith, l.ordered);
      state = l.state;
      clock = l.clock;
      recv = l.recv;
      acked = l.acked;
      out = l.out;
      held = omega (arith, l.held);
      rest = sym (text-more left most b one more l.within l.ordered) ∙ l.rest;
    })

pub left-last : (left most : ℕ) (b old b' : Block) → Left left most b old → 0 < left → left ≤ most → b' ≡ sends_text (psh + ack) (take left (unsent b)) b → b' ≡ outputs_text old
left-last left most b old b' l some few e = e ∙ (sym (text-last left most b some few l.within) ∙ l.rest)

pub unsent-length : (b : Block) → length (unsent b) ≡ length b.out - (b.sent - b.acked)
unfolding unsent
unsent-length b = length-drop (b.sent - b.acked) b.out

pub record Kept (b c : Block) : Type 0 where
  pub state : c.state ≡ b.state
  pub clock : c.clock ≡ b.clock
  pub recv : c.recv ≡ b.recv
  pub acked : c.acked ≡ b.acked
  pub out : c.out ≡ b.out

pub left-kept : (left most flags : ℕ) (text : List ℕ) (b old b' : Block) → Left left most b old → b' ≡ sends_text flags text b → Kept old b'
unfolding sends_text
left-kept left most flags text b old b' l e =
    subst (λ (x : Block). Kept old x) (sym e) (record { state = l.state; clock = l.clock; recv = l.recv; acked = l.acked; out = l.out })
