-- The numbers of a round's segment, arm by arm.
use Rattle.std.proofs.Common.{◌≡◌, ℕ, ◌+◌, ◌-◌, ◌%◌, ◌^◌, ◌≤◌, Bool, true, false, cond, eqb, refl, sym, ap, subst, ◌∙◌, arith}
use Rattle.std.proofs.lemmas.Bool.{eqb-true, le-leb, false_from_ne_true, lt-leb}
use Rattle.squeue_run.specs.declared.generator.Client.{Client}
use Rattle.squeue_run.specs.GeneratedCapture.{Numbers, numbers_at, isn, iss, sent_before, text_len, echoed}
use Rattle.squeue_run.specs.GeneratorState.{client_at}
use Rattle.squeue_run.proofs.GeneratorSteps.{all_sent}

other : (a b : ℕ) → (a ≡ b → ⊥) → eqb a b ≡ false
other a b h = false_from_ne_true (eqb a b) (λ e. h (eqb-true a b e))

-- the rows
abbrev pub text_row : ℕ → ℕ → ℕ → Numbers
text_row number round c = record { flags = 24; seq = (isn number c + 1 + sent_before round c) % 2 ^ 32; ack = (iss number c + 1 + echoed c (sent_before round c)) % 2 ^ 32 }

abbrev pub fin_row : ℕ → ℕ → Numbers
fin_row number c = record { flags = 17; seq = (isn number c + 4657) % 2 ^ 32; ack = (iss number c + 1 + echoed c 4656) % 2 ^ 32 }

abbrev pub last_row : ℕ → ℕ → Numbers
last_row number c = record { flags = 16; seq = (isn number c + 4658) % 2 ^ 32; ack = (iss number c + 2 + echoed c 4656) % 2 ^ 32 }

pub in_text : (number round c : ℕ) → 2 ≤ round → round ≤ 97 → numbers_at number round c ≡ text_row number round c
unfolding numbers_at
in_text number round c low high =
    let e0 = other round 0 (λ e. let no : ⊥ = omega arith in no) in
    let e1 = other round 1 (λ e. let no : ⊥ = omega arith in no) in
    let e97 = le-leb round 97 high in
    λ i. cond (e0 i) (record { flags = 2; seq = isn number c; ack = 0 }) (cond (e1 i) (record { flags = 16; seq = (isn number c + 1) % 2 ^ 32; ack = (iss number c + 1) % 2 ^ 32 })
    (cond (e97 i) (text_row number round c) (cond (eqb round 98) (fin_row number c) (last_row number c))))

pub in_fin : (number round c : ℕ) → round ≡ 98 → numbers_at number round c ≡ fin_row number c
unfolding numbers_at
in_fin number round c e = ap (λ r. numbers_at number r c) e

pub in_last : (number round c : ℕ) → 99 ≤ round → numbers_at number round c ≡ last_row number c
unfolding numbers_at
in_last number round c low =
    let e0 = other round 0 (λ e. let no : ⊥ = omega arith in no) in
    let e1 = other round 1 (λ e. let no : ⊥ = omega arith in no) in
    let e97 = lt-leb round 97 (omega arith) in
    let e98 = other round 98 (λ e. let no : ⊥ = omega arith in no) in
    λ i. cond (e0 i) (record { flags = 2; seq = isn number c; ack = 0 }) (cond (e1 i) (record { flags = 16; seq = (isn number c + 1) % 2 ^ 32; ack = (iss number c + 1) % 2 ^ 32 })
    (cond (e97 i) (text_row number round c) (cond (e98 i) (fin_row number c) (last_row number c))))

-- a client's next byte and what it acknowledges
abbrev pub seq_of : Client → ℕ
seq_of x = (x.isn + 1 + x.sent) % 2 ^ 32

abbrev pub ack_of : Client → ℕ
ack_of x = (x.iss + 1 + cond x.echoed x.sent 0) % 2 ^ 32

pub seq_is : (number round c : ℕ) (x : Client) → x ≡ client_at number round c → seq_of x ≡ (isn number c + 1 + sent_before round c) % 2 ^ 32
unfolding client_at
seq_is number round c x e =
    let m : (isn number c + 1 + sent_before round c % 2 ^ 32) % 2 ^ 32 ≡ (isn number c + 1 + sent_before round c) % 2 ^ 32 = omega arith in
    ap seq_of e ∙ m

pub ack_is : (number round c : ℕ) (x : Client) → x ≡ client_at number round c → ack_of x ≡ (iss number c + 1 + echoed c (sent_before round c)) % 2 ^ 32
unfolding client_at
ack_is number round c x e = ap ack_of e ∙ by (eqb (c % 2) 0)
  where
    by : (b : Bool) → (iss number c + 1 + cond b (sent_before round c % 2 ^ 32) 0) % 2 ^ 32 ≡ (iss number c + 1 + cond b (sent_before round c) 0) % 2 ^ 32
    by true = omega arith
    by false = refl

-- in the last two rounds
pub fin_sent : (round c : ℕ) → 98 ≤ round → sent_before round c ≡ 4656
fin_sent round c low = subst (λ r. sent_before r c ≡ 4656) (let e : 98 + (round - 98) ≡ round = omega arith in e) (all_sent (round - 98) c)

-- the numbers of an arm
pub syn_seq : (number round c : ℕ) (x : Client) → round ≡ 0 → x ≡ client_at number round c → x.isn ≡ (numbers_at number round c).seq
unfolding numbers_at client_at
syn_seq number round c x e f = ap (λ y. y.isn) f ∙ ap (λ r. (numbers_at number r c).seq) (sym e)

pub ack_seq : (number round c : ℕ) (x : Client) → round ≡ 1 → x ≡ client_at number round c → seq_of x ≡ (numbers_at number round c).seq
unfolding numbers_at sent_before text_len
ack_seq number round c x e f =
    let none : (isn number c + 1 + sent_before 1 c) % 2 ^ 32 ≡ (isn number c + 1) % 2 ^ 32 = ap (λ n. n % 2 ^ 32) (let z : isn number c + 1 + 0 ≡ isn number c + 1 = omega arith in z) in
    seq_is number round c x f ∙ ap (λ r. (isn number c + 1 + sent_before r c) % 2 ^ 32) e ∙ none ∙ ap (λ r. (numbers_at number r c).seq) (sym e)

pub ack_ack : (number round c : ℕ) (x : Client) → round ≡ 1 → x ≡ client_at number round c → ack_of x ≡ (numbers_at number round c).ack
unfolding numbers_at sent_before text_len
ack_ack number round c x e f =
    ack_is number round c x f ∙ ap (λ r. (iss number c + 1 + echoed c (sent_before r c)) % 2 ^ 32) e
    ∙ ap (λ n. n % 2 ^ 32) (none (eqb (c % 2) 0)) ∙ ap (λ r. (numbers_at number r c).ack) (sym e)
  where
    none : (b : Bool) → iss number c + 1 + cond b 0 0 ≡ iss number c + 1
    none true = omega arith
    none false = omega arith

pub text_seq : (number round c : ℕ) (x : Client) → 2 ≤ round → round ≤ 97 → x ≡ client_at number round c → seq_of x ≡ (numbers_at number round c).seq
text_seq number round c x low high f = seq_is number round c x f ∙ sym (ap (λ n. n.seq) (in_text number round c low high))

pub text_ack : (number round c : ℕ) (x : Client) → 2 ≤ round → round ≤ 97 → x ≡ client_at number round c → ack_of x ≡ (numbers_at number round c).ack
text_ack number round c x low high f = ack_is number round c x f ∙ sym (ap (λ n. n.ack) (in_text number round c low high))

pub fin_seq : (number round c : ℕ) (x : Client) → round ≡ 98 → x ≡ client_at number round c → seq_of x ≡ (numbers_at number round c).seq
fin_seq number round c x e f =
    let n : isn number c + 1 + sent_before round c ≡ isn number c + 4657 = omega (arith, fin_sent round c (omega arith)) in
    seq_is number round c x f ∙ ap (λ n. n % 2 ^ 32) n ∙ sym (ap (λ n. n.seq) (in_fin number round c e))

pub fin_ack : (number round c : ℕ) (x : Client) → round ≡ 98 → x ≡ client_at number round c → ack_of x ≡ (numbers_at number round c).ack
fin_ack number round c x e f =
    ack_is number round c x f ∙ ap (λ n. (iss number c + 1 + echoed c n) % 2 ^ 32) (fin_sent round c (omega arith)) ∙ sym (ap (λ n. n.ack) (in_fin number round c e))

pub last_seq : (number round c : ℕ) (x : Client) → 99 ≤ round → x ≡ client_at number round c → (seq_of x + 1) % 2 ^ 32 ≡ (numbers_at number round c).seq
last_seq number round c x low f =
    let n : isn number c + 1 + sent_before round c ≡ isn number c + 4657 = omega (arith, fin_sent round c (omega arith)) in
    let m : ((isn number c + 4657) % 2 ^ 32 + 1) % 2 ^ 32 ≡ (isn number c + 4658) % 2 ^ 32 = omega arith in
    ap (λ s. (s + 1) % 2 ^ 32) (seq_is number round c x f ∙ ap (λ n. n % 2 ^ 32) n) ∙ m ∙ sym (ap (λ n. n.seq) (in_last number round c low))

pub last_ack : (number round c : ℕ) (x : Client) → 99 ≤ round → x ≡ client_at number round c → (ack_of x + 1) % 2 ^ 32 ≡ (numbers_at number round c).ack
last_ack number round c x low f =
    let n = ap (λ n. (iss number c + 1 + echoed c n) % 2 ^ 32) (fin_sent round c (omega arith)) in
    let m : ((iss number c + 1 + echoed c 4656) % 2 ^ 32 + 1) % 2 ^ 32 ≡ (iss number c + 2 + echoed c 4656) % 2 ^ 32 = omega arith in
    ap (λ s. (s + 1) % 2 ^ 32) (ack_is number round c x f ∙ n) ∙ m ∙ sym (ap (λ n. n.ack) (in_last number round c low))

pub syn_flags : (number round c : ℕ) → round ≡ 0 → 2 ≡ (numbers_at number round c).flags
unfolding numbers_at
syn_flags number round c e = ap (λ r. (numbers_at number r c).flags) (sym e)

pub syn_ack : (number round c : ℕ) → round ≡ 0 → 0 ≡ (numbers_at number round c).ack
unfolding numbers_at
syn_ack number round c e = ap (λ r. (numbers_at number r c).ack) (sym e)

pub ack_flags : (number round c : ℕ) → round ≡ 1 → 16 ≡ (numbers_at number round c).flags
unfolding numbers_at
ack_flags number round c e = ap (λ r. (numbers_at number r c).flags) (sym e)
