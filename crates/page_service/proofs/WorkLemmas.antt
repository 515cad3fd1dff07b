-- What turns do to a block before its FIN is wanted: bytes are taken from the front, and bytes are offered at the end.
use Rattle.std.proofs.Common.{◌≡◌, ℕ, ◌+◌, ◌-◌, ◌≤◌, List, [], ◌∷◌, ◌++◌, Option, None, Some, false, length, take, drop, refl, sym, ap, ◌∙◌, arith, append_assoc, append-nil, length-append}
use Rattle.std.specs.Prelude.{suc, zero}
use Rattle.std.proofs.lemmas.Bool.{false≢true}
use Rattle.std.proofs.lemmas.List.{drop-drop}
use Rattle.byte_queues.specs.ReceiveQueue.{Cells, Recv, bytes, front, next_bytes, next_of, ready_of, up_to, without}
use Rattle.byte_queues.specs.SendQueue.{room_of}
use Rattle.tcb_machine.specs.BlockState.{Block}
use Rattle.tcb_machine.specs.States.{is_listen}
use Rattle.tcb_machine.specs.Validity.{IsValid}
use Rattle.tcb_machine.proofs.QueueLemmas.{next_without}
use Rattle.tcb_machine.proofs.ValidLemmas.{without-receiving}
use Rattle.echo_services.specs.Closing.{throws}

-- the bytes of cells, cut anywhere

no-cells : (m n : ℕ) → bytes (take (m + n) []) ≡ bytes (take m []) ++ bytes (take n (drop m []))
no-cells m n = nothing (m + n) ∙ sym (ap (λ (xs : List ℕ). xs ++ bytes (take n (drop m []))) (nothing m) ∙ none-left m n)
  where
    nothing : (k : ℕ) → bytes (take k []) ≡ []
    nothing zero = refl
    nothing (suc k) = refl

    none-left : (m n : ℕ) → bytes (take n (drop m [])) ≡ []
    none-left zero n = nothing n
    none-left (suc m) n = nothing n

pub bytes-split : (m n : ℕ) (cs : Cells) → bytes (take (m + n) cs) ≡ bytes (take m cs) ++ bytes (take n (drop m cs))
bytes-split zero n cs = let e : 0 + n ≡ n = omega arith in ap (λ (k : ℕ). bytes (take k cs)) e
bytes-split (suc m) n [] = no-cells (suc m) n
bytes-split (suc m) n (None ∷ cs) = let e : suc m + n ≡ suc (m + n) = omega arith in ap (λ (k : ℕ). bytes (take k (None ∷ cs))) e ∙ bytes-split m n cs
bytes-split (suc m) n (Some x ∷ cs) = let e : suc m + n ≡ suc (m + n) = omega arith in ap (λ (k : ℕ). bytes (take k (Some x ∷ cs))) e ∙ ap (λ (xs : List ℕ). x ∷ xs) (bytes-split m n cs)

front-bytes : (n k : ℕ) (cs : Cells) → n ≤ k → k ≤ front cs → take n (bytes (take k cs)) ≡ bytes (take n cs)
front-bytes zero k cs h w = refl
front-bytes (suc n) zero cs h w = absurd (omega (arith, h))
front-bytes (suc n) (suc k) [] h w = absurd (omega (arith, w))
front-bytes (suc n) (suc k) (None ∷ cs) h w = absurd (omega (arith, w))
front-bytes (suc n) (suc k) (Some x ∷ cs) h w = ap (λ (xs : List ℕ). x ∷ xs) (front-bytes n k cs (omega (arith, h)) (omega (arith, w)))

up-le : (o : Option ℕ) (n : ℕ) → up_to o n ≤ n
up-le None n = omega arith
up-le (Some m) n = omega arith

-- the first of the bytes that are ready
pub first-ready : (n : ℕ) (q : Recv) → n ≤ ready_of q → take n (next_bytes (ready_of q) q) ≡ next_bytes n q
unfolding next_bytes ready_of next_of
first-ready n q h =
    let u = up-le q.stream_end (q.taken + front q.got) in
    front-bytes n (up_to q.stream_end (q.taken + front q.got) - q.taken) q.got h (omega (arith, u))

-- what left a block, and what was offered

pub record Adds (b c : Block) (taken offered : List ℕ) : Type 0 where
  pub least : b.recv.taken ≤ c.recv.taken
  pub got : c.recv.got ≡ drop (c.recv.taken - b.recv.taken) b.recv.got
  pub read : next_bytes (c.recv.taken - b.recv.taken) b.recv ≡ taken
  pub out : c.out ≡ b.out ++ offered

pub adds-nothing : (b c : Block) → c.recv ≡ b.recv → c.out ≡ b.out → Adds b c [] []
unfolding next_bytes
adds-nothing b c r o =
    let t = ap (λ (q : Recv). q.taken) r in
    let z : c.recv.taken - b.recv.taken ≡ 0 = omega (arith, t) in
    record {
      least = omega (arith, t);
      got = ap (λ (q : Recv). q.got) r ∙ ap (λ (n : ℕ). drop n b.recv.got) (sym z);
      read = ap (λ (n : ℕ). bytes (take n b.recv.got)) z;
      out = o ∙ sym (append-nil b.out);
    }

pub adds-taken : (n : ℕ) (b : Block) → Adds b (throws n b) (next_bytes n b.recv) []
unfolding without
adds-taken n b =
    let e : b.recv.taken + n - b.recv.taken ≡ n = omega arith in
    record {
      least = omega arith;
      got = ap (λ (k : ℕ). drop k b.recv.got) (sym e);
      read = ap (λ (k : ℕ). next_bytes k b.recv) e;
      out = sym (append-nil b.out);
    }

pub adds-offered : (text : List ℕ) (b : Block) → Adds b (record b { out = b.out ++ text }) [] text
unfolding next_bytes
adds-offered text b =
    let z : b.recv.taken - b.recv.taken ≡ 0 = omega arith in
    record { least = omega arith; got = ap (λ (n : ℕ). drop n b.recv.got) (sym z); read = ap (λ (n : ℕ). bytes (take n b.recv.got)) z; out = refl }

pub adds-both : (b c d : Block) (r s o t : List ℕ) → Adds b c r o → Adds c d s t → Adds b d (r ++ s) (o ++ t)
unfolding next_bytes
adds-both b c d r s o t f g =
    let m = c.recv.taken - b.recv.taken in
    let n = d.recv.taken - c.recv.taken in
    let l = f.least in
    let k = g.least in
    let e : d.recv.taken - b.recv.taken ≡ m + n = omega (arith, l, k) in
    record {
      least = omega (arith, l, k);
      got = g.got ∙ (ap (drop n) f.got ∙ (drop-drop n m b.recv.got ∙ ap (λ (i : ℕ). drop i b.recv.got) (sym e)));
      read =
          ap (λ (i : ℕ). bytes (take i b.recv.got)) e
          ∙ (bytes-split m n b.recv.got
          ∙ (ap (λ (xs : List ℕ). xs ++ bytes (take n (drop m b.recv.got))) f.read
          ∙ ap (λ (xs : List ℕ). r ++ xs) (ap (λ (cs : Cells). bytes (take n cs)) (sym f.got) ∙ g.read)));
      out = g.out ∙ (ap (λ (xs : List ℕ). xs ++ t) f.out ∙ append_assoc b.out o t);
    }

-- a block on which turns were taken, and our FIN isn't wanted

pub record Works (b c : Block) : Type 0 where
  pub state : c.state ≡ b.state
  pub valid : IsValid c
  pub mss : c.agreed.mss ≡ b.agreed.mss
  pub replies : c.replies ≡ b.replies
  pub acked : c.acked ≡ b.acked
  pub least : b.recv.taken ≤ c.recv.taken
  pub next : next_of c.recv ≡ next_of b.recv
  pub out : length c.out + room_of c.out ≡ length b.out + room_of b.out

pub works-same : (b : Block) → IsValid b → Works b b
works-same b v = record { state = refl; valid = v; mss = refl; replies = refl; acked = refl; least = omega arith; next = refl; out = refl }

pub works-both : (b c d : Block) → Works b c → Works c d → Works b d
works-both b c d f g =
    let l = f.least in
    let k = g.least in
    record {
      state = g.state ∙ f.state;
      valid = g.valid;
      mss = g.mss ∙ f.mss;
      replies = g.replies ∙ f.replies;
      acked = g.acked ∙ f.acked;
      least = omega (arith, l, k);
      next = g.next ∙ f.next;
      out = g.out ∙ f.out;
    }

open-new : (b c : Block) → c.state ≡ b.state → is_listen b.state ≡ false → is_listen c.state ≡ false
open-new b c s o = ap is_listen s ∙ o

pub works-taken : (n : ℕ) (b : Block) → is_listen b.state ≡ false → IsValid b → n ≤ ready_of b.recv → Works b (throws n b)
unfolding without
works-taken n b o v w = record {
  state = refl;
  valid = record { recv = without-receiving b.want n b.recv w v.recv; send = v.send; mss = v.mss; timed = v.timed; ours = v.ours; new = λ e. absurd (false≢true (sym o ∙ e)) };
  mss = refl;
  replies = refl;
  acked = refl;
  least = omega arith;
  next = next_without n b.recv w;
  out = refl;
}

pub works-offered : (text : List ℕ) (b : Block) → is_listen b.state ≡ false → IsValid b → length text ≤ room_of b.out → Works b (record b { out = b.out ++ text })
works-offered text b o v w =
    let l = length-append b.out text in
    let a = v.send.acked_sent in
    let s = v.send.sent_out in
    record {
      state = refl;
      valid = record { recv = v.recv; send = record { acked_sent = a; sent_out = omega (arith, s, l) }; mss = v.mss; timed = v.timed; ours = v.ours; new = λ e. absurd (false≢true (sym o ∙ e)) };
      mss = refl;
      replies = refl;
      acked = refl;
      least = omega arith;
      next = refl;
      out = omega (arith, l, w);
    }
