-- One piece after another, and that there is one way to cut bytes into pieces.
use Rattle.std.proofs.Common.{◌≡◌, ℕ, ◌+◌, ◌*◌, ◌≤◌, List, [], ◌∷◌, ◌++◌, length, take, drop, sym, ap, ◌∙◌, refl, arith, length-drop, length-append, append_assoc, Ok}
use Rattle.std.proofs.lemmas.List.{append-nil, drop-append-le, take-append-drop, length-take-le, drop-take, drop-drop, map_push, length_push}
use Rattle.std.proofs.lemmas.List.Folds.{concat-append}
use Rattle.std.proofs.Math.Seq.{take-add}
use Rattle.std.specs.List.{concat, AllByRecursion}
use Rattle.byteorder.specs.Numbers.{big_from-append, little_from-append}
use Rattle.capture_reader.specs.declared.form.Form.{Form}
use Rattle.capture_reader.specs.declared.capture.Record.{Record}
use Rattle.capture_reader.specs.Form.{number}
use Rattle.sq_base.specs.declared.kinds.Link.{Link}
use Rattle.capture_reader.specs.Header.{header_answer}
use Rattle.capture_reader.specs.CaptureFile.{Packet, IsSplit, IsSpelling, packet_of, named_length, named_time, packets_of, micros}
use Rattle.capture_reader.specs.Limits.{longest_body, latest_time}
use Rattle.capture_reader.specs.Outcome.{IsInside, packet_at}
use Rattle.capture_reader.specs.SoFar.{ReadsTo}

abbrev packet_with : ℕ → ℕ → List ℕ → Packet
packet_with time from body = record { time = time; from = from; body = body }

-- a number is in its own bytes
pub number-append : (form : Form) (n : ℕ) (xs ys : List ℕ) → n ≤ length xs → number form n (xs ++ ys) ≡ number form n xs
unfolding number
number-append form n xs ys h =
    rw (big_from-append n xs ys h, little_from-append n xs ys h) refl

-- and so it is in a front that holds them
pub number-take : (form : Form) (n k m : ℕ) (xs : List ℕ) → n + k ≤ m → m ≤ length xs → number form n (drop k (take m xs)) ≡ number form n (drop k xs)
number-take form n k m xs h within =
    let long : length (take m xs) ≡ m = length-take-le m xs within in
    let room : n ≤ length (drop k (take m xs)) = omega (arith, length-drop k (take m xs)) in
    let cut : drop k (take m xs) ++ drop m xs ≡ drop k xs = sym (drop-append-le k (take m xs) (drop m xs) (omega arith)) ∙ ap (drop k) (take-append-drop m xs) in
    sym (number-append form n (drop k (take m xs)) (drop m xs) room) ∙ ap (number form n) cut

pub all_push : {X : Type 0} (P : X → Type 0) (xs : List X) (y : X) → AllByRecursion P xs → P y → AllByRecursion P (xs ++ y ∷ [])
all_push P [] y a p = (p, tt)
all_push P (x ∷ xs) y a p = (a.0, all_push P xs y a.1 p)

-- the front of a rest that spells a packet
pub front_spells : (form : Form) (rest : List ℕ) → 16 ≤ length rest → named_length form rest ≤ longest_body → 16 + named_length form rest ≤ length rest → IsSpelling form (take (16 + named_length form rest) rest)
front_spells form rest header most whole =
    let size = 16 + named_length form rest in
    let long : length (take size rest) ≡ size = length-take-le size rest whole in
    let same : named_length form (take size rest) ≡ named_length form rest = number-take form 4 8 size rest (omega arith) whole in
    record { header = omega arith; most = omega arith; whole = omega arith }

same_packet : (t u m n : ℕ) (a b : List ℕ) → t ≡ u → m ≡ n → a ≡ b → packet_with t m a ≡ packet_with u n b
same_packet t u m n a b p q r = cc

-- one more spelling
packets_push : (form : Form) (at : ℕ) (pieces : List (List ℕ)) (piece : List ℕ) → packets_of form at (pieces ++ piece ∷ []) ≡ packets_of form at pieces ++ packet_of form (at + length (concat pieces)) piece ∷ []
packets_push form at [] piece = let here : at ≡ at + 0 = omega arith in ap (λ (n : ℕ). packet_of form n piece ∷ []) here
packets_push form at (x ∷ xs) piece =
    let there : at + length x + length (concat xs) ≡ at + length (x ++ concat xs) = omega (arith, length-append x (concat xs)) in
    ap (λ (ps : List Packet). packet_of form at x ∷ ps) (packets_push form (at + length x) xs piece ∙ ap (λ (n : ℕ). packets_of form (at + length x) xs ++ packet_of form n piece ∷ []) there)

-- and its packet is what the record names
pub front_packet : (form : Form) (bytes : List ℕ) (at : ℕ) (r : Record) → 16 + named_length form (drop at bytes) ≤ length (drop at bytes)
    → r.at ≡ named_time form (drop at bytes) → r.from ≡ at + 16 → r.len ≡ named_length form (drop at bytes)
    → packet_at bytes r ≡ packet_of form at (take (16 + named_length form (drop at bytes)) (drop at bytes))
front_packet form bytes at r whole time from len =
    let rest = drop at bytes in
    let size = 16 + named_length form rest in
    let seconds : number form 4 (take size rest) ≡ number form 4 rest = number-take form 4 0 size rest (omega arith) whole in
    let fraction : number form 4 (drop 4 (take size rest)) ≡ number form 4 (drop 4 rest) = number-take form 4 4 size rest (omega arith) whole in
    let t : r.at ≡ named_time form (take size rest) =
    time ∙ (ap (λ (n : ℕ). n * 1000000 + micros form (number form 4 (drop 4 rest))) (sym seconds)
    ∙ ap (λ (n : ℕ). number form 4 (take size rest) * 1000000 + micros form n) (sym fraction)) in
    let b : take r.len (drop r.from bytes) ≡ drop 16 (take size rest) =
    ap (λ (n : ℕ). take n (drop r.from bytes)) len
    ∙ (ap (λ (n : ℕ). take (named_length form rest) (drop n bytes)) from
    ∙ (ap (take (named_length form rest)) (sym (drop-drop 16 at bytes))
    ∙ sym (drop-take 16 (named_length form rest) rest))) in
    same_packet _ _ _ _ _ _ t from b

-- one more packet
pub reads_more : (form : Form) (bytes : List ℕ) (at : ℕ) (records : List Record) (r : Record) → ReadsTo form bytes at records
    → 16 ≤ length (drop at bytes) → named_length form (drop at bytes) ≤ longest_body → 16 + named_length form (drop at bytes) ≤ length (drop at bytes)
    → r.at ≡ named_time form (drop at bytes) → r.from ≡ at + 16 → r.len ≡ named_length form (drop at bytes) → r.at ≤ latest_time
    → ReadsTo form bytes (at + (16 + named_length form (drop at bytes))) (records ++ r ∷ [])
reads_more form bytes at records r s header most whole time from len small =
    let rest = drop at bytes in
    let size = 16 + named_length form rest in
    let piece = take size rest in
    record {
      pieces = s.pieces ++ piece ∷ [];
      within = omega (arith, length-drop at bytes);
      place = omega (arith, s.place, ap length (concat-append s.pieces (piece ∷ [])), length-append (concat s.pieces) (piece ++ []), ap length (append-nil piece), length-take-le size rest whole);
      front = take-add at size bytes ∙ (ap (λ (xs : List ℕ). xs ++ piece) s.front ∙ (append_assoc (take 24 bytes) (concat s.pieces) piece
          ∙ ap (λ (xs : List ℕ). take 24 bytes ++ xs) (sym (concat-append s.pieces (piece ∷ []) ∙ ap (λ (xs : List ℕ). concat s.pieces ++ xs) (append-nil piece)))));
      spelled = all_push (IsSpelling form) s.pieces piece s.spelled (front_spells form rest header most whole);
      counted = length_push s.pieces piece ∙ (ap (λ (n : ℕ). n + 1) s.counted ∙ sym (length_push records r));
      named = map_push (packet_at bytes) records r
          ∙ (ap (λ (ps : List Packet). ps ++ packet_at bytes r ∷ []) s.named
          ∙ (ap (λ (p : Packet). packets_of form 24 s.pieces ++ p ∷ []) (front_packet form bytes at r whole time from len ∙ ap (λ (n : ℕ). packet_of form n piece) s.place)
          ∙ sym (packets_push form 24 s.pieces piece)));
      inside = all_push (IsInside bytes) records r s.inside (record { room = omega (arith, length-drop at bytes); time = small });
    }

-- where reading stops, the bytes are split
pub split_there : (bytes : List ℕ) (form : Form) (link : Link) (at : ℕ) (records : List Record) → 24 ≤ length bytes → header_answer bytes ≡ Ok (form, link)
    → (s : ReadsTo form bytes at records) → IsSplit bytes form link s.pieces (drop at bytes)
split_there bytes form link at records long says s = record {
  header = take 24 bytes;
  size = length-take-le 24 bytes long;
  whole = sym (take-append-drop at bytes) ∙ (ap (λ (xs : List ℕ). xs ++ drop at bytes) s.front ∙ append_assoc (take 24 bytes) (concat s.pieces) (drop at bytes));
  says = says;
  spelled = s.spelled;
}
