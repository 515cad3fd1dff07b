-- The generated capture is a capture: its header, 100,000 spellings, and no rest.
use Rattle.std.proofs.Common.{◌≡◌, ℕ, ◌+◌, ◌*◌, ◌%◌, ◌^◌, ◌<◌, ◌≤◌, Bool, true, false, ◌&&◌, leb, cond, List, [], ◌∷◌, ◌++◌, length, map, refl, sym, ap, ◌∙◌, arith, Ok, Err}
use Rattle.std.specs.List.{flat_map, concat, AllByRecursion}
use Rattle.std.proofs.lemmas.Bool.{le-ltb}
use Rattle.std.proofs.lemmas.List.{append-nil, length-map}
use Rattle.std.proofs.lemmas.List.Concat.{length-flat_map}
use Rattle.std.proofs.lemmas.List.Folds.{concat-append}
use Rattle.byteorder.specs.Endian.{little_bytes, big_number}
use Rattle.byteorder.specs.Numbers.{little_number-reads_back}
use Rattle.sq_base.specs.declared.kinds.Link.TheVariants.{RawIp}
use Rattle.segment_codec.specs.SegmentBytes.{segment_bytes}
use Rattle.capture_reader.specs.declared.form.Form.{Form}
use Rattle.capture_reader.specs.declared.fault.CaptureFault.TheVariants as fault
use Rattle.capture_reader.specs.Form.{number, form_of}
use Rattle.capture_reader.specs.Header.{header_answer, magic_answer}
use Rattle.capture_reader.specs.Limits.{most_records}
use Rattle.capture_reader.specs.CaptureFile.{IsSpelling, named_length, packets_of, IsSplit}
use Rattle.squeue_run.specs.GeneratedCapture.{below, text_len, ends_of, segment_at, record_of, record_at, round_before, rounds_before, file_header, generated, IsAccepted}
use Rattle.squeue_run.proofs.GeneratedSize.{body_size, record_size, generated_size, length_below, same_sum}

little : Form
little = record { big_endian = false; nanoseconds = false }

short_text : (round c : ℕ) → text_len round c ≤ 96
unfolding text_len
short_text round c = by (leb 2 round && leb round 97)
  where
    by : (b : Bool) → cond b (1 + (c + round) % 96) 0 ≤ 96
    by true = omega arith
    by false = omega arith

names_length : (at : ℕ) (body : List ℕ) → length body < 2 ^ 32 → named_length little (record_of at body) ≡ length body
unfolding little record_of number
names_length at body few = little_number-reads_back 4 (length body) (little_bytes 4 (length body) ++ body) few

record_names : (n round c : ℕ) → named_length little (record_at n round c) ≡ 40 + text_len round c
unfolding record_at
record_names n round c =
    let size = body_size n round c in
    names_length (10 * (1000 * round + c)) (segment_bytes (ends_of c) (segment_at n round c)) (omega (arith, size, short_text round c)) ∙ size

record_spelled : (n round c : ℕ) → IsSpelling little (record_at n round c)
record_spelled n round c =
    let names = record_names n round c in
    let size = record_size n round c in
    let few = short_text round c in
    record { header = omega (arith, size); most = omega (arith, names, few); whole = omega (arith, names, size) }

-- the records of so many rounds of so many connections
records : ℕ → ℕ → ℕ → List (List ℕ)
records n conns rounds = flat_map (λ k. map (record_at n k) (below conns)) (below rounds)

joined_map : (f : ℕ → List ℕ) (xs : List ℕ) → concat (map f xs) ≡ flat_map f xs
joined_map f [] = refl
joined_map f (x ∷ xs) = ap (λ l. f x ++ l) (joined_map f xs)

joined : (n conns : ℕ) (xs : List ℕ) → concat (flat_map (λ k. map (record_at n k) (below conns)) xs) ≡ flat_map (λ k. round_before n k conns) xs
unfolding round_before
joined n conns [] = refl
joined n conns (x ∷ xs) =
    concat-append (map (record_at n x) (below conns)) (flat_map (λ k. map (record_at n k) (below conns)) xs)
    ∙ (λ i. joined_map (record_at n x) (below conns) i ++ joined n conns xs i)

all_map : (P : List ℕ → Type 0) (f : ℕ → List ℕ) (xs : List ℕ) → ((x : ℕ) → P (f x)) → AllByRecursion P (map f xs)
all_map P f [] h = tt
all_map P f (x ∷ xs) h = (h x, all_map P f xs h)

all_joined : (P : List ℕ → Type 0) (xs ys : List (List ℕ)) → AllByRecursion P xs → AllByRecursion P ys → AllByRecursion P (xs ++ ys)
all_joined P [] ys h g = g
all_joined P (x ∷ xs) ys h g = (h.0, all_joined P xs ys h.1 g)

all_flat : (P : List ℕ → Type 0) (F : ℕ → List (List ℕ)) (xs : List ℕ) → ((x : ℕ) → AllByRecursion P (F x)) → AllByRecursion P (flat_map F xs)
all_flat P F [] h = tt
all_flat P F (x ∷ xs) h = all_joined P (F x) (flat_map F xs) (h x) (all_flat P F xs h)

all_spelled : (n conns rounds : ℕ) → AllByRecursion (IsSpelling little) (records n conns rounds)
unfolding records
all_spelled n conns rounds =
    all_flat (IsSpelling little) (λ k. map (record_at n k) (below conns)) (below rounds)
    (λ k. all_map (IsSpelling little) (record_at n k) (below conns) (record_spelled n k))

count : (n conns rounds : ℕ) → length (records n conns rounds) ≡ conns * rounds
unfolding records
count n conns rounds =
    length-flat_map (λ k. map (record_at n k) (below conns)) (below rounds)
    ∙ same_sum (λ k. length (map (record_at n k) (below conns))) conns (below rounds) (λ k. length-map (below conns) (record_at n k) ∙ length_below conns)
    ∙ ap (λ r. conns * r) (length_below rounds)

in_rounds : (n rounds : ℕ) → concat (records n 1000 rounds) ≡ rounds_before n rounds
unfolding records rounds_before
in_rounds n rounds = joined n 1000 (below rounds)

says : (n : ℕ) → header_answer (generated n) ≡ Ok (little, RawIp)
unfolding header_answer number generated file_header little
says n =
    let long : 24 ≤ length (generated n) = omega (arith, generated_size n) in
    ap (λ b. cond b (Err (fault.ShortHeader (length (generated n)))) (magic_answer (form_of (big_number 4 (generated n))) (generated n))) (le-ltb (length (generated n)) 24 long)

header_size : length file_header ≡ 24
unfolding file_header
header_size = refl

split : (n : ℕ) → IsSplit (generated n) little RawIp (records n 1000 100) []
unfolding generated
split n = record {
  header = file_header;
  size = header_size;
  whole = ap (λ l. file_header ++ l) (sym (append-nil (concat (records n 1000 100)) ∙ in_rounds n 100));
  says = says n;
  spelled = all_spelled n 1000 100;
}

pub accepted : (n : ℕ) → IsAccepted (generated n)
accepted n = (
  record { link = RawIp; packets = packets_of little 24 (records n 1000 100); cut = false },
  record {
    form = little;
    pieces = records n 1000 100;
    rest = [];
    split = split n;
    ends = (refl, let few : length (records n 1000 100) ≤ most_records = omega (arith, count n 1000 100) in few);
    named = refl;
  },
)
