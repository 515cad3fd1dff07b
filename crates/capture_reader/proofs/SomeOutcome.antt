-- Bytes can be cut up: as many spellings as there are, within a number, and then a rest.
use Rattle.std.proofs.Common.{◌≡◌, ℕ, zero, suc, ◌+◌, ◌<◌, ◌≤◌, true, false, List, [], ◌∷◌, ◌++◌, length, take, drop, Result, Ok, Err, ◌⊎◌, inl, inr, sym, ap, ◌∙◌, refl, arith, append_assoc}
use Rattle.std.proofs.lemmas.List.{take-append-drop, length-take-le}
use Rattle.std.specs.List.{concat, AllByRecursion}
use Rattle.std.proofs.lemmas.Bool.{cases_lt}
use Rattle.sq_base.specs.declared.kinds.Link.{Link}
use Rattle.capture_reader.specs.declared.form.Form.{Form}
use Rattle.capture_reader.specs.declared.fault.CaptureFault.{CaptureFault}
use Rattle.capture_reader.specs.declared.fault.CaptureFault.TheVariants as fault
use Rattle.capture_reader.specs.Header.{header_answer}
use Rattle.capture_reader.specs.CaptureFile.{Contents, IsSplit, IsSpelling, IsPartial, IsTooLong, Meets, packets_of, named_length}
use Rattle.capture_reader.specs.Limits.{most_records, longest_body}
use Rattle.capture_reader.proofs.Pieces.{front_spells}
use Rattle.capture_reader.proofs.Outcomes.{header_long, header_refuses}

-- why no spelling begins here
abbrev Stopped : Form → List ℕ → Type 0
Stopped form z = (z ≡ []) ⊎ (IsPartial form z ⊎ IsTooLong (named_length form z) form z)

-- a spelling begins here
record Begins (form : Form) (z : List ℕ) : Type 0 where
  header : 16 ≤ length z
  most : named_length form z ≤ longest_body
  whole : 16 + named_length form z ≤ length z

looks : (form : Form) (z : List ℕ) → Stopped form z ⊎ Begins form z
looks form [] = inl (inl refl)
looks form (x ∷ xs) = by_header (cases_lt (length (x ∷ xs)) 16)
  where
    by_body : 16 ≤ length (x ∷ xs) → named_length form (x ∷ xs) ≤ longest_body → (length (x ∷ xs) < 16 + named_length form (x ∷ xs)) ⊎ (16 + named_length form (x ∷ xs) ≤ length (x ∷ xs)) → Stopped form (x ∷ xs) ⊎ Begins form (x ∷ xs)
    by_body header most (inl short) = inl (inr (inl (omega arith, λ room. (most, short))))
    by_body header most (inr whole) = inr (record { header = header; most = most; whole = whole })

    by_length : 16 ≤ length (x ∷ xs) → (longest_body < named_length form (x ∷ xs)) ⊎ (named_length form (x ∷ xs) ≤ longest_body) → Stopped form (x ∷ xs) ⊎ Begins form (x ∷ xs)
    by_length header (inl great) = inl (inr (inr (header, refl, great)))
    by_length header (inr most) = by_body header most (cases_lt (length (x ∷ xs)) (16 + named_length form (x ∷ xs)))

    by_header : (length (x ∷ xs) < 16) ⊎ (16 ≤ length (x ∷ xs)) → Stopped form (x ∷ xs) ⊎ Begins form (x ∷ xs)
    by_header (inl short) = inl (inr (inl (omega arith, λ room. absurd (omega (arith, short, room)))))
    by_header (inr header) = by_length header (cases_lt longest_body (named_length form (x ∷ xs)))

-- the bytes are at most n spellings and a rest, which begins none unless there are n
record CutUp (n : ℕ) (form : Form) (z : List ℕ) : Type 0 where
  pieces : List (List ℕ)
  rest : List ℕ
  whole : z ≡ concat pieces ++ rest
  spelled : AllByRecursion (IsSpelling form) pieces
  ends : (length pieces ≡ n) ⊎ ((length pieces < n) × Stopped form rest)

one_more : (n k : ℕ) (form : Form) (rest : List ℕ) → (k ≡ n) ⊎ ((k < n) × Stopped form rest) → (suc k ≡ suc n) ⊎ ((suc k < suc n) × Stopped form rest)
one_more n k form rest (inl e) = inl (ap suc e)
one_more n k form rest (inr h) = inr (omega (arith, h.0), h.1)

cut_front : (n : ℕ) (form : Form) (z : List ℕ) → CutUp n form (drop (16 + named_length form z) z) → Stopped form z ⊎ Begins form z → CutUp (suc n) form z
cut_front n form z more (inl stopped) = record { pieces = []; rest = z; whole = refl; spelled = tt; ends = inr (omega arith, stopped) }
cut_front n form z more (inr begins) =
    let size = 16 + named_length form z in
    record {
      pieces = take size z ∷ more.pieces;
      rest = more.rest;
      whole = sym (take-append-drop size z) ∙ (ap (λ (xs : List ℕ). take size z ++ xs) more.whole ∙ sym (append_assoc (take size z) (concat more.pieces) more.rest));
      spelled = (front_spells form z begins.header begins.most begins.whole, more.spelled);
      ends = one_more n (length more.pieces) form more.rest more.ends;
    }

cut_up : (n : ℕ) (form : Form) (z : List ℕ) → CutUp n form z
cut_up zero form z = record { pieces = []; rest = z; whole = refl; spelled = tt; ends = inl refl }
cut_up (suc n) form z = cut_front n form z (cut_up n form (drop (16 + named_length form z) z)) (looks form z)

abbrev Outcome : List ℕ → Type 0
Outcome bytes = (x : Result Contents CaptureFault) × Meets bytes x

-- what pieces and a rest are
ending : (bytes : List ℕ) (form : Form) (link : Link) (pieces : List (List ℕ)) (rest : List ℕ) → IsSplit bytes form link pieces rest
    → (length pieces ≡ most_records) ⊎ ((length pieces < most_records) × Stopped form rest) → Outcome bytes
ending bytes form link pieces [] split (inl e) = (
  Ok (record { link = link; packets = packets_of form 24 pieces; cut = false }),
  record { form = form; pieces = pieces; rest = []; split = split; ends = (refl, omega (arith, e)); named = refl },
)
ending bytes form link pieces (x ∷ xs) split (inl e) = (
  Err fault.TooManyRecords,
  record { form = form; link = link; pieces = pieces; rest = x ∷ xs; split = split; counted = e; goes_on = omega arith },
)
ending bytes form link pieces rest split (inr (few, inl e)) = (
  Ok (record { link = link; packets = packets_of form 24 pieces; cut = false }),
  record { form = form; pieces = pieces; rest = rest; split = split; ends = (e, omega (arith, few)); named = refl },
)
ending bytes form link pieces rest split (inr (few, inr (inl partial))) = (
  Ok (record { link = link; packets = packets_of form 24 pieces; cut = true }),
  record { form = form; pieces = pieces; rest = rest; split = split; ends = (partial, few); named = refl },
)
ending bytes form link pieces rest split (inr (few, inr (inr great))) = (
  Err (fault.RecordLength (length pieces) (named_length form rest)),
  (few, record { form = form; link = link; pieces = pieces; rest = rest; split = split; counted = refl; goes_on = great }),
)

by_header : (bytes : List ℕ) (answer : Result (Form × Link) CaptureFault) → header_answer bytes ≡ answer → Outcome bytes
by_header bytes (Err f) e = (Err f, header_refuses bytes f e)
by_header bytes (Ok p) e =
    let cut = cut_up most_records p.0 (drop 24 bytes) in
    let split : IsSplit bytes p.0 p.1 cut.pieces cut.rest = record {
      header = take 24 bytes;
      size = length-take-le 24 bytes (header_long bytes p e);
      whole = sym (take-append-drop 24 bytes) ∙ ap (λ (xs : List ℕ). take 24 bytes ++ xs) cut.whole;
      says = e;
      spelled = cut.spelled;
    } in
    ending bytes p.0 p.1 cut.pieces cut.rest split cut.ends

pub meets_some : (bytes : List ℕ) → Outcome bytes
meets_some bytes = by_header bytes (header_answer bytes) refl
