-- Bytes are one capture, or refused for one cause.
use Rattle.std.proofs.Common.{◌≡◌, ℕ, ◌<◌, ◌≤◌, Bool, true, false, List, length, map, Result, Ok, Err, ◌⊎◌, inl, inr, sym, ap, ◌∙◌, refl, arith, ltb}
use Rattle.std.proofs.lemmas.Bool.Decides.{nat_tests}
use Rattle.sq_base.specs.declared.kinds.Link.{Link}
use Rattle.capture_reader.specs.CaptureFile.{Contents, Packet}
use Rattle.capture_reader.specs.Outcome.{packet_at}
use Rattle.pcapng_reader.specs.declared.fault.PcapngFault.{PcapngFault}
use Rattle.pcapng_reader.specs.declared.fault.PcapngFault.TheVariants as fault
use Rattle.pcapng_reader.specs.Blocks.{State}
use Rattle.pcapng_reader.specs.PcapngFile.{Says, ends, refuses, leads, Joined, start, file_link, Meets}
use Rattle.pcapng_reader.proofs.Joining.{is_stop, joined_once, joined_some, Stopped}

abbrev Outcome : Type 0
Outcome = Result Contents PcapngFault

abbrev accepted : Contents → Outcome
accepted c = Ok c

abbrev refused : PcapngFault → Outcome
refused f = Err f

-- what a file is where reading stops so
abbrev outcome : List ℕ → State → Says → Outcome
outcome bytes s (ends cut) = Ok (record { link = file_link s.link; packets = map (packet_at bytes) s.records; cut = cut })
outcome bytes s (refuses f) = Err f
outcome bytes s (leads n next) = Err fault.NoMemory

record Later (bytes : List ℕ) (x : Outcome) : Type 0 where
  long : 28 ≤ length bytes
  state : State
  said : Says
  stop : is_stop said ≡ true
  joined : Joined start bytes state said
  is : x ≡ outcome bytes state said

abbrev Early : List ℕ → Outcome → Type 0
Early bytes x = (length bytes < 28) × (x ≡ Err (fault.ShortSection (length bytes)))

same_contents : (c : Contents) (l : Link) (ps : List Packet) → c.link ≡ l → c.packets ≡ ps → accepted c ≡ Ok (record { link = l; packets = ps; cut = c.cut })
same_contents c l ps p q =
    ap (λ (m : Link). accepted (record { link = m; packets = c.packets; cut = c.cut })) p ∙ ap (λ (xs : List Packet). accepted (record { link = l; packets = xs; cut = c.cut })) q

stage : (bytes : List ℕ) (x : Outcome) → Meets bytes x → Early bytes x ⊎ Later bytes x
stage bytes (Ok c) h = inr (record { long = h.long; state = h.state; said = ends c.cut; stop = refl; joined = h.joined; is = same_contents c _ _ h.link h.packets })
stage bytes (Err f) (inl h) = inl (h.0, ap refused h.1)
stage bytes (Err f) (inr h) = inr (record { long = h.0; state = h.1; said = refuses f; stop = refl; joined = h.2; is = refl })

later_once : (bytes : List ℕ) (x y : Outcome) → Later bytes x → Later bytes y → x ≡ y
later_once bytes x y a b =
    let same = joined_once start a.joined.blocks b.joined.blocks a.joined.rest b.joined.rest a.state b.state a.said b.said a.joined.steps b.joined.steps
    (sym a.joined.whole ∙ b.joined.whole) a.joined.told b.joined.told a.stop b.stop in
    a.is ∙ (ap (λ (s : State). outcome bytes s a.said) same.0 ∙ (ap (outcome bytes b.state) same.1 ∙ sym b.is))

pub meets_once : (bytes : List ℕ) (x y : Outcome) → Meets bytes x → Meets bytes y → x ≡ y
meets_once bytes x y h k = both (stage bytes x h) (stage bytes y k)
  where
    both : Early bytes x ⊎ Later bytes x → Early bytes y ⊎ Later bytes y → x ≡ y
    both (inl a) (inl b) = a.1 ∙ sym b.1
    both (inl a) (inr b) = absurd (omega (arith, a.0, b.long))
    both (inr a) (inl b) = absurd (omega (arith, b.0, a.long))
    both (inr a) (inr b) = later_once bytes x y a b

pub meets_some : (bytes : List ℕ) → (x : Outcome) × Meets bytes x
meets_some bytes = by_length (ltb (length bytes) 28) refl
  where
    by_stop : 28 ≤ length bytes → (s : State) (t : Says) → is_stop t ≡ true → Joined start bytes s t → (x : Outcome) × Meets bytes x
    by_stop long s (ends cut) stop j = (
      accepted (record { link = file_link s.link; packets = map (packet_at bytes) s.records; cut = cut }),
      record { long = long; state = s; joined = j; link = refl; packets = refl },
    )
    by_stop long s (refuses f) stop j = (refused f, inr (long, s, j))
    by_stop long s (leads n next) stop j = absurd cc

    by_length : (b : Bool) → ltb (length bytes) 28 ≡ b → (x : Outcome) × Meets bytes x
    by_length true e = let short : length bytes < 28 = grind (arith, nat_tests) in (refused (fault.ShortSection (length bytes)), inl (short, refl))
    by_length false e =
        let long : 28 ≤ length bytes = grind (arith, nat_tests) in
        let stopped : Stopped start bytes = joined_some (length bytes) start bytes (omega arith) in
        by_stop long stopped.to stopped.said stopped.stop stopped.joined
