-- Each record of a file lies in its bytes, and there are never too many.
use Rattle.std.proofs.Common.{◌≡◌, ℕ, zero, suc, ◌+◌, ◌-◌, ◌*◌, ◌/◌, ◌^◌, ◌<◌, ◌≤◌, true, false, cond, List, [], ◌∷◌, ◌++◌, length, drop, slice_get, Option, None, Some, is_some, Ok, Err, ◌⊎◌, inl, inr, subst, refl, arith, leb, eqb, ◌&&◌}
use Rattle.std.proofs.lemmas.Bool.Decides.{nat_tests}
use Rattle.std.proofs.lemmas.List.{length_push}
use Rattle.std.specs.List.{AllByRecursion}
use Rattle.sq_base.specs.Links.{link_of}
use Rattle.capture_reader.specs.Limits.{most_records, longest_body, latest_time}
use Rattle.capture_reader.specs.Outcome.{IsInside}
use Rattle.capture_reader.specs.declared.capture.Record.{Record}
use Rattle.capture_reader.proofs.Pieces.{all_push}
use Rattle.pcapng_reader.specs.declared.order.Order.{Order}
use Rattle.pcapng_reader.specs.declared.frame.Frame.{Frame}
use Rattle.pcapng_reader.specs.declared.interface.Interface.{Interface}
use Rattle.pcapng_reader.specs.declared.fault.PcapngFault.{PcapngFault}
use Rattle.pcapng_reader.specs.declared.fault.PcapngFault.TheVariants as fault
use Rattle.pcapng_reader.specs.Limits.{section_type, interface_type, simple_type, packet_type, least}
use Rattle.pcapng_reader.specs.Numbers.{number, padded}
use Rattle.pcapng_reader.specs.Options.{time_of}
use Rattle.pcapng_reader.specs.Blocks.{State, Answer, section_says, interface_in, interface_says, is_same, record_says, packet_on, packet_says, simple_on, simple_says, last_at, content_says}
use Rattle.pcapng_reader.specs.SoFar.{AreRecords}
use Rattle.pcapng_reader.proofs.Frames.{when}

abbrev read : State → Answer
read s = Ok s

abbrev refused : PcapngFault → Answer
refused f = Err f

not_read : (f : PcapngFault) (s : State) → refused f ≡ read s → ⊥
not_read f s e = cc

same_state : (s t : State) → read s ≡ read t → s ≡ t
same_state s t e = cc

-- a block leaves the place and the count of blocks, and the records are in theirs
pub record Kept (bytes : List ℕ) (s new : State) : Type 0 where
  pub at : new.at ≡ s.at
  pub blocks : new.blocks ≡ s.blocks
  pub records : AreRecords bytes new.records

alike : (bytes : List ℕ) (s t new : State) → read t ≡ read new → t.at ≡ s.at → t.blocks ≡ s.blocks → AreRecords bytes t.records → Kept bytes s new
alike bytes s t new e at blocks records = subst (Kept bytes s) (same_state t new e) (record { at = at; blocks = blocks; records = records })

fits_in : (len room : ℕ) → (leb len longest_body && leb (padded len) room) ≡ true → len ≤ room
fits_in len room e = let filled : leb (padded len) room ≡ true = grind (arith, nat_tests) in let most : (len + 3) / 4 * 4 ≤ room = grind (arith, nat_tests) in omega arith

not_full : (m n : ℕ) → m ≤ n → eqb m n ≡ false → m < n
not_full m n most e = grind (arith, nat_tests)

module _ (bytes : List ℕ) (s : State) (were : AreRecords bytes s.records) where
  record_kept : (r : Record) (room : ℕ) (new : State) → record_says s r room ≡ Ok new → r.from + room ≤ length bytes → r.at ≤ latest_time → Kept bytes s new
  record_kept r room new e inside time = by_length (when _ _ _ _ e)
    where
      Full : Answer
      Full = refused fault.TooManyRecords

      Pushed : State
      Pushed = record { blocks = s.blocks; at = s.at; order = s.order; interfaces = s.interfaces; link = s.link; records = s.records ++ r ∷ [] }

      by_count : r.len ≤ room → ((eqb (length s.records) most_records ≡ true) × (Full ≡ read new)) ⊎ ((eqb (length s.records) most_records ≡ false) × (read Pushed ≡ read new)) → Kept bytes s new
      by_count short (inl h) = absurd (not_read fault.TooManyRecords new h.1)
      by_count short (inr h) =
          let few : length s.records < most_records = not_full (length s.records) most_records were.few h.0 in
          let here : IsInside bytes r = record { room = omega (arith, inside, short); time = time } in
          alike bytes s Pushed new h.1 refl refl (record { inside = all_push (IsInside bytes) s.records r were.inside here; few = omega (arith, length_push s.records r, few) })

      by_length : (((leb r.len longest_body && leb (padded r.len) room) ≡ true) × (cond (eqb (length s.records) most_records) Full (read Pushed) ≡ read new))
          ⊎ (((leb r.len longest_body && leb (padded r.len) room) ≡ false) × (refused (fault.PacketLength s.blocks r.len) ≡ read new)) → Kept bytes s new
      by_length (inl h) = by_count (fits_in r.len room h.0) (when _ _ _ _ h.1)
      by_length (inr h) = absurd (not_read _ new h.1)

  time_most : (v ticks : ℕ) → time_of v ticks ≤ latest_time
  unfolding time_of
  time_most v ticks = omega arith

  packet_kept : (id : ℕ) (interface : Option Interface) (block : List ℕ) (new : State) → packet_on s id interface block ≡ Ok new → 32 ≤ length block → s.at + length block ≤ length bytes → Kept bytes s new
  packet_kept id None block new e long inside = absurd (not_read _ new e)
  packet_kept id (Some interface) block new e long inside =
      record_kept _ (length block - 32) new e (omega (arith, long, inside)) (time_most interface.resolution (number s.order 4 (drop 12 block) * 2 ^ 32 + number s.order 4 (drop 16 block)))

  last_most : (rs : List Record) (n : ℕ) → AllByRecursion (IsInside bytes) rs → last_at (slice_get rs n) ≤ latest_time
  last_most [] n inside = omega arith
  last_most (r ∷ rs) zero inside = inside.0.time
  last_most (r ∷ rs) (suc n) inside = last_most rs n inside.1

  simple_kept : (interface : Option Interface) (block : List ℕ) (new : State) → simple_on s interface block ≡ Ok new → 16 ≤ length block → s.at + length block ≤ length bytes → Kept bytes s new
  simple_kept None block new e long inside = absurd (not_read _ new e)
  simple_kept (Some first) block new e long inside =
      record_kept _ (length block - 16) new e (omega (arith, long, inside)) (last_most s.records (length s.records - 1) were.inside)

  section_kept : (order : Order) (block : List ℕ) (new : State) → section_says s order block ≡ Ok new → Kept bytes s new
  section_kept order block new e = by_version (when _ _ _ _ e)
    where
      Begun : State
      Begun = record { blocks = s.blocks; at = s.at; order = order; interfaces = []; link = s.link; records = s.records }

      by_version : ((eqb (number order 2 (drop 12 block)) 1 ≡ true) × (read Begun ≡ read new))
          ⊎ ((eqb (number order 2 (drop 12 block)) 1 ≡ false) × (refused (fault.Version s.blocks (number order 2 (drop 12 block)) (number order 2 (drop 14 block))) ≡ read new)) → Kept bytes s new
      by_version (inl h) = alike bytes s Begun new h.1 refl refl were
      by_version (inr h) = absurd (not_read _ new h.1)

  interface_kept : (block : List ℕ) (new : State) → interface_says s block ≡ Ok new → Kept bytes s new
  interface_kept block new e = by_link (when _ _ _ _ e)
    where
      Named : ℕ
      Named = number s.order 2 (drop 8 block)

      Joined : State
      Joined = record { blocks = s.blocks; at = s.at; order = s.order; interfaces = s.interfaces ++ interface_in s.order block ∷ []; link = Some Named; records = s.records }

      by_same : ((is_same s.link Named ≡ true) × (read Joined ≡ read new)) ⊎ ((is_same s.link Named ≡ false) × (refused (fault.MixedLink s.blocks Named) ≡ read new)) → Kept bytes s new
      by_same (inl h) = alike bytes s Joined new h.1 refl refl were
      by_same (inr h) = absurd (not_read _ new h.1)

      by_link : ((is_some (link_of Named) ≡ true) × (cond (is_same s.link Named) (read Joined) (refused (fault.MixedLink s.blocks Named)) ≡ read new))
          ⊎ ((is_some (link_of Named) ≡ false) × (refused (fault.Link s.blocks Named) ≡ read new)) → Kept bytes s new
      by_link (inl h) = by_same (when _ _ _ _ h.1)
      by_link (inr h) = absurd (not_read _ new h.1)

  is_number : (m n : ℕ) → eqb m n ≡ true → m ≡ n
  is_number m n e = grind (arith, nat_tests)

  pub content_kept : (frame : Frame) (block : List ℕ) (new : State) → content_says s frame block ≡ Ok new → least frame.kind ≤ length block → s.at + length block ≤ length bytes → Kept bytes s new
  unfolding content_says
  content_kept frame block new e long inside = by_section (when _ _ _ _ e)
    where
      least_of : (k : ℕ) → frame.kind ≡ k → least k ≤ length block
      least_of k is = subst (λ (n : ℕ). least n ≤ length block) is long

      by_packet : ((eqb frame.kind packet_type ≡ true) × (packet_says s block ≡ read new)) ⊎ ((eqb frame.kind packet_type ≡ false) × (read s ≡ read new)) → Kept bytes s new
      by_packet (inl h) = packet_kept (number s.order 4 (drop 8 block)) (slice_get s.interfaces (number s.order 4 (drop 8 block))) block new h.1 (least_of packet_type (is_number frame.kind packet_type h.0)) inside
      by_packet (inr h) = alike bytes s s new h.1 refl refl were

      by_simple : ((eqb frame.kind simple_type ≡ true) × (simple_says s block ≡ read new))
          ⊎ ((eqb frame.kind simple_type ≡ false) × (cond (eqb frame.kind packet_type) (packet_says s block) (read s) ≡ read new)) → Kept bytes s new
      by_simple (inl h) = simple_kept (slice_get s.interfaces 0) block new h.1 (least_of simple_type (is_number frame.kind simple_type h.0)) inside
      by_simple (inr h) = by_packet (when _ _ _ _ h.1)

      by_interface : ((eqb frame.kind interface_type ≡ true) × (interface_says s block ≡ read new))
          ⊎ ((eqb frame.kind interface_type ≡ false) × (cond (eqb frame.kind simple_type) (simple_says s block) (cond (eqb frame.kind packet_type) (packet_says s block) (read s)) ≡ read new)) → Kept bytes s new
      by_interface (inl h) = interface_kept block new h.1
      by_interface (inr h) = by_simple (when _ _ _ _ h.1)

      by_section : ((eqb frame.kind section_type ≡ true) × (section_says s frame.order block ≡ read new))
          ⊎ ((eqb frame.kind section_type ≡ false) × (cond (eqb frame.kind interface_type) (interface_says s block) (cond (eqb frame.kind simple_type) (simple_says s block) (cond (eqb frame.kind packet_type) (packet_says s block) (read s))) ≡ read new)) → Kept bytes s new
      by_section (inl h) = section_kept frame.order block new h.1
      by_section (inr h) = by_interface (when _ _ _ _ h.1)
