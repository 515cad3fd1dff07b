-- One block, where a file is read so far.
use Rattle.std.proofs.Common.{◌≡◌, ℕ, ◌+◌, ◌<◌, ◌≤◌, List, [], ◌∷◌, length, take, drop, Some, Ok, Err, ◌⊎◌, inl, inr, subst, sym, ap, ◌∙◌, refl, arith, length-drop}
use Rattle.std.proofs.lemmas.List.{drop-drop, length-take-le}
use Rattle.pcapng_reader.specs.declared.frame.Frame.{Frame}
use Rattle.pcapng_reader.specs.declared.fault.PcapngFault.{PcapngFault}
use Rattle.pcapng_reader.specs.declared.fault.PcapngFault.TheVariants as fault
use Rattle.pcapng_reader.specs.Limits.{least}
use Rattle.pcapng_reader.specs.Frame.{framed}
use Rattle.pcapng_reader.specs.Blocks.{State, Answer, content_says, behind}
use Rattle.pcapng_reader.specs.PcapngFile.{Says, refuses, says, by_frame, by_content, Joined, start}
use Rattle.pcapng_reader.specs.SoFar.{AreRecords, Fails}
use Rattle.pcapng_reader.proofs.Frames.{Fits, framed_fits, least_most}
use Rattle.pcapng_reader.proofs.Joining.{join_here, join_more}
use Rattle.pcapng_reader.proofs.Kept.{Kept, content_kept}

-- something is left, so its frame decides
says_framed : (s : State) (z : List ℕ) → 0 < length z → says s z ≡ by_frame s z (framed s.order s.blocks z)
says_framed s [] some = absurd (omega (arith, some))
says_framed s (x ∷ xs) some = refl

-- what follows from this place follows from the start
abbrev pub Reaches : List ℕ → State → Type 0
Reaches bytes s = (to : State) (said : Says) → Joined s (drop s.at bytes) to said → Joined start bytes to said

module _ (bytes : List ℕ) (s : State) (some : 0 < length (drop s.at bytes)) (reaches : Reaches bytes s) where
  -- the frame is refused
  pub frame_fails : (f : PcapngFault) → framed s.order s.blocks (drop s.at bytes) ≡ Err f → Fails bytes f
  frame_fails f e =
      inr (s, reaches s (refuses f) (join_here s (drop s.at bytes) (refuses f) (says_framed s (drop s.at bytes) some ∙ ap (by_frame s (drop s.at bytes)) e)))

  module _ (frame : Frame) (block : List ℕ) (is : framed s.order s.blocks (drop s.at bytes) ≡ Ok (Some frame)) (front : block ≡ take frame.total (drop s.at bytes)) where
    says_content : (a : Answer) → content_says s frame block ≡ a → says s (drop s.at bytes) ≡ by_content frame.total a
    says_content a e =
        says_framed s (drop s.at bytes) some
        ∙ (ap (by_frame s (drop s.at bytes)) is
        ∙ (ap (λ (b : List ℕ). by_content frame.total (content_says s frame b)) (sym front) ∙ ap (by_content frame.total) e))

    -- its body is refused, or memory is missing
    pub content_fails : (f : PcapngFault) → (f ≡ fault.NoMemory) ⊎ (content_says s frame block ≡ Err f) → Fails bytes f
    content_fails f (inl e) = inl e
    content_fails f (inr e) = inr (s, reaches s (refuses f) (join_here s (drop s.at bytes) (refuses f) (says_content (Err f) e)))

    fits : Fits (drop s.at bytes) frame
    fits = framed_fits s.order s.blocks (drop s.at bytes) frame is

    pub block_long : length block ≡ frame.total
    block_long = ap length front ∙ length-take-le frame.total (drop s.at bytes) fits.within

    pub block_whole : least frame.kind ≤ length block
    block_whole = omega (arith, block_long, fits.enough)

    pub block_some : 12 ≤ frame.total
    block_some = omega (arith, fits.enough, least_most frame.kind)

    pub block_within : s.at ≤ length bytes → s.at + frame.total ≤ length bytes
    block_within h = omega (arith, h, fits.within, length-drop s.at bytes)

    pub block_kept : s.at ≤ length bytes → AreRecords bytes s.records → (new : State) → content_says s frame block ≡ Ok new → Kept bytes s new
    block_kept h were new e = content_kept bytes s were frame block new e block_whole (omega (arith, block_long, block_within h))

    -- what follows behind the block follows from the start
    pub reaches_on : s.at ≤ length bytes → AreRecords bytes s.records → (new : State) → content_says s frame block ≡ Ok new
        → (to : State) (said : Says) → Joined (behind frame.total new) (drop (new.at + frame.total) bytes) to said → Joined start bytes to said
    reaches_on h were new e to said j =
        let kept = block_kept h were new e in
        let there : drop (new.at + frame.total) bytes ≡ drop frame.total (drop s.at bytes) = ap (λ (n : ℕ). drop (n + frame.total) bytes) kept.at ∙ sym (drop-drop frame.total s.at bytes) in
        reaches to said (join_more s (behind frame.total new) to (drop s.at bytes) frame.total said (says_content (Ok new) e) fits.within
        (subst (λ (xs : List ℕ). Joined (behind frame.total new) xs to said) there j))
