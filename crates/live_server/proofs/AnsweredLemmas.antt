-- What went out up to a frame.
use Rattle.std.proofs.Common.{◌≡◌, ◌∙◌, ◌+◌, Bool, false, List, ℕ, [], ◌∷◌, ◌++◌, Result, Ok, Err, OnErr, length, take, drop, refl, sym, ap, append_assoc, append-nil}
use Rattle.std.proofs.Math.Seq.{take-append_seam}
use Rattle.std.proofs.lemmas.Grind.{flat_map-append}
use Rattle.std.specs.List.{flat_map}
use Rattle.live_server.specs.Frames.{FrameOf, GrowsByFrames, HasAnswered, body_size, frame_at, frame_of, frames_in, is_end, on_frame, serves_frames}
use Rattle.live_server.specs.Serving.{ServerOf}
use Rattle.live_server.specs.declared.acting.Datagram.{Datagram}
use Rattle.live_server.proofs.FrameLemmas.{frames_next}
use Rattle.live_server.proofs.PieceLemmas.{served_on}

pub no_frames : (was is : List ℕ) → is ≡ was → GrowsByFrames was is
no_frames was is same = ([], same ∙ sym (append-nil was))

pub more_frames : (was mid is : List ℕ) → GrowsByFrames was mid → GrowsByFrames mid is → GrowsByFrames was is
more_frames was mid is first last = (
  first.0 ++ last.0,
  last.1 ∙ ap (λ l. l ++ flat_map frame_of last.0) first.1
      ∙ append_assoc was (flat_map frame_of first.0) (flat_map frame_of last.0)
      ∙ ap (λ l. was ++ l) (sym (flat_map-append frame_of first.0 last.0)),
)

-- one frame more
module _ (done : List FrameOf) (f : FrameOf) (first here : ServerOf) (so_far : here ≡ (serves_frames done first).server) where
  pub one_served : (next : ServerOf) → next ≡ (on_frame f here).server → next ≡ (serves_frames (done ++ f ∷ []) first).server
  one_served next is = is ∙ ap (λ sv. (on_frame f sv).server) so_far ∙ sym (served_on done (f ∷ []) first).0

  pub one_answered : (start before after : List ℕ) → before ≡ start ++ flat_map frame_of (serves_frames done first).sent
      → after ≡ before ++ flat_map frame_of (on_frame f here).sent → after ≡ start ++ flat_map frame_of (serves_frames (done ++ f ∷ []) first).sent
  one_answered start before after is more =
      let sent = (serves_frames done first).sent in
      let one = (on_frame f (serves_frames done first).server).sent in
      more ∙ (λ j. is j ++ flat_map frame_of (on_frame f (so_far j)).sent)
      ∙ append_assoc start (flat_map frame_of sent) (flat_map frame_of one)
      ∙ ap (λ l. start ++ l) (sym (flat_map-append frame_of sent one)
      ∙ ap (flat_map frame_of) (ap (λ (l : List Datagram). sent ++ l) (sym (append-nil one)) ∙ sym (served_on done (f ∷ []) first).1))

-- These frames were served, and what is sent for them went behind what was there, as long as nothing was lost. What went are frames
unfoldable pub HasPassed : List ℕ → List ℕ → List ℕ → List ℕ → ServerOf → ServerOf → Bool → Type 0
HasPassed start out rest bytes first here lost =
    (done : List FrameOf) × (done ++ frames_in rest ≡ frames_in bytes)
    × (lost ≡ false → (here ≡ (serves_frames done first).server) × (out ≡ start ++ flat_map frame_of (serves_frames done first).sent))
    × GrowsByFrames start out

pub passed_none : (out bytes : List ℕ) (first : ServerOf) (lost : Bool) → HasPassed out out bytes bytes first first lost
unfolding HasPassed
passed_none out bytes first lost = ([], refl, λ still. (refl, sym (append-nil out)), no_frames out out refl)

module _ (start out more xs rest bytes : List ℕ) (first here next : ServerOf) (was lost : Bool) (before : lost ≡ false → was ≡ false) (passed : HasPassed start out xs bytes first here was) where
  pub passed_more : is_end xs ≡ false → rest ≡ drop (16 + body_size xs) xs → (lost ≡ false → next ≡ (on_frame (frame_at xs) here).server)
      → (lost ≡ false → more ≡ out ++ flat_map frame_of (on_frame (frame_at xs) here).sent) → GrowsByFrames out more → HasPassed start more rest bytes first next lost
  unfolding HasPassed
  passed_more begins cut served sent framed =
      let done = passed.0 in
      let f = frame_at xs in (
        done ++ f ∷ [],
        append_assoc done (f ∷ []) (frames_in rest) ∙ ap (λ (fs : List FrameOf). done ++ fs) (ap (λ l. f ∷ frames_in l) cut ∙ sym (frames_next xs begins)) ∙ passed.1,
        λ still.
            let so_far = passed.2 (before still) in
            (one_served done f first here so_far.0 next (served still), one_answered done f first here so_far.0 start out more so_far.1 (sent still)),
        more_frames start out more passed.3 framed,
      )

  pub passed_framed : GrowsByFrames start out
  unfolding HasPassed
  passed_framed = passed.3

  -- memory was missing at the next one, and nothing went for it
  pub passed_on_err : {X E : Type 0} (r : Result X E) → more ≡ out → OnErr r (lost ≡ false → HasAnswered start more (frames_in bytes) first)
  unfolding HasPassed
  passed_on_err (Ok x) none = tt
  passed_on_err (Err e) none = λ still.
      let done = passed.0 in (
        length done,
        none ∙ (passed.2 (before still)).1
            ∙ ap (λ fs. start ++ flat_map frame_of (serves_frames fs first).sent) (sym (take-append_seam done (frames_in xs)) ∙ ap (λ fs. take (length done) fs) passed.1),
      )
