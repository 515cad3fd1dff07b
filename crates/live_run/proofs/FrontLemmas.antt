-- What was written is a front of the answers.
use Rattle.std.proofs.Common.{◌≡◌, ℕ, ◌≤◌, true, List, [], ◌∷◌, ◌++◌, length, Option, refl, sym, ap, subst, ◌∙◌, append-nil, append_assoc, arith, length-append, length-drop}
use Rattle.std.proofs.KnownBytes.{Appends-nil, Appends-trans}
use Rattle.std.specs.Io.KnownBytes.{Appends}
use Rattle.std.specs.List.{flat_map}
use Rattle.std.proofs.lemmas.Grind.{flat_map-append}
use Rattle.live_server.specs.Frames.{FrameOf, answers, frame_of, frames_in, is_broken, rest_of, serves_frames, total_size}
use Rattle.live_server.specs.Serving.{ServerOf}
use Rattle.live_server.proofs.PieceLemmas.{broken_stays, piece_answered, piece_left, pieces_join_proof}
use Rattle.live_run.specs.Fronts.{AppendsFront, AppendsFrames}

-- frames behind frames
pub no_frames_written : (was : Option (List ℕ)) → AppendsFrames was was
no_frames_written was = ([], Appends-nil was)

pub frames_written : (was mid is : Option (List ℕ)) → AppendsFrames was mid → AppendsFrames mid is → AppendsFrames was is
frames_written was mid is first last =
    (first.0 ++ last.0, subst (Appends was is) (sym (flat_map-append frame_of first.0 last.0)) (Appends-trans was mid is _ _ first.1 last.1))

no_size : (fs : List FrameOf) → total_size fs ≡ 0 → fs ≡ []
no_size [] none = refl
no_size (f ∷ fs) none = absurd (omega (arith, none))

-- where all is left, there was no whole frame
no_frames : (xs : List ℕ) → 16 ≤ length xs → rest_of xs ≡ xs → frames_in xs ≡ []
no_frames xs head all = no_size (frames_in xs) (omega (arith, length-drop (total_size (frames_in xs)) xs, ap (λ (l : List ℕ). length l) all, head))

-- `there` was served, and what was left of it is pending
module _ (there pending : List ℕ) (first here : ServerOf) (left : pending ≡ rest_of there) (so_far : here ≡ (serves_frames (frames_in there) first).server) (was is : Option (List ℕ)) (wrote : Appends was is (answers there first)) where
  pub wrote_so_far : (more : List ℕ) → AppendsFront was is (answers (there ++ more) first)
  wrote_so_far more = (answers there first, (answers (pending ++ more) here, sym (piece_answered there more pending first here left so_far)), wrote)

  -- and a front of the answers to a piece more
  module _ (piece : List ℕ) where
    pub wrote_further : (then : Option (List ℕ)) → AppendsFront is then (answers (pending ++ piece) here) → (more : List ℕ) → AppendsFront was then (answers ((there ++ piece) ++ more) first)
    wrote_further then front more =
        let both = there ++ piece in
        let state = (serves_frames (frames_in both) first).server in
        let behind = answers (rest_of both ++ more) state in
        let start = answers there first in (
          start ++ front.0,
          (
            front.1.0 ++ behind,
            sym (piece_answered both more (rest_of both) first state refl refl)
                ∙ ap (λ l. l ++ behind) (sym (piece_answered there piece pending first here left so_far) ∙ ap (λ l. start ++ l) front.1.1)
                ∙ joined start front.0 front.1.0 behind,
          ),
          Appends-trans _ _ _ _ _ wrote front.2,
        )
      where
        joined : (a b c d : List ℕ) → (a ++ (b ++ c)) ++ d ≡ (a ++ b) ++ (c ++ d)
        joined a b c d = simp append_assoc

    -- where a broken frame is left, all isn't whole frames
    pub broken_left : 16 ≤ length (rest_of (pending ++ piece)) → is_broken (rest_of (pending ++ piece)) ≡ true → (more : List ℕ) → rest_of ((there ++ piece) ++ more) ≡ [] → ⊥
    broken_left head broken more none =
        let r = rest_of (pending ++ piece) in
        let same = piece_left there piece pending first here left so_far in
        let rest : rest_of ((there ++ piece) ++ more) ≡ r ++ more =
        (pieces_join_proof (there ++ piece) more).1 ∙ ap (λ l. rest_of (l ++ more)) (sym same) ∙ broken_stays r more head broken in
        absurd (omega (arith, ap (λ (l : List ℕ). length l) (sym rest ∙ none), length-append r more, head))

    -- and what was answered up to it is all that is answered, whatever comes behind it
    pub broken_answered : 16 ≤ length (rest_of (pending ++ piece)) → is_broken (rest_of (pending ++ piece)) ≡ true → (then : Option (List ℕ)) → Appends is then (answers (pending ++ piece) here) → (more : List ℕ)
        → Appends was then (answers ((there ++ piece) ++ more) first)
    broken_answered head broken then wrote_piece more =
        let both = there ++ piece in
        let state = (serves_frames (frames_in both) first).server in
        let r = rest_of (pending ++ piece) in
        let none = no_frames (r ++ more) (omega (arith, length-append r more, head)) (broken_stays r more head broken) in
        let nothing : answers (rest_of both ++ more) state ≡ [] =
        ap (λ l. answers (l ++ more) state) (sym (piece_left there piece pending first here left so_far)) ∙ ap (λ fs. flat_map frame_of (serves_frames fs state).sent) none in
        subst (Appends was then) (piece_answered there piece pending first here left so_far ∙ sym (append-nil (answers both first))
        ∙ ap (λ l. answers both first ++ l) (sym nothing) ∙ piece_answered both more (rest_of both) first state refl refl)
        (Appends-trans _ _ _ _ _ wrote wrote_piece)
