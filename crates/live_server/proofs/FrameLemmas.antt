-- The walk over frames, one at a time.
use Rattle.std.proofs.Common.{◌≡◌, ℕ, zero, suc, ◌+◌, ◌<◌, ◌≤◌, ◌^◌, List, [], ◌∷◌, ◌++◌, length, drop, take, refl, sym, ap, ◌∙◌, arith, cond, length-drop, length-take-le, true, false, append_assoc, add-one, get_or, Some}
use Rattle.std.specs.List.{flat_map}
use Rattle.std.proofs.lemmas.Grind.{flat_map-append}
use Rattle.std.proofs.lemmas.List.{drop-drop}
use Rattle.std.proofs.lemmas.Bool.Decides.{nat_tests}
use Rattle.std.proofs.lemmas.Option.{slice_get-get_or}
use Rattle.live_server.proofs.TurnLemmas.{told_more}
use Rattle.live_server.specs.Frames.{FrameOf, answers, body_size, frame_at, frame_of, frame_size, frames_behind, frames_in, is_broken, is_end, on_frame, rest_of, serves_frames, time_of, total_size}
use Rattle.live_server.specs.Serving.{Outcome, ServerOf}

pub record IsWhole (xs : List ℕ) : Type 0 where
  pub head : 16 ≤ length xs
  pub sound : is_broken xs ≡ false
  pub within : 16 + body_size xs ≤ length xs
  pub short : body_size xs ≤ 65535
  pub early : time_of xs ≤ 2 ^ 62

-- a frame that begins here is whole
pub is_whole : (xs : List ℕ) → is_end xs ≡ false → IsWhole xs
is_whole xs e = record {
  head = grind (arith, nat_tests, e);
  sound = grind (arith, nat_tests, e);
  within = grind (arith, nat_tests, e);
  short = grind (arith, nat_tests, e);
  early = grind (arith, nat_tests, e);
}

frames_behind-drop : (n : ℕ) (xs : List ℕ) → n ≤ length xs → frames_behind n xs ≡ frames_in (drop n xs)
unfolding frames_in
frames_behind-drop zero xs h = refl
frames_behind-drop (suc n) [] h = refl
frames_behind-drop (suc n) (x ∷ xs) h = frames_behind-drop n xs (omega arith)

frames_in-step : (xs : List ℕ) → frames_in xs ≡ cond (is_end xs) [] (frame_at xs ∷ frames_behind (15 + body_size xs) (drop 1 xs))
unfolding frames_in
frames_in-step [] = refl
frames_in-step (x ∷ xs) = refl

pub frames_next : (xs : List ℕ) → is_end xs ≡ false → frames_in xs ≡ frame_at xs ∷ frames_in (drop (16 + body_size xs) xs)
frames_next xs e =
    let whole = is_whole xs e in
    let n : 1 + (15 + body_size xs) ≡ 16 + body_size xs = omega arith in
    let rest : frames_behind (15 + body_size xs) (drop 1 xs) ≡ frames_in (drop (16 + body_size xs) xs) =
    frames_behind-drop (15 + body_size xs) (drop 1 xs) (omega (arith, length-drop 1 xs, whole.within))
    ∙ ap frames_in (drop-drop (15 + body_size xs) 1 xs ∙ ap (λ (k : ℕ). drop k xs) n) in
    frames_in-step xs ∙ ((rw e refl) ∙ ap (λ (fs : List FrameOf). frame_at xs ∷ fs) rest)

pub frames_last : (xs : List ℕ) → is_end xs ≡ true → frames_in xs ≡ []
frames_last xs e = frames_in-step xs ∙ (rw e refl)

-- three pieces behind what is there
pub three_joined : (start a b c one two three : List ℕ) → one ≡ start ++ a → two ≡ one ++ b → three ≡ two ++ c → three ≡ start ++ (a ++ b ++ c)
three_joined start a b c one two three is_one is_two is_three =
    is_three ∙ ap (λ l. l ++ c) (is_two ∙ ap (λ l. l ++ b) is_one) ∙ ap (λ l. l ++ c) (append_assoc start a b) ∙ append_assoc start (a ++ b) c

-- one element's part more
pub one_more : {A : Type 0} (f : A → List ℕ) (xs : List A) (i : ℕ) (x : A) (start before after : List ℕ) → i < length xs → x ≡ get_or xs i x
    → before ≡ start ++ flat_map f (take i xs) → after ≡ before ++ f x → after ≡ start ++ flat_map f (take (i + 1) xs)
one_more f xs i x start before after lt is so_far more =
    more ∙ ap (λ l. l ++ f x) so_far ∙ append_assoc start (flat_map f (take i xs)) (f x)
    ∙ ap (λ l. start ++ l) (sym (told_more f xs i x (slice_get-get_or xs i x lt ∙ ap Some (sym is))) ∙ ap (λ n. flat_map f (take n xs)) (sym (add-one i)))

pub rest_next : (xs rest : List ℕ) → is_end xs ≡ false → rest ≡ drop (16 + body_size xs) xs → rest_of rest ≡ rest_of xs
rest_next xs rest e cut =
    let whole = is_whole xs e in
    let behind = total_size (frames_in (drop (16 + body_size xs) xs)) in
    let size : frame_size (frame_at xs) ≡ 16 + body_size xs =
    ap (λ n. 16 + n) (length-take-le (body_size xs) (drop 16 xs) (omega (arith, length-drop 16 xs, whole.within))) in
    ap rest_of cut ∙ drop-drop behind (16 + body_size xs) xs
    ∙ ap (λ n. drop (n + behind) xs) (sym size) ∙ ap (λ fs. drop (total_size fs) xs) (sym (frames_next xs e))

pub rest_last : (xs : List ℕ) → is_end xs ≡ true → rest_of xs ≡ xs
rest_last xs e = ap (λ fs. drop (total_size fs) xs) (frames_last xs e)

module _ (xs rest : List ℕ) (sv here : ServerOf) (e : is_end xs ≡ false) (cut : rest ≡ drop (16 + body_size xs) xs) (served : here ≡ (on_frame (frame_at xs) sv).server) where
  behind : serves_frames (frames_in rest) here ≡ serves_frames (frames_in (drop (16 + body_size xs) xs)) (on_frame (frame_at xs) sv).server
  behind = λ j. serves_frames (frames_in (cut j)) (served j)

  pub front_served : (serves_frames (frames_in rest) here).server ≡ (serves_frames (frames_in xs) sv).server
  front_served = ap (λ (o : Outcome). o.server) behind ∙ ap (λ fs. (serves_frames fs sv).server) (sym (frames_next xs e))

  pub front_told : (out more : List ℕ) → more ≡ out ++ flat_map frame_of (on_frame (frame_at xs) sv).sent → more ++ answers rest here ≡ out ++ answers xs sv
  front_told out more is =
      let first = flat_map frame_of (on_frame (frame_at xs) sv).sent in
      let last = (serves_frames (frames_in (drop (16 + body_size xs) xs)) (on_frame (frame_at xs) sv).server).sent in
      (λ j. is j ++ flat_map frame_of (behind j).sent)
      ∙ append_assoc out first (flat_map frame_of last)
      ∙ ap (λ l. out ++ l) (sym (flat_map-append frame_of (on_frame (frame_at xs) sv).sent last) ∙ ap (λ fs. flat_map frame_of (serves_frames fs sv).sent) (sym (frames_next xs e)))
