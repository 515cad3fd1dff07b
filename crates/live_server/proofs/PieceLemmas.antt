-- Frames that come in pieces.
use Rattle.std.proofs.Common.{◌≡◌, ℕ, zero, suc, ◌+◌, ◌≤◌, ◌^◌, Bool, true, false, nat_lt, ◌||◌, List, [], ◌∷◌, ◌++◌, length, drop, take, refl, sym, ap, ◌∙◌, arith, length-append, length-drop, append_assoc}
use Rattle.std.specs.List.{flat_map}
use Rattle.std.proofs.lemmas.List.{drop-append-le, take-append-le}
use Rattle.std.proofs.lemmas.Bool.{le-ltb}
use Rattle.std.proofs.lemmas.Grind.{flat_map-append}
use Rattle.byteorder.specs.Numbers.{big_from-append}
use Rattle.live_server.specs.Frames.{FrameOf, answers, body_size, frame_at, frame_of, frames_in, is_broken, is_end, on_frame, rest_of, serves_frames, time_of, PiecesJoin}
use Rattle.live_server.specs.Serving.{Outcome, ServerOf}
use Rattle.live_server.specs.declared.acting.Datagram.{Datagram}
use Rattle.live_server.proofs.FrameLemmas.{IsWhole, frames_last, frames_next, is_whole, rest_last, rest_next}

-- more bytes behind a whole frame leave it as it is
module _ (xs more : List ℕ) (whole : IsWhole xs) where
  same_size : body_size (xs ++ more) ≡ body_size xs
  same_size = big_from-append 8 xs more (omega (arith, whole.head))

  same_time : time_of (xs ++ more) ≡ time_of xs
  same_time =
      ap (λ (l : List ℕ). body_size l) (drop-append-le 8 xs more (omega (arith, whole.head)))
      ∙ big_from-append 8 (drop 8 xs) more (omega (arith, length-drop 8 xs, whole.head))

  same_frame : frame_at (xs ++ more) ≡ frame_at xs
  same_frame = λ j. record {
    at = same_time j;
    body = (ap (λ n. take n (drop 16 (xs ++ more))) same_size
        ∙ ap (λ l. take (body_size xs) l) (drop-append-le 16 xs more whole.head)
        ∙ take-append-le (body_size xs) (drop 16 xs) more (omega (arith, length-drop 16 xs, whole.within))) j;
  }

  still_begins : is_end (xs ++ more) ≡ false
  still_begins =
      let long : nat_lt (length (xs ++ more)) 16 ≡ false = le-ltb (length (xs ++ more)) 16 (omega (arith, length-append xs more, whole.head)) in
      let sound : is_broken (xs ++ more) ≡ false = (λ j. nat_lt 65535 (same_size j) || nat_lt (2 ^ 62) (same_time j)) ∙ whole.sound in
      let within : nat_lt (length (xs ++ more)) (16 + body_size (xs ++ more)) ≡ false =
      le-ltb (length (xs ++ more)) (16 + body_size (xs ++ more)) (omega (arith, length-append xs more, whole.within, same_size)) in
      λ j. long j || (sound j || within j)

  cut_behind : drop (16 + body_size (xs ++ more)) (xs ++ more) ≡ drop (16 + body_size xs) xs ++ more
  cut_behind = ap (λ n. drop (16 + n) (xs ++ more)) same_size ∙ drop-append-le (16 + body_size xs) xs more whole.within

module _ (more : List ℕ) where
  abbrev Joins : List ℕ → Type 0
  Joins xs = (frames_in (xs ++ more) ≡ frames_in xs ++ frames_in (rest_of xs ++ more)) × (rest_of (xs ++ more) ≡ rest_of (rest_of xs ++ more))

  -- from what lies behind the first frame
  from_behind : (xs : List ℕ) → ((ys : List ℕ) → length ys + 16 ≤ length xs → Joins ys) → (e : Bool) → is_end xs ≡ e → Joins xs
  from_behind xs behind true e =
      let left = rest_last xs e in
      (ap (λ l. frames_in (l ++ more)) (sym left) ∙ ap (λ fs. fs ++ frames_in (rest_of xs ++ more)) (sym (frames_last xs e)), ap (λ l. rest_of (l ++ more)) (sym left))
  from_behind xs behind false e =
      let whole = is_whole xs e in
      let ys = drop (16 + body_size xs) xs in
      let joins = behind ys (omega (arith, length-drop (16 + body_size xs) xs, whole.within)) in
      let begins = still_begins xs more whole in
      let left = rest_next xs ys e refl in (
        frames_next (xs ++ more) begins
            ∙ (λ j. same_frame xs more whole j ∷ frames_in (cut_behind xs more whole j))
            ∙ ap (λ fs. frame_at xs ∷ fs) (joins.0 ∙ ap (λ l. frames_in ys ++ frames_in (l ++ more)) left)
            ∙ ap (λ fs. fs ++ frames_in (rest_of xs ++ more)) (sym (frames_next xs e)),
        sym (rest_next (xs ++ more) (drop (16 + body_size (xs ++ more)) (xs ++ more)) begins refl)
            ∙ ap rest_of (cut_behind xs more whole) ∙ joins.1 ∙ ap (λ l. rest_of (l ++ more)) left,
      )

  joins_by_length : (n : ℕ) (xs : List ℕ) → length xs ≤ n → Joins xs
  joins_by_length zero xs few = from_behind xs (λ ys short. absurd (omega (arith, short, few))) (is_end xs) refl
  joins_by_length (suc n) xs few = from_behind xs (λ ys short. joins_by_length n ys (omega (arith, short, few))) (is_end xs) refl

pub pieces_join_proof : PiecesJoin
pieces_join_proof there more = joins_by_length more (length there) there (omega arith)

-- frames served in two goes
pub served_on : (fs gs : List FrameOf) (sv : ServerOf)
    → ((serves_frames (fs ++ gs) sv).server ≡ (serves_frames gs (serves_frames fs sv).server).server)
    × ((serves_frames (fs ++ gs) sv).sent ≡ (serves_frames fs sv).sent ++ (serves_frames gs (serves_frames fs sv).server).sent)
served_on [] gs sv = (refl, refl)
served_on (f ∷ fs) gs sv =
    let here = on_frame f sv in
    let on = served_on fs gs here.server in
    (on.0, ap (λ (l : List Datagram). here.sent ++ l) on.1 ∙ sym (append_assoc here.sent (serves_frames fs here.server).sent (serves_frames gs (serves_frames fs here.server).server).sent))

-- one piece more: `there` was served, and what was left of it stands before the piece
module _ (there piece pending : List ℕ) (first here : ServerOf) (left : pending ≡ rest_of there) (so_far : here ≡ (serves_frames (frames_in there) first).server) where
  all_served : serves_frames (frames_in (pending ++ piece)) here ≡ serves_frames (frames_in (rest_of there ++ piece)) (serves_frames (frames_in there) first).server
  all_served = λ j. serves_frames (frames_in (left j ++ piece)) (so_far j)

  pub piece_served : (serves_frames (frames_in (pending ++ piece)) here).server ≡ (serves_frames (frames_in (there ++ piece)) first).server
  piece_served =
      ap (λ (o : Outcome). o.server) all_served ∙ sym (served_on (frames_in there) (frames_in (rest_of there ++ piece)) first).0
      ∙ ap (λ fs. (serves_frames fs first).server) (sym (pieces_join_proof there piece).0)

  pub piece_answered : answers there first ++ answers (pending ++ piece) here ≡ answers (there ++ piece) first
  piece_answered =
      let behind = serves_frames (frames_in (rest_of there ++ piece)) (serves_frames (frames_in there) first).server in
      ap (λ (o : Outcome). answers there first ++ flat_map frame_of o.sent) all_served
      ∙ sym (flat_map-append frame_of (serves_frames (frames_in there) first).sent behind.sent)
      ∙ ap (flat_map frame_of) (sym (served_on (frames_in there) (frames_in (rest_of there ++ piece)) first).1)
      ∙ ap (λ fs. flat_map frame_of (serves_frames fs first).sent) (sym (pieces_join_proof there piece).0)

  pub piece_left : rest_of (pending ++ piece) ≡ rest_of (there ++ piece)
  piece_left = ap (λ l. rest_of (l ++ piece)) left ∙ sym (pieces_join_proof there piece).1

-- a broken frame stays one, whatever comes behind it
pub broken_stays : (r more : List ℕ) → 16 ≤ length r → is_broken r ≡ true → rest_of (r ++ more) ≡ r ++ more
broken_stays r more head broken =
    let size : body_size (r ++ more) ≡ body_size r = big_from-append 8 r more (omega (arith, head)) in
    let time : time_of (r ++ more) ≡ time_of r =
    ap (λ (l : List ℕ). body_size l) (drop-append-le 8 r more (omega (arith, head))) ∙ big_from-append 8 (drop 8 r) more (omega (arith, length-drop 8 r, head)) in
    let still : is_broken (r ++ more) ≡ true = (λ j. nat_lt 65535 (size j) || nat_lt (2 ^ 62) (time j)) ∙ broken in
    rest_last (r ++ more) ((λ j. nat_lt (length (r ++ more)) 16 || (still j || nat_lt (length (r ++ more)) (16 + body_size (r ++ more)))) ∙ or_true (nat_lt (length (r ++ more)) 16))
  where
    or_true : (b : Bool) → (b || true) ≡ true
    or_true true = refl
    or_true false = refl
