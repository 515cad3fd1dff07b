-- The text of all streams, and of one.
use Rattle.std.proofs.Common.{◌≡◌, ℕ, ◌+◌, ◌≤◌, ◌<◌, List, [], ◌∷◌, ◌++◌, length, drop, slice_get, codes, Option, Some, None, IfSome, refl, sym, ap, subst, ◌∙◌, append_assoc, arith, if◌then◌else◌}
use Rattle.std.specs.List.{flat_map, enumerate_from}
use Rattle.std.specs.Option.{option_map}
use Rattle.text_digits.specs.Told.{Told, more}
use Rattle.text_digits.proofs.Joins.{more_more, more_none}
use Rattle.std.proofs.lemmas.List.{drop_all, length-map}
use Rattle.std.proofs.lemmas.Option.{slice_get-map}
use Rattle.sq_base.specs.declared.kinds.Tuple.{Tuple}
use Rattle.chargen_service.specs.Chargen.{Generating}
use Rattle.report_lines.specs.ReportText.{done_line, end_line, line, reply_line}
use Rattle.stream_plan.specs.Streams.{MorePlanOf, StreamOf, item_count}
use Rattle.datagram_services.specs.declared.answer.SentDatagram.{SentDatagram}
use Rattle.datagram_services.specs.Items.{ServedOf, all_served}
use Rattle.conn_classifier.proofs.RingLaw.{drop_at}
use Rattle.datagram_services.specs.MoreText.{answer_line, counts_line, is_generator, items_line, plan_text, stream_line, stream_text}
use Rattle.datagram_services.specs.Served.{IsMoreServed}
use Rattle.placed_parts.proofs.PlaceSteps.{not_past}

-- what stands behind the stream's two first lines and the answers
abbrev pub generated : Tuple → Generating → List ℕ
generated t g = flat_map (reply_line t) g.block.replies ++ (if is_generator t.server_port then end_line g.block.state else [])

-- the streams from number c on
abbrev pub told : MorePlanOf → ℕ × StreamOf → List ℕ
told p (c, s) = stream_text c s (all_served p.file s)

abbrev pub streams_text : MorePlanOf → ℕ → List ℕ
streams_text p c = flat_map (told p) (enumerate_from c (drop c p.streams))

from_some : {X : Type 0} (P : X → Type 0) (r : Option X) (x : X) → r ≡ Some x → IfSome r P → P x
from_some P None x e h = absurd (let no : ⊥ = cc in no)
from_some P (Some y) x e h = let same : y ≡ x = cc in subst P same h

-- one stream
one_stream : (c count : ℕ) (s : StreamOf) (v : ServedOf) (t : Tuple) (answers : List SentDatagram) (g : Generating) (old a b d new : Told) → t ≡ s.tuple → count ≡ item_count s
    → answers ≡ v.answers → g ≡ v.generator → a ≡ more old (stream_line c t) → b ≡ more a (items_line count) → d ≡ more b (flat_map answer_line answers) → new ≡ more d (generated t g)
    → new ≡ more old (stream_text c s v)
unfolding stream_text
one_stream c count s v t answers g old a b d new te ce ae ge first second third last =
    let head = stream_line c s.tuple in
    let order = items_line (item_count s) in
    let replies = flat_map answer_line v.answers in
    let rest = generated s.tuple v.generator in
    last ∙ (λ k. more (third k) (generated (te k) (ge k))) ∙ (λ k. more (more (second k) (flat_map answer_line (ae k))) rest) ∙ (λ k. more (more (more (first k) (items_line (ce k))) replies) rest)
    ∙ (λ k. more (more (more (more old (stream_line c (te k))) order) replies) rest)
    ∙ more_more (more (more old head) order) replies rest ∙ more_more (more old head) order (replies ++ rest) ∙ more_more old head (order ++ (replies ++ rest))

served_at : (p : MorePlanOf) (v : List ServedOf) (c : ℕ) (s : StreamOf) → IsMoreServed p v → slice_get p.streams c ≡ Some s → slice_get v c ≡ Some (all_served p.file s)
served_at p v c s is here = ap (λ l. slice_get l c) is ∙ slice_get-map (all_served p.file) p.streams c ∙ ap (option_map (all_served p.file)) here

pub has_place : (p : MorePlanOf) (v : List ServedOf) (c : ℕ) → IsMoreServed p v → c < length p.streams → c < length v
has_place p v c is lt = let same : length v ≡ length p.streams = ap (λ (l : List ServedOf). length l) is ∙ length-map p.streams (all_served p.file) in omega (arith, same, lt)

module _ (p : MorePlanOf) (v : List ServedOf) (c : ℕ) (s : StreamOf) (is : IsMoreServed p v) (here : slice_get p.streams c ≡ Some s) where
  -- one stream of the plan, with what was served of it
  pub stream_told : (count : ℕ) (t : Tuple) (answers : List SentDatagram) (g : Generating) (old a b d new : Told) → t ≡ s.tuple → IfSome (slice_get p.streams c) (λ s. count ≡ item_count s)
      → IfSome (slice_get v c) (λ s. answers ≡ s.answers) → IfSome (slice_get v c) (λ s. g ≡ s.generator)
      → a ≡ more old (stream_line c t) → b ≡ more a (items_line count) → d ≡ more b (flat_map answer_line answers) → new ≡ more d (generated t g)
      → IfSome (slice_get p.streams c) (λ s. new ≡ more old (told p (c, s)))
  stream_told count t answers g old a b d new tuple counted answered made ae be de ne =
      let there = served_at p v c s is here in
      subst (λ r. IfSome r (λ s. new ≡ more old (told p (c, s)))) (sym here)
      (one_stream c count s (all_served p.file s) t answers g old a b d new tuple (from_some (λ s. count ≡ item_count s) (slice_get p.streams c) s here counted)
      (from_some (λ s. answers ≡ s.answers) (slice_get v c) (all_served p.file s) there answered) (from_some (λ s. g ≡ s.generator) (slice_get v c) (all_served p.file s) there made) ae be de ne)

-- one stream more
pub streams_more : (p : MorePlanOf) (c : ℕ) (was new whole : Told) → c < length p.streams → more was (streams_text p c) ≡ whole
    → IfSome (slice_get p.streams c) (λ s. new ≡ more was (told p (c, s))) → more new (streams_text p (c + 1)) ≡ whole
streams_more p c was new whole lt so_far one = on (slice_get p.streams c) refl one
  where
    on : (r : Option StreamOf) → slice_get p.streams c ≡ r → IfSome r (λ s. new ≡ more was (told p (c, s))) → more new (streams_text p (c + 1)) ≡ whole
    on None e h = absurd (let no : ⊥ = not_past p.streams c lt e in no)
    on (Some s) e h =
        ap (λ l. more l (streams_text p (c + 1))) h ∙ more_more was (told p (c, s)) (streams_text p (c + 1))
        ∙ sym (ap (λ l. more was (flat_map (told p) (enumerate_from c l))) (drop_at p.streams c s e)) ∙ so_far

-- all streams
pub streams_end : (p : MorePlanOf) (text whole : Told) (c : ℕ) → length p.streams ≤ c → more text (streams_text p c) ≡ whole → text ≡ whole
streams_end p text whole c past h =
    sym (more_none text) ∙ sym (ap (λ l. more text (flat_map (told p) (enumerate_from c l))) (drop_all c p.streams past)) ∙ h

-- the whole text
pub plan_told : (p : MorePlanOf) (old first counts streams text : Told) → first ≡ more old (line (codes "more" ∷ codes "1" ∷ []))
    → counts ≡ more first (counts_line (length p.file.packets) p.file.cut p.counts (length p.streams)) → streams ≡ more counts (streams_text p 0) → text ≡ more streams done_line → text ≡ more old (plan_text p)
unfolding plan_text
plan_told p old first counts streams text f k s t =
    let head = line (codes "more" ∷ codes "1" ∷ []) in
    let its = counts_line (length p.file.packets) p.file.cut p.counts (length p.streams) in
    let k1 = k ∙ ap (λ l. more l its) f in
    let s1 = s ∙ ap (λ l. more l (streams_text p 0)) k1 in
    t ∙ ap (λ l. more l done_line) s1 ∙ simp (more_more, append_assoc)
