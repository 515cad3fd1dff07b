-- The text of all connections, by their blocks and by their orders.
use Rattle.std.proofs.Common.{◌≡◌, ℕ, ◌+◌, ◌<◌, ◌≤◌, List, [], ◌∷◌, ◌++◌, suc, length, drop, get_or, map, slice_get, codes, Option, Some, None, IfSome, refl, sym, ap, subst, ◌∙◌, arith}
use Rattle.std.specs.List.{flat_map, enumerate_from}
use Rattle.std.specs.Option.{option_map}
use Rattle.text_digits.specs.Told.{Told, more}
use Rattle.text_digits.proofs.Joins.{more_more, more_none}
use Rattle.std.proofs.lemmas.List.{drop_all}
use Rattle.std.proofs.lemmas.Option.{get_or_from_slice_get, slice_get-map}
use Rattle.perimeter_core.specs.declared.entries.Act.{Act}
use Rattle.sq_base.specs.declared.kinds.Tuple.{Tuple}
use Rattle.conn_classifier.specs.Plan.{PlanOf}
use Rattle.conn_classifier.proofs.RingLaw.{drop_at}
use Rattle.conn_blocks.specs.CallLists.{CallLists}
use Rattle.conn_blocks.specs.ServeOrder.{BlockOf, serve, serving_of}
use Rattle.conn_blocks.specs.ServedBlocks.{AreServed}
use Rattle.conn_blocks.specs.Services.{service_in}
use Rattle.report_lines.specs.ReportText.{conn_text, line, counts_line, body_text, done_line, report_text}

-- the connections of a plan from number c on, each with its block
abbrev pub blocks_text : PlanOf → ℕ → List Tuple → List BlockOf → List ℕ
blocks_text p c [] bs = []
blocks_text p c (t ∷ ts) [] = []
blocks_text p c (t ∷ ts) (b ∷ bs) = conn_text c t (service_in p c) b.order (serving_of b) ++ blocks_text p (c + 1) ts bs

-- one connection more
pub block_more : (p : PlanOf) (ts : List Tuple) (bs : List BlockOf) (whole was new : Told) (c : ℕ) (t : Tuple) (b : BlockOf)
    → more was (blocks_text p c (drop c ts) (drop c bs)) ≡ whole → slice_get ts c ≡ Some t → slice_get bs c ≡ Some b
    → new ≡ more was (conn_text c t (service_in p c) b.order (serving_of b)) → more new (blocks_text p (c + 1) (drop (c + 1) ts) (drop (c + 1) bs)) ≡ whole
block_more p ts bs whole was new c t b so_far e f n =
    let tuples = drop_at ts c t e in
    let blocks = drop_at bs c b f in
    let rest = blocks_text p (c + 1) (drop (c + 1) ts) (drop (c + 1) bs) in
    ap (λ l. more l rest) n ∙ more_more was (conn_text c t (service_in p c) b.order (serving_of b)) rest
    ∙ sym ((λ k. more was (blocks_text p c (tuples k) (blocks k)))) ∙ so_far

-- all connections
pub blocks_end : (p : PlanOf) (ts : List Tuple) (bs : List BlockOf) (text whole : Told) (c : ℕ) → length ts ≤ c → more text (blocks_text p c (drop c ts) (drop c bs)) ≡ whole → text ≡ whole
blocks_end p ts bs text whole c past h =
    sym (more_none text) ∙ sym (ap (λ l. more text (blocks_text p c l (drop c bs))) (drop_all c ts past)) ∙ h

module _ (p : PlanOf) (calls : CallLists) (orders : List (List Act)) where
  abbrev pub told : ℕ × Tuple → List ℕ
  told (c, t) = conn_text c t (service_in p c) (get_or orders c []) (serve p calls c (get_or orders c []))

  -- a block is the serving of the order of its number
  abbrev pub Agrees : ℕ → BlockOf → Type 0
  Agrees c b = (serving_of b ≡ serve p calls c b.order) × (get_or orders c [] ≡ b.order)

  pub agree : (i : ℕ) (ts : List Tuple) (bs : List BlockOf) → length bs ≡ length ts
      → ((k c : ℕ) → c ≡ i + k → k < length ts → IfSome (slice_get bs k) (Agrees c))
      → blocks_text p i ts bs ≡ flat_map told (enumerate_from i ts)
  agree i [] bs same each = refl
  agree i (t ∷ ts) [] same each = absurd (let no : ⊥ = omega arith in no)
  agree i (t ∷ ts) (b ∷ bs) same each =
      let here : Agrees i b = each 0 i (omega arith) (omega arith) in
      let order = sym here.1 in
      let rest : blocks_text p (i + 1) ts bs ≡ flat_map told (enumerate_from (i + 1) ts) = agree (i + 1) ts bs (omega arith) (λ k c e lt. each (suc k) c (omega arith) (omega (arith, lt))) in
      ap (λ s. conn_text i t (service_in p i) b.order s ++ blocks_text p (i + 1) ts bs) here.0
      ∙ (λ k. conn_text i t (service_in p i) (order k) (serve p calls i (order k)) ++ rest k)

pub agrees : (p : PlanOf) (calls : CallLists) (bs : List BlockOf) → AreServed p calls bs → (k c : ℕ) → c ≡ 0 + k → k < length p.tuples
    → IfSome (slice_get bs k) (Agrees p calls (map (λ b. b.order) bs) c)
agrees p calls bs served k c e lt =
    let same : k ≡ c = omega arith in
    let short : c < length p.tuples = omega arith in
    subst (λ n. IfSome (slice_get bs n) (Agrees p calls (map (λ b. b.order) bs) c)) (sym same)
    (IfSome_known (slice_get bs c) (served.each c short) (λ b there h. (h.served, order_at b there)))
  where
    IfSome_known : (r : Option BlockOf) {P Q : BlockOf → Type 0} → IfSome r P → ((x : BlockOf) → r ≡ Some x → P x → Q x) → IfSome r Q
    IfSome_known None h f = tt
    IfSome_known (Some x) h f = f x refl h

    order_at : (b : BlockOf) → slice_get bs c ≡ Some b → get_or (map (λ x. x.order) bs) c [] ≡ b.order
    order_at b there = get_or_from_slice_get (map (λ x. x.order) bs) c b.order [] (slice_get-map (λ x. x.order) bs c ∙ ap (option_map (λ x. x.order)) there)

-- the text of all connections behind the counts
pub body : (p : PlanOf) (calls : CallLists) (bs : List BlockOf) (old counts new : Told) → AreServed p calls bs
    → counts ≡ more old (counts_line p.counts (length p.tuples)) → new ≡ more counts (blocks_text p 0 p.tuples bs) → new ≡ more old (body_text p calls (map (λ b. b.order) bs))
unfolding body_text
body p calls bs old counts new served n c =
    let all = agree p calls (map (λ b. b.order) bs) 0 p.tuples bs served.count (agrees p calls bs served) in
    c ∙ (λ k. more (n k) (all k)) ∙ more_more old (counts_line p.counts (length p.tuples)) (flat_map (told p calls (map (λ b. b.order) bs)) (enumerate_from 0 p.tuples))

-- the whole text
pub reported : (p : PlanOf) (calls : CallLists) (orders : List (List Act)) (old first body text : Told)
    → first ≡ more old (line (codes "report" ∷ codes "1" ∷ [])) → body ≡ more first (body_text p calls orders) → text ≡ more body done_line → text ≡ more old (report_text p calls orders)
unfolding report_text
reported p calls orders old first body text f b t =
    let head = line (codes "report" ∷ codes "1" ∷ []) in
    t ∙ ap (λ l. more l done_line) (b ∙ ap (λ l. more l (body_text p calls orders)) f) ∙ more_more (more old head) (body_text p calls orders) done_line
    ∙ more_more old head (body_text p calls orders ++ done_line)
