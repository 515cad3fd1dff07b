-- What is kept by records' numbers stands for the arrivals.
use Rattle.std.proofs.Common.{◌≡◌, ℕ, ◌+◌, ◌<◌, Bool, List, [], ◌∷◌, suc, length, map, get_or, Option, Some, None, true, false, refl, sym, ap, ◌∙◌, arith, slice_get}
use Rattle.std.specs.List.{AllByRecursion}
use Rattle.std.specs.Option.{option_map, option_and_then}
use Rattle.std.proofs.lemmas.List.{get_or-map, length-map}
use Rattle.sq_base.specs.declared.kinds.Tuple.{Tuple}
use Rattle.capture_reader.specs.CaptureFile.{Packet as Captured}
use Rattle.segment_codec.specs.declared.packet.Packet.{Packet}
use Rattle.segment_codec.specs.declared.packet.Packet.TheVariants as packet
use Rattle.segment_codec.specs.declared.packet.Seg.{Seg}
use Rattle.segment_codec.specs.Refusal.{tuple_of}
use Rattle.conn_classifier.specs.Connections.{served_in, tuple_eq}
use Rattle.conn_classifier.specs.Items.{arrivals, of_conn}
use Rattle.conn_classifier.specs.Slots.{IsKept, item_of, segment_of}
use Rattle.conn_classifier.specs.Sorting.{seen_of}
use Rattle.conn_classifier.specs.declared.kinds.Item.{Item}
use Rattle.conn_classifier.specs.declared.kinds.Slot.{Slot}
use Rattle.conn_classifier.proofs.PlanLaw.{all_filter}
use Rattle.conn_classifier.specs.declared.rules.Ports.{Ports}
use Rattle.conn_classifier.specs.Rules.{is_served}

-- a served segment is its packet's
served_segment : (ports : Ports) (p : Packet) (s : Seg) → served_in ports p ≡ Some s → segment_of p ≡ Some s
served_segment ports (packet.Segment q) s e = by (is_served ports q.dst_port) refl
  where
    by : (b : Bool) → is_served ports q.dst_port ≡ b → segment_of (packet.Segment q) ≡ Some s
    by true f = let now : Some q ≡ Some s = rw f at e in now
    by false f = absurd (let no : None ≡ Some s = rw f at e in let bad : ⊥ = cc in bad)
served_segment ports packet.Other s e = absurd (let bad : ⊥ = cc in bad)
served_segment ports packet.Fragment s e = absurd (let bad : ⊥ = cc in bad)
served_segment ports packet.Cut s e = absurd (let bad : ⊥ = cc in bad)
served_segment ports (packet.Malformed why) s e = absurd (let bad : ⊥ = cc in bad)
served_segment ports packet.BadSum s e = absurd (let bad : ⊥ = cc in bad)

module _ (ports : Ports) (RS : List Captured) (PS : List Packet) where
  -- the records from number n on are these
  all_kept : (n : ℕ) (rs : List Captured) (ps : List Packet) → ((k : ℕ) → slice_get RS (n + k) ≡ slice_get rs k) → ((k : ℕ) → slice_get PS (n + k) ≡ slice_get ps k)
      → AllByRecursion (IsKept RS PS) (arrivals ports n (seen_of rs ps))
  all_kept n [] ps f g = tt
  all_kept n (r ∷ rs) [] f g = tt
  all_kept n (r ∷ rs) (p ∷ ps) f g = by (served_in ports p) refl (all_kept (suc n) rs ps (λ k. on RS k ∙ f (suc k)) (λ k. on PS k ∙ g (suc k)))
    where
      on : {X : Type 0} (l : List X) (k : ℕ) → slice_get l (suc n + k) ≡ slice_get l (n + suc k)
      on l k = let e : suc n + k ≡ n + suc k = omega arith in ap (slice_get l) e

      here : {X : Type 0} (l : List X) → slice_get l n ≡ slice_get l (n + 0)
      here l = let e : n ≡ n + 0 = omega arith in ap (slice_get l) e

      by : (o : Option Seg) → served_in ports p ≡ o → AllByRecursion (IsKept RS PS) (arrivals ports (suc n) (seen_of rs ps))
          → AllByRecursion (IsKept RS PS) (arrivals ports n (seen_of (r ∷ rs) (p ∷ ps)))
      by None e rest = rw e rest
      by (Some s) e rest = rw e (
        record {
          time = ap (option_map (λ r. r.time)) (here RS ∙ f 0);
          segment = ap (option_and_then segment_of) (here PS ∙ g 0) ∙ served_segment ports p s e;
        },
        rest,
      )

  -- the arrivals of a connection are kept
  conn_kept : (t : Tuple) → AllByRecursion (IsKept RS PS) (of_conn ports t (seen_of RS PS))
  unfolding of_conn
  conn_kept t =
      let zero : (k : ℕ) → 0 + k ≡ k = λ k. omega arith in
      all_filter _ (λ a. tuple_eq (tuple_of a.seg) t) (arrivals ports 0 (seen_of RS PS)) (all_kept 0 RS PS (λ k. ap (slice_get RS) (zero k)) (λ k. ap (slice_get PS) (zero k)))

  -- those of all connections
  pub conns_kept : (ts : List Tuple) → AllByRecursion (AllByRecursion (IsKept RS PS)) (map (λ t. of_conn ports t (seen_of RS PS)) ts)
  conns_kept [] = tt
  conns_kept (t ∷ ts) = (conn_kept t, conns_kept ts)

-- what was read of the slots is the item
pub item_here : (ps : List Packet) (slots : List Slot) (n : ℕ) (x : Slot) (items : List Item) (item : Item) → map (item_of ps) slots ≡ items → n < length items
    → x ≡ get_or slots n x → item ≡ item_of ps x → item ≡ get_or items n item
item_here ps slots n x items item e lt r is =
    let less : n < length slots = omega (arith, lt, ap length e, length-map slots (item_of ps)) in
    is ∙ ap (item_of ps) r ∙ sym (get_or-map (item_of ps) slots n x item less) ∙ ap (λ l. get_or l n item) e
