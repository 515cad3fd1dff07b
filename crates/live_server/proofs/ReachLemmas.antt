-- The time comes to one connection after another.
use Rattle.std.proofs.Common.{◌≡◌, ℕ, suc, ◌+◌, ◌≤◌, List, ◌++◌, drop, take, length, slice_get, Some, sym, ap, ◌∙◌, add-one, append_assoc}
use Rattle.std.specs.List.{flat_map}
use Rattle.std.proofs.lemmas.Option.{slice_get_within}
use Rattle.indexmap.specs.IndexMap.{set_value_at}
use Rattle.sq_base.specs.declared.kinds.Tuple.{Tuple}
use Rattle.live_server.specs.Acts.{emptied, sent_by, ticked}
use Rattle.live_server.specs.Table.{Conns, all_reached, reached_until, without}
use Rattle.live_server.specs.Written.{HasSent}
use Rattle.live_server.specs.declared.acting.Datagram.{Datagram}
use Rattle.live_server.specs.declared.conn.Conn.{Conn}
use Rattle.live_server.specs.declared.measures.Measures.{Measures}
use Rattle.live_server.proofs.TableLemmas.{without_set}
use Rattle.live_server.proofs.TurnLemmas.{all_turned, next_entry, part_turned, told_all, told_more, turn}
use Rattle.live_server.proofs.WrittenLemmas.{all_sent, flat_front, sent_behind, sent_of_front}

module _ (measures : Measures) (now : ℕ) (cs : Conns) where
  abbrev stepped : Conn → Conn
  stepped c = emptied (ticked measures now c)

  abbrev told : Tuple × Conn → List Datagram
  told c = sent_by c.0 (ticked measures now c.1)

  abbrev pub halfway : ℕ → Conns
  halfway i = part_turned stepped i cs

  abbrev pub told_until : ℕ → List Datagram
  told_until i = flat_map told (take i cs)

  module _ (i : ℕ) (here : Conns) (is : here ≡ halfway i) (k : Tuple) (v : Conn) (at : slice_get here i ≡ Some (k, v)) where
    at_first : slice_get cs i ≡ Some (k, v)
    at_first = sym (next_entry stepped cs i) ∙ sym (ap (λ (l : Conns). slice_get l i) is) ∙ at

    pub one_turn : (kept : Conn) → kept ≡ stepped v → set_value_at here i kept ≡ halfway (i + 1)
    one_turn kept is_kept = (λ j. set_value_at (is j) i (is_kept j)) ∙ turn stepped cs i k v at_first ∙ ap halfway (sym (add-one i))

    pub one_told : (start before after : List Datagram) → before ≡ start ++ told_until i → after ≡ before ++ sent_by k (ticked measures now v) → after ≡ start ++ told_until (i + 1)
    one_told start before after so_far more =
        more ∙ ap (λ l. l ++ sent_by k (ticked measures now v)) so_far ∙ append_assoc start (told_until i) (sent_by k (ticked measures now v))
        ∙ ap (λ l. start ++ l) (sym (told_more told cs i (k, v) at_first) ∙ ap told_until (sym (add-one i)))

    -- memory was missing at this one
    pub one_partly : (start before after : List Datagram) → before ≡ start ++ told_until i → HasSent before after (sent_by k (ticked measures now v))
        → HasSent start after (flat_map (λ c. sent_by c.0 (ticked measures now c.1)) cs)
    one_partly start before after so_far h =
        sent_of_front start after _ (told_until (suc i)) (flat_map told (drop (suc i) cs)) (flat_front told cs (suc i))
        (sent_behind start before after _ (told_until i) (sent_by k (ticked measures now v)) (told_more told cs i (k, v) at_first) (all_sent start before _ so_far) h)

    pub one_lost : (w : Conn) (new : Conns) → new ≡ without i (set_value_at here i w) → new ≡ without i (reached_until measures now i cs)
    one_lost w new left = left ∙ without_set here i w (slice_get_within here i (k, v) at) ∙ ap (without i) is

  pub all_turned_by : (i : ℕ) (here : Conns) → here ≡ halfway i → length cs ≤ i → here ≡ all_reached measures now cs
  all_turned_by i here is past = is ∙ all_turned stepped cs i past

  pub all_told : (i : ℕ) (start out : List Datagram) → out ≡ start ++ told_until i → length cs ≤ i → out ≡ start ++ flat_map (λ c. sent_by c.0 (ticked measures now c.1)) cs
  all_told i start out so_far past = so_far ∙ ap (λ l. start ++ l) (told_all told cs i past)
