-- What holds of each record that is served, and so of each stream.
use Rattle.std.proofs.Common.{◌≡◌, ℕ, ◌+◌, ◌<◌, ◌≤◌, ◌==◌, max, Bool, true, false, inl, inr, ◌⊎◌, List, [], ◌∷◌, suc, zero, length, map, Option, Some, None, IfSome, slice_get, refl, sym, ap, subst, ◌∙◌, arith}
use Rattle.std.specs.List.{AllByRecursion}
use Rattle.std.proofs.lemmas.Bool.Decides.{nat_tests}
use Rattle.sq_base.specs.Ports.{chargen_port, discard_port, echo_port}
use Rattle.sq_base.specs.declared.kinds.Tuple.{Tuple}
use Rattle.segment_codec.specs.declared.packet.Packet.{Packet}
use Rattle.segment_codec.specs.declared.packet.Packet.TheVariants as packet
use Rattle.segment_codec.specs.Packet.{packet_in}
use Rattle.capture_reader.specs.CaptureFile.{Packet as Captured}
use Rattle.capture_reader.specs.Limits.{latest_time}
use Rattle.capture_reader.specs.Outcome.{CaptureFile}
use Rattle.udp_codec.specs.Limits.{most_text}
use Rattle.udp_codec.specs.declared.datagram.Udp.{Udp}
use Rattle.udp_codec.specs.UdpDatagram.{udp_in}
use Rattle.conn_classifier.specs.Items.{items_of}
use Rattle.conn_classifier.specs.Plan.{Climbs}
use Rattle.conn_classifier.proofs.Conns.{same}
use Rattle.conn_classifier.proofs.PlanLaw.{IsIn}
use Rattle.conn_classifier.proofs.TextWithin.{EndsWithin, text_within}
use Rattle.stream_plan.specs.declared.kinds.Arrived.{Arrived}
use Rattle.stream_plan.specs.declared.kinds.ServedDatagram.{ServedDatagram}
use Rattle.stream_plan.specs.declared.kinds.Found.{Found}
use Rattle.stream_plan.specs.declared.kinds.Found.TheVariants as found
use Rattle.stream_plan.specs.Streams.{arrived_from, datagrams_of, is_of, of_stream, rising, segments_of, served_in, served_tcp, served_udp, stream_in, tuple_of}
use Rattle.stream_plan.specs.Sound.{HasService, HasText, IsStream}
use Rattle.stream_plan.proofs.ItemFacts.{items_inside, items_rise, some_items}
use Rattle.stream_plan.proofs.UdpText.{udp_within}

-- a datagram goes to echo or discard, a segment to the generator
abbrev HasPort : Found → Type 0
HasPort (found.Datagram u) = (u.dst_port ≡ echo_port) ⊎ (u.dst_port ≡ discard_port)
HasPort (found.Segment s) = s.dst_port ≡ chargen_port

-- the text lies within so many bytes, and that of a datagram is short enough to be sent
abbrev EndsIn : ℕ → Found → Type 0
EndsIn n (found.Datagram u) = (u.text_from + u.text_len ≤ n) × (u.text_len ≤ most_text)
EndsIn n (found.Segment s) = s.text_from + s.text_len ≤ n

equals : (a b : ℕ) → (a == b) ≡ true → a ≡ b
equals a b e = grind (arith, nat_tests, e)

udp_found : (n : ℕ) (u : Udp) (f : Found) → u.text_from + u.text_len ≤ n → u.text_len ≤ most_text → served_udp u ≡ Some f → HasPort f × EndsIn n f
udp_found n u f le short e = by (u.dst_port == echo_port) (u.dst_port == discard_port) refl refl
  where
    is : (u.dst_port ≡ echo_port) ⊎ (u.dst_port ≡ discard_port) → Some (found.Datagram u) ≡ Some f → HasPort f × EndsIn n f
    is port now = let same : found.Datagram u ≡ f = cc in subst (λ (f : Found). HasPort f × EndsIn n f) same (port, (le, short))

    by : (a b : Bool) → (u.dst_port == echo_port) ≡ a → (u.dst_port == discard_port) ≡ b → HasPort f × EndsIn n f
    by true b p q = is (inl (equals u.dst_port echo_port p)) (rw p at e)
    by false true p q = is (inr (equals u.dst_port discard_port q)) (rw (p, q) at e)
    by false false p q = absurd (let none : None ≡ Some f = rw (p, q) at e in let no : ⊥ = cc in no)

tcp_found : (n : ℕ) (p : Packet) (f : Found) → EndsWithin n p → served_tcp p ≡ Some f → HasPort f × EndsIn n f
tcp_found n (packet.Segment s) f le e = by (s.dst_port == chargen_port) refl
  where
    by : (b : Bool) → (s.dst_port == chargen_port) ≡ b → HasPort f × EndsIn n f
    by true p = let now : Some (found.Segment s) ≡ Some f = rw p at e in let same : found.Segment s ≡ f = cc in subst (λ (f : Found). HasPort f × EndsIn n f) same (equals s.dst_port chargen_port p, le)
    by false p = absurd (let none : None ≡ Some f = rw p at e in let no : ⊥ = cc in no)
tcp_found n packet.Other f le e = absurd (let no : ⊥ = cc in no)
tcp_found n packet.Fragment f le e = absurd (let no : ⊥ = cc in no)
tcp_found n packet.Cut f le e = absurd (let no : ⊥ = cc in no)
tcp_found n (packet.Malformed why) f le e = absurd (let no : ⊥ = cc in no)
tcp_found n packet.BadSum f le e = absurd (let no : ⊥ = cc in no)

pub length-rising : (from : ℕ) (ds : List ServedDatagram) → length (rising from ds) ≡ length ds
length-rising from [] = refl
length-rising from (d ∷ ds) = ap suc (length-rising (max from d.at) ds)

-- a record's number, its time, which is at most the last, and what was found in its body
pub record IsFound (file : CaptureFile) (last : ℕ) (x : Arrived) : Type 0 where
  pub time : x.at ≤ last
  pub within : x.rec < length file.packets
  pub port : HasPort x.found
  pub text : IfSome (slice_get file.packets x.rec) (λ r. EndsIn (length r.body) x.found)

-- and it is of this stream
abbrev pub IsHere : CaptureFile → ℕ → Tuple → Arrived → Type 0
IsHere file last t x = IsFound file last x × (tuple_of x.found ≡ t)

module _ (file : CaptureFile) (last : ℕ) where
  found_in : (r : Captured) (f : Found) → served_in file.link r.body ≡ Some f → HasPort f × EndsIn (length r.body) f
  found_in r f e = by (udp_in file.link r.body) refl
    where
      by : (o : Option Udp) → udp_in file.link r.body ≡ o → HasPort f × EndsIn (length r.body) f
      by None p = tcp_found (length r.body) (packet_in file.link r.body false) f (text_within file.link r.body false) (rw p at e)
      by (Some u) p = let w = udp_within file.link r.body u p in udp_found (length r.body) u f w.within w.short (rw p at e)

  pub all_found : (n : ℕ) (rs : List Captured) → n + length rs ≡ length file.packets → ((k : ℕ) → slice_get file.packets (n + k) ≡ slice_get rs k)
      → AllByRecursion (λ r. r.time ≤ last) rs → AllByRecursion (IsFound file last) (arrived_from file.link n rs)
  all_found n [] long is h = tt
  all_found n (r ∷ rs) long is h = by (served_in file.link r.body) refl (all_found (suc n) rs (omega (arith, long)) on h.1)
    where
      here : slice_get file.packets n ≡ Some r
      here = let none : n ≡ n + 0 = omega arith in ap (slice_get file.packets) none ∙ is 0

      on : (k : ℕ) → slice_get file.packets (suc n + k) ≡ slice_get rs k
      on k = let e : suc n + k ≡ n + suc k = omega arith in ap (slice_get file.packets) e ∙ is (suc k)

      by : (o : Option Found) → served_in file.link r.body ≡ o → AllByRecursion (IsFound file last) (arrived_from file.link (suc n) rs)
          → AllByRecursion (IsFound file last) (arrived_from file.link n (r ∷ rs))
      by None e rest = rw e rest
      by (Some f) e rest = let it = found_in r f e in let inside = it.1 in rw e (record { time = h.0; within = omega (arith, long); port = it.0; text = rw here inside }, rest)

  module _ (t : Tuple) where
    pub all_here : (xs : List Arrived) → AllByRecursion (IsFound file last) xs → AllByRecursion (IsHere file last t) (of_stream t xs)
    all_here [] h = tt
    all_here (x ∷ xs) h = by (is_of t x) refl (all_here xs h.1)
      where
        by : (b : Bool) → is_of t x ≡ b → AllByRecursion (IsHere file last t) (of_stream t xs) → AllByRecursion (IsHere file last t) (of_stream t (x ∷ xs))
        by true e rest = rw e ((h.0, same (tuple_of x.found) t e), rest)
        by false e rest = rw e rest

    not_both : (n : ℕ) → (n ≡ echo_port) ⊎ (n ≡ discard_port) → n ≡ chargen_port → ⊥
    not_both n (inl a) b = omega (arith, a, b)
    not_both n (inr a) b = omega (arith, a, b)

    -- where the server's port is that of echo or discard, only datagrams are here
    only_datagrams : (t.server_port ≡ echo_port) ⊎ (t.server_port ≡ discard_port) → (xs : List Arrived) → AllByRecursion (IsHere file last t) xs → (segments_of xs ≡ []) × (length (datagrams_of xs) ≡ length xs)
    only_datagrams port [] h = (refl, refl)
    only_datagrams port (x ∷ xs) h = by x.found refl (only_datagrams port xs h.1)
      where
        by : (f : Found) → x.found ≡ f → (segments_of xs ≡ []) × (length (datagrams_of xs) ≡ length xs) → (segments_of (x ∷ xs) ≡ []) × (length (datagrams_of (x ∷ xs)) ≡ length (x ∷ xs))
        by (found.Datagram u) e rest = rw e (rest.0, ap suc rest.1)
        by (found.Segment s) e rest =
            let its : s.dst_port ≡ chargen_port = subst HasPort e h.0.0.port in
            let here : s.dst_port ≡ t.server_port = ap (λ (t : Tuple). t.server_port) (ap tuple_of (sym e) ∙ h.0.1) in
            absurd (not_both t.server_port port (sym here ∙ its))

    -- where it is that of the generator, only segments
    only_segments : t.server_port ≡ chargen_port → (xs : List Arrived) → AllByRecursion (IsHere file last t) xs → (datagrams_of xs ≡ []) × (length (segments_of xs) ≡ length xs)
    only_segments port [] h = (refl, refl)
    only_segments port (x ∷ xs) h = by x.found refl (only_segments port xs h.1)
      where
        by : (f : Found) → x.found ≡ f → (datagrams_of xs ≡ []) × (length (segments_of xs) ≡ length xs) → (datagrams_of (x ∷ xs) ≡ []) × (length (segments_of (x ∷ xs)) ≡ length (x ∷ xs))
        by (found.Segment s) e rest = rw e (rest.0, ap suc rest.1)
        by (found.Datagram u) e rest =
            let its : (u.dst_port ≡ echo_port) ⊎ (u.dst_port ≡ discard_port) = subst HasPort e h.0.0.port in
            let here : u.dst_port ≡ t.server_port = ap (λ (t : Tuple). t.server_port) (ap tuple_of (sym e) ∙ h.0.1) in
            absurd (not_both t.server_port (subst (λ (n : ℕ). (n ≡ echo_port) ⊎ (n ≡ discard_port)) here its) port)

    -- the server's port is one of these, where something is here
    its_port : (xs : List Arrived) → 0 < length xs → AllByRecursion (IsHere file last t) xs → ((t.server_port ≡ echo_port) ⊎ (t.server_port ≡ discard_port)) ⊎ (t.server_port ≡ chargen_port)
    its_port [] some h = absurd (let no : ⊥ = omega (arith, some) in no)
    its_port (x ∷ xs) some h = by x.found refl
      where
        by : (f : Found) → x.found ≡ f → ((t.server_port ≡ echo_port) ⊎ (t.server_port ≡ discard_port)) ⊎ (t.server_port ≡ chargen_port)
        by (found.Datagram u) e =
            let here : u.dst_port ≡ t.server_port = ap (λ (t : Tuple). t.server_port) (ap tuple_of (sym e) ∙ h.0.1) in
            inl (subst (λ (n : ℕ). (n ≡ echo_port) ⊎ (n ≡ discard_port)) here (subst HasPort e h.0.0.port))
        by (found.Segment s) e =
            let here : s.dst_port ≡ t.server_port = ap (λ (t : Tuple). t.server_port) (ap tuple_of (sym e) ∙ h.0.1) in
            inr (sym here ∙ subst HasPort e h.0.0.port)

    -- the segments among what is here
    all_segments : (xs : List Arrived) → AllByRecursion (IsHere file last t) xs → AllByRecursion (IsIn file last) (segments_of xs)
    all_segments [] h = tt
    all_segments (x ∷ xs) h = by x.found refl (all_segments xs h.1)
      where
        by : (f : Found) → x.found ≡ f → AllByRecursion (IsIn file last) (segments_of xs) → AllByRecursion (IsIn file last) (segments_of (x ∷ xs))
        by (found.Datagram u) e rest = rw e rest
        by (found.Segment s) e rest =
            let text = subst (λ (f : Found). IfSome (slice_get file.packets x.rec) (λ r. EndsIn (length r.body) f)) e h.0.0.text in
            rw e (record { time = h.0.0.time; record_number = h.0.0.within; text = text }, rest)

    -- and the datagrams, at their times
    both_of : (o : Option Captured) (u : Udp) → IfSome o (λ r. EndsIn (length r.body) (found.Datagram u)) → IfSome o (λ r. u.text_from + u.text_len ≤ length r.body)
    both_of None u h = tt
    both_of (Some r) u h = h.0

    short_of : (rs : List Captured) (n : ℕ) (u : Udp) → n < length rs → IfSome (slice_get rs n) (λ r. EndsIn (length r.body) (found.Datagram u)) → u.text_len ≤ most_text
    short_of [] n u lt h = absurd (let no : ⊥ = omega (arith, lt) in no)
    short_of (r ∷ rs) zero u lt h = h.1
    short_of (r ∷ rs) (suc n) u lt h = short_of rs n u (omega (arith, lt)) h

    all_texts : (from : ℕ) (xs : List Arrived) → AllByRecursion (IsHere file last t) xs → AllByRecursion (HasText file) (rising from (datagrams_of xs))
    all_texts from [] h = tt
    all_texts from (x ∷ xs) h = by x.found refl (λ n. all_texts n xs h.1)
      where
        by : (f : Found) → x.found ≡ f → ((n : ℕ) → AllByRecursion (HasText file) (rising n (datagrams_of xs))) → AllByRecursion (HasText file) (rising from (datagrams_of (x ∷ xs)))
        by (found.Segment s) e rest = rw e (rest from)
        by (found.Datagram u) e rest =
            let text = subst (λ (f : Found). IfSome (slice_get file.packets x.rec) (λ r. EndsIn (length r.body) f)) e h.0.0.text in
            rw e (
              record { within = h.0.0.within; text = both_of (slice_get file.packets x.rec) u text; short = short_of file.packets x.rec u h.0.0.within text },
              rest (max from x.at),
            )

    climbs : (from : ℕ) (ds : List ServedDatagram) → Climbs from (map (λ d. d.at) (rising from ds))
    climbs from [] = tt
    climbs from (d ∷ ds) = (omega arith, climbs (max from d.at) ds)

    pub stream_is : (xs : List Arrived) → 0 < length xs → last ≤ latest_time → AllByRecursion (IsHere file last t) xs → IsStream file (stream_in last t xs)
    stream_is xs some most h = record {
      some = by (its_port xs some h);
      service = of (its_port xs some h);
      texts = all_texts 0 xs h;
      climbing = climbs 0 (datagrams_of xs);
      rising = items_rise file last latest_time (segments_of xs) most (all_segments xs h);
      inside = items_inside file last (segments_of xs) (all_segments xs h);
    }
      where
        by : ((t.server_port ≡ echo_port) ⊎ (t.server_port ≡ discard_port)) ⊎ (t.server_port ≡ chargen_port) → 0 < length (rising 0 (datagrams_of xs)) + length (items_of last (segments_of xs))
        by (inl port) = omega (arith, some, length-rising 0 (datagrams_of xs), (only_datagrams port xs h).1)
        by (inr port) = let n = (only_segments port xs h).1 in omega (arith, some_items last (segments_of xs) (omega (arith, n, some)))

        of : ((t.server_port ≡ echo_port) ⊎ (t.server_port ≡ discard_port)) ⊎ (t.server_port ≡ chargen_port) → HasService (stream_in last t xs)
        of (inl port) = inl (port, ap (items_of last) (only_datagrams port xs h).0)
        of (inr port) = inr (port, ap (rising 0) (only_segments port xs h).0)
