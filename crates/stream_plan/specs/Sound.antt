-- What holds of every plan of streams.
use Rattle.std.specs.Prelude.{◌≡◌, ◌+◌, ◌*◌, ◌<◌, ◌≤◌, ◌⊎◌, IfSome, [], length, map, slice_get, sum_by}
use Rattle.std.specs.List.{AllByRecursion}
use Rattle.sq_base.specs.Ports.{chargen_port, discard_port, echo_port}
use Rattle.capture_reader.specs.Limits.{latest_time, most_records}
use Rattle.capture_reader.specs.Outcome.{CaptureFile}
use Rattle.conn_classifier.specs.Plan.{Climbs, IsInside, Rises}
use Rattle.udp_codec.specs.Limits.{most_text}
use Rattle.stream_plan.specs.Limits.{most_streams}
use Rattle.stream_plan.specs.declared.kinds.ServedDatagram.{ServedDatagram}
use Rattle.stream_plan.specs.Streams.{MorePlanOf, StreamOf, item_count}

-- a datagram's text lies within its record's body, and is short enough to be sent in a datagram
pub record HasText (file : CaptureFile) (d : ServedDatagram) : Type 0 where
  pub within : d.rec < length file.packets
  pub text : IfSome (slice_get file.packets d.rec) (λ r. d.udp.text_from + d.udp.text_len ≤ length r.body)
  pub short : d.udp.text_len ≤ most_text

-- the server's port is that of echo or discard, and there are datagrams alone; or that of the generator, and there are items alone
abbrev pub HasService : StreamOf → Type 0
HasService s =
    (((s.tuple.server_port ≡ echo_port) ⊎ (s.tuple.server_port ≡ discard_port)) × (s.items ≡ [])) ⊎ ((s.tuple.server_port ≡ chargen_port) × (s.datagrams ≡ []))

-- a stream has a datagram or an item, of one sort; times never fall, and texts are in the capture
pub record IsStream (file : CaptureFile) (s : StreamOf) : Type 0 where
  pub some : 0 < item_count s
  pub service : HasService s
  pub texts : AllByRecursion (HasText file) s.datagrams
  pub climbing : Climbs 0 (map (λ d. d.at) s.datagrams)
  pub rising : Rises 0 latest_time s.items
  pub inside : AllByRecursion (IsInside file) s.items

-- there are at most 4,096 streams, with at most two items a record
pub record IsMorePlan (p : MorePlanOf) : Type 0 where
  pub few : length p.streams ≤ most_streams
  pub together : sum_by item_count p.streams ≤ 2 * most_records
  pub each : AllByRecursion (IsStream p.file) p.streams
