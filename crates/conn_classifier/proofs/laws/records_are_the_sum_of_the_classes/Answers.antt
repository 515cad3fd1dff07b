use Rattle.std.proofs.Common.{length, map, ◌∙◌}
use Rattle.std.proofs.lemmas.List.{length-map}
use Rattle.segment_codec.specs.Packet.{packet_in}
use Rattle.conn_classifier.specs.Connections.{conns, decoded}
use Rattle.conn_classifier.specs.Classes.{class_in}
use Rattle.conn_classifier.specs.Items.{Seen}
use Rattle.conn_classifier.specs.Plan.{plan_by, seen}
use Rattle.conn_classifier.proofs.Tallies.{total-counts}
use Rattle.conn_classifier.proofs.laws.records_are_the_sum_of_the_classes.Goals as goal

pub returns : goal.returns
unfolding plan_by
returns c = λ file rules.
    total-counts (length file.packets) file.cut (map (λ x. class_in rules.ports (conns rules.ports (decoded file rules.verify)) x.1) (seen file rules.verify))
    ∙ (length-map (seen file rules.verify) (λ x. class_in rules.ports (conns rules.ports (decoded file rules.verify)) x.1)
    ∙ length-map {B = Seen} file.packets (λ r. (r.time, packet_in file.link r.body rules.verify)))
