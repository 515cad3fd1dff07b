use Rattle.std.proofs.Common.{◌∙◌, ◌&&◌, ◌==◌, Bool, ap, sym}
use Rattle.live_server.specs.Acts.{no_conn}
use Rattle.live_server.specs.Serving.{is_waiting}
use Rattle.live_server.proofs.TableLemmas.{conn_missed, none_is_whole}
use Rattle.live_server.proofs.table.is_waiting_at.Goals as goal

pub returns-in-None : goal.returns-in-None
returns-in-None c =
    sym (ap (λ (b : Bool). b && (no_conn.number == c.args.number)) none_is_whole)
    ∙ conn_missed (is_waiting c.args.number) c.args.table.now.entries c.args.place c.get_index.result c.get_index.ensures.entry c.in-None.is
