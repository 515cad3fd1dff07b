use Rattle.std.proofs.Common.{◌≡◌, false, rules, refl}
use Rattle.datagram_services.proofs.Lying.{as_many, lies_at}
use Rattle.datagram_services.proofs.served.MoreServed.left.Goals as goal

pub returns : goal.returns
returns c =
    let whole : c.is_short.result ≡ false = search rules in
    record {
      ended = refl;
      count = as_many c.args.finished.parts c.requires.there;
      each = λ k b is. (lies_at c.args.finished.parts k b c.requires.there is, c.is_short.ensures whole k b is);
    }
