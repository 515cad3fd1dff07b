use Rattle.std.proofs.Common.{◌≡◌, ◌∷◌, [], ◌++◌, length, ap, arith, length-append}
use Rattle.std.proofs.lemmas.List.Elements.{All-push}
use Rattle.http_pages.specs.Inside.{IsPlaced}
use Rattle.http_pages.proofs.PackLemmas.{reads_more}
use Rattle.http_pages.proofs.pages.places_in.Goals as goal

pub loop-at-preserved : goal.loop-at-preserved
loop-at-preserved c =
    let places = c.loop-at.places.items in
    let page = c.in-Some.page in
    let items : c.push.new.self.items ≡ places ++ page ∷ [] = c.in_ok-push.ensures.items in
    record {
      within = c.in-Some.ensures.within.body.1;
      few = omega (arith, ap length items, length-append places (page ∷ []), c.len.ensures, c.if-len-ge-MOST_PAGES.false);
      reads = rw items (reads_more c.args.pack.now places c.loop-at.at page c.loop-at-test.true (omega (arith, c.len.ensures, c.if-len-ge-MOST_PAGES.false)) c.in-Some.ensures.is c.loop-at.invariant.reads);
      placed = rw items (All-push (IsPlaced (length c.args.pack.now)) places page c.loop-at.invariant.placed c.in-Some.ensures.within);
    }
