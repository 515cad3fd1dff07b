use Rattle.std.proofs.Common.{rules, arith, ◌≡◌, ◌+◌, ◌*◌, ◌++◌, length, length-append, sym, ap, subst, ◌∙◌, take-append-drop}
use Rattle.text_digits.proofs.Digits.{all_told, no_error, part_more}
use Rattle.text_digits.proofs.push_hex.Goals as goal

pub returns-in_err-put_hex-clause-items : goal.returns-in_err-put_hex-clause-items
returns-in_err-put_hex-clause-items g c =
    let end = g.T.TextEnd in
    let rest = c.loop-rest.rest.now in
    let part = c.split_at.result.0.now in
    let behind = c.split_at.result.1.now in
    let whole : rest ≡ part ++ behind = sym ((λ k. c.split_at.ensures.front k ++ c.split_at.ensures.back k) ∙ take-append-drop _ rest) in
    let size : 2 * length rest ≡ 2 * length part + 2 * length behind = omega (arith, ap (λ l. length l) whole, length-append part behind) in
    absurd (no_error (c.in_err-put_hex.ensures.succeeds (g.met.T.TextEnd.less c.loop-rest.text (2 * length part) (2 * length behind) (subst (λ n. end.has_room c.loop-rest.text n) size c.loop-rest.invariant.room))))

pub returns-in_err-put_hex-clause-succeeds : goal.returns-in_err-put_hex-clause-succeeds
returns-in_err-put_hex-clause-succeeds g c = λ _.
    let end = g.T.TextEnd in
    let rest = c.loop-rest.rest.now in
    let part = c.split_at.result.0.now in
    let behind = c.split_at.result.1.now in
    let whole : rest ≡ part ++ behind = sym ((λ k. c.split_at.ensures.front k ++ c.split_at.ensures.back k) ∙ take-append-drop _ rest) in
    let size : 2 * length rest ≡ 2 * length part + 2 * length behind = omega (arith, ap (λ l. length l) whole, length-append part behind) in
    absurd (no_error (c.in_err-put_hex.ensures.succeeds (g.met.T.TextEnd.less c.loop-rest.text (2 * length part) (2 * length behind) (subst (λ n. end.has_room c.loop-rest.text n) size c.loop-rest.invariant.room))))

pub loop-rest-preserved : goal.loop-rest-preserved
loop-rest-preserved g c =
    let end = g.T.TextEnd in
    let rest = c.loop-rest.rest.now in
    let part = c.split_at.result.0.now in
    let behind = c.split_at.result.1.now in
    let whole : rest ≡ part ++ behind = sym ((λ k. c.split_at.ensures.front k ++ c.split_at.ensures.back k) ∙ take-append-drop _ rest) in
    let size : 2 * length rest ≡ 2 * length part + 2 * length behind = omega (arith, ap (λ l. length l) whole, length-append part behind) in
    record {
      text = part_more (end.told c.loop-rest.text) (end.told c.put_hex.new.self) _ part behind rest c.loop-rest.invariant.text whole c.in_ok-put_hex.ensures.told;
      room = c.in_ok-put_hex.ensures.left (2 * length behind) (subst (λ n. end.has_room c.loop-rest.text n) size c.loop-rest.invariant.room);
    }

pub returns-clause-items : goal.returns-clause-items
returns-clause-items g c =
    let none : length c.loop-rest.rest.now ≡ 0 = search rules in
    all_told (g.T.TextEnd.told c.loop-rest.text) _ c.loop-rest.rest.now none c.loop-rest.invariant.text
