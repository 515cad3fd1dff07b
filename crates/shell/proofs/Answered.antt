-- What clap's calls give, as the definition says it.
use Rattle.std.proofs.Common.{◌≡◌, ◌∙◌, Bool, true, false, ap, List, [], Option, Some, None, Bor, codes}
use Rattle.std.specs.Prelude.{option_map, unwrap_or}
use Rattle.shell.specs.Command.{flag_text}
use Rattle.shell.specs.Table.{Text}
use Rattle.shell.proofs.Calls.{now_of}

pub flag_is : (r b : Bool) (o : Option Text) → o ≡ Some (flag_text b) → (o ≡ Some (codes "true") → r ≡ true) → (o ≡ Some (codes "false") → r ≡ false) → r ≡ b
flag_is r true o e on off = on e
flag_is r false o e on off = off e

pub named_is : (o : Option (Bor (List (Bor Text)))) (d : Bor (List (Bor Text))) (want : Option (List Text)) → option_map (λ s. now_of s.now) o ≡ want → d.now ≡ [] → now_of (unwrap_or o d).now ≡ unwrap_or want []
named_is None d want e none = ap now_of none ∙ ap (λ (w : Option (List Text)). unwrap_or w []) e
named_is (Some s) d want e none = ap (λ (w : Option (List Text)). unwrap_or w []) e
