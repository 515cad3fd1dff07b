-- The word that names the ports, one part after another.
use Rattle.std.proofs.Common.{◌≡◌, ◌≢◌, ℕ, zero, suc, ◌-◌, arith, ap, refl}
use Rattle.std.specs.Prelude.{option_and_then}
use Rattle.std.specs.Option.{option_map_or}
use Rattle.live_server.specs.declared.ports.Ports.{Ports}
use Rattle.shell.specs.Table.{Text}
use Rattle.shell.specs.Parts.{split_at}
use Rattle.live_run.specs.PortWords.{port_named, ports_named}

pub last_named : (more : ℕ) (p : Ports) (text : Text) → more ≡ 0 → ports_named more p text ≡ port_named p text
unfolding ports_named
last_named zero p text e = refl
last_named (suc more) p text e = absurd (omega (arith, e))

pub next_named : (more : ℕ) (p : Ports) (text : Text) → more ≢ 0
    → ports_named more p text ≡ option_map_or (λ parts. option_and_then (λ q. ports_named (more - 1) q parts.1) (port_named p parts.0)) (split_at 44 text) (port_named p text)
unfolding ports_named
next_named zero p text some = absurd (some refl)
next_named (suc more) p text some =
    let less : more ≡ suc more - 1 = omega arith in
    ap (λ n. option_map_or (λ parts. option_and_then (λ q. ports_named n q parts.1) (port_named p parts.0)) (split_at 44 text) (port_named p text)) less
