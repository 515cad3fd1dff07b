-- What the options of a SYN and of our SYN,ACK agree on: what is taken from the one, and what the other announces
-- (RFC 9293, 3.7.1; window scale: RFC 7323, 2.2 and 2.3).
use Rattle.std.specs.Prelude.{ℕ, ◌≡◌, ◌⊎◌, min, max, false, is_some, Option, None, Some, if◌then◌else◌}
use Rattle.segment_codec.specs.Options.{no_options}
use Rattle.segment_codec.specs.declared.options.Options.{Options}
use Rattle.tcb_machine.specs.Limits.{default_mss, least_mss, most_mss, most_shift, our_shift, plain_space}
use Rattle.tcb_machine.specs.declared.agreed.Agreed.{Agreed}

-- before a SYN
abbrev pub nothing_agreed : Agreed
nothing_agreed = record { mss = default_mss; scaled = false; snd_shift = 0 }

-- SendMSS (RFC 9293, 3.7.1)
abbrev pub send_mss : Option ℕ → ℕ
send_mss None = default_mss
send_mss (Some n) = min most_mss (max least_mss n)

-- Snd.Wind.Shift (RFC 7323, 2.3)
abbrev pub send_shift : Option ℕ → ℕ
send_shift None = 0
send_shift (Some s) = min s most_shift

-- what is taken from the options of a SYN
abbrev pub taken_from : Options → Agreed
taken_from o = record { mss = send_mss o.mss; scaled = is_some o.scale; snd_shift = send_shift o.scale }

-- the options of the SYN,ACK
abbrev pub announced : Agreed → Options
announced a = record { mss = Some most_mss; scale = if a.scaled then Some our_shift else None }

-- the receive space of one that is asked for: without window scale as much as a window can say
abbrev pub space_of : Agreed → ℕ → ℕ
space_of a want = if a.scaled then want else min want plain_space

-- the options of what is sent: none, or those of a SYN,ACK
abbrev pub OurOptions : Options → Type 0
OurOptions o = (o ≡ no_options) ⊎ ((a : Agreed) × (o ≡ announced a))
